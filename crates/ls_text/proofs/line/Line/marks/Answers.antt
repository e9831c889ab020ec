use Rattle.std.proofs.Common.{◌≡◌, List, ℕ, ap, sym, subst, ◌∙◌}
use Rattle.std.specs.Str.{encode_utf8_all}
use Rattle.std.proofs.lemmas.Str.{encodes-chars}
use Rattle.abnf_token.specs.Marks.{AreMarks}
use Rattle.ls_text.specs.Cut.{Row}
use Rattle.ls_text.proofs.line.Line.marks.Goals as goal

pub returns : goal.returns
returns c =
    let text_is : c.self.inside.text.now ≡ encode_utf8_all c.args.self.now.text = sym (encodes-chars c.self.inside.text.now c.self.invariant.2) ∙ ap (λ (r : Row). encode_utf8_all r.text) c.self.view_is in
    subst (λ (t : List ℕ). AreMarks t c.self.inside.marks.now) text_is c.self.invariant.1
