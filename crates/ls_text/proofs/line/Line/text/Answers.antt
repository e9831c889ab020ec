use Rattle.std.proofs.Common.{ap, sym, ◌∙◌}
use Rattle.std.specs.Str.{encode_utf8_all}
use Rattle.std.proofs.lemmas.Str.{encodes-chars}
use Rattle.ls_text.specs.Cut.{Row}
use Rattle.ls_text.proofs.line.Line.text.Goals as goal

pub returns-clause-bytes : goal.returns-clause-bytes
returns-clause-bytes c =
    sym (encodes-chars c.self.inside.text.now c.self.invariant.2) ∙ ap (λ (r : Row). encode_utf8_all r.text) c.self.view_is
