use Rattle.std.proofs.Common.{◌≡◌, ◌-◌, ap, ◌∙◌, ◌++◌, arith, take}
use Rattle.std.specs.Str.{chars}
use Rattle.std.proofs.lemmas.List.{take_all}
use Rattle.std.proofs.lemmas.Str.{chars-nil}
use Rattle.ls_text.specs.Cut.{text_of}
use Rattle.ls_text.proofs.snapshot.Snapshot.to_text.Goals as goal

pub returns : goal.returns
returns c =
    let all : take (c.len.result - 0) c.self.inside.lines ≡ c.self.inside.lines = take_all (c.len.result - 0) c.self.inside.lines (omega (arith, c.len.ensures)) in
    c.in_ok-push_text.ensures ∙ (λ i. (ap chars c.new-text.ensures.bytes ∙ chars-nil) i ++ text_of (all i)) ∙ c.self.view_is
