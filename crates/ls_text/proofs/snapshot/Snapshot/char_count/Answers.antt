use Rattle.std.proofs.Common.{◌≤◌, ap, ◌∙◌, subst, length, List, ℕ}
use Rattle.std.specs.Prelude.{All}
use Rattle.std.specs.Char.{IsScalar}
use Rattle.std.specs.Str.{encode_utf8_all}
use Rattle.ls_text.proofs.snapshot.Snapshot.char_count.Goals as goal

pub returns-clause-count : goal.returns-clause-count
returns-clause-count c = c.char_count.ensures.count ∙ ap length c.self.view_is

pub returns-clause-scalars : goal.returns-clause-scalars
returns-clause-scalars c = subst (All IsScalar) c.self.view_is c.char_count.ensures.scalars

pub returns-clause-small : goal.returns-clause-small
returns-clause-small c = subst (λ (t : List ℕ). length (encode_utf8_all t) ≤ 4_194_304) c.self.view_is c.self.invariant.small
