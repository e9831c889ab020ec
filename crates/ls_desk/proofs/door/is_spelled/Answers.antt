use Rattle.std.proofs.Common.{List, ℕ, ◌≡◌, subst}
use Rattle.std.specs.Str.{chars, encode_utf8_all}
use Rattle.std.proofs.lemmas.Str.{encodes-chars}
use Rattle.ls_desk.proofs.door.is_spelled.Goals as goal

pub returns : goal.returns
returns c = subst (λ (l : List ℕ). encode_utf8_all (chars l) ≡ l) c.as_str.ensures (encodes-chars c.as_str.result.now c.as_str.utf8)
