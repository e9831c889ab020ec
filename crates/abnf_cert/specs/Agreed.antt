-- How far two accepted certificates of one grammar agree.
use Rattle.std.specs.Prelude.{◌≡◌, ℕ, ◌⊎◌, List, length}
use Rattle.abnf_cert.specs.declared.entry.Entry.{Entry}
use Rattle.abnf_cert.specs.declared.entry.Entry.TheVariants.{Nothing, Least}
use Rattle.abnf_parts.specs.Part.{Part}
use Rattle.abnf_cert.specs.Accepted.{top, entry_at, IsAccepted}

-- the entry's length is the greatest of 64 bits
abbrev pub IsGreatest : Entry → Type 0
IsGreatest Nothing = ⊥
IsGreatest (Least l h c) = l ≡ top

-- the entries are equal, or both have the greatest length
abbrev pub Agree : Entry → Entry → Type 0
Agree e f = (e ≡ f) ⊎ (IsGreatest e × IsGreatest f)

-- two accepted certificates of a grammar have as many entries, and these agree one by one
abbrev pub AcceptedAgree : Type 0
AcceptedAgree =
    (roots : List Part) (cert other : List Entry) → IsAccepted roots cert → IsAccepted roots other →
    (length cert ≡ length other) × ((n : ℕ) → Agree (entry_at cert n) (entry_at other n))
