-- The table of settled entries.
use Rattle.std.specs.Prelude.{◌≡◌, ℕ, suc, ◌≤◌, List, [], ◌∷◌}
use Rattle.abnf_cert.specs.declared.entry.Entry.{Entry}
use Rattle.abnf_cert.specs.declared.entry.Entry.TheVariants.{Nothing, Least}
use Rattle.abnf_cert.specs.Accepted.{entry_at, top}

-- the entry's height is at most b
abbrev pub IsUpTo : ℕ → Entry → Type 0
IsUpTo b Nothing = Unit {0}
IsUpTo b (Least l h c) = h ≤ b

-- how many parts aren't settled
abbrev pub unsettled : List Entry → ℕ
unsettled [] = 0
unsettled (Nothing ∷ table) = suc (unsettled table)
unsettled (Least l h c ∷ table) = unsettled table

-- no height of the table is the greatest number of 64 bits
abbrev pub HasRoomAbove : List Entry → Type 0
HasRoomAbove table = (n : ℕ) → IsUpTo 18446744073709551614 (entry_at table n)

-- the entry names no part as the choice
abbrev pub IsUnchosen : Entry → Type 0
IsUnchosen Nothing = Unit {0}
IsUnchosen (Least l h c) = c ≡ 0

-- no part is settled
abbrev pub NoneSettled : List Entry → Type 0
NoneSettled table = (n : ℕ) → entry_at table n ≡ Nothing

-- the entry's length isn't past the top
abbrev pub InRange : Entry → Type 0
InRange Nothing = Unit {0}
InRange (Least l h c) = l ≤ top
