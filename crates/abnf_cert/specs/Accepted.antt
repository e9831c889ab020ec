-- The certificates that are accepted: each entry follows from those of the parts right below it.
use Rattle.std.specs.Prelude.{◌≡◌, ℕ, zero, suc, ◌+◌, ◌*◌, ◌<◌, ◌≤◌, ◌⊎◌, min, max, Option, Some, None, List, [], ◌∷◌, length, map, take, slice_get, slice_index_or}
use Rattle.std.specs.List.{AllByRecursion}
use Rattle.abnf_cert.specs.declared.entry.Entry.{Entry}
use Rattle.abnf_cert.specs.declared.entry.Entry.TheVariants.{Nothing, Least}
use Rattle.abnf_parts.specs.Part.{Part, quoted, series, span, seq, alt, rep, ref, opaque, parts_of, root_number, numbers}
use Rattle.abnf_parts.specs.Generates.{UpTo}

-- where lengths are cut off: the greatest number of 64 bits
abbrev pub top : ℕ
top = 18446744073709551615

-- a sum or a product of lengths, cut off at the top
abbrev pub cut : ℕ → ℕ
cut n = min n top

-- the entry of two parts in a row: the sum of the lengths and the greater height, or nothing where one is nothing
abbrev pub in_a_row : Entry → Entry → Entry
in_a_row Nothing e = Nothing
in_a_row (Least l h c) Nothing = Nothing
in_a_row (Least l h c) (Least m k d) = Least (cut (l + m)) (max h k) 0

-- the entry of parts in a row: the sum of the lengths and the greatest height, or nothing where one is nothing
abbrev pub all_in_a_row : List Entry → Entry
all_in_a_row [] = Least 0 0 0
all_in_a_row (e ∷ es) = in_a_row e (all_in_a_row es)

-- the entry of a part that stands so many times: so many times its length, with its height; length and height 0 where that is
-- no time, even of nothing
abbrev pub times : ℕ → Entry → Entry
times zero e = Least 0 0 0
times (suc n) Nothing = Nothing
times (suc n) (Least l h c) = Least (cut (suc n * l)) h 0

-- the entry of a reference to a rule whose root has this entry: its length, and its height and one more
abbrev pub referred : Entry → Entry
referred Nothing = Nothing
referred (Least l h c) = Least l (h + 1) 0

-- the entry has this length and this height
abbrev pub HasPair : ℕ → ℕ → Entry → Type 0
HasPair l h e = (c : ℕ) × (e ≡ Least l h c)

-- the least count is above the most, if there is a most
abbrev pub Exceeds : Option ℕ → ℕ → Type 0
Exceeds None n = ⊥
Exceeds (Some most) n = most < n

-- the entry's pair of length and height isn't before this one, the length compared first; nothing is before none
abbrev pub NotBefore : ℕ → ℕ → Entry → Type 0
NotBefore l h Nothing = Unit {0}
NotBefore l h (Least m k c) = (l < m) ⊎ ((l ≡ m) × (h ≤ k))

-- the entry's pair of length and height comes after this one, the length compared first; nothing comes after all
abbrev pub After : ℕ → ℕ → Entry → Type 0
After l h Nothing = Unit {0}
After l h (Least m k c) = (l < m) ⊎ ((l ≡ m) × (h < k))

-- the entry's length isn't below the top; nothing has none
abbrev pub Saturated : Entry → Type 0
Saturated Nothing = Unit {0}
Saturated (Least m k c) = m ≡ top

-- A part is below the top: no part has a pair before this one, and those before the chosen one have later pairs.
pub record IsFirstLeast (es : List Entry) (l h c : ℕ) : Type 0 where
  pub below : l < top
  pub least : AllByRecursion (NotBefore l h) es
  pub first : AllByRecursion (After l h) (take c es)

-- No part is below the top, and this is the top.
pub record IsSaturated (es : List Entry) (l : ℕ) : Type 0 where
  pub at_top : l ≡ top
  pub all : AllByRecursion Saturated es

-- The entry of a choice among parts with these entries: nothing where all are, else the pair of the chosen one, which is the
-- first with the least pair of a length and a height, or any at the top where none is below it.
abbrev pub IsChoice : List Entry → Entry → Type 0
IsChoice es Nothing = AllByRecursion (λ e. e ≡ Nothing) es
IsChoice es (Least l h c) =
    ((d : ℕ) × (slice_get es c ≡ Some (Least l h d))) × (IsFirstLeast es l h c ⊎ IsSaturated es l)

-- An entry follows from those of the parts right below its part n, where the entry of each part and the number of each rule's
-- root are known:
-- - A text has its length.
-- - Parts in a row have the sum of their lengths and the greatest height, and are nothing where one of them is.
-- - A choice has the least pair of a length and a height among its parts, and names the first that has it, counted from 0. It
--   is nothing only where all of them are.
-- - A repetition has the least count of its body.
-- - A reference has the length of the rule's root, its height and one more.
-- - A range with its low end above its high end, a repetition with its minimum above its maximum, what is opaque, and a
--   reference to nothing are nothing.
-- - Lengths are cut off at 18446744073709551615, the top. There a choice may name any part of that length and height.
abbrev pub EntryFits : (ℕ → Entry) → (ℕ → ℕ) → ℕ → Part → Entry → Type 0
EntryFits at root n (quoted text exact) e = e ≡ Least (length text) 0 0
EntryFits at root n (series characters) e = e ≡ Least (length characters) 0 0
EntryFits at root n (span low high) e = ((low ≤ high) × (e ≡ Least 1 0 0)) ⊎ ((high < low) × (e ≡ Nothing))
EntryFits at root n (seq ps) e = e ≡ all_in_a_row (map at (numbers (suc n) ps))
EntryFits at root n (alt ps) e = IsChoice (map at (numbers (suc n) ps)) e
EntryFits at root n (rep least most p) e =
    (UpTo most least × (e ≡ times least (at (suc n)))) ⊎ (Exceeds most least × (e ≡ Nothing))
EntryFits at root n (ref name None) e = e ≡ Nothing
EntryFits at root n (ref name (Some r)) e = e ≡ referred (at (root r))
EntryFits at root n opaque e = e ≡ Nothing

-- the entry of a part by its number, nothing behind the last
abbrev pub entry_at : List Entry → ℕ → Entry
entry_at cert n = slice_index_or cert n Nothing

-- A certificate is accepted: there is one entry for each part, and each fits.
pub record IsAccepted (roots : List Part) (cert : List Entry) : Type 0 where
  pub one_each : length cert ≡ length (parts_of roots)
  pub fits : (n : ℕ) (p : Part) → slice_get (parts_of roots) n ≡ Some p →
      EntryFits (entry_at cert) (root_number roots) n p (entry_at cert n)
