-- How far the search for least pairs has come.
use Rattle.std.specs.Prelude.{◌≡◌, ℕ, ◌+◌, ◌^◌, ◌<◌, ◌≤◌, ◌⊎◌, Option, Some, None, List, [], ◌∷◌, length, slice_get}
use Rattle.std.specs.List.{Contains}
use Rattle.abnf_cert.specs.declared.entry.Entry.{Entry}
use Rattle.abnf_cert.specs.declared.entry.Entry.TheVariants.{Nothing, Least}
use Rattle.abnf_parts.specs.Part.{Part, parts_of, root_number}
use Rattle.abnf_cert.specs.Accepted.{NotBefore, entry_at}
use Rattle.abnf_least.specs.declared.candidate.Candidate.{Candidate}
use Rattle.abnf_least.specs.own.Form.{Form, never, one_of, entry_given, part_form}
use Rattle.abnf_least.specs.Table.{InRange, IsUnchosen, IsUpTo, unsettled}

-- the form of part n, if there is one
abbrev pub form_or : (ℕ → ℕ) → ℕ → Option Part → Form
form_or root n None = never
form_or root n (Some p) = part_form root n p

-- the form of part n of a grammar
abbrev pub form_at : List Part → ℕ → Form
form_at trees n = form_or (root_number trees) n (slice_get (parts_of trees) n)

-- the number stands among these
abbrev pub Among : ℕ → List ℕ → Type 0
Among m [] = ⊥
Among m (n ∷ ns) = (m ≡ n) ⊎ Among m ns

-- What holds of the table: each settled entry has the pair that the settled ones give it,
-- and no part that isn't settled is given a pair before that of a settled one.
pub record Settled (form : ℕ → Form) (at : ℕ → Entry) : Type 0 where
  pub follows : (n l h c : ℕ) → at n ≡ Least l h c → (d : ℕ) × (entry_given at (form n) ≡ Least l h d)
  pub ordered : (n k l h c : ℕ) → at n ≡ Least l h c → at k ≡ Nothing → NotBefore l h (entry_given at (form k))

-- no other part is given a pair before this one
abbrev pub IsNextPart : (ℕ → Form) → (ℕ → Entry) → ℕ → ℕ → Type 0
IsNextPart form at l h = (k : ℕ) → at k ≡ Nothing → NotBefore l h (entry_given at (form k))

-- no part is given an entry any more
abbrev pub IsExhausted : (ℕ → Form) → (ℕ → Entry) → Type 0
IsExhausted form at = (k : ℕ) → at k ≡ Nothing → entry_given at (form k) ≡ Nothing

-- part n with this pair of a length and a height
abbrev pub candidate : ℕ → ℕ → ℕ → Candidate
candidate l h n = record { length = l; height = h; number = n }

-- each of these parts that isn't settled waits with the pair that it is given
abbrev pub OthersWait : (ℕ → Type 0) → (ℕ → Form) → (ℕ → Entry) → List Candidate → Type 0
OthersWait Apart form at queue = (k l h d : ℕ) → Apart k → at k ≡ Nothing → entry_given at (form k) ≡ Least l h d → Contains queue (candidate l h k)

-- each part that isn't settled waits with the pair that it is given
abbrev pub AllWait : (ℕ → Form) → (ℕ → Entry) → List Candidate → Type 0
AllWait form at queue = (k l h d : ℕ) → at k ≡ Nothing → entry_given at (form k) ≡ Least l h d → Contains queue (candidate l h k)

-- the candidate isn't settled, and has the pair that it is given
pub record HasGivenPair (form : ℕ → Form) (table : List Entry) (x : Candidate) : Type 0 where
  pub within : x.number < length table
  pub waits : entry_at table x.number ≡ Nothing
  pub choice : ℕ
  pub given : entry_given (entry_at table) (form x.number) ≡ Least x.length x.height choice

-- the candidate isn't settled and has the pair that it is given, no other part is given one before it, and all others wait
pub record IsFound (form : ℕ → Form) (table : List Entry) (x : Candidate) (queue : List Candidate) : Type 0 where
  pub is_given : HasGivenPair form table x
  pub first : IsNextPart form (entry_at table) x.length x.height
  pub others : OthersWait (λ k. k ≡ x.number → ⊥) form (entry_at table) queue

-- a part that depends on this one is offered the pair of it, where it is a choice, or else its value
abbrev pub offered : (ℕ → Entry) → Form → ℕ → Entry
offered at (one_of ns) part = at part
offered at f part = entry_given at f

-- the user waits with the pair that it is offered, unless it is settled
abbrev pub IsOffered : (ℕ → Form) → (ℕ → Entry) → ℕ → ℕ → List Candidate → Type 0
IsOffered form at part user queue = (l h d : ℕ) → at user ≡ Nothing → offered at (form user) part ≡ Least l h d → Contains queue (candidate l h user)

-- the part waits with the pair of this entry, if it has one
abbrev pub IsPushedPart : Entry → ℕ → List Candidate → Type 0
IsPushedPart e n queue = (l h d : ℕ) → e ≡ Least l h d → Contains queue (candidate l h n)

-- what waited waits still
abbrev pub Keeps : List Candidate → List Candidate → Type 0
Keeps old new = (y : Candidate) → Contains old y → Contains new y

-- the table and what waits, at a time between two parts
pub record IsSearchState (trees : List Part) (table : List Entry) (queue : List Candidate) : Type 0 where
  pub one_each : length table ≡ length (parts_of trees)
  pub small : length table < 2 ^ 63
  pub settled : Settled (form_at trees) (entry_at table)
  pub unchosen : (n : ℕ) → IsUnchosen (entry_at table n)
  pub lengths : (n : ℕ) → InRange (entry_at table n)
  pub height : ℕ
  pub heights : (n : ℕ) → IsUpTo height (entry_at table n)
  pub low : height + unsettled table ≤ length table
  pub waiting : AllWait (form_at trees) (entry_at table) queue

-- the certificate has the value of each part
pub record AreGiven (trees : List Part) (table cert : List Entry) : Type 0 where
  pub one_each : length cert ≡ length (parts_of trees)
  pub each : (n : ℕ) → entry_at cert n ≡ entry_given (entry_at table) (form_at trees n)
  pub lengths : (n : ℕ) → InRange (entry_at cert n)
