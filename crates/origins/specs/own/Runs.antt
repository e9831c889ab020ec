-- Characters that are held as a text, and as runs of them that stand in a row in the draft. No public contract cites this.
use Rattle.std.specs.Prelude.{ℕ, suc, ◌+◌, ◌-◌, ◌^◌, ◌<◌, ◌≤◌, nat_le, List, [], ◌∷◌, length, ◌≡◌, ◌≢◌, Option, MatchOption, if◌then◌else◌}
use Rattle.std.specs.Str.{chars}
use Rattle.std.specs.List.{AllByRecursion}
use Rattle.std.specs.List.Sorted.{IsNonDecreasingBy}
use Rattle.origins.specs.Origins.{Sourced, is_break}
use Rattle.origins.specs.declared.runs.Run.{Run}

-- the run of a character: the last one that begins at it or before it, in runs that are in order
unfoldable pub run_at : Run → List Run → ℕ → Run
run_at run [] k = run
run_at run (r ∷ rs) k = if nat_le r.begins k then run_at r rs k else run

-- where a character of a run begins in the draft
abbrev pub origin_by : Run → ℕ → ℕ
origin_by run k = run.origin + (k - run.begins)

-- what stands before any run: a run from the draft's start
abbrev pub first_run : Run
first_run = record { begins = 0; origin = 0 }

-- where the character k begins in the draft
abbrev pub origin_at : List Run → ℕ → ℕ
origin_at runs k = origin_by (run_at first_run runs k) k

-- the place of the first of so many characters that begins at an offset of the draft; each begins at its `offset_of`
pub record IsFirstPlace (offset_of : ℕ → ℕ) (origin count place : ℕ) : Type 0 where
  pub inside : place < count
  pub begins : offset_of place ≡ origin
  pub first : (k : ℕ) → k < place → offset_of k ≢ origin

-- what is found is that place, or none where none of them begins there
abbrev pub FindsPlace : (ℕ → ℕ) → ℕ → ℕ → Option ℕ → Type 0
FindsPlace offset_of origin count found =
    MatchOption found ((k : ℕ) → k < count → offset_of k ≢ origin) (λ place. IsFirstPlace offset_of origin count place)

-- what is found is a place from `low` on and before `end` whose character begins there, or none where no such one does
abbrev pub FindsWithin : (ℕ → ℕ) → ℕ → ℕ → ℕ → Option ℕ → Type 0
FindsWithin offset_of origin low end found =
    MatchOption found ((k : ℕ) → low ≤ k → k < end → offset_of k ≢ origin) (λ place. (low ≤ place) × (place < end) × (offset_of place ≡ origin))

-- characters, the first of which is number n, each with its place
unfoldable pub placed : (ℕ → ℕ) → ℕ → List ℕ → List Sourced
placed origin n [] = []
placed origin n (c ∷ cs) = (c, origin n) ∷ placed origin (suc n) cs

-- how many characters the first line has, with the LF or CR that ends it
unfoldable pub row_len : List ℕ → ℕ
row_len [] = 0
row_len (c ∷ cs) = if is_break c then 1 else suc (row_len cs)

-- the runs of so many characters: in order, and in a draft that has room in memory
pub record AreRuns (runs : List Run) (count : ℕ) : Type 0 where
  pub ordered : IsNonDecreasingBy (λ (r : Run). r.begins) runs
  pub within : AllByRecursion (λ (r : Run). r.begins ≤ count) runs
  pub small : AllByRecursion (λ (r : Run). r.origin < 2 ^ 63) runs

-- what is held of a text: its bytes, how many characters it has, and their runs
pub record AreHeldRuns (text : List ℕ) (count : ℕ) (held : List Run) : Type 0 where
  pub counted : count ≡ length (chars text)
  pub runs : AreRuns held count
