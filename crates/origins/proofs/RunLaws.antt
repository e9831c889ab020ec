-- Laws of runs, and of the characters that they place.
use Rattle.std.proofs.Common.{◌≡◌, ℕ, zero, suc, ◌+◌, ◌-◌, ◌<◌, ◌≤◌, ◌^◌, Bool, true, false, leb, List, [], ◌∷◌, ◌++◌, length, get_or, refl, sym, ap, subst, ◌∙◌, arith}
use Rattle.std.specs.Prelude.{Some, None, string_bytes}
use Rattle.std.specs.Option.{option_map}
use Rattle.std.specs.List.{slice_get}
use Rattle.std.specs.Char.{encode_utf8, IsScalar}
use Rattle.std.specs.Str.{chars, IsUtf8}
use Rattle.std.specs.declared.string.String.{String}
use Rattle.std.specs.declared.alloc.Global.{Global}
use Rattle.std.proofs.lemmas.Option.{slice_get_past}
use Rattle.std.proofs.lemmas.List.{append-nil}
use Rattle.std.proofs.lemmas.Str.{IsUtf8-string_bytes, IsUtf8-encode, chars-append, chars-nil, chars_past_char, encodes-chars, length-le-encodes}
use Rattle.std.specs.List.{AllByRecursion}
use Rattle.std.specs.List.Sorted.{IsPartitionPoint}
use Rattle.std.proofs.lemmas.Bool.{le-leb, lt-leb, leb-false, leb-true}
use Rattle.std.proofs.lemmas.List.Sorted.{IsNonDecreasingBy-push}
use Rattle.origins.specs.declared.runs.Run.{Run}
use Rattle.origins.specs.Origins.{Sourced, from, characters}
use Rattle.origins.specs.own.Runs.{run_at, origin_by, origin_at, first_run, placed, AreRuns}

-- ---- the run of a character

-- the last of the first i runs, where these begin at the character or before it, and the others behind it
pub run_at_split : (run d : Run) (rs : List Run) (k i : ℕ) → i ≤ length rs → IsPartitionPoint (λ (r : Run). leb r.begins k ≡ true) (λ (r : Run). leb r.begins k ≡ false) rs i → run_at run rs k ≡ get_or (run ∷ rs) i d
unfolding run_at
run_at_split run d [] k zero le h = refl
run_at_split run d [] k (suc i) le h = absurd (omega (arith, le))
run_at_split run d (r ∷ rs) k zero le h = rw (h.1 0 d (omega arith) (omega arith)) refl
run_at_split run d (r ∷ rs) k (suc i) le h =
    rw (h.0 0 d (omega arith) (omega arith)) (run_at_split r d rs k i (omega (arith, le)) (λ j e low high. h.0 (suc j) e (omega arith) (omega (arith, high)), λ j e low high. h.1 (suc j) e (omega (arith, low)) (omega (arith, high))))

-- the run of a character between two, where no run begins behind the first of them and not behind the other
pub run_at_between : (rs : List Run) (i low high k : ℕ) → i ≤ length rs → IsPartitionPoint (λ (r : Run). leb r.begins low ≡ true) (λ (r : Run). leb r.begins low ≡ false) rs i → IsPartitionPoint (λ (r : Run). leb r.begins high ≡ true) (λ (r : Run). leb r.begins high ≡ false) rs i → low ≤ k → k ≤ high → run_at first_run rs k ≡ get_or (first_run ∷ rs) i first_run
run_at_between rs i low high k le p q above below =
    run_at_split first_run first_run rs k i le (
      λ j d from to. le-leb (get_or rs j d).begins k (omega (arith, leb-true (get_or rs j d).begins low (p.0 j d from to), above)),
      λ j d from to. lt-leb (get_or rs j d).begins k (omega (arith, leb-false (get_or rs j d).begins high (q.1 j d from to), below)),
    )

-- the run of a character doesn't begin behind it
pub run_at_begins : (run : Run) (rs : List Run) (k : ℕ) → run.begins ≤ k → (run_at run rs k).begins ≤ k
unfolding run_at
run_at_begins run [] k le = le
run_at_begins run (r ∷ rs) k le = by_test (leb r.begins k) refl (run_at_begins r rs k)
  where
    by_test : (b : Bool) → leb r.begins k ≡ b → (r.begins ≤ k → (run_at r rs k).begins ≤ k) → (run_at run (r ∷ rs) k).begins ≤ k
    by_test true e more = rw e (more (leb-true r.begins k e))
    by_test false e more = rw e le

-- runs that all begin at a character or before it
pub run_at_last : (run d : Run) (rs : List Run) (count k : ℕ) → AllByRecursion (λ (r : Run). r.begins ≤ count) rs → count ≤ k → run_at run rs k ≡ get_or (run ∷ rs) (length rs) d
unfolding run_at
run_at_last run d [] count k h le = refl
run_at_last run d (r ∷ rs) count k h le = rw (le-leb r.begins k (omega (arith, h.0, le))) (run_at_last r d rs count k h.1 le)

-- one run more changes nothing before it
pub run_at_push_before : (run : Run) (rs : List Run) (r : Run) (k : ℕ) → k < r.begins → run_at run (rs ++ r ∷ []) k ≡ run_at run rs k
unfolding run_at
run_at_push_before run [] r k lt = rw (lt-leb r.begins k lt) refl
run_at_push_before run (s ∷ rs) r k lt = by_test (leb s.begins k) refl (run_at_push_before s rs r k lt)
  where
    by_test : (b : Bool) → leb s.begins k ≡ b → run_at s (rs ++ r ∷ []) k ≡ run_at s rs k → run_at run (s ∷ rs ++ r ∷ []) k ≡ run_at run (s ∷ rs) k
    by_test true e more = rw e more
    by_test false e more = rw e refl

-- and it is the run of what comes behind
pub run_at_push : (run : Run) (rs : List Run) (r : Run) (count k : ℕ) → AllByRecursion (λ (s : Run). s.begins ≤ count) rs → count ≤ k → r.begins ≤ k → run_at run (rs ++ r ∷ []) k ≡ r
unfolding run_at
run_at_push run [] r count k h le lt = rw (le-leb r.begins k lt) refl
run_at_push run (s ∷ rs) r count k h le lt = rw (le-leb s.begins k (omega (arith, h.0, le))) (run_at_push s rs r count k h.1 le lt)

-- a step along the runs
pub run_at_none : (run : Run) (rs : List Run) (k : ℕ) → length rs ≡ 0 → run_at run rs k ≡ run
unfolding run_at
run_at_none run [] k e = refl
run_at_none run (r ∷ rs) k e = absurd (omega (arith, e))

pub run_at_stops : (run r : Run) (rs ss : List Run) (k : ℕ) → rs ≡ r ∷ ss → k < r.begins → run_at run rs k ≡ run
unfolding run_at
run_at_stops run r rs ss k is lt = ap (λ ts. run_at run ts k) is ∙ rw (lt-leb r.begins k lt) refl

pub run_at_goes : (run r : Run) (rs ss : List Run) (k : ℕ) → rs ≡ r ∷ ss → r.begins ≤ k → run_at r ss k ≡ run_at run rs k
unfolding run_at
run_at_goes run r rs ss k is le = sym (ap (λ ts. run_at run ts k) is ∙ rw (le-leb r.begins k le) refl)

-- ---- runs

pub all_push : (P : Run → Type 0) (rs : List Run) (r : Run) → AllByRecursion P rs → P r → AllByRecursion P (rs ++ r ∷ [])
all_push P [] r h p = (p, tt)
all_push P (s ∷ rs) r h p = (h.0, all_push P rs r h.1 p)

pub all_at : (P : Run → Type 0) (rs : List Run) (run : Run) (k : ℕ) → P run → AllByRecursion P rs → P (run_at run rs k)
unfolding run_at
all_at P [] run k p h = p
all_at P (r ∷ rs) run k p h = by_test (leb r.begins k) refl (all_at P rs r k h.0 h.1)
  where
    by_test : (b : Bool) → leb r.begins k ≡ b → P (run_at r rs k) → P (run_at run (r ∷ rs) k)
    by_test true e more = rw e more
    by_test false e more = rw e p

all_below : (m n : ℕ) (rs : List Run) → m ≤ n → AllByRecursion (λ (r : Run). r.begins ≤ m) rs → AllByRecursion (λ (r : Run). r.begins ≤ n) rs
all_below m n [] le h = tt
all_below m n (r ∷ rs) le h = (omega (arith, h.0, le), all_below m n rs le h.1)

-- runs of so many characters are runs of more
pub runs_more : (rs : List Run) (m n : ℕ) → m ≤ n → AreRuns rs m → AreRuns rs n
runs_more rs m n le h = record { ordered = h.ordered; within = all_below m n rs le h.within; small = h.small }

pub last_within : (rs : List Run) (count i : ℕ) (d : Run) → AllByRecursion (λ (r : Run). r.begins ≤ count) rs → i < length rs → (get_or rs i d).begins ≤ count
last_within [] count i d h lt = absurd (omega (arith, lt))
last_within (r ∷ rs) count zero d h lt = h.0
last_within (r ∷ rs) count (suc i) d h lt = last_within rs count i d h.1 (omega (arith, lt))

pub runs_push : (rs : List Run) (r : Run) → r.origin < 2 ^ 63 → AreRuns rs r.begins → AreRuns (rs ++ r ∷ []) r.begins
runs_push rs r lt h = record {
  ordered = IsNonDecreasingBy-push (λ (s : Run). s.begins) rs r h.ordered (λ d some. last_within rs r.begins (length rs - 1) d h.within (omega (arith, some)));
  within = all_push (λ (s : Run). s.begins ≤ r.begins) rs r h.within (omega arith);
  small = all_push (λ (s : Run). s.origin < 2 ^ 63) rs r h.small lt;
}

-- ---- places

-- the last run goes on at what comes behind, where its next place is this one
pub origin_at_goes_on : (rs : List Run) (last : Run) (count at k : ℕ) → AreRuns rs count → last ≡ get_or (first_run ∷ rs) (length rs) first_run → origin_by last count ≡ at → origin_at rs (count + k) ≡ at + k
origin_at_goes_on rs last count at k h is place =
    let same : run_at first_run rs (count + k) ≡ last = run_at_last first_run first_run rs count (count + k) h.within (omega arith) ∙ sym is in
    let now : run_at first_run rs count ≡ last = run_at_last first_run first_run rs count count h.within (omega arith) ∙ sym is in
    let low : last.begins ≤ count = subst (λ (r : Run). r.begins ≤ count) now (run_at_begins first_run rs count (omega arith)) in
    ap (λ (r : Run). origin_by r (count + k)) same ∙ (let e : last.origin + (count + k - last.begins) ≡ at + k = omega (arith, low, place) in e)

pub origin_at_push_before : (rs : List Run) (r : Run) (k : ℕ) → k < r.begins → origin_at (rs ++ r ∷ []) k ≡ origin_at rs k
origin_at_push_before rs r k lt = ap (λ (s : Run). origin_by s k) (run_at_push_before first_run rs r k lt)

pub origin_at_push : (rs : List Run) (r : Run) (k : ℕ) → AreRuns rs r.begins → origin_at (rs ++ r ∷ []) (r.begins + k) ≡ r.origin + k
origin_at_push rs r k h =
    ap (λ (s : Run). origin_by s (r.begins + k)) (run_at_push first_run rs r r.begins (r.begins + k) h.within (omega arith) (omega arith))
    ∙ (let e : r.origin + (r.begins + k - r.begins) ≡ r.origin + k = omega arith in e)

-- a place in memory
pub origin_small : (rs : List Run) (k : ℕ) → AllByRecursion (λ (r : Run). r.origin < 2 ^ 63) rs → k < 2 ^ 63 → origin_at rs k < 2 ^ 64
origin_small rs k h lt =
    let low : (run_at first_run rs k).origin < 2 ^ 63 = all_at (λ (r : Run). r.origin < 2 ^ 63) rs first_run k (omega arith) h in
    omega (arith, low, lt)

pub origin_fits : (rs : List Run) (count k : ℕ) → AreRuns rs count → k < 2 ^ 63 → origin_at rs k < 2 ^ 64
origin_fits rs count k h lt = origin_small rs k h.small lt

-- ---- characters with their places

pub placed_append : (f : ℕ → ℕ) (n : ℕ) (cs ds : List ℕ) → placed f n (cs ++ ds) ≡ placed f n cs ++ placed f (n + length cs) ds
unfolding placed
placed_append f n [] ds = ap (λ m. placed f m ds) (let e : n ≡ n + 0 = omega arith in e)
placed_append f n (c ∷ cs) ds = ap (λ ps. (c, f n) ∷ ps) (placed_append f (suc n) cs ds ∙ ap (λ m. placed f (suc n) cs ++ placed f m ds) (let e : suc n + length cs ≡ n + suc (length cs) = omega arith in e))

pub placed_same : (f g : ℕ → ℕ) (n : ℕ) (cs : List ℕ) → ((k : ℕ) → k < n + length cs → f k ≡ g k) → placed f n cs ≡ placed g n cs
unfolding placed
placed_same f g n [] h = refl
placed_same f g n (c ∷ cs) h = rw (h n (omega arith), placed_same f g (suc n) cs (λ k lt. h k (omega (arith, lt)))) refl

pub placed_row : (f : ℕ → ℕ) (n at : ℕ) (cs : List ℕ) → ((k : ℕ) → f (n + k) ≡ at + k) → placed f n cs ≡ from at cs
unfolding placed
placed_row f n at [] h = refl
placed_row f n at (c ∷ cs) h =
    rw (ap f (let e : n ≡ n + 0 = omega arith in e) ∙ h 0 ∙ (let e : at + 0 ≡ at = omega arith in e), placed_row f (suc n) (suc at) cs (λ k. ap f (let e : suc n + k ≡ n + suc k = omega arith in e) ∙ h (suc k) ∙ (let e : at + suc k ≡ suc at + k = omega arith in e))) refl

pub placed_characters : (f : ℕ → ℕ) (n : ℕ) (cs : List ℕ) → characters (placed f n cs) ≡ cs
unfolding placed
placed_characters f n [] = refl
placed_characters f n (c ∷ cs) = ap (λ ds. c ∷ ds) (placed_characters f (suc n) cs)

-- more characters behind those at hand, which stand in a row from an offset on
pub placed_more : (rs ss : List Run) (cs ds : List ℕ) (count at : ℕ) → count ≡ length cs → ((k : ℕ) → k < count → origin_at ss k ≡ origin_at rs k) → ((k : ℕ) → origin_at ss (count + k) ≡ at + k) → placed (origin_at ss) 0 (cs ++ ds) ≡ placed (origin_at rs) 0 cs ++ from at ds
placed_more rs ss cs ds count at is before behind =
    placed_append (origin_at ss) 0 cs ds
    ∙ ap (λ m. placed (origin_at ss) 0 cs ++ placed (origin_at ss) m ds) (let e : 0 + length cs ≡ count = omega (arith, is) in e)
    ∙ ap (λ ps. ps ++ placed (origin_at ss) count ds) (placed_same (origin_at ss) (origin_at rs) 0 cs (λ k lt. before k (omega (arith, lt, is))))
    ∙ ap (λ ps. placed (origin_at rs) 0 cs ++ ps) (placed_row (origin_at ss) count at ds behind)

pub placed_at : (f : ℕ → ℕ) (n : ℕ) (cs : List ℕ) (k : ℕ) → k < length cs → option_map (λ (c : Sourced). c.1) (slice_get (placed f n cs) k) ≡ Some (f (n + k))
unfolding placed
placed_at f n [] k lt = absurd (omega (arith, lt))
placed_at f n (c ∷ cs) zero lt = ap (λ m. Some (f m)) (let e : n ≡ n + 0 = omega arith in e)
placed_at f n (c ∷ cs) (suc k) lt = placed_at f (suc n) cs k (omega (arith, lt)) ∙ ap (λ m. Some (f m)) (let e : suc n + k ≡ n + suc k = omega arith in e)

pub placed_at_start : (f : ℕ → ℕ) (cs : List ℕ) (k : ℕ) → k < length cs → option_map (λ (c : Sourced). c.1) (slice_get (placed f 0 cs) k) ≡ Some (f k)
placed_at_start f cs k lt = placed_at f 0 cs k lt ∙ ap (λ m. Some (f m)) (let e : 0 + k ≡ k = omega arith in e)

pub length_placed : (f : ℕ → ℕ) (n : ℕ) (cs : List ℕ) → length (placed f n cs) ≡ length cs
unfolding placed
length_placed f n [] = refl
length_placed f n (c ∷ cs) = ap suc (length_placed f (suc n) cs)

pub placed_past : (f : ℕ → ℕ) (n : ℕ) (cs : List ℕ) (k : ℕ) → length cs ≤ k → option_map (λ (c : Sourced). c.1) (slice_get (placed f n cs) k) ≡ None
placed_past f n cs k le = ap (option_map (λ (c : Sourced). c.1)) (slice_get_past (placed f n cs) k (omega (arith, le, length_placed f n cs)))

-- a text has no more characters than bytes
pub chars_le : (bs : List ℕ) → IsUtf8 bs → length (chars bs) ≤ length bs
chars_le bs u = omega (arith, ap length (encodes-chars bs u), length-le-encodes (chars bs))

pub string_small : (s : String Global) → length (chars (string_bytes s)) < 2 ^ 63
string_small s = omega (arith, s.bytes.ok.0, s.bytes.ok.1, s.bytes.small, chars_le (string_bytes s) (IsUtf8-string_bytes s))

pub chars_put : (bs : List ℕ) (c : ℕ) → IsUtf8 bs → IsScalar c → chars (bs ++ encode_utf8 c) ≡ chars bs ++ c ∷ []
chars_put bs c u scalar = chars-append bs (encode_utf8 c) u ∙ ap (λ cs. chars bs ++ cs) (one (encode_utf8 c) (IsUtf8-encode c scalar) refl)
  where
    one : (ds : List ℕ) → IsUtf8 ds → ds ≡ encode_utf8 c → chars ds ≡ c ∷ []
    one ds v e = chars_past_char ds [] c v (e ∙ sym (append-nil (encode_utf8 c))) ∙ ap (λ cs. c ∷ cs) chars-nil

pub no_runs : AreRuns [] 0
no_runs = record { ordered = λ i j d le lt. absurd (omega (arith, lt)); within = tt; small = tt }
