-- Laws of the places at which characters begin that stand in runs.
use Rattle.std.proofs.Common.{◌≡◌, ℕ, zero, suc, inl, inr, ◌+◌, ◌-◌, ◌<◌, ◌≤◌, Bool, true, false, leb, List, [], ◌∷◌, length, get_or, refl, sym, ap, ◌∙◌, arith}
use Rattle.std.specs.Prelude.{Option, Some, None, ◌==◌, ◌≢◌, ◌⊎◌, position}
use Rattle.std.specs.List.{position_or_len}
use Rattle.std.proofs.lemmas.Bool.{le-leb, lt-leb, ne_eqb, eq-eqb, cases_lt, cond_below, cond_above}
use Rattle.std.proofs.lemmas.List.{get_or_default}
use Rattle.std.proofs.lemmas.List.Sums.{position_or_len_is}
use Rattle.origins.specs.declared.runs.Run.{Run}
use Rattle.origins.specs.Origins.{Sourced}
use Rattle.origins.specs.own.Runs.{run_at, origin_by, origin_at, first_run, placed, AreRuns, IsFirstPlace, FindsPlace, FindsWithin}
use Rattle.origins.proofs.RunLaws.{run_at_split, length_placed}

-- ---- a run by its number, where number 0 is what stands before the first one

abbrev pub number : List Run → ℕ → Run
number rs i = get_or (first_run ∷ rs) i first_run

-- it is the run of the characters up to the next one
pub run_at_number : (rs : List Run) (count i k : ℕ) → AreRuns rs count → i ≤ length rs → (number rs i).begins ≤ k → (i < length rs → k < (get_or rs i first_run).begins) → run_at first_run rs k ≡ number rs i
run_at_number rs count i k h le low high = run_at_split first_run first_run rs k i le (before i le low, behind)
  where
    before : (n : ℕ) → n ≤ length rs → (number rs n).begins ≤ k → (j : ℕ) (d : Run) → 0 ≤ j → j < n → leb (get_or rs j d).begins k ≡ true
    before zero le low j d from lt = absurd (omega (arith, lt))
    before (suc n) le low j d from lt =
        let up : (get_or rs j d).begins ≤ (get_or rs n d).begins = h.ordered j n d (omega (arith, lt)) (omega (arith, le)) in
        let is : (get_or rs n d).begins ≡ (get_or rs n first_run).begins = ap (λ (r : Run). r.begins) (get_or_default rs n d first_run (omega (arith, le))) in
        le-leb (get_or rs j d).begins k (omega (arith, up, is, low))

    behind : (j : ℕ) (d : Run) → i ≤ j → j < length rs → leb (get_or rs j d).begins k ≡ false
    behind j d from lt =
        let up : (get_or rs i d).begins ≤ (get_or rs j d).begins = h.ordered i j d from lt in
        let is : (get_or rs i d).begins ≡ (get_or rs i first_run).begins = ap (λ (r : Run). r.begins) (get_or_default rs i d first_run (omega (arith, from, lt))) in
        lt-leb (get_or rs j d).begins k (omega (arith, up, is, high (omega (arith, from, lt))))

-- ---- places

-- what is found in a run, where no place before it has the offset, is the first one up to its end
pub place_here : (rs : List Run) (count origin i end : ℕ) (run : Run) (found : Option ℕ) → AreRuns rs count → i ≤ length rs → run ≡ number rs i → (i < length rs → end ≤ (get_or rs i first_run).begins) → ((k : ℕ) → k < run.begins → origin_at rs k ≢ origin) → FindsWithin (origin_by run) origin run.begins end found → FindsPlace (origin_at rs) origin end found
place_here rs count origin i end run found h le is next before = by_found found
  where
    same : (k : ℕ) → run.begins ≤ k → k < end → origin_at rs k ≡ origin_by run k
    same k low lt =
        let from : (number rs i).begins ≤ k = omega (arith, ap (λ (r : Run). r.begins) is, low) in
        ap (λ (r : Run). origin_by r k) (run_at_number rs count i k h le from (λ more. omega (arith, lt, next more)) ∙ sym is)

    by_found : (o : Option ℕ) → FindsWithin (origin_by run) origin run.begins end o → FindsPlace (origin_at rs) origin end o
    by_found None none = λ k lt there. by_order k lt there (cases_lt k run.begins)
      where
        by_order : (k : ℕ) → k < end → origin_at rs k ≡ origin → (k < run.begins) ⊎ (run.begins ≤ k) → ⊥
        by_order k lt there (inl less) = before k less there
        by_order k lt there (inr low) = none k low lt (sym (same k low lt) ∙ there)
    by_found (Some place) at = record {
      inside = at.1;
      begins = same place at.0 at.1 ∙ at.2;
      first = λ k lt there. by_order k lt there (cases_lt k run.begins);
    }
      where
        by_order : (k : ℕ) → k < place → origin_at rs k ≡ origin → (k < run.begins) ⊎ (run.begins ≤ k) → ⊥
        by_order k lt there (inl less) = before k less there
        by_order k lt there (inr low) =
            let one : run.origin + (k - run.begins) ≡ origin = sym (same k low (omega (arith, lt, at.1))) ∙ there in
            let other : run.origin + (place - run.begins) ≡ origin = at.2 in
            omega (arith, one, other, low, lt)

-- the first of so many is the first of more
pub place_more : (f : ℕ → ℕ) (origin count more place : ℕ) → count ≤ more → IsFirstPlace f origin count place → IsFirstPlace f origin more place
place_more f origin count more place le h = record { inside = omega (arith, h.inside, le); begins = h.begins; first = h.first }

-- ---- characters

offset_placed : (f : ℕ → ℕ) (n : ℕ) (cs : List ℕ) (k : ℕ) (d : Sourced) → k < length cs → (get_or (placed f n cs) k d).1 ≡ f (n + k)
unfolding placed
offset_placed f n [] k d lt = absurd (omega (arith, lt))
offset_placed f n (c ∷ cs) zero d lt = ap f (let e : n ≡ n + 0 = omega arith in e)
offset_placed f n (c ∷ cs) (suc k) d lt = offset_placed f (suc n) cs k d (omega (arith, lt)) ∙ ap f (let e : suc n + k ≡ n + suc k = omega arith in e)

-- the first place of an offset among characters with their places is the one that is found
pub position_here : (f : ℕ → ℕ) (cs : List ℕ) (origin : ℕ) (found : Option ℕ) → FindsPlace f origin (length cs) found → found ≡ position (λ (c : Sourced). c.1 == origin) (placed f 0 cs)
position_here f cs origin found = by_found found
  where
    test : Sourced → Bool
    test c = c.1 == origin

    count : length (placed f 0 cs) ≡ length cs
    count = length_placed f 0 cs

    offset : (k : ℕ) → k < length cs → (get_or (placed f 0 cs) k (0, 0)).1 ≡ f k
    offset k lt = offset_placed f 0 cs k (0, 0) lt ∙ ap f (let e : 0 + k ≡ k = omega arith in e)

    fails : (k : ℕ) → k < length cs → f k ≢ origin → test (get_or (placed f 0 cs) k (0, 0)) ≡ false
    fails k lt not_here = ne_eqb _ origin (λ there. not_here (sym (offset k lt) ∙ there))

    by_found : (o : Option ℕ) → FindsPlace f origin (length cs) o → o ≡ position (λ (c : Sourced). c.1 == origin) (placed f 0 cs)
    by_found None none =
        let is : position_or_len test (placed f 0 cs) ≡ length cs = position_or_len_is test (placed f 0 cs) (length cs) (0, 0) (omega (arith, count)) (λ k lt. fails k lt (none k lt)) (λ lt. absurd (omega (arith, lt, count))) in
        cond_above (position_or_len test (placed f 0 cs)) (length (placed f 0 cs)) (Some (position_or_len test (placed f 0 cs))) None None (omega (arith, is, count)) refl
    by_found (Some place) at =
        let is : position_or_len test (placed f 0 cs) ≡ place = position_or_len_is test (placed f 0 cs) place (0, 0) (omega (arith, count, at.inside)) (λ k lt. fails k (omega (arith, lt, at.inside)) (at.first k lt)) (λ lt. eq-eqb _ origin (offset place at.inside ∙ at.begins)) in
        ap Some (sym is) ∙ cond_below (position_or_len test (placed f 0 cs)) (length (placed f 0 cs)) (Some (position_or_len test (placed f 0 cs))) None (omega (arith, is, count, at.inside))
