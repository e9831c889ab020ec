-- Where the next block begins, as what is kept of the blocks of a text before tells.
use Rattle.std.proofs.Common.{◌≡◌, ◌∙◌, ℕ, zero, suc, ◌+◌, ◌-◌, ◌<◌, ◌≤◌, ◌⊎◌, inl, inr, false, true, List, [], ◌∷◌, length, get_or, Option, Some, None, refl, sym, ap, subst, arith, ltb}
use Rattle.std.specs.Prelude.{min, slice_get, slice_index_or}
use Rattle.std.specs.List.Sorted.{IsPartitionPoint, IsPartitionedBy}
use Rattle.std.proofs.lemmas.Bool.{cases_lt, false≢true, le-ltb, lt-ltb}
use Rattle.abnf_token.specs.Classes.{Text}
use Rattle.abnf_syntax.specs.Blocks.{AreBlocks, IsNextBlock, base_indent, begins_at, begins_block}
use Rattle.abnf_syntax.proofs.BlockLaws.{none_both}
use Rattle.abnf_parts.specs.Names.{Name}
use Rattle.abnf_names.specs.Said.{Block}
use Rattle.findings_index.specs.declared.digest.BlockDigest.{BlockDigest}
use Rattle.findings_index.specs.declared.word.Word.{Word}
use Rattle.findings_index.specs.KeptBlocks.{AreEachKept}
use Rattle.incremental_findings.specs.declared.difference.Difference.{Difference}
use Rattle.incremental_findings.specs.own.Parts.{IsDifference}
use Rattle.incremental_findings.proofs.FollowedBlocks.{IsPoint, begins_early}
use Rattle.incremental_findings.proofs.KeptLists.{begin_behind}

-- ---- the first block from a line on

module _ (ls : List Text) (from : ℕ) where
  -- No block begins from the later of two lines on up to this one, or to the end.
  abbrev pub Told : ℕ → Option BlockDigest → Type 0
  Told start (Some k) = (from ≤ k.first) × ((n : ℕ) → start ≤ n → from ≤ n → n < k.first → begins_at ls n ≡ false) × (begins_at ls k.first ≡ true)
  Told start None = (n : ℕ) → start ≤ n → from ≤ n → n < length ls → begins_at ls n ≡ false

  told_from : (start end : ℕ) (o : Option BlockDigest) → ((n : ℕ) → from ≤ n → n < end → begins_at ls n ≡ false) → Told end o → Told start o
  told_from start end (Some k) none t =
      (t.0, (λ n a b c. elim (cases_lt n end) [ inl less ↦ none n b less | inr more ↦ t.1 n more b c ]), t.2)
  told_from start end None none t = λ n a b c. elim (cases_lt n end) [ inl less ↦ none n b less | inr more ↦ t n more b c ]

  point_rest : (k : BlockDigest) (ks : List BlockDigest) (place : ℕ) → IsPoint (begins_early from) (k ∷ ks) (suc place) → IsPoint (begins_early from) ks place
  point_rest k ks place h = record {
    within = omega (arith, h.within);
    low = λ n d less. h.low (suc n) d (omega (arith, less));
    high = λ n d more less. h.high (suc n) d (omega (arith, more)) (omega (arith, less));
  }

  early : (k : BlockDigest) → begins_early from k ≡ true → k.first < from
  early k e = elim (cases_lt k.first from) [ inl less ↦ less | inr more ↦ absurd (false≢true (sym (le-ltb _ _ more) ∙ e)) ]

  late : (k : BlockDigest) → begins_early from k ≡ false → from ≤ k.first
  late k e = elim (cases_lt k.first from) [ inl less ↦ absurd (false≢true (sym e ∙ lt-ltb _ _ less)) | inr more ↦ more ]

  pub told_at : (table : List Name) (words : List Word) (start : ℕ) (ks : List BlockDigest) (bs : List (ℕ × ℕ)) (xs : List Block) (place : ℕ) → AreBlocks ls start bs
      → AreEachKept table words ks bs xs → IsPoint (begins_early from) ks place → Told start (slice_get ks place)
  told_at table words start [] [] [] place h kept point = λ n a b c. h n a c
  told_at table words start [] [] (x ∷ xs) place h kept point = absurd kept
  told_at table words start [] (b ∷ bs) xs place h kept point = absurd kept
  told_at table words start (k ∷ ks) [] xs place h kept point = absurd kept
  told_at table words start (k ∷ ks) (b ∷ bs) [] place h kept point = absurd kept
  told_at table words start (k ∷ ks) (b ∷ bs) (x ∷ xs) zero h kept point = (
    late k (point.high 0 k (omega arith) (omega arith)),
    (λ n a b c. h.1 n a (omega (arith, c, kept.0.first))),
    subst (λ n. begins_at ls n ≡ true) (sym kept.0.first) h.2.begins,
  )
  told_at table words start (k ∷ ks) (b ∷ bs) (x ∷ xs) (suc place) h kept point =
      let before : k.first < from = early k (point.low 0 k (omega arith)) in
      told_from start b.1 (slice_get ks place) (λ n a c. h.2.rest n (omega (arith, before, kept.0.first, a)) c)
      (told_at table words b.1 ks bs xs place h.3 kept.1 (point_rest k ks place point))

  -- a search among blocks finds where they begin no earlier
  pub parted : (table : List Name) (words : List Word) (start : ℕ) (ks : List BlockDigest) (bs : List (ℕ × ℕ)) (xs : List Block) → AreBlocks ls start bs → AreEachKept table words ks bs xs
      → IsPartitionedBy (begins_early from) ks
  parted table words start [] bs xs h kept i j d le less e = absurd (omega (arith, less))
  parted table words start (k ∷ ks) [] xs h kept i j d le less e = absurd kept
  parted table words start (k ∷ ks) (b ∷ bs) [] h kept i j d le less e = absurd kept
  parted table words start (k ∷ ks) (b ∷ bs) (x ∷ xs) h kept zero zero d le less e = e
  parted table words start (k ∷ ks) (b ∷ bs) (x ∷ xs) h kept zero (suc j) d le less e =
      let later : b.1 ≤ (get_or ks j d).first = begin_behind table words ls b.1 b.1 ks bs xs (omega arith) h.3 kept.1 j d (omega (arith, less)) in
      lt-ltb _ _ (omega (arith, later, early (get_or ks j d) e, kept.0.first, h.2.some))
  parted table words start (k ∷ ks) (b ∷ bs) (x ∷ xs) h kept (suc i) zero d le less e = absurd (omega (arith, le))
  parted table words start (k ∷ ks) (b ∷ bs) (x ∷ xs) h kept (suc i) (suc j) d le less e =
      parted table words b.1 ks bs xs h.3 kept.1 i j d (omega (arith, le)) (omega (arith, less)) e

  pub told_by : (table : List Name) (words : List Word) (ks : List BlockDigest) (bs : List (ℕ × ℕ)) (xs : List Block) (place : ℕ) → AreBlocks ls 0 bs → AreEachKept table words ks bs xs
      → place ≤ length ks → (IsPartitionedBy (begins_early from) ks → IsPartitionPoint (λ y. begins_early from y ≡ true) (λ y. begins_early from y ≡ false) ks place)
      → Told 0 (slice_get ks place)
  told_by table words ks bs xs place h kept within tells =
      let point = tells (parted table words 0 ks bs xs h kept) in
      told_at table words 0 ks bs xs place h kept (record { within = within; low = λ k d less. point.0 k d (omega arith) less; high = point.1 })

  pub next_some : (to next : ℕ) (k : BlockDigest) → from ≤ to → next ≡ min k.first to → Told 0 (Some k) → IsNextBlock ls from to next
  next_some to next k order is t = record {
    reached = omega (arith, is, order, t.0);
    within = omega (arith, is);
    none = λ n a b. t.1 n (omega arith) a (omega (arith, b, is));
    begins = λ less. let at : next ≡ k.first = omega (arith, is, less) in subst (λ n. begins_at ls n ≡ true) (sym at) t.2;
  }

  pub next_none : (to : ℕ) → from ≤ to → (to ≤ length ls) ⊎ (from ≡ to) → Told 0 None → IsNextBlock ls from to to
  next_none to order within t = record {
    reached = order;
    within = omega arith;
    none = λ n a b. elim within [ inl up ↦ t n (omega arith) a (omega (arith, b, up)) | inr none ↦ absurd (omega (arith, none, a, b)) ];
    begins = λ less. absurd (omega (arith, less));
  }

-- ---- what is looked up

get_found : (ks : List BlockDigest) (place : ℕ) (k : BlockDigest) → place < length ks → k ≡ get_or ks place k → slice_get ks place ≡ Some k
get_found [] place k less e = absurd (omega (arith, less))
get_found (x ∷ ks) zero k less e = ap Some (sym e)
get_found (x ∷ ks) (suc place) k less e = get_found ks place k (omega (arith, less)) e

get_none : (ks : List BlockDigest) (place : ℕ) → length ks ≤ place → slice_get ks place ≡ None
get_none [] place more = refl
get_none (x ∷ ks) zero more = absurd (omega (arith, more))
get_none (x ∷ ks) (suc place) more = get_none ks place (omega (arith, more))

pub some_there : (ks : List BlockDigest) (place : ℕ) (k : BlockDigest) → true ≡ ltb place (length ks) → k ≡ get_or ks place k → slice_get ks place ≡ Some k
some_there ks place k t e =
    elim (cases_lt place (length ks)) [ inl less ↦ get_found ks place k less e | inr more ↦ absurd (false≢true (sym (le-ltb _ _ more) ∙ sym t)) ]

pub none_there : (ks : List BlockDigest) (place : ℕ) → false ≡ ltb place (length ks) → slice_get ks place ≡ None
none_there ks place f =
    elim (cases_lt place (length ks)) [ inl less ↦ absurd (false≢true (f ∙ lt-ltb _ _ less)) | inr more ↦ get_none ks place more ]

-- ---- where the other text has the same lines

module _ (ls others : List Text) (base : base_indent ls ≡ base_indent others) (part : Difference) (is : IsDifference ls others part) where
  begins_before : (n : ℕ) → n < part.front → begins_at ls n ≡ begins_at others n
  begins_before n less = (λ i. begins_block (base i) (is.front.same n less i))

  begins_behind : (x y : ℕ) → part.old ≤ x → x + part.new ≡ y + part.old → begins_at ls x ≡ begins_at others y
  begins_behind x y more e =
      let here : x ≡ part.old + (x - part.old) = omega (arith, more) in
      let beyond : part.new + (x - part.old) ≡ y = omega (arith, more, e) in
      let line : slice_index_or ls x [] ≡ slice_index_or others y [] =
      ap (λ n. slice_index_or ls n []) here ∙ (is.back.same (x - part.old) ∙ ap (λ n. slice_index_or others n []) beyond)
      in
      (λ i. begins_block (base i) (line i))

  pub next_before : (from to next : ℕ) → (to ≤ part.front) ⊎ (to ≡ from) → IsNextBlock ls from to next → IsNextBlock others from to next
  next_before from to next front h = record {
    reached = h.reached;
    within = h.within;
    none = λ n a b.
        elim front [
          | inl up ↦ sym (begins_before n (omega (arith, b, h.within, up))) ∙ h.none n a b
          | inr none ↦ absurd (omega (arith, none, a, b, h.within))
        ];
    begins = λ less.
        elim front [
          | inl up ↦ sym (begins_before next (omega (arith, less, up))) ∙ h.begins less
          | inr none ↦ absurd (omega (arith, none, less, h.reached))
        ];
  }

  pub next_moved : (from to next x y there : ℕ) → part.old ≤ from → from + part.new ≡ x + part.old → to + part.new ≡ y + part.old → next + part.new ≡ there + part.old
      → IsNextBlock ls from to next → IsNextBlock others x y there
  next_moved from to next x y there more e f g h = record {
    reached = omega (arith, e, g, h.reached);
    within = omega (arith, f, g, h.within);
    none = λ n a b.
        let at = (n - part.new) + part.old in
        sym (begins_behind at n (omega arith) (omega (arith, a, more, e))) ∙ h.none at (omega (arith, a, e, more)) (omega (arith, b, g, a, e, more));
    begins = λ less. sym (begins_behind next there (omega (arith, more, h.reached)) g) ∙ h.begins (omega (arith, less, f, g));
  }

-- ---- one range behind the other

pub next_early : (ls : List Text) (from mid to next : ℕ) → mid ≤ to → IsNextBlock ls from mid next → next < mid → IsNextBlock ls from to next
next_early ls from mid to next up h less = record { reached = h.reached; within = omega (arith, less, up); none = h.none; begins = λ before. h.begins less }

pub next_further : (ls : List Text) (from mid to none next : ℕ) → IsNextBlock ls from mid none → mid ≤ none → IsNextBlock ls mid to next → IsNextBlock ls from to next
next_further ls from mid to none next h more g = record {
  reached = omega (arith, h.reached, h.within, g.reached);
  within = g.within;
  none = none_both ls from mid next (λ n a b. h.none n a (omega (arith, b, more))) g.none;
  begins = g.begins;
}
