-- Each grammar whose texts aren't too long to be counted has an accepted certificate: part after part is settled, of those that are
-- given a pair always one with the least.
use Rattle.std.proofs.Common.{◌≡◌, ℕ, zero, suc, ◌+◌, ◌<◌, ◌≤◌, ◌⊎◌, inl, inr, ⊎_elim, List, [], ◌∷◌, length, Option, Some, None, refl, sym, ap, ◌∙◌, subst, arith, map, set, get_or-set_same, get_or-set_other, ltb}
use Rattle.std.specs.Prelude.{slice_get, replicate}
use Rattle.std.proofs.lemmas.List.{length-set, length-replicate}
use Rattle.std.proofs.lemmas.Bool.{cases_lt, cases_eq, cond_both}
use Rattle.abnf_cert.specs.declared.entry.Entry.{Entry}
use Rattle.abnf_cert.specs.declared.entry.Entry.TheVariants.{Nothing, Least}
use Rattle.abnf_parts.specs.Part.{Part, quoted, series, span, seq, alt, rep, ref, opaque, parts_of, root_number}
use Rattle.abnf_cert.specs.Accepted.{NotBefore, top, times, referred, entry_at, IsAccepted}
use Rattle.abnf_least.specs.own.Form.{Form, text, never, row, one_of, repeated, refers, entry_given, better, first_least, is_before, part_form, repetition_form}
use Rattle.abnf_least.specs.Table.{InRange, unsettled}
use Rattle.abnf_least.specs.own.Search.{Settled, IsNextPart, IsExhausted, form_or, form_at}
use Rattle.abnf_least.proofs.Choice.{earlier}
use Rattle.abnf_least.proofs.Settle.{nothing_least, not_before_nothing, some_least, row_range, none_settled, settled_more}
use Rattle.abnf_least.proofs.Height.{settle_one, unsettled_up}
use Rattle.abnf_least.proofs.SearchStep.{none_at}
use Rattle.abnf_least.proofs.At.{past_form}
use Rattle.abnf_least.proofs.Accept.{accepted}

-- a text has no more characters than numbers of 64 bits count
abbrev pub IsShort : Part → Type 0
IsShort (quoted t exact) = length t ≤ top
IsShort (series characters) = length characters ≤ top
IsShort _ = Unit {0}

abbrev pub AreShort : List Part → Type 0
AreShort trees = (n : ℕ) (p : Part) → slice_get (parts_of trees) n ≡ Some p → IsShort p

-- ---- the lengths that are given are at most the top

abbrev IsShortForm : Form → Type 0
IsShortForm (text n) = n ≤ top
IsShortForm _ = Unit {0}

short_repetition : (least n : ℕ) → IsShortForm (repetition_form least n)
short_repetition zero n = omega arith
short_repetition (suc more) n = tt

short_form : (root : ℕ → ℕ) (n : ℕ) (p : Part) → IsShort p → IsShortForm (part_form root n p)
short_form root n (quoted t exact) h = h
short_form root n (series characters) h = h
short_form root n (span low high) h = cond_both (ltb high low) never (text 1) IsShortForm (λ t. tt) (λ f. omega arith)
short_form root n (seq ps) h = tt
short_form root n (alt ps) h = tt
short_form root n (rep least None p) h = short_repetition least (suc n)
short_form root n (rep least (Some most) p) h =
    cond_both (ltb most least) never (repetition_form least (suc n)) IsShortForm (λ t. tt) (λ f. short_repetition least (suc n))
short_form root n (ref name None) h = tt
short_form root n (ref name (Some r)) h = tt
short_form root n opaque h = tt

short_or : (root : ℕ → ℕ) (n : ℕ) (o : Option Part) → ((p : Part) → o ≡ Some p → IsShort p) → IsShortForm (form_or root n o)
short_or root n None h = tt
short_or root n (Some p) h = short_form root n p (h p refl)

better_range : (i : ℕ) (e x : Entry) → InRange e → InRange x → InRange (better i e x)
better_range i Nothing x r s = s
better_range i (Least l h c) Nothing r s = r
better_range i (Least l h c) (Least m k d) r s = cond_both (is_before m k l h) (Least m k d) (Least l h i) InRange (λ t. s) (λ f. r)

times_range : (more : ℕ) (e : Entry) → InRange (times (suc more) e)
times_range more Nothing = tt
times_range more (Least l h c) = omega arith

referred_range : (e : Entry) → InRange e → InRange (referred e)
referred_range Nothing r = tt
referred_range (Least l h c) r = r

module _ (at : ℕ → Entry) (range : (n : ℕ) → InRange (at n)) where
  first_range : (i : ℕ) (ns : List ℕ) → InRange (first_least i (map at ns))
  first_range i [] = tt
  first_range i (n ∷ ns) = better_range i (at n) (first_least (suc i) (map at ns)) (range n) (first_range (suc i) ns)

  given_range : (f : Form) → IsShortForm f → InRange (entry_given at f)
  given_range (text n) h = h
  given_range never h = tt
  given_range (row ns) h = row_range (map at ns)
  given_range (one_of ns) h = first_range 0 ns
  given_range (repeated more n) h = times_range more (at n)
  given_range (refers n) h = referred_range (at n) (range n)

-- ---- of the parts below a number that aren't settled, one that is given the least pair

order : (l h m k : ℕ) → ((l < m) ⊎ ((l ≡ m) × (h ≤ k))) ⊎ ((m < l) ⊎ ((m ≡ l) × (k ≤ h)))
order l h m k =
    ⊎_elim
    (λ a. inl (inl a))
    (λ a. ⊎_elim
    (λ b. inr (inl b))
    (λ b. ⊎_elim (λ c. inl (inr (omega (arith, a, b), omega (arith, c)))) (λ c. inr (inr (omega (arith, a, b), c))) (cases_lt h k))
    (cases_lt m l))
    (cases_lt l m)

pub below_more : (P : ℕ → Type 0) (n : ℕ) → ((k : ℕ) → k < n → P k) → P n → (k : ℕ) → k < suc n → P k
below_more P n all here k less = ⊎_elim (λ before. all k before) (λ last. let e : n ≡ k = omega (arith, less, last) in subst P e here) (cases_lt k n)

module _ (form : ℕ → Form) (at : ℕ → Entry) where
  abbrev NoneGiven : ℕ → Type 0
  NoneGiven n = (k : ℕ) → k < n → at k ≡ Nothing → entry_given at (form k) ≡ Nothing

  -- none of them is given a pair before this one
  abbrev AllLater : ℕ → ℕ → ℕ → Type 0
  AllLater l h n = (k : ℕ) → k < n → at k ≡ Nothing → NotBefore l h (entry_given at (form k))

  record First (n : ℕ) : Type 0 where
    number : ℕ
    within : number < n
    waits : at number ≡ Nothing
    size : ℕ
    height : ℕ
    choice : ℕ
    given : entry_given at (form number) ≡ Least size height choice
    later : AllLater size height n

  first_kept : (n : ℕ) (f : First n) → (at n ≡ Nothing → NotBefore f.size f.height (entry_given at (form n))) → First (suc n)
  first_kept n f here = record {
    number = f.number;
    within = omega (arith, f.within);
    waits = f.waits;
    size = f.size;
    height = f.height;
    choice = f.choice;
    given = f.given;
    later = below_more (λ k. at k ≡ Nothing → NotBefore f.size f.height (entry_given at (form k))) n f.later here;
  }

  first_here : (n l h c : ℕ) → at n ≡ Nothing → entry_given at (form n) ≡ Least l h c → AllLater l h n → First (suc n)
  first_here n l h c waits is all = record {
    number = n;
    within = omega arith;
    waits = waits;
    size = l;
    height = h;
    choice = c;
    given = is;
    later = below_more (λ k. at k ≡ Nothing → NotBefore l h (entry_given at (form k))) n all (λ w. subst (λ e. NotBefore l h e) (sym is) (inr (refl, omega arith)));
  }

  first_more : (n : ℕ) → at n ≡ Nothing → (f : First n) (l h c : ℕ) → entry_given at (form n) ≡ Least l h c → First (suc n)
  first_more n waits f l h c is =
      ⊎_elim
      (λ kept. first_kept n f (λ w. subst (λ e. NotBefore f.size f.height e) (sym is) kept))
      (λ here. first_here n l h c waits is (λ k less w. earlier l h f.size f.height (entry_given at (form k)) here (f.later k less w)))
      (order f.size f.height l h)

  first_by : (n : ℕ) → NoneGiven n ⊎ First n → (at n ≡ Nothing) ⊎ ((l : ℕ) × (h : ℕ) × (c : ℕ) × (at n ≡ Least l h c))
      → (entry_given at (form n) ≡ Nothing) ⊎ ((l : ℕ) × (h : ℕ) × (c : ℕ) × (entry_given at (form n) ≡ Least l h c)) → NoneGiven (suc n) ⊎ First (suc n)
  first_by n (inl none) (inr s) g =
      inl (below_more (λ k. at k ≡ Nothing → entry_given at (form k) ≡ Nothing) n none (λ w. absurd (nothing_least s.0 s.1 s.2 (sym w ∙ s.3))))
  first_by n (inr f) (inr s) g = inr (first_kept n f (λ w. absurd (nothing_least s.0 s.1 s.2 (sym w ∙ s.3))))
  first_by n (inl none) (inl waits) (inl nothing) = inl (below_more (λ k. at k ≡ Nothing → entry_given at (form k) ≡ Nothing) n none (λ w. nothing))
  first_by n (inr f) (inl waits) (inl nothing) = inr (first_kept n f (λ w. not_before_nothing f.size f.height (entry_given at (form n)) nothing))
  first_by n (inl none) (inl waits) (inr g) =
      inr (first_here n g.0 g.1 g.2 waits g.3 (λ k less w. not_before_nothing g.0 g.1 (entry_given at (form k)) (none k less w)))
  first_by n (inr f) (inl waits) (inr g) = inr (first_more n waits f g.0 g.1 g.2 g.3)

  first_below : (n : ℕ) → NoneGiven n ⊎ First n
  first_below zero = inl (λ k less. absurd (omega (arith, less)))
  first_below (suc n) = first_by n (first_below n) (some_least (at n)) (some_least (entry_given at (form n)))

-- ---- part after part is settled

record IsPartly (trees : List Part) (table : List Entry) : Type 0 where
  one_each : length table ≡ length (parts_of trees)
  settled : Settled (form_at trees) (entry_at table)
  lengths : (n : ℕ) → InRange (entry_at table n)

module _ (trees : List Part) (short : AreShort trees) where
  past : (table : List Entry) → IsPartly trees table → (k : ℕ) → length table ≤ k → entry_given (entry_at table) (form_at trees k) ≡ Nothing
  past table s k beyond = let one = s.one_each in ap (entry_given (entry_at table)) (past_form trees k (omega (arith, beyond, one)))

  -- so long as one is given a pair
  settle_first : (table : List Entry) (s : IsPartly trees table) (f : First (form_at trees) (entry_at table) (length table)) → IsPartly trees (set table f.number (Least f.size f.height 0))
  settle_first table s f =
      let at = entry_at table in
      let e = Least f.size f.height 0 in
      let after = entry_at (set table f.number e) in
      let is : after f.number ≡ e = get_or-set_same table f.number e Nothing f.within in
      let others : (n : ℕ) → (n ≡ f.number → ⊥) → after n ≡ at n = λ n ne. get_or-set_other table f.number n e Nothing ne in
      let range : f.size ≤ top = subst InRange f.given (given_range at s.lengths (form_at trees f.number) (short_or (root_number trees) f.number (slice_get (parts_of trees) f.number) (short f.number))) in
      let next : IsNextPart (form_at trees) at f.size f.height =
      λ k waits. ⊎_elim (λ less. f.later k less waits) (λ beyond. not_before_nothing f.size f.height (entry_given at (form_at trees k)) (past table s k beyond)) (cases_lt k (length table)) in
      record {
        one_each = length-set table f.number e ∙ s.one_each;
        settled = settled_more (form_at trees) at after f.number f.size f.height 0 f.choice s.settled f.waits others is range f.given next;
        lengths = λ n. ⊎_elim (λ same. subst InRange (sym (ap after same ∙ is)) range) (λ other. subst InRange (sym (others n other)) (s.lengths n)) (cases_eq n f.number);
      }

  abbrev Settles : Type 0
  Settles = (table : List Entry) × IsPartly trees table × IsExhausted (form_at trees) (entry_at table)

  done : (table : List Entry) → IsPartly trees table → NoneGiven (form_at trees) (entry_at table) (length table) → Settles
  done table s none = (table, s, λ k waits. ⊎_elim (λ less. none k less waits) (λ beyond. past table s k beyond) (cases_lt k (length table)))

  settle : (fuel : ℕ) (table : List Entry) → unsettled table ≤ fuel → IsPartly trees table → Settles
  settle zero table few s =
      ⊎_elim
      (λ none. done table s none)
      (λ f. absurd (omega (arith, few, settle_one table f.number f.size f.height 0 f.within f.waits)))
      (first_below (form_at trees) (entry_at table) (length table))
  settle (suc fuel) table few s =
      ⊎_elim
      (λ none. done table s none)
      (λ f.
      let fewer = settle_one table f.number f.size f.height 0 f.within f.waits in
      settle fuel (set table f.number (Least f.size f.height 0)) (omega (arith, few, fewer)) (settle_first table s f))
      (first_below (form_at trees) (entry_at table) (length table))

  none_yet : (count : ℕ) → count ≡ length (parts_of trees) → IsPartly trees (replicate count Nothing)
  none_yet count is = record {
    one_each = length-replicate count Nothing ∙ is;
    settled = none_settled (form_at trees) (entry_at (replicate count Nothing)) (none_at count);
    lengths = λ n. subst InRange (sym (none_at count n)) tt;
  }

-- ---- the certificate

-- so many entries, from number n on
abbrev listed : (ℕ → Entry) → ℕ → ℕ → List Entry
listed f n zero = []
listed f n (suc k) = f n ∷ listed f (suc n) k

length_listed : (f : ℕ → Entry) (n k : ℕ) → length (listed f n k) ≡ k
length_listed f n zero = refl
length_listed f n (suc k) = ap suc (length_listed f (suc n) k)

listed_at : (f : ℕ → Entry) (n k i : ℕ) → i < k → entry_at (listed f n k) i ≡ f (n + i)
listed_at f n zero i less = absurd (omega (arith, less))
listed_at f n (suc k) zero less = let e : n ≡ n + 0 = omega arith in ap f e
listed_at f n (suc k) (suc i) less = let e : suc n + i ≡ n + suc i = omega arith in listed_at f (suc n) k i (omega (arith, less)) ∙ ap f e

listed_past : (f : ℕ → Entry) (n k i : ℕ) → k ≤ i → entry_at (listed f n k) i ≡ Nothing
listed_past f n zero i beyond = refl
listed_past f n (suc k) zero beyond = absurd (omega (arith, beyond))
listed_past f n (suc k) (suc i) beyond = listed_past f (suc n) k i (omega (arith, beyond))

pub some_certificate : (trees : List Part) → AreShort trees → (cert : List Entry) × IsAccepted trees cert × ((n : ℕ) → InRange (entry_at cert n))
some_certificate trees short =
    let count = length (parts_of trees) in
    let start = replicate count Nothing in
    let end = settle trees short (length start) start (unsettled_up start) (none_yet trees short count refl) in
    let table = end.0 in
    let f : ℕ → Entry = λ n. entry_given (entry_at table) (form_at trees n) in
    let cert = listed f 0 count in
    let is : (n : ℕ) → entry_at cert n ≡ f n =
    λ n. ⊎_elim
    (λ less. listed_at f 0 count n less ∙ (let e : 0 + n ≡ n = omega arith in ap f e))
    (λ beyond. listed_past f 0 count n beyond ∙ sym (past trees short table end.1 n (let one = end.1.one_each in omega (arith, beyond, one))))
    (cases_lt n count) in
    let range : (n : ℕ) → InRange (entry_at cert n) =
    λ n. subst InRange (sym (is n)) (given_range (entry_at table) end.1.lengths (form_at trees n) (short_or (root_number trees) n (slice_get (parts_of trees) n) (short n))) in
    (cert, accepted trees (entry_at table) cert end.1.settled end.2 (length_listed f 0 count) is range, range)
