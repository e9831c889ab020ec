-- A step of the walk: less is left to do, and what is written is still completed by the rest.
use Rattle.std.proofs.Common.{◌≡◌, ℕ, zero, suc, ◌+◌, ◌*◌, ◌<◌, ◌≤◌, ⊎_elim, List, [], ◌∷◌, ◌++◌, length, Option, Some, None, refl, sym, ap, ◌∙◌, subst, arith, map, get_or}
use Rattle.std.proofs.lemmas.List.{append-nil}
use Rattle.std.proofs.Math.Nat.{mul-suc}
use Rattle.std.proofs.lemmas.Option.{none-some, same_Some, slice_get-map, slice_get-get_or}
use Rattle.std.specs.List.{concat, AllByRecursion}
use Rattle.std.specs.Prelude.{slice_get, option_map}
use Rattle.abnf_cert.specs.declared.entry.Entry.{Entry}
use Rattle.abnf_cert.specs.declared.entry.Entry.TheVariants.{Nothing, Least}
use Rattle.abnf_parts.specs.declared.node.Node.{Node}
use Rattle.abnf_parts.specs.declared.node.Node.TheVariants.{Quoted, Series, Span, Seq, Alt, Rep, Ref}
use Rattle.abnf_parts.specs.Part.{Part, Parts, quoted, series, span, seq, alt, rep, ref, opaque, end, next, subparts, root_number, parts_of, numbers}
use Rattle.abnf_parts.specs.Nodes.{IsNode, RefersWithin}
use Rattle.abnf_parts.proofs.Closed.{all_at}
use Rattle.abnf_cert.specs.Accepted.{top, cut, all_in_a_row, times, referred, IsChoice, IsFirstLeast, entry_at, IsAccepted}
use Rattle.abnf_cert.proofs.Holds.{TreeHolds, holds_here, part_holds, rule_holds}
use Rattle.abnf_cert.proofs.Below.{TreeFits, part_fits}
use Rattle.abnf_least.specs.Sentence.{PartSentence, RuleSentence}
use Rattle.abnf_least.specs.declared.work.Task.{Task}
use Rattle.abnf_least.specs.declared.work.Task.TheVariants.{Write, End}
use Rattle.abnf_least.specs.own.Walk.{IsBelowTop, choice_of, keep, keep_by, keep_all, keep_times, keep_some, work_after, leaf_text}
use Rattle.abnf_least.proofs.Named.{value_at}
use Rattle.abnf_least.proofs.Weight.{room, weight_of, weight, keep_weight, below_weight, root_weight, row_of, row_weight, times_weight}
use Rattle.abnf_least.proofs.Complete.{IsShort, StandsAt, NodeSentence, Complete, keep_complete, row_complete, times_complete, first_sentence}

-- a part that is to be written has a length that is known exactly, and isn't 0
abbrev pub IsShortTask : (ℕ → Entry) → Task → Type 0
IsShortTask at (Write n) = IsShort (at n)
IsShortTask at (End n start) = Unit {0}

abbrev pub AllShort : (ℕ → Entry) → List Task → Type 0
AllShort at ts = AllByRecursion (IsShortTask at) ts

module _ (at : ℕ → Entry) where
  kept_short : (e : Entry) (n : ℕ) (ts : List Task) → at n ≡ e → IsBelowTop e → AllShort at ts → AllShort at (keep_by e n ts)
  kept_short Nothing n ts is below all = absurd below
  kept_short (Least zero h c) n ts is below all = all
  kept_short (Least (suc l) h c) n ts is below all = (subst IsShort (sym is) (omega arith, below), all)

  pub keep_short : (n : ℕ) (ts : List Task) → IsBelowTop (at n) → AllShort at ts → AllShort at (keep at n ts)
  keep_short n ts below all = kept_short (at n) n ts refl below all

  pub all_short : (ms : List ℕ) (ts : List Task) → AllByRecursion (λ m. IsBelowTop (at m)) ms → AllShort at ts → AllShort at (keep_all at ms ts)
  all_short [] ts below all = all
  all_short (m ∷ ms) ts below all = keep_short m (keep_all at ms ts) below.0 (all_short ms ts below.1 all)

  pub times_short : (k m : ℕ) (ts : List Task) → IsBelowTop (at m) → AllShort at ts → AllShort at (keep_times at k m ts)
  times_short zero m ts below all = all
  times_short (suc k) m ts below all = keep_short m (keep_times at k m ts) below (times_short k m ts below all)

  pub row_below : (ms : List ℕ) (l h c : ℕ) → all_in_a_row (map at ms) ≡ Least l h c → l < top → AllByRecursion (λ m. IsBelowTop (at m)) ms
  row_below [] l h c is below = tt
  row_below (m ∷ ms) l h c is below =
      let row = row_of (at m) (all_in_a_row (map at ms)) l h c is below in
      (subst IsBelowTop (sym row.first) (omega (arith, row.sum)), row_below ms row.l_rest row.h_rest row.c_rest row.rest (omega (arith, row.sum)))

pub numbers_after : (n k : ℕ) (ps : Parts) → n < k → AllByRecursion (λ m. n < m) (numbers k ps)
numbers_after n k end lt = tt
numbers_after n k (next p ps) lt = (lt, numbers_after n (k + length (subparts p)) ps (omega arith))

-- the number of an entry
number_of : (at : ℕ → Entry) (o : Option ℕ) (e : Entry) → option_map at o ≡ Some e → (m : ℕ) × (o ≡ Some m) × (at m ≡ e)
number_of at None e is = absurd (none-some e is)
number_of at (Some m) e is = (m, refl, same_Some (at m) e is)

-- the entry of what is repeated
repeated_entry : (least l h c : ℕ) (e : Entry) → times least e ≡ Least l h c → 0 < l → l < top → (a : ℕ) × (d : ℕ) × (e ≡ Least a h d) × (least * a ≡ l)
repeated_entry zero l h c e is some below = let zero_long : 0 ≡ l = cc in absurd (omega arith)
repeated_entry (suc n) l h c Nothing is some below = absurd (cc)
repeated_entry (suc n) l h c (Least a j d) is some below =
    let lengths : cut (suc n * a) ≡ l = cc in
    let heights : j ≡ h = cc in
    (a, d, ap (λ x. Least a x d) heights, omega arith)

-- the entry of a root
referred_entry : (l h c : ℕ) (e : Entry) → referred e ≡ Least l h c → (j : ℕ) × (d : ℕ) × (e ≡ Least l j d) × (j + 1 ≡ h)
referred_entry l h c Nothing is = absurd (cc)
referred_entry l h c (Least a j d) is =
    let lengths : a ≡ l = cc in
    let heights : j + 1 ≡ h = cc in
    (j, d, ap (λ x. Least x j d) lengths, heights)

module _ (roots : List Part) (cert : List Entry) (accepted : IsAccepted roots cert) (r : ℕ) (n l h c : ℕ) (ts : List Task) (w : List ℕ) where
  abbrev count : ℕ
  count = length (parts_of roots)

  -- what a step from a node keeps
  pub record IsStep (node : Node) : Type 0 where
    pub short : AllShort (entry_at cert) (work_after (entry_at cert) (root_number roots) node c ts)
    pub less : weight (entry_at cert) count (work_after (entry_at cert) (root_number roots) node c ts) < weight_of count (Least l h c) n + weight (entry_at cert) count ts
    pub complete : Complete roots r (work_after (entry_at cert) (root_number roots) node c ts) (w ++ leaf_text node)

  module _ (is : entry_at cert n ≡ Least l h c) (some : 0 < l) (below : l < top) (within : n < count) (all : AllShort (entry_at cert) ts) (f : Complete roots r (Write n ∷ ts) w) where
    -- what each character may take is less than what the part had
    falls : (x y : ℕ) → x ≤ l * room count n h + y → x < weight_of count (Least l h c) n + y
    falls x y le = omega (arith, mul-suc l (room count n h))

    stays : weight (entry_at cert) count ts < weight_of count (Least l h c) n + weight (entry_at cert) count ts
    stays = falls (weight (entry_at cert) count ts) (weight (entry_at cert) count ts) (omega arith)

    no_text : (ms : List Task) → Complete roots r ms w → Complete roots r ms (w ++ [])
    no_text ms h = subst (λ x. Complete roots r ms x) (sym (append-nil w)) h

    pub leaf : (p : Part) (t : List ℕ) (node : Node) → StandsAt roots n p → PartSentence roots (RuleSentence roots 0) p t → work_after (entry_at cert) (root_number roots) node c ts ≡ ts → leaf_text node ≡ t → IsStep node
    leaf p t node stands s same written =
        record {
          short = subst (λ ms. AllShort (entry_at cert) ms) (sym same) all;
          less = subst (λ ms. weight (entry_at cert) count ms < weight_of count (Least l h c) n + weight (entry_at cert) count ts) (sym same) stays;
          complete = subst (λ ms. Complete roots r ms (w ++ leaf_text node)) (sym same) (subst (λ u. Complete roots r ts (w ++ u)) (sym written) (f t (p, stands, 0, s)));
        }

    row_step : (ps : Parts) → StandsAt roots n (seq ps) → TreeHolds (StandsAt roots) n (seq ps) → entry_at cert n ≡ all_in_a_row (map (entry_at cert) (numbers (suc n) ps)) → IsStep (Seq (numbers (suc n) ps))
    row_step ps stands holds fits =
        let e : all_in_a_row (map (entry_at cert) (numbers (suc n) ps)) ≡ Least l h c = sym fits ∙ is in
        let each = row_below (entry_at cert) (numbers (suc n) ps) l h c e below in
        record {
          short = all_short (entry_at cert) (numbers (suc n) ps) ts each all;
          less = falls (weight (entry_at cert) count (keep_all (entry_at cert) (numbers (suc n) ps) ts)) (weight (entry_at cert) count ts)
              (row_weight (entry_at cert) count n h within (numbers (suc n) ps) ts (numbers_after n (suc n) ps (omega arith)) l h c e below (omega arith));
          complete = no_text (keep_all (entry_at cert) (numbers (suc n) ps) ts) (row_complete roots cert accepted r (suc n) ps ts w holds.1 each (λ k t s. f t (seq ps, stands, k, s)));
        }

    one_step : (m j d : ℕ) (node : Node) → entry_at cert m ≡ Least l j d → weight_of count (Least l j d) m ≤ l * room count n h → ((t : List ℕ) → NodeSentence roots m t → NodeSentence roots n t) → work_after (entry_at cert) (root_number roots) node c ts ≡ keep (entry_at cert) m ts → leaf_text node ≡ [] → IsStep node
    one_step m j d node e le g same written =
        let part_below : IsBelowTop (entry_at cert m) = subst IsBelowTop (sym e) below in
        let kept = keep_weight (entry_at cert) count m ts in
        let weights = ap (λ x. weight_of count x m) e in
        let bound : weight (entry_at cert) count (keep (entry_at cert) m ts) ≤ l * room count n h + weight (entry_at cert) count ts = omega arith in
        record {
          short = subst (λ ms. AllShort (entry_at cert) ms) (sym same) (keep_short (entry_at cert) m ts part_below all);
          less = subst (λ ms. weight (entry_at cert) count ms < weight_of count (Least l h c) n + weight (entry_at cert) count ts) (sym same)
              (falls (weight (entry_at cert) count (keep (entry_at cert) m ts)) (weight (entry_at cert) count ts) bound);
          complete = subst (λ ms. Complete roots r ms (w ++ leaf_text node)) (sym same)
              (subst (λ u. Complete roots r (keep (entry_at cert) m ts) (w ++ u)) (sym written)
              (no_text (keep (entry_at cert) m ts) (keep_complete roots cert accepted r m ts w part_below (λ t s. f t (g t s)))));
        }

    choice_step : (ps : Parts) → StandsAt roots n (alt ps) → TreeHolds (StandsAt roots) n (alt ps) → TreeFits (entry_at cert) (root_number roots) n (alt ps) → IsStep (Alt (numbers (suc n) ps))
    choice_step ps stands holds fits =
        let choice : IsChoice (map (entry_at cert) (numbers (suc n) ps)) (Least l h c) = subst (λ e. IsChoice (map (entry_at cert) (numbers (suc n) ps)) e) is fits.0 in
        let first : IsFirstLeast (map (entry_at cert) (numbers (suc n) ps)) l h c = ⊎_elim (λ x. x) (λ full. absurd (omega (arith, full.at_top))) choice.1 in
        let m = number_of (entry_at cert) (slice_get (numbers (suc n) ps) c) (Least l h choice.0.0) (sym (slice_get-map (entry_at cert) (numbers (suc n) ps) c) ∙ choice.0.1) in
        let after : n < m.0 = all_at (λ x. n < x) (numbers (suc n) ps) (numbers_after n (suc n) ps (omega arith)) c m.0 m.1 in
        one_step m.0 h choice.0.0 (Alt (numbers (suc n) ps)) m.2 (below_weight (entry_at cert) count n m.0 l h h choice.0.0 within after (omega arith))
        (λ t s. (
          alt ps,
          stands,
          s.2,
          (
            l,
            h,
            value_at roots cert accepted n (alt ps) l h c fits is below,
            first_sentence roots cert accepted (suc n) ps fits.1 holds.1 c l h choice.0.0 m.0 choice.0.1 first.first below m.1 t s,
          ),
        ))
        (ap (λ o. keep_some (entry_at cert) o ts) m.1) refl

    repeat_step : (least : ℕ) (most : Option ℕ) (p : Part) → StandsAt roots n (rep least most p) → StandsAt roots (suc n) p → times least (entry_at cert (suc n)) ≡ Least l h c → IsStep (Rep least most (suc n))
    repeat_step least most p stands body e =
        let entry = repeated_entry least l h c (entry_at cert (suc n)) e some below in
        let part_below : IsBelowTop (entry_at cert (suc n)) = subst IsBelowTop (sym entry.2) (shorter least entry.0 entry.3) in
        let bound = times_weight (entry_at cert) count n h within (suc n) entry.0 h entry.1 entry.2 (omega arith) (omega arith) least ts in
        let product = ap (λ x. x * room count n h) entry.3 in
        record {
          short = times_short (entry_at cert) least (suc n) ts part_below all;
          less = falls (weight (entry_at cert) count (keep_times (entry_at cert) least (suc n) ts)) (weight (entry_at cert) count ts) (omega arith);
          complete = no_text (keep_times (entry_at cert) least (suc n) ts)
              (times_complete roots cert accepted r (suc n) p body part_below least ts w
              (λ k ss each len. f (concat ss) (rep least most p, stands, k, record { strings = ss; enough = omega arith; few = omega arith; each = each; joined = refl })));
        }
      where
        shorter : (k a : ℕ) → k * a ≡ l → a < top
        shorter zero a e = absurd (omega arith)
        shorter (suc k) a e = omega arith

    refer_step : (name : List ℕ) (q : ℕ) (node : Node) → StandsAt roots n (ref name (Some q)) → q < length roots → referred (entry_at cert (root_number roots q)) ≡ Least l h c → work_after (entry_at cert) (root_number roots) node c ts ≡ keep (entry_at cert) (root_number roots q) ts → leaf_text node ≡ [] → IsStep node
    refer_step name q node stands known e same written =
        let entry = referred_entry l h c (entry_at cert (root_number roots q)) e in
        let root = get_or roots q opaque in
        let is_root = slice_get-get_or roots q opaque known in
        let at_root : StandsAt roots (root_number roots q) root = holds_here (StandsAt roots) (root_number roots q) root (rule_holds roots (StandsAt roots) (λ m p x. x) q root is_root) in
        let bound : weight_of count (Least l entry.0 entry.1) (root_number roots q) ≤ l * room count n h = subst (λ x. weight_of count (Least l entry.0 entry.1) (root_number roots q) ≤ l * room count n x) entry.3 (root_weight (entry_at cert) count n (root_number roots q) l entry.0 entry.1) in
        one_step (root_number roots q) entry.0 entry.1 node entry.2 bound
        (λ t s.
        let is_it : s.0 ≡ root = same_Some s.0 root (sym s.1 ∙ at_root) in
        (ref name (Some q), stands, suc s.2, (root, is_root, subst (λ p. PartSentence roots (RuleSentence roots s.2) p t) is_it s.3)))
        same written

    by_node : (a b : Node) → a ≡ b → IsStep b → IsStep a
    by_node a b e s = subst (λ x. IsStep x) (sym e) s

    not_nothing : entry_at cert n ≡ Nothing → ⊥
    not_nothing e = let both : Nothing ≡ Least l h c = sym e ∙ is in absurd (cc)

    pub step_of : (p : Part) (node : Node) → IsNode n p node → RefersWithin (length roots) p → StandsAt roots n p → TreeFits (entry_at cert) (root_number roots) n p → TreeHolds (StandsAt roots) n p → IsStep node
    step_of (quoted text exact) node is_node known stands fits holds =
        by_node node (Quoted is_node.0 exact) is_node.1 (leaf (quoted text exact) text (Quoted is_node.0 exact) stands refl refl is_node.2)
    step_of (series characters) node is_node known stands fits holds =
        by_node node (Series characters) is_node (leaf (series characters) characters (Series characters) stands refl refl refl)
    step_of (span low high) node is_node known stands fits holds =
        by_node node (Span low high) is_node
        (⊎_elim
        (λ x. leaf (span low high) (low ∷ []) (Span low high) stands (x.0, refl) refl refl)
        (λ x. absurd (not_nothing x.1))
        fits)
    step_of (seq ps) node is_node known stands fits holds = by_node node (Seq (numbers (suc n) ps)) is_node (row_step ps stands holds fits.0)
    step_of (alt ps) node is_node known stands fits holds = by_node node (Alt (numbers (suc n) ps)) is_node (choice_step ps stands holds fits)
    step_of (rep least most p) node is_node known stands fits holds =
        by_node node (Rep least most (suc n)) is_node
        (⊎_elim
        (λ x. repeat_step least most p stands (holds_here (StandsAt roots) (suc n) p holds.1) (sym x.1 ∙ is))
        (λ x. absurd (not_nothing x.1))
        fits.0)
    step_of (ref name None) node is_node known stands fits holds = absurd (not_nothing fits)
    step_of (ref name (Some q)) node is_node known stands fits holds =
        by_node node (Ref is_node.0 (Some q)) is_node.1 (refer_step name q (Ref is_node.0 (Some q)) stands known (sym fits ∙ is) refl refl)
    step_of opaque node is_node known stands fits holds = absurd (not_nothing fits)

-- before the first step: only the root is left
module _ (roots : List Part) (cert : List Entry) (accepted : IsAccepted roots cert) (r : ℕ) (known : r < length roots) where
  pub start : IsBelowTop (entry_at cert (root_number roots r)) → Complete roots r (keep (entry_at cert) (root_number roots r) []) []
  start below =
      let root = get_or roots r opaque in
      let is_root = slice_get-get_or roots r opaque known in
      let at_root : StandsAt roots (root_number roots r) root = holds_here (StandsAt roots) (root_number roots r) root (rule_holds roots (StandsAt roots) (λ m p x. x) r root is_root) in
      keep_complete roots cert accepted r (root_number roots r) [] [] below
      (λ t s.
      let is_it : s.0 ≡ root = same_Some s.0 root (sym s.1 ∙ at_root) in
      (suc s.2, (root, is_root, subst (λ p. PartSentence roots (RuleSentence roots s.2) p t) is_it s.3)))

-- a part with a length that is known and not 0 has a node, and a step from it
module _ (roots : List Part) (cert : List Entry) (accepted : IsAccepted roots cert) (r n : ℕ) (ts : List Task) (w : List ℕ) where
  abbrev pub NextStep : Node → Type 0
  NextStep node =
      let after = work_after (entry_at cert) (root_number roots) node (choice_of (entry_at cert n)) ts in
      AllShort (entry_at cert) after
      × (weight (entry_at cert) (length (parts_of roots)) after < weight (entry_at cert) (length (parts_of roots)) (Write n ∷ ts))
      × Complete roots r after (w ++ leaf_text node)

  next_by : (e : Entry) → entry_at cert n ≡ e → IsShort e → (node : Node) (p : Part) → IsNode n p node → RefersWithin (length roots) p → StandsAt roots n p → n < length (parts_of roots) → AllShort (entry_at cert) ts → Complete roots r (Write n ∷ ts) w → NextStep node
  next_by Nothing is short node p is_node known stands within all f = absurd short
  next_by (Least l h c) is short node p is_node known stands within all f =
      let step = step_of roots cert accepted r n l h c ts w is short.0 short.1 within all f p node is_node known stands (part_fits roots cert accepted n p stands) (part_holds roots (StandsAt roots) (λ m q x. x) n p stands) in
      let same = sym is in (
        subst (λ e. AllShort (entry_at cert) (work_after (entry_at cert) (root_number roots) node (choice_of e) ts)) same step.short,
        subst (λ e. weight (entry_at cert) (length (parts_of roots)) (work_after (entry_at cert) (root_number roots) node (choice_of e) ts) < weight_of (length (parts_of roots)) e n + weight (entry_at cert) (length (parts_of roots)) ts) same step.less,
        subst (λ e. Complete roots r (work_after (entry_at cert) (root_number roots) node (choice_of e) ts) (w ++ leaf_text node)) same step.complete,
      )

  pub next_step : (node : Node) (p : Part) → IsNode n p node → RefersWithin (length roots) p → StandsAt roots n p → n < length (parts_of roots) → AllShort (entry_at cert) (Write n ∷ ts) → Complete roots r (Write n ∷ ts) w → NextStep node
  next_step node p is_node known stands within all f = next_by (entry_at cert n) refl all.0 node p is_node known stands within all.1 f

pub short_below : (e : Entry) → IsShort e → IsBelowTop e
short_below Nothing h = h
short_below (Least l h c) s = s.1
