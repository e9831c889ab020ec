-- What is written so far, and how each task leads on.
use Rattle.std.proofs.Common.{◌≡◌, ℕ, zero, suc, ◌+◌, ◌-◌, ◌<◌, ◌≤◌, ⊎_elim, List, [], ◌∷◌, ◌++◌, length, Option, Some, None, refl, sym, ap, ◌∙◌, subst, arith, take, drop, replicate, get_or, set, get_or-set_same, get_or-set_other, length-append, length-drop}
use Rattle.std.proofs.lemmas.List.{take_all, take-append-le, drop-append-le, length-set, length-replicate}
use Rattle.std.proofs.lemmas.Bool.{cases_eq}
use Rattle.std.proofs.lemmas.Option.{slice_get-get_or, get_or_from_slice_get, slice_get_within}
use Rattle.std.proofs.Math.Nat.{mul-suc}
use Rattle.std.proofs.Math.Seq.{drop-append_seam}
use Rattle.std.specs.Prelude.{slice_get, slice_range}
use Rattle.abnf_cert.specs.declared.entry.Entry.{Entry}
use Rattle.abnf_cert.specs.declared.entry.Entry.TheVariants.{Nothing, Least}
use Rattle.abnf_parts.specs.declared.node.Node.{Node}
use Rattle.abnf_parts.specs.declared.node.Node.TheVariants.{Quoted, Series, Span, Seq, Alt, Rep, Ref, Opaque}
use Rattle.abnf_parts.specs.Part.{Part, opaque, parts_of, root_number}
use Rattle.abnf_parts.specs.Nodes.{IsNode, AreNodes}
use Rattle.abnf_cert.specs.Accepted.{entry_at, IsAccepted}
use Rattle.abnf_least.specs.declared.work.Task.{Task}
use Rattle.abnf_least.specs.declared.work.Task.TheVariants.{Write, End}
use Rattle.abnf_least.specs.own.Walk.{IsBelowTop, choice_of, keep, keep_by, keep_all, keep_times, keep_some, work_after, leaf_text, WrittenPlace, LiesWithin, AllLieWithin, IsNodeOf, IsTaskOf, WritesPart, Does}
use Rattle.abnf_least.proofs.Weight.{room, weight_of, weight}
use Rattle.abnf_least.proofs.Complete.{IsShort, NodeSentence, Complete, part_at}
use Rattle.abnf_least.proofs.WalkStep.{AllShort, keep_short, start, short_below, next_step}

-- a part that was written before stands at its place
abbrev pub IsNoted : List Part → List ℕ → ℕ → WrittenPlace → Type 0
IsNoted roots w n None = Unit {0}
IsNoted roots w n (Some x) = (x.0 ≤ x.1) × (x.1 ≤ length w) × NodeSentence roots n (slice_range w x.0 x.1)

-- what holds of the work that is left, the text that is written and the places of parts in it
pub record IsDraft (roots : List Part) (cert : List Entry) (r : ℕ) (ts : List Task) (w : List ℕ) (ps : List WrittenPlace) : Type 0 where
  pub short : AllShort (entry_at cert) ts
  pub complete : Complete roots r ts w
  pub noted : (n : ℕ) → IsNoted roots w n (get_or ps n None)
  pub one_each : length ps ≡ length (parts_of roots)

-- how many parts are still to end
abbrev pub ends : List Task → ℕ
ends [] = 0
ends (Write n ∷ ts) = ends ts
ends (End n start ∷ ts) = suc (ends ts)

-- a number that falls with each task
abbrev pub left : (ℕ → Entry) → ℕ → List Task → ℕ
left at count ts = weight at count ts + weight at count ts + ends ts

module _ (at : ℕ → Entry) where
  kept_ends : (e : Entry) (n : ℕ) (ts : List Task) → ends (keep_by e n ts) ≡ ends ts
  kept_ends Nothing n ts = refl
  kept_ends (Least zero h c) n ts = refl
  kept_ends (Least (suc l) h c) n ts = refl

  all_ends : (ms : List ℕ) (ts : List Task) → ends (keep_all at ms ts) ≡ ends ts
  all_ends [] ts = refl
  all_ends (m ∷ ms) ts = kept_ends (at m) m (keep_all at ms ts) ∙ all_ends ms ts

  times_ends : (k m : ℕ) (ts : List Task) → ends (keep_times at k m ts) ≡ ends ts
  times_ends zero m ts = refl
  times_ends (suc k) m ts = kept_ends (at m) m (keep_times at k m ts) ∙ times_ends k m ts

  some_ends : (o : Option ℕ) (ts : List Task) → ends (keep_some at o ts) ≡ ends ts
  some_ends None ts = refl
  some_ends (Some m) ts = kept_ends (at m) m ts

  after_ends : (root : ℕ → ℕ) (node : Node) (c : ℕ) (ts : List Task) → ends (work_after at root node c ts) ≡ ends ts
  after_ends root (Quoted text exact) c ts = refl
  after_ends root (Series characters) c ts = refl
  after_ends root (Span low high) c ts = refl
  after_ends root (Seq ms) c ts = all_ends ms ts
  after_ends root (Alt ms) c ts = some_ends (slice_get ms c) ts
  after_ends root (Rep least most m) c ts = times_ends least m ts
  after_ends root (Ref name None) c ts = refl
  after_ends root (Ref name (Some q)) c ts = kept_ends (at (root q)) (root q) ts
  after_ends root Opaque c ts = refl

range_more : (w t : List ℕ) (i j : ℕ) → i ≤ j → j ≤ length w → slice_range (w ++ t) i j ≡ slice_range w i j
range_more w t i j le within =
    let low : i ≤ length w = omega arith in
    let few : j - i ≤ length (drop i w) = omega (arith, length-drop i w) in
    ap (take (j - i)) (drop-append-le i w t low) ∙ take-append-le (j - i) (drop i w) t few

range_all : (w : List ℕ) (i : ℕ) → i ≤ length w → slice_range w i (length w) ≡ drop i w
range_all w i low = take_all (length w - i) (drop i w) (omega (arith, length-drop i w))

-- a place stays right where more is written
noted_more : (roots : List Part) (w t : List ℕ) (n : ℕ) (p : WrittenPlace) → IsNoted roots w n p → IsNoted roots (w ++ t) n p
noted_more roots w t n None h = tt
noted_more roots w t n (Some x) h = (h.0, omega (arith, h.1, length-append w t), subst (NodeSentence roots n) (sym (range_more w t x.0 x.1 h.0 h.1)) h.2)

short_weight : (count n : ℕ) (e : Entry) → IsShort e → 0 < weight_of count e n
short_weight count n Nothing s = absurd s
short_weight count n (Least l h c) s = omega (arith, s.0, mul-suc l (room count n h))

module _ (roots : List Part) (cert : List Entry) (accepted : IsAccepted roots cert) (r : ℕ) where
  -- what a task leads to
  abbrev pub LeadsTo : ℕ → List Task → List ℕ → List WrittenPlace → Type 0
  LeadsTo most ts w ps = IsDraft roots cert r ts w ps × (left (entry_at cert) (length (parts_of roots)) ts < most)

  led : (most : ℕ) (ts ts' : List Task) (w w' : List ℕ) (ps ps' : List WrittenPlace) → ts' ≡ ts → w' ≡ w → ps' ≡ ps → LeadsTo most ts w ps → LeadsTo most ts' w' ps'
  led most ts ts' w w' ps ps' a b c h =
      subst (λ x. LeadsTo most x w' ps') (sym a) (subst (λ x. LeadsTo most ts x ps') (sym b) (subst (λ x. LeadsTo most ts w x) (sym c) h))

  module _ (ts : List Task) (w : List ℕ) (ps : List WrittenPlace) where
    copied : (n : ℕ) (x : ℕ × ℕ) → IsDraft roots cert r (Write n ∷ ts) w ps → get_or ps n None ≡ Some x → LeadsTo (left (entry_at cert) (length (parts_of roots)) (Write n ∷ ts)) ts (w ++ slice_range w x.0 x.1) ps
    copied n x d e =
        let noted : IsNoted roots w n (Some x) = subst (IsNoted roots w n) e (d.noted n) in
        let some = short_weight (length (parts_of roots)) n (entry_at cert n) d.short.0 in (
          record {
            short = d.short.1;
            complete = d.complete (slice_range w x.0 x.1) noted.2;
            noted = λ m. noted_more roots w (slice_range w x.0 x.1) m (get_or ps m None) (d.noted m);
            one_each = d.one_each;
          },
          omega arith,
        )

    ended : (n from : ℕ) → IsDraft roots cert r (End n from ∷ ts) w ps → LeadsTo (left (entry_at cert) (length (parts_of roots)) (End n from ∷ ts)) ts w (set ps n (Some (from, length w)))
    ended n from d =
        let place : WrittenPlace = Some (from, length w) in
        let sentence = d.complete.1 in
        let known : n < length (parts_of roots) = slice_get_within (parts_of roots) n sentence.0 sentence.1 in
        let within : n < length ps = omega (arith, d.one_each) in
        let here : IsNoted roots w n place = (d.complete.0, omega arith, subst (NodeSentence roots n) (sym (range_all w from d.complete.0)) sentence) in (
          record {
            short = d.short.1;
            complete = d.complete.2;
            noted = λ m.
                ⊎_elim
                (λ same. subst (λ x. IsNoted roots w x (get_or (set ps n place) x None)) (sym same) (subst (IsNoted roots w n) (sym (get_or-set_same ps n place None within)) here))
                (λ other. subst (IsNoted roots w m) (sym (get_or-set_other ps n m place None other)) (d.noted m))
                (cases_eq m n);
            one_each = length-set ps n place ∙ d.one_each;
          },
          omega arith,
        )

    expanded : (n : ℕ) → IsDraft roots cert r (Write n ∷ ts) w ps → (node : Node) → IsNodeOf roots n node →
        LeadsTo (left (entry_at cert) (length (parts_of roots)) (Write n ∷ ts)) (work_after (entry_at cert) (root_number roots) node (choice_of (entry_at cert n)) (End n (length w) ∷ ts)) (w ++ leaf_text node) ps
    expanded n d node of =
        let within : n < length (parts_of roots) = slice_get_within (parts_of roots) n of.part of.stands in
        let f : Complete roots r (Write n ∷ End n (length w) ∷ ts) w =
        λ t s. (omega (arith, length-append w t), subst (NodeSentence roots n) (sym (drop-append_seam w t)) s, d.complete t s) in
        let step = next_step roots cert accepted r n (End n (length w) ∷ ts) w node of.part of.is of.refers of.stands within (d.short.0, (tt, d.short.1)) f in
        let less = step.1 in
        let same = after_ends (entry_at cert) (root_number roots) node (choice_of (entry_at cert n)) (End n (length w) ∷ ts) in (
          record {
            short = step.0;
            complete = step.2;
            noted = λ m. noted_more roots w (leaf_text node) m (get_or ps m None) (d.noted m);
            one_each = d.one_each;
          },
          omega arith,
        )

    written : (n : ℕ) (place : WrittenPlace) → get_or ps n None ≡ place → (ts' : List Task) (w' : List ℕ) (ps' : List WrittenPlace) → WritesPart roots (entry_at cert) n place ts w ps ts' w' ps' → IsDraft roots cert r (Write n ∷ ts) w ps →
        LeadsTo (left (entry_at cert) (length (parts_of roots)) (Write n ∷ ts)) ts' w' ps'
    written n None e ts' w' ps' does d =
        let x = does.0 in
        led (left (entry_at cert) (length (parts_of roots)) (Write n ∷ ts)) (work_after (entry_at cert) (root_number roots) x.0 (choice_of (entry_at cert n)) (End n (length w) ∷ ts)) ts' (w ++ leaf_text x.0) w' ps ps' x.2 x.3 does.1
        (expanded n d x.0 x.1)
    written n (Some x) e ts' w' ps' does d = led (left (entry_at cert) (length (parts_of roots)) (Write n ∷ ts)) ts ts' (w ++ slice_range w x.0 x.1) w' ps ps' does.0 does.1 does.2 (copied n x d e)

    pub does_more : (task : Task) (ts' : List Task) (w' : List ℕ) (ps' : List WrittenPlace) → Does roots (entry_at cert) task ts w ps ts' w' ps' → IsDraft roots cert r (task ∷ ts) w ps → LeadsTo (left (entry_at cert) (length (parts_of roots)) (task ∷ ts)) ts' w' ps'
    does_more (Write n) ts' w' ps' does d = written n (get_or ps n None) refl ts' w' ps' does d
    does_more (End n from) ts' w' ps' does d = led (left (entry_at cert) (length (parts_of roots)) (End n from ∷ ts)) ts ts' w w' (set ps n (Some (from, length w))) ps' does.0 does.1 does.2 (ended n from d)

    pub task_of : (task : Task) → IsDraft roots cert r (task ∷ ts) w ps → IsTaskOf (length (parts_of roots)) task
    task_of (Write n) d = (part_at roots cert accepted n (short_below (entry_at cert n) d.short.0)).0
    task_of (End n from) d = let sentence = d.complete.1 in slice_get_within (parts_of roots) n sentence.0 sentence.1

  lies_within : (w : List ℕ) (n : ℕ) (p : WrittenPlace) → IsNoted roots w n p → LiesWithin (length w) p
  lies_within w n None h = tt
  lies_within w n (Some x) h = (h.0, h.1)

  pub all_lie_within : (ts : List Task) (w : List ℕ) (ps : List WrittenPlace) → IsDraft roots cert r ts w ps → AllLieWithin (length w) ps
  all_lie_within ts w ps d n = lies_within w n (get_or ps n None) (d.noted n)

  abbrev no_place : WrittenPlace
  no_place = None

  none_at : (count n : ℕ) → get_or (replicate count no_place) n no_place ≡ no_place
  none_at zero n = refl
  none_at (suc count) zero = refl
  none_at (suc count) (suc n) = none_at count n

  -- before the first task
  pub first_draft : r < length roots → IsBelowTop (entry_at cert (root_number roots r)) → (ps : List WrittenPlace) (count : ℕ) → ps ≡ replicate count None → count ≡ length (parts_of roots) →
      IsDraft roots cert r (keep (entry_at cert) (root_number roots r) []) [] ps
  first_draft known below ps count is all =
      record {
        short = keep_short (entry_at cert) (root_number roots r) [] below tt;
        complete = start roots cert accepted r known below;
        noted = λ n. subst (IsNoted roots [] n) (sym (ap (λ (x : List WrittenPlace). get_or x n None) is ∙ none_at count n)) tt;
        one_each = ap length is ∙ (length-replicate count None ∙ all);
      }

-- the node with a number is that of the part
pub node_of : (roots : List Part) (nodes : List Node) (n : ℕ) (node : Node) → AreNodes roots nodes → n < length (parts_of roots) → node ≡ get_or nodes n node → IsNodeOf roots n node
node_of roots nodes n node are within is =
    let part = get_or (parts_of roots) n opaque in
    let stands = slice_get-get_or (parts_of roots) n opaque within in
    let known = are.each n part stands in
    let same_node : known.0 ≡ node = sym (get_or_from_slice_get nodes n known.0 node known.1) ∙ sym is in
    record { part = part; stands = stands; is = subst (λ x. IsNode n part x) same_node known.2; refers = known.3 }
