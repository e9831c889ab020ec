-- What is written, with the sentences of the parts that are left, is the sentence of the rule.
use Rattle.std.proofs.Common.{◌≡◌, ℕ, zero, suc, ◌+◌, ◌<◌, ◌≤◌, inl, inr, ⊎_elim, List, [], ◌∷◌, ◌++◌, length, Some, refl, sym, ap, ◌∙◌, subst, arith, append_assoc, map, take, drop, max}
use Rattle.std.proofs.lemmas.List.{append-nil}
use Rattle.std.proofs.lemmas.Bool.{cases_lt}
use Rattle.std.proofs.lemmas.Option.{none-some, same_Some, slice_get-get_or}
use Rattle.std.specs.List.{concat, AllByRecursion}
use Rattle.std.specs.Prelude.{slice_get, get_or}
use Rattle.abnf_cert.specs.declared.entry.Entry.{Entry}
use Rattle.abnf_cert.specs.declared.entry.Entry.TheVariants.{Nothing, Least}
use Rattle.abnf_parts.specs.Part.{Part, Parts, seq, opaque, end, next, subparts, root_number, parts_of, numbers}
use Rattle.abnf_parts.specs.Generates.{Gen}
use Rattle.abnf_cert.specs.Accepted.{top, After, entry_at, IsAccepted}
use Rattle.abnf_cert.proofs.Holds.{TreesHold, holds_here}
use Rattle.abnf_cert.proofs.Below.{TreesFit}
use Rattle.abnf_cert.proofs.Upper.{past_end}
use Rattle.abnf_cert.proofs.Right.{low_at}
use Rattle.abnf_least.specs.Sentence.{PartSentence, EachSentence, FirstSentence, RuleSentence, IsSentence}
use Rattle.abnf_least.specs.declared.work.Task.{Task}
use Rattle.abnf_least.specs.declared.work.Task.TheVariants.{Write, End}
use Rattle.abnf_least.specs.own.Walk.{IsBelowTop, keep, keep_by, keep_all, keep_times}
use Rattle.abnf_least.proofs.Named.{Named, part_named, value_at, later}
use Rattle.abnf_least.proofs.More.{up, all_more}

-- the entry has a length that is known exactly, and isn't 0
abbrev pub IsShort : Entry → Type 0
IsShort Nothing = ⊥
IsShort (Least l h c) = (0 < l) × (l < top)

-- part n stands at its number
abbrev pub StandsAt : List Part → ℕ → Part → Type 0
StandsAt roots n p = slice_get (parts_of roots) n ≡ Some p

-- the sentence of part n
abbrev pub NodeSentence : List Part → ℕ → List ℕ → Type 0
NodeSentence roots n t = (p : Part) × StandsAt roots n p × (k : ℕ) × PartSentence roots (RuleSentence roots k) p t

no_characters : (s : List ℕ) → length s ≡ 0 → s ≡ []
no_characters [] e = refl
no_characters (c ∷ s) e = absurd (omega arith)

module _ (roots : List Part) (r : ℕ) where
  -- With a sentence of each part that is left, in their order, what is written becomes a sentence of the rule. Where a part ends, its
  -- sentence has been written since it began.
  abbrev pub Complete : List Task → List ℕ → Type 0
  Complete [] w = IsSentence roots r w
  Complete (Write n ∷ ts) w = (t : List ℕ) → NodeSentence roots n t → Complete ts (w ++ t)
  Complete (End n start ∷ ts) w = (start ≤ length w) × NodeSentence roots n (drop start w) × Complete ts w

  pub nothing_more : (ts : List Task) (w : List ℕ) → Complete ts (w ++ []) → Complete ts w
  nothing_more ts w h = subst (λ x. Complete ts x) (append-nil w) h

  pub joined_more : (ts : List Task) (w t u : List ℕ) → Complete ts (w ++ (t ++ u)) → Complete ts ((w ++ t) ++ u)
  joined_more ts w t u h = subst (λ x. Complete ts x) (sym (append_assoc w t u)) h

module _ (roots : List Part) (cert : List Entry) (accepted : IsAccepted roots cert) where
  -- a part with an entry
  pub part_at : (n : ℕ) → IsBelowTop (entry_at cert n) → (n < length (parts_of roots)) × (p : Part) × StandsAt roots n p
  part_at n below =
      let within : n < length (parts_of roots) =
      ⊎_elim
      (λ lt. omega (arith, accepted.one_each))
      (λ past. absurd (subst IsBelowTop (past_end cert n past) below))
      (cases_lt n (length cert)) in
      (within, get_or (parts_of roots) n opaque, slice_get-get_or (parts_of roots) n opaque within)

  -- the empty sentence of a part of length 0
  empty_sentence : (n h c : ℕ) → entry_at cert n ≡ Least 0 h c → NodeSentence roots n []
  empty_sentence n h c is =
      let below : IsBelowTop (Least 0 h c) = omega arith in
      let part = part_at n (subst IsBelowTop (sym is) below) in
      let S = PartSentence roots (RuleSentence roots h) part.1 in
      let G = Gen roots h part.1 in
      let all = part_named roots cert accepted h n part.1 part.2 in
      let s = (subst (λ e. Named h S G e) is all) below (omega arith) in
      (part.1, part.2, h, subst S (no_characters s.0 s.3) s.1)

  module _ (r : ℕ) where
    keep_complete_by : (e : Entry) (n : ℕ) (ts : List Task) (w : List ℕ) → entry_at cert n ≡ e → IsBelowTop e → Complete roots r (Write n ∷ ts) w → Complete roots r (keep_by e n ts) w
    keep_complete_by Nothing n ts w is below f = absurd below
    keep_complete_by (Least zero h c) n ts w is below f = nothing_more roots r ts w (f [] (empty_sentence n h c is))
    keep_complete_by (Least (suc l) h c) n ts w is below f = f

    pub keep_complete : (n : ℕ) (ts : List Task) (w : List ℕ) → IsBelowTop (entry_at cert n) → Complete roots r (Write n ∷ ts) w → Complete roots r (keep (entry_at cert) n ts) w
    keep_complete n ts w below f = keep_complete_by (entry_at cert n) n ts w refl below f

    pub row_complete : (n : ℕ) (ps : Parts) (ts : List Task) (w : List ℕ) → TreesHold (StandsAt roots) n ps → AllByRecursion (λ m. IsBelowTop (entry_at cert m)) (numbers n ps) → ((k : ℕ) (t : List ℕ) → EachSentence roots (RuleSentence roots k) ps t → Complete roots r ts (w ++ t)) → Complete roots r (keep_all (entry_at cert) (numbers n ps) ts) w
    row_complete n end ts w stands below f = nothing_more roots r ts w (f 0 [] refl)
    row_complete n (next p ps) ts w stands below f =
        keep_complete n (keep_all (entry_at cert) (numbers (n + length (subparts p)) ps) ts) w below.0
        (λ t s. row_complete (n + length (subparts p)) ps ts (w ++ t) stands.1 below.1
        (λ k u each.
        let same : s.0 ≡ p = same_Some s.0 p (sym s.1 ∙ holds_here (StandsAt roots) n p stands.0) in
        let front : PartSentence roots (RuleSentence roots s.2) p t = subst (λ q. PartSentence roots (RuleSentence roots s.2) q t) same s.3 in
        joined_more roots r ts w t u
        (f (max s.2 k) (t ++ u)
        (record {
          front = t;
          back = u;
          joined = refl;
          of_front = up roots s.2 (max s.2 k) (omega arith) p t front;
          of_back = each_up k (max s.2 k) (omega arith) ps u each;
        }))))
      where
        each_up : (k j : ℕ) → k ≤ j → (ps : Parts) (s : List ℕ) → EachSentence roots (RuleSentence roots k) ps s → EachSentence roots (RuleSentence roots j) ps s
        each_up k j le ps s h = up roots k j le (seq ps) s h

    pub times_complete : (n : ℕ) (p : Part) → StandsAt roots n p → IsBelowTop (entry_at cert n) → (count : ℕ) (ts : List Task) (w : List ℕ) → ((k : ℕ) (ss : List (List ℕ)) → AllByRecursion (PartSentence roots (RuleSentence roots k) p) ss → length ss ≡ count → Complete roots r ts (w ++ concat ss)) → Complete roots r (keep_times (entry_at cert) count n ts) w
    times_complete n p is below zero ts w f = nothing_more roots r ts w (f 0 [] tt refl)
    times_complete n p is below (suc count) ts w f =
        keep_complete n (keep_times (entry_at cert) count n ts) w below
        (λ t s. times_complete n p is below count ts (w ++ t)
        (λ k ss all len.
        let same : s.0 ≡ p = same_Some s.0 p (sym s.1 ∙ is) in
        let one : PartSentence roots (RuleSentence roots s.2) p t = subst (λ q. PartSentence roots (RuleSentence roots s.2) q t) same s.3 in
        joined_more roots r ts w t (concat ss)
        (f (max s.2 k) (t ∷ ss) (
          up roots s.2 (max s.2 k) (omega arith) p t one,
          all_more (PartSentence roots (RuleSentence roots k) p) (PartSentence roots (RuleSentence roots (max s.2 k)) p) (up roots k (max s.2 k) (omega arith) p) ss all,
        )
        (ap suc len))))

  -- the first part with the value has the sentence
  pub first_sentence : (n : ℕ) (ps : Parts) → TreesFit (entry_at cert) (root_number roots) n ps → TreesHold (StandsAt roots) n ps →
      (c l h d m : ℕ) → slice_get (map (entry_at cert) (numbers n ps)) c ≡ Some (Least l h d) → AllByRecursion (After l h) (take c (map (entry_at cert) (numbers n ps))) → l < top →
      slice_get (numbers n ps) c ≡ Some m → (t : List ℕ) (s : NodeSentence roots m t) → FirstSentence roots (RuleSentence roots s.2) l h ps t
  first_sentence n end fits stands c l h d m is before below at t s = absurd (none-some (Least l h d) is)
  first_sentence n (next p ps) fits stands zero l h d m is before below at t s =
      let here = same_Some (entry_at cert n) (Least l h d) is in
      let number : n ≡ m = same_Some n m at in
      let same : s.0 ≡ p = same_Some s.0 p (sym s.1 ∙ subst (λ x. StandsAt roots x p) number (holds_here (StandsAt roots) n p stands.0)) in
      inl (value_at roots cert accepted n p l h d fits.0 here below, subst (λ q. PartSentence roots (RuleSentence roots s.2) q t) same s.3)
  first_sentence n (next p ps) fits stands (suc c) l h d m is before below at t s =
      inr (
        later roots cert accepted p (entry_at cert n) l h below (low_at roots cert accepted n p fits.0) before.0,
        first_sentence (n + length (subparts p)) ps fits.1 stands.1 c l h d m is before.1 below at t s,
      )
