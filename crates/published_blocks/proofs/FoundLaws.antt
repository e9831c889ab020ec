-- What is found in runs, one after the other; that there is something, and only one thing.
use Rattle.std.proofs.Common.{◌≡◌, ◌∙◌, ℕ, zero, suc, Bool, true, false, ◌+◌, ◌^◌, ◌<◌, ◌≤◌, List, [], ◌∷◌, ◌++◌, Option, Some, None, ap, append_assoc, append-nil, arith, drop, length, refl, subst, sym}
use Rattle.std.specs.Prelude.{All, Contains, if◌then◌else◌, option_map, slice_get}
use Rattle.std.specs.Str.{encode_utf8_all}
use Rattle.std.proofs.lemmas.List.{drop_all, length-map}
use Rattle.std.proofs.lemmas.List.Elements.{All-head, All-tail, Contains-append_left, Contains-append_right, Contains-push}
use Rattle.ls_text.specs.Lines.{line_ends, lines, max_bytes}
use Rattle.ls_text.specs.declared.fault.TextFault.{TextFault}
use Rattle.ls_text.specs.declared.fault.TextFault.TheVariants.{Memory, TooLarge}
use Rattle.ls_text.proofs.LineLaws.{length_lines}
use Rattle.origins.specs.Origins.{characters}
use Rattle.rule_texts.proofs.CountLaws.{one_counts, some_counts}
use Rattle.published_blocks.specs.declared.found.Published.{Published}
use Rattle.published_blocks.specs.declared.line.Kind.TheVariants.{Words}
use Rattle.published_blocks.specs.declared.reading.Reading.{Reading}
use Rattle.published_blocks.specs.declared.run.Gap.TheVariants.{Nothing}
use Rattle.published_blocks.specs.declared.run.Lead.{Lead}
use Rattle.published_blocks.specs.declared.run.Lead.TheVariants.{Unknown, Other, Rule}
use Rattle.published_blocks.specs.declared.run.Run.{Run}
use Rattle.published_blocks.specs.Lines.{line_kind}
use Rattle.published_blocks.specs.Published.{AreFoundIn, IsFoundBy, IsPublished, IsRefused, published_by, found_with, nothing_found}
use Rattle.published_blocks.specs.Runs.{read_behind, run_ended_by, run_goes_on, no_run, run_with, runs_from, line_start, with_line}
use Rattle.published_blocks.specs.own.Reads.{AddsFound, AddsRuns, RunsAreRefused, IsNotCounted, IsReadUpTo, IsRefusedRun}

-- ---- joined

pub joined_none : (a : Published) → a ≡ found_with a nothing_found
joined_none a = (λ i. record { grammar = sym (append-nil a.grammar) i; unread = sym (append-nil a.unread) i })

joined_assoc : (a b c : Published) → found_with (found_with a b) c ≡ found_with a (found_with b c)
joined_assoc a b c = (λ i. record { grammar = append_assoc a.grammar b.grammar c.grammar i; unread = append_assoc a.unread b.unread c.unread i })

-- ---- one run more

-- none ends
pub adds_none : (found : Published) → AddsRuns [] found found
adds_none found = record { found = nothing_found; are = refl; new_is = joined_none found }

-- one does
pub adds_one : (run : Run) (old new : Published) → AddsFound run old new → AddsRuns (run ∷ []) old new
adds_one run old new adds = record {
  found = adds.found;
  are = (adds.found, nothing_found, adds.is, refl, joined_none adds.found);
  new_is = adds.new_is;
}

found_append : (xs ys : List Run) (a b : Published) → AreFoundIn xs a → AreFoundIn ys b → AreFoundIn (xs ++ ys) (found_with a b)
found_append [] ys a b p q = subst (AreFoundIn ys) (ap (λ c. found_with c b) (sym p)) q
found_append (x ∷ xs) ys a b p q =
    (p.0, found_with p.1 b, p.2, found_append xs ys p.1 b p.3 q, ap (λ c. found_with c b) p.4 ∙ joined_assoc p.0 p.1 b)

-- what was found, and then more
pub found_more : (done runs : List Run) (old new : Published) → AreFoundIn done old → AddsRuns runs old new → AreFoundIn (done ++ runs) new
found_more done runs old new was adds = subst (AreFoundIn (done ++ runs)) (sym adds.new_is) (found_append done runs old adds.found was adds.are)

-- nothing is found in a run that doesn't begin as a rule does
nothing_by : (lead : Lead) (run : Run) → ((n : ℕ) → lead ≡ Rule n → ⊥) → IsFoundBy lead run nothing_found
nothing_by Unknown run other = refl
nothing_by Other run other = refl
nothing_by (Rule n) run other = absurd (other n refl)

pub adds_nothing : (run : Run) (found : Published) → ((n : ℕ) → run.lead ≡ Rule n → ⊥) → AddsFound run found found
adds_nothing run found other = record { found = nothing_found; is = nothing_by run.lead run other; new_is = joined_none found }

-- why a run of so many bytes isn't read
pub refused_by : (run : Run) (fault : TextFault) → (fault ≡ TooLarge → max_bytes < length (encode_utf8_all (characters run.block))) → IsNotCounted run fault
refused_by run Memory large = tt
refused_by run TooLarge large = large refl

-- ---- a line with words

module _ (r : Reading) (begin : ℕ) (bytes l : List ℕ) (is : bytes ≡ encode_utf8_all l) where
  here : (goes : Bool) → run_goes_on r.gap r.run.lead bytes ≡ goes → run_goes_on r.gap r.run.lead (encode_utf8_all l) ≡ goes
  here goes e = ap (run_goes_on r.gap r.run.lead) (sym is) ∙ e

  ended : run_goes_on r.gap r.run.lead bytes ≡ false → run_ended_by Words l r ≡ r.run ∷ []
  ended e = ap (λ b. if b then [] else r.run ∷ []) (here false e)

  pub refused_one : (fault : TextFault) → run_goes_on r.gap r.run.lead bytes ≡ false → IsRefusedRun r.run fault → RunsAreRefused (run_ended_by Words l r) fault
  refused_one Memory e refused = tt
  refused_one TooLarge e refused = (r.run, subst (λ (rs : List Run). Contains rs r.run) (sym (ended e)) (Contains-push [] r.run), refused)

  pub found_one : (old new : Published) → run_goes_on r.gap r.run.lead bytes ≡ false → AddsFound r.run old new → AddsRuns (run_ended_by Words l r) old new
  found_one old new e adds = subst (λ (rs : List Run). AddsRuns rs old new) (sym (ended e)) (adds_one r.run old new adds)

  pub found_none : (found : Published) → run_goes_on r.gap r.run.lead bytes ≡ true → AddsRuns (run_ended_by Words l r) found found
  found_none found e = subst (λ (rs : List Run). AddsRuns rs found found) (sym (ap (λ b. if b then [] else r.run ∷ []) (here true e))) (adds_none found)

  abbrev words : Run → Reading
  words run = record { run = run; gap = Nothing; behind_feed = false }

  pub begun : (new old : Reading) (run : Run) → new ≡ words (with_line begin l old.run) → old.run ≡ run → run ≡ no_run begin → run_goes_on r.gap r.run.lead bytes ≡ false → new ≡ read_behind Words begin l r
  begun new old run pushed was none e =
      pushed ∙ (λ i. words (with_line begin l ((was ∙ none) i))) ∙ ap (λ b. words (run_with b begin l r.run)) (sym (here false e))

  pub gone_on : (new old : Reading) → new ≡ words (with_line begin l old.run) → old ≡ r → run_goes_on r.gap r.run.lead bytes ≡ true → new ≡ read_behind Words begin l r
  gone_on new old pushed was e =
      pushed ∙ (λ i. words (with_line begin l (was i).run)) ∙ ap (λ b. words (run_with b begin l r.run)) (sym (here true e))

-- ---- one line more

-- no line is found
pub none_of : {X : Type 0} (f : X → List ℕ) (o : Option X) (line : Option (List ℕ)) → option_map f o ≡ line → ((x : X) → o ≡ Some x → ⊥) → line ≡ None
none_of f None line e none = sym e
none_of f (Some x) line e none = absurd (none x refl)

-- a line at a place
line_at : (ls : List (List ℕ)) (at : ℕ) (l : List ℕ) → slice_get ls at ≡ Some l → drop at ls ≡ l ∷ drop (at + 1) ls
line_at [] at l e = cc
line_at (x ∷ xs) zero l e = cc
line_at (x ∷ xs) (suc at) l e = line_at xs at l e ∙ ap (λ k. l ∷ drop k (x ∷ xs)) (let e : suc (at + 1) ≡ suc at + 1 = omega arith in e)

no_line : (ls : List (List ℕ)) (at : ℕ) → slice_get ls at ≡ None → length ls ≤ at
no_line [] at e = omega arith
no_line (x ∷ xs) zero e = absurd (cc)
no_line (x ∷ xs) (suc at) e = omega (arith, no_line xs at e)

module _ (text : List ℕ) (at : ℕ) where
  -- the runs from a line on
  runs_next : (r : Reading) (l : List ℕ) → slice_get (lines text) at ≡ Some l
      → runs_from text r at (drop at (lines text)) ≡ run_ended_by (line_kind r.behind_feed (encode_utf8_all l)) l r ++ runs_from text (read_behind (line_kind r.behind_feed (encode_utf8_all l)) (line_start text at) l r) (at + 1) (drop (at + 1) (lines text))
  unfolding runs_from
  runs_next r l e =
      ap (runs_from text r at) (line_at (lines text) at l e)
      ∙ ap (λ n. run_ended_by (line_kind r.behind_feed (encode_utf8_all l)) l r ++ runs_from text (read_behind (line_kind r.behind_feed (encode_utf8_all l)) (line_start text at) l r) n (drop (at + 1) (lines text))) (let e : suc at ≡ at + 1 = omega arith in e)

  -- those from behind the last one on
  runs_last : (r : Reading) (n : ℕ) → length (lines text) ≤ n → runs_from text r n (drop n (lines text)) ≡ r.run ∷ []
  unfolding runs_from
  runs_last r n none = ap (runs_from text r n) (drop_all n (lines text) none)

  -- a line is read
  pub read_next : (old new : Reading) (found more : Published) (bytes l : List ℕ) → IsReadUpTo text at old found → bytes ≡ encode_utf8_all l → slice_get (lines text) at ≡ Some l
      → new ≡ read_behind (line_kind old.behind_feed bytes) (line_start text at) l old → AddsRuns (run_ended_by (line_kind old.behind_feed bytes) l old) found more → IsReadUpTo text (at + 1) new more
  read_next old new found more bytes l was bytes_are line is adds =
      let kind = λ (b : List ℕ). line_kind old.behind_feed b in
      let ended = run_ended_by (kind bytes) l old in
      record {
        done = was.done ++ ended;
        are = found_more was.done ended found more was.are adds;
        split = was.split
            ∙ ap (λ rs. was.done ++ rs) (runs_next old l line)
            ∙ ap (λ b. was.done ++ (run_ended_by (kind b) l old ++ runs_from text (read_behind (kind b) (line_start text at) l old) (at + 1) (drop (at + 1) (lines text)))) (sym bytes_are)
            ∙ ap (λ r. was.done ++ (ended ++ runs_from text r (at + 1) (drop (at + 1) (lines text)))) (sym is)
            ∙ sym (append_assoc was.done ended (runs_from text new (at + 1) (drop (at + 1) (lines text))));
      }

  -- there is none
  pub read_none : (r : Reading) (found : Published) → IsReadUpTo text at r found → slice_get (lines text) at ≡ None → IsReadUpTo text (at + 1) r found
  read_none r found was none =
      let behind = no_line (lines text) at none in
      record {
        done = was.done;
        are = was.are;
        split = was.split ∙ ap (λ rs. was.done ++ rs) (runs_last r at behind ∙ sym (runs_last r (at + 1) (omega (arith, behind))));
      }

  -- a run that a line ends is one of all
  pub refused_next : (old : Reading) (found : Published) (bytes l : List ℕ) (fault : TextFault) → IsReadUpTo text at old found → bytes ≡ encode_utf8_all l → slice_get (lines text) at ≡ Some l
      → RunsAreRefused (run_ended_by (line_kind old.behind_feed bytes) l old) fault → IsRefused text fault
  refused_next old found bytes l Memory was bytes_are line large = tt
  refused_next old found bytes l TooLarge was bytes_are line large =
      let here = subst (λ (b : List ℕ). Contains (run_ended_by (line_kind old.behind_feed b) l old) large.0) bytes_are large.1 in
      let left = Contains-append_left _ (runs_from text (read_behind (line_kind old.behind_feed (encode_utf8_all l)) (line_start text at) l old) (at + 1) (drop (at + 1) (lines text))) large.0 here in
      let among = Contains-append_right was.done _ large.0 (subst (λ (rs : List Run). Contains rs large.0) (sym (runs_next old l line)) left) in
      (large.0, subst (λ (rs : List Run). Contains rs large.0) (sym was.split) among, large.2)

  -- behind the last line the run that is left ends
  pub read_last : (r : Reading) (found more : Published) → IsReadUpTo text at r found → line_ends text + 1 ≤ at → AddsFound r.run found more → IsPublished text more
  read_last r found more was behind adds =
      let all = was.split ∙ ap (λ rs. was.done ++ rs) (runs_last r at (omega (arith, behind, length_lines text))) in
      subst (λ (rs : List Run). AreFoundIn rs more) (sym all) (found_more was.done (r.run ∷ []) found more was.are (adds_one r.run found more adds))

  pub refused_last : (r : Reading) (found : Published) (fault : TextFault) → IsReadUpTo text at r found → line_ends text + 1 ≤ at → IsRefusedRun r.run fault → IsRefused text fault
  refused_last r found Memory was behind large = tt
  refused_last r found TooLarge was behind large =
      let all = was.split ∙ ap (λ rs. was.done ++ rs) (runs_last r at (omega (arith, behind, length_lines text))) in
      let here : Contains (was.done ++ r.run ∷ []) r.run = Contains-push was.done r.run in
      (r.run, subst (λ (rs : List Run). Contains rs r.run) (sym all) here, large)

-- ---- there is something

some_by : (lead : Lead) (run : Run) → length run.block < 2 ^ 62 → (found : Published) × IsFoundBy lead run found
some_by Unknown run small = (nothing_found, refl)
some_by Other run small = (nothing_found, refl)
some_by (Rule n) run small =
    let counts = some_counts (characters run.block) (subst (λ (k : ℕ). k < 2 ^ 62) (sym (length-map run.block (λ c. c.0))) small) in
    (published_by run counts.0, (counts.0, counts.1, refl))

pub some_found : (runs : List Run) → All (λ run. length run.block < 2 ^ 62) runs → (found : Published) × AreFoundIn runs found
some_found [] small = (nothing_found, refl)
some_found (run ∷ runs) small =
    let here = some_by run.lead run (All-head (λ (r : Run). length r.block < 2 ^ 62) run runs small) in
    let rest = some_found runs (All-tail (λ (r : Run). length r.block < 2 ^ 62) run runs small) in
    (found_with here.0 rest.0, (here.0, rest.0, here.1, rest.1, refl))

-- ---- and only one thing

one_by : (lead : Lead) (run : Run) (a b : Published) → IsFoundBy lead run a → IsFoundBy lead run b → a ≡ b
one_by Unknown run a b p q = p ∙ sym q
one_by Other run a b p q = p ∙ sym q
one_by (Rule n) run a b p q = p.2 ∙ (ap (published_by run) (one_counts (characters run.block) p.0 q.0 p.1 q.1) ∙ sym q.2)

pub one_found : (runs : List Run) (a b : Published) → AreFoundIn runs a → AreFoundIn runs b → a ≡ b
one_found [] a b p q = p ∙ sym q
one_found (run ∷ runs) a b p q =
    p.4 ∙ ((λ i. found_with (one_by run.lead run p.0 q.0 p.2 q.2 i) (one_found runs p.1 q.1 p.3 q.3 i)) ∙ sym q.4)
