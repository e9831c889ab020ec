-- The steps of a front keep the rule.
use Rattle.std.proofs.Common.{◌≡◌, ℕ, ◌+◌, ◌<◌, ◌==◌, Bool, true, false, List, [], ◌∷◌, ◌++◌, length, refl, ap, sym, ◌∙◌, subst, arith, inl, length-append, append-nil, None}
use Rattle.std.proofs.lemmas.Bool.Decides.{nat_tests}
use mathlib.Core.List.{IsPrefix}
use prog.Atomic.{either}
use Rattle.logbook.specs.Pages.{Cell, cell, keeps, no_nib, step, Moves, Goes}
use Rattle.ls_history.specs.declared.history_entry.HistoryEntry.{HistoryEntry}
use Rattle.ls_history.specs.History.{IsLegalHistory, MayHappen, replay_entries}
use Rattle.ls_history.specs.Places.{beginning}
use Rattle.ls_history.specs.own.Rules.{IsLogKept, Adds}
use Rattle.ls_history.proofs.Fronts.{prefix_whole}
use Rattle.ls_history.proofs.Histories.{legal_more}

abbrev pub shown : List HistoryEntry → List HistoryEntry
shown log = []

abbrev pub moved : List HistoryEntry → List HistoryEntry → ℕ → Type 0
moved xs ys n = Unit {0}

adds_goes : (v log : List HistoryEntry) (e : HistoryEntry) (old : ℕ) → old ≡ length v → MayHappen (replay_entries beginning v) e → IsLegalHistory log → IsPrefix v log → (b : Bool) → (length log == old) ≡ b
    → Goes IsLogKept shown moved 0 (v, (no_nib, None)) (λ n. either (n == old) (old + 1) n) (Adds (step 0 old (old + 1) e) (v, (no_nib, None))) ((length log, true) ∷ (0, true) ∷ []) log
adds_goes v log e old len may legal pre true is =
    let here : length log ≡ old = grind (arith, nat_tests) in
    let whole : v ≡ log = prefix_whole v log pre (omega arith) in
    let next : IsLegalHistory (log ++ e ∷ []) = legal_more beginning log e legal (subst (λ (l : List HistoryEntry). MayHappen (replay_entries beginning l) e) whole may) in
    let n : either (length log == old) (old + 1) (length log) ≡ length (log ++ e ∷ []) = rw is (omega (arith, length-append log (e ∷ []))) in (
      keeps,
      e ∷ [],
      None,
      tt,
      record { words = ap (λ (k : ℕ). (k, true) ∷ (0, true) ∷ []) n; legal = next },
      inl (refl, refl),
      rw is (ap (λ w. w ++ e ∷ []) (sym whole), ap length whole ∙ here),
    )
adds_goes v log e old len may legal pre false is =
    let all : log ++ [] ≡ log = append-nil log in
    let n : either (length log == old) (old + 1) (length log) ≡ length (log ++ []) = rw is (ap length (sym all)) in (
      keeps,
      [],
      None,
      tt,
      record { words = ap (λ (k : ℕ). (k, true) ∷ (0, true) ∷ []) n; legal = subst IsLegalHistory (sym all) legal },
      inl (refl, refl),
      rw is tt,
    )

-- whatever the book is, the exchange adds an entry that may follow v, where v is all of the history
pub adds_moves : (v : List HistoryEntry) (e : HistoryEntry) (old : ℕ) → old ≡ length v → MayHappen (replay_entries beginning v) e
    → Moves IsLogKept shown moved 0 (v, (no_nib, None)) (λ n. either (n == old) (old + 1) n) (Adds (step 0 old (old + 1) e) (v, (no_nib, None)))
adds_moves v e old len may cs log kept pre away =
    let P : List Cell → Type 0 = λ c. (0 < length c) × ((cell c 0).1 ≡ true) × Goes IsLogKept shown moved 0 (v, (no_nib, None)) (λ n. either (n == old) (old + 1) n) (Adds (step 0 old (old + 1) e) (v, (no_nib, None))) c log in
    subst P (sym kept.words) (omega arith, refl, adds_goes v log e old len may kept.legal pre (length log == old) refl)
