-- The rule of the book, and what its step says.
use Rattle.std.specs.Prelude.{◌≡◌, ◌==◌, ◌++◌, ◌∷◌, ℕ, true, List, [], length, MatchBool}
use Rattle.logbook.specs.Pages.{Cell, Step, View, Book, Named}
use Rattle.ls_history.specs.declared.history_entry.HistoryEntry.{HistoryEntry}
use Rattle.ls_history.specs.History.{IsLegalHistory}

-- The first word is the length of the history, which is legal. The second isn't used.
pub record IsLogKept (cells : List Cell) (log : List HistoryEntry) : Type 0 where
  pub words : cells ≡ (length log, true) ∷ (0, true) ∷ []
  pub legal : IsLegalHistory log

-- the book's first word
abbrev pub first_word : Book → Named
first_word b = record { tracked = true; key = 0; book = b }

-- The entry was added to all that had been seen, which was so long, where the word was found to be that length; else nothing is said.
abbrev pub Adds : Step HistoryEntry → View HistoryEntry ℕ → ℕ → View HistoryEntry ℕ → Type 0
Adds s v found w = MatchBool (found == s.old) ((w.0 ≡ v.0 ++ s.ask ∷ []) × (length v.0 ≡ s.old)) (Unit {0})
