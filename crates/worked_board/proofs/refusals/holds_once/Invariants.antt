use Rattle.worked_board.proofs.refusals.holds_once.Given as goal

abbrev pub ghosts-strays_once-C-BookName : goal.ghosts-strays_once-C-BookName
ghosts-strays_once-C-BookName g a = record { book = a.blanks.history }

abbrev pub ghosts-strays_once-C-Ledgers : goal.ghosts-strays_once-C-Ledgers
ghosts-strays_once-C-Ledgers g a = record { client = a.blanks.client.name; heard = a.blanks.heard.name; took = a.blanks.took.name; returned = a.blanks.returned.name; finished = a.blanks.finished.name; sent = a.blanks.sent.name; parts = 1 }

abbrev pub ghosts-strays_once-C-Crew : goal.ghosts-strays_once-C-Crew
ghosts-strays_once-C-Crew g a = record { workers = 1; max_journal = 1000000; max_events = 1000000 }
