use Rattle.worked_board.proofs.refusals.holds.Given as goal

abbrev pub ghosts-works-C-BookName : goal.ghosts-works-C-BookName
ghosts-works-C-BookName g a = record { book = a.blanks.history }

abbrev pub ghosts-works-C-Ledgers : goal.ghosts-works-C-Ledgers
ghosts-works-C-Ledgers g a = record { client = a.blanks.client.name; heard = a.blanks.heard.name; took = a.blanks.took.name; returned = a.blanks.returned.name; finished = a.blanks.finished.name; sent = a.blanks.sent.name; parts = 1 }

abbrev pub ghosts-works-C-Crew : goal.ghosts-works-C-Crew
ghosts-works-C-Crew g a = record { workers = 1; max_journal = 1000000; max_events = a.events }
