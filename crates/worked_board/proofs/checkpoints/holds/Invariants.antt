use Rattle.worked_board.proofs.checkpoints.holds.Given as goal

abbrev pub ghosts-one_row-C-BookName : goal.ghosts-one_row-C-BookName
ghosts-one_row-C-BookName g a = record { book = a.blanks.history }

abbrev pub ghosts-one_row-C-Ledgers : goal.ghosts-one_row-C-Ledgers
ghosts-one_row-C-Ledgers g a = record { client = a.blanks.client.name; heard = a.blanks.heard.name; took = a.blanks.took.name; returned = a.blanks.returned.name; finished = a.blanks.finished.name; sent = a.blanks.sent.name; parts = 1 }

abbrev pub ghosts-one_row-C-Crew : goal.ghosts-one_row-C-Crew
ghosts-one_row-C-Crew g a = record { workers = 1; max_journal = a.journal; max_events = 1000000 }
