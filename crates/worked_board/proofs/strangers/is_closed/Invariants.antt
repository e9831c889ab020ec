use Rattle.worked_board.proofs.strangers.is_closed.Given as goal

abbrev pub ghosts-two_workers-C-BookName : goal.ghosts-two_workers-C-BookName
ghosts-two_workers-C-BookName g a = record { book = a.blanks.history }

abbrev pub ghosts-two_workers-C-Ledgers : goal.ghosts-two_workers-C-Ledgers
ghosts-two_workers-C-Ledgers g a = record { client = a.blanks.client.name; heard = a.blanks.heard.name; took = a.blanks.took.name; returned = a.blanks.returned.name; finished = a.blanks.finished.name; sent = a.blanks.sent.name; parts = 2 }

abbrev pub ghosts-two_workers-C-Crew : goal.ghosts-two_workers-C-Crew
ghosts-two_workers-C-Crew g a = record { workers = 2; max_journal = 1000000; max_events = 1000000 }
