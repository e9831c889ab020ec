use Rattle.worked_board.proofs.closings.holds.Given as goal

abbrev pub ghosts-one_session-C-BookName : goal.ghosts-one_session-C-BookName
ghosts-one_session-C-BookName g a = record { book = a.blanks.history }

abbrev pub ghosts-one_session-C-Ledgers : goal.ghosts-one_session-C-Ledgers
ghosts-one_session-C-Ledgers g a = record { client = a.blanks.client.name; heard = a.blanks.heard.name; took = a.blanks.took.name; returned = a.blanks.returned.name; finished = a.blanks.finished.name; sent = a.blanks.sent.name; parts = 1 }

abbrev pub ghosts-one_session-C-Crew : goal.ghosts-one_session-C-Crew
ghosts-one_session-C-Crew g a = record { workers = 1; max_journal = 1000000; max_events = 1000000 }
