use Rattle.refused_memory.proofs.board.begun.Given as goal

abbrev pub ghosts-session-C-BookName : goal.ghosts-session-C-BookName
ghosts-session-C-BookName g a = record { book = a.blanks.history }

abbrev pub ghosts-session-C-Ledgers : goal.ghosts-session-C-Ledgers
ghosts-session-C-Ledgers g a = record { client = a.blanks.client.name; heard = a.blanks.heard.name; took = a.blanks.took.name; returned = a.blanks.returned.name; finished = a.blanks.finished.name; sent = a.blanks.sent.name; parts = 1 }

abbrev pub ghosts-session-C-Crew : goal.ghosts-session-C-Crew
ghosts-session-C-Crew g a = record { workers = 1; max_journal = 1; max_events = 1000000 }
