use Rattle.ls_threads.proofs.serve.serve_with_limits.Given as goal

abbrev pub ghosts-run_session-C-BookName : goal.ghosts-run_session-C-BookName
ghosts-run_session-C-BookName g a = record { book = a.blanks.history }

abbrev pub ghosts-run_session-C-Ledgers : goal.ghosts-run_session-C-Ledgers
ghosts-run_session-C-Ledgers g a = record { client = a.blanks.client.name; heard = a.blanks.heard.name; took = a.blanks.took.name; returned = a.blanks.returned.name; finished = a.blanks.finished.name; sent = a.blanks.sent.name; parts = a.limits.workers }

abbrev pub ghosts-run_session-C-Crew : goal.ghosts-run_session-C-Crew
ghosts-run_session-C-Crew g a = record { workers = a.limits.workers; max_journal = a.limits.journal; max_events = 18446744073709551614 }
