use Rattle.std.specs.Prelude.{◌+◌, nat_lt, if◌then◌else◌}
use Rattle.worked_board.proofs.ends.holds.Given as goal

abbrev pub ghosts-one_worker-C-BookName : goal.ghosts-one_worker-C-BookName
ghosts-one_worker-C-BookName g a = record { book = a.blanks.history }

abbrev pub ghosts-one_worker-C-Ledgers : goal.ghosts-one_worker-C-Ledgers
ghosts-one_worker-C-Ledgers g a = record { client = a.blanks.client.name; heard = a.blanks.heard.name; took = a.blanks.took.name; returned = a.blanks.returned.name; finished = a.blanks.finished.name; sent = a.blanks.sent.name; parts = 1 }

abbrev pub ghosts-one_worker-C-Crew : goal.ghosts-one_worker-C-Crew
ghosts-one_worker-C-Crew g a = record { workers = 1; max_journal = if nat_lt a.number 4 then a.number + 1 else 1000000; max_events = 1000000 }
