use Rattle.std.specs.Prelude.{◌+◌, nat_lt, if◌then◌else◌}
use Rattle.worked_board.proofs.overtaking.holds.Given as goal

abbrev pub ghosts-two_hovers-C-BookName : goal.ghosts-two_hovers-C-BookName
ghosts-two_hovers-C-BookName g a = record { book = a.blanks.history }

abbrev pub ghosts-two_hovers-C-Ledgers : goal.ghosts-two_hovers-C-Ledgers
ghosts-two_hovers-C-Ledgers g a = record { client = a.blanks.client.name; heard = a.blanks.heard.name; took = a.blanks.took.name; returned = a.blanks.returned.name; finished = a.blanks.finished.name; sent = a.blanks.sent.name; parts = 2 }

abbrev pub ghosts-two_hovers-C-Crew : goal.ghosts-two_hovers-C-Crew
ghosts-two_hovers-C-Crew g a = record { workers = 2; max_journal = if nat_lt a.number 4 then a.number + 1 else 1000000; max_events = 1000000 }
