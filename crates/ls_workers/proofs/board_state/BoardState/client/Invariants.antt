use Rattle.ls_workers.proofs.board_state.BoardState.client.Given as goal

abbrev pub ghosts-add_heard : goal.ghosts-add_heard
ghosts-add_heard g a = record { event = g.said }
