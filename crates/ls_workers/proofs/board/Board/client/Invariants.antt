use Rattle.ls_workers.proofs.board.Board.client.Given as goal

abbrev pub ghost-client : goal.ghost-client
ghost-client g a = a.event
