use Rattle.ls_workers.proofs.board.Board.wanted.Goals as goal

pub returns-clause-wanted : goal.returns-clause-wanted
returns-clause-wanted g c = c.wanted.ensures.wanted
