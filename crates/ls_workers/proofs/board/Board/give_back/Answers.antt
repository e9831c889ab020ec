use Rattle.ls_workers.proofs.board.Board.give_back.Goals as goal

pub returns-clause-returned : goal.returns-clause-returned
returns-clause-returned g c = c.give_back-result.ensures.returned

pub returns-clause-cause : goal.returns-clause-cause
returns-clause-cause g c = c.give_back-result.ensures.cause
