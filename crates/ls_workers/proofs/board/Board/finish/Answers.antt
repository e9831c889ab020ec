use Rattle.ls_workers.proofs.board.Board.finish.Goals as goal

pub returns-clause-ok : goal.returns-clause-ok
returns-clause-ok g c = c.finish-result.ensures.ok

pub returns-clause-finished : goal.returns-clause-finished
returns-clause-finished g c = c.finish-result.ensures.finished

pub returns-clause-err : goal.returns-clause-err
returns-clause-err g c = c.finish-result.ensures.err

pub returns-clause-refused : goal.returns-clause-refused
returns-clause-refused g c = c.finish-result.ensures.refused

pub returns-clause-cause : goal.returns-clause-cause
returns-clause-cause g c = c.finish-result.ensures.cause

pub returns-clause-follows : goal.returns-clause-follows
returns-clause-follows g c = c.finish-result.ensures.follows

pub returns-clause-others : goal.returns-clause-others
returns-clause-others g c = c.finish-result.ensures.others

pub returns-clause-kept : goal.returns-clause-kept
returns-clause-kept g c = c.finish-result.ensures.kept
