use Rattle.ls_workers.proofs.board.Board.take.Goals as goal

pub returns-then-has_more-clause-some : goal.returns-then-has_more-clause-some
returns-then-has_more-clause-some g c = c.take-job.ensures.some

pub returns-then-has_more-clause-taken : goal.returns-then-has_more-clause-taken
returns-then-has_more-clause-taken g c = c.take-job.ensures.taken

pub returns-then-has_more-clause-none : goal.returns-then-has_more-clause-none
returns-then-has_more-clause-none g c = c.take-job.ensures.none

pub returns-then-has_more-clause-err : goal.returns-then-has_more-clause-err
returns-then-has_more-clause-err g c = c.take-job.ensures.err

pub returns-then-has_more-clause-refused : goal.returns-then-has_more-clause-refused
returns-then-has_more-clause-refused g c = c.take-job.ensures.refused

pub returns-then-has_more-clause-cause : goal.returns-then-has_more-clause-cause
returns-then-has_more-clause-cause g c = c.take-job.ensures.cause

pub returns-then-has_more-clause-follows : goal.returns-then-has_more-clause-follows
returns-then-has_more-clause-follows g c = c.take-job.ensures.follows

pub returns-then-has_more-clause-others : goal.returns-then-has_more-clause-others
returns-then-has_more-clause-others g c = c.take-job.ensures.others

pub returns-then-has_more-clause-kept : goal.returns-then-has_more-clause-kept
returns-then-has_more-clause-kept g c = c.take-job.ensures.kept
