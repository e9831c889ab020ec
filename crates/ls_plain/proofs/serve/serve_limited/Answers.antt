use Rattle.std.proofs.Common.{sym}
use Rattle.ls_plain.proofs.Outputs.{run_told}
use Rattle.ls_plain.proofs.serve.serve_limited.Goals as goal

-- `c.writer-1` is the prover's own name for what stands behind the `&mut` that `answering` held. There is such a step only since that field
-- is bound by a name where `answering` is taken apart: else nothing is known of what is behind it. `given.1` says that it is what stands
-- behind the argument `writer`, as the reference is still the same.

pub returns-clause-served : goal.returns-clause-served
returns-clause-served g c = rw (c.writer-1.given.1 (sym c.answer_input-answer.ensures.same_reference)) c.answer_input-answer.ensures.served

pub returns-clause-good : goal.returns-clause-good
returns-clause-good g c = rw (c.writer-1.given.1 (sym c.answer_input-answer.ensures.same_reference)) c.answer_input-answer.ensures.good

pub returns-clause-flushed : goal.returns-clause-flushed
returns-clause-flushed g c = rw (c.writer-1.given.1 (sym c.answer_input-answer.ensures.same_reference)) c.answer_input-answer.ensures.flushed

pub returns-clause-whole : goal.returns-clause-whole
returns-clause-whole g c = rw (c.writer-1.given.1 (sym c.answer_input-answer.ensures.same_reference)) (run_told _ _ _ _ _ c.answer_input-answer.result _ c.answer_input-answer.ensures.served)
