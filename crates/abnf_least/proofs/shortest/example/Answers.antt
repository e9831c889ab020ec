use Rattle.std.proofs.lemmas.Result.{on_err_weaker}
use Rattle.abnf_cert.proofs.Checked.{not_false}
use Rattle.abnf_parts.specs.Reach.{ReachesOpaque}
use Rattle.abnf_least.proofs.OneShown.{shown_if}
use Rattle.abnf_least.proofs.Accept.{if_ok}
use Rattle.abnf_least.proofs.shortest.example.Goals as goal

clear : (c : goal.After-known) → ReachesOpaque c.args.grammar.now.rules c.args.rule → ⊥
clear c reaches = not_false c.reaches_opaque.result c.if-reaches_opaque.false (c.reaches_opaque.ensures.1 reaches)

pub returns-clause-shown : goal.returns-clause-shown
returns-clause-shown c = if_ok c.known.result c.known.ensures.known (λ s is. shown_if c.args.grammar.now.rules c.args.rule s (clear c) is)

pub returns-clause-memory : goal.returns-clause-memory
returns-clause-memory c = on_err_weaker c.known.result (λ has. (clear c, has)) c.known.ensures.memory
