use Rattle.abnf_parts.proofs.Pushing.{on_ok}
use Rattle.abnf_names.proofs.RulePass.{trees_kept}
use Rattle.abnf_names.proofs.rules.push_known.Goals as goal

pub returns-in-Some-clause-kept : goal.returns-in-Some-clause-kept
returns-in-Some-clause-kept c = on_ok c.push_concatenations.result _ _ (λ added. trees_kept _ _ _ _ _ added) c.push_concatenations.ensures
