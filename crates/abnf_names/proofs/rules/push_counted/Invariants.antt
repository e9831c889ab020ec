use Rattle.std.proofs.Common.{◌≤◌, suc, List, drop, length}
use Rattle.abnf_parts.specs.Names.{all_names, rule_number}
use Rattle.abnf_names.specs.own.Passes.{AreTold, HeadSaid, alternatives_of}
use Rattle.abnf_names.proofs.RulePass.{HasPushed}
use Rattle.abnf_names.proofs.rules.push_counted.Given as goal

abbrev pub invariant-loop-listed : goal.invariant-loop-listed
invariant-loop-listed l =
    (length l.fn.nodes.items ≤ length l.nodes.items)
    × ((definitions : List HeadSaid) → AreTold l.sections definitions →
    HasPushed (alternatives_of (rule_number (all_names l.numbering.names.now))) definitions l.is_defined (drop (suc l.listed-index) definitions) l.fn.nodes.items l.nodes.items l.fn.numbers l.numbers)
