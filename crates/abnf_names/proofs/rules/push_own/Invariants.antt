use Rattle.std.proofs.Common.{List, map, take}
use Rattle.abnf_parts.specs.Names.{all_names, rule_number}
use Rattle.abnf_names.specs.own.Passes.{AllTold, HeadSaid, tree_of}
use Rattle.abnf_parts.specs.Pushed.{AddsTrees}
use Rattle.abnf_names.proofs.rules.push_own.Given as goal

abbrev pub invariant-loop-sections : goal.invariant-loop-sections
invariant-loop-sections l =
    (definitions : List (List HeadSaid)) → AllTold l.own definitions →
    AddsTrees (map (tree_of (rule_number (all_names l.numbering.names.now))) (take l.sections-index definitions)) l.initial.nodes.items l.nodes.items l.initial.roots l.roots
