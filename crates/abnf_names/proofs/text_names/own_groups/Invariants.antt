use Rattle.std.proofs.Common.{map, take}
use Rattle.abnf_names.specs.Excerpts.{excerpt}
use Rattle.abnf_names.specs.own.Passes.{AreGrouped}
use Rattle.abnf_names.proofs.text_names.own_groups.Given as goal

abbrev pub invariant-loop-section : goal.invariant-loop-section
invariant-loop-section l = AreGrouped (map excerpt (take l.section-index l.sections)) l.groups
