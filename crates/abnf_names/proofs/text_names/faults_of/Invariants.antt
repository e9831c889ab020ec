use Rattle.std.proofs.Common.{◌≡◌, ◌++◌, drop}
use Rattle.std.specs.Prelude.{filter_map}
use Rattle.abnf_names.specs.own.Passes.{section_fault}
use Rattle.abnf_names.proofs.text_names.faults_of.Given as goal

-- what is left gives the faults that are left
abbrev pub invariant-loop-section : goal.invariant-loop-section
invariant-loop-section l = filter_map section_fault l.sections ≡ l.faults ++ filter_map section_fault (drop l.section-index l.sections)
