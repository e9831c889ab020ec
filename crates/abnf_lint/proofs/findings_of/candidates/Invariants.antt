use Rattle.std.proofs.Common.{◌≡◌, ◌++◌, List, [], map, drop}
use Rattle.abnf_parts.specs.Names.{Name}
use Rattle.abnf_names.specs.Excerpts.{excerpt}
use Rattle.abnf_lint.specs.own.Passes.{AreSoundWhereMarked, HaveSeen, HaveRules, findings_behind}
use Rattle.abnf_lint.proofs.findings_of.candidates.Given as goal

-- What is left gives the findings that are left, behind blocks with these heads. Their names have rules, and where a
-- mark stands beside its rule, nothing is found at the items of what counts of it.
abbrev pub invariant-loop-section : goal.invariant-loop-section
invariant-loop-section l =
    (heads bases : List Name)
    × HaveSeen l.grammar.names heads bases l.seen
    × (findings_behind l.marks l.grammar.names [] [] (map excerpt l.sections)
    ≡ l.found ++ findings_behind l.marks l.grammar.names heads bases (map excerpt (drop l.section-index l.sections)))
    × HaveRules l.grammar.names (map excerpt (drop l.section-index l.sections))
    × AreSoundWhereMarked l.known.sound.now l.grammar.names bases (map excerpt (drop l.section-index l.sections))
