use Rattle.std.proofs.Common.{◌≡◌, ◌∙◌, ◌++◌, Bool, List, [], false, length, replicate, map, drop, ap, subst, sym, append_assoc, ◌+◌}
use Rattle.abnf_names.specs.Excerpts.{Excerpt, excerpt}
use Rattle.abnf_lint.specs.declared.block.Seen.{Seen}
use Rattle.abnf_lint.specs.declared.finding.Finding.{Finding}
use Rattle.abnf_lint.specs.own.Findings.{block_findings}
use Rattle.abnf_lint.specs.own.Passes.{AreSoundWhereMarked, HaveRules, findings_behind, with_base, with_head}
use Rattle.abnf_lint.proofs.Sound.{all_blocks_sound}
use Rattle.abnf_lint.proofs.Seen.{has_mark, have_rules, none_seen, rest_is}
use Rattle.abnf_lint.proofs.findings_of.candidates.Goals as goal

pub loop-section-init : goal.loop-section-init
loop-section-init c =
    let g = c.args.grammar.now in
    let sections = c.args.sections.now in
    let none : Seen = record { is_head = false; is_base = false } in
    let seen : c.as_mut_slice-seen.result.now ≡ replicate (length g.rules) none =
    c.as_mut_slice-seen.ensures.value ∙ (c.in_ok-table.ensures.items_if_clones_equal (λ y e. e) ∙ ap (λ n. replicate n none) c.rule_count.ensures) in (
      [],
      [],
      none_seen g sections c.requires c.as_mut_slice-seen.result.now seen,
      ap (λ (fs : List Finding). fs ++ findings_behind c.args.marks.now g.names [] [] (map excerpt sections)) (sym c.new-found.ensures),
      have_rules g sections c.requires,
      subst (λ (ms : List Bool). AreSoundWhereMarked ms g.names [] (map excerpt sections)) (sym c.as_slice.ensures.value)
          (all_blocks_sound g sections c.requires c.in_ok-sound.sound.items c.in_ok-sound.ensures),
    )

pub push_block-requires-clause-mark : goal.push_block-requires-clause-mark
push_block-requires-clause-mark c =
    let names = c.args.grammar.now.names in
    let left = c.loop-section.invariant in
    let section = c.section-item.result in
    let split = rest_is c.args.sections.now c.loop-section.section-index section c.loop-section-test.true c.section-item.is in
    has_mark names left.0 left.1 c.loop-section.seen left.2 (excerpt section) (subst (λ (os : List Excerpt). HaveRules names os) split left.4).0

pub loop-section-preserved : goal.loop-section-preserved
loop-section-preserved c =
    let names = c.args.grammar.now.names in
    let marks = c.args.marks.now in
    let left = c.loop-section.invariant in
    let block = excerpt c.section-item.result in
    let split = rest_is c.args.sections.now c.loop-section.section-index c.section-item.result c.loop-section-test.true c.section-item.is in
    let rest : List Finding = findings_behind marks names (with_head left.0 block) (with_base left.1 block) (map excerpt (drop (c.loop-section.section-index + 1) c.args.sections.now)) in (
      with_head left.0 block,
      with_base left.1 block,
      c.in_ok-push_block.ensures.seen left.0 left.1 left.2,
      left.3
          ∙ (ap (λ (os : List Excerpt). c.loop-section.found ++ findings_behind marks names left.0 left.1 os) split
          ∙ (sym (append_assoc c.loop-section.found (block_findings marks names left.0 left.1 block) rest)
          ∙ ap (λ (fs : List Finding). fs ++ rest) (sym (c.in_ok-push_block.ensures.found left.0 left.1 left.2)))),
      (subst (λ (os : List Excerpt). HaveRules names os) split left.4).1,
      (subst (λ (os : List Excerpt). AreSoundWhereMarked c.as_slice.result.now names left.1 os) split left.5).1,
    )
