use Rattle.abnf_names.proofs.OwnPass.{grouped_next}
use Rattle.abnf_names.proofs.text_names.own_groups.Goals as goal

pub loop-section-preserved : goal.loop-section-preserved
loop-section-preserved c =
    grouped_next c.args.sections.now c.loop-section.section-index (record { section = record { ref_ptr = (0, 0); now = c.section-item.result } }) c.section-item.result c.loop-section.groups c.put_section.new.groups c.loop-section-test.true
    c.section-item.is c.loop-section.invariant c.in_ok-put_section.ensures
