use Rattle.std.proofs.Common.{◌∙◌, subst}
use Rattle.findings_index.specs.KeptBlocks.{AddsBlock}
use Rattle.findings_index.specs.Stored.{StandsFor, Stored}
use Rattle.findings_index.proofs.Storing.{head_is, is_said, one_more, own_is}
use Rattle.findings_index.proofs.store.Digests.push.Goals as goal

pub returns : goal.returns
returns c = λ block of.
    let section = c.args.section.now in
    let digests = c.self.inside in
    let mid = c.head_number.new.names in
    let grown : Stored = record { table = c.push_said.new.names; words = c.push_said.new.words.items; kept = c.push.new.self.items } in
    subst (λ s. AddsBlock (section.block.first, section.block.end) block s grown) c.self.view_is
    (one_more digests.names mid c.push_said.new.names digests.words.items c.push_said.new.words.items digests.blocks.items c.push.new.self.items
    _ (section.block.first, section.block.end) block c.in_ok-head.ensures.later (record {
      head = subst (λ head. StandsFor mid c.in_ok-head.head head) (head_is section block of) c.in_ok-head.ensures.head;
      added = c.in_ok-push_said.ensures block.said (is_said section block of);
      begins = c.in_ok-start.ensures.value ∙ (c.len.ensures ∙ digests.words.ok.0);
      ends = c.in_ok-end.ensures.value ∙ (c.len-2.ensures ∙ c.push_said.new.words.ok.0);
      first = c.in_ok-first.ensures.value;
      behind = c.in_ok-behind.ensures.value;
      own = c.has_own_findings.ensures ∙ own_is section block of;
    }) c.in_ok-push.ensures.items)
