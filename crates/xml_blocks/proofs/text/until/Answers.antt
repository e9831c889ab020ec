use Rattle.std.proofs.Common.{ap, ◌∙◌, arith}
use Rattle.std.specs.Prelude.{Some}
use Rattle.xml_blocks.proofs.MarkLaws.{mark_boundary, mark_found, mark_none, mark_small}
use Rattle.xml_blocks.proofs.text.until.Goals as goal

pub split_at-requires : goal.split_at-requires
split_at-requires c = mark_boundary c.args.text.now c.as_bytes.result.now c.args.mark.now c.utf8.text c.as_bytes.ensures.value c.requires.ascii c.requires.mark c.in-Some.at c.in-Some.ensures.1

pub returns-in-Some-clause-count : goal.returns-in-Some-clause-count
returns-in-Some-clause-count c =
    ap Some c.char_count.ensures.count
    ∙ mark_found c.args.text.now c.as_bytes.result.now c.args.mark.now c.utf8.text c.as_bytes.ensures.value c.requires.ascii c.requires.mark c.in-Some.at c.in-Some.ensures.1 c.split_at.result.0.now c.split_at.ensures.front c.split_at.ensures.front_len c.in-Some.ensures.0.before

pub returns-in-Some-clause-small : goal.returns-in-Some-clause-small
returns-in-Some-clause-small c =
    omega (
      arith,
      c.char_count.ensures.count,
      c.requires.small,
      mark_small c.args.text.now c.as_bytes.result.now c.args.mark.now c.utf8.text c.as_bytes.ensures.value c.requires.ascii c.requires.mark c.in-Some.at c.in-Some.ensures.1 c.split_at.result.0.now c.split_at.ensures.front c.split_at.ensures.front_len,
    )

pub returns-in-None-clause-count : goal.returns-in-None-clause-count
returns-in-None-clause-count c = mark_none c.args.text.now c.as_bytes.result.now c.args.mark.now c.utf8.text c.as_bytes.ensures.value c.requires.ascii c.requires.mark c.in-None.ensures
