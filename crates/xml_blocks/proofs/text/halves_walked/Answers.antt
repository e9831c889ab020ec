use Rattle.xml_blocks.proofs.XmlLaws.{front_chars, rest_boundary, rest_le}
use Rattle.xml_blocks.proofs.text.halves_walked.Goals as goal

pub overflow_sub-text : goal.overflow_sub-text
overflow_sub-text c = rest_le c.args.text.now c.walked-rest.result.now c.args.count c.utf8.text c.walked-rest.utf8 c.walked-rest.ensures

pub split_at-requires : goal.split_at-requires
split_at-requires c = rest_boundary c.args.text.now c.walked-rest.result.now c.args.count c.utf8.text c.walked-rest.utf8 c.walked-rest.ensures

pub returns-clause-front : goal.returns-clause-front
returns-clause-front c = front_chars c.args.text.now c.walked-rest.result.now c.args.count c.utf8.text c.walked-rest.utf8 c.walked-rest.ensures c.split_at.result.0.now c.split_at.ensures.front
