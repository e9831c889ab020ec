use Rattle.xml_blocks.proofs.ByteLaws.{ascii_front, ascii_rest}
use Rattle.xml_blocks.proofs.text.halves.Goals as goal

pub returns-then-is_ascii-clause-front : goal.returns-then-is_ascii-clause-front
returns-then-is_ascii-clause-front c = ascii_front c.args.text.now c.in-Some.front.now c.in-Some.rest.now c.args.count c.if-is_ascii.ensures.cases c.in-Some.ensures.front c.in-Some.ensures.back c.in-Some.ensures.front_len

pub returns-then-is_ascii-clause-back : goal.returns-then-is_ascii-clause-back
returns-then-is_ascii-clause-back c = ascii_rest c.args.text.now c.in-Some.front.now c.in-Some.rest.now c.args.count c.if-is_ascii.ensures.cases c.in-Some.ensures.front c.in-Some.ensures.back c.in-Some.ensures.front_len
