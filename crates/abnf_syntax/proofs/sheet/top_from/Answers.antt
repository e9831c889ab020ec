use Rattle.std.proofs.Common.{arith}
use Rattle.abnf_syntax.specs.Blocks.{line_texts}
use Rattle.abnf_syntax.proofs.TopLaws.{found_is_top, no_top}
use Rattle.abnf_syntax.proofs.sheet.top_from.Goals as goal

pub returns-in-Some : goal.returns-in-Some
returns-in-Some c =
    found_is_top (line_texts c.args.snapshot.now) c.args.from c.count_of-count.result c.in-Some.top (omega (arith, c.count_of-count.ensures)) c.requires.before c.in-Some.ensures

pub returns-in-None : goal.returns-in-None
returns-in-None c = no_top (line_texts c.args.snapshot.now) c.args.from c.count_of-count.result c.count_of-count.ensures c.requires.before c.in-None.ensures
