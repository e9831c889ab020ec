use Rattle.abnf_parts.specs.Nodes.{trees_at}
use Rattle.abnf_names.proofs.UsersLaws.{is_range}
use Rattle.abnf_names.proofs.range.range_of.Goals as goal

pub returns : goal.returns
returns c =
    is_range (trees_at c.args.nodes.now c.args.roots.now) c.args.nodes.now c.args.roots.now c.requires.numbered.0 c.requires.numbered.1 c.args.rule c.index-roots-rule.result c.get.result c.end_of.result c.requires.rule
    c.index-roots-rule.is c.get.ensures c.end_of.ensures
