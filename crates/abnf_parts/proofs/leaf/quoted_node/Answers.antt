use Rattle.std.proofs.Common.{◌∙◌, ap}
use Rattle.std.specs.Prelude.{codes}
use Rattle.abnf_token.specs.Folded.{lowercase}
use Rattle.abnf_parts.specs.declared.node.Node.TheVariants.{Quoted}
use Rattle.std.specs.Str.{bytes_eq}
use Rattle.abnf_parts.specs.Leaf.{before}
use Rattle.abnf_parts.proofs.leaf.quoted_node.Goals as goal

pub returns : goal.returns
returns c n = (
  c.cut-2.result.0,
  ap (λ exact. Quoted c.cut-2.result.0 exact) (c.eq.ensures ∙ ap (λ mark. bytes_eq (lowercase mark) (codes "%s")) c.cut.ensures.before),
  c.cut-2.ensures.before ∙ ap (before 0x22) c.cut.ensures.behind,
)
