use Rattle.std.proofs.Common.{◌≡◌, ap, map, length, arith, ◌∙◌, Bool}
use Rattle.std.specs.Prelude.{◌==◌, vec_len}
use Rattle.abnf_syntax.specs.Items.{view}
use Rattle.abnf_syntax.proofs.GatherLaws.{not_empty}
use Rattle.abnf_syntax.proofs.block.Gathered.add_gap.Goals as goal

pub returns : goal.returns
returns c =
    let items = c.args.self.now.items in
    let count : vec_len items ≡ length items.items = omega arith in
    ap (λ (apart : Bool). record { items = map view items.items; apart = apart }) (not_empty items.items c.is_empty.result (c.is_empty.ensures ∙ ap (λ n. n == 0) count))
