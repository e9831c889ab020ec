use Rattle.std.proofs.Common.{◌≡◌, ◌∙◌, ◌^◌, ◌<◌, ℕ, List, length, ap, subst, sym}
use Rattle.std.specs.Arc.{arc_value}
use Rattle.abnf_token.specs.Classes.{Text}
use Rattle.abnf_syntax.specs.Blocks.{IsTop, line_texts}
use Rattle.abnf_lint.specs.Rows.{AreRows}
use Rattle.findings_index.specs.KeptBlocks.{IsKeptOf}
use Rattle.incremental_findings.proofs.FollowLaws.{rows_moved, texts_have_tokens}
use Rattle.incremental_findings.proofs.diagnosed.Diagnosed.followed.Goals as goal
use Rattle.incremental_findings.proofs.diagnosed.Diagnosed.followed.Goals.{else-is_clean, then-is_clean}

pub followed-requires-clause-tokens : goal.followed-requires-clause-tokens
followed-requires-clause-tokens c = texts_have_tokens c.deref.result.now c.with_top-ours.result c.with_top-ours.ensures.lines c.with_top-ours.ensures.small

pub say_the_same-moves-requires-clause-tokens : goal.say_the_same-moves-requires-clause-tokens
say_the_same-moves-requires-clause-tokens c = texts_have_tokens c.deref.result.now c.with_top-ours.result c.with_top-ours.ensures.lines c.with_top-ours.ensures.small

pub invariant_of-result : goal.invariant_of-result
invariant_of-result c =
    let text = arc_value c.self.inside.snapshot in
    let other = arc_value c.args.snapshot in
    let ours : c.with_top-ours.result ≡ line_texts text = c.with_top-ours.ensures.lines ∙ ap line_texts c.deref.ensures in
    let theirs : c.followed-theirs.result ≡ line_texts other = c.followed-theirs.ensures.lines ∙ ap line_texts c.deref-2.ensures in
    let small : length text < 2 ^ 62 = subst (λ (t : List ℕ). length t < 2 ^ 62) c.deref.ensures c.with_top-ours.ensures.small in
    let there : length other < 2 ^ 62 = subst (λ (t : List ℕ). length t < 2 ^ 62) c.deref-2.ensures c.followed-theirs.ensures.small in
    let rows : AreRows other c.moved.result =
    elim c.if-is_clean.branch [
      | then-is_clean w ↦
          rows_moved text other c.with_top-ours.result c.followed-theirs.result c.self.inside.findings c.as_slice.result.now c.moved.result c.in-Some.change.blocks ours theirs small there c.in-Some.ensures.blocks
          c.as_slice.ensures (c.is_clean.ensures w.if-is_clean.true) (w.say_the_same-moves.ensures (sym w.moves-is ∙ c.if-moves.true)) c.moved.ensures c.self.invariant.0
      | else-is_clean w ↦ absurd (cc (w.moves-is, c.if-moves.true))
    ]
    in
    let top = c.top-top.result in (
      rows,
      subst (λ (ls : List Text). IsKeptOf ls c.in_ok-blocks.blocks) theirs c.in_ok-blocks.ensures,
      subst (λ (ls : List Text). IsTop ls top.line top.indent) theirs c.top-top.ensures,
    )
