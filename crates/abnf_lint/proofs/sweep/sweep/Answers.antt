use Rattle.std.proofs.Common.{◌≡◌, ◌-◌, ◌<◌, suc, true≢false, length, arith}
use Rattle.std.proofs.lemmas.Option.{slice_get_within}
use Rattle.abnf_parts.specs.Part.{parts_of, root_number}
use Rattle.abnf_lint.specs.Marks.{mark_at}
use Rattle.abnf_cert.proofs.Checked.{stands_at}
use Rattle.abnf_lint.proofs.ClosedMarks.{one_lower}
use Rattle.abnf_lint.proofs.NodeYields.{node_is, so_part}
use Rattle.abnf_lint.proofs.SoundMarks.{one_more}
use Rattle.abnf_lint.proofs.sweep.sweep.Goals as goal
use Rattle.abnf_lint.proofs.sweep.sweep.Goals.{else-not-marks-number-via-then-not-marks-number+else-yields, else-not-marks-number-via-else-not-marks-number}

pub loop-number-init : goal.loop-number-init
loop-number-init c = record {
  within = omega (arith, c.min-number.ensures, c.nodes-nodes.ensures.one_each);
  sound = c.requires;
  closed = λ e n p is least most yields.
      let within = slice_get_within (parts_of c.args.grammar.now.rules) n p is in
      absurd (omega (arith, c.min-number.ensures, c.nodes-nodes.ensures.one_each, least, most, within));
}

pub yields-requires : goal.yields-requires
yields-requires c =
    let nodes = c.nodes-nodes.result.now in
    let within : c.loop-number.number - 1 < length nodes = omega (arith, c.nodes-nodes.ensures.one_each, c.loop-number.invariant.within) in
    (stands_at c.args.grammar.now.rules nodes (c.loop-number.number - 1) c.index-nodes-number.result c.nodes-nodes.ensures within c.index-nodes-number.is).refers

pub loop-number-preserved-then-yields : goal.loop-number-preserved-then-yields
loop-number-preserved-then-yields c =
    let rules = c.args.grammar.now.rules in
    let nodes = c.nodes-nodes.result.now in
    let n = c.loop-number.number - 1 in
    let within : n < length nodes = omega (arith, c.nodes-nodes.ensures.one_each, c.loop-number.invariant.within) in
    let node = c.index-nodes-number.result in
    let stands = stands_at rules nodes n node c.nodes-nodes.ensures within c.index-nodes-number.is in
    let yields = so_part (mark_at c.loop-number.marks) (root_number rules) n stands.part node stands.of_part c.yields.result c.yields.ensures c.if-yields.true in
    let refers = (c.nodes-nodes.ensures.each n stands.part stands.is).3 in
    record {
      within = omega (arith, c.loop-number.invariant.within);
      sound = one_more rules c.loop-number.marks c.loop-number.invariant.sound n stands.part stands.is refers yields;
      closed = λ e. absurd (true≢false e);
    }

pub loop-number-preserved : goal.loop-number-preserved
loop-number-preserved c =
    let rules = c.args.grammar.now.rules in
    let marks = c.loop-number.marks in
    let nodes = c.nodes-nodes.result.now in
    let n = c.loop-number.number - 1 in
    let next : c.loop-number.number ≡ suc n = omega (arith, c.loop-number-test.true) in
    let within : n < length nodes = omega (arith, c.nodes-nodes.ensures.one_each, c.loop-number.invariant.within) in
    record {
      within = omega (arith, c.loop-number.invariant.within);
      sound = c.loop-number.invariant.sound;
      closed = λ e. one_lower rules marks c.loop-number.number n c.args.end next (c.loop-number.invariant.closed e)
          (λ p is yields. elim c.else-not-marks-number.branch [
            | else-not-marks-number-via-then-not-marks-number+else-yields w ↦
                let stands = stands_at rules nodes n w.index-nodes-number.result c.nodes-nodes.ensures within w.index-nodes-number.is in
                absurd (cc (yields, is, stands.is, node_is (mark_at marks) (root_number rules) n stands.part w.index-nodes-number.result stands.of_part, w.yields.ensures, w.if-yields.false))
            | else-not-marks-number-via-else-not-marks-number w ↦ w.if-not-marks-number.false
          ]);
    }
