use Rattle.std.proofs.Common.{◌≡◌, ◌∙◌, ◌+◌, ◌++◌, [], map, drop, sym, ap, subst, arith}
use Rattle.std.specs.Prelude.{slice_index_or}
use Rattle.abnf_token.specs.Marks.{AreMarks}
use Rattle.abnf_syntax.specs.Blocks.{line_texts}
use Rattle.abnf_syntax.proofs.BlockLaws.{count_lines}
use Rattle.abnf_names.specs.Places.{named_at}
use Rattle.ls_text.specs.Lines.{line_ends}
use Rattle.ls_text.specs.Positions.{Measured}
use Rattle.ls_answers.specs.own.Walk.{told_in_line}
use Rattle.ls_answers.proofs.WalkLaws.{all_walked, line_walked}
use Rattle.ls_answers.proofs.semantic_tokens.told.Goals as goal

pub loop-line-preserved : goal.loop-line-preserved
loop-line-preserved c = record {
  walked = line_walked c.args.encoding c.args.grammar.now c.loop-line.line c.loop-line.tokens c.push_line.new.tokens (map named_at (drop c.loop-line.passed c.spots-spots.result.now)) (map named_at (drop c.in_ok-passed.passed c.spots-spots.result.now)) c.marks_at.result.now
      c.loop-line.invariant.walked (subst (λ t. AreMarks (slice_index_or (line_texts t) c.loop-line.line []) c.marks_at.result.now) c.source-snapshot.ensures.text c.marks_at.ensures)
      (c.in_ok-passed.ensures.told ∙ ap (λ (m : Measured). c.loop-line.tokens ++ told_in_line m.encoding c.args.grammar.now c.loop-line.line c.marks_at.result.now (map named_at (drop c.loop-line.passed c.spots-spots.result.now))) c.loop-line.invariant.text)
      c.in_ok-passed.ensures.left;
  text = c.push_line.ensures.text ∙ c.loop-line.invariant.text;
  within = c.in_ok-passed.ensures.within;
}

pub returns-clause-told : goal.returns-clause-told
returns-clause-told c =
    let at_end : c.loop-line.line ≡ c.line_count-line-end.result = omega (arith, c.loop-line-test.false) in
    let count = c.line_count-line-end.ensures ∙ ap (λ t. line_ends t + 1) c.source-snapshot.ensures.text ∙ sym (count_lines c.args.grammar.now.text) in
    all_walked c.args.encoding c.args.grammar.now c.loop-line.line c.loop-line.tokens (map named_at (drop c.loop-line.passed c.spots-spots.result.now)) (at_end ∙ count) c.loop-line.invariant.walked
