use Rattle.std.proofs.Common.{◌∙◌, ◌+◌, ap, arith, subst, sym}
use Rattle.std.specs.Str.{chars}
use Rattle.std.proofs.lemmas.Str.{encodes-chars}
use Rattle.published_blocks.specs.declared.found.Published.{Published}
use Rattle.published_blocks.specs.declared.reading.Reading.{Reading}
use Rattle.published_blocks.specs.Lines.{line_kind}
use Rattle.published_blocks.specs.Runs.{read_behind}
use Rattle.published_blocks.specs.own.Reads.{IsReadUpTo}
use Rattle.published_blocks.proofs.FoundLaws.{none_of, read_last, read_next, read_none, refused_last, refused_next}
use Rattle.published_blocks.proofs.gather.gather_published.Goals as goal
use Rattle.published_blocks.proofs.gather.gather_published.Goals.{in-Some+in-Ok, in_default}

pub returns-in-Err-clause-fault : goal.returns-in-Err-clause-fault
returns-in-Err-clause-fault c =
    refused_next c.args.text.now c.loop-at.at c.loop-at.reading c.loop-at.found c.in-Some.line.now (chars c.in-Some.line.now) c.in-Err.fault c.loop-at.invariant
    (sym (encodes-chars c.in-Some.line.now c.in-Some.ensures.utf8)) (sym c.in-Some.ensures.characters) c.in-Err.ensures.fault

pub loop-at-preserved : goal.loop-at-preserved
loop-at-preserved c =
    let text = c.args.text.now in
    let at = c.loop-at.at in
    let old = c.loop-at.reading in
    elim c.match-line.branch [
      | in-Some+in-Ok w ↦
          let line = w.in-Some.line.now in
          let is = w.reading-is ∙ w.in-Ok.ensures.reading ∙ ap (λ begin. read_behind (line_kind old.behind_feed line) begin (chars line) old) w.start_of-begin.ensures.start in
          subst (λ (found : Published). IsReadUpTo text (at + 1) c.match-line.reading found) (sym w.found-is)
          (read_next text at old c.match-line.reading c.loop-at.found w.read_line.new.found line (chars line) c.loop-at.invariant
          (sym (encodes-chars line w.in-Some.ensures.utf8)) (sym w.in-Some.ensures.characters) is w.in-Ok.ensures.found)
      | in_default w ↦
          subst (λ (found : Published). IsReadUpTo text (at + 1) c.match-line.reading found) (sym w.found-is)
          (subst (λ (reading : Reading). IsReadUpTo text (at + 1) reading c.loop-at.found) (sym w.reading-is)
          (read_none text at old c.loop-at.found c.loop-at.invariant (none_of _ c.line.result _ c.line.ensures.characters w.in_default.not-Some)))
    ]

pub returns-in-Ok-end_run-clause-found : goal.returns-in-Ok-end_run-clause-found
returns-in-Ok-end_run-clause-found c =
    read_last c.args.text.now c.loop-at.at c.loop-at.reading c.loop-at.found c.end_run.new.found c.loop-at.invariant (omega (arith, c.loop-at-test.false, c.line_count-at-end.ensures)) c.in-Ok-end_run.ensures.found

pub returns-in-Err-end_run-clause-fault : goal.returns-in-Err-end_run-clause-fault
returns-in-Err-end_run-clause-fault c =
    refused_last c.args.text.now c.loop-at.at c.loop-at.reading c.loop-at.found c.in-Err-end_run.fault c.loop-at.invariant (omega (arith, c.loop-at-test.false, c.line_count-at-end.ensures)) c.in-Err-end_run.ensures.fault
