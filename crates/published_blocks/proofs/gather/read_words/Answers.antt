use Rattle.std.proofs.Common.{◌∙◌, ap, subst, sym}
use Rattle.std.specs.Str.{chars}
use Rattle.std.proofs.lemmas.Str.{encodes-chars}
use Rattle.published_blocks.specs.declared.line.Kind.TheVariants.{Words}
use Rattle.published_blocks.specs.declared.found.Published.{Published}
use Rattle.published_blocks.specs.declared.reading.Reading.{Reading}
use Rattle.published_blocks.specs.Runs.{run_ended_by}
use Rattle.published_blocks.specs.own.Reads.{AddsRuns}
use Rattle.published_blocks.proofs.FoundLaws.{begun, found_none, found_one, gone_on, refused_one}
use Rattle.published_blocks.proofs.gather.read_words.Goals as goal
use Rattle.published_blocks.proofs.gather.read_words.Goals.{then-not-goes_on+in-Ok, else-not-goes_on}

pub returns-in-Err-clause-fault : goal.returns-in-Err-clause-fault
returns-in-Err-clause-fault c =
    let bytes = c.as_bytes.ensures.value ∙ sym (encodes-chars c.args.line.now c.utf8.line) in
    refused_one c.args.reading.now c.args.begin c.as_bytes.result.now (chars c.args.line.now) bytes c.in-Err.fault (sym c.goes_on.ensures ∙ c.if-not-goes_on.true) c.in-Err.ensures.fault

pub returns-clause-reading : goal.returns-clause-reading
returns-clause-reading c =
    let old = c.args.reading.now in
    let line = chars c.args.line.now in
    let bytes = c.as_bytes.ensures.value ∙ sym (encodes-chars c.args.line.now c.utf8.line) in
    elim c.if-not-goes_on.branch [
      | then-not-goes_on+in-Ok w ↦ begun old c.args.begin c.as_bytes.result.now line bytes c.push_line.new.self c.if-not-goes_on.reading w.begin_anew.new.self c.in_ok-push_line.ensures (ap (λ (r : Reading). r.run) w.reading-is) w.begin_anew.ensures (sym c.goes_on.ensures ∙ w.if-not-goes_on.true)
      | else-not-goes_on w ↦ gone_on old c.args.begin c.as_bytes.result.now line bytes c.push_line.new.self c.if-not-goes_on.reading c.in_ok-push_line.ensures w.reading-is (sym c.goes_on.ensures ∙ w.if-not-goes_on.false)
    ]

pub returns-clause-found : goal.returns-clause-found
returns-clause-found c =
    let old = c.args.reading.now in
    let line = chars c.args.line.now in
    let bytes = c.as_bytes.ensures.value ∙ sym (encodes-chars c.args.line.now c.utf8.line) in
    elim c.if-not-goes_on.branch [
      | then-not-goes_on+in-Ok w ↦ subst (λ (new : Published). AddsRuns (run_ended_by Words line old) c.args.found.now new) (sym w.found-is)
          (found_one old c.args.begin c.as_bytes.result.now line bytes c.args.found.now w.end_run.new.found (sym c.goes_on.ensures ∙ w.if-not-goes_on.true) w.in-Ok.ensures.found)
      | else-not-goes_on w ↦ subst (λ (new : Published). AddsRuns (run_ended_by Words line old) c.args.found.now new) (sym w.found-is)
          (found_none old c.args.begin c.as_bytes.result.now line bytes c.args.found.now (sym c.goes_on.ensures ∙ w.if-not-goes_on.false))
    ]
