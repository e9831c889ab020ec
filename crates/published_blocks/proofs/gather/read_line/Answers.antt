use Rattle.std.proofs.Common.{◌∙◌, List, ℕ, ap, subst, sym}
use Rattle.std.specs.Str.{chars}
use Rattle.std.proofs.lemmas.Str.{encodes-chars}
use Rattle.published_blocks.specs.declared.line.Kind.{Kind}
use Rattle.published_blocks.specs.declared.run.Gap.TheVariants.{Page}
use Rattle.published_blocks.specs.Lines.{is_feed_alone, line_kind}
use Rattle.published_blocks.specs.Runs.{read_behind, run_ended_by}
use Rattle.published_blocks.specs.own.Reads.{AddsRuns}
use Rattle.published_blocks.proofs.FoundLaws.{adds_none}
use Rattle.published_blocks.proofs.gather.read_line.Goals as goal

pub returns-in-Blank-clause-found : goal.returns-in-Blank-clause-found
returns-in-Blank-clause-found c =
    subst (λ (kind : Kind). AddsRuns (run_ended_by kind (chars c.args.line.now) c.args.reading.now) c.args.found.now c.args.found.now)
    (sym c.in-Blank.is ∙ c.kind_of.ensures ∙ ap (λ (b : List ℕ). line_kind c.args.reading.now.behind_feed b) c.as_bytes.ensures.value) (adds_none c.args.found.now)

pub returns-in-Break-clause-found : goal.returns-in-Break-clause-found
returns-in-Break-clause-found c =
    subst (λ (kind : Kind). AddsRuns (run_ended_by kind (chars c.args.line.now) c.args.reading.now) c.args.found.now c.args.found.now)
    (sym c.in-Break.is ∙ c.kind_of.ensures ∙ ap (λ (b : List ℕ). line_kind c.args.reading.now.behind_feed b) c.as_bytes.ensures.value) (adds_none c.args.found.now)

pub returns-in-Break-clause-reading : goal.returns-in-Break-clause-reading
returns-in-Break-clause-reading c =
    let old = c.args.reading.now in
    let line = chars c.args.line.now in
    let bytes = c.as_bytes-in-Break.ensures.value ∙ sym (encodes-chars c.args.line.now c.utf8.line) in
    c.pass_break.ensures
    ∙ ap (λ b. record { run = old.run; gap = Page; behind_feed = b }) (c.is_feed_alone.ensures ∙ ap is_feed_alone bytes)
    ∙ ap (λ (kind : Kind). read_behind kind c.args.begin line old) (sym c.in-Break.is ∙ c.kind_of.ensures ∙ ap (λ (b : List ℕ). line_kind old.behind_feed b) c.as_bytes.ensures.value)
