-- Runs of lines of a published RFC, in which grammars stand.
use Rattle.std.specs.Prelude.{ℕ, suc, ◌+◌, Bool, true, false, not, ◌&&◌, nat_lt, List, [], ◌∷◌, ◌++◌, length, if◌then◌else◌}
use Rattle.std.specs.Str.{encode_utf8_all}
use Rattle.ls_text.specs.Lines.{lines, offset_of, units}
use Rattle.ls_text.specs.declared.position.Encoding.TheVariants.{Utf32}
use Rattle.abnf_token.specs.Classes.{Text}
use Rattle.abnf_syntax.specs.Blocks.{indent, is_content}
use Rattle.origins.specs.Origins.{Sourced, from}
use Rattle.published_blocks.specs.declared.line.Kind.{Kind}
use Rattle.published_blocks.specs.declared.line.Kind.TheVariants as kind
use Rattle.published_blocks.specs.declared.run.Gap.{Gap}
use Rattle.published_blocks.specs.declared.run.Gap.TheVariants.{Nothing, Blank, Page}
use Rattle.published_blocks.specs.declared.run.Lead.{Lead}
use Rattle.published_blocks.specs.declared.run.Lead.TheVariants.{Unknown, Other, Rule}
use Rattle.published_blocks.specs.declared.run.Run.{Run}
use Rattle.published_blocks.specs.declared.reading.Reading.{Reading}
use Rattle.published_blocks.specs.Lines.{is_feed_alone, is_head, line_kind}

-- ---- a run

-- what a line with content says of its run
abbrev pub lead_of : Text → Lead
lead_of line = if is_head line then Rule (indent line) else Other

-- what is known of a run behind a line more: its first line with content decides
abbrev pub lead_with : Lead → Text → Lead
lead_with Unknown line = if is_content line then lead_of line else Unknown
lead_with lead line = lead

-- the offset at which a line begins
abbrev pub line_start : List ℕ → ℕ → ℕ
line_start text at = offset_of (units Utf32) text at 0

-- a line, and LF in the place of its line end
abbrev pub line_content : ℕ → List ℕ → List Sourced
line_content begin line = from begin line ++ (10, begin + length line) ∷ []

-- a run with a line more, which begins at this offset
abbrev pub with_line : ℕ → List ℕ → Run → Run
with_line begin line run = record {
  begin = run.begin;
  end = begin + length line;
  lead = lead_with run.lead (encode_utf8_all line);
  block = run.block ++ line_content begin line;
}

-- no lines, at an offset
abbrev pub no_run : ℕ → Run
no_run begin = record { begin = begin; end = begin; lead = Unknown; block = [] }

-- ---- what goes on

-- A line with words goes on with the run before it, unless something stands between. Behind a page break it does where the run begins with
-- a rule, and the line is indented deeper than that and begins no other one (RFC 5234 section 2.2 has the lines that continue a rule
-- indented).
abbrev pub run_goes_on : Gap → Lead → Text → Bool
run_goes_on Nothing lead line = true
run_goes_on Blank lead line = false
run_goes_on Page (Rule n) line = nat_lt n (indent line) && not (is_head line)
run_goes_on Page lead line = false

-- what stands between lines, with a blank line more
abbrev pub with_blank : Gap → Gap
with_blank Page = Page
with_blank gap = Blank

-- nothing is read
abbrev pub nothing_read : Reading
nothing_read = record { run = no_run 0; gap = Blank; behind_feed = false }

-- the run of a line with words, which goes on with the run before it or begins one
abbrev pub run_with : Bool → ℕ → List ℕ → Run → Run
run_with goes begin line run = if goes then with_line begin line run else with_line begin line (no_run begin)

-- what is read behind a line of this kind, which begins at this offset
abbrev pub read_behind : Kind → ℕ → List ℕ → Reading → Reading
read_behind kind.Blank begin line r = record { run = r.run; gap = with_blank r.gap; behind_feed = false }
read_behind kind.Break begin line r = record { run = r.run; gap = Page; behind_feed = is_feed_alone (encode_utf8_all line) }
read_behind kind.Words begin line r =
    record { run = run_with (run_goes_on r.gap r.run.lead (encode_utf8_all line)) begin line r.run; gap = Nothing; behind_feed = false }

-- the run that a line of this kind ends
abbrev pub run_ended_by : Kind → List ℕ → Reading → List Run
run_ended_by kind.Words line r = if run_goes_on r.gap r.run.lead (encode_utf8_all line) then [] else r.run ∷ []
run_ended_by kind line r = []

-- the runs of lines from this one on, by what is read before them
unfoldable pub runs_from : List ℕ → Reading → ℕ → List (List ℕ) → List Run
runs_from text r at [] = r.run ∷ []
runs_from text r at (l ∷ ls) =
    let kind = line_kind r.behind_feed (encode_utf8_all l) in
    run_ended_by kind l r ++ runs_from text (read_behind kind (line_start text at) l r) (suc at) ls

-- the runs of a published text
abbrev pub published_runs : List ℕ → List Run
published_runs text = runs_from text nothing_read 0 (lines text)
