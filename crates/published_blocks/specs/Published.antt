-- The grammar of a published RFC: those of its runs that are rules alone.
use Rattle.std.specs.Prelude.{◌≡◌, ◌<◌, ℕ, List, [], ◌∷◌, ◌++◌, Contains, length, if◌then◌else◌}
use Rattle.std.specs.Str.{encode_utf8_all}
use Rattle.ls_text.specs.Lines.{max_bytes}
use Rattle.ls_text.specs.declared.fault.TextFault.{TextFault}
use Rattle.ls_text.specs.declared.fault.TextFault.TheVariants.{Memory, TooLarge}
use Rattle.origins.specs.Origins.{aligned, characters}
use Rattle.origins.specs.declared.unread.Lack.TheVariants.{Faulty}
use Rattle.rule_texts.specs.Rules.{AreCounted, are_rules_alone}
use Rattle.rule_texts.specs.declared.counts.Counts.{Counts}
use Rattle.published_blocks.specs.declared.found.Published.{Published}
use Rattle.published_blocks.specs.declared.run.Lead.{Lead}
use Rattle.published_blocks.specs.declared.run.Lead.TheVariants.{Unknown, Other, Rule}
use Rattle.published_blocks.specs.declared.run.Run.{Run}
use Rattle.published_blocks.specs.Runs.{published_runs}

-- nothing
abbrev pub nothing_found : Published
nothing_found = record { grammar = []; unread = [] }

-- what is found, and then more
abbrev pub found_with : Published → Published → Published
found_with a b = record { grammar = a.grammar ++ b.grammar; unread = a.unread ++ b.unread }

-- What is found in a run that begins as a rule does, by what its blocks are: where it is rules alone, it is grammar, left aligned; else
-- that not all of it is rules.
abbrev pub published_by : Run → Counts → Published
published_by run counts =
    if are_rules_alone counts then record { grammar = aligned (record { content = run.block; end = run.end }); unread = [] }
    else record { grammar = []; unread = record { at = run.begin; lack = Faulty } ∷ [] }

-- This is found in a run, by its first line with content: in one that doesn't begin as a rule does nothing is.
abbrev pub IsFoundBy : Lead → Run → Published → Type 0
IsFoundBy Unknown run found = found ≡ nothing_found
IsFoundBy Other run found = found ≡ nothing_found
IsFoundBy (Rule n) run found = (counts : Counts) × AreCounted (characters run.block) counts × (found ≡ published_by run counts)

-- This is found in runs, one after the other.
abbrev pub AreFoundIn : List Run → Published → Type 0
AreFoundIn [] found = found ≡ nothing_found
AreFoundIn (run ∷ runs) found = (a : Published) × (b : Published) × IsFoundBy run.lead run a × AreFoundIn runs b × (found ≡ found_with a b)

-- This is found in a published text. There is one such thing (`published_grammars_exist`), and only one (`published_grammars_are_unique`).
abbrev pub IsPublished : List ℕ → Published → Type 0
IsPublished text found = AreFoundIn (published_runs text) found

-- The run begins as a rule does, and with LF behind each line it is larger than a text may be.
pub record IsTooLarge (run : Run) : Type 0 where
  pub base : ℕ
  pub begins : run.lead ≡ Rule base
  pub large : max_bytes < length (encode_utf8_all (characters run.block))

-- Why nothing is said of a published text: memory was refused, or one of its runs is too large.
abbrev pub IsRefused : List ℕ → TextFault → Type 0
IsRefused text Memory = Unit {0}
IsRefused text TooLarge = (run : Run) × Contains (published_runs text) run × IsTooLarge run
