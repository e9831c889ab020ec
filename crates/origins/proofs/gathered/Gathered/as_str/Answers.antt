use Rattle.std.proofs.Common.{ap, sym, ◌∙◌}
use Rattle.std.specs.Prelude.{string_bytes}
use Rattle.std.specs.Str.{chars}
use Rattle.origins.specs.Origins.{characters}
use Rattle.origins.specs.own.Runs.{origin_at}
use Rattle.origins.proofs.RunLaws.{placed_characters}
use Rattle.origins.proofs.gathered.Gathered.as_str.Goals as goal

pub returns : goal.returns
returns c =
    ap chars c.as_str.ensures.value ∙ sym (placed_characters (origin_at c.self.inside.runs.items) 0 (chars (string_bytes c.self.inside.text))) ∙ ap characters c.self.view_is
