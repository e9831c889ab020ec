use Rattle.std.proofs.Common.{◌+◌, ◌++◌, [], ◌∷◌, ap, ◌∙◌, length, length-append, arith}
use Rattle.std.specs.Prelude.{string_bytes}
use Rattle.std.specs.Str.{chars}
use Rattle.std.proofs.lemmas.Str.{IsUtf8-string_bytes}
use Rattle.origins.specs.Origins.{from}
use Rattle.origins.specs.own.Runs.{origin_at, placed}
use Rattle.origins.proofs.RunLaws.{chars_put, placed_more, runs_more, string_small}
use Rattle.origins.proofs.gathered.Gathered.put.Goals as goal

pub continue_at-requires-clause-small : goal.continue_at-requires-clause-small
continue_at-requires-clause-small c = omega (arith, c.self.invariant.counted, string_small c.self.inside.text)

pub overflow_add-self : goal.overflow_add-self
overflow_add-self c =
    let joins = ap chars c.in_ok-push.ensures.bytes ∙ chars_put (string_bytes c.self.inside.text) c.args.character (IsUtf8-string_bytes c.self.inside.text) c.ranges.character.0 in
    omega (arith, ap length joins, length-append (chars (string_bytes c.self.inside.text)) (c.args.character ∷ []), c.self.invariant.counted, string_small c.push.new.self)

pub invariant_of-self-2 : goal.invariant_of-self-2
invariant_of-self-2 c =
    let joins = ap chars c.in_ok-push.ensures.bytes ∙ chars_put (string_bytes c.self.inside.text) c.args.character (IsUtf8-string_bytes c.self.inside.text) c.ranges.character.0 in
    record {
      counted = omega (arith, ap length joins, length-append (chars (string_bytes c.self.inside.text)) (c.args.character ∷ []), c.self.invariant.counted);
      runs = runs_more c.continue_at.new.runs.items c.self.inside.count (c.self.inside.count + 1) (omega arith) c.continue_at.ensures.runs;
    }

pub returns : goal.returns
returns c =
    let joins = ap chars c.in_ok-push.ensures.bytes ∙ chars_put (string_bytes c.self.inside.text) c.args.character (IsUtf8-string_bytes c.self.inside.text) c.ranges.character.0 in
    ap (placed (origin_at c.continue_at.new.runs.items) 0) joins
    ∙ placed_more c.self.inside.runs.items c.continue_at.new.runs.items (chars (string_bytes c.self.inside.text)) (c.args.character ∷ []) c.self.inside.count c.args.at c.self.invariant.counted c.continue_at.ensures.before c.in_ok-continue_at.ensures.behind
    ∙ ap (λ v. v ++ from c.args.at (c.args.character ∷ [])) c.self.view_is
