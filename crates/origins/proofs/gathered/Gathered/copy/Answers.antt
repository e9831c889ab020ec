use Rattle.std.proofs.Common.{◌+◌, ◌++◌, ap, ◌∙◌, length, length-append, arith}
use Rattle.std.specs.Prelude.{string_bytes}
use Rattle.std.specs.Str.{chars}
use Rattle.std.proofs.lemmas.Str.{IsUtf8-string_bytes, chars-append}
use Rattle.origins.specs.Origins.{from}
use Rattle.origins.specs.own.Runs.{origin_at, placed}
use Rattle.origins.proofs.RunLaws.{placed_more, runs_more, string_small}
use Rattle.origins.proofs.gathered.Gathered.copy.Goals as goal

pub continue_at-requires-clause-small : goal.continue_at-requires-clause-small
continue_at-requires-clause-small c = omega (arith, c.self.invariant.counted, string_small c.self.inside.text)

pub overflow_add-self : goal.overflow_add-self
overflow_add-self c =
    let joins = ap chars c.in_ok-push_str.ensures.bytes ∙ chars-append (string_bytes c.self.inside.text) c.args.text.now (IsUtf8-string_bytes c.self.inside.text) in
    omega (arith, ap length joins, length-append (chars (string_bytes c.self.inside.text)) (chars c.args.text.now), c.self.invariant.counted, c.char_count.ensures, string_small c.push_str.new.self)

pub invariant_of-self-2 : goal.invariant_of-self-2
invariant_of-self-2 c =
    let joins = ap chars c.in_ok-push_str.ensures.bytes ∙ chars-append (string_bytes c.self.inside.text) c.args.text.now (IsUtf8-string_bytes c.self.inside.text) in
    record {
      counted = omega (arith, ap length joins, length-append (chars (string_bytes c.self.inside.text)) (chars c.args.text.now), c.self.invariant.counted, c.char_count.ensures);
      runs = runs_more c.continue_at.new.runs.items c.self.inside.count (c.self.inside.count + c.char_count.result) (omega arith) c.continue_at.ensures.runs;
    }

pub returns : goal.returns
returns c =
    let joins = ap chars c.in_ok-push_str.ensures.bytes ∙ chars-append (string_bytes c.self.inside.text) c.args.text.now (IsUtf8-string_bytes c.self.inside.text) in
    ap (placed (origin_at c.continue_at.new.runs.items) 0) joins
    ∙ placed_more c.self.inside.runs.items c.continue_at.new.runs.items (chars (string_bytes c.self.inside.text)) (chars c.args.text.now) c.self.inside.count c.args.at c.self.invariant.counted c.continue_at.ensures.before c.in_ok-continue_at.ensures.behind
    ∙ ap (λ v. v ++ from c.args.at (chars c.args.text.now)) c.self.view_is
