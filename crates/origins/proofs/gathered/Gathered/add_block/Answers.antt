use Rattle.std.proofs.Common.{◌≡◌, [], ◌∷◌, ◌++◌, ap, sym, ◌∙◌, append_assoc, length, arith}
use Rattle.std.specs.Prelude.{Some, string_bytes}
use Rattle.std.specs.Str.{chars}
use Rattle.origins.specs.Origins.{characters, first_indent, left_aligned}
use Rattle.origins.specs.own.Runs.{origin_at, placed}
use Rattle.origins.proofs.RunLaws.{placed_characters, string_small}
use Rattle.origins.proofs.gathered.Gathered.add_block.Goals as goal

pub put_aligned-requires-clause-small : goal.put_aligned-requires-clause-small
put_aligned-requires-clause-small c = omega (arith, ap (λ bs. length (chars bs)) c.as_str-2.ensures.value, string_small c.block.inside.text)

pub returns : goal.returns
returns c =
    let content : placed (origin_at c.as_slice.result.now) 0 (chars c.as_str-2.result.now) ≡ c.args.block.now =
    (λ i. placed (origin_at (c.as_slice.ensures.value i)) 0 (chars (c.as_str-2.ensures.value i))) ∙ c.block.view_is in
    let base : c.first_indent-base.result ≡ first_indent (Some 0) (characters c.args.block.now) =
    c.first_indent-base.ensures ∙ ap (λ bs. first_indent (Some 0) (chars bs)) c.as_str.ensures.value ∙ sym (ap (first_indent (Some 0)) (placed_characters (origin_at c.block.inside.runs.items) 0 (chars (string_bytes c.block.inside.text)))) ∙ ap (λ v. first_indent (Some 0) (characters v)) c.block.view_is in
    c.in_ok-put.ensures
    ∙ ap (λ v. v ++ (10, c.args.end) ∷ []) c.in_ok-put_aligned.ensures
    ∙ append_assoc c.args.self.now _ _
    ∙ (λ i. c.args.self.now ++ (left_aligned (base i) (base i) (content i) ++ (10, c.args.end) ∷ []))
