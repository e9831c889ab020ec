use Rattle.std.proofs.Common.{ap, get_or, length, sym, ◌∙◌, arith}
use Rattle.std.specs.Str.{chars}
use Rattle.markdown_blocks.specs.own.Fronts.{are_whole, may_begin_with}
use Rattle.markdown_blocks.proofs.ProseLaws.{prose_cut, prose_even, prose_joins, prose_plain, prose_some, prose_whole}
use Rattle.markdown_blocks.proofs.prose.prose.Goals as goal

pub split_at-requires : goal.split_at-requires
split_at-requires c =
    prose_cut c.args.text.now c.utf8.text c.prose_len.result (omega (arith, c.prose_len.ensures.in_range, ap length c.as_bytes.ensures.value)) (λ k e. ap (λ bs. get_or bs k 0) (sym c.as_bytes.ensures.value) ∙ c.prose_len.ensures.last k e)

pub returns-clause-joins : goal.returns-clause-joins
returns-clause-joins c =
    prose_joins c.args.text.now c.utf8.text c.prose_len.result (omega (arith, c.prose_len.ensures.in_range, ap length c.as_bytes.ensures.value)) (λ k lt. ap (λ bs. may_begin_with (get_or bs k 0)) (sym c.as_bytes.ensures.value) ∙ c.prose_len.ensures.before k lt) (λ k e. ap (λ bs. get_or bs k 0) (sym c.as_bytes.ensures.value) ∙ c.prose_len.ensures.last k e) _ _ c.split_at.ensures.front c.split_at.ensures.back

pub returns-clause-whole : goal.returns-clause-whole
returns-clause-whole c =
    ap (λ t. are_whole (chars t)) c.split_at.ensures.front
    ∙ prose_whole c.args.text.now c.utf8.text c.prose_len.result (omega (arith, c.prose_len.ensures.in_range, ap length c.as_bytes.ensures.value)) (λ k e. ap (λ bs. get_or bs k 0) (sym c.as_bytes.ensures.value) ∙ c.prose_len.ensures.last k e)

pub returns-clause-plain : goal.returns-clause-plain
returns-clause-plain c =
    prose_plain c.args.text.now c.utf8.text c.prose_len.result (omega (arith, c.prose_len.ensures.in_range, ap length c.as_bytes.ensures.value)) (λ k lt. ap (λ bs. may_begin_with (get_or bs k 0)) (sym c.as_bytes.ensures.value) ∙ c.prose_len.ensures.before k lt) (λ k e. ap (λ bs. get_or bs k 0) (sym c.as_bytes.ensures.value) ∙ c.prose_len.ensures.last k e) _ _ c.split_at.ensures.front c.split_at.ensures.back

pub returns-clause-some : goal.returns-clause-some
returns-clause-some c =
    prose_some c.args.text.now c.utf8.text c.prose_len.result (omega (arith, c.prose_len.ensures.in_range, ap length c.as_bytes.ensures.value)) (λ k lt. ap (λ bs. may_begin_with (get_or bs k 0)) (sym c.as_bytes.ensures.value) ∙ c.prose_len.ensures.before k lt) (λ k e. ap (λ bs. get_or bs k 0) (sym c.as_bytes.ensures.value) ∙ c.prose_len.ensures.last k e) _ _ c.split_at.ensures.front c.split_at.ensures.back

pub returns-clause-even : goal.returns-clause-even
returns-clause-even c =
    prose_even c.args.text.now c.utf8.text c.prose_len.result (omega (arith, c.prose_len.ensures.in_range, ap length c.as_bytes.ensures.value)) (λ k lt. ap (λ bs. may_begin_with (get_or bs k 0)) (sym c.as_bytes.ensures.value) ∙ c.prose_len.ensures.before k lt) (λ k e. ap (λ bs. get_or bs k 0) (sym c.as_bytes.ensures.value) ∙ c.prose_len.ensures.last k e) _ _ c.split_at.ensures.front c.split_at.ensures.back
