use Rattle.std.proofs.Common.{ap, inl, inr, Ok}
use Rattle.abnf_syntax.proofs.Exact.{one_rule}
use Rattle.abnf_syntax.proofs.parse.parse_block.Goals as goal

pub returns-in-Err-clause-derived : goal.returns-in-Err-clause-derived
returns-in-Err-clause-derived c rule d = elim (c.in-Err.ensures.derived rule d) [ inl x ↦ absurd (cc x) | inr x ↦ inr (cc x) ]

pub returns-in-Err-clause-one : goal.returns-in-Err-clause-one
returns-in-Err-clause-one c = one_rule c.args.block.now.items

pub returns-in-Err-clause-shown : goal.returns-in-Err-clause-shown
returns-in-Err-clause-shown c fault f = elim (c.in-Err.ensures.shown fault f) [ inl x ↦ inl (cc x) | inr x ↦ inr (cc x) ]

pub returns-in-Err-clause-early : goal.returns-in-Err-clause-early
returns-in-Err-clause-early c fault shows few = let x = c.in-Err.ensures.early fault shows few in cc x

pub read_block-requires-clause-sound : goal.read_block-requires-clause-sound
read_block-requires-clause-sound c fault f = elim (c.in-Ok.ensures.shown fault f) [ inl x ↦ absurd (cc x) | inr x ↦ absurd (cc x) ]

pub returns-in_err-read_block-in-Ok-clause-early : goal.returns-in_err-read_block-in-Ok-clause-early
returns-in_err-read_block-in-Ok-clause-early c fault shows few = let x = c.in-Ok.ensures.early fault shows few in absurd (cc x)

pub returns-in_ok-read_block-in-Ok-clause-derived : goal.returns-in_ok-read_block-in-Ok-clause-derived
returns-in_ok-read_block-in-Ok-clause-derived c rule d = inl (ap Ok (c.in_ok-read_block-in-Ok.ensures.one c.in_ok-read_block-in-Ok.field-0 rule c.in_ok-read_block-in-Ok.ensures.derives d))

pub returns-in_ok-read_block-in-Ok-clause-shown : goal.returns-in_ok-read_block-in-Ok-clause-shown
returns-in_ok-read_block-in-Ok-clause-shown c fault f = elim (c.in-Ok.ensures.shown fault f) [ inl x ↦ absurd (cc x) | inr x ↦ absurd (cc x) ]

pub returns-in_ok-read_block-in-Ok-clause-early : goal.returns-in_ok-read_block-in-Ok-clause-early
returns-in_ok-read_block-in-Ok-clause-early c fault shows few = let x = c.in-Ok.ensures.early fault shows few in absurd (cc x)
