use Rattle.std.proofs.Common.{◌+◌, drop, Some, None, ap, sym, ◌∙◌}
use Rattle.std.proofs.lemmas.Bool.{ne_eqb}
use Rattle.abnf_token.specs.declared.token.Kind.TheVariants as k
use Rattle.abnf_token.specs.declared.machine.State.TheVariants.{Quote, Done}
use Rattle.abnf_token.specs.own.Machine.{step}
use Rattle.abnf_token.proofs.Runs.{stepped, stopped, done, ends_quotation}
use Rattle.abnf_token.proofs.scan.longest_quotation.Goals as goal

pub returns-then-bytes-i-eq34 : goal.returns-then-bytes-i-eq34
returns-then-bytes-i-eq34 c =
    done k.Quoted (c.loop-i.i + 1) (Some (k.Quoted, c.loop-i.i + 1)) (drop (c.loop-i.i + 1) c.args.bytes.now)
    ∙ stepped Quote (Done k.Quoted) c.loop-i.i None c.args.bytes.now c.loop-i-test.true (ap (step Quote) c.if-bytes-i-eq34.true) ∙ c.loop-i.invariant

pub returns-then-not-is_quotable : goal.returns-then-not-is_quotable
returns-then-not-is_quotable c =
    stopped Quote c.loop-i.i None c.args.bytes.now c.loop-i-test.true (ends_quotation _ (ne_eqb _ _ c.if-bytes-i-eq34.false) (sym c.is_quotable.ensures ∙ c.if-not-is_quotable.true)) ∙ c.loop-i.invariant
