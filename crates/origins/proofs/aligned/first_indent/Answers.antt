use Rattle.std.proofs.Common.{◌≤◌, ◌+◌, [], ◌∷◌, ◌++◌, length, drop, ap, sym, ◌∙◌, arith}
use Rattle.std.specs.Prelude.{Some, None}
use Rattle.std.specs.Str.{chars}
use Rattle.std.proofs.lemmas.Iterator.{YieldsList-from_chars}
use Rattle.std.proofs.lemmas.Iterator.Consumers.{YieldsList-turn, YieldsList-end}
use Rattle.std.proofs.lemmas.List.{length_push, at_drop_all}
use Rattle.std.proofs.lemmas.Bool.{eq-eqb}
use Rattle.origins.specs.Origins.{first_indent}
use Rattle.origins.proofs.AlignLaws.{indent_blank, indent_break, indent_comment, indent_content, indent_end, indent_more, IfSome_at, indent_semicolon, left_at}
use Rattle.origins.proofs.aligned.first_indent.Goals as goal

pub loop-c-preserved-then-is_break : goal.loop-c-preserved-then-is_break
loop-c-preserved-then-is_break c =
    let t = YieldsList-turn (YieldsList-from_chars c.args.text.now c.utf8.text cc) c.loop-c.yielded _ c.loop-c.yielded_by _ _ c.in-Some.c c.in-Some.is c.next.ensures.steps in
    record {
      small = omega arith;
      rest = indent_more (chars c.args.text.now) c.loop-c.yielded c.in-Some.c c.loop-c.front (Some 0) t (λ ds. indent_break c.in-Some.c ds c.loop-c.front (sym c.is_break.ensures ∙ c.if-is_break.true)) c.loop-c.invariant.rest;
    }

pub loop-c-preserved-then-is_blank : goal.loop-c-preserved-then-is_blank
loop-c-preserved-then-is_blank c =
    let t = YieldsList-turn (YieldsList-from_chars c.args.text.now c.utf8.text cc) c.loop-c.yielded _ c.loop-c.yielded_by _ _ c.in-Some.c c.in-Some.is c.next.ensures.steps in
    let was = ap (λ f. first_indent f (drop (length c.loop-c.yielded) (chars c.args.text.now))) (sym c.in-Some-front.is) ∙ c.loop-c.invariant.rest in
    let small : c.in-Some-front.blanks ≤ length c.loop-c.yielded = IfSome_at c.loop-c.front (λ n. n ≤ length c.loop-c.yielded) c.in-Some-front.blanks c.in-Some-front.is c.loop-c.invariant.small in
    record {
      small = omega (arith, small, length_push c.loop-c.yielded c.in-Some.c);
      rest = indent_more (chars c.args.text.now) c.loop-c.yielded c.in-Some.c (Some c.in-Some-front.blanks) (Some (c.in-Some-front.blanks + 1)) t (λ ds. indent_blank c.in-Some.c ds c.in-Some-front.blanks (sym c.is_break.ensures ∙ c.if-is_break.false) (sym c.is_blank.ensures ∙ c.if-is_blank.true)) was;
    }

pub loop-c-preserved-then-c-eq59 : goal.loop-c-preserved-then-c-eq59
loop-c-preserved-then-c-eq59 c =
    let t = YieldsList-turn (YieldsList-from_chars c.args.text.now c.utf8.text cc) c.loop-c.yielded _ c.loop-c.yielded_by _ _ c.in-Some.c c.in-Some.is c.next.ensures.steps in
    let was = ap (λ f. first_indent f (drop (length c.loop-c.yielded) (chars c.args.text.now))) (sym c.in-Some-front.is) ∙ c.loop-c.invariant.rest in
    record {
      small = tt;
      rest = indent_more (chars c.args.text.now) c.loop-c.yielded c.in-Some.c (Some c.in-Some-front.blanks) None t (λ ds. indent_semicolon c.in-Some.c ds c.in-Some-front.blanks (sym c.is_break.ensures ∙ c.if-is_break.false) (sym c.is_blank.ensures ∙ c.if-is_blank.false) (eq-eqb c.in-Some.c 59 c.if-c-eq59.true)) was;
    }

pub returns-else-c-eq59 : goal.returns-else-c-eq59
returns-else-c-eq59 c =
    let t = YieldsList-turn (YieldsList-from_chars c.args.text.now c.utf8.text cc) c.loop-c.yielded _ c.loop-c.yielded_by _ _ c.in-Some.c c.in-Some.is c.next.ensures.steps in
    let was = ap (λ f. first_indent f (drop (length c.loop-c.yielded) (chars c.args.text.now))) (sym c.in-Some-front.is) ∙ c.loop-c.invariant.rest in
    sym (indent_content c.in-Some.c (drop (length c.loop-c.yielded + 1) (chars c.args.text.now)) c.in-Some-front.blanks (sym c.is_break.ensures ∙ c.if-is_break.false) (sym c.is_blank.ensures ∙ c.if-is_blank.false) c.if-c-eq59.false)
    ∙ ap (first_indent (Some c.in-Some-front.blanks)) (sym (left_at (chars c.args.text.now) (length c.loop-c.yielded) c.in-Some.c t))
    ∙ was

pub loop-c-preserved : goal.loop-c-preserved
loop-c-preserved c =
    let t = YieldsList-turn (YieldsList-from_chars c.args.text.now c.utf8.text cc) c.loop-c.yielded _ c.loop-c.yielded_by _ _ c.in-Some.c c.in-Some.is c.next.ensures.steps in
    let was = ap (λ f. first_indent f (drop (length c.loop-c.yielded) (chars c.args.text.now))) (sym c.in_default.is) ∙ c.loop-c.invariant.rest in
    let now = indent_more (chars c.args.text.now) c.loop-c.yielded c.in-Some.c None None t (λ ds. indent_comment c.in-Some.c ds (sym c.is_break.ensures ∙ c.if-is_break.false)) was in
    record {
      small = rw c.in_default.is tt;
      rest = ap (λ f. first_indent f (drop (length (c.loop-c.yielded ++ c.in-Some.c ∷ [])) (chars c.args.text.now))) c.in_default.is ∙ now;
    }

pub returns : goal.returns
returns c =
    let t = YieldsList-end (YieldsList-from_chars c.args.text.now c.utf8.text cc) c.loop-c.yielded _ c.loop-c.yielded_by _ _ c.in-None.is c.next.ensures.steps in
    sym (indent_end c.loop-c.front) ∙ sym (at_drop_all (first_indent c.loop-c.front) (chars c.args.text.now) (length c.loop-c.yielded) (omega (arith, t.1))) ∙ c.loop-c.invariant.rest
