use Rattle.std.proofs.Common.{◌≡◌, ◌∙◌, ◌++◌, ◌+◌, ap, arith, drop, length, rules, sym}
use Rattle.std.specs.Str.{chars}
use Rattle.origins.specs.Origins.{characters}
use Rattle.draft_findings.specs.Ends as spec
use Rattle.draft_findings.proofs.EndLaws.{Front, end_found, front_of, line_le, none_found}
use Rattle.draft_findings.proofs.WalkLaws.{drop_next}
use Rattle.draft_findings.proofs.ends.block_ends.Goals as goal
use Rattle.draft_findings.proofs.ends.block_ends.Goals.{then-ends_block+in_ok-push, else-ends_block}

pub line_behind-line-requires : goal.line_behind-line-requires
line_behind-line-requires c =
    omega (arith, c.characters.invariant.line, c.characters.invariant.count, ap length c.in-Some.ensures, c.char_bound-bound.ensures, c.char_bound-bound.type_inv)

pub overflow_add-at : goal.overflow_add-at
overflow_add-at c =
    omega (arith, c.characters.invariant.count, ap length c.in-Some.ensures, c.char_bound-bound.ensures, c.char_bound-bound.type_inv)

pub characters-preserved : goal.characters-preserved
characters-preserved c =
    let draft = c.args.draft.now in
    let grammar = c.args.grammar.now in
    let at = c.characters.at in
    let here = c.in-Some.c in
    let behind = chars c.in-Some.behind.now in
    let next = c.line_behind-line.result in
    let front : Front (drop at grammar) here behind = front_of (drop at grammar) here behind (sym c.in-Some.ensures ∙ c.characters.invariant.rest) in
    let ends_it : c.ends_block.result ≡ spec.ends_block draft (here, front.origin) front.behind =
    c.ends_block.ensures.value front.origin front.behind front.is front.rest ∙ ap (λ d. spec.ends_block d (here, front.origin) front.behind) c.characters.invariant.draft in
    let left = (drop_next at grammar (here, front.origin) front.behind front.is).0 in
    record {
      utf8 = search rules;
      draft = c.ends_block.ensures.same ∙ c.characters.invariant.draft;
      rest = front.rest ∙ ap characters (sym left);
      count = omega (arith, c.characters.invariant.count, ap length c.in-Some.ensures);
      line = omega (arith, c.characters.invariant.line, c.line_behind-line.ensures, line_le c.characters.line here behind);
      told = elim c.if-ends_block.branch [
        | then-ends_block+in_ok-push w ↦ end_found draft grammar at c.characters.line here next behind c.characters.ends (spec.block_ends draft grammar) front c.characters.invariant.told c.line_behind-line.ensures
            (sym w.if-ends_block.true ∙ ends_it) c.if-ends_block.ends (w.ends-is ∙ w.in_ok-push.ensures.ok)
        | else-ends_block w ↦
            ap (λ ends. ends ++ spec.ends_from draft next (drop (at + 1) grammar)) w.ends-is
            ∙ none_found draft grammar at c.characters.line here next behind c.characters.ends (spec.block_ends draft grammar) front c.characters.invariant.told c.line_behind-line.ensures
            (sym w.if-ends_block.false ∙ ends_it)
      ];
    }
