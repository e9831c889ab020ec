use Rattle.std.proofs.Common.{◌≡◌, ◌∙◌, ◌+◌, ◌++◌, ◌∷◌, [], List, ap, arith, map, subst, sym, take}
use Rattle.std.specs.Prelude.{None}
use Rattle.std.proofs.lemmas.List.{length-map, take_more}
use Rattle.joined_grammars.specs.Repeats.{Definition, definition, repeat_of, repeats_behind}
use Rattle.joined_grammars.specs.own.Firsts.{AreFirsts, definition_at, definitions}
use Rattle.joined_grammars.proofs.RepeatLaws.{repeats_next}
use Rattle.joined_grammars.proofs.repeats.repeats_among.Goals as goal

pub loop-at-preserved : goal.loop-at-preserved
loop-at-preserved c =
    let blocks = c.args.blocks.now in
    let ds = map definition blocks in
    let before = take c.loop-at.at ds in
    let d = definition_at blocks c.loop-at.at in
    let next = c.in_ok-push_repeat.ensures.found before c.loop-at.invariant.firsts in
    let more : before ++ d ∷ [] ≡ take (c.loop-at.at + 1) ds = sym (take_more ds c.loop-at.at (record { line = 0; name = None; words = [] }) (omega (arith, c.loop-at-test.true, length-map blocks definition))) in record {
      found = next.0 ∙ (ap (λ rs. rs ++ repeat_of before d) c.loop-at.invariant.found ∙ (sym (repeats_next [] before d) ∙ ap (repeats_behind []) more));
      firsts = subst (λ (b : List Definition). AreFirsts b c.push_repeat.new.names (definitions blocks c.push_repeat.new.firsts)) more next.1;
      within = c.in_ok-push_repeat.ensures.within;
    }
