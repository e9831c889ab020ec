use Rattle.std.proofs.Common.{◌∙◌, ◌≤◌, arith, length, map, sym}
use Rattle.std.proofs.lemmas.List.{drop_all}
use Rattle.joined_grammars.specs.Repeats.{same_words, word_of}
use Rattle.joined_grammars.proofs.WordLaws.{other_lengths}
use Rattle.joined_grammars.proofs.words.say_the_same.Goals as goal

pub returns-then-ours-theirs : goal.returns-then-ours-theirs
returns-then-ours-theirs c = sym (other_lengths c.args.ours.now c.args.theirs.now (λ same. omega (arith, same, c.if-ours-theirs.true)))

pub returns : goal.returns
returns c =
    let ours = c.args.ours.now in
    let theirs = c.args.theirs.now in
    let none : length ours ≤ c.loop-at.at = omega (arith, c.loop-at-test.false) in
    let nor : length theirs ≤ c.loop-at.at = omega (arith, c.loop-at-test.false, c.if-ours-theirs.false) in
    sym (c.loop-at.invariant ∙ (λ j. same_words (map word_of (drop_all c.loop-at.at ours none j)) (map word_of (drop_all c.loop-at.at theirs nor j))))
