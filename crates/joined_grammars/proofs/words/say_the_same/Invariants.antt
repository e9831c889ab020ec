use Rattle.std.proofs.Common.{◌≡◌, drop, map}
use Rattle.joined_grammars.specs.Repeats.{same_words, word_of}
use Rattle.joined_grammars.proofs.words.say_the_same.Given as goal

abbrev pub invariant-loop-at : goal.invariant-loop-at
invariant-loop-at l = same_words (map word_of l.ours) (map word_of l.theirs) ≡ same_words (map word_of (drop l.at l.ours)) (map word_of (drop l.at l.theirs))
