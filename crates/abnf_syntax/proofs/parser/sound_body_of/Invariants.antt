use Rattle.std.proofs.Common.{◌≡◌, drop}
use Rattle.abnf_syntax.specs.Machine.{parser_state, start, run}
use Rattle.abnf_syntax.proofs.parser.sound_body_of.Given as goal

-- What the steps give from here is what they give from the start.
abbrev pub invariant-loop-item : goal.invariant-loop-item
invariant-loop-item l = run (parser_state l.parser) (drop l.item-index l.items) ≡ run (start l.defined) l.items
