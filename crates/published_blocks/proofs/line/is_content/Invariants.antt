use Rattle.std.proofs.Common.{◌≡◌, drop}
use Rattle.abnf_syntax.specs.Blocks.{is_content}
use Rattle.published_blocks.proofs.line.is_content.Given as goal

abbrev pub invariant-loop-byte : goal.invariant-loop-byte
invariant-loop-byte l = is_content l.line ≡ is_content (drop l.byte-index l.line)
