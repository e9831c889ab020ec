use Rattle.std.proofs.Common.{◌≡◌, encode_utf8_all, string_bytes}
use Rattle.draft_grammars.specs.Insertions.{with_crlf}
use Rattle.draft_grammars.proofs.insertion.with_crlf.Given as goal

abbrev pub invariant-loop-c : goal.invariant-loop-c
invariant-loop-c l = string_bytes l.made ≡ encode_utf8_all (with_crlf l.yielded)
