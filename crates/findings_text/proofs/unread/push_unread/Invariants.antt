use Rattle.std.proofs.Common.{◌≡◌, ◌++◌, drop}
use Rattle.std.specs.Prelude.{string_bytes}
use Rattle.findings_text.specs.Sources.{asides_in}
use Rattle.findings_text.specs.Unread as spec
use Rattle.findings_text.proofs.unread.push_unread.Given as goal

abbrev pub invariant-loop-one : goal.invariant-loop-one
invariant-loop-one l =
    string_bytes l.lines ++ spec.unread_lines l.file (asides_in l.source).0 (drop l.one-index l.unread)
    ≡ string_bytes l.fn.lines ++ spec.unread_lines l.file (asides_in l.source).0 l.unread
