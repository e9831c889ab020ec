use Rattle.std.proofs.Common.{◌≡◌, drop}
use Rattle.ls_text.specs.Lines.{units}
use Rattle.ls_text.specs.Edits.{edited_all}
use Rattle.ls_text.proofs.snapshot.Snapshot.edited_all.Given as goal

abbrev pub invariant-loop-edit : goal.invariant-loop-edit
invariant-loop-edit l = edited_all (units l.encoding) l.fn.self l.edits ≡ edited_all (units l.encoding) l.text (drop l.edit-index l.edits)
