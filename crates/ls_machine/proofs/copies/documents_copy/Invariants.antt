use Rattle.std.proofs.Common.{◌≡◌, take}
use Rattle.ls_machine.proofs.copies.documents_copy.Given as goal

abbrev pub invariant-loop-document : goal.invariant-loop-document
invariant-loop-document l = l.copy ≡ take l.document-index l.documents
