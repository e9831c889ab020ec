use Rattle.std.proofs.Common.{refl, sym, []}
use Rattle.ls_frame.specs.declared.front.Rest.TheVariants.{Open}
use Rattle.ls_frame.proofs.Streams.{none_yet, no_fault}
use Rattle.ls_frame.proofs.Fills.{open_quiet}
use Rattle.ls_frame.proofs.Feeding.{kept}
use Rattle.ls_frame.proofs.framer.Framer.new.Goals as goal

pub invariant_of-result : goal.invariant_of-result
invariant_of-result c = kept [] c.new.result.items (Open 0) (Open 0) (open_quiet [] (no_fault, none_yet)) refl (sym c.new.ensures.items)
