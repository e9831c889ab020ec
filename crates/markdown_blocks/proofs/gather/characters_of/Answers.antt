use Rattle.std.specs.Prelude.{Ok}
use Rattle.std.specs.declared.alloc.AllocError.{AllocError}
use Rattle.std.proofs.lemmas.Iterator.{YieldsList-from_chars, items_from_collect}
use Rattle.markdown_blocks.proofs.gather.characters_of.Goals as goal

pub returns : goal.returns
returns c = items_from_collect {E = AllocError} (Ok c.in_ok-characters.characters) c.in_ok-characters.ensures.ran (YieldsList-from_chars c.args.text.now c.utf8.text cc)
