use Rattle.std.proofs.Common.{List, subst}
use Rattle.std.specs.Prelude.{All}
use Rattle.std.specs.Char.{IsScalar}
use Rattle.ls_text.specs.Cut.{Row, text_of}
use Rattle.ls_text.proofs.ScalarLaws.{chunk_scalars}
use Rattle.ls_text.proofs.lines.Lines.char_count.Goals as goal

pub returns-clause-scalars : goal.returns-clause-scalars
returns-clause-scalars c = subst (λ (ls : List Row). All IsScalar (text_of ls)) c.self.view_is (chunk_scalars c.self.inside.chunks.items)
