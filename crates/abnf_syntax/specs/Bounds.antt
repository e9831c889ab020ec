-- The lines of a block.
use Rattle.std.specs.Prelude.{ℕ}
use Rattle.abnf_syntax.specs.declared.block.Block.{Block}

-- of a block its first line and the line behind its last
abbrev pub bounds : Block → ℕ × ℕ
bounds b = (b.first, b.end)
