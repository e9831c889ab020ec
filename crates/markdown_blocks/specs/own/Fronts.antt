-- What a line begins with. No public contract cites this.
use Rattle.std.specs.Prelude.{ℕ, Bool, true, false, ◌||◌, ◌==◌, Option, Some, None, List, [], ◌∷◌, if◌then◌else◌}
use Rattle.markdown_blocks.specs.Fences.{is_margin}
use Rattle.markdown_blocks.specs.declared.fence.Fence.{Fence}
use Rattle.markdown_blocks.specs.declared.reading.Reading.{Reading}
use Rattle.markdown_blocks.specs.declared.reading.Reading.TheVariants.{Block, Comment, Extension}

-- the first character behind a line's margin, if one stands there
abbrev pub first_behind : Bool → List ℕ → Option ℕ
first_behind quoted [] = None
first_behind quoted (c ∷ t) = if is_margin quoted c then first_behind quoted t else Some c

-- a fence may begin with this character, or a comment, what kramdown leaves out, or an attribute list
abbrev pub may_begin : Option ℕ → Bool
may_begin None = false
may_begin (Some c) = c == 96 || c == 126 || c == 60 || c == 123

-- a line may be anything but text
abbrev pub may_matter : List ℕ → Bool
may_matter line = may_begin (first_behind true line)

-- this character may begin one of these
abbrev pub may_begin_with : ℕ → Bool
may_begin_with c = may_begin (Some c)

-- whole lines, each up to a line end, of which the last is LF; or nothing
abbrev pub are_whole : List ℕ → Bool
are_whole [] = true
are_whole (c ∷ []) = c == 10
are_whole (c ∷ d ∷ t) = are_whole (d ∷ t)

-- this character is the mark
abbrev pub is_mark : ℕ → Option ℕ → Bool
is_mark mark None = false
is_mark mark (Some c) = c == mark

-- a line may close a block of this fence
abbrev pub may_close : Fence → List ℕ → Bool
may_close fence line = fence.count == 0 || is_mark fence.mark (first_behind fence.quoted line)

-- a comment hasn't ended, or what kramdown leaves out
abbrev pub goes_on : Reading → Bool
goes_on Comment = true
goes_on Extension = true
goes_on _ = false

-- behind this, lines in which nothing but text may begin are passed over
abbrev pub passes : Reading → Bool
passes Comment = false
passes Extension = false
passes (Block fence) = false
passes _ = true
