-- The blocks of ABNF in a text in Markdown: fenced code blocks as CommonMark 0.31, section 4.5, has them. But a fence may stand behind any
-- indentation, since it can be part of a list's item, and in a quote (section 5.1); indentation is SP and HTAB, each of width one.
use Rattle.std.specs.Prelude.{ℕ, suc, ◌+◌, min, Bool, true, false, not, ◌&&◌, ◌||◌, ◌==◌, nat_le, Option, Some, None, List, [], ◌∷◌, ◌++◌, length, drop, take, slice_index, if◌then◌else◌}
use Rattle.std.specs.List.{list_all, list_any, prefix_len, take_while}
use Rattle.std.specs.Char.{to_ascii_lowercase}
use Rattle.ls_text.specs.Lines.{ends_line}
use Rattle.origins.specs.Origins.{Sourced, SourcedBlock, from, is_blank_char, is_break}
use Rattle.markdown_blocks.specs.declared.fence.Fence.{Fence}
use Rattle.markdown_blocks.specs.declared.reading.Reading.{Reading}
use Rattle.markdown_blocks.specs.declared.reading.Reading.TheVariants.{Text, BehindBlock, BehindAttributes, Comment, Extension, Block}

-- ---- the lines of a text

-- a line with its line end, and the offset at which it begins
abbrev pub Line : Type 0
Line = ℕ × List ℕ

-- lines with a character before the first, at this offset
abbrev pub put_placed : ℕ → ℕ → List Line → List Line
put_placed at c [] = (at, c ∷ []) ∷ []
put_placed at c (l ∷ ls) = (at, c ∷ l.1) ∷ ls

-- the lines of a text that begins at this offset, where line ends are those of `Rattle.ls_text.specs.Lines`; no line is empty
unfoldable pub placed_lines_from : ℕ → List ℕ → List Line
placed_lines_from at [] = []
placed_lines_from at (c ∷ t) = if ends_line c t then (at, c ∷ []) ∷ placed_lines_from (suc at) t else put_placed at c (placed_lines_from (suc at) t)

-- a line without its line end
abbrev pub without_end : List ℕ → List ℕ
without_end line = take_while (λ c. not (is_break c)) line

-- a character of the margin of a line: a blank, and in a quote a `>` too
abbrev pub is_margin : Bool → ℕ → Bool
is_margin quoted c = is_blank_char c || (quoted && c == 62)

-- how many such characters a line begins with
abbrev pub margin : Bool → List ℕ → ℕ
margin quoted line = prefix_len (is_margin quoted) line

-- a line without its indentation
abbrev pub without_blanks : List ℕ → List ℕ
without_blanks line = drop (margin false line) line

-- how many of these characters a line begins with
abbrev pub marks : ℕ → List ℕ → ℕ
marks mark line = prefix_len (λ c. c == mark) line

-- ---- attribute lists and comments

-- the text begins with these small letters and other characters, in any case of letters
abbrev pub begins : List ℕ → List ℕ → Bool
begins [] t = true
begins (w ∷ ws) [] = false
begins (w ∷ ws) (c ∷ t) = to_ascii_lowercase c == w && begins ws t

-- it begins with a word of an attribute list, behind which a blank stands, or the `}` at the end of the list
abbrev pub begins_word : List ℕ → List ℕ → Bool
begins_word word t =
    let c = slice_index t (length word) in
    begins word t && (is_blank_char c || c == 125)

-- `.abnf`, `.language-abnf` or `type="abnf"`
abbrev pub begins_abnf : List ℕ → Bool
begins_abnf t =
    begins_word (46 ∷ 97 ∷ 98 ∷ 110 ∷ 102 ∷ []) t
    || begins_word (46 ∷ 108 ∷ 97 ∷ 110 ∷ 103 ∷ 117 ∷ 97 ∷ 103 ∷ 101 ∷ 45 ∷ 97 ∷ 98 ∷ 110 ∷ 102 ∷ []) t
    || begins_word (116 ∷ 121 ∷ 112 ∷ 101 ∷ 61 ∷ 34 ∷ 97 ∷ 98 ∷ 110 ∷ 102 ∷ 34 ∷ []) t

-- such a word stands before the first `}`; at the front one may begin, or not
abbrev pub has_abnf : Bool → List ℕ → Bool
has_abnf start [] = false
has_abnf start (c ∷ t) = if c == 125 then false else ((start && begins_abnf (c ∷ t)) || has_abnf (is_blank_char c) t)

-- An attribute list says that a block is ABNF: `{`, or `{:` as kramdown has it, and attributes, up to `}`.
abbrev pub says_abnf : List ℕ → Bool
says_abnf line =
    let t = without_blanks line in
    slice_index t 0 == 123 && has_abnf true (drop (if slice_index t 1 == 58 then 2 else 1) t)

-- the text has `-->`
abbrev pub has_end : List ℕ → Bool
has_end [] = false
has_end (c ∷ t) = begins (45 ∷ 45 ∷ 62 ∷ []) (c ∷ t) || has_end t

-- a line begins a comment, `<!--`, and doesn't end it (CommonMark 0.31, section 4.6)
abbrev pub begins_comment : List ℕ → Bool
begins_comment line =
    let t = without_blanks line in
    begins (60 ∷ 33 ∷ 45 ∷ 45 ∷ []) t && not (has_end t)

-- it begins what kramdown leaves out: `{::comment}` alone
abbrev pub begins_extension : List ℕ → Bool
begins_extension line =
    let t = without_blanks line in
    begins (123 ∷ 58 ∷ 58 ∷ 99 ∷ 111 ∷ 109 ∷ 109 ∷ 101 ∷ 110 ∷ 116 ∷ 125 ∷ []) t && list_all is_blank_char (drop 11 t)

-- it ends that, `{:/`
abbrev pub ends_extension : List ℕ → Bool
ends_extension line = begins (123 ∷ 58 ∷ 47 ∷ []) (without_blanks line)

-- ---- fences

-- `a` with a small or a capital letter, and so on
abbrev pub is_letter : ℕ → ℕ → ℕ → Bool
is_letter small capital c = c == small || c == capital

-- `abnf` in any case of letters
abbrev pub is_abnf_word : List ℕ → Bool
is_abnf_word word =
    length word == 4 && is_letter 97 65 (slice_index word 0) && is_letter 98 66 (slice_index word 1) && is_letter 110 78 (slice_index word 2) && is_letter 102 70 (slice_index word 3)

-- whether the first word of an info string is `abnf`, in any case of letters, or the string is an attribute list that says so
abbrev pub is_abnf : List ℕ → Bool
is_abnf info = is_abnf_word (take_while (λ c. not (is_blank_char c)) (without_blanks info)) || says_abnf info

-- whether marks before an info string open a block: tildes, or backticks if none is in the info string
abbrev pub may_open : ℕ → List ℕ → Bool
may_open mark info = mark == 126 || (mark == 96 && not (list_any (λ c. c == 96) info))

-- the fence of so many marks, by its margin and its info string
abbrev pub fence_with : List ℕ → ℕ → ℕ → List ℕ → Fence
fence_with margin mark count info = record {
  indent = length margin;
  quoted = list_any (λ c. c == 62) margin;
  mark = mark;
  count = count;
  is_abnf = is_abnf info;
}

-- the fence of a line, by its margin, its first mark and the line without margin: at least three such marks, and the info string
abbrev pub fence_of : List ℕ → ℕ → List ℕ → Option Fence
fence_of margin mark line =
    if nat_le 3 (marks mark line) && may_open mark (drop (marks mark line) line)
    then Some (fence_with margin mark (marks mark line) (drop (marks mark line) line)) else None

-- The fence that a line opens, if it opens one (CommonMark 0.31, section 4.5): behind any margin three or more backticks or tildes, and an
-- info string, in which no backtick follows backticks.
abbrev pub opening_fence : List ℕ → Option Fence
opening_fence line =
    let n = margin true line in
    fence_of (take n line) (slice_index (drop n line) 0) (drop n line)

-- Whether a line closes what a fence opened: it has as many of its marks or more, and nothing else but its margin and blanks.
abbrev pub closes_fence : Fence → List ℕ → Bool
closes_fence fence line =
    let rest = drop (margin fence.quoted line) line in
    nat_le fence.count (marks fence.mark rest) && list_all is_blank_char (drop (marks fence.mark rest) rest)

-- ---- blocks

-- a line of a block, without the fence's margin, as far as the line has it
abbrev pub fence_content : Fence → Line → List Sourced
fence_content fence line =
    let gone = min fence.indent (margin fence.quoted line.1) in
    from (line.0 + gone) (drop gone line.1)

-- the fence of a block that is ABNF if it was, or if this says so
abbrev pub with_word : Bool → Fence → Fence
with_word says fence = record { indent = fence.indent; quoted = fence.quoted; mark = fence.mark; count = fence.count; is_abnf = fence.is_abnf || says }

-- the block that ends at an offset, if it is ABNF
abbrev pub ended_block : Fence → List Sourced → ℕ → List SourcedBlock
ended_block fence content end = if fence.is_abnf then record { content = content; end = end } ∷ [] else []

-- the first of these lines is an attribute list that says ABNF
abbrev pub first_says : List Line → Bool
first_says [] = false
first_says (l ∷ ls) = says_abnf (without_end l.1)

-- an attribute list stood just before that says ABNF of the next block
abbrev pub asks : Reading → Bool
asks BehindAttributes = true
asks _ = false

-- An attribute list behind a block speaks of that block, and else of the next one.
abbrev pub may_ask : Reading → Bool
may_ask BehindBlock = false
may_ask _ = true

-- what is read behind a line that opens a fence, or opens none
abbrev pub behind_text : Reading → List ℕ → Option Fence → Reading
behind_text reading line (Some fence) = Block (with_word (asks reading) fence)
behind_text reading line None =
    if begins_comment line then Comment
    else (if begins_extension line then Extension else (if may_ask reading && says_abnf line then BehindAttributes else Text))

-- what is read behind a line that isn't in a block
abbrev pub behind_line : Reading → List ℕ → Reading
behind_line Comment line = if has_end line then Text else Comment
behind_line Extension line = if ends_extension line then Text else Extension
behind_line reading line = behind_text reading line (opening_fence line)

-- The blocks of these lines, up to the end of the text, by what is read before them, and the content so far of a block that is open. A
-- block is ABNF by its fence, or by an attribute list in the line before that or in the line behind the block.
unfoldable pub fenced_blocks : ℕ → Reading → List Sourced → List Line → List SourcedBlock
fenced_blocks end (Block fence) content [] = ended_block fence content end
fenced_blocks end reading content [] = []
fenced_blocks end (Block fence) content (l ∷ ls) =
    if closes_fence fence (without_end l.1) then ended_block (with_word (first_says ls) fence) content l.0 ++ fenced_blocks end BehindBlock [] ls
    else fenced_blocks end (Block fence) (content ++ fence_content fence l) ls
fenced_blocks end reading content (l ∷ ls) = fenced_blocks end (behind_line reading (without_end l.1)) [] ls

-- the blocks of ABNF in a draft in Markdown; one that isn't closed ends where the text ends
abbrev pub markdown_blocks : List ℕ → List SourcedBlock
markdown_blocks draft = fenced_blocks (length draft) Text [] (placed_lines_from 0 draft)
