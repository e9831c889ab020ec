-- What a line of a published RFC is. Until RFC 7994 such texts had pages, as RFC 2223 section 3 has them: each ends in a footer and a form
-- feed, behind which the next one begins with a header.
use Rattle.std.specs.Prelude.{ℕ, Bool, false, not, ◌&&◌, ◌||◌, ◌==◌, nat_le, [], ◌∷◌, drop, slice_index, if◌then◌else◌}
use Rattle.std.specs.List.{list_all, prefix_len}
use Rattle.std.specs.Char.{is_ascii_alphabetic, is_ascii_digit}
use Rattle.abnf_token.specs.Classes.{Text, is_blank_byte, is_name_byte}
use Rattle.abnf_syntax.specs.Blocks.{indent}
use Rattle.published_blocks.specs.declared.line.Kind.{Kind}
use Rattle.published_blocks.specs.declared.line.Kind.TheVariants.{Blank, Break, Words}

-- a byte of a line, 0 behind its end
abbrev pub byte_at : Text → ℕ → ℕ
byte_at line at = slice_index line at

-- a line without the blanks at its front
abbrev pub without_indent : Text → Text
without_indent line = drop (indent line) line

-- A line begins as a rule does: with a name, and `=` behind it (RFC 5234 section 2.2). `=/` begins with `=`, too.
abbrev pub is_head : Text → Bool
is_head line =
    let name = without_indent line in
    is_ascii_alphabetic (byte_at name 0) && byte_at (without_indent (drop (prefix_len is_name_byte name) name)) 0 == 61

-- `]` stands here, and blanks alone behind it
abbrev pub closes_mark : Text → Bool
closes_mark [] = false
closes_mark (b ∷ bs) = b == 93 && list_all is_blank_byte bs

-- a number, and `]`, and blanks alone behind it
abbrev pub ends_page_number : Text → Bool
ends_page_number t =
    let count = prefix_len is_ascii_digit t in
    closes_mark (drop count t) && nat_le 1 count

-- `[Page N]` stands here, and blanks alone behind it
abbrev pub is_page_mark : Text → Bool
is_page_mark (b ∷ c ∷ d ∷ e ∷ f ∷ g ∷ t) = (b == 91 && c == 80 && d == 97 && e == 103 && f == 101 && g == 32) && ends_page_number t
is_page_mark _ = false

-- the line ends so: it is the footer of a page
abbrev pub is_footer : Text → Bool
is_footer [] = false
is_footer (b ∷ bs) = is_page_mark (b ∷ bs) || is_footer bs

-- the line begins with a form feed
abbrev pub is_feed : Text → Bool
is_feed line = byte_at line 0 == 12

-- it is a form feed and no more, so that a header may follow it
abbrev pub is_feed_alone : Text → Bool
is_feed_alone [] = false
is_feed_alone (b ∷ bs) = b == 12 && list_all is_blank_byte bs

-- A line is of a page break where it is a footer or has a form feed, or where it stands right behind a form feed and isn't indented, as a
-- header does. Else it is blank, or has words.
abbrev pub line_kind : Bool → Text → Kind
line_kind behind_feed line =
    if is_feed line || is_footer line || (behind_feed && not (is_blank_byte (byte_at line 0))) then Break
    else (if list_all is_blank_byte line then Blank else Words)
