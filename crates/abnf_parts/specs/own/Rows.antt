-- Worked rules, each as its tree.
use Rattle.std.specs.Prelude.{[], ◌∷◌, Some, codes, false}
use Rattle.abnf_parts.specs.Part.{Part, quoted, series, span, seq, alt, rep, ref}
use Rattle.abnf_parts.specs.Tree.{parts}

-- `a = "x"`
abbrev pub a_text : Part
a_text = alt (parts (quoted (codes "x") false ∷ []))

-- `a = a / ""`
abbrev pub itself_or_empty : Part
itself_or_empty = alt (parts (ref (codes "a") (Some 0) ∷ quoted [] false ∷ []))

-- `a = b / "x"` and `b = a`
abbrev pub other_or_text : Part
other_or_text = alt (parts (ref (codes "b") (Some 1) ∷ quoted (codes "x") false ∷ []))

-- `b = a`, where `a` is the first rule
abbrev pub first_rule : Part
first_rule = alt (parts (ref (codes "a") (Some 0) ∷ []))

-- `a = b "x"`
abbrev pub other_and_text : Part
other_and_text = alt (parts (seq (parts (ref (codes "b") (Some 1) ∷ quoted (codes "x") false ∷ [])) ∷ []))

-- `a = 3*2"x" / %x39-30`
abbrev pub turned_bounds : Part
turned_bounds = alt (parts (rep 3 (Some 2) (quoted (codes "x") false) ∷ span 0x39 0x30 ∷ []))

-- `a = "\" %x0D.1F600`
abbrev pub text_and_series : Part
text_and_series = alt (parts (seq (parts (quoted (codes "\\") false ∷ series (0x0D ∷ 0x1F600 ∷ []) ∷ [])) ∷ []))
