-- What the names of files say.
use Rattle.std.specs.Prelude.{ℕ, ◌-◌, List, length, drop, Bool, ◌||◌, codes}
use Rattle.std.specs.Str.{str_eq_ignore_ascii_case}

-- a name, or a uri, ends so, in any case of ASCII letters
abbrev pub has_ending : List ℕ → List ℕ → Bool
has_ending ending name = str_eq_ignore_ascii_case (drop (length name - length ending) name) ending

-- it is the name of a draft in Markdown: it ends in `.md`, `.mkd` or `.markdown`
abbrev pub is_markdown : List ℕ → Bool
is_markdown name = has_ending (codes ".md") name || (has_ending (codes ".mkd") name || has_ending (codes ".markdown") name)
