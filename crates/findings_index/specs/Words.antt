-- Gists in words, and a machine with a stack that says whether they hold.
use Rattle.std.specs.Prelude.{◌≡◌, ℕ, zero, suc, nat_le, Bool, true, false, Some, unwrap_or, List, [], ◌∷◌, ◌++◌, length, take, drop, if◌then◌else◌}
use Rattle.std.specs.List.{list_all, list_any}
use Rattle.abnf_parts.specs.Names.{Name, rule_number}
use Rattle.abnf_parts.specs.Part.{Part, Parts, quoted, series, span, seq, alt, rep, ref, opaque, end, next}
use Rattle.abnf_lint.specs.Empty.{is_above}
use Rattle.findings_index.specs.declared.word.Word.{Word}
use Rattle.findings_index.specs.declared.word.Word.TheVariants as w

-- how many parts there are
abbrev pub parts_count : Parts → ℕ
parts_count end = 0
parts_count (next p ps) = suc (parts_count ps)

-- what stands behind the body of a repetition, whose minimum may be above its maximum
abbrev pub repeat_words : Bool → ℕ → List Word
repeat_words true least = w.Never ∷ []
repeat_words false zero = w.Optional ∷ []
repeat_words false (suc n) = []

-- the words of a part, and of parts one after another, where names have numbers
abbrev mutual
  pub words_of : (Name → ℕ) → Part → List Word
  words_of number (quoted text exact) = w.Something ∷ []
  words_of number (series characters) = w.Something ∷ []
  words_of number (span low high) = (if nat_le low high then w.Something else w.Any 0) ∷ []
  words_of number (seq ps) = words_of_all number ps ++ w.All (parts_count ps) ∷ []
  words_of number (alt ps) = words_of_all number ps ++ w.Any (parts_count ps) ∷ []
  words_of number (rep least most p) = words_of number p ++ repeat_words (is_above least most) least
  words_of number (ref name rule) = w.Name (number name) ∷ []
  words_of number opaque = w.Opaque ∷ []

  pub words_of_all : (Name → ℕ) → Parts → List Word
  words_of_all number end = []
  words_of_all number (next p ps) = words_of number p ++ words_of_all number ps

-- the names of a part, each as often as it stands there
abbrev mutual
  pub names_in : Part → List Name
  names_in (quoted text exact) = []
  names_in (series characters) = []
  names_in (span low high) = []
  names_in (seq ps) = names_in_all ps
  names_in (alt ps) = names_in_all ps
  names_in (rep least most p) = names_in p
  names_in (ref name rule) = name ∷ []
  names_in opaque = []

  pub names_in_all : Parts → List Name
  names_in_all end = []
  names_in_all (next p ps) = names_in p ++ names_in_all ps

-- ---- names by their places in a table

-- the place of a name, past the end where it isn't there
abbrev pub number_in_table : List Name → Name → ℕ
number_in_table table name = unwrap_or (rule_number table name) (length table)

-- In the later table each name of this one has the number that it has here.
abbrev pub IsLater : List Name → List Name → Type 0
IsLater table later = (name : Name) (number : ℕ) → rule_number table name ≡ Some number → rule_number later name ≡ Some number

-- ---- the machine, whose stack has the last value first

-- a value of the stack, as a test of itself
abbrev pub is_so : Bool → Bool
is_so value = value

-- the stack after one word, where marks of names are given by their numbers
abbrev pub step_word : (ℕ → Bool) → Word → List Bool → List Bool
step_word marks w.Something stack = true ∷ stack
step_word marks w.Opaque stack = true ∷ stack
step_word marks (w.Name number) stack = marks number ∷ stack
step_word marks (w.All count) stack = list_all is_so (take count stack) ∷ drop count stack
step_word marks (w.Any count) stack = list_any is_so (take count stack) ∷ drop count stack
step_word marks w.Optional stack = true ∷ drop 1 stack
step_word marks w.Never stack = false ∷ drop 1 stack

-- the stack after these words, one after the other; behind the words of a part its first value says whether the part holds
abbrev pub run_words : (ℕ → Bool) → List Word → List Bool → List Bool
run_words marks [] stack = stack
run_words marks (word ∷ words) stack = run_words marks words (step_word marks word stack)
