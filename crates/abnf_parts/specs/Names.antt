-- Names of rules, which are read without case.
use Rattle.std.specs.Prelude.{ℕ, List, [], ◌∷◌, ◌++◌, Option, position, filter, not, if◌then◌else◌}
use Rattle.std.specs.List.{list_any}
use Rattle.abnf_token.specs.declared.folded.Folded.{Folded}
use Rattle.abnf_token.specs.Folded.{lowercase}
use Rattle.std.specs.Str.{bytes_eq}

-- a name with its letters made small
abbrev pub Name : Type 0
Name = List ℕ

-- a name of the code, with its letters made small
abbrev pub folded_text : Folded → List ℕ
folded_text name = lowercase name.0.now

-- the names of the rules of a text, and then those of core rules
abbrev pub all_names : List (List ℕ) × List (List ℕ) → List (List ℕ)
all_names names = names.0 ++ names.1

-- a list of names with one more at its end, unless it is there
abbrev pub with_name : List Name → Name → List Name
with_name names name = if list_any (bytes_eq name) names then names else names ++ name ∷ []

-- the number of the rule that a name stands for: the first that has it
abbrev pub rule_number : List Name → Name → Option ℕ
rule_number names name = position (bytes_eq name) names

-- those of the second names that aren't among the first
abbrev pub names_beside : List Name → List Name → List Name
names_beside names others = filter (λ name. not (list_any (bytes_eq name) names)) others
