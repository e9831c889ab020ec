-- Words that are added to others.
use Rattle.std.specs.Prelude.{◌≡◌, List, ◌++◌, flat_map, fold}
use Rattle.abnf_parts.specs.Names.{Name, with_name}
use Rattle.abnf_parts.specs.Part.{Part}
use Rattle.findings_index.specs.declared.word.Word.{Word}
use Rattle.findings_index.specs.Words.{IsLater, names_in, number_in_table, words_of}

-- Parts are added to words, and their names to a table. The words have the names by their numbers in this table, and so in each later one.
pub record AddsWords (added : List Part) (table grown : List Name) (before after : List Word) : Type 0 where
  pub names : grown ≡ fold with_name table (flat_map names_in added)
  pub words : (later : List Name) → IsLater grown later → after ≡ before ++ flat_map (words_of (number_in_table later)) added
