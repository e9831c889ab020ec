-- What the pass over a text's blocks finds, block by block. Contracts of private functions speak of it, and proofs.
use Rattle.std.specs.Prelude.{ℕ, Bool, false, not, ◌&&◌, List, [], ◌∷◌, ◌++◌, filter, slice_index_or}
use Rattle.std.specs.Option.{option_map_or, is_some}
use Rattle.std.specs.List.Sorted.{IsPermutation, IsSortedByKey, IsStableByKey}
use Rattle.abnf_syntax.specs.declared.block.Head.{Head}
use Rattle.abnf_parts.specs.Names.{Name, rule_number}
use Rattle.abnf_names.specs.Said.{Block, AreSaid, name_of}
use Rattle.abnf_names.specs.Excerpts.{Excerpt, excerpt_of}
use Rattle.abnf_names.specs.Rules.{adds, defined, names_of, rules_of}
use Rattle.abnf_lint.specs.declared.finding.Finding.{Finding}
use Rattle.abnf_lint.specs.declared.told.HeadTold.{HeadTold}
use Rattle.abnf_lint.specs.Found.{block_found, is_none_of, said_found}
use Rattle.abnf_lint.specs.Unproductive.{AreUnproductive}
use Rattle.abnf_lint.specs.Order.{key, key_cmp}

-- what is found of a block's fault, or of its items where it shows none
abbrev pub said_findings : List Name → Excerpt → List Finding
said_findings names block = said_found (is_none_of names) block.items block.fault

-- whether the rule of a name is marked
abbrev pub is_marked : List Bool → List Name → Name → Bool
is_marked marks names name = option_map_or (λ r. slice_index_or marks r false) (rule_number names name) false

-- the name is one of these
abbrev pub has_name : List Name → Name → Bool
has_name names name = is_some (rule_number names name)

-- what is known of a head, where blocks before its own have heads with these names, and `=` blocks among them with those of `bases`
abbrev pub known_of_head : List Bool → List Name → List Name → List Name → Head → HeadTold
known_of_head marks names heads bases head =
    let name = name_of head in
    record {
      is_duplicate = not head.adds && has_name bases name;
      has_no_base = head.adds && not (has_name bases name);
      is_unproductive = not (has_name heads name) && is_marked marks names name;
    }

-- what is found of a block, where earlier blocks have heads with these names
abbrev pub block_findings : List Bool → List Name → List Name → List Name → Excerpt → List Finding
block_findings marks names heads bases block = block_found (known_of_head marks names heads bases) (is_none_of names) block.items block.fault

-- the names that `=` blocks define
abbrev pub based : List Block → List Name
based blocks = defined (filter (λ block. not (adds block)) blocks)

-- what is found of blocks behind those before
abbrev pub findings_after : List Bool → List Name → List Block → List Block → List Finding
findings_after marks names before [] = []
findings_after marks names before (block ∷ blocks) =
    block_findings marks names (defined before) (based before) (excerpt_of block) ++ findings_after marks names (before ++ block ∷ []) blocks

-- all that is found, block after block
abbrev pub findings_in : List Bool → List Block → List Finding
findings_in marks blocks = findings_after marks (names_of blocks) [] blocks

-- These are the given findings by line, start and row; those of one line, start and row stay as they stand.
pub record AreOrdered (given found : List Finding) : Type 0 where
  pub all : IsPermutation given found
  pub sorted : IsSortedByKey key key_cmp found
  pub stable : IsStableByKey key key_cmp given found

-- These are the findings of a text, in order, as the pass over its blocks finds them. They are the rows of the table.
pub record AreFindings (text : List ℕ) (found : List Finding) : Type 0 where
  pub blocks : List Block
  pub of_text : AreSaid text blocks
  pub marks : List Bool
  pub are_marks : AreUnproductive (rules_of blocks) marks
  pub ordered : AreOrdered (findings_in marks blocks) found
