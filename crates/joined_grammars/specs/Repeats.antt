-- Definitions that a text repeats, as a standard does that collects its grammar once more in an appendix.
use Rattle.std.specs.Prelude.{◌≡◌, ℕ, Bool, true, false, not, ◌&&◌, List, [], ◌∷◌, ◌++◌, Option, Some, None, bytes_eq, find, map, nat_eq, if◌then◌else◌}
use Rattle.std.specs.Option.{option_and_then, option_map_or}
use Rattle.abnf_token.specs.Folded.{lowercase}
use Rattle.abnf_syntax.specs.declared.block.Block.{Block}
use Rattle.abnf_syntax.specs.declared.block.Head.{Head}
use Rattle.abnf_syntax.specs.declared.item.Item.{Item}
use Rattle.abnf_syntax.specs.Grammar.{kind_of}
use Rattle.abnf_syntax.specs.Heads.{head_of}
use Rattle.abnf_syntax.specs.Kinds.{is_name_kind}
use Rattle.abnf_parts.specs.Names.{Name}
use Rattle.joined_grammars.specs.Joined.{AreBlocksOf}
use Rattle.joined_grammars.specs.declared.repeats.Repeat.{Repeat}

-- ---- what definitions say

-- what is read of an item: whether it is a name, and its text
abbrev pub Word : Type 0
Word = Bool × List ℕ

-- the word of an item, of a name with small letters, as names are read without case (RFC 5234 section 2.1)
abbrev pub word_of : Item → Word
word_of item = (is_name_kind (kind_of item), if is_name_kind (kind_of item) then lowercase item.token.text.now else item.token.text.now)

-- two names, or two others, with the same text
abbrev pub is_same_word : Word → Word → Bool
is_same_word a b = (if a.0 then b.0 else not b.0) && bytes_eq a.1 b.1

-- words that are the same, one by one
abbrev pub same_words : List Word → List Word → Bool
same_words [] [] = true
same_words (x ∷ xs) (y ∷ ys) = is_same_word x y && same_words xs ys
same_words _ _ = false

-- What counts of a block where definitions are compared: its first line, the name that it defines by `=`, with small letters,
-- if it defines one, and its words, without blanks and comments.
pub record Definition : Type 0 where
  pub line : ℕ
  pub name : Option Name
  pub words : List Word

-- the name that a head defines by `=`
abbrev pub name_defined : Head → Option Name
name_defined head = if head.adds then None else Some (lowercase head.name.text.now)

-- what counts of a block
abbrev pub definition : Block → Definition
definition block = record {
  line = block.first;
  name = option_and_then name_defined (head_of block.items);
  words = map word_of block.items;
}

-- ---- which repeat another one

-- it defines this name
abbrev pub is_of_name : Name → Definition → Bool
is_of_name name d = option_map_or (bytes_eq name) d.name false

-- how a definition repeats the first of its name
abbrev pub repeat : Definition → Definition → Repeat
repeat first d = record { line = d.line; original = first.line; is_same = same_words first.words d.words }

-- how a definition behind others repeats the first of them with its name, if one has it
abbrev pub repeat_of : List Definition → Definition → List Repeat
repeat_of before d = option_map_or (λ name. option_map_or (λ first. repeat first d ∷ []) (find (is_of_name name) before) []) d.name []

-- how definitions behind others repeat those before them, in order
abbrev pub repeats_behind : List Definition → List Definition → List Repeat
repeats_behind before [] = []
repeats_behind before (d ∷ ds) = repeat_of before d ++ repeats_behind (before ++ d ∷ []) ds

-- These are the definitions of a text that repeat earlier ones. There is one such list (`repeats_exist`), and only one
-- (`repeats_are_unique`).
pub record AreRepeats (text : List ℕ) (found : List Repeat) : Type 0 where
  pub blocks : List Block
  pub are_blocks : AreBlocksOf text blocks
  pub are : found ≡ repeats_behind [] (map definition blocks)

-- the definition whose head stands in this line, if it repeats one
abbrev pub repeat_at : List Repeat → ℕ → Option Repeat
repeat_at found line = find (λ r. nat_eq r.line line) found
