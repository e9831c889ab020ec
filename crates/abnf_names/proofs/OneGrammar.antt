-- A text has one grammar. What a grammar knows of a block are its bare items, the alternatives that it says, and its fault, and
-- these are the same for all lists of blocks that a text has.
use Rattle.std.proofs.Common.{◌≡◌, ℕ, ◌+◌, Bool, true, false, List, [], ◌∷◌, ◌++◌, length, map, Option, Some, None, option_map, Result, Ok, Err, refl, sym, ap, subst, ◌∙◌, cond}
use Rattle.std.specs.Prelude.{if◌then◌else◌, filter, fold, flat_map, not}
use Rattle.std.specs.List.{filter_map, list_any, cons_option}
use Rattle.std.specs.Option.{is_some, option_map_or}
use Rattle.std.specs.Str.{bytes_eq}
use Rattle.abnf_token.specs.Classes.{Text}
use Rattle.abnf_token.specs.Folded.{lowercase}
use Rattle.abnf_token.specs.declared.token.Kind.{Kind}
use Rattle.ls_text.specs.declared.position.Place.{Place}
use Rattle.abnf_syntax.specs.declared.block.Head.{Head}
use Rattle.abnf_syntax.specs.declared.item.Item.{Item}
use Rattle.abnf_syntax.specs.declared.fault.SyntaxFault.{SyntaxFault}
use Rattle.abnf_syntax.specs.declared.tree.Rule.{Rule}
use Rattle.abnf_syntax.specs.Blocks.{line_texts}
use Rattle.abnf_syntax.specs.Grammar.{kind_of}
use Rattle.abnf_syntax.specs.Heads.{head_of}
use Rattle.abnf_syntax.proofs.Bare.{bare, bare_head, head_bare, one_list, same_items, same_fault, no_fault}
use Rattle.abnf_parts.specs.Part.{Part, alt}
use Rattle.abnf_parts.specs.Tree.{parts}
use Rattle.abnf_parts.specs.Names.{Name, with_name, rule_number}
use Rattle.abnf_parts.specs.Core.{CoreRule, core_name, core_rules, is_needed}
use Rattle.abnf_parts.proofs.Alike.{same_alternatives}
use Rattle.abnf_names.specs.Said.{Block, BlockSays, IsWithin, AreWithin, AreSaid, name_of}
use Rattle.abnf_names.specs.Places.{named, use_after, uses_after, places_in, places_of}
use Rattle.abnf_names.specs.Shown.{fault_shown}
use Rattle.abnf_names.specs.Rules.{defines, adds, counted, head_name, defined, undefined, needed, names_of, alternatives_said, said_alternatives, rule_tree, core_tree, rules_of, fault_said, faults_of, Grammar, grammar_of, IsGrammar}

abbrev pub Plain : Type 0
Plain = List Item × ((Name → Option ℕ) → List Part) × Option SyntaxFault

abbrev pub plain : Block → Plain
plain block = (map bare block.items, λ number. said_alternatives number block, fault_shown block.said)

-- ---- the blocks of a text

same_said : (xs ys : List Item) (r s : Result Rule SyntaxFault) → map bare xs ≡ map bare ys → BlockSays xs r → BlockSays ys s →
    ((number : Name → Option ℕ) → alternatives_said number r ≡ alternatives_said number s) × (fault_shown r ≡ fault_shown s)
same_said xs ys (Ok r) (Ok s) e p q = (same_alternatives xs ys r s e p q, refl)
same_said xs ys (Ok r) (Err b) e p q = no_fault xs ys r b e p q
same_said xs ys (Err a) (Ok s) e p q = no_fault ys xs s a (sym e) q p
same_said xs ys (Err a) (Err b) e p q = (λ number. refl, ap Some (same_fault xs ys a b e p q))

pub same_block : (ls : List Text) (bounds : ℕ × ℕ) (b c : Block) → IsWithin ls bounds b → IsWithin ls bounds c → plain b ≡ plain c
same_block ls bounds b c p q =
    let items_are = same_items ls bounds.0 bounds.1 b.items c.items p.items q.items in
    let said = same_said b.items c.items b.said c.said items_are p.says q.says in
    (λ i. (items_are i, (λ number. said.0 number i), said.1 i))

-- what is seen of a block is the same for all lists of blocks that a text has, if it is so of one block
module _ {X : Type 0} (seen : Block → X) (same : (ls : List Text) (bounds : ℕ × ℕ) (b c : Block) → IsWithin ls bounds b → IsWithin ls bounds c → seen b ≡ seen c) where
  same_within : (ls : List Text) (bounds : List (ℕ × ℕ)) (bs cs : List Block) → AreWithin ls bounds bs → AreWithin ls bounds cs → map seen bs ≡ map seen cs
  same_within ls [] [] [] p q = refl
  same_within ls [] [] (c ∷ cs) p q = absurd q
  same_within ls [] (b ∷ bs) cs p q = absurd p
  same_within ls (at ∷ bounds) [] cs p q = absurd p
  same_within ls (at ∷ bounds) (b ∷ bs) [] p q = absurd q
  same_within ls (at ∷ bounds) (b ∷ bs) (c ∷ cs) p q = (λ i. same ls at b c p.0 q.0 i ∷ same_within ls bounds bs cs p.1 q.1 i)

  pub same_seen : (text : List ℕ) (bs cs : List Block) → AreSaid text bs → AreSaid text cs → map seen bs ≡ map seen cs
  same_seen text bs cs p q =
      let e = one_list (line_texts text) 0 p.bounds q.bounds p.all q.all in
      same_within (line_texts text) p.bounds bs cs p.each (subst (λ bounds. AreWithin (line_texts text) bounds cs) (sym e) q.each)

same_blocks : (text : List ℕ) (bs cs : List Block) → AreSaid text bs → AreSaid text cs → map plain bs ≡ map plain cs
same_blocks = same_seen plain same_block

-- ---- heads

named_by : (o : Option Head) → option_map name_of (option_map bare_head o) ≡ option_map name_of o
named_by None = refl
named_by (Some head) = refl

some_by : (o : Option Head) → is_some (option_map bare_head o) ≡ is_some o
some_by None = refl
some_by (Some head) = refl

adds_by : (o : Option Head) → option_map_or (λ (head : Head). head.adds) (option_map bare_head o) false ≡ option_map_or (λ (head : Head). head.adds) o false
adds_by None = refl
adds_by (Some head) = refl

defines_by : (name : Name) (o : Option Head) → option_map_or (λ head. bytes_eq (name_of head) name) (option_map bare_head o) false ≡ option_map_or (λ head. bytes_eq (name_of head) name) o false
defines_by name None = refl
defines_by name (Some head) = refl

abbrev plain_name : Plain → Option Name
plain_name p = option_map name_of (head_of p.0)

abbrev plain_adds : Plain → Bool
plain_adds p = option_map_or (λ (head : Head). head.adds) (head_of p.0) false

abbrev plain_defines : Name → Plain → Bool
plain_defines name p = option_map_or (λ head. bytes_eq (name_of head) name) (head_of p.0) false

name_is : (block : Block) → plain_name (plain block) ≡ head_name block
name_is block = ap (option_map name_of) (head_bare block.items) ∙ named_by (head_of block.items)

adds_is : (block : Block) → plain_adds (plain block) ≡ adds block
adds_is block = ap (λ o. option_map_or (λ (head : Head). head.adds) o false) (head_bare block.items) ∙ adds_by (head_of block.items)

defines_is : (name : Name) (block : Block) → plain_defines name (plain block) ≡ defines name block
defines_is name block = ap (λ o. option_map_or (λ head. bytes_eq (name_of head) name) o false) (head_bare block.items) ∙ defines_by name (head_of block.items)

-- ---- places

uses_bare : (before : Kind) (xs : List Item) → uses_after before (map bare xs) ≡ uses_after before xs
uses_bare before [] = refl
uses_bare before (x ∷ xs) = ap (λ l. use_after before x ++ l) (uses_bare (kind_of x) xs)

pub places_bare : (xs : List Item) → places_in (map bare xs) ≡ places_in xs
places_bare [] = refl
places_bare (x ∷ xs) = (λ i. named ((ap is_some (head_bare (x ∷ xs)) ∙ some_by (head_of (x ∷ xs))) i) x ++ uses_bare (kind_of x) xs i)

places_plain : (blocks : List Block) → flat_map (λ (p : Plain). places_in p.0) (map plain blocks) ≡ places_of blocks
places_plain [] = refl
places_plain (block ∷ blocks) = (λ i. places_bare block.items i ++ places_plain blocks i)

-- ---- lists of blocks

names_plain : (blocks : List Block) → filter_map plain_name (map plain blocks) ≡ filter_map head_name blocks
names_plain [] = refl
names_plain (block ∷ blocks) = (λ i. cons_option (name_is block i) (names_plain blocks i))

-- the fault with its place
abbrev plain_fault : Plain → Option (Place × SyntaxFault)
plain_fault p = option_map_or (λ fault. fault_said (Err fault)) p.2 None

fault_is : (said : Result Rule SyntaxFault) → option_map_or (λ fault. fault_said (Err fault)) (fault_shown said) None ≡ fault_said said
fault_is (Ok rule) = refl
fault_is (Err fault) = refl

faults_plain : (blocks : List Block) → filter_map plain_fault (map plain blocks) ≡ faults_of blocks
faults_plain [] = refl
faults_plain (block ∷ blocks) = (λ i. cons_option (fault_is block.said i) (faults_plain blocks i))

tells_plain : (number : Name → Option ℕ) (blocks : List Block) → flat_map (λ (p : Plain). p.1 number) (map plain blocks) ≡ flat_map (said_alternatives number) blocks
tells_plain number [] = refl
tells_plain number (block ∷ blocks) = ap (λ l. said_alternatives number block ++ l) (tells_plain number blocks)

kept_by : (b : Bool) (block : Block) (blocks : List Block) → map plain (cond b (block ∷ blocks) blocks) ≡ cond b (plain block ∷ map plain blocks) (map plain blocks)
kept_by true block blocks = refl
kept_by false block blocks = refl

filter_plain : (test : Plain → Bool) (of_block : Block → Bool) → ((block : Block) → test (plain block) ≡ of_block block) → (blocks : List Block) → filter test (map plain blocks) ≡ map plain (filter of_block blocks)
filter_plain test of_block same [] = refl
filter_plain test of_block same (block ∷ blocks) =
    (λ i. cond (same block i) (plain block ∷ filter_plain test of_block same blocks i) (filter_plain test of_block same blocks i))
    ∙ sym (kept_by (of_block block) block (filter of_block blocks))

abbrev plain_counted : List Plain → List Plain
plain_counted [] = []
plain_counted (p ∷ ps) = p ∷ (if plain_adds p then plain_counted ps else filter plain_adds ps)

if_by : (b : Bool) (xs ys : List Block) → map plain (if b then xs else ys) ≡ (if b then map plain xs else map plain ys)
if_by true xs ys = refl
if_by false xs ys = refl

counted_plain : (blocks : List Block) → plain_counted (map plain blocks) ≡ map plain (counted blocks)
counted_plain [] = refl
counted_plain (block ∷ blocks) =
    (λ i. plain block ∷ (if adds_is block i then counted_plain blocks i else filter_plain plain_adds adds adds_is blocks i))
    ∙ ap (λ l. plain block ∷ l) (sym (if_by (adds block) (counted blocks) (filter adds blocks)))

alternatives_plain : (number : Name → Option ℕ) (name : Name) (blocks : List Block) →
    flat_map (λ (p : Plain). p.1 number) (plain_counted (filter (plain_defines name) (map plain blocks))) ≡ flat_map (said_alternatives number) (counted (filter (defines name) blocks))
alternatives_plain number name blocks =
    ap (λ l. flat_map (λ (p : Plain). p.1 number) (plain_counted l)) (filter_plain (plain_defines name) (defines name) (defines_is name) blocks)
    ∙ (ap (flat_map (λ (p : Plain). p.1 number)) (counted_plain (filter (defines name) blocks))
    ∙ tells_plain number (counted (filter (defines name) blocks)))

-- ---- the grammar

module _ (bs cs : List Block) (e : map plain bs ≡ map plain cs) where
  defined_same : defined bs ≡ defined cs
  defined_same = ap (fold with_name []) (sym (names_plain bs) ∙ (ap (filter_map plain_name) e ∙ names_plain cs))

  places_same : places_of bs ≡ places_of cs
  places_same = sym (places_plain bs) ∙ (ap (flat_map (λ (p : Plain). places_in p.0)) e ∙ places_plain cs)

  faults_same : faults_of bs ≡ faults_of cs
  faults_same = sym (faults_plain bs) ∙ (ap (filter_map plain_fault) e ∙ faults_plain cs)

  undefined_same : undefined bs ≡ undefined cs
  undefined_same = (λ i. filter (λ name. not (list_any (bytes_eq name) (defined_same i))) (map (λ place. lowercase place.text) (places_same i)))

  needed_same : needed bs ≡ needed cs
  needed_same = (λ i. filter (is_needed (undefined_same i)) core_rules)

  names_same : names_of bs ≡ names_of cs
  names_same = (λ i. defined_same i ++ map core_name (needed_same i))

  rule_same : (name : Name) → rule_tree bs name ≡ rule_tree cs name
  rule_same name =
      ap (λ l. alt (parts l))
      (sym (alternatives_plain (rule_number (names_of bs)) name bs)
      ∙ ((λ i. flat_map (λ (p : Plain). p.1 (rule_number (names_same i))) (plain_counted (filter (plain_defines name) (e i))))
      ∙ alternatives_plain (rule_number (names_of cs)) name cs))

  core_same : (core : CoreRule) → core_tree bs core ≡ core_tree cs core
  core_same core = (λ i. core.tree (λ name. option_map (λ r. length (defined_same i) + r) (rule_number (map core_name (needed_same i)) name)))

  rules_same : rules_of bs ≡ rules_of cs
  rules_same = (λ i. map (λ name. rule_same name i) (defined_same i) ++ map (λ core. core_same core i) (needed_same i))

  grammar_same : (text : List ℕ) → grammar_of text bs ≡ grammar_of text cs
  grammar_same text = (λ i. record { text = text; names = names_same i; rules = rules_same i; places = places_same i; faults = faults_same i })

pub one_defined : (text : List ℕ) (bs cs : List Block) → AreSaid text bs → AreSaid text cs → defined bs ≡ defined cs
one_defined text bs cs p q = defined_same bs cs (same_blocks text bs cs p q)

pub one_grammar : (g h : Grammar) → IsGrammar g → IsGrammar h → g.text ≡ h.text → g ≡ h
one_grammar g h p q e =
    let said : AreSaid g.text q.blocks = subst (λ text. AreSaid text q.blocks) (sym e) q.of_text in
    p.is ∙ (grammar_same p.blocks q.blocks (same_blocks g.text p.blocks q.blocks p.of_text said) g.text
    ∙ (ap (λ text. grammar_of text q.blocks) e ∙ sym q.is))
