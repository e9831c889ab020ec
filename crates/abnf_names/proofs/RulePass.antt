-- The alternatives of a rule, block by block.
use Rattle.std.proofs.Common.{◌≡◌, ◌<◌, ◌≤◌, ◌+◌, ℕ, zero, suc, Bool, true, false, List, [], ◌∷◌, ◌++◌, map, drop, take, length, length-append, get_or, refl, sym, ap, subst, ◌∙◌, append-nil, append_assoc, arith}
use Rattle.std.proofs.Math.Seq.{drop-cons}
use Rattle.std.proofs.lemmas.List.{drop_all, take_all}
use Rattle.std.proofs.lemmas.Grind.{flat_map-append}
use Rattle.std.specs.Prelude.{All, Option, Result, Err, flat_map, filter, not, ◌||◌, if◌then◌else◌}
use Rattle.abnf_parts.specs.declared.node.Node.{Node}
use Rattle.abnf_names.specs.declared.section.Listed.{Listed}
use Rattle.abnf_parts.specs.Part.{Part, alt, subparts}
use Rattle.abnf_parts.specs.Tree.{parts}
use Rattle.abnf_names.specs.Said.{Block, BlockSays}
use Rattle.abnf_parts.specs.Names.{Name, rule_number, all_names}
use Rattle.abnf_syntax.specs.declared.fault.SyntaxFault.{SyntaxFault}
use Rattle.abnf_syntax.specs.declared.fault.SyntaxFault.TheVariants as SyntaxFaults
use Rattle.abnf_syntax.specs.declared.tree.Rule.{Rule}
use Rattle.abnf_names.specs.Rules.{alternatives_said, counted, adds, defines, names_of, rule_tree, rules_of, core_tree, needed, defined, said_alternatives}
use Rattle.abnf_parts.specs.CoreTable.{core_of, number_in}
use Rattle.abnf_parts.specs.declared.core_rule.Core.{Core}
use Rattle.abnf_parts.proofs.ApartLaws.{map_both}
use Rattle.abnf_names.specs.Sections.{IsSaidBy}
use Rattle.abnf_names.specs.own.Passes.{alternatives_of, counted_among, definition_of, HeadSaid, defines_name, is_addition, is_adding, IsToldDefinition, members_in, tree_of, AllTold, AreBeside, AreDefined, AreNames, AreTold}
use Rattle.abnf_names.specs.Excerpts.{Excerpt, excerpt, excerpt_of}
use Rattle.abnf_names.proofs.OwnPass.{grouped_defined}
use Rattle.abnf_syntax.proofs.Cons.{cons_same}
use Rattle.std.proofs.lemmas.List.Elements.{All-head, All-tail, All-cons}
use Rattle.abnf_names.proofs.Once.{IsOnce, defined_once, members_are, map_same}
use Rattle.abnf_parts.specs.Pushed.{AddsNodes, AddsTrees}
use Rattle.abnf_parts.proofs.Pushing.{trees_none, trees_both, trees_next}

-- the alternatives of those definitions in front that count, where it is known whether one with `=` was among them
pub record HasPushed (said : HeadSaid → List Part) (all : List HeadSaid) (is_defined : Bool) (left : List HeadSaid) (old new : List Node) (before after : List ℕ) : Type 0 where
  pub front : List HeadSaid
  pub whole : counted_among all ≡ front ++ (if is_defined then filter is_adding left else counted_among left)
  pub added : AddsTrees (flat_map said front) old new before after

pub pushed_none : (said : HeadSaid → List Part) (all : List HeadSaid) (nodes : List Node) (before : List ℕ) → HasPushed said all false all nodes nodes before before
pushed_none said all nodes before = record { front = []; whole = refl; added = trees_none nodes before }

abbrev if_counts : Bool → HeadSaid → List HeadSaid
if_counts b d = if b then d ∷ [] else []

one_more : (is_defined adding : Bool) (d : HeadSaid) (left : List HeadSaid) → is_adding d ≡ adding →
    (if is_defined then filter is_adding (d ∷ left) else counted_among (d ∷ left)) ≡ if_counts (adding || not is_defined) d ++ (if is_defined || not adding then filter is_adding left else counted_among left)
one_more true true d left e = ap (λ b. if b then d ∷ filter is_adding left else filter is_adding left) e
one_more true false d left e = ap (λ b. if b then d ∷ filter is_adding left else filter is_adding left) e
one_more false true d left e = ap (λ b. d ∷ (if b then counted_among left else filter is_adding left)) e
one_more false false d left e = ap (λ b. d ∷ (if b then counted_among left else filter is_adding left)) e

if_said : (said : HeadSaid → List Part) (b : Bool) (d : HeadSaid) → flat_map said (if_counts b d) ≡ (if b then said d else [])
if_said said true d = append-nil (said d)
if_said said false d = refl

pub pushed_more : (said : HeadSaid → List Part) (all : List HeadSaid) (is_defined adding : Bool) (d : HeadSaid) (left : List HeadSaid) (old mid new : List Node) (a b c : List ℕ) →
    HasPushed said all is_defined (d ∷ left) old mid a b → adding ≡ is_adding d → AddsTrees (if adding || not is_defined then said d else []) mid new b c → HasPushed said all (is_defined || not adding) left old new a c
pushed_more said all is_defined adding d left old mid new a b c h e k = record {
  front = h.front ++ if_counts (adding || not is_defined) d;
  whole = h.whole ∙ (ap (λ rest. h.front ++ rest) (one_more is_defined adding d left (sym e)) ∙ sym (append_assoc h.front (if_counts (adding || not is_defined) d) (if is_defined || not adding then filter is_adding left else counted_among left)));
  added =
      subst (λ ps. AddsTrees ps old new a c) (ap (λ ps. flat_map said h.front ++ ps) (sym (if_said said (adding || not is_defined) d)) ∙ sym (flat_map-append said h.front (if_counts (adding || not is_defined) d)))
      (trees_both (flat_map said h.front) (if adding || not is_defined then said d else []) old mid new a b c h.added k);
}

if_empty : (is_defined : Bool) → (if is_defined then filter is_adding [] else counted_among []) ≡ []
if_empty true = refl
if_empty false = refl

pub pushed_all : (said : HeadSaid → List Part) (all : List HeadSaid) (is_defined : Bool) (old new : List Node) (a c : List ℕ) → HasPushed said all is_defined [] old new a c → AddsTrees (flat_map said (counted_among all)) old new a c
pushed_all said all is_defined old new a c h =
    subst (λ blocks. AddsTrees (flat_map said blocks) old new a c) (sym (h.whole ∙ (ap (λ rest. h.front ++ rest) (if_empty is_defined) ∙ append-nil h.front))) h.added

-- blocks count where what they say counts
if_adding : (a : Bool) (bs cs : List Block) (ds es : List HeadSaid) → ds ≡ map definition_of bs → es ≡ map definition_of cs → (if a then ds else es) ≡ map definition_of (if a then bs else cs)
if_adding true bs cs ds es p q = p
if_adding false bs cs ds es p q = q

adding_of : (bs : List Block) → filter is_adding (map definition_of bs) ≡ map definition_of (filter adds bs)
adding_of [] = refl
adding_of (b ∷ bs) =
    if_adding (adds b) (b ∷ filter adds bs) (filter adds bs) (definition_of b ∷ filter is_adding (map definition_of bs)) (filter is_adding (map definition_of bs))
    (ap (λ ds. definition_of b ∷ ds) (adding_of bs)) (adding_of bs)

counted_of : (bs : List Block) → counted_among (map definition_of bs) ≡ map definition_of (counted bs)
counted_of [] = refl
counted_of (b ∷ bs) =
    ap (λ ds. definition_of b ∷ ds)
    (if_adding (adds b) (counted bs) (filter adds bs) (counted_among (map definition_of bs)) (filter is_adding (map definition_of bs)) (counted_of bs) (adding_of bs))

said_of : (number : Name → Option ℕ) (bs : List Block) → flat_map (alternatives_of number) (map definition_of bs) ≡ flat_map (said_alternatives number) bs
said_of number [] = refl
said_of number (b ∷ bs) = ap (λ ps. said_alternatives number b ++ ps) (said_of number bs)

-- the tree of a name's rule by what its blocks say
rule_is : (blocks : List Block) (number : Name → Option ℕ) → number ≡ rule_number (names_of blocks) → (n : Name) → tree_of number (map definition_of (filter (defines n) blocks)) ≡ rule_tree blocks n
rule_is blocks number e n =
    let bs = filter (defines n) blocks in
    ap (λ ds. alt (parts (flat_map (alternatives_of number) ds))) (counted_of bs)
    ∙ (ap (λ ps. alt (parts ps)) (said_of number (counted bs))
    ∙ ap (λ (it : Name → Option ℕ). alt (parts (flat_map (said_alternatives it) (counted bs)))) e)

-- ---- what sections tell

pub beside_length : {A B : Type 0} (R : A → B → Type 0) (xs : List A) (ys : List B) → AreBeside R xs ys → length xs ≡ length ys
beside_length R [] [] h = refl
beside_length R [] (y ∷ ys) h = absurd h
beside_length R (x ∷ xs) [] h = absurd h
beside_length R (x ∷ xs) (y ∷ ys) h = ap suc (beside_length R xs ys h.1)

pub beside_at : {A B : Type 0} (R : A → B → Type 0) (xs : List A) (ys : List B) → AreBeside R xs ys → (i : ℕ) (d : A) (e : B) → i < length xs → R (get_or xs i d) (get_or ys i e)
beside_at R [] [] h i d e lt = absurd (omega (arith, lt))
beside_at R [] (y ∷ ys) h i d e lt = absurd h
beside_at R (x ∷ xs) [] h i d e lt = absurd h
beside_at R (x ∷ xs) (y ∷ ys) h zero d e lt = h.0
beside_at R (x ∷ xs) (y ∷ ys) h (suc i) d e lt = beside_at R xs ys h.1 i d e (omega (arith, lt))

-- the next section, and the definition that it tells
pub counted_next : (number : Name → Option ℕ) (sections : List Listed) (definitions : List HeadSaid) (i : ℕ) (listed : Listed) (is_defined adding : Bool) (old mid new : List Node) (a b c : List ℕ) →
    AreTold sections definitions → i < length sections → listed ≡ get_or sections i listed → adding ≡ is_addition listed.section.now.block.items → HasPushed (alternatives_of number) definitions is_defined (drop i definitions) old mid a b →
    ((said : Result Rule SyntaxFault) → IsSaidBy listed.section.now said → AddsTrees (if adding || not is_defined then alternatives_said number said else []) mid new b c) →
    HasPushed (alternatives_of number) definitions (is_defined || not adding) (drop (i + 1) definitions) old new a c
counted_next number sections definitions i listed is_defined adding old mid new a b c told lt is adds h pushed =
    let first : HeadSaid = record { adds = adding; said = Err SyntaxFaults.Memory } in
    let d = get_or definitions i first in
    let tells : IsToldDefinition listed.section.now d = subst (λ (it : Listed). IsToldDefinition it.section.now d) (sym is) (beside_at (λ listed definition. IsToldDefinition listed.section.now definition) sections definitions told i listed first lt) in
    let within : i < length definitions = subst (λ n. i < n) (beside_length (λ listed definition. IsToldDefinition listed.section.now definition) sections definitions told) lt in
    pushed_more (alternatives_of number) definitions is_defined adding d (drop (i + 1) definitions) old mid new a b c
    (subst (λ (left : List HeadSaid). HasPushed (alternatives_of number) definitions is_defined left old mid a b)
    (drop-cons definitions i first within ∙ ap (λ k. d ∷ drop k definitions) (let one : suc i ≡ i + 1 = omega arith in one)) h)
    (adds ∙ tells.adds) (pushed d.said tells.said)

counts_first : (adding : Bool) → true ≡ adding || not false
counts_first true = refl
counts_first false = refl

-- the first section, which counts, and the definition that it tells
pub counted_first : (number : Name → Option ℕ) (first : Listed) (rest : List Listed) (definitions : List HeadSaid) (adding : Bool) (old new : List Node) (a c : List ℕ) →
    AreTold (first ∷ rest) definitions → adding ≡ is_addition first.section.now.block.items → ((said : Result Rule SyntaxFault) → IsSaidBy first.section.now said → AddsTrees (alternatives_said number said) old new a c) →
    HasPushed (alternatives_of number) definitions (not adding) (drop 1 definitions) old new a c
counted_first number first rest definitions adding old new a c told adds pushed =
    counted_next number (first ∷ rest) definitions 0 first false adding old old new a a c told (omega arith) refl adds (pushed_none (alternatives_of number) definitions old a)
    (λ said says. subst (λ b. AddsTrees (if b then alternatives_said number said else []) old new a c) (counts_first adding) (pushed said says))

pub counted_end : (number : Name → Option ℕ) (sections : List Listed) (definitions : List HeadSaid) (i : ℕ) (is_defined : Bool) (old new : List Node) (a c : List ℕ) →
    AreTold sections definitions → length sections ≤ i → HasPushed (alternatives_of number) definitions is_defined (drop i definitions) old new a c → AddsTrees (flat_map (alternatives_of number) (counted_among definitions)) old new a c
counted_end number sections definitions i is_defined old new a c told end h =
    let same = beside_length (λ listed definition. IsToldDefinition listed.section.now definition) sections definitions told in
    pushed_all (alternatives_of number) definitions is_defined old new a c
    (subst (λ (left : List HeadSaid). HasPushed (alternatives_of number) definitions is_defined left old new a c) (drop_all i definitions (omega (arith, same, end))) h)

-- the next name's rule
pub own_next : (number : Name → Option ℕ) (own : List (List Listed)) (definitions : List (List HeadSaid)) (i : ℕ) (listed : List Listed) (old mid new : List Node) (a b c : List ℕ) →
    AllTold own definitions → i < length own → listed ≡ get_or own i listed → AddsTrees (map (tree_of number) (take i definitions)) old mid a b → c ≡ b ++ length mid ∷ [] →
    ((said : List HeadSaid) → AreTold listed said → AddsNodes (subparts (tree_of number said)) mid new) → AddsTrees (map (tree_of number) (take (i + 1) definitions)) old new a c
own_next number own definitions i listed old mid new a b c told lt is h e pushed =
    let within : i < length definitions = subst (λ n. i < n) (beside_length AreTold own definitions told) lt in
    let tells : AreTold listed (get_or definitions i []) = subst (λ (it : List Listed). AreTold it (get_or definitions i [])) (sym is) (beside_at AreTold own definitions told i listed [] lt) in
    trees_next (tree_of number) definitions (get_or definitions i []) [] i old mid new a b c within refl h e (pushed (get_or definitions i []) tells)

pub own_end : (number : Name → Option ℕ) (own : List (List Listed)) (definitions : List (List HeadSaid)) (i : ℕ) (old new : List Node) (a c : List ℕ) →
    AllTold own definitions → length own ≤ i → AddsTrees (map (tree_of number) (take i definitions)) old new a c → AddsTrees (map (tree_of number) definitions) old new a c
own_end number own definitions i old new a c told end h =
    let same = beside_length AreTold own definitions told in
    subst (λ (them : List (List HeadSaid)). AddsTrees (map (tree_of number) them) old new a c) (take_all i definitions (omega (arith, same, end))) h

pub pushed_within : (at : ℕ) (old mid new : List Node) (node : Node) → at ≡ length old → mid ≡ old ++ node ∷ [] → length mid ≤ length new → at < length new
pushed_within at old mid new node is pushed kept =
    let count : length mid ≡ length old + 1 = ap length pushed ∙ length-append old (node ∷ []) in
    omega (arith, is, count, kept)

pub trees_kept : (trees : List Part) (old new : List Node) (before after : List ℕ) → AddsTrees trees old new before after → length old ≤ length new
trees_kept trees old new before after h =
    let count = ap length h.nodes.joined ∙ length-append old h.nodes.more in
    omega (arith, count)

beside_map : {X A B : Type 0} (R : A → B → Type 0) (f : X → A) (g : X → B) → ((x : X) → R (f x) (g x)) → (xs : List X) → AreBeside R (map f xs) (map g xs)
beside_map R f g h [] = tt
beside_map R f g h (x ∷ xs) = (h x, beside_map R f g h xs)

abbrev Says_own : Block → Type 0
Says_own block = BlockSays block.items block.said

kept_by : (b : Bool) (block : Block) (blocks kept : List Block) → Says_own block → All Says_own kept → All Says_own (if b then block ∷ kept else kept)
kept_by true block blocks kept h rest = All-cons Says_own block kept h rest
kept_by false block blocks kept h rest = rest

says_filter : (test : Block → Bool) (blocks : List Block) → All Says_own blocks → All Says_own (filter test blocks)
says_filter test [] h = h
says_filter test (block ∷ blocks) h = kept_by (test block) block blocks (filter test blocks) (All-head Says_own block blocks h) (says_filter test blocks (All-tail Says_own block blocks h))

-- sections tell what the blocks say whose excerpts they have
told_by : (sections : List Listed) (blocks : List Block) → All Says_own blocks → map (λ listed. excerpt listed.section.now) sections ≡ map excerpt_of blocks → AreTold sections (map definition_of blocks)
told_by [] [] says e = tt
told_by [] (b ∷ blocks) says e = absurd (cc)
told_by (s ∷ sections) [] says e = absurd (cc)
told_by (s ∷ sections) (b ∷ blocks) says e =
    let h = cons_same e in
    let items : s.section.now.block.items ≡ b.items = ap (λ (x : Excerpt). x.items) h.0 in (
      record {
        adds = ap is_addition items;
        said = record { says = subst (λ items. BlockSays items b.said) (sym items) (All-head Says_own b blocks says); shown = ap (λ (x : Excerpt). x.fault) h.0 };
      },
      told_by sections blocks (All-tail Says_own b blocks says) h.1,
    )

filter_of : (n : Name) (blocks : List Block) → filter (defines_name n) (map excerpt_of blocks) ≡ map excerpt_of (filter (defines n) blocks)
filter_of n [] = refl
filter_of n (block ∷ blocks) = by (defines n block) (filter_of n blocks)
  where
    by : (b : Bool) → filter (defines_name n) (map excerpt_of blocks) ≡ map excerpt_of (filter (defines n) blocks)
        → (if b then excerpt_of block ∷ filter (defines_name n) (map excerpt_of blocks) else filter (defines_name n) (map excerpt_of blocks)) ≡ map excerpt_of (if b then block ∷ filter (defines n) blocks else filter (defines n) blocks)
    by true rest = ap (λ es. excerpt_of block ∷ es) rest
    by false rest = rest

-- what is said of a name by its blocks
abbrev own_said : List Block → Name → List HeadSaid
own_said blocks n = map definition_of (filter (defines n) blocks)

all_told : (blocks : List Block) (own : List Name) (sections : List (List Listed)) → AreDefined blocks own sections → AllTold sections (map (own_said blocks) own)
all_told blocks own sections are =
    let names = grouped_defined blocks (own, sections) are.groups in
    subst (λ (them : List (List Listed)). AllTold them (map (own_said blocks) own)) (members_are own sections (subst IsOnce (sym names) (defined_once blocks)) are.beside)
    (beside_map AreTold (members_in own sections) (own_said blocks)
    (λ n. told_by (members_in own sections n) (filter (defines n) blocks) (says_filter (defines n) blocks are.says) (are.groups.members n ∙ filter_of n blocks)) own)

-- the trees of the text's rules
own_trees : (blocks : List Block) (own : List Name) (number : Name → Option ℕ) → own ≡ defined blocks → number ≡ rule_number (names_of blocks) →
    map (tree_of number) (map (own_said blocks) own) ≡ map (rule_tree blocks) (defined blocks)
own_trees blocks own number names e =
    sym (map_both (tree_of number) (own_said blocks) own)
    ∙ (map_same (λ n. tree_of number (own_said blocks n)) (rule_tree blocks) (rule_is blocks number e) own
    ∙ ap (map (rule_tree blocks)) names)

pub names_are : (blocks : List Block) (names : List Name × List Name) → AreNames blocks names → names_of blocks ≡ all_names names
names_are blocks names are = sym (ap (λ own. own ++ names.1) are.own ∙ ap (λ core. defined blocks ++ core) are.core)

-- the rules of the text, and then the core rules
pub rules_added : (blocks : List Block) (names : List Name × List Name) (sections : List (List Listed)) (cores : List Core) (first : ℕ) (old mid new : List Node) (a b c : List ℕ) → AreDefined blocks names.0 sections →
    AreNames blocks names → first ≡ length names.0 → map core_of cores ≡ needed blocks →
    ((definitions : List (List HeadSaid)) → AllTold sections definitions → AddsTrees (map (tree_of (rule_number (all_names names))) definitions) old mid a b) →
    AddsTrees (map (λ core. (core_of core).tree (number_in first names.1)) cores) mid new b c → AddsTrees (rules_of blocks) old new a c
rules_added blocks names sections cores first old mid new a b c defined_are are f n h k =
    let said = tree_of (rule_number (all_names names)) in
    let definitions = map (own_said blocks) names.0 in
    subst (λ trees. AddsTrees trees old new a c)
    (ap (λ front. front ++ map (λ core. (core_of core).tree (number_in first names.1)) cores) (own_trees blocks names.0 (rule_number (all_names names)) are.own (ap rule_number (sym (names_are blocks names are))))
    ∙ ap (λ back. map (rule_tree blocks) (defined blocks) ++ back)
    (ap (λ (number : Name → Option ℕ). map (λ core. (core_of core).tree number) cores) (ap (λ k. number_in k names.1) (f ∙ ap length are.own) ∙ ap (number_in (length (defined blocks))) are.core)
    ∙ (map_both (core_tree blocks) core_of cores ∙ ap (map (core_tree blocks)) n)))
    (trees_both (map said definitions) (map (λ core. (core_of core).tree (number_in first names.1)) cores) old mid new a b c (h definitions (all_told blocks names.0 sections defined_are)) k)
