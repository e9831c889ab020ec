-- Texts that are joined, one more at a time; that there is a joined text, and only one.
use Rattle.std.proofs.Common.{◌≡◌, ◌∙◌, ℕ, suc, ◌^◌, ◌<◌, ◌≤◌, ◌+◌, add-one, drop, drop-cons, get_or, List, [], ◌∷◌, ◌++◌, length, map, Option, Some, None, option_map, cond, append_assoc, append-nil, ap, refl, subst, sym}
use Rattle.std.specs.Prelude.{All, Bool, true, false, filter, flat_map, not, slice_range}
use Rattle.std.specs.Option.{is_some, option_map_or}
use Rattle.std.proofs.lemmas.List.{drop_all}
use Rattle.std.proofs.lemmas.List.Elements.{All-head, All-tail}
use Rattle.ls_text.specs.Lines.{lines}
use Rattle.abnf_token.specs.Classes.{Text}
use Rattle.abnf_token.specs.Folded.{lowercase}
use Rattle.abnf_syntax.specs.declared.block.Block.{Block}
use Rattle.abnf_syntax.specs.declared.block.Head.{Head}
use Rattle.abnf_syntax.specs.declared.item.Item.{Item}
use Rattle.abnf_syntax.specs.Blocks.{line_texts}
use Rattle.abnf_syntax.specs.Bounds.{bounds}
use Rattle.abnf_syntax.specs.Heads.{head_of}
use Rattle.abnf_syntax.specs.Items.{AreItems}
use Rattle.abnf_syntax.proofs.Bare.{bare, bare_head, head_bare, one_list, same_items}
use Rattle.abnf_syntax.proofs.Exist.{some_blocks}
use Rattle.abnf_parts.specs.Names.{Name, rule_number, with_name}
use Rattle.joined_grammars.specs.own.Passes.{HasJoined, JoinsBlocks, Joining}
use Rattle.joined_grammars.specs.Joined.{AreBlocksOf, Follows, IsJoined, block_text, with_break, defined_name, is_new, new_text, with_head_name, with_heads}

-- ---- there is one

abbrev IsSmall : List ℕ → Type 0
IsSmall text = length text < 2 ^ 62

abbrev IsWhole : List Text → Block → Type 0
IsWhole ls block = AreItems ls block.first block.end block.items × (0 < length block.items)

only_items : (ls : List Text) (blocks : List Block) → All (IsWhole ls) blocks → All (λ block. AreItems ls block.first block.end block.items) blocks
only_items ls blocks whole = λ k d less. (whole k d less).0

pub blocks_of : (text : List ℕ) → IsSmall text → (blocks : List Block) × AreBlocksOf text blocks
blocks_of text small =
    let found = some_blocks text small in
    (found.0, record { all = found.1; items = only_items (line_texts text) found.0 found.2 })

some_behind : (names : List Name) (others : List (List ℕ)) → All IsSmall others → (behind : List ℕ) × Follows names others behind
some_behind names [] small = ([], refl)
some_behind names (other ∷ others) small =
    let found = blocks_of other (All-head IsSmall other others small) in
    let rest = some_behind (with_heads names found.0) others (All-tail IsSmall other others small) in
    (new_text names other found.0 ++ rest.0, (found.0, rest.0, found.1, rest.1, refl))

pub some_joined : (told : List ℕ) (others : List (List ℕ)) → length told < 2 ^ 62 → All (λ other. length other < 2 ^ 62) others → (text : List ℕ) × IsJoined told others text
some_joined told others small all_small =
    let found = blocks_of told small in
    let rest = some_behind (with_heads [] found.0) others all_small in
    (told ++ rest.0, record { blocks = found.0; are_blocks = found.1; behind = rest.0; follows = rest.1; is = refl })

-- ---- one more

-- another text was joined
pub joined_next : (all : List (List ℕ)) (i : ℕ) (old was now : Joining) (other : List ℕ) → i < length all → other ≡ get_or all i other
    → HasJoined all (drop i all) old was → JoinsBlocks other was now → HasJoined all (drop (i + 1) all) old now
joined_next all i old was now other less at before joins = record {
  behind = before.behind ++ new_text was.names other joins.blocks;
  text = joins.text ∙ (ap (λ t. t ++ new_text was.names other joins.blocks) before.text ∙ append_assoc old.text before.behind (new_text was.names other joins.blocks));
  follows = λ rest follows.
      let names = ap (λ (ns : List Name). Follows ns (drop (i + 1) all) rest) joins.names in
      let here : Follows was.names (other ∷ drop (i + 1) all) (new_text was.names other joins.blocks ++ rest) =
      (joins.blocks, rest, joins.are_blocks, subst (λ (ns : List Name). Follows ns (drop (i + 1) all) rest) joins.names follows, refl) in
      subst (λ (t : List ℕ). Follows old.names all t) (sym (append_assoc before.behind (new_text was.names other joins.blocks) rest))
      (before.follows (new_text was.names other joins.blocks ++ rest) (subst (λ (left : List (List ℕ)). Follows was.names left (new_text was.names other joins.blocks ++ rest)) (sym split) here));
}
  where
    split : drop i all ≡ other ∷ drop (i + 1) all
    split = rw (add-one, drop-cons all i other) (λ j. sym at j ∷ drop (suc i) all)

-- no text is left
pub joined_all : (told : List ℕ) (all : List (List ℕ)) (i : ℕ) (blocks : List Block) (old now : Joining) → length all ≤ i → AreBlocksOf told blocks → old.names ≡ with_heads [] blocks → old.text ≡ told
    → HasJoined all (drop i all) old now → IsJoined told all now.text
joined_all told all i blocks old now less are names text joined = record {
  blocks = blocks;
  are_blocks = are;
  behind = joined.behind;
  follows = subst (λ (ns : List Name). Follows ns all joined.behind) names
      (subst (λ (t : List ℕ). Follows old.names all t) (append-nil joined.behind)
      (joined.follows [] (subst (λ (left : List (List ℕ)). Follows now.names left []) (sym (drop_all i all less)) refl)));
  is = joined.text ∙ ap (λ t. t ++ joined.behind) text;
}

-- ---- what is made of the blocks of a text doesn't depend on where the text of an item lies

abbrev HasItems : List Text → Block → Type 0
HasItems ls block = AreItems ls block.first block.end block.items

-- these are made of blocks by their lines and bare items
abbrev pub IsOfBare : {X : Type 0} → (Block → X) → Type 0
IsOfBare {X} made = (b c : Block) → bounds b ≡ bounds c → map bare b.items ≡ map bare c.items → made b ≡ made c

same_each : {X : Type 0} (made : Block → X) → IsOfBare made → (ls : List Text) (bs cs : List Block) → map bounds bs ≡ map bounds cs → All (HasItems ls) bs → All (HasItems ls) cs → map made bs ≡ map made cs
same_each made of ls [] [] e p q = refl
same_each made of ls [] (c ∷ cs) e p q = cc
same_each made of ls (b ∷ bs) [] e p q = cc
same_each made of ls (b ∷ bs) (c ∷ cs) e p q =
    let at : bounds b ≡ bounds c = cc in
    let rest : map bounds bs ≡ map bounds cs = cc in
    let of_c : AreItems ls b.first b.end c.items = subst (λ (p : ℕ × ℕ). AreItems ls p.0 p.1 c.items) (sym at) (All-head (HasItems ls) c cs q) in
    let items = same_items ls b.first b.end b.items c.items (All-head (HasItems ls) b bs p) of_c in
    (λ i. of b c at items i ∷ same_each made of ls bs cs rest (All-tail (HasItems ls) b bs p) (All-tail (HasItems ls) c cs q) i)

pub same_made : {X : Type 0} (made : Block → X) → IsOfBare made → (text : List ℕ) (bs cs : List Block) → AreBlocksOf text bs → AreBlocksOf text cs → map made bs ≡ map made cs
same_made made of text bs cs p q =
    same_each made of (line_texts text) bs cs (one_list (line_texts text) 0 (map bounds bs) (map bounds cs) p.all q.all) p.items q.items

-- ---- and only one: all that counts of a block are its lines, and the name of its head

record Named : Type 0 where
  bounds : ℕ × ℕ
  name : Option Name

abbrev named : Block → Named
named block = record { bounds = bounds block; name = defined_name block }

abbrev name_in : Option Head → Option Name
name_in o = option_map (λ (head : Head). lowercase head.name.text.now) o

name_bare : (o : Option Head) → name_in (option_map bare_head o) ≡ name_in o
name_bare None = refl
name_bare (Some head) = refl

same_name : (xs ys : List Item) → map bare xs ≡ map bare ys → name_in (head_of xs) ≡ name_in (head_of ys)
same_name xs ys e =
    sym (name_bare (head_of xs)) ∙ (ap name_in (sym (head_bare xs)) ∙ (ap (λ items. name_in (head_of items)) e ∙ (ap name_in (head_bare ys) ∙ name_bare (head_of ys))))

same_named : (text : List ℕ) (bs cs : List Block) → AreBlocksOf text bs → AreBlocksOf text cs → map named bs ≡ map named cs
same_named text = same_made named (λ b c at items i. record { bounds = at i; name = same_name b.items c.items items i }) text

-- what is made of blocks, by what counts of them
abbrev heads_by : List Name → List Named → List Name
heads_by names [] = names
heads_by names (n ∷ ns) = heads_by (option_map_or (with_name names) n.name names) ns

heads_are : (names : List Name) (blocks : List Block) → heads_by names (map named blocks) ≡ with_heads names blocks
heads_are names [] = refl
heads_are names (block ∷ blocks) = heads_are (with_head_name names block) blocks

abbrev new_by : List Name → Named → Bool
new_by names n = option_map_or (λ name. not (is_some (rule_number names name))) n.name false

abbrev text_by : List Name → List ℕ → List Named → List ℕ
text_by names text [] = []
text_by names text (n ∷ ns) = cond (new_by names n) (flat_map with_break (slice_range (lines text) n.bounds.0 n.bounds.1) ++ text_by names text ns) (text_by names text ns)

text_if : (text : List ℕ) (b : Bool) (block : Block) (kept : List Block) (rest : List ℕ) → rest ≡ flat_map (block_text text) kept
    → cond b (block_text text block ++ rest) rest ≡ flat_map (block_text text) (cond b (block ∷ kept) kept)
text_if text true block kept rest e = ap (λ t. block_text text block ++ t) e
text_if text false block kept rest e = e

text_is : (names : List Name) (text : List ℕ) (blocks : List Block) → text_by names text (map named blocks) ≡ new_text names text blocks
text_is names text [] = refl
text_is names text (block ∷ blocks) = text_if text (is_new names block) block (filter (is_new names) blocks) (text_by names text (map named blocks)) (text_is names text blocks)

same_heads : (names : List Name) (bs cs : List Block) → map named bs ≡ map named cs → with_heads names bs ≡ with_heads names cs
same_heads names bs cs e = sym (heads_are names bs) ∙ (ap (heads_by names) e ∙ heads_are names cs)

same_text : (names : List Name) (text : List ℕ) (bs cs : List Block) → map named bs ≡ map named cs → new_text names text bs ≡ new_text names text cs
same_text names text bs cs e = sym (text_is names text bs) ∙ (ap (text_by names text) e ∙ text_is names text cs)

one_behind : (names more : List Name) (others : List (List ℕ)) (a b : List ℕ) → names ≡ more → Follows names others a → Follows more others b → a ≡ b
one_behind names more [] a b e p q = p ∙ sym q
one_behind names more (other ∷ others) a b e p q =
    let same = same_named other p.0 q.0 p.2 q.2 in
    let heads = same_heads names p.0 q.0 same ∙ ap (λ ns. with_heads ns q.0) e in
    let rest = one_behind (with_heads names p.0) (with_heads more q.0) others p.1 q.1 heads p.3 q.3 in
    p.4 ∙ ((λ i. (same_text names other p.0 q.0 same ∙ ap (λ ns. new_text ns other q.0) e) i ++ rest i) ∙ sym q.4)

pub one_joined : (told : List ℕ) (others : List (List ℕ)) (a b : List ℕ) → IsJoined told others a → IsJoined told others b → a ≡ b
one_joined told others a b p q =
    let heads = same_heads [] p.blocks q.blocks (same_named told p.blocks q.blocks p.are_blocks q.are_blocks) in
    p.is ∙ (ap (λ behind. told ++ behind) (one_behind (with_heads [] p.blocks) (with_heads [] q.blocks) others p.behind q.behind heads p.follows q.follows) ∙ sym q.is)
