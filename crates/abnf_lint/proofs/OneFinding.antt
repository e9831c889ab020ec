-- A text has one list of findings. What is found in a block depends on its bare items and its fault, and these are the same for all
-- lists of blocks that a text has.
use Rattle.std.proofs.Common.{◌≡◌, ◌∙◌, ◌<◌, ℕ, Bool, true, false, List, [], ◌∷◌, ◌++◌, length, map, Option, Some, None, option_map, refl, sym, ap, subst, get_or}
use Rattle.std.specs.Prelude.{if◌then◌else◌}
use Rattle.std.specs.Option.{option_map_or}
use Rattle.std.specs.declared.cmp.Ordering.{Ordering}
use Rattle.std.specs.Ordering.{nat_cmp, is_lt}
use Rattle.std.specs.Cmp.{IsTotalOrder}
use Rattle.std.proofs.lemmas.Cmp.{nat_cmp_total, then_total}
use Rattle.std.proofs.lemmas.List.{ext_get_or}
use Rattle.std.proofs.lemmas.List.Sorted.{ranks_by}
use Rattle.abnf_token.specs.declared.token.Kind.{Kind}
use Rattle.abnf_syntax.specs.declared.block.Head.{Head}
use Rattle.abnf_syntax.specs.declared.item.Item.{Item}
use Rattle.abnf_syntax.specs.declared.fault.SyntaxFault.{SyntaxFault}
use Rattle.abnf_syntax.specs.Grammar.{kind_of}
use Rattle.abnf_syntax.specs.Heads.{head_of}
use Rattle.abnf_syntax.proofs.Bare.{bare, bare_head, head_bare}
use Rattle.abnf_parts.specs.Part.{Part}
use Rattle.abnf_parts.specs.Names.{Name, with_name}
use Rattle.abnf_names.specs.Said.{Block, AreSaid, name_of}
use Rattle.abnf_names.specs.Rules.{Grammar, grammar_of, names_of, rules_of}
use Rattle.abnf_names.specs.Excerpts.{Excerpt, excerpt_of}
use Rattle.abnf_names.proofs.OneGrammar.{Plain, one_grammar, same_block, same_seen}
use Rattle.abnf_lint.specs.declared.finding.Finding.{Finding}
use Rattle.abnf_lint.specs.declared.told.HeadTold.{HeadTold}
use Rattle.abnf_lint.specs.Unproductive.{AreUnproductive}
use Rattle.abnf_lint.specs.Order.{Key, key, key_cmp}
use Rattle.abnf_lint.specs.own.Findings.{AreFindings, AreOrdered, block_findings, findings_in, known_of_head}
use Rattle.abnf_lint.specs.Found.{block_found, body_found, fault_found, head_found, is_none_of, item_found, items_found}
use Rattle.abnf_lint.specs.own.Passes.{findings_behind, with_base, with_head}
use Rattle.abnf_lint.proofs.Behind.{behind_after}
use Rattle.abnf_lint.proofs.OneOrder.{one_order}

-- ---- the blocks of a text

abbrev bared : Excerpt → Excerpt
bared o = record { items = map bare o.items; fault = o.fault }

-- of what a grammar knows of a block its bare items and its fault
abbrev excerpt_told : Plain → Excerpt
excerpt_told p = record { items = p.0; fault = p.2 }

abbrev bare_excerpt : Block → Excerpt
bare_excerpt block = bared (excerpt_of block)

same_excerpts : (text : List ℕ) (bs cs : List Block) → AreSaid text bs → AreSaid text cs → map bare_excerpt bs ≡ map bare_excerpt cs
same_excerpts = same_seen bare_excerpt (λ ls at b c p q. ap excerpt_told (same_block ls at b c p q))

-- ---- what is found in bare blocks

items_bare : (strange : Name → Bool) (before : Kind) (xs : List Item) → items_found strange before (map bare xs) ≡ items_found strange before xs
items_bare strange before [] = refl
items_bare strange before (x ∷ xs) = ap (λ l. item_found strange before x ++ l) (items_bare strange (kind_of x) xs)

body_bare : (strange : Name → Bool) (xs : List Item) → body_found strange (map bare xs) ≡ body_found strange xs
body_bare strange [] = refl
body_bare strange (x ∷ xs) = items_bare strange (kind_of x) xs

module _ (tell : Head → HeadTold) (bare_told : (head : Head) → tell (bare_head head) ≡ tell head) where
  abbrev at_head : Option Head → List Finding
  at_head o = option_map_or (λ head. head_found (tell head) head) o []

  head_found_bare : (o : Option Head) → at_head (option_map bare_head o) ≡ at_head o
  head_found_bare None = refl
  head_found_bare (Some head) = ap (λ told. head_found told head) (bare_told head)

  pub found_bare : (strange : Name → Bool) (items : List Item) (fault : Option SyntaxFault) → block_found tell strange (map bare items) fault ≡ block_found tell strange items fault
  found_bare strange items fault =
      (λ i. (ap at_head (head_bare items) ∙ head_found_bare (head_of items)) i
      ++ option_map_or fault_found fault (body_bare strange items i))

added_by : (heads : List Name) (o : Option Head) → option_map_or (λ head. with_name heads (name_of head)) (option_map bare_head o) heads ≡ option_map_or (λ head. with_name heads (name_of head)) o heads
added_by heads None = refl
added_by heads (Some head) = refl

head_added : (heads : List Name) (o : Excerpt) → with_head heads (bared o) ≡ with_head heads o
head_added heads o = ap (λ h. option_map_or (λ head. with_name heads (name_of head)) h heads) (head_bare o.items) ∙ added_by heads (head_of o.items)

abbrev base_of : List Name → Option Head → List Name
base_of bases h = option_map_or (λ head. if head.adds then bases else with_name bases (name_of head)) h bases

base_by : (bases : List Name) (o : Option Head) → base_of bases (option_map bare_head o) ≡ base_of bases o
base_by bases None = refl
base_by bases (Some head) = refl

base_added : (bases : List Name) (o : Excerpt) → with_base bases (bared o) ≡ with_base bases o
base_added bases o = ap (base_of bases) (head_bare o.items) ∙ base_by bases (head_of o.items)

block_bare : (marks : List Bool) (names heads bases : List Name) (o : Excerpt) → block_findings marks names heads bases (bared o) ≡ block_findings marks names heads bases o
block_bare marks names heads bases o = found_bare (known_of_head marks names heads bases) (λ head. refl) (is_none_of names) o.items o.fault

behind_bare : (marks : List Bool) (names heads bases : List Name) (blocks : List Block) → findings_behind marks names heads bases (map bare_excerpt blocks) ≡ findings_behind marks names heads bases (map excerpt_of blocks)
behind_bare marks names heads bases [] = refl
behind_bare marks names heads bases (b ∷ bs) =
    (λ i. block_bare marks names heads bases (excerpt_of b) i ++ findings_behind marks names (head_added heads (excerpt_of b) i) (base_added bases (excerpt_of b) i) (map bare_excerpt bs))
    ∙ ap (λ l. block_findings marks names heads bases (excerpt_of b) ++ l) (behind_bare marks names (with_head heads (excerpt_of b)) (with_base bases (excerpt_of b)) bs)

in_bare : (marks : List Bool) (blocks : List Block) → findings_in marks blocks ≡ findings_behind marks (names_of blocks) [] [] (map bare_excerpt blocks)
in_bare marks blocks = sym (behind_after marks (names_of blocks) [] blocks) ∙ sym (behind_bare marks (names_of blocks) [] [] blocks)

-- ---- the marks

same_mark : (x y : Bool) → (x ≡ true → y ≡ true) → (y ≡ true → x ≡ true) → x ≡ y
same_mark true y f g = sym (f refl)
same_mark false true f g = g refl
same_mark false false f g = refl

same_marks : (rules : List Part) (xs ys : List Bool) → AreUnproductive rules xs → AreUnproductive rules ys → xs ≡ ys
same_marks rules xs ys p q =
    ext_get_or false xs ys (p.one_each ∙ sym q.one_each) (λ r h.
    let k : r < length rules = subst (λ n. r < n) p.one_each h in
    same_mark (get_or xs r false) (get_or ys r false) (λ x. (q.each r k).1 ((p.each r k).0 x)) (λ y. (p.each r k).1 ((q.each r k).0 y)))

-- ---- the order

first_total : IsTotalOrder (let cmp : Key → Key → Ordering = λ a b. nat_cmp a.0 b.0 in cmp)
first_total = record { antisymm = λ x y. nat_cmp_total.antisymm x.0 y.0; trans = λ x y z. nat_cmp_total.trans x.0 y.0 z.0; congr = λ x y z. nat_cmp_total.congr x.0 y.0 z.0 }

second_total : IsTotalOrder (let cmp : Key → Key → Ordering = λ a b. nat_cmp a.1 b.1 in cmp)
second_total = record { antisymm = λ x y. nat_cmp_total.antisymm x.1 y.1; trans = λ x y z. nat_cmp_total.trans x.1 y.1 z.1; congr = λ x y z. nat_cmp_total.congr x.1 y.1 z.1 }

third_total : IsTotalOrder (let cmp : Key → Key → Ordering = λ a b. nat_cmp a.2 b.2 in cmp)
third_total = record { antisymm = λ x y. nat_cmp_total.antisymm x.2 y.2; trans = λ x y z. nat_cmp_total.trans x.2 y.2 z.2; congr = λ x y z. nat_cmp_total.congr x.2 y.2 z.2 }

pub key_total : IsTotalOrder key_cmp
key_total = then_total (then_total first_total second_total) third_total

pub orders_unique : (given xs ys : List Finding) → AreOrdered given xs → AreOrdered given ys → xs ≡ ys
orders_unique given xs ys p q = one_order (λ x y. is_lt (key_cmp (key x) (key y))) (ranks_by key_total key) xs ys p.sorted q.sorted (λ x. p.stable x ∙ sym (q.stable x))

-- ---- the findings

pub findings_unique : (text : List ℕ) (xs ys : List Finding) → AreFindings text xs → AreFindings text ys → xs ≡ ys
findings_unique text xs ys p q =
    let one : grammar_of text p.blocks ≡ grammar_of text q.blocks =
    one_grammar (grammar_of text p.blocks) (grammar_of text q.blocks) (record { blocks = p.blocks; of_text = p.of_text; is = refl }) (record { blocks = q.blocks; of_text = q.of_text; is = refl }) refl in
    let marks : p.marks ≡ q.marks = same_marks (rules_of q.blocks) p.marks q.marks (subst (λ (rs : List Part). AreUnproductive rs p.marks) (ap (λ (g : Grammar). g.rules) one) p.are_marks) q.are_marks in
    let all : findings_in p.marks p.blocks ≡ findings_in q.marks q.blocks =
    in_bare p.marks p.blocks
    ∙ (ap (λ marks. findings_behind marks (names_of p.blocks) [] [] (map bare_excerpt p.blocks)) marks
    ∙ (ap (λ (ns : List Name). findings_behind q.marks ns [] [] (map bare_excerpt p.blocks)) (ap (λ (g : Grammar). g.names) one)
    ∙ (ap (λ (os : List Excerpt). findings_behind q.marks (names_of q.blocks) [] [] os) (same_excerpts text p.blocks q.blocks p.of_text q.of_text)
    ∙ sym (in_bare q.marks q.blocks)))) in
    orders_unique (findings_in q.marks q.blocks) xs ys (subst (λ (fs : List Finding). AreOrdered fs xs) all p.ordered) q.ordered
