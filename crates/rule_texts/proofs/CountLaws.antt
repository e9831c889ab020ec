-- Blocks that are rules, counted one by one; that a text has numbers of blocks, and only one of each.
use Rattle.std.proofs.Common.{◌≡◌, ◌∙◌, ℕ, suc, ◌+◌, ◌^◌, ◌<◌, List, [], ◌∷◌, ◌++◌, length, map, Option, Some, None, option_map, cond, ap, arith, inl, inr, refl, sym}
use Rattle.std.specs.Prelude.{All, count_by, sum}
use Rattle.std.specs.Option.{is_some}
use Rattle.std.proofs.lemmas.List.{length-map}
use Rattle.std.proofs.lemmas.List.Elements.{All-head, All-tail}
use Rattle.std.proofs.lemmas.List.Sums.{sum-map}
use Rattle.abnf_syntax.specs.declared.block.Block.{Block}
use Rattle.abnf_syntax.specs.declared.block.Head.{Head}
use Rattle.abnf_syntax.specs.declared.item.Item.{Item}
use Rattle.abnf_syntax.specs.Bounds.{bounds}
use Rattle.abnf_syntax.specs.Heads.{head_of}
use Rattle.abnf_syntax.proofs.Bare.{bare, bare_head, head_bare, no_fault}
use Rattle.abnf_syntax.proofs.Cons.{cons_same}
use Rattle.abnf_syntax.proofs.Exist.{some_blocks}
use Rattle.abnf_syntax.proofs.Whole.{some_answer}
use Rattle.joined_grammars.proofs.JoinLaws.{same_made}
use Rattle.rule_texts.specs.declared.counts.Counts.{Counts}
use Rattle.rule_texts.specs.Rules.{AreCounted, AreRules, IsFaulty, IsRule, has_head}

-- ---- one block more

pub rule_more : (blocks : List Block) (block : Block) (rules : ℕ) → AreRules blocks rules → IsRule block
    → AreRules (blocks ++ block ∷ []) (rules + 1)
rule_more [] block rules are rule = inl (0, ap (λ n. n + 1) are, rule, refl)
rule_more (b ∷ blocks) block rules (inl p) rule =
    let one : rules + 1 ≡ suc (p.0 + 1) = omega (arith, p.1) in
    inl (p.0 + 1, one, p.2, rule_more blocks block p.0 p.3 rule)
rule_more (b ∷ blocks) block rules (inr p) rule = inr (p.0, rule_more blocks block rules p.1 rule)

pub faulty_more : (blocks : List Block) (block : Block) (rules : ℕ) → AreRules blocks rules → IsFaulty block
    → AreRules (blocks ++ block ∷ []) rules
faulty_more [] block rules are fault = inr (fault, are)
faulty_more (b ∷ blocks) block rules (inl p) fault = inl (p.0, p.1, p.2, faulty_more blocks block p.0 p.3 fault)
faulty_more (b ∷ blocks) block rules (inr p) fault = inr (p.0, faulty_more blocks block rules p.1 fault)

-- ---- there are numbers

abbrev HasItems : Block → Type 0
HasItems block = 0 < length block.items

some_rules : (blocks : List Block) → All HasItems blocks → (rules : ℕ) × AreRules blocks rules
some_rules [] whole = (0, refl)
some_rules (b ∷ blocks) whole =
    let rest = some_rules blocks (All-tail HasItems b blocks whole) in
    elim (some_answer b.items (All-head HasItems b blocks whole)) [
      | inl rule ↦ (suc rest.0, inl (rest.0, refl, rule, rest.1))
      | inr fault ↦ (rest.0, inr (fault, rest.1))
    ]

pub some_counts : (text : List ℕ) → length text < 2 ^ 62 → (counts : Counts) × AreCounted text counts
some_counts text small =
    let found = some_blocks text small in
    let rules = some_rules found.0 (λ k d less. (found.2 k d less).1) in (
      record { blocks = length found.0; heads = count_by has_head found.0; rules = rules.0 },
      record {
        blocks = found.0;
        are_blocks = record { all = found.1; items = λ k d less. (found.2 k d less).0 };
        blocks_are = refl;
        heads_are = refl;
        rules_are = rules.1;
      },
    )

-- ---- and only one of each: what counts of a block doesn't depend on where its text lies

head_bare_too : (o : Option Head) → is_some (option_map bare_head o) ≡ is_some o
head_bare_too None = refl
head_bare_too (Some head) = refl

has_head_bare : (items : List Item) → is_some (head_of (map bare items)) ≡ is_some (head_of items)
has_head_bare items = ap is_some (head_bare items) ∙ head_bare_too (head_of items)

same_head : (b c : Block) → map bare b.items ≡ map bare c.items → has_head b ≡ has_head c
same_head b c items = sym (has_head_bare b.items) ∙ (ap (λ xs. is_some (head_of xs)) items ∙ has_head_bare c.items)

-- 1 for a block with a head, and 0 for another
abbrev one_head : Block → ℕ
one_head block = cond (has_head block) 1 0

same_one : (b c : Block) → bounds b ≡ bounds c → map bare b.items ≡ map bare c.items → one_head b ≡ one_head c
same_one b c at items = ap (λ has. cond has 1 0) (same_head b c items)

abbrev bare_items : Block → List Item
bare_items block = map bare block.items

-- blocks that are alike derive a rule both, or show a fault both
rules_by : (bs cs : List Block) (m n : ℕ) → map bare_items bs ≡ map bare_items cs → AreRules bs m → AreRules cs n → m ≡ n
rules_by [] [] m n e p q = p ∙ sym q
rules_by [] (c ∷ cs) m n e p q = cc
rules_by (b ∷ bs) [] m n e p q = cc
rules_by (b ∷ bs) (c ∷ cs) m n e (inl p) (inl q) = p.1 ∙ (ap suc (rules_by bs cs p.0 q.0 (cons_same e).1 p.3 q.3) ∙ sym q.1)
rules_by (b ∷ bs) (c ∷ cs) m n e (inl p) (inr q) = no_fault b.items c.items p.2.0 q.0.0 (cons_same e).0 p.2.1 q.0.1
rules_by (b ∷ bs) (c ∷ cs) m n e (inr p) (inl q) = no_fault c.items b.items q.2.0 p.0.0 (sym (cons_same e).0) q.2.1 p.0.1
rules_by (b ∷ bs) (c ∷ cs) m n e (inr p) (inr q) = rules_by bs cs m n (cons_same e).1 p.1 q.1

pub one_counts : (text : List ℕ) (a b : Counts) → AreCounted text a → AreCounted text b → a ≡ b
one_counts text a b p q =
    let heads = same_made one_head same_one text p.blocks q.blocks p.are_blocks q.are_blocks in
    let items = same_made bare_items (λ b c at items. items) text p.blocks q.blocks p.are_blocks q.are_blocks in
    let count : length p.blocks ≡ length q.blocks = sym (length-map p.blocks one_head) ∙ (ap length heads ∙ length-map q.blocks one_head) in
    let head_count : count_by has_head p.blocks ≡ count_by has_head q.blocks =
    sym (sum-map one_head p.blocks) ∙ (ap sum heads ∙ sum-map one_head q.blocks) in
    (λ i. record {
      blocks = (p.blocks_are ∙ (count ∙ sym q.blocks_are)) i;
      heads = (p.heads_are ∙ (head_count ∙ sym q.heads_are)) i;
      rules = rules_by p.blocks q.blocks a.rules b.rules items p.rules_are q.rules_are i;
    })
