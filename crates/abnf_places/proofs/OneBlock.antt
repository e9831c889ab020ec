-- The lines of a block are one block, whose items say the same wherever they are listed.
use Rattle.std.proofs.Common.{◌≡◌, ℕ, ◌+◌, ◌<◌, ◌≤◌, true, false, List, [], ◌∷◌, ◌++◌, length, map, refl, sym, ap, subst, ◌∙◌, arith, append-nil, inl, inr}
use Rattle.std.specs.Prelude.{All, ◌⊎◌}
use Rattle.std.proofs.lemmas.Bool.{cases_lt, and_parts}
use Rattle.std.proofs.lemmas.List.{get_or_past}
use Rattle.std.proofs.lemmas.List.Elements.{All-head}
use Rattle.abnf_token.specs.Classes.{Text}
use Rattle.abnf_syntax.specs.declared.block.Block.{Block}
use Rattle.abnf_syntax.specs.declared.item.Item.{Item}
use Rattle.abnf_syntax.specs.Blocks.{AreBlocksUpTo, IsBlock, IsNextBlock, NoneBegins, begins_at, is_content}
use Rattle.abnf_syntax.specs.Bounds.{bounds}
use Rattle.abnf_syntax.specs.Items.{AreItems}
use Rattle.abnf_syntax.proofs.Bare.{same_items}
use Rattle.abnf_names.specs.Places.{Named, places_in}
use Rattle.abnf_names.proofs.OneGrammar.{places_bare}
use Rattle.abnf_places.specs.own.Blocks.{places_of_all}

-- A line doesn't both begin a block and not.
pub both : {A : Type 0} (ls : List Text) (at : ℕ) → begins_at ls at ≡ true → begins_at ls at ≡ false → A
both ls at begins none = absurd (let e : true ≡ false = sym begins ∙ none in cc)

-- ---- where blocks begin and end

-- A place that begins a block isn't among lines of which none does.
pub not_among : (ls : List Text) (from to at : ℕ) → NoneBegins ls from to → begins_at ls at ≡ true → from ≤ at → to ≤ at
not_among ls from to at none begins reached = by (cases_lt at to)
  where
    by : (at < to) ⊎ (to ≤ at) → to ≤ at
    by (inl less) = both ls at begins (none at reached less)
    by (inr more) = more

-- There is no line behind the last one.
pub begins_within : (ls : List Text) (at : ℕ) → begins_at ls at ≡ true → at < length ls
begins_within ls at begins = by (cases_lt at (length ls))
  where
    by : (at < length ls) ⊎ (length ls ≤ at) → at < length ls
    by (inl less) = less
    by (inr more) = absurd (let e : true ≡ false = sym (and_parts _ _ begins).0 ∙ ap is_content (get_or_past ls at [] more) in cc)

pub one_end : (ls : List Text) (first a b : ℕ) → IsBlock ls first a → IsBlock ls first b → a ≡ b
one_end ls first a b p q = by (cases_lt a b) (cases_lt b a)
  where
    by : (a < b) ⊎ (b ≤ a) → (b < a) ⊎ (a ≤ b) → a ≡ b
    by (inl less) other = both ls a (p.ends (omega (arith, less, q.within))) (q.rest a (omega (arith, p.some)) less)
    by (inr more) (inl less) = both ls b (q.ends (omega (arith, less, p.within))) (p.rest b (omega (arith, q.some)) less)
    by (inr more) (inr fewer) = omega (arith, more, fewer)

-- the line behind a block, where its next one begins
pub next_ends : (ls : List Text) (first end : ℕ) → begins_at ls first ≡ true → IsNextBlock ls (first + 1) (length ls) end → IsBlock ls first end
next_ends ls first end begins next = record {
  some = omega (arith, next.reached);
  within = next.within;
  begins = begins;
  rest = λ at from to. next.none at (omega arith) to;
  ends = next.begins;
}

-- ---- the items of a block

pub same_places : (ls : List Text) (first end : ℕ) (xs ys : List Item) → AreItems ls first end xs → AreItems ls first end ys → places_in xs ≡ places_in ys
same_places ls first end xs ys p q = sym (places_bare xs) ∙ (ap places_in (same_items ls first end xs ys p q) ∙ places_bare ys)

nothing_left : (ls : List Text) (end : ℕ) (bs : List (ℕ × ℕ)) → AreBlocksUpTo ls end end bs → bs ≡ []
nothing_left ls end [] are = refl
nothing_left ls end (b ∷ bs) are = absurd (omega (arith, are.0, are.2.some, are.3))

-- What was found from a block's first line up to its end is this block alone.
one_block : (ls : List Text) (first end : ℕ) (found : List Block) → IsBlock ls first end → AreBlocksUpTo ls first end (map bounds found) → All (λ b. AreItems ls b.first b.end b.items) found →
    (items : List Item) → AreItems ls first end items → places_of_all found ≡ places_in items
one_block ls first end [] block are each items has = both ls first block.begins (are first (omega arith) block.some)
one_block ls first end (b ∷ bs) block are each items has =
    let begins : b.first ≡ first = omega (arith, are.0, not_among ls first b.first first are.1 block.begins (omega arith)) in
    let own : IsBlock ls first b.end = subst (λ n. IsBlock ls n b.end) begins are.2 in
    let ends : b.end ≡ end = one_end ls first b.end end own block in
    let held : AreItems ls first end b.items = subst (λ n. AreItems ls first n b.items) ends (subst (λ n. AreItems ls n b.end b.items) begins (All-head (λ (x : Block). AreItems ls x.first x.end x.items) b bs each)) in
    let none : bs ≡ [] = no_blocks bs (nothing_left ls end (map bounds bs) (subst (λ n. AreBlocksUpTo ls n end (map bounds bs)) ends are.4)) in
    ap (λ (l : List Block). places_in b.items ++ places_of_all l) none ∙ (append-nil (places_in b.items) ∙ same_places ls first end b.items items held has)
  where
    no_blocks : (l : List Block) → map bounds l ≡ [] → l ≡ []
    no_blocks [] e = refl
    no_blocks (x ∷ l) e = absurd (cc)

-- the same of what was found, where it is listed elsewhere
pub one_found : (ls : List Text) (first end : ℕ) (found given : List Block) (places : List Named) → IsBlock ls first end → AreBlocksUpTo ls first end (map bounds found) → All (λ b. AreItems ls b.first b.end b.items) found →
    given ≡ found → places ≡ places_of_all given → (items : List Item) → AreItems ls first end items → places ≡ places_in items
one_found ls first end found given places block are each same is items has = is ∙ (ap places_of_all same ∙ one_block ls first end found block are each items has)
