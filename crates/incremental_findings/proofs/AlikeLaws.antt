-- Lines that say the same of blocks: joined, and with lines around them that two texts have alike.
use Rattle.std.proofs.Common.{◌≡◌, ◌∙◌, ℕ, zero, suc, ◌+◌, ◌-◌, ◌≤◌, ◌⊎◌, inl, inr, Bool, false, true, not, List, [], ◌∷◌, ◌++◌, length, map, refl, sym, ap, subst, append_assoc, arith, if◌then◌else◌}
use Rattle.std.specs.Prelude.{slice_index_or}
use Rattle.std.proofs.lemmas.List.{length-append}
use Rattle.abnf_token.specs.declared.token.Token.{Token}
use Rattle.abnf_token.specs.Classes.{Text}
use Rattle.abnf_token.specs.Tokens.{TokensOf}
use Rattle.abnf_syntax.specs.Blocks.{base_indent, begins_at, begins_block}
use Rattle.abnf_syntax.specs.Items.{AreTokens}
use Rattle.abnf_syntax.specs.Kinds.{is_item}
use Rattle.abnf_digests.specs.BareItems.{BareItem, bare_item, bare_items_behind, line_bare_items, bare_items_from, AreBareItems}
use Rattle.incremental_findings.specs.declared.difference.Difference.{Difference}
use Rattle.incremental_findings.specs.own.Parts.{HasTokens, IsDifference}
use Rattle.incremental_findings.specs.own.Walks.{SayTheSame}
use Rattle.incremental_findings.proofs.SameBlocks.{numbered, tokens_numbered, AreLike, first_like, rest_like}
use Rattle.incremental_findings.proofs.WalkLaws.{no_bare_items}

-- ---- lines, and those behind them

items_behind : (ls : List Text) (at mid : ℕ) (xs ys : List (List Token)) → at + length xs ≡ mid → bare_items_from ls at (xs ++ ys) ≡ bare_items_from ls at xs ++ bare_items_from ls mid ys
items_behind ls at mid [] ys e = let is : at ≡ mid = omega (arith, e) in ap (λ n. bare_items_from ls n ys) is
items_behind ls at mid (ts ∷ xs) ys e =
    let first = line_bare_items (begins_at ls at) ts in
    ap (λ l. first ++ l) (items_behind ls (suc at) mid xs ys (omega (arith, e))) ∙ sym (append_assoc first (bare_items_from ls (suc at) xs) (bare_items_from ls mid ys))

tokens_join : (ls : List Text) (at mid : ℕ) (xs ys : List (List Token)) → at + length xs ≡ mid → AreTokens ls at xs → AreTokens ls mid ys → AreTokens ls at (xs ++ ys)
tokens_join ls at mid [] ys e p q = let is : mid ≡ at = omega (arith, e) in subst (λ n. AreTokens ls n ys) is q
tokens_join ls at mid (ts ∷ xs) ys e p q = (p.0, tokens_join ls (suc at) mid xs ys (omega (arith, e)) p.1 q)

bare_join : (ls : List Text) (from mid to : ℕ) (xs ys : List BareItem) → AreBareItems ls from mid xs → AreBareItems ls mid to ys → AreBareItems ls from to (xs ++ ys)
bare_join ls from mid to xs ys p q = record {
  tokens = p.tokens ++ q.tokens;
  all = omega (arith, length-append p.tokens q.tokens, p.all, q.all);
  tokens_are = tokens_join ls from mid p.tokens q.tokens p.all p.tokens_are q.tokens_are;
  bare_items_are = (λ i. p.bare_items_are i ++ q.bare_items_are i) ∙ sym (items_behind ls from mid p.tokens q.tokens p.all);
}

pub same_join : (ls : List Text) (from mid to : ℕ) (others : List Text) (there mid_there end : ℕ) → SayTheSame ls from mid others there mid_there → SayTheSame ls mid to others mid_there end
    → SayTheSame ls from to others there end
same_join ls from mid to others there mid_there end p q = record {
  bare_items = p.bare_items ++ q.bare_items;
  ours = bare_join ls from mid to p.bare_items q.bare_items p.ours q.ours;
  theirs = bare_join others there mid_there end p.bare_items q.bare_items p.theirs q.theirs;
}

-- ---- lines that both texts have alike

behind_numbered : (n : ℕ) (apart : Bool) (ts : List Token) → bare_items_behind apart (map (numbered n) ts) ≡ bare_items_behind apart ts
behind_numbered n apart [] = refl
behind_numbered n apart (t ∷ ts) = (λ i. if is_item t.kind then bare_item false apart t ∷ behind_numbered n false ts i else behind_numbered n true ts i)

line_numbered : (n : ℕ) (begins : Bool) (ts : List Token) → line_bare_items begins (map (numbered n) ts) ≡ line_bare_items begins ts
line_numbered n begins [] = refl
line_numbered n begins (t ∷ ts) = (λ i. if is_item t.kind then bare_item begins (not begins) t ∷ behind_numbered n false ts i else line_numbered n begins ts i)

module _ (ls others : List Text) (base : base_indent ls ≡ base_indent others) (has : HasTokens ls) where
  lines_alike : (count at there : ℕ) → AreLike ls others at there count → SayTheSame ls at (at + count) others there (there + count)
  lines_alike zero at there like = record {
    bare_items = [];
    ours = no_bare_items ls at (at + 0) (omega arith);
    theirs = no_bare_items others there (there + 0) (omega arith);
  }
  lines_alike (suc count) at there like =
      let rest = lines_alike count (suc at) (suc there) (rest_like ls others at there count like) in
      let here = has at in
      let line : slice_index_or ls at [] ≡ slice_index_or others there [] = first_like ls others at there count like in
      let begins : begins_at ls at ≡ begins_at others there = (λ i. begins_block (base i) (line i)) in
      record {
        bare_items = line_bare_items (begins_at ls at) here.0 ++ rest.bare_items;
        ours = record {
          tokens = here.0 ∷ rest.ours.tokens;
          all = omega (arith, rest.ours.all);
          tokens_are = (here.1, rest.ours.tokens_are);
          bare_items_are = ap (λ l. line_bare_items (begins_at ls at) here.0 ++ l) rest.ours.bare_items_are;
        };
        theirs = record {
          tokens = map (numbered there) here.0 ∷ rest.theirs.tokens;
          all = omega (arith, rest.theirs.all);
          tokens_are = (
            subst (λ l. TokensOf there 0 l (map (numbered there) here.0)) line (tokens_numbered at there 0 (slice_index_or ls at []) here.0 here.1),
            rest.theirs.tokens_are,
          );
          bare_items_are =
              (λ i. line_bare_items (begins i) here.0 ++ rest.theirs.bare_items_are i)
              ∙ ap (λ l. l ++ bare_items_from others (suc there) rest.theirs.tokens) (sym (line_numbered there (begins_at others there) here.0));
        };
      }

  -- from one place up to another
  alike_up_to : (from to there end : ℕ) → from ≤ to → to + there ≡ end + from → AreLike ls others from there (to - from) → SayTheSame ls from to others there end
  alike_up_to from to there end order count like =
      let here : from + (to - from) ≡ to = omega (arith, order) in
      let beyond : there + (to - from) ≡ end = omega (arith, order, count) in
      subst (λ (n : ℕ). SayTheSame ls from n others there end) here
      (subst (λ (n : ℕ). SayTheSame ls from (from + (to - from)) others there n) beyond (lines_alike (to - from) from there like))

  -- ---- a part, and lines around it

  module _ (part : Difference) (is : IsDifference ls others part) where
    before_alike : (from first there : ℕ) → (first ≤ part.front) ⊎ (first ≡ from) → (from ≡ there) ⊎ (from ≡ first) → AreLike ls others from there (first - from)
    before_alike from first there (inr none) at n less = absurd (omega (arith, none, less))
    before_alike from first there (inl front) (inr none) n less = absurd (omega (arith, none, less))
    before_alike from first there (inl front) (inl e) n less =
        is.front.same (from + n) (omega (arith, front, less)) ∙ ap (λ m. slice_index_or others (m + n) []) e

    behind_alike : (last to there : ℕ) → (part.old ≤ last) ⊎ (last ≡ to) → (last + part.new ≡ there + part.old) ⊎ (last ≡ to) → AreLike ls others last there (to - last)
    behind_alike last to there (inr none) at n less = absurd (omega (arith, none, less))
    behind_alike last to there (inl back) (inr none) n less = absurd (omega (arith, none, less))
    behind_alike last to there (inl back) (inl e) n less =
        let here : last + n ≡ part.old + ((last - part.old) + n) = omega (arith, back) in
        let beyond : part.new + ((last - part.old) + n) ≡ there + n = omega (arith, back, e) in
        ap (λ m. slice_index_or ls m []) here ∙ (is.back.same ((last - part.old) + n) ∙ ap (λ m. slice_index_or others m []) beyond)

    pub same_around : (from first last to there first_there last_there end : ℕ) → from ≤ first → last ≤ to → (first ≤ part.front) ⊎ (first ≡ from)
        → (part.old ≤ last) ⊎ (last ≡ to) → (first + there ≡ first_there + from) × ((from ≡ there) ⊎ (from ≡ first))
        → (to + last_there ≡ end + last) × ((last + part.new ≡ last_there + part.old) ⊎ (last ≡ to))
        → SayTheSame ls first last others first_there last_there → SayTheSame ls from to others there end
    same_around from first last to there first_there last_there end before behind front back begin end_at same =
        same_join ls from first to others there first_there end
        (alike_up_to from first there first_there before begin.0 (before_alike from first there front begin.1))
        (same_join ls first last to others first_there last_there end same
        (alike_up_to last to last_there end behind end_at.0 (behind_alike last to last_there back end_at.1)))
