-- Blocks are cut at a seam, and joined there.
use Rattle.std.proofs.Common.{◌≡◌, ℕ, zero, suc, ◌+◌, ◌<◌, ◌≤◌, List, [], ◌∷◌, ◌++◌, length, refl, sym, ap, ◌∙◌, arith, inl, inr}
use Rattle.std.proofs.lemmas.Bool.{cases_lt}
use Rattle.abnf_token.specs.Classes.{Text}
use Rattle.abnf_syntax.specs.Blocks.{begins_at, NoneBegins, IsBlock, AreBlocks, IsSeam, AreBlocksUpTo}
use Rattle.abnf_parts.proofs.NameLaws.{never}

part_none : (ls : List Text) (from to at end : ℕ) → from ≤ at → end ≤ to → NoneBegins ls from to → NoneBegins ls at end
part_none ls from to at end more less none n a b = none n (omega (arith, more, a)) (omega (arith, less, b))

both_none : (ls : List Text) (from mid to : ℕ) → NoneBegins ls from mid → NoneBegins ls mid to → NoneBegins ls from to
both_none ls from mid to one two n a b = elim (cases_lt n mid) [ inl less ↦ one n a less | inr more ↦ two n more b ]

-- ---- cut

pub record Cut (ls : List Text) (from at : ℕ) (bs : List (ℕ × ℕ)) : Type 0 where
  pub front : List (ℕ × ℕ)
  pub back : List (ℕ × ℕ)
  pub are : bs ≡ front ++ back
  pub up_to : AreBlocksUpTo ls from at front
  pub from_there : AreBlocks ls at back

no_overlap : (ls : List Text) (at first end : ℕ) → IsSeam ls at → IsBlock ls first end → first < at → end ≤ at
no_overlap ls at first end seam is less =
    elim (cases_lt at end) [
      | inl over ↦ never (begins_at ls at) (seam.begins first less is.begins (omega (arith, over, is.within))) (is.rest at (omega (arith, less)) over)
      | inr up ↦ up
    ]

pub cut : (ls : List Text) (from at : ℕ) (bs : List (ℕ × ℕ)) → from ≤ at → IsSeam ls at → AreBlocks ls from bs → Cut ls from at bs
cut ls from at [] order seam h = record {
  front = [];
  back = [];
  are = refl;
  up_to = part_none ls from (length ls) from at (omega arith) seam.within h;
  from_there = part_none ls from (length ls) at (length ls) order (omega arith) h;
}
cut ls from at (b ∷ bs) order seam h = by (λ up. cut ls b.1 at bs up seam h.3)
  where
    behind : at ≤ b.0 → Cut ls from at (b ∷ bs)
    behind more = record {
      front = [];
      back = b ∷ bs;
      are = refl;
      up_to = part_none ls from b.0 from at (omega arith) more h.1;
      from_there = (more, part_none ls from b.0 at b.0 order (omega arith) h.1, h.2, h.3);
    }

    before : b.1 ≤ at → Cut ls b.1 at bs → Cut ls from at (b ∷ bs)
    before up rest = record { front = b ∷ rest.front; back = rest.back; are = ap (λ l. b ∷ l) rest.are; up_to = (h.0, h.1, h.2, up, rest.up_to); from_there = rest.from_there }

    by : (b.1 ≤ at → Cut ls b.1 at bs) → Cut ls from at (b ∷ bs)
    by rest =
        elim (cases_lt b.0 at) [
          | inl less ↦ let up = no_overlap ls at b.0 b.1 seam h.2 less in before up (rest up)
          | inr more ↦ behind more
        ]

-- ---- join

join_none : (ls : List Text) (from at : ℕ) (bs : List (ℕ × ℕ)) → from ≤ at → NoneBegins ls from at → AreBlocks ls at bs → AreBlocks ls from bs
join_none ls from at [] order none h = both_none ls from at (length ls) none h
join_none ls from at (b ∷ bs) order none h = (omega (arith, order, h.0), both_none ls from at b.0 none h.1, h.2, h.3)

pub join : (ls : List Text) (from at : ℕ) (xs ys : List (ℕ × ℕ)) → from ≤ at → AreBlocksUpTo ls from at xs → AreBlocks ls at ys → AreBlocks ls from (xs ++ ys)
join ls from at [] ys order h g = join_none ls from at ys order h g
join ls from at (x ∷ xs) ys order h g = (h.0, h.1, h.2, join ls x.1 at xs ys h.3 h.4 g)

-- ---- the same blocks before a seam

module _ (ls others : List Text) (at : ℕ) (here : IsSeam ls at) (there : IsSeam others at) (same : (n : ℕ) → n < at → begins_at ls n ≡ begins_at others n) where
  none_before : (from to : ℕ) → to ≤ at → NoneBegins ls from to → NoneBegins others from to
  none_before from to up none n a b = sym (same n (omega (arith, up, b))) ∙ none n a b

  block_before : (first end : ℕ) → end ≤ at → IsBlock ls first end → IsBlock others first end
  block_before first end up is = record {
    some = is.some;
    within = omega (arith, up, there.within);
    begins = sym (same first (omega (arith, up, is.some))) ∙ is.begins;
    rest = none_before (suc first) end up is.rest;
    ends = λ less.
        elim (cases_lt end at) [
          | inl before ↦ sym (same end before) ∙ is.ends (omega (arith, before, here.within))
          | inr seam ↦
              let e : at ≡ end = omega (arith, seam, up) in
              ap (begins_at others) (sym e) ∙ there.begins first (omega (arith, e, is.some)) (sym (same first (omega (arith, up, is.some))) ∙ is.begins) (omega (arith, e, less))
        ];
  }

  pub before_seam : (from : ℕ) (bs : List (ℕ × ℕ)) → AreBlocksUpTo ls from at bs → AreBlocksUpTo others from at bs
  before_seam from [] h = none_before from at (omega arith) h
  before_seam from (b ∷ bs) h = (
    h.0,
    none_before from b.0 (omega (arith, h.2.some, h.3)) h.1,
    block_before b.0 b.1 h.3 h.2,
    h.3,
    before_seam b.1 bs h.4,
  )

-- ---- the blocks from a place on, where another text goes on with the same lines

abbrev pub IsMoved : ℕ → ℕ → ℕ × ℕ → ℕ × ℕ → Type 0
IsMoved old new b c = (old ≤ b.0) × (b.0 + new ≡ c.0 + old) × (b.1 + new ≡ c.1 + old)

abbrev pub AreMoved : ℕ → ℕ → List (ℕ × ℕ) → List (ℕ × ℕ) → Type 0
AreMoved old new [] [] = Unit {0}
AreMoved old new (b ∷ bs) (c ∷ cs) = IsMoved old new b c × AreMoved old new bs cs
AreMoved old new _ _ = ⊥

pub further : (m n : ℕ) → m ≤ n → (k : ℕ) × (n ≡ m + k)
further zero n le = (n, omega arith)
further (suc m) zero le = absurd (omega (arith, le))
further (suc m) (suc n) le = let k = further m n (omega (arith, le)) in (k.0, omega (arith, k.1))

module _ (ls others : List Text) (old new : ℕ) (count : length ls + new ≡ length others + old) (same : (n : ℕ) → begins_at ls (old + n) ≡ begins_at others (new + n)) where
  begins_same : (x y : ℕ) → old ≤ x → x + new ≡ y + old → begins_at ls x ≡ begins_at others y
  begins_same x y le e =
      let k = further old x le in
      let is : y ≡ new + k.0 = omega (arith, e, k.1) in
      ap (begins_at ls) k.1 ∙ (same k.0 ∙ ap (begins_at others) (sym is))

  none_moved : (from to x y : ℕ) → old ≤ from → from + new ≡ x + old → to + new ≡ y + old → NoneBegins ls from to → NoneBegins others x y
  none_moved from to x y le e f none n a b =
      let k = further x n a in
      sym (begins_same (from + k.0) n (omega (arith, le)) (omega (arith, e, k.1))) ∙ none (from + k.0) (omega arith) (omega (arith, e, f, k.1, b))

  block_moved : (first end x y : ℕ) → old ≤ first → first + new ≡ x + old → end + new ≡ y + old → IsBlock ls first end → IsBlock others x y
  block_moved first end x y le e f is = record {
    some = omega (arith, e, f, is.some);
    within = omega (arith, f, is.within, count);
    begins = sym (begins_same first x le e) ∙ is.begins;
    rest = none_moved (suc first) end (suc x) y (omega (arith, le)) (omega (arith, e)) f is.rest;
    ends = λ less. sym (begins_same end y (omega (arith, le, is.some)) f) ∙ is.ends (omega (arith, f, less, count));
  }

  place : (x : ℕ) → old ≤ x → (y : ℕ) × (x + new ≡ y + old)
  place x le = let k = further old x le in (new + k.0, omega (arith, k.1))

  pub moved : (from there : ℕ) (bs : List (ℕ × ℕ)) → old ≤ from → from + new ≡ there + old → AreBlocks ls from bs → (cs : List (ℕ × ℕ)) × AreBlocks others there cs × AreMoved old new bs cs
  moved from there [] le e h = ([], none_moved from (length ls) there (length others) le e count h, tt)
  moved from there (b ∷ bs) le e h =
      let first = place b.0 (omega (arith, le, h.0)) in
      let end = place b.1 (omega (arith, le, h.0, h.2.some)) in
      let rest = moved b.1 end.0 bs (omega (arith, le, h.0, h.2.some)) end.1 h.3 in (
        (first.0, end.0) ∷ rest.0,
        (
          omega (arith, e, h.0, first.1),
          none_moved from b.0 there first.0 le e first.1 h.1,
          block_moved b.0 b.1 first.0 end.0 (omega (arith, le, h.0)) first.1 end.1 h.2,
          rest.1,
        ),
        ((omega (arith, le, h.0), first.1, end.1), rest.2),
      )
