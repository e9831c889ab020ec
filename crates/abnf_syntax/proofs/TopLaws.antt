-- The first line of a text that has content.
use Rattle.std.proofs.Common.{◌≡◌, ℕ, zero, suc, ◌+◌, ◌-◌, ◌<◌, ◌≤◌, Bool, true, false, List, [], ◌∷◌, length, take, drop, get_or, Some, None, refl, sym, ap, subst, ◌∙◌, arith, inl, inr, if◌then◌else◌}
use Rattle.std.specs.Prelude.{◌&&◌, nat_le, slice_index_or}
use Rattle.std.proofs.lemmas.List.{get_or-take, get_or-drop}
use Rattle.std.proofs.lemmas.Bool.{cases_lt}
use Rattle.std.proofs.lemmas.Bool.Decides.{nat_tests}
use Rattle.abnf_token.specs.Classes.{Text}
use Rattle.abnf_syntax.specs.declared.sheet.Top.{Top}
use Rattle.abnf_syntax.specs.Blocks.{indent, is_content, base_indent, begins_at, HasNoContent, IsSeam, IsTop}
use Rattle.abnf_syntax.specs.own.Blanks.{IsFirstContent}

-- ---- what a line's indent says

by_content : (b : Bool) (n m : ℕ) → Some n ≡ (if b then Some m else None) → (b ≡ true) × (n ≡ m)
by_content true n m e = (refl, cc (e))
by_content false n m e = absurd (cc (e))

pub has_content : (line : Text) (n : ℕ) → Some n ≡ (if is_content line then Some (indent line) else None) → (is_content line ≡ true) × (n ≡ indent line)
has_content line n e = by_content (is_content line) n (indent line) e

by_none : (b : Bool) (m : ℕ) → None ≡ (if b then Some m else None) → b ≡ false
by_none true m e = absurd (cc (e))
by_none false m e = refl

pub is_bare : (line : Text) → None ≡ (if is_content line then Some (indent line) else None) → is_content line ≡ false
is_bare line e = by_none (is_content line) (indent line) e

-- ---- lines without content

pub none_yet : (ls : List Text) (from : ℕ) → HasNoContent ls from from
none_yet ls from at reached less = absurd (omega (arith, reached, less))

pub none_up_to : (ls : List Text) (from mid to : ℕ) → HasNoContent ls from mid → HasNoContent ls mid to → HasNoContent ls from to
none_up_to ls from mid to first second at reached less = elim (cases_lt at mid) [ inl before ↦ first at reached before | inr more ↦ second at more less ]

pub one_more : (ls : List Text) (from at : ℕ) (line : Text) → line ≡ slice_index_or ls at [] → is_content line ≡ false → HasNoContent ls from at → HasNoContent ls from (at + 1)
one_more ls from at line e bare none n reached less =
    elim (cases_lt n at) [
      | inl before ↦ none n reached before
      | inr more ↦
          let is : at ≡ n = omega (arith, more, less) in
          subst (λ k. is_content (slice_index_or ls k []) ≡ false) is (sym (ap is_content e) ∙ bare)
    ]

behind : (l : Text) (ls : List Text) (to : ℕ) → HasNoContent (l ∷ ls) 0 (suc to) → HasNoContent ls 0 to
behind l ls to none at reached less = none (suc at) (omega arith) (omega (arith, less))

bare_first : (l : Text) (ls : List Text) → is_content l ≡ false → base_indent (l ∷ ls) ≡ base_indent ls
bare_first l ls e = ap (λ x. if x then indent l else base_indent ls) e

content_first : (l : Text) (ls : List Text) → is_content l ≡ true → base_indent (l ∷ ls) ≡ indent l
content_first l ls e = ap (λ x. if x then indent l else base_indent ls) e

base_at : (ls : List Text) (line : ℕ) → line < length ls → HasNoContent ls 0 line → is_content (slice_index_or ls line []) ≡ true
    → base_indent ls ≡ indent (slice_index_or ls line [])
base_at [] line less none is = absurd (omega (arith, less))
base_at (l ∷ ls) zero less none is = content_first l ls is
base_at (l ∷ ls) (suc line) less none is = bare_first l ls (none 0 (omega arith) (omega arith)) ∙ base_at ls line (omega (arith, less)) (behind l ls line none) is

no_base : (ls : List Text) → HasNoContent ls 0 (length ls) → base_indent ls ≡ 0
no_base [] none = refl
no_base (l ∷ ls) none = bare_first l ls (none 0 (omega arith) (omega arith)) ∙ no_base ls (behind l ls (length ls) none)

no_base_at : (ls : List Text) (line : ℕ) → line ≡ length ls → HasNoContent ls 0 line → base_indent ls ≡ 0
no_base_at ls line e none = no_base ls (subst (HasNoContent ls 0) e none)

-- ---- the first line with content

pub found_is_top : (ls : List Text) (from to : ℕ) (top : Top) → to ≤ length ls → HasNoContent ls 0 from → IsFirstContent ls from to top → IsTop ls top.line top.indent
found_is_top ls from to top all none is =
    let before : HasNoContent ls 0 top.line = none_up_to ls 0 from top.line none is.before in
    record {
      within = omega (arith, is.within, all);
      before = before;
      content = λ less. is.content;
      indent = is.is ∙ sym (base_at ls top.line (omega (arith, is.within, all)) before is.content);
    }

pub no_top : (ls : List Text) (from to : ℕ) → to ≡ length ls → HasNoContent ls 0 from → HasNoContent ls from to → IsTop ls to 0
no_top ls from to e none more =
    let before : HasNoContent ls 0 to = none_up_to ls 0 from to none more in
    record {
      within = omega (arith, e);
      before = before;
      content = λ less. absurd (omega (arith, e, less));
      indent = sym (no_base_at ls to e before);
    }

-- ---- of another text, whose lines are the same at the front or at the back

same_front_line : (ls others : List Text) (front n : ℕ) → take front ls ≡ take front others → n < front → slice_index_or ls n [] ≡ slice_index_or others n []
same_front_line ls others front n e less = sym (get_or-take front ls n [] less) ∙ (ap (λ xs. get_or xs n []) e ∙ get_or-take front others n [] less)

same_back_line : (ls others : List Text) (k m n : ℕ) → drop k ls ≡ drop m others → slice_index_or ls (k + n) [] ≡ slice_index_or others (m + n) []
same_back_line ls others k m n e = sym (get_or-drop k ls n []) ∙ (ap (λ xs. get_or xs n []) e ∙ get_or-drop m others n [])

pub front_is_bare : (ls others : List Text) (line base front : ℕ) → IsTop ls line base → front ≤ line → take front ls ≡ take front others → HasNoContent others 0 front
front_is_bare ls others line base front top up e n reached less =
    sym (ap is_content (same_front_line ls others front n e less)) ∙ top.before n reached (omega (arith, less, up))

pub top_stays : (ls others : List Text) (line base front : ℕ) → IsTop ls line base → line < front → front ≤ length ls → front ≤ length others
    → take front ls ≡ take front others → IsTop others line base
top_stays ls others line base front top less ours theirs e =
    let same : slice_index_or ls line [] ≡ slice_index_or others line [] = same_front_line ls others front line e less in
    let here : is_content (slice_index_or ls line []) ≡ true = top.content (omega (arith, less, ours)) in
    let there : is_content (slice_index_or others line []) ≡ true = sym (ap is_content same) ∙ here in
    let before : HasNoContent others 0 line = λ n reached up. sym (ap is_content (same_front_line ls others front n e (omega (arith, up, less)))) ∙ top.before n reached up in
    record {
      within = omega (arith, less, theirs);
      before = before;
      content = λ within. there;
      indent =
          top.indent ∙ (base_at ls line (omega (arith, less, ours)) top.before here ∙ (ap indent same ∙ sym (base_at others line (omega (arith, less, theirs)) before there)));
    }

module _ (ls others : List Text) (line base k m there : ℕ) (top : IsTop ls line base) (none : HasNoContent others 0 m) (reached : k ≤ line)
    (moved : there ≡ (line - k) + m) (count : length ls + m ≡ length others + k) (e : drop k ls ≡ drop m others) where
  moved_line : slice_index_or ls line [] ≡ slice_index_or others there []
  moved_line =
      let from : k + (line - k) ≡ line = omega (arith, reached) in
      let to : m + (line - k) ≡ there = omega (arith, moved) in
      sym (ap (λ n. slice_index_or ls n []) from) ∙ (same_back_line ls others k m (line - k) e ∙ ap (λ n. slice_index_or others n []) to)

  moved_before : HasNoContent others 0 there
  moved_before n low less =
      elim (cases_lt n m) [
        | inl before ↦ none n low before
        | inr more ↦
            let to : m + (n - m) ≡ n = omega (arith, more) in
            let is : slice_index_or ls (k + (n - m)) [] ≡ slice_index_or others n [] =
            same_back_line ls others k m (n - m) e ∙ ap (λ x. slice_index_or others x []) to
            in
            sym (ap is_content is) ∙ top.before (k + (n - m)) (omega arith) (omega (arith, less, moved, reached, more))
      ]

  moved_base : base ≡ base_indent others
  moved_base =
      elim (cases_lt there (length others)) [
        | inl less ↦
            let here : is_content (slice_index_or ls line []) ≡ true = top.content (omega (arith, less, moved, count, reached)) in
            top.indent ∙ (base_at ls line (omega (arith, less, moved, count, reached)) top.before here ∙ (ap indent moved_line
            ∙ sym (base_at others there less moved_before (sym (ap is_content moved_line) ∙ here))))
        | inr more ↦
            top.indent ∙ (no_base_at ls line (omega (arith, more, moved, count, reached, top.within)) top.before
            ∙ sym (no_base_at others there (omega (arith, more, moved, count, reached, top.within)) moved_before))
      ]

  pub top_moves : IsTop others there base
  top_moves = record {
    within = omega (arith, moved, count, reached, top.within);
    before = moved_before;
    content = λ less. sym (ap is_content moved_line) ∙ top.content (omega (arith, less, moved, count, reached));
    indent = moved_base;
  }

-- ---- seams

up_to_itself : (n : ℕ) → nat_le n n ≡ true
up_to_itself n = grind (arith, nat_tests)

top_begins : (ls : List Text) (line base : ℕ) → IsTop ls line base → line < length ls → begins_at ls line ≡ true
top_begins ls line base top less =
    let content : is_content (slice_index_or ls line []) ≡ true = top.content less in
    let deep : base_indent ls ≡ indent (slice_index_or ls line []) = base_at ls line less top.before content in
    (λ i. content i && nat_le (indent (slice_index_or ls line [])) (deep i)) ∙ up_to_itself (indent (slice_index_or ls line []))

pub none_before_top : (ls : List Text) (line base before : ℕ) → IsTop ls line base → before < line → begins_at ls before ≡ true → ⊥
none_before_top ls line base before top less begins =
    let bare : is_content (slice_index_or ls before []) ≡ false = top.before before (omega arith) less in
    let none : begins_at ls before ≡ false = λ i. bare i && nat_le (indent (slice_index_or ls before [])) (base_indent ls) in
    absurd (cc (none, begins))

pub seam_up_to_top : (ls : List Text) (line base at : ℕ) → IsTop ls line base → at ≤ line → IsSeam ls at
seam_up_to_top ls line base at top up = record {
  within = omega (arith, up, top.within);
  begins = λ before less begins within. absurd (none_before_top ls line base before top (omega (arith, less, up)) begins);
}

pub seam_where_one_begins : (ls : List Text) (at : ℕ) → at ≤ length ls → begins_at ls at ≡ true → IsSeam ls at
seam_where_one_begins ls at within begins = record { within = within; begins = λ before less other some. begins }

pub seam_begins : (ls : List Text) (line base at : ℕ) → IsTop ls line base → IsSeam ls at → line < at → at < length ls → begins_at ls at ≡ true
seam_begins ls line base at top seam less within = seam.begins line less (top_begins ls line base top (omega (arith, less, within))) within
