-- A line with content has an item.
use Rattle.std.proofs.Common.{◌≡◌, ℕ, zero, suc, ◌+◌, ◌<◌, Bool, true, false, List, [], ◌∷◌, ◌++◌, length, take, drop, Option, Some, sym, refl, ap, subst, ◌∙◌, arith, ◌⊎◌, inl, inr}
use Rattle.std.specs.Prelude.{slice_index_or}
use Rattle.std.specs.List.{flat_map, list_all}
use Rattle.std.proofs.lemmas.List.{length-map}
use Rattle.std.proofs.lemmas.Bool.{and_parts}
use Rattle.abnf_token.specs.declared.token.Kind.{Kind}
use Rattle.abnf_token.specs.declared.token.Kind.TheVariants as k
use Rattle.abnf_token.specs.declared.token.Token.{Token}
use Rattle.abnf_token.specs.Classes.{Text, is_blank_byte, is_blank, is_comment}
use Rattle.abnf_token.specs.Tokens.{TokensOf, Fits, IsNext}
use Rattle.abnf_syntax.specs.declared.item.Item.{Item}
use Rattle.abnf_syntax.specs.Kinds.{is_item}
use Rattle.abnf_syntax.specs.Blocks.{is_content, begins_at}
use Rattle.abnf_syntax.specs.Items.{with_line_end, items_of, AreTokens, AreItems, view}
use Rattle.abnf_syntax.proofs.Rows.{never, never_too}

gap_cases : (kind : Kind) → is_item kind ≡ false → (kind ≡ k.Comment) ⊎ (kind ≡ k.Blank)
gap_cases k.Comment h = inl refl
gap_cases k.Blank h = inr refl
gap_cases _ h = never_too h

blanks_skipped : (n : ℕ) (left : Text) → list_all is_blank_byte (take n left) ≡ true → is_content left ≡ is_content (drop n left)
blanks_skipped zero left h = refl
blanks_skipped (suc n) [] h = refl
blanks_skipped (suc n) (b ∷ bs) h = let both = and_parts (is_blank_byte b) (list_all is_blank_byte (take n bs)) h in rw (both.0) (blanks_skipped n bs both.1)

blank_all : (text : Text) → is_blank text ≡ true → list_all is_blank_byte text ≡ true
blank_all [] h = refl
blank_all (b ∷ bs) h = h

semicolon_by : (b : ℕ) (bs : Text) → b ≡ 0x3B → is_content (b ∷ bs) ≡ false
semicolon_by b bs e = ap (λ x. is_content (x ∷ bs)) e

-- A comment has no content.
no_content : (n : ℕ) (left : Text) → is_comment (take n left) ≡ true → is_content left ≡ false
no_content zero left h = never h
no_content (suc n) [] h = refl
no_content (suc n) (b ∷ bs) h = semicolon_by b bs (grind (arith, h))

some_item : (t : Token) (ts : List (Option Token)) → is_item t.kind ≡ true → 0 < length (items_of (Some t ∷ ts))
some_item t ts h = rw h (omega arith)

no_item : (t : Token) (ts : List (Option Token)) → is_item t.kind ≡ false → 0 < length (items_of ts) → 0 < length (items_of (Some t ∷ ts))
no_item t ts h some = rw h some

-- What comes next is an item, or has an item behind it, where content stands.
next_item : (t : Token) (left : Text) (ts : List (Option Token)) → IsNext t.kind t.text.now left → is_content left ≡ true → (is_content (drop (length t.text.now) left) ≡ true → 0 < length (items_of ts)) →
    (item : Bool) → is_item t.kind ≡ item → 0 < length (items_of (Some t ∷ ts))
next_item t left ts next content behind true e = some_item t ts e
next_item t left ts next content behind false e =
    elim (gap_cases t.kind e) [
      | inl comment ↦
          let fits : Fits k.Comment t.text.now left = subst (λ x. Fits x t.text.now left) comment next.fits in
          never (sym (no_content (length t.text.now) left (sym (ap is_comment next.front) ∙ fits.0)) ∙ content)
      | inr blank ↦
          let fits : Fits k.Blank t.text.now left = subst (λ x. Fits x t.text.now left) blank next.fits in
          no_item t ts e (behind (sym (blanks_skipped (length t.text.now) left (sym (ap (list_all is_blank_byte) next.front) ∙ blank_all t.text.now fits.0)) ∙ content))
    ]

pub content_item : (n start : ℕ) (left : Text) (ts : List Token) (more : List (Option Token)) → TokensOf n start left ts → is_content left ≡ true → 0 < length (items_of (with_line_end ts ++ more))
content_item n start left [] more none content = never (sym (ap is_content none) ∙ content)
content_item n start left (t ∷ ts) more are content =
    next_item t left (with_line_end ts ++ more) are.0.next content (λ h. content_item n (start + length t.text.now) (drop (length t.text.now) left) ts more are.1 h) (is_item t.kind) refl

first_has : (ls : List Text) (at : ℕ) (tss : List (List Token)) → 0 < length tss → AreTokens ls at tss → is_content (slice_index_or ls at []) ≡ true → 0 < length (items_of (flat_map with_line_end tss))
first_has ls at [] some are content = absurd (omega arith)
first_has ls at (ts ∷ tss) some are content = content_item at 0 (slice_index_or ls at []) ts (flat_map with_line_end tss) are.0 content

-- A block has an item.
pub some_items : (ls : List Text) (first end : ℕ) (items : List Item) → first < end → begins_at ls first ≡ true → AreItems ls first end items → 0 < length items
some_items ls first end items less begins are =
    let content = and_parts _ _ begins in
    let some : 0 < length (items_of (flat_map with_line_end are.tokens)) = first_has ls first are.tokens (omega (arith, are.all, less)) are.tokens_are content.0 in
    omega (arith, some, length-map items view, ap length are.items_are)
