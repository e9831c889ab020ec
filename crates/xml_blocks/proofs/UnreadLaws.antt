-- Laws of what may have to be said of a draft.
use Rattle.std.proofs.Common.{◌≡◌, ℕ, zero, suc, ◌+◌, Bool, true, false, ◌||◌, List, [], ◌∷◌, ◌++◌, length, take, drop, refl, sym, ap, ◌∙◌, append_assoc, arith}
use Rattle.std.specs.Prelude.{Option, Ok, Err}
use Rattle.std.specs.Option.{is_some}
use Rattle.std.proofs.lemmas.List.{append-nil}
use Rattle.origins.specs.Origins.{Sourced}
use Rattle.origins.specs.declared.unread.Aside.{Aside}
use Rattle.xml_blocks.specs.declared.fault.XmlFault.{XmlFault}
use Rattle.xml_blocks.specs.declared.piece.Piece.{Piece}
use Rattle.xml_blocks.specs.declared.unread.Held.{Held}
use Rattle.xml_blocks.specs.Unread.{Behind, asides_from, begins_attribute, open_behind, from_piece, has_attribute, listed, still_held}
use Rattle.xml_blocks.specs.Xml.{open_quote, piece_at}

module _ (name : List ℕ) (quote : Option ℕ) (t : List ℕ) {whole : Bool} (was : has_attribute name quote t ≡ whole) where
  pub attribute_none : t ≡ [] → false ≡ whole
  unfolding has_attribute
  attribute_none is = ap (has_attribute name quote) (sym is) ∙ was

  pub attribute_found : (c : ℕ) (u : List ℕ) → t ≡ c ∷ u → begins_attribute name quote c u ≡ true → true ≡ whole
  unfolding has_attribute
  attribute_found c u is b = ap (λ x. x || has_attribute name (open_quote quote c) u) (sym b) ∙ ap (has_attribute name quote) (sym is) ∙ was

  pub attribute_more : (c : ℕ) (u : List ℕ) (next : Option ℕ) → t ≡ c ∷ u → begins_attribute name quote c u ≡ false → next ≡ open_quote quote c → has_attribute name next u ≡ whole
  unfolding has_attribute
  attribute_more c u next is b e = ap (λ q. has_attribute name q u) e ∙ ap (λ x. x || has_attribute name (open_quote quote c) u) (sym b) ∙ ap (has_attribute name quote) (sym is) ∙ was

-- what was read already is passed over
asides_skip : (state : Option Held) (content : List Sourced) (n at : ℕ) (t : List ℕ) → asides_from state content n at t ≡ asides_from state content 0 (at + length (take n t)) (drop n t)
unfolding asides_from
asides_skip state content zero at t = ap (λ a. asides_from state content 0 a t) (let e : at ≡ at + 0 = omega arith in e)
asides_skip state content (suc n) at [] = refl
asides_skip state content (suc n) at (c ∷ t) =
    asides_skip state content n (suc at) t
    ∙ ap (λ a. asides_from state content 0 a (drop n t)) (let e : suc at + length (take n t) ≡ at + suc (length (take n t)) = omega arith in e)

-- what may have to be said from what is behind a piece on
from_behind : Behind → ℕ → ℕ → List ℕ → List Aside
from_behind next read at t = listed next.2 ++ asides_from next.0 next.1 read at t

-- and from a piece on
after : Option Held → List Sourced → ℕ → List ℕ → Piece → List Aside
after held content at t piece = from_behind (open_behind held content piece.kind at (take piece.more t)) piece.more (suc at) t

module _ (found : List Aside) (at : ℕ) (rest : List ℕ) (current : Option Held) (content : List Sourced) {whole : List Aside} (was : found ++ asides_from current content 0 at rest ≡ whole) where
  pub asides_end : rest ≡ [] → found ≡ whole
  unfolding asides_from
  asides_end none = sym (append-nil found) ∙ ap (λ t. found ++ asides_from current content 0 at t) (sym none) ∙ was

  module _ (c : ℕ) (t : List ℕ) (is : rest ≡ c ∷ t) (held : Option Held) (held_is : held ≡ still_held current c t) (flag : Bool) (some : flag ≡ is_some held) where
    stands : found ++ from_piece (piece_at flag at c t) (after held content at t) ≡ whole
    unfolding asides_from after from_behind
    stands =
        (λ i. found ++ from_piece (piece_at (some i) at c t) (after held content at t))
        ∙ (λ i. found ++ from_piece (piece_at (is_some (held_is i)) at c t) (after (held_is i) content at t))
        ∙ (λ i. found ++ asides_from current content 0 at (sym is i))
        ∙ was

    pub asides_fault : (fault : XmlFault) → Err fault ≡ piece_at flag at c t → found ≡ whole
    asides_fault fault e = sym (append-nil found) ∙ ap (λ r. found ++ from_piece r (after held content at t)) e ∙ stands

    module _ (piece : Piece) (piece_is : Ok piece ≡ piece_at flag at c t) where
      skipped : (next : Behind) → next ≡ open_behind held content piece.kind at (take piece.more t) → (found ++ listed next.2) ++ asides_from next.0 next.1 0 (at + (1 + length (take piece.more t))) (drop piece.more t) ≡ whole
      unfolding after from_behind
      skipped next next_is =
          ap (λ a. (found ++ listed next.2) ++ asides_from next.0 next.1 0 a (drop piece.more t)) (let e : at + (1 + length (take piece.more t)) ≡ suc at + length (take piece.more t) = omega arith in e)
          ∙ ap (λ r. (found ++ listed next.2) ++ r) (sym (asides_skip next.0 next.1 piece.more (suc at) t))
          ∙ append_assoc found (listed next.2) (asides_from next.0 next.1 piece.more (suc at) t)
          ∙ ap (λ b. found ++ from_behind b piece.more (suc at) t) next_is
          ∙ ap (λ r. found ++ from_piece r (after held content at t)) piece_is
          ∙ stands

      pub asides_more : (text left : List ℕ) (n : ℕ) (next : Option Held) (aside : Option Aside) (more : List Sourced) (to : List Aside) → text ≡ take piece.more t → left ≡ drop piece.more t → n ≡ length text
          → (next, more, aside) ≡ open_behind held content piece.kind at text → to ≡ found ++ listed aside → to ++ asides_from next more 0 (at + (1 + n)) left ≡ whole
      asides_more text left n next aside more to text_is left_is n_is next_is to_is =
          (λ i. to_is i ++ asides_from next more 0 (at + (1 + (n_is ∙ ap length text_is) i)) (left_is i))
          ∙ skipped (next, more, aside) (next_is ∙ ap (open_behind held content piece.kind at) text_is)
