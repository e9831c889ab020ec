-- The rows of the table.
use Rattle.std.proofs.Common.{◌≡◌, Bool, true, false, not, ◌&&◌, List, ◌∷◌, length, Option, Some, None, refl, ◌⊎◌, inl, inr, if◌then◌else◌}
use Rattle.std.specs.Prelude.{nat_le}
use Rattle.abnf_token.specs.declared.token.Kind.{Kind}
use Rattle.abnf_token.specs.declared.token.Kind.TheVariants as k
use Rattle.abnf_token.specs.declared.token.Token.{Token}
use Rattle.abnf_syntax.specs.declared.item.Item.{Item}
use Rattle.abnf_syntax.specs.declared.fault.SyntaxFault.{SyntaxFault}
use Rattle.abnf_syntax.specs.Kinds.{is_bad, is_defined_as, is_repeat_kind, opens, closes, closes_it, begins_repetition, needs_element, ends_element}
use Rattle.abnf_syntax.specs.Grammar.{kind_of, fits, max_nesting}
use Rattle.abnf_syntax.specs.Faults.{rows_of, least, is_followed, is_empty, is_other}

pub never : {A : Type 0} → false ≡ true → A
never h = absurd (cc)

pub never_too : {A : Type 0} → true ≡ false → A
never_too h = absurd (cc)

pub closes_cases : (left right : Kind) → closes_it left right ≡ true → ((left ≡ k.ParenL) × (right ≡ k.ParenR)) ⊎ ((left ≡ k.BracketL) × (right ≡ k.BracketR))
closes_cases k.ParenL k.ParenR h = inl (refl, refl)
closes_cases k.BracketL k.BracketR h = inr (refl, refl)
closes_cases _ _ h = never h

pub and_right : (a b : Bool) → a ≡ true → a && b ≡ false → b ≡ false
and_right true b h e = e
and_right false b h e = never h

-- no row of the table holds of the next item
pub record Clear (last : Kind) (bs : List Token) (apart small : Bool) (rest : List Item) (kind : Kind) : Type 0 where
  pub bad : is_bad kind ≡ false
  pub needed : not (begins_repetition kind) && needs_element last ≡ false
  pub defined : is_defined_as kind && ends_element last ≡ false
  pub closed : closes kind && is_empty bs ≡ false
  pub followed : is_repeat_kind kind && not (is_followed rest) ≡ false
  pub blank : begins_repetition kind && (ends_element last && not apart) ≡ false
  pub other : closes kind && (is_other bs kind && ends_element last) ≡ false
  pub number : not small ≡ false
  pub deep : opens kind && nat_le max_nesting (length bs) ≡ false

pub row_none : (b : Bool) (fault : SyntaxFault) (more : Option SyntaxFault) → (if b then Some fault else more) ≡ None → (b ≡ false) × (more ≡ None)
row_none true fault more h = absurd (cc)
row_none false fault more h = (refl, h)

pub clear : (last item : Item) (bs : List Token) (rest : List Item) → least (rows_of last bs (item ∷ rest)) ≡ None → Clear (kind_of last) bs item.apart (fits item) rest (kind_of item)
clear last item bs rest h0 =
    let h1 = row_none _ _ _ h0 in
    let h2 = row_none _ _ _ h1.1 in
    let h3 = row_none _ _ _ h2.1 in
    let h4 = row_none _ _ _ h3.1 in
    let h5 = row_none _ _ _ h4.1 in
    let h6 = row_none _ _ _ h5.1 in
    let h7 = row_none _ _ _ h6.1 in
    let h8 = row_none _ _ _ h7.1 in
    let h9 = row_none _ _ _ h8.1 in
    record { bad = h1.0; needed = h2.0; defined = h3.0; closed = h4.0; followed = h5.0; blank = h6.0; other = h7.0; number = h8.0; deep = h9.0 }
