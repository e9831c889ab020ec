-- An item that shows no fault by its kind and that of the item before.
use Rattle.std.proofs.Common.{◌≡◌, ℕ, Bool, true, false, not, ◌&&◌, List, ◌∷◌, [], length, Option, Some, None, refl, ap, if◌then◌else◌}
use Rattle.std.specs.Prelude.{nat_le}
use Rattle.abnf_token.specs.declared.token.Kind.{Kind}
use Rattle.abnf_token.specs.declared.token.Kind.TheVariants as k
use Rattle.abnf_token.specs.declared.token.Token.{Token}
use Rattle.abnf_syntax.specs.declared.item.Item.{Item}
use Rattle.abnf_syntax.specs.Kinds.{is_bad, is_defined_as, is_repeat_kind, opens, closes, begins_repetition, needs_element, ends_element}
use Rattle.abnf_syntax.specs.Numbers.{numbers_fit}
use Rattle.abnf_syntax.specs.Grammar.{kind_of, max_nesting}
use Rattle.abnf_syntax.specs.declared.fault.SyntaxFault.{SyntaxFault}
use Rattle.abnf_syntax.specs.Faults.{FaultRow, rows_of, least, is_followed, is_empty, is_other}
use Rattle.abnf_syntax.specs.own.Check.{fault_behind, shows_none}
use Rattle.abnf_syntax.proofs.Rows.{never}

needs_no_end : (last : Kind) → needs_element last ≡ true → ends_element last ≡ false
needs_no_end k.Defines h = refl
needs_no_end k.Adds h = refl
needs_no_end k.Slash h = refl
needs_no_end k.ParenL h = refl
needs_no_end k.BracketL h = refl
needs_no_end _ h = never h

end_needs_none : (last : Kind) → ends_element last ≡ true → needs_element last ≡ false
end_needs_none k.Name h = refl
end_needs_none k.Quoted h = refl
end_needs_none k.Number h = refl
end_needs_none k.Prose h = refl
end_needs_none k.ParenR h = refl
end_needs_none k.BracketR h = refl
end_needs_none _ h = never h

-- what the two kinds leave of the rows of the table
record Plain (last kind : Kind) : Type 0 where
  bad : is_bad kind ≡ false
  needed : not (begins_repetition kind) && needs_element last ≡ false
  defined : is_defined_as kind ≡ false
  closed : closes kind ≡ false
  counted : is_repeat_kind kind ≡ false
  blank : (b : Bool) → begins_repetition kind && (ends_element last && b) ≡ false
  number : (text : List ℕ) → numbers_fit kind text ≡ true
  deep : opens kind ≡ false

element : (last kind : Kind) → is_bad kind ≡ false → begins_repetition kind ≡ true → is_defined_as kind ≡ false → closes kind ≡ false → is_repeat_kind kind ≡ false → opens kind ≡ false
    → ((text : List ℕ) → numbers_fit kind text ≡ true) → needs_element last ≡ true → Plain last kind
element last kind bad begins defined closed counted deep number h = record {
  bad = bad;
  needed = ap (λ b. not b && needs_element last) begins;
  defined = defined;
  closed = closed;
  counted = counted;
  blank = λ b. (λ i. begins i && (needs_no_end last h i && b));
  number = number;
  deep = deep;
}

plain : (last kind : Kind) → shows_none last kind ≡ true → Plain last kind
plain last k.Name h = element last k.Name refl refl refl refl refl refl (λ text. refl) h
plain last k.Quoted h = element last k.Quoted refl refl refl refl refl refl (λ text. refl) h
plain last k.Prose h = element last k.Prose refl refl refl refl refl refl (λ text. refl) h
plain last k.Slash h = record {
  bad = refl;
  needed = end_needs_none last h;
  defined = refl;
  closed = refl;
  counted = refl;
  blank = λ b. refl;
  number = λ text. refl;
  deep = refl;
}
plain last _ h = never h

-- none of these rows holds
abbrev NoneHolds : List FaultRow → Type 0
NoneHolds [] = Unit {0}
NoneHolds (row ∷ rows) = (row.0 ≡ false) × NoneHolds rows

passed : (b : Bool) (fault : SyntaxFault) (more : Option SyntaxFault) → b ≡ false → more ≡ None → (if b then Some fault else more) ≡ None
passed false fault more h rest = rest
passed true fault more h rest = absurd (cc)

none_of : (rows : List FaultRow) → NoneHolds rows → least rows ≡ None
none_of [] h = refl
none_of (row ∷ rows) h = passed row.0 row.1 (least rows) h.0 (none_of rows h.1)

pub plain_shows_none : (last item : Item) (brackets : List Token) (rest : List Item) → shows_none (kind_of last) (kind_of item) ≡ true → fault_behind last brackets (item ∷ rest) ≡ None
unfolding fault_behind
plain_shows_none last item brackets rest h =
    let p = plain (kind_of last) (kind_of item) h in
    none_of (rows_of last brackets (item ∷ rest)) (
      p.bad,
      (
        p.needed,
        (
          ap (λ b. b && ends_element (kind_of last)) p.defined,
          (
            ap (λ b. b && is_empty brackets) p.closed,
            (
              ap (λ b. b && not (is_followed rest)) p.counted,
              (
                p.blank (not item.apart),
                (
                  ap (λ b. b && (is_other brackets (kind_of item) && ends_element (kind_of last))) p.closed,
                  (ap not (p.number item.token.text.now), (ap (λ b. b && nat_le max_nesting (length brackets)) p.deep, tt)),
                ),
              ),
            ),
          ),
        ),
      ),
    )
