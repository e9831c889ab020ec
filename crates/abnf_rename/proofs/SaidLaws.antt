-- What a block says after a rename.
use Rattle.std.proofs.Common.{◌≡◌, ℕ, Bool, true, false, not, ◌&&◌, List, [], ◌∷◌, map, Option, Result, Ok, Err, refl, sym, ap, subst, ◌∙◌}
use Rattle.std.specs.Prelude.{if◌then◌else◌}
use Rattle.abnf_token.proofs.Language.{and_false}
use Rattle.abnf_token.specs.declared.token.Kind.{Kind}
use Rattle.abnf_token.specs.declared.token.Kind.TheVariants as k
use Rattle.abnf_token.specs.Classes.{Text}
use Rattle.abnf_token.specs.Renamed.{touches, is_called, renamed_text}
use Rattle.abnf_syntax.specs.declared.item.Item.{Item}
use Rattle.abnf_syntax.specs.declared.fault.SyntaxFault.{SyntaxFault}
use Rattle.abnf_syntax.specs.declared.tree.Element.{Element}
use Rattle.abnf_syntax.specs.declared.tree.Repetition.{Repetition}
use Rattle.abnf_syntax.specs.declared.tree.Rule.{Rule}
use Rattle.abnf_syntax.specs.Grammar.{kind_of, Concatenation, Alternation, IsAlternation, IsConcatenation, IsRepetition, IsElement, Derives, defined_as}
use Rattle.abnf_syntax.specs.Grammar.IsAlternation.{only, or}
use Rattle.abnf_syntax.specs.Grammar.IsConcatenation.{one, and}
use Rattle.abnf_syntax.specs.Grammar.IsRepetition.{once, times}
use Rattle.abnf_syntax.specs.Grammar.IsElement.{name as is_name, quoted as is_quoted, number as is_number, prose as is_prose, group as is_group, choice as is_choice}
use Rattle.abnf_syntax.proofs.Exact.{one_rule}
use Rattle.abnf_syntax.proofs.Bare.{no_fault}
use Rattle.abnf_syntax.proofs.Cons.{cons_same}
use Rattle.abnf_parts.specs.Names.{Name}
use Rattle.abnf_parts.specs.Tree.{alternatives}
use Rattle.abnf_names.specs.Said.{BlockSays}
use Rattle.abnf_names.specs.Rules.{alternatives_said}
use Rattle.abnf_rename.specs.Parts.{renamed_part}
use Rattle.abnf_rename.proofs.ItemShapes.{Shape, shape, renamed_shapes, AreRenamedItems}
use Rattle.abnf_rename.proofs.Rows.{TextLike, Alike, Agrees, derives_like}

-- ---- in a rule no name follows a number at once

-- the name has a place behind an item of such a kind
abbrev pub IsFree : Bool → Item → Type 0
IsFree touched x = kind_of x ≡ k.Name → touched && not x.apart ≡ false

abbrev pub AreFree : Bool → List Item → Type 0
AreFree touched [] = Unit {0}
AreFree touched (x ∷ xs) = IsFree touched x × AreFree (touches (kind_of x)) xs

abbrev FirstFree : Bool → List Item → Type 0
FirstFree touched [] = Unit {0}
FirstFree touched (x ∷ xs) = IsFree touched x

-- whatever stands before
abbrev Loose : List Item → Type 0
Loose xs = (touched : Bool) → AreFree touched xs

not_name : (x : Item) (kind : Kind) (touched : Bool) → kind_of x ≡ kind → (kind ≡ k.Name → ⊥) → IsFree touched x
not_name x kind touched is n e = absurd (n (sym is ∙ e))

free_apart : (x : Item) (touched : Bool) → x.apart ≡ true → IsFree touched x
free_apart x touched e n = ap (λ b. touched && not b) e ∙ and_false touched

first_false : (xs : List Item) → FirstFree false xs
first_false [] = tt
first_false (x ∷ xs) = λ n. refl

after_kind : (x : Item) (kind : Kind) (xs : List Item) → kind_of x ≡ kind → AreFree (touches kind) xs → AreFree (touches (kind_of x)) xs
after_kind x kind xs is f = subst (λ j. AreFree (touches j) xs) (sym is) f

mutual
  rows_free : {room : ℕ} {from to : List Item} {a : Alternation} → IsAlternation room from to a → Loose to → AreFree false from
  rows_free {from = from} (only h) loose = row_free h loose false (first_false from)
  rows_free {from = from} (or {mid = mid} {slash = slash} h is more) loose =
      row_free h (λ touched. (not_name slash k.Slash touched is (λ e. absurd (cc)), after_kind slash k.Slash mid is (rows_free more loose))) false (first_false from)

  row_free : {room : ℕ} {from to : List Item} {c : Concatenation} → IsConcatenation room from to c → Loose to → (touched : Bool) → FirstFree touched from → AreFree touched from
  row_free (one h) loose touched first = part_free h loose touched first
  row_free (and {mid = mid} {next = nxt} h apart more) loose touched first =
      part_free h (λ t. row_free more loose t (free_apart nxt t apart)) touched first

  part_free : {room : ℕ} {from to : List Item} {p : Repetition} → IsRepetition room from to p → Loose to → (touched : Bool) → FirstFree touched from → AreFree touched from
  part_free (once h) loose touched first = element_free h loose touched first
  part_free (times {mid = mid} {repeat = repeat} {next = nxt} is fit apart h) loose touched first =
      (not_name repeat k.Repeat touched is (λ e. absurd (cc)), after_kind repeat k.Repeat (nxt ∷ mid) is (element_free h loose false (λ n. refl)))

  element_free : {room : ℕ} {from to : List Item} {x : Element} → IsElement room from to x → Loose to → (touched : Bool) → FirstFree touched from → AreFree touched from
  element_free (is_name {item = item} is) loose touched first = (first, loose (touches (kind_of item)))
  element_free (is_quoted {item = item} is) loose touched first = (first, loose (touches (kind_of item)))
  element_free (is_number {item = item} is fit) loose touched first = (first, loose (touches (kind_of item)))
  element_free (is_prose {item = item} is) loose touched first = (first, loose (touches (kind_of item)))
  element_free (is_group {inner = inner} {left = opener} {right = closer} left h right) loose touched first =
      (first, after_kind opener k.ParenL inner left (rows_free h (λ t. (not_name closer k.ParenR t right (λ e. absurd (cc)), loose (touches (kind_of closer))))))
  element_free (is_choice {inner = inner} {left = opener} {right = closer} left h right) loose touched first =
      (first, after_kind opener k.BracketL inner left (rows_free h (λ t. (not_name closer k.BracketR t right (λ e. absurd (cc)), loose (touches (kind_of closer))))))

defined_touches : (adds : Bool) → touches (defined_as adds) ≡ false
defined_touches true = refl
defined_touches false = refl

defined_not : (adds : Bool) → defined_as adds ≡ k.Name → ⊥
defined_not true e = absurd (cc)
defined_not false e = absurd (cc)

pub derived_free : (xs : List Item) (rule : Rule) → Derives xs rule → AreFree false xs
derived_free xs rule d =
    let body : AreFree false d.body = rows_free d.alternation (λ t. tt) in
    let after : AreFree (touches (kind_of d.defined)) d.body = subst (λ b. AreFree b d.body) (sym (ap touches d.adds ∙ defined_touches rule.adds)) body in
    subst (λ l. AreFree false l) (sym d.split)
    (λ n. refl, ((λ n. absurd (defined_not rule.adds (sym d.adds ∙ n))), after))

-- ---- items of a renamed block

module _ (old new : Text) (Used : Text → Type 0) where
  -- the names that are at a place
  abbrev pub AreUsed : Bool → List Item → Type 0
  AreUsed touched [] = Unit {0}
  AreUsed touched (x ∷ xs) = (kind_of x ≡ k.Name → touched && not x.apart ≡ false → Used x.token.text.now) × AreUsed (touches (kind_of x)) xs

  abbrev pub retext : Text → Text
  retext t = if is_called old t then new else t

  abbrev pub Becomes : Text → Text → Type 0
  Becomes t u = (u ≡ retext t) × Used t

  abbrev pub Any : Text → Text → Type 0
  Any t u = Unit {0}

  text_like : (kind : Kind) (t u : Text) (touched : Bool) → u ≡ renamed_text old new touched kind t → (kind ≡ k.Name → touched ≡ false) → (kind ≡ k.Name → touched ≡ false → Used t) → TextLike Becomes kind t u
  text_like k.Name t u touched e free used = (e ∙ ap (λ b. renamed_text old new b k.Name t) (free refl), used refl (free refl))
  text_like kind t u touched e free used = e

  text_any : (kind : Kind) (t u : Text) (touched : Bool) → u ≡ renamed_text old new touched kind t → TextLike Any kind u t
  text_any k.Name t u touched e = tt
  text_any kind t u touched e = sym e

  pub alike_becomes : (xs ys : List Item) (touched : Bool) → map shape ys ≡ renamed_shapes old new touched (map shape xs) → AreFree touched xs → AreUsed touched xs → Alike Becomes xs ys
  alike_becomes [] [] touched e free used = tt
  alike_becomes [] (y ∷ ys) touched e free used = absurd (cc)
  alike_becomes (x ∷ xs) [] touched e free used = absurd (cc)
  alike_becomes (x ∷ xs) (y ∷ ys) touched e free used =
      let h = cons_same e in (
        record {
          kind = ap (λ (z : Shape). z.0) h.0;
          apart = ap (λ (z : Shape). z.2) h.0;
          text = text_like (kind_of x) x.token.text.now y.token.text.now (touched && not x.apart) (ap (λ (z : Shape). z.1) h.0) free.0 used.0;
        },
        alike_becomes xs ys (touches (kind_of x)) h.1 free.1 used.1,
      )

  pub alike_any : (xs ys : List Item) (touched : Bool) → map shape ys ≡ renamed_shapes old new touched (map shape xs) → Alike Any ys xs
  alike_any [] [] touched e = tt
  alike_any [] (y ∷ ys) touched e = absurd (cc)
  alike_any (x ∷ xs) [] touched e = absurd (cc)
  alike_any (x ∷ xs) (y ∷ ys) touched e =
      let h = cons_same e in
      let kinds : kind_of y ≡ kind_of x = ap (λ (z : Shape). z.0) h.0 in (
        record {
          kind = sym kinds;
          apart = sym (ap (λ (z : Shape). z.2) h.0);
          text = subst (λ j. TextLike Any j y.token.text.now x.token.text.now) (sym kinds)
              (text_any (kind_of x) x.token.text.now y.token.text.now (touched && not x.apart) (ap (λ (z : Shape). z.1) h.0));
        },
        alike_any xs ys (touches (kind_of x)) h.1,
      )

  abbrev pub Tells : Result Rule SyntaxFault → Result Rule SyntaxFault → Type 0
  Tells said other =
      (r : ℕ) (text : List ℕ) (number numbers : Name → Option ℕ) → Agrees Becomes r text number numbers
      → alternatives_said numbers other ≡ map (renamed_part r text) (alternatives_said number said)

  pub tells : (xs ys : List Item) (said other : Result Rule SyntaxFault) → AreRenamedItems old new xs ys → AreUsed false xs → BlockSays xs said → BlockSays ys other → Tells said other
  tells xs ys (Ok rule) (Ok other) e used p q r text number numbers g =
      let d = derives_like Becomes xs ys rule p (alike_becomes xs ys false e (derived_free xs rule p) used) in
      let same : d.0 ≡ other = one_rule ys d.0 other d.1 q in
      ap (λ (rule : Rule). alternatives numbers rule.body) (sym same) ∙ d.2 r text number numbers g 64
  tells xs ys (Ok rule) (Err fault) e used p q r text number numbers g =
      let d = derives_like Becomes xs ys rule p (alike_becomes xs ys false e (derived_free xs rule p) used) in
      no_fault ys ys d.0 fault refl d.1 q
  tells xs ys (Err fault) (Ok other) e used p q r text number numbers g =
      let d = derives_like Any ys xs other q (alike_any xs ys false e) in
      no_fault xs xs d.0 fault refl d.1 p
  tells xs ys (Err fault) (Err other) e used p q r text number numbers g = refl
