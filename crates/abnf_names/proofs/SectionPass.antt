-- The fault that a block shows, by what its check gives.
use Rattle.std.proofs.Common.{◌≡◌, ℕ, ◌<◌, false, List, [], ◌∷◌, length, get_or, Some, None, Ok, Err, refl, sym, ap, ◌∙◌, ◌⊎◌, inl, inr}
use Rattle.std.specs.Prelude.{is_some, Option, Result}
use Rattle.std.proofs.lemmas.Grind.{not_there}
use Rattle.std.proofs.Math.Logic.{∥∥₁_elim, ∥∥₁_map}
use Rattle.std.proofs.Math.Nat.{ℕ_set}
use Rattle.std.proofs.lemmas.Option.{same_Some}
use Rattle.ls_text.specs.declared.position.Place.{Place}
use Rattle.abnf_names.specs.Said.{BlockSays}
use Rattle.abnf_syntax.specs.declared.item.Item.{Item}
use Rattle.abnf_syntax.specs.declared.fault.SyntaxFault.{SyntaxFault}
use Rattle.abnf_syntax.specs.declared.fault.SyntaxFault.TheVariants.{Memory}
use Rattle.abnf_syntax.specs.declared.fault.SyntaxFault.TheVariants as f
use Rattle.abnf_syntax.specs.declared.tree.Rule.{Rule}
use Rattle.abnf_syntax.specs.Faults.{Faults}
use Rattle.abnf_syntax.specs.Grammar.{Derives, HasOneRule}
use Rattle.abnf_syntax.proofs.Exact.{parse_none, some_not_none, one_fault}
use Rattle.abnf_syntax.proofs.Whole.{parse_complete, some_answer}
use Rattle.abnf_parts.specs.Tree.{alternatives}
use Rattle.abnf_names.specs.Sections.{HaveSameAlternatives}
use Rattle.abnf_names.specs.Shown.{HasFault, fault_shown}

pub none_shown : (items : List Item) (rule : Rule) → Derives items rule → HasFault items None
none_shown items rule d = record { said = Ok rule; says = d; shown = refl }

pub some_shown : (items : List Item) (fault : SyntaxFault) → (fault ≡ Memory → ⊥) → (fault ≡ Memory) ⊎ Faults items fault → HasFault items (Some fault)
some_shown items fault not (inl is) = absurd (not is)
some_shown items fault not (inr shows) = record { said = Err fault; says = shows; shown = refl }

-- a block that derives a rule shows no fault
derived_shows_none : (items : List Item) (rule : Rule) → Derives items rule → (f : SyntaxFault) → Faults items f → ⊥
derived_shows_none items rule d f faulty =
    some_not_none _ f faulty.shows (parse_none items rule (parse_complete items rule d) faulty.front faulty.rest faulty.split)

-- A section without a fault is that of a block that shows none.
pub no_fault : (items : List Item) (fault : Option SyntaxFault) → ∥ HasFault items fault ∥₁ → fault ≡ None → (f : SyntaxFault) → Faults items f → ⊥
no_fault items fault h none f faulty = not_there h (λ shows. by_said shows.said shows.says shows.shown)
  where
    by_said : (said : Result Rule SyntaxFault) → BlockSays items said → fault ≡ fault_shown said → ⊥
    by_said (Err g) says shown = let both : None ≡ Some g = sym none ∙ shown in absurd (cc)
    by_said (Ok rule) says shown = derived_shows_none items rule says f faulty

-- what it says has the alternatives of the rule that was read
pub alike : (items : List Item) (fault : Option SyntaxFault) → fault ≡ None → (rule : Rule) → Derives items rule → HasOneRule items → (said : Result Rule SyntaxFault) → BlockSays items said → fault ≡ fault_shown said
    → HaveSameAlternatives said (Some rule)
alike items fault none rule d one (Err g) says shown = let both : None ≡ Some g = sym none ∙ shown in absurd (cc)
alike items fault none rule d one (Ok other) says shown = λ number. ap (λ (r : Rule). alternatives number r.body) (one rule other d says)

-- ---- what a section without a rule shows

-- A fault is known by its number and its place.
abbrev number : SyntaxFault → ℕ
number (f.NoName p) = 0
number (f.NoDefinedAs p) = 1
number (f.BadToken p) = 2
number (f.ElementExpected p) = 3
number (f.BlankExpected p) = 4
number (f.Unclosed p) = 5
number (f.NumberTooLarge p) = 6
number (f.TooDeep p) = 7
number f.Memory = 8

abbrev place : SyntaxFault → Place
place (f.NoName p) = p
place (f.NoDefinedAs p) = p
place (f.BadToken p) = p
place (f.ElementExpected p) = p
place (f.BlankExpected p) = p
place (f.Unclosed p) = p
place (f.NumberTooLarge p) = p
place (f.TooDeep p) = p
place f.Memory = record { line = 0; start = 0; end = 0 }

abbrev numbered : Place → ℕ → SyntaxFault
numbered p n = get_or (f.NoName p ∷ f.NoDefinedAs p ∷ f.BadToken p ∷ f.ElementExpected p ∷ f.BlankExpected p ∷ f.Unclosed p ∷ f.NumberTooLarge p ∷ f.TooDeep p ∷ []) n f.Memory

is_numbered : (fault : SyntaxFault) → numbered (place fault) (number fault) ≡ fault
is_numbered (f.NoName p) = refl
is_numbered (f.NoDefinedAs p) = refl
is_numbered (f.BadToken p) = refl
is_numbered (f.ElementExpected p) = refl
is_numbered (f.BlankExpected p) = refl
is_numbered (f.Unclosed p) = refl
is_numbered (f.NumberTooLarge p) = refl
is_numbered (f.TooDeep p) = refl
is_numbered f.Memory = refl

same_place : (p q : Place) → p.line ≡ q.line → p.start ≡ q.start → p.end ≡ q.end → p ≡ q
same_place p q line start end = (λ i. record { line = line i; start = start i; end = end i })

same_number : (of : SyntaxFault → ℕ) (x y : SyntaxFault) → ∥ x ≡ y ∥₁ → of x ≡ of y
same_number of x y h = ∥∥₁_elim h (ℕ_set (of x) (of y)) (λ e. ap of e)

same_fault : (x y : SyntaxFault) → ∥ x ≡ y ∥₁ → x ≡ y
same_fault x y h =
    let places : place x ≡ place y =
    same_place (place x) (place y) (same_number (λ z. (place z).line) x y h) (same_number (λ z. (place z).start) x y h) (same_number (λ z. (place z).end) x y h) in
    sym (is_numbered x) ∙ ((λ i. numbered (places i) (same_number number x y h i)) ∙ is_numbered y)

-- What a section's block says is found again.
pub found_again : (items : List Item) (fault : Option SyntaxFault) → 0 < length items → ∥ HasFault items fault ∥₁ → HasFault items fault
found_again items fault some h = by_answer fault h (some_answer items some)
  where
    by_answer : (fault : Option SyntaxFault) → ∥ HasFault items fault ∥₁ → ((rule : Rule) × Derives items rule) ⊎ ((g : SyntaxFault) × Faults items g) → HasFault items fault
    by_answer None h (inl says) = none_shown items says.0 says.1
    by_answer None h (inr shows) = absurd (no_fault items None h refl shows.0 shows.1)
    by_answer (Some g) h (inl says) = absurd (not_there h (λ shows. by_said shows.said shows.says shows.shown))
      where
        by_said : (said : Result Rule SyntaxFault) → BlockSays items said → Some g ≡ fault_shown said → ⊥
        by_said (Ok rule) is shown = absurd (cc)
        by_said (Err e) is shown = derived_shows_none items says.0 says.1 e is
    by_answer (Some g) h (inr shows) =
        record { said = Err shows.0; says = shows.1; shown = ap (λ x. Some x) (sym (same_fault shows.0 g (∥∥₁_map h (λ w. by_said w.said w.says w.shown)))) }
      where
        by_said : (said : Result Rule SyntaxFault) → BlockSays items said → Some g ≡ fault_shown said → shows.0 ≡ g
        by_said (Ok rule) is shown = absurd (cc)
        by_said (Err e) is shown = one_fault items shows.0 e shows.1 is ∙ same_Some e g (sym shown)

pub none_is : (fault : Option SyntaxFault) → is_some fault ≡ false → fault ≡ None
none_is None h = refl
none_is (Some f) h = absurd (cc)
