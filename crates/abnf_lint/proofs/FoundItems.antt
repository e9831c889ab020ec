-- What is found at the items of a block.
use Rattle.std.proofs.Common.{◌≡◌, ◌∙◌, ℕ, ◌<◌, Bool, true, false, List, [], ◌∷◌, ◌⊎◌, inl, inr, refl, sym, ap, subst}
use Rattle.std.specs.Prelude.{Contains, nat_lt, flat_map, Option, Some, None, if◌then◌else◌}
use Rattle.std.specs.Option.{option_map_or}
use Rattle.std.proofs.lemmas.Bool.{ltb-true, lt-ltb}
use Rattle.std.proofs.lemmas.List.Elements.{Contains-append_cases, Contains-append_left, Contains-append_right, Contains-push}
use Rattle.ls_text.specs.declared.position.Place.{Place}
use Rattle.abnf_token.specs.declared.token.Kind.{Kind}
use Rattle.abnf_token.specs.declared.token.Kind.TheVariants.{Repeat, Number}
use Rattle.abnf_syntax.specs.declared.item.Item.{Item}
use Rattle.abnf_syntax.specs.Kinds.{is_name_kind}
use Rattle.abnf_syntax.specs.Grammar.{kind_of}
use Rattle.abnf_syntax.specs.Faults.{place_of}
use Rattle.abnf_parts.specs.Leaf.{repeat_limits, ends_of, number_part}
use Rattle.abnf_parts.specs.Names.{Name}
use Rattle.abnf_names.specs.Places.{Named, is_touched, named, use_after, uses_after}
use Rattle.abnf_lint.specs.declared.finding.Code.{Code}
use Rattle.abnf_lint.specs.declared.finding.Code.TheVariants as c
use Rattle.abnf_lint.specs.declared.finding.Finding.{Finding}
use Rattle.abnf_lint.specs.Found.{finding_if, item_found, items_found, number_found, use_found}
use Rattle.abnf_lint.specs.Empty.{is_empty_number, is_turned}
use Rattle.abnf_lint.specs.Rows.{IsEmptyRange, IsEmptyRepeat}
use Rattle.abnf_lint.proofs.Member.{first_in, flat_in, in_cons, in_flat, later_in, none_in, one_in}

-- ---- a finding, if it holds

abbrev pub finding : Code → Place → List ℕ → Finding
finding code place name = record { place = place; code = code; name = name }

pub in_found : (b : Bool) (code : Code) (place : Place) (name : List ℕ) (f : Finding) → Contains (finding_if b code place name) f → (b ≡ true) × (finding code place name ≡ f)
in_found true code place name f h = (refl, one_in (finding code place name) f h)
in_found false code place name f h = none_in f h

pub found_in : (b : Bool) (code : Code) (place : Place) (name : List ℕ) → b ≡ true → Contains (finding_if b code place name) (finding code place name)
found_in true code place name e = Contains-push [] (finding code place name)
found_in false code place name e = absurd (cc e)

-- ---- of an item

abbrev pub OfNumber : Item → Finding → Type 0
OfNumber item f = Contains (number_found (kind_of item) (place_of item.token) item.token.text.now) f

-- what is found of a repeat or a number
abbrev pub NumberFound : Kind → Place → List ℕ → Finding → Type 0
NumberFound kind place text f =
    ((kind ≡ Repeat) × (is_empty_number Repeat text ≡ true) × (finding c.EmptyRepeat place [] ≡ f))
    ⊎ ((kind ≡ Number) × (is_empty_number Number text ≡ true) × (finding c.EmptyRange place [] ≡ f))

pub number_is : (kind : Kind) (place : Place) (text : List ℕ) (f : Finding) → Contains (number_found kind place text) f → NumberFound kind place text f
number_is Repeat place text f h = let k = in_found (is_empty_number Repeat text) c.EmptyRepeat place [] f h in inl (refl, k.0, k.1)
number_is Number place text f h = let k = in_found (is_empty_number Number text) c.EmptyRange place [] f h in inr (refl, k.0, k.1)
number_is _ place text f h = none_in f h

-- ---- of the items of a list

module _ (strange : Name → Bool) (f : Finding) where
  abbrev pub ByUse : Kind → List Item → Type 0
  ByUse before xs = (n : Named) × Contains (uses_after before xs) n × Contains (use_found strange n) f

  abbrev pub ByNumber : List Item → Type 0
  ByNumber xs = (item : Item) × Contains xs item × OfNumber item f

  of_item : (before : Kind) (x : Item) (xs : List Item) → Contains (item_found strange before x) f → ByUse before (x ∷ xs) ⊎ ByNumber (x ∷ xs)
  of_item before x xs h = elim (Contains-append_cases (flat_map (use_found strange) (use_after before x)) (number_found (kind_of x) (place_of x.token) x.token.text.now) f h) [
    | inl k ↦ let u = in_flat (use_found strange) (use_after before x) f k in inl (u.0, Contains-append_left (use_after before x) (uses_after (kind_of x) xs) u.0 u.1, u.2)
    | inr k ↦ inr (x, first_in x xs, k)
  ]

  of_later : (before : Kind) (x : Item) (xs : List Item) → ByUse (kind_of x) xs ⊎ ByNumber xs → ByUse before (x ∷ xs) ⊎ ByNumber (x ∷ xs)
  of_later before x xs h = elim h [
    | inl u ↦ inl (u.0, Contains-append_right (use_after before x) (uses_after (kind_of x) xs) u.0 u.1, u.2)
    | inr n ↦ inr (n.0, later_in x xs n.0 n.1, n.2)
  ]

  pub in_items : (before : Kind) (xs : List Item) → Contains (items_found strange before xs) f → ByUse before xs ⊎ ByNumber xs
  in_items before [] h = none_in f h
  in_items before (x ∷ xs) h = elim (Contains-append_cases (item_found strange before x) (items_found strange (kind_of x) xs) f h) [
    | inl k ↦ of_item before x xs k
    | inr k ↦ of_later before x xs (in_items (kind_of x) xs k)
  ]

  pub use_in : (before : Kind) (xs : List Item) (n : Named) → Contains (uses_after before xs) n → Contains (use_found strange n) f → Contains (items_found strange before xs) f
  use_in before [] n h k = none_in n h
  use_in before (x ∷ xs) n h k = elim (Contains-append_cases (use_after before x) (uses_after (kind_of x) xs) n h) [
    | inl here ↦ Contains-append_left (item_found strange before x) (items_found strange (kind_of x) xs) f
        (Contains-append_left (flat_map (use_found strange) (use_after before x)) (number_found (kind_of x) (place_of x.token) x.token.text.now) f (flat_in (use_found strange) (use_after before x) n f here k))
    | inr there ↦ Contains-append_right (item_found strange before x) (items_found strange (kind_of x) xs) f (use_in (kind_of x) xs n there k)
  ]

  pub number_in : (before : Kind) (xs : List Item) (item : Item) → Contains xs item → OfNumber item f → Contains (items_found strange before xs) f
  number_in before [] item h k = none_in item h
  number_in before (x ∷ xs) item h k = elim (in_cons x xs item h) [
    | inl e ↦ Contains-append_left (item_found strange before x) (items_found strange (kind_of x) xs) f
        (Contains-append_right (flat_map (use_found strange) (use_after before x)) (number_found (kind_of x) (place_of x.token) x.token.text.now) f (subst (λ y. OfNumber y f) (sym e) k))
    | inr r ↦ Contains-append_right (item_found strange before x) (items_found strange (kind_of x) xs) f (number_in (kind_of x) xs item r k)
  ]

-- ---- a use defines nothing

named_use : (b : Bool) (item : Item) (n : Named) → Contains (if b then record { text = item.token.text.now; place = place_of item.token; defines = false } ∷ [] else []) n → n.defines ≡ false
named_use true item n h = sym (ap (λ (m : Named). m.defines) (one_in _ n h))
named_use false item n h = none_in n h

use_by : (b : Bool) (item : Item) (n : Named) → Contains (if b then [] else named false item) n → n.defines ≡ false
use_by true item n h = none_in n h
use_by false item n h = named_use (is_name_kind (kind_of item)) item n h

pub uses_define_nothing : (before : Kind) (xs : List Item) (n : Named) → Contains (uses_after before xs) n → n.defines ≡ false
uses_define_nothing before [] n h = none_in n h
uses_define_nothing before (x ∷ xs) n h = elim (Contains-append_cases (use_after before x) (uses_after (kind_of x) xs) n h) [
  | inl k ↦ use_by (is_touched before x) x n k
  | inr k ↦ uses_define_nothing (kind_of x) xs n k
]

-- ---- bounds and ends

less_by : (m l : ℕ) → nat_lt m l ≡ true → m < l
less_by m l e = ltb-true m l e

most_of : (o : Option ℕ) (least : ℕ) → option_map_or (λ most. nat_lt most least) o false ≡ true → (most : ℕ) × (o ≡ Some most) × (most < least)
most_of None least e = absurd (cc e)
most_of (Some most) least e = (most, refl, less_by most least e)

pub empty_repeat_is : (item : Item) → kind_of item ≡ Repeat → is_empty_number Repeat item.token.text.now ≡ true → IsEmptyRepeat item
empty_repeat_is item kind e = let m = most_of (repeat_limits item.token.text.now).1 (repeat_limits item.token.text.now).0 e in record { repeat = kind; most = m.0; bounded = m.1; above = m.2 }

pub is_empty_of : (item : Item) → IsEmptyRepeat item → is_empty_number Repeat item.token.text.now ≡ true
is_empty_of item r = ap (λ o. option_map_or (λ most. nat_lt most (repeat_limits item.token.text.now).0) o false) r.bounded ∙ lt-ltb r.most (repeat_limits item.token.text.now).0 r.above

ends_by : (o : Option (ℕ × ℕ)) → is_turned o ≡ true → (ends : ℕ × ℕ) × (o ≡ Some ends) × (ends.1 < ends.0)
ends_by None e = absurd (cc e)
ends_by (Some ends) e = (ends, refl, less_by ends.1 ends.0 e)

pub empty_range_is : (item : Item) → kind_of item ≡ Number → is_empty_number Number item.token.text.now ≡ true → IsEmptyRange item
empty_range_is item kind e = let m = ends_by (ends_of (number_part item.token.text.now)) e in record { number = kind; ends = m.0; range = m.1; above = m.2 }

pub is_turned_of : (item : Item) → IsEmptyRange item → is_empty_number Number item.token.text.now ≡ true
is_turned_of item r = ap is_turned r.range ∙ lt-ltb r.ends.1 r.ends.0 r.above
