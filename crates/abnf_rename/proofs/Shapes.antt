-- Heads and places, by the shapes of items.
use Rattle.std.proofs.Common.{◌≡◌, Bool, true, false, not, ◌&&◌, ◌||◌, List, [], ◌∷◌, ◌++◌, map, Option, Some, None, option_map, refl, sym, ap, ◌∙◌}
use Rattle.std.specs.Prelude.{if◌then◌else◌}
use Rattle.std.specs.Option.{is_some, option_map_or}
use Rattle.std.specs.Str.{bytes_eq}
use Rattle.std.proofs.lemmas.List.{map-append}
use Rattle.abnf_token.specs.declared.token.Kind.{Kind}
use Rattle.abnf_token.specs.declared.token.Kind.TheVariants as k
use Rattle.abnf_token.specs.Classes.{Text}
use Rattle.abnf_token.specs.Folded.{lowercase}
use Rattle.abnf_token.specs.Renamed.{touches, is_called, renamed_text}
use Rattle.abnf_syntax.specs.declared.block.Head.{Head}
use Rattle.abnf_syntax.specs.declared.item.Item.{Item}
use Rattle.abnf_syntax.specs.Kinds.{is_name_kind, is_bad, is_defined_as, is_adds}
use Rattle.abnf_syntax.specs.Grammar.{kind_of}
use Rattle.abnf_syntax.specs.Heads.{head_of}
use Rattle.abnf_parts.specs.Names.{Name}
use Rattle.abnf_names.specs.Said.{Block, name_of}
use Rattle.abnf_names.specs.Places.{Named, named, is_number_kind, is_touched, use_after, uses_after, places_in}
use Rattle.abnf_names.specs.Rules.{defines, adds, head_name}
use Rattle.abnf_rename.proofs.ItemShapes.{Shape, shape, renamed_shapes}
use Rattle.abnf_rename.specs.Rules.{text_after, name_after, text_and_role}

-- ---- heads

abbrev pub shape_head : List Shape → Option (Name × Bool)
shape_head (x ∷ y ∷ xs) = if is_name_kind x.0 && is_defined_as y.0 then Some (lowercase x.1, is_adds y.0) else None
shape_head _ = None

abbrev head_pair : Head → Name × Bool
head_pair h = (name_of h, h.adds)

head_if : (b : Bool) (h : Head) → option_map head_pair (if b then Some h else None) ≡ (if b then Some (head_pair h) else None)
head_if true h = refl
head_if false h = refl

head_shape : (xs : List Item) → option_map head_pair (head_of xs) ≡ shape_head (map shape xs)
head_shape [] = refl
head_shape (x ∷ []) = refl
head_shape (x ∷ y ∷ xs) = head_if (is_name_kind (kind_of x) && is_defined_as (kind_of y)) _

name_pair : (o : Option Head) → option_map name_of o ≡ option_map (λ (p : Name × Bool). p.0) (option_map head_pair o)
name_pair None = refl
name_pair (Some h) = refl

adds_pair : (o : Option Head) → option_map_or (λ (head : Head). head.adds) o false ≡ option_map_or (λ (p : Name × Bool). p.1) (option_map head_pair o) false
adds_pair None = refl
adds_pair (Some h) = refl

defines_pair : (name : Name) (o : Option Head) → option_map_or (λ head. bytes_eq (name_of head) name) o false ≡ option_map_or (λ (p : Name × Bool). bytes_eq p.0 name) (option_map head_pair o) false
defines_pair name None = refl
defines_pair name (Some h) = refl

some_pair : (o : Option Head) → is_some o ≡ is_some (option_map head_pair o)
some_pair None = refl
some_pair (Some h) = refl

pub name_by_shape : (b : Block) → head_name b ≡ option_map (λ (p : Name × Bool). p.0) (shape_head (map shape b.items))
name_by_shape b = name_pair (head_of b.items) ∙ ap (option_map (λ (p : Name × Bool). p.0)) (head_shape b.items)

pub adds_by_shape : (b : Block) → adds b ≡ option_map_or (λ (p : Name × Bool). p.1) (shape_head (map shape b.items)) false
adds_by_shape b = adds_pair (head_of b.items) ∙ ap (λ o. option_map_or (λ (p : Name × Bool). p.1) o false) (head_shape b.items)

pub defines_by_shape : (name : Name) (b : Block) → defines name b ≡ option_map_or (λ (p : Name × Bool). bytes_eq p.0 name) (shape_head (map shape b.items)) false
defines_by_shape name b = defines_pair name (head_of b.items) ∙ ap (λ o. option_map_or (λ (p : Name × Bool). bytes_eq p.0 name) o false) (head_shape b.items)

-- ---- places

abbrev pub Told : Type 0
Told = Text × Bool

abbrev pub shape_named : Bool → Shape → List Told
shape_named defines x = if is_name_kind x.0 then (x.1, defines) ∷ [] else []

abbrev pub shape_use : Bool → Shape → List Told
shape_use touched x = if touched && not x.2 then [] else shape_named false x

abbrev pub shape_uses : Bool → List Shape → List Told
shape_uses touched [] = []
shape_uses touched (x ∷ xs) = shape_use touched x ++ shape_uses (touches x.0) xs

abbrev pub shape_places : List Shape → List Told
shape_places [] = []
shape_places (x ∷ xs) = shape_named (is_some (shape_head (x ∷ xs))) x ++ shape_uses (touches x.0) xs

pub touches_is : (kind : Kind) → touches kind ≡ (is_bad kind || is_number_kind kind)
touches_is k.Bad = refl
touches_is k.Number = refl
touches_is kind = refl

and_sym : (a b : Bool) → a && b ≡ b && a
and_sym true true = refl
and_sym true false = refl
and_sym false true = refl
and_sym false false = refl

pub touched_is : (before : Kind) (x : Item) → is_touched before x ≡ touches before && not x.apart
touched_is before x = and_sym (not x.apart) (is_bad before || is_number_kind before) ∙ ap (λ b. b && not x.apart) (sym (touches_is before))

named_if : (b d : Bool) (n : Named) → n.defines ≡ d → map text_and_role (if b then n ∷ [] else []) ≡ (if b then (n.text, d) ∷ [] else [])
named_if true d n e = ap (λ d. (n.text, d) ∷ []) e
named_if false d n e = refl

named_by_shape : (d : Bool) (x : Item) → map text_and_role (named d x) ≡ shape_named d (shape x)
named_by_shape d x = named_if (is_name_kind (kind_of x)) d _ refl

use_if : (b : Bool) (xs : List Named) → map text_and_role (if b then [] else xs) ≡ (if b then [] else map text_and_role xs)
use_if true xs = refl
use_if false xs = refl

use_by_shape : (before : Kind) (x : Item) → map text_and_role (use_after before x) ≡ shape_use (touches before) (shape x)
use_by_shape before x =
    use_if (is_touched before x) (named false x) ∙ (λ i. if touched_is before x i then [] else named_by_shape false x i)

pub uses_by_shape : (before : Kind) (xs : List Item) → map text_and_role (uses_after before xs) ≡ shape_uses (touches before) (map shape xs)
uses_by_shape before [] = refl
uses_by_shape before (x ∷ xs) =
    map-append text_and_role (use_after before x) (uses_after (kind_of x) xs) ∙ (λ i. use_by_shape before x i ++ uses_by_shape (kind_of x) xs i)

pub places_by_shape : (xs : List Item) → map text_and_role (places_in xs) ≡ shape_places (map shape xs)
places_by_shape [] = refl
places_by_shape (x ∷ xs) =
    map-append text_and_role (named (is_some (head_of (x ∷ xs))) x) (uses_after (kind_of x) xs)
    ∙ (λ i. (named_by_shape (is_some (head_of (x ∷ xs))) x ∙ ap (λ d. shape_named d (shape x)) (some_pair (head_of (x ∷ xs)) ∙ ap is_some (head_shape (x ∷ xs)))) i ++ uses_by_shape (kind_of x) xs i)

-- ---- a rename

module _ (old new : Text) where
  lower_if : (c : Bool) (t : Text) → lowercase (if c then new else t) ≡ (if c then lowercase new else lowercase t)
  lower_if true t = refl
  lower_if false t = refl

  pub lower_after : (t : Text) → lowercase (text_after old new t) ≡ name_after old new (lowercase t)
  lower_after t = lower_if (is_called old t) t

  abbrev pub pair_after : Name × Bool → Name × Bool
  pair_after p = (name_after old new p.0, p.1)

  abbrev pub place_after : Told → Told
  place_after p = (text_after old new p.0, p.1)

  head_after_if : (b : Bool) (t : Text) (d : Bool) → (if b then Some (lowercase (text_after old new t), d) else None) ≡ option_map pair_after (if b then Some (lowercase t, d) else None)
  head_after_if true t d = ap (λ n. Some (n, d)) (lower_after t)
  head_after_if false t d = refl

  head_kind : (kind : Kind) (t : Text) (y : Kind) →
      (if is_name_kind kind && is_defined_as y then Some (lowercase (renamed_text old new false kind t), is_adds y) else None)
      ≡ option_map pair_after (if is_name_kind kind && is_defined_as y then Some (lowercase t, is_adds y) else None)
  head_kind k.Name t y = head_after_if (is_defined_as y) t (is_adds y)
  head_kind kind t y = refl

  pub head_after : (xs : List Shape) → shape_head (renamed_shapes old new false xs) ≡ option_map pair_after (shape_head xs)
  head_after [] = refl
  head_after (x ∷ []) = refl
  head_after (x ∷ y ∷ xs) = head_kind x.0 x.1 y.0

  use_kind : (kind : Kind) (t : Text) (b d : Bool) →
      (if b then [] else (if is_name_kind kind then (renamed_text old new b kind t, d) ∷ [] else []))
      ≡ map place_after (if b then [] else (if is_name_kind kind then (t, d) ∷ [] else []))
  use_kind k.Name t true d = refl
  use_kind k.Name t false d = refl
  use_kind kind t true d = refl
  use_kind kind t false d = refl

  pub uses_after_rename : (touched : Bool) (xs : List Shape) → shape_uses touched (renamed_shapes old new touched xs) ≡ map place_after (shape_uses touched xs)
  uses_after_rename touched [] = refl
  uses_after_rename touched (x ∷ xs) =
      (λ i. use_kind x.0 x.1 (touched && not x.2) false i ++ uses_after_rename (touches x.0) xs i)
      ∙ sym (map-append place_after (shape_use touched x) (shape_uses (touches x.0) xs))

  some_after : (o : Option (Name × Bool)) → is_some (option_map pair_after o) ≡ is_some o
  some_after None = refl
  some_after (Some p) = refl

  pub places_after : (xs : List Shape) → shape_places (renamed_shapes old new false xs) ≡ map place_after (shape_places xs)
  places_after [] = refl
  places_after (x ∷ xs) =
      let d = is_some (shape_head (x ∷ xs)) in
      (λ i. (ap (λ d. shape_named d (x.0, renamed_text old new false x.0 x.1, x.2)) (ap is_some (head_after (x ∷ xs)) ∙ some_after (shape_head (x ∷ xs))) ∙ use_kind x.0 x.1 false d) i ++ uses_after_rename (touches x.0) xs i)
      ∙ sym (map-append place_after (shape_named d x) (shape_uses (touches x.0) xs))
