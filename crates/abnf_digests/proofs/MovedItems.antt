-- Items of the same lines are the same, each at its place, but for the numbers of their lines. So are the head and the names.
use Rattle.std.proofs.Common.{◌≡◌, ℕ, zero, suc, ◌+◌, ◌<◌, Bool, true, false, not, ◌&&◌, List, [], ◌∷◌, ◌++◌, length, map, Option, Some, None, option_map, refl, sym, ap, subst, ◌∙◌, arith}
use Rattle.std.specs.Prelude.{◌||◌, if◌then◌else◌, slice_index_or, Contains}
use Rattle.std.specs.List.{flat_map}
use Rattle.std.specs.Option.{is_some}
use Rattle.std.proofs.lemmas.List.{map-append}
use Rattle.ls_text.specs.declared.position.Place.{Place}
use Rattle.abnf_token.specs.declared.token.Kind.{Kind}
use Rattle.abnf_token.specs.declared.token.Token.{Token}
use Rattle.abnf_token.specs.Classes.{Text}
use Rattle.abnf_token.specs.Tokens.{TokensOf}
use Rattle.abnf_token.specs.Renamed.{Piece, piece}
use Rattle.abnf_token.proofs.LineLaw.{cut_tokens, one_cut}
use Rattle.abnf_syntax.specs.declared.block.Head.{Head}
use Rattle.abnf_syntax.specs.declared.item.Item.{Item}
use Rattle.abnf_syntax.specs.Faults.{place_of}
use Rattle.abnf_syntax.specs.Grammar.{kind_of}
use Rattle.abnf_syntax.specs.Heads.{head_of}
use Rattle.abnf_syntax.specs.Items.{with_line_end, items_behind, items_of, AreTokens, AreItems, view}
use Rattle.abnf_syntax.specs.Kinds.{is_item, is_name_kind, is_bad, is_defined_as, is_adds}
use Rattle.abnf_names.specs.Places.{Named, named, is_number_kind, is_touched, use_after, uses_after, places_in}
use Rattle.abnf_digests.specs.SameLines.{AreSameLines}
use Rattle.abnf_digests.proofs.Placed.{Placed, same, place_by, placed}

-- ---- tokens

-- a token's kind, text and place
abbrev Viewed : Type 0
Viewed = Kind × Text × Place

abbrev viewed : (ℕ → ℕ) → Token → Viewed
viewed g t = (t.kind, t.text.now, place_by g same (place_of t))

-- pieces of a line with their places, from this start on
abbrev spread : ℕ → ℕ → List Piece → List Viewed
spread line start [] = []
spread line start (p ∷ ps) = (p.0, p.1, record { line = line; start = start; end = start + length p.1 }) ∷ spread line (start + length p.1) ps

spread_is : (g : ℕ → ℕ) (at start : ℕ) (left : Text) (ts : List Token) → TokensOf at start left ts → map (viewed g) ts ≡ spread (g at) start (map piece ts)
spread_is g at start left [] t = refl
spread_is g at start left (t ∷ ts) h =
    let rest = spread_is g at (start + length t.text.now) _ ts h.1 in
    (λ i. (t.kind, t.text.now, record { line = g (h.0.line i); start = h.0.start i; end = h.0.start i + length t.text.now }) ∷ rest i)

-- the same lines, and the same numbers for them
abbrev EachLine : (ℕ → ℕ) → (ℕ → ℕ) → List Text → List Text → ℕ → ℕ → ℕ → Type 0
EachLine g k ls others at there count =
    (n : ℕ) → n < count → (slice_index_or ls (at + n) [] ≡ slice_index_or others (there + n) []) × (g (at + n) ≡ k (there + n))

line_same : (g k : ℕ → ℕ) (at there : ℕ) (l m : Text) (ts us : List Token) → l ≡ m → g at ≡ k there
    → TokensOf at 0 l ts → TokensOf there 0 m us → map (viewed g) ts ≡ map (viewed k) us
line_same g k at there l m ts us e lines t u =
    let one = cut_tokens at 0 l ts t in
    let two = cut_tokens there 0 m us u in
    let pieces : map piece ts ≡ map piece us = one_cut (map piece ts) (map piece us) one.cut two.cut (sym one.is ∙ (e ∙ two.is)) in
    spread_is g at 0 l ts t ∙ ((λ i. spread (lines i) 0 (pieces i)) ∙ sym (spread_is k there 0 m us u))

module _ (g k : ℕ → ℕ) (ls others : List Text) where
  first_same : (at there count : ℕ) → 0 < count → EachLine g k ls others at there count → (slice_index_or ls at [] ≡ slice_index_or others there []) × (g at ≡ k there)
  first_same at there count some e =
      let here : at + 0 ≡ at = omega arith in
      let beyond : there + 0 ≡ there = omega arith in
      let h = e 0 some in (
        ap (λ n. slice_index_or ls n []) (sym here) ∙ (h.0 ∙ ap (λ n. slice_index_or others n []) beyond),
        ap g (sym here) ∙ (h.1 ∙ ap k beyond),
      )

  rest_same : (at there count : ℕ) → EachLine g k ls others at there (suc count) → EachLine g k ls others (suc at) (suc there) count
  rest_same at there count e n less =
      let here : suc at + n ≡ at + suc n = omega arith in
      let beyond : there + suc n ≡ suc there + n = omega arith in
      let h = e (suc n) (omega (arith, less)) in (
        ap (λ n. slice_index_or ls n []) here ∙ (h.0 ∙ ap (λ n. slice_index_or others n []) beyond),
        ap g here ∙ (h.1 ∙ ap k beyond),
      )

  lines_same : (at there : ℕ) (tss uss : List (List Token)) → length tss ≡ length uss → EachLine g k ls others at there (length tss)
      → AreTokens ls at tss → AreTokens others there uss → map (map (viewed g)) tss ≡ map (map (viewed k)) uss
  lines_same at there [] [] l e t u = refl
  lines_same at there [] (us ∷ uss) l e t u = absurd (omega (arith, l))
  lines_same at there (ts ∷ tss) [] l e t u = absurd (omega (arith, l))
  lines_same at there (ts ∷ tss) (us ∷ uss) l e t u =
      let first = first_same at there (suc (length tss)) (omega arith) e in
      let rest = lines_same (suc at) (suc there) tss uss (omega (arith, l)) (rest_same at there (length tss) e) t.1 u.1 in
      (λ i. line_same g k at there (slice_index_or ls at []) (slice_index_or others there []) ts us first.0 first.1 t.0 u.0 i ∷ rest i)

-- ---- items

abbrev placed_pair : (ℕ → ℕ) → Token × Bool → Placed
placed_pair g p = (p.0.kind, p.0.text.now, p.1, place_by g same (place_of p.0))

abbrev Views : Type 0
Views = List (Option Viewed)

abbrev behind : Bool → Views → List Placed
behind apart [] = []
behind apart (None ∷ ps) = behind true ps
behind apart (Some p ∷ ps) = if is_item p.0 then (p.0, p.1, apart, p.2) ∷ behind false ps else behind true ps

abbrev from_first : Views → List Placed
from_first [] = []
from_first (None ∷ ps) = from_first ps
from_first (Some p ∷ ps) = if is_item p.0 then (p.0, p.1, false, p.2) ∷ behind false ps else from_first ps

abbrev ended : List Viewed → Views
ended [] = None ∷ []
ended (p ∷ ps) = Some p ∷ ended ps

module _ (g : ℕ → ℕ) where
  placed_if : (b : Bool) (x : Token × Bool) (xs ys : List (Token × Bool))
      → map (placed_pair g) (if b then x ∷ xs else ys) ≡ (if b then placed_pair g x ∷ map (placed_pair g) xs else map (placed_pair g) ys)
  placed_if true x xs ys = refl
  placed_if false x xs ys = refl

  behind_is : (apart : Bool) (os : List (Option Token)) → map (placed_pair g) (items_behind apart os) ≡ behind apart (map (option_map (viewed g)) os)
  behind_is apart [] = refl
  behind_is apart (None ∷ os) = behind_is true os
  behind_is apart (Some t ∷ os) =
      placed_if (is_item t.kind) (t, apart) (items_behind false os) (items_behind true os)
      ∙ (λ i. if is_item t.kind then placed_pair g (t, apart) ∷ behind_is false os i else behind_is true os i)

  first_is : (os : List (Option Token)) → map (placed_pair g) (items_of os) ≡ from_first (map (option_map (viewed g)) os)
  first_is [] = refl
  first_is (None ∷ os) = first_is os
  first_is (Some t ∷ os) =
      placed_if (is_item t.kind) (t, false) (items_behind false os) (items_of os)
      ∙ (λ i. if is_item t.kind then placed_pair g (t, false) ∷ behind_is false os i else first_is os i)

  ended_is : (ts : List Token) → map (option_map (viewed g)) (with_line_end ts) ≡ ended (map (viewed g) ts)
  ended_is [] = refl
  ended_is (t ∷ ts) = ap (λ l. Some (viewed g t) ∷ l) (ended_is ts)

  all_ended : (tss : List (List Token)) → map (option_map (viewed g)) (flat_map with_line_end tss) ≡ flat_map ended (map (map (viewed g)) tss)
  all_ended [] = refl
  all_ended (ts ∷ tss) = map-append (option_map (viewed g)) (with_line_end ts) (flat_map with_line_end tss) ∙ (λ i. ended_is ts i ++ all_ended tss i)

  placed_view : (xs : List Item) → map (placed g same) xs ≡ map (placed_pair g) (map view xs)
  placed_view [] = refl
  placed_view (x ∷ xs) = ap (λ l. placed g same x ∷ l) (placed_view xs)

  by_views : (ls : List Text) (first end : ℕ) (xs : List Item) (h : AreItems ls first end xs) → map (placed g same) xs ≡ from_first (flat_map ended (map (map (viewed g)) h.tokens))
  by_views ls first end xs h =
      placed_view xs ∙ (ap (map (placed_pair g)) h.items_are ∙ (first_is (flat_map with_line_end h.tokens) ∙ ap from_first (all_ended h.tokens)))

-- where g and k give the same number for the same line
pub same_placed : (g k : ℕ → ℕ) (ls others : List Text) (bounds there : ℕ × ℕ) (xs ys : List Item) → AreSameLines ls others bounds there
    → ((n : ℕ) → bounds.0 + n < bounds.1 → g (bounds.0 + n) ≡ k (there.0 + n))
    → AreItems ls bounds.0 bounds.1 xs → AreItems others there.0 there.1 ys → map (placed g same) xs ≡ map (placed k same) ys
same_placed g k ls others bounds there xs ys s lines p q =
    let each : EachLine g k ls others bounds.0 there.0 (length p.tokens) =
    λ n less. (s.each n (omega (arith, p.all, less)), lines n (omega (arith, p.all, less)))
    in
    let count : length p.tokens ≡ length q.tokens = omega (arith, p.all, q.all, s.count) in
    by_views g ls bounds.0 bounds.1 xs p
    ∙ (ap (λ l. from_first (flat_map ended l)) (lines_same g k ls others bounds.0 there.0 p.tokens q.tokens count each p.tokens_are q.tokens_are)
    ∙ sym (by_views k others there.0 there.1 ys q))

-- ---- an item, the head and the names, by placed items

module _ {A B : Type 0} (f : A → B) where
  map_contains : (xs : List A) (x : A) (n : ℕ) → n < length xs → slice_index_or xs n x ≡ x → Contains (map f xs) (f x)
  map_contains [] x n lt e = absurd (omega (arith, lt))
  map_contains (y ∷ xs) x zero lt e = (0, omega arith, ap f e)
  map_contains (y ∷ xs) x (suc n) lt e = let h = map_contains xs x n (omega arith) e in (suc h.0, omega (arith, h.1), h.2)

  map_back : (xs : List A) (y : B) (n : ℕ) → n < length (map f xs) → slice_index_or (map f xs) n y ≡ y → (x : A) × Contains xs x × (f x ≡ y)
  map_back [] y n lt e = absurd (omega (arith, lt))
  map_back (x ∷ xs) y zero lt e = (x, (0, omega arith, refl), e)
  map_back (x ∷ xs) y (suc n) lt e = let h = map_back xs y n (omega arith) e in (h.0, (suc h.1.0, omega (arith, h.1.1), h.1.2), h.2)

  pub get_by : (o : Option A) (y : B) → option_map f o ≡ Some y → (x : A) × (o ≡ Some x) × (f x ≡ y)
  get_by None y e = absurd (cc)
  get_by (Some x) y e = (x, refl, cc)

-- what one list has stands in the other, if f makes of one what h makes of the other
pub one_there : {A B : Type 0} (f h : A → B) (xs ys : List A) (x : A) → map f xs ≡ map h ys → Contains xs x → (y : A) × Contains ys y × (h y ≡ f x)
one_there f h xs ys x e c =
    let there : Contains (map h ys) (f x) = subst (λ l. Contains l (f x)) e (map_contains f xs x c.0 c.1 c.2) in
    map_back h ys (f x) there.0 there.1 there.2

-- a head's text, its place, and whether it adds
abbrev Told : Type 0
Told = Text × Place × Bool

abbrev placed_head : List Placed → Option Told
placed_head (x ∷ y ∷ xs) = if is_name_kind x.0 && is_defined_as y.0 then Some (x.1, x.3, is_adds y.0) else None
placed_head _ = None

abbrev placed_named : Bool → Placed → List Named
placed_named defines x = if is_name_kind x.0 then record { text = x.1; place = x.3; defines = defines } ∷ [] else []

abbrev placed_use : Kind → Placed → List Named
placed_use before x = if not x.2 && (is_bad before || is_number_kind before) then [] else placed_named false x

abbrev placed_uses : Kind → List Placed → List Named
placed_uses before [] = []
placed_uses before (x ∷ xs) = placed_use before x ++ placed_uses x.0 xs

abbrev placed_places : List Placed → List Named
placed_places [] = []
placed_places (x ∷ xs) = placed_named (is_some (placed_head (x ∷ xs))) x ++ placed_uses x.0 xs

module _ (g : ℕ → ℕ) where
  abbrev pub told_head : Head → Text × Place × Bool
  told_head head = (head.name.text.now, place_by g same (place_of head.name), head.adds)

  abbrev pub named_by : Named → Named
  named_by n = record { text = n.text; place = place_by g same n.place; defines = n.defines }

  head_if : (b : Bool) (head : Head) → option_map told_head (if b then Some head else None) ≡ (if b then Some (told_head head) else None)
  head_if true head = refl
  head_if false head = refl

  head_is : (xs : List Item) → option_map told_head (head_of xs) ≡ placed_head (map (placed g same) xs)
  head_is [] = refl
  head_is (x ∷ []) = refl
  head_is (x ∷ y ∷ xs) = head_if (is_name_kind (kind_of x) && is_defined_as (kind_of y)) _

  some_told : (o : Option Head) → is_some o ≡ is_some (option_map told_head o)
  some_told None = refl
  some_told (Some head) = refl

  named_if : (b : Bool) (n : Named) → map named_by (if b then n ∷ [] else []) ≡ (if b then named_by n ∷ [] else [])
  named_if true n = refl
  named_if false n = refl

  named_is : (defines : Bool) (x : Item) → map named_by (named defines x) ≡ placed_named defines (placed g same x)
  named_is defines x = named_if (is_name_kind (kind_of x)) _

  use_if : (b : Bool) (ns : List Named) → map named_by (if b then [] else ns) ≡ (if b then [] else map named_by ns)
  use_if true ns = refl
  use_if false ns = refl

  use_is : (before : Kind) (x : Item) → map named_by (use_after before x) ≡ placed_use before (placed g same x)
  use_is before x = use_if (is_touched before x) (named false x) ∙ (λ i. if is_touched before x then [] else named_is false x i)

  uses_are : (before : Kind) (xs : List Item) → map named_by (uses_after before xs) ≡ placed_uses before (map (placed g same) xs)
  uses_are before [] = refl
  uses_are before (x ∷ xs) = map-append named_by (use_after before x) (uses_after (kind_of x) xs) ∙ (λ i. use_is before x i ++ uses_are (kind_of x) xs i)

  places_are : (xs : List Item) → map named_by (places_in xs) ≡ placed_places (map (placed g same) xs)
  places_are [] = refl
  places_are (x ∷ xs) =
      let some : is_some (head_of (x ∷ xs)) ≡ is_some (placed_head (map (placed g same) (x ∷ xs))) =
      some_told (head_of (x ∷ xs)) ∙ ap is_some (head_is (x ∷ xs))
      in
      map-append named_by (named (is_some (head_of (x ∷ xs))) x) (uses_after (kind_of x) xs)
      ∙ (λ i. (named_is (is_some (head_of (x ∷ xs))) x ∙ ap (λ b. placed_named b (placed g same x)) some) i ++ uses_are (kind_of x) xs i)

module _ (g k : ℕ → ℕ) (xs ys : List Item) (e : map (placed g same) xs ≡ map (placed k same) ys) where
  pub item_there : (x : Item) → Contains xs x → (y : Item) × Contains ys y × (placed k same y ≡ placed g same x)
  item_there x c = one_there (placed g same) (placed k same) xs ys x e c

  pub head_there : (head : Head) → head_of xs ≡ Some head → (other : Head) × (head_of ys ≡ Some other) × (told_head k other ≡ told_head g head)
  head_there head is = get_by (told_head k) (head_of ys) (told_head g head) (head_is k ys ∙ (ap placed_head (sym e) ∙ (sym (head_is g xs) ∙ ap (option_map (told_head g)) is)))

  pub named_there : (n : Named) → Contains (places_in xs) n → (m : Named) × Contains (places_in ys) m × (named_by k m ≡ named_by g n)
  named_there n c =
      one_there (named_by g) (named_by k) (places_in xs) (places_in ys) n (places_are g xs ∙ (ap placed_places e ∙ sym (places_are k ys))) c
