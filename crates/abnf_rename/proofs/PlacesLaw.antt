-- The places of a name in the items of a block are those in the lines of the block.
use Rattle.std.proofs.Common.{◌≡◌, ℕ, suc, ◌+◌, Bool, true, false, not, cond, ◌&&◌, List, [], ◌∷◌, ◌++◌, length, map, Option, Some, None, refl, sym, ap, ◌∙◌, append_assoc}
use Rattle.std.specs.Prelude.{if◌then◌else◌, slice_index_or, filter, drop}
use Rattle.std.specs.List.{flat_map}
use Rattle.std.specs.Option.{is_some}
use Rattle.std.specs.Str.{bytes_eq}
use Rattle.std.proofs.lemmas.List.{map-append}
use Rattle.std.proofs.lemmas.List.Elements.{filter-append}
use Rattle.abnf_token.proofs.Language.{and_false, and_true}
use Rattle.ls_text.specs.declared.position.Place.{Place}
use Rattle.abnf_token.specs.declared.token.Kind.{Kind}
use Rattle.abnf_token.specs.declared.token.Kind.TheVariants as k
use Rattle.abnf_token.specs.declared.token.Token.{Token}
use Rattle.abnf_token.specs.Classes.{Text}
use Rattle.abnf_token.specs.Folded.{lowercase}
use Rattle.abnf_token.specs.Tokens.{TokensOf}
use Rattle.abnf_token.specs.Renamed.{Piece, piece, touches, is_at_place}
use Rattle.abnf_syntax.specs.declared.item.Item.{Item}
use Rattle.abnf_syntax.specs.Kinds.{is_item, is_name_kind}
use Rattle.abnf_syntax.specs.Grammar.{kind_of}
use Rattle.abnf_syntax.specs.Faults.{place_of}
use Rattle.abnf_syntax.specs.Heads.{head_of}
use Rattle.abnf_syntax.specs.Items.{with_line_end, items_behind, items_of, AreTokens, AreItems, view}
use Rattle.abnf_names.specs.Places.{Named, named, use_after, uses_after, places_in, places_of_name}
use Rattle.abnf_rename.proofs.Shapes.{touched_is}

-- the places of a name in the line with this number, by its pieces from this byte on
abbrev pub line_places : Text → ℕ → ℕ → Bool → List Piece → List Place
line_places old line start touched [] = []
line_places old line start touched (p ∷ ps) =
    (if is_at_place old touched p.0 p.1 then record { line = line; start = start; end = start + length p.1 } ∷ [] else [])
    ++ line_places old line (start + length p.1) (touches p.0) ps

-- the same of lines, from this number on
abbrev pub lines_places : Text → ℕ → List (List Piece) → List Place
lines_places old at [] = []
lines_places old at (ps ∷ pss) = line_places old at 0 false ps ++ lines_places old (suc at) pss

module _ (old : Text) where
  abbrev pub the_place : Named → Place
  the_place n = n.place

  abbrev called : Named → Bool
  called n = bytes_eq old (lowercase n.text)

  -- the place of a name, where it has one
  abbrev at : Bool → Kind → Text → Place → List Place
  at touched kind text place = if is_at_place old touched kind text then place ∷ [] else []

  abbrev pair_places : Bool → List (Token × Bool) → List Place
  pair_places touched [] = []
  pair_places touched (x ∷ xs) = at (touched && not x.1) x.0.kind x.0.text.now (place_of x.0) ++ pair_places (touches x.0.kind) xs

  abbrev token_places : Bool → List (Option Token) → List Place
  token_places touched [] = []
  token_places touched (None ∷ ts) = token_places false ts
  token_places touched (Some t ∷ ts) = at touched t.kind t.text.now (place_of t) ++ token_places (touches t.kind) ts

  -- ---- places of items

  kept_one : (b : Bool) (n : Named) → map the_place (cond b (n ∷ []) []) ≡ (if b then n.place ∷ [] else [])
  kept_one true n = refl
  kept_one false n = refl

  one_kind : (kind : Kind) (text : Text) (place : Place) (touched d : Bool) →
      map the_place (filter called (if touched then [] else (if is_name_kind kind then record { text = text; place = place; defines = d } ∷ [] else []))) ≡ at touched kind text place
  one_kind k.Name text place true d = refl
  one_kind k.Name text place false d = kept_one (bytes_eq old (lowercase text)) (record { text = text; place = place; defines = d })
  one_kind kind text place true d = refl
  one_kind kind text place false d = refl

  use_place : (before : Kind) (x : Item) → map the_place (filter called (use_after before x)) ≡ at (touches before && not x.apart) (kind_of x) x.token.text.now (place_of x.token)
  use_place before x =
      ap (λ b. map the_place (filter called (if b then [] else named false x))) (touched_is before x)
      ∙ one_kind (kind_of x) x.token.text.now (place_of x.token) (touches before && not x.apart) false

  parts_place : (xs ys : List Named) → map the_place (filter called (xs ++ ys)) ≡ map the_place (filter called xs) ++ map the_place (filter called ys)
  parts_place xs ys = ap (map the_place) (filter-append called xs ys) ∙ map-append the_place (filter called xs) (filter called ys)

  uses_places : (before : Kind) (xs : List Item) → map the_place (filter called (uses_after before xs)) ≡ pair_places (touches before) (map view xs)
  uses_places before [] = refl
  uses_places before (x ∷ xs) =
      parts_place (use_after before x) (uses_after (kind_of x) xs) ∙ (λ i. use_place before x i ++ uses_places (kind_of x) xs i)

  item_places : (xs : List Item) → map the_place (filter called (places_in xs)) ≡ pair_places false (map view xs)
  item_places [] = refl
  item_places (x ∷ xs) =
      let d = is_some (head_of (x ∷ xs)) in
      parts_place (named d x) (uses_after (kind_of x) xs)
      ∙ (λ i. one_kind (kind_of x) x.token.text.now (place_of x.token) false d i ++ uses_places (kind_of x) xs i)

  -- ---- places of tokens

  if_places : (b touched : Bool) (x : Token × Bool) (xs ys : List (Token × Bool)) → pair_places touched (if b then x ∷ xs else ys) ≡ (if b then pair_places touched (x ∷ xs) else pair_places touched ys)
  if_places true touched x xs ys = refl
  if_places false touched x xs ys = refl

  by_kind : (kind : Kind) (text : Text) (place : Place) (here : Bool) (xs ys zs : List Place) → (is_item kind ≡ true → xs ≡ zs) → (touches kind ≡ false → ys ≡ zs) →
      (if is_item kind then at here kind text place ++ xs else ys) ≡ at here kind text place ++ zs
  by_kind k.Comment text place here xs ys zs h g = g refl
  by_kind k.Blank text place here xs ys zs h g = g refl
  by_kind kind text place here xs ys zs h g = ap (λ l. at here kind text place ++ l) (h refl)

  behind_places : (apart here before : Bool) (os : List (Option Token)) → here ≡ before && not apart → pair_places before (items_behind apart os) ≡ token_places here os
  behind_places apart here before [] e = refl
  behind_places apart here before (None ∷ os) e = behind_places true false before os (sym (and_false before))
  behind_places apart here before (Some t ∷ os) e =
      if_places (is_item t.kind) before (t, apart) (items_behind false os) (items_behind true os)
      ∙ ((λ i. if is_item t.kind then at (sym e i) t.kind t.text.now (place_of t) ++ pair_places (touches t.kind) (items_behind false os) else pair_places before (items_behind true os))
      ∙ by_kind t.kind t.text.now (place_of t) here (pair_places (touches t.kind) (items_behind false os)) (pair_places before (items_behind true os)) (token_places (touches t.kind) os)
      (λ x. behind_places false (touches t.kind) (touches t.kind) os (sym (and_true (touches t.kind))))
      (λ x. behind_places true (touches t.kind) before os (x ∙ sym (and_false before))))

  first_places : (here : Bool) (os : List (Option Token)) → here ≡ false → pair_places false (items_of os) ≡ token_places here os
  first_places here [] e = refl
  first_places here (None ∷ os) e = first_places false os refl
  first_places here (Some t ∷ os) e =
      if_places (is_item t.kind) false (t, false) (items_behind false os) (items_of os)
      ∙ (ap (λ b. if is_item t.kind then at b t.kind t.text.now (place_of t) ++ pair_places (touches t.kind) (items_behind false os) else pair_places false (items_of os)) (sym e)
      ∙ by_kind t.kind t.text.now (place_of t) here (pair_places (touches t.kind) (items_behind false os)) (pair_places false (items_of os)) (token_places (touches t.kind) os)
      (λ x. behind_places false (touches t.kind) (touches t.kind) os (sym (and_true (touches t.kind))))
      (λ x. first_places (touches t.kind) os x))

  -- ---- places of lines

  line_tokens : (line start : ℕ) (left : Text) (ts : List Token) (touched : Bool) (rest : List (Option Token)) → TokensOf line start left ts →
      token_places touched (with_line_end ts ++ rest) ≡ line_places old line start touched (map piece ts) ++ token_places false rest
  line_tokens line start left [] touched rest h = refl
  line_tokens line start left (t ∷ ts) touched rest h =
      let here : place_of t ≡ record { line = line; start = start; end = start + length t.text.now } =
      (λ i. record { line = h.0.line i; start = h.0.start i; end = h.0.start i + length t.text.now })
      in
      (λ i. at touched t.kind t.text.now (here i) ++ line_tokens line (start + length t.text.now) (drop (length t.text.now) left) ts (touches t.kind) rest h.1 i)
      ∙ sym (append_assoc (at touched t.kind t.text.now (record { line = line; start = start; end = start + length t.text.now })) (line_places old line (start + length t.text.now) (touches t.kind) (map piece ts)) (token_places false rest))

  lines_tokens : (ls : List Text) (line : ℕ) (tss : List (List Token)) → AreTokens ls line tss → token_places false (flat_map with_line_end tss) ≡ lines_places old line (map (map piece) tss)
  lines_tokens ls line [] h = refl
  lines_tokens ls line (ts ∷ tss) h =
      line_tokens line 0 (slice_index_or ls line []) ts false (flat_map with_line_end tss) h.0
      ∙ ap (λ l. line_places old line 0 false (map piece ts) ++ l) (lines_tokens ls (suc line) tss h.1)

  -- The places of the name in a block are those in its lines.
  pub block_places : (ls : List Text) (from end : ℕ) (xs : List Item) (h : AreItems ls from end xs) → map the_place (places_of_name old (places_in xs)) ≡ lines_places old from (map (map piece) h.tokens)
  block_places ls from end xs h =
      item_places xs
      ∙ (ap (pair_places false) h.items_are
      ∙ (first_places false (flat_map with_line_end h.tokens) refl ∙ lines_tokens ls from h.tokens h.tokens_are))
