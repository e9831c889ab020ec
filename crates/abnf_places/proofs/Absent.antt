-- A block has no place of a name that isn't written in it, and none that defines a name with which it doesn't begin.
use Rattle.std.proofs.Common.{◌≡◌, ℕ, suc, ◌+◌, ◌<◌, Bool, true, false, List, [], ◌∷◌, ◌++◌, length, map, filter, Option, Some, None, refl, sym, ap, subst, ◌∙◌, arith, if◌then◌else◌}
use Rattle.std.specs.Prelude.{◌&&◌, slice_index_or}
use Rattle.std.specs.List.{flat_map, list_any}
use Rattle.std.specs.Option.{is_some}
use Rattle.std.specs.Str.{bytes_eq}
use Rattle.std.proofs.lemmas.Bool.{and_parts, or_parts}
use Rattle.abnf_token.specs.Classes.{Text}
use Rattle.abnf_token.specs.Folded.{lowercase}
use Rattle.abnf_token.specs.declared.token.Kind.{Kind}
use Rattle.abnf_token.specs.declared.token.Token.{Token}
use Rattle.abnf_syntax.specs.declared.item.Item.{Item}
use Rattle.abnf_syntax.specs.Blocks.{IsBlock, is_content}
use Rattle.abnf_syntax.specs.Faults.{place_of}
use Rattle.abnf_syntax.specs.Grammar.{kind_of}
use Rattle.abnf_syntax.specs.Heads.{head_of}
use Rattle.abnf_syntax.specs.Items.{AreItems, AreTokens, items_behind, items_of, view, with_line_end}
use Rattle.abnf_syntax.specs.Kinds.{is_item, is_name_kind}
use Rattle.abnf_syntax.proofs.ContentLaws.{content_item}
use Rattle.abnf_parts.specs.Names.{Name}
use Rattle.abnf_names.specs.Places.{Named, is_touched, named, places_in, places_of_name, uses_after}
use Rattle.abnf_places.specs.declared.wanted.Wanted.{Wanted}
use Rattle.abnf_places.specs.declared.wanted.Wanted.TheVariants.{Definitions}
use Rattle.abnf_places.specs.Wanted.{is_wanted, wanted_places}
use Rattle.abnf_places.specs.own.Stated.{IsNotFirst, IsNowhere, is_token_called, begins_with_name}

module _ (name : Name) where
  -- ---- tokens and items that aren't the name

  abbrev Others : List (Option Token) → Type 0
  Others [] = Unit {0}
  Others (None ∷ ts) = Others ts
  Others (Some t ∷ ts) = (is_token_called name t ≡ false) × Others ts

  abbrev OtherPairs : List (Token × Bool) → Type 0
  OtherPairs [] = Unit {0}
  OtherPairs (p ∷ ps) = (is_token_called name p.0 ≡ false) × OtherPairs ps

  others_append : (ts us : List (Option Token)) → Others ts → Others us → Others (ts ++ us)
  others_append [] us h k = k
  others_append (None ∷ ts) us h k = others_append ts us h k
  others_append (Some t ∷ ts) us h k = (h.0, others_append ts us h.1 k)

  line_others : (ts : List Token) → list_any (is_token_called name) ts ≡ false → Others (with_line_end ts)
  line_others [] h = tt
  line_others (t ∷ ts) h = let both = or_parts (is_token_called name t) (list_any (is_token_called name) ts) h in (both.0, line_others ts both.1)

  lines_others : (ls : List Text) (at end : ℕ) (tss : List (List Token)) → at + length tss ≡ end → AreTokens ls at tss → IsNowhere ls name at end → Others (flat_map with_line_end tss)
  lines_others ls at end [] all are none = tt
  lines_others ls at end (ts ∷ tss) all are none =
      others_append (with_line_end ts) (flat_map with_line_end tss) (line_others ts (none at (omega arith) (omega (arith, all)) ts are.0))
      (lines_others ls (suc at) end tss (omega (arith, all)) are.1 (λ k from to. none k (omega arith) to))

  pairs_by : (b : Bool) (t : Token) (apart : Bool) (if_item if_none : List (Token × Bool)) → is_token_called name t ≡ false → OtherPairs if_item → OtherPairs if_none → OtherPairs (if b then (t, apart) ∷ if_item else if_none)
  pairs_by true t apart if_item if_none e h k = (e, h)
  pairs_by false t apart if_item if_none e h k = k

  behind_others : (apart : Bool) (ts : List (Option Token)) → Others ts → OtherPairs (items_behind apart ts)
  behind_others apart [] h = tt
  behind_others apart (None ∷ ts) h = behind_others true ts h
  behind_others apart (Some t ∷ ts) h = pairs_by (is_item t.kind) t apart (items_behind false ts) (items_behind true ts) h.0 (behind_others false ts h.1) (behind_others true ts h.1)

  items_others : (ts : List (Option Token)) → Others ts → OtherPairs (items_of ts)
  items_others [] h = tt
  items_others (None ∷ ts) h = items_others ts h
  items_others (Some t ∷ ts) h = pairs_by (is_item t.kind) t false (items_behind false ts) (items_of ts) h.0 (behind_others false ts h.1) (items_others ts h.1)

  -- ---- no place is the name's

  if_other : (b : Bool) (n : Named) (rest : List Named) → (b && bytes_eq name (lowercase n.text)) ≡ false → places_of_name name ((if b then n ∷ [] else []) ++ rest) ≡ places_of_name name rest
  if_other true n rest h = rw h refl
  if_other false n rest h = refl

  named_other : (defines : Bool) (item : Item) (rest : List Named) → is_token_called name item.token ≡ false → places_of_name name (named defines item ++ rest) ≡ places_of_name name rest
  named_other defines item rest h = if_other (is_name_kind (kind_of item)) (record { text = item.token.text.now; place = place_of item.token; defines = defines }) rest h

  unless_other : (b : Bool) (item : Item) (rest : List Named) → is_token_called name item.token ≡ false → places_of_name name ((if b then [] else named false item) ++ rest) ≡ places_of_name name rest
  unless_other true item rest h = refl
  unless_other false item rest h = named_other false item rest h

  uses_other : (before : Kind) (items : List Item) → OtherPairs (map view items) → places_of_name name (uses_after before items) ≡ []
  uses_other before [] h = refl
  uses_other before (item ∷ items) h = unless_other (is_touched before item) item (uses_after (kind_of item) items) h.0 ∙ uses_other (kind_of item) items h.1

  places_other : (items : List Item) → OtherPairs (map view items) → places_of_name name (places_in items) ≡ []
  places_other [] h = refl
  places_other (item ∷ items) h = named_other (is_some (head_of (item ∷ items))) item (uses_after (kind_of item) items) h.0 ∙ uses_other (kind_of item) items h.1

  -- A block in which the name isn't written has no place of it.
  pub nowhere : (ls : List Text) (first end : ℕ) (wanted : Wanted) → IsNowhere ls name first end → (items : List Item) → AreItems ls first end items → wanted_places wanted name (places_in items) ≡ []
  nowhere ls first end wanted none items are =
      ap (filter (λ (n : Named). is_wanted wanted n.defines))
      (places_other items (subst OtherPairs (sym are.items_are) (items_others (flat_map with_line_end are.tokens) (lines_others ls first end are.tokens are.all are.tokens_are none))))

  -- ---- no use defines it

  abbrev defining : List Named → List Named
  defining places = filter (λ n. n.defines) (places_of_name name places)

  use_kept : (same : Bool) (n : Named) (rest : List Named) → bytes_eq name (lowercase n.text) ≡ same → n.defines ≡ false → defining (n ∷ rest) ≡ defining rest
  use_kept true n rest is e = rw is (rw e refl)
  use_kept false n rest is e = rw is refl

  use_by : (touched b : Bool) (n : Named) (rest : List Named) → n.defines ≡ false → defining ((if touched then [] else (if b then n ∷ [] else [])) ++ rest) ≡ defining rest
  use_by true b n rest e = refl
  use_by false true n rest e = use_kept (bytes_eq name (lowercase n.text)) n rest refl e
  use_by false false n rest e = refl

  uses_define_none : (before : Kind) (items : List Item) → defining (uses_after before items) ≡ []
  uses_define_none before [] = refl
  uses_define_none before (item ∷ items) =
      use_by (is_touched before item) (is_name_kind (kind_of item)) (record { text = item.token.text.now; place = place_of item.token; defines = false }) (uses_after (kind_of item) items) refl
      ∙ uses_define_none (kind_of item) items

  abbrev OtherFirst : List (Token × Bool) → Type 0
  OtherFirst [] = Unit {0}
  OtherFirst (p ∷ ps) = is_token_called name p.0 ≡ false

  none_defined : (items : List Item) → OtherFirst (map view items) → defining (places_in items) ≡ []
  none_defined [] h = refl
  none_defined (item ∷ items) h =
      ap (filter (λ (n : Named). n.defines)) (named_other (is_some (head_of (item ∷ items))) item (uses_after (kind_of item) items) h) ∙ uses_define_none (kind_of item) items

  -- ---- the first item of a block is that of its first line

  first_by : (b : Bool) (t : Token) (called : Bool) (in_line behind rest more : List (Token × Bool)) → called ≡ is_token_called name t → (first : Bool) → (if b then called else first) ≡ false
      → 0 < length (if b then (t, false) ∷ in_line else rest) → (first ≡ false → 0 < length rest → OtherFirst more) → OtherFirst (if b then (t, false) ∷ behind else more)
  first_by true t called in_line behind rest more is first h some other = sym is ∙ h
  first_by false t called in_line behind rest more is first h some other = other h some

  first_other : (ts : List Token) (more : List (Option Token)) → begins_with_name name ts ≡ false → 0 < length (items_of (with_line_end ts ++ [])) → OtherFirst (items_of (with_line_end ts ++ more))
  first_other [] more h some = absurd (omega (arith, some))
  first_other (t ∷ ts) more h some =
      first_by (is_item t.kind) t (is_token_called name t) (items_behind false (with_line_end ts ++ [])) (items_behind false (with_line_end ts ++ more)) (items_of (with_line_end ts ++ [])) (items_of (with_line_end ts ++ more)) refl
      (begins_with_name name ts) h some (λ other here. first_other ts more other here)

  block_other : (ls : List Text) (first : ℕ) (tss : List (List Token)) → 0 < length tss → AreTokens ls first tss → is_content (slice_index_or ls first []) ≡ true → IsNotFirst ls name first → OtherFirst (items_of (flat_map with_line_end tss))
  block_other ls first [] some are content other = absurd (omega (arith, some))
  block_other ls first (ts ∷ tss) some are content other =
      first_other ts (flat_map with_line_end tss) (other ts are.0) (content_item first 0 (slice_index_or ls first []) ts [] are.0 content)

  -- A block that doesn't begin with the name has no place that defines it.
  pub not_first : (ls : List Text) (first end : ℕ) → IsBlock ls first end → IsNotFirst ls name first → (items : List Item) → AreItems ls first end items → wanted_places Definitions name (places_in items) ≡ []
  not_first ls first end block other items are =
      let content = and_parts _ _ block.begins in
      none_defined items (subst OtherFirst (sym are.items_are) (block_other ls first are.tokens (omega (arith, are.all, block.some)) are.tokens_are content.0 other))
