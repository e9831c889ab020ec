-- Digests tell the names of the rules.
use Rattle.std.proofs.Common.{◌≡◌, Bool, true, false, cond, not, List, [], ◌∷◌, ◌++◌, map, Option, Some, None, option_map, refl, sym, ap, ◌∙◌}
use Rattle.std.specs.Prelude.{if◌then◌else◌, ◌&&◌, filter, flat_map}
use Rattle.std.specs.List.{filter_map, cons_option, list_any, AllByRecursion}
use Rattle.std.specs.Option.{is_some}
use Rattle.std.specs.Str.{bytes_eq}
use Rattle.std.proofs.lemmas.Bool.{or_left, or_right}
use Rattle.std.proofs.lemmas.List.{map-append}
use Rattle.std.proofs.lemmas.List.Elements.{filter-append}
use Rattle.abnf_token.specs.Folded.{lowercase}
use Rattle.abnf_token.specs.declared.token.Kind.{Kind}
use Rattle.abnf_syntax.specs.declared.block.Head.{Head}
use Rattle.abnf_syntax.specs.declared.item.Item.{Item}
use Rattle.abnf_syntax.specs.Grammar.{kind_of}
use Rattle.abnf_syntax.specs.Faults.{place_of}
use Rattle.abnf_syntax.specs.Heads.{head_of}
use Rattle.abnf_syntax.specs.Kinds.{is_adds, is_name_kind, is_defined_as}
use Rattle.abnf_parts.specs.Names.{Name}
use Rattle.abnf_parts.specs.Core.{core_rules, core_name, is_needed}
use Rattle.abnf_parts.proofs.NameLaws.{same_refl}
use Rattle.abnf_parts.proofs.NeededLaws.{any_folded}
use Rattle.abnf_names.specs.Said.{Block, name_of}
use Rattle.abnf_names.specs.Places.{Named, is_touched, named, places_in, places_of, use_after, uses_after}
use Rattle.abnf_names.specs.Rules.{defined, head_name, undefined, needed, names_of}
use Rattle.abnf_digests.specs.Digests.{Digest, used_names, digest_of, undefined_by, needed_by, names_by}
use Rattle.abnf_digests.proofs.Heads.{defined_is}

-- ---- a place that defines has a name that is defined

abbrev lower : Named → Name
lower place = lowercase place.text

module _ (own : List Name) where
  -- the name is among these
  abbrev IsOwn : Name → Type 0
  IsOwn name = list_any (bytes_eq name) own ≡ true

  abbrev IsKnown : Named → Type 0
  IsKnown place = place.defines ≡ true → IsOwn (lower place)

  abbrev AreKnown : List Named → Type 0
  AreKnown places = AllByRecursion IsKnown places

  abbrev IsOwnHead : Option Name → Type 0
  IsOwnHead None = Unit {0}
  IsOwnHead (Some name) = IsOwn name

  both_known : (ps qs : List Named) → AreKnown ps → AreKnown qs → AreKnown (ps ++ qs)
  both_known [] qs h g = g
  both_known (p ∷ ps) qs h g = (h.0, both_known ps qs h.1 g)

  use_if : (b : Bool) (item : Item) → AreKnown (if b then record { text = item.token.text.now; place = place_of item.token; defines = false } ∷ [] else [])
  use_if true item = (λ e. absurd (cc (e)), tt)
  use_if false item = tt

  use_known : (item : Item) → AreKnown (named false item)
  use_known item = use_if (is_name_kind (kind_of item)) item

  unless_touched : (b : Bool) (item : Item) → AreKnown (if b then [] else named false item)
  unless_touched true item = tt
  unless_touched false item = use_known item

  uses_known : (before : Kind) (items : List Item) → AreKnown (uses_after before items)
  uses_known before [] = tt
  uses_known before (item ∷ items) =
      both_known (use_after before item) (uses_after (kind_of item) items) (unless_touched (is_touched before item) item) (uses_known (kind_of item) items)

  head_if : (first second : Item) (head : Head) (b c : Bool) → (if b && c then Some (record { name = first.token; adds = is_adds (kind_of second) }) else None) ≡ Some head
      → lowercase first.token.text.now ≡ name_of head
  head_if first second head true true e = let same : record { name = first.token; adds = is_adds (kind_of second) } ≡ head = cc in ap name_of same
  head_if first second head true false e = absurd (cc)
  head_if first second head false c e = absurd (cc)

  head_text : (first : Item) (items : List Item) (head : Head) → head_of (first ∷ items) ≡ Some head → lowercase first.token.text.now ≡ name_of head
  head_text first [] head e = absurd (cc)
  head_text first (second ∷ items) head e = head_if first second head (is_name_kind (kind_of first)) (is_defined_as (kind_of second)) e

  name_if : (b : Bool) (first : Item) → IsOwn (lowercase first.token.text.now) → AreKnown (if b then record { text = first.token.text.now; place = place_of first.token; defines = true } ∷ [] else [])
  name_if true first own = (λ e. own, tt)
  name_if false first own = tt

  first_known : (first : Item) (items : List Item) (o : Option Head) → head_of (first ∷ items) ≡ o → IsOwnHead (option_map name_of o) → AreKnown (named (is_some o) first)
  first_known first items None e h = use_known first
  first_known first items (Some head) e h = name_if (is_name_kind (kind_of first)) first (ap (λ name. list_any (bytes_eq name) own) (head_text first items head e) ∙ h)

  places_known : (items : List Item) → IsOwnHead (option_map name_of (head_of items)) → AreKnown (places_in items)
  places_known [] h = tt
  places_known (first ∷ items) h =
      both_known (named (is_some (head_of (first ∷ items))) first) (uses_after (kind_of first) items) (first_known first items (head_of (first ∷ items)) refl h) (uses_known (kind_of first) items)

  -- ---- so places that define can be left out

  abbrev is_strange : Name → Bool
  is_strange name = not (list_any (bytes_eq name) own)

  left_out : (name : Name) (names : List Name) → IsOwn name → filter is_strange (name ∷ names) ≡ filter is_strange names
  left_out name names known = ap (λ b. cond (not b) (name ∷ filter is_strange names) (filter is_strange names)) known

  strange_if : (b : Bool) (place : Named) (places : List Named) → place.defines ≡ b → (place.defines ≡ true → IsOwn (lower place))
      → filter is_strange (map lower places) ≡ filter is_strange (used_names places)
      → filter is_strange (lower place ∷ map lower places) ≡ filter is_strange (map lower (cond (not b) (place ∷ filter (λ p. not p.defines) places) (filter (λ p. not p.defines) places)))
  strange_if true place places e known rest = left_out (lower place) (map lower places) (known e) ∙ rest
  strange_if false place places e known rest = ap (λ l. cond (is_strange (lower place)) (lower place ∷ l) l) rest

  strange_used : (places : List Named) → AreKnown places → filter is_strange (map lower places) ≡ filter is_strange (used_names places)
  strange_used [] known = refl
  strange_used (place ∷ places) known = strange_if place.defines place places refl known.0 (strange_used places known.1)

  heads_own : (block : Block) (blocks : List Block) (o : Option Name) → AllByRecursion IsOwn (cons_option o (filter_map head_name blocks)) → IsOwnHead o × AllByRecursion IsOwn (filter_map head_name blocks)
  heads_own block blocks None all = (tt, all)
  heads_own block blocks (Some name) all = (all.0, all.1)

  pub strange_by : (blocks : List Block) → AllByRecursion IsOwn (filter_map head_name blocks) →
      filter is_strange (flat_map (λ (digest : Digest). digest.uses) (map digest_of blocks)) ≡ filter is_strange (map lower (places_of blocks))
  strange_by [] all = refl
  strange_by (block ∷ blocks) all =
      let heads = heads_own block blocks (head_name block) all in
      filter-append is_strange (used_names (places_in block.items)) (flat_map (λ (digest : Digest). digest.uses) (map digest_of blocks))
      ∙ ((λ i. sym (strange_used (places_in block.items) (places_known block.items heads.0)) i ++ strange_by blocks heads.1 i)
      ∙ (sym (filter-append is_strange (map lower (places_in block.items)) (map lower (places_of blocks)))
      ∙ ap (filter is_strange) (sym (map-append lower (places_in block.items) (places_of blocks)))))

-- ---- the names

all_among : (names others : List Name) → ((name : Name) → list_any (bytes_eq name) names ≡ true → list_any (bytes_eq name) others ≡ true) → AllByRecursion (λ name. list_any (bytes_eq name) others ≡ true) names
all_among [] others sub = tt
all_among (name ∷ names) others sub = (
  sub name (or_left (bytes_eq name name) (list_any (bytes_eq name) names) (same_refl name)),
  all_among names others (λ n h. sub n (or_right (bytes_eq n name) (list_any (bytes_eq n) names) h)),
)

heads_defined : (blocks : List Block) → AllByRecursion (λ name. list_any (bytes_eq name) (defined blocks) ≡ true) (filter_map head_name blocks)
heads_defined blocks = all_among (filter_map head_name blocks) (defined blocks) (λ name h. any_folded (bytes_eq name) [] (filter_map head_name blocks) ∙ h)

undefined_is : (blocks : List Block) → undefined_by (map digest_of blocks) ≡ undefined blocks
undefined_is blocks =
    ap (λ own. filter (λ name. not (list_any (bytes_eq name) own)) (flat_map (λ (digest : Digest). digest.uses) (map digest_of blocks))) (defined_is blocks)
    ∙ strange_by (defined blocks) blocks (heads_defined blocks)

pub needed_is : (blocks : List Block) → needed_by (map digest_of blocks) ≡ needed blocks
needed_is blocks = ap (λ names. filter (is_needed names) core_rules) (undefined_is blocks)

pub names_are : (blocks : List Block) → names_of blocks ≡ names_by (map digest_of blocks)
names_are blocks = (λ i. sym (defined_is blocks) i ++ map core_name (sym (needed_is blocks) i))
