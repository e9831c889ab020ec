-- Blocks of which no row of the table holds: they show no fault and have no findings of their own. So no row holds of a block that has
-- the same digest, where it is so of that block too.
use Rattle.std.proofs.Common.{◌≡◌, ◌↔◌, ◌⊎◌, inl, inr, ℕ, Bool, true, false, not, List, [], ◌∷◌, map, Option, Some, None, option_map, Result, Ok, Err, refl, sym, ap, subst, ◌∙◌}
use Rattle.std.specs.Prelude.{◌||◌, Contains, filter, if◌then◌else◌}
use Rattle.std.specs.List.{list_any, AllByRecursion}
use Rattle.std.specs.Option.{is_some}
use Rattle.std.proofs.lemmas.Bool.{not-true, or_from, or_parts}
use Rattle.std.proofs.lemmas.List.Folds.{list_any_at}
use Rattle.std.proofs.lemmas.Option.{none-some, same_Some}
use Rattle.ls_text.specs.declared.position.Place.{Place}
use Rattle.abnf_token.specs.declared.token.Kind.{Kind}
use Rattle.abnf_token.specs.declared.token.Kind.TheVariants.{Repeat, Number}
use Rattle.abnf_token.specs.declared.token.Token.{Token}
use Rattle.abnf_token.specs.Folded.{lowercase}
use Rattle.abnf_syntax.specs.declared.block.Head.{Head}
use Rattle.abnf_syntax.specs.declared.fault.SyntaxFault.{SyntaxFault}
use Rattle.abnf_syntax.specs.declared.fault.SyntaxFault.TheVariants as f
use Rattle.abnf_syntax.specs.declared.item.Item.{Item}
use Rattle.abnf_syntax.specs.declared.tree.Rule.{Rule}
use Rattle.abnf_syntax.specs.Faults.{FaultRow, last_of, least, open_from, place_after, place_of, rows_of, shown}
use Rattle.abnf_syntax.specs.Grammar.{kind_of}
use Rattle.abnf_syntax.specs.Heads.{head_of}
use Rattle.abnf_syntax.specs.Kinds.{is_defined_as, is_name_kind}
use Rattle.abnf_parts.specs.Names.{Name, rule_number}
use Rattle.abnf_names.specs.Said.{Block, BlockSays, name_of}
use Rattle.abnf_names.specs.Places.{Named, places_in}
use Rattle.abnf_names.specs.Rules.{adds, head_name, names_of, rules_of}
use Rattle.abnf_names.specs.Shown.{fault_shown}
use Rattle.abnf_lint.specs.declared.finding.Code.{Code}
use Rattle.abnf_lint.specs.declared.finding.Code.TheVariants as c
use Rattle.abnf_lint.specs.Rows.{AnyBases, AnyDefines, HasHead, HasItem, HasNoFault, IsEmptyRange, IsEmptyRepeat, RowHolds}
use Rattle.abnf_lint.specs.Unproductive.{IsUnproductive}
use Rattle.abnf_lint.proofs.FoundItems.{empty_range_is, empty_repeat_is, is_empty_of, is_turned_of}
use Rattle.abnf_lint.proofs.Member.{filter_in, first_in, in_cons, in_filter, later_in, none_in}
use Rattle.abnf_lint.specs.Empty.{is_empty_number}
use Rattle.abnf_digests.specs.Digests.{Digest, head_digest, head_name_by, adds_by, used_names, digest_of}
use Rattle.abnf_digests.specs.Quiet.{has_own_findings}
use Rattle.abnf_digests.proofs.Heads.{adds_is, name_is}

-- ---- members

module _ {A B : Type 0} (f : A → B) where
  pub map_in : (xs : List A) (x : A) → Contains xs x → Contains (map f xs) (f x)
  map_in [] x h = none_in x h
  map_in (y ∷ xs) x h = elim (in_cons y xs x h) [
    | inl e ↦ subst (λ z. Contains (f y ∷ map f xs) z) (ap f e) (first_in (f y) (map f xs))
    | inr k ↦ later_in (f y) (map f xs) (f x) (map_in xs x k)
  ]

  pub in_map : (xs : List A) (y : B) → Contains (map f xs) y → (x : A) × Contains xs x × (f x ≡ y)
  in_map [] y h = none_in y h
  in_map (x ∷ xs) y h = elim (in_cons (f x) (map f xs) y h) [
    | inl e ↦ (x, first_in x xs, e)
    | inr k ↦ let r = in_map xs y k in (r.0, later_in x xs r.0 r.1, r.2)
  ]

module _ {A : Type 0} (p : A → Bool) where
  some_passes : (xs : List A) → list_any p xs ≡ true → (x : A) × Contains xs x × (p x ≡ true)
  some_passes [] e = absurd (cc e)
  some_passes (x ∷ xs) e = by (p x) refl e (λ k. some_passes xs k)
    where
      by : (b : Bool) → p x ≡ b → (b || list_any p xs) ≡ true
          → (list_any p xs ≡ true → (z : A) × Contains xs z × (p z ≡ true)) → (z : A) × Contains (x ∷ xs) z × (p z ≡ true)
      by true h k rest = (x, first_in x xs, h)
      by false h k rest = let r = rest k in (r.0, later_in x xs r.0 r.1, r.2)

  passes_some : (xs : List A) (x : A) → Contains xs x → p x ≡ true → list_any p xs ≡ true
  passes_some xs x h e = list_any_at p xs h.0 x h.1 (ap p h.2 ∙ e)

-- ---- the fault of a block has a place

abbrev IsPlaced : SyntaxFault → Type 0
IsPlaced f.Memory = ⊥
IsPlaced fault = Unit {0}

least_placed : (rows : List FaultRow) (fault : SyntaxFault) → AllByRecursion (λ (row : FaultRow). IsPlaced row.1) rows → least rows ≡ Some fault → IsPlaced fault
least_placed [] fault all is = absurd (none-some fault is)
least_placed (row ∷ rows) fault all is = by row.0 is (λ e. least_placed rows fault all.1 e)
  where
    by : (b : Bool) → (if b then Some row.1 else least rows) ≡ Some fault → (least rows ≡ Some fault → IsPlaced fault) → IsPlaced fault
    by true e more = subst IsPlaced (same_Some row.1 fault e) all.0
    by false e more = more e

rows_placed : (last : Item) (brackets : List Token) (rest : List Item) → AllByRecursion (λ (row : FaultRow). IsPlaced row.1) (rows_of last brackets rest)
rows_placed last brackets [] = (tt, (tt, tt))
rows_placed last brackets (item ∷ rest) = (tt, (tt, (tt, (tt, (tt, (tt, (tt, (tt, (tt, tt)))))))))

none_or : (b : Bool) (x fault : SyntaxFault) → IsPlaced x → (if b then None else Some x) ≡ Some fault → IsPlaced fault
none_or true x fault h is = absurd (none-some fault is)
none_or false x fault h is = subst IsPlaced (same_Some x fault is) h

shown_placed : (front rest : List Item) (fault : SyntaxFault) → shown front rest ≡ Some fault → IsPlaced fault
shown_placed [] [] fault is = absurd (none-some fault is)
shown_placed [] (item ∷ rest) fault is = none_or (is_name_kind (kind_of item)) (f.NoName (place_of item.token)) fault tt is
shown_placed (head ∷ []) [] fault is = subst IsPlaced (same_Some (f.NoDefinedAs (place_after head.token)) fault is) tt
shown_placed (head ∷ []) (item ∷ rest) fault is = none_or (is_defined_as (kind_of item)) (f.NoDefinedAs (place_of item.token)) fault tt is
shown_placed (head ∷ defined ∷ body) rest fault is =
    least_placed (rows_of (last_of defined body) (open_from [] body) rest) fault (rows_placed (last_of defined body) (open_from [] body) rest) is

-- ---- no row holds of the block

abbrev pub HasNoRow : List Block → List Block → Block → Type 0
HasNoRow blocks before block = (place : Place) (name : List ℕ) (code : Code) → RowHolds blocks before block place name code → ⊥

abbrev is_empty_item : Item → Bool
is_empty_item item = is_empty_number (kind_of item) item.token.text.now

empty_by : (kind : Kind) (item : Item) → kind_of item ≡ kind → is_empty_number kind item.token.text.now ≡ true → IsEmptyRepeat item ⊎ IsEmptyRange item
empty_by Repeat item k e = inl (empty_repeat_is item k e)
empty_by Number item k e = inr (empty_range_is item k e)
empty_by _ item k e = absurd (cc e)

repeat_is_empty : (item : Item) → IsEmptyRepeat item → is_empty_item item ≡ true
repeat_is_empty item h = ap (λ kind. is_empty_number kind item.token.text.now) h.repeat ∙ is_empty_of item h

range_is_empty : (item : Item) → IsEmptyRange item → is_empty_item item ≡ true
range_is_empty item h = ap (λ kind. is_empty_number kind item.token.text.now) h.number ∙ is_turned_of item h

none_shown : (said : Result Rule SyntaxFault) → fault_shown said ≡ None → (fault : SyntaxFault) → said ≡ Err fault → ⊥
none_shown said e fault is = let k : None ≡ Some fault = sym e ∙ ap fault_shown is in none-some fault k

sound_by : (said : Result Rule SyntaxFault) → fault_shown said ≡ None → (rule : Rule) × (said ≡ Ok rule)
sound_by (Ok rule) e = (rule, refl)
sound_by (Err fault) e = absurd (cc e)

module _ (blocks before : List Block) (block : Block) (none : HasNoRow blocks before block) where
  fault_row : (fault : SyntaxFault) → block.said ≡ Err fault → IsPlaced fault → ⊥
  fault_row (f.NoName p) e h = none p [] (c.Syntax (f.NoName p)) (e, refl, refl)
  fault_row (f.NoDefinedAs p) e h = none p [] (c.Syntax (f.NoDefinedAs p)) (e, refl, refl)
  fault_row (f.BadToken p) e h = none p [] (c.Syntax (f.BadToken p)) (e, refl, refl)
  fault_row (f.ElementExpected p) e h = none p [] (c.Syntax (f.ElementExpected p)) (e, refl, refl)
  fault_row (f.BlankExpected p) e h = none p [] (c.Syntax (f.BlankExpected p)) (e, refl, refl)
  fault_row (f.Unclosed p) e h = none p [] (c.Syntax (f.Unclosed p)) (e, refl, refl)
  fault_row (f.NumberTooLarge p) e h = none p [] c.NumberTooLarge (e, refl)
  fault_row (f.TooDeep p) e h = none p [] c.TooDeep (e, refl)
  fault_row f.Memory e h = h

  none_by : (said : Result Rule SyntaxFault) → block.said ≡ said → BlockSays block.items said → fault_shown said ≡ None
  none_by (Ok rule) e says = refl
  none_by (Err fault) e says = absurd (fault_row fault e (shown_placed says.front says.rest fault says.shows))

  pub no_fault_shown : BlockSays block.items block.said → fault_shown block.said ≡ None
  no_fault_shown says = none_by block.said refl says

  empty_row : HasNoFault block → (item : Item) → Contains block.items item → IsEmptyRepeat item ⊎ IsEmptyRange item → ⊥
  empty_row sound item among (inl h) =
      let has : HasItem block (place_of item.token) IsEmptyRepeat = record { item = item; among = among; at = refl; is = h } in
      none (place_of item.token) [] c.EmptyRepeat (sound, has, refl)
  empty_row sound item among (inr h) =
      let has : HasItem block (place_of item.token) IsEmptyRange = record { item = item; among = among; at = refl; is = h } in
      none (place_of item.token) [] c.EmptyRange (sound, has, refl)

  no_empty : HasNoFault block → (b : Bool) → list_any is_empty_item block.items ≡ b → b ≡ false
  no_empty sound true e =
      let k = some_passes is_empty_item block.items e in
      absurd (empty_row sound k.0 k.1 (empty_by (kind_of k.0) k.0 refl k.2))
  no_empty sound false e = refl

  pub no_own_findings : fault_shown block.said ≡ None → has_own_findings block ≡ false
  no_own_findings e =
      or_from (is_some (fault_shown block.said)) (list_any is_empty_item block.items) (ap is_some e)
      (no_empty (sound_by block.said e) (list_any is_empty_item block.items) refl)

-- ---- blocks with the same digests define the same names

module _ (bs cs : List Block) (e : map digest_of bs ≡ map digest_of cs) where
  same_digest : (block : Block) → Contains bs block → (other : Block) × Contains cs other × (digest_of other ≡ digest_of block)
  same_digest block h = in_map digest_of cs (digest_of block) (subst (λ (l : List Digest). Contains l (digest_of block)) e (map_in digest_of bs block h))

  same_name : (block other : Block) → digest_of other ≡ digest_of block → head_name other ≡ head_name block
  same_name block other d = sym (name_is other) ∙ (ap head_name_by d ∙ name_is block)

  same_adds : (block other : Block) → digest_of other ≡ digest_of block → adds other ≡ adds block
  same_adds block other d = sym (adds_is other) ∙ (ap adds_by d ∙ adds_is block)

  pub defines_too : (name : Name) → AnyDefines bs name → AnyDefines cs name
  defines_too name h = let o = same_digest h.0 h.1 in (o.0, o.1, same_name h.0 o.0 o.2 ∙ h.2)

  pub bases_too : (name : Name) → AnyBases bs name → AnyBases cs name
  bases_too name h = let o = same_digest h.0 h.1 in (o.0, o.1, same_name h.0 o.0 o.2 ∙ h.2, same_adds h.0 o.0 o.2 ∙ h.3)

-- ---- no row holds of a block with the same digest

head_back : (o : Option Head) (head : Head) → option_map head_digest o ≡ Some (head_digest head)
    → (h : Head) × (o ≡ Some h) × (name_of h ≡ name_of head) × (h.adds ≡ head.adds)
head_back None head e = absurd (cc e)
head_back (Some h) head e =
    let k : head_digest h ≡ head_digest head = same_Some (head_digest h) (head_digest head) e in
    (h, refl, ap (λ (p : Name × Bool). p.0) k, ap (λ (p : Name × Bool). p.1) k)

abbrev is_use : Named → Bool
is_use place = not place.defines

abbrev used_name : Named → Name
used_name place = lowercase place.text

-- Both show no fault, and neither or both have findings of their own.
pub record AreAlike (block other : Block) : Type 0 where
  pub digests : digest_of block ≡ digest_of other
  pub quiet : fault_shown block.said ≡ None
  pub other_quiet : fault_shown other.said ≡ None
  pub own : has_own_findings block ≡ has_own_findings other

module _ (blocks before fresh earlier : List Block) (block other : Block) (alike : AreAlike block other) (names : names_of blocks ≡ names_of fresh)
    (idle : (r : ℕ) → IsUnproductive (rules_of blocks) r ↔ IsUnproductive (rules_of fresh) r)
    (heads : map digest_of before ≡ map digest_of earlier) (none : HasNoRow blocks before block) where
  sound : HasNoFault block
  sound = sound_by block.said alike.quiet

  -- the block uses the names that the other uses
  use_back : (n : Named) → Contains (places_in other.items) n → n.defines ≡ false →
      (m : Named) × Contains (places_in block.items) (record { text = m.text; place = m.place; defines = false }) × (lowercase m.text ≡ lowercase n.text)
  use_back n h plain =
      let kept = filter_in is_use (places_in other.items) n h (ap not plain) in
      let used : Contains (used_names (places_in other.items)) (lowercase n.text) = map_in used_name (filter is_use (places_in other.items)) n kept in
      let there : Contains (used_names (places_in block.items)) (lowercase n.text) = subst (λ (d : Digest). Contains d.uses (lowercase n.text)) (sym alike.digests) used in
      let m = in_map used_name (filter is_use (places_in block.items)) (lowercase n.text) there in
      let k = in_filter is_use (places_in block.items) m.0 m.1 in
      let plain_too : m.0.defines ≡ false = not-true m.0.defines k.1 in
      let is : m.0 ≡ record { text = m.0.text; place = m.0.place; defines = false } = (λ i. record { text = m.0.text; place = m.0.place; defines = plain_too i }) in
      (m.0, subst (λ z. Contains (places_in block.items) z) is k.0, m.2)

  -- the block has such a head as the other has
  record Headed (head : Head) : Type 0 where
    own : Head
    has : HasHead block (place_of own.name) own.name.text.now own
    name : name_of own ≡ name_of head
    adds_too : own.adds ≡ head.adds

  headed : (head : Head) → head_of other.items ≡ Some head → Headed head
  headed head e =
      let same : option_map head_digest (head_of block.items) ≡ option_map head_digest (head_of other.items) = ap (λ (d : Digest). d.head) alike.digests in
      let h = head_back (head_of block.items) head (same ∙ ap (option_map head_digest) e) in
      record { own = h.0; has = record { heads = h.1; at = refl; spelled = refl }; name = h.2; adds_too = h.3 }

  not_empty : (item : Item) → Contains other.items item → is_empty_item item ≡ true → ⊥
  not_empty item h e =
      let no : has_own_findings other ≡ false = sym alike.own ∙ no_own_findings blocks before block none alike.quiet in
      let nothing : list_any is_empty_item other.items ≡ false = (or_parts (is_some (fault_shown other.said)) (list_any is_empty_item other.items) no).1 in
      let some : list_any is_empty_item other.items ≡ true = passes_some is_empty_item other.items item h e in
      cc (nothing, some)

  pub no_row_too : HasNoRow fresh earlier other
  no_row_too place name (c.Syntax fault) row = none_shown other.said alike.other_quiet fault row.0
  no_row_too place name c.NumberTooLarge row = none_shown other.said alike.other_quiet (f.NumberTooLarge place) row.0
  no_row_too place name c.TooDeep row = none_shown other.said alike.other_quiet (f.TooDeep place) row.0
  no_row_too place name c.Undefined row =
      let m = use_back (record { text = name; place = place; defines = false }) row.1 refl in
      let unknown : rule_number (names_of blocks) (lowercase m.0.text) ≡ None = (λ i. rule_number (names i) (m.2 i)) ∙ row.2 in
      none m.0.place m.0.text c.Undefined (sound, m.1, unknown)
  no_row_too place name c.Duplicate row =
      let h = headed row.0 row.1.heads in
      let base : AnyBases before (name_of h.own) = subst (AnyBases before) (sym h.name) (bases_too earlier before (sym heads) (name_of row.0) row.3) in
      none (place_of h.own.name) h.own.name.text.now c.Duplicate (h.own, h.has, h.adds_too ∙ row.2, base)
  no_row_too place name c.NoBase row =
      let h = headed row.0 row.1.heads in
      let no_base : AnyBases before (name_of h.own) → ⊥ = λ b. row.3 (bases_too before earlier heads (name_of row.0) (subst (AnyBases before) h.name b)) in
      none (place_of h.own.name) h.own.name.text.now c.NoBase (h.own, h.has, h.adds_too ∙ row.2, no_base)
  no_row_too place name c.EmptyRepeat row = not_empty row.1.item row.1.among (repeat_is_empty row.1.item row.1.is)
  no_row_too place name c.EmptyRange row = not_empty row.1.item row.1.among (range_is_empty row.1.item row.1.is)
  no_row_too place name c.Unproductive row =
      let h = headed row.0 row.1.heads in
      let first : AnyDefines before (name_of h.own) → ⊥ = λ d. row.2 (defines_too before earlier heads (name_of row.0) (subst (AnyDefines before) h.name d)) in
      let number : rule_number (names_of blocks) (name_of h.own) ≡ Some row.3.0 = (λ i. rule_number (names i) (h.name i)) ∙ row.3.1 in
      none (place_of h.own.name) h.own.name.text.now c.Unproductive (h.own, h.has, first, (row.3.0, number, (idle row.3.0).1 row.3.2))
