-- Each name, number and repeat among the items of a rule's body is said by a part of its alternatives.
use Rattle.std.proofs.Common.{◌≡◌, ◌∙◌, ◌≤◌, ℕ, zero, suc, Bool, true, false, List, [], ◌∷◌, ◌⊎◌, inl, inr, map, refl, sym, ap, subst, arith}
use Rattle.std.specs.Prelude.{Contains, Option, Some, None}
use Rattle.std.proofs.lemmas.List.Elements.{Contains-append_left, Contains-append_right}
use Rattle.abnf_token.specs.declared.token.Kind.{Kind}
use Rattle.abnf_token.specs.declared.token.Kind.TheVariants as k
use Rattle.abnf_token.specs.declared.token.Token.{Token}
use Rattle.abnf_token.specs.Folded.{lowercase}
use Rattle.abnf_syntax.specs.declared.item.Item.{Item}
use Rattle.abnf_syntax.specs.declared.tree.Element.{Element, out-Element}
use Rattle.abnf_syntax.specs.declared.tree.Element.TheVariants as e
use Rattle.abnf_syntax.specs.declared.tree.Element.TheOpen as layers
use Rattle.abnf_syntax.specs.declared.tree.Repetition.{Repetition, Repetition-F, out-roll-Repetition}
use Rattle.abnf_syntax.specs.declared.tree.Rule.{Rule}
use Rattle.abnf_syntax.specs.Grammar.{kind_of, defined_as, max_nesting, repetition, Concatenation, Alternation, IsAlternation, IsConcatenation, IsRepetition, IsElement, Derives}
use Rattle.abnf_syntax.specs.Grammar.IsAlternation.{only, or}
use Rattle.abnf_syntax.specs.Grammar.IsConcatenation.{one, and}
use Rattle.abnf_syntax.specs.Grammar.IsRepetition.{once, times}
use Rattle.abnf_syntax.specs.Grammar.IsElement.{name as is_named, quoted as is_quoted, number as is_number, prose as is_prose, group as is_group, choice as is_choice}
use Rattle.abnf_parts.specs.Part.{Part, Parts, quoted, series, span, seq, alt, rep, ref, opaque, subparts, all_subparts, parts_of}
use Rattle.abnf_parts.specs.Leaf.{repeat_limits, number_part, repeated}
use Rattle.abnf_parts.specs.Names.{Name}
use Rattle.abnf_parts.specs.Tree.{ElementLayer, join, parts, element_part, repetition_part, concatenation_part, tree_inside, alternatives}
use Rattle.abnf_parts.proofs.NameLaws.{never}
use Rattle.abnf_lint.proofs.Member.{first_in, in_cons, later_in, none_in, one_in}

-- ---- a part below others

pub below : (ps : List Part) (p x : Part) → Contains ps p → Contains (subparts p) x → Contains (all_subparts (parts ps)) x
below [] p x h c = none_in p h
below (q ∷ ps) p x h c = elim (in_cons q ps p h) [
  | inl is ↦ Contains-append_left (subparts q) (all_subparts (parts ps)) x (subst (λ r. Contains (subparts r) x) (sym is) c)
  | inr r ↦ Contains-append_right (subparts q) (all_subparts (parts ps)) x (below ps p x r c)
]

pub in_parts : (ps : List Part) (p x : Part) → Contains ps p → Contains (subparts p) x → Contains (parts_of ps) x
in_parts [] p x h c = none_in p h
in_parts (q ∷ ps) p x h c = elim (in_cons q ps p h) [
  | inl is ↦ Contains-append_left (subparts q) (parts_of ps) x (subst (λ r. Contains (subparts r) x) (sym is) c)
  | inr r ↦ Contains-append_right (subparts q) (parts_of ps) x (in_parts ps p x r c)
]

module _ (several : Parts → Part) (into : (ps : Parts) (x : Part) → Contains (all_subparts ps) x → Contains (subparts (several ps)) x) where
  joined : (ps : List Part) (p x : Part) → Contains ps p → Contains (subparts p) x → Contains (subparts (join several ps)) x
  joined [] p x h c = none_in p h
  joined (q ∷ []) p x h c = subst (λ r. Contains (subparts r) x) (sym (one_in q p h)) c
  joined (q ∷ r ∷ ps) p x h c = into (parts (q ∷ r ∷ ps)) x (below (q ∷ r ∷ ps) p x h c)

-- ---- items of which parts tell

-- an item of this kind is a name, a number or a repeat
abbrev pub is_told : Kind → Bool
is_told k.Name = true
is_told k.Number = true
is_told k.Repeat = true
is_told _ = false

other_kind : {A : Type 0} (item other : Item) (kind : Kind) → is_told (kind_of item) ≡ true → other ≡ item → kind_of other ≡ kind → is_told kind ≡ false → A
other_kind item other kind told is of_kind untold = never (is_told kind) (sym (ap is_told of_kind) ∙ (ap (λ y. is_told (kind_of y)) is ∙ told)) untold

self_in : (p : Part) → Contains (subparts p) p
self_in (quoted text exact) = first_in _ []
self_in (series characters) = first_in _ []
self_in (span low high) = first_in _ []
self_in (seq ps) = first_in _ (all_subparts ps)
self_in (alt ps) = first_in _ (all_subparts ps)
self_in (rep least most p) = first_in _ (subparts p)
self_in (ref name rule) = first_in _ []
self_in opaque = first_in _ []

-- whatever names stand for
module _ (number : Name → Option ℕ) where
  abbrev reference : Item → Part
  reference item = ref item.token.text.now (number (lowercase item.token.text.now))

  -- the part is the item's own
  abbrev pub TellsBy : Kind → Item → Part → Type 0
  TellsBy k.Name item x = x ≡ reference item
  TellsBy k.Number item x = x ≡ number_part item.token.text.now
  TellsBy k.Repeat item x = (p : Part) × (x ≡ rep (repeat_limits item.token.text.now).0 (repeat_limits item.token.text.now).1 p)
  TellsBy _ item x = Unit {0}

  -- a part below this one is the item's own
  pub record Refers (part : Part) (item : Item) : Type 0 where
    pub own : Part
    pub below : Contains (subparts part) own
    pub tells : TellsBy (kind_of item) item own

  -- one of the parts tells of the item
  abbrev pub Among : List Part → Item → Type 0
  Among ps item = (p : Part) × Contains ps p × Refers p item

  within : (p q : Part) (item : Item) → ((x : Part) → Contains (subparts p) x → Contains (subparts q) x) → Refers p item → Refers q item
  within p q item into h = record { own = h.own; below = into h.own h.below; tells = h.tells }

  -- the item is this one, of which a part tells
  itself : (it item : Item) (kind : Kind) (p : Part) → it ≡ item → kind_of it ≡ kind → TellsBy kind it p → Refers p item
  itself it item kind p same of_kind tells =
      record { own = p; below = self_in p; tells = subst (λ y. TellsBy (kind_of y) y p) same (subst (λ n. TellsBy n it p) (sym of_kind) tells) }

  abbrev part_by : (Alternation → Part) → Repetition-F Element Repetition → Part
  part_by inner layer = repeated layer.repeat (element_part number inner (out-Element layer.element))

  abbrev row : ℕ → Concatenation → List Part
  row deep c = map (repetition_part number (tree_inside number deep)) c

  abbrev rows : ℕ → Alternation → List Part
  rows deep a = map (concatenation_part number (tree_inside number deep)) a

  in_seq : (ps : List Part) (item : Item) → Among ps item → Refers (join seq ps) item
  in_seq ps item h = within h.0 (join seq ps) item (λ x c. joined seq (λ qs y d. later_in (seq qs) (all_subparts qs) y d) ps h.0 x h.1 c) h.2

  in_alt : (ps : List Part) (item : Item) → Among ps item → Refers (join alt ps) item
  in_alt ps item h = within h.0 (join alt ps) item (λ x c. joined alt (λ qs y d. later_in (alt qs) (all_subparts qs) y d) ps h.0 x h.1 c) h.2

  first_of : (p : Part) (ps : List Part) (item : Item) → Refers p item → Among (p ∷ ps) item
  first_of p ps item h = (p, first_in p ps, h)

  later_of : (p : Part) (ps : List Part) (item : Item) → Among ps item → Among (p ∷ ps) item
  later_of p ps item h = (h.0, later_in p ps h.0 h.1, h.2)

  in_repeated : (o : Option Token) (p : Part) (item : Item) → Refers p item → Refers (repeated o p) item
  in_repeated None p item h = h
  in_repeated (Some t) p item h = within p (repeated (Some t) p) item (λ x c. later_in (repeated (Some t) p) (subparts p) x c) h

  -- the repeat itself
  repeats : (it item : Item) (p : Part) → it ≡ item → kind_of it ≡ k.Repeat → Refers (repeated (Some it.token) p) item
  repeats it item p same is = itself it item k.Repeat (repeated (Some it.token) p) same is (p, refl)

  in_repetition : (o : Option Token) (x : Element) (deep : ℕ) (item : Item) → Refers (element_part number (tree_inside number deep) (out-Element x)) item
      → Refers (repetition_part number (tree_inside number deep) (repetition o x)) item
  in_repetition o x deep item h =
      subst (λ p. Refers p item) (sym (ap (part_by (tree_inside number deep)) (out-roll-Repetition (record { repeat = o; element = x }))))
      (in_repeated o (element_part number (tree_inside number deep) (out-Element x)) item h)

  counted : (repeat : Item) (x : Element) (deep : ℕ) (item : Item) → repeat ≡ item → kind_of repeat ≡ k.Repeat
      → Refers (repetition_part number (tree_inside number deep) (repetition (Some repeat.token) x)) item
  counted repeat x deep item same is =
      subst (λ p. Refers p item) (sym (ap (part_by (tree_inside number deep)) (out-roll-Repetition (record { repeat = Some repeat.token; element = x }))))
      (repeats repeat item (element_part number (tree_inside number deep) (out-Element x)) same is)

  by_layer : (x : Element) (v : ElementLayer) (deep : ℕ) (item : Item) → out-Element x ≡ v → Refers (element_part number (tree_inside number deep) v) item
      → Refers (element_part number (tree_inside number deep) (out-Element x)) item
  by_layer x v deep item is h = subst (λ w. Refers (element_part number (tree_inside number deep) w) item) (sym is) h

  -- a name that is among the first items is a part, or it is among the second
  mutual
    in_rows : {room : ℕ} {from to : List Item} {a : Alternation} → IsAlternation room from to a → (deep : ℕ) → room ≤ deep → (item : Item) → is_told (kind_of item) ≡ true
        → Contains from item → Among (rows deep a) item ⊎ Contains to item
    in_rows (only {c = c} h) deep le item told at = elim (in_row h deep le item told at) [
      | inl r ↦ inl (first_of (join seq (row deep c)) [] item (in_seq (row deep c) item r))
      | inr t ↦ inr t
    ]
    in_rows (or {mid = mid} {slash = slash} {c = c} {cs = cs} h is more) deep le item told at = elim (in_row h deep le item told at) [
      | inl r ↦ inl (first_of (join seq (row deep c)) (rows deep cs) item (in_seq (row deep c) item r))
      | inr t ↦ elim (in_cons slash mid item t) [
        | inl same ↦ other_kind item slash k.Slash told same is refl
        | inr m ↦ elim (in_rows more deep le item told m) [
          | inl r ↦ inl (later_of (join seq (row deep c)) (rows deep cs) item r)
          | inr u ↦ inr u
        ]
      ]
    ]

    in_row : {room : ℕ} {from to : List Item} {c : Concatenation} → IsConcatenation room from to c → (deep : ℕ) → room ≤ deep → (item : Item) → is_told (kind_of item) ≡ true
        → Contains from item → Among (row deep c) item ⊎ Contains to item
    in_row (one {r = r} h) deep le item told at = elim (in_part h deep le item told at) [
      | inl p ↦ inl (first_of (repetition_part number (tree_inside number deep) r) [] item p)
      | inr t ↦ inr t
    ]
    in_row (and {r = r} {rs = rs} h apart more) deep le item told at = elim (in_part h deep le item told at) [
      | inl p ↦ inl (first_of (repetition_part number (tree_inside number deep) r) (row deep rs) item p)
      | inr t ↦ elim (in_row more deep le item told t) [
        | inl p ↦ inl (later_of (repetition_part number (tree_inside number deep) r) (row deep rs) item p)
        | inr u ↦ inr u
      ]
    ]

    in_part : {room : ℕ} {from to : List Item} {r : Repetition} → IsRepetition room from to r → (deep : ℕ) → room ≤ deep → (item : Item) → is_told (kind_of item) ≡ true
        → Contains from item → Refers (repetition_part number (tree_inside number deep) r) item ⊎ Contains to item
    in_part (once {element = x} h) deep le item told at = elim (in_element h deep le item told at) [
      | inl p ↦ inl (in_repetition None x deep item p)
      | inr t ↦ inr t
    ]
    in_part (times {mid = mid} {repeat = repeat} {next = next} {element = x} is fits apart h) deep le item told at = elim (in_cons repeat (next ∷ mid) item at) [
      | inl same ↦ inl (counted repeat x deep item same is)
      | inr m ↦ elim (in_element h deep le item told m) [
        | inl p ↦ inl (in_repetition (Some repeat.token) x deep item p)
        | inr t ↦ inr t
      ]
    ]

    in_element : {room : ℕ} {from to : List Item} {x : Element} → IsElement room from to x → (deep : ℕ) → room ≤ deep → (item : Item) → is_told (kind_of item) ≡ true
        → Contains from item → Refers (element_part number (tree_inside number deep) (out-Element x)) item ⊎ Contains to item
    in_element (is_named {item = it} {to = to} is) deep le item told at = elim (in_cons it to item at) [
      | inl same ↦ inl (by_layer (e.Name it.token) (layers.Name it.token) deep item (e.outs-Name it.token) (itself it item k.Name (reference it) same is refl))
      | inr t ↦ inr t
    ]
    in_element (is_quoted {item = it} {to = to} is) deep le item told at = elim (in_cons it to item at) [
      | inl same ↦ other_kind item it k.Quoted told same is refl
      | inr t ↦ inr t
    ]
    in_element (is_number {item = it} {to = to} is fits) deep le item told at = elim (in_cons it to item at) [
      | inl same ↦ inl (by_layer (e.Number it.token) (layers.Number it.token) deep item (e.outs-Number it.token) (itself it item k.Number (number_part it.token.text.now) same is refl))
      | inr t ↦ inr t
    ]
    in_element (is_prose {item = it} {to = to} is) deep le item told at = elim (in_cons it to item at) [
      | inl same ↦ other_kind item it k.Prose told same is refl
      | inr t ↦ inr t
    ]
    in_element (is_group left h right) zero le item told at = absurd (omega arith)
    in_element (is_choice left h right) zero le item told at = absurd (omega arith)
    in_element (is_group {inner = inner} {to = to} {left = left} {right = right} {a = a} opens h closes) (suc deep) le item told at = elim (in_cons left inner item at) [
      | inl same ↦ other_kind item left k.ParenL told same opens refl
      | inr m ↦ elim (in_rows h deep (omega arith) item told m) [
        | inl r ↦ inl (by_layer (e.Group a) (layers.Group a) (suc deep) item (e.outs-Group a) (in_alt (rows deep a) item r))
        | inr t ↦ elim (in_cons right to item t) [
          | inl same ↦ other_kind item right k.ParenR told same closes refl
          | inr u ↦ inr u
        ]
      ]
    ]
    in_element (is_choice {inner = inner} {to = to} {left = left} {right = right} {a = a} opens h closes) (suc deep) le item told at = elim (in_cons left inner item at) [
      | inl same ↦ other_kind item left k.BracketL told same opens refl
      | inr m ↦ elim (in_rows h deep (omega arith) item told m) [
        | inl r ↦ inl (by_layer (e.Choice a) (layers.Choice a) (suc deep) item (e.outs-Choice a)
            (within (join alt (rows deep a)) (rep 0 (Some 1) (join alt (rows deep a))) item
            (λ x c. later_in (rep 0 (Some 1) (join alt (rows deep a))) (subparts (join alt (rows deep a))) x c) (in_alt (rows deep a) item r)))
        | inr t ↦ elim (in_cons right to item t) [
          | inl same ↦ other_kind item right k.BracketR told same closes refl
          | inr u ↦ inr u
        ]
      ]
    ]

  untold : (adds : Bool) → is_told (defined_as adds) ≡ false
  untold true = refl
  untold false = refl

  -- of a rule that items derive
  pub items_told : (items : List Item) (rule : Rule) (d : Derives items rule) (item : Item) → is_told (kind_of item) ≡ true → Contains (d.defined ∷ d.body) item
      → Among (alternatives number rule.body) item
  items_told items rule d item told at = elim (in_cons d.defined d.body item at) [
    | inl same ↦ other_kind item d.defined (defined_as rule.adds) told same d.adds (untold rule.adds)
    | inr m ↦ elim (in_rows d.alternation max_nesting (omega arith) item told m) [
      | inl r ↦ r
      | inr t ↦ none_in item t
    ]
  ]
