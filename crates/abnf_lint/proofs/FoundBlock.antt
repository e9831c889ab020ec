-- What is found in a block are the rows that hold of it by what is known of it.
use Rattle.std.proofs.Common.{◌≡◌, ℕ, Bool, true, false, List, [], ◌∷◌, ◌++◌, inl, inr, Option, Some, None, Result, Ok, Err, refl, sym, ap, subst, ◌∙◌}
use Rattle.std.specs.Prelude.{◌↔◌, ◌&&◌, Contains, if◌then◌else◌}
use Rattle.std.specs.Option.{is_some, option_map_or}
use Rattle.std.proofs.lemmas.List.Elements.{Contains-append_cases, Contains-append_left, Contains-append_right}
use Rattle.ls_text.specs.declared.position.Place.{Place}
use Rattle.abnf_token.specs.declared.token.Kind.TheVariants as k
use Rattle.abnf_token.specs.Folded.{lowercase}
use Rattle.abnf_syntax.specs.declared.block.Head.{Head}
use Rattle.abnf_syntax.specs.declared.item.Item.{Item}
use Rattle.abnf_syntax.specs.declared.fault.SyntaxFault.{SyntaxFault}
use Rattle.abnf_syntax.specs.declared.fault.SyntaxFault.TheVariants as f
use Rattle.abnf_syntax.specs.declared.tree.Rule.{Rule}
use Rattle.abnf_syntax.specs.Grammar.{Derives, defined_as, kind_of}
use Rattle.abnf_syntax.specs.Kinds.{is_adds, is_defined_as, is_name_kind}
use Rattle.abnf_syntax.specs.Faults.{place_of}
use Rattle.abnf_syntax.specs.Heads.{head_of}
use Rattle.abnf_parts.specs.Names.{Name}
use Rattle.abnf_names.specs.Said.{BlockSays}
use Rattle.abnf_names.specs.Places.{Named, named, places_in, uses_after}
use Rattle.abnf_names.specs.Shown.{fault_shown, HasFault}
use Rattle.abnf_lint.specs.declared.finding.Code.{Code}
use Rattle.abnf_lint.specs.declared.finding.Code.TheVariants as c
use Rattle.abnf_lint.specs.declared.finding.Finding.{Finding}
use Rattle.abnf_lint.specs.declared.told.HeadTold.{HeadTold}
use Rattle.abnf_lint.specs.Empty.{is_empty_number}
use Rattle.abnf_lint.specs.Found.{block_found, body_found, fault_found, finding_if, head_found, number_found, said_found, use_found}
use Rattle.abnf_lint.specs.Rows.{IsEmptyRange, IsEmptyRepeat, syntax_place}
use Rattle.abnf_lint.specs.Told.{HeadStands, ItemStands, RowTold}
use Rattle.abnf_lint.proofs.FoundItems.{OfNumber, empty_range_is, empty_repeat_is, finding, found_in, in_found, in_items, is_empty_of, is_turned_of, number_in, number_is, use_in, uses_define_nothing}
use Rattle.abnf_lint.proofs.Member.{in_cons, later_in, none_in, one_in}

-- ---- a block without fault begins with its head's name

record Shape (items : List Item) : Type 0 where
  first : Item
  rest : List Item
  split : items ≡ first ∷ rest
  name : kind_of first ≡ k.Name
  headed : is_some (head_of (first ∷ rest)) ≡ true

head_there : (first second : Item) (items : List Item) (a b : Bool) → is_name_kind (kind_of first) ≡ a → is_defined_as (kind_of second) ≡ b → (a && b) ≡ true →
    is_some (head_of (first ∷ second ∷ items)) ≡ true
head_there first second items a b e h both =
    let yes : (is_name_kind (kind_of first) && is_defined_as (kind_of second)) ≡ true = (λ i. e i && h i) ∙ both in
    ap (λ x. is_some (if x then Some (let head : Head = record { name = first.token; adds = is_adds (kind_of second) } in head) else None)) yes

defined_by_it : (adds : Bool) → is_defined_as (defined_as adds) ≡ true
defined_by_it true = refl
defined_by_it false = refl

shape_of : (items : List Item) (rule : Rule) → Derives items rule → Shape items
shape_of items rule d = record {
  first = d.head;
  rest = d.defined ∷ d.body;
  split = d.split;
  name = d.named;
  headed = head_there d.head d.defined d.body true true (ap is_name_kind d.named) (ap is_defined_as d.adds ∙ defined_by_it rule.adds) refl;
}

shape_by : (items : List Item) (said : Result Rule SyntaxFault) → BlockSays items said → fault_shown said ≡ None → Shape items
shape_by items (Ok rule) says e = shape_of items rule says
shape_by items (Err fault) says e = absurd (cc (e))

one_by : (x b : Bool) (item : Item) (n : Named) → b ≡ true →
    Contains (if x then record { text = item.token.text.now; place = place_of item.token; defines = b } ∷ [] else []) n → n.defines ≡ true
one_by true b item n e h = ap (λ (m : Named). m.defines) (sym (one_in _ n h)) ∙ e
one_by false b item n e h = none_in n h

module _ (tell : Head → HeadTold) (strange : Name → Bool) (items : List Item) (fault : Option SyntaxFault) where
  abbrev Row : Finding → Type 0
  Row g = RowTold tell strange items fault g.place g.name g.code

  abbrev body : List Finding
  body = body_found strange items

  abbrev said : List Finding
  said = said_found strange items fault

  abbrev headed : Option Head → List Finding
  headed o = option_map_or (λ head. head_found (tell head) head) o []

  abbrev whole : List Finding
  whole = block_found tell strange items fault

  -- ---- of a fault

  of_fault : (shown : SyntaxFault) → fault ≡ Some shown → (g : Finding) → Contains (fault_found shown) g → Row g
  of_fault (f.NoName p) e g h = subst Row (in_found true (c.Syntax (f.NoName p)) p [] g h).1 (e, refl, refl)
  of_fault (f.NoDefinedAs p) e g h = subst Row (in_found true (c.Syntax (f.NoDefinedAs p)) p [] g h).1 (e, refl, refl)
  of_fault (f.BadToken p) e g h = subst Row (in_found true (c.Syntax (f.BadToken p)) p [] g h).1 (e, refl, refl)
  of_fault (f.ElementExpected p) e g h = subst Row (in_found true (c.Syntax (f.ElementExpected p)) p [] g h).1 (e, refl, refl)
  of_fault (f.BlankExpected p) e g h = subst Row (in_found true (c.Syntax (f.BlankExpected p)) p [] g h).1 (e, refl, refl)
  of_fault (f.Unclosed p) e g h = subst Row (in_found true (c.Syntax (f.Unclosed p)) p [] g h).1 (e, refl, refl)
  of_fault (f.NumberTooLarge p) e g h = subst Row (in_found true c.NumberTooLarge p [] g h).1 (e, refl)
  of_fault (f.TooDeep p) e g h = subst Row (in_found true c.TooDeep p [] g h).1 (e, refl)
  of_fault f.Memory e g h = none_in g h

  at_place : (code : Code) (p place : Place) → p ≡ place → Contains (finding_if true code p []) (finding code place [])
  at_place code p place e = subst (λ q. Contains (finding_if true code p []) (finding code q [])) e (found_in true code p [] refl)

  syntax_in : (shown : SyntaxFault) (place : Place) → syntax_place shown ≡ Some place → Contains (fault_found shown) (finding (c.Syntax shown) place [])
  syntax_in (f.NoName p) place e = at_place (c.Syntax (f.NoName p)) p place (cc e)
  syntax_in (f.NoDefinedAs p) place e = at_place (c.Syntax (f.NoDefinedAs p)) p place (cc e)
  syntax_in (f.BadToken p) place e = at_place (c.Syntax (f.BadToken p)) p place (cc e)
  syntax_in (f.ElementExpected p) place e = at_place (c.Syntax (f.ElementExpected p)) p place (cc e)
  syntax_in (f.BlankExpected p) place e = at_place (c.Syntax (f.BlankExpected p)) p place (cc e)
  syntax_in (f.Unclosed p) place e = at_place (c.Syntax (f.Unclosed p)) p place (cc e)
  syntax_in (f.NumberTooLarge p) place e = absurd (cc e)
  syntax_in (f.TooDeep p) place e = absurd (cc e)
  syntax_in f.Memory place e = absurd (cc e)

  -- ---- of items

  of_number : fault ≡ None → (item : Item) → Contains items item → (g : Finding) → OfNumber item g → Row g
  of_number sound item among g h = elim (number_is (kind_of item) (place_of item.token) item.token.text.now g h) [
    | inl n ↦ subst Row n.2
        (sound, (let stands : ItemStands items (place_of item.token) IsEmptyRepeat = record { item = item; among = among; at = refl; is = empty_repeat_is item n.0 n.1 } in stands), refl)
    | inr n ↦ subst Row n.2
        (sound, (let stands : ItemStands items (place_of item.token) IsEmptyRange = record { item = item; among = among; at = refl; is = empty_range_is item n.0 n.1 } in stands), refl)
  ]

  of_use : fault ≡ None → (n : Named) → Contains (places_in items) n → n.defines ≡ false → (g : Finding) → Contains (use_found strange n) g → Row g
  of_use sound n among plain g h =
      let e = in_found (strange (lowercase n.text)) c.Undefined n.place n.text g h in
      let is : n ≡ record { text = n.text; place = n.place; defines = false } = λ i. record { text = n.text; place = n.place; defines = plain i } in
      subst Row e.1 (sound, subst (λ m. Contains (places_in items) m) is among, e.0)

  of_body : fault ≡ None → (xs : List Item) → items ≡ xs → (g : Finding) → Contains (body_found strange xs) g → Row g
  of_body sound [] e g h = none_in g h
  of_body sound (x ∷ xs) e g h = elim (in_items strange g (kind_of x) xs h) [
    | inl u ↦ of_use sound u.0
        (subst (λ ys. Contains (places_in ys) u.0) (sym e) (Contains-append_right (named (is_some (head_of (x ∷ xs))) x) (uses_after (kind_of x) xs) u.0 u.1))
        (uses_define_nothing (kind_of x) xs u.0 u.1) g u.2
    | inr n ↦ of_number sound n.0 (subst (λ ys. Contains ys n.0) (sym e) (later_in x xs n.0 n.1)) g n.2
  ]

  of_said : (o : Option SyntaxFault) → fault ≡ o → (g : Finding) → Contains (option_map_or fault_found o body) g → Row g
  of_said None e g h = of_body e items refl g h
  of_said (Some shown) e g h = of_fault shown e g h

  -- ---- of a head

  abbrev if_head : Bool → Code → Head → List Finding
  if_head b code head = finding_if b code (place_of head.name) head.name.text.now

  abbrev stands : (head : Head) → head_of items ≡ Some head → HeadStands items (place_of head.name) head.name.text.now
  stands head e = record { head = head; heads = e; at = refl; spelled = refl }

  of_twice : (head : Head) → head_of items ≡ Some head → (g : Finding) → Contains (if_head (tell head).is_duplicate c.Duplicate head) g → Row g
  of_twice head e g h = let r = in_found (tell head).is_duplicate c.Duplicate (place_of head.name) head.name.text.now g h in subst Row r.1 (stands head e, r.0)

  of_alone : (head : Head) → head_of items ≡ Some head → (g : Finding) → Contains (if_head (tell head).has_no_base c.NoBase head) g → Row g
  of_alone head e g h = let r = in_found (tell head).has_no_base c.NoBase (place_of head.name) head.name.text.now g h in subst Row r.1 (stands head e, r.0)

  of_nothing : (head : Head) → head_of items ≡ Some head → (g : Finding) → Contains (if_head (tell head).is_unproductive c.Unproductive head) g → Row g
  of_nothing head e g h =
      let r = in_found (tell head).is_unproductive c.Unproductive (place_of head.name) head.name.text.now g h in subst Row r.1 (stands head e, r.0)

  abbrev twice : Head → List Finding
  twice head = if_head (tell head).is_duplicate c.Duplicate head

  abbrev alone : Head → List Finding
  alone head = if_head (tell head).has_no_base c.NoBase head

  abbrev nothing : Head → List Finding
  nothing head = if_head (tell head).is_unproductive c.Unproductive head

  of_head : (o : Option Head) → head_of items ≡ o → (g : Finding) → Contains (headed o) g → Row g
  of_head None e g h = none_in g h
  of_head (Some head) e g h = elim (Contains-append_cases (twice head ++ alone head) (nothing head) g h) [
    | inl l ↦ elim (Contains-append_cases (twice head) (alone head) g l) [ inl x ↦ of_twice head e g x | inr x ↦ of_alone head e g x ]
    | inr r ↦ of_nothing head e g r
  ]

  row_of : (g : Finding) → Contains whole g → Row g
  row_of g h = elim (Contains-append_cases (headed (head_of items)) said g h) [
    | inl l ↦ of_head (head_of items) refl g l
    | inr r ↦ of_said fault refl g r
  ]

  -- ---- and back

  said_in : (g : Finding) → Contains said g → Contains whole g
  said_in g h = Contains-append_right (headed (head_of items)) said g h

  faulty_in : (shown : SyntaxFault) → fault ≡ Some shown → (g : Finding) → Contains (fault_found shown) g → Contains whole g
  faulty_in shown e g h = said_in g (subst (λ o. Contains (option_map_or fault_found o body) g) (sym e) h)

  sound_in : fault ≡ None → (g : Finding) → Contains body g → Contains whole g
  sound_in e g h = said_in g (subst (λ o. Contains (option_map_or fault_found o body) g) (sym e) h)

  head_in : (head : Head) → head_of items ≡ Some head → (g : Finding) → Contains (headed (Some head)) g → Contains whole g
  head_in head e g h = Contains-append_left (headed (head_of items)) said g (subst (λ o. Contains (headed o) g) (sym e) h)

  placed : (code : Code) (place at : Place) (name spelled : List ℕ) → place ≡ at → name ≡ spelled → Contains whole (finding code at spelled) →
      Contains whole (finding code place name)
  placed code place at name spelled e h found = subst (λ p. Contains whole (finding code p name)) (sym e) (subst (λ n. Contains whole (finding code at n)) (sym h) found)

  at_head : (code : Code) (place : Place) (name : List ℕ) (h : HeadStands items place name) →
      Contains (headed (Some h.head)) (finding code (place_of h.head.name) h.head.name.text.now) →
      Contains whole (finding code place name)
  at_head code place name h found =
      placed code place (place_of h.head.name) name h.head.name.text.now h.at h.spelled (head_in h.head h.heads (finding code (place_of h.head.name) h.head.name.text.now) found)

  module _ (has : HasFault items fault) where
    shape : fault ≡ None → Shape items
    shape e = shape_by items has.said has.says (sym has.shown ∙ e)

    use_row : fault ≡ None → (n : Named) → Contains (places_in items) n → n.defines ≡ false → (g : Finding) → Contains (use_found strange n) g → Contains whole g
    use_row e n among plain g h =
        let s = shape e in
        let there : Contains (places_in (s.first ∷ s.rest)) n = subst (λ ys. Contains (places_in ys) n) s.split among in
        let heads : List Named = named (is_some (head_of (s.first ∷ s.rest))) s.first in
        let used : Contains (uses_after (kind_of s.first) s.rest) n = elim (Contains-append_cases heads (uses_after (kind_of s.first) s.rest) n there) [
          | inl l ↦ absurd (let yes : n.defines ≡ true = one_by (is_name_kind (kind_of s.first)) (is_some (head_of (s.first ∷ s.rest))) s.first n s.headed l in cc (yes, plain))
          | inr r ↦ r
        ] in
        sound_in e g (subst (λ ys. Contains (body_found strange ys) g) (sym s.split) (use_in strange g (kind_of s.first) s.rest n used h))

    number_row : fault ≡ None → (item : Item) → Contains items item → (kind_of item ≡ k.Name → ⊥) → (g : Finding) → OfNumber item g → Contains whole g
    number_row e item among other g h =
        let s = shape e in
        let behind : Contains s.rest item = elim (in_cons s.first s.rest item (subst (λ ys. Contains ys item) s.split among)) [
          | inl is ↦ absurd (other (ap kind_of (sym is) ∙ s.name))
          | inr r ↦ r
        ] in
        sound_in e g (subst (λ ys. Contains (body_found strange ys) g) (sym s.split) (number_in strange g (kind_of s.first) s.rest item behind h))

    row_in : (place : Place) (name : List ℕ) (code : Code) → RowTold tell strange items fault place name code → Contains whole (finding code place name)
    row_in place name (c.Syntax shown) row =
        placed (c.Syntax shown) place place name [] refl row.2 (faulty_in shown row.0 (finding (c.Syntax shown) place []) (syntax_in shown place row.1))
    row_in place name c.NumberTooLarge row =
        placed c.NumberTooLarge place place name [] refl row.1
        (faulty_in (f.NumberTooLarge place) row.0 (finding c.NumberTooLarge place []) (found_in true c.NumberTooLarge place [] refl))
    row_in place name c.TooDeep row =
        placed c.TooDeep place place name [] refl row.1 (faulty_in (f.TooDeep place) row.0 (finding c.TooDeep place []) (found_in true c.TooDeep place [] refl))
    row_in place name c.Undefined row =
        use_row row.0 (record { text = name; place = place; defines = false }) row.1 refl (finding c.Undefined place name)
        (found_in (strange (lowercase name)) c.Undefined place name row.2)
    row_in place name c.Duplicate row =
        let head = row.0.head in
        let g = finding c.Duplicate (place_of head.name) head.name.text.now in
        at_head c.Duplicate place name row.0 (Contains-append_left (twice head ++ alone head) (nothing head) g
        (Contains-append_left (twice head) (alone head) g (found_in (tell head).is_duplicate c.Duplicate (place_of head.name) head.name.text.now row.1)))
    row_in place name c.NoBase row =
        let head = row.0.head in
        let g = finding c.NoBase (place_of head.name) head.name.text.now in
        at_head c.NoBase place name row.0 (Contains-append_left (twice head ++ alone head) (nothing head) g
        (Contains-append_right (twice head) (alone head) g (found_in (tell head).has_no_base c.NoBase (place_of head.name) head.name.text.now row.1)))
    row_in place name c.EmptyRepeat row =
        let item = row.1.item in
        let at = place_of item.token in
        let g = finding c.EmptyRepeat at [] in
        let kind : kind_of item ≡ k.Repeat = row.1.is.repeat in
        placed c.EmptyRepeat place at name [] row.1.at row.2
        (number_row row.0 item row.1.among (λ e. let clash : k.Name ≡ k.Repeat = sym e ∙ kind in cc clash) g
        (subst (λ x. Contains (number_found x at item.token.text.now) g) (sym kind)
        (found_in (is_empty_number k.Repeat item.token.text.now) c.EmptyRepeat at [] (is_empty_of item row.1.is))))
    row_in place name c.EmptyRange row =
        let item = row.1.item in
        let at = place_of item.token in
        let g = finding c.EmptyRange at [] in
        let kind : kind_of item ≡ k.Number = row.1.is.number in
        placed c.EmptyRange place at name [] row.1.at row.2
        (number_row row.0 item row.1.among (λ e. let clash : k.Name ≡ k.Number = sym e ∙ kind in cc clash) g
        (subst (λ x. Contains (number_found x at item.token.text.now) g) (sym kind)
        (found_in (is_empty_number k.Number item.token.text.now) c.EmptyRange at [] (is_turned_of item row.1.is))))
    row_in place name c.Unproductive row =
        let head = row.0.head in
        let g = finding c.Unproductive (place_of head.name) head.name.text.now in
        at_head c.Unproductive place name row.0 (Contains-append_right (twice head ++ alone head) (nothing head) g
        (found_in (tell head).is_unproductive c.Unproductive (place_of head.name) head.name.text.now row.1))

    pub found_are : (found : Finding) → Contains (block_found tell strange items fault) found ↔ RowTold tell strange items fault found.place found.name found.code
    found_are found = (row_of found, row_in found.place found.name found.code)
