-- What a granted rename meets.
use Rattle.std.proofs.Common.{◌≡◌, ◌⊎◌, inl, inr, Bool, true, false, not, cond, ◌&&◌, ◌||◌, List, [], ◌∷◌, ◌++◌, map, Option, Some, None, option_map, refl, sym, ap, subst, ◌∙◌}
use Rattle.std.specs.Prelude.{if◌then◌else◌, fold}
use Rattle.std.specs.List.{list_any, filter_map, cons_option, AllByRecursion}
use Rattle.std.specs.Option.{is_some}
use Rattle.std.specs.Str.{bytes_eq}
use Rattle.std.proofs.lemmas.Bool.{and_parts, or_parts}
use Rattle.abnf_token.proofs.Language.{and_true, and_false}
use Rattle.abnf_token.specs.declared.token.Kind.{Kind}
use Rattle.abnf_token.specs.declared.token.Kind.TheVariants as k
use Rattle.abnf_token.specs.Classes.{Text}
use Rattle.abnf_token.specs.Folded.{lowercase}
use Rattle.abnf_token.specs.Renamed.{touches, is_called}
use Rattle.abnf_syntax.specs.declared.item.Item.{Item}
use Rattle.abnf_syntax.specs.declared.block.Head.{Head}
use Rattle.abnf_syntax.specs.Kinds.{is_name_kind, is_defined_as}
use Rattle.abnf_syntax.specs.Grammar.{kind_of}
use Rattle.abnf_syntax.specs.Heads.{head_of}
use Rattle.abnf_syntax.specs.Faults.{place_of}
use Rattle.abnf_parts.specs.Names.{Name, with_name}
use Rattle.abnf_parts.proofs.NameLaws.{never, same_is, same_refl}
use Rattle.abnf_names.specs.Said.{Block, name_of}
use Rattle.abnf_names.specs.Places.{Named, named, is_touched, use_after, uses_after, places_in, places_of, places_of_name, is_defined}
use Rattle.abnf_names.specs.Rules.{head_name, defined}
use Rattle.abnf_rename.proofs.ItemShapes.{shape}
use Rattle.abnf_rename.proofs.SaidLaws.{AreUsed}
use Rattle.abnf_rename.proofs.Shapes.{touched_is, shape_head}
use Rattle.abnf_rename.proofs.NameLaws.{Fresh, AreFresh}
use Rattle.abnf_rename.proofs.GrammarLaws.{Used, FreshHead, AreFreshHeads}

pub all_front : {X : Type 0} (P : X → Type 0) (xs ys : List X) → AllByRecursion P (xs ++ ys) → AllByRecursion P xs
all_front P [] ys a = tt
all_front P (x ∷ xs) ys a = (a.0, all_front P xs ys a.1)

pub all_back : {X : Type 0} (P : X → Type 0) (xs ys : List X) → AllByRecursion P (xs ++ ys) → AllByRecursion P ys
all_back P [] ys a = a
all_back P (x ∷ xs) ys a = all_back P xs ys a.1

or_cases : (a b : Bool) → a || b ≡ true → (a ≡ true) ⊎ (b ≡ true)
or_cases true b e = inl refl
or_cases false b e = inr e

or_true : (a b : Bool) → (a ≡ true) ⊎ (b ≡ true) → a || b ≡ true
or_true true b h = refl
or_true false b (inl e) = never false e refl
or_true false b (inr e) = e

-- ---- the names of places are fresh

module _ (old : Name) (new : Text) where
  abbrev pub IsFreshPlace : Named → Type 0
  IsFreshPlace n = Used old new n.text

  not_called : (t : Text) → is_called (lowercase new) t ≡ false → Used old new t
  not_called t e s = never (bytes_eq (lowercase new) (lowercase t)) (ap (bytes_eq (lowercase new)) s ∙ same_refl (lowercase new)) e

  fresh_others : (ns : List Named) → list_any (λ n. is_called (lowercase new) n.text) ns ≡ false → AllByRecursion IsFreshPlace ns
  fresh_others [] e = tt
  fresh_others (n ∷ ns) e = let h = or_parts (is_called (lowercase new) n.text) _ e in (not_called n.text h.0, fresh_others ns h.1)

  fresh_same : (ns : List Named) → old ≡ lowercase new → AllByRecursion IsFreshPlace ns
  fresh_same [] e = tt
  fresh_same (n ∷ ns) e = (λ s. e, fresh_same ns e)

  pub fresh_places : (ns : List Named) (core : Bool) → not (bytes_eq (lowercase new) old) && (list_any (λ n. is_called (lowercase new) n.text) ns || core) ≡ false → AllByRecursion IsFreshPlace ns
  fresh_places ns core e = by (bytes_eq (lowercase new) old) refl e
    where
      by : (b : Bool) → bytes_eq (lowercase new) old ≡ b → not b && (list_any (λ n. is_called (lowercase new) n.text) ns || core) ≡ false → AllByRecursion IsFreshPlace ns
      by true same f = fresh_same ns (sym (same_is (lowercase new) old same))
      by false other f = fresh_others ns (or_parts (list_any (λ n. is_called (lowercase new) n.text) ns) core f).0

  pub fresh_names : (ns : List Named) → AllByRecursion IsFreshPlace ns → AreFresh old new (map (λ place. lowercase place.text) ns)
  fresh_names [] a = tt
  fresh_names (n ∷ ns) a = (a.0, fresh_names ns a.1)

  named_fresh : (d : Bool) (x : Item) → is_name_kind (kind_of x) ≡ true → AllByRecursion IsFreshPlace (named d x) → Used old new x.token.text.now
  named_fresh d x e a =
      let n : Named = record { text = x.token.text.now; place = place_of x.token; defines = d } in
      let b : AllByRecursion IsFreshPlace (n ∷ []) = subst (λ b. AllByRecursion IsFreshPlace (if b then n ∷ [] else [])) e a in
      b.0

  use_fresh : (before : Kind) (x : Item) → kind_of x ≡ k.Name → touches before && not x.apart ≡ false → AllByRecursion IsFreshPlace (use_after before x) → Used old new x.token.text.now
  use_fresh before x e t a =
      named_fresh false x (ap is_name_kind e) (subst (λ b. AllByRecursion IsFreshPlace (if b then [] else named false x)) (touched_is before x ∙ t) a)

  used_after : (before : Kind) (xs : List Item) → AllByRecursion IsFreshPlace (uses_after before xs) → AreUsed old new (Used old new) (touches before) xs
  used_after before [] a = tt
  used_after before (x ∷ xs) a = (
    λ e t. use_fresh before x e t (all_front IsFreshPlace (use_after before x) (uses_after (kind_of x) xs) a),
    used_after (kind_of x) xs (all_back IsFreshPlace (use_after before x) (uses_after (kind_of x) xs) a),
  )

  pub used_in : (xs : List Item) → AllByRecursion IsFreshPlace (places_in xs) → AreUsed old new (Used old new) false xs
  used_in [] a = tt
  used_in (x ∷ xs) a =
      let d = is_some (head_of (x ∷ xs)) in (
        λ e t. named_fresh d x (ap is_name_kind e) (all_front IsFreshPlace (named d x) (uses_after (kind_of x) xs) a),
        used_after (kind_of x) xs (all_back IsFreshPlace (named d x) (uses_after (kind_of x) xs) a),
      )

  head_if : (b : Bool) (name : Name) (d : Bool) → (b ≡ true → Fresh old new name) → FreshHead old new (if b then Some (name, d) else None)
  head_if true name d f = f refl
  head_if false name d f = tt

  head_fresh : (xs : List Item) → AllByRecursion IsFreshPlace (places_in xs) → FreshHead old new (shape_head (map shape xs))
  head_fresh [] a = tt
  head_fresh (x ∷ []) a = tt
  head_fresh (x ∷ y ∷ xs) a =
      let d = is_some (head_of (x ∷ y ∷ xs)) in
      head_if (is_name_kind (kind_of x) && is_defined_as (kind_of y)) _ _
      (λ e. named_fresh d x (and_parts (is_name_kind (kind_of x)) (is_defined_as (kind_of y)) e).0 (all_front IsFreshPlace (named d x) (uses_after (kind_of x) (y ∷ xs)) a))

  pub heads_fresh : (bs : List Block) → AllByRecursion IsFreshPlace (places_of bs) → AreFreshHeads old new bs
  heads_fresh [] a = tt
  heads_fresh (b ∷ bs) a = (head_fresh b.items (all_front IsFreshPlace (places_in b.items) (places_of bs) a), heads_fresh bs (all_back IsFreshPlace (places_in b.items) (places_of bs) a))

-- ---- a name with a defining place is defined

module _ (old : Name) where
  abbrev pub defines_old : Named → Bool
  defines_old n = n.defines && is_called old n.text

  any_append : {X : Type 0} (test : X → Bool) (xs ys : List X) → list_any test (xs ++ ys) ≡ list_any test xs || list_any test ys
  any_append test [] ys = refl
  any_append test (x ∷ xs) ys = ap (λ b. test x || b) (any_append test xs ys) ∙ assoc (test x) (list_any test xs) (list_any test ys)
    where
      assoc : (a b c : Bool) → a || (b || c) ≡ (a || b) || c
      assoc true b c = refl
      assoc false b c = refl

  no_use : (t b : Bool) (n : Named) → n.defines ≡ false → list_any defines_old (if t then [] else (if b then n ∷ [] else [])) ≡ false
  no_use true b n e = refl
  no_use false true n e = ap (λ d. (d && is_called old n.text) || false) e
  no_use false false n e = refl

  no_uses : (before : Kind) (xs : List Item) → list_any defines_old (uses_after before xs) ≡ false
  no_uses before [] = refl
  no_uses before (x ∷ xs) =
      any_append defines_old (use_after before x) (uses_after (kind_of x) xs)
      ∙ (λ i. no_use (is_touched before x) (is_name_kind (kind_of x)) (record { text = x.token.text.now; place = place_of x.token; defines = false }) refl i || no_uses (kind_of x) xs i)

  named_old : (b : Bool) (n : Named) → list_any defines_old (if b then n ∷ [] else []) ≡ true → (n.defines ≡ true) × (is_called old n.text ≡ true)
  named_old true n e = elim (or_cases (defines_old n) false e) [ inl h ↦ and_parts n.defines (is_called old n.text) h | inr h ↦ never false h refl ]
  named_old false n e = never false e refl

  head_old : (c : Bool) (h : Head) → is_some (if c then Some h else None) ≡ true → option_map name_of (if c then Some h else None) ≡ Some (name_of h)
  head_old true h e = refl
  head_old false h e = never false e refl

  first_place : (x : Item) (xs : List Item) → list_any defines_old (places_in (x ∷ xs)) ≡ true → (is_some (head_of (x ∷ xs)) ≡ true) × (is_called old x.token.text.now ≡ true)
  first_place x xs e =
      let d = is_some (head_of (x ∷ xs)) in
      let both : (list_any defines_old (named d x) || list_any defines_old (uses_after (kind_of x) xs)) ≡ true = sym (any_append defines_old (named d x) (uses_after (kind_of x) xs)) ∙ e in
      elim (or_cases (list_any defines_old (named d x)) (list_any defines_old (uses_after (kind_of x) xs)) both) [
        | inl h ↦ named_old (is_name_kind (kind_of x)) (record { text = x.token.text.now; place = place_of x.token; defines = d }) h
        | inr h ↦ never (list_any defines_old (uses_after (kind_of x) xs)) h (no_uses (kind_of x) xs)
      ]

  block_old : (xs : List Item) → list_any defines_old (places_in xs) ≡ true → (n : Name) × (option_map name_of (head_of xs) ≡ Some n) × (bytes_eq old n ≡ true)
  block_old [] e = never false e refl
  block_old (x ∷ []) e = never false (first_place x [] e).0 refl
  block_old (x ∷ y ∷ xs) e =
      let f = first_place x (y ∷ xs) e in
      (lowercase x.token.text.now, head_old (is_name_kind (kind_of x) && is_defined_as (kind_of y)) _ f.0, f.1)

  cons_first : (o : Option Name) (n : Name) (ns : List Name) → o ≡ Some n → bytes_eq old n ≡ true → list_any (bytes_eq old) (cons_option o ns) ≡ true
  cons_first o n ns e h = subst (λ o. list_any (bytes_eq old) (cons_option o ns) ≡ true) (sym e) (or_true (bytes_eq old n) (list_any (bytes_eq old) ns) (inl h))

  cons_later : (o : Option Name) (ns : List Name) → list_any (bytes_eq old) ns ≡ true → list_any (bytes_eq old) (cons_option o ns) ≡ true
  cons_later None ns h = h
  cons_later (Some n) ns h = or_true (bytes_eq old n) (list_any (bytes_eq old) ns) (inr h)

  heads_old : (bs : List Block) → list_any defines_old (places_of bs) ≡ true → list_any (bytes_eq old) (filter_map head_name bs) ≡ true
  heads_old [] e = e
  heads_old (b ∷ bs) e =
      let both : (list_any defines_old (places_in b.items) || list_any defines_old (places_of bs)) ≡ true = sym (any_append defines_old (places_in b.items) (places_of bs)) ∙ e in
      elim (or_cases (list_any defines_old (places_in b.items)) (list_any defines_old (places_of bs)) both) [
        | inl h ↦ let f = block_old b.items h in cons_first (head_name b) f.0 (filter_map head_name bs) f.1 f.2
        | inr h ↦ cons_later (head_name b) (filter_map head_name bs) (heads_old bs h)
      ]

  with_more : (c : Bool) (names : List Name) (n : Name) → list_any (bytes_eq n) names ≡ c → (list_any (bytes_eq old) names ≡ true) ⊎ (bytes_eq old n ≡ true) → list_any (bytes_eq old) (if c then names else names ++ n ∷ []) ≡ true
  with_more true names n e (inl h) = h
  with_more true names n e (inr h) = subst (λ m. list_any (bytes_eq m) names ≡ true) (sym (same_is old n h)) e
  with_more false names n e (inl h) = any_append (bytes_eq old) names (n ∷ []) ∙ or_true (list_any (bytes_eq old) names) (list_any (bytes_eq old) (n ∷ [])) (inl h)
  with_more false names n e (inr h) =
      any_append (bytes_eq old) names (n ∷ [])
      ∙ or_true (list_any (bytes_eq old) names) (list_any (bytes_eq old) (n ∷ [])) (inr (or_true (bytes_eq old n) false (inl h)))

  any_fold : (ns names : List Name) → (list_any (bytes_eq old) names ≡ true) ⊎ (list_any (bytes_eq old) ns ≡ true) → list_any (bytes_eq old) (fold with_name names ns) ≡ true
  any_fold [] names (inl h) = h
  any_fold [] names (inr h) = never false h refl
  any_fold (n ∷ ns) names (inl h) = any_fold ns (with_name names n) (inl (with_more (list_any (bytes_eq n) names) names n refl (inl h)))
  any_fold (n ∷ ns) names (inr h) =
      elim (or_cases (bytes_eq old n) (list_any (bytes_eq old) ns) h) [
        | inl e ↦ any_fold ns (with_name names n) (inl (with_more (list_any (bytes_eq n) names) names n refl (inr e)))
        | inr e ↦ any_fold ns (with_name names n) (inr e)
      ]

  defined_by : (bs : List Block) → list_any defines_old (places_of bs) ≡ true → list_any (bytes_eq old) (defined bs) ≡ true
  defined_by bs e = any_fold (filter_map head_name bs) [] (inr (heads_old bs e))

  one_kept : (called defines : Bool) (n : Named) (ns : List Named) (more : Bool) → n.defines ≡ defines → list_any (λ n. n.defines) ns ≡ more →
      list_any (λ n. n.defines) (cond called (n ∷ ns) ns) ≡ (defines && called) || more
  one_kept true defines n ns more d e = (λ i. (d ∙ sym (and_true defines)) i || e i)
  one_kept false defines n ns more d e = e ∙ ap (λ b. b || more) (sym (and_false defines))

  defining_places : (ns : List Named) → list_any (λ n. n.defines) (places_of_name old ns) ≡ list_any defines_old ns
  defining_places [] = refl
  defining_places (n ∷ ns) = one_kept (is_called old n.text) n.defines n (places_of_name old ns) (list_any defines_old ns) refl (defining_places ns)

  pub name_is_defined : (bs : List Block) → is_defined (places_of bs) old ≡ true → list_any (bytes_eq old) (defined bs) ≡ true
  name_is_defined bs e = defined_by bs (sym (defining_places (places_of bs)) ∙ e)
