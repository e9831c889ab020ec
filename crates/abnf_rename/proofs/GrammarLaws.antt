-- The rules of renamed blocks.
use Rattle.std.proofs.Common.{◌≡◌, ℕ, Bool, true, false, cond, List, [], ◌∷◌, ◌++◌, map, Option, Some, None, option_map, refl, sym, ap, subst, ◌∙◌}
use Rattle.std.specs.Prelude.{if◌then◌else◌, filter, nat_eq, flat_map}
use Rattle.std.specs.List.{list_any, filter_map, cons_option, AllByRecursion}
use Rattle.std.specs.Option.{option_map_or}
use Rattle.std.specs.Str.{bytes_eq}
use Rattle.std.proofs.lemmas.List.{map-append}
use Rattle.std.proofs.lemmas.Bool.{eqb-true, eq-eqb}
use Rattle.abnf_token.specs.Classes.{Text}
use Rattle.abnf_token.specs.Folded.{lowercase}
use Rattle.abnf_token.specs.Renamed.{is_called}
use Rattle.abnf_parts.specs.Part.{ref}
use Rattle.abnf_parts.specs.Names.{Name, rule_number}
use Rattle.abnf_names.specs.Said.{Block}
use Rattle.abnf_names.specs.Places.{Named, places_in, places_of}
use Rattle.abnf_names.specs.Rules.{defines, adds, counted, head_name, said_alternatives}
use Rattle.abnf_rename.specs.Parts.{renamed_name, renamed_part}
use Rattle.abnf_rename.proofs.ItemShapes.{shape, AreRenamedItems}
use Rattle.abnf_rename.specs.Rules.{text_after, text_and_role}
use Rattle.abnf_rename.proofs.Rows.{Agrees}
use Rattle.abnf_rename.proofs.SaidLaws.{Becomes, Tells}
use Rattle.abnf_rename.proofs.Shapes.{shape_head, name_by_shape, adds_by_shape, defines_by_shape, places_by_shape, shape_places, head_after, places_after, pair_after, place_after, lower_after}
use Rattle.abnf_rename.proofs.NameLaws.{Fresh, AreFresh, after, same_after, number_after, one_name}
use Rattle.abnf_parts.proofs.NameLaws.{same_is, same_refl, never}

module _ (old : Name) (new : Text) where
  -- whatever is asked of the names
  abbrev pub Used : Text → Type 0
  Used t = Fresh old new (lowercase t)

  pub record IsRenamedBlock (b c : Block) : Type 0 where
    pub items : AreRenamedItems old new b.items c.items
    pub tells : Tells old new Used b.said c.said

  abbrev pub AreRenamedBlocks : List Block → List Block → Type 0
  AreRenamedBlocks [] [] = Unit {0}
  AreRenamedBlocks (b ∷ bs) (c ∷ cs) = IsRenamedBlock b c × AreRenamedBlocks bs cs
  AreRenamedBlocks _ _ = ⊥

  -- ---- heads

  first_after : (o : Option (Name × Bool)) → option_map (λ (p : Name × Bool). p.0) (option_map (pair_after old new) o) ≡ option_map (after old new) (option_map (λ (p : Name × Bool). p.0) o)
  first_after None = refl
  first_after (Some p) = refl

  second_after : (o : Option (Name × Bool)) → option_map_or (λ (p : Name × Bool). p.1) (option_map (pair_after old new) o) false ≡ option_map_or (λ (p : Name × Bool). p.1) o false
  second_after None = refl
  second_after (Some p) = refl

  head_is : (b c : Block) → IsRenamedBlock b c → shape_head (map shape c.items) ≡ option_map (pair_after old new) (shape_head (map shape b.items))
  head_is b c h = ap shape_head h.items ∙ head_after old new (map shape b.items)

  pub name_is : (b c : Block) → IsRenamedBlock b c → head_name c ≡ option_map (after old new) (head_name b)
  name_is b c h =
      name_by_shape c
      ∙ (ap (option_map (λ (p : Name × Bool). p.0)) (head_is b c h)
      ∙ (first_after (shape_head (map shape b.items)) ∙ ap (option_map (after old new)) (sym (name_by_shape b))))

  adds_is : (b c : Block) → IsRenamedBlock b c → adds c ≡ adds b
  adds_is b c h =
      adds_by_shape c
      ∙ (ap (λ o. option_map_or (λ (p : Name × Bool). p.1) o false) (head_is b c h) ∙ (second_after (shape_head (map shape b.items)) ∙ sym (adds_by_shape b)))

  -- the names of the heads are fresh
  abbrev pub FreshHead : Option (Name × Bool) → Type 0
  FreshHead None = Unit {0}
  FreshHead (Some p) = Fresh old new p.0

  abbrev pub AreFreshHeads : List Block → Type 0
  AreFreshHeads bs = AllByRecursion (λ (b : Block). FreshHead (shape_head (map shape b.items))) bs

  defined_after : (name : Name) → Fresh old new name → (o : Option (Name × Bool)) → FreshHead o →
      option_map_or (λ (p : Name × Bool). bytes_eq p.0 (after old new name)) (option_map (pair_after old new) o) false ≡ option_map_or (λ (p : Name × Bool). bytes_eq p.0 name) o false
  defined_after name f None g = refl
  defined_after name f (Some p) g = same_after old new p.0 name g f

  defines_is : (name : Name) → Fresh old new name → (b c : Block) → FreshHead (shape_head (map shape b.items)) → IsRenamedBlock b c → defines (after old new name) c ≡ defines name b
  defines_is name f b c g h =
      defines_by_shape (after old new name) c
      ∙ (ap (λ o. option_map_or (λ (p : Name × Bool). bytes_eq p.0 (after old new name)) o false) (head_is b c h)
      ∙ (defined_after name f (shape_head (map shape b.items)) g ∙ sym (defines_by_shape name b)))

  cons_after : (o : Option Name) (xs : List Name) → cons_option (option_map (after old new) o) (map (after old new) xs) ≡ map (after old new) (cons_option o xs)
  cons_after None xs = refl
  cons_after (Some x) xs = refl

  pub heads_are : (bs cs : List Block) → AreRenamedBlocks bs cs → filter_map head_name cs ≡ map (after old new) (filter_map head_name bs)
  heads_are [] [] h = refl
  heads_are [] (c ∷ cs) h = absurd h
  heads_are (b ∷ bs) [] h = absurd h
  heads_are (b ∷ bs) (c ∷ cs) h =
      (λ i. cons_option (name_is b c h.0 i) (heads_are bs cs h.1 i)) ∙ cons_after (head_name b) (filter_map head_name bs)

  fresh_option : (o : Option (Name × Bool)) → FreshHead o → (xs : List Name) → AreFresh old new xs → AreFresh old new (cons_option (option_map (λ (p : Name × Bool). p.0) o) xs)
  fresh_option None f xs g = g
  fresh_option (Some p) f xs g = (f, g)

  pub fresh_heads : (bs : List Block) → AreFreshHeads bs → AreFresh old new (filter_map head_name bs)
  fresh_heads [] f = tt
  fresh_heads (b ∷ bs) f =
      subst (λ o. AreFresh old new (cons_option o (filter_map head_name bs))) (sym (name_by_shape b))
      (fresh_option (shape_head (map shape b.items)) f.0 (filter_map head_name bs) (fresh_heads bs f.1))

  -- ---- places

  abbrev lower_text : Text × Bool → Name
  lower_text p = lowercase p.0

  pub places_are : (bs cs : List Block) → AreRenamedBlocks bs cs → map text_and_role (places_of cs) ≡ map (place_after old new) (map text_and_role (places_of bs))
  places_are [] [] h = refl
  places_are [] (c ∷ cs) h = absurd h
  places_are (b ∷ bs) [] h = absurd h
  places_are (b ∷ bs) (c ∷ cs) h =
      let one : map text_and_role (places_in c.items) ≡ map (place_after old new) (map text_and_role (places_in b.items)) =
      places_by_shape c.items ∙ (ap shape_places h.0.items ∙ (places_after old new (map shape b.items) ∙ ap (map (place_after old new)) (sym (places_by_shape b.items))))
      in
      map-append text_and_role (places_in c.items) (places_of cs)
      ∙ ((λ i. one i ++ places_are bs cs h.1 i)
      ∙ (sym (map-append (place_after old new) (map text_and_role (places_in b.items)) (map text_and_role (places_of bs)))
      ∙ ap (map (place_after old new)) (sym (map-append text_and_role (places_in b.items) (places_of bs)))))

  pub map_map : {A B C : Type 0} (f : A → B) (g : B → C) (xs : List A) → map g (map f xs) ≡ map (λ x. g (f x)) xs
  map_map f g [] = refl
  map_map f g (x ∷ xs) = ap (λ l. g (f x) ∷ l) (map_map f g xs)

  lower_told : (ps : List Named) → map lower_text (map text_and_role ps) ≡ map (λ place. lowercase place.text) ps
  lower_told [] = refl
  lower_told (p ∷ ps) = ap (λ l. lowercase p.text ∷ l) (lower_told ps)

  lower_place : (ps : List (Text × Bool)) → map lower_text (map (place_after old new) ps) ≡ map (after old new) (map lower_text ps)
  lower_place [] = refl
  lower_place (p ∷ ps) = (λ i. lower_after old new p.0 i ∷ lower_place ps i)

  pub place_names : (bs cs : List Block) → AreRenamedBlocks bs cs → map (λ place. lowercase place.text) (places_of cs) ≡ map (after old new) (map (λ place. lowercase place.text) (places_of bs))
  place_names bs cs h =
      sym (lower_told (places_of cs))
      ∙ (ap (map lower_text) (places_are bs cs h) ∙ (lower_place (map text_and_role (places_of bs)) ∙ ap (map (after old new)) (lower_told (places_of bs))))

  -- ---- blocks that count

  cond_blocks : (x y : Bool) → x ≡ y → (b c : Block) (bs cs : List Block) → IsRenamedBlock b c → AreRenamedBlocks bs cs → AreRenamedBlocks (cond y (b ∷ bs) bs) (cond x (c ∷ cs) cs)
  cond_blocks true true e b c bs cs h g = (h, g)
  cond_blocks true false e b c bs cs h g = absurd (cc)
  cond_blocks false true e b c bs cs h g = absurd (cc)
  cond_blocks false false e b c bs cs h g = g

  if_blocks : (x y : Bool) → x ≡ y → (us bs cs ds : List Block) → AreRenamedBlocks us cs → AreRenamedBlocks bs ds → AreRenamedBlocks (if y then us else bs) (if x then cs else ds)
  if_blocks true true e us bs cs ds h g = h
  if_blocks true false e us bs cs ds h g = absurd (cc)
  if_blocks false true e us bs cs ds h g = absurd (cc)
  if_blocks false false e us bs cs ds h g = g

  pub filter_defines : (name : Name) → Fresh old new name → (bs cs : List Block) → AreFreshHeads bs → AreRenamedBlocks bs cs → AreRenamedBlocks (filter (defines name) bs) (filter (defines (after old new name)) cs)
  filter_defines name f [] [] g h = tt
  filter_defines name f [] (c ∷ cs) g h = absurd h
  filter_defines name f (b ∷ bs) [] g h = absurd h
  filter_defines name f (b ∷ bs) (c ∷ cs) g h =
      cond_blocks (defines (after old new name) c) (defines name b) (defines_is name f b c g.0 h.0) b c (filter (defines name) bs) (filter (defines (after old new name)) cs) h.0 (filter_defines name f bs cs g.1 h.1)

  filter_adds : (bs cs : List Block) → AreRenamedBlocks bs cs → AreRenamedBlocks (filter adds bs) (filter adds cs)
  filter_adds [] [] h = tt
  filter_adds [] (c ∷ cs) h = absurd h
  filter_adds (b ∷ bs) [] h = absurd h
  filter_adds (b ∷ bs) (c ∷ cs) h = cond_blocks (adds c) (adds b) (adds_is b c h.0) b c (filter adds bs) (filter adds cs) h.0 (filter_adds bs cs h.1)

  pub counted_are : (bs cs : List Block) → AreRenamedBlocks bs cs → AreRenamedBlocks (counted bs) (counted cs)
  counted_are [] [] h = tt
  counted_are [] (c ∷ cs) h = absurd h
  counted_are (b ∷ bs) [] h = absurd h
  counted_are (b ∷ bs) (c ∷ cs) h =
      (h.0, if_blocks (adds c) (adds b) (adds_is b c h.0) (counted bs) (filter adds bs) (counted cs) (filter adds cs) (counted_are bs cs h.1) (filter_adds bs cs h.1))

  pub told_alternatives : (r : ℕ) (text : List ℕ) (number other : Name → Option ℕ) → Agrees (Becomes old new Used) r text number other → (bs cs : List Block) → AreRenamedBlocks bs cs →
      flat_map (said_alternatives other) cs ≡ map (renamed_part r text) (flat_map (said_alternatives number) bs)
  told_alternatives r text number other g [] [] h = refl
  told_alternatives r text number other g [] (c ∷ cs) h = absurd h
  told_alternatives r text number other g (b ∷ bs) [] h = absurd h
  told_alternatives r text number other g (b ∷ bs) (c ∷ cs) h =
      (λ i. h.0.tells r text number other g i ++ told_alternatives r text number other g bs cs h.1 i)
      ∙ sym (map-append (renamed_part r text) (said_alternatives number b) (flat_map (said_alternatives number) bs))

  -- ---- references

  pub not_same : (q r : ℕ) (b : Bool) → nat_eq q r ≡ b → (q ≡ r → ⊥) → nat_eq q r ≡ false
  not_same q r true e n = absurd (n (eqb-true q r e))
  not_same q r false e n = e

  same_true : (r : ℕ) → nat_eq r r ≡ true
  same_true r = eq-eqb r r refl

  kept_name : (names : List Name) (r : ℕ) (t : Text) → rule_number names old ≡ Some r → bytes_eq old (lowercase t) ≡ false → (o : Option ℕ) → rule_number names (lowercase t) ≡ o → t ≡ renamed_name r new t o
  kept_name names r t is isnt None e = refl
  kept_name names r t is isnt (Some q) e =
      let n : nat_eq q r ≡ false =
      not_same q r (nat_eq q r) refl
      (λ s. never (bytes_eq old (lowercase t))
      (let same : old ≡ lowercase t = one_name old (lowercase t) names r is (e ∙ ap Some s) in ap (bytes_eq old) (sym same) ∙ self old) isnt)
      in
      ap (λ b. if b then new else t) (sym n)
    where
      self : (n : Name) → bytes_eq n n ≡ true
      self n = same_refl n

  pub agrees : (own core : List Name) (r : ℕ) → rule_number (own ++ core) old ≡ Some r → list_any (bytes_eq old) own ≡ true → AreFresh old new own →
      Agrees (Becomes old new Used) r new (rule_number (own ++ core)) (rule_number (map (after old new) own ++ core))
  agrees own core r is there g t u n =
      let names = own ++ core in
      let number : rule_number (map (after old new) own ++ core) (lowercase u) ≡ rule_number names (lowercase t) =
      ap (λ x. rule_number (map (after old new) own ++ core) (lowercase x)) n.0
      ∙ (ap (rule_number (map (after old new) own ++ core)) (lower_after old new t) ∙ number_after old new own core (lowercase t) there n.1 g)
      in
      (λ i. ref (n.0 i) (number i)) ∙ ap (λ x. ref x (rule_number names (lowercase t))) (by (is_called old t) refl)
    where
      by : (b : Bool) → is_called old t ≡ b → text_after old new t ≡ renamed_name r new t (rule_number (own ++ core) (lowercase t))
      by true e =
          let same : old ≡ lowercase t = same_is old (lowercase t) e in
          rw e (sym (ap (renamed_name r new t) (ap (rule_number (own ++ core)) (sym same) ∙ is) ∙ ap (λ b. if b then new else t) (same_true r)))
      by false e = rw e (kept_name (own ++ core) r t is e (rule_number (own ++ core) (lowercase t)) refl)
