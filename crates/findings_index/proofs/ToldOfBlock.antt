-- A block uses each name that its rule mentions.
use Rattle.std.proofs.Common.{◌≡◌, ⊎_elim, ℕ, zero, suc, Bool, true, false, not, List, [], ◌∷◌, ◌++◌, map, Option, Some, None, Result, Ok, Err, refl, sym, ap, subst, ◌∙◌}
use Rattle.std.specs.Prelude.{Contains, if◌then◌else◌, filter, ◌&&◌, nat_le}
use Rattle.std.specs.Option.{is_some}
use Rattle.std.proofs.lemmas.List.{map-append}
use Rattle.std.proofs.lemmas.List.Elements.{filter-append, Contains-append_left, Contains-append_right}
use Rattle.abnf_token.proofs.Language.{and_false}
use Rattle.abnf_token.specs.declared.token.Kind.{Kind}
use Rattle.abnf_token.specs.declared.token.Kind.TheVariants as k
use Rattle.abnf_token.specs.declared.token.Token.{Token}
use Rattle.abnf_token.specs.Classes.{Text, base_of}
use Rattle.abnf_token.specs.Folded.{lowercase}
use Rattle.abnf_token.specs.Renamed.{touches}
use Rattle.abnf_syntax.specs.declared.item.Item.{Item}
use Rattle.abnf_syntax.specs.declared.fault.SyntaxFault.{SyntaxFault}
use Rattle.abnf_syntax.specs.declared.tree.Element.{Element, out-Element}
use Rattle.abnf_syntax.specs.declared.tree.Element.TheVariants as e
use Rattle.abnf_syntax.specs.declared.tree.Element.TheOpen as layers
use Rattle.abnf_syntax.specs.declared.tree.Repetition.{Repetition, Repetition-F, out-roll-Repetition}
use Rattle.abnf_syntax.specs.declared.tree.Rule.{Rule}
use Rattle.abnf_syntax.specs.Kinds.{is_name_kind}
use Rattle.abnf_syntax.specs.Heads.{head_of}
use Rattle.abnf_syntax.specs.Faults.{place_of}
use Rattle.abnf_syntax.specs.Grammar.{kind_of, repetition, max_nesting, Concatenation, Alternation, IsAlternation, IsConcatenation, IsRepetition, IsElement, Derives}
use Rattle.abnf_syntax.specs.Grammar.IsAlternation.{only, or}
use Rattle.abnf_syntax.specs.Grammar.IsConcatenation.{one, and}
use Rattle.abnf_syntax.specs.Grammar.IsRepetition.{once, times}
use Rattle.abnf_syntax.specs.Grammar.IsElement.{name as is_named, quoted as is_quoted, number as is_number, prose as is_prose, group as is_group, choice as is_choice}
use Rattle.abnf_parts.specs.Part.{Part, Parts, quoted, series, span, seq, alt, rep, ref, opaque, end, next, subparts}
use Rattle.abnf_parts.specs.Leaf.{repeated, number_part, numbers_from, span_of, has}
use Rattle.abnf_parts.specs.Tree.{ElementLayer, join, parts, element_part, repetition_part, concatenation_part, tree_inside}
use Rattle.abnf_parts.specs.Names.{Name}
use Rattle.abnf_names.specs.Said.{Block, BlockSays}
use Rattle.abnf_names.specs.Places.{Named, is_touched, named, places_in, use_after, uses_after}
use Rattle.abnf_names.specs.Rules.{alternatives_said}
use Rattle.abnf_rename.proofs.SaidLaws.{AreFree, derived_free}
use Rattle.abnf_lint.specs.Empty.{is_above}
use Rattle.abnf_digests.specs.Gists.{something, nothing, repeated_gist, gist, gists}
use Rattle.abnf_digests.specs.Digests.{used_names, digest_of, no_number}
use Rattle.findings_index.proofs.Elements.{first_in, first_or_later, none_in, mapped_back}
use Rattle.findings_index.proofs.Everywhere.{Everywhere, AllEverywhere, at_each}

-- ---- the names of the items

pub used_both : (ps qs : List Named) → used_names (ps ++ qs) ≡ used_names ps ++ used_names qs
used_both ps qs =
    ap (map (λ place. lowercase place.text)) (filter-append (λ place. not place.defines) ps qs)
    ∙ map-append (λ place. lowercase place.text) (filter (λ place. not place.defines) ps) (filter (λ place. not place.defines) qs)

module _ (Used : Name → Type 0) where
  abbrev IsToldOf : Item → Type 0
  IsToldOf x = kind_of x ≡ k.Name → Used (lowercase x.token.text.now)

  abbrev AllAreTold : List Item → Type 0
  AllAreTold [] = Unit {0}
  AllAreTold (x ∷ xs) = IsToldOf x × AllAreTold xs

  and_true : (b : Bool) → (b && true) ≡ b
  and_true true = refl
  and_true false = refl

  touched_is : (before : Kind) (item : Item) → is_touched before item ≡ (touches before && not item.apart)
  touched_is k.Bad item = and_true (not item.apart)
  touched_is k.Number item = and_true (not item.apart)
  touched_is before item = and_false (not item.apart)

  use_is : (before : Kind) (x : Item) → kind_of x ≡ k.Name → touches before && not x.apart ≡ false → used_names (use_after before x) ≡ lowercase x.token.text.now ∷ []
  use_is before x is free =
      ap (λ b. used_names (if b then [] else named false x)) (touched_is before x ∙ free)
      ∙ ap (λ kind. used_names (if is_name_kind kind then record { text = x.token.text.now; place = place_of x.token; defines = false } ∷ [] else [])) is

  told_after : (before : Kind) (xs : List Item) → AreFree (touches before) xs → ((n : Name) → Contains (used_names (uses_after before xs)) n → Used n) → AllAreTold xs
  told_after before [] free h = tt
  told_after before (x ∷ xs) free h = (
    λ is. h (lowercase x.token.text.now)
        (subst (λ l. Contains l (lowercase x.token.text.now)) (sym (used_both (use_after before x) (uses_after (kind_of x) xs)))
        (Contains-append_left (used_names (use_after before x)) (used_names (uses_after (kind_of x) xs)) (lowercase x.token.text.now)
        (subst (λ l. Contains l (lowercase x.token.text.now)) (sym (use_is before x is (free.0 is))) (first_in (lowercase x.token.text.now) [])))),
    told_after (kind_of x) xs free.1
        (λ n c. h n
        (subst (λ l. Contains l n) (sym (used_both (use_after before x) (uses_after (kind_of x) xs)))
        (Contains-append_right (used_names (use_after before x)) (used_names (uses_after (kind_of x) xs)) n c))),
  )

  -- ---- the names of their trees

  abbrev Mentioned : Name → Option ℕ → Type 0
  Mentioned name rule = Used (lowercase name)

  abbrev AreMentioned : Part → Type 0
  AreMentioned = Everywhere Mentioned (Unit {0})

  abbrev AllMentioned : Parts → Type 0
  AllMentioned = AllEverywhere Mentioned (Unit {0})

  abbrev EachMentioned : List Part → Type 0
  EachMentioned [] = Unit {0}
  EachMentioned (p ∷ ps) = AreMentioned p × EachMentioned ps

  all_parts : (ps : List Part) → EachMentioned ps → AllMentioned (parts ps)
  all_parts [] h = tt
  all_parts (p ∷ ps) h = (h.0, all_parts ps h.1)

  seq_mentioned : (ps : List Part) → EachMentioned ps → AreMentioned (join seq ps)
  seq_mentioned [] h = tt
  seq_mentioned (p ∷ []) h = h.0
  seq_mentioned (p ∷ q ∷ ps) h = all_parts (p ∷ q ∷ ps) h

  alt_mentioned : (ps : List Part) → EachMentioned ps → AreMentioned (join alt ps)
  alt_mentioned [] h = tt
  alt_mentioned (p ∷ []) h = h.0
  alt_mentioned (p ∷ q ∷ ps) h = all_parts (p ∷ q ∷ ps) h

  repeated_mentioned : (o : Option Token) (p : Part) → AreMentioned p → AreMentioned (repeated o p)
  repeated_mentioned None p h = h
  repeated_mentioned (Some t) p h = h

  span_mentioned : (ns : List ℕ) → AreMentioned (span_of ns)
  span_mentioned [] = tt
  span_mentioned (a ∷ []) = tt
  span_mentioned (a ∷ b ∷ ns) = tt

  digits_mentioned : (range : Bool) (ns : List ℕ) → AreMentioned (if range then span_of ns else series ns)
  digits_mentioned true ns = span_mentioned ns
  digits_mentioned false ns = tt

  number_mentioned : (text : Text) → AreMentioned (number_part text)
  number_mentioned [] = tt
  number_mentioned (a ∷ []) = tt
  number_mentioned (a ∷ b ∷ digits) = digits_mentioned (has 0x2D digits) (numbers_from (base_of b) 0 digits)

  abbrev RowsMentioned : Alternation → Type 0
  RowsMentioned a = (deep : ℕ) → EachMentioned (map (concatenation_part no_number (tree_inside no_number deep)) a)

  abbrev RowMentioned : Concatenation → Type 0
  RowMentioned c = (deep : ℕ) → EachMentioned (map (repetition_part no_number (tree_inside no_number deep)) c)

  abbrev PartMentioned : Repetition → Type 0
  PartMentioned r = (deep : ℕ) → AreMentioned (repetition_part no_number (tree_inside no_number deep) r)

  abbrev ElementMentioned : Element → Type 0
  ElementMentioned x = (deep : ℕ) → AreMentioned (element_part no_number (tree_inside no_number deep) (out-Element x))

  inside_mentioned : (a : Alternation) → RowsMentioned a → (deep : ℕ) → AreMentioned (tree_inside no_number deep a)
  inside_mentioned a h zero = tt
  inside_mentioned a h (suc deep) = alt_mentioned (map (concatenation_part no_number (tree_inside no_number deep)) a) (h deep)

  row_mentioned : (c : Concatenation) → RowMentioned c → (deep : ℕ) → AreMentioned (concatenation_part no_number (tree_inside no_number deep) c)
  row_mentioned c h deep = seq_mentioned (map (repetition_part no_number (tree_inside no_number deep)) c) (h deep)

  times_mentioned : (o : Option Token) (x : Element) → ElementMentioned x → PartMentioned (repetition o x)
  times_mentioned o x h deep =
      let f : Repetition-F Element Repetition → Part = λ layer. repeated layer.repeat (element_part no_number (tree_inside no_number deep) (out-Element layer.element)) in
      subst AreMentioned (sym (ap f (out-roll-Repetition (record { repeat = o; element = x }))))
      (repeated_mentioned o (element_part no_number (tree_inside no_number deep) (out-Element x)) (h deep))

  layer_mentioned : (x : Element) (v : ElementLayer) → out-Element x ≡ v → ((deep : ℕ) → AreMentioned (element_part no_number (tree_inside no_number deep) v)) → ElementMentioned x
  layer_mentioned x v is h deep = subst (λ l. AreMentioned (element_part no_number (tree_inside no_number deep) l)) (sym is) (h deep)

  mutual
    rows_told : {room : ℕ} {from to : List Item} {a : Alternation} → IsAlternation room from to a → AllAreTold from → RowsMentioned a × AllAreTold to
    rows_told (only {c = c} h) t = let r = row_told h t in (λ deep. (row_mentioned c r.0 deep, tt), r.1)
    rows_told (or {c = c} h is more) t =
        let r = row_told h t in
        let s = rows_told more r.1.1 in
        (λ deep. (row_mentioned c r.0 deep, s.0 deep), s.1)

    row_told : {room : ℕ} {from to : List Item} {c : Concatenation} → IsConcatenation room from to c → AllAreTold from → RowMentioned c × AllAreTold to
    row_told (one h) t = let p = part_told h t in (λ deep. (p.0 deep, tt), p.1)
    row_told (and h apart more) t =
        let p = part_told h t in
        let s = row_told more p.1 in
        (λ deep. (p.0 deep, s.0 deep), s.1)

    part_told : {room : ℕ} {from to : List Item} {p : Repetition} → IsRepetition room from to p → AllAreTold from → PartMentioned p × AllAreTold to
    part_told (once {element = x} h) t = let m = element_told h t in (times_mentioned None x m.0, m.1)
    part_told (times {repeat = repeat} {element = x} is fit apart h) t = let m = element_told h t.1 in (times_mentioned (Some repeat.token) x m.0, m.1)

    element_told : {room : ℕ} {from to : List Item} {x : Element} → IsElement room from to x → AllAreTold from → ElementMentioned x × AllAreTold to
    element_told (is_named {item = item} is) t = (layer_mentioned _ (layers.Name item.token) (e.outs-Name item.token) (λ deep. t.0 is), t.1)
    element_told (is_quoted {item = item} is) t = (layer_mentioned _ (layers.Quoted item.token) (e.outs-Quoted item.token) (λ deep. tt), t.1)
    element_told (is_number {item = item} is fit) t =
        (layer_mentioned _ (layers.Number item.token) (e.outs-Number item.token) (λ deep. number_mentioned item.token.text.now), t.1)
    element_told (is_prose {item = item} is) t = (layer_mentioned _ (layers.Prose item.token) (e.outs-Prose item.token) (λ deep. tt), t.1)
    element_told (is_group {a = a} left h right) t =
        let s = rows_told h t.1 in
        (layer_mentioned _ (layers.Group a) (e.outs-Group a) (λ deep. inside_mentioned a s.0 deep), s.1.1)
    element_told (is_choice {a = a} left h right) t =
        let s = rows_told h t.1 in
        (layer_mentioned _ (layers.Choice a) (e.outs-Choice a) (λ deep. inside_mentioned a s.0 deep), s.1.1)

  -- ---- the names of their gists

  abbrev InSmall : Name → Option ℕ → Type 0
  InSmall name rule = Used name

  abbrev AreSmall : Part → Type 0
  AreSmall = Everywhere InSmall (Unit {0})

  abbrev AllSmall : Parts → Type 0
  AllSmall = AllEverywhere InSmall (Unit {0})

  range_small : (b : Bool) → AreSmall (if b then something else nothing)
  range_small true = tt
  range_small false = tt

  limits_small : (b : Bool) (least : ℕ) (p : Part) → AreSmall p → AreSmall (repeated_gist b least p)
  limits_small true least p h = h
  limits_small false zero p h = h
  limits_small false (suc n) p h = h

  mutual
    gist_small : (p : Part) → AreMentioned p → AreSmall (gist p)
    gist_small (quoted text exact) h = tt
    gist_small (series characters) h = tt
    gist_small (span low high) h = range_small (nat_le low high)
    gist_small (seq ps) h = gists_small ps h
    gist_small (alt ps) h = gists_small ps h
    gist_small (rep least most p) h = limits_small (is_above least most) least (gist p) (gist_small p h)
    gist_small (ref name rule) h = h
    gist_small opaque h = tt

    gists_small : (ps : Parts) → AllMentioned ps → AllSmall (gists ps)
    gists_small end h = tt
    gists_small (next p ps) h = (gist_small p h.0, gists_small ps h.1)

  one_mentioned : (ps : List Part) (p : Part) → EachMentioned ps → Contains ps p → AreMentioned p
  one_mentioned [] p h c = none_in p c
  one_mentioned (q ∷ ps) p h c = ⊎_elim (λ e. subst AreMentioned e h.0) (λ d. one_mentioned ps p h.1 d) (first_or_later q ps p c)

  small_gist : (ps : List Part) (p : Part) → EachMentioned ps → Contains (map gist ps) p → AreSmall p
  small_gist ps p h c = let m = mapped_back gist ps p c in subst AreSmall m.2 (gist_small m.0 (one_mentioned ps m.0 h m.1))

-- ---- of a block

abbrev IsUsed : List Item → Name → Type 0
IsUsed items name = Contains (used_names (places_in items)) name

body_told : (head defined : Item) (body : List Item) → AreFree false (head ∷ defined ∷ body) → AllAreTold (IsUsed (head ∷ defined ∷ body)) body
body_told head defined body free =
    let items = head ∷ defined ∷ body in
    let first = named (is_some (head_of items)) head in
    let second = use_after (kind_of head) defined in
    let rest = uses_after (kind_of defined) body in
    told_after (IsUsed items) (kind_of defined) body free.1.1
    (λ n c.
    subst (λ l. Contains l n) (sym (used_both first (second ++ rest)))
    (Contains-append_right (used_names first) (used_names (second ++ rest)) n
    (subst (λ l. Contains l n) (sym (used_both second rest)) (Contains-append_right (used_names second) (used_names rest) n c))))

derived_told : (items : List Item) (rule : Rule) (d : Derives items rule) → AllAreTold (IsUsed items) d.body
derived_told items rule d =
    subst (λ l. AllAreTold (IsUsed l) d.body) (sym d.split)
    (body_told d.head d.defined d.body (subst (λ l. AreFree false l) d.split (derived_free items rule d)))

said_mentioned : (items : List Item) (said : Result Rule SyntaxFault) → BlockSays items said → EachMentioned (IsUsed items) (alternatives_said no_number said)
said_mentioned items (Ok rule) d = (rows_told (IsUsed items) d.alternation (derived_told items rule d)).0 max_nesting
said_mentioned items (Err fault) d = (tt, tt)

pub uses_told : (block : Block) → BlockSays block.items block.said → (part : Part) → Contains (digest_of block).said part
    → (name : Name) (rule : Option ℕ) → Contains (subparts part) (ref name rule) → Contains (digest_of block).uses name
uses_told block says part c name rule d =
    let small = small_gist (IsUsed block.items) (alternatives_said no_number block.said) part (said_mentioned block.items block.said says) c in
    at_each (InSmall (IsUsed block.items)) (Unit {0}) part (ref name rule) small d
