-- The gists of a block's alternatives have each name that the block's items use.
use Rattle.std.proofs.Common.{◌≡◌, ◌⊎◌, ⊎_elim, inl, inr, ℕ, suc, Bool, true, false, List, [], ◌∷◌, ◌++◌, map, Option, Some, None, Result, Ok, Err, refl, sym, ap, subst, ◌∙◌}
use Rattle.std.specs.Prelude.{Contains, flat_map, if◌then◌else◌, ◌&&◌}
use Rattle.std.specs.Option.{is_some}
use Rattle.std.proofs.lemmas.List.{append-nil}
use Rattle.std.proofs.lemmas.List.Elements.{Contains-append_left, Contains-append_right, Contains-append_cases}
use Rattle.abnf_token.specs.declared.token.Kind.{Kind}
use Rattle.abnf_token.specs.declared.token.Kind.TheVariants as k
use Rattle.abnf_token.specs.declared.token.Token.{Token}
use Rattle.abnf_token.specs.Folded.{lowercase}
use Rattle.abnf_syntax.specs.declared.fault.SyntaxFault.{SyntaxFault}
use Rattle.abnf_syntax.specs.declared.item.Item.{Item}
use Rattle.abnf_syntax.specs.declared.tree.Element.{Element, out-Element}
use Rattle.abnf_syntax.specs.declared.tree.Element.TheVariants as e
use Rattle.abnf_syntax.specs.declared.tree.Element.TheOpen as layers
use Rattle.abnf_syntax.specs.declared.tree.Repetition.{Repetition, Repetition-F, out-roll-Repetition}
use Rattle.abnf_syntax.specs.declared.tree.Rule.{Rule}
use Rattle.abnf_syntax.specs.declared.block.Head.{Head}
use Rattle.abnf_syntax.specs.Kinds.{is_adds, is_defined_as, is_name_kind}
use Rattle.abnf_syntax.specs.Faults.{place_of}
use Rattle.abnf_syntax.specs.Heads.{head_of}
use Rattle.abnf_syntax.specs.Grammar.{kind_of, repetition, defined_as, Concatenation, Alternation, IsAlternation, IsConcatenation, IsRepetition, IsElement}
use Rattle.abnf_syntax.specs.Grammar.IsAlternation.{only, or}
use Rattle.abnf_syntax.specs.Grammar.IsConcatenation.{one, and}
use Rattle.abnf_syntax.specs.Grammar.IsRepetition.{once, times}
use Rattle.abnf_syntax.specs.Grammar.IsElement.{name as is_named, quoted as is_quoted, number as is_number, prose as is_prose, group as is_group, choice as is_choice}
use Rattle.abnf_parts.specs.Leaf.{repeated, repeat_limits}
use Rattle.abnf_parts.specs.Names.{Name}
use Rattle.abnf_parts.specs.Part.{Part, seq, alt}
use Rattle.abnf_parts.specs.Tree.{ElementLayer, join, element_part, repetition_part, concatenation_part, tree_inside}
use Rattle.abnf_names.specs.Said.{Block, BlockSays}
use Rattle.abnf_names.specs.Shown.{fault_shown}
use Rattle.abnf_names.specs.Places.{is_touched, named, places_in, use_after, uses_after}
use Rattle.abnf_names.specs.Rules.{alternatives_said}
use Rattle.abnf_lint.specs.Empty.{is_above}
use Rattle.abnf_digests.specs.Gists.{gist}
use Rattle.abnf_digests.specs.Digests.{used_names, digest_of, no_number}
use Rattle.findings_index.specs.Words.{names_in}
use Rattle.findings_index.proofs.Elements.{first_in, first_or_later, none_in}
use Rattle.findings_index.proofs.Pushing.{names_listed, repeated_names}
use Rattle.findings_index.proofs.ToldOfBlock.{used_both}

-- one of these items is the name
abbrev Names : Name → List Item → Type 0
Names name [] = ⊥
Names name (x ∷ xs) = ((kind_of x ≡ k.Name) × (lowercase x.token.text.now ≡ name)) ⊎ Names name xs

name_kind : (kind : Kind) → is_name_kind kind ≡ true → kind ≡ k.Name
name_kind k.Name e = refl
name_kind kind e = absurd (cc (e))

as_defined : (adds : Bool) → is_defined_as (defined_as adds) ≡ true
as_defined true = refl
as_defined false = refl

defined_not : (adds : Bool) → defined_as adds ≡ k.Name → ⊥
defined_not true e = absurd (cc)
defined_not false e = absurd (cc)

has_head : (a b : Bool) (head : Head) → a ≡ true → b ≡ true → is_some (if a && b then Some head else None) ≡ true
has_head true true head e f = refl
has_head true false head e f = absurd (cc (f))
has_head false b head e f = absurd (cc (e))

-- ---- the names of joined gists

seq_names : (ps : List Part) → names_in (gist (join seq ps)) ≡ flat_map names_in (map gist ps)
seq_names [] = refl
seq_names (p ∷ []) = sym (append-nil (names_in (gist p)))
seq_names (p ∷ q ∷ ps) = names_listed (p ∷ q ∷ ps)

alt_names : (ps : List Part) → names_in (gist (join alt ps)) ≡ flat_map names_in (map gist ps)
alt_names [] = refl
alt_names (p ∷ []) = sym (append-nil (names_in (gist p)))
alt_names (p ∷ q ∷ ps) = names_listed (p ∷ q ∷ ps)

times_names : (o : Option Token) (p : Part) → names_in (gist (repeated o p)) ≡ names_in (gist p)
times_names None p = refl
times_names (Some t) p = let b = repeat_limits t.text.now in repeated_names (is_above b.0 b.1) b.0 (gist p)

-- ---- the names of trees

abbrev inside : ℕ → Alternation → Part
inside room a = tree_inside no_number room a

abbrev rows_names : ℕ → Alternation → List Name
rows_names room a = flat_map names_in (map gist (map (concatenation_part no_number (inside room)) a))

abbrev row_names : ℕ → Concatenation → List Name
row_names room c = flat_map names_in (map gist (map (repetition_part no_number (inside room)) c))

abbrev part_names : ℕ → Repetition → List Name
part_names room r = names_in (gist (repetition_part no_number (inside room) r))

abbrev layer_names : ℕ → ElementLayer → List Name
layer_names room layer = names_in (gist (element_part no_number (inside room) layer))

row_is : (room : ℕ) (c : Concatenation) → names_in (gist (concatenation_part no_number (inside room) c)) ≡ row_names room c
row_is room c = seq_names (map (repetition_part no_number (inside room)) c)

inside_is : (room : ℕ) (a : Alternation) → names_in (gist (inside (suc room) a)) ≡ rows_names room a
inside_is room a = alt_names (map (concatenation_part no_number (inside room)) a)

part_is : (room : ℕ) (o : Option Token) (x : Element) → part_names room (repetition o x) ≡ layer_names room (out-Element x)
part_is room o x =
    let f : Repetition-F Element Repetition → Part = λ layer. repeated layer.repeat (element_part no_number (inside room) (out-Element layer.element)) in
    ap (λ l. names_in (gist (f l))) (out-roll-Repetition (record { repeat = o; element = x }))
    ∙ times_names o (element_part no_number (inside room) (out-Element x))

-- ---- a name among the items stands in their tree, or among the items behind

module _ (name : Name) where
  abbrev Has : List Name → Type 0
  Has names = Contains names name

  abbrev Goes : List Name → List Item → Type 0
  Goes names to = Has names ⊎ Names name to

  same_names : (names others : List Name) (to : List Item) → names ≡ others → Goes others to → Goes names to
  same_names names others to e goes = ⊎_elim (λ c. inl (subst Has (sym e) c)) (λ n. inr n) goes

  left : (names others : List Name) → Has names → Has (names ++ others)
  left names others c = Contains-append_left names others name c

  right : (names others : List Name) → Has others → Has (names ++ others)
  right names others c = Contains-append_right names others name c

  -- an item that is no name
  past : (x : Item) (kind : Kind) (to : List Item) → kind_of x ≡ kind → (kind ≡ k.Name → ⊥) → Names name (x ∷ to) → Names name to
  past x kind to is not_name n = ⊎_elim (λ here. absurd (not_name (sym is ∙ here.0))) (λ later. later) n

  leaf : (x : Item) (kind : Kind) (names : List Name) (to : List Item) → kind_of x ≡ kind → (kind ≡ k.Name → ⊥) → Names name (x ∷ to) → Goes names to
  leaf x kind names to is not_name n = inr (past x kind to is not_name n)

  in_layer : (room : ℕ) (x : Element) (v : ElementLayer) (to : List Item) → out-Element x ≡ v → Goes (layer_names room v) to → Goes (layer_names room (out-Element x)) to
  in_layer room x v to is goes = same_names (layer_names room (out-Element x)) (layer_names room v) to (ap (layer_names room) is) goes

  mutual
    rows_have : {room : ℕ} {from to : List Item} {a : Alternation} → IsAlternation room from to a → Names name from → Goes (rows_names room a) to
    rows_have {room = room} {to = to} (only {c = c} h) n =
        same_names (rows_names room (c ∷ [])) (row_names room c) to (append-nil (names_in (gist (concatenation_part no_number (inside room) c))) ∙ row_is room c) (row_has h n)
    rows_have {room = room} (or {mid = mid} {slash = slash} {c = c} {cs = cs} h is more) n =
        let here = names_in (gist (concatenation_part no_number (inside room) c)) in
        ⊎_elim (λ x. inl (left here (rows_names room cs) (subst Has (sym (row_is room c)) x)))
        (λ m. ⊎_elim (λ x. inl (right here (rows_names room cs) x)) (λ t. inr t) (rows_have more (past slash k.Slash mid is (λ e. absurd (cc)) m)))
        (row_has h n)

    row_has : {room : ℕ} {from to : List Item} {c : Concatenation} → IsConcatenation room from to c → Names name from → Goes (row_names room c) to
    row_has {room = room} {to = to} (one {r = r} h) n = same_names (row_names room (r ∷ [])) (part_names room r) to (append-nil (part_names room r)) (part_has h n)
    row_has {room = room} (and {r = r} {rs = rs} h apart more) n =
        ⊎_elim (λ x. inl (left (part_names room r) (row_names room rs) x))
        (λ m. ⊎_elim (λ x. inl (right (part_names room r) (row_names room rs) x)) (λ t. inr t) (row_has more m))
        (part_has h n)

    part_has : {room : ℕ} {from to : List Item} {p : Repetition} → IsRepetition room from to p → Names name from → Goes (part_names room p) to
    part_has {room = room} {to = to} (once {element = x} h) n =
        same_names (part_names room (repetition None x)) (layer_names room (out-Element x)) to (part_is room None x) (element_has h n)
    part_has {room = room} {to = to} (times {mid = mid} {repeat = repeat} {next = nxt} {element = x} is fit apart h) n =
        same_names (part_names room (repetition (Some repeat.token) x)) (layer_names room (out-Element x)) to (part_is room (Some repeat.token) x)
        (element_has h (past repeat k.Repeat (nxt ∷ mid) is (λ e. absurd (cc)) n))

    element_has : {room : ℕ} {from to : List Item} {x : Element} → IsElement room from to x → Names name from → Goes (layer_names room (out-Element x)) to
    element_has {room = room} {to = to} (is_named {item = item} is) n =
        in_layer room (e.Name item.token) (layers.Name item.token) to (e.outs-Name item.token)
        (⊎_elim (λ here. inl (subst (λ it. Contains (lowercase item.token.text.now ∷ []) it) here.1 (first_in (lowercase item.token.text.now) []))) (λ later. inr later) n)
    element_has {room = room} {to = to} {x = x} (is_quoted {item = item} is) n = leaf item k.Quoted (layer_names room (out-Element x)) to is (λ e. absurd (cc)) n
    element_has {room = room} {to = to} {x = x} (is_number {item = item} is fit) n = leaf item k.Number (layer_names room (out-Element x)) to is (λ e. absurd (cc)) n
    element_has {room = room} {to = to} {x = x} (is_prose {item = item} is) n = leaf item k.Prose (layer_names room (out-Element x)) to is (λ e. absurd (cc)) n
    element_has {to = to} (is_group {room = room} {inner = inner} {left = opener} {right = closer} {a = a} opens h closes) n =
        in_layer (suc room) (e.Group a) (layers.Group a) to (e.outs-Group a)
        (same_names (layer_names (suc room) (layers.Group a)) (rows_names room a) to (inside_is room a)
        (⊎_elim (λ x. inl x) (λ m. inr (past closer k.ParenR to closes (λ e. absurd (cc)) m)) (rows_have h (past opener k.ParenL inner opens (λ e. absurd (cc)) n))))
    element_has {to = to} (is_choice {room = room} {inner = inner} {left = opener} {right = closer} {a = a} opens h closes) n =
        in_layer (suc room) (e.Choice a) (layers.Choice a) to (e.outs-Choice a)
        (same_names (layer_names (suc room) (layers.Choice a)) (rows_names room a) to (inside_is room a)
        (⊎_elim (λ x. inl x) (λ m. inr (past closer k.BracketR to closes (λ e. absurd (cc)) m)) (rows_have h (past opener k.BracketL inner opens (λ e. absurd (cc)) n))))

  -- ---- a name that is used is one of the items

  used_one : (touched is : Bool) (x : Item) → is_name_kind (kind_of x) ≡ is
      → Has (used_names (if touched then [] else (if is then record { text = x.token.text.now; place = place_of x.token; defines = false } ∷ [] else [])))
      → (kind_of x ≡ k.Name) × (lowercase x.token.text.now ≡ name)
  used_one true is x e c = none_in name c
  used_one false false x e c = none_in name c
  used_one false true x e c = (name_kind (kind_of x) e, ⊎_elim (λ same. same) (λ d. none_in name d) (first_or_later (lowercase x.token.text.now) [] name c))

  uses_named : (before : Kind) (xs : List Item) → Has (used_names (uses_after before xs)) → Names name xs
  uses_named before [] c = none_in name c
  uses_named before (x ∷ xs) c =
      ⊎_elim (λ here. inl (used_one (is_touched before x) (is_name_kind (kind_of x)) x refl here)) (λ later. inr (uses_named (kind_of x) xs later))
      (Contains-append_cases (used_names (use_after before x)) (used_names (uses_after (kind_of x) xs)) name
      (subst Has (used_both (use_after before x) (uses_after (kind_of x) xs)) c))

  none_first : (defines is : Bool) (x : Item) → defines ≡ true
      → Has (used_names (if is then record { text = x.token.text.now; place = place_of x.token; defines = defines } ∷ [] else [])) → ⊥
  none_first true true x e c = none_in name c
  none_first true false x e c = none_in name c
  none_first false is x e c = absurd (cc (e))

  body_uses : (head defined : Item) (body : List Item) (adds : Bool) → kind_of head ≡ k.Name → kind_of defined ≡ defined_as adds
      → Has (used_names (places_in (head ∷ defined ∷ body))) → Names name body
  body_uses head defined body adds is second c =
      let defines = is_some (head_of (head ∷ defined ∷ body)) in
      let there : defines ≡ true =
      has_head (is_name_kind (kind_of head)) (is_defined_as (kind_of defined)) (record { name = head.token; adds = is_adds (kind_of defined) })
      (ap is_name_kind is) (ap is_defined_as second ∙ as_defined adds) in
      ⊎_elim (λ here. absurd (none_first defines (is_name_kind (kind_of head)) head there here))
      (λ later. past defined (defined_as adds) body second (defined_not adds) (uses_named (kind_of head) (defined ∷ body) later))
      (Contains-append_cases (used_names (named defines head)) (used_names (uses_after (kind_of head) (defined ∷ body))) name
      (subst Has (used_both (named defines head) (uses_after (kind_of head) (defined ∷ body))) c))

-- ---- of a block

said_uses : (items : List Item) (said : Result Rule SyntaxFault) → BlockSays items said → fault_shown said ≡ None → (name : Name)
    → Contains (used_names (places_in items)) name → Contains (flat_map names_in (map gist (alternatives_said no_number said))) name
said_uses items (Err fault) says none name c = absurd (cc (none))
said_uses items (Ok rule) d none name c =
    ⊎_elim (λ x. x) (λ past_end. absurd past_end)
    (rows_have name d.alternation
    (body_uses name d.head d.defined d.body rule.adds d.named d.adds (subst (λ l. Contains (used_names (places_in l)) name) d.split c)))

-- a block without fault says alternatives that have each name that it uses
pub uses_said : (block : Block) → BlockSays block.items block.said → fault_shown block.said ≡ None → (name : Name) → Contains (digest_of block).uses name
    → Contains (flat_map names_in (digest_of block).said) name
uses_said block says none = said_uses block.items block.said says none
