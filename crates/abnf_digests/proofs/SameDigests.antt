-- Blocks whose items are the same but for the numbers of their lines have the same digest.
use Rattle.std.proofs.Common.{◌≡◌, ℕ, Bool, true, false, cond, not, ◌&&◌, List, [], ◌∷◌, map, Option, Some, None, option_map, Result, Ok, Err, refl, sym, ap, ◌∙◌}
use Rattle.std.specs.Prelude.{◌||◌, if◌then◌else◌, filter}
use Rattle.std.specs.List.{list_any}
use Rattle.std.specs.Option.{is_some}
use Rattle.abnf_token.specs.declared.token.Kind.{Kind}
use Rattle.abnf_token.specs.declared.token.Kind.TheVariants as k
use Rattle.abnf_token.specs.Classes.{Text}
use Rattle.abnf_token.specs.Folded.{lowercase}
use Rattle.abnf_syntax.specs.declared.block.Head.{Head}
use Rattle.abnf_syntax.specs.declared.fault.SyntaxFault.{SyntaxFault}
use Rattle.abnf_syntax.specs.declared.item.Item.{Item}
use Rattle.abnf_syntax.specs.declared.tree.Rule.{Rule}
use Rattle.abnf_syntax.specs.Grammar.{kind_of, Derives}
use Rattle.abnf_syntax.specs.Heads.{head_of}
use Rattle.abnf_syntax.specs.Kinds.{is_name_kind, is_defined_as}
use Rattle.abnf_syntax.proofs.Bare.{no_fault}
use Rattle.abnf_syntax.proofs.Cons.{cons_same}
use Rattle.abnf_syntax.proofs.Exact.{one_rule}
use Rattle.abnf_parts.specs.Names.{Name}
use Rattle.abnf_parts.specs.Part.{ref}
use Rattle.abnf_parts.specs.Tree.{alternatives}
use Rattle.abnf_parts.proofs.NameLaws.{list_any_map}
use Rattle.abnf_names.specs.Said.{Block, BlockSays, IsWithin}
use Rattle.abnf_names.specs.Places.{Named, places_in}
use Rattle.abnf_names.specs.Rules.{alternatives_said}
use Rattle.abnf_names.specs.Shown.{fault_shown}
use Rattle.abnf_rename.specs.Parts.{renamed_part}
use Rattle.abnf_rename.specs.Rules.{text_and_role}
use Rattle.abnf_rename.proofs.ItemShapes.{Shape, shape}
use Rattle.abnf_rename.proofs.Rows.{TextLike, Alike, Agrees, derives_like}
use Rattle.abnf_rename.proofs.Shapes.{shape_head, shape_places, places_by_shape}
use Rattle.abnf_lint.specs.Empty.{is_empty_number}
use Rattle.abnf_digests.specs.Gists.{gist}
use Rattle.abnf_digests.specs.Digests.{head_digest, used_names, no_number, digest_of}
use Rattle.abnf_digests.specs.SameLines.{AreSameLines, placeless, fault_kind}
use Rattle.abnf_digests.specs.Quiet.{has_own_findings}
use Rattle.abnf_digests.proofs.SameItems.{same_shapes}
use Rattle.abnf_digests.proofs.SameFaults.{same_fault}

-- ---- heads and names

head_if : (b : Bool) (head : Head) → option_map head_digest (if b then Some head else None) ≡ (if b then Some (head_digest head) else None)
head_if true head = refl
head_if false head = refl

head_by_shape : (xs : List Item) → option_map head_digest (head_of xs) ≡ shape_head (map shape xs)
head_by_shape [] = refl
head_by_shape (x ∷ []) = refl
head_by_shape (x ∷ y ∷ xs) = head_if (is_name_kind (kind_of x) && is_defined_as (kind_of y)) _

abbrev told_used : List (Text × Bool) → List Name
told_used told = map (λ (p : Text × Bool). lowercase p.0) (filter (λ (p : Text × Bool). not p.1) told)

used_if : (b : Bool) (n : Named) (ns : List Named) (ps : List (Text × Bool)) → map (λ (m : Named). lowercase m.text) ns ≡ map (λ (p : Text × Bool). lowercase p.0) ps
    → map (λ (m : Named). lowercase m.text) (cond b (n ∷ ns) ns) ≡ map (λ (p : Text × Bool). lowercase p.0) (cond b (text_and_role n ∷ ps) ps)
used_if true n ns ps e = ap (λ l. lowercase n.text ∷ l) e
used_if false n ns ps e = e

used_by_told : (ns : List Named) → used_names ns ≡ told_used (map text_and_role ns)
used_by_told [] = refl
used_by_told (n ∷ ns) =
    used_if (not n.defines) n (filter (λ (m : Named). not m.defines) ns) (filter (λ (p : Text × Bool). not p.1) (map text_and_role ns)) (used_by_told ns)

used_by_shape : (xs : List Item) → used_names (places_in xs) ≡ told_used (shape_places (map shape xs))
used_by_shape xs = used_by_told (places_in xs) ∙ ap told_used (places_by_shape xs)

-- ---- what is said

abbrev Same : Text → Text → Type 0
Same t u = u ≡ t

text_like : (kind : Kind) (t u : Text) → u ≡ t → TextLike Same kind t u
text_like k.Name t u e = e
text_like kind t u e = e

alike : (xs ys : List Item) → map shape ys ≡ map shape xs → Alike Same xs ys
alike [] [] e = tt
alike [] (y ∷ ys) e = absurd (cc (e))
alike (x ∷ xs) [] e = absurd (cc (e))
alike (x ∷ xs) (y ∷ ys) e =
    let h = cons_same e in (
      record {
        kind = ap (λ (z : Shape). z.0) h.0;
        apart = ap (λ (z : Shape). z.2) h.0;
        text = text_like (kind_of x) x.token.text.now y.token.text.now (ap (λ (z : Shape). z.1) h.0);
      },
      alike xs ys h.1,
    )

agrees : Agrees Same 0 [] no_number no_number
agrees t u e = ap (λ text. ref text None) e

-- a rename of no name
rules_like : (xs ys : List Item) (rule other : Rule) → map shape ys ≡ map shape xs → Derives xs rule → Derives ys other
    → alternatives no_number other.body ≡ map (renamed_part 0 []) (alternatives no_number rule.body)
rules_like xs ys rule other e p q =
    let d = derives_like Same xs ys rule p (alike xs ys e) in
    let same : d.0 ≡ other = one_rule ys d.0 other d.1 q in
    ap (λ (r : Rule). alternatives no_number r.body) (sym same) ∙ d.2 0 [] no_number no_number agrees 64

said_same : (xs ys : List Item) (said other : Result Rule SyntaxFault) → map shape xs ≡ map shape ys → BlockSays xs said → BlockSays ys other
    → alternatives_said no_number said ≡ alternatives_said no_number other
said_same xs ys (Ok rule) (Ok other) e p q = rules_like xs xs rule rule refl p p ∙ sym (rules_like xs ys rule other (sym e) p q)
said_same xs ys (Ok rule) (Err fault) e p q =
    let d = derives_like Same xs ys rule p (alike xs ys (sym e)) in
    no_fault ys ys d.0 fault refl d.1 q
said_same xs ys (Err fault) (Ok other) e p q =
    let d = derives_like Same ys xs other q (alike ys xs e) in
    no_fault xs xs d.0 fault refl d.1 p
said_same xs ys (Err fault) (Err other) e p q = refl

faults_same : (xs ys : List Item) (said other : Result Rule SyntaxFault) → map shape xs ≡ map shape ys → BlockSays xs said → BlockSays ys other
    → option_map placeless (fault_shown said) ≡ option_map placeless (fault_shown other)
faults_same xs ys (Ok rule) (Ok other) e p q = refl
faults_same xs ys (Ok rule) (Err fault) e p q =
    let d = derives_like Same xs ys rule p (alike xs ys (sym e)) in
    no_fault ys ys d.0 fault refl d.1 q
faults_same xs ys (Err fault) (Ok other) e p q =
    let d = derives_like Same ys xs other q (alike ys xs e) in
    no_fault xs xs d.0 fault refl d.1 p
faults_same xs ys (Err fault) (Err other) e p q = ap Some (same_fault xs ys fault other e p q)

some_placeless : (o : Option SyntaxFault) → is_some (option_map placeless o) ≡ is_some o
some_placeless None = refl
some_placeless (Some fault) = refl

abbrev is_empty_item : Item → Bool
is_empty_item item = is_empty_number (kind_of item) item.token.text.now

abbrev is_empty_shape : Shape → Bool
is_empty_shape x = is_empty_number x.0 x.1

pub same_digests : (ls others : List Text) (bounds there : ℕ × ℕ) (block other : Block) → AreSameLines ls others bounds there → IsWithin ls bounds block → IsWithin others there other → (digest_of block ≡ digest_of other) × (fault_kind block ≡ fault_kind other) × (has_own_findings block ≡ has_own_findings other)
same_digests ls others bounds there block other same p q =
    let e = same_shapes ls others bounds there block.items other.items same p.items q.items in
    let heads : option_map head_digest (head_of block.items) ≡ option_map head_digest (head_of other.items) =
    head_by_shape block.items ∙ (ap shape_head e ∙ sym (head_by_shape other.items))
    in
    let used : used_names (places_in block.items) ≡ used_names (places_in other.items) =
    used_by_shape block.items ∙ (ap (λ l. told_used (shape_places l)) e ∙ sym (used_by_shape other.items))
    in
    let said : alternatives_said no_number block.said ≡ alternatives_said no_number other.said = said_same block.items other.items block.said other.said e p.says q.says in
    let faults : fault_kind block ≡ fault_kind other = faults_same block.items other.items block.said other.said e p.says q.says in
    let some_same : is_some (fault_shown block.said) ≡ is_some (fault_shown other.said) =
    sym (some_placeless (fault_shown block.said)) ∙ (ap is_some faults ∙ some_placeless (fault_shown other.said))
    in
    let empty_same : list_any is_empty_item block.items ≡ list_any is_empty_item other.items =
    sym (list_any_map shape is_empty_shape block.items) ∙ (ap (list_any is_empty_shape) e ∙ list_any_map shape is_empty_shape other.items)
    in (
      (λ i. record { head = heads i; uses = used i; said = map gist (said i) }),
      faults,
      (λ i. some_same i || empty_same i),
    )
