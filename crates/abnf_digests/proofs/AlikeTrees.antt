-- Items of the same kinds, of which only what matters of their texts is the same: where the ones say a rule the others do, and their
-- digests are the same.
use Rattle.std.proofs.Common.{◌≡◌, Bool, true, false, cond, not, ◌&&◌, List, [], ◌∷◌, ◌++◌, map, Option, Some, None, option_map, Result, Ok, Err, refl, sym, ap, ◌∙◌}
use Rattle.std.specs.Prelude.{◌||◌, if◌then◌else◌, filter}
use Rattle.std.specs.List.{list_any}
use Rattle.std.specs.Option.{is_some}
use Rattle.std.proofs.lemmas.List.{map-append}
use Rattle.abnf_token.specs.declared.token.Kind.{Kind}
use Rattle.abnf_token.specs.declared.token.Kind.TheVariants as k
use Rattle.abnf_token.specs.Classes.{Text}
use Rattle.abnf_token.specs.Folded.{lowercase}
use Rattle.abnf_token.specs.Renamed.{touches}
use Rattle.abnf_syntax.specs.declared.block.Head.{Head}
use Rattle.abnf_syntax.specs.declared.fault.SyntaxFault.{SyntaxFault}
use Rattle.abnf_syntax.specs.declared.item.Item.{Item}
use Rattle.abnf_syntax.specs.declared.tree.Rule.{Rule}
use Rattle.abnf_syntax.specs.Grammar.{kind_of, max_nesting, Derives}
use Rattle.abnf_syntax.specs.Heads.{head_of}
use Rattle.abnf_syntax.specs.Kinds.{is_name_kind, is_defined_as, is_adds}
use Rattle.abnf_syntax.proofs.Bare.{no_fault}
use Rattle.abnf_syntax.proofs.Cons.{cons_same}
use Rattle.abnf_syntax.proofs.Exact.{one_rule}
use Rattle.abnf_parts.specs.Names.{Name}
use Rattle.abnf_parts.specs.Part.{Part, seq, alt, ref}
use Rattle.abnf_parts.specs.Tree.{join, alternatives}
use Rattle.abnf_names.specs.Said.{Block, BlockSays}
use Rattle.abnf_names.specs.Places.{Named, places_in}
use Rattle.abnf_names.specs.Rules.{alternatives_said}
use Rattle.abnf_names.specs.Shown.{fault_shown}
use Rattle.abnf_rename.specs.Rules.{text_and_role}
use Rattle.abnf_rename.proofs.ItemShapes.{Shape, shape}
use Rattle.abnf_rename.proofs.LikeTrees.{Alike, GoesOn, derives_like, each_same}
use Rattle.abnf_rename.proofs.Shapes.{Told, shape_head, shape_named, shape_use, shape_uses, shape_places, places_by_shape}
use Rattle.abnf_lint.specs.Empty.{is_above, is_empty_number}
use Rattle.abnf_digests.specs.Gists.{gist, repeated_gist}
use Rattle.abnf_digests.specs.Digests.{head_digest, used_names, no_number, digest_of}
use Rattle.abnf_digests.specs.BareItems.{bare_text}
use Rattle.abnf_digests.specs.Quiet.{has_own_findings}
use Rattle.abnf_digests.proofs.SaidGists.{alt_gist, seq_gist}

-- an item's kind, what matters of its text, and whether it is apart
abbrev pub told_shape : Item → Shape
told_shape x = (kind_of x, bare_text (kind_of x) x.token.text.now, x.apart)

-- ---- trees

abbrev TextAlike : Kind → Text → Text → Type 0
TextAlike kind t u = bare_text kind u ≡ bare_text kind t

alike : (xs ys : List Item) → map told_shape ys ≡ map told_shape xs → Alike TextAlike xs ys
alike [] [] e = tt
alike [] (y ∷ ys) e = absurd (cc (e))
alike (x ∷ xs) [] e = absurd (cc (e))
alike (x ∷ xs) (y ∷ ys) e =
    let h = cons_same e in
    let kind : kind_of y ≡ kind_of x = ap (λ (z : Shape). z.0) h.0 in (
      record {
        kind = kind;
        apart = ap (λ (z : Shape). z.2) h.0;
        text = ap (λ (j : Kind). bare_text j y.token.text.now) (sym kind) ∙ ap (λ (z : Shape). z.1) h.0;
      },
      alike xs ys h.1,
    )

abbrev SameGist : Unit {0} → Part → Part → Type 0
SameGist w p q = gist q ≡ gist p

goes_on : GoesOn TextAlike (Unit {0}) (λ w. no_number) (λ w. no_number) SameGist
goes_on = record {
  repeat_text = λ t u e. e;
  number_text = λ t u e. e;
  numbers = λ w t. refl;
  names = λ w t u e. ap (λ n. ref n None) e;
  quotes = λ w t u e. refl;
  opaques = λ w. refl;
  rows = λ w ps qs h. seq_gist qs ∙ (ap (join seq) (each_same gist ps qs h) ∙ sym (seq_gist ps));
  choices = λ w ps qs h. alt_gist qs ∙ (ap (join alt) (each_same gist ps qs h) ∙ sym (alt_gist ps));
  repeats = λ w least most p q h. ap (repeated_gist (is_above least most) least) h;
}

derives_alike : (xs ys : List Item) (rule : Rule) → Derives xs rule → Alike TextAlike xs ys
    → (other : Rule) × Derives ys other × (map gist (alternatives no_number other.body) ≡ map gist (alternatives no_number rule.body))
derives_alike xs ys rule d l =
    let x = derives_like TextAlike (Unit {0}) (λ w. no_number) (λ w. no_number) SameGist goes_on xs ys rule d l in
    (x.0, x.1, each_same gist (alternatives no_number rule.body) (alternatives no_number x.0.body) (x.2 tt max_nesting))

-- ---- heads

abbrev told_head : List Shape → Option (Name × Bool)
told_head (x ∷ y ∷ xs) = if is_name_kind x.0 && is_defined_as y.0 then Some (x.1, is_adds y.0) else None
told_head _ = None

head_if : (b : Bool) (head : Head) → option_map head_digest (if b then Some head else None) ≡ (if b then Some (head_digest head) else None)
head_if true head = refl
head_if false head = refl

abbrev head_from : Bool → Text → Bool → Option (Name × Bool)
head_from b name adds = if b then Some (name, adds) else None

head_told : (kind : Kind) (t : Text) (b c : Bool) → head_from (is_name_kind kind && b) (lowercase t) c ≡ head_from (is_name_kind kind && b) (bare_text kind t) c
head_told k.Name t b c = refl
head_told kind t b c = refl

head_by_told : (xs : List Item) → option_map head_digest (head_of xs) ≡ told_head (map told_shape xs)
head_by_told [] = refl
head_by_told (x ∷ []) = refl
head_by_told (x ∷ y ∷ xs) =
    head_if (is_name_kind (kind_of x) && is_defined_as (kind_of y)) _
    ∙ head_told (kind_of x) x.token.text.now (is_defined_as (kind_of y)) (is_adds (kind_of y))

-- ---- names

abbrev lower_role : Told → Told
lower_role p = (lowercase p.0, p.1)

abbrev lower_used : List Told → List Name
lower_used ps = map (λ (p : Told). p.0) (filter (λ (p : Told). not p.1) ps)

abbrev lower_named : Named → Told
lower_named n = lower_role (text_and_role n)

used_if : (b : Bool) (n : Named) (ns : List Named) (ps : List Told) → map (λ (m : Named). lowercase m.text) ns ≡ map (λ (p : Told). p.0) ps
    → map (λ (m : Named). lowercase m.text) (cond b (n ∷ ns) ns) ≡ map (λ (p : Told). p.0) (cond b (lower_named n ∷ ps) ps)
used_if true n ns ps e = ap (λ l. lowercase n.text ∷ l) e
used_if false n ns ps e = e

used_lower : (ns : List Named) → used_names ns ≡ lower_used (map lower_role (map text_and_role ns))
used_lower [] = refl
used_lower (n ∷ ns) =
    used_if (not n.defines) n (filter (λ (m : Named). not m.defines) ns) (filter (λ (p : Told). not p.1) (map lower_role (map text_and_role ns))) (used_lower ns)

some_if : (b : Bool) (p q : Name × Bool) → is_some (if b then Some p else None) ≡ is_some (if b then Some q else None)
some_if true p q = refl
some_if false p q = refl

some_head : (xs : List Item) → is_some (shape_head (map shape xs)) ≡ is_some (shape_head (map told_shape xs))
some_head [] = refl
some_head (x ∷ []) = refl
some_head (x ∷ y ∷ xs) = some_if (is_name_kind (kind_of x) && is_defined_as (kind_of y)) _ _

named_told : (kind : Kind) (t : Text) (d : Bool) → map lower_role (if is_name_kind kind then (t, d) ∷ [] else []) ≡ (if is_name_kind kind then (bare_text kind t, d) ∷ [] else [])
named_told k.Name t d = refl
named_told kind t d = refl

use_told : (b : Bool) (x : Item) → map lower_role (if b then [] else shape_named false (shape x)) ≡ (if b then [] else shape_named false (told_shape x))
use_told true x = refl
use_told false x = named_told (kind_of x) x.token.text.now false

uses_told : (touched : Bool) (xs : List Item) → map lower_role (shape_uses touched (map shape xs)) ≡ shape_uses touched (map told_shape xs)
uses_told touched [] = refl
uses_told touched (x ∷ xs) =
    map-append lower_role (shape_use touched (shape x)) (shape_uses (touches (kind_of x)) (map shape xs))
    ∙ (λ i. use_told (touched && not x.apart) x i ++ uses_told (touches (kind_of x)) xs i)

places_told : (xs : List Item) → map lower_role (shape_places (map shape xs)) ≡ shape_places (map told_shape xs)
places_told [] = refl
places_told (x ∷ xs) =
    let d = is_some (shape_head (map shape (x ∷ xs))) in
    map-append lower_role (shape_named d (shape x)) (shape_uses (touches (kind_of x)) (map shape xs))
    ∙ (λ i. (named_told (kind_of x) x.token.text.now d ∙ ap (λ b. shape_named b (told_shape x)) (some_head (x ∷ xs))) i ++ uses_told (touches (kind_of x)) xs i)

used_by_told : (xs : List Item) → used_names (places_in xs) ≡ lower_used (shape_places (map told_shape xs))
used_by_told xs = used_lower (places_in xs) ∙ ap lower_used (ap (map lower_role) (places_by_shape xs) ∙ places_told xs)

-- ---- empty repeats and ranges

abbrev is_empty_item : Item → Bool
is_empty_item item = is_empty_number (kind_of item) item.token.text.now

abbrev is_empty_shape : Shape → Bool
is_empty_shape x = is_empty_number x.0 x.1

empty_told : (kind : Kind) (t : Text) → is_empty_number kind t ≡ is_empty_number kind (bare_text kind t)
empty_told k.Repeat t = refl
empty_told k.Number t = refl
empty_told kind t = refl

empty_by_told : (xs : List Item) → list_any is_empty_item xs ≡ list_any is_empty_shape (map told_shape xs)
empty_by_told [] = refl
empty_by_told (x ∷ xs) = (λ i. empty_told (kind_of x) x.token.text.now i || empty_by_told xs i)

-- ---- what is said

-- Both say a rule, with the same gists.
record SayAlike (said other : Result Rule SyntaxFault) : Type 0 where
  gists : map gist (alternatives_said no_number said) ≡ map gist (alternatives_said no_number other)
  none : fault_shown said ≡ None
  neither : fault_shown other ≡ None

say_alike : (xs ys : List Item) (said other : Result Rule SyntaxFault) → map told_shape xs ≡ map told_shape ys → BlockSays xs said → BlockSays ys other → fault_shown said ≡ None
    → SayAlike said other
say_alike xs ys (Ok rule) (Ok other) e p q n =
    let d = derives_alike xs ys rule p (alike xs ys (sym e)) in
    let same : d.0 ≡ other = one_rule ys d.0 other d.1 q in
    record { gists = sym d.2 ∙ ap (λ (r : Rule). map gist (alternatives no_number r.body)) same; none = refl; neither = refl }
say_alike xs ys (Ok rule) (Err fault) e p q n =
    let d = derives_alike xs ys rule p (alike xs ys (sym e)) in
    no_fault ys ys d.0 fault refl d.1 q
say_alike xs ys (Err fault) other e p q n = absurd (cc (n))

-- ---- blocks

-- of two blocks what matters of their items is the same, and the first says a rule
pub blocks_alike : (block other : Block) → BlockSays block.items block.said → BlockSays other.items other.said → map told_shape block.items ≡ map told_shape other.items
    → fault_shown block.said ≡ None
    → (digest_of block ≡ digest_of other) × (fault_shown other.said ≡ None) × (has_own_findings block ≡ has_own_findings other)
blocks_alike block other p q e n =
    let heads : option_map head_digest (head_of block.items) ≡ option_map head_digest (head_of other.items) =
    head_by_told block.items ∙ (ap told_head e ∙ sym (head_by_told other.items))
    in
    let used : used_names (places_in block.items) ≡ used_names (places_in other.items) =
    used_by_told block.items ∙ (ap (λ l. lower_used (shape_places l)) e ∙ sym (used_by_told other.items))
    in
    let say = say_alike block.items other.items block.said other.said e p q n in
    let shown_same : is_some (fault_shown block.said) ≡ is_some (fault_shown other.said) = ap is_some (say.none ∙ sym say.neither) in
    let empty_same : list_any is_empty_item block.items ≡ list_any is_empty_item other.items =
    empty_by_told block.items ∙ (ap (list_any is_empty_shape) e ∙ sym (empty_by_told other.items))
    in (
      (λ i. record { head = heads i; uses = used i; said = say.gists i }),
      say.neither,
      (λ i. shown_same i || empty_same i),
    )
