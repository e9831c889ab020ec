-- Where each node is sound, nothing is found at the items of a block that counts.
use Rattle.std.proofs.Common.{◌≡◌, ◌∙◌, ◌<◌, ◌+◌, ◌-◌, ℕ, zero, suc, Bool, true, false, List, [], ◌∷◌, ◌++◌, ◌⊎◌, inl, inr, length, nat_lt, take, drop, get_or, map, refl, sym, ap, subst, arith, append_assoc, append-nil, length-append, length-drop}
use Rattle.std.specs.Prelude.{All, Contains, not, ◌||◌, filter, flat_map, min, IsTrue, slice_get, slice_index_or, Option, Some, None, option_map, Result, Ok, Err, if◌then◌else◌}
use Rattle.std.specs.List.{list_all}
use Rattle.std.specs.Option.{is_some, option_map_or}
use Rattle.std.specs.Str.{bytes_eq}
use Rattle.std.proofs.lemmas.List.Elements.{All-contains, Contains-append_right, filter-append}
use Rattle.std.proofs.Math.ListN.{get_or-append}
use Rattle.std.proofs.lemmas.Bool.{cases_lt, not-true, true_from_ne_false}
use Rattle.std.proofs.lemmas.List.{get_or-append-add, get_or-drop, get_or-map, get_or-take, length-map, length-take}
use Rattle.std.proofs.lemmas.List.Folds.{list_all_at}
use Rattle.std.proofs.lemmas.List.Quantifiers.{position-Some}
use Rattle.std.proofs.lemmas.Option.{get_or_from_slice_get, slice_get_within, slice_get-get_or}
use Rattle.ls_text.specs.declared.position.Place.{Place}
use Rattle.abnf_token.specs.declared.token.Kind.{Kind}
use Rattle.abnf_token.specs.declared.token.Kind.TheVariants as k
use Rattle.abnf_token.specs.Folded.{lowercase}
use Rattle.abnf_syntax.specs.declared.block.Head.{Head}
use Rattle.abnf_syntax.specs.declared.fault.SyntaxFault.{SyntaxFault}
use Rattle.abnf_syntax.specs.declared.item.Item.{Item}
use Rattle.abnf_syntax.specs.declared.tree.Rule.{Rule}
use Rattle.abnf_syntax.specs.Faults.{place_of}
use Rattle.abnf_syntax.specs.Grammar.{kind_of, Derives}
use Rattle.abnf_syntax.specs.Heads.{head_of}
use Rattle.abnf_syntax.specs.Kinds.{is_name_kind}
use Rattle.abnf_parts.specs.declared.node.Node.{Node}
use Rattle.abnf_parts.specs.Names.{Name, rule_number}
use Rattle.abnf_parts.specs.Leaf.{repeat_limits, ends_of, number_part}
use Rattle.abnf_parts.specs.Nodes.{AreNodes, IsNode}
use Rattle.abnf_parts.specs.Core.{core_name}
use Rattle.abnf_parts.specs.Part.{Part, quoted, series, span, seq, alt, rep, ref, opaque, subparts, all_subparts, parts_of, root_number}
use Rattle.abnf_parts.specs.Tree.{parts, alternatives}
use Rattle.abnf_parts.proofs.NameLaws.{never, same_is, same_refl}
use Rattle.abnf_names.specs.declared.section.Section.{Section}
use Rattle.abnf_names.specs.Excerpts.{Excerpt, HasSections, excerpt, excerpt_of}
use Rattle.abnf_names.specs.Shown.{fault_shown}
use Rattle.abnf_names.specs.Places.{is_touched, named}
use Rattle.abnf_names.specs.Rules.{Grammar, adds, alternatives_said, core_tree, counted, defined, defines, names_of, needed, rule_tree, rules_of, said_alternatives}
use Rattle.abnf_names.specs.Said.{Block, BlockSays, name_of}
use Rattle.abnf_names.proofs.Kept.{each_says}
use Rattle.abnf_names.proofs.UsersLaws.{cut, next_root}
use Rattle.abnf_lint.specs.declared.finding.Code.TheVariants as c
use Rattle.abnf_lint.specs.own.Findings.{based, has_name}
use Rattle.abnf_lint.specs.Found.{body_found, fault_found, finding_if, is_none_of, item_found, items_found, number_found, use_found}
use Rattle.abnf_lint.specs.Empty.{is_above, is_empty_number, is_turned}
use Rattle.abnf_lint.specs.own.Passes.{AreSoundMarks, AreSoundWhereMarked, IsSoundRule, IsSoundWhereMarked, counts, is_sound, is_sound_part}
use Rattle.abnf_lint.proofs.Behind.{bases_more}
use Rattle.abnf_lint.proofs.Heads.{bases_is, defines_is, from_has}
use Rattle.abnf_lint.proofs.Member.{filter_in, first_in, flat_in, in_filter, later_in}
use Rattle.abnf_lint.proofs.Refers.{Among, TellsBy, below, is_told, items_told}

is_a_name : (kind : Kind) → is_name_kind kind ≡ true → kind ≡ k.Name
is_a_name k.Name h = refl
is_a_name _ h = absurd (cc h)

-- ---- the nodes

node_sound : (n : ℕ) (p : Part) (node : Node) → IsNode n p node → is_sound node ≡ is_sound_part p
node_sound n (quoted text exact) node h = ap is_sound h.1
node_sound n (series characters) node h = ap is_sound h
node_sound n (span low high) node h = ap is_sound h
node_sound n (seq ps) node h = ap is_sound h
node_sound n (alt ps) node h = ap is_sound h
node_sound n (rep least most p) node h = ap is_sound h
node_sound n (ref name None) node h = ap is_sound h.1
node_sound n (ref name (Some r)) node h = ap is_sound h.1
node_sound n opaque node h = ap is_sound h

-- the nodes of a rule are its parts
pub rule_sound : (rules : List Part) (nodes : List Node) → AreNodes rules nodes → (r start end : ℕ) → start ≡ root_number rules r → end ≡ root_number rules (suc r)
    → list_all is_sound (take (end - start) (drop start nodes)) ≡ true → IsSoundRule rules r
rule_sound rules nodes are r start end at_start at_end e tree is p c =
    let front = parts_of (take r rules) in
    let k = c.0 in
    let split = cut rules r tree is in
    let size = next_root rules r tree is in
    let at : start + k ≡ length front + k = ap (λ n. n + k) at_start in
    let here : get_or (parts_of rules) (start + k) p ≡ p =
    (λ i. get_or (split.1 i) (at i) p) ∙ (get_or-append-add front (subparts tree ++ split.0) k p ∙ (get_or-append (subparts tree) split.0 p k c.1 ∙ c.2)) in
    let all : length (parts_of rules) ≡ length front + length (subparts tree ++ split.0) = ap length split.1 ∙ length-append front (subparts tree ++ split.0) in
    let more : length (subparts tree ++ split.0) ≡ length (subparts tree) + length split.0 = length-append (subparts tree) split.0 in
    let low : k < length (subparts tree) = c.1 in
    let within : start + k < length (parts_of rules) = omega (arith, at, all, more, low) in
    let one = are.each (start + k) p (slice_get-get_or (parts_of rules) (start + k) p within ∙ ap Some here) in
    true_from_ne_false (is_sound_part p) (λ bad.
    let unsound : is_sound one.0 ≡ false = node_sound (start + k) p one.0 one.2 ∙ bad in
    let behind : start + k < length nodes = slice_get_within nodes (start + k) one.0 one.1 in
    let few : k < end - start = omega (arith, at_start, at_end, size, low) in
    let dropped : length (drop start nodes) ≡ length nodes - start = length-drop start nodes in
    let left : k < length (drop start nodes) = omega (arith, behind, dropped) in
    let taken : length (take (end - start) (drop start nodes)) ≡ min (end - start) (length (drop start nodes)) = length-take (end - start) (drop start nodes) in
    let short : k < length (take (end - start) (drop start nodes)) = omega (arith, taken, few, left) in
    let node_is : get_or (take (end - start) (drop start nodes)) k one.0 ≡ one.0 =
    get_or-take (end - start) (drop start nodes) k one.0 few ∙ (get_or-drop start nodes k one.0 ∙ get_or_from_slice_get nodes (start + k) one.0 one.0 one.1) in
    let none = list_all_at is_sound (take (end - start) (drop start nodes)) k one.0 short (ap is_sound node_is ∙ unsound) in
    never (list_all is_sound (take (end - start) (drop start nodes))) e none)

-- ---- the marks

more_marked : (P : ℕ → Type 0) (marks : List Bool) (b : Bool) → ((k : ℕ) → slice_index_or marks k false ≡ true → P k) → (b ≡ true → P (length marks)) → (k : ℕ) → slice_index_or (marks ++ b ∷ []) k false ≡ true → P k
more_marked P [] b each here zero e = here e
more_marked P [] b each here (suc k) e = absurd (cc e)
more_marked P (m ∷ marks) b each here zero e = each 0 e
more_marked P (m ∷ marks) b each here (suc k) e = more_marked (λ n. P (suc n)) marks b (λ n h. each (suc n) h) (λ h. at_last (length marks) (here h)) k e
  where
    at_last : (n : ℕ) → P (length (m ∷ marks)) → P (suc (length marks))
    at_last n h = h

pub marked_more : (rules : List Part) (marks now : List Bool) (r : ℕ) (b : Bool) → length marks ≡ r → AreSoundMarks rules marks → (IsTrue b → IsSoundRule rules r) → now ≡ marks ++ b ∷ []
    → (length now ≡ r + 1) × AreSoundMarks rules now
marked_more rules marks now r b len are sound is =
    let whole : length (marks ++ b ∷ []) ≡ length marks + 1 = length-append marks (b ∷ []) in (
      ap length is ∙ (whole ∙ ap (λ n. n + 1) len),
      subst (AreSoundMarks rules) (sym is) (more_marked (λ k. IsSoundRule rules k) marks b are (λ h. subst (λ k. IsSoundRule rules k) (sym len) (sound h))),
    )

pub none_marked : (rules : List Part) → AreSoundMarks rules []
none_marked rules r e = absurd (cc e)

-- ---- the items

range_sound : (p : Part) → is_sound_part p ≡ true → is_turned (ends_of p) ≡ false
range_sound (span low high) e = not-true (nat_lt high low) e
range_sound (quoted text exact) e = refl
range_sound (series characters) e = refl
range_sound (seq ps) e = refl
range_sound (alt ps) e = refl
range_sound (rep least most p) e = refl
range_sound (ref name rule) e = refl
range_sound opaque e = refl

repeat_sound : (b : ℕ × Option ℕ) (p : Part) → is_sound_part (rep b.0 b.1 p) ≡ true → is_above b.0 b.1 ≡ false
repeat_sound b p e = not-true (is_above b.0 b.1) e

found_none : (o : Option ℕ) (place : Place) (text : List ℕ) → (o ≡ None → ⊥) → finding_if (not (is_some o)) c.Undefined place text ≡ []
found_none None place text known = absurd (known refl)
found_none (Some r) place text known = refl

never_unsound : (name : List ℕ) (o : Option ℕ) → is_sound_part (ref name o) ≡ true → o ≡ None → ⊥
never_unsound name None e h = absurd (cc e)
never_unsound name (Some r) e h = absurd (cc h)

module _ (names : List Name) where
  abbrev stands_for : Name → Option ℕ
  stands_for = rule_number names

  -- nothing is found at the item, whatever stands before it
  abbrev IsSilent : Item → Type 0
  IsSilent item = (before : Kind) → item_found (is_none_of names) before item ≡ []

  named_none : (b : Bool) (item : Item) → (b ≡ true → stands_for (lowercase item.token.text.now) ≡ None → ⊥)
      → flat_map (use_found (is_none_of names)) (if b then record { text = item.token.text.now; place = place_of item.token; defines = false } ∷ [] else []) ≡ []
  named_none false item known = refl
  named_none true item known = append-nil _ ∙ found_none (stands_for (lowercase item.token.text.now)) (place_of item.token) item.token.text.now (known refl)

  use_none : (b : Bool) (item : Item) → (is_name_kind (kind_of item) ≡ true → stands_for (lowercase item.token.text.now) ≡ None → ⊥) → flat_map (use_found (is_none_of names)) (if b then [] else named false item) ≡ []
  use_none true item known = refl
  use_none false item known = named_none (is_name_kind (kind_of item)) item known

  number_none : (kind : Kind) (place : Place) (text : List ℕ) → (kind ≡ k.Repeat → is_empty_number k.Repeat text ≡ false) → (kind ≡ k.Number → is_empty_number k.Number text ≡ false)
      → number_found kind place text ≡ []
  number_none k.Repeat place text counts ranges = ap (λ b. finding_if b c.EmptyRepeat place []) (counts refl)
  number_none k.Number place text counts ranges = ap (λ b. finding_if b c.EmptyRange place []) (ranges refl)
  number_none _ place text counts ranges = refl

  silent : (item : Item) → (is_name_kind (kind_of item) ≡ true → stands_for (lowercase item.token.text.now) ≡ None → ⊥)
      → (kind_of item ≡ k.Repeat → is_empty_number k.Repeat item.token.text.now ≡ false) → (kind_of item ≡ k.Number → is_empty_number k.Number item.token.text.now ≡ false) → IsSilent item
  silent item known counts ranges before =
      (λ i. use_none (is_touched before item) item known i ++ number_none (kind_of item) (place_of item.token) item.token.text.now counts ranges i)

  items_silent : (before : Kind) (items : List Item) → ((item : Item) → Contains items item → IsSilent item) → items_found (is_none_of names) before items ≡ []
  items_silent before [] all = refl
  items_silent before (x ∷ xs) all = (λ i. all x (first_in x xs) before i ++ items_silent (kind_of x) xs (λ y m. all y (later_in x xs y m)) i)

-- ---- the blocks that count

if_based : (x : Block) (before after : List Block) (b : Block) (a : Bool) → adds x ≡ a → (adds b ≡ true) ⊎ (adds x ≡ true) → Contains (counted (before ++ b ∷ after)) b
    → Contains (if a then counted (before ++ b ∷ after) else filter adds (before ++ b ∷ after)) b
if_based x before after b true e h rest = rest
if_based x before after b false e h rest = elim h [
  | inl so ↦ filter_in adds (before ++ b ∷ after) b (Contains-append_right before (b ∷ after) b (first_in b after)) so
  | inr so ↦ never (adds x) so e
]

counted_in : (before : List Block) (b : Block) (after : List Block) → ((x : Block) → Contains before x → (adds b ≡ true) ⊎ (adds x ≡ true)) → Contains (counted (before ++ b ∷ after)) b
counted_in [] b after h = first_in b _
counted_in (x ∷ before) b after h =
    later_in x _ b (if_based x before after b (adds x) refl (h x (first_in x before)) (counted_in before b after (λ y m. h y (later_in x before y m))))

-- it adds, or none before it defines its name with `=`
counts_by : (bases : List Name) (o : Option Head) → option_map_or (λ head. head.adds || not (has_name bases (name_of head))) o false ≡ true
    → (head : Head) × (o ≡ Some head) × ((head.adds ≡ true) ⊎ (has_name bases (name_of head) ≡ false))
counts_by bases None e = absurd (cc e)
counts_by bases (Some head) e = (head, refl, either head.adds (has_name bases (name_of head)) e)
  where
    either : (a b : Bool) → (a || not b) ≡ true → (a ≡ true) ⊎ (b ≡ false)
    either true b e = inl refl
    either false b e = inr (not-true b e)

one_head : (a b : Head) → Some a ≡ Some b → a ≡ b
one_head a b e = cc e

defines_by : (name : Name) (o : Option Head) → option_map_or (λ head. bytes_eq (name_of head) name) o false ≡ true → option_map name_of o ≡ Some name
defines_by name None e = absurd (cc e)
defines_by name (Some head) e = ap Some (same_is (name_of head) name e)

either_adds : (before : List Block) (b : Block) (name : Name) → (adds b ≡ true) ⊎ (has_name (based before) name ≡ false) → (x : Block) → Contains (filter (defines name) before) x → (a : Bool) → adds x ≡ a
    → (adds b ≡ true) ⊎ (adds x ≡ true)
either_adds before b name h x m true e = inr e
either_adds before b name h x m false e = elim h [
  | inl so ↦ inl so
  | inr none ↦ let k = in_filter (defines name) before x m in
      never (has_name (based before) name) ((bases_is before name).1 (x, k.0, defines_by name (head_of x.items) k.1, e)) none
]

kept_first : (name : Name) (b : Block) (after : List Block) (a : Bool) → a ≡ true → (if a then b ∷ filter (defines name) after else filter (defines name) after) ≡ b ∷ filter (defines name) after
kept_first name b after true e = refl
kept_first name b after false e = absurd (cc e)

-- a block that counts is among those whose alternatives make up its name's rule
counted_there : (before : List Block) (b : Block) (after : List Block) (head : Head) → head_of b.items ≡ Some head → (head.adds ≡ true) ⊎ (has_name (based before) (name_of head) ≡ false)
    → Contains (counted (filter (defines (name_of head)) (before ++ b ∷ after))) b
counted_there before b after head e h =
    let name = name_of head in
    let here : defines name b ≡ true = ap (λ o. option_map_or (λ head. bytes_eq (name_of head) name) o false) e ∙ same_refl name in
    let split : filter (defines name) (before ++ b ∷ after) ≡ filter (defines name) before ++ b ∷ filter (defines name) after =
    filter-append (defines name) before (b ∷ after) ∙ ap (λ bs. filter (defines name) before ++ bs) (kept_first name b after (defines name b) here) in
    let added : adds b ≡ head.adds = ap (λ o. option_map_or (λ head. head.adds) o false) e in
    let either : (adds b ≡ true) ⊎ (has_name (based before) name ≡ false) = elim h [ inl so ↦ inl (added ∙ so) | inr none ↦ inr none ] in
    subst (λ bs. Contains (counted bs) b) (sym split)
    (counted_in (filter (defines name) before) b (filter (defines name) after) (λ x m. either_adds before b name either x m (adds x) refl))

-- ---- all blocks

module _ (blocks : List Block) (says : All (λ block. BlockSays block.items block.said) blocks) (marks : List Bool) (sound : AreSoundMarks (rules_of blocks) marks) where
  abbrev names : List Name
  names = names_of blocks

  abbrev number : Name → Option ℕ
  number = rule_number names

  -- the tree of a name's rule is at its number
  tree_at : (name : Name) → Contains (defined blocks) name → (r : ℕ) → number name ≡ Some r → slice_get (rules_of blocks) r ≡ Some (rule_tree blocks name)
  tree_at name h r e =
      let own = defined blocks in
      let trees = map (rule_tree blocks) own in
      let first = position-Some (bytes_eq name) names r name e in
      let at : get_or names r name ≡ name = sym (same_is name (get_or names r name) first.1) in
      let k = h.0 in
      let there : get_or names k name ≡ name = get_or-append own (map core_name (needed blocks)) name k h.1 ∙ h.2 in
      let within : r < length own = elim (cases_lt k r) [
        | inl before ↦ never (bytes_eq name (get_or names k name)) (subst (λ n. bytes_eq name n ≡ true) (sym there) (same_refl name)) (first.2 k before)
        | inr behind ↦ let low : k < length own = h.1 in omega (arith, low, behind)
      ] in
      let here : get_or own r name ≡ name = sym (get_or-append own (map core_name (needed blocks)) name r within) ∙ at in
      let size : length trees ≡ length own = length-map own (rule_tree blocks) in
      let inside : r < length trees = omega (arith, size, within) in
      let cores = map (core_tree blocks) (needed blocks) in
      let whole : length (trees ++ cores) ≡ length trees + length cores = length-append trees cores in
      slice_get-get_or (rules_of blocks) r (rule_tree blocks name) (omega (arith, whole, inside))
      ∙ ap Some (get_or-append trees cores (rule_tree blocks name) r inside ∙ (get_or-map (rule_tree blocks) own r name (rule_tree blocks name) within ∙ ap (rule_tree blocks) here))

  -- the parts that tell of the items in a block that counts are sound
  part_sound : (b : Block) (name : Name) → Contains (defined blocks) name → (r : ℕ) → number name ≡ Some r → slice_index_or marks r false ≡ true → Contains (counted (filter (defines name) blocks)) b → (rule : Rule) → b.said ≡ Ok rule
      → (item : Item) (among : Among number (alternatives number rule.body) item) → is_sound_part among.2.own ≡ true
  part_sound b name h r of_name marked counts rule said item among =
      let part = among.2.own in
      let mine : Contains (said_alternatives number b) among.0 = subst (λ r. Contains (alternatives_said number r) among.0) (sym said) among.1 in
      let all = flat_map (said_alternatives number) (counted (filter (defines name) blocks)) in
      let there : Contains all among.0 = flat_in (said_alternatives number) (counted (filter (defines name) blocks)) b among.0 counts mine in
      let inside : Contains (subparts (rule_tree blocks name)) part = later_in (alt (parts all)) (all_subparts (parts all)) part (below all among.0 part there among.2.below) in
      sound r marked (rule_tree blocks name) (tree_at name h r of_name) part inside

  -- nothing is found at such an item
  by_kind : (item : Item) → ((h : is_told (kind_of item) ≡ true) → (x : Part) × TellsBy number (kind_of item) item x × (is_sound_part x ≡ true)) → IsSilent names item
  by_kind item tells = silent names item
      (λ named none. let t = tells_of k.Name (is_a_name (kind_of item) named) refl in
      never_unsound item.token.text.now (number (lowercase item.token.text.now)) (ap is_sound_part (sym t.1) ∙ t.2) none)
      (λ e. let t = tells_of k.Repeat e refl in repeat_sound (repeat_limits item.token.text.now) t.1.0 (ap is_sound_part (sym t.1.1) ∙ t.2))
      (λ e. let t = tells_of k.Number e refl in range_sound (number_part item.token.text.now) (ap is_sound_part (sym t.1) ∙ t.2))
    where
      tells_of : (kind : Kind) → kind_of item ≡ kind → is_told kind ≡ true → (x : Part) × TellsBy number kind item x × (is_sound_part x ≡ true)
      tells_of kind e told = subst (λ n. (x : Part) × TellsBy number n item x × (is_sound_part x ≡ true)) e (tells (ap is_told e ∙ told))

  of_said : (b : Block) (name : Name) → Contains (defined blocks) name → (r : ℕ) → number name ≡ Some r → slice_index_or marks r false ≡ true → Contains (counted (filter (defines name) blocks)) b → BlockSays b.items b.said → (r : Result Rule SyntaxFault) → b.said ≡ r → fault_shown r ≡ None
      → body_found (is_none_of names) b.items ≡ []
  of_said b name h r of_name marked counts said (Err fault) e shown = absurd (cc shown)
  of_said b name h r of_name marked counts said (Ok rule) e shown =
      let d : Derives b.items rule = subst (BlockSays b.items) e said in
      subst (λ xs. body_found (is_none_of names) xs ≡ []) (sym d.split)
      (items_silent names (kind_of d.head) (d.defined ∷ d.body) (λ item m.
      by_kind item (λ told.
      let among = items_told number b.items rule d item told m in
      (among.2.own, among.2.tells, part_sound b name h r of_name marked counts rule e item among))))

  one_sound : (before : List Block) (b : Block) (after : List Block) → blocks ≡ before ++ b ∷ after → IsSoundWhereMarked marks names (based before) (excerpt_of b)
  one_sound before b after split e headed headed_is r of_name marked none =
      let c = counts_by (based before) (head_of b.items) e in
      let name = name_of c.0 in
      let among : Contains blocks b = subst (λ bs. Contains bs b) (sym split) (Contains-append_right before (b ∷ after) b (first_in b after)) in
      let has : Contains (defined blocks) name = from_has (defined blocks) name ((defines_is blocks name).1 (b, among, ap (option_map name_of) c.1)) in
      let there : Contains (counted (filter (defines name) blocks)) b = subst (λ bs. Contains (counted (filter (defines name) bs)) b) (sym split) (counted_there before b after c.0 c.1 c.2) in
      ap (λ fault. option_map_or fault_found fault (body_found (is_none_of names) b.items)) none
      ∙ of_said b name has r (subst (λ (h : Head). number (name_of h) ≡ Some r) (one_head headed c.0 (sym headed_is ∙ c.1)) of_name) marked there (All-contains (λ block. BlockSays block.items block.said) blocks b says among) b.said refl none

  from_block : (before after : List Block) → blocks ≡ before ++ after → AreSoundWhereMarked marks names (based before) (map excerpt_of after)
  from_block before [] split = tt
  from_block before (b ∷ after) split = (
    one_sound before b after split,
    subst (λ bases. AreSoundWhereMarked marks names bases (map excerpt_of after)) (bases_more before b) (from_block (before ++ b ∷ []) after (split ∙ sym (append_assoc before (b ∷ []) after))),
  )

pub all_blocks_sound : (g : Grammar) (sections : List Section) → HasSections g sections → (marks : List Bool) → AreSoundMarks g.rules marks → AreSoundWhereMarked marks g.names [] (map excerpt sections)
all_blocks_sound g sections h marks sound =
    let rules_sound : AreSoundMarks (rules_of h.blocks) marks = subst (λ (rs : List Part). AreSoundMarks rs marks) (ap (λ (x : Grammar). x.rules) h.is) sound in
    let all : AreSoundWhereMarked marks (names_of h.blocks) [] (map excerpt_of h.blocks) =
    from_block h.blocks (each_says _ h.of_text.bounds h.blocks h.of_text.each) marks rules_sound [] h.blocks refl in
    subst (λ (ns : List Name). AreSoundWhereMarked marks ns [] (map excerpt sections)) (sym (ap (λ (x : Grammar). x.names) h.is))
    (subst (λ (os : List Excerpt). AreSoundWhereMarked marks (names_of h.blocks) [] os) (sym h.excerpts) all)
