-- No two findings of a text have the same line, start and row.
use Rattle.std.proofs.Common.{◌≡◌, ℕ, ◌<◌, ◌≤◌, ◌⊎◌, inl, inr, Bool, true, false, List, [], ◌∷◌, ◌++◌, map, Option, Some, None, Result, Ok, Err, refl, sym, subst, ◌∙◌, arith}
use Rattle.std.specs.Prelude.{if◌then◌else◌, flat_map, not, ◌&&◌}
use Rattle.std.specs.Option.{option_map_or, is_some}
use Rattle.std.specs.List.{AllByRecursion}
use Rattle.std.proofs.lemmas.Option.{none-some, same_Some}
use Rattle.ls_text.specs.declared.position.Place.{Place}
use Rattle.abnf_token.specs.Classes.{Text}
use Rattle.abnf_token.specs.Folded.{lowercase}
use Rattle.abnf_token.specs.declared.token.Kind.{Kind}
use Rattle.abnf_token.specs.declared.token.Kind.TheVariants.{Repeat, Number}
use Rattle.abnf_syntax.specs.declared.block.Head.{Head}
use Rattle.abnf_syntax.specs.declared.item.Item.{Item}
use Rattle.abnf_syntax.specs.declared.fault.SyntaxFault.{SyntaxFault}
use Rattle.abnf_syntax.specs.declared.fault.SyntaxFault.TheVariants as f
use Rattle.abnf_syntax.specs.declared.tree.Rule.{Rule}
use Rattle.abnf_syntax.specs.Kinds.{is_adds, is_defined_as, is_name_kind}
use Rattle.abnf_syntax.specs.Blocks.{AreBlocks}
use Rattle.abnf_syntax.specs.Grammar.{kind_of}
use Rattle.abnf_syntax.specs.Faults.{place_of}
use Rattle.abnf_syntax.specs.Heads.{head_of}
use Rattle.abnf_parts.specs.Leaf.{repeat_limits}
use Rattle.abnf_parts.specs.Names.{Name, rule_number}
use Rattle.abnf_names.specs.Said.{AreWithin, Block, BlockSays, name_of}
use Rattle.abnf_names.specs.Places.{Named, is_touched, use_after}
use Rattle.abnf_names.specs.Excerpts.{excerpt_of}
use Rattle.abnf_names.specs.Shown.{fault_shown}
use Rattle.abnf_names.specs.Rules.{defined}
use Rattle.abnf_names.proofs.Ascending.{Ahead, Point, Run, ahead_behind, ahead_trans, behind, block_run, item_point}
use Rattle.abnf_lint.specs.declared.finding.Code.{Code}
use Rattle.abnf_lint.specs.declared.finding.Code.TheVariants as c
use Rattle.abnf_lint.specs.declared.finding.Finding.{Finding}
use Rattle.abnf_lint.specs.Order.{code_row}
use Rattle.abnf_lint.specs.own.Findings.{based, block_findings, findings_after, has_name, known_of_head, is_marked}
use Rattle.abnf_lint.specs.Found.{body_found, fault_found, finding_if, head_found, is_none_of, item_found, items_found, number_found, said_found, use_found}
use Rattle.abnf_lint.specs.Empty.{is_empty_number}
use Rattle.abnf_lint.proofs.AllFound.{all_by, all_joined, if_all}
use Rattle.abnf_lint.proofs.FaultLines.{FaultWithin, IsAtLine, ItemWithin, fault_within}

-- they differ in line, start or row
abbrev pub Differ : Finding → Finding → Type 0
Differ f g = f.place.line ≡ g.place.line → f.place.start ≡ g.place.start → code_row f.code ≡ code_row g.code → ⊥

-- each differs from all that follow it
abbrev pub AllDiffer : List Finding → Type 0
AllDiffer [] = Unit {0}
AllDiffer (f ∷ fs) = AllByRecursion (Differ f) fs × AllDiffer fs

-- ---- lists

joined : (P Q : Finding → Type 0) (xs ys : List Finding) → ((f g : Finding) → P f → Q g → Differ f g) → AllByRecursion P xs → AllByRecursion Q ys → AllDiffer xs → AllDiffer ys → AllDiffer (xs ++ ys)
joined P Q [] ys apart h k a b = b
joined P Q (x ∷ xs) ys apart h k a b =
    (all_joined (Differ x) xs ys a.0 (all_by Q (Differ x) ys (λ g q. apart x g h.0 q) k), joined P Q xs ys apart h.1 k a.1 b)

if_differ : (b : Bool) (code : Code) (place : Place) (name : List ℕ) → AllDiffer (finding_if b code place name)
if_differ true code place name = (tt, tt)
if_differ false code place name = tt

-- ---- items

abbrev point_of : Finding → Point
point_of f = (f.place.line, f.place.start)

-- at this point, of a use or of a repeat or a number
abbrev IsUseAt : Point → Finding → Type 0
IsUseAt p f = (f.place.line ≡ p.0) × (f.place.start ≡ p.1) × (code_row f.code ≡ 4)

abbrev IsNumberAt : Point → Finding → Type 0
IsNumberAt p f = (f.place.line ≡ p.0) × (f.place.start ≡ p.1) × (6 < code_row f.code) × (code_row f.code < 9)

-- the rows of what a block says
abbrev IsSaid : Finding → Type 0
IsSaid f = (code_row f.code < 5) ⊎ ((6 < code_row f.code) × (code_row f.code < 9))

-- of what a block says, between these points
abbrev IsBetween : Point → Point → Finding → Type 0
IsBetween p q f = Ahead p (point_of f) × Ahead (behind (point_of f)) q × IsSaid f

use_by : (P : Finding → Type 0) (b d : Bool) (n : Named) (g : Named → List Finding) → AllByRecursion P (g n) → AllByRecursion P (flat_map g (if b then [] else (if d then n ∷ [] else [])))
use_by P true d n g h = tt
use_by P false true n g h = all_joined P (g n) [] h tt
use_by P false false n g h = tt

use_all : (names : List Name) (before : Kind) (item : Item) → AllByRecursion (IsUseAt (item_point item)) (flat_map (use_found (is_none_of names)) (use_after before item))
use_all names before item =
    let n : Named = record { text = item.token.text.now; place = place_of item.token; defines = false } in
    use_by (IsUseAt (item_point item)) (is_touched before item) (is_name_kind (kind_of item)) n (use_found (is_none_of names))
    (if_all (IsUseAt (item_point item)) (not (is_some (rule_number names (lowercase n.text)))) c.Undefined n.place n.text (refl, refl, refl))

use_differ_by : (b d : Bool) (n : Named) (g : Named → List Finding) → AllDiffer (g n) → AllDiffer (flat_map g (if b then [] else (if d then n ∷ [] else [])))
use_differ_by true d n g h = tt
use_differ_by false true n g h = joined (λ x. Unit {0}) (λ x. ⊥) (g n) [] (λ x y a b. absurd b) (all_units (g n)) tt h tt
  where
    all_units : (xs : List Finding) → AllByRecursion (λ x. Unit {0}) xs
    all_units [] = tt
    all_units (x ∷ xs) = (tt, all_units xs)
use_differ_by false false n g h = tt

use_differ : (names : List Name) (before : Kind) (item : Item) → AllDiffer (flat_map (use_found (is_none_of names)) (use_after before item))
use_differ names before item =
    let n : Named = record { text = item.token.text.now; place = place_of item.token; defines = false } in
    use_differ_by (is_touched before item) (is_name_kind (kind_of item)) n (use_found (is_none_of names))
    (if_differ (not (is_some (rule_number names (lowercase n.text)))) c.Undefined n.place n.text)

number_all : (kind : Kind) (place : Place) (text : List ℕ) → AllByRecursion (IsNumberAt (place.line, place.start)) (number_found kind place text)
number_all Repeat place text = if_all (IsNumberAt (place.line, place.start)) (is_empty_number Repeat text) c.EmptyRepeat place [] (refl, refl, omega arith, omega arith)
number_all Number place text = if_all (IsNumberAt (place.line, place.start)) (is_empty_number Number text) c.EmptyRange place [] (refl, refl, omega arith, omega arith)
number_all _ place text = tt

number_differ : (kind : Kind) (place : Place) (text : List ℕ) → AllDiffer (number_found kind place text)
number_differ Repeat place text = if_differ (is_empty_number Repeat text) c.EmptyRepeat place []
number_differ Number place text = if_differ (is_empty_number Number text) c.EmptyRange place []
number_differ _ place text = tt

item_differ : (names : List Name) (before : Kind) (item : Item) → AllDiffer (item_found (is_none_of names) before item)
item_differ names before item =
    joined (IsUseAt (item_point item)) (IsNumberAt (item_point item)) (flat_map (use_found (is_none_of names)) (use_after before item)) (number_found (kind_of item) (place_of item.token) item.token.text.now)
    (λ g h a b line start same. omega (arith, a.2, b.2, same))
    (use_all names before item) (number_all (kind_of item) (place_of item.token) item.token.text.now)
    (use_differ names before item) (number_differ (kind_of item) (place_of item.token) item.token.text.now)

-- at the point, of what a block says
abbrev IsAt : Point → Finding → Type 0
IsAt p f = (f.place.line ≡ p.0) × (f.place.start ≡ p.1) × IsSaid f

item_all : (names : List Name) (before : Kind) (item : Item) → AllByRecursion (IsAt (item_point item)) (item_found (is_none_of names) before item)
item_all names before item =
    let uses = flat_map (use_found (is_none_of names)) (use_after before item) in
    let numbers = number_found (kind_of item) (place_of item.token) item.token.text.now in
    all_joined (IsAt (item_point item)) uses numbers
    (all_by (IsUseAt (item_point item)) (IsAt (item_point item)) uses (λ g h. (h.0, h.1, inl (omega (arith, h.2)))) (use_all names before item))
    (all_by (IsNumberAt (item_point item)) (IsAt (item_point item)) numbers (λ g h. (h.0, h.1, inr (h.2, h.3))) (number_all (kind_of item) (place_of item.token) item.token.text.now))

run_ahead : (p q : Point) (xs : List Point) → Run p xs q → Ahead p q
run_ahead p q [] h = h
run_ahead p q (x ∷ xs) h = ahead_trans p x q h.0 (ahead_trans x (behind x) q (ahead_behind x) (run_ahead (behind x) q xs h.1))

at_point : (p q x : Point) (g : Finding) → Ahead p x → Ahead (behind x) q → IsAt x g → IsBetween p q g
at_point p q x g a b at = (moved_by a, moved_back b, at.2)
  where
    moved_by : Ahead p x → Ahead p (point_of g)
    moved_by (inl h) = inl (omega (arith, h, at.0))
    moved_by (inr h) = inr (h.0 ∙ sym at.0, omega (arith, h.1, at.1))

    moved_back : Ahead (behind x) q → Ahead (behind (point_of g)) q
    moved_back (inl h) = inl (omega (arith, h, at.0))
    moved_back (inr h) = inr (at.0 ∙ h.0, omega (arith, h.1, at.1))

-- what stands at a point is apart from what stands behind it
past : (x q : Point) (g h : Finding) → IsAt x g → IsBetween (behind x) q h → Differ g h
past x q g h at b line start same = elim b.0 [
  | inl less ↦ omega (arith, less, at.0, line)
  | inr more ↦ omega (arith, more.1, at.1, start)
]

items_differ : (names : List Name) (before : Kind) (p q : Point) (items : List Item) → Run p (map item_point items) q →
    AllDiffer (items_found (is_none_of names) before items) × AllByRecursion (IsBetween p q) (items_found (is_none_of names) before items)
items_differ names before p q [] h = (tt, tt)
items_differ names before p q (item ∷ items) h =
    let x : Point = item_point item in
    let here = item_found (is_none_of names) before item in
    let rest = items_found (is_none_of names) (kind_of item) items in
    let more = items_differ names (kind_of item) (behind x) q items h.1 in
    let ends : Ahead (behind x) q = run_ahead (behind x) q (map item_point items) h.1 in (
      joined (IsAt x) (IsBetween (behind x) q) here rest (past x q) (item_all names before item) more.1 (item_differ names before item) more.0,
      all_joined (IsBetween p q) here rest
          (all_by (IsAt x) (IsBetween p q) here (λ g at. at_point p q x g h.0 ends at) (item_all names before item))
          (all_by (IsBetween (behind x) q) (IsBetween p q) rest (λ g b. (ahead_trans p (behind x) (point_of g) (ahead_trans p x (behind x) h.0 (ahead_behind x)) b.0, b.1, b.2)) more.1),
    )

body_differ : (names : List Name) (p q : Point) (items : List Item) → Run p (map item_point items) q → AllDiffer (body_found (is_none_of names) items) × AllByRecursion (IsBetween p q) (body_found (is_none_of names) items)
body_differ names p q [] h = (tt, tt)
body_differ names p q (item ∷ items) h =
    let x : Point = item_point item in
    let more = items_differ names (kind_of item) (behind x) q items h.1 in (
      more.0,
      all_by (IsBetween (behind x) q) (IsBetween p q) (items_found (is_none_of names) (kind_of item) items)
          (λ g b. (ahead_trans p (behind x) (point_of g) (ahead_trans p x (behind x) h.0 (ahead_behind x)) b.0, b.1, b.2)) more.1,
    )

-- ---- blocks

-- at one of the lines
abbrev At : ℕ → ℕ → Finding → Type 0
At low high f = IsAtLine low high f.place.line

abbrev SaidAt : ℕ → ℕ → Finding → Type 0
SaidAt low high f = At low high f × IsSaid f

abbrev HeadAt : ℕ → ℕ → Finding → Type 0
HeadAt low high f = At low high f × ((code_row f.code ≡ 5) ⊎ ((code_row f.code ≡ 6) ⊎ (code_row f.code ≡ 9)))

lines_between : (low high : ℕ) (x : Point) → Ahead (low, 0) x → Ahead (behind x) (high, 0) → IsAtLine low high x.0
lines_between low high x a b = (from a, to b)
  where
    from : Ahead (low, 0) x → low ≤ x.0
    from (inl h) = omega (arith, h)
    from (inr h) = omega (arith, h.0)

    to : Ahead (behind x) (high, 0) → x.0 < high
    to (inl h) = h
    to (inr h) = absurd (omega (arith, h.1))

items_within : (low high : ℕ) (p : Point) (items : List Item) → Ahead (low, 0) p → Run p (map item_point items) (high, 0) → AllByRecursion (ItemWithin low high) items
items_within low high p [] a h = tt
items_within low high p (item ∷ items) a h =
    let x : Point = item_point item in
    let there : Ahead (low, 0) x = ahead_trans (low, 0) p x a h.0 in (
      lines_between low high x there (run_ahead (behind x) (high, 0) (map item_point items) h.1),
      items_within low high (behind x) items (ahead_trans (low, 0) x (behind x) there (ahead_behind x)) h.1,
    )

fault_differ : (fault : SyntaxFault) → AllDiffer (fault_found fault)
fault_differ (f.NoName p) = (tt, tt)
fault_differ (f.NoDefinedAs p) = (tt, tt)
fault_differ (f.BadToken p) = (tt, tt)
fault_differ (f.ElementExpected p) = (tt, tt)
fault_differ (f.BlankExpected p) = (tt, tt)
fault_differ (f.Unclosed p) = (tt, tt)
fault_differ (f.NumberTooLarge p) = (tt, tt)
fault_differ (f.TooDeep p) = (tt, tt)
fault_differ f.Memory = tt

fault_all : (low high : ℕ) (fault : SyntaxFault) → FaultWithin low high fault → AllByRecursion (SaidAt low high) (fault_found fault)
fault_all low high (f.NoName p) h = ((h, inl (omega arith)), tt)
fault_all low high (f.NoDefinedAs p) h = ((h, inl (omega arith)), tt)
fault_all low high (f.BadToken p) h = ((h, inl (omega arith)), tt)
fault_all low high (f.ElementExpected p) h = ((h, inl (omega arith)), tt)
fault_all low high (f.BlankExpected p) h = ((h, inl (omega arith)), tt)
fault_all low high (f.Unclosed p) h = ((h, inl (omega arith)), tt)
fault_all low high (f.NumberTooLarge p) h = ((h, inl (omega arith)), tt)
fault_all low high (f.TooDeep p) h = ((h, inl (omega arith)), tt)
fault_all low high f.Memory h = tt

said_differ : (names : List Name) (low high : ℕ) (items : List Item) (said : Result Rule SyntaxFault) → Run (low, 0) (map item_point items) (high, 0) → BlockSays items said →
    (let found = said_found (is_none_of names) items (fault_shown said) in AllDiffer found × AllByRecursion (SaidAt low high) found)
said_differ names low high items (Ok rule) run says =
    let both = body_differ names (low, 0) (high, 0) items run in
    (both.0, all_by (IsBetween (low, 0) (high, 0)) (SaidAt low high) (body_found (is_none_of names) items) (λ g b. (lines_between low high (point_of g) b.0 b.1, b.2)) both.1)
said_differ names low high items (Err fault) run says =
    (fault_differ fault, fault_all low high fault (fault_within low high items fault (items_within low high (low, 0) items (inr (refl, omega arith)) run) says))

heads_differ : (marks : List Bool) (names heads bases : List Name) (low high : ℕ) (head : Head) → IsAtLine low high head.name.line →
    AllDiffer (head_found (known_of_head marks names heads bases head) head) × AllByRecursion (HeadAt low high) (head_found (known_of_head marks names heads bases head) head)
heads_differ marks names heads bases low high head at =
    let name = name_of head in
    let place = place_of head.name in
    let b1 = not head.adds && has_name bases name in
    let b2 = head.adds && not (has_name bases name) in
    let b3 = not (has_name heads name) && is_marked marks names name in
    let xs = finding_if b1 c.Duplicate place head.name.text.now in
    let ys = finding_if b2 c.NoBase place head.name.text.now in
    let zs = finding_if b3 c.Unproductive place head.name.text.now in
    let xs_row : AllByRecursion (λ g. code_row g.code ≡ 5) xs = if_all (λ g. code_row g.code ≡ 5) b1 c.Duplicate place head.name.text.now refl in
    let ys_row : AllByRecursion (λ g. code_row g.code ≡ 6) ys = if_all (λ g. code_row g.code ≡ 6) b2 c.NoBase place head.name.text.now refl in
    let zs_row : AllByRecursion (λ g. code_row g.code ≡ 9) zs = if_all (λ g. code_row g.code ≡ 9) b3 c.Unproductive place head.name.text.now refl in
    let early : AllByRecursion (λ g. code_row g.code < 9) (xs ++ ys) =
    all_joined (λ g. code_row g.code < 9) xs ys (all_by (λ g. code_row g.code ≡ 5) (λ g. code_row g.code < 9) xs (λ g e. omega (arith, e)) xs_row) (all_by (λ g. code_row g.code ≡ 6) (λ g. code_row g.code < 9) ys (λ g e. omega (arith, e)) ys_row) in (
      joined (λ g. code_row g.code < 9) (λ g. code_row g.code ≡ 9) (xs ++ ys) zs (λ g h a b line start same. omega (arith, a, b, same)) early zs_row
          (joined (λ g. code_row g.code ≡ 5) (λ g. code_row g.code ≡ 6) xs ys (λ g h a b line start same. omega (arith, a, b, same)) xs_row ys_row (if_differ b1 c.Duplicate place head.name.text.now) (if_differ b2 c.NoBase place head.name.text.now))
          (if_differ b3 c.Unproductive place head.name.text.now),
      all_joined (HeadAt low high) (xs ++ ys) zs
          (all_joined (HeadAt low high) xs ys (if_all (HeadAt low high) b1 c.Duplicate place head.name.text.now (at, inl refl)) (if_all (HeadAt low high) b2 c.NoBase place head.name.text.now (at, inr (inl refl))))
          (if_all (HeadAt low high) b3 c.Unproductive place head.name.text.now (at, inr (inr refl))),
    )

-- a head is the name of the first item
head_within : (low high : ℕ) (items : List Item) (head : Head) → AllByRecursion (ItemWithin low high) items → head_of items ≡ Some head → IsAtLine low high head.name.line
head_within low high [] head all is = absurd (none-some head is)
head_within low high (first ∷ []) head all is = absurd (none-some head is)
head_within low high (first ∷ second ∷ items) head all is = by (is_name_kind (kind_of first) && is_defined_as (kind_of second)) is
  where
    by : (b : Bool) → (if b then Some (record { name = first.token; adds = is_adds (kind_of second) }) else None) ≡ Some head → IsAtLine low high head.name.line
    by true e = subst (λ (h : Head). IsAtLine low high h.name.line) (same_Some (record { name = first.token; adds = is_adds (kind_of second) }) head e) all.0
    by false e = absurd (none-some head e)

head_differ : (marks : List Bool) (names heads bases : List Name) (low high : ℕ) (items : List Item) (o : Option Head) → AllByRecursion (ItemWithin low high) items → head_of items ≡ o →
    (let found = option_map_or (λ head. head_found (known_of_head marks names heads bases head) head) o [] in AllDiffer found × AllByRecursion (HeadAt low high) found)
head_differ marks names heads bases low high items None all is = (tt, tt)
head_differ marks names heads bases low high items (Some head) all is = heads_differ marks names heads bases low high head (head_within low high items head all is)

head_or_said : (low high : ℕ) (g h : Finding) → HeadAt low high g → SaidAt low high h → Differ g h
head_or_said low high g h b a line start same = elim a.1 [
  | inl x ↦ elim b.1 [ inl y ↦ omega (arith, x, y, same) | inr z ↦ elim z [ inl y ↦ omega (arith, x, y, same) | inr y ↦ omega (arith, x, y, same) ] ]
  | inr x ↦ elim b.1 [ inl y ↦ omega (arith, x.0, x.1, y, same) | inr z ↦ elim z [ inl y ↦ omega (arith, x.0, x.1, y, same) | inr y ↦ omega (arith, x.0, x.1, y, same) ] ]
]

block_differ : (marks : List Bool) (names heads bases : List Name) (low high : ℕ) (block : Block) → Run (low, 0) (map item_point block.items) (high, 0) → BlockSays block.items block.said →
    AllDiffer (block_findings marks names heads bases (excerpt_of block)) × AllByRecursion (At low high) (block_findings marks names heads bases (excerpt_of block))
block_differ marks names heads bases low high block run says =
    let items_in = items_within low high (low, 0) block.items (inr (refl, omega arith)) run in
    let said = said_differ names low high block.items block.said run says in
    let head = head_differ marks names heads bases low high block.items (head_of block.items) items_in refl in
    let xs = option_map_or (λ head. head_found (known_of_head marks names heads bases head) head) (head_of block.items) [] in
    let ys = said_found (is_none_of names) block.items (fault_shown block.said) in (
      joined (HeadAt low high) (SaidAt low high) xs ys (head_or_said low high) head.1 said.1 head.0 said.0,
      all_joined (At low high) xs ys (all_by (HeadAt low high) (At low high) xs (λ g h. h.0) head.1) (all_by (SaidAt low high) (At low high) ys (λ g h. h.0) said.1),
    )

-- from this line on
abbrev From : ℕ → Finding → Type 0
From low f = low ≤ f.place.line

pub blocks_differ : (marks : List Bool) (names : List Name) (ls : List Text) (from : ℕ) (repeat_limits : List (ℕ × ℕ)) (before blocks : List Block) → AreBlocks ls from repeat_limits → AreWithin ls repeat_limits blocks →
    AllDiffer (findings_after marks names before blocks) × AllByRecursion (From from) (findings_after marks names before blocks)
blocks_differ marks names ls from [] before [] all each = (tt, tt)
blocks_differ marks names ls from [] before (block ∷ blocks) all each = absurd each
blocks_differ marks names ls from (b ∷ repeat_limits) before [] all each = absurd each
blocks_differ marks names ls from (b ∷ repeat_limits) before (block ∷ blocks) all each =
    let own = block_differ marks names (defined before) (based before) b.0 b.1 block (block_run ls b.0 b.1 block.items each.0.items) each.0.says in
    let rest = blocks_differ marks names ls b.1 repeat_limits (before ++ block ∷ []) blocks all.3 each.1 in
    let xs = block_findings marks names (defined before) (based before) (excerpt_of block) in
    let ys = findings_after marks names (before ++ block ∷ []) blocks in
    let first : b.0 < b.1 = all.2.some in
    let start : from ≤ b.0 = all.0 in (
      joined (At b.0 b.1) (From b.1) xs ys (λ g h a k line at same. omega (arith, a.1, k, line)) own.1 rest.1 own.0 rest.0,
      all_joined (From from) xs ys (all_by (At b.0 b.1) (From from) xs (λ g a. omega (arith, start, a.0)) own.1) (all_by (From b.1) (From from) ys (λ g k. omega (arith, start, first, k)) rest.1),
    )
