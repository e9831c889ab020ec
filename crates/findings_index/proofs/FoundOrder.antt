-- What is found in a block is found in order.
use Rattle.std.proofs.Common.{◌≡◌, ℕ, ◌<◌, Bool, true, false, List, [], ◌∷◌, ◌++◌, inl, inr, map, Option, Some, None, Result, Ok, Err, refl, sym, ap, subst, ◌∙◌, arith}
use Rattle.std.specs.Prelude.{◌&&◌, flat_map, if◌then◌else◌}
use Rattle.std.specs.List.{AllByRecursion}
use Rattle.std.specs.Option.{option_map_or}
use Rattle.ls_text.specs.declared.position.Place.{Place}
use Rattle.abnf_token.specs.declared.token.Kind.{Kind}
use Rattle.abnf_token.specs.declared.token.Kind.TheVariants.{Repeat, Number}
use Rattle.abnf_token.specs.declared.token.Token.{Token}
use Rattle.abnf_token.specs.Folded.{lowercase}
use Rattle.abnf_syntax.specs.declared.block.Head.{Head}
use Rattle.abnf_syntax.specs.declared.item.Item.{Item}
use Rattle.abnf_syntax.specs.declared.fault.SyntaxFault.{SyntaxFault}
use Rattle.abnf_syntax.specs.declared.fault.SyntaxFault.TheVariants as f
use Rattle.abnf_syntax.specs.declared.tree.Rule.{Rule}
use Rattle.abnf_syntax.specs.Kinds.{is_name_kind}
use Rattle.abnf_syntax.specs.Grammar.{kind_of}
use Rattle.abnf_syntax.specs.Faults.{place_of}
use Rattle.abnf_syntax.specs.Heads.{head_of}
use Rattle.abnf_parts.specs.Names.{Name}
use Rattle.abnf_names.specs.Said.{BlockSays}
use Rattle.abnf_names.specs.Places.{is_touched, named, use_after}
use Rattle.abnf_names.specs.Shown.{fault_shown, HasFault}
use Rattle.abnf_names.proofs.Ascending.{Ahead, Point, Run, ahead_behind, ahead_trans, behind, item_point}
use Rattle.abnf_lint.specs.declared.finding.Code.{Code}
use Rattle.abnf_lint.specs.declared.finding.Code.TheVariants as c
use Rattle.abnf_lint.specs.declared.finding.Finding.{Finding}
use Rattle.abnf_lint.specs.Found.{body_found, fault_found, finding_if, item_found, items_found, number_found, use_found}
use Rattle.abnf_lint.specs.Order.{FindingsAscend, code_row, finding_before, key}
use Rattle.abnf_lint.proofs.AllFound.{all_by, all_joined, if_all}
use Rattle.abnf_lint.proofs.KeyOrder.{by_line, by_row, by_start}
use Rattle.abnf_lint.specs.Empty.{is_empty_number}
use Rattle.findings_index.specs.ToldOfBlock.{ToldOfBlock}
use Rattle.findings_index.specs.Found.{found_at_head, found_by}
use Rattle.findings_index.proofs.FaultFrom.{headed, FaultFrom, ItemFrom, fault_from}

-- ---- keys

abbrev pub IsBefore : Finding → Finding → Type 0
IsBefore g h = finding_before g h ≡ true

pub before_by_line : (g h : Finding) → g.place.line < h.place.line → IsBefore g h
before_by_line g h less = by_line (key g) (key h) less

-- ---- lists

pub ascend_joined : (P Q : Finding → Type 0) (xs ys : List Finding) → ((g h : Finding) → P g → Q h → IsBefore g h) → AllByRecursion P xs → AllByRecursion Q ys →
    FindingsAscend xs → FindingsAscend ys → FindingsAscend (xs ++ ys)
ascend_joined P Q [] ys less p q a b = b
ascend_joined P Q (x ∷ xs) ys less p q a b =
    (all_joined (IsBefore x) xs ys a.0 (all_by Q (IsBefore x) ys (λ h k. less x h p.0 k) q), ascend_joined P Q xs ys less p.1 q a.1 b)

if_ascends : (b : Bool) (code : Code) (place : Place) (name : List ℕ) → FindingsAscend (finding_if b code place name)
if_ascends true code place name = (tt, tt)
if_ascends false code place name = tt

-- ---- points

abbrev point_of : Finding → Point
point_of g = (g.place.line, g.place.start)

abbrev IsFrom : Point → Finding → Type 0
IsFrom p g = Ahead p (point_of g)

abbrev IsAt : Point → Finding → Type 0
IsAt x g = (g.place.line ≡ x.0) × (g.place.start ≡ x.1)

-- at the point, in this row
abbrev InRow : Point → ℕ → Finding → Type 0
InRow x row g = (g.place.line ≡ x.0) × (g.place.start ≡ x.1) × (code_row g.code ≡ row)

rows_before : (x : Point) (m n : ℕ) → m < n → (g h : Finding) → InRow x m g → InRow x n h → IsBefore g h
rows_before x m n less g h a b = by_row (key g) (key h) (a.0 ∙ sym b.0) (a.1 ∙ sym b.1) (omega (arith, less, a.2, b.2))

past : (x : Point) (g h : Finding) → IsAt x g → IsFrom (behind x) h → IsBefore g h
past x g h a (inl less) = by_line (key g) (key h) (omega (arith, less, a.0))
past x g h a (inr more) = by_start (key g) (key h) (a.0 ∙ more.0) (omega (arith, more.1, a.1))

from_point : (p x : Point) (g : Finding) → Ahead p x → IsAt x g → IsFrom p g
from_point p x g (inl less) a = inl (omega (arith, less, a.0))
from_point p x g (inr more) a = inr (more.0 ∙ sym a.0, omega (arith, more.1, a.1))

-- ---- items

abbrev AtRow : Point → ℕ → List Finding → Type 0
AtRow x row fs = FindingsAscend fs × AllByRecursion (InRow x row) fs

module _ (strange : Name → Bool) where
  used_by : (touched is : Bool) (item : Item) → AtRow (item_point item) 4
      (flat_map (use_found strange) (if touched then [] else (if is then record { text = item.token.text.now; place = place_of item.token; defines = false } ∷ [] else [])))
  used_by true is item = (tt, tt)
  used_by false false item = (tt, tt)
  used_by false true item = by (strange (lowercase item.token.text.now))
    where
      by : (b : Bool) → AtRow (item_point item) 4 (finding_if b c.Undefined (place_of item.token) item.token.text.now ++ [])
      by true = ((tt, tt), ((refl, refl, refl), tt))
      by false = (tt, tt)

  used_row : (before : Kind) (item : Item) → AtRow (item_point item) 4 (flat_map (use_found strange) (use_after before item))
  used_row before item = used_by (is_touched before item) (is_name_kind (kind_of item)) item

  -- a number's row, at its place
  abbrev IsNumber : Point → Finding → Type 0
  IsNumber x g = (g.place.line ≡ x.0) × (g.place.start ≡ x.1) × (4 < code_row g.code)

  number_row : (kind : Kind) (place : Place) (text : List ℕ) →
      FindingsAscend (number_found kind place text) × AllByRecursion (IsNumber (place.line, place.start)) (number_found kind place text)
  number_row Repeat place text = (
    if_ascends (is_empty_number Repeat text) c.EmptyRepeat place [],
    if_all (IsNumber (place.line, place.start)) (is_empty_number Repeat text) c.EmptyRepeat place [] (refl, refl, omega arith),
  )
  number_row Number place text = (
    if_ascends (is_empty_number Number text) c.EmptyRange place [],
    if_all (IsNumber (place.line, place.start)) (is_empty_number Number text) c.EmptyRange place [] (refl, refl, omega arith),
  )
  number_row _ place text = (tt, tt)

  item_ascends : (before : Kind) (item : Item) → FindingsAscend (item_found strange before item) × AllByRecursion (IsAt (item_point item)) (item_found strange before item)
  item_ascends before item =
      let x : Point = item_point item in
      let us = flat_map (use_found strange) (use_after before item) in
      let ns = number_found (kind_of item) (place_of item.token) item.token.text.now in
      let u = used_row before item in
      let n = number_row (kind_of item) (place_of item.token) item.token.text.now in (
        ascend_joined (InRow x 4) (IsNumber x) us ns (λ g h a b. by_row (key g) (key h) (a.0 ∙ sym b.0) (a.1 ∙ sym b.1) (omega (arith, a.2, b.2))) u.1 n.1 u.0 n.0,
        all_joined (IsAt x) us ns (all_by (InRow x 4) (IsAt x) us (λ g a. (a.0, a.1)) u.1) (all_by (IsNumber x) (IsAt x) ns (λ g a. (a.0, a.1)) n.1),
      )

  items_ascend : (before : Kind) (p q : Point) (items : List Item) → Run p (map item_point items) q →
      FindingsAscend (items_found strange before items) × AllByRecursion (IsFrom p) (items_found strange before items)
  items_ascend before p q [] run_words = (tt, tt)
  items_ascend before p q (item ∷ items) run_words =
      let x : Point = item_point item in
      let here = item_found strange before item in
      let rest = items_found strange (kind_of item) items in
      let own = item_ascends before item in
      let more = items_ascend (kind_of item) (behind x) q items run_words.1 in (
        ascend_joined (IsAt x) (IsFrom (behind x)) here rest (past x) own.1 more.1 own.0 more.0,
        all_joined (IsFrom p) here rest (all_by (IsAt x) (IsFrom p) here (λ g a. from_point p x g run_words.0 a) own.1)
            (all_by (IsFrom (behind x)) (IsFrom p) rest (λ g b. ahead_trans p (behind x) (point_of g) (ahead_trans p x (behind x) run_words.0 (ahead_behind x)) b) more.1),
      )

-- ---- a fault

abbrev FromPoint : Point → List Finding → Type 0
FromPoint p fs = FindingsAscend fs × AllByRecursion (IsFrom p) fs

fault_ascends : (fault : SyntaxFault) → FindingsAscend (fault_found fault)
fault_ascends (f.NoName p) = (tt, tt)
fault_ascends (f.NoDefinedAs p) = (tt, tt)
fault_ascends (f.BadToken p) = (tt, tt)
fault_ascends (f.ElementExpected p) = (tt, tt)
fault_ascends (f.BlankExpected p) = (tt, tt)
fault_ascends (f.Unclosed p) = (tt, tt)
fault_ascends (f.NumberTooLarge p) = (tt, tt)
fault_ascends (f.TooDeep p) = (tt, tt)
fault_ascends f.Memory = tt

fault_is_from : (p : Point) (fault : SyntaxFault) → FaultFrom p fault → AllByRecursion (IsFrom p) (fault_found fault)
fault_is_from p (f.NoName at) h = (h, tt)
fault_is_from p (f.NoDefinedAs at) h = (h, tt)
fault_is_from p (f.BadToken at) h = (h, tt)
fault_is_from p (f.ElementExpected at) h = (h, tt)
fault_is_from p (f.BlankExpected at) h = (h, tt)
fault_is_from p (f.Unclosed at) h = (h, tt)
fault_is_from p (f.NumberTooLarge at) h = (h, tt)
fault_is_from p (f.TooDeep at) h = (h, tt)
fault_is_from p f.Memory h = tt

-- ---- a head

head_ascends : (told : ToldOfBlock) (head : Head) → FindingsAscend (found_at_head told head) × AllByRecursion (IsAt (head.name.line, head.name.start)) (found_at_head told head)
head_ascends told head =
    let x : Point = (head.name.line, head.name.start) in
    let place = place_of head.name in
    let text = head.name.text.now in
    let b3 = told.role.is_first && told.idle in
    let xs = finding_if told.role.is_duplicate c.Duplicate place text in
    let ys = finding_if told.role.has_no_base c.NoBase place text in
    let zs = finding_if b3 c.Unproductive place text in
    let a : AllByRecursion (InRow x 5) xs = if_all (InRow x 5) told.role.is_duplicate c.Duplicate place text (refl, refl, refl) in
    let b : AllByRecursion (InRow x 6) ys = if_all (InRow x 6) told.role.has_no_base c.NoBase place text (refl, refl, refl) in
    let d : AllByRecursion (InRow x 9) zs = if_all (InRow x 9) b3 c.Unproductive place text (refl, refl, refl) in
    let Early : Finding → Type 0 = λ g. (g.place.line ≡ x.0) × (g.place.start ≡ x.1) × (code_row g.code < 9) in
    let early : AllByRecursion Early (xs ++ ys) =
    all_joined Early xs ys (all_by (InRow x 5) Early xs (λ g h. (h.0, h.1, omega (arith, h.2))) a) (all_by (InRow x 6) Early ys (λ g h. (h.0, h.1, omega (arith, h.2))) b) in (
      ascend_joined Early (InRow x 9) (xs ++ ys) zs (λ g h m n. by_row (key g) (key h) (m.0 ∙ sym n.0) (m.1 ∙ sym n.1) (omega (arith, m.2, n.2))) early d
          (ascend_joined (InRow x 5) (InRow x 6) xs ys (rows_before x 5 6 (omega arith)) a b
          (if_ascends told.role.is_duplicate c.Duplicate place text) (if_ascends told.role.has_no_base c.NoBase place text))
          (if_ascends b3 c.Unproductive place text),
      all_joined (IsAt x) (xs ++ ys) zs (all_by Early (IsAt x) (xs ++ ys) (λ g h. (h.0, h.1)) early) (all_by (InRow x 9) (IsAt x) zs (λ g h. (h.0, h.1)) d),
    )

-- ---- a block

items_from : (p q : Point) (items : List Item) → Run p (map item_point items) q → AllByRecursion (ItemFrom p) items
items_from p q [] run_words = tt
items_from p q (item ∷ items) run_words = (run_words.0, later q items (item_point item) run_words.0 run_words.1)
  where
    later : (q : Point) (items : List Item) (x : Point) → Ahead p x → Run (behind x) (map item_point items) q → AllByRecursion (ItemFrom p) items
    later q [] x h run_words = tt
    later q (other ∷ items) x h run_words =
        let there : Ahead p (item_point other) = ahead_trans p (behind x) (item_point other) (ahead_trans p x (behind x) h (ahead_behind x)) run_words.0 in
        (there, later q items (item_point other) there run_words.1)

module _ (told : ToldOfBlock) (p q : Point) where
  -- a block without a head's findings
  said_ascends : (items : List Item) (fault : Option SyntaxFault) → Run p (map item_point items) q →
      FindingsAscend (option_map_or fault_found fault (body_found told.strange items))
  said_ascends [] None run_words = tt
  said_ascends (item ∷ items) None run_words = (items_ascend told.strange (kind_of item) (behind (item_point item)) q items run_words.1).0
  said_ascends items (Some fault) run_words = fault_ascends fault

  -- all of it stands behind the first item, if that is a head's name
  said_from : (first second : Item) (rest : List Item) (said : Result Rule SyntaxFault) → is_name_kind (kind_of first) ≡ true → BlockSays (first ∷ second ∷ rest) said →
      Run p (map item_point (first ∷ second ∷ rest)) q →
      AllByRecursion (IsFrom (behind (item_point first))) (option_map_or fault_found (fault_shown said) (body_found told.strange (first ∷ second ∷ rest)))
  said_from first second rest (Ok rule) named says run_words = (items_ascend told.strange (kind_of first) (behind (item_point first)) q (second ∷ rest) run_words.1).1
  said_from first second rest (Err fault) named says run_words =
      let x : Point = item_point first in
      fault_is_from (behind x) fault (fault_from (behind x) first second rest fault named (items_from (behind x) q (second ∷ rest) run_words.1) (first ∷ second ∷ rest) refl says)

  by_head : (items : List Item) (said : Result Rule SyntaxFault) → BlockSays items said → Run p (map item_point items) q → (o : Option Head) → head_of items ≡ o →
      FindingsAscend (option_map_or (found_at_head told) o [] ++ option_map_or fault_found (fault_shown said) (body_found told.strange items))
  by_head items said says run_words None e = said_ascends items (fault_shown said) run_words
  by_head items said says run_words (Some head) e =
      let h = headed items head e in
      let x : Point = item_point h.first in
      let own = head_ascends told head in
      let fs = option_map_or fault_found (fault_shown said) (body_found told.strange items) in
      let there : AllByRecursion (IsFrom (behind x)) fs =
      subst (λ (ys : List Item). AllByRecursion (IsFrom (behind x)) (option_map_or fault_found (fault_shown said) (body_found told.strange ys))) (sym h.split)
      (said_from h.first h.second h.rest said h.named (subst (λ ys. BlockSays ys said) h.split says) (subst (λ (ys : List Item). Run p (map item_point ys) q) h.split run_words)) in
      let at : AllByRecursion (IsAt x) (found_at_head told head) =
      all_by (IsAt (head.name.line, head.name.start)) (IsAt x) (found_at_head told head)
      (λ g a. (a.0 ∙ ap (λ (t : Token). t.line) h.name, a.1 ∙ ap (λ (t : Token). t.start) h.name)) own.1 in
      ascend_joined (IsAt x) (IsFrom (behind x)) (found_at_head told head) fs (past x) at there own.0 (said_ascends items (fault_shown said) run_words)

  pub found_ascends : (items : List Item) (fault : Option SyntaxFault) → HasFault items fault → Run p (map item_point items) q → FindingsAscend (found_by told items fault)
  found_ascends items fault has run_words =
      subst (λ o. FindingsAscend (found_by told items o)) (sym has.shown) (by_head items has.said has.says run_words (head_of items) refl)
