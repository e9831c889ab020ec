-- Items that are the same but for the numbers of their lines show the same fault, each at its place.
use Rattle.std.proofs.Common.{◌≡◌, ℕ, ◌<◌, ◌≤◌, Bool, true, false, not, ◌&&◌, List, [], ◌∷◌, ◌++◌, length, map, take, drop, Option, Some, None, option_map, refl, sym, ap, ◌∙◌, arith, inl, inr, length-append}
use Rattle.std.specs.Prelude.{if◌then◌else◌, nat_le}
use Rattle.std.proofs.lemmas.Bool.{cases_order}
use Rattle.std.proofs.lemmas.List.{length-map, take-append-drop, length-take-le, take-map, drop-map}
use Rattle.std.proofs.lemmas.Option.{same_Some}
use Rattle.ls_text.specs.declared.position.Place.{Place}
use Rattle.abnf_token.specs.declared.token.Kind.{Kind}
use Rattle.abnf_token.specs.declared.token.Token.{Token}
use Rattle.abnf_syntax.specs.declared.fault.SyntaxFault.{SyntaxFault}
use Rattle.abnf_syntax.specs.declared.fault.SyntaxFault.TheVariants as f
use Rattle.abnf_syntax.specs.declared.item.Item.{Item}
use Rattle.abnf_syntax.specs.Grammar.{kind_of, max_nesting}
use Rattle.abnf_syntax.specs.Kinds.{is_name_kind, is_defined_as, is_bad, is_repeat_kind, opens, closes, closes_it, begins_element, begins_repetition, needs_element, ends_element}
use Rattle.abnf_syntax.specs.Numbers.{numbers_fit}
use Rattle.abnf_syntax.specs.Faults.{FaultRow, place_of, last_of, without_first, open_after, open_from, rows_of, least, shown, Faults}
use Rattle.abnf_rename.proofs.ItemShapes.{Shape, shape}
use Rattle.abnf_digests.specs.SameLines.{nowhere, placeless}
use Rattle.abnf_digests.proofs.Placed.{Placed, after, place_by, placed, fault_by}

-- ---- the table of faults, by placed items

-- a kind and a place: of the last item, or of an open bracket
abbrev Spot : Type 0
Spot = Kind × Place

abbrev spot_of : Placed → Spot
spot_of x = (x.0, x.3)

abbrev followed : List Placed → Bool
followed [] = false
followed (x ∷ xs) = begins_element x.0 && not x.2

abbrev outside : List Spot → Bool
outside [] = true
outside (bracket ∷ brackets) = false

abbrev other_than : List Spot → Kind → Bool
other_than [] kind = false
other_than (bracket ∷ brackets) kind = not (closes_it bracket.0 kind)

abbrev inner : List Spot → Place → Place
inner [] none = none
inner (bracket ∷ brackets) none = bracket.1

abbrev placed_rows : Spot → List Spot → List Placed → List FaultRow
placed_rows last brackets [] =
    (needs_element last.0, f.ElementExpected (after last.1))
    ∷ (not (outside brackets) && ends_element last.0, f.Unclosed (inner brackets last.1))
    ∷ []
placed_rows last brackets (x ∷ rest) =
    (is_bad x.0, f.BadToken x.3)
    ∷ (not (begins_repetition x.0) && needs_element last.0, f.ElementExpected x.3)
    ∷ (is_defined_as x.0 && ends_element last.0, f.ElementExpected x.3)
    ∷ (closes x.0 && outside brackets, f.ElementExpected x.3)
    ∷ (is_repeat_kind x.0 && not (followed rest), f.ElementExpected x.3)
    ∷ (begins_repetition x.0 && (ends_element last.0 && not x.2), f.BlankExpected x.3)
    ∷ (closes x.0 && (other_than brackets x.0 && ends_element last.0), f.Unclosed (inner brackets x.3))
    ∷ (not (numbers_fit x.0 x.1), f.NumberTooLarge x.3)
    ∷ (opens x.0 && nat_le max_nesting (length brackets), f.TooDeep x.3)
    ∷ []

abbrev placed_last : Spot → List Placed → Spot
placed_last last [] = last
placed_last last (x ∷ xs) = placed_last (spot_of x) xs

abbrev without_last : List Spot → List Spot
without_last [] = []
without_last (bracket ∷ brackets) = brackets

abbrev placed_after : List Spot → Placed → List Spot
placed_after brackets x = if opens x.0 then spot_of x ∷ brackets else (if closes x.0 then without_last brackets else brackets)

abbrev placed_open : List Spot → List Placed → List Spot
placed_open brackets [] = brackets
placed_open brackets (x ∷ xs) = placed_open (placed_after brackets x) xs

abbrev placed_shown : List Placed → List Placed → Option SyntaxFault
placed_shown [] [] = None
placed_shown [] (x ∷ rest) = if is_name_kind x.0 then None else Some (f.NoName x.3)
placed_shown (head ∷ []) [] = Some (f.NoDefinedAs (after head.3))
placed_shown (head ∷ []) (x ∷ rest) = if is_defined_as x.0 then None else Some (f.NoDefinedAs x.3)
placed_shown (head ∷ defined ∷ body) rest = least (placed_rows (placed_last (spot_of defined) body) (placed_open [] body) rest)

module _ (g h : ℕ → ℕ) where
  abbrev token_spot : Token → Spot
  token_spot t = (t.kind, place_by g h (place_of t))

  abbrev row_by : FaultRow → FaultRow
  row_by row = (row.0, fault_by g h row.1)

  rows_placed : (last : Item) (ts : List Token) (rest : List Item)
      → map row_by (rows_of last ts rest) ≡ placed_rows (token_spot last.token) (map token_spot ts) (map (placed g h) rest)
  rows_placed last [] [] = refl
  rows_placed last (t ∷ ts) [] = refl
  rows_placed last [] (x ∷ []) = refl
  rows_placed last [] (x ∷ y ∷ rest) = refl
  rows_placed last (t ∷ ts) (x ∷ []) = rw (length-map ts token_spot) refl
  rows_placed last (t ∷ ts) (x ∷ y ∷ rest) = rw (length-map ts token_spot) refl

  least_if : (b : Bool) (fault : SyntaxFault) (o p : Option SyntaxFault) → option_map (fault_by g h) o ≡ p
      → option_map (fault_by g h) (if b then Some fault else o) ≡ (if b then Some (fault_by g h fault) else p)
  least_if true fault o p e = refl
  least_if false fault o p e = e

  least_placed : (rows : List FaultRow) → option_map (fault_by g h) (least rows) ≡ least (map row_by rows)
  least_placed [] = refl
  least_placed (row ∷ rows) = least_if row.0 row.1 (least rows) (least (map row_by rows)) (least_placed rows)

  last_placed : (last : Item) (xs : List Item) → token_spot (last_of last xs).token ≡ placed_last (token_spot last.token) (map (placed g h) xs)
  last_placed last [] = refl
  last_placed last (x ∷ xs) = last_placed x xs

  after_placed : (ts : List Token) (x : Item) → map token_spot (open_after ts x) ≡ placed_after (map token_spot ts) (placed g h x)
  after_placed ts x = by (opens (kind_of x)) (closes (kind_of x)) ts
    where
      by : (b c : Bool) (ts : List Token) → map token_spot (if b then x.token ∷ ts else (if c then without_first ts else ts))
          ≡ (if b then token_spot x.token ∷ map token_spot ts else (if c then without_last (map token_spot ts) else map token_spot ts))
      by true c ts = refl
      by false true [] = refl
      by false true (t ∷ ts) = refl
      by false false ts = refl

  open_placed : (ts : List Token) (xs : List Item) → map token_spot (open_from ts xs) ≡ placed_open (map token_spot ts) (map (placed g h) xs)
  open_placed ts [] = refl
  open_placed ts (x ∷ xs) = open_placed (open_after ts x) xs ∙ ap (λ l. placed_open l (map (placed g h) xs)) (after_placed ts x)

  unless : (b : Bool) (fault : SyntaxFault) → option_map (fault_by g h) (if b then None else Some fault) ≡ (if b then None else Some (fault_by g h fault))
  unless true fault = refl
  unless false fault = refl

  shown_placed : (front rest : List Item) → option_map (fault_by g h) (shown front rest) ≡ placed_shown (map (placed g h) front) (map (placed g h) rest)
  shown_placed [] [] = refl
  shown_placed [] (x ∷ rest) = unless (is_name_kind (kind_of x)) _
  shown_placed (head ∷ []) [] = refl
  shown_placed (head ∷ []) (x ∷ rest) = unless (is_defined_as (kind_of x)) _
  shown_placed (head ∷ defined ∷ body) rest =
      least_placed (rows_of (last_of defined body) (open_from [] body) rest)
      ∙ ap least (rows_placed (last_of defined body) (open_from [] body) rest
      ∙ (λ i. placed_rows (last_placed defined body i) (open_placed [] body i) (map (placed g h) rest)))

  at_placed : (xs : List Item) (n : ℕ) → option_map (fault_by g h) (shown (take n xs) (drop n xs)) ≡ placed_shown (take n (map (placed g h) xs)) (drop n (map (placed g h) xs))
  at_placed xs n = shown_placed (take n xs) (drop n xs) ∙ (λ i. placed_shown (sym (take-map (placed g h) n xs) i) (sym (drop-map (placed g h) n xs) i))

-- ---- the fault of the items

taken : (xs front rest : List Item) → xs ≡ front ++ rest → shown (take (length front) xs) (drop (length front) xs) ≡ shown front rest
taken xs front rest e = ap (λ l. shown (take (length front) l) (drop (length front) l)) e ∙ (λ i. shown (front_is front i) (rest_is front i))
  where
    front_is : (front : List Item) → take (length front) (front ++ rest) ≡ front
    front_is [] = refl
    front_is (x ∷ front) = ap (λ l. x ∷ l) (front_is front)

    rest_is : (front : List Item) → drop (length front) (front ++ rest) ≡ rest
    rest_is [] = refl
    rest_is (x ∷ front) = rest_is front

-- items of two texts, with the lines of either renumbered
abbrev ArePlaced : (ℕ → ℕ) → (ℕ → ℕ) → (ℕ → ℕ) → (ℕ → ℕ) → List Item → List Item → Type 0
ArePlaced g h k l xs ys = map (placed g h) xs ≡ map (placed k l) ys

same_at : (g h k l : ℕ → ℕ) (xs ys : List Item) (n : ℕ) → ArePlaced g h k l xs ys
    → option_map (fault_by g h) (shown (take n xs) (drop n xs)) ≡ option_map (fault_by k l) (shown (take n ys) (drop n ys))
same_at g h k l xs ys n e = at_placed g h xs n ∙ (ap (λ l. placed_shown (take n l) (drop n l)) e ∙ sym (at_placed k l ys n))

shows_at : (g h : ℕ → ℕ) (xs : List Item) (a : SyntaxFault) (p : Faults xs a)
    → option_map (fault_by g h) (shown (take (length p.front) xs) (drop (length p.front) xs)) ≡ Some (fault_by g h a)
shows_at g h xs a p = ap (option_map (fault_by g h)) (taken xs p.front p.rest p.split ∙ p.shows)

-- the first that shows a fault isn't behind one that does
not_sooner : {A : Type 0} (g h k l : ℕ → ℕ) (xs ys : List Item) (a b : SyntaxFault) (p : Faults xs a) (q : Faults ys b)
    → ArePlaced g h k l xs ys → length p.front < length q.front → A
not_sooner g h k l xs ys a b p q e less =
    let n = length p.front in
    let within : n ≤ length ys = omega (arith, less, ap length q.split, length-append q.front q.rest) in
    let none : shown (take n ys) (drop n ys) ≡ None =
    q.first (take n ys) (drop n ys) (sym (take-append-drop n ys)) (omega (arith, less, length-take-le n ys within))
    in
    let some : option_map (fault_by k l) None ≡ Some (fault_by g h a) =
    sym (ap (option_map (fault_by k l)) none) ∙ (sym (same_at g h k l xs ys n e) ∙ shows_at g h xs a p)
    in
    absurd (cc (some))

pub same_fault_by : (g h k l : ℕ → ℕ) (xs ys : List Item) (a b : SyntaxFault) → map (placed g h) xs ≡ map (placed k l) ys
    → Faults xs a → Faults ys b → fault_by g h a ≡ fault_by k l b
same_fault_by g h k l xs ys a b e p q =
    elim (cases_order (length p.front) (length q.front)) [
      | inl same ↦ same_Some (fault_by g h a) (fault_by k l b)
          (sym (shows_at g h xs a p)
          ∙ (same_at g h k l xs ys (length p.front) e
          ∙ (ap (λ n. option_map (fault_by k l) (shown (take n ys) (drop n ys))) same ∙ shows_at k l ys b q)))
      | inr order ↦ elim order [ inl less ↦ not_sooner g h k l xs ys a b p q e less | inr more ↦ not_sooner k l g h ys xs b a q p (sym e) more ]
    ]

-- ---- without places

abbrev naught : ℕ → ℕ
naught n = 0

abbrev nowhere_shape : Shape → Placed
nowhere_shape x = (x.0, x.1, x.2, nowhere)

placed_nowhere : (xs : List Item) → map (placed naught naught) xs ≡ map nowhere_shape (map shape xs)
placed_nowhere [] = refl
placed_nowhere (x ∷ xs) = ap (λ l. nowhere_shape (shape x) ∷ l) (placed_nowhere xs)

placeless_is : (a : SyntaxFault) → fault_by naught naught a ≡ placeless a
placeless_is (f.NoName p) = refl
placeless_is (f.NoDefinedAs p) = refl
placeless_is (f.BadToken p) = refl
placeless_is (f.ElementExpected p) = refl
placeless_is (f.BlankExpected p) = refl
placeless_is (f.Unclosed p) = refl
placeless_is (f.NumberTooLarge p) = refl
placeless_is (f.TooDeep p) = refl
placeless_is f.Memory = refl

pub same_fault : (xs ys : List Item) (a b : SyntaxFault) → map shape xs ≡ map shape ys → Faults xs a → Faults ys b → placeless a ≡ placeless b
same_fault xs ys a b e p q =
    sym (placeless_is a)
    ∙ (same_fault_by naught naught naught naught xs ys a b (placed_nowhere xs ∙ (ap (map nowhere_shape) e ∙ sym (placed_nowhere ys))) p q
    ∙ placeless_is b)
