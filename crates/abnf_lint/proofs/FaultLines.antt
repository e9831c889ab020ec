-- The fault of a block stands at the lines of its items.
use Rattle.std.proofs.Common.{◌≡◌, ℕ, ◌<◌, ◌≤◌, Bool, true, false, List, [], ◌∷◌, ◌++◌, Some, None, subst}
use Rattle.std.specs.Prelude.{IfSome, if◌then◌else◌}
use Rattle.std.proofs.lemmas.Option.{none-some, same_Some}
use Rattle.std.specs.List.{AllByRecursion}
use Rattle.abnf_token.specs.declared.token.Token.{Token}
use Rattle.abnf_syntax.specs.declared.item.Item.{Item}
use Rattle.abnf_syntax.specs.declared.fault.SyntaxFault.{SyntaxFault}
use Rattle.abnf_syntax.specs.declared.fault.SyntaxFault.TheVariants as f
use Rattle.abnf_syntax.specs.Kinds.{closes, is_defined_as, is_name_kind, opens}
use Rattle.abnf_syntax.specs.Grammar.{kind_of}
use Rattle.abnf_syntax.specs.Faults.{Faults, FaultRow, innermost, last_of, least, open_after, open_from, place_after, place_of, rows_of, shown, without_first}
use Rattle.abnf_names.specs.Rules.{fault_place}

module _ (low high : ℕ) where
  -- at one of these lines
  abbrev pub IsAtLine : ℕ → Type 0
  IsAtLine line = (low ≤ line) × (line < high)

  abbrev pub TokenWithin : Token → Type 0
  TokenWithin t = IsAtLine t.line

  abbrev pub ItemWithin : Item → Type 0
  ItemWithin item = TokenWithin item.token

  abbrev pub FaultWithin : SyntaxFault → Type 0
  FaultWithin fault = IfSome (fault_place fault) (λ p. IsAtLine p.line)

  abbrev RowWithin : FaultRow → Type 0
  RowWithin row = FaultWithin row.1

  least_within : (rows : List FaultRow) (fault : SyntaxFault) → AllByRecursion RowWithin rows → least rows ≡ Some fault → FaultWithin fault
  least_within [] fault all is = absurd (none-some fault is)
  least_within (row ∷ rows) fault all is = by row.0 is (λ e. least_within rows fault all.1 e)
    where
      by : (b : Bool) → (if b then Some row.1 else least rows) ≡ Some fault → (least rows ≡ Some fault → FaultWithin fault) → FaultWithin fault
      by true e more = subst FaultWithin (same_Some row.1 fault e) all.0
      by false e more = more e

  last_within : (last : Item) (items : List Item) → ItemWithin last → AllByRecursion ItemWithin items → ItemWithin (last_of last items)
  last_within last [] h all = h
  last_within last (item ∷ items) h all = last_within item items all.0 all.1

  rest_within : (ts : List Token) → AllByRecursion TokenWithin ts → AllByRecursion TokenWithin (without_first ts)
  rest_within [] h = tt
  rest_within (t ∷ ts) h = h.1

  opened_by : (b c : Bool) (brackets : List Token) (item : Item) → AllByRecursion TokenWithin brackets → ItemWithin item →
      AllByRecursion TokenWithin (if b then item.token ∷ brackets else (if c then without_first brackets else brackets))
  opened_by true c brackets item h i = (i, h)
  opened_by false true brackets item h i = rest_within brackets h
  opened_by false false brackets item h i = h

  open_within : (brackets : List Token) (items : List Item) → AllByRecursion TokenWithin brackets → AllByRecursion ItemWithin items → AllByRecursion TokenWithin (open_from brackets items)
  open_within brackets [] h all = h
  open_within brackets (item ∷ items) h all =
      open_within (open_after brackets item) items (opened_by (opens (kind_of item)) (closes (kind_of item)) brackets item h all.0) all.1

  innermost_within : (brackets : List Token) (none : Token) → AllByRecursion TokenWithin brackets → TokenWithin none → TokenWithin (innermost brackets none)
  innermost_within [] none h n = n
  innermost_within (t ∷ ts) none h n = h.0

  rows_within : (last : Item) (brackets : List Token) (rest : List Item) → ItemWithin last → AllByRecursion TokenWithin brackets → AllByRecursion ItemWithin rest → AllByRecursion RowWithin (rows_of last brackets rest)
  rows_within last brackets [] l h all = (l, (innermost_within brackets last.token h l, tt))
  rows_within last brackets (item ∷ rest) l h all =
      (all.0, (all.0, (all.0, (all.0, (all.0, (all.0, (innermost_within brackets item.token h all.0, (all.0, (all.0, tt)))))))))

  none_or : (b : Bool) (x fault : SyntaxFault) → FaultWithin x → (if b then None else Some x) ≡ Some fault → FaultWithin fault
  none_or true x fault h is = absurd (none-some fault is)
  none_or false x fault h is = subst FaultWithin (same_Some x fault is) h

  shown_within : (front rest : List Item) (fault : SyntaxFault) → AllByRecursion ItemWithin front → AllByRecursion ItemWithin rest → shown front rest ≡ Some fault → FaultWithin fault
  shown_within [] [] fault h all is = absurd (none-some fault is)
  shown_within [] (item ∷ rest) fault h all is = none_or (is_name_kind (kind_of item)) (f.NoName (place_of item.token)) fault all.0 is
  shown_within (head ∷ []) [] fault h all is = subst FaultWithin (same_Some (f.NoDefinedAs (place_after head.token)) fault is) h.0
  shown_within (head ∷ []) (item ∷ rest) fault h all is = none_or (is_defined_as (kind_of item)) (f.NoDefinedAs (place_of item.token)) fault all.0 is
  shown_within (head ∷ defined ∷ body) rest fault h all is =
      least_within (rows_of (last_of defined body) (open_from [] body) rest) fault
      (rows_within (last_of defined body) (open_from [] body) rest (last_within defined body h.1.0 h.1.1) (open_within [] body tt h.1.1) all) is

  split_within : (front rest : List Item) → AllByRecursion ItemWithin (front ++ rest) → AllByRecursion ItemWithin front × AllByRecursion ItemWithin rest
  split_within [] rest h = (tt, h)
  split_within (item ∷ front) rest h = let more = split_within front rest h.1 in ((h.0, more.0), more.1)

  pub fault_within : (items : List Item) (fault : SyntaxFault) → AllByRecursion ItemWithin items → Faults items fault → FaultWithin fault
  fault_within items fault h shows =
      let parts = split_within shows.front shows.rest (subst (AllByRecursion ItemWithin) shows.split h) in
      shown_within shows.front shows.rest fault parts.0 parts.1 shows.shows
