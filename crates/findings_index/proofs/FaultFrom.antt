-- The fault of a block that has a head stands behind the head's name.
use Rattle.std.proofs.Common.{◌≡◌, ◌+◌, Bool, true, false, List, [], ◌∷◌, ◌++◌, length, Some, None, refl, sym, ap, subst, ◌∙◌, inr, arith}
use Rattle.std.specs.Prelude.{◌&&◌, IfSome, if◌then◌else◌}
use Rattle.std.proofs.lemmas.Bool.{and_parts}
use Rattle.std.proofs.lemmas.Option.{none-some, same_Some}
use Rattle.std.specs.List.{AllByRecursion}
use Rattle.abnf_token.specs.declared.token.Token.{Token}
use Rattle.abnf_syntax.specs.declared.block.Head.{Head}
use Rattle.abnf_syntax.specs.declared.item.Item.{Item}
use Rattle.abnf_syntax.specs.declared.fault.SyntaxFault.{SyntaxFault}
use Rattle.abnf_syntax.specs.declared.fault.SyntaxFault.TheVariants as f
use Rattle.abnf_syntax.specs.Kinds.{closes, is_adds, is_defined_as, is_name_kind, opens}
use Rattle.abnf_syntax.specs.Grammar.{kind_of}
use Rattle.abnf_syntax.specs.Faults.{Faults, FaultRow, innermost, last_of, least, open_after, open_from, place_of, rows_of, shown, without_first}
use Rattle.abnf_syntax.specs.Heads.{head_of}
use Rattle.abnf_names.specs.Rules.{fault_place}
use Rattle.abnf_names.proofs.Ascending.{Ahead, Point, ahead_trans}

-- the first two items of a block with a head, whose name is the first
pub record Headed (items : List Item) (head : Head) : Type 0 where
  pub first : Item
  pub second : Item
  pub rest : List Item
  pub split : items ≡ first ∷ second ∷ rest
  pub named : is_name_kind (kind_of first) ≡ true
  pub name : head.name ≡ first.token

headed_by : (b : Bool) (first second : Item) (head : Head) → (if b then Some (record { name = first.token; adds = is_adds (kind_of second) }) else None) ≡ Some head →
    (b ≡ true) × (head.name ≡ first.token)
headed_by true first second head e =
    let is : record { name = first.token; adds = is_adds (kind_of second) } ≡ head = same_Some (record { name = first.token; adds = is_adds (kind_of second) }) head e in
    (refl, sym (ap (λ (h : Head). h.name) is))
headed_by false first second head e = absurd (none-some head e)

pub headed : (items : List Item) (head : Head) → head_of items ≡ Some head → Headed items head
headed [] head e = absurd (none-some head e)
headed (first ∷ []) head e = absurd (none-some head e)
headed (first ∷ second ∷ rest) head e =
    let k = headed_by (is_name_kind (kind_of first) && is_defined_as (kind_of second)) first second head e in
    record { first = first; second = second; rest = rest; split = refl; named = (and_parts (is_name_kind (kind_of first)) (is_defined_as (kind_of second)) k.0).0; name = k.1 }

module _ (p : Point) where
  abbrev pub TokenFrom : Token → Type 0
  TokenFrom t = Ahead p (t.line, t.start)

  abbrev pub ItemFrom : Item → Type 0
  ItemFrom item = TokenFrom item.token

  abbrev pub FaultFrom : SyntaxFault → Type 0
  FaultFrom fault = IfSome (fault_place fault) (λ place. Ahead p (place.line, place.start))

  abbrev RowFrom : FaultRow → Type 0
  RowFrom row = FaultFrom row.1

  least_from : (rows : List FaultRow) (fault : SyntaxFault) → AllByRecursion RowFrom rows → least rows ≡ Some fault → FaultFrom fault
  least_from [] fault all is = absurd (none-some fault is)
  least_from (row ∷ rows) fault all is = by row.0 is (λ e. least_from rows fault all.1 e)
    where
      by : (b : Bool) → (if b then Some row.1 else least rows) ≡ Some fault → (least rows ≡ Some fault → FaultFrom fault) → FaultFrom fault
      by true e more = subst FaultFrom (same_Some row.1 fault e) all.0
      by false e more = more e

  last_from : (last : Item) (items : List Item) → ItemFrom last → AllByRecursion ItemFrom items → ItemFrom (last_of last items)
  last_from last [] h all = h
  last_from last (item ∷ items) h all = last_from item items all.0 all.1

  rest_from : (ts : List Token) → AllByRecursion TokenFrom ts → AllByRecursion TokenFrom (without_first ts)
  rest_from [] h = tt
  rest_from (t ∷ ts) h = h.1

  opened_by : (b c : Bool) (brackets : List Token) (item : Item) → AllByRecursion TokenFrom brackets → ItemFrom item →
      AllByRecursion TokenFrom (if b then item.token ∷ brackets else (if c then without_first brackets else brackets))
  opened_by true c brackets item h i = (i, h)
  opened_by false true brackets item h i = rest_from brackets h
  opened_by false false brackets item h i = h

  opens_from : (brackets : List Token) (items : List Item) → AllByRecursion TokenFrom brackets → AllByRecursion ItemFrom items → AllByRecursion TokenFrom (open_from brackets items)
  opens_from brackets [] h all = h
  opens_from brackets (item ∷ items) h all =
      opens_from (open_after brackets item) items (opened_by (opens (kind_of item)) (closes (kind_of item)) brackets item h all.0) all.1

  innermost_from : (brackets : List Token) (none : Token) → AllByRecursion TokenFrom brackets → TokenFrom none → TokenFrom (innermost brackets none)
  innermost_from [] none h n = n
  innermost_from (t ∷ ts) none h n = h.0

  after_from : (t : Token) → TokenFrom t → Ahead p (t.line, t.start + length t.text.now)
  after_from t h = ahead_trans p (t.line, t.start) (t.line, t.start + length t.text.now) h (inr (refl, omega arith))

  rows_from : (last : Item) (brackets : List Token) (rest : List Item) → ItemFrom last → AllByRecursion TokenFrom brackets → AllByRecursion ItemFrom rest →
      AllByRecursion RowFrom (rows_of last brackets rest)
  rows_from last brackets [] l h all = (after_from last.token l, (innermost_from brackets last.token h l, tt))
  rows_from last brackets (item ∷ rest) l h all =
      (all.0, (all.0, (all.0, (all.0, (all.0, (all.0, (innermost_from brackets item.token h all.0, (all.0, (all.0, tt)))))))))

  none_or : (b : Bool) (x fault : SyntaxFault) → FaultFrom x → (if b then None else Some x) ≡ Some fault → FaultFrom fault
  none_or true x fault h is = absurd (none-some fault is)
  none_or false x fault h is = subst FaultFrom (same_Some x fault is) h

  split_from : (front rest : List Item) → AllByRecursion ItemFrom (front ++ rest) → AllByRecursion ItemFrom front × AllByRecursion ItemFrom rest
  split_from [] rest h = (tt, h)
  split_from (item ∷ front) rest h = let more = split_from front rest h.1 in ((h.0, more.0), more.1)

  module _ (first second : Item) (others : List Item) (fault : SyntaxFault) (named : is_name_kind (kind_of first) ≡ true) (all : AllByRecursion ItemFrom (second ∷ others)) where
    shown_from : (front rest : List Item) → front ++ rest ≡ first ∷ second ∷ others → shown front rest ≡ Some fault → FaultFrom fault
    shown_from [] [] e is = absurd (none-some fault is)
    shown_from [] (item ∷ rest) e is =
        let same : item ≡ first = cc e in
        absurd (none-some fault (sym (ap (λ b. if b then None else Some (f.NoName (place_of item.token))) (ap (λ (x : Item). is_name_kind (kind_of x)) same ∙ named)) ∙ is))
    shown_from (head ∷ []) [] e is = absurd (cc e)
    shown_from (head ∷ []) (item ∷ rest) e is =
        let same : item ≡ second = cc e in
        none_or (is_defined_as (kind_of item)) (f.NoDefinedAs (place_of item.token)) fault (subst ItemFrom (sym same) all.0) is
    shown_from (head ∷ defined ∷ body) rest e is =
        let same : defined ∷ (body ++ rest) ≡ second ∷ others = cc e in
        let these : AllByRecursion ItemFrom (defined ∷ (body ++ rest)) = subst (AllByRecursion ItemFrom) (sym same) all in
        let parts = split_from body rest these.1 in
        least_from (rows_of (last_of defined body) (open_from [] body) rest) fault
        (rows_from (last_of defined body) (open_from [] body) rest (last_from defined body these.0 parts.0) (opens_from [] body tt parts.0) parts.1) is

    pub fault_from : (items : List Item) → items ≡ first ∷ second ∷ others → Faults items fault → FaultFrom fault
    fault_from items e shows = shown_from shows.front shows.rest (sym shows.split ∙ e) shows.shows
