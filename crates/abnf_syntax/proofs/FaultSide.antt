-- The parser's fault is the first that the table shows.
use Rattle.std.proofs.Common.{◌≡◌, ℕ, suc, ◌<◌, List, [], ◌∷◌, ◌++◌, length, Option, Some, None, Result, Ok, Err, sym, refl, ap, subst, ◌∙◌, append_assoc, arith, if◌then◌else◌, ◌⊎◌, inl, inr}
use Rattle.std.proofs.lemmas.List.{append-nil}
use Rattle.abnf_token.specs.declared.token.Kind.{Kind}
use Rattle.abnf_token.specs.declared.token.Kind.TheVariants as k
use Rattle.abnf_token.specs.declared.token.Token.{Token}
use Rattle.abnf_syntax.specs.declared.item.Item.{Item}
use Rattle.abnf_syntax.specs.declared.fault.SyntaxFault.{SyntaxFault}
use Rattle.abnf_syntax.specs.declared.parser.Level.{Level}
use Rattle.abnf_syntax.specs.declared.parser.Opened.{Opened}
use Rattle.abnf_syntax.specs.Kinds.{opens, closes}
use Rattle.abnf_syntax.specs.Grammar.{kind_of, Alternation}
use Rattle.abnf_syntax.specs.Faults.{rows_of, least, open_after, open_from, last_of, without_first, shown, Faults}
use Rattle.abnf_syntax.specs.Machine.{State, brackets, close_in, shift, shift_by, fault_at, unless, run}

-- the state knows the front's last item and its open brackets
pub record Tracks (defined : Item) (front : List Item) (s : State) : Type 0 where
  pub last : s.last ≡ last_of defined front
  pub left : brackets s.outer ≡ open_from [] front

open_more : (bs : List Token) (front : List Item) (item : Item) → open_from bs (front ++ item ∷ []) ≡ open_after (open_from bs front) item
open_more bs [] item = refl
open_more bs (x ∷ xs) item = open_more (open_after bs x) xs item

last_more : (x : Item) (front : List Item) (item : Item) → last_of x (front ++ item ∷ []) ≡ item
last_more x [] item = refl
last_more x (y ∷ ys) item = last_more y ys item

close_brackets : (os : List Opened) (l : Level) (item : Item) → brackets (close_in os l item).outer ≡ without_first (brackets os)
close_brackets [] l item = refl
close_brackets (o ∷ os) l item = refl

close_last : (os : List Opened) (l : Level) (item : Item) → (close_in os l item).last ≡ item
close_last [] l item = refl
close_last (o ∷ os) l item = refl

pub shift_brackets : (kind : Kind) (s : State) (item : Item) → brackets (shift_by kind s item).outer ≡ (if opens kind then item.token ∷ brackets s.outer else (if closes kind then without_first (brackets s.outer) else brackets s.outer))
shift_brackets k.Name s item = refl
shift_brackets k.Defines s item = refl
shift_brackets k.Adds s item = refl
shift_brackets k.Slash s item = refl
shift_brackets k.Repeat s item = refl
shift_brackets k.ParenL s item = refl
shift_brackets k.ParenR s item = close_brackets s.outer s.level item
shift_brackets k.BracketL s item = refl
shift_brackets k.BracketR s item = close_brackets s.outer s.level item
shift_brackets k.Quoted s item = refl
shift_brackets k.Number s item = refl
shift_brackets k.Prose s item = refl
shift_brackets k.Comment s item = refl
shift_brackets k.Blank s item = refl
shift_brackets k.Bad s item = refl

pub shift_last : (kind : Kind) (s : State) (item : Item) → (shift_by kind s item).last ≡ item
shift_last k.ParenR s item = close_last s.outer s.level item
shift_last k.BracketR s item = close_last s.outer s.level item
shift_last k.Name s item = refl
shift_last k.Defines s item = refl
shift_last k.Adds s item = refl
shift_last k.Slash s item = refl
shift_last k.Repeat s item = refl
shift_last k.ParenL s item = refl
shift_last k.BracketL s item = refl
shift_last k.Quoted s item = refl
shift_last k.Number s item = refl
shift_last k.Prose s item = refl
shift_last k.Comment s item = refl
shift_last k.Blank s item = refl
shift_last k.Bad s item = refl

pub tracks_more : (defined : Item) (front : List Item) (s : State) (item : Item) → Tracks defined front s → Tracks defined (front ++ item ∷ []) (shift s item)
unfolding shift
tracks_more defined front s item t = record {
  last = shift_last (kind_of item) s item ∙ sym (last_more defined front item);
  left = shift_brackets (kind_of item) s item ∙ ap (λ bs. open_after bs item) t.left ∙ sym (open_more [] front item);
}

-- what the table shows is what the state shows
pub same_fault : (defined : Item) (front rest : List Item) (s : State) → Tracks defined front s → fault_at s rest ≡ least (rows_of (last_of defined front) (open_from [] front) rest)
unfolding fault_at
same_fault defined front rest s t = λ i. least (rows_of (t.last i) (t.left i) rest)

-- behind these two items and this front the first fault comes
record Comes (head defined : Item) (front rest : List Item) (fault : SyntaxFault) : Type 0 where
  before : List Item
  after : List Item
  split : rest ≡ before ++ after
  shows : shown (head ∷ defined ∷ front ++ before) after ≡ Some fault
  first : (xs ys : List Item) → rest ≡ xs ++ ys → length xs < length before → shown (head ∷ defined ∷ front ++ xs) ys ≡ None

unless_err : (o : Option SyntaxFault) (go : Result Alternation SyntaxFault) (fault : SyntaxFault) → unless o go ≡ Err fault → (o ≡ Some fault) ⊎ ((o ≡ None) × (go ≡ Err fault))
unless_err None go fault h = inr (refl, h)
unless_err (Some f) go fault h = inl (cc)

ok_not_err : (a : Alternation) (fault : SyntaxFault) → ◌≡◌ {A = Result Alternation SyntaxFault} (Ok a) (Err fault) → ⊥
ok_not_err a fault h = cc

here : (head defined : Item) (front rest : List Item) (s : State) (fault : SyntaxFault) → Tracks defined front s → fault_at s rest ≡ Some fault → Comes head defined front rest fault
here head defined front rest s fault t h = record {
  before = [];
  after = rest;
  split = refl;
  shows = rw (append-nil front) (sym (same_fault defined front rest s t) ∙ h);
  first = λ xs ys e lt. absurd (omega arith);
}

pub earlier : (head defined : Item) (front rest : List Item) (item : Item) (n : ℕ) → shown (head ∷ defined ∷ front) (item ∷ rest) ≡ None →
    ((xs ys : List Item) → rest ≡ xs ++ ys → length xs < n → shown (head ∷ defined ∷ (front ++ item ∷ []) ++ xs) ys ≡ None) →
    (xs ys : List Item) → item ∷ rest ≡ xs ++ ys → length xs < suc n → shown (head ∷ defined ∷ front ++ xs) ys ≡ None
earlier head defined front rest item n none first [] ys e lt = rw (append-nil front) (subst (λ l. shown (head ∷ defined ∷ front) l ≡ None) e none)
earlier head defined front rest item n none first (x ∷ xs) ys e lt =
    let tail : rest ≡ xs ++ ys = cc in
    let same : item ≡ x = cc in
    let shorter : length xs < n = omega arith in
    subst (λ y. shown (head ∷ defined ∷ front ++ y ∷ xs) ys ≡ None) same (subst (λ l. shown (head ∷ defined ∷ l) ys ≡ None) (append_assoc front (item ∷ []) xs) (first xs ys tail shorter))

-- nothing here, and the fault behind the next item
later : (head defined : Item) (front rest : List Item) (item : Item) (fault : SyntaxFault) → shown (head ∷ defined ∷ front) (item ∷ rest) ≡ None → Comes head defined (front ++ item ∷ []) rest fault → Comes head defined front (item ∷ rest) fault
later head defined front rest item fault none c = record {
  before = item ∷ c.before;
  after = c.after;
  split = ap (λ l. item ∷ l) c.split;
  shows = subst (λ l. shown (head ∷ defined ∷ l) c.after ≡ Some fault) (append_assoc front (item ∷ []) c.before) c.shows;
  first = earlier head defined front rest item (length c.before) none c.first;
}

comes : (head defined : Item) (front rest : List Item) (s : State) (fault : SyntaxFault) → Tracks defined front s → run s rest ≡ Err fault → Comes head defined front rest fault
comes head defined front [] s fault t h =
    elim (unless_err _ _ _ h) [ inl shows ↦ here head defined front [] s fault t shows | inr p ↦ absurd (ok_not_err _ _ p.1) ]
comes head defined front (item ∷ rest) s fault t h =
    elim (unless_err _ _ _ h) [
      | inl shows ↦ here head defined front (item ∷ rest) s fault t shows
      | inr p ↦ later head defined front rest item fault (sym (same_fault defined front (item ∷ rest) s t) ∙ p.0) (comes head defined (front ++ item ∷ []) rest (shift s item) fault (tracks_more defined front s item t) p.1)
    ]

-- The first two items are a head: then no fault stands before them.
pub head_earlier : (head defined : Item) (rest : List Item) (n : ℕ) → shown [] (head ∷ defined ∷ rest) ≡ None → shown (head ∷ []) (defined ∷ rest) ≡ None →
    ((xs ys : List Item) → rest ≡ xs ++ ys → length xs < n → shown (head ∷ defined ∷ xs) ys ≡ None) →
    (xs ys : List Item) → head ∷ defined ∷ rest ≡ xs ++ ys → length xs < suc (suc n) → shown xs ys ≡ None
head_earlier head defined rest n none one first [] ys e lt = subst (λ l. shown [] l ≡ None) e none
head_earlier head defined rest n none one first (x ∷ []) ys e lt =
    let same : head ≡ x = cc in
    let tail : defined ∷ rest ≡ ys = cc in
    subst (λ y. shown (y ∷ []) ys ≡ None) same (subst (λ l. shown (head ∷ []) l ≡ None) tail one)
head_earlier head defined rest n none one first (x ∷ y ∷ xs) ys e lt =
    let same : head ≡ x = cc in
    let same_too : defined ≡ y = cc in
    let tail : rest ≡ xs ++ ys = cc in
    let shorter : length xs < n = omega arith in
    subst (λ z. shown (z ∷ y ∷ xs) ys ≡ None) same (subst (λ z. shown (head ∷ z ∷ xs) ys ≡ None) same_too (first xs ys tail shorter))

pub faulty : (head defined : Item) (body : List Item) (s : State) (fault : SyntaxFault) → shown [] (head ∷ defined ∷ body) ≡ None → shown (head ∷ []) (defined ∷ body) ≡ None → s.last ≡ defined → s.outer ≡ [] →
    run s body ≡ Err fault → Faults (head ∷ defined ∷ body) fault
faulty head defined body s fault none one last outer h =
    let c = comes head defined [] body s fault (record { last = last; left = ap brackets outer }) h in
    record { front = head ∷ defined ∷ c.before; rest = c.after; split = ap (λ l. head ∷ defined ∷ l) c.split; shows = c.shows; first = head_earlier head defined body (length c.before) none one c.first }
