-- What is derived is what the parser answers.
use Rattle.std.proofs.Common.{◌≡◌, ℕ, suc, ◌+◌, Bool, true, false, not, ◌&&◌, List, [], ◌∷◌, ◌++◌, length, Option, Some, None, Ok, sym, refl, ap, subst, ◌∙◌, append_assoc, arith, if◌then◌else◌}
use Rattle.std.specs.Prelude.{nat_le}
use Rattle.std.proofs.lemmas.Bool.{lt-leb}
use Rattle.abnf_token.proofs.Language.{and_false}
use Rattle.abnf_token.specs.declared.token.Kind.{Kind}
use Rattle.abnf_token.specs.declared.token.Kind.TheVariants as k
use Rattle.abnf_token.specs.declared.token.Token.{Token}
use Rattle.abnf_syntax.specs.declared.item.Item.{Item}
use Rattle.abnf_syntax.specs.declared.fault.SyntaxFault.{SyntaxFault}
use Rattle.abnf_syntax.specs.declared.tree.Element.{Element}
use Rattle.abnf_syntax.specs.declared.tree.Repetition.{Repetition}
use Rattle.abnf_syntax.specs.declared.parser.Opened.{Opened}
use Rattle.abnf_syntax.specs.Kinds.{opens, closes_it, begins_element, needs_element, ends_element}
use Rattle.abnf_syntax.specs.Grammar.{kind_of, fits, repetition, Concatenation, Alternation, IsAlternation, IsConcatenation, IsRepetition, IsElement, max_nesting}
use Rattle.abnf_syntax.specs.Numbers.{numbers_fit}
use Rattle.abnf_syntax.specs.Grammar.IsAlternation.{only, or}
use Rattle.abnf_syntax.specs.Grammar.IsConcatenation.{one, and}
use Rattle.abnf_syntax.specs.Grammar.IsRepetition.{once, times}
use Rattle.abnf_syntax.specs.Grammar.IsElement.{name, quoted, number, prose, group, choice}
use Rattle.abnf_syntax.specs.Faults.{rows_of, least}
use Rattle.abnf_syntax.specs.Machine.{State, brackets, empty, barred, with_repeat, bracketed_by, close_in, shift, shift_by, fault_at, run, start}
use Rattle.abnf_syntax.proofs.Rows.{never, never_too, Clear}

row_skip : (b : Bool) (fault : SyntaxFault) (more : Option SyntaxFault) → b ≡ false → more ≡ None → (if b then Some fault else more) ≡ None
row_skip true fault more h m = never_too h
row_skip false fault more h m = m

clear_back : (last item : Item) (bs : List Token) (rest : List Item) → Clear (kind_of last) bs item.apart (fits item) rest (kind_of item) → least (rows_of last bs (item ∷ rest)) ≡ None
clear_back last item bs rest c =
    row_skip _ _ _ c.bad (row_skip _ _ _ c.needed (row_skip _ _ _ c.defined (row_skip _ _ _ c.closed (row_skip _ _ _ c.followed (row_skip _ _ _ c.blank (row_skip _ _ _ c.other (row_skip _ _ _ c.number (row_skip _ _ _ c.deep refl))))))))

-- one step, of an item of which no row holds
stepped : (kind : Kind) (s : State) (item : Item) (rest : List Item) → kind_of item ≡ kind → Clear (kind_of s.last) (brackets s.outer) item.apart (fits item) rest kind → run s (item ∷ rest) ≡ run (shift_by kind s item) rest
unfolding fault_at shift
stepped kind s item rest e c =
    rw (clear_back s.last item (brackets s.outer) rest (subst (Clear (kind_of s.last) (brackets s.outer) item.apart (fits item) rest) (sym e) c))
    (ap (λ x. run (shift_by x s item) rest) e)

no_need : (kind : Kind) → ends_element kind ≡ true → needs_element kind ≡ false
no_need k.Defines h = never h
no_need k.Adds h = never h
no_need k.Slash h = never h
no_need k.ParenL h = never h
no_need k.BracketL h = never h
no_need _ h = refl

-- no blank is wanted before the first item
abbrev Free : Item → List Item → Type 0
Free last [] = Unit {0}
Free last (item ∷ rest) = ends_element (kind_of last) && not item.apart ≡ false

free_after : (last : Item) (items : List Item) → ends_element (kind_of last) ≡ false → Free last items
free_after last [] h = tt
free_after last (item ∷ rest) h = rw h refl

free_apart : (last item : Item) (rest : List Item) → item.apart ≡ true → Free last (item ∷ rest)
free_apart last item rest h = rw h (and_false (ends_element (kind_of last)))

abbrev at_level : State → Alternation → Concatenation → Item → State
at_level s done row last = record { outer = s.outer; level = record { done = done; row = row; repeat = None }; last = last }

-- the parser reads these items, and has then these parts
record Gets (s : State) (from to : List Item) (done : Alternation) (row : Concatenation) : Type 0 where
  last : Item
  end_now : ends_element (kind_of last) ≡ true
  same : run s from ≡ run (at_level s done row last) to

record Finishes (s : State) (from to : List Item) (a : Alternation) : Type 0 where
  done : Alternation
  row : Concatenation
  whole : done ++ row ∷ [] ≡ a
  last : Item
  end_now : ends_element (kind_of last) ≡ true
  same : run s from ≡ run (at_level s done row last) to

begins : {room : ℕ} {mid to : List Item} {next : Item} {element : Element} → IsElement room (next ∷ mid) to element → begins_element (kind_of next) ≡ true
begins (name e) = rw e refl
begins (quoted e) = rw e refl
begins (number e small) = rw e refl
begins (prose e) = rw e refl
begins (group e a f) = rw e refl
begins (choice e a f) = rw e refl

-- an item of a kind without numbers
plain : (kind : Kind) (item : Item) → kind_of item ≡ kind → numbers_fit kind item.token.text.now ≡ true → fits item ≡ true
plain kind item e h = ap (λ x. numbers_fit x item.token.text.now) e ∙ h

open_plain : (kind : Kind) (text : List ℕ) → opens kind ≡ true → numbers_fit kind text ≡ true
open_plain k.ParenL text h = refl
open_plain k.BracketL text h = refl
open_plain _ text h = never h

abbrev is_leaf : Kind → Bool
is_leaf k.Name = true
is_leaf k.Quoted = true
is_leaf k.Number = true
is_leaf k.Prose = true
is_leaf _ = false

leaf_clear : (kind : Kind) (s : State) (item : Item) (rest : List Item) → Free s.last (item ∷ rest) → fits item ≡ true → is_leaf kind ≡ true → Clear (kind_of s.last) (brackets s.outer) item.apart (fits item) rest kind
leaf_clear k.Name s item rest free small l = record { bad = refl; needed = refl; defined = refl; closed = refl; followed = refl; blank = free; other = refl; number = ap not small; deep = refl }
leaf_clear k.Quoted s item rest free small l = record { bad = refl; needed = refl; defined = refl; closed = refl; followed = refl; blank = free; other = refl; number = ap not small; deep = refl }
leaf_clear k.Number s item rest free small l = record { bad = refl; needed = refl; defined = refl; closed = refl; followed = refl; blank = free; other = refl; number = ap not small; deep = refl }
leaf_clear k.Prose s item rest free small l = record { bad = refl; needed = refl; defined = refl; closed = refl; followed = refl; blank = free; other = refl; number = ap not small; deep = refl }
leaf_clear _ s item rest free small l = never l

length_brackets : (os : List Opened) → length (brackets os) ≡ length os
length_brackets [] = refl
length_brackets (o ∷ os) = ap suc (length_brackets os)

shallow : (room : ℕ) (os : List Opened) → suc room + length os ≡ max_nesting → nat_le max_nesting (length (brackets os)) ≡ false
shallow room os sum = lt-leb _ _ (omega (arith, length_brackets os))

-- a closing bracket behind what it closes
abbrev is_close : Kind → Bool
is_close k.ParenR = true
is_close k.BracketR = true
is_close _ = false

close_clear : (kind : Kind) (last : Kind) (left : Token) (bs : List Token) (apart small : Bool) (rest : List Item) → is_close kind ≡ true → closes_it left.kind kind ≡ true → ends_element last ≡ true → small ≡ true → Clear last (left ∷ bs) apart small rest kind
close_clear k.ParenR last left bs apart small rest l c end_now fit = record { bad = refl; needed = no_need _ end_now; defined = refl; closed = refl; followed = refl; blank = refl; other = rw c refl; number = ap not fit; deep = refl }
close_clear k.BracketR last left bs apart small rest l c end_now fit = record { bad = refl; needed = no_need _ end_now; defined = refl; closed = refl; followed = refl; blank = refl; other = rw c refl; number = ap not fit; deep = refl }
close_clear _ last left bs apart small rest l c end_now fit = never l

close_plain : (kind : Kind) (text : List ℕ) → is_close kind ≡ true → numbers_fit kind text ≡ true
close_plain k.ParenR text h = refl
close_plain k.BracketR text h = refl
close_plain _ text h = never h

open_clear : (kind : Kind) (room : ℕ) (s : State) (item : Item) (rest : List Item) → opens kind ≡ true → suc room + length s.outer ≡ max_nesting → Free s.last (item ∷ rest) → fits item ≡ true → Clear (kind_of s.last) (brackets s.outer) item.apart (fits item) rest kind
open_clear k.ParenL room s item rest o sum free small = record { bad = refl; needed = refl; defined = refl; closed = refl; followed = refl; blank = free; other = refl; number = ap not small; deep = shallow room s.outer sum }
open_clear k.BracketL room s item rest o sum free small = record { bad = refl; needed = refl; defined = refl; closed = refl; followed = refl; blank = free; other = refl; number = ap not small; deep = shallow room s.outer sum }
open_clear _ room s item rest o sum free small = never o

abbrev inside : State → Item → State
inside s left = record { outer = record { bracket = left.token; level = s.level } ∷ s.outer; level = empty; last = left }

slash_clear : (last : Kind) (bs : List Token) (apart small : Bool) (rest : List Item) → ends_element last ≡ true → small ≡ true → Clear last bs apart small rest k.Slash
slash_clear last bs apart small rest end_now fit = record { bad = refl; needed = no_need _ end_now; defined = refl; closed = refl; followed = refl; blank = refl; other = refl; number = ap not fit; deep = refl }

repeat_clear : (s : State) (item next : Item) (mid : List Item) → begins_element (kind_of next) ≡ true → next.apart ≡ false → Free s.last (item ∷ next ∷ mid) → fits item ≡ true → Clear (kind_of s.last) (brackets s.outer) item.apart (fits item) (next ∷ mid) k.Repeat
repeat_clear s item next mid b apart free small = record { bad = refl; needed = refl; defined = refl; closed = refl; followed = rw (b, apart) refl; blank = free; other = refl; number = ap not small; deep = refl }

shift_close : (kind : Kind) (s : State) (item : Item) → is_close kind ≡ true → shift_by kind s item ≡ close_in s.outer s.level item
shift_close k.ParenR s item h = refl
shift_close k.BracketR s item h = refl
shift_close _ s item h = never h

close_ends : (kind : Kind) → is_close kind ≡ true → ends_element kind ≡ true
close_ends k.ParenR h = refl
close_ends k.BracketR h = refl
close_ends _ h = never h

-- an element in brackets, once its alternation is read
grouped : (opening closing : Kind) (room : ℕ) (s : State) (left right : Item) (inner to : List Item) (a : Alternation) → kind_of left ≡ opening → kind_of right ≡ closing → opens opening ≡ true → is_close closing ≡ true → closes_it opening closing ≡ true →
    suc room + length s.outer ≡ max_nesting → Free s.last (left ∷ inner) → shift_by opening s left ≡ inside s left → Finishes (inside s left) inner (right ∷ to) a →
    Gets s (left ∷ inner) to s.level.done (s.level.row ++ repetition s.level.repeat (bracketed_by opening a) ∷ [])
grouped opening closing room s left right inner to a el er o cl c sum free sh f =
    let first = stepped opening s left inner el (open_clear opening room s left inner o sum free (plain opening left el (open_plain opening left.token.text.now o))) in
    let now = at_level (inside s left) f.done f.row f.last in
    let last = stepped closing now right to er (close_clear closing (kind_of f.last) left.token (brackets s.outer) right.apart (fits right) to cl (ap (λ x. closes_it x closing) el ∙ c) f.end_now (plain closing right er (close_plain closing right.token.text.now cl))) in
    record {
      last = right;
      end_now = ap ends_element er ∙ close_ends closing cl;
      same = first ∙ ap (λ x. run x inner) sh ∙ f.same ∙ last ∙ ap (λ x. run x to) (shift_close closing now right cl)
          ∙ (λ i. run (at_level s s.level.done (s.level.row ++ repetition s.level.repeat (bracketed_by (el i) (f.whole i)) ∷ []) right) to);
    }

mutual
  alternation : {room : ℕ} {from to : List Item} {a : Alternation} → IsAlternation room from to a → (s : State) → room + length s.outer ≡ max_nesting → ends_element (kind_of s.last) ≡ false → s.level.row ≡ [] → s.level.repeat ≡ None → Finishes s from to (s.level.done ++ a)
  alternation (only {from = from} {c = c} h) s sum fresh no_row none =
      let g = concatenation h s sum (free_after s.last from fresh) none in
      record { done = s.level.done; row = s.level.row ++ c; whole = ap (λ x. s.level.done ++ (x ++ c) ∷ []) no_row; last = g.last; end_now = g.end_now; same = g.same }
  alternation (or {from = from} {mid = mid} {slash = slash} {c = c} {cs = cs} h e rest) s sum fresh no_row none =
      let g = concatenation h s sum (free_after s.last from fresh) none in
      let now = at_level s s.level.done (s.level.row ++ c) g.last in
      let st = stepped k.Slash now slash mid e (slash_clear _ _ _ _ _ g.end_now (plain k.Slash slash e refl)) in
      let f = alternation rest (record { outer = s.outer; level = barred now.level; last = slash }) sum (rw e refl) refl refl in
      record { done = f.done; row = f.row; whole = f.whole ∙ append_assoc s.level.done ((s.level.row ++ c) ∷ []) cs ∙ ap (λ x. s.level.done ++ (x ++ c) ∷ cs) no_row; last = f.last; end_now = f.end_now; same = g.same ∙ st ∙ f.same }

  concatenation : {room : ℕ} {from to : List Item} {c : Concatenation} → IsConcatenation room from to c → (s : State) → room + length s.outer ≡ max_nesting → Free s.last from → s.level.repeat ≡ None → Gets s from to s.level.done (s.level.row ++ c)
  concatenation (one h) s sum free none = repetition_read h s sum free none
  concatenation (and {mid = mid} {to = to} {next = next} {r = r} {rs = rs} h apart rest) s sum free none =
      let g = repetition_read h s sum free none in
      let f = concatenation rest (at_level s s.level.done (s.level.row ++ r ∷ []) g.last) sum (free_apart g.last next mid apart) refl in
      record { last = f.last; end_now = f.end_now; same = g.same ∙ f.same ∙ ap (λ x. run (at_level s s.level.done x f.last) to) (append_assoc s.level.row (r ∷ []) rs) }

  repetition_read : {room : ℕ} {from to : List Item} {r : Repetition} → IsRepetition room from to r → (s : State) → room + length s.outer ≡ max_nesting → Free s.last from → s.level.repeat ≡ None → Gets s from to s.level.done (s.level.row ++ r ∷ [])
  repetition_read (once {from = from} {to = to} {element = el} h) s sum free none =
      subst (λ x. Gets s from to s.level.done (s.level.row ++ repetition x el ∷ [])) none (element h s sum free)
  repetition_read (times {mid = mid} {repeat = t} {next = next} e small apart h) s sum free none =
      let st = stepped k.Repeat s t (next ∷ mid) e (repeat_clear s t next mid (begins h) apart free small) in
      let g = element h (record { outer = s.outer; level = with_repeat s.level t.token; last = t }) sum (free_after t (next ∷ mid) (ap ends_element e)) in
      record { last = g.last; end_now = g.end_now; same = st ∙ g.same }

  element : {room : ℕ} {from to : List Item} {el : Element} → IsElement room from to el → (s : State) → room + length s.outer ≡ max_nesting → Free s.last from → Gets s from to s.level.done (s.level.row ++ repetition s.level.repeat el ∷ [])
  element (name {item = item} {to = to} e) s sum free = record { last = item; end_now = rw e refl; same = stepped k.Name s item to e (leaf_clear k.Name s item to free (plain k.Name item e refl) refl) }
  element (quoted {item = item} {to = to} e) s sum free = record { last = item; end_now = rw e refl; same = stepped k.Quoted s item to e (leaf_clear k.Quoted s item to free (plain k.Quoted item e refl) refl) }
  element (number {item = item} {to = to} e small) s sum free = record { last = item; end_now = rw e refl; same = stepped k.Number s item to e (leaf_clear k.Number s item to free small refl) }
  element (prose {item = item} {to = to} e) s sum free = record { last = item; end_now = rw e refl; same = stepped k.Prose s item to e (leaf_clear k.Prose s item to free (plain k.Prose item e refl) refl) }
  element (group {room = room} {inner = inner} {to = to} {left = left} {right = right} {a = a} el h er) s sum free =
      grouped k.ParenL k.ParenR room s left right inner to a el er refl refl refl sum free refl (alternation h (inside s left) (omega arith) (rw el refl) refl refl)
  element (choice {room = room} {inner = inner} {to = to} {left = left} {right = right} {a = a} el h er) s sum free =
      grouped k.BracketL k.BracketR room s left right inner to a el er refl refl refl sum free refl (alternation h (inside s left) (omega arith) (rw el refl) refl refl)

pub complete : (defined : Item) (body : List Item) (a : Alternation) → ends_element (kind_of defined) ≡ false → IsAlternation max_nesting body [] a → run (start defined) body ≡ Ok a
unfolding fault_at
complete defined body a fresh h =
    let f = alternation h (start defined) refl fresh refl refl in
    let need : needs_element (kind_of f.last) ≡ false = no_need _ f.end_now in
    f.same ∙ rw need (ap Ok f.whole)
