-- What the parser answers with Ok is derived.
use Rattle.std.proofs.Common.{◌≡◌, ℕ, zero, suc, ◌+◌, Bool, true, false, not, ◌&&◌, List, [], ◌∷◌, ◌++◌, length, Option, Some, None, Result, Ok, sym, refl, ap, subst, ◌∙◌, arith}
use Rattle.std.specs.Prelude.{nat_le}
use Rattle.std.proofs.lemmas.Bool.{and_parts, not-true, not-false}
use borrow.Author.Tests.{leb-false}
use Rattle.abnf_token.specs.declared.token.Kind.{Kind}
use Rattle.abnf_token.specs.declared.token.Kind.TheVariants as k
use Rattle.abnf_syntax.specs.declared.item.Item.{Item}
use Rattle.abnf_syntax.specs.declared.fault.SyntaxFault.{SyntaxFault}
use Rattle.abnf_syntax.specs.declared.tree.Element.{Element}
use Rattle.abnf_syntax.specs.declared.parser.Level.{Level}
use Rattle.abnf_syntax.specs.declared.parser.Opened.{Opened}
use Rattle.abnf_syntax.specs.Kinds.{is_item, closes_it, begins_element, needs_element, ends_element}
use Rattle.abnf_syntax.specs.Grammar.{kind_of, fits, repetition, Alternation, IsAlternation, IsElement, max_nesting}
use Rattle.abnf_syntax.specs.Grammar.IsElement.{name, quoted, number, prose}
use Rattle.abnf_syntax.specs.Faults.{is_followed, is_empty, is_other}
use Rattle.abnf_syntax.specs.Machine.{State, brackets, empty, put, finish, barred, with_repeat, bracketed, close_in, shift, shift_by, fault_at, unless, run}
use Rattle.abnf_syntax.proofs.Front.{After, Ready, Awaits, Phase, ready_at_start, after_finish, ready_apart, ready_slash, ready_awaits, repeat_awaits}
use Rattle.abnf_syntax.proofs.Front.Phase.{is_after, is_ready, is_counted}
use Rattle.abnf_syntax.proofs.Rows.{never, never_too, and_right, Clear, clear, row_none}
use Rattle.abnf_syntax.proofs.Opened.{opened}

pub cons_head : {x y : Item} {xs ys : List Item} → x ∷ xs ≡ y ∷ ys → x ≡ y
cons_head h = cc

-- what is open is closed by what comes, and the outermost is the body
module _ (body : List Item) where
  abbrev pub Nest : ℕ → List Item → List Opened → Type 0
  Nest room start [] = (start ≡ body) × (room ≡ max_nesting)
  Nest room start (o ∷ os) = (up : List Item) × Nest (suc room) up os × ((rest : List Item) (right : Item) (a : Alternation) → IsAlternation room start (right ∷ rest) a → closes_it o.bracket.kind (kind_of right) ≡ true → After (suc room) up rest o.level.done (o.level.row ++ repetition o.level.repeat (bracketed o.bracket a) ∷ []))

  pub record Stands (now : List Item) (s : State) : Type 0 where
    pub room : ℕ
    pub start : List Item
    pub nest : Nest room start s.outer
    pub sum : room + length s.outer ≡ max_nesting
    pub phase : Phase room start now s

pub awaits : (room : ℕ) (start rest : List Item) (item : Item) (s : State) → Phase room start (item ∷ rest) s → ends_element (kind_of s.last) && not item.apart ≡ false → Awaits room start (item ∷ rest) s.level
awaits room start rest item s (is_after end_now need none h) blank =
    ready_awaits room start (item ∷ rest) s.level (ready_apart room start rest item _ _ h (not-false _ (and_right _ _ end_now blank))) none
awaits room start rest item s (is_ready need end_now none h) blank = ready_awaits room start (item ∷ rest) s.level h none
awaits room start rest item s (is_counted next mid split begins w) blank = w

pub ready : (room : ℕ) (start rest : List Item) (item : Item) (s : State) → Phase room start (item ∷ rest) s → begins_element (kind_of item) ≡ false → ends_element (kind_of s.last) && not item.apart ≡ false → Ready room start (item ∷ rest) s.level.done s.level.row
ready room start rest item s (is_after end_now need none h) not_element blank = ready_apart room start rest item _ _ h (not-false _ (and_right _ _ end_now blank))
ready room start rest item s (is_ready need end_now none h) not_element blank = h
ready room start rest item s (is_counted next mid split begins w) not_element blank = never_too (sym begins ∙ ap begins_element (ap kind_of (sym (cons_head split))) ∙ not_element)

pub and_left : (a b : Bool) → b ≡ true → a && b ≡ false → a ≡ false
and_left false b h e = refl
and_left true b h e = never_too (sym h ∙ e)

pub unless_ok : (o : Option SyntaxFault) (go : Result Alternation SyntaxFault) (a : Alternation) → unless o go ≡ Ok a → (o ≡ None) × (go ≡ Ok a)
unless_ok None go a h = (refl, h)
unless_ok (Some fault) go a h = absurd (cc)

ok_is : (a b : Alternation) → ◌≡◌ {A = Result Alternation SyntaxFault} (Ok a) (Ok b) → a ≡ b
ok_is a b h = cc

record IsAfter (room : ℕ) (start now : List Item) (s : State) : Type 0 where
  end_now : ends_element (kind_of s.last) ≡ true
  after : After room start now s.level.done s.level.row

only_after : (room : ℕ) (start rest : List Item) (item : Item) (s : State) → Phase room start (item ∷ rest) s → begins_element (kind_of item) ≡ false → needs_element (kind_of s.last) ≡ false → IsAfter room start (item ∷ rest) s
only_after room start rest item s (is_after end_now need none h) not_element no_need = record { end_now = end_now; after = h }
only_after room start rest item s (is_ready need end_now none h) not_element no_need = never_too (sym need ∙ no_need)
only_after room start rest item s (is_counted next mid split begins w) not_element no_need = never_too (sym begins ∙ ap begins_element (ap kind_of (sym (cons_head split))) ∙ not_element)

length_brackets : (os : List Opened) → length (brackets os) ≡ length os
length_brackets [] = refl
length_brackets (o ∷ os) = ap suc (length_brackets os)

module _ (body : List Item) where
  leaf : (element : Element) (item : Item) (rest : List Item) (s : State) (st : Stands body (item ∷ rest) s) → IsElement st.room (item ∷ rest) rest element → ends_element (kind_of item) ≡ true → needs_element (kind_of item) ≡ false → ends_element (kind_of s.last) && not item.apart ≡ false →
      Stands body rest (record { outer = s.outer; level = put s.level element; last = item })
  unfolding Awaits
  leaf element item rest s st he end_now need blank =
      record { room = st.room; start = st.start; nest = st.nest; sum = st.sum; phase = is_after end_now need refl (awaits _ _ _ _ _ st.phase blank rest element he) }

  closing : (outer : List Opened) (level : Level) (item : Item) (rest : List Item) (room : ℕ) (start : List Item) → Nest body room start outer → room + length outer ≡ max_nesting → After room start (item ∷ rest) level.done level.row →
      ends_element (kind_of item) ≡ true → needs_element (kind_of item) ≡ false → is_empty (brackets outer) ≡ false → is_other (brackets outer) (kind_of item) ≡ false → Stands body rest (close_in outer level item)
  closing [] level item rest room start nest sum after end_now need some same = never_too some
  closing (o ∷ os) level item rest room start nest sum after end_now need some same =
      record {
        room = suc room;
        start = nest.0;
        nest = nest.1;
        sum = omega arith;
        phase = is_after end_now need refl (nest.2 rest item (finish level) (after_finish room start (item ∷ rest) level.done level.row after) (not-false _ same));
      }

  opening : (room : ℕ) (item : Item) (rest start : List Item) (s : State) → Nest body room start s.outer → room + length s.outer ≡ max_nesting → Awaits room start (item ∷ rest) s.level →
      needs_element (kind_of item) ≡ true → ends_element (kind_of item) ≡ false → nat_le max_nesting (length (brackets s.outer)) ≡ false →
      Stands body rest (record { outer = record { bracket = item.token; level = s.level } ∷ s.outer; level = empty; last = item })
  opening zero item rest start s nest sum w need end_now deep = absurd (omega (arith, leb-false _ _ deep, length_brackets s.outer))
  opening (suc room) item rest start s nest sum w need end_now deep =
      record { room = room; start = rest; nest = (start, nest, opened room start rest item s.level w); sum = omega arith; phase = is_ready need end_now refl (ready_at_start room rest) }

  counting : (item : Item) (rest : List Item) (s : State) (st : Stands body (item ∷ rest) s) → kind_of item ≡ k.Repeat → fits item ≡ true → is_followed rest ≡ true → Ready st.room st.start (item ∷ rest) s.level.done s.level.row →
      Stands body rest (record { outer = s.outer; level = with_repeat s.level item.token; last = item })
  counting item [] s st e small followed h = never followed
  counting item (next ∷ mid) s st e small followed h =
      let both = and_parts _ _ followed in
      record {
        room = st.room;
        start = st.start;
        nest = st.nest;
        sum = st.sum;
        phase = is_counted next mid refl both.0 (repeat_awaits st.room st.start mid item next s.level h e small (not-true _ both.1));
      }

  slash : (item : Item) (rest : List Item) (s : State) (st : Stands body (item ∷ rest) s) → kind_of item ≡ k.Slash → After st.room st.start (item ∷ rest) s.level.done s.level.row →
      Stands body rest (record { outer = s.outer; level = barred s.level; last = item })
  slash item rest s st e h =
      record {
        room = st.room;
        start = st.start;
        nest = st.nest;
        sum = st.sum;
        phase = is_ready (rw e refl) (rw e refl) refl (ready_slash st.room st.start rest item s.level.done s.level.row h e);
      }

  step : (kind : Kind) (item : Item) (rest : List Item) (s : State) → kind_of item ≡ kind → is_item kind ≡ true → Clear (kind_of s.last) (brackets s.outer) item.apart (fits item) rest kind → Stands body (item ∷ rest) s → Stands body rest (shift_by kind s item)
  step k.Name item rest s e solid c st = leaf _ item rest s st (name e) (rw e refl) (rw e refl) c.blank
  step k.Quoted item rest s e solid c st = leaf _ item rest s st (quoted e) (rw e refl) (rw e refl) c.blank
  step k.Number item rest s e solid c st = leaf _ item rest s st (number e (not-false _ c.number)) (rw e refl) (rw e refl) c.blank
  step k.Prose item rest s e solid c st = leaf _ item rest s st (prose e) (rw e refl) (rw e refl) c.blank
  step k.Slash item rest s e solid c st = slash item rest s st e (only_after _ _ _ _ _ st.phase (rw e refl) c.needed).after
  step k.Repeat item rest s e solid c st = counting item rest s st e (not-false _ c.number) (not-false _ c.followed) (ready _ _ _ _ _ st.phase (rw e refl) c.blank)
  step k.ParenL item rest s e solid c st = opening st.room item rest st.start s st.nest st.sum (awaits _ _ _ _ _ st.phase c.blank) (rw e refl) (rw e refl) c.deep
  step k.BracketL item rest s e solid c st = opening st.room item rest st.start s st.nest st.sum (awaits _ _ _ _ _ st.phase c.blank) (rw e refl) (rw e refl) c.deep
  step k.ParenR item rest s e solid c st =
      let a = only_after _ _ _ _ _ st.phase (rw e refl) c.needed in
      closing s.outer s.level item rest st.room st.start st.nest st.sum a.after (rw e refl) (rw e refl) c.closed (rw e (and_left _ _ a.end_now c.other))
  step k.BracketR item rest s e solid c st =
      let a = only_after _ _ _ _ _ st.phase (rw e refl) c.needed in
      closing s.outer s.level item rest st.room st.start st.nest st.sum a.after (rw e refl) (rw e refl) c.closed (rw e (and_left _ _ a.end_now c.other))
  step k.Defines item rest s e solid c st = let a = only_after _ _ _ _ _ st.phase (rw e refl) c.needed in never_too (sym a.end_now ∙ c.defined)
  step k.Adds item rest s e solid c st = let a = only_after _ _ _ _ _ st.phase (rw e refl) c.needed in never_too (sym a.end_now ∙ c.defined)
  step k.Bad item rest s e solid c st = never_too c.bad
  step k.Comment item rest s e solid c st = never solid
  step k.Blank item rest s e solid c st = never solid

  finished : (outer : List Opened) (level : Level) (room : ℕ) (start : List Item) → Nest body room start outer → After room start [] level.done level.row → not (is_empty (brackets outer)) ≡ false → IsAlternation max_nesting body [] (finish level)
  finished [] level room start nest after none = let a = after_finish room start [] level.done level.row after in subst (λ x. IsAlternation x body [] (finish level)) nest.1 (subst (λ x. IsAlternation room x [] (finish level)) nest.0 a)
  finished (o ∷ os) level room start nest after none = never_too none

  at_end : (s : State) (room : ℕ) (start : List Item) → Nest body room start s.outer → Phase room start [] s → needs_element (kind_of s.last) ≡ false → not (is_empty (brackets s.outer)) && ends_element (kind_of s.last) ≡ false → IsAlternation max_nesting body [] (finish s.level)
  at_end s room start nest (is_after end_now need none h) no_need unclosed = finished s.outer s.level room start nest h (and_left _ _ end_now unclosed)
  at_end s room start nest (is_ready need end_now none h) no_need unclosed = never_too (sym need ∙ no_need)
  at_end s room start nest (is_counted next mid split begins w) no_need unclosed = absurd (cc)

  pub sound : (now : List Item) (s : State) (a : Alternation) → Stands body now s → run s now ≡ Ok a → IsAlternation max_nesting body [] a
  unfolding fault_at shift
  sound [] s a st h =
      let go = unless_ok _ _ _ h in
      let r1 = row_none _ _ _ go.0 in
      let r2 = row_none _ _ _ r1.1 in
      subst (IsAlternation max_nesting body []) (ok_is _ _ go.1) (at_end s st.room st.start st.nest st.phase r1.0 r2.0)
  sound (item ∷ rest) s a st h =
      let go = unless_ok _ _ _ h in
      sound rest (shift s item) a (step (kind_of item) item rest s refl item.solid (clear s.last item (brackets s.outer) rest go.0) st) go.1
