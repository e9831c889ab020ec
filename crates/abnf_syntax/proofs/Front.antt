-- What stands where the parser is.
use Rattle.std.proofs.Common.{◌≡◌, ℕ, true, false, List, [], ◌∷◌, ◌++◌, Some, None, sym, subst, append_assoc}
use Rattle.std.proofs.lemmas.List.{append-nil}
use Rattle.abnf_token.specs.declared.token.Kind.TheVariants as k
use Rattle.abnf_syntax.specs.declared.item.Item.{Item}
use Rattle.abnf_syntax.specs.declared.tree.Element.{Element}
use Rattle.abnf_syntax.specs.declared.tree.Repetition.{Repetition}
use Rattle.abnf_syntax.specs.declared.parser.Level.{Level}
use Rattle.abnf_syntax.specs.Kinds.{begins_element, needs_element, ends_element}
use Rattle.abnf_syntax.specs.Grammar.{kind_of, fits, repetition, Concatenation, Alternation, IsAlternation, IsRepetition, IsElement}
use Rattle.abnf_syntax.specs.Grammar.IsAlternation.{only, or}
use Rattle.abnf_syntax.specs.Grammar.IsConcatenation.{one, and}
use Rattle.abnf_syntax.specs.Grammar.IsRepetition.{once, times}
use Rattle.abnf_syntax.specs.Machine.{State, with_repeat}

-- What may follow an element, up to the end of its alternation: the rest of the concatenation and the other concatenations.
pub data Continues : ℕ → List Item → List Item → Concatenation → Alternation → Type 0 where
  ends : {room : ℕ} {now : List Item} → Continues room now now [] []
  slashes : {room : ℕ} {mid end : List Item} {slash : Item} {cs : Alternation} → kind_of slash ≡ k.Slash → IsAlternation room mid end cs → Continues room (slash ∷ mid) end [] cs
  goes : {room : ℕ} {mid end : List Item} {next : Item} {c : Concatenation} {cs : Alternation} → next.apart ≡ true → IsAlternation room (next ∷ mid) end (c ∷ cs) → Continues room (next ∷ mid) end c cs

pub extend : {room : ℕ} {from mid end : List Item} {next : Item} {r : Repetition} {c : Concatenation} {cs : Alternation} → IsRepetition room from (next ∷ mid) r → next.apart ≡ true → IsAlternation room (next ∷ mid) end (c ∷ cs) → IsAlternation room from end ((r ∷ c) ∷ cs)
extend r p (only c) = only (and r p c)
extend r p (or c s a) = or (and r p c) s a

pub begin : {room : ℕ} {from now end : List Item} {r : Repetition} {c : Concatenation} {cs : Alternation} → IsRepetition room from now r → Continues room now end c cs → IsAlternation room from end ((r ∷ c) ∷ cs)
begin r ends = only (one r)
begin r (slashes s a) = or (one r) s a
begin r (goes p a) = extend r p a

-- behind an element
unfoldable pub After : ℕ → List Item → List Item → Alternation → Concatenation → Type 0
After room start now done row = (end : List Item) (c : Concatenation) (cs : Alternation) → Continues room now end c cs → IsAlternation room start end (done ++ (row ++ c) ∷ cs)

-- where a repetition must come
unfoldable pub Ready : ℕ → List Item → List Item → Alternation → Concatenation → Type 0
Ready room start now done row = (to : List Item) (r : Repetition) → IsRepetition room now to r → After room start to done (row ++ r ∷ [])

-- where an element must come
unfoldable pub Awaits : ℕ → List Item → List Item → Level → Type 0
Awaits room start now l = (to : List Item) (element : Element) → IsElement room now to element → After room start to l.done (l.row ++ repetition l.repeat element ∷ [])

pub ready_at_start : (room : ℕ) (start : List Item) → Ready room start start [] []
unfolding Ready After
ready_at_start room start to r h end c cs more = begin h more

pub after_finish : (room : ℕ) (start now : List Item) (done : Alternation) (row : Concatenation) → After room start now done row → IsAlternation room start now (done ++ row ∷ [])
unfolding After
after_finish room start now done row h = rw append-nil at (h now [] [] ends)

pub ready_apart : (room : ℕ) (start mid : List Item) (next : Item) (done : Alternation) (row : Concatenation) → After room start (next ∷ mid) done row → next.apart ≡ true → Ready room start (next ∷ mid) done row
unfolding Ready After
ready_apart room start mid next done row h p to r hr end c cs more =
    subst (λ x. IsAlternation room start end (done ++ x ∷ cs)) (sym (append_assoc row (r ∷ []) c)) (h end (r ∷ c) cs (goes p (begin hr more)))

pub ready_slash : (room : ℕ) (start mid : List Item) (slash : Item) (done : Alternation) (row : Concatenation) → After room start (slash ∷ mid) done row → kind_of slash ≡ k.Slash → Ready room start mid (done ++ row ∷ []) []
unfolding Ready After
ready_slash room start mid slash done row h p to r hr end c cs more =
    subst (λ x. IsAlternation room start end x) (sym (append_assoc done (row ∷ []) ((r ∷ c) ∷ cs)))
    (subst (λ x. IsAlternation room start end (done ++ x ∷ (r ∷ c) ∷ cs)) (append-nil row) (h end [] ((r ∷ c) ∷ cs) (slashes p (begin hr more))))

pub ready_awaits : (room : ℕ) (start now : List Item) (l : Level) → Ready room start now l.done l.row → l.repeat ≡ None → Awaits room start now l
unfolding Ready Awaits
ready_awaits room start now l h none to element he =
    subst (λ r. After room start to l.done (l.row ++ repetition r element ∷ [])) (sym none) (h to (repetition None element) (once he))

-- behind a repeat
pub repeat_awaits : (room : ℕ) (start mid : List Item) (item next : Item) (l : Level) → Ready room start (item ∷ next ∷ mid) l.done l.row → kind_of item ≡ k.Repeat → fits item ≡ true → next.apart ≡ false → Awaits room start (next ∷ mid) (with_repeat l item.token)
unfolding Ready Awaits
repeat_awaits room start mid item next l h p small q to element he = h to (repetition (Some item.token) element) (times p small q he)

-- Where the parser stands, by its last item.
pub data Phase (room : ℕ) (start now : List Item) (s : State) : Type 0 where
  is_after : ends_element (kind_of s.last) ≡ true → needs_element (kind_of s.last) ≡ false → s.level.repeat ≡ None → After room start now s.level.done s.level.row → Phase room start now s
  is_ready : needs_element (kind_of s.last) ≡ true → ends_element (kind_of s.last) ≡ false → s.level.repeat ≡ None → Ready room start now s.level.done s.level.row → Phase room start now s
  is_counted : (next : Item) (mid : List Item) → now ≡ next ∷ mid → begins_element (kind_of next) ≡ true → Awaits room start now s.level → Phase room start now s
