-- A block that shows a fault is no rule, and shows one fault first.
use Rattle.std.proofs.Common.{◌≡◌, suc, true, List, [], ◌∷◌, ◌++◌, length, Option, Some, None, Result, Ok, sym, refl, subst, ◌∙◌, arith, inl, inr}
use Rattle.std.proofs.lemmas.Bool.{cases_order}
use Rattle.std.proofs.lemmas.List.{append-nil}
use Rattle.std.proofs.lemmas.Option.{same_Some}
use Rattle.abnf_syntax.specs.declared.item.Item.{Item}
use Rattle.abnf_syntax.specs.declared.fault.SyntaxFault.{SyntaxFault}
use Rattle.abnf_syntax.specs.declared.tree.Rule.{Rule}
use Rattle.abnf_syntax.specs.Kinds.{is_name_kind, is_defined_as}
use Rattle.abnf_syntax.specs.Grammar.{kind_of, Alternation, Derives}
use Rattle.abnf_syntax.specs.Faults.{shown, Faults}
use Rattle.abnf_syntax.specs.Machine.{State, start, shift, fault_at, run, parse}
use Rattle.abnf_syntax.proofs.Sound.{unless_ok}
use Rattle.abnf_syntax.proofs.FaultSide.{Tracks, tracks_more, same_fault, earlier, head_earlier}
use Rattle.abnf_syntax.proofs.Cons.{cons_same}
use Rattle.abnf_syntax.proofs.Whole.{chosen_ok, rule_ok, neither, parse_complete}

-- no fault here
none_here : (head defined : Item) (front rest : List Item) (s : State) → Tracks defined front s → fault_at s rest ≡ None → (ys : List Item) → rest ≡ ys → shown (head ∷ defined ∷ front ++ []) ys ≡ None
none_here head defined front rest s t h ys e = rw (append-nil front) (subst (λ l. shown (head ∷ defined ∷ front) l ≡ None) e (sym (same_fault defined front rest s t) ∙ h))

no_more : (xs ys : List Item) (x : Item) → [] ≡ x ∷ (xs ++ ys) → ⊥
no_more xs ys x h = cc

-- Where the parser gets to the end no fault is shown.
none_shown : (head defined : Item) (front rest : List Item) (s : State) (a : Alternation) → Tracks defined front s → run s rest ≡ Ok a → (xs ys : List Item) → rest ≡ xs ++ ys → shown (head ∷ defined ∷ front ++ xs) ys ≡ None
none_shown head defined front [] s a t h [] ys e = none_here head defined front [] s t (unless_ok _ _ _ h).0 ys e
none_shown head defined front [] s a t h (x ∷ xs) ys e = absurd (no_more xs ys x e)
none_shown head defined front (item ∷ rest) s a t h xs ys e =
    let go = unless_ok _ _ _ h in
    earlier head defined front rest item (suc (length xs)) (sym (same_fault defined front (item ∷ rest) s t) ∙ go.0)
    (λ us vs split less. none_shown head defined (front ++ item ∷ []) rest (shift s item) a (tracks_more defined front s item t) go.1 us vs split) xs ys e (omega arith)

pub parse_none : (items : List Item) (rule : Rule) → parse items ≡ Ok rule → (before after : List Item) → items ≡ before ++ after → shown before after ≡ None
parse_none [] rule h before after e = absurd (cc)
parse_none (head ∷ []) rule h before after e = neither _ _ _ rule h
parse_none (head ∷ defined ∷ body) rule h before after e =
    let c = chosen_ok _ _ _ _ h in
    let d = chosen_ok _ _ _ _ c.1 in
    let r = rule_ok head defined _ rule d.1 in
    let named : is_name_kind (kind_of head) ≡ true = c.0 in
    let is_defined : is_defined_as (kind_of defined) ≡ true = d.0 in
    head_earlier head defined body (suc (length before)) (rw named refl) (rw is_defined refl)
    (λ xs ys split less. none_shown head defined [] body (start defined) r.0 (record { last = refl; left = refl }) r.1 xs ys split) before after e (omega arith)

pub some_not_none : {A : Type 0} (o : Option SyntaxFault) (fault : SyntaxFault) → o ≡ Some fault → o ≡ None → A
some_not_none o fault h e = absurd (cc)

-- Fronts of one length are the same.
same_front : (xs ys us vs : List Item) → xs ++ ys ≡ us ++ vs → length xs ≡ length us → (xs ≡ us) × (ys ≡ vs)
same_front [] ys [] vs h e = (refl, h)
same_front [] ys (u ∷ us) vs h e = absurd (omega arith)
same_front (x ∷ xs) ys [] vs h e = absurd (omega arith)
same_front (x ∷ xs) ys (u ∷ us) vs h e =
    let same = cons_same h in
    let more = same_front xs ys us vs same.1 (omega arith) in
    (λ i. same.0 i ∷ more.0 i, more.1)

pub one_fault : (items : List Item) (x y : SyntaxFault) → Faults items x → Faults items y → x ≡ y
one_fault items x y f g =
    elim (cases_order (length f.front) (length g.front)) [
      | inl same ↦
          let fronts = same_front f.front f.rest g.front g.rest (sym f.split ∙ g.split) same in
          same_Some x y (sym f.shows ∙ (λ i. shown (fronts.0 i) (fronts.1 i)) ∙ g.shows)
      | inr order ↦ elim order [
        | inl less ↦ some_not_none (shown f.front f.rest) x f.shows (g.first f.front f.rest f.split less)
        | inr less ↦ some_not_none (shown g.front g.rest) y g.shows (f.first g.front g.rest g.split less)
      ]
    ]

ok_same : (r s : Rule) → ◌≡◌ {A = Result Rule SyntaxFault} (Ok r) (Ok s) → r ≡ s
ok_same r s h = cc

pub one_rule : (items : List Item) (r s : Rule) → Derives items r → Derives items s → r ≡ s
one_rule items r s p q = ok_same r s (sym (parse_complete items r p) ∙ parse_complete items s q)
