-- The check answers with the fault of the parse.
use Rattle.std.proofs.Common.{◌≡◌, ◌<◌, List, [], ◌∷◌, length, Option, Some, None, Result, Ok, Err, refl, ap, ◌∙◌, ◌⊎◌, inl, inr}
use Rattle.std.specs.Prelude.{IfOk, IfErr}
use Rattle.std.specs.Option.{option_or}
use Rattle.std.specs.Result.{result_err}
use Rattle.abnf_syntax.specs.declared.item.Item.{Item}
use Rattle.abnf_syntax.specs.declared.fault.SyntaxFault.{SyntaxFault}
use Rattle.abnf_syntax.specs.declared.fault.SyntaxFault.TheVariants.{Memory}
use Rattle.abnf_syntax.specs.declared.tree.Rule.{Rule}
use Rattle.abnf_syntax.specs.Grammar.{kind_of, Alternation, Derives}
use Rattle.abnf_syntax.specs.Faults.{Faults}
use Rattle.abnf_syntax.specs.own.Check.{Shows, fault_behind, first_fault}
use Rattle.abnf_syntax.specs.Machine.{State, brackets, start, shift, fault_at, unless, run, rule_with, parse}
use Rattle.abnf_syntax.proofs.FaultSide.{shift_brackets, shift_last}
use Rattle.abnf_syntax.proofs.Whole.{parse_sound, parse_complete, parse_faulty}
use Rattle.abnf_syntax.proofs.Exact.{parse_none, one_fault, some_not_none}

err_unless : (o : Option SyntaxFault) (go : Result Alternation SyntaxFault) → result_err (unless o go) ≡ option_or o (result_err go)
err_unless None go = refl
err_unless (Some fault) go = refl

err_end : (o : Option SyntaxFault) (a : Alternation) → result_err (unless o (Ok a)) ≡ o
err_end None a = refl
err_end (Some fault) a = refl

-- The machine's fault is the first that is shown.
err_run : (items : List Item) (s : State) → result_err (run s items) ≡ first_fault s.last (brackets s.outer) items
unfolding fault_at fault_behind shift
err_run [] s = err_end (fault_at s []) _
err_run (item ∷ items) s =
    err_unless (fault_at s (item ∷ items)) (run (shift s item) items)
    ∙ ap (option_or (fault_at s (item ∷ items)))
    (err_run items (shift s item) ∙ (λ i. first_fault (shift_last (kind_of item) s item i) (shift_brackets (kind_of item) s item i) items))

err_rule : (head defined : Item) (r : Result Alternation SyntaxFault) → result_err (rule_with head defined r) ≡ result_err r
err_rule head defined (Ok a) = refl
err_rule head defined (Err fault) = refl

pub err_parse : (items : List Item) (head defined : Item) (body : List Item) → parse items ≡ rule_with head defined (run (start defined) body) → result_err (parse items) ≡ first_fault defined [] body
err_parse items head defined body h = ap result_err h ∙ err_rule head defined (run (start defined) body) ∙ err_run body (start defined)

pub start_fault : (defined : Item) (body : List Item) → fault_at (start defined) body ≡ fault_behind defined [] body
unfolding fault_at fault_behind
start_fault defined body = refl

err_back : (r : Result Rule SyntaxFault) (fault : SyntaxFault) → result_err r ≡ Some fault → r ≡ Err fault
err_back (Ok rule) fault h = absurd (cc)
err_back (Err other) fault h = cc

ok_back : (r : Result Rule SyntaxFault) → result_err r ≡ None → (rule : Rule) × (r ≡ Ok rule)
ok_back (Ok rule) h = (rule, refl)
ok_back (Err fault) h = absurd (cc)

-- what a check says of items
module _ (items : List Item) where
  pub check_sound : (r : Result (Unit {0}) SyntaxFault) → Shows r (result_err (parse items)) → IfOk r (λ _. (rule : Rule) × Derives items rule)
  check_sound (Ok done) h = let p = ok_back (parse items) h in (p.0, parse_sound items p.0 p.1)
  check_sound (Err fault) h = tt

  pub check_derived : (r : Result (Unit {0}) SyntaxFault) → Shows r (result_err (parse items)) → (rule : Rule) → Derives items rule → (r ≡ Ok tt) ⊎ (r ≡ Err Memory)
  check_derived (Ok done) h rule d = inl refl
  check_derived (Err fault) h rule d =
      elim h [ inl m ↦ inr (ap Err m) | inr e ↦ some_not_none (result_err (parse items)) fault e (ap result_err (parse_complete items rule d)) ]

  pub check_shows : (r : Result (Unit {0}) SyntaxFault) → 0 < length items → Shows r (result_err (parse items)) → IfErr r (λ fault. (fault ≡ Memory) ⊎ Faults items fault)
  check_shows (Ok done) some h = tt
  check_shows (Err fault) some h = elim h [ inl m ↦ inl m | inr e ↦ inr (parse_faulty items fault some (err_back (parse items) fault e)) ]

  pub check_shown : (r : Result (Unit {0}) SyntaxFault) → 0 < length items → Shows r (result_err (parse items)) → (fault : SyntaxFault) → Faults items fault → (r ≡ Err fault) ⊎ (r ≡ Err Memory)
  check_shown (Ok done) some h fault f =
      let p = ok_back (parse items) h in
      some_not_none _ fault f.shows (parse_none items p.0 p.1 f.front f.rest f.split)
  check_shown (Err found) some h fault f =
      elim h [ inl m ↦ inr (ap Err m) | inr e ↦ inl (ap Err (one_fault items found fault (parse_faulty items found some (err_back (parse items) found e)) f)) ]

  pub parse_bare : (first : Option SyntaxFault) → result_err (parse items) ≡ first → (r : Result (Unit {0}) SyntaxFault) → IfErr r (λ fault. first ≡ Some fault) → IfErr r (λ fault. parse items ≡ Err fault)
  parse_bare first same (Ok done) h = tt
  parse_bare first same (Err fault) h = err_back (parse items) fault (same ∙ h)

  pub check_bare : (r : Result (Unit {0}) SyntaxFault) → 0 < length items → IfErr r (λ fault. parse items ≡ Err fault) → IfErr r (λ fault. Faults items fault)
  check_bare (Ok done) some h = tt
  check_bare (Err fault) some h = parse_faulty items fault some h
