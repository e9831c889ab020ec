-- The parser's steps where nothing shows a fault.
use Rattle.std.proofs.Common.{◌≡◌, ◌∙◌, ◌<◌, ◌≤◌, ◌+◌, ℕ, suc, List, [], ◌∷◌, length, drop, get_or, Option, Some, None, Result, Ok, Err, refl, sym, ap, subst, arith}
use Rattle.std.specs.declared.alloc.AllocError.{AllocError}
use Rattle.std.specs.Prelude.{IfOk, IsOk}
use Rattle.std.proofs.Math.Seq.{drop-cons}
use Rattle.std.proofs.lemmas.List.{drop_all}
use Rattle.abnf_syntax.specs.declared.item.Item.{Item}
use Rattle.abnf_syntax.specs.declared.fault.SyntaxFault.{SyntaxFault}
use Rattle.abnf_syntax.specs.declared.tree.Rule.{Rule}
use Rattle.abnf_syntax.specs.Faults.{Faults}
use Rattle.abnf_syntax.specs.Grammar.{Alternation, Derives}
use Rattle.abnf_syntax.specs.Machine.{State, finish, parse, run, shift, fault_at, unless}
use Rattle.abnf_syntax.proofs.Whole.{parse_sound}

goes : (o : Option SyntaxFault) (r : Result Alternation SyntaxFault) → IsOk (unless o r) → unless o r ≡ r
goes None r h = refl
goes (Some fault) r h = absurd (cc)

-- the next item is taken
pub next_goes : (items : List Item) (i : ℕ) (item : Item) (s next : State) (whole : Result Alternation SyntaxFault) → i < length items → item ≡ get_or items i item
    → run s (drop i items) ≡ whole → IsOk whole → next ≡ shift s item → run next (drop (i + 1) items) ≡ whole
next_goes items i item s next whole less is same ok e =
    let rest = drop (i + 1) items in
    let split : drop i items ≡ item ∷ rest =
    drop-cons items i item less ∙ ((λ j. sym is j ∷ drop (suc i) items) ∙ ap (λ k. item ∷ drop k items) (let one : suc i ≡ i + 1 = omega arith in one)) in
    let here : run s (item ∷ rest) ≡ whole = ap (run s) (sym split) ∙ same in
    ap (λ t. run t rest) e ∙ (sym (goes (fault_at s (item ∷ rest)) (run (shift s item) rest) (subst IsOk (sym here) ok)) ∙ here)

-- the end is reached
pub end_goes : (items : List Item) (i : ℕ) (s : State) (whole : Result Alternation SyntaxFault) → length items ≤ i → run s (drop i items) ≡ whole → IsOk whole
    → (r : Result Alternation AllocError) → IfOk r (λ a. a ≡ finish s.level) → IfOk r (λ a. whole ≡ Ok a)
end_goes items i s whole past same ok (Ok a) e =
    let here : run s [] ≡ whole = ap (run s) (sym (drop_all i items past)) ∙ same in
    sym here ∙ (goes (fault_at s []) (Ok (finish s.level)) (subst IsOk (sym here) ok) ∙ ap Ok (sym e))
end_goes items i s whole past same ok (Err error) e = tt

-- what shows no fault is parsed
pub parsed_goes : (items : List Item) → ((fault : SyntaxFault) → Faults items fault → ⊥) → (r : Result Rule SyntaxFault) → parse items ≡ r → ((fault : SyntaxFault) → parse items ≡ Err fault → Faults items fault) → IsOk r
parsed_goes items sound (Ok rule) e faulty = refl
parsed_goes items sound (Err fault) e faulty = absurd (sound fault (faulty fault e))

pub if_parsed : (items : List Item) (r : Result Rule AllocError) → IfOk r (λ rule. parse items ≡ Ok rule) → IfOk r (λ rule. Derives items rule)
if_parsed items (Ok rule) e = parse_sound items rule e
if_parsed items (Err error) e = tt
