-- Choices that are named in the table itself, one after the other.
use Rattle.std.proofs.Common.{◌≡◌, ℕ, zero, suc, ◌+◌, ◌<◌, ◌≤◌, ⊎_elim, Bool, true, false, cond, Some, None, List, [], ◌∷◌, length, refl, sym, ap, ◌∙◌, subst, arith, map, set, get_or-set_same, get_or-set_other}
use Rattle.std.specs.Prelude.{nat_lt}
use Rattle.std.proofs.lemmas.Bool.{cases_lt, cases_eq}
use Rattle.std.proofs.lemmas.List.{get_or_past, length-set}
use Rattle.abnf_cert.specs.declared.entry.Entry.{Entry}
use Rattle.abnf_cert.specs.declared.entry.Entry.TheVariants.{Nothing, Least}
use Rattle.abnf_parts.specs.declared.node.Node.{Node}
use Rattle.abnf_parts.specs.declared.node.Node.TheVariants.{Quoted, Series, Span, Seq, Alt, Rep, Ref, Opaque}
use Rattle.abnf_parts.specs.Part.{Part, parts_of}
use Rattle.abnf_cert.specs.Accepted.{in_a_row, all_in_a_row, times, referred, entry_at, IsAccepted}
use Rattle.abnf_least.specs.own.Form.{Form, text, never, row, one_of, repeated, refers, repetition_form, node_form, entry_given, first_least}
use Rattle.abnf_least.specs.Table.{InRange, IsUnchosen}
use Rattle.abnf_least.specs.own.Search.{IsExhausted, IsSearchState, AreGiven, form_at}
use Rattle.abnf_least.proofs.Accept.{SamePair, given_alike, done_same, accepted_given}
use Rattle.abnf_least.proofs.At.{past_form, done_from}

abbrev pub IsChoiceForm : Form → Type 0
IsChoiceForm (one_of ns) = Unit {0}
IsChoiceForm _ = ⊥

-- ---- what is no choice names no part

row_unchosen : (es : List Entry) → IsUnchosen (all_in_a_row es)
row_unchosen [] = refl
row_unchosen (Nothing ∷ es) = tt
row_unchosen (Least l h c ∷ es) = elim (all_in_a_row es) as (λ x. IsUnchosen (in_a_row (Least l h c) x)) [ Nothing ↦ tt | Least m k d ↦ refl ]

times_unchosen : (more : ℕ) (e : Entry) → IsUnchosen (times (suc more) e)
times_unchosen more Nothing = tt
times_unchosen more (Least l h c) = refl

referred_unchosen : (e : Entry) → IsUnchosen (referred e)
referred_unchosen Nothing = tt
referred_unchosen (Least l h c) = refl

given_unchosen : (at : ℕ → Entry) (f : Form) → (IsChoiceForm f → ⊥) → IsUnchosen (entry_given at f)
given_unchosen at (text n) other = refl
given_unchosen at never other = tt
given_unchosen at (row ns) other = row_unchosen (map at ns)
given_unchosen at (one_of ns) other = absurd (other tt)
given_unchosen at (repeated more n) other = times_unchosen more (at n)
given_unchosen at (refers n) other = referred_unchosen (at n)

unless_never : (b : Bool) (f : Form) → (IsChoiceForm f → ⊥) → IsChoiceForm (cond b never f) → ⊥
unless_never true f other is = is
unless_never false f other is = other is

repeated_other : (least n : ℕ) → IsChoiceForm (repetition_form least n) → ⊥
repeated_other zero n is = is
repeated_other (suc more) n is = is

-- a node that isn't a choice has another form
pub other_form : (root : ℕ → ℕ) (node : Node) → ((ns : List ℕ) → node ≡ Alt ns → ⊥) → IsChoiceForm (node_form root node) → ⊥
other_form root (Quoted t exact) apart is = is
other_form root (Series characters) apart is = is
other_form root (Span low high) apart is = unless_never (nat_lt high low) (text 1) (λ x. x) is
other_form root (Seq ns) apart is = is
other_form root (Alt ns) apart is = apart ns refl
other_form root (Rep least None n) apart is = repeated_other least n is
other_form root (Rep least (Some most) n) apart is = unless_never (nat_lt most least) (repetition_form least n) (repeated_other least n) is
other_form root (Ref name None) apart is = is
other_form root (Ref name (Some r)) apart is = is
other_form root Opaque apart is = is

-- ---- pairs

itself : (e : Entry) → SamePair e e
itself Nothing = tt
itself (Least l h c) = (refl, refl)

same_unchosen : (e f : Entry) → SamePair e f → IsUnchosen e → IsUnchosen f → e ≡ f
same_unchosen Nothing Nothing s u v = refl
same_unchosen Nothing (Least m k d) s u v = absurd s
same_unchosen (Least l h c) Nothing s u v = absurd s
same_unchosen (Least l h c) (Least m k d) s u v = ap (λ x. Least x h c) s.0 ∙ ap (λ x. Least m x c) s.1 ∙ ap (λ x. Least m k x) (u ∙ sym v)

same_range : (e f : Entry) → SamePair e f → InRange e → InRange f
same_range Nothing Nothing s r = tt
same_range Nothing (Least m k d) s r = absurd s
same_range (Least l h c) Nothing s r = absurd s
same_range (Least l h c) (Least m k d) s r = omega (arith, r, s.0)

-- ---- the table

-- The first parts have what the table gave them, the others what they had in it.
pub record ChosenUpTo (form : ℕ → Form) (old new : List Entry) (count : ℕ) : Type 0 where
  pub one_each : length new ≡ length old
  pub chosen : (n : ℕ) → n < count → entry_at new n ≡ entry_given (entry_at old) (form n)
  pub left : (n : ℕ) → count ≤ n → entry_at new n ≡ entry_at old n

pub none_chosen : (form : ℕ → Form) (table : List Entry) → ChosenUpTo form table table 0
none_chosen form table = record { one_each = refl; chosen = λ n below. absurd (omega arith); left = λ n past. refl }

module _ (trees : List Part) (old : List Entry) (s : IsSearchState trees old []) where
  pub done : IsExhausted (form_at trees) (entry_at old)
  done = done_from (form_at trees) (entry_at old) [] s.waiting refl

  given_same : (n : ℕ) → SamePair (entry_at old n) (entry_given (entry_at old) (form_at trees n))
  given_same = done_same (form_at trees) (entry_at old) s.settled done

  module _ (new : List Entry) (count : ℕ) (v : ChosenUpTo (form_at trees) old new count) where
    -- each part keeps its pair
    pairs_stay : (n : ℕ) → SamePair (entry_at old n) (entry_at new n)
    pairs_stay n =
        ⊎_elim
        (λ less. subst (λ e. SamePair (entry_at old n) e) (sym (v.chosen n less)) (given_same n))
        (λ ge. subst (λ e. SamePair (entry_at old n) e) (sym (v.left n ge)) (itself (entry_at old n)))
        (cases_lt n count)

    pub choice_named : (ns : List ℕ) (e : Entry) → count < length new → form_at trees count ≡ one_of ns → e ≡ first_least 0 (map (entry_at new) ns) → ChosenUpTo (form_at trees) old (set new count e) (count + 1)
    choice_named ns e within form_is is =
        let given : e ≡ entry_given (entry_at old) (form_at trees count) =
        is ∙ given_alike (entry_at old) (entry_at new) pairs_stay (one_of ns) ∙ ap (entry_given (entry_at old)) (sym form_is) in
        let others : (n : ℕ) → (n ≡ count → ⊥) → entry_at (set new count e) n ≡ entry_at new n = λ n ne. get_or-set_other new count n e Nothing ne in
        record {
          one_each = length-set new count e ∙ v.one_each;
          chosen = λ n below.
              ⊎_elim
              (λ same. ap (entry_at (set new count e)) same ∙ get_or-set_same new count e Nothing within ∙ given ∙ ap (λ m. entry_given (entry_at old) (form_at trees m)) (sym same))
              (λ other. others n other ∙ v.chosen n (omega arith))
              (cases_eq n count);
          left = λ n past. others n (λ same. omega arith) ∙ v.left n (omega arith);
        }

    pub no_choice : (IsChoiceForm (form_at trees count) → ⊥) → ChosenUpTo (form_at trees) old new (count + 1)
    no_choice other =
        record {
          one_each = v.one_each;
          chosen = λ n below.
              ⊎_elim
              (λ less. v.chosen n less)
              (λ ge.
              let same : count ≡ n = omega arith in
              subst (λ m. entry_at new m ≡ entry_given (entry_at old) (form_at trees m)) same
              (v.left count (omega arith)
              ∙ same_unchosen (entry_at old count) (entry_given (entry_at old) (form_at trees count)) (given_same count) (s.unchosen count) (given_unchosen (entry_at old) (form_at trees count) other)))
              (cases_lt n count);
          left = λ n past. v.left n (omega arith);
        }

    pub all_chosen : length (parts_of trees) ≤ count → AreGiven trees old new
    all_chosen all =
        record {
          one_each = v.one_each ∙ s.one_each;
          each = λ n.
              ⊎_elim
              (λ less. v.chosen n less)
              (λ ge.
              v.left n ge ∙ get_or_past old n Nothing (let one = s.one_each in omega arith)
              ∙ sym (ap (entry_given (entry_at old)) (past_form trees n (omega arith))))
              (cases_lt n count);
          lengths = λ n. same_range (entry_at old n) (entry_at new n) (pairs_stay n) (s.lengths n);
        }

pub accepted_chosen : (trees : List Part) (old new : List Entry) → IsSearchState trees old [] → AreGiven trees old new → IsAccepted trees new
accepted_chosen trees old new s given = accepted_given trees old new s.settled (done trees old s) given
