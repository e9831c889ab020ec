-- Parts that are given nothing where no part is settled.
use Rattle.std.proofs.Common.{◌≡◌, ℕ, suc, ◌⊎◌, ⊎_elim, not, true, false, List, [], ◌∷◌, length, Option, Some, None, refl, sym, ◌∙◌, subst, map, eqb}
use Rattle.std.proofs.Math.Dec.{eqb-suc-zero}
use Rattle.std.specs.Prelude.{IsTrue, ◌↔◌}
use Rattle.abnf_token.specs.declared.folded.Folded.{Folded}
use Rattle.abnf_parts.specs.declared.node.Node.{Node}
use Rattle.abnf_parts.specs.declared.node.Node.TheVariants.{Alt, Ref, Opaque}
use Rattle.abnf_cert.specs.declared.entry.Entry.{Entry}
use Rattle.abnf_cert.specs.declared.entry.Entry.TheVariants.{Nothing}
use Rattle.abnf_cert.specs.Accepted.{entry_at}
use Rattle.abnf_least.specs.own.Form.{Form, AwaitsParts, row, one_of, entry_given, first_least, node_form}
use Rattle.abnf_least.specs.Table.{NoneSettled, IsUpTo, HasRoomAbove}
use Rattle.abnf_least.proofs.Accept.{SamePair, given_alike}

both : (A : Type 0) → A → IsTrue true ↔ A
both A a = (λ t. a, λ b. refl)

neither : (A : Type 0) → (A → ⊥) → IsTrue false ↔ A
neither A not_so = (λ t. absurd (true_is_false t), λ a. absurd (not_so a))
  where
    true_is_false : false ≡ true → ⊥
    true_is_false e = cc

pub row_awaits : (ns : List ℕ) → IsTrue (not (eqb (length ns) 0)) ↔ AwaitsParts (row ns)
row_awaits [] = neither (AwaitsParts (row [])) (λ e. cc)
row_awaits (n ∷ ns) = subst (λ b. IsTrue (not b) ↔ AwaitsParts (row (n ∷ ns))) (sym (eqb-suc-zero (length ns))) (both (AwaitsParts (row (n ∷ ns))) refl)

choice_awaits : (ns : List ℕ) → AwaitsParts (one_of ns)
choice_awaits ns = all_nothing 0 ns
  where
    all_nothing : (i : ℕ) (ms : List ℕ) → first_least i (map (λ n. Nothing) ms) ≡ Nothing
    all_nothing i [] = refl
    all_nothing i (m ∷ ms) = all_nothing (suc i) ms

reference_awaits : (root : ℕ → ℕ) (name : Folded) (rule : Option ℕ) → AwaitsParts (node_form root (Ref name rule))
reference_awaits root name None = refl
reference_awaits root name (Some r) = refl

pub others_await : (root : ℕ → ℕ) (node : Node) → ((ns : List ℕ) × (node ≡ Alt ns)) ⊎ (((name : Folded) × (rule : Option ℕ) × (node ≡ Ref name rule)) ⊎ (node ≡ Opaque)) → IsTrue true ↔ AwaitsParts (node_form root node)
others_await root node is =
    let moved : (other : Node) → node ≡ other → AwaitsParts (node_form root other) → AwaitsParts (node_form root node) =
    λ other same awaits. subst (λ x. AwaitsParts (node_form root x)) (sym same) awaits in
    both (AwaitsParts (node_form root node))
    (⊎_elim
    (λ a. moved (Alt a.0) a.1 (choice_awaits a.0))
    (λ b. ⊎_elim (λ r. moved (Ref r.0 r.1) r.2 (reference_awaits root r.0 r.1)) (λ o. moved Opaque o refl) b)
    is)

-- in a table where no part is settled
module _ (table : List Entry) (none : NoneSettled table) where
  pub still_nothing : (f : Form) → AwaitsParts f → entry_given (entry_at table) f ≡ Nothing
  still_nothing f awaits = given_alike (λ n. Nothing) (entry_at table) (λ n. subst (λ e. SamePair Nothing e) (sym (none n)) tt) f ∙ awaits

  pub room_for_all : HasRoomAbove table
  room_for_all n = subst (IsUpTo 18446744073709551614) (sym (none n)) tt
