-- Nodes, and the forms of the parts that they stand for.
use Rattle.std.proofs.Common.{◌≡◌, ℕ, ◌<◌, ◌≤◌, ⊎_elim, List, [], length, refl, sym, ap, ◌∙◌, subst, arith, get_or}
use Rattle.std.proofs.lemmas.Option.{slice_get_past}
use Rattle.std.specs.List.{Contains}
use Rattle.abnf_cert.specs.declared.entry.Entry.{Entry}
use Rattle.abnf_cert.specs.declared.entry.Entry.TheVariants.{Nothing}
use Rattle.abnf_parts.specs.declared.node.Node.{Node}
use Rattle.abnf_parts.specs.Nodes.{AreNodes}
use Rattle.abnf_cert.specs.FitsNode.{NodeRefersWithin}
use Rattle.abnf_parts.specs.Part.{Part, parts_of, root_number}
use Rattle.abnf_cert.specs.Accepted.{HasPair}
use Rattle.abnf_cert.specs.Accepted.{entry_at}
use Rattle.abnf_cert.proofs.Checked.{stands_at}
use Rattle.abnf_least.specs.declared.candidate.Candidate.{Candidate}
use Rattle.abnf_least.specs.own.Form.{Form, never, entry_given, node_form}
use Rattle.abnf_least.specs.own.Queue.{LeavesQueue}
use Rattle.abnf_least.specs.own.Search.{form_or, form_at, HasGivenPair, IsFound, IsExhausted, AllWait, candidate}
use Rattle.abnf_least.proofs.Accept.{same_form}
use Rattle.abnf_least.proofs.Settle.{some_least}
use Rattle.abnf_least.proofs.SearchStep.{first_of_all, others_wait, all_wait}

-- a node has the form of its part, and refers to rules of the grammar alone
pub record HasForm (trees : List Part) (n : ℕ) (node : Node) : Type 0 where
  pub form : form_at trees n ≡ node_form (root_number trees) node
  pub refers : NodeRefersWithin (length trees) node

pub has_form : (trees : List Part) (nodes : List Node) (n : ℕ) (node : Node) → AreNodes trees nodes → n < length nodes → node ≡ get_or nodes n node → HasForm trees n node
has_form trees nodes n node are within is =
    let st = stands_at trees nodes n node are within is in
    record {
      form = ap (form_or (root_number trees) n) st.is ∙ sym (same_form (root_number trees) n st.part node st.of_part);
      refers = st.refers;
    }

pub past_form : (trees : List Part) (n : ℕ) → length (parts_of trees) ≤ n → form_at trees n ≡ never
past_form trees n past = ap (form_or (root_number trees) n) (slice_get_past (parts_of trees) n past)

module _ (trees : List Part) (table : List Entry) (x : Candidate) (e : Entry) where
  pub given_from : x.number < length table → entry_at table x.number ≡ Nothing → e ≡ entry_given (entry_at table) (form_at trees x.number) → HasPair x.length x.height e → HasGivenPair (form_at trees) table x
  given_from within waits is pair =
      record { within = within; waits = waits; choice = pair.0; given = sym is ∙ pair.1 }

  pub pair_from : e ≡ entry_given (entry_at table) (form_at trees x.number) → HasGivenPair (form_at trees) table x → HasPair x.length x.height e
  pair_from is g = (g.choice, is ∙ g.given)

module _ (trees : List Part) (table : List Entry) (old new : List Candidate) (x : Candidate) (one_each : length table ≡ length (parts_of trees)) (waiting : AllWait (form_at trees) (entry_at table) old) where
  pub found : LeavesQueue old x new → HasGivenPair (form_at trees) table x → IsFound (form_at trees) table x new
  found leaves g =
      record {
        is_given = g;
        first = first_of_all (form_at trees) (entry_at table) old new x waiting leaves;
        others = others_wait (form_at trees) (entry_at table) old new x waiting leaves;
      }

  pub passed : LeavesQueue old x new → (HasGivenPair (form_at trees) table x → ⊥) → AllWait (form_at trees) (entry_at table) new
  passed leaves not_given =
      all_wait (form_at trees) table old new x refl waiting leaves (λ k past. past_form trees k (omega (arith, one_each))) not_given

nowhere : (x : Candidate) → Contains [] x → ⊥
nowhere x (k, within, is) = omega arith

pub done_from : (form : ℕ → Form) (at : ℕ → Entry) (queue : List Candidate) → AllWait form at queue → queue ≡ [] → IsExhausted form at
done_from form at queue waiting empty k waits =
    ⊎_elim
    (λ none. none)
    (λ some. absurd (nowhere (candidate some.0 some.1 k) (subst (λ q. Contains q (candidate some.0 some.1 k)) empty (waiting k some.0 some.1 some.2 waits some.3))))
    (some_least (entry_given at (form k)))
