-- Where no node is opaque no rule leads to an opaque part.
use Rattle.std.proofs.Common.{◌≡◌, ◌∙◌, ℕ, zero, suc, Bool, true, false, List, length, get_or, ap}
use Rattle.std.specs.Prelude.{Some, Result, Ok, Err, IfOk, replicate, Contains}
use Rattle.std.specs.List.{list_all}
use Rattle.std.proofs.lemmas.List.{get_or-replicate, length-replicate}
use Rattle.std.proofs.lemmas.List.Folds.{list_all_at}
use Rattle.std.proofs.lemmas.Option.{slice_get-get_or, get_or_from_slice_get, slice_get_within}
use Rattle.abnf_parts.specs.declared.node.Node.{Node}
use Rattle.abnf_parts.specs.Part.{Part, opaque, parts_of}
use Rattle.abnf_parts.specs.Nodes.{AreNodes, AreNumbered, trees_at}
use Rattle.abnf_parts.specs.Reach.{ReachesBy, AreReaching}
use Rattle.abnf_names.specs.own.Users.{is_clear}
use Rattle.abnf_names.proofs.UsersLaws.{in_parts}

module _ (trees : List Part) (nodes : List Node) (are : AreNodes trees nodes) (clear : list_all is_clear nodes ≡ true) where
  no_opaque : Contains (parts_of trees) opaque → ⊥
  no_opaque h =
      let one = are.each h.0 opaque (slice_get-get_or (parts_of trees) h.0 opaque h.1 ∙ ap Some h.2) in
      let unclear : is_clear one.0 ≡ false = ap is_clear one.2 in
      let none = list_all_at is_clear nodes h.0 one.0 (slice_get_within nodes h.0 one.0 one.1) (ap is_clear (get_or_from_slice_get nodes h.0 one.0 one.0 one.1) ∙ unclear) in
      absurd (cc (clear, none))

  never_by : (uses r : ℕ) → ReachesBy trees uses r → ⊥
  never_by zero r h = no_opaque (in_parts trees nodes are trees r h.0 opaque h.1 h.2)
  never_by (suc uses) r h = never_by uses h.3 h.5

  unmarked : (marks : List Bool) → marks ≡ replicate (length trees) false → AreReaching trees marks
  unmarked marks same = record {
    one_each = ap length same ∙ length-replicate (length trees) false;
    each = λ r l.
        let none : get_or marks r false ≡ false = ap (λ (bs : List Bool). get_or bs r false) same ∙ get_or-replicate (length trees) r false false l in
        (λ e. absurd (cc (e, none)), λ reach. absurd (never_by reach.0 r reach.1));
  }

pub none_reach : {V E : Type 0} (items : V → List Bool) (nodes : List Node) (roots : List ℕ) → AreNumbered nodes roots → list_all is_clear nodes ≡ true → (given : Result V E)
    → IfOk given (λ v. items v ≡ replicate (length roots) false) → IfOk given (λ v. AreReaching (trees_at nodes roots) (items v))
none_reach items nodes roots right clear (Ok v) same =
    let trees = trees_at nodes roots in
    let count : length roots ≡ length trees = right.1.one_each in
    unmarked trees nodes right.0 clear (items v) (same ∙ ap (λ n. replicate n false) count)
none_reach items nodes roots right clear (Err x) same = same
