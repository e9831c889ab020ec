-- Where there are no more than ten faults of syntax it doesn't matter where blocks end.
use Rattle.std.proofs.Common.{◌≡◌, ◌∙◌, ℕ, ◌+◌, ◌≤◌, List, [], ◌∷◌, ◌++◌, ap, arith, cond, drop, refl, sym, take}
use Rattle.std.specs.Prelude.{count_by}
use Rattle.std.specs.List.{prefix_len}
use Rattle.std.proofs.lemmas.Bool.{le-ltb}
use Rattle.std.proofs.lemmas.List.{take-append-drop}
use Rattle.std.proofs.lemmas.List.Sums.{sum_by-append}
use Rattle.draft_findings.specs.Reports.{Remarked, alone, cut_at, is_in_front, is_fault, of_block}
use Rattle.std.specs.Prelude.{find}

-- faults of both parts
parts : (n : ℕ) (rs : List Remarked) → count_by is_fault (take n rs) + count_by is_fault (drop n rs) ≡ count_by is_fault rs
parts n rs =
    sym (sum_by-append (λ r. cond (is_fault r) 1 0) (take n rs) (drop n rs)) ∙ ap (count_by is_fault) (take-append-drop n rs)

few_in : (rs : List Remarked) → count_by is_fault rs ≤ 10 → of_block rs ≡ rs
few_in rs le =
    ap (λ b. cond b (alone (count_by is_fault rs) (find is_fault rs)) rs) (le-ltb 10 (count_by is_fault rs) le)

pub few : (ends : List ℕ) (rs : List Remarked) → count_by is_fault rs ≤ 10 → cut_at ends rs ≡ rs
few [] rs le = refl
few (end ∷ ends) rs le =
    let n = prefix_len (is_in_front end) rs in
    let front = few_in (take n rs) (omega (arith, le, parts n rs)) in
    let back = few ends (drop n rs) (omega (arith, le, parts n rs)) in
    (λ i. front i ++ back i) ∙ take-append-drop n rs
