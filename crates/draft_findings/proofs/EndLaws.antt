-- The ends of blocks, found one character at a time.
use Rattle.std.proofs.Common.{◌≡◌, ◌∙◌, ℕ, ◌+◌, ◌≤◌, Bool, true, false, List, [], ◌∷◌, ◌++◌, ap, append_assoc, arith, cond, drop, sym}
use Rattle.std.specs.Prelude.{not}
use Rattle.ls_text.specs.Lines.{ends_line}
use Rattle.origins.specs.Origins.{Sourced, characters}
use Rattle.draft_findings.specs.Ends.{ends_block, ends_from, is_of_draft, line_behind}
use Rattle.draft_findings.proofs.WalkLaws.{drop_next}

-- LF behind which something comes ends a block where it stands for nothing of the draft
pub not_last : (draft : List ℕ) (c origin : ℕ) (cs : List Sourced) (d : ℕ) (ds : List ℕ) (r : Bool) → c ≡ 10 → d ∷ ds ≡ characters cs → r ≡ is_of_draft draft origin
    → not r ≡ ends_block draft (c, origin) cs
not_last draft c origin [] d ds r lf e is = absurd (cc e)
not_last draft c origin (x ∷ xs) d ds r lf e is =
    ap not is ∙ ap (λ k. ends_block draft (k, origin) (x ∷ xs)) (sym lf)

-- at most one line ends
pub line_le : (line c : ℕ) (behind : List ℕ) → line_behind line c behind ≤ line + 1
line_le line c behind = of (ends_line c behind)
  where
    of : (b : Bool) → cond b (line + 1) line ≤ line + 1
    of true = omega arith
    of false = omega arith

-- the first of characters, with where it comes from, and those behind it
pub record Front (xs : List Sourced) (c : ℕ) (ds : List ℕ) : Type 0 where
  pub origin : ℕ
  pub behind : List Sourced
  pub is : xs ≡ (c, origin) ∷ behind
  pub rest : ds ≡ characters behind

pub front_of : (xs : List Sourced) (c : ℕ) (ds : List ℕ) → c ∷ ds ≡ characters xs → Front xs c ds
front_of [] c ds e = absurd (cc e)
front_of (x ∷ xs) c ds e =
    let same : c ≡ x.0 = cc e in
    let rest : ds ≡ characters xs = cc e in
    record { origin = x.1; behind = xs; is = (λ i. (sym same i, x.1) ∷ xs); rest = rest }

module _ (draft : List ℕ) (grammar : List Sourced) (at line c next : ℕ) (behind ends all : List ℕ) (front : Front (drop at grammar) c behind)
    (told : ends ++ ends_from draft line (drop at grammar) ≡ all) (is_next : next ≡ line_behind line c behind)
  where
    -- what the first of them adds
    abbrev added : Bool → ℕ → List ℕ
    added b n = cond b (n ∷ ends_from draft n front.behind) (ends_from draft n front.behind)

    here : ends_from draft line (drop at grammar) ≡ added (ends_block draft (c, front.origin) front.behind) next
    here =
        ap (ends_from draft line) front.is
        ∙ ap (added (ends_block draft (c, front.origin) front.behind)) (ap (line_behind line c) (sym front.rest) ∙ sym is_next)

    left : drop (at + 1) grammar ≡ front.behind
    left = (drop_next at grammar (c, front.origin) front.behind front.is).0

    -- a block ends
    pub end_found : true ≡ ends_block draft (c, front.origin) front.behind → (more : List ℕ) → more ≡ ends ++ next ∷ [] → more ++ ends_from draft next (drop (at + 1) grammar) ≡ all
    end_found ends_it more is =
        (λ i. is i ++ ends_from draft next (left i))
        ∙ (append_assoc ends (next ∷ []) (ends_from draft next front.behind)
        ∙ (ap (λ (t : List ℕ). ends ++ t) (ap (λ b. added b next) ends_it ∙ sym here) ∙ told))

    -- none does
    pub none_found : false ≡ ends_block draft (c, front.origin) front.behind → ends ++ ends_from draft next (drop (at + 1) grammar) ≡ all
    none_found goes_on =
        ap (λ t. ends ++ ends_from draft next t) left ∙ (ap (λ (t : List ℕ). ends ++ t) (ap (λ b. added b next) goes_on ∙ sym here) ∙ told)
