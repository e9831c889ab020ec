use Rattle.std.proofs.Common.{◌≡◌, ◌-◌, ◌<◌, ◌∙◌, ℕ, Bool, true, false, List, [], ◌∷◌, ap, arith, cond, map, refl, rules, subst, sym}
use Rattle.std.specs.Prelude.{All, filter, nat_lt}
use Rattle.std.proofs.lemmas.Fn.{filter_same}
use Rattle.std.proofs.lemmas.List.Elements.{All-filter}
use Rattle.ls_text.specs.Lines.{line_ends}
use Rattle.abnf_names.specs.Places.{Named}
use Rattle.findings_text.specs.declared.rules.Head.{Head}
use Rattle.findings_text.specs.Rules.{head_at}
use Rattle.findings_text.proofs.rules.told_heads.Goals as goal

map_if : (b : Bool) (head : Head) (heads : List Head) → map head_at (cond b (head ∷ heads) heads) ≡ cond b (head_at head ∷ map head_at heads) (map head_at heads)
map_if true head heads = refl
map_if false head heads = refl

kept_at : (n : ℕ) (heads : List Head) → map head_at (filter (λ (head : Head). nat_lt head.spot.place.line n) heads) ≡ filter (λ (head : Named × ℕ). nat_lt head.0.place.line n) (map head_at heads)
kept_at n [] = refl
kept_at n (head ∷ heads) =
    map_if (nat_lt head.spot.place.line n) head (filter (λ (h : Head). nat_lt h.spot.place.line n) heads)
    ∙ (λ i. cond (nat_lt head.spot.place.line n) (head_at head ∷ kept_at n heads i) (kept_at n heads i))

kept : (c : goal.After-from_vec) → c.from_vec.result ≡ filter (λ (head : Head). nat_lt head.spot.place.line (line_ends c.args.told.now)) c.args.heads
kept c =
    let lines : c.line_count.result - 1 ≡ line_ends c.args.told.now = omega (arith, c.line_count.ensures) in
    c.from_vec.ensures
    ∙ (filter_same _ (λ (head : Head). nat_lt head.spot.place.line (c.line_count.result - 1)) _ (λ x b f' k. search rules) _ _ c.retain.ensures.filtered
    ∙ (λ i. filter (λ (head : Head). nat_lt head.spot.place.line (lines i)) (c.into_vec-heads.ensures i)))

pub returns-clause-heads : goal.returns-clause-heads
returns-clause-heads c = ap (map head_at) (kept c) ∙ kept_at (line_ends c.args.told.now) c.args.heads

pub returns-clause-within : goal.returns-clause-within
returns-clause-within c = λ n all.
    subst (λ (heads : List Head). All (λ head. head.rule < n) heads) (sym (kept c)) (All-filter (λ (head : Head). nat_lt head.spot.place.line (line_ends c.args.told.now)) (λ (head : Head). head.rule < n) c.args.heads all)
