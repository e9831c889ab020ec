use Rattle.std.proofs.Common.{◌≡◌, ◌∙◌, ◌+◌, ◌++◌, ◌<◌, false, List, [], ◌∷◌, append-nil, ap, arith, get_or, length, map, replicate, subst, sym}
use Rattle.std.specs.Prelude.{All, IfSome}
use Rattle.std.proofs.lemmas.List.{length-replicate, map-append}
use Rattle.std.proofs.lemmas.List.Elements.{All-push}
use Rattle.abnf_names.specs.declared.place.Spot.{Spot}
use Rattle.abnf_names.specs.Places.{named_at}
use Rattle.findings_text.specs.declared.rules.Head.{Head}
use Rattle.findings_text.specs.Rules.{head_at}
use Rattle.findings_text.proofs.HeadLaws.{AreFound, found_first, found_next, one_head}
use Rattle.findings_text.proofs.rules.heads_of.Goals as goal
use Rattle.findings_text.proofs.rules.heads_of.Goals.{in-Some+in_ok-push, in_default}

pub loop-spot-init : goal.loop-spot-init
loop-spot-init c =
    let count = length c.args.grammar.now.rules in
    let none : c.as_mut_slice-told.result.now ≡ replicate count false =
    c.as_mut_slice-told.ensures.value ∙ (c.in_ok-table.ensures.items_if_clones_equal (λ y e. e) ∙ ap (λ n. replicate n false) c.rule_count.ensures) in record {
      found = found_first c.args.grammar.now.names c.spots-spot-items.result.now c.as_mut_slice-told.result.now count c.new-heads.result none c.new-heads.ensures;
      within = λ k d less. absurd (omega (arith, ap length c.new-heads.ensures));
      count = ap length none ∙ length-replicate count false;
    }

-- what a place is read by, past the end of the list
abbrev no_spot : Spot
no_spot = record { name = record { 0 = record { ref_ptr = (0, 0); now = [] } }; place = record { line = 0; start = 0; end = 0 }; defines = false }

pub loop-spot-preserved : goal.loop-spot-preserved
loop-spot-preserved c =
    let names = c.args.grammar.now.names in
    let rules = c.args.grammar.now.rules in
    let spots = c.spots-spot-items.result.now in
    let before = c.loop-spot.invariant in
    let found = c.loop-spot.heads in
    let spot = get_or spots c.loop-spot.spot-index no_spot in
    let next : (more : List Head) → map head_at more ≡ map head_at found ++ one_head (named_at spot) c.new_rule.result → AreFound names spots c.new_rule.new.told (c.loop-spot.spot-index + 1) more =
    λ more. found_next names spots c.loop-spot.told c.new_rule.new.told c.loop-spot.spot-index found more no_spot c.new_rule.result before.found c.loop-spot-test.true c.new_rule.ensures.rule
    (subst (λ n. IfSome c.new_rule.result (λ r. r < n)) (sym before.count) c.new_rule.ensures.within) c.new_rule.ensures.told in
    elim c.match-new_rule.branch [
      | in-Some+in_ok-push w ↦ (
          let head : Head = record { spot = spot; rule = w.in-Some.rule } in
          let pushed : c.match-new_rule.heads ≡ found ++ head ∷ [] = w.heads-is ∙ w.in_ok-push.ensures.ok in
          let within : w.in-Some.rule < length rules = subst (λ o. IfSome o (λ r. r < length rules)) w.in-Some.is c.new_rule.ensures.within in
          record {
            found = next c.match-new_rule.heads (ap (map head_at) pushed ∙ (map-append head_at found (head ∷ []) ∙ (λ j. map head_at found ++ one_head (named_at spot) (sym w.in-Some.is j))));
            within = subst (All (λ head. head.rule < length rules)) (sym pushed) (All-push (λ head. head.rule < length rules) found head before.within within);
            count = c.new_rule.auto.told ∙ before.count;
          })
      | in_default w ↦ record {
        found = next c.match-new_rule.heads (ap (map head_at) w.heads-is ∙ (sym (append-nil (map head_at found)) ∙ (λ j. map head_at found ++ one_head (named_at spot) (sym w.in_default.is j))));
        within = subst (All (λ head. head.rule < length rules)) (sym w.heads-is) before.within;
        count = c.new_rule.auto.told ∙ before.count;
      }
    ]
