use Rattle.std.proofs.Common.{◌∙◌, Some, option_map, ap, sym}
use Rattle.abnf_token.specs.Tokens.{view}
use Rattle.abnf_syntax.specs.own.Ends.{front_views, head_view}
use Rattle.abnf_syntax.proofs.EndLaws.{no_head, both_shown, headed_seen, no_last}
use Rattle.abnf_syntax.proofs.ends.Headed.of.Goals as goal

pub returns-in_err-head : goal.returns-in_err-head
returns-in_err-head c = no_head c.args.sheet.now c.args.first c.args.end (front_views c.front_of.result) c.head.result c.front_of.ensures c.head.ensures c.from_residual.result c.from_residual.ensures c.in_err-head.was

pub returns-in_err-last : goal.returns-in_err-last
returns-in_err-last c =
    both_shown c.args.sheet.now c.args.first c.args.end (front_views c.front_of.result) c.head.result c.front_of.ensures c.head.ensures c.last_of.result c.last_of.ensures c.from_residual-in_err-last.result
    (no_last c.head.result c.last_of.result c.from_residual-in_err-last.result c.in_err-last.was c.from_residual-in_err-last.ensures)

pub returns : goal.returns
returns c =
    both_shown c.args.sheet.now c.args.first c.args.end (front_views c.front_of.result) c.head.result c.front_of.ensures c.head.ensures c.last_of.result c.last_of.ensures (Some (record { head = c.in_ok-head.head; last = c.in_ok-last.last }))
    (sym (ap (λ h. headed_seen (option_map head_view h) (option_map view c.last_of.result)) c.in_ok-head.was ∙ ap (λ l. headed_seen (Some (head_view c.in_ok-head.head)) (option_map view l)) c.in_ok-last.was))
