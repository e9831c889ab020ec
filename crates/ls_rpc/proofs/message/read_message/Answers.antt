use Rattle.std.proofs.Common.{true≢false, sym, ap, ◌∙◌}
use Rattle.serde_json.specs.Errors.{IsMemory}
use Rattle.ls_rpc.specs.Message.{message_of, message_of_json}
use Rattle.ls_rpc.proofs.Reading.{json_of_read, json_of_refused}
use Rattle.ls_rpc.proofs.message.read_message.Goals as goal

pub returns-in-Ok-clause-ok : goal.returns-in-Ok-clause-ok
unfolding message_of
returns-in-Ok-clause-ok c = c.message_of.ensures ∙ sym (ap message_of_json (json_of_read _ _ c.in-Ok.ensures.ok.0 c.in-Ok.ensures.ok.1))

pub returns-else-is_memory-clause-ok : goal.returns-else-is_memory-clause-ok
unfolding message_of
returns-else-is_memory-clause-ok c =
    let no : IsMemory c.in-Err.error → ⊥ = λ m. true≢false (sym (c.if-is_memory.ensures.1 m)) in
    sym (ap message_of_json (json_of_refused c.args.body.now (c.in-Err.ensures.err no)))
