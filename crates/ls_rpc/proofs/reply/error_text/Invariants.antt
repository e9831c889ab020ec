use Rattle.std.specs.Prelude.{option_map}
use Rattle.ls_rpc.specs.Reply.{error_json}
use Rattle.ls_rpc.proofs.reply.error_text.Given as goal

abbrev pub ghost-json_text : goal.ghost-json_text
ghost-json_text a = error_json (option_map (λ id. id.now) a.value.now.id) a.value.now.error.code a.value.now.error.message.now
