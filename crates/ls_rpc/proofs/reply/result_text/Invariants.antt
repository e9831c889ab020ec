use Rattle.serde_json.specs.View.{view}
use Rattle.ls_rpc.specs.Reply.{result_json}
use Rattle.ls_rpc.proofs.reply.result_text.Given as goal

abbrev pub ghost-json_text : goal.ghost-json_text
ghost-json_text a = result_json a.value.now.id.now (view a.value.now.result.now)
