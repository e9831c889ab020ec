use Rattle.serde_json.specs.View.{view}
use Rattle.ls_rpc.specs.Reply.{notice_json}
use Rattle.ls_rpc.proofs.reply.notice_text.Given as goal

abbrev pub ghost-json_text : goal.ghost-json_text
ghost-json_text a = notice_json a.value.now.method.now (view a.value.now.params.now)
