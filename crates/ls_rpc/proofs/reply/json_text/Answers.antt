use Rattle.serde_json.proofs.FreeTexts.{text_of_value}
use Rattle.ls_rpc.proofs.reply.json_text.Goals as goal

pub returns-in-Ok : goal.returns-in-Ok
returns-in-Ok g c =
    let events = c.in-Ok.ensures.events in
    text_of_value g.json events.0 _ (c.requires.1.0 _ _ events.1) events.2 c.requires.1.1
