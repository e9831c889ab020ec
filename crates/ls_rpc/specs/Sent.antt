-- What a reply and a notice send to a serializer before their last member's value.
use Rattle.std.specs.Prelude.{ℕ, List}
use Rattle.serde.specs.Event.{Log, Logs, map_ends}
use Rattle.serde_json.specs.Data.{Data}
use Rattle.serde_json.specs.Events.{SendsValue}
use Rattle.ls_rpc.specs.declared.message.Id.{Id}
use Rattle.ls_rpc.specs.Reply.{notice_json, result_json}

-- What was sent to a serializer is the reply, once the value of its result is sent and its object is ended.
abbrev pub OpensReply : Id → Log → Log → Type 0
OpensReply id old new =
    (result : Data) (last end : Log) → SendsValue result new last → Logs last end map_ends → SendsValue (result_json id result) old end

-- What was sent to a serializer is the notice, once the value of its parameters is sent and its object is ended.
abbrev pub OpensNotice : List ℕ → Log → Log → Type 0
OpensNotice method old new =
    (params : Data) (last end : Log) → SendsValue params new last → Logs last end map_ends → SendsValue (notice_json method params) old end
