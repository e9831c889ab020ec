use Rattle.std.proofs.Common.{refl}
use Rattle.std.specs.Str.{is_utf8, chars}
use Rattle.std.specs.Char.{encode_utf8}
use Rattle.serde_json.proofs.OnLiterals.{serde_json_on_literals}
use Rattle.ls_rpc.specs.Message.{message_of}
use Rattle.ls_rpc.proofs.laws.others.Goals as goal

pub returns-clause-no_id : goal.returns-clause-no_id
unfolding message_of is_utf8 chars encode_utf8 serde_json_on_literals
returns-clause-no_id c = refl

pub returns-clause-reply : goal.returns-clause-reply
unfolding message_of is_utf8 chars encode_utf8 serde_json_on_literals
returns-clause-reply c = refl

pub returns-clause-no_method : goal.returns-clause-no_method
unfolding message_of is_utf8 chars encode_utf8 serde_json_on_literals
returns-clause-no_method c = refl

pub returns-clause-number_method : goal.returns-clause-number_method
unfolding message_of is_utf8 chars encode_utf8 serde_json_on_literals
returns-clause-number_method c = refl

pub returns-clause-batch : goal.returns-clause-batch
unfolding message_of is_utf8 chars encode_utf8 serde_json_on_literals
returns-clause-batch c = refl

pub returns-clause-empty : goal.returns-clause-empty
unfolding message_of is_utf8 chars encode_utf8 serde_json_on_literals
returns-clause-empty c = refl
