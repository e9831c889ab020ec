use Rattle.std.proofs.Common.{refl}
use Rattle.std.specs.Str.{is_utf8, chars}
use Rattle.std.specs.Char.{encode_utf8}
use Rattle.serde_json.proofs.OnLiterals.{serde_json_on_literals}
use Rattle.ls_rpc.specs.Message.{message_of}
use Rattle.ls_rpc.proofs.laws.ids.Goals as goal

pub returns-clause-whole : goal.returns-clause-whole
unfolding message_of is_utf8 chars encode_utf8 serde_json_on_literals
returns-clause-whole c = refl

pub returns-clause-negative : goal.returns-clause-negative
unfolding message_of is_utf8 chars encode_utf8 serde_json_on_literals
returns-clause-negative c = refl

pub returns-clause-point : goal.returns-clause-point
unfolding message_of is_utf8 chars encode_utf8 serde_json_on_literals
returns-clause-point c = refl

pub returns-clause-exponent : goal.returns-clause-exponent
unfolding message_of is_utf8 chars encode_utf8 serde_json_on_literals
returns-clause-exponent c = refl

pub returns-clause-minus_zero : goal.returns-clause-minus_zero
unfolding message_of is_utf8 chars encode_utf8 serde_json_on_literals
returns-clause-minus_zero c = refl

pub returns-clause-above : goal.returns-clause-above
unfolding message_of is_utf8 chars encode_utf8 serde_json_on_literals
returns-clause-above c = refl

pub returns-clause-null_id : goal.returns-clause-null_id
unfolding message_of is_utf8 chars encode_utf8 serde_json_on_literals
returns-clause-null_id c = refl

pub returns-clause-twice : goal.returns-clause-twice
unfolding message_of is_utf8 chars encode_utf8 serde_json_on_literals
returns-clause-twice c = refl

pub returns-clause-escaped : goal.returns-clause-escaped
unfolding message_of is_utf8 chars encode_utf8 serde_json_on_literals
returns-clause-escaped c = refl
