-- Which message a body is (JSON-RPC 2.0).
use Rattle.std.specs.Prelude.{ℕ, ℤ, pos, neg_ℤ, List, Bool, ◌||◌, Option, Some, None, codes, is_some, option_map, option_and_then, unwrap_or, if◌then◌else◌}
use Rattle.serde_json.specs.Data.{Data, null, boolean, number, string, array, object}
use Rattle.serde_json.specs.Find.{get, as_str, as_i64}
use Rattle.serde_json.specs.View.{view}
use Rattle.ls_rpc.specs.Json.{json_of}
use Rattle.ls_rpc.specs.declared.message.Id.{Id}
use Rattle.ls_rpc.specs.declared.message.Id.TheVariants.{Number, Text}
use Rattle.ls_rpc.specs.declared.message.Message as source
use Rattle.ls_rpc.specs.declared.message.Message.TheVariants as variant

-- What a client sent (JSON-RPC 2.0, sections 4 and 5): a request has its id, its method and its parameters, a bad body the
-- error's code, and its id where it has one.
pub data Message : Type 0 where
  request : Id → List ℕ → Data → Message
  notice : List ℕ → Data → Message
  response : Message
  bad : Option Id → ℤ → Message

-- what a `Message` of the code stands for; a `Value` of `serde_json` in it stands for the JSON that it holds
abbrev pub message_view : source.Message → Message
message_view (variant.Request id method params) = request id method (view params)
message_view (variant.Notice method params) = notice method (view params)
message_view variant.Response = response
message_view (variant.Bad id code) = bad id code

-- -32700: the body is no JSON (JSON-RPC 2.0, section 5.1)
abbrev pub parse_error : ℤ
parse_error = neg_ℤ (pos 32700)

-- -32600: the body is JSON, but no message (JSON-RPC 2.0, section 5.1)
abbrev pub invalid_request : ℤ
invalid_request = neg_ℤ (pos 32600)

-- The id that a JSON value is: an integer of 64 bits with a sign or a text (LSP 3.17, "Request Message"). A number with a
-- point or an exponent is none.
abbrev pub id_of : Data → Option Id
id_of null = None
id_of (boolean b) = None
id_of (number n) = option_map Number (as_i64 n)
id_of (string s) = Some (Text s)
id_of (array ds) = None
id_of (object ms) = None

-- There is an id, and it is a text.
abbrev pub IsText : Option Id → Type 0
IsText None = ⊥
IsText (Some (Number n)) = ⊥
IsText (Some (Text s)) = Unit {0}

-- whether a member stands in an object
abbrev pub has_key : List ℕ → Data → Bool
has_key key d = is_some (get key d)

-- absent params are null (JSON-RPC 2.0, section 4.2)
abbrev pub params_of : Data → Data
params_of d = unwrap_or (get (codes "params") d) null

-- a request, where what stands as its id is one; else bad, with no id
abbrev pub with_id : List ℕ → Data → Option Id → Message
with_id method params None = bad None invalid_request
with_id method params (Some id) = request id method params

-- an object whose `method` is a text: whether an `id` stands there decides
abbrev pub with_method : List ℕ → Option Data → Data → Message
with_method method None params = notice method params
with_method method (Some d) params = with_id method params (id_of d)

-- an object that is no message, with the id that it has, if it has one
abbrev pub bad_object : Data → Message
bad_object d = bad (option_and_then id_of (get (codes "id") d)) invalid_request

-- an object with no `method` that is a text: a reply has no `method` at all, and a result or an error
abbrev pub without_method : Data → Message
without_method d =
    if has_key (codes "method") d then bad_object d
    else (if has_key (codes "result") d || has_key (codes "error") d then response else bad_object d)

-- an object with the text of its `method`, where that is one
abbrev pub by_method : Option (List ℕ) → Data → Message
by_method (Some method) d = with_method method (get (codes "id") d) (params_of d)
by_method None d = without_method d

-- what an object is, by its `method`, its `id`, its `result` and its `error`
abbrev pub message_of_object : Data → Message
message_of_object d = by_method (option_and_then as_str (get (codes "method") d)) d

-- only an object is a message
abbrev pub message_of_value : Data → Message
message_of_value null = bad None invalid_request
message_of_value (boolean b) = bad None invalid_request
message_of_value (number n) = bad None invalid_request
message_of_value (string s) = bad None invalid_request
message_of_value (array ds) = bad None invalid_request
message_of_value (object ms) = message_of_object (object ms)

-- what a body is by its JSON: where it has none it is bad, with no id
abbrev pub message_of_json : Option Data → Message
message_of_json None = bad None parse_error
message_of_json (Some d) = message_of_value d

-- the message of a body:
-- - no JSON: bad, -32700; no object, and so a batch of calls too: bad, -32600
-- - `method` a text and no `id`: a notice; `method` a text and `id` an id: a request; any other `id`: bad, -32600
-- - no `method`, but `result` or `error`: a response
-- - all else: bad with the id that it has, -32600
unfoldable pub message_of : List ℕ → Message
message_of body = message_of_json (json_of body)
