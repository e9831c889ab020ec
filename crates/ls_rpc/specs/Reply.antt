-- The texts of replies and notices, as JSON values. Members stand in the order of their keys.
use Rattle.std.specs.Prelude.{ℕ, ℤ, List, Option, Some, None, codes}
use Rattle.serde_json.specs.Data.{Data, null, number, string, object, no_members, member}
use Rattle.serde_json.specs.Find.{of_integer}
use Rattle.ls_rpc.specs.declared.message.Id.{Id}
use Rattle.ls_rpc.specs.declared.message.Id.TheVariants.{Number, Text}

-- an id as JSON
abbrev pub id_json : Id → Data
id_json (Number n) = number (of_integer n)
id_json (Text s) = string s

-- null where the request's id isn't known (JSON-RPC 2.0, section 5)
abbrev pub id_or_null : Option Id → Data
id_or_null None = null
id_or_null (Some id) = id_json id

-- a reply with a result as JSON, its members in the order of their keys (JSON-RPC 2.0, section 5)
abbrev pub result_json : Id → Data → Data
result_json id result =
    object (member (codes "id") (id_json id)
    (member (codes "jsonrpc") (string (codes "2.0"))
    (member (codes "result") result no_members)))

-- what an error says: its code and its message (JSON-RPC 2.0, section 5.1)
abbrev pub fault_json : ℤ → List ℕ → Data
fault_json code message =
    object (member (codes "code") (number (of_integer code))
    (member (codes "message") (string message) no_members))

-- a reply with an error as JSON, its members in the order of their keys (JSON-RPC 2.0, sections 5 and 5.1)
abbrev pub error_json : Option Id → ℤ → List ℕ → Data
error_json id code message =
    object (member (codes "error") (fault_json code message)
    (member (codes "id") (id_or_null id)
    (member (codes "jsonrpc") (string (codes "2.0")) no_members)))

-- a notice as JSON, its members in the order of their keys (JSON-RPC 2.0, section 4.1)
abbrev pub notice_json : List ℕ → Data → Data
notice_json method params =
    object (member (codes "jsonrpc") (string (codes "2.0"))
    (member (codes "method") (string method)
    (member (codes "params") params no_members)))
