-- Whether a body has a value.
use Rattle.std.proofs.Common.{◌≡◌, ℕ, List, Bool, true, false, Option, Some, None, IsUtf8, cond, refl}
use Rattle.std.specs.Str.{is_utf8}
use Rattle.std.proofs.lemmas.Str.{IsUtf8-from_is_utf8, is_utf8-from_IsUtf8}
use Rattle.serde_json.specs.Data.{Data}
use Rattle.serde_json.specs.Read.{read}
use Rattle.ls_rpc.specs.Json.{json_of}

pub json_of_read : (body : List ℕ) (d : Data) → IsUtf8 body → read body ≡ Some d → json_of body ≡ Some d
json_of_read body d text is = rw (is_utf8-from_IsUtf8 body text) is

none_at : (b : Bool) (o : Option Data) → (b ≡ true → o ≡ None) → cond b o None ≡ None
none_at true o h = h refl
none_at false o h = refl

pub json_of_refused : (body : List ℕ) → (IsUtf8 body → read body ≡ None) → json_of body ≡ None
json_of_refused body none = none_at (is_utf8 body) (read body) (λ e. none (IsUtf8-from_is_utf8 body e))
