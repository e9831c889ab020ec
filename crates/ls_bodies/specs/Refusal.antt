-- The errors that are answered: their codes, their texts and their bodies.
use Rattle.std.specs.Prelude.{ℕ, ℤ, pos, neg_ℤ, List, Option, codes, if◌then◌else◌}
use Rattle.std.specs.Ordering.{int_eq}
use Rattle.serde_json.specs.Written.{compact_text}
use Rattle.ls_rpc.specs.declared.message.Id.{Id}
use Rattle.ls_rpc.specs.Message.{parse_error, invalid_request}
use Rattle.ls_rpc.specs.Reply.{error_json}
use Rattle.draft_grammars.specs.declared.rename.DraftRenameFault.{DraftRenameFault}
use Rattle.draft_grammars.specs.declared.rename.DraftRenameFault.TheVariants as draft_rename
use Rattle.ls_answers.specs.declared.answer.RenameFault.{RenameFault}
use Rattle.ls_answers.specs.declared.answer.RenameFault.TheVariants as rename
use Rattle.ls_bodies.specs.declared.refusal.Refusal.{Refusal}
use Rattle.ls_bodies.specs.declared.refusal.Refusal.TheVariants as refusal

-- The code of an error that is answered (JSON-RPC 2.0, section 5.1; LSP 3.17, "Response Message": ErrorCodes). A rename that isn't granted,
-- and one request too many, have failed (RequestFailed); a request with the id of one that waits isn't valid (InvalidRequest), and one
-- about a document that isn't open has parameters that aren't (InvalidParams).
abbrev pub code_of : Refusal → ℤ
code_of refusal.ParseError = parse_error
code_of refusal.InvalidRequest = invalid_request
code_of refusal.MethodNotFound = neg_ℤ (pos 32601)
code_of refusal.InvalidParams = neg_ℤ (pos 32602)
code_of refusal.DocumentNotOpen = neg_ℤ (pos 32602)
code_of refusal.NotInitialized = neg_ℤ (pos 32002)
code_of refusal.TooManyWaiting = neg_ℤ (pos 32803)
code_of refusal.IdInUse = invalid_request
code_of refusal.ContentModified = neg_ℤ (pos 32801)
code_of refusal.RequestCancelled = neg_ℤ (pos 32800)
code_of refusal.InternalError = neg_ℤ (pos 32603)
code_of refusal.NotAName = neg_ℤ (pos 32803)
code_of refusal.NothingToRename = neg_ℤ (pos 32803)
code_of refusal.NameInUse = neg_ℤ (pos 32803)
code_of refusal.DraftAtFault = neg_ℤ (pos 32803)
code_of refusal.TextTooLarge = neg_ℤ (pos 32803)
code_of refusal.NameSplit = neg_ℤ (pos 32803)

-- the text of such an error, its `message`
abbrev pub refusal_text : Refusal → List ℕ
refusal_text refusal.ParseError = codes "parse error"
refusal_text refusal.InvalidRequest = codes "invalid request"
refusal_text refusal.MethodNotFound = codes "method not found"
refusal_text refusal.InvalidParams = codes "invalid params"
refusal_text refusal.DocumentNotOpen = codes "document not open"
refusal_text refusal.NotInitialized = codes "not initialized"
refusal_text refusal.TooManyWaiting = codes "too many requests waiting"
refusal_text refusal.IdInUse = codes "id in use"
refusal_text refusal.ContentModified = codes "content modified"
refusal_text refusal.RequestCancelled = codes "request cancelled"
refusal_text refusal.InternalError = codes "internal error"
refusal_text refusal.NotAName = codes "not a rule name"
refusal_text refusal.NothingToRename = codes "nothing to rename"
refusal_text refusal.NameInUse = codes "name in use"
refusal_text refusal.DraftAtFault = codes "the draft's XML is at fault"
refusal_text refusal.TextTooLarge = codes "text too large"
refusal_text refusal.NameSplit = codes "name split by markup"

-- the refusal of a body that is no message, by its code: no JSON, or no message
abbrev pub refusal_of_code : ℤ → Refusal
refusal_of_code code = if int_eq code parse_error then refusal.ParseError else refusal.InvalidRequest

-- the refusal of a rename that isn't granted
abbrev pub refusal_of_rename : RenameFault → Refusal
refusal_of_rename rename.NotAName = refusal.NotAName
refusal_of_rename rename.NothingToRename = refusal.NothingToRename
refusal_of_rename rename.NameInUse = refusal.NameInUse

-- the refusal of one that isn't granted in a draft
abbrev pub refusal_in_draft : DraftRenameFault → Refusal
refusal_in_draft draft_rename.AtFault = refusal.DraftAtFault
refusal_in_draft draft_rename.TooLarge = refusal.TextTooLarge
refusal_in_draft draft_rename.Split = refusal.NameSplit

-- The refusal of a request that was given up, by the code that is kept for it. Each code that a desk keeps is said as it is
-- (`failures_have_their_code` in `ls_session`); any other is the server's own fault, and would be said as -32603.
abbrev pub refusal_of_failure : ℤ → Refusal
refusal_of_failure code =
    if int_eq code (code_of refusal.ContentModified) then refusal.ContentModified
    else if int_eq code (code_of refusal.RequestCancelled) then refusal.RequestCancelled
    else refusal.InternalError

-- the body of a reply with an error, whose id is null where it isn't known (JSON-RPC 2.0, section 5.1)
abbrev pub error_body : Option Id → Refusal → List ℕ
error_body id refusal = compact_text (error_json id (code_of refusal) (refusal_text refusal))
