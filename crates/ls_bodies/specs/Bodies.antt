-- The bodies of answers. Members of their JSON stand in the order of their keys.
use Rattle.std.specs.Prelude.{ℕ, ℤ, List, map, Bool, codes, Option, Some, None}
use Rattle.serde_json.specs.Data.{Data, null, number, string, array, object, unsigned, member, no_items, no_members}
use Rattle.serde_json.specs.Find.{of_integer}
use Rattle.serde_json.specs.View.{items_of}
use Rattle.serde_json.specs.Written.{compact_text}
use Rattle.ls_text.specs.declared.position.Range.{Range}
use Rattle.ls_rpc.specs.declared.message.Id.{Id}
use Rattle.ls_rpc.specs.Reply.{notice_json, result_json}
use Rattle.ls_bodies.specs.Edits.{actions_json, edits_json, workspace_edit_json}
use Rattle.ls_bodies.specs.Positions.{range_json}
use Rattle.ls_bodies.specs.Refusal.{error_body, refusal_in_draft, refusal_of_failure, refusal_of_rename}
use Rattle.ls_bodies.specs.declared.refusal.Refusal.{Refusal}
use Rattle.ls_bodies.specs.Tokens.{tokens_json}
use Rattle.abnf_lint.specs.Messages.{code_text, severity_of}
use Rattle.abnf_lint.specs.declared.message.Severity.{Severity}
use Rattle.abnf_lint.specs.declared.message.Severity.TheVariants.{Error, Warning}
use Rattle.ls_answers.specs.declared.answer.Symbol.{Symbol}
use Rattle.ls_answers.specs.declared.answer.HoverText.{HoverText}
use Rattle.ls_answers.specs.declared.answer.Diagnostic.{Diagnostic}
use Rattle.ls_answers.specs.declared.answer.DraftDiagnostic.{DraftDiagnostic}
use Rattle.ls_answers.specs.DraftDiagnostics.{draft_code_text, draft_severity}
use Rattle.ls_answers.specs.declared.answer.Answer.{Answer}
use Rattle.ls_answers.specs.declared.answer.Answer.TheVariants as answer
use Rattle.ls_answers.specs.declared.answer.DraftAnswer.TheVariants as draft_answer

-- a symbol of the kind 12, a function (LSP 3.17, "Document Symbols Request": DocumentSymbol)
abbrev pub symbol_json : Symbol → Data
symbol_json symbol =
    object (member (codes "kind") (number (unsigned 12))
    (member (codes "name") (string symbol.name)
    (member (codes "range") (range_json symbol.range)
    (member (codes "selectionRange") (range_json symbol.name_range) no_members))))

-- the symbols of a document, in their order (LSP 3.17, "Document Symbols Request")
abbrev pub symbols_json : List Symbol → Data
symbols_json symbols = array (items_of (map symbol_json symbols))

-- a place in a document (LSP 3.17, "Location")
abbrev pub location_json : List ℕ → Range → Data
location_json uri range =
    object (member (codes "range") (range_json range)
    (member (codes "uri") (string uri) no_members))

-- places in a document, in their order (LSP 3.17, "Location[]")
abbrev pub locations_json : List ℕ → List Range → Data
locations_json uri ranges = array (items_of (map (location_json uri) ranges))

-- a text that isn't marked up (LSP 3.17, "MarkupContent")
abbrev pub plain_text_json : List ℕ → Data
plain_text_json text =
    object (member (codes "kind") (string (codes "plaintext"))
    (member (codes "value") (string text) no_members))

-- what is shown of a name (LSP 3.17, "Hover Request")
abbrev pub hover_json : HoverText → Data
hover_json hover =
    object (member (codes "contents") (plain_text_json hover.text)
    (member (codes "range") (range_json hover.range) no_members))

-- what is shown of a name, or null where no name stands (LSP 3.17, "Hover Request")
abbrev pub hover_or_null : Option HoverText → Data
hover_or_null None = null
hover_or_null (Some hover) = hover_json hover

-- the number of a severity: 1 of an error, 2 of a warning (LSP 3.17, "Diagnostic": DiagnosticSeverity)
abbrev pub severity_number : Severity → ℕ
severity_number Error = 1
severity_number Warning = 2

-- what is wrong or doubtful at a place, by its code and its message (LSP 3.17, "Diagnostic")
abbrev pub finding_json : List ℕ → List ℕ → Range → Severity → Data
finding_json code message range severity =
    object (member (codes "code") (string code)
    (member (codes "message") (string message)
    (member (codes "range") (range_json range)
    (member (codes "severity") (number (unsigned (severity_number severity)))
    (member (codes "source") (string (codes "abnf")) no_members)))))

-- the same of a grammar
abbrev pub diagnostic_json : Diagnostic → Data
diagnostic_json diagnostic = finding_json (code_text diagnostic.code) diagnostic.message diagnostic.range (severity_of diagnostic.code)

-- the same of a draft
abbrev pub draft_diagnostic_json : DraftDiagnostic → Data
draft_diagnostic_json diagnostic = finding_json (draft_code_text diagnostic.code) diagnostic.message diagnostic.range (draft_severity diagnostic.code)

-- what is wrong or doubtful in a grammar, in the order of its text (LSP 3.17, "Diagnostic[]")
abbrev pub diagnostics_json : List Diagnostic → Data
diagnostics_json diagnostics = array (items_of (map diagnostic_json diagnostics))

-- the same in a draft
abbrev pub draft_diagnostics_json : List DraftDiagnostic → Data
draft_diagnostics_json diagnostics = array (items_of (map draft_diagnostic_json diagnostics))

-- the result that an answer about a document is, by its uri, the client's version of it, and whether the client takes edits as
-- `documentChanges`; a rename that isn't granted has none
abbrev pub answer_json : List ℕ → ℤ → Bool → Answer → Data
answer_json uri label links (answer.Hover hover) = hover_or_null hover
answer_json uri label links (answer.Places ranges) = locations_json uri ranges
answer_json uri label links (answer.Symbols symbols) = symbols_json symbols
answer_json uri label links (answer.Edits ranges new) = workspace_edit_json uri label links (edits_json new ranges)
answer_json uri label links (answer.Refused fault) = null
answer_json uri label links (answer.Insert insertion) = actions_json uri label links insertion
answer_json uri label links (answer.Numbers numbers) = tokens_json numbers
answer_json uri label links (answer.Findings diagnostics) = diagnostics_json diagnostics
answer_json uri label links (answer.Draft (draft_answer.Refused fault)) = null
answer_json uri label links (answer.Draft (draft_answer.Findings diagnostics)) = draft_diagnostics_json diagnostics

-- the findings that an answer has; one of another kind has none
abbrev pub found_json : Answer → Data
found_json (answer.Findings diagnostics) = diagnostics_json diagnostics
found_json (answer.Draft (draft_answer.Findings diagnostics)) = draft_diagnostics_json diagnostics
found_json _ = array no_items

-- what is published of the document's version with this label (LSP 3.17, "PublishDiagnostics Notification")
abbrev pub findings_json : List ℕ → ℤ → Answer → Data
findings_json uri label answer =
    object (member (codes "diagnostics") (found_json answer)
    (member (codes "uri") (string uri)
    (member (codes "version") (number (of_integer label)) no_members)))

-- why a rename isn't granted, if the answer says so
abbrev pub refusal_in : Answer → Option Refusal
refusal_in (answer.Refused fault) = Some (refusal_of_rename fault)
refusal_in (answer.Draft (draft_answer.Refused fault)) = Some (refusal_in_draft fault)
refusal_in _ = None

-- the reply whose result an answer is, as JSON (JSON-RPC 2.0, section 5)
unfoldable pub answered_json : Id → List ℕ → ℤ → Bool → Answer → Data
answered_json id uri label links answer = result_json id (answer_json uri label links answer)

-- the notice that publishes what was found, as JSON (LSP 3.17, "PublishDiagnostics Notification")
unfoldable pub published_json : List ℕ → ℤ → Answer → Data
published_json uri label answer = notice_json (codes "textDocument/publishDiagnostics") (findings_json uri label answer)

-- the error of a rename that isn't granted, else the result
abbrev pub error_or_result : Id → Option Refusal → Data → List ℕ
error_or_result id (Some refusal) reply = error_body (Some id) refusal
error_or_result id None reply = compact_text reply

-- The body that replies to a request about a document with an answer: the error of a rename that isn't granted, else the result that
-- `answer_json` makes of the answer.
unfoldable pub reply_body : Id → List ℕ → ℤ → Bool → Answer → List ℕ
reply_body id uri label links answer = error_or_result id (refusal_in answer) (answered_json id uri label links answer)

-- the body that publishes what was found in a document
unfoldable pub findings_body : List ℕ → ℤ → Answer → List ℕ
findings_body uri label answer = compact_text (published_json uri label answer)

-- the body that replies to a request which was given up, by the code that is kept for it
unfoldable pub failure_body : Id → ℤ → List ℕ
failure_body id code = error_body (Some id) (refusal_of_failure code)
