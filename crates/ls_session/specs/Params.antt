-- What is read of a message's parameters. `None` means that they can't be read.
use Rattle.std.specs.Prelude.{ℕ, ℤ, pos, min, List, [], ◌∷◌, Bool, true, false, Option, Some, None, bytes_eq, codes, option_map, option_and_then, unwrap_or, if◌then◌else◌}
use Rattle.serde_json.specs.Data.{Data, null, boolean, number, string, array, object, Items, no_items, item}
use Rattle.serde_json.specs.Find.{get, as_str, as_bool, as_number, as_array, as_u64, as_i64}
use Rattle.ls_rpc.specs.Message.{id_of}
use Rattle.ls_text.specs.declared.position.Encoding.{Encoding}
use Rattle.ls_text.specs.declared.position.Units.{Units}
use Rattle.ls_text.specs.declared.position.Units.TheVariants.{Utf8, Utf16, Utf32}
use Rattle.ls_text.specs.declared.position.Position.{Position}
use Rattle.ls_text.specs.declared.position.Range.{Range}
use Rattle.ls_text.specs.declared.edit.Edit.{Edit}
use Rattle.ls_answers.specs.declared.ask.Ask.{Ask}
use Rattle.ls_answers.specs.declared.ask.Ask.TheVariants as ask
use Rattle.ls_machine.specs.declared.client.ClientEvent.{ClientEvent}
use Rattle.ls_machine.specs.declared.client.ClientEvent.TheVariants as event
use Rattle.ls_session.specs.Language.{by_ending, encoding_for, format_of_language}
use Rattle.ls_session.specs.declared.language.Format.{Format}
use Rattle.ls_session.specs.declared.language.Format.TheVariants.{Abnf}
use Rattle.ls_session.specs.declared.session.Agreed.{Agreed}
use Rattle.ls_session.specs.declared.kind.RequestKind.{RequestKind}
use Rattle.ls_session.specs.declared.kind.RequestKind.TheVariants as request
use Rattle.ls_session.specs.declared.kind.NoticeKind.{NoticeKind}
use Rattle.ls_session.specs.declared.kind.NoticeKind.TheVariants as notice

-- what `f` reads of a value that can be read
infixl 10 ◌>>=◌
abbrev pub ◌>>=◌ : {A B : Type 0} → Option A → (A → Option B) → Option B
o >>= f = option_and_then f o

-- a member of the member `textDocument` (LSP 3.17, "TextDocumentIdentifier")
abbrev pub document_member : List ℕ → Data → Option Data
document_member key params = get (codes "textDocument") params >>= get key

-- the uri of a document in parameters; none where it is absent or no text
abbrev pub uri_of : Data → Option (List ℕ)
uri_of params = document_member (codes "uri") params >>= as_str

-- the client's version of a document: 0 where it is absent or no integer of 64 bits with a sign
abbrev pub label_of : Data → ℤ
label_of params = unwrap_or (document_member (codes "version") params >>= as_number >>= as_i64) (pos 0)

-- an integer from 0; one above 4,294,967,295 counts as that
abbrev pub count_in : Data → Option ℕ
count_in value = option_map (min 4294967295) (as_number value >>= as_u64)

-- a position: a line and a character, each counted from 0 (LSP 3.17, "Position")
abbrev pub read_position : Data → Option Position
read_position value = do
  line ← get (codes "line") value >>= count_in
  character ← get (codes "character") value >>= count_in
  Some (record { line = line; character = character })

-- a range, from a position to a position (LSP 3.17, "Range")
abbrev pub range_of : Data → Option Range
range_of value = do
  start ← get (codes "start") value >>= read_position
  end ← get (codes "end") value >>= read_position
  Some (record { start = start; end = end })

-- A range of null is as none. Any other value but an object can't be read.
abbrev pub range_or_none : Data → Option (Option Range)
range_or_none null = Some None
range_or_none (boolean b) = None
range_or_none (number n) = None
range_or_none (string s) = None
range_or_none (array ds) = None
range_or_none (object ms) = option_map Some (range_of (object ms))

-- an edit: a text, and the range that it takes the place of, or none where it is a whole text (LSP 3.17, "DidChangeTextDocument
-- Notification")
abbrev pub edit_of : Data → Option Edit
edit_of value = do
  text ← get (codes "text") value >>= as_str
  range ← range_or_none (unwrap_or (get (codes "range") value) null)
  Some (record { range = range; text = text })

-- all of them, or nothing where one can't be read
abbrev pub edits_of : Items → Option (List Edit)
edits_of no_items = Some []
edits_of (item value values) = do
  edit ← edit_of value
  edits ← edits_of values
  Some (edit ∷ edits)

-- the edits in parameters, in their order (LSP 3.17, "DidChangeTextDocument Notification": `contentChanges`)
abbrev pub changes_of : Data → Option (List Edit)
changes_of params = get (codes "contentChanges") params >>= as_array >>= edits_of

-- ---- notices

-- what `languageId` says that a document is written in, if it is a text that says one of the formats (LSP 3.17,
-- "TextDocumentItem")
abbrev pub named_format : Data → Option Format
named_format params = document_member (codes "languageId") params >>= as_str >>= format_of_language

-- what a document with this uri is written in: what `languageId` says, or else the ending of the uri
abbrev pub document_format : List ℕ → Data → Format
document_format uri params = unwrap_or (named_format params) (by_ending uri)

-- How a document with this uri is read: as a grammar unless drafts were agreed on, and else by what it is written in.
-- Its positions count the units that were agreed.
abbrev pub encoding_in : Agreed → List ℕ → Data → Encoding
encoding_in agreed uri params = encoding_for (if agreed.drafts then document_format uri params else Abnf) agreed.units

-- the opening of a document, whose uri and text must be there (LSP 3.17, "DidOpenTextDocument Notification")
abbrev pub did_open_of : Agreed → Data → Option ClientEvent
did_open_of agreed params = do
  uri ← uri_of params
  text ← document_member (codes "text") params >>= as_str
  Some (event.DidOpen uri (label_of params) text (encoding_in agreed uri params))

-- The change of a document (LSP 3.17, "DidChangeTextDocument Notification"). Where the uri can be read and the changes can't, the document
-- is closed: its text isn't known any more.
abbrev pub did_change_of : Data → Option ClientEvent
did_change_of params = do
  uri ← uri_of params
  Some (unwrap_or (option_map (event.DidChange uri (label_of params)) (changes_of params)) (event.DidClose uri))

-- the close of a document (LSP 3.17, "DidCloseTextDocument Notification")
abbrev pub did_close_of : Data → Option ClientEvent
did_close_of params = option_map event.DidClose (uri_of params)

-- the cancel of the request that is named: its id is read as it is in a message (LSP 3.17, "Cancellation Support")
abbrev pub cancel_of : Data → Option ClientEvent
cancel_of params = option_map event.Cancel (get (codes "id") params >>= id_of)

-- the event of a notice, if there is one, where this was agreed: each document is opened by it (`encoding_in`)
abbrev pub event_of : Agreed → NoticeKind → Data → Option ClientEvent
event_of agreed notice.Exit params = None
event_of agreed notice.DidOpen params = did_open_of agreed params
event_of agreed notice.DidChange params = did_change_of params
event_of agreed notice.DidClose params = did_close_of params
event_of agreed notice.CancelRequest params = cancel_of params
event_of agreed notice.Unknown params = None

-- ---- requests

-- where a request asks (LSP 3.17, "TextDocumentPositionParams")
abbrev pub asked_position : Data → Option Position
asked_position params = get (codes "position") params >>= read_position

-- what `context.includeDeclaration` says, if it says true or false (LSP 3.17, "Find References Request")
abbrev pub named_declarations : Data → Option Bool
named_declarations params = get (codes "context") params >>= get (codes "includeDeclaration") >>= as_bool

-- whether the places that define a name are asked for, which only a `context.includeDeclaration` of false denies (LSP 3.17, "Find
-- References Request")
abbrev pub declarations_of : Data → Bool
declarations_of params = unwrap_or (named_declarations params) true

-- where a name is asked for, and whether the places that define it are (LSP 3.17, "Find References Request")
abbrev pub references_of : Data → Option Ask
references_of params = do
  position ← asked_position params
  Some (ask.References position (declarations_of params))

-- where a name is asked for, and the text that it gets (LSP 3.17, "Rename Request")
abbrev pub rename_of : Data → Option Ask
rename_of params = do
  position ← asked_position params
  new ← get (codes "newName") params >>= as_str
  Some (ask.Rename position new)

-- the range that is asked about; the context is passed over (LSP 3.17, "Code Action Request")
abbrev pub action_of : Data → Option Ask
action_of params = option_map ask.Action (get (codes "range") params >>= range_of)

-- the question of a request; none where its parameters can't be read, and of a request that asks nothing about a document
abbrev pub ask_of : RequestKind → Data → Option Ask
ask_of request.Initialize params = None
ask_of request.Shutdown params = None
ask_of request.Hover params = option_map ask.Hover (asked_position params)
ask_of request.Definition params = option_map ask.Definition (asked_position params)
ask_of request.References params = references_of params
ask_of request.DocumentSymbol params = Some ask.Symbols
ask_of request.Rename params = rename_of params
ask_of request.CodeAction params = action_of params
ask_of request.SemanticTokens params = Some ask.Tokens
ask_of request.Unknown params = None

-- the document's uri and the question of a request; none where one of them can't be read
abbrev pub question_of : RequestKind → Data → Option (List ℕ × Ask)
question_of kind params = do
  uri ← uri_of params
  ask ← ask_of kind params
  Some (uri, ask)

-- what `capabilities.workspace.workspaceEdit.documentChanges` says, if it says true or false (LSP 3.17, "Initialize Request")
abbrev pub named_links : Data → Option Bool
named_links params = get (codes "capabilities") params >>= get (codes "workspace") >>= get (codes "workspaceEdit") >>= get (codes "documentChanges") >>= as_bool

-- whether the client takes edits of a workspace as `documentChanges`, which only true says (LSP 3.17, "WorkspaceEdit")
abbrev pub links_of : Data → Bool
links_of params = unwrap_or (named_links params) false

-- what `initializationOptions.drafts` says, if it says true or false (LSP 3.17, "Initialize Request":
-- `initializationOptions`); the member `drafts` is this server's own
abbrev pub named_drafts : Data → Option Bool
named_drafts params = get (codes "initializationOptions") params >>= get (codes "drafts") >>= as_bool

-- whether drafts are opened as such, which only true says
abbrev pub drafts_of : Data → Bool
drafts_of params = unwrap_or (named_drafts params) false

-- ---- what positions count (LSP 3.17, "PositionEncodingKind")

-- the units of a name, if it is one of the three; names are compared byte for byte
abbrev pub units_named : List ℕ → Option Units
units_named name =
    if bytes_eq name (codes "utf-8") then Some Utf8
    else if bytes_eq name (codes "utf-16") then Some Utf16
    else if bytes_eq name (codes "utf-32") then Some Utf32
    else None

-- what one offer of a client's names: the units, if it is a text that names some
abbrev pub offer_of : Data → Option Units
offer_of value = as_str value >>= units_named

-- the first of two that is there
abbrev pub offer_or : Option Units → Option Units → Option Units
offer_or None later = later
offer_or (Some units) later = Some units

-- the first of these offers that names units
abbrev pub first_offer : Items → Option Units
first_offer no_items = None
first_offer (item value values) = offer_or (offer_of value) (first_offer values)

-- the first of the offers in `capabilities.general.positionEncodings` that names units; none where none does
abbrev pub named_units : Data → Option Units
named_units params = get (codes "capabilities") params >>= get (codes "general") >>= get (codes "positionEncodings") >>= as_array >>= first_offer

-- what positions count: the first of the client's offers that names one of the three units, and UTF-16 where none does.
-- The reply to `initialize` names them, and the positions in each document count them.
abbrev pub units_of_client : Data → Units
units_of_client params = unwrap_or (named_units params) Utf16

-- what `initialize` settles: those units, `links_of` and `drafts_of`
abbrev pub agreed_of : Data → Agreed
agreed_of params = record { links = links_of params; units = units_of_client params; drafts = drafts_of params }
