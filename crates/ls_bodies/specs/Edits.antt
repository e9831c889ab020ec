-- The JSON of edits and of code actions. Members stand in the order of their keys.
use Rattle.std.specs.Prelude.{ℕ, ℤ, List, [], ◌∷◌, map, Bool, Option, Some, None, codes, if◌then◌else◌}
use Rattle.serde_json.specs.Data.{Data, number, string, array, object, item, no_items, member, no_members}
use Rattle.serde_json.specs.Find.{of_integer}
use Rattle.serde_json.specs.View.{items_of}
use Rattle.ls_text.specs.declared.position.Position.{Position}
use Rattle.ls_text.specs.declared.position.Range.{Range}
use Rattle.draft_grammars.specs.Places.{empty_range}
use Rattle.ls_answers.specs.declared.answer.Insertion.{Insertion}
use Rattle.ls_bodies.specs.Positions.{range_json}

-- a text in the place of what stands in a range (LSP 3.17, "TextEdit")
abbrev pub edit_json : List ℕ → Range → Data
edit_json text range =
    object (member (codes "newText") (string text)
    (member (codes "range") (range_json range) no_members))

-- the same text in the place of what stands in each range (LSP 3.17, "TextEdit[]")
abbrev pub edits_json : List ℕ → List Range → Data
edits_json text ranges = array (items_of (map (edit_json text) ranges))

-- edits of a document by its uri (LSP 3.17, "WorkspaceEdit": `changes`)
abbrev pub changes_json : List ℕ → Data → Data
changes_json uri edits =
    object (member (codes "changes") (object (member uri edits no_members)) no_members)

-- a document and the client's version of it (LSP 3.17, "OptionalVersionedTextDocumentIdentifier")
abbrev pub versioned_json : List ℕ → ℤ → Data
versioned_json uri label =
    object (member (codes "uri") (string uri)
    (member (codes "version") (number (of_integer label)) no_members))

-- edits of a version of a document (LSP 3.17, "TextDocumentEdit")
abbrev pub document_edit_json : List ℕ → ℤ → Data → Data
document_edit_json uri label edits =
    object (member (codes "edits") edits
    (member (codes "textDocument") (versioned_json uri label) no_members))

-- edits of one version of a document (LSP 3.17, "WorkspaceEdit": `documentChanges`)
abbrev pub document_changes_json : List ℕ → ℤ → Data → Data
document_changes_json uri label edits =
    object (member (codes "documentChanges") (array (item (document_edit_json uri label edits) no_items)) no_members)

-- edits of one document: as `documentChanges` of the client's version of it, if the client takes these, else as `changes` (LSP 3.17,
-- "WorkspaceEdit")
abbrev pub workspace_edit_json : List ℕ → ℤ → Bool → Data → Data
workspace_edit_json uri label links edits = if links then document_changes_json uri label edits else changes_json uri edits

-- an action of the kind `refactor` that inserts a text at a position, in the place of an empty range (LSP 3.17, "Code Action Request")
abbrev pub action_json : List ℕ → ℤ → Bool → Insertion → Data
action_json uri label links insertion =
    object (member (codes "edit") (workspace_edit_json uri label links (edits_json insertion.text (empty_range insertion.position ∷ [])))
    (member (codes "kind") (string (codes "refactor"))
    (member (codes "title") (string (codes "Insert shortest example")) no_members)))

-- the one action that inserts a text; none where there is nothing to insert (LSP 3.17, "Code Action Request")
abbrev pub actions_json : List ℕ → ℤ → Bool → Option Insertion → Data
actions_json uri label links None = array no_items
actions_json uri label links (Some insertion) = array (item (action_json uri label links insertion) no_items)
