-- The methods that are known. Each is known as a request alone or as a notice alone.
use Rattle.std.specs.Prelude.{ℕ, List, [], ◌∷◌, codes, bytes_eq, if◌then◌else◌}
use Rattle.ls_session.specs.declared.kind.RequestKind.{RequestKind}
use Rattle.ls_session.specs.declared.kind.RequestKind.TheVariants as request
use Rattle.ls_session.specs.declared.kind.NoticeKind.{NoticeKind}
use Rattle.ls_session.specs.declared.kind.NoticeKind.TheVariants as notice

-- what a table has for a name, or else the default
abbrev pub row_of : {A : Type 0} → List (List ℕ × A) → A → List ℕ → A
row_of [] other name = other
row_of (row ∷ rows) other name = if bytes_eq name row.0 then row.1 else row_of rows other name

-- the methods that are known as requests, and as these alone (LSP 3.17)
abbrev pub request_methods : List (List ℕ × RequestKind)
request_methods =
    (codes "initialize", request.Initialize) ∷
    (codes "shutdown", request.Shutdown) ∷
    (codes "textDocument/hover", request.Hover) ∷
    (codes "textDocument/definition", request.Definition) ∷
    (codes "textDocument/references", request.References) ∷
    (codes "textDocument/documentSymbol", request.DocumentSymbol) ∷
    (codes "textDocument/rename", request.Rename) ∷
    (codes "textDocument/codeAction", request.CodeAction) ∷
    (codes "textDocument/semanticTokens/full", request.SemanticTokens) ∷ []

-- the methods that are known as notices, and as these alone (LSP 3.17)
abbrev pub notices : List (List ℕ × NoticeKind)
notices =
    (codes "exit", notice.Exit) ∷
    (codes "textDocument/didOpen", notice.DidOpen) ∷
    (codes "textDocument/didChange", notice.DidChange) ∷
    (codes "textDocument/didClose", notice.DidClose) ∷
    (codes "$/cancelRequest", notice.CancelRequest) ∷ []

-- what the method of a request is; a notice's is none that is known
abbrev pub request_named : List ℕ → RequestKind
request_named name = row_of request_methods request.Unknown name

-- what the method of a notice is; a request's is none that is known
abbrev pub notice_named : List ℕ → NoticeKind
notice_named name = row_of notices notice.Unknown name
