-- The result of `initialize`: what the server serves. Members stand in the order of their keys.
use Rattle.std.specs.Prelude.{ℕ, List, true, codes}
use Rattle.serde_json.specs.Data.{Data, Members, boolean, number, string, object, unsigned, member, no_members}
use Rattle.ls_text.specs.declared.position.Units.{Units}
use Rattle.ls_text.specs.declared.position.Units.TheVariants.{Utf8, Utf16, Utf32}
use Rattle.ls_session.specs.Legend.{legend_json}

-- Documents are opened and closed, and changes come as edits (LSP 3.17, "Text Document Synchronization").
abbrev pub sync_json : Data
sync_json =
    object (member (codes "change") (number (unsigned 2))
    (member (codes "openClose") (boolean true) no_members))

-- The tokens of a whole document are reported, with what their numbers stand for (LSP 3.17, "Semantic Tokens").
abbrev pub semantic_tokens_json : Data
semantic_tokens_json =
    object (member (codes "full") (boolean true)
    (member (codes "legend") legend_json no_members))

-- the methods that are served without further options
abbrev pub served_json : Members
served_json =
    member (codes "codeActionProvider") (boolean true)
    (member (codes "definitionProvider") (boolean true)
    (member (codes "documentSymbolProvider") (boolean true)
    (member (codes "hoverProvider") (boolean true)
    (member (codes "referencesProvider") (boolean true)
    (member (codes "renameProvider") (boolean true) no_members)))))

-- the name of the units that positions count (LSP 3.17, "PositionEncodingKind")
abbrev pub units_name : Units → List ℕ
units_name Utf8 = codes "utf-8"
units_name Utf16 = codes "utf-16"
units_name Utf32 = codes "utf-32"

-- what the server serves, and what positions count (LSP 3.17, "Initialize Request": ServerCapabilities)
abbrev pub capabilities_json : Units → Data
capabilities_json units =
    object (member (codes "codeActionProvider") (boolean true)
    (member (codes "definitionProvider") (boolean true)
    (member (codes "documentSymbolProvider") (boolean true)
    (member (codes "hoverProvider") (boolean true)
    (member (codes "positionEncoding") (string (units_name units))
    (member (codes "referencesProvider") (boolean true)
    (member (codes "renameProvider") (boolean true)
    (member (codes "semanticTokensProvider") semantic_tokens_json
    (member (codes "textDocumentSync") sync_json no_members)))))))))

-- The result of `initialize`: the capabilities, with the units that were agreed, and the server's name (LSP 3.17,
-- "Initialize Request": InitializeResult).
abbrev pub initialize_json : Units → Data
initialize_json units =
    object (member (codes "capabilities") (capabilities_json units)
    (member (codes "serverInfo") (object (member (codes "name") (string (codes "abnf_ls")) no_members)) no_members))
