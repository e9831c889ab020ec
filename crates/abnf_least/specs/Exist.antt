-- That there is something to find: each grammar of a text has an accepted certificate, and of each rule something is shown.
use Rattle.std.specs.Prelude.{ℕ, ◌<◌, List, length}
use Rattle.abnf_names.specs.Rules.{Grammar, IsGrammar}
use Rattle.abnf_cert.specs.declared.entry.Entry.{Entry}
use Rattle.abnf_cert.specs.Accepted.{IsAccepted}
use Rattle.abnf_least.specs.declared.shortest.Shortest.{Shortest}
use Rattle.abnf_least.specs.Shown.{IsShown}

-- the grammar of each text has an accepted certificate
abbrev pub CertificatesExist : Type 0
CertificatesExist = (g : Grammar) → IsGrammar g → (cert : List Entry) × IsAccepted g.rules cert

-- of each rule of a text's grammar something is shown
abbrev pub ExamplesExist : Type 0
ExamplesExist = (g : Grammar) → IsGrammar g → (r : ℕ) → r < length g.rules → (shown : Shortest) × IsShown g.rules r shown
