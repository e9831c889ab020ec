-- The tests of the parts of a choice.
use Rattle.std.specs.Prelude.{◌≡◌, ℕ, List, map}
use Rattle.abnf_cert.specs.declared.entry.Entry.{Entry}
use Rattle.abnf_cert.specs.declared.entry.Entry.TheVariants as entry
use Rattle.abnf_cert.specs.declared.checker.Test.{Test}
use Rattle.abnf_cert.specs.declared.checker.Test.TheVariants as test
use Rattle.abnf_cert.specs.Accepted.{NotBefore, After, Saturated, entry_at}

-- the entry of a part passes the test
abbrev pub Passes : Test → Entry → Type 0
Passes test.Empty e = e ≡ entry.Nothing
Passes (test.NotBefore l h) e = NotBefore l h e
Passes (test.After l h) e = After l h e
Passes test.Saturated e = Saturated e

-- the entries of the parts with these numbers
abbrev pub entries_at : List Entry → List ℕ → List Entry
entries_at entries numbers = map (entry_at entries) numbers
