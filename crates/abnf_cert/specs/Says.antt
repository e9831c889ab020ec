-- What the entries of an accepted certificate say of their parts.
use Rattle.std.specs.Prelude.{◌≡◌, ℕ, ◌<◌, ◌≤◌, List, length, Some, slice_get}
use Rattle.abnf_cert.specs.declared.entry.Entry.{Entry}
use Rattle.abnf_cert.specs.declared.entry.Entry.TheVariants.{Nothing, Least}
use Rattle.abnf_parts.specs.Part.{Part, parts_of}
use Rattle.abnf_parts.specs.Generates.{Generates, IsLeastLength, IsLeastPair}
use Rattle.abnf_cert.specs.Accepted.{top, entry_at, IsAccepted}

-- What an entry means of the strings of its part. Nothing: the part generates none. A length below the top: it is the part's
-- least length, and the height is the least number of nested references for it. The top: the part generates a string, and
-- none that is shorter.
abbrev pub EntrySays : List Part → Part → Entry → Type 0
EntrySays roots p Nothing = (s : List ℕ) → Generates roots p s → ⊥
EntrySays roots p (Least l h c) =
    (l < top → IsLeastPair roots p l h × IsLeastLength roots p l)
    × (l ≡ top → ((s : List ℕ) × Generates roots p s) × ((s : List ℕ) → Generates roots p s → top ≤ length s))

-- each entry of a certificate is right of the strings of its part
abbrev pub EachSays : List Part → List Entry → Type 0
EachSays roots cert = (n : ℕ) (p : Part) → slice_get (parts_of roots) n ≡ Some p → EntrySays roots p (entry_at cert n)

-- each entry of an accepted certificate is right of the strings of its part
abbrev pub AcceptedIsRight : Type 0
AcceptedIsRight = (roots : List Part) (cert : List Entry) → IsAccepted roots cert → EachSays roots cert
