-- What the entry of a rule's root says of the rule.
use Rattle.std.proofs.Common.{◌≡◌, ℕ, ◌<◌, List, Some, sym, subst, length, get_or}
use Rattle.std.specs.Prelude.{slice_get}
use Rattle.std.proofs.lemmas.Option.{slice_get-get_or}
use Rattle.abnf_cert.specs.declared.entry.Entry.{Entry}
use Rattle.abnf_parts.specs.Part.{Part, opaque, root_number, parts_of}
use Rattle.abnf_cert.specs.Accepted.{entry_at, IsAccepted}
use Rattle.abnf_cert.specs.Says.{EntrySays}
use Rattle.abnf_cert.proofs.Holds.{holds_here, rule_holds}
use Rattle.abnf_cert.proofs.Right.{accepted_is_right}

abbrev StandsAt : List Part → ℕ → Part → Type 0
StandsAt roots n p = slice_get (parts_of roots) n ≡ Some p

pub root_says : (roots : List Part) (cert : List Entry) → IsAccepted roots cert → (r : ℕ) → r < length roots → (e : Entry) → e ≡ entry_at cert (root_number roots r) → (root : Part) × (slice_get roots r ≡ Some root) × EntrySays roots root e
root_says roots cert accepted r known e is =
    let root = get_or roots r opaque in
    let is_root = slice_get-get_or roots r opaque known in
    let at_root : StandsAt roots (root_number roots r) root = holds_here (StandsAt roots) (root_number roots r) root (rule_holds roots (StandsAt roots) (λ m p x. x) r root is_root) in
    (root, is_root, subst (λ x. EntrySays roots root x) (sym is) (accepted_is_right roots cert accepted (root_number roots r) root at_root))
