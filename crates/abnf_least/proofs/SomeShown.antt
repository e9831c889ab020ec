-- Of each rule something is shown.
use Rattle.std.proofs.Common.{◌≡◌, ℕ, ◌+◌, ◌<◌, ⊎_elim, List, Some, refl, subst, length, arith}
use Rattle.std.specs.Prelude.{slice_get}
use Rattle.std.proofs.lemmas.Bool.{cases_lt}
use Rattle.abnf_cert.specs.declared.entry.Entry.{Entry}
use Rattle.abnf_cert.specs.declared.entry.Entry.TheVariants as entry
use Rattle.abnf_parts.specs.Part.{Part, root_number}
use Rattle.abnf_parts.specs.Generates.{RuleGen}
use Rattle.abnf_cert.specs.Accepted.{top, referred, entry_at, IsAccepted}
use Rattle.abnf_cert.specs.Says.{EntrySays}
use Rattle.abnf_names.specs.Rules.{Grammar, IsGrammar}
use Rattle.abnf_least.specs.declared.shortest.Shortest.{Shortest}
use Rattle.abnf_least.specs.declared.shortest.Shortest.TheVariants as shortest
use Rattle.abnf_least.specs.Sentence.{RuleSentence, IsSentence}
use Rattle.abnf_least.specs.Shown.{IsKnownOf, IsKnown, IsShown}
use Rattle.abnf_least.specs.Table.{InRange}
use Rattle.abnf_least.proofs.Named.{Named, rule_named}
use Rattle.abnf_cert.proofs.RootSays.{root_says}
use Rattle.abnf_least.proofs.RootShown.{root_shown}
use Rattle.abnf_least.proofs.OneShown.{shown_if}
use Rattle.abnf_least.proofs.Exist.{some_certificate}
use Rattle.abnf_least.proofs.Reaching.{reaches_or_not}
use Rattle.abnf_least.proofs.Short.{rules_short}

module _ (roots : List Part) (cert : List Entry) (accepted : IsAccepted roots cert) (r : ℕ) where
  -- a rule whose root has an accepted length below the top has a sentence
  some_sentence : (l h c : ℕ) → entry_at cert (root_number roots r) ≡ entry.Least l h c → l < top → (s : List ℕ) × IsSentence roots r s
  some_sentence l h c is below =
      let all : Named (h + 1) (RuleSentence roots (h + 1) r) (RuleGen roots (h + 1) r) (referred (entry.Least l h c)) =
      subst (λ e. Named (h + 1) (RuleSentence roots (h + 1) r) (RuleGen roots (h + 1) r) (referred e)) is (rule_named roots cert accepted (h + 1) r) in
      let t = all below (omega arith) in
      (t.0, (h + 1, t.1))

  abbrev SomeKnown : Part → Type 0
  SomeKnown root = (shown : Shortest) × IsKnownOf roots r root shown

  below_top : (root : Part) → slice_get roots r ≡ Some root → (l h c : ℕ) → entry_at cert (root_number roots r) ≡ entry.Least l h c → l < top → EntrySays roots root (entry.Least l h c) → SomeKnown root
  below_top root is_root l h c is below says =
      ⊎_elim
      (λ long. (shortest.Long l, ((says.0 below).1, long, below)))
      (λ short.
      let s = some_sentence l h c is below in
      let shown = root_shown roots cert accepted r l h c is below root is_root s.0 s.1 in
      (shortest.Shown l s.0, ((says.0 below).1, short, s.1, shown.0, shown.1)))
      (cases_lt 4096 l)

  known_by : (root : Part) → slice_get roots r ≡ Some root → (e : Entry) → entry_at cert (root_number roots r) ≡ e → InRange e → EntrySays roots root e → SomeKnown root
  known_by root is_root entry.Nothing is range says = (shortest.Nothing, says)
  known_by root is_root (entry.Least l h c) is range says =
      ⊎_elim
      (λ below. below_top root is_root l h c is below says)
      (λ above. let e : l ≡ top = omega (arith, range, above) in (shortest.Huge, says.1 e))
      (cases_lt l top)

  some_known : r < length roots → InRange (entry_at cert (root_number roots r)) → (shown : Shortest) × IsKnown roots r shown
  some_known known range =
      let root = root_says roots cert accepted r known (entry_at cert (root_number roots r)) refl in
      let some = known_by root.0 root.1 (entry_at cert (root_number roots r)) refl range root.2 in
      (some.0, (root.0, root.1, some.1))

pub certificate_of : (g : Grammar) → IsGrammar g → (cert : List Entry) × IsAccepted g.rules cert
certificate_of g is = let some = some_certificate g.rules (rules_short g is) in (some.0, some.1)

pub some_shown : (g : Grammar) → IsGrammar g → (r : ℕ) → r < length g.rules → (shown : Shortest) × IsShown g.rules r shown
some_shown g is r known =
    let some = some_certificate g.rules (rules_short g is) in
    ⊎_elim
    (λ reaches. (shortest.NotKnown, reaches))
    (λ closed. let s = some_known g.rules some.0 some.1 r known (some.2 (root_number g.rules r)) in (s.0, shown_if g.rules r s.0 closed s.1))
    (reaches_or_not g.rules r)
