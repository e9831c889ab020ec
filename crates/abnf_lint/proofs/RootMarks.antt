-- What the marks of the rules' roots say of the rules.
use Rattle.std.proofs.Common.{◌≡◌, ◌↔◌, ℕ, suc, ◌<◌, Bool, true, IsTrue, List, length, get_or}
use Rattle.std.proofs.lemmas.Option.{slice_get-get_or}
use Rattle.abnf_parts.specs.Part.{Part, opaque, parts_of, root_number}
use Rattle.abnf_parts.specs.Generates.{RuleGen}
use Rattle.abnf_cert.proofs.Holds.{holds_here, rule_holds}
use Rattle.abnf_lint.specs.Yields.{RuleYields}
use Rattle.abnf_lint.specs.Marks.{AreClosed, AreSound, IsProductive, mark_at}
use Rattle.abnf_lint.proofs.YieldLaw.{rule_yields, string_of, string_of_rule}
use Rattle.abnf_lint.proofs.ClosedMarks.{root_marked}
use Rattle.abnf_lint.proofs.SoundMarks.{StandsAt}

module _ (rules : List Part) (marks : List Bool) (sound : AreSound rules marks) (closed : AreClosed rules marks 0 (length (parts_of rules))) where
  productive : (r : ℕ) → r < length rules → mark_at marks (root_number rules r) ≡ true → IsProductive rules r
  productive r within is =
      let root = get_or rules r opaque in
      let is_root = slice_get-get_or rules r opaque within in
      let stands : StandsAt rules (root_number rules r) root = holds_here (StandsAt rules) (root_number rules r) root (rule_holds rules (StandsAt rules) (λ m q x. x) r root is_root) in
      let y = sound.each (root_number rules r) root stands is in
      let s = string_of (RuleGen rules y.0) (RuleYields rules y.0) (string_of_rule rules y.0) root y.1 in
      (root, is_root, (s.0, (y.0, s.1)))

  is_marked : (r : ℕ) → IsProductive rules r → mark_at marks (root_number rules r) ≡ true
  is_marked r p =
      root_marked rules marks closed (suc p.2.1.0) r (rule_yields rules (suc p.2.1.0) r p.2.0 (p.0, p.1, p.2.1.1))

  pub root_tells : (r : ℕ) → r < length rules → IsTrue (mark_at marks (root_number rules r)) ↔ IsProductive rules r
  root_tells r within = (productive r within, is_marked r)
