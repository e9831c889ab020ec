-- Marks that say which names hold, and which of the others lead to something opaque, tell of each block what is to be told of it.
use Rattle.std.proofs.Common.{◌≡◌, Bool, true, false, not, List, Option, Some, refl, sym, ap, ◌∙◌}
use Rattle.std.specs.Prelude.{◌↔◌, ◌&&◌}
use Rattle.std.specs.List.{list_any}
use Rattle.std.specs.Option.{option_map_or}
use Rattle.std.specs.Str.{bytes_eq}
use Rattle.std.proofs.lemmas.Bool.{and_from, and_parts, not-true}
use Rattle.abnf_parts.specs.Core.{is_core_name}
use Rattle.abnf_parts.specs.Names.{Name}
use Rattle.abnf_digests.specs.Digests.{Digest, defined_by}
use Rattle.abnf_digests.specs.Roles.{role_by}
use Rattle.findings_index.specs.Holding.{IsStrange}
use Rattle.findings_index.specs.Marked.{AreHoldingMarks, AreLeadingMarks}
use Rattle.findings_index.specs.own.Ways.{AreHeadsLed, IsLedRightly}
use Rattle.findings_index.specs.ToldOfBlock.{IsIdleBy, is_strange, no_role, told_by_marks, IsToldOf}
use Rattle.findings_index.proofs.Marks.{held, led}

pub has_not : (b : Bool) → not b ≡ true → b ≡ true → ⊥
has_not true e f = absurd (cc (e))
has_not false e f = absurd (cc (f))

pub not_has : (b : Bool) → (b ≡ true → ⊥) → not b ≡ true
not_has true f = absurd (f refl)
not_has false f = refl

module _ (digests before : List Digest) (digest : Digest) (holding leading : Name → Bool) (are_held : AreHoldingMarks digests holding)
    (is_led : (head : Name × Bool) → digest.head ≡ Some head → IsLedRightly digests holding leading head.0) where
  idle_is : (name : Name) → IsLedRightly digests holding leading name → ((not (holding name) && not (leading name)) ≡ true) ↔ IsIdleBy digests name
  idle_is name of_led =
      let of_held = held digests holding are_held name in (
        λ h.
            let k = and_parts (not (holding name)) (not (leading name)) h in
            let none = not-true (holding name) k.0 in
            (λ n holds. has_not (holding name) k.0 (of_held.1 (n, holds)), λ n leads. has_not (leading name) k.1 ((of_led none).1 (n, leads))),
        λ h.
            let not_held = not_has (holding name) (λ e. let k = of_held.0 e in h.0 k.0 k.1) in
            let none = not-true (holding name) not_held in
            and_from (not (holding name)) (not (leading name)) not_held (not_has (leading name) (λ e. let k = (of_led none).0 e in h.1 k.0 k.1)),
      )

  strange_is : (name : Name) → (is_strange (λ own. list_any (bytes_eq own) (defined_by digests)) name ≡ true) ↔ IsStrange digests name
  strange_is name =
      let is_own : Bool = list_any (bytes_eq name) (defined_by digests) in (
        λ h. let k = and_parts (not (is_core_name name)) (not is_own) h in (not-true (is_core_name name) k.0, not-true is_own k.1),
        λ h. and_from (not (is_core_name name)) (not is_own) (ap not h.0) (ap not h.1),
      )

  role_by_head : (head : Name × Bool) → digest.head ≡ Some head → (told_by_marks digests before holding leading digest).role ≡ role_by before head
  role_by_head head e = ap (λ o. option_map_or (role_by before) o no_role) e

  idle_by_head : (head : Name × Bool) → digest.head ≡ Some head → (told_by_marks digests before holding leading digest).idle ≡ (not (holding head.0) && not (leading head.0))
  idle_by_head head e = ap (λ (o : Option (Name × Bool)). option_map_or (λ head. not (holding head.0) && not (leading head.0)) o false) e

  pub told_is : IsToldOf digests before digest (told_by_marks digests before holding leading digest)
  told_is = record {
    role = role_by_head;
    idle = λ head e first.
        let idle = idle_is head.0 (is_led head e) in
        (λ h. idle.0 (sym (idle_by_head head e) ∙ h), λ h. idle_by_head head e ∙ idle.1 h);
    strange = λ name used. strange_is name;
  }

-- marks that are sound and closed say it of all names
pub all_led : (digests : List Digest) (holding leading : Name → Bool) → AreLeadingMarks digests leading → AreHeadsLed digests holding leading
all_led digests holding leading are_led digest head among e none = led digests leading are_led head.0
