-- The names that a text defines are there once each, so that what stands beside them is found by number.
use Rattle.std.proofs.Common.{◌≡◌, Bool, true, false, ◌||◌, List, [], ◌∷◌, ◌++◌, length, map, refl, ap, ◌∙◌, arith}
use Rattle.std.specs.Prelude.{if◌then◌else◌, fold, filter_map}
use Rattle.std.specs.List.{list_any}
use Rattle.std.specs.Str.{bytes_eq}
use Rattle.std.proofs.lemmas.Bool.{or_parts}
use Rattle.abnf_parts.specs.Names.{Name, with_name}
use Rattle.abnf_parts.proofs.NameLaws.{same_refl, same_sym}
use Rattle.abnf_names.specs.Said.{Block}
use Rattle.abnf_names.specs.Rules.{defined, head_name}
use Rattle.abnf_names.specs.own.Passes.{members_in}

abbrev pub IsOnce : List Name → Type 0
IsOnce [] = Unit {0}
IsOnce (n ∷ names) = (list_any (bytes_eq n) names ≡ false) × IsOnce names

any_push : (test : Name → Bool) (names : List Name) (n : Name) → list_any test names ≡ false → test n ≡ false → list_any test (names ++ n ∷ []) ≡ false
any_push test [] n e f = ap (λ b. b || false) f
any_push test (m ∷ names) n e f =
    let h = or_parts (test m) (list_any test names) e in
    (λ i. h.0 i || any_push test names n h.1 f i)

once_push : (names : List Name) (n : Name) → IsOnce names → list_any (bytes_eq n) names ≡ false → IsOnce (names ++ n ∷ [])
once_push [] n o e = (refl, tt)
once_push (m ∷ names) n o e =
    let h = or_parts (bytes_eq n m) (list_any (bytes_eq n) names) e in
    (any_push (bytes_eq m) names n o.0 (same_sym m n ∙ h.0), once_push names n o.1 h.1)

once_if : (b : Bool) (names : List Name) (n : Name) → list_any (bytes_eq n) names ≡ b → IsOnce names → IsOnce (if b then names else names ++ n ∷ [])
once_if true names n e o = o
once_if false names n e o = once_push names n o e

once_fold : (ns names : List Name) → IsOnce names → IsOnce (fold with_name names ns)
once_fold [] names o = o
once_fold (n ∷ ns) names o = once_fold ns (with_name names n) (once_if (list_any (bytes_eq n) names) names n refl o)

pub defined_once : (blocks : List Block) → IsOnce (defined blocks)
defined_once blocks = once_fold (filter_map head_name blocks) [] tt

pub map_same : {X Y : Type 0} (f g : X → Y) → ((x : X) → f x ≡ g x) → (xs : List X) → map f xs ≡ map g xs
map_same f g e [] = refl
map_same f g e (x ∷ xs) = ap (λ y. y ∷ map f xs) (e x) ∙ ap (λ ys. g x ∷ ys) (map_same f g e xs)

module _ {T : Type 0} where
  -- what stands under the first name stands under none of the others
  passed : (n : Name) (list : List T) (under : Name → List T) (names : List Name) → list_any (bytes_eq n) names ≡ false → map (λ m. if bytes_eq m n then list else under m) names ≡ map under names
  passed n list under [] e = refl
  passed n list under (m ∷ names) e =
      let h = or_parts (bytes_eq n m) (list_any (bytes_eq n) names) e in
      ap (λ b. (if b then list else under m) ∷ map (λ k. if bytes_eq k n then list else under k) names) (same_sym m n ∙ h.0)
      ∙ ap (λ rest. under m ∷ rest) (passed n list under names h.1)

  pub members_are : (names : List Name) (members : List (List T)) → IsOnce names → length names ≡ length members → map (members_in names members) names ≡ members
  members_are [] [] o l = refl
  members_are [] (list ∷ members) o l = absurd (omega (arith, l))
  members_are (n ∷ names) [] o l = absurd (omega (arith, l))
  members_are (n ∷ names) (list ∷ members) o l =
      ap (λ b. (if b then list else members_in names members n) ∷ map (λ m. if bytes_eq m n then list else members_in names members m) names) (same_refl n)
      ∙ ap (λ rest. list ∷ rest) (passed n list (members_in names members) names o.0 ∙ members_are names members o.1 (omega (arith, l)))
