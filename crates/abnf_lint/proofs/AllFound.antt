-- What is true of each of several findings.
use Rattle.std.proofs.Common.{Bool, true, false, ℕ, List, [], ◌∷◌, ◌++◌}
use Rattle.std.specs.List.{AllByRecursion}
use Rattle.ls_text.specs.declared.position.Place.{Place}
use Rattle.abnf_lint.specs.declared.finding.Code.{Code}
use Rattle.abnf_lint.specs.declared.finding.Finding.{Finding}
use Rattle.abnf_lint.specs.Found.{finding_if}

pub all_joined : (P : Finding → Type 0) (xs ys : List Finding) → AllByRecursion P xs → AllByRecursion P ys → AllByRecursion P (xs ++ ys)
all_joined P [] ys h k = k
all_joined P (x ∷ xs) ys h k = (h.0, all_joined P xs ys h.1 k)

pub all_by : (P Q : Finding → Type 0) (xs : List Finding) → ((x : Finding) → P x → Q x) → AllByRecursion P xs → AllByRecursion Q xs
all_by P Q [] g h = tt
all_by P Q (x ∷ xs) g h = (g x h.0, all_by P Q xs g h.1)

pub if_all : (P : Finding → Type 0) (b : Bool) (code : Code) (place : Place) (name : List ℕ) → P (record { place = place; code = code; name = name }) →
    AllByRecursion P (finding_if b code place name)
if_all P true code place name h = (h, tt)
if_all P false code place name h = tt
