-- The core rules that are needed, by the names that were gathered.
use Rattle.std.proofs.Common.{◌≡◌, Bool, true, false, cond, List, [], ◌∷◌, map, refl, ap, ◌∙◌}
use Rattle.std.specs.Prelude.{fold, filter, if◌then◌else◌}
use Rattle.abnf_token.specs.Folded.{lowercase}
use Rattle.abnf_parts.specs.Names.{Name, names_beside, with_name}
use Rattle.abnf_parts.specs.Core.{core_rules, is_core_name, is_needed}
use Rattle.abnf_parts.proofs.NeededLaws.{needed_core}
use Rattle.abnf_names.specs.Said.{Block}
use Rattle.abnf_names.specs.Places.{Named, places_of}
use Rattle.abnf_names.specs.Rules.{needed, defined}
use Rattle.abnf_names.specs.own.Passes.{stated, with_core_name}

-- names are added where core rules have them, as if those alone were there
stated_among : (names texts : List Name) → fold with_core_name names texts ≡ fold with_name names (filter is_core_name texts)
stated_among names [] = refl
stated_among names (text ∷ texts) = by (is_core_name text) (stated_among (with_name names text) texts) (stated_among names texts)
  where
    by : (b : Bool) → fold with_core_name (with_name names text) texts ≡ fold with_name (with_name names text) (filter is_core_name texts)
        → fold with_core_name names texts ≡ fold with_name names (filter is_core_name texts)
        → fold with_core_name (if b then with_name names text else names) texts ≡ fold with_name names (cond b (text ∷ filter is_core_name texts) (filter is_core_name texts))
    by true there beside = there
    by false there beside = beside

pub needed_all : (own names : List Name) (blocks : List Block) → own ≡ defined blocks → names ≡ stated (places_of blocks) → filter (is_needed (names_beside own names)) core_rules ≡ needed blocks
needed_all own names blocks o s =
    let texts : List Name = map (λ (place : Named). lowercase place.text) (places_of blocks) in
    ap (λ ns. filter (is_needed (names_beside own ns)) core_rules) (s ∙ stated_among [] texts)
    ∙ (ap (λ ns. filter (is_needed (names_beside ns (fold with_name [] (filter is_core_name texts)))) core_rules) o
    ∙ needed_core (defined blocks) texts)
