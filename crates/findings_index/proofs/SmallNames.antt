-- Names of core rules have no capitals.
use Rattle.std.proofs.Common.{◌≡◌, ℕ, Bool, true, false, List, [], ◌∷◌, map, Option, refl, sym, ap, subst, ◌∙◌}
use Rattle.std.specs.Prelude.{nat_eq, slice_get, option_map}
use Rattle.std.specs.Char.{to_ascii_lowercase}
use Rattle.std.specs.List.{list_all}
use Rattle.std.specs.Option.{option_map_or}
use Rattle.std.specs.Str.{bytes_eq}
use Rattle.std.proofs.lemmas.Bool.{and_from, and_parts, eq-eqb, eqb-true, false_from_ne_true}
use Rattle.std.proofs.lemmas.Option.{slice_get-map}
use Rattle.std.proofs.lemmas.Str.Ascii.{lowercase-lowercase}
use Rattle.abnf_token.specs.Folded.{lowercase}
use Rattle.abnf_parts.specs.Names.{Name}
use Rattle.abnf_parts.specs.Core.{core_rules, core_name, is_core_name}
use Rattle.abnf_parts.proofs.NameLaws.{never, same_is}
use Rattle.findings_index.proofs.Elements.{any_back}

abbrev pub is_small : Name → Bool
is_small text = list_all (λ byte. nat_eq (to_ascii_lowercase byte) byte) text

pub small_is : (text : Name) → is_small text ≡ true → lowercase text ≡ text
small_is [] e = refl
small_is (b ∷ text) e =
    let h = and_parts (nat_eq (to_ascii_lowercase b) b) (is_small text) e in
    (λ i. eqb-true (to_ascii_lowercase b) b h.0 i ∷ small_is text h.1 i)

lowered_is_small : (text : Name) → is_small (lowercase text) ≡ true
lowered_is_small [] = refl
lowered_is_small (b ∷ text) =
    and_from (nat_eq (to_ascii_lowercase (to_ascii_lowercase b)) (to_ascii_lowercase b)) (is_small (lowercase text))
    (eq-eqb (to_ascii_lowercase (to_ascii_lowercase b)) (to_ascii_lowercase b) (lowercase-lowercase b)) (lowered_is_small text)

core_is_small : (name : Name) → is_core_name name ≡ true → is_small name ≡ true
core_is_small name e =
    let c = any_back (λ core. bytes_eq (core_name core) name) core_rules e in
    subst (λ n. is_small n ≡ true) (same_is (core_name c.0) name c.2) (lowered_is_small c.0.name)

-- the test of a name without capitals, and of another one
pub core_if_small : (name : Name) → is_small name ≡ true → is_core_name (lowercase name) ≡ is_core_name name
core_if_small name e = ap is_core_name (small_is name e)

pub no_core_else : (name : Name) → is_small name ≡ false → is_core_name name ≡ false
no_core_else name e = false_from_ne_true (is_core_name name) (λ h. never (is_small name) (core_is_small name h) e)

-- a name that a table of other values has at a place
pub name_at : {X : Type 0} (view : X → Name) (keys : List X) (table : List Name) (n : ℕ) (o : Option X) → o ≡ slice_get keys n → map view keys ≡ table
    → option_map_or is_core_name (option_map view o) false ≡ option_map_or is_core_name (slice_get table n) false
name_at view keys table n o e f =
    ap (λ it. option_map_or is_core_name it false) (ap (option_map view) e ∙ (sym (slice_get-map view keys n) ∙ ap (λ names. slice_get names n) f))
