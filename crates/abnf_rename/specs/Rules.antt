-- A rename of the rules of a text (RFC 5234, section 2.1).
use Rattle.std.specs.Prelude.{◌≡◌, ◌↔◌, ℕ, Bool, true, false, not, ◌&&◌, ◌||◌, List, map, Some, slice_set, if◌then◌else◌}
use Rattle.std.specs.List.{list_any}
use Rattle.std.specs.Str.{bytes_eq}
use Rattle.abnf_token.specs.Classes.{Text, is_name}
use Rattle.abnf_token.specs.Folded.{lowercase}
use Rattle.abnf_token.specs.Renamed.{is_called}
use Rattle.abnf_parts.specs.Names.{Name, rule_number}
use Rattle.abnf_parts.specs.Core.{is_core_name}
use Rattle.abnf_parts.specs.Generates.{RuleGen}
use Rattle.abnf_parts.specs.Reach.{ReachesOpaque}
use Rattle.abnf_names.specs.Places.{Named, is_defined}
use Rattle.abnf_names.specs.Rules.{Grammar}
use Rattle.abnf_rename.specs.Parts.{renamed_rules}

-- the text of a place after the rename: the new one at a place of the old name, in any case of letters
abbrev pub text_after : Name → Text → Text → Text
text_after old new text = if is_called old text then new else text

-- a name after the rename, with its letters made small
abbrev pub name_after : Name → Text → Name → Name
name_after old new name = if bytes_eq old name then lowercase new else name

-- what is said of a place without where it is: its text, and whether it defines
abbrev pub text_and_role : Named → Text × Bool
text_and_role n = (n.text, n.defines)

-- what is said of a place after the rename, without where it is: its text, and whether it defines
abbrev pub told_after : Name → Text → Named → Text × Bool
told_after old new n = (text_after old new n.text, n.defines)

-- The name stands somewhere in the text, or is that of a core rule (RFC 5234, appendix B.1).
abbrev pub is_in_use : Grammar → Name → Bool
is_in_use g name = list_any (λ n. bytes_eq name (lowercase n.text)) g.places || is_core_name name

-- A rename of this name to this text is granted: the text is a name, the text defines the old one, and the new one is not in
-- use, unless it is the old one in another case (RFC 5234, section 2.1). It is what `rename_fault` of `ls_answers` finds no
-- fault with.
pub record IsGranted (old : Name) (new : Text) (g : Grammar) : Type 0 where
  pub named : is_name new ≡ true
  pub defined : is_defined g.places old ≡ true
  pub unused : not (bytes_eq (lowercase new) old) && is_in_use g (lowercase new) ≡ false

-- The name is not the new one, unless that is the old one.
abbrev pub IsApart : Name → Text → Name → Type 0
IsApart old new name = name ≡ lowercase new → old ≡ lowercase new

-- The rules are the same but for one name: that of the rule that the old name stood for, which is the new one in small
-- letters. In the trees each reference to that rule has the new name. The places have the texts of those before, with the new
-- text for the old name, and the same of them define. Names but the new one stand for the rules for which they stood, the old
-- one as the new one. By its number each rule generates the same strings, with as many nested references, and leads to an
-- opaque part where it did.
pub record AreSameRules (old : Name) (new : Text) (g h : Grammar) : Type 0 where
  pub rule : ℕ
  pub is_rule : rule_number g.names old ≡ Some rule
  pub names : h.names ≡ slice_set g.names rule (lowercase new)
  pub rules : h.rules ≡ renamed_rules rule new g.rules
  pub places : map text_and_role h.places ≡ map (told_after old new) g.places
  pub stands : (name : Name) → IsApart old new name → rule_number h.names (name_after old new name) ≡ rule_number g.names name
  pub generates : (k r : ℕ) (s : List ℕ) → RuleGen g.rules k r s ↔ RuleGen h.rules k r s
  pub reaches : (r : ℕ) → ReachesOpaque g.rules r ↔ ReachesOpaque h.rules r

-- the rule that the name stands for generates the string
pub record NameGenerates (g : Grammar) (name : Name) (s : List ℕ) : Type 0 where
  pub rule : ℕ
  pub is_rule : rule_number g.names name ≡ Some rule
  pub references : ℕ
  pub generates : RuleGen g.rules references rule s

-- a chain of uses leads from the rule that the name stands for to an opaque part
pub record NameReaches (g : Grammar) (name : Name) : Type 0 where
  pub rule : ℕ
  pub is_rule : rule_number g.names name ≡ Some rule
  pub reaches : ReachesOpaque g.rules rule

-- Each name but the new one generates the same strings before and after, and leads to an opaque part where it did, the old
-- one as the new one.
pub record KeepsNames (old : Name) (new : Text) (g h : Grammar) : Type 0 where
  pub generates : (name : Name) (s : List ℕ) → IsApart old new name → NameGenerates g name s ↔ NameGenerates h (name_after old new name) s
  pub reaches : (name : Name) → IsApart old new name → NameReaches g name ↔ NameReaches h (name_after old new name)
