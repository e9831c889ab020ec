-- A rename that is granted keeps the grammar.
use Rattle.std.proofs.Common.{◌≡◌, ℕ, Bool, true, false, not, ◌&&◌, List, [], map, Option, Some, None, refl, sym, ap, subst, ◌∙◌}
use Rattle.std.specs.Prelude.{All, if◌then◌else◌}
use Rattle.std.specs.Char.{IsScalar}
use Rattle.std.specs.Str.{bytes_eq}
use Rattle.abnf_token.specs.Classes.{is_name}
use Rattle.abnf_token.specs.Folded.{lowercase}
use Rattle.ls_text.specs.declared.position.Position.{Position}
use Rattle.ls_text.specs.declared.position.Range.{Range}
use Rattle.ls_text.specs.declared.position.Encoding.{Encoding}
use Rattle.abnf_names.specs.Places.{Named, is_defined}
use Rattle.abnf_names.specs.Rules.{Grammar, IsGrammar}
use Rattle.abnf_rename.specs.Rules.{IsGranted, is_in_use}
use Rattle.abnf_rename.specs.Text.{KeepsTheGrammar}
use Rattle.abnf_rename.proofs.RangesKept.{grammar_kept}
use Rattle.ls_answers.specs.InGrammars.{IsAnswerInGrammar}
use Rattle.ls_answers.specs.Places.{name_at, name_range, places_alike}
use Rattle.ls_answers.specs.RenameKeeps.{RenameKeeps, KeepsIfRenamedInGrammar}
use Rattle.ls_answers.specs.Renames.{IsRename, fault_there, rename_fault, rename_answer}
use Rattle.ls_answers.specs.declared.answer.Answer.{Answer}
use Rattle.ls_answers.specs.declared.answer.Answer.TheVariants as answer
use Rattle.ls_answers.specs.declared.answer.RenameFault.{RenameFault}
use Rattle.ls_answers.specs.declared.answer.RenameFault.TheVariants.{NotAName, NothingToRename, NameInUse}
use Rattle.ls_answers.specs.declared.ask.Ask.{Ask}
use Rattle.ls_answers.specs.declared.ask.Ask.TheVariants as ask

-- ---- no fault is a grant

defined_unused : (defined used : Bool) → (if not defined then Some NothingToRename else (if used then Some NameInUse else None)) ≡ None → (defined ≡ true) × (used ≡ false)
defined_unused true false e = (refl, refl)
defined_unused true true e = absurd (cc (e))
defined_unused false used e = absurd (cc (e))

module _ (encoding : Encoding) where
  pub record GrantedAt (g : Grammar) (at : Position) (new : List ℕ) : Type 0 where
    pub named : Named
    pub found : name_at encoding g at ≡ Some named
    pub granted : IsGranted (lowercase named.text) new g

  granted_there : (g : Grammar) (at : Position) (new : List ℕ) (n : Option Named) → name_at encoding g at ≡ n → is_name new ≡ true → fault_there g n new ≡ None → GrantedAt g at new
  granted_there g at new None found name e = absurd (cc (e))
  granted_there g at new (Some n) found name e =
      let old = lowercase n.text in
      let h = defined_unused (is_defined g.places old) (not (bytes_eq (lowercase new) old) && is_in_use g (lowercase new)) e in
      record { named = n; found = found; granted = record { named = name; defined = h.0; unused = h.1 } }

  granted_at : (g : Grammar) (at : Position) (new : List ℕ) → rename_fault encoding g at new ≡ None → GrantedAt g at new
  granted_at g at new e = by (is_name new) refl e
    where
      by : (b : Bool) → is_name new ≡ b → (if not b then Some NotAName else fault_there g (name_at encoding g at) new) ≡ None → GrantedAt g at new
      by true name e = granted_there g at new (name_at encoding g at) refl name e
      by false name e = absurd (cc (e))

  -- ---- its ranges

  abbrev ranges_in : Answer → List Range
  ranges_in (answer.Edits ranges given) = ranges
  ranges_in _ = []

  abbrev text_in : Answer → List ℕ
  text_in (answer.Edits ranges given) = given
  text_in _ = []

  abbrev are_edits : Answer → Bool
  are_edits (answer.Edits ranges given) = true
  are_edits _ = false

  edits_keep : (g : Grammar) (at : Position) (new given : List ℕ) (ranges : List Range) (fault : Option RenameFault) → IsGrammar g → All IsScalar g.text → rename_fault encoding g at new ≡ fault →
      answer.Edits ranges given ≡ rename_answer encoding g at new fault → RenameKeeps encoding g.text at given ranges × (given ≡ new)
  edits_keep g at new given ranges (Some fault) right s is e = let no : true ≡ false = ap are_edits e in absurd (cc (no))
  edits_keep g at new given ranges None right s is e =
      let found = granted_at g at new is in
      let same : given ≡ new = ap text_in e in
      let old = lowercase found.named.text in
      let kept = grammar_kept encoding old new g right s found.granted in
      let are : ranges ≡ map (name_range encoding g.text) (places_alike g (Some found.named)) = ap ranges_in e ∙ ap (λ n. map (name_range encoding g.text) (places_alike g n)) found.found in (
        record {
          grammar = g;
          of_text = refl;
          right = right;
          named = found.named;
          found = found.found;
          keeps = subst (λ t. KeepsTheGrammar encoding old t g ranges) (sym same) (subst (λ rs. KeepsTheGrammar encoding old new g rs) (sym are) kept);
        },
        same,
      )

  rename_keeps : (text : List ℕ) (at : Position) (new given : List ℕ) (ranges : List Range) → All IsScalar text → IsRename encoding text at new (answer.Edits ranges given) → RenameKeeps encoding text at given ranges × (given ≡ new)
  rename_keeps text at new given ranges s h =
      subst (λ t. RenameKeeps encoding t at given ranges × (given ≡ new)) h.of_text
      (edits_keep h.grammar at new given ranges (rename_fault encoding h.grammar at new) h.right (subst (All IsScalar) (sym h.of_text) s) refl h.answer_is)

  pub answer_keeps : (text : List ℕ) (question : Ask) (answer : Answer) → All IsScalar text → IsAnswerInGrammar encoding text question answer → KeepsIfRenamedInGrammar encoding text question answer
  answer_keeps text (ask.Rename at new) (answer.Edits ranges given) s h = rename_keeps text at new given ranges s h
  answer_keeps text question answer s h = tt
