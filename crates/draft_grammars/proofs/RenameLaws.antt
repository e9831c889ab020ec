-- A rename that is granted in a draft.
use Rattle.std.proofs.Common.{◌≡◌, ℕ, Bool, true, false, List, map, refl}
use Rattle.std.specs.Prelude.{Option, Some, None, is_some, not, bytes_eq, if◌then◌else◌}
use Rattle.std.proofs.lemmas.Bool.{and_parts}
use Rattle.std.proofs.lemmas.Slice.Eq.{bytes_eq-Decides}
use Rattle.ls_text.specs.declared.position.Encoding.TheVariants.{Utf32}
use Rattle.ls_text.specs.declared.position.Range.{Range}
use Rattle.origins.specs.Origins.{characters}
use Rattle.xml_blocks.specs.declared.fault.XmlFault.{XmlFault}
use Rattle.draft_grammars.specs.Drafts.{contents_in, fault_in, grammar_in, has_contents}
use Rattle.draft_grammars.specs.Places.{Mapped, outward_range}
use Rattle.draft_grammars.specs.Renames.{draft_rename_fault, split_fault, written}
use Rattle.draft_grammars.specs.declared.format.Format.{Format}
use Rattle.draft_grammars.specs.declared.rename.DraftRenameFault.TheVariants.{AtFault, Split}

-- The draft with the new text in the ranges has no fault, and its grammar has the text of the grammar with the new text.
pub record IsRenamed (format : Format) (of : Mapped) (ranges : List Range) (new : List ℕ) : Type 0 where
  pub draft : List ℕ
  pub draft_is : written of.encoding of.draft new (map (outward_range of) ranges) ≡ Some draft
  pub text : List ℕ
  pub text_is : written Utf32 (characters of.grammar) new ranges ≡ Some text
  pub grammar : characters (grammar_in format draft) ≡ text
  pub fault : fault_in format draft ≡ None

no_fault : (o : Option XmlFault) → not (is_some o) ≡ true → o ≡ None
no_fault None e = refl
no_fault (Some fault) e = absurd (cc (e))

-- it is so where no fault is found
pub renamed : (format : Format) (of : Mapped) (ranges : List Range) (new : List ℕ) → draft_rename_fault format of ranges new ≡ None → IsRenamed format of ranges new
renamed format of ranges new e = by (is_some of.fault) e
  where
    kept : (draft text : List ℕ) → written of.encoding of.draft new (map (outward_range of) ranges) ≡ Some draft → written Utf32 (characters of.grammar) new ranges ≡ Some text
        → (b : Bool) → has_contents false (contents_in format draft) text ≡ b → (if b then None else Some Split) ≡ None → IsRenamed format of ranges new
    kept draft text outer_is inner_is false is e = absurd (cc (e))
    kept draft text outer_is inner_is true is e =
        let parts = and_parts (not (is_some (fault_in format draft))) (bytes_eq (characters (grammar_in format draft)) text) is in
        record {
          draft = draft;
          draft_is = outer_is;
          text = text;
          text_is = inner_is;
          grammar = (bytes_eq-Decides (characters (grammar_in format draft)) text).0 parts.1;
          fault = no_fault (fault_in format draft) parts.0;
        }

    both : (a b : Option (List ℕ)) → written of.encoding of.draft new (map (outward_range of) ranges) ≡ a → written Utf32 (characters of.grammar) new ranges ≡ b → split_fault format a b ≡ None → IsRenamed format of ranges new
    both None b outer_is inner_is e = absurd (cc (e))
    both (Some draft) None outer_is inner_is e = absurd (cc (e))
    both (Some draft) (Some text) outer_is inner_is e = kept draft text outer_is inner_is (has_contents false (contents_in format draft) text) refl e

    by : (b : Bool) → (if b then Some AtFault else split_fault format (written of.encoding of.draft new (map (outward_range of) ranges)) (written Utf32 (characters of.grammar) new ranges)) ≡ None → IsRenamed format of ranges new
    by true e = absurd (cc (e))
    by false e = both (written of.encoding of.draft new (map (outward_range of) ranges)) (written Utf32 (characters of.grammar) new ranges) refl refl e
