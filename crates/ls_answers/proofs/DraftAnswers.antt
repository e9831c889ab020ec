-- A question about a draft has an answer, and one alone but for the certificate beside an example.
use Rattle.std.proofs.Common.{arith, ◌≡◌, ℕ, ◌<◌, ◌^◌, List, [], length, map, refl, sym, ap, ◌∙◌, subst}
use Rattle.std.specs.Prelude.{All, IfSome, false, Option, Some, None, option_map}
use Rattle.std.specs.Char.{IsScalar}
use Rattle.std.proofs.lemmas.List.{length-map}
use Rattle.ls_text.specs.declared.position.Encoding.{Encoding}
use Rattle.ls_text.specs.declared.position.Encoding.TheVariants.{Utf32}
use Rattle.ls_text.specs.declared.position.Position.{Position}
use Rattle.ls_text.specs.declared.position.Range.{Range}
use Rattle.ls_text.specs.Edits.{edited_all}
use Rattle.ls_text.specs.Lines.{units}
use Rattle.abnf_token.specs.Classes.{is_name}
use Rattle.abnf_rename.specs.Text.{renaming_edits, text_renamed}
use Rattle.origins.specs.Origins.{Sourced, characters}
use Rattle.draft_grammars.specs.Drafts.{grammar_in}
use Rattle.draft_grammars.specs.Places.{Mapped, inward_position, outward_range}
use Rattle.draft_grammars.specs.Insertions.{insertion_in}
use Rattle.draft_grammars.specs.Renames.{draft_rename_fault}
use Rattle.draft_grammars.specs.declared.insertion.Inserted.{Inserted}
use Rattle.draft_grammars.specs.declared.rename.DraftRenameFault.{DraftRenameFault}
use Rattle.draft_grammars.specs.declared.format.Format.{Format}
use Rattle.draft_grammars.proofs.GatherLaws.{no_longer}
use Rattle.draft_grammars.proofs.RenameLaws.{renamed}
use Rattle.draft_grammars.proofs.ScalarLaws.{all_scalars}
use Rattle.joined_grammars.proofs.RepeatLaws.{one_repeats, some_repeats}
use Rattle.abnf_cert.specs.declared.entry.Entry.{Entry}
use Rattle.abnf_lint.proofs.Ascends.{rows_unique}
use Rattle.abnf_lint.proofs.FindingsExist.{some_findings}
use Rattle.ls_answers.specs.Answers.{insertion_without_cert, without_cert}
use Rattle.ls_answers.specs.DraftDiagnostics.{AreDraftDiagnostics, draft_diagnostics}
use Rattle.ls_answers.specs.InDrafts.{AreTokensInDraft, IsAnswerInDraft, IsAnswerWith, IsCarried, IsGiven, KeepsIfRenamedInDraft, RenameKeepsInDraft, edits_unless, inward_ask, mapped, outside_answer, outward_answer, outward_tokens}
use Rattle.ls_answers.specs.InGrammars.{IsAnswerInGrammar}
use Rattle.ls_answers.specs.RenameKeeps.{RenameKeeps}
use Rattle.ls_answers.specs.SemanticTokens.{AreSemanticTokens, origin, relative}
use Rattle.ls_answers.specs.declared.ask.Ask.{Ask}
use Rattle.ls_answers.specs.declared.ask.Ask.TheVariants as ask
use Rattle.ls_answers.specs.declared.answer.Answer.{Answer}
use Rattle.ls_answers.specs.declared.answer.Answer.TheVariants as answer
use Rattle.ls_answers.specs.declared.answer.DraftAnswer.TheVariants as draft_answer
use Rattle.ls_answers.specs.declared.answer.DraftDiagnostic.{DraftDiagnostic}
use Rattle.ls_answers.specs.declared.answer.Insertion.{Insertion}
use Rattle.ls_answers.specs.declared.answer.RenameFault.TheVariants.{NotAName}
use Rattle.ls_answers.proofs.Exist.{some_answer}
use Rattle.ls_answers.proofs.NoName.{no_name}
use Rattle.ls_answers.proofs.OneAnswer.{one_answer}
use Rattle.ls_answers.proofs.OneList.{one_reported}
use Rattle.ls_answers.proofs.RenameKept.{answer_keeps}

module _ (format : Format) (of : Mapped) where
  abbrev text : List ℕ
  text = characters of.grammar

  -- all but the questions about tokens and findings are answered by the question about the grammar
  pub other_answer : (question : Ask) (given : Answer) → (question ≡ ask.Tokens → ⊥) → (question ≡ ask.Diagnose → ⊥) → IsGiven (inward_ask of question) format of question given → IsAnswerWith format of question given
  other_answer (ask.Hover at) given tokens findings h = h
  other_answer (ask.Definition at) given tokens findings h = h
  other_answer (ask.References at declarations) given tokens findings h = h
  other_answer ask.Symbols given tokens findings h = h
  other_answer (ask.Rename at new) given tokens findings h = h
  other_answer (ask.Action range) given tokens findings h = h
  other_answer ask.Tokens given tokens findings h = absurd (tokens refl)
  other_answer ask.Diagnose given tokens findings h = absurd (findings refl)

  -- ---- one

  carried_without : (a : Answer) → without_cert (outward_answer format of a) ≡ outward_answer format of (without_cert a)
  carried_without (answer.Hover None) = refl
  carried_without (answer.Hover (Some hover)) = refl
  carried_without (answer.Places ranges) = refl
  carried_without (answer.Symbols symbols) = refl
  carried_without (answer.Edits ranges new) = by (draft_rename_fault format of ranges new)
    where
      by : (o : Option DraftRenameFault) → without_cert (edits_unless o of ranges new) ≡ edits_unless o of ranges new
      by None = refl
      by (Some fault) = refl
  carried_without (answer.Refused fault) = refl
  carried_without (answer.Insert None) = refl
  carried_without (answer.Insert (Some insertion)) = by (insertion_in format of insertion.position insertion.text)
    where
      put : List Entry → Inserted → Insertion
      put cert placed = record { position = placed.position; text = placed.text; cert = cert }

      by : (o : Option Inserted) → answer.Insert (option_map insertion_without_cert (option_map (put insertion.cert) o)) ≡ answer.Insert (option_map (put []) o)
      by None = refl
      by (Some placed) = refl
  carried_without (answer.Numbers numbers) = refl
  carried_without (answer.Findings found) = refl
  carried_without (answer.Draft drafted) = refl

  one_carried : (inner : Ask) (a b : Answer) → IsCarried format of inner a → IsCarried format of inner b → without_cert a ≡ without_cert b
  one_carried inner a b p q =
      ap without_cert p.given_is
      ∙ (carried_without p.answer_inside
      ∙ (ap (outward_answer format of) (one_answer Utf32 text inner p.answer_inside q.answer_inside p.right q.right)
      ∙ (sym (carried_without q.answer_inside) ∙ sym (ap without_cert q.given_is))))

  one_given : (o : Option Ask) (question : Ask) (a b : Answer) → IsGiven o format of question a → IsGiven o format of question b → without_cert a ≡ without_cert b
  one_given None question a b p q = ap without_cert (p ∙ sym q)
  one_given (Some inner) question a b p q = one_carried inner a b p q

  one_list_of_tokens : (xs ys : List ℕ) → AreTokensInDraft of xs → AreTokensInDraft of ys → xs ≡ ys
  one_list_of_tokens xs ys p q =
      p.numbers_are ∙ (ap (λ tokens. relative origin (outward_tokens of tokens)) (one_reported Utf32 text p.tokens q.tokens p.reported q.reported) ∙ sym q.numbers_are)

  tokens_answer : (a : Answer) → IsAnswerWith format of ask.Tokens a → (x : List ℕ) × (a ≡ answer.Numbers x) × AreTokensInDraft of x
  tokens_answer (answer.Hover hover) p = absurd p
  tokens_answer (answer.Places ranges) p = absurd p
  tokens_answer (answer.Symbols symbols) p = absurd p
  tokens_answer (answer.Edits ranges new) p = absurd p
  tokens_answer (answer.Refused fault) p = absurd p
  tokens_answer (answer.Insert insertion) p = absurd p
  tokens_answer (answer.Numbers numbers) p = (numbers, refl, p)
  tokens_answer (answer.Findings found) p = absurd p
  tokens_answer (answer.Draft drafted) p = absurd p

  one_list_of_findings : (xs ys : List DraftDiagnostic) → AreDraftDiagnostics of xs → AreDraftDiagnostics of ys → xs ≡ ys
  one_list_of_findings xs ys p q =
      let found_are = rows_unique text p.findings q.findings p.of_text q.of_text in
      let repeats_are = one_repeats text p.repeats q.repeats p.are_repeats q.are_repeats in
      p.diagnostics_are ∙ ((λ i. draft_diagnostics of (repeats_are i) (found_are i)) ∙ sym q.diagnostics_are)

  findings_answer : (a : Answer) → IsAnswerWith format of ask.Diagnose a → (x : List DraftDiagnostic) × (a ≡ answer.Draft (draft_answer.Findings x)) × AreDraftDiagnostics of x
  findings_answer (answer.Hover hover) p = absurd p
  findings_answer (answer.Places ranges) p = absurd p
  findings_answer (answer.Symbols symbols) p = absurd p
  findings_answer (answer.Edits ranges new) p = absurd p
  findings_answer (answer.Refused fault) p = absurd p
  findings_answer (answer.Insert insertion) p = absurd p
  findings_answer (answer.Numbers numbers) p = absurd p
  findings_answer (answer.Findings found) p = absurd p
  findings_answer (answer.Draft (draft_answer.Refused fault)) p = absurd p
  findings_answer (answer.Draft (draft_answer.Findings found)) p = (found, refl, p)

  pub one_answer_with : (question : Ask) (a b : Answer) → IsAnswerWith format of question a → IsAnswerWith format of question b → without_cert a ≡ without_cert b
  one_answer_with (ask.Hover at) a b p q = one_given (inward_ask of (ask.Hover at)) (ask.Hover at) a b p q
  one_answer_with (ask.Definition at) a b p q = one_given (inward_ask of (ask.Definition at)) (ask.Definition at) a b p q
  one_answer_with (ask.References at declarations) a b p q = one_given (inward_ask of (ask.References at declarations)) (ask.References at declarations) a b p q
  one_answer_with ask.Symbols a b p q = one_given (inward_ask of ask.Symbols) ask.Symbols a b p q
  one_answer_with (ask.Rename at new) a b p q = one_given (inward_ask of (ask.Rename at new)) (ask.Rename at new) a b p q
  one_answer_with (ask.Action range) a b p q = one_given (inward_ask of (ask.Action range)) (ask.Action range) a b p q
  one_answer_with ask.Tokens a b p q =
      let x = tokens_answer a p in
      let y = tokens_answer b q in
      ap without_cert (x.1 ∙ (ap answer.Numbers (one_list_of_tokens x.0 y.0 x.2 y.2) ∙ sym y.1))
  one_answer_with ask.Diagnose a b p q =
      let x = findings_answer a p in
      let y = findings_answer b q in
      ap without_cert (x.1 ∙ (ap (λ found. answer.Draft (draft_answer.Findings found)) (one_list_of_findings x.0 y.0 x.2 y.2) ∙ sym y.1))

  -- ---- some

  some_given : (o : Option Ask) (question : Ask) → length text < 2 ^ 62 → (a : Answer) × IsGiven o format of question a
  some_given None question small = (outside_answer question, refl)
  some_given (Some inner) question small =
      let found = some_answer Utf32 text inner small in
      (outward_answer format of found.0, record { answer_inside = found.0; right = found.1; given_is = refl })

  tokens_with : (numbers : List ℕ) → AreSemanticTokens Utf32 text numbers → (given : List ℕ) × AreTokensInDraft of given
  tokens_with numbers h = (relative origin (outward_tokens of h.tokens), record { tokens = h.tokens; reported = h.reported; numbers_are = refl })

  some_tokens : (a : Answer) → IsAnswerInGrammar Utf32 text ask.Tokens a → (given : Answer) × IsAnswerWith format of ask.Tokens given
  some_tokens (answer.Hover hover) p = absurd p
  some_tokens (answer.Places ranges) p = absurd p
  some_tokens (answer.Symbols symbols) p = absurd p
  some_tokens (answer.Edits ranges new) p = absurd p
  some_tokens (answer.Refused fault) p = absurd p
  some_tokens (answer.Insert insertion) p = absurd p
  some_tokens (answer.Numbers numbers) p = let found = tokens_with numbers p in (answer.Numbers found.0, found.1)
  some_tokens (answer.Findings found) p = absurd p
  some_tokens (answer.Draft drafted) p = absurd p

  pub some_answer_with : (question : Ask) → length text < 2 ^ 62 → (a : Answer) × IsAnswerWith format of question a
  some_answer_with (ask.Hover at) small = some_given (inward_ask of (ask.Hover at)) (ask.Hover at) small
  some_answer_with (ask.Definition at) small = some_given (inward_ask of (ask.Definition at)) (ask.Definition at) small
  some_answer_with (ask.References at declarations) small = some_given (inward_ask of (ask.References at declarations)) (ask.References at declarations) small
  some_answer_with ask.Symbols small = some_given (inward_ask of ask.Symbols) ask.Symbols small
  some_answer_with (ask.Rename at new) small = some_given (inward_ask of (ask.Rename at new)) (ask.Rename at new) small
  some_answer_with (ask.Action range) small = some_given (inward_ask of (ask.Action range)) (ask.Action range) small
  some_answer_with ask.Tokens small = let found = some_answer Utf32 text ask.Tokens small in some_tokens found.0 found.1
  some_answer_with ask.Diagnose small =
      let found = some_findings text small in
      let repeats = some_repeats text small in (
        answer.Draft (draft_answer.Findings (draft_diagnostics of repeats.0 found.0)),
        record { findings = found.0; of_text = found.1; repeats = repeats.0; are_repeats = repeats.1; diagnostics_are = refl },
      )

module _ (format : Format) (encoding : Encoding) (draft : List ℕ) where
  abbrev grammar_text : List ℕ
  grammar_text = characters (grammar_in format draft)

  abbrev places : Mapped
  places = mapped format encoding draft

  text_small : length draft < 2 ^ 62 → length grammar_text < 2 ^ 62
  text_small small = omega (arith, small, no_longer format draft, length-map (grammar_in format draft) (λ (c : Sourced). c.0))

  pub one_answer_in_draft : (question : Ask) (a b : Answer) → IsAnswerInDraft format encoding draft question a → IsAnswerInDraft format encoding draft question b → without_cert a ≡ without_cert b
  one_answer_in_draft question a b p q = one_answer_with format places question a b p q

  pub some_answer_in_draft : (question : Ask) → length draft < 2 ^ 62 → (a : Answer) × IsAnswerInDraft format encoding draft question a
  some_answer_in_draft question small = some_answer_with format places question (text_small small)

  -- ---- what a rename keeps

  abbrev outer_of : List Range → List Range
  outer_of ranges = map (outward_range places) ranges

  edits_keep : (at inside : Position) (new given : List ℕ) (rs ranges : List Range) (o : Option DraftRenameFault) → inward_position places at ≡ Some inside → draft_rename_fault format places rs given ≡ o
      → RenameKeeps Utf32 grammar_text inside given rs
      → answer.Edits ranges new ≡ edits_unless o places rs given → RenameKeepsInDraft format encoding draft at new ranges × (new ≡ given)
  edits_keep at inside new given rs ranges (Some fault) stands k keeps e = absurd (cc (e))
  edits_keep at inside new given rs ranges None stands k keeps e =
      let same : new ≡ given = cc (e) in
      let outer : ranges ≡ outer_of rs = cc (e) in
      let found = renamed format places rs given k in
      let by_text : found.text ≡ text_renamed Utf32 grammar_text given rs =
      subst (λ t. found.text ≡ text_renamed Utf32 t given rs) keeps.of_text
      (subst (λ o. IfSome o (λ t. t ≡ text_renamed Utf32 keeps.grammar.text given rs)) (ap (λ t. edited_all (units Utf32) t (renaming_edits given rs)) keeps.of_text ∙ found.text_is) keeps.keeps.edits) in (
        subst (λ n. RenameKeepsInDraft format encoding draft at n ranges) (sym same)
            (subst (λ os. RenameKeepsInDraft format encoding draft at given os) (sym outer)
            (record { edited = found.draft; edits = found.draft_is; at_inside = inside; stands = stands; inner = rs; keeps = keeps; grammar = found.grammar ∙ by_text })),
        same,
      )

  renamed_keeps : (at inside : Position) (new given : List ℕ) (ranges : List Range) (inner : Answer) → inward_position places at ≡ Some inside → All IsScalar grammar_text
      → IsAnswerInGrammar Utf32 grammar_text (ask.Rename inside new) inner → answer.Edits ranges given ≡ outward_answer format places inner → RenameKeepsInDraft format encoding draft at given ranges × (given ≡ new)
  renamed_keeps at inside new given ranges (answer.Hover hover) stands s h e = absurd (cc (e))
  renamed_keeps at inside new given ranges (answer.Places places) stands s h e = absurd (cc (e))
  renamed_keeps at inside new given ranges (answer.Symbols symbols) stands s h e = absurd (cc (e))
  renamed_keeps at inside new given ranges (answer.Edits rs put) stands s h e =
      let kept = answer_keeps Utf32 grammar_text (ask.Rename inside new) (answer.Edits rs put) s h in
      let found = edits_keep at inside given put rs ranges (draft_rename_fault format places rs put) stands refl kept.0 e in
      (found.0, found.1 ∙ kept.1)
  renamed_keeps at inside new given ranges (answer.Refused fault) stands s h e = absurd (cc (e))
  renamed_keeps at inside new given ranges (answer.Insert insertion) stands s h e = absurd (cc (e))
  renamed_keeps at inside new given ranges (answer.Numbers numbers) stands s h e = absurd (cc (e))
  renamed_keeps at inside new given ranges (answer.Findings found) stands s h e = absurd (cc (e))
  renamed_keeps at inside new given ranges (answer.Draft drafted) stands s h e = absurd (cc (e))

  given_keeps : (o : Option Position) (at : Position) (new given : List ℕ) (ranges : List Range) → inward_position places at ≡ o → All IsScalar draft
      → IsGiven (option_map (λ inner. ask.Rename inner new) o) format places (ask.Rename at new) (answer.Edits ranges given) → RenameKeepsInDraft format encoding draft at given ranges × (given ≡ new)
  given_keeps None at new given ranges stands s e = absurd (cc (e))
  given_keeps (Some inside) at new given ranges stands s h = renamed_keeps at inside new given ranges h.answer_inside stands (all_scalars format draft s) h.right h.given_is

  pub answer_keeps_in_draft : (question : Ask) (given : Answer) → All IsScalar draft → IsAnswerInDraft format encoding draft question given → KeepsIfRenamedInDraft format encoding draft question given
  answer_keeps_in_draft (ask.Rename at new) (answer.Edits ranges given) s h = given_keeps (inward_position places at) at new given ranges refl s h
  answer_keeps_in_draft question given s h = tt

  not_named_by : (o : Option Position) (at : Position) (new : List ℕ) → length draft < 2 ^ 62 → is_name new ≡ false
      → IsGiven (option_map (λ inner. ask.Rename inner new) o) format places (ask.Rename at new) (answer.Refused NotAName)
  not_named_by None at new small other = rw other refl
  not_named_by (Some inside) at new small other =
      record { answer_inside = answer.Refused NotAName; right = no_name Utf32 grammar_text inside new (text_small small) other; given_is = refl }

  -- a rename to what is no name is refused as that
  pub not_named : (at : Position) (new : List ℕ) → length draft < 2 ^ 62 → is_name new ≡ false → IsAnswerInDraft format encoding draft (ask.Rename at new) (answer.Refused NotAName)
  not_named at new small other = not_named_by (inward_position places at) at new small other
