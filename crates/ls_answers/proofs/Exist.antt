-- Each question about a text has an answer.
use Rattle.std.proofs.Common.{◌≡◌, ℕ, zero, suc, ◌^◌, ◌<◌, List, [], ◌∷◌, length, map, Option, Some, None, refl, ap}
use Rattle.std.specs.Prelude.{IfSome, codes, filter, flat_map}
use Rattle.std.specs.List.{filter_map}
use Rattle.abnf_token.specs.Classes.{Text}
use Rattle.abnf_token.specs.Folded.{lowercase}
use Rattle.abnf_token.specs.declared.token.Token.{Token}
use Rattle.ls_text.specs.Lines.{units}
use Rattle.ls_text.specs.Positions.{place_range}
use Rattle.ls_text.specs.declared.position.Position.{Position}
use Rattle.ls_text.specs.declared.position.Range.{Range}
use Rattle.ls_text.specs.declared.position.Encoding.{Encoding}
use Rattle.abnf_syntax.specs.Blocks.{line_texts}
use Rattle.abnf_syntax.specs.Items.{AreTokens}
use Rattle.abnf_syntax.proofs.Exist.{HasTokens, some_blocks, text_has_tokens}
use Rattle.abnf_names.specs.Places.{Named}
use Rattle.abnf_names.specs.Rules.{Grammar, IsGrammar}
use Rattle.abnf_names.proofs.Exist.{some_grammar}
use Rattle.abnf_names.proofs.Within.{rule_within}
use Rattle.abnf_parts.specs.Names.{rule_number}
use Rattle.abnf_parts.specs.Part.{Part}
use Rattle.abnf_cert.specs.Accepted.{IsAccepted}
use Rattle.abnf_cert.specs.declared.entry.Entry.{Entry}
use Rattle.abnf_least.specs.declared.shortest.Shortest.{Shortest}
use Rattle.abnf_least.specs.declared.shortest.Shortest.TheVariants.{Shown, Long, Huge, Nothing, NotKnown}
use Rattle.abnf_least.proofs.SomeShown.{certificate_of, some_shown}
use Rattle.abnf_lint.proofs.FindingsExist.{some_findings}
use Rattle.ls_answers.specs.InGrammars.{IsAnswerInGrammar}
use Rattle.ls_answers.specs.Diagnostics.{AreDiagnostics, diagnostic_of}
use Rattle.ls_answers.specs.Hover.{shown_text}
use Rattle.ls_answers.specs.Hovers.{IsHover, IsHoverAt, IsHoverOfRule}
use Rattle.ls_answers.specs.Insertions.{IsInsertedBefore, IsInsertion, IsInsertionBy, IsInsertionThere, comment_of, first_head, name_at_start}
use Rattle.ls_answers.specs.Outline.{IsOutline}
use Rattle.ls_answers.specs.Places.{ArePlaces, name_at, name_range, places_alike, wanted_with}
use Rattle.ls_answers.specs.Renames.{IsRename, rename_fault, rename_answer}
use Rattle.ls_answers.specs.SemanticTokens.{AreSemanticTokens, origin, relative, told}
use Rattle.ls_answers.specs.declared.answer.Answer.{Answer}
use Rattle.ls_answers.specs.declared.answer.Answer.TheVariants as answer
use Rattle.ls_answers.specs.declared.answer.Diagnostic.{Diagnostic}
use Rattle.ls_answers.specs.declared.answer.HoverText.{HoverText}
use Rattle.ls_answers.specs.declared.answer.Insertion.{Insertion}
use Rattle.ls_answers.specs.declared.answer.Symbol.{Symbol}
use Rattle.ls_answers.specs.declared.ask.Ask.{Ask}
use Rattle.ls_answers.specs.declared.ask.Ask.TheVariants as ask
use Rattle.abnf_places.specs.declared.wanted.Wanted.{Wanted}
use Rattle.abnf_places.specs.declared.wanted.Wanted.TheVariants.{Definitions}
use Rattle.abnf_places.specs.Wanted.{is_wanted}
use Rattle.ls_answers.proofs.Outlines.{outline as outlined}

module _ (encoding : Encoding) where
  outline : (text : List ℕ) → length text < 2 ^ 62 → (symbols : List Symbol) × IsOutline encoding text symbols
  outline text small =
      let found = some_blocks text small in
      (outlined encoding text found.0, record { blocks = found.0; all = found.1; items = λ at d less. (found.2 at d less).0; symbols_are = refl })

  places : (wanted : Wanted) (text : List ℕ) (at : Position) → length text < 2 ^ 62 → (ranges : List Range) × ArePlaces encoding wanted text at ranges
  places wanted text at small =
      let g = some_grammar text small in (
        map (name_range encoding text) (filter (λ (named : Named). is_wanted wanted named.defines) (places_alike g.0 (name_at encoding g.0 at))),
        record { grammar = g.0; of_text = g.1; right = g.2; ranges_are = refl },
      )

  rename : (text : List ℕ) (at : Position) (new : List ℕ) → length text < 2 ^ 62 → (a : Answer) × IsRename encoding text at new a
  rename text at new small =
      let g = some_grammar text small in (rename_answer encoding g.0 at new (rename_fault encoding g.0 at new), record { grammar = g.0; of_text = g.1; right = g.2; answer_is = refl })

  inserted_before : (roots : List Part) (line : ℕ) (cert : List Entry) → IsAccepted roots cert → (shown : Shortest) → (insertion : Option Insertion) × IsInsertedBefore roots line shown insertion
  inserted_before roots line cert accepted (Shown n example) =
      (Some (record { position = record { line = line; character = 0 }; text = comment_of example; cert = cert }), record { position_is = refl; text_is = refl; accepted = accepted })
  inserted_before roots line cert accepted (Long n) = (None, refl)
  inserted_before roots line cert accepted Huge = (None, refl)
  inserted_before roots line cert accepted Nothing = (None, refl)
  inserted_before roots line cert accepted NotKnown = (None, refl)

  insertion_by : (g : Grammar) → IsGrammar g → (head : Option Named) (rule : Option ℕ) → IfSome rule (λ r. r < length g.rules) → (insertion : Option Insertion) × IsInsertionBy encoding g head rule insertion
  insertion_by g right None rule known = (None, refl)
  insertion_by g right (Some head) None known = (None, refl)
  insertion_by g right (Some head) (Some r) known =
      let s = some_shown g right r known in
      let cert = certificate_of g right in
      let found = inserted_before g.rules (name_range encoding g.text head).start.line cert.0 cert.1 s.0 in
      (found.0, (s.0, s.1, found.1))

  insertion_there : (g : Grammar) → IsGrammar g → (o : Option Named) → (insertion : Option Insertion) × IsInsertionThere encoding g o insertion
  insertion_there g right None = (None, refl)
  insertion_there g right (Some n) =
      insertion_by g right (first_head g (lowercase n.text)) (rule_number g.names (lowercase n.text)) (rule_within g right (lowercase n.text))

  insertion : (text : List ℕ) (range : Range) → length text < 2 ^ 62 → (insertion : Option Insertion) × IsInsertion encoding text range insertion
  insertion text range small =
      let g = some_grammar text small in
      let found = insertion_there g.0 g.2 (name_at_start encoding g.0 range) in
      (found.0, record { grammar = g.0; of_text = g.1; right = g.2; inserted = found.1 })

  lists_of : (ls : List Text) → HasTokens ls → (n at : ℕ) → (lists : List (List Token)) × (length lists ≡ n) × AreTokens ls at lists
  lists_of ls have zero at = ([], refl, tt)
  lists_of ls have (suc n) at =
      let first = have at in
      let rest = lists_of ls have n (suc at) in
      (first.0 ∷ rest.0, ap suc rest.1, (first.1, rest.2))

  tokens : (text : List ℕ) → length text < 2 ^ 62 → (numbers : List ℕ) × AreSemanticTokens encoding text numbers
  tokens text small =
      let g = some_grammar text small in
      let found = lists_of (line_texts text) (text_has_tokens text small) (length (line_texts text)) 0 in
      let tokens = flat_map (filter_map (told encoding g.0)) found.0 in (
        relative origin tokens,
        record {
          tokens = tokens;
          reported = record { grammar = g.0; of_text = g.1; right = g.2; tokens = found.0; all = found.1; tokens_are = found.2; given_are = refl };
          numbers_are = refl;
        },
      )

  hover_of : (g : Grammar) → IsGrammar g → (range : Range) (rule : Option ℕ) → IfSome rule (λ r. r < length g.rules) → (hover : HoverText) × IsHoverOfRule g.rules range rule hover
  hover_of g right range None known =
      (record { range = range; text = codes "undefined"; example = None }, record { range_is = refl; text = refl; example = refl })
  hover_of g right range (Some r) known =
      let s = some_shown g right r known in
      let cert = certificate_of g right in
      (record { range = range; text = shown_text s.0; example = Some (s.0, cert.0) }, record { range_is = refl; text = (s.0, s.1, refl); example = (s.1, cert.1) })

  hover_at : (g : Grammar) → IsGrammar g → (o : Option Named) → (hover : Option HoverText) × IsHoverAt encoding g o hover
  hover_at g right None = (None, refl)
  hover_at g right (Some n) =
      let hover = hover_of g right (place_range (units encoding) g.text n.place) (rule_number g.names (lowercase n.text)) (rule_within g right (lowercase n.text)) in
      (Some hover.0, hover.1)

  hover : (text : List ℕ) (at : Position) → length text < 2 ^ 62 → (hover : Option HoverText) × IsHover encoding text at hover
  hover text at small =
      let g = some_grammar text small in
      let shown = hover_at g.0 g.2 (name_at encoding g.0 at) in
      (shown.0, record { grammar = g.0; of_text = g.1; right = g.2; shown = shown.1 })

  diagnostics : (text : List ℕ) → length text < 2 ^ 62 → (found : List Diagnostic) × AreDiagnostics encoding text found
  diagnostics text small =
      let found = some_findings text small in
      (map (diagnostic_of encoding text) found.0, record { findings = found.0; of_text = found.1; diagnostics_are = refl })

  pub some_answer : (text : List ℕ) (question : Ask) → length text < 2 ^ 62 → (a : Answer) × IsAnswerInGrammar encoding text question a
  some_answer text (ask.Hover at) small = let found = hover text at small in (answer.Hover found.0, found.1)
  some_answer text (ask.Definition at) small = let found = places Definitions text at small in (answer.Places found.0, found.1)
  some_answer text (ask.References at declarations) small = let found = places (wanted_with declarations) text at small in (answer.Places found.0, found.1)
  some_answer text (ask.Rename at new) small = rename text at new small
  some_answer text (ask.Action range) small = let found = insertion text range small in (answer.Insert found.0, found.1)
  some_answer text ask.Tokens small = let found = tokens text small in (answer.Numbers found.0, found.1)
  some_answer text ask.Symbols small = let found = outline text small in (answer.Symbols found.0, found.1)
  some_answer text ask.Diagnose small = let found = diagnostics text small in (answer.Findings found.0, found.1)
