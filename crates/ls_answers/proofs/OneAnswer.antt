-- A question about a text has one answer, but for the certificate beside an example.
use Rattle.std.proofs.Common.{◌≡◌, ℕ, Bool, List, [], ◌∷◌, map, Option, Some, None, option_map, refl, sym, ap, subst, ◌∙◌}
use Rattle.std.specs.Prelude.{All, filter}
use Rattle.std.specs.List.{cons_option}
use Rattle.std.proofs.lemmas.List.Elements.{All-head, All-tail}
use Rattle.ls_text.specs.Lines.{units}
use Rattle.ls_text.specs.Positions.{place_range}
use Rattle.ls_text.specs.declared.position.Position.{Position}
use Rattle.ls_text.specs.declared.position.Range.{Range}
use Rattle.ls_text.specs.declared.position.Encoding.{Encoding}
use Rattle.abnf_token.specs.Classes.{Text}
use Rattle.abnf_syntax.specs.declared.block.Block.{Block}
use Rattle.abnf_syntax.specs.declared.block.Head.{Head}
use Rattle.abnf_syntax.specs.declared.item.Item.{Item}
use Rattle.abnf_syntax.specs.Blocks.{line_texts}
use Rattle.abnf_syntax.specs.Bounds.{bounds}
use Rattle.abnf_syntax.specs.Faults.{last_of}
use Rattle.abnf_syntax.specs.Heads.{head_of}
use Rattle.abnf_syntax.specs.Items.{AreItems}
use Rattle.abnf_syntax.proofs.Bare.{bare, bare_head, head_bare, one_list, same_items}
use Rattle.abnf_syntax.proofs.Cons.{cons_same}
use Rattle.abnf_token.specs.Folded.{lowercase}
use Rattle.abnf_parts.specs.Names.{rule_number}
use Rattle.abnf_parts.specs.Part.{Part}
use Rattle.abnf_names.specs.Places.{Named}
use Rattle.abnf_names.specs.Rules.{Grammar}
use Rattle.abnf_names.proofs.OneGrammar.{one_grammar}
use Rattle.abnf_cert.specs.declared.entry.Entry.{Entry}
use Rattle.abnf_least.specs.declared.shortest.Shortest.{Shortest}
use Rattle.abnf_least.specs.declared.shortest.Shortest.TheVariants.{Shown, Long, Huge, Nothing, NotKnown}
use Rattle.abnf_least.proofs.OneShown.{one_shown}
use Rattle.abnf_lint.proofs.Ascends.{rows_unique}
use Rattle.ls_answers.specs.declared.answer.Diagnostic.{Diagnostic}
use Rattle.ls_answers.specs.declared.answer.HoverText.{HoverText}
use Rattle.ls_answers.specs.Diagnostics.{AreDiagnostics, diagnostic_of}
use Rattle.ls_answers.specs.Hovers.{IsExample, IsHover, IsHoverAt, IsHoverOfRule}
use Rattle.ls_answers.proofs.HoverTexts.{one_hover_text}
use Rattle.ls_answers.specs.declared.answer.Symbol.{Symbol}
use Rattle.ls_answers.specs.declared.answer.Answer.{Answer}
use Rattle.ls_answers.specs.declared.answer.Answer.TheVariants as answer
use Rattle.ls_answers.specs.declared.ask.Ask.{Ask}
use Rattle.ls_answers.specs.declared.ask.Ask.TheVariants as ask
use Rattle.ls_answers.specs.Outline.{symbol_with, symbol_of, IsOutline}
use Rattle.ls_answers.proofs.Outlines.{outline}
use Rattle.ls_answers.specs.Insertions.{IsComment, IsInsertedBefore, IsInsertion, IsInsertionBy, IsInsertionThere, first_head, name_at_start}
use Rattle.ls_answers.specs.Places.{AreDefinitions, ArePlaces, AreReferences, name_at, name_range, places_alike, wanted_with}
use Rattle.ls_answers.specs.Renames.{IsRename, rename_fault, rename_answer}
use Rattle.ls_answers.specs.SemanticTokens.{AreSemanticTokens}
use Rattle.ls_answers.specs.declared.answer.Insertion.{Insertion}
use Rattle.abnf_places.specs.declared.wanted.Wanted.{Wanted}
use Rattle.abnf_places.specs.declared.wanted.Wanted.TheVariants.{Definitions}
use Rattle.abnf_places.specs.Wanted.{is_wanted}
use Rattle.ls_answers.proofs.OneList.{one_list_of_numbers}
use Rattle.ls_answers.specs.Answers.{hover_without_cert, insertion_without_cert, without_cert}
use Rattle.ls_answers.specs.InGrammars.{IsAnswerInGrammar}

module _ (encoding : Encoding) where
  -- ---- outlines

  abbrev bare_block : Block → Block
  bare_block block = record { first = block.first; end = block.end; items = map bare block.items }

  last_bare : (last : Item) (xs : List Item) → last_of (bare last) (map bare xs) ≡ bare (last_of last xs)
  last_bare last [] = refl
  last_bare last (x ∷ xs) = last_bare x xs

  symbol_by : (text : List ℕ) (first last : Item) (o : Option Head) → option_map (symbol_with encoding text (bare first) (bare last)) (option_map bare_head o) ≡ option_map (symbol_with encoding text first last) o
  symbol_by text first last None = refl
  symbol_by text first last (Some head) = refl

  symbol_bare : (text : List ℕ) (xs : List Item) → symbol_of encoding text (map bare xs) ≡ symbol_of encoding text xs
  symbol_bare text [] = refl
  symbol_bare text (x ∷ xs) =
      (λ i. option_map (symbol_with encoding text (bare x) (last_bare x xs i)) (head_bare (x ∷ xs) i))
      ∙ symbol_by text x (last_of x xs) (head_of (x ∷ xs))

  symbols_bare : (text : List ℕ) (blocks : List Block) → outline encoding text (map bare_block blocks) ≡ outline encoding text blocks
  symbols_bare text [] = refl
  symbols_bare text (block ∷ blocks) = (λ i. cons_option (symbol_bare text block.items i) (symbols_bare text blocks i))

  abbrev HasItems : List Text → Block → Type 0
  HasItems ls block = AreItems ls block.first block.end block.items

  same_block : (ls : List Text) (b c : Block) → bounds b ≡ bounds c → HasItems ls b → HasItems ls c → bare_block b ≡ bare_block c
  same_block ls b c e p q =
      let first : b.first ≡ c.first = ap (λ (n : ℕ × ℕ). n.0) e in
      let end : b.end ≡ c.end = ap (λ (n : ℕ × ℕ). n.1) e in
      let there : AreItems ls b.first b.end c.items = subst (λ (n : ℕ × ℕ). AreItems ls n.0 n.1 c.items) (sym e) q in
      let items_are = same_items ls b.first b.end b.items c.items p there in
      (λ i. record { first = first i; end = end i; items = items_are i })

  same_blocks : (ls : List Text) (bs cs : List Block) → map bounds bs ≡ map bounds cs → All (HasItems ls) bs → All (HasItems ls) cs → map bare_block bs ≡ map bare_block cs
  same_blocks ls [] [] e p q = refl
  same_blocks ls [] (c ∷ cs) e p q = absurd (cc)
  same_blocks ls (b ∷ bs) [] e p q = absurd (cc)
  same_blocks ls (b ∷ bs) (c ∷ cs) e p q =
      let h = cons_same e in
      (λ i. same_block ls b c h.0 (All-head (HasItems ls) b bs p) (All-head (HasItems ls) c cs q) i
      ∷ same_blocks ls bs cs h.1 (All-tail (HasItems ls) b bs p) (All-tail (HasItems ls) c cs q) i)

  one_outline : (text : List ℕ) (xs ys : List Symbol) → IsOutline encoding text xs → IsOutline encoding text ys → xs ≡ ys
  one_outline text xs ys p q =
      let ls = line_texts text in
      let blocks_are = same_blocks ls p.blocks q.blocks (one_list ls 0 (map bounds p.blocks) (map bounds q.blocks) p.all q.all) p.items q.items in
      p.symbols_are ∙ (sym (symbols_bare text p.blocks) ∙ (ap (outline encoding text) blocks_are ∙ (symbols_bare text q.blocks ∙ sym q.symbols_are)))

  -- ---- places

  one_list_of_places : (wanted : Wanted) (text : List ℕ) (at : Position) (xs ys : List Range) → ArePlaces encoding wanted text at xs → ArePlaces encoding wanted text at ys → xs ≡ ys
  one_list_of_places wanted text at xs ys p q =
      let same = one_grammar p.grammar q.grammar p.right q.right (p.of_text ∙ sym q.of_text) in
      p.ranges_are
      ∙ (ap (λ (g : Grammar). map (name_range encoding text) (filter (λ (named : Named). is_wanted wanted named.defines) (places_alike g (name_at encoding g at)))) same
      ∙ sym q.ranges_are)

  -- ---- hovers

  -- an example but for its certificate
  abbrev bare_example : Option (Shortest × List Entry) → Option (Shortest × List Entry)
  bare_example = option_map (λ e. (e.0, []))

  one_example : (roots : List Part) (rule : Option ℕ) (a b : Option (Shortest × List Entry)) → IsExample roots rule a → IsExample roots rule b → bare_example a ≡ bare_example b
  one_example roots None a b p q = ap bare_example (p ∙ sym q)
  one_example roots (Some r) None b p q = absurd p
  one_example roots (Some r) (Some a) None p q = absurd q
  one_example roots (Some r) (Some a) (Some b) p q = ap (λ (s : Shortest). Some (s, [])) (one_shown roots r a.0 b.0 p.0 q.0)

  one_hover_of : (roots : List Part) (range : Range) (rule : Option ℕ) (a b : HoverText) → IsHoverOfRule roots range rule a → IsHoverOfRule roots range rule b
      → hover_without_cert a ≡ hover_without_cert b
  one_hover_of roots range rule a b p q =
      let ranges = p.range_is ∙ sym q.range_is in
      let texts = one_hover_text roots rule a.text b.text p.text q.text in
      let examples = one_example roots rule a.example b.example p.example q.example in
      (λ i. record { range = ranges i; text = texts i; example = examples i })

  one_hover_at : (g : Grammar) (o : Option Named) (a b : Option HoverText) → IsHoverAt encoding g o a → IsHoverAt encoding g o b → option_map hover_without_cert a ≡ option_map hover_without_cert b
  one_hover_at g None a b p q = ap (option_map hover_without_cert) (p ∙ sym q)
  one_hover_at g (Some n) None b p q = absurd p
  one_hover_at g (Some n) (Some a) None p q = absurd q
  one_hover_at g (Some n) (Some a) (Some b) p q = ap Some (one_hover_of g.rules (place_range (units encoding) g.text n.place) (rule_number g.names (lowercase n.text)) a b p q)

  one_hover : (text : List ℕ) (at : Position) (a b : Option HoverText) → IsHover encoding text at a → IsHover encoding text at b → option_map hover_without_cert a ≡ option_map hover_without_cert b
  one_hover text at a b p q =
      let same = one_grammar p.grammar q.grammar p.right q.right (p.of_text ∙ sym q.of_text) in
      let P : Grammar → Type 0 = λ g. IsHoverAt encoding g (name_at encoding g at) a in
      one_hover_at q.grammar (name_at encoding q.grammar at) a b (subst P same p.shown) q.shown

  -- ---- renames

  one_rename : (text : List ℕ) (at : Position) (new : List ℕ) (a b : Answer) → IsRename encoding text at new a → IsRename encoding text at new b → a ≡ b
  one_rename text at new a b p q =
      let same = one_grammar p.grammar q.grammar p.right q.right (p.of_text ∙ sym q.of_text) in
      p.answer_is ∙ (ap (λ (g : Grammar). rename_answer encoding g at new (rename_fault encoding g at new)) same ∙ sym q.answer_is)

  -- ---- insertions

  one_comment : (roots : List Part) (line : ℕ) (example : List ℕ) (a b : Insertion) → IsComment roots line example a → IsComment roots line example b
      → insertion_without_cert a ≡ insertion_without_cert b
  one_comment roots line example a b p q =
      let positions = p.position_is ∙ sym q.position_is in
      let texts = p.text_is ∙ sym q.text_is in
      (λ i. record { position = positions i; text = texts i; cert = [] })

  one_before : (roots : List Part) (line : ℕ) (shown : Shortest) (a b : Option Insertion) → IsInsertedBefore roots line shown a → IsInsertedBefore roots line shown b
      → option_map insertion_without_cert a ≡ option_map insertion_without_cert b
  one_before roots line (Shown n example) None b p q = absurd p
  one_before roots line (Shown n example) (Some a) None p q = absurd q
  one_before roots line (Shown n example) (Some a) (Some b) p q = ap Some (one_comment roots line example a b p q)
  one_before roots line (Long n) a b p q = ap (option_map insertion_without_cert) (p ∙ sym q)
  one_before roots line Huge a b p q = ap (option_map insertion_without_cert) (p ∙ sym q)
  one_before roots line Nothing a b p q = ap (option_map insertion_without_cert) (p ∙ sym q)
  one_before roots line NotKnown a b p q = ap (option_map insertion_without_cert) (p ∙ sym q)

  one_by : (g : Grammar) (head : Option Named) (rule : Option ℕ) (a b : Option Insertion) → IsInsertionBy encoding g head rule a → IsInsertionBy encoding g head rule b
      → option_map insertion_without_cert a ≡ option_map insertion_without_cert b
  one_by g None rule a b p q = ap (option_map insertion_without_cert) (p ∙ sym q)
  one_by g (Some head) None a b p q = ap (option_map insertion_without_cert) (p ∙ sym q)
  one_by g (Some head) (Some r) a b p q =
      let line = (name_range encoding g.text head).start.line in
      let P : Shortest → Type 0 = λ shown. IsInsertedBefore g.rules line shown a in
      one_before g.rules line q.0 a b (subst P (one_shown g.rules r p.0 q.0 p.1 q.1) p.2) q.2

  one_there : (g : Grammar) (o : Option Named) (a b : Option Insertion) → IsInsertionThere encoding g o a → IsInsertionThere encoding g o b
      → option_map insertion_without_cert a ≡ option_map insertion_without_cert b
  one_there g None a b p q = ap (option_map insertion_without_cert) (p ∙ sym q)
  one_there g (Some n) a b p q = one_by g (first_head g (lowercase n.text)) (rule_number g.names (lowercase n.text)) a b p q

  one_insertion : (text : List ℕ) (range : Range) (a b : Option Insertion) → IsInsertion encoding text range a → IsInsertion encoding text range b
      → option_map insertion_without_cert a ≡ option_map insertion_without_cert b
  one_insertion text range a b p q =
      let same = one_grammar p.grammar q.grammar p.right q.right (p.of_text ∙ sym q.of_text) in
      let P : Grammar → Type 0 = λ g. IsInsertionThere encoding g (name_at_start encoding g range) a in
      one_there q.grammar (name_at_start encoding q.grammar range) a b (subst P same p.inserted) q.inserted

  -- ---- findings

  one_list_of_findings : (text : List ℕ) (xs ys : List Diagnostic) → AreDiagnostics encoding text xs → AreDiagnostics encoding text ys → xs ≡ ys
  one_list_of_findings text xs ys p q =
      p.diagnostics_are ∙ (ap (map (diagnostic_of encoding text)) (rows_unique text p.findings q.findings p.of_text q.of_text) ∙ sym q.diagnostics_are)

  -- ---- the answers to each kind of question

  hover_answer : (text : List ℕ) (at : Position) (a : Answer) → IsAnswerInGrammar encoding text (ask.Hover at) a → (x : Option HoverText) × (a ≡ answer.Hover x) × IsHover encoding text at x
  hover_answer text at (answer.Hover hover) p = (hover, refl, p)
  hover_answer text at (answer.Places ranges) p = absurd p
  hover_answer text at (answer.Symbols symbols) p = absurd p
  hover_answer text at (answer.Edits ranges new) p = absurd p
  hover_answer text at (answer.Refused fault) p = absurd p
  hover_answer text at (answer.Insert insertion) p = absurd p
  hover_answer text at (answer.Numbers numbers) p = absurd p
  hover_answer text at (answer.Findings diagnostics) p = absurd p
  hover_answer text at (answer.Draft drafted) p = absurd p

  definitions_answer : (text : List ℕ) (at : Position) (a : Answer) → IsAnswerInGrammar encoding text (ask.Definition at) a → (x : List Range) × (a ≡ answer.Places x) × AreDefinitions encoding text at x
  definitions_answer text at (answer.Hover hover) p = absurd p
  definitions_answer text at (answer.Places ranges) p = (ranges, refl, p)
  definitions_answer text at (answer.Symbols symbols) p = absurd p
  definitions_answer text at (answer.Edits ranges new) p = absurd p
  definitions_answer text at (answer.Refused fault) p = absurd p
  definitions_answer text at (answer.Insert insertion) p = absurd p
  definitions_answer text at (answer.Numbers numbers) p = absurd p
  definitions_answer text at (answer.Findings diagnostics) p = absurd p
  definitions_answer text at (answer.Draft drafted) p = absurd p

  references_answer : (text : List ℕ) (at : Position) (declarations : Bool) (a : Answer) → IsAnswerInGrammar encoding text (ask.References at declarations) a → (x : List Range) × (a ≡ answer.Places x) × AreReferences encoding text at declarations x
  references_answer text at declarations (answer.Hover hover) p = absurd p
  references_answer text at declarations (answer.Places ranges) p = (ranges, refl, p)
  references_answer text at declarations (answer.Symbols symbols) p = absurd p
  references_answer text at declarations (answer.Edits ranges new) p = absurd p
  references_answer text at declarations (answer.Refused fault) p = absurd p
  references_answer text at declarations (answer.Insert insertion) p = absurd p
  references_answer text at declarations (answer.Numbers numbers) p = absurd p
  references_answer text at declarations (answer.Findings diagnostics) p = absurd p
  references_answer text at declarations (answer.Draft drafted) p = absurd p

  outline_answer : (text : List ℕ) (a : Answer) → IsAnswerInGrammar encoding text ask.Symbols a → (x : List Symbol) × (a ≡ answer.Symbols x) × IsOutline encoding text x
  outline_answer text (answer.Hover hover) p = absurd p
  outline_answer text (answer.Places ranges) p = absurd p
  outline_answer text (answer.Symbols symbols) p = (symbols, refl, p)
  outline_answer text (answer.Edits ranges new) p = absurd p
  outline_answer text (answer.Refused fault) p = absurd p
  outline_answer text (answer.Insert insertion) p = absurd p
  outline_answer text (answer.Numbers numbers) p = absurd p
  outline_answer text (answer.Findings diagnostics) p = absurd p
  outline_answer text (answer.Draft drafted) p = absurd p

  insertion_answer : (text : List ℕ) (range : Range) (a : Answer) → IsAnswerInGrammar encoding text (ask.Action range) a → (x : Option Insertion) × (a ≡ answer.Insert x) × IsInsertion encoding text range x
  insertion_answer text range (answer.Hover hover) p = absurd p
  insertion_answer text range (answer.Places ranges) p = absurd p
  insertion_answer text range (answer.Symbols symbols) p = absurd p
  insertion_answer text range (answer.Edits ranges new) p = absurd p
  insertion_answer text range (answer.Refused fault) p = absurd p
  insertion_answer text range (answer.Insert insertion) p = (insertion, refl, p)
  insertion_answer text range (answer.Numbers numbers) p = absurd p
  insertion_answer text range (answer.Findings diagnostics) p = absurd p
  insertion_answer text range (answer.Draft drafted) p = absurd p

  tokens_answer : (text : List ℕ) (a : Answer) → IsAnswerInGrammar encoding text ask.Tokens a → (x : List ℕ) × (a ≡ answer.Numbers x) × AreSemanticTokens encoding text x
  tokens_answer text (answer.Hover hover) p = absurd p
  tokens_answer text (answer.Places ranges) p = absurd p
  tokens_answer text (answer.Symbols symbols) p = absurd p
  tokens_answer text (answer.Edits ranges new) p = absurd p
  tokens_answer text (answer.Refused fault) p = absurd p
  tokens_answer text (answer.Insert insertion) p = absurd p
  tokens_answer text (answer.Numbers numbers) p = (numbers, refl, p)
  tokens_answer text (answer.Findings diagnostics) p = absurd p
  tokens_answer text (answer.Draft drafted) p = absurd p

  findings_answer : (text : List ℕ) (a : Answer) → IsAnswerInGrammar encoding text ask.Diagnose a → (x : List Diagnostic) × (a ≡ answer.Findings x) × AreDiagnostics encoding text x
  findings_answer text (answer.Hover hover) p = absurd p
  findings_answer text (answer.Places ranges) p = absurd p
  findings_answer text (answer.Symbols symbols) p = absurd p
  findings_answer text (answer.Edits ranges new) p = absurd p
  findings_answer text (answer.Refused fault) p = absurd p
  findings_answer text (answer.Insert insertion) p = absurd p
  findings_answer text (answer.Numbers numbers) p = absurd p
  findings_answer text (answer.Findings diagnostics) p = (diagnostics, refl, p)
  findings_answer text (answer.Draft drafted) p = absurd p

  -- ---- answers

  -- two answers of one kind are the same where what they hold is
  alike : {A : Type 0} (wrap : A → Answer) (a b : Answer) (x y : A) → a ≡ wrap x → b ≡ wrap y → without_cert (wrap x) ≡ without_cert (wrap y) → without_cert a ≡ without_cert b
  alike wrap a b x y p q e = ap without_cert p ∙ (e ∙ ap without_cert (sym q))

  pub one_answer : (text : List ℕ) (question : Ask) (a b : Answer) → IsAnswerInGrammar encoding text question a → IsAnswerInGrammar encoding text question b → without_cert a ≡ without_cert b
  one_answer text (ask.Hover at) a b p q =
      let x = hover_answer text at a p in
      let y = hover_answer text at b q in
      alike answer.Hover a b x.0 y.0 x.1 y.1 (ap answer.Hover (one_hover text at x.0 y.0 x.2 y.2))
  one_answer text (ask.Definition at) a b p q =
      let x = definitions_answer text at a p in
      let y = definitions_answer text at b q in
      alike answer.Places a b x.0 y.0 x.1 y.1 (ap answer.Places (one_list_of_places Definitions text at x.0 y.0 x.2 y.2))
  one_answer text (ask.References at declarations) a b p q =
      let x = references_answer text at declarations a p in
      let y = references_answer text at declarations b q in
      alike answer.Places a b x.0 y.0 x.1 y.1 (ap answer.Places (one_list_of_places (wanted_with declarations) text at x.0 y.0 x.2 y.2))
  one_answer text ask.Symbols a b p q =
      let x = outline_answer text a p in
      let y = outline_answer text b q in
      alike answer.Symbols a b x.0 y.0 x.1 y.1 (ap answer.Symbols (one_outline text x.0 y.0 x.2 y.2))
  one_answer text (ask.Rename at new) a b p q = ap without_cert (one_rename text at new a b p q)
  one_answer text (ask.Action range) a b p q =
      let x = insertion_answer text range a p in
      let y = insertion_answer text range b q in
      alike answer.Insert a b x.0 y.0 x.1 y.1 (ap answer.Insert (one_insertion text range x.0 y.0 x.2 y.2))
  one_answer text ask.Tokens a b p q =
      let x = tokens_answer text a p in
      let y = tokens_answer text b q in
      alike answer.Numbers a b x.0 y.0 x.1 y.1 (ap answer.Numbers (one_list_of_numbers encoding text x.0 y.0 x.2 y.2))
  one_answer text ask.Diagnose a b p q =
      let x = findings_answer text a p in
      let y = findings_answer text b q in
      alike answer.Findings a b x.0 y.0 x.1 y.1 (ap answer.Findings (one_list_of_findings text x.0 y.0 x.2 y.2))
