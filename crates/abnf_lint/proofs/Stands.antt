-- What is found in a text is what the rows of the table say of its blocks.
use Rattle.std.proofs.Common.{◌≡◌, ◌<◌, ℕ, Bool, List, [], ◌∷◌, ◌++◌, inl, inr, length, refl, sym, ap, subst, append-nil, append_assoc}
use Rattle.std.specs.Prelude.{◌↔◌, Contains, Some, IfSome}
use Rattle.std.proofs.lemmas.List.Elements.{Contains-append_cases, Contains-append_left, Contains-append_right}
use Rattle.std.proofs.lemmas.List.Sorted.{Contains-permutation, IsPermutation-sym}
use Rattle.abnf_token.specs.Classes.{Text}
use Rattle.abnf_syntax.specs.Blocks.{line_texts}
use Rattle.abnf_parts.specs.Part.{Part}
use Rattle.abnf_parts.specs.Names.{Name, rule_number}
use Rattle.abnf_names.specs.Said.{AreSaid, AreWithin, Block, BlockSays}
use Rattle.abnf_names.specs.Excerpts.{excerpt_of}
use Rattle.abnf_names.specs.Rules.{Grammar, IsGrammar, defined, grammar_of, names_of, rules_of}
use Rattle.abnf_names.proofs.OneGrammar.{one_grammar}
use Rattle.abnf_names.proofs.Within.{rule_within}
use Rattle.abnf_lint.specs.declared.finding.Finding.{Finding}
use Rattle.abnf_lint.specs.Unproductive.{AreUnproductive}
use Rattle.abnf_lint.specs.own.Findings.{AreFindings, based, block_findings, findings_after, findings_in}
use Rattle.abnf_lint.specs.Rows.{RowStands}
use Rattle.abnf_lint.proofs.Exist.{some_order}
use Rattle.abnf_lint.proofs.Member.{none_in}
use Rattle.abnf_lint.proofs.OneFinding.{findings_unique}
use Rattle.abnf_lint.proofs.RowsTold.{found_holds}

-- ---- in one of the blocks

module _ (marks : List Bool) (names : List Name) (f : Finding) where
  abbrev InBlock : List Block → Block → Type 0
  InBlock before block = Contains (block_findings marks names (defined before) (based before) (excerpt_of block)) f

  abbrev InSome : List Block → Type 0
  InSome blocks = (before : List Block) × (block : Block) × (after : List Block) × (blocks ≡ before ++ block ∷ after) × InBlock before block

  down : (before blocks : List Block) → Contains (findings_after marks names before blocks) f → InSome (before ++ blocks)
  down before [] h = none_in f h
  down before (b ∷ bs) h =
      elim (Contains-append_cases (block_findings marks names (defined before) (based before) (excerpt_of b)) (findings_after marks names (before ++ b ∷ []) bs) f h)
      [ inl x ↦ (before, b, bs, refl, x) | inr x ↦ subst InSome (append_assoc before (b ∷ []) bs) (down (before ++ b ∷ []) bs x) ]

  up : (before front : List Block) (block : Block) (after : List Block) → InBlock (before ++ front) block → Contains (findings_after marks names before (front ++ block ∷ after)) f
  up before [] block after h =
      Contains-append_left (block_findings marks names (defined before) (based before) (excerpt_of block)) (findings_after marks names (before ++ block ∷ []) after) f
      (subst (λ bs. InBlock bs block) (append-nil before) h)
  up before (b ∷ front) block after h =
      Contains-append_right (block_findings marks names (defined before) (based before) (excerpt_of b)) (findings_after marks names (before ++ b ∷ []) (front ++ block ∷ after)) f
      (up (before ++ b ∷ []) front block after (subst (λ bs. InBlock bs block) (sym (append_assoc before (b ∷ []) front)) h))

  in_some : (blocks : List Block) → Contains (findings_after marks names [] blocks) f ↔ InSome blocks
  in_some blocks = (down [] blocks, λ h. subst (λ bs. Contains (findings_after marks names [] bs) f) (sym h.3) (up [] h.0 h.1 h.2 h.4))

found_in_some : (text : List ℕ) (found : List Finding) (are : AreFindings text found) (f : Finding) → Contains found f ↔ InSome are.marks (names_of are.blocks) f are.blocks
found_in_some text found are f =
    let given = findings_in are.marks are.blocks in
    let some = in_some are.marks (names_of are.blocks) f are.blocks in
    (λ h. some.0 (Contains-permutation found given f (IsPermutation-sym given found are.ordered.all) h), λ h. Contains-permutation given found f are.ordered.all (some.1 h))

-- ---- what is known of a text's blocks

pub within_says : (ls : List Text) (bounds : List (ℕ × ℕ)) (before : List Block) (block : Block) (after : List Block) → AreWithin ls bounds (before ++ block ∷ after) → BlockSays block.items block.said
within_says ls [] [] block after h = absurd h
within_says ls (b ∷ bounds) [] block after h = h.0.says
within_says ls [] (c ∷ before) block after h = absurd h
within_says ls (b ∷ bounds) (c ∷ before) block after h = within_says ls bounds before block after h.1

said_of : (text : List ℕ) (blocks : List Block) → AreSaid text blocks → (before : List Block) (block : Block) (after : List Block) → blocks ≡ before ++ block ∷ after → BlockSays block.items block.said
said_of text blocks are before block after e = within_says (line_texts text) are.bounds before block after (subst (λ bs. AreWithin (line_texts text) are.bounds bs) e are.each)

is_grammar : (text : List ℕ) (blocks : List Block) → AreSaid text blocks → IsGrammar (grammar_of text blocks)
is_grammar text blocks are = record { blocks = blocks; of_text = are; is = refl }

in_range : (text : List ℕ) (blocks : List Block) → AreSaid text blocks → (n : Name) (r : ℕ) → rule_number (names_of blocks) n ≡ Some r → r < length (rules_of blocks)
in_range text blocks are n r e = subst (λ o. IfSome o (λ k. k < length (rules_of blocks))) e (rule_within (grammar_of text blocks) (is_grammar text blocks are) n)

-- ---- the rows

row_down : (text : List ℕ) (found : List Finding) (are : AreFindings text found) (f : Finding) → Contains found f → RowStands text f
row_down text found are f h =
    let some = (found_in_some text found are f).0 h in
    record {
      blocks = are.blocks;
      of_text = are.of_text;
      before = some.0;
      block = some.1;
      after = some.2;
      split = some.3;
      holds = (found_holds are.blocks some.0 some.1 are.marks are.are_marks (said_of text are.blocks are.of_text some.0 some.1 some.2 some.3) (in_range text are.blocks are.of_text) f).0 some.4;
    }

row_up : (text : List ℕ) (found : List Finding) (are : AreFindings text found) (f : Finding) → RowStands text f → Contains found f
row_up text found are f st =
    let one : grammar_of text are.blocks ≡ grammar_of text st.blocks =
    one_grammar (grammar_of text are.blocks) (grammar_of text st.blocks) (is_grammar text are.blocks are.of_text) (is_grammar text st.blocks st.of_text) refl in
    let marks : AreUnproductive (rules_of st.blocks) are.marks = subst (λ (rs : List Part). AreUnproductive rs are.marks) (ap (λ (g : Grammar). g.rules) one) are.are_marks in
    let order = some_order (findings_in are.marks st.blocks) in
    let other : AreFindings text order.0 = record { blocks = st.blocks; of_text = st.of_text; marks = are.marks; are_marks = marks; ordered = order.1 } in
    let here : InBlock are.marks (names_of st.blocks) f st.before st.block =
    (found_holds st.blocks st.before st.block are.marks marks (said_of text st.blocks st.of_text st.before st.block st.after st.split) (in_range text st.blocks st.of_text) f).1 st.holds in
    subst (λ (xs : List Finding). Contains xs f) (sym (findings_unique text found order.0 are other)) ((found_in_some text order.0 other f).1 (st.before, st.block, st.after, st.split, here))

pub stands_is : (text : List ℕ) (found : List Finding) → AreFindings text found → (f : Finding) → Contains found f ↔ RowStands text f
stands_is text found are f = (row_down text found are f, row_up text found are f)
