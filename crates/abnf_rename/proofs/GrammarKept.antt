-- A granted rename keeps the grammar.
use Rattle.std.proofs.Common.{◌≡◌, ℕ, true, List, [], ◌∷◌, sym, subst}
use Rattle.std.specs.List.{AllByRecursion}
use Rattle.abnf_token.specs.Classes.{Text, is_name}
use Rattle.abnf_syntax.specs.Blocks.{line_texts}
use Rattle.abnf_syntax.proofs.Bare.{one_list}
use Rattle.abnf_token.specs.Folded.{lowercase}
use Rattle.abnf_parts.specs.Core.{is_core_name}
use Rattle.abnf_parts.specs.Names.{Name}
use Rattle.abnf_names.specs.Said.{Block, AreWithin, AreSaid}
use Rattle.abnf_names.specs.Places.{places_in, places_of}
use Rattle.abnf_names.specs.Rules.{Grammar, grammar_of, IsGrammar}
use Rattle.abnf_rename.specs.Lines.{AreRenamedLines}
use Rattle.abnf_rename.specs.Rules.{IsGranted, AreSameRules}
use Rattle.abnf_rename.proofs.SaidLaws.{tells}
use Rattle.abnf_rename.proofs.LinesLaw.{blocks_are, items_kept}
use Rattle.abnf_rename.proofs.GrammarLaws.{Used, AreRenamedBlocks}
use Rattle.abnf_rename.proofs.Granted.{IsFreshPlace, fresh_places, fresh_names, used_in, heads_fresh, name_is_defined, all_front, all_back}
use Rattle.abnf_rename.proofs.RulesKept.{blocks_kept}

module _ (old : Name) (new : Text) (named : is_name new ≡ true) where
  within_kept : (ls ms : List Text) → AreRenamedLines old new ls ms → (bounds : List (ℕ × ℕ)) (bs cs : List Block) → AreWithin ls bounds bs → AreWithin ms bounds cs →
      AllByRecursion (IsFreshPlace old new) (places_of bs) → AreRenamedBlocks old new bs cs
  within_kept ls ms h [] [] [] p q a = tt
  within_kept ls ms h [] [] (c ∷ cs) p q a = absurd q
  within_kept ls ms h [] (b ∷ bs) cs p q a = absurd p
  within_kept ls ms h (at ∷ bounds) [] cs p q a = absurd p
  within_kept ls ms h (at ∷ bounds) (b ∷ bs) [] p q a = absurd q
  within_kept ls ms h (at ∷ bounds) (b ∷ bs) (c ∷ cs) p q a =
      let items = items_kept old new named ls ms h at.0 at.1 b.items c.items p.0.items q.0.items in (
        record {
          items = items;
          tells = tells old new (Used old new) b.items c.items b.said c.said items (used_in old new b.items (all_front (IsFreshPlace old new) (places_in b.items) (places_of bs) a)) p.0.says q.0.says;
        },
        within_kept ls ms h bounds bs cs p.1 q.1 (all_back (IsFreshPlace old new) (places_in b.items) (places_of bs) a),
      )

  said_kept : (text other : List ℕ) → AreRenamedLines old new (line_texts text) (line_texts other) → (bs cs : List Block) → AreSaid text bs → AreSaid other cs →
      AllByRecursion (IsFreshPlace old new) (places_of bs) → AreRenamedBlocks old new bs cs
  said_kept text other h bs cs p q a =
      let same : p.bounds ≡ q.bounds = one_list (line_texts other) 0 p.bounds q.bounds (blocks_are old new named (line_texts text) (line_texts other) h 0 p.bounds p.all) q.all in
      within_kept (line_texts text) (line_texts other) h p.bounds bs cs p.each (subst (λ b. AreWithin (line_texts other) b cs) (sym same) q.each) a

pub grammar_kept : (old : Name) (new : Text) (g h : Grammar) → IsGrammar g → IsGrammar h → IsGranted old new g → AreRenamedLines old new (line_texts g.text) (line_texts h.text) → AreSameRules old new g h
grammar_kept old new g h p q granted lines =
    let fresh : AllByRecursion (IsFreshPlace old new) (places_of p.blocks) =
    fresh_places old new (places_of p.blocks) (is_core_name (lowercase new)) (subst (λ (g : Grammar). IsGranted old new g) p.is granted).unused
    in
    let there = name_is_defined old p.blocks (subst (λ (g : Grammar). IsGranted old new g) p.is granted).defined in
    let blocks = said_kept old new granted.named g.text h.text lines p.blocks q.blocks p.of_text q.of_text fresh in
    subst (λ (x : Grammar). AreSameRules old new x h) (sym p.is)
    (subst (λ (y : Grammar). AreSameRules old new (grammar_of g.text p.blocks) y) (sym q.is)
    (blocks_kept old new p.blocks q.blocks blocks (heads_fresh old new p.blocks fresh) (fresh_names old new (places_of p.blocks) fresh) there g.text h.text))
