use Rattle.std.proofs.Common.{◌≡◌, ◌∙◌, ◌++◌, ◌∷◌, [], ◌<◌, ℕ, List, ap, length, subst, sym}
use Rattle.std.specs.Prelude.{All, Option, Some, None, option_map, slice_get}
use Rattle.std.specs.Option.{option_and_then}
use Rattle.abnf_syntax.specs.declared.block.Block.{Block}
use Rattle.abnf_token.specs.declared.folded.Folded.{Folded}
use Rattle.abnf_parts.specs.Names.{folded_text, rule_number}
use Rattle.joined_grammars.specs.declared.repeats.Repeat.{Repeat}
use Rattle.joined_grammars.specs.Repeats.{Definition, definition, repeat}
use Rattle.joined_grammars.specs.own.Firsts.{definition_at}
use Rattle.joined_grammars.proofs.RepeatLaws.{adds_first, adds_none, adds_one, definition_is, first_within, within_with}
use Rattle.joined_grammars.proofs.repeats.push_repeat.Goals as goal

-- the name that the block at a place defines
named : (blocks : List Block) (at : ℕ) (block : Block) (found o : Option Folded) → definition_at blocks at ≡ definition block → option_map folded_text found ≡ (definition block).name → found ≡ o
    → (definition_at blocks at).name ≡ option_map folded_text o
named blocks at block found o here defined is = ap (λ (d : Definition). d.name) here ∙ (sym defined ∙ ap (option_map folded_text) is)

pub returns-in_ok-push-clause-found : goal.returns-in_ok-push-clause-found
returns-in_ok-push-clause-found c before are =
    let blocks = c.args.blocks.now in
    let name = folded_text c.in-Some.name in
    let here = definition_is blocks c.args.at c.index-blocks-at.result c.requires.at c.index-blocks-at.is in
    let place : option_and_then (slice_get c.args.firsts.now) (rule_number c.args.names.now name) ≡ Some c.in-Some-2.first = sym c.in_ok-first.ensures.first ∙ c.in-Some-2.is in
    let within = first_within (length blocks) c.args.firsts.now (rule_number c.args.names.now name) c.in-Some-2.first c.requires.within place in
    let there = definition_is blocks c.in-Some-2.first c.index-blocks-first.result within c.index-blocks-first.is in
    let is = named blocks c.args.at c.index-blocks-at.result c.defined_name.result (Some c.in-Some.name) here c.defined_name.ensures c.in-Some.is in
    let item : c.repeat_of.result ≡ repeat (definition_at blocks c.in-Some-2.first) (definition_at blocks c.args.at) = c.repeat_of.ensures ∙ (λ i. repeat (sym there i) (sym here i)) in
    adds_one blocks c.args.at c.args.found.now c.args.names.now c.first_with.new.names c.args.firsts.now c.first_with.new.firsts before name is c.in_ok-first.ensures.tables are
    c.in-Some-2.first c.push.new.self (sym place) (c.in_ok-push.ensures.ok ∙ ap (λ (r : Repeat). c.args.found.now ++ r ∷ []) item)

pub returns-in_default-2-clause-within : goal.returns-in_default-2-clause-within
returns-in_default-2-clause-within c =
    subst (All (λ k. k < length c.args.blocks.now)) (sym c.in_ok-first.ensures.tables.places_are)
    (within_with (length c.args.blocks.now) (rule_number c.args.names.now (folded_text c.in-Some.name)) c.args.firsts.now c.args.at c.requires.within c.requires.at)

pub returns-in_default-2-clause-found : goal.returns-in_default-2-clause-found
returns-in_default-2-clause-found c before are =
    let blocks = c.args.blocks.now in
    let here = definition_is blocks c.args.at c.index-blocks-at.result c.requires.at c.index-blocks-at.is in
    let is = named blocks c.args.at c.index-blocks-at.result c.defined_name.result (Some c.in-Some.name) here c.defined_name.ensures c.in-Some.is in
    adds_first blocks c.args.at c.args.found.now c.args.names.now c.first_with.new.names c.args.firsts.now c.first_with.new.firsts before (folded_text c.in-Some.name) is c.in_ok-first.ensures.tables are
    (sym c.in_default-2.is ∙ c.in_ok-first.ensures.first)

pub returns-in_default-clause-found : goal.returns-in_default-clause-found
returns-in_default-clause-found c before are =
    let blocks = c.args.blocks.now in
    let here = definition_is blocks c.args.at c.index-blocks-at.result c.requires.at c.index-blocks-at.is in
    adds_none blocks c.args.at c.args.found.now c.args.names.now c.args.firsts.now before
    (named blocks c.args.at c.index-blocks-at.result c.defined_name.result None here c.defined_name.ensures c.in_default.is) are
