-- What a grammar's fields hold.
use Rattle.std.specs.Prelude.{◌≡◌, List, map}
use Rattle.abnf_parts.specs.Names.{all_names}
use Rattle.abnf_names.specs.Said.{Block, AreSaid}
use Rattle.abnf_names.specs.Rules.{Grammar, IsGrammar, defined}
use Rattle.abnf_parts.specs.Nodes.{trees_at, AreNumbered}
use Rattle.abnf_parts.specs.Reach.{AreReaching}
use Rattle.abnf_names.specs.Places.{named_at}
use Rattle.abnf_names.specs.Excerpts.{HasSections}
use Rattle.abnf_names.specs.declared.grammar.Grammar.TheInside.{Inside}

-- the grammar that the fields of the code hold
abbrev pub grammar_inside : Inside → Grammar
grammar_inside g = record {
  text = g.source.now;
  names = all_names g.names;
  rules = trees_at g.nodes.items g.roots.items;
  places = map named_at g.spots;
  faults = g.faults;
}

-- the fields hold the grammar of their text, and beside it which rules lead to an opaque part, and the text's blocks
pub record IsGrammarInside (g : Inside) : Type 0 where
  pub numbered : AreNumbered g.nodes.items g.roots.items
  pub is_grammar : IsGrammar (grammar_inside g)
  pub own : (blocks : List Block) → AreSaid g.source.now blocks → g.names.0 ≡ defined blocks
  pub reaching : AreReaching (trees_at g.nodes.items g.roots.items) g.opaque.items
  pub sections : HasSections (grammar_inside g) g.sections
