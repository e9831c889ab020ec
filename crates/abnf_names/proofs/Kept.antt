-- What a grammar's fields hold once they were made.
use Rattle.std.proofs.Common.{◌≡◌, ℕ, List, [], ◌∷◌, map, length, sym, ap, subst, ◌∙◌}
use Rattle.std.specs.Prelude.{All, fold, filter}
use Rattle.ls_text.specs.declared.position.Place.{Place}
use Rattle.abnf_syntax.specs.declared.fault.SyntaxFault.{SyntaxFault}
use Rattle.abnf_parts.specs.declared.node.Node.{Node}
use Rattle.abnf_parts.specs.declared.core_rule.Core.{Core}
use Rattle.abnf_names.specs.declared.grammar.Grammar.TheInside.{Inside}
use Rattle.abnf_parts.specs.Part.{Part}
use Rattle.abnf_parts.specs.Core.{core_rules, core_name, is_needed}
use Rattle.abnf_parts.specs.CoreTable.{core_of}
use Rattle.abnf_names.specs.Said.{Block, BlockSays, AreWithin, AreSaid}
use Rattle.abnf_parts.specs.Names.{Name, all_names, names_beside, with_name}
use Rattle.abnf_names.specs.Places.{Named, named_at, places_of}
use Rattle.abnf_parts.specs.Nodes.{trees_at, AreNumbered}
use Rattle.abnf_parts.specs.Reach.{AreReaching}
use Rattle.abnf_names.specs.Rules.{defined, needed, undefined, names_of, rules_of, faults_of, Grammar}
use Rattle.abnf_names.specs.Sections.{AreSections}
use Rattle.abnf_names.specs.own.Passes.{stated, AreDefined, AreGrouped, AreNamesOfText, AreNames, AreRead, AreRulesOf, Grouped}
use Rattle.abnf_names.specs.declared.text_names.NamesOfText.{NamesOfText}
use Rattle.abnf_names.specs.declared.section.Section.{Section}
use Rattle.abnf_token.specs.Classes.{Text}
use Rattle.abnf_syntax.specs.Blocks.{line_texts}
use Rattle.abnf_names.specs.declared.section.Listed.{Listed}
use Rattle.std.proofs.lemmas.List.Elements.{All-cons, All-nil}
use Rattle.abnf_names.specs.declared.rules.Rules.{Rules}
use Rattle.abnf_names.specs.Excerpts.{excerpt, excerpt_of}
use Rattle.abnf_names.specs.own.Inside.{IsGrammarInside}
use Rattle.abnf_parts.specs.Pushed.{AddsTrees}
use Rattle.abnf_parts.proofs.ApartLaws.{map_both, needed_names}
use Rattle.abnf_names.proofs.NeededPass.{needed_all}
use Rattle.abnf_names.proofs.RulePass.{names_are}
use Rattle.abnf_names.proofs.OwnPass.{grouped_defined}
use Rattle.abnf_names.proofs.Closed.{rules_closed}
use Rattle.abnf_names.proofs.OneGrammar.{one_defined}
use Rattle.abnf_parts.proofs.Tied.{tied, IsTied}

pub same_grammar : (text : List ℕ) (names ns : List Name) (rules rs : List Part) (places ps : List Named) (faults fs : List (Place × SyntaxFault)) → names ≡ ns → rules ≡ rs → places ≡ ps → faults ≡ fs →
    (let g : Grammar = record { text = text; names = names; rules = rules; places = places; faults = faults } in g) ≡ (let g : Grammar = record { text = text; names = ns; rules = rs; places = ps; faults = fs } in g)
same_grammar text names ns rules rs places ps faults fs n r p f =
    ap (λ x. record { text = text; names = x; rules = rules; places = places; faults = faults }) n
    ∙ (ap (λ x. record { text = text; names = ns; rules = x; places = places; faults = faults }) r
    ∙ (ap (λ x. record { text = text; names = ns; rules = rs; places = x; faults = faults }) p
    ∙ ap (λ x. record { text = text; names = ns; rules = rs; places = ps; faults = x }) f))

-- what was pushed is numbered
pub numbered : (blocks : List Block) (nodes : List Node) (roots : List ℕ) → AddsTrees (rules_of blocks) [] nodes [] roots → AreNumbered nodes roots
numbered blocks nodes roots added = (tied (rules_of blocks) nodes roots added (rules_closed blocks)).numbered

-- what is said of the blocks of a text
pub each_says : (ls : List Text) (bounds : List (ℕ × ℕ)) (blocks : List Block) → AreWithin ls bounds blocks → All (λ block. BlockSays block.items block.said) blocks
each_says ls [] [] h = All-nil (λ block. BlockSays block.items block.said)
each_says ls [] (block ∷ blocks) h = absurd h
each_says ls (b ∷ bounds) [] h = absurd h
each_says ls (b ∷ bounds) (block ∷ blocks) h = All-cons (λ block. BlockSays block.items block.said) block blocks h.0.says (each_says ls bounds blocks h.1)

-- sections in which the names stand at these places
pub read : (text : List ℕ) (sections given : List Section) (places : NamesOfText) (h : AreSections text sections) → given ≡ sections →
    ((blocks : List Block) → map excerpt given ≡ map excerpt_of blocks → AreNamesOfText blocks places) → AreRead given places h.blocks
read text sections given places h same found =
    let excerpts : map excerpt given ≡ map excerpt_of h.blocks = ap (map excerpt) same ∙ h.excerpts in
    record { says = each_says (line_texts text) h.of_text.bounds h.blocks h.of_text.each; excerpts = excerpts; places = found h.blocks excerpts }

-- names that were parted from what stands beside them
pub defined_parts : (blocks : List Block) (groups : Grouped Listed) (own names : List Name) (members given : List (List Listed)) → All (λ block. BlockSays block.items block.said) blocks → AreGrouped (map excerpt_of blocks) groups →
    own ≡ groups.0 → members ≡ groups.1 → length groups.0 ≡ length groups.1 → names ≡ own → given ≡ members → AreDefined blocks names given
defined_parts blocks groups own names members given says are o m l n g =
    subst (λ ns. AreDefined blocks ns given) (sym (n ∙ o)) (subst (λ ms. AreDefined blocks groups.0 ms) (sym (g ∙ m)) (record { says = says; groups = are; beside = l }))

-- what was pushed by these parts are the rules of the blocks
pub rules_added : (sections : List Section) (places : NamesOfText) (blocks : List Block) (groups : Grouped Listed) (own : List Name) (members given : List (List Listed)) (names : List Name × List Name) (listed cores : List Core) (nodes : List Node) (roots : List ℕ)
    → AreRead sections places blocks → AreGrouped (map excerpt sections) groups → own ≡ groups.0 → members ≡ groups.1 → length groups.0 ≡ length groups.1 → given ≡ members → listed ≡ cores
    → ((blocks : List Block) → own ≡ defined blocks → AreNamesOfText blocks places → AreNames blocks names × (map core_of cores ≡ needed blocks))
    → ((blocks : List Block) → AreDefined blocks names.0 given → AreNames blocks names → map core_of listed ≡ needed blocks → AddsTrees (rules_of blocks) [] nodes [] roots)
    → AreNames blocks names × AddsTrees (rules_of blocks) [] nodes [] roots
rules_added sections places blocks groups own members given names listed cores nodes roots read grouped o m l g k named adds =
    let are : AreGrouped (map excerpt_of blocks) groups = subst (λ seen. AreGrouped seen groups) read.excerpts grouped in
    let own_is : own ≡ defined blocks = o ∙ grouped_defined blocks groups are in
    let names_are = named blocks own_is read.places in
    (names_are.0, adds blocks (defined_parts blocks groups own names.0 members given read.says are o m l (names_are.0.own ∙ sym own_is) g) names_are.0 (ap (map core_of) k ∙ names_are.1))

-- the rules with what leads to an opaque part
pub rules_made : (rules : Rules) (blocks : List Block) (ns : List Node) (ts : List ℕ) → AreNames blocks rules.names × AddsTrees (rules_of blocks) [] rules.nodes.items [] rules.roots.items → ns ≡ rules.nodes.items → ts ≡ rules.roots.items →
    AreReaching (trees_at ns ts) rules.opaque.items → AreRulesOf blocks rules
rules_made rules blocks ns ts added nodes_from roots_from reaching = record {
  names = added.0;
  nodes = added.1;
  reaching =
      subst (λ (ns : List Node). AreReaching (trees_at ns rules.roots.items) rules.opaque.items) nodes_from
      (subst (λ (ts : List ℕ). AreReaching (trees_at ns ts) rules.opaque.items) roots_from reaching);
}

pub kept : (g : Inside) (blocks : List Block) → AreSaid g.source.now blocks → AreNames blocks g.names → AddsTrees (rules_of blocks) [] g.nodes.items [] g.roots.items →
    map named_at g.spots ≡ places_of blocks → g.faults ≡ faults_of blocks → AreReaching (trees_at g.nodes.items g.roots.items) g.opaque.items → map excerpt g.sections ≡ map excerpt_of blocks → IsGrammarInside g
kept g blocks said are added places faults reaching excerpts =
    let t : IsTied (rules_of blocks) g.nodes.items g.roots.items = tied (rules_of blocks) g.nodes.items g.roots.items added (rules_closed blocks) in
    let same = same_grammar g.source.now (all_names g.names) (names_of blocks) (trees_at g.nodes.items g.roots.items) (rules_of blocks) (map named_at g.spots) (places_of blocks) g.faults (faults_of blocks)
    (sym (names_are blocks g.names are)) t.back places faults in
    record {
      numbered = t.numbered;
      is_grammar = record { blocks = blocks; of_text = said; is = same };
      own = λ others said_too. are.own ∙ one_defined g.source.now blocks others said said_too;
      reaching = reaching;
      sections = record { blocks = blocks; of_text = said; is = same; excerpts = excerpts };
    }

-- the names of the rules, by the passes that made them
pub names_made : (blocks : List Block) (own names core : List Name) (cores : List Core) → own ≡ defined blocks → names ≡ stated (places_of blocks) →
    map core_of cores ≡ filter (is_needed (names_beside own names)) core_rules → core ≡ fold with_name [] (map (λ c. core_name (core_of c)) cores) →
    AreNames blocks (own, core) × (map core_of cores ≡ needed blocks)
names_made blocks own names core cores o s n c =
    let all : map core_of cores ≡ needed blocks = n ∙ needed_all own names blocks o s in (
      record {
        own = o;
        core = c ∙ (ap (fold with_name []) (map_both core_name core_of cores ∙ ap (map core_name) all) ∙ needed_names (is_needed (undefined blocks)));
      },
      all,
    )
