-- No text of a tree is longer than numbers of 64 bits count: it stands in a token, which isn't.
use Rattle.std.proofs.Common.{◌≤◌, ◌+◌, ℕ, zero, suc, Bool, true, false, List, [], ◌∷◌, map, take, drop, length, sym, subst, arith, if◌then◌else◌}
use Rattle.std.specs.Prelude.{◌==◌, Option, Some, None, flat_map, filter, Result, Ok, Err}
use Rattle.std.specs.List.{AllByRecursion, position_or_len}
use Rattle.abnf_token.specs.Classes.{base_of}
use Rattle.abnf_token.specs.declared.token.Token.{Token}
use Rattle.abnf_syntax.specs.declared.fault.SyntaxFault.{SyntaxFault}
use Rattle.abnf_syntax.specs.declared.tree.Rule.{Rule}
use Rattle.abnf_syntax.specs.declared.tree.Element.{out-Element}
use Rattle.abnf_syntax.specs.declared.tree.Element.TheOpen as e
use Rattle.abnf_syntax.specs.declared.tree.Repetition.{out-Repetition}
use Rattle.abnf_syntax.specs.Grammar.{Concatenation, Alternation, max_nesting}
use Rattle.abnf_parts.specs.Part.{Part, series, seq, alt, subparts, all_subparts, parts_of}
use Rattle.abnf_parts.specs.Leaf.{before, behind, number_part, numbers_from, is_separator, with_digit, span_of, has, repeated}
use Rattle.abnf_parts.specs.Tree.{ElementLayer, parts, join, element_part, repetition_part, concatenation_part, tree_inside}
use Rattle.abnf_parts.specs.Names.{Name, rule_number}
use Rattle.abnf_parts.specs.Core.{CoreRule, core_rules, is_needed}
use Rattle.abnf_parts.proofs.Closed.{all_both, all_filter, all_at}
use Rattle.abnf_parts.proofs.Pushing.{number_part_alone}
use Rattle.abnf_names.specs.Said.{Block}
use Rattle.abnf_names.specs.Rules.{Grammar, IsGrammar, rules_of, rule_tree, core_tree, core_number, names_of, defined, needed, counted, defines, undefined, said_alternatives, alternatives_said}
use Rattle.abnf_cert.specs.Accepted.{top}
use Rattle.abnf_least.proofs.Exist.{IsShort, AreShort}

take_short : (n : ℕ) (xs : List ℕ) → length (take n xs) ≤ length xs
take_short zero xs = omega arith
take_short (suc n) [] = omega arith
take_short (suc n) (x ∷ xs) = omega (arith, take_short n xs)

drop_short : (n : ℕ) (xs : List ℕ) → length (drop n xs) ≤ length xs
drop_short zero xs = omega arith
drop_short (suc n) [] = omega arith
drop_short (suc n) (x ∷ xs) = omega (arith, drop_short n xs)

between_short : (text : List ℕ) → length text ≤ top → length (before 0x22 (behind 0x22 text)) ≤ top
between_short text h =
    omega (arith, h, take_short (position_or_len (λ b. b == 0x22) (behind 0x22 text)) (behind 0x22 text), drop_short (position_or_len (λ b. b == 0x22) text + 1) text)

numbers_short : (base n : ℕ) (bs : List ℕ) → length (numbers_from base n bs) ≤ suc (length bs)
numbers_short base n [] = omega arith
numbers_short base n (b ∷ bs) = by (is_separator b) (numbers_short base 0 bs) (numbers_short base (with_digit base n b) bs)
  where
    by : (s : Bool) → length (numbers_from base 0 bs) ≤ suc (length bs) → length (numbers_from base (with_digit base n b) bs) ≤ suc (length bs)
        → length (if s then n ∷ numbers_from base 0 bs else numbers_from base (with_digit base n b) bs) ≤ suc (suc (length bs))
    by true more same = omega (arith, more)
    by false more same = omega (arith, same)

-- all texts in a tree
abbrev AllShort : List Part → Type 0
AllShort ps = AllByRecursion IsShort ps

abbrev IsShortTree : Part → Type 0
IsShortTree p = AllShort (subparts p)

side_short : (ps : List Part) → AllByRecursion IsShortTree ps → AllShort (all_subparts (parts ps))
side_short [] h = tt
side_short (p ∷ ps) h = all_both IsShort (subparts p) (all_subparts (parts ps)) h.0 (side_short ps h.1)

span_short : (ns : List ℕ) → IsShort (span_of ns)
span_short [] = tt
span_short (a ∷ []) = tt
span_short (a ∷ b ∷ ns) = tt

either_short : (b : Bool) (ns : List ℕ) → length ns ≤ top → IsShort (if b then span_of ns else series ns)
either_short true ns h = span_short ns
either_short false ns h = h

number_short : (text : List ℕ) → length text ≤ top → IsShort (number_part text)
number_short [] h = tt
number_short (a ∷ []) h = tt
number_short (a ∷ b ∷ digits) h = either_short (has 0x2D digits) (numbers_from (base_of b) 0 digits) (omega (arith, h, numbers_short (base_of b) 0 digits))

seq_short : (ps : List Part) → AllByRecursion IsShortTree ps → IsShortTree (join seq ps)
seq_short [] h = (tt, tt)
seq_short (p ∷ []) h = h.0
seq_short (p ∷ q ∷ ps) h = (tt, side_short (p ∷ q ∷ ps) h)

alt_short : (ps : List Part) → AllByRecursion IsShortTree ps → IsShortTree (join alt ps)
alt_short [] h = (tt, tt)
alt_short (p ∷ []) h = h.0
alt_short (p ∷ q ∷ ps) h = (tt, side_short (p ∷ q ∷ ps) h)

repeated_short : (repeat : Option Token) (p : Part) → IsShortTree p → IsShortTree (repeated repeat p)
repeated_short None p h = h
repeated_short (Some t) p h = (tt, h)

token_short : (t : Token) → length t.text.now ≤ top
token_short t = omega (arith, t.in_line)

module _ (number : Name → Option ℕ) where
  module _ (inner : Alternation → Part) (inner_short : (a : Alternation) → IsShortTree (inner a)) where
    element_short : (layer : ElementLayer) → IsShortTree (element_part number inner layer)
    element_short (e.Name t) = (tt, tt)
    element_short (e.Quoted t) = (between_short t.text.now (token_short t), tt)
    element_short (e.Number t) = subst AllShort (sym (number_part_alone t.text.now)) (number_short t.text.now (token_short t), tt)
    element_short (e.Prose t) = (tt, tt)
    element_short (e.Group a) = inner_short a
    element_short (e.Choice a) = (tt, inner_short a)

    repetitions_short : (c : Concatenation) → AllByRecursion IsShortTree (map (repetition_part number inner) c)
    repetitions_short [] = tt
    repetitions_short (r ∷ c) =
        (repeated_short (out-Repetition r).repeat (element_part number inner (out-Element (out-Repetition r).element)) (element_short (out-Element (out-Repetition r).element)), repetitions_short c)

    concatenations_short : (a : Alternation) → AllByRecursion IsShortTree (map (concatenation_part number inner) a)
    concatenations_short [] = tt
    concatenations_short (c ∷ a) = (seq_short (map (repetition_part number inner) c) (repetitions_short c), concatenations_short a)

  inside_short : (room : ℕ) (a : Alternation) → IsShortTree (tree_inside number room a)
  inside_short zero a = (tt, tt)
  inside_short (suc room) a = alt_short (map (concatenation_part number (tree_inside number room)) a) (concatenations_short (tree_inside number room) (inside_short room) a)

  said_short : (said : Result Rule SyntaxFault) → AllByRecursion IsShortTree (alternatives_said number said)
  said_short (Ok rule) = concatenations_short (tree_inside number max_nesting) (inside_short max_nesting) rule.body
  said_short (Err fault) = ((tt, tt), tt)

  blocks_short : (blocks : List Block) → AllByRecursion IsShortTree (flat_map (said_alternatives number) blocks)
  blocks_short [] = tt
  blocks_short (b ∷ blocks) = all_both IsShortTree (said_alternatives number b) (flat_map (said_alternatives number) blocks) (said_short b.said) (blocks_short blocks)

  own_short : (blocks : List Block) (names : List Name) → AllByRecursion IsShortTree (map (λ name. alt (parts (flat_map (said_alternatives number) (counted (filter (defines name) blocks))))) names)
  own_short blocks [] = tt
  own_short blocks (n ∷ names) =
      let said = counted (filter (defines n) blocks) in
      ((tt, side_short (flat_map (said_alternatives number) said) (blocks_short said)), own_short blocks names)

trees_short : (number : Name → Option ℕ) (cores : List CoreRule) → AllByRecursion (λ core. IsShortTree (core.tree number)) cores → AllByRecursion IsShortTree (map (λ core. core.tree number) cores)
trees_short number [] h = tt
trees_short number (c ∷ cores) h = (h.0, trees_short number cores h.1)

parts_short : (trees : List Part) → AllByRecursion IsShortTree trees → AllShort (parts_of trees)
parts_short [] h = tt
parts_short (p ∷ trees) h = all_both IsShort (subparts p) (parts_of trees) h.0 (parts_short trees h.1)

-- the texts of the core rules
one : 1 ≤ top
one = omega arith

cores_short : (number : Name → Option ℕ) → AllByRecursion (λ core. IsShortTree (core.tree number)) core_rules
cores_short number =
    ((tt, (tt, (tt, tt))), ((tt, (one, (one, tt))), ((tt, (tt, tt)), ((tt, (one, tt)), ((tt, (tt, (tt, (tt, tt)))), ((tt, (tt, (one, tt))), ((tt, (tt, tt)), ((tt, (one, tt)), ((tt, (tt, (one, (one, (one, (one, (one, (one, tt)))))))), ((tt, (one, tt)), ((tt, (one, tt)), ((tt, (tt, (tt, (tt, (tt, (tt, (tt, tt))))))), ((tt, (tt, tt)), ((tt, (one, tt)), ((tt, (tt, tt)), ((tt, (tt, (tt, tt))), tt))))))))))))))))

pub rules_short : (g : Grammar) → IsGrammar g → AreShort g.rules
rules_short g is =
    let blocks = is.blocks in
    let own = map (rule_tree blocks) (defined blocks) in
    let core = map (core_tree blocks) (needed blocks) in
    let all : AllShort (parts_of (rules_of blocks)) =
    parts_short (rules_of blocks)
    (all_both IsShortTree own core (own_short (rule_number (names_of blocks)) blocks (defined blocks))
    (trees_short (core_number blocks) (needed blocks)
    (all_filter (λ c. IsShortTree (c.tree (core_number blocks))) (is_needed (undefined blocks)) core_rules (cores_short (core_number blocks))))) in
    subst (λ (h : Grammar). AreShort h.rules) (sym is.is) (all_at IsShort (parts_of (rules_of blocks)) all)
