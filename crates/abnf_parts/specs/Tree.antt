-- The tree of an alternation.
use Rattle.std.specs.Prelude.{ℕ, zero, suc, List, [], ◌∷◌, map, Option, Some}
use Rattle.abnf_syntax.specs.declared.tree.Element.{Element, out-Element}
use Rattle.abnf_syntax.specs.declared.tree.Element.TheOpen as e
use Rattle.abnf_syntax.specs.declared.tree.Repetition.{Repetition, out-Repetition}
use Rattle.abnf_token.specs.Folded.{lowercase}
use Rattle.abnf_syntax.specs.Grammar.{Concatenation, Alternation, max_nesting}
use Rattle.abnf_parts.specs.Part.{Part, Parts, seq, alt, rep, ref, opaque, end, next}
use Rattle.abnf_parts.specs.Leaf.{quoted_part, number_part, repeated}

-- one level of an element, whose brackets hold alternations
abbrev pub ElementLayer : Type 0
ElementLayer = e.Element-F Element Repetition

-- a list of parts as a row of them
abbrev pub parts : List Part → Parts
parts [] = end
parts (p ∷ ps) = next p (parts ps)

-- what a list of parts stands for: one part is itself, several are joined
abbrev pub join : (Parts → Part) → List Part → Part
join several (p ∷ []) = p
join several ps = several (parts ps)

-- where `number` gives the rule that a name stands for, and `inner` the tree of an alternation in brackets
module _ (number : List ℕ → Option ℕ) (inner : Alternation → Part) where
  -- the part of an element
  abbrev pub element_part : ElementLayer → Part
  element_part (e.Name t) = ref t.text.now (number (lowercase t.text.now))
  element_part (e.Quoted t) = quoted_part t.text.now
  element_part (e.Number t) = number_part t.text.now
  element_part (e.Prose t) = opaque
  element_part (e.Group a) = inner a
  element_part (e.Choice a) = rep 0 (Some 1) (inner a)

  -- the part of a repetition
  abbrev pub repetition_part : Repetition → Part
  repetition_part r = let layer = out-Repetition r in repeated layer.repeat (element_part (out-Element layer.element))

  -- the part of a concatenation
  abbrev pub concatenation_part : Concatenation → Part
  concatenation_part c = join seq (map repetition_part c)

  -- the part of an alternation
  abbrev pub alternation_part : Alternation → Part
  alternation_part a = join alt (map concatenation_part a)

-- the tree of an alternation in brackets, which nest at most so deep; what nests deeper is opaque
abbrev pub tree_inside : (List ℕ → Option ℕ) → ℕ → Alternation → Part
tree_inside number zero a = opaque
tree_inside number (suc room) a = alternation_part number (tree_inside number room) a

-- The tree of an alternation in brackets, with another tree where the nesting ends. In a rule that items derive it makes no
-- difference, as none nests so deep (`nesting_suffices`).
abbrev pub tree_ending : Part → (List ℕ → Option ℕ) → ℕ → Alternation → Part
tree_ending last number zero a = last
tree_ending last number (suc room) a = alternation_part number (tree_ending last number room) a

-- The trees of the alternatives of a rule's body. A concatenation or a bracketed alternation of one part is that part, and
-- `[e]` is a repetition of 0 to 1 (RFC 5234 section 3.8).
abbrev pub alternatives : (List ℕ → Option ℕ) → Alternation → List Part
alternatives number body = map (concatenation_part number (tree_inside number max_nesting)) body
