-- In a rule that items derive no tree ends at its nesting.
use Rattle.std.proofs.Common.{◌≡◌, refl, ℕ, zero, suc, ◌≤◌, List, [], ◌∷◌, map, Option, Some, None, sym, ap, ◌∙◌, arith}
use Rattle.abnf_token.specs.declared.token.Token.{Token}
use Rattle.abnf_syntax.specs.declared.item.Item.{Item}
use Rattle.abnf_syntax.specs.declared.tree.Element.{Element, out-Element}
use Rattle.abnf_syntax.specs.declared.tree.Element.TheVariants as e
use Rattle.abnf_syntax.specs.declared.tree.Element.TheOpen as layers
use Rattle.abnf_syntax.specs.declared.tree.Repetition.{Repetition, Repetition-F, out-roll-Repetition}
use Rattle.abnf_syntax.specs.declared.tree.Rule.{Rule}
use Rattle.abnf_syntax.specs.Grammar.{max_nesting, repetition, Concatenation, Alternation, IsAlternation, IsConcatenation, IsRepetition, IsElement, Derives}
use Rattle.abnf_syntax.specs.Grammar.IsAlternation.{only, or}
use Rattle.abnf_syntax.specs.Grammar.IsConcatenation.{one, and}
use Rattle.abnf_syntax.specs.Grammar.IsRepetition.{once, times}
use Rattle.abnf_syntax.specs.Grammar.IsElement.{name as is_name, quoted as is_quoted, number as is_number, prose as is_prose, group as is_group, choice as is_choice}
use Rattle.abnf_parts.specs.Part.{Part, seq, alt, rep}
use Rattle.abnf_parts.specs.Leaf.{repeated}
use Rattle.abnf_parts.specs.Names.{Name}
use Rattle.abnf_parts.specs.Tree.{ElementLayer, join, element_part, repetition_part, concatenation_part, tree_inside, tree_ending, alternatives}

-- whatever names stand for, and whatever stands where the nesting ends
module _ (number : Name → Option ℕ) (last : Part) where
  abbrev part_by : (Alternation → Part) → Repetition-F Element Repetition → Part
  part_by inner layer = repeated layer.repeat (element_part number inner (out-Element layer.element))

  -- an element, with its layer
  same_layers : (x : Element) (v : ElementLayer) (f g : Alternation → Part) → out-Element x ≡ v → element_part number f v ≡ element_part number g v → element_part number f (out-Element x) ≡ element_part number g (out-Element x)
  same_layers x v f g is h = ap (element_part number f) is ∙ (h ∙ sym (ap (element_part number g) is))

  same_repeated : (o : Option Token) (x : Element) (f g : Alternation → Part) → element_part number f (out-Element x) ≡ element_part number g (out-Element x) → repetition_part number f (repetition o x) ≡ repetition_part number g (repetition o x)
  same_repeated o x f g h =
      let layer = out-roll-Repetition (record { repeat = o; element = x }) in
      ap (part_by f) layer ∙ (ap (repeated o) h ∙ sym (ap (part_by g) layer))

  mutual
    rows_end : {room : ℕ} {from to : List Item} {a : Alternation} → IsAlternation room from to a → (deep : ℕ) → room ≤ deep
        → map (concatenation_part number (tree_ending last number deep)) a ≡ map (concatenation_part number (tree_inside number deep)) a
    rows_end (only h) deep le = ap (λ (ps : List Part). join seq ps ∷ []) (row_end h deep le)
    rows_end (or h slash more) deep le = λ i. join seq (row_end h deep le i) ∷ rows_end more deep le i

    row_end : {room : ℕ} {from to : List Item} {c : Concatenation} → IsConcatenation room from to c → (deep : ℕ) → room ≤ deep
        → map (repetition_part number (tree_ending last number deep)) c ≡ map (repetition_part number (tree_inside number deep)) c
    row_end (one h) deep le = ap (λ (p : Part). p ∷ []) (part_end h deep le)
    row_end (and h apart more) deep le = λ i. part_end h deep le i ∷ row_end more deep le i

    part_end : {room : ℕ} {from to : List Item} {r : Repetition} → IsRepetition room from to r → (deep : ℕ) → room ≤ deep
        → repetition_part number (tree_ending last number deep) r ≡ repetition_part number (tree_inside number deep) r
    part_end (once {element = x} h) deep le = same_repeated None x (tree_ending last number deep) (tree_inside number deep) (element_end h deep le)
    part_end (times {repeat = repeat} {element = x} is fits apart h) deep le = same_repeated (Some repeat.token) x (tree_ending last number deep) (tree_inside number deep) (element_end h deep le)

    element_end : {room : ℕ} {from to : List Item} {x : Element} → IsElement room from to x → (deep : ℕ) → room ≤ deep
        → element_part number (tree_ending last number deep) (out-Element x) ≡ element_part number (tree_inside number deep) (out-Element x)
    element_end (is_name {item = item} is) deep le = same_layers (e.Name item.token) (layers.Name item.token) (tree_ending last number deep) (tree_inside number deep) (e.outs-Name item.token) refl
    element_end (is_quoted {item = item} is) deep le = same_layers (e.Quoted item.token) (layers.Quoted item.token) (tree_ending last number deep) (tree_inside number deep) (e.outs-Quoted item.token) refl
    element_end (is_number {item = item} is fits) deep le = same_layers (e.Number item.token) (layers.Number item.token) (tree_ending last number deep) (tree_inside number deep) (e.outs-Number item.token) refl
    element_end (is_prose {item = item} is) deep le = same_layers (e.Prose item.token) (layers.Prose item.token) (tree_ending last number deep) (tree_inside number deep) (e.outs-Prose item.token) refl
    element_end (is_group left h right) zero le = absurd (omega arith)
    element_end (is_choice left h right) zero le = absurd (omega arith)
    element_end (is_group {a = a} left h right) (suc deep) le =
        same_layers (e.Group a) (layers.Group a) (tree_ending last number (suc deep)) (tree_inside number (suc deep)) (e.outs-Group a) (ap (join alt) (rows_end h deep (omega arith)))
    element_end (is_choice {a = a} left h right) (suc deep) le =
        same_layers (e.Choice a) (layers.Choice a) (tree_ending last number (suc deep)) (tree_inside number (suc deep)) (e.outs-Choice a) (ap (λ (ps : List Part). rep 0 (Some 1) (join alt ps)) (rows_end h deep (omega arith)))

pub nesting_suffices : (items : List Item) (rule : Rule) (number : List ℕ → Option ℕ) (last : Part) → Derives items rule
    → map (concatenation_part number (tree_ending last number max_nesting)) rule.body ≡ alternatives number rule.body
nesting_suffices items rule number last d = rows_end number last d.alternation max_nesting (omega arith)
