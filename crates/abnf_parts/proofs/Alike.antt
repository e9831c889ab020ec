-- The trees of a rule are those of what its items say, wherever in memory their texts lie.
use Rattle.std.proofs.Common.{◌≡◌, ℕ, zero, suc, List, [], ◌∷◌, map, Option, Some, None, refl, sym, ap, subst, ◌∙◌}
use Rattle.abnf_token.specs.declared.token.Token.{Token}
use Rattle.abnf_syntax.specs.declared.item.Item.{Item}
use Rattle.abnf_syntax.specs.declared.tree.Element.{Element, out-Element}
use Rattle.abnf_syntax.specs.declared.tree.Element.TheVariants as e
use Rattle.abnf_syntax.specs.declared.tree.Element.TheOpen as layers
use Rattle.abnf_syntax.specs.declared.tree.Repetition.{Repetition}
use Rattle.abnf_syntax.specs.declared.tree.Repetition.{Repetition-F}
use Rattle.abnf_syntax.specs.declared.tree.Repetition.{out-roll-Repetition}
use Rattle.abnf_syntax.specs.declared.tree.Rule.{Rule}
use Rattle.abnf_syntax.specs.Grammar.{max_nesting, repetition, Concatenation, Alternation, IsAlternation, IsConcatenation, IsRepetition, IsElement, Derives}
use Rattle.abnf_syntax.specs.Grammar.IsAlternation.{only, or}
use Rattle.abnf_syntax.specs.Grammar.IsConcatenation.{one, and}
use Rattle.abnf_syntax.specs.Grammar.IsRepetition.{once, times}
use Rattle.abnf_syntax.specs.Grammar.IsElement.{name as is_name, quoted as is_quoted, number as is_number, prose as is_prose, group as is_group, choice as is_choice}
use Rattle.abnf_syntax.proofs.Bare.{bare, bare_token}
use Rattle.abnf_syntax.proofs.Exact.{one_rule}
use Rattle.abnf_parts.specs.Part.{Part, seq, alt, rep}
use Rattle.abnf_parts.specs.Leaf.{repeated}
use Rattle.abnf_parts.specs.Names.{Name}
use Rattle.abnf_parts.specs.Tree.{ElementLayer, join, element_part, repetition_part, concatenation_part, tree_inside, alternatives}

-- the trees are the same, whatever names stand for and however deep they are read
abbrev SameRows : Alternation → Alternation → Type 0
SameRows a b = (number : Name → Option ℕ) (deep : ℕ) → map (concatenation_part number (tree_inside number deep)) a ≡ map (concatenation_part number (tree_inside number deep)) b

abbrev SameRow : Concatenation → Concatenation → Type 0
SameRow c d = (number : Name → Option ℕ) (deep : ℕ) → map (repetition_part number (tree_inside number deep)) c ≡ map (repetition_part number (tree_inside number deep)) d

abbrev SamePart : Repetition → Repetition → Type 0
SamePart r s = (number : Name → Option ℕ) (deep : ℕ) → repetition_part number (tree_inside number deep) r ≡ repetition_part number (tree_inside number deep) s

abbrev SameElement : Element → Element → Type 0
SameElement x y = (number : Name → Option ℕ) (deep : ℕ) → element_part number (tree_inside number deep) (out-Element x) ≡ element_part number (tree_inside number deep) (out-Element y)

inside_same : (a b : Alternation) → SameRows a b → (number : Name → Option ℕ) (deep : ℕ) → tree_inside number deep a ≡ tree_inside number deep b
inside_same a b h number zero = refl
inside_same a b h number (suc deep) = ap (join alt) (h number deep)

-- two elements, each with its layer
same_layers : (x y : Element) (v w : ElementLayer) → out-Element x ≡ v → out-Element y ≡ w →
    ((number : Name → Option ℕ) (deep : ℕ) → element_part number (tree_inside number deep) v ≡ element_part number (tree_inside number deep) w) → SameElement x y
same_layers x y v w p q h number deep =
    let f = element_part number (tree_inside number deep) in ap f p ∙ (h number deep ∙ sym (ap f q))

-- two repetitions, whose repeats have the same bounds
same_repeated : (o p : Option Token) (x y : Element) → ((q : Part) → repeated o q ≡ repeated p q) → SameElement x y → SamePart (repetition o x) (repetition p y)
same_repeated o p x y bounds_are h number deep =
    let f : Repetition-F Element Repetition → Part = λ layer. repeated layer.repeat (element_part number (tree_inside number deep) (out-Element layer.element)) in
    ap f (out-roll-Repetition (record { repeat = o; element = x }))
    ∙ (ap (repeated o) (h number deep) ∙ bounds_are (element_part number (tree_inside number deep) (out-Element y))
    ∙ sym (ap f (out-roll-Repetition (record { repeat = p; element = y }))))

-- what items say, bare items say too, with the same trees
mutual
  rows_again : {room : ℕ} {from to : List Item} {a : Alternation} → IsAlternation room from to a → (b : Alternation) × IsAlternation room (map bare from) (map bare to) b × SameRows a b
  rows_again (only h) = let r = row_again h in (r.0 ∷ [], only r.1, λ number deep. ap (λ (ps : List Part). join seq ps ∷ []) (r.2 number deep))
  rows_again (or h slash more) =
      let r = row_again h in
      let rs = rows_again more in
      (r.0 ∷ rs.0, or r.1 slash rs.1, λ number deep i. join seq (r.2 number deep i) ∷ rs.2 number deep i)

  row_again : {room : ℕ} {from to : List Item} {c : Concatenation} → IsConcatenation room from to c → (d : Concatenation) × IsConcatenation room (map bare from) (map bare to) d × SameRow c d
  row_again (one h) = let r = part_again h in (r.0 ∷ [], one r.1, λ number deep. ap (λ p. p ∷ []) (r.2 number deep))
  row_again (and h apart more) =
      let r = part_again h in
      let rs = row_again more in
      (r.0 ∷ rs.0, and r.1 apart rs.1, λ number deep i. r.2 number deep i ∷ rs.2 number deep i)

  part_again : {room : ℕ} {from to : List Item} {r : Repetition} → IsRepetition room from to r → (s : Repetition) × IsRepetition room (map bare from) (map bare to) s × SamePart r s
  part_again (once h) = let x = element_again h in (repetition None x.0, once x.1, same_repeated None None _ x.0 (λ q. refl) x.2)
  part_again (times {repeat = repeat} is fits apart h) =
      let x = element_again h in
      (repetition (Some (bare_token repeat.token)) x.0, times is fits apart x.1, same_repeated (Some repeat.token) (Some (bare_token repeat.token)) _ x.0 (λ q. refl) x.2)

  element_again : {room : ℕ} {from to : List Item} {x : Element} → IsElement room from to x → (y : Element) × IsElement room (map bare from) (map bare to) y × SameElement x y
  element_again (is_name {item = item} is) = (
    e.Name (bare_token item.token),
    is_name is,
    same_layers _ _ (layers.Name item.token) (layers.Name (bare_token item.token)) (e.outs-Name item.token) (e.outs-Name (bare_token item.token)) (λ number deep. refl),
  )
  element_again (is_quoted {item = item} is) = (
    e.Quoted (bare_token item.token),
    is_quoted is,
    same_layers _ _ (layers.Quoted item.token) (layers.Quoted (bare_token item.token)) (e.outs-Quoted item.token) (e.outs-Quoted (bare_token item.token)) (λ number deep. refl),
  )
  element_again (is_number {item = item} is fits) = (
    e.Number (bare_token item.token),
    is_number is fits,
    same_layers _ _ (layers.Number item.token) (layers.Number (bare_token item.token)) (e.outs-Number item.token) (e.outs-Number (bare_token item.token)) (λ number deep. refl),
  )
  element_again (is_prose {item = item} is) = (
    e.Prose (bare_token item.token),
    is_prose is,
    same_layers _ _ (layers.Prose item.token) (layers.Prose (bare_token item.token)) (e.outs-Prose item.token) (e.outs-Prose (bare_token item.token)) (λ number deep. refl),
  )
  element_again (is_group {a = a} left h right) =
      let r = rows_again h in
      (e.Group r.0, is_group left r.1 right, same_layers _ _ (layers.Group a) (layers.Group r.0) (e.outs-Group a) (e.outs-Group r.0) (inside_same a r.0 r.2))
  element_again (is_choice {a = a} left h right) =
      let r = rows_again h in
      (e.Choice r.0, is_choice left r.1 right, same_layers _ _ (layers.Choice a) (layers.Choice r.0) (e.outs-Choice a) (e.outs-Choice r.0) (λ number deep. ap (λ p. rep 0 (Some 1) p) (inside_same a r.0 r.2 number deep)))

derives_again : (xs : List Item) (rule : Rule) → Derives xs rule → (other : Rule) × Derives (map bare xs) other × SameRows rule.body other.body
derives_again xs rule d =
    let r = rows_again d.alternation in (
      record { name = bare_token d.head.token; adds = rule.adds; body = r.0 },
      record {
        head = bare d.head;
        defined = bare d.defined;
        body = map bare d.body;
        split = ap (map bare) d.split;
        named = d.named;
        name = refl;
        adds = d.adds;
        alternation = r.1;
      },
      r.2,
    )

-- Items that are alike say rules with the same alternatives.
pub same_alternatives : (xs ys : List Item) (r s : Rule) → map bare xs ≡ map bare ys → Derives xs r → Derives ys s → (number : Name → Option ℕ) → alternatives number r.body ≡ alternatives number s.body
same_alternatives xs ys r s e p q number =
    let a = derives_again xs r p in
    let b = derives_again ys s q in
    let same : a.0 ≡ b.0 = one_rule (map bare xs) a.0 b.0 a.1 (subst (λ l. Derives l b.0) (sym e) b.1) in
    a.2 number max_nesting ∙ (ap (λ (rule : Rule). alternatives number rule.body) same ∙ sym (b.2 number max_nesting))
