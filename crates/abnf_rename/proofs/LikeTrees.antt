-- Of items of the same kinds, whose texts may stand for one another, both say a rule where the ones do, with trees that are alike.
use Rattle.std.proofs.Common.{◌≡◌, ℕ, zero, suc, true, List, [], ◌∷◌, map, Option, Some, None, refl, sym, ap, subst, ◌∙◌}
use Rattle.abnf_token.specs.declared.token.Kind.{Kind}
use Rattle.abnf_token.specs.declared.token.Kind.TheVariants as k
use Rattle.abnf_token.specs.declared.token.Token.{Token}
use Rattle.abnf_token.specs.Classes.{Text}
use Rattle.abnf_token.specs.Folded.{lowercase}
use Rattle.abnf_syntax.specs.declared.item.Item.{Item}
use Rattle.abnf_syntax.specs.declared.tree.Element.{Element, out-Element}
use Rattle.abnf_syntax.specs.declared.tree.Element.TheVariants as e
use Rattle.abnf_syntax.specs.declared.tree.Element.TheOpen as layers
use Rattle.abnf_syntax.specs.declared.tree.Repetition.{Repetition, Repetition-F, out-roll-Repetition}
use Rattle.abnf_syntax.specs.declared.tree.Rule.{Rule}
use Rattle.abnf_syntax.specs.Numbers.{numbers_fit}
use Rattle.abnf_syntax.specs.Grammar.{kind_of, fits, repetition, Concatenation, Alternation, IsAlternation, IsConcatenation, IsRepetition, IsElement, Derives}
use Rattle.abnf_syntax.specs.Grammar.IsAlternation.{only, or}
use Rattle.abnf_syntax.specs.Grammar.IsConcatenation.{one, and}
use Rattle.abnf_syntax.specs.Grammar.IsRepetition.{once, times}
use Rattle.abnf_syntax.specs.Grammar.IsElement.{name as is_name, quoted as is_quoted, number as is_number, prose as is_prose, group as is_group, choice as is_choice}
use Rattle.abnf_parts.specs.Part.{Part, seq, alt, rep, ref, opaque}
use Rattle.abnf_parts.specs.Leaf.{repeated, repeat_limits, number_part, quoted_part}
use Rattle.abnf_parts.specs.Names.{Name}
use Rattle.abnf_parts.specs.Tree.{ElementLayer, join, element_part, repetition_part, concatenation_part, tree_inside}

-- ---- parts one by one

abbrev pub Each : (Part → Part → Type 0) → List Part → List Part → Type 0
Each R [] [] = Unit {0}
Each R (p ∷ ps) (q ∷ qs) = R p q × Each R ps qs
Each R _ _ = ⊥

pub each_mapped : (f : Part → Part) (ps qs : List Part) → Each (λ p q. q ≡ f p) ps qs → qs ≡ map f ps
each_mapped f [] [] a = refl
each_mapped f [] (q ∷ qs) a = absurd a
each_mapped f (p ∷ ps) [] a = absurd a
each_mapped f (p ∷ ps) (q ∷ qs) a = (λ i. a.0 i ∷ each_mapped f ps qs a.1 i)

pub each_same : (f : Part → Part) (ps qs : List Part) → Each (λ p q. f q ≡ f p) ps qs → map f qs ≡ map f ps
each_same f [] [] a = refl
each_same f [] (q ∷ qs) a = absurd a
each_same f (p ∷ ps) [] a = absurd a
each_same f (p ∷ ps) (q ∷ qs) a = (λ i. a.0 i ∷ each_same f ps qs a.1 i)

-- ---- items, where T says which texts of a kind may stand for one another

module _ (T : Kind → Text → Text → Type 0) where
  pub record IsLike (x y : Item) : Type 0 where
    pub kind : kind_of y ≡ kind_of x
    pub apart : y.apart ≡ x.apart
    pub text : T (kind_of x) x.token.text.now y.token.text.now

  abbrev pub Alike : List Item → List Item → Type 0
  Alike [] [] = Unit {0}
  Alike (x ∷ xs) (y ∷ ys) = IsLike x y × Alike xs ys
  Alike _ _ = ⊥

  record Cons (x : Item) (xs zs : List Item) : Type 0 where
    head : Item
    rest : List Item
    is : zs ≡ head ∷ rest
    like : IsLike x head
    alike : Alike xs rest

  cons : (x : Item) (xs zs : List Item) → Alike (x ∷ xs) zs → Cons x xs zs
  cons x xs [] a = absurd a
  cons x xs (z ∷ zs) a = record { head = z; rest = zs; is = refl; like = a.0; alike = a.1 }

  nil_like : (zs : List Item) → Alike [] zs → zs ≡ []
  nil_like [] a = refl
  nil_like (z ∷ zs) a = absurd a

  text_at : (kind : Kind) (x y : Item) → IsLike x y → kind_of x ≡ kind → T kind x.token.text.now y.token.text.now
  text_at kind x y like is = subst (λ j. T j x.token.text.now y.token.text.now) is like.text

  fits_like : (x y : Item) → IsLike x y → y.token.text.now ≡ x.token.text.now → fits x ≡ true → fits y ≡ true
  fits_like x y like text f = (λ i. numbers_fit (like.kind i) (text i)) ∙ f

  -- ---- trees, where R says which parts are alike, in each of the ways I to number the names of both

  module _ (I : Type 0) (number other : I → Name → Option ℕ) (R : I → Part → Part → Type 0) where
    -- Parts of texts that may stand for one another are alike, and so are parts of alike parts.
    pub record GoesOn : Type 0 where
      pub repeat_text : (t u : Text) → T k.Repeat t u → u ≡ t
      pub number_text : (t u : Text) → T k.Number t u → u ≡ t
      pub numbers : (w : I) (t : Text) → R w (number_part t) (number_part t)
      pub names : (w : I) (t u : Text) → T k.Name t u → R w (ref t (number w (lowercase t))) (ref u (other w (lowercase u)))
      pub quotes : (w : I) (t u : Text) → T k.Quoted t u → R w (quoted_part t) (quoted_part u)
      pub opaques : (w : I) → R w opaque opaque
      pub rows : (w : I) (ps qs : List Part) → Each (R w) ps qs → R w (join seq ps) (join seq qs)
      pub choices : (w : I) (ps qs : List Part) → Each (R w) ps qs → R w (join alt ps) (join alt qs)
      pub repeats : (w : I) (least : ℕ) (most : Option ℕ) (p q : Part) → R w p q → R w (rep least most p) (rep least most q)

    abbrev here : I → ℕ → Alternation → Part
    here w deep a = tree_inside (number w) deep a

    abbrev there : I → ℕ → Alternation → Part
    there w deep a = tree_inside (other w) deep a

    abbrev pub RowsLike : Alternation → Alternation → Type 0
    RowsLike a b = (w : I) (deep : ℕ) → Each (R w) (map (concatenation_part (number w) (here w deep)) a) (map (concatenation_part (other w) (there w deep)) b)

    abbrev RowLike : Concatenation → Concatenation → Type 0
    RowLike c d = (w : I) (deep : ℕ) → Each (R w) (map (repetition_part (number w) (here w deep)) c) (map (repetition_part (other w) (there w deep)) d)

    abbrev PartLike : Repetition → Repetition → Type 0
    PartLike x y = (w : I) (deep : ℕ) → R w (repetition_part (number w) (here w deep) x) (repetition_part (other w) (there w deep) y)

    abbrev LayerLike : ElementLayer → ElementLayer → Type 0
    LayerLike v v' = (w : I) (deep : ℕ) → R w (element_part (number w) (here w deep) v) (element_part (other w) (there w deep) v')

    abbrev ElementLike : Element → Element → Type 0
    ElementLike x y = LayerLike (out-Element x) (out-Element y)

    module _ (g : GoesOn) where
      row_joined : (c d : Concatenation) → RowLike c d → (w : I) (deep : ℕ) → R w (concatenation_part (number w) (here w deep) c) (concatenation_part (other w) (there w deep) d)
      row_joined c d h w deep = g.rows w (map (repetition_part (number w) (here w deep)) c) (map (repetition_part (other w) (there w deep)) d) (h w deep)

      inside_like : (a b : Alternation) → RowsLike a b → (w : I) (deep : ℕ) → R w (here w deep a) (there w deep b)
      inside_like a b h w zero = g.opaques w
      inside_like a b h w (suc deep) = g.choices w (map (concatenation_part (number w) (here w deep)) a) (map (concatenation_part (other w) (there w deep)) b) (h w deep)

      layers_like : (x y : Element) (v v' : ElementLayer) → out-Element x ≡ v → out-Element y ≡ v' → LayerLike v v' → ElementLike x y
      layers_like x y v v' p q h w deep =
          subst (λ l. R w (element_part (number w) (here w deep) l) (element_part (other w) (there w deep) (out-Element y))) (sym p)
          (subst (λ l. R w (element_part (number w) (here w deep) v) (element_part (other w) (there w deep) l)) (sym q) (h w deep))

      repeats_like : (o : Option Token) (w : I) (p q : Part) → R w p q → R w (repeated o p) (repeated o q)
      repeats_like None w p q h = h
      repeats_like (Some t) w p q h = let b = repeat_limits t.text.now in g.repeats w b.0 b.1 p q h

      repeated_like : (o p : Option Token) (x y : Element) → ((q : Part) → repeated p q ≡ repeated o q) → ElementLike x y → PartLike (repetition o x) (repetition p y)
      repeated_like o p x y bounds_are h w deep =
          let f : Repetition-F Element Repetition → Part = λ layer. repeated layer.repeat (element_part (number w) (here w deep) (out-Element layer.element)) in
          let f2 : Repetition-F Element Repetition → Part = λ layer. repeated layer.repeat (element_part (other w) (there w deep) (out-Element layer.element)) in
          let a : Part = element_part (number w) (here w deep) (out-Element x) in
          let b : Part = element_part (other w) (there w deep) (out-Element y) in
          subst (λ z. R w z (repetition_part (other w) (there w deep) (repetition p y))) (sym (ap f (out-roll-Repetition (record { repeat = o; element = x }))))
          (subst (λ z. R w (repeated o a) z) (sym (ap f2 (out-roll-Repetition (record { repeat = p; element = y })) ∙ bounds_are b))
          (repeats_like o w a b (h w deep)))

      mutual
        rows_like : {room : ℕ} {from to : List Item} {a : Alternation} → IsAlternation room from to a → (ys : List Item) → Alike from ys →
            (zs : List Item) × Alike to zs × ((b : Alternation) × IsAlternation room ys zs b × RowsLike a b)
        rows_like (only {c = c} h) ys l =
            let x = row_like h ys l in
            (x.0, x.1, (x.2.0 ∷ [], only x.2.1, λ w deep. (row_joined c x.2.0 x.2.2 w deep, tt)))
        rows_like {room = room} (or {mid = mid} {slash = slash} {c = c} h is more) ys l =
            let x = row_like h ys l in
            let tail = cons slash mid x.0 x.1 in
            let xs = rows_like more tail.rest tail.alike in (
              xs.0,
              xs.1,
              (
                x.2.0 ∷ xs.2.0,
                or (subst (λ l. IsConcatenation room ys l x.2.0) tail.is x.2.1) (tail.like.kind ∙ is) xs.2.1,
                λ w deep. (row_joined c x.2.0 x.2.2 w deep, xs.2.2 w deep),
              ),
            )

        row_like : {room : ℕ} {from to : List Item} {c : Concatenation} → IsConcatenation room from to c → (ys : List Item) → Alike from ys →
            (zs : List Item) × Alike to zs × ((d : Concatenation) × IsConcatenation room ys zs d × RowLike c d)
        row_like (one h) ys l =
            let x = part_like h ys l in
            (x.0, x.1, (x.2.0 ∷ [], one x.2.1, λ w deep. (x.2.2 w deep, tt)))
        row_like {room = room} (and {mid = mid} {next = nxt} h apart more) ys l =
            let x = part_like h ys l in
            let c = cons nxt mid x.0 x.1 in
            let xs = row_like more (c.head ∷ c.rest) (c.like, c.alike) in (
              xs.0,
              xs.1,
              (
                x.2.0 ∷ xs.2.0,
                and (subst (λ l. IsRepetition room ys l x.2.0) c.is x.2.1) (c.like.apart ∙ apart) xs.2.1,
                λ w deep. (x.2.2 w deep, xs.2.2 w deep),
              ),
            )

        part_like : {room : ℕ} {from to : List Item} {p : Repetition} → IsRepetition room from to p → (ys : List Item) → Alike from ys →
            (zs : List Item) × Alike to zs × ((q : Repetition) × IsRepetition room ys zs q × PartLike p q)
        part_like (once h) ys l =
            let x = element_like h ys l in
            (x.0, x.1, (repetition None x.2.0, once x.2.1, repeated_like None None _ x.2.0 (λ q. refl) x.2.2))
        part_like (times is fit apart h) [] l = absurd l
        part_like (times is fit apart h) (y ∷ []) l = absurd l.1
        part_like (times {repeat = repeat} {next = nxt} is fit apart h) (y ∷ z ∷ ys) l =
            let x = element_like h (z ∷ ys) l.1 in
            let text : y.token.text.now ≡ repeat.token.text.now = g.repeat_text repeat.token.text.now y.token.text.now (text_at k.Repeat repeat y l.0 is) in (
              x.0,
              x.1,
              (
                repetition (Some y.token) x.2.0,
                times (l.0.kind ∙ is) (fits_like repeat y l.0 text fit) (l.1.0.apart ∙ apart) x.2.1,
                repeated_like (Some repeat.token) (Some y.token) _ x.2.0 (λ q. ap (λ t. let b = repeat_limits t in rep b.0 b.1 q) text) x.2.2,
              ),
            )

        element_like : {room : ℕ} {from to : List Item} {x : Element} → IsElement room from to x → (ys : List Item) → Alike from ys →
            (zs : List Item) × Alike to zs × ((y : Element) × IsElement room ys zs y × ElementLike x y)
        element_like (is_name is) [] l = absurd l
        element_like (is_name {item = item} is) (y ∷ ys) l = (
          ys,
          l.1,
          (
            e.Name y.token,
            is_name (l.0.kind ∙ is),
            layers_like _ _ (layers.Name item.token) (layers.Name y.token) (e.outs-Name item.token) (e.outs-Name y.token)
                (λ w deep. g.names w item.token.text.now y.token.text.now (text_at k.Name item y l.0 is)),
          ),
        )
        element_like (is_quoted is) [] l = absurd l
        element_like (is_quoted {item = item} is) (y ∷ ys) l = (
          ys,
          l.1,
          (
            e.Quoted y.token,
            is_quoted (l.0.kind ∙ is),
            layers_like _ _ (layers.Quoted item.token) (layers.Quoted y.token) (e.outs-Quoted item.token) (e.outs-Quoted y.token)
                (λ w deep. g.quotes w item.token.text.now y.token.text.now (text_at k.Quoted item y l.0 is)),
          ),
        )
        element_like (is_number is fit) [] l = absurd l
        element_like (is_number {item = item} is fit) (y ∷ ys) l =
            let text : y.token.text.now ≡ item.token.text.now = g.number_text item.token.text.now y.token.text.now (text_at k.Number item y l.0 is) in (
              ys,
              l.1,
              (
                e.Number y.token,
                is_number (l.0.kind ∙ is) (fits_like item y l.0 text fit),
                layers_like _ _ (layers.Number item.token) (layers.Number y.token) (e.outs-Number item.token) (e.outs-Number y.token)
                    (λ w deep. subst (λ t. R w (number_part item.token.text.now) (number_part t)) (sym text) (g.numbers w item.token.text.now)),
              ),
            )
        element_like (is_prose is) [] l = absurd l
        element_like (is_prose {item = item} is) (y ∷ ys) l = (
          ys,
          l.1,
          (
            e.Prose y.token,
            is_prose (l.0.kind ∙ is),
            layers_like _ _ (layers.Prose item.token) (layers.Prose y.token) (e.outs-Prose item.token) (e.outs-Prose y.token) (λ w deep. g.opaques w),
          ),
        )
        element_like (is_group left h right) [] l = absurd l
        element_like {room = suc room} (is_group {to = to} {right = closer} {a = a} left h right) (y ∷ ys) l =
            let x = rows_like h ys l.1 in
            let c = cons closer to x.0 x.1 in (
              c.rest,
              c.alike,
              (
                e.Group x.2.0,
                is_group (l.0.kind ∙ left) (subst (λ l. IsAlternation room ys l x.2.0) c.is x.2.1) (c.like.kind ∙ right),
                layers_like _ _ (layers.Group a) (layers.Group x.2.0) (e.outs-Group a) (e.outs-Group x.2.0) (inside_like a x.2.0 x.2.2),
              ),
            )
        element_like (is_choice left h right) [] l = absurd l
        element_like {room = suc room} (is_choice {to = to} {right = closer} {a = a} left h right) (y ∷ ys) l =
            let x = rows_like h ys l.1 in
            let c = cons closer to x.0 x.1 in (
              c.rest,
              c.alike,
              (
                e.Choice x.2.0,
                is_choice (l.0.kind ∙ left) (subst (λ l. IsAlternation room ys l x.2.0) c.is x.2.1) (c.like.kind ∙ right),
                layers_like _ _ (layers.Choice a) (layers.Choice x.2.0) (e.outs-Choice a) (e.outs-Choice x.2.0)
                    (λ w deep. g.repeats w 0 (Some 1) (here w deep a) (there w deep x.2.0) (inside_like a x.2.0 x.2.2 w deep)),
              ),
            )

      pub derives_like : (xs ys : List Item) (rule : Rule) → Derives xs rule → Alike xs ys → (other : Rule) × Derives ys other × RowsLike rule.body other.body
      derives_like xs ys rule d l =
          let c = cons d.head (d.defined ∷ d.body) ys (subst (λ l. Alike l ys) d.split l) in
          let c2 = cons d.defined d.body c.rest c.alike in
          let x = rows_like d.alternation c2.rest c2.alike in (
            record { name = c.head.token; adds = rule.adds; body = x.2.0 },
            record {
              head = c.head;
              defined = c2.head;
              body = c2.rest;
              split = c.is ∙ ap (λ l. c.head ∷ l) c2.is;
              named = c.like.kind ∙ d.named;
              name = refl;
              adds = c2.like.kind ∙ d.adds;
              alternation = subst (λ l. IsAlternation 64 c2.rest l x.2.0) (nil_like x.0 x.1) x.2.1;
            },
            x.2.2,
          )
