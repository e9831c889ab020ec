-- Items that are the same but for names say the same rules but for these names.
use Rattle.std.proofs.Common.{◌≡◌, ℕ, Bool, true, false, List, [], ◌∷◌, map, refl, sym, ap, ◌∙◌}
use Rattle.std.specs.Prelude.{if◌then◌else◌, Option}
use Rattle.abnf_token.specs.declared.token.Kind.{Kind}
use Rattle.abnf_token.specs.declared.token.Kind.TheVariants as k
use Rattle.abnf_token.specs.Classes.{Text, base_of}
use Rattle.abnf_token.specs.Folded.{lowercase}
use Rattle.abnf_syntax.specs.declared.item.Item.{Item}
use Rattle.abnf_syntax.specs.declared.tree.Rule.{Rule}
use Rattle.abnf_syntax.specs.Grammar.{Alternation, Derives}
use Rattle.abnf_parts.specs.Part.{Part, series, seq, alt, rep, ref, next}
use Rattle.abnf_parts.specs.Leaf.{number_part, numbers_from, span_of, quoted_part, has}
use Rattle.abnf_parts.specs.Names.{Name}
use Rattle.abnf_parts.specs.Tree.{join, parts, concatenation_part, tree_inside}
use Rattle.abnf_rename.specs.Parts.{renamed_part, renamed_parts}
use Rattle.abnf_rename.proofs.LikeTrees as like
use Rattle.abnf_rename.proofs.LikeTrees.{GoesOn, each_mapped}

-- ---- a rename goes over to the trees

module _ (r : ℕ) (new : List ℕ) where
  pub parts_renamed : (ps : List Part) → renamed_parts r new (parts ps) ≡ parts (map (renamed_part r new) ps)
  parts_renamed [] = refl
  parts_renamed (p ∷ ps) = ap (λ qs. next (renamed_part r new p) qs) (parts_renamed ps)

  pub join_seq : (ps : List Part) → join seq (map (renamed_part r new) ps) ≡ renamed_part r new (join seq ps)
  join_seq [] = refl
  join_seq (p ∷ []) = refl
  join_seq (p ∷ q ∷ ps) = ap seq (sym (parts_renamed (p ∷ q ∷ ps)))

  pub join_alt : (ps : List Part) → join alt (map (renamed_part r new) ps) ≡ renamed_part r new (join alt ps)
  join_alt [] = refl
  join_alt (p ∷ []) = refl
  join_alt (p ∷ q ∷ ps) = ap alt (sym (parts_renamed (p ∷ q ∷ ps)))

  span_renamed : (ns : List ℕ) → span_of ns ≡ renamed_part r new (span_of ns)
  span_renamed [] = refl
  span_renamed (a ∷ []) = refl
  span_renamed (a ∷ b ∷ ns) = refl

  digits_renamed : (range : Bool) (ns : List ℕ) → (if range then span_of ns else series ns) ≡ renamed_part r new (if range then span_of ns else series ns)
  digits_renamed true ns = span_renamed ns
  digits_renamed false ns = refl

  number_renamed : (text : Text) → number_part text ≡ renamed_part r new (number_part text)
  number_renamed [] = refl
  number_renamed (a ∷ []) = refl
  number_renamed (a ∷ b ∷ digits) = digits_renamed (has 0x2D digits) (numbers_from (base_of b) 0 digits)

-- ---- items that are the same but for names, where N says which names may stand for one another

module _ (N : Text → Text → Type 0) where
  abbrev pub TextLike : Kind → Text → Text → Type 0
  TextLike k.Name t u = N t u
  TextLike _ t u = u ≡ t

  abbrev pub Alike : List Item → List Item → Type 0
  Alike xs ys = like.Alike TextLike xs ys

  -- The names stand for the same rules, but for the name of one.
  abbrev pub Agrees : ℕ → List ℕ → (Name → Option ℕ) → (Name → Option ℕ) → Type 0
  Agrees r new number other = (t u : Text) → N t u → ref u (other (lowercase u)) ≡ renamed_part r new (ref t (number (lowercase t)))

  -- a rename, and how names are numbered before and after it
  abbrev Renaming : Type 0
  Renaming = (r : ℕ) × (new : List ℕ) × (number : Name → Option ℕ) × (other : Name → Option ℕ) × Agrees r new number other

  abbrev IsRenamed : Renaming → Part → Part → Type 0
  IsRenamed w p q = q ≡ renamed_part w.0 w.1 p

  goes_on : GoesOn TextLike Renaming (λ w. w.2) (λ w. w.3) IsRenamed
  goes_on = record {
    repeat_text = λ t u e. e;
    number_text = λ t u e. e;
    numbers = λ w t. number_renamed w.0 w.1 t;
    names = λ w t u h. w.4 t u h;
    quotes = λ w t u e. ap quoted_part e;
    opaques = λ w. refl;
    rows = λ w ps qs h. ap (join seq) (each_mapped (renamed_part w.0 w.1) ps qs h) ∙ join_seq w.0 w.1 ps;
    choices = λ w ps qs h. ap (join alt) (each_mapped (renamed_part w.0 w.1) ps qs h) ∙ join_alt w.0 w.1 ps;
    repeats = λ w least most p q h. ap (rep least most) h;
  }

  abbrev pub RowsLike : Alternation → Alternation → Type 0
  RowsLike a b = (r : ℕ) (new : List ℕ) (number other : Name → Option ℕ) → Agrees r new number other → (deep : ℕ) →
      map (concatenation_part other (tree_inside other deep)) b ≡ map (renamed_part r new) (map (concatenation_part number (tree_inside number deep)) a)

  pub derives_like : (xs ys : List Item) (rule : Rule) → Derives xs rule → Alike xs ys → (other : Rule) × Derives ys other × RowsLike rule.body other.body
  derives_like xs ys rule d l =
      let x = like.derives_like TextLike Renaming (λ w. w.2) (λ w. w.3) IsRenamed goes_on xs ys rule d l in (
        x.0,
        x.1,
        λ r new number other agrees deep.
            each_mapped (renamed_part r new) (map (concatenation_part number (tree_inside number deep)) rule.body) (map (concatenation_part other (tree_inside other deep)) x.0.body)
            (x.2 (r, new, number, other, agrees) deep),
      )
