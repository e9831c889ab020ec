-- A code for trees, by which proofs tell them apart: the tree in postfix form. It says nothing of the trees.
use Rattle.std.specs.Prelude.{◌≡◌, ℕ, zero, suc, ◌⊎◌, Bool, Option, List, [], ◌∷◌, refl}
use Rattle.std.specs.Coded.{Coded, code_by, coded_ℕ, coded_bool, coded_list, coded_option, coded×, coded⊎}
use Rattle.std.proofs.Common.{inl, inr, ◌∙◌}
use Rattle.abnf_parts.specs.Part.{Part, Parts, quoted, series, span, seq, alt, rep, ref, opaque, end, next}

-- a sign of a tree's postfix form: a leaf, the bounds of a repetition, or a mark with a number
abbrev pub Sign : Type 0
Sign = (List ℕ × Bool) ⊎ (List ℕ ⊎ ((ℕ × ℕ) ⊎ ((ℕ × Option ℕ) ⊎ ((List ℕ × Option ℕ) ⊎ ℕ))))

-- a code for signs
abbrev pub sign_code : Coded Sign
sign_code =
    coded⊎ (coded× (coded_list coded_ℕ) coded_bool)
    (coded⊎ (coded_list coded_ℕ)
    (coded⊎ (coded× coded_ℕ coded_ℕ)
    (coded⊎ (coded× coded_ℕ (coded_option coded_ℕ))
    (coded⊎ (coded× (coded_list coded_ℕ) (coded_option coded_ℕ))
    coded_ℕ))))

-- a mark: 0 is what is opaque, 1 a sequence, 2 a choice, 3 the end of a row of parts, and 4 that one more stands before it
abbrev pub mark : ℕ → Sign
mark n = inr (inr (inr (inr (inr n))))

-- the signs of a tree, and of a row of parts, before others
abbrev mutual
  pub post : Part → List Sign → List Sign
  post (quoted text exact) ts = inl (text, exact) ∷ ts
  post (series characters) ts = inr (inl characters) ∷ ts
  post (span low high) ts = inr (inr (inl (low, high))) ∷ ts
  post (rep least most p) ts = post p (inr (inr (inr (inl (least, most)))) ∷ ts)
  post (ref name rule) ts = inr (inr (inr (inr (inl (name, rule))))) ∷ ts
  post opaque ts = mark 0 ∷ ts
  post (seq ps) ts = posts ps (mark 1 ∷ ts)
  post (alt ps) ts = posts ps (mark 2 ∷ ts)

  pub posts : Parts → List Sign → List Sign
  posts end ts = mark 3 ∷ ts
  posts (next p ps) ts = post p (posts ps (mark 4 ∷ ts))

-- what is read by signs, from the trees and the rows that were read before
abbrev pub Run : Type 0
Run = List Part → List Parts → Part

-- what is read with one sign more
abbrev pub sign_read : Sign → Run → Run
sign_read (inl (text, exact)) go a b = go (quoted text exact ∷ a) b
sign_read (inr (inl characters)) go a b = go (series characters ∷ a) b
sign_read (inr (inr (inl (low, high)))) go a b = go (span low high ∷ a) b
sign_read (inr (inr (inr (inl (least, most))))) go (p ∷ a) b = go (rep least most p ∷ a) b
sign_read (inr (inr (inr (inr (inl (name, rule)))))) go a b = go (ref name rule ∷ a) b
sign_read (inr (inr (inr (inr (inr zero))))) go a b = go (opaque ∷ a) b
sign_read (inr (inr (inr (inr (inr (suc zero)))))) go a (ps ∷ b) = go (seq ps ∷ a) b
sign_read (inr (inr (inr (inr (inr (suc (suc zero))))))) go a (ps ∷ b) = go (alt ps ∷ a) b
sign_read (inr (inr (inr (inr (inr (suc (suc (suc zero)))))))) go a b = go a (end ∷ b)
sign_read (inr (inr (inr (inr (inr (suc (suc (suc (suc n))))))))) go (p ∷ a) (ps ∷ b) = go a (next p ps ∷ b)
sign_read _ go a b = opaque

-- what is read by all of these signs: the last tree
abbrev pub parts_read : List Sign → Run
parts_read [] [] b = opaque
parts_read [] (p ∷ a) b = p
parts_read (t ∷ ts) a b = sign_read t (parts_read ts) a b

mutual
  run_post : (p : Part) (ts : List Sign) (a : List Part) (b : List Parts) → parts_read (post p ts) a b ≡ parts_read ts (p ∷ a) b
  run_post (quoted text exact) ts a b = refl
  run_post (series characters) ts a b = refl
  run_post (span low high) ts a b = refl
  run_post (rep least most p) ts a b = run_post p (inr (inr (inr (inl (least, most)))) ∷ ts) a b
  run_post (ref name rule) ts a b = refl
  run_post opaque ts a b = refl
  run_post (seq ps) ts a b = run_posts ps (mark 1 ∷ ts) a b
  run_post (alt ps) ts a b = run_posts ps (mark 2 ∷ ts) a b

  run_posts : (ps : Parts) (ts : List Sign) (a : List Part) (b : List Parts) → parts_read (posts ps ts) a b ≡ parts_read ts a (ps ∷ b)
  run_posts end ts a b = refl
  run_posts (next p ps) ts a b = run_post p (posts ps (mark 4 ∷ ts)) a b ∙ run_posts ps (mark 4 ∷ ts) (p ∷ a) b

-- the signs of a tree are read as that tree
pub part_back : (p : Part) → parts_read (post p []) [] [] ≡ p
part_back p = run_post p [] [] []

-- a code for trees, by their signs
abbrev pub part_code : Coded Part
part_code = code_by (List Sign) (coded_list sign_code) (λ p. post p []) (λ ts. parts_read ts [] []) part_back

-- a code for lists of trees
abbrev pub trees_code : Coded (List Part)
trees_code = coded_list part_code
