-- What the words of gists say of names by marks.
use Rattle.std.proofs.Common.{◌≡◌, ◌⊎◌, inl, inr, ℕ, zero, suc, Bool, true, false, not, ◌&&◌, ◌||◌, List, [], ◌∷◌, ◌++◌, Option, refl, sym, ap, ◌∙◌}
use Rattle.std.specs.Prelude.{Contains, nat_le, nat_lt, nat_eq, flat_map, if◌then◌else◌}
use Rattle.std.specs.List.{list_any}
use Rattle.std.specs.Option.{option_map_or}
use Rattle.std.proofs.lemmas.List.Folds.{list_any-append}
use Rattle.std.proofs.lemmas.List.Elements.{Contains-append_left, Contains-append_right}
use Rattle.abnf_parts.specs.Names.{Name}
use Rattle.abnf_parts.specs.Part.{Part, Parts, quoted, series, span, seq, alt, rep, ref, opaque, end, next, subparts, all_subparts}
use Rattle.abnf_lint.specs.Empty.{is_above}
use Rattle.findings_index.specs.declared.sweep.Way.{Way}
use Rattle.findings_index.specs.declared.sweep.Way.TheVariants.{Holding, Leading}
use Rattle.findings_index.specs.declared.word.Word.{Word}
use Rattle.findings_index.specs.declared.word.Word.TheVariants as w
use Rattle.findings_index.specs.Marked.{holds, each_holds, some_holds}
use Rattle.findings_index.specs.Words.{names_in, names_in_all, parts_count, repeat_words, words_of, words_of_all}
use Rattle.findings_index.specs.own.Ways.{is_lead, is_leading_word, leads, says}
use Rattle.findings_index.proofs.Elements.{first_in, any_back, any_there}

-- ---- words that lead

or_end : (a : Bool) → (a || false) ≡ a
or_end true = refl
or_end false = refl

module _ (marks : ℕ → Bool) (number : Name → ℕ) where
  abbrev at : Name → Bool
  at name = marks (number name)

  abbrev any_word : List Word → Bool
  any_word words = list_any (is_leading_word marks) words

  abbrev any_part : List Part → Bool
  any_part parts = list_any (is_lead at) parts

  span_words : (b : Bool) → any_word ((if b then w.Something else w.Any 0) ∷ []) ≡ false
  span_words true = refl
  span_words false = refl

  repeat_none : (above : Bool) (least : ℕ) → any_word (repeat_words above least) ≡ false
  repeat_none true least = refl
  repeat_none false zero = refl
  repeat_none false (suc n) = refl

  behind : (words more : List Word) (found : Bool) → any_word words ≡ found → any_word more ≡ false → any_word (words ++ more) ≡ found
  behind words more found e f =
      list_any-append (is_leading_word marks) words more ∙ ((λ i. e i || f i) ∙ or_end found)

  mutual
    pub word_leads : (p : Part) → any_word (words_of number p) ≡ leads at p
    word_leads (quoted text exact) = refl
    word_leads (series characters) = refl
    word_leads (span low high) = span_words (nat_le low high)
    word_leads (seq ps) = behind (words_of_all number ps) (w.All (parts_count ps) ∷ []) (any_part (all_subparts ps)) (words_lead ps) refl
    word_leads (alt ps) = behind (words_of_all number ps) (w.Any (parts_count ps) ∷ []) (any_part (all_subparts ps)) (words_lead ps) refl
    word_leads (rep least most p) =
        behind (words_of number p) (repeat_words (is_above least most) least) (any_part (subparts p)) (word_leads p) (repeat_none (is_above least most) least)
    word_leads (ref name rule) = refl
    word_leads opaque = refl

    words_lead : (ps : Parts) → any_word (words_of_all number ps) ≡ any_part (all_subparts ps)
    words_lead end = refl
    words_lead (next p ps) =
        list_any-append (is_leading_word marks) (words_of number p) (words_of_all number ps)
        ∙ ((λ i. word_leads p i || words_lead ps i) ∙ sym (list_any-append (is_lead at) (subparts p) (all_subparts ps)))

  all_lead : (ps : List Part) → any_word (flat_map (words_of number) ps) ≡ list_any (leads at) ps
  all_lead [] = refl
  all_lead (p ∷ ps) =
      list_any-append (is_leading_word marks) (words_of number p) (flat_map (words_of number) ps) ∙ (λ i. word_leads p i || all_lead ps i)

  pub several_lead : (words : List Word) (ps : List Part) → words ≡ flat_map (words_of number) ps → list_any (leads at) ps ≡ any_word words
  several_lead words ps e = sym (all_lead ps) ∙ ap any_word (sym e)

-- ---- marks that are the same at the names of a part

module _ (at other : Name → Bool) where
  abbrev Same : List Name → Type 0
  Same names = (name : Name) → Contains names name → at name ≡ other name

  front : (xs ys : List Name) → Same (xs ++ ys) → Same xs
  front xs ys same name c = same name (Contains-append_left xs ys name c)

  back : (xs ys : List Name) → Same (xs ++ ys) → Same ys
  back xs ys same name c = same name (Contains-append_right xs ys name c)

  mutual
    holds_same : (p : Part) → Same (names_in p) → holds at p ≡ holds other p
    holds_same (quoted text exact) same = refl
    holds_same (series characters) same = refl
    holds_same (span low high) same = refl
    holds_same (seq ps) same = each_same ps same
    holds_same (alt ps) same = some_same ps same
    holds_same (rep least most p) same =
        ap (λ b. not (option_map_or (λ m. nat_lt m least) most false) && (nat_eq least 0 || b)) (holds_same p same)
    holds_same (ref name rule) same = same name (first_in name [])
    holds_same opaque same = refl

    each_same : (ps : Parts) → Same (names_in_all ps) → each_holds at ps ≡ each_holds other ps
    each_same end same = refl
    each_same (next p ps) same =
        (λ i. holds_same p (front (names_in p) (names_in_all ps) same) i && each_same ps (back (names_in p) (names_in_all ps) same) i)

    some_same : (ps : Parts) → Same (names_in_all ps) → some_holds at ps ≡ some_holds other ps
    some_same end same = refl
    some_same (next p ps) same =
        (λ i. holds_same p (front (names_in p) (names_in_all ps) same) i || some_same ps (back (names_in p) (names_in_all ps) same) i)

  mutual
    leads_same : (p : Part) → Same (names_in p) → leads at p ≡ leads other p
    leads_same (quoted text exact) same = refl
    leads_same (series characters) same = refl
    leads_same (span low high) same = refl
    leads_same (seq ps) same = all_same ps same
    leads_same (alt ps) same = all_same ps same
    leads_same (rep least most p) same = leads_same p same
    leads_same (ref name rule) same = ap (λ b. b || false) (same name (first_in name []))
    leads_same opaque same = refl

    all_same : (ps : Parts) → Same (names_in_all ps) → list_any (is_lead at) (all_subparts ps) ≡ list_any (is_lead other) (all_subparts ps)
    all_same end same = refl
    all_same (next p ps) same =
        list_any-append (is_lead at) (subparts p) (all_subparts ps)
        ∙ ((λ i. leads_same p (front (names_in p) (names_in_all ps) same) i || all_same ps (back (names_in p) (names_in_all ps) same) i)
        ∙ sym (list_any-append (is_lead other) (subparts p) (all_subparts ps)))

  pub says_same : (way : Way) (p : Part) → Same (names_in p) → says way at p ≡ says way other p
  says_same Holding p same = holds_same p same
  says_same Leading p same = leads_same p same

  pub any_same : (way : Way) (ps : List Part) → Same (flat_map names_in ps) → list_any (says way at) ps ≡ list_any (says way other) ps
  any_same way [] same = refl
  any_same way (p ∷ ps) same =
      (λ i. says_same way p (front (names_in p) (flat_map names_in ps) same) i || any_same way ps (back (names_in p) (flat_map names_in ps) same) i)

-- ---- parts that lead

pub lead_back : (at : Name → Bool) (p : Part) → leads at p ≡ true
    → Contains (subparts p) opaque ⊎ ((name : Name) × (rule : Option ℕ) × Contains (subparts p) (ref name rule) × (at name ≡ true))
lead_back at p e = let b = any_back (is_lead at) (subparts p) e in by b.0 b.1 b.2
  where
    by : (x : Part) → Contains (subparts p) x → is_lead at x ≡ true
        → Contains (subparts p) opaque ⊎ ((name : Name) × (rule : Option ℕ) × Contains (subparts p) (ref name rule) × (at name ≡ true))
    by (quoted text exact) c f = absurd (cc (f))
    by (series characters) c f = absurd (cc (f))
    by (span low high) c f = absurd (cc (f))
    by (seq ps) c f = absurd (cc (f))
    by (alt ps) c f = absurd (cc (f))
    by (rep least most q) c f = absurd (cc (f))
    by (ref name rule) c f = inr (name, rule, c, f)
    by opaque c f = inl c

pub lead_opaque : (at : Name → Bool) (p : Part) → Contains (subparts p) opaque → leads at p ≡ true
lead_opaque at p c = any_there (is_lead at) (subparts p) opaque c refl

pub lead_ref : (at : Name → Bool) (p : Part) (name : Name) (rule : Option ℕ) → Contains (subparts p) (ref name rule) → at name ≡ true → leads at p ≡ true
lead_ref at p name rule c e = any_there (is_lead at) (subparts p) (ref name rule) c e
