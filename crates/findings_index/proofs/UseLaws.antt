-- The words of a part have its names and what is opaque in it, and no others.
use Rattle.std.proofs.Common.{◌≡◌, ℕ, zero, suc, Bool, true, false, Option, Some, None, [], ◌∷◌, ◌++◌, filter_map, refl, sym, ap, subst, ◌∙◌}
use Rattle.std.specs.Prelude.{◌↔◌, Contains, if◌then◌else◌, nat_le}
use Rattle.std.proofs.lemmas.List.{append-nil}
use Rattle.std.proofs.lemmas.List.Elements.{filter_map-append}
use Rattle.abnf_parts.specs.Names.{Name}
use Rattle.abnf_parts.specs.Part.{Part, Parts, quoted, series, span, seq, alt, rep, ref, opaque, end, next, subparts, all_subparts}
use Rattle.abnf_lint.proofs.Member.{given_in, in_given}
use Rattle.abnf_lint.specs.Empty.{is_above}
use Rattle.findings_index.specs.declared.word.Word.{Word}
use Rattle.findings_index.specs.declared.word.Word.TheVariants as w
use Rattle.findings_index.specs.Words.{names_in, names_in_all, parts_count, repeat_words, words_of, words_of_all}

-- a word that is a name or opaque
abbrev kept : Word → Option Word
kept w.Something = None
kept w.Opaque = Some w.Opaque
kept (w.Name n) = Some (w.Name n)
kept (w.All n) = None
kept (w.Any n) = None
kept w.Optional = None
kept w.Never = None

kept_is : (word found : Word) → kept word ≡ Some found → word ≡ found
kept_is w.Something found e = absurd (cc (e))
kept_is w.Opaque found e = cc (e)
kept_is (w.Name n) found e = cc (e)
kept_is (w.All n) found e = absurd (cc (e))
kept_is (w.Any n) found e = absurd (cc (e))
kept_is w.Optional found e = absurd (cc (e))
kept_is w.Never found e = absurd (cc (e))

span_kept : (b : Bool) → filter_map kept ((if b then w.Something else w.Any 0) ∷ []) ≡ []
span_kept true = refl
span_kept false = refl

repeat_kept : (above : Bool) (least : ℕ) → filter_map kept (repeat_words above least) ≡ []
repeat_kept true least = refl
repeat_kept false zero = refl
repeat_kept false (suc n) = refl

module _ (number : Name → ℕ) where
  -- the word of a part that is a name or opaque
  abbrev word : Part → Option Word
  word (quoted text exact) = None
  word (series characters) = None
  word (span low high) = None
  word (seq ps) = None
  word (alt ps) = None
  word (rep least most p) = None
  word (ref name rule) = Some (w.Name (number name))
  word opaque = Some w.Opaque

  word_opaque : (p : Part) → word p ≡ Some w.Opaque → p ≡ opaque
  word_opaque (quoted text exact) e = absurd (cc (e))
  word_opaque (series characters) e = absurd (cc (e))
  word_opaque (span low high) e = absurd (cc (e))
  word_opaque (seq ps) e = absurd (cc (e))
  word_opaque (alt ps) e = absurd (cc (e))
  word_opaque (rep least most p) e = absurd (cc (e))
  word_opaque (ref name rule) e = absurd (cc (e))
  word_opaque opaque e = refl

  word_name : (p : Part) (n : ℕ) → word p ≡ Some (w.Name n) → (name : Name) × (rule : Option ℕ) × (p ≡ ref name rule) × (number name ≡ n)
  word_name (quoted text exact) n e = absurd (cc (e))
  word_name (series characters) n e = absurd (cc (e))
  word_name (span low high) n e = absurd (cc (e))
  word_name (seq ps) n e = absurd (cc (e))
  word_name (alt ps) n e = absurd (cc (e))
  word_name (rep least most p) n e = absurd (cc (e))
  word_name (ref name rule) n e = (name, rule, refl, cc (e))
  word_name opaque n e = absurd (cc (e))

  mutual
    same : (p : Part) → filter_map kept (words_of number p) ≡ filter_map word (subparts p)
    same (quoted text exact) = refl
    same (series characters) = refl
    same (span low high) = span_kept (nat_le low high)
    same (seq ps) = filter_map-append kept (words_of_all number ps) (w.All (parts_count ps) ∷ []) ∙ (append-nil (filter_map kept (words_of_all number ps)) ∙ all_same ps)
    same (alt ps) = filter_map-append kept (words_of_all number ps) (w.Any (parts_count ps) ∷ []) ∙ (append-nil (filter_map kept (words_of_all number ps)) ∙ all_same ps)
    same (rep least most p) =
        filter_map-append kept (words_of number p) (repeat_words (is_above least most) least)
        ∙ (ap (λ it. filter_map kept (words_of number p) ++ it) (repeat_kept (is_above least most) least)
        ∙ (append-nil (filter_map kept (words_of number p)) ∙ same p))
    same (ref name rule) = refl
    same opaque = refl

    all_same : (ps : Parts) → filter_map kept (words_of_all number ps) ≡ filter_map word (all_subparts ps)
    all_same end = refl
    all_same (next p ps) =
        filter_map-append kept (words_of number p) (words_of_all number ps)
        ∙ ((λ i. same p i ++ all_same ps i) ∙ sym (filter_map-append word (subparts p) (all_subparts ps)))

  to_part : (p : Part) (found : Word) → kept found ≡ Some found → Contains (words_of number p) found → (x : Part) × Contains (subparts p) x × (word x ≡ Some found)
  to_part p found is c = in_given word (subparts p) found (subst (λ l. Contains l found) (same p) (given_in kept (words_of number p) found found c is))

  to_word : (p x : Part) (found : Word) → word x ≡ Some found → Contains (subparts p) x → Contains (words_of number p) found
  to_word p x found is c =
      let h = in_given kept (words_of number p) found (subst (λ l. Contains l found) (sym (same p)) (given_in word (subparts p) x found c is)) in
      subst (λ it. Contains (words_of number p) it) (kept_is h.0 found h.2) h.1

  pub opaque_words : (p : Part) → Contains (words_of number p) w.Opaque ↔ Contains (subparts p) opaque
  opaque_words p = (
    λ c. let h = to_part p w.Opaque refl c in subst (λ x. Contains (subparts p) x) (word_opaque h.0 h.2) h.1,
    λ c. to_word p opaque w.Opaque refl c,
  )

  pub name_words : (p : Part) (n : ℕ) → Contains (words_of number p) (w.Name n) ↔ ((name : Name) × (rule : Option ℕ) × Contains (subparts p) (ref name rule) × (number name ≡ n))
  name_words p n = (
    λ c. let h = to_part p (w.Name n) refl c in let is = word_name h.0 n h.2 in (is.0, is.1, subst (λ x. Contains (subparts p) x) is.2 h.1, is.3),
    λ c. to_word p (ref c.0 c.1) (w.Name n) (ap (λ it. Some (w.Name it)) c.3) c.2,
  )

-- ---- the names of a part

abbrev name_of : Part → Option Name
name_of (quoted text exact) = None
name_of (series characters) = None
name_of (span low high) = None
name_of (seq ps) = None
name_of (alt ps) = None
name_of (rep least most p) = None
name_of (ref name rule) = Some name
name_of opaque = None

ref_is : (p : Part) (name : Name) → name_of p ≡ Some name → (rule : Option ℕ) × (p ≡ ref name rule)
ref_is (quoted text exact) name e = absurd (cc (e))
ref_is (series characters) name e = absurd (cc (e))
ref_is (span low high) name e = absurd (cc (e))
ref_is (seq ps) name e = absurd (cc (e))
ref_is (alt ps) name e = absurd (cc (e))
ref_is (rep least most p) name e = absurd (cc (e))
ref_is (ref other rule) name e = let same : other ≡ name = cc (e) in (rule, ap (λ it. ref it rule) same)
ref_is opaque name e = absurd (cc (e))

mutual
  names_are : (p : Part) → names_in p ≡ filter_map name_of (subparts p)
  names_are (quoted text exact) = refl
  names_are (series characters) = refl
  names_are (span low high) = refl
  names_are (seq ps) = all_names_are ps
  names_are (alt ps) = all_names_are ps
  names_are (rep least most p) = names_are p
  names_are (ref name rule) = refl
  names_are opaque = refl

  all_names_are : (ps : Parts) → names_in_all ps ≡ filter_map name_of (all_subparts ps)
  all_names_are end = refl
  all_names_are (next p ps) = (λ i. names_are p i ++ all_names_are ps i) ∙ sym (filter_map-append name_of (subparts p) (all_subparts ps))

pub used_names : (p : Part) (name : Name) → Contains (names_in p) name ↔ ((rule : Option ℕ) × Contains (subparts p) (ref name rule))
used_names p name = (
  λ c. let h = in_given name_of (subparts p) name (subst (λ l. Contains l name) (names_are p) c) in
      let is = ref_is h.0 name h.2 in
      (is.0, subst (λ x. Contains (subparts p) x) is.1 h.1),
  λ c. subst (λ l. Contains l name) (sym (names_are p)) (given_in name_of (subparts p) (ref name c.0) name c.1 refl),
)
