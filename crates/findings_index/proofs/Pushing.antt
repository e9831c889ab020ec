-- Words that are pushed one after another.
use Rattle.std.proofs.Common.{◌≡◌, ◌≢◌, ℕ, zero, suc, ◌+◌, ◌≤◌, ◌<◌, Bool, true, false, Option, Some, None, List, [], ◌∷◌, ◌++◌, length, take, get_or, map, refl, sym, ap, subst, ◌∙◌, arith}
use Rattle.std.specs.Prelude.{fold, flat_map, unwrap_or, if◌then◌else◌, ◌==◌, ◌||◌}
use Rattle.std.proofs.lemmas.List.{append_assoc, append-nil, length-map, map-append, map_more}
use Rattle.std.proofs.lemmas.List.Concat.{flat_map-append}
use Rattle.std.proofs.lemmas.List.Sums.{fold-append}
use Rattle.abnf_token.specs.Classes.{base_of}
use Rattle.abnf_parts.specs.Leaf.{ends_of, has, is_separator, number_part, numbers_from, span_of, with_digit}
use Rattle.abnf_parts.specs.Names.{Name, rule_number, with_name}
use Rattle.abnf_parts.specs.Part.{Part, Parts, seq, alt, rep, ref, series}
use Rattle.abnf_parts.specs.Tree.{join, parts}
use Rattle.abnf_parts.proofs.Pushing.{join_several}
use Rattle.abnf_lint.specs.Empty.{is_above}
use Rattle.abnf_digests.specs.Gists.{gist, gists, repeated_gist}
use Rattle.findings_index.specs.declared.word.Word.{Word}
use Rattle.findings_index.specs.declared.word.Word.TheVariants as w
use Rattle.findings_index.proofs.TableLaws.{later_fold}
use Rattle.findings_index.specs.Words.{IsLater, names_in, names_in_all, number_in_table, parts_count, repeat_words, words_of, words_of_all}
use Rattle.findings_index.specs.own.Adding.{AddsWords}

-- ---- what is added

pub adds_none : (table : List Name) (words : List Word) → AddsWords [] table table words words
adds_none table words = record { names = refl; words = λ later is. sym (append-nil words) }

module _ (table : List Name) (before after : List Word) where
  pub adds_word : (p : Part) (word : Word) → names_in p ≡ [] → ((number : Name → ℕ) → words_of number p ≡ word ∷ []) → after ≡ before ++ word ∷ []
      → AddsWords (p ∷ []) table table before after
  adds_word p word none is joined = record {
    names = ap (λ names. fold with_name table (names ++ [])) (sym none);
    words = λ later l. joined ∙ ap (λ words. before ++ (words ++ [])) (sym (is (number_in_table later)));
  }

  pub adds_name : (name : Name) (rule : Option ℕ) (grown : List Name) (n : ℕ) → grown ≡ with_name table name → rule_number grown name ≡ Some n → after ≡ before ++ w.Name n ∷ []
      → AddsWords (ref name rule ∷ []) table grown before after
  adds_name name rule grown n with_it is joined = record {
    names = with_it;
    words = λ later l. joined ∙ ap (λ it. before ++ w.Name (unwrap_or it (length later)) ∷ []) (sym (l name n is));
  }

pub adds_both : (ps qs : List Part) (table mid grown : List Name) (before middle after : List Word) → AddsWords ps table mid before middle → AddsWords qs mid grown middle after
    → AddsWords (ps ++ qs) table grown before after
adds_both ps qs table mid grown before middle after first second = record {
  names =
      second.names ∙ (ap (λ it. fold with_name it (flat_map names_in qs)) first.names
      ∙ (sym (fold-append with_name table (flat_map names_in ps) (flat_map names_in qs))
      ∙ ap (fold with_name table) (sym (flat_map-append names_in ps qs))));
  words = λ later l.
      let now : IsLater mid later = λ name number is. l name number (subst (λ it. rule_number it name ≡ Some number) (sym second.names) (later_fold (flat_map names_in qs) mid name number is)) in
      second.words later l ∙ (ap (λ it. it ++ flat_map (words_of (number_in_table later)) qs) (first.words later now)
      ∙ (append_assoc before (flat_map (words_of (number_in_table later)) ps) (flat_map (words_of (number_in_table later)) qs)
      ∙ ap (λ it. before ++ it) (sym (flat_map-append (words_of (number_in_table later)) ps qs))));
}

-- a part of which the words are those of others and some more
pub adds_behind : (p : Part) (ps : List Part) (more : List Word) (table grown : List Name) (before middle after : List Word)
    → names_in p ≡ flat_map names_in ps → ((number : Name → ℕ) → words_of number p ≡ flat_map (words_of number) ps ++ more)
    → AddsWords ps table grown before middle → after ≡ middle ++ more → AddsWords (p ∷ []) table grown before after
adds_behind p ps more table grown before middle after same is added joined = record {
  names = added.names ∙ ap (fold with_name table) (sym same ∙ sym (append-nil (names_in p)));
  words = λ later l.
      let number = number_in_table later in
      joined ∙ (ap (λ it. it ++ more) (added.words later l)
      ∙ (append_assoc before (flat_map (words_of number) ps) more
      ∙ ap (λ it. before ++ it) (sym (is number) ∙ sym (append-nil (words_of number p)))));
}

-- ---- the gists of parts side by side

words_listed : (number : Name → ℕ) (ps : List Part) → words_of_all number (gists (parts ps)) ≡ flat_map (words_of number) (map gist ps)
words_listed number [] = refl
words_listed number (p ∷ ps) = ap (λ it. words_of number (gist p) ++ it) (words_listed number ps)

pub names_listed : (ps : List Part) → names_in_all (gists (parts ps)) ≡ flat_map names_in (map gist ps)
names_listed [] = refl
names_listed (p ∷ ps) = ap (λ it. names_in (gist p) ++ it) (names_listed ps)

count_listed : (ps : List Part) → parts_count (gists (parts ps)) ≡ length ps
count_listed [] = refl
count_listed (p ∷ ps) = ap suc (count_listed ps)

module _ {X : Type 0} (f : X → Part) (xs : List X) (table grown : List Name) (before middle after : List Word) (added : AddsWords (map gist (map f xs)) table grown before middle) where
  count_is : parts_count (gists (parts (map f xs))) ≡ length xs
  count_is = count_listed (map f xs) ∙ length-map xs f

  pub adds_seq : length xs ≢ 1 → after ≡ middle ++ w.All (length xs) ∷ [] → AddsWords (gist (join seq (map f xs)) ∷ []) table grown before after
  adds_seq several joined =
      subst (λ p. AddsWords (gist p ∷ []) table grown before after) (sym (join_several seq (map f xs) (λ e. several (sym (length-map xs f) ∙ e))))
      (adds_behind (gist (seq (parts (map f xs)))) (map gist (map f xs)) (w.All (length xs) ∷ []) table grown before middle after (names_listed (map f xs))
      (λ number i. words_listed number (map f xs) i ++ w.All (count_is i) ∷ []) added joined)

  pub adds_alt : length xs ≢ 1 → after ≡ middle ++ w.Any (length xs) ∷ [] → AddsWords (gist (join alt (map f xs)) ∷ []) table grown before after
  adds_alt several joined =
      subst (λ p. AddsWords (gist p ∷ []) table grown before after) (sym (join_several alt (map f xs) (λ e. several (sym (length-map xs f) ∙ e))))
      (adds_behind (gist (alt (parts (map f xs)))) (map gist (map f xs)) (w.Any (length xs) ∷ []) table grown before middle after (names_listed (map f xs))
      (λ number i. words_listed number (map f xs) i ++ w.Any (count_is i) ∷ []) added joined)

pub adds_one : {X : Type 0} (several : Parts → Part) (f : X → Part) (xs : List X) (table grown : List Name) (before after : List Word) → length xs ≡ 1
    → AddsWords (map gist (map f xs)) table grown before after → AddsWords (gist (join several (map f xs)) ∷ []) table grown before after
adds_one several f [] table grown before after one added = absurd (omega arith)
adds_one several f (x ∷ []) table grown before after one added = added
adds_one several f (x ∷ y ∷ xs) table grown before after one added = absurd (omega arith)

pub adds_more : {X : Type 0} (f : X → Part) (xs : List X) (i : ℕ) (d : X) (table mid grown : List Name) (before middle after : List Word) → i < length xs
    → AddsWords (map gist (map f (take i xs))) table mid before middle → AddsWords (gist (f (get_or xs i d)) ∷ []) mid grown middle after
    → AddsWords (map gist (map f (take (i + 1) xs))) table grown before after
adds_more f xs i d table mid grown before middle after within first second =
    subst (λ ps. AddsWords ps table grown before after) (sym (ap (map gist) (map_more f xs i d within) ∙ map-append gist (map f (take i xs)) (f (get_or xs i d) ∷ [])))
    (adds_both (map gist (map f (take i xs))) (gist (f (get_or xs i d)) ∷ []) table mid grown before middle after first second)

-- ---- repetitions

pub repeated_names : (above : Bool) (least : ℕ) (body : Part) → names_in (repeated_gist above least body) ≡ names_in body
repeated_names true least body = refl
repeated_names false zero body = refl
repeated_names false (suc n) body = refl

repeated_words : (number : Name → ℕ) (above : Bool) (least : ℕ) (body : Part) → words_of number (repeated_gist above least body) ≡ words_of number body ++ repeat_words above least
repeated_words number true least body = refl
repeated_words number false zero body = refl
repeated_words number false (suc n) body = refl

pub adds_repeat : (least : ℕ) (most : Option ℕ) (body : Part) (table grown : List Name) (before middle after : List Word)
    → AddsWords (gist body ∷ []) table grown before middle → after ≡ middle ++ repeat_words (is_above least most) least → AddsWords (gist (rep least most body) ∷ []) table grown before after
adds_repeat least most body table grown before middle after added joined =
    let above = is_above least most in
    adds_behind (repeated_gist above least (gist body)) (gist body ∷ []) (repeat_words above least) table grown before middle after
    (repeated_names above least (gist body) ∙ sym (append-nil (names_in (gist body))))
    (λ number. repeated_words number above least (gist body) ∙ ap (λ it. it ++ repeat_words above least) (sym (append-nil (words_of number (gist body)))))
    added joined

-- ---- numbers

abbrev HasOne : List ℕ → Type 0
HasOne [] = ⊥
HasOne (n ∷ ns) = Unit {0}

one_by : (b : Bool) (n : ℕ) (ns others : List ℕ) → HasOne others → HasOne (if b then n ∷ ns else others)
one_by true n ns others h = tt
one_by false n ns others h = h

has_one : (base n : ℕ) (digits : List ℕ) → HasOne (numbers_from base n digits)
has_one base n [] = tt
has_one base n (b ∷ bs) = one_by (is_separator b) n (numbers_from base 0 bs) (numbers_from base (with_digit base n b) bs) (has_one base (with_digit base n b) bs)

two_is : (n : ℕ) (ns : List ℕ) → HasOne ns → ends_of (span_of (n ∷ ns)) ≢ None
two_is n [] h e = h
two_is n (m ∷ ns) h e = absurd (cc (e))

two_by : (dot dash rest : Bool) (n : ℕ) (ns others : List ℕ) → HasOne ns → (rest ≡ true → ends_of (span_of others) ≢ None) → (dash || rest) ≡ true
    → ends_of (span_of (if dot || dash then n ∷ ns else others)) ≢ None
two_by true dash rest n ns others one more h = two_is n ns one
two_by false true rest n ns others one more h = two_is n ns one
two_by false false rest n ns others one more h = more h

has_two : (base n : ℕ) (digits : List ℕ) → has 0x2D digits ≡ true → ends_of (span_of (numbers_from base n digits)) ≢ None
has_two base n [] h e = absurd (cc (h))
has_two base n (b ∷ bs) h e =
    two_by (b == 0x2E) (b == 0x2D) (has 0x2D bs) n (numbers_from base 0 bs) (numbers_from base (with_digit base n b) bs) (has_one base 0 bs)
    (λ more. has_two base (with_digit base n b) bs more) h e

number_by : (number : Name → ℕ) (base : ℕ) (digits : List ℕ) (b : Bool) → has 0x2D digits ≡ b → None ≡ ends_of (if b then span_of (numbers_from base 0 digits) else series (numbers_from base 0 digits))
    → words_of number (gist (if b then span_of (numbers_from base 0 digits) else series (numbers_from base 0 digits))) ≡ w.Something ∷ []
number_by number base digits true h e = absurd (has_two base 0 digits h (sym e))
number_by number base digits false h e = refl

pub is_something : (text : List ℕ) → 2 ≤ length text → None ≡ ends_of (number_part text) → (number : Name → ℕ) → words_of number (gist (number_part text)) ≡ w.Something ∷ []
is_something [] h e number = absurd (omega arith)
is_something (a ∷ []) h e number = absurd (omega arith)
is_something (a ∷ b ∷ digits) h e number = number_by number (base_of b) digits (has 0x2D digits) refl e
