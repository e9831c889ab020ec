-- The machine leaves on its stack whether a part holds, once it has read its words.
use Rattle.std.proofs.Common.{◌≡◌, ℕ, zero, suc, ◌+◌, ◌-◌, ◌≤◌, ◌<◌, inl, inr, Bool, true, false, List, [], ◌∷◌, ◌++◌, length, take, drop, get_or, reverse, refl, sym, ap, ◌∙◌, arith}
use Rattle.std.specs.Prelude.{if◌then◌else◌, nat_le, nat_eq, not, ◌&&◌, ◌||◌}
use Rattle.std.specs.List.{list_all, list_any, flat_map}
use Rattle.std.proofs.Math.Dec.{eqb-suc-zero}
use Rattle.std.proofs.lemmas.Bool.{cases_lt}
use Rattle.std.proofs.lemmas.List.{append_assoc, append-nil, reverse-append, length-reverse, length-drop, take-append-drop, take_at, drop_at, take_all, take_more, take_rest, drop_all}
use Rattle.std.proofs.lemmas.List.Folds.{list_all-append, list_any-append}
use Rattle.abnf_parts.specs.Names.{Name}
use Rattle.abnf_parts.specs.Part.{Part, Parts, quoted, series, span, seq, alt, rep, ref, opaque, end, next}
use Rattle.abnf_lint.specs.Empty.{is_above}
use Rattle.findings_index.specs.declared.word.Word.{Word}
use Rattle.findings_index.specs.declared.word.Word.TheVariants as w
use Rattle.findings_index.specs.Marked.{holds, each_holds, some_holds}
use Rattle.findings_index.specs.Words.{is_so, parts_count, repeat_words, run_words, step_word, words_of, words_of_all}

-- ---- the stack, whose last value stands first, and a list of which it is the reverse

reverse_push : (xs : List Bool) (x : Bool) → reverse (xs ++ x ∷ []) ≡ x ∷ reverse xs
reverse_push xs x = reverse-append xs (x ∷ [])

split : (xs : List Bool) (k : ℕ) → reverse xs ≡ reverse (drop k xs) ++ reverse (take k xs)
split xs k = ap reverse (sym (take-append-drop k xs)) ∙ reverse-append (take k xs) (drop k xs)

few : (xs : List Bool) (n : ℕ) → n ≤ length xs → length (reverse (drop (length xs - n) xs)) ≡ n
few xs n h = length-reverse (drop (length xs - n) xs) ∙ (length-drop (length xs - n) xs ∙ (let e : length xs - (length xs - n) ≡ n = omega arith in e))

many : (xs : List Bool) (n : ℕ) → length xs < n → length (reverse xs) ≤ n
many xs n h = omega (arith, length-reverse xs)

taken_is : (xs : List Bool) (n : ℕ) → take n (reverse xs) ≡ reverse (drop (length xs - n) xs)
taken_is xs n = elim (cases_lt (length xs) n) [
  | inl h ↦ take_all n (reverse xs) (many xs n h) ∙ ap (λ k. reverse (drop k xs)) (let e : 0 ≡ length xs - n = omega arith in e)
  | inr h ↦ ap (take n) (split xs (length xs - n)) ∙ take_at (reverse (drop (length xs - n) xs)) (reverse (take (length xs - n) xs)) n (few xs n h)
]

pub left_is : (xs : List Bool) (n : ℕ) → drop n (reverse xs) ≡ reverse (take (length xs - n) xs)
left_is xs n = elim (cases_lt (length xs) n) [
  | inl h ↦ drop_all n (reverse xs) (many xs n h) ∙ ap (λ k. reverse (take k xs)) (let e : 0 ≡ length xs - n = omega arith in e)
  | inr h ↦ ap (drop n) (split xs (length xs - n)) ∙ drop_at (reverse (drop (length xs - n) xs)) (reverse (take (length xs - n) xs)) n (few xs n h)
]

and_turned : (a b : Bool) → (b && (a && true)) ≡ (a && b)
and_turned true true = refl
and_turned true false = refl
and_turned false true = refl
and_turned false false = refl

or_turned : (a b : Bool) → (b || (a || false)) ≡ (a || b)
or_turned true true = refl
or_turned true false = refl
or_turned false true = refl
or_turned false false = refl

all_turned : (xs : List Bool) → list_all is_so (reverse xs) ≡ list_all is_so xs
all_turned [] = refl
all_turned (x ∷ xs) =
    ap (list_all is_so) (reverse-append (x ∷ []) xs) ∙ (list_all-append is_so (reverse xs) (x ∷ [])
    ∙ (and_turned x (list_all is_so (reverse xs)) ∙ ap (λ b. x && b) (all_turned xs)))

any_turned : (xs : List Bool) → list_any is_so (reverse xs) ≡ list_any is_so xs
any_turned [] = refl
any_turned (x ∷ xs) =
    ap (list_any is_so) (reverse-append (x ∷ []) xs) ∙ (list_any-append is_so (reverse xs) (x ∷ [])
    ∙ (or_turned x (list_any is_so (reverse xs)) ∙ ap (λ b. x || b) (any_turned xs)))

pub taken_all : (xs ys : List Bool) (n kept : ℕ) → ys ≡ xs → kept ≡ length xs - n
    → list_all is_so (take (length ys - kept) (drop kept ys)) ≡ list_all is_so (take n (reverse xs))
taken_all xs ys n kept same is =
    (λ i. list_all is_so (take (length (same i) - is i) (drop (is i) (same i))))
    ∙ (ap (list_all is_so) (take_rest xs (length xs - n))
    ∙ (sym (all_turned (drop (length xs - n) xs)) ∙ ap (list_all is_so) (sym (taken_is xs n))))

pub taken_any : (xs ys : List Bool) (n kept : ℕ) → ys ≡ xs → kept ≡ length xs - n
    → list_any is_so (take (length ys - kept) (drop kept ys)) ≡ list_any is_so (take n (reverse xs))
taken_any xs ys n kept same is =
    (λ i. list_any is_so (take (length (same i) - is i) (drop (is i) (same i))))
    ∙ (ap (list_any is_so) (take_rest xs (length xs - n))
    ∙ (sym (any_turned (drop (length xs - n) xs)) ∙ ap (list_any is_so) (sym (taken_is xs n))))

-- ---- the machine

run_append : (marks : ℕ → Bool) (xs ys : List Word) (stack : List Bool) → run_words marks (xs ++ ys) stack ≡ run_words marks ys (run_words marks xs stack)
run_append marks [] ys stack = refl
run_append marks (x ∷ xs) ys stack = run_append marks xs ys (step_word marks x stack)

span_step : (marks : ℕ → Bool) (b : Bool) (stack : List Bool) → step_word marks (if b then w.Something else w.Any 0) stack ≡ b ∷ stack
span_step marks true stack = refl
span_step marks false stack = refl

repeat_run : (marks : ℕ → Bool) (above : Bool) (least : ℕ) (value : Bool) (rest : List Word) (stack : List Bool)
    → run_words marks (repeat_words above least ++ rest) (value ∷ stack) ≡ run_words marks rest ((not above && (nat_eq least 0 || value)) ∷ stack)
repeat_run marks true least value rest stack = refl
repeat_run marks false zero value rest stack = refl
repeat_run marks false (suc n) value rest stack = ap (λ it. run_words marks rest ((it || value) ∷ stack)) (sym (eqb-suc-zero n))

and_moved : (a b c : Bool) → (a && (b && c)) ≡ ((b && a) && c)
and_moved true true c = refl
and_moved true false c = refl
and_moved false true c = refl
and_moved false false c = refl

or_moved : (a b c : Bool) → (a || (b || c)) ≡ ((b || a) || c)
or_moved true true c = refl
or_moved true false c = refl
or_moved false true c = refl
or_moved false false c = refl

module _ (marks : ℕ → Bool) (number : Name → ℕ) where
  -- the values of parts, the last one first
  abbrev pushed : Parts → List Bool → List Bool
  pushed end stack = stack
  pushed (next p ps) stack = pushed ps (holds (λ name. marks (number name)) p ∷ stack)

  all_pushed : (ps : Parts) (k : ℕ) (stack : List Bool)
      → list_all is_so (take (parts_count ps + k) (pushed ps stack)) ≡ (each_holds (λ name. marks (number name)) ps && list_all is_so (take k stack))
  all_pushed end k stack = ap (λ n. list_all is_so (take n stack)) (let e : 0 + k ≡ k = omega arith in e)
  all_pushed (next p ps) k stack =
      let value = holds (λ name. marks (number name)) p in
      ap (λ n. list_all is_so (take n (pushed ps (value ∷ stack)))) (let e : suc (parts_count ps) + k ≡ parts_count ps + suc k = omega arith in e)
      ∙ (all_pushed ps (suc k) (value ∷ stack)
      ∙ and_moved (each_holds (λ name. marks (number name)) ps) value (list_all is_so (take k stack)))

  any_pushed : (ps : Parts) (k : ℕ) (stack : List Bool)
      → list_any is_so (take (parts_count ps + k) (pushed ps stack)) ≡ (some_holds (λ name. marks (number name)) ps || list_any is_so (take k stack))
  any_pushed end k stack = ap (λ n. list_any is_so (take n stack)) (let e : 0 + k ≡ k = omega arith in e)
  any_pushed (next p ps) k stack =
      let value = holds (λ name. marks (number name)) p in
      ap (λ n. list_any is_so (take n (pushed ps (value ∷ stack)))) (let e : suc (parts_count ps) + k ≡ parts_count ps + suc k = omega arith in e)
      ∙ (any_pushed ps (suc k) (value ∷ stack)
      ∙ or_moved (some_holds (λ name. marks (number name)) ps) value (list_any is_so (take k stack)))

  left_pushed : (ps : Parts) (k : ℕ) (stack : List Bool) → drop (parts_count ps + k) (pushed ps stack) ≡ drop k stack
  left_pushed end k stack = ap (λ n. drop n stack) (let e : 0 + k ≡ k = omega arith in e)
  left_pushed (next p ps) k stack =
      let value = holds (λ name. marks (number name)) p in
      ap (λ n. drop n (pushed ps (value ∷ stack))) (let e : suc (parts_count ps) + k ≡ parts_count ps + suc k = omega arith in e)
      ∙ left_pushed ps (suc k) (value ∷ stack)

  no_more : (n : ℕ) → n ≡ n + 0
  no_more n = omega arith

  and_end : (a : Bool) → (a && true) ≡ a
  and_end true = refl
  and_end false = refl

  or_end : (a : Bool) → (a || false) ≡ a
  or_end true = refl
  or_end false = refl

  all_step : (ps : Parts) (stack : List Bool) → step_word marks (w.All (parts_count ps)) (pushed ps stack) ≡ each_holds (λ name. marks (number name)) ps ∷ stack
  all_step ps stack =
      (λ i. list_all is_so (take (no_more (parts_count ps) i) (pushed ps stack)) ∷ drop (no_more (parts_count ps) i) (pushed ps stack))
      ∙ (λ i. (all_pushed ps 0 stack ∙ and_end (each_holds (λ name. marks (number name)) ps)) i ∷ left_pushed ps 0 stack i)

  any_step : (ps : Parts) (stack : List Bool) → step_word marks (w.Any (parts_count ps)) (pushed ps stack) ≡ some_holds (λ name. marks (number name)) ps ∷ stack
  any_step ps stack =
      (λ i. list_any is_so (take (no_more (parts_count ps) i) (pushed ps stack)) ∷ drop (no_more (parts_count ps) i) (pushed ps stack))
      ∙ (λ i. (any_pushed ps 0 stack ∙ or_end (some_holds (λ name. marks (number name)) ps)) i ∷ left_pushed ps 0 stack i)

  mutual
    pub part_run : (p : Part) (rest : List Word) (stack : List Bool)
        → run_words marks (words_of number p ++ rest) stack ≡ run_words marks rest (holds (λ name. marks (number name)) p ∷ stack)
    part_run (quoted text exact) rest stack = refl
    part_run (series characters) rest stack = refl
    part_run (span low high) rest stack = ap (run_words marks rest) (span_step marks (nat_le low high) stack)
    part_run (seq ps) rest stack =
        ap (λ words. run_words marks words stack) (append_assoc (words_of_all number ps) (w.All (parts_count ps) ∷ []) rest)
        ∙ (parts_run ps (w.All (parts_count ps) ∷ rest) stack ∙ ap (run_words marks rest) (all_step ps stack))
    part_run (alt ps) rest stack =
        ap (λ words. run_words marks words stack) (append_assoc (words_of_all number ps) (w.Any (parts_count ps) ∷ []) rest)
        ∙ (parts_run ps (w.Any (parts_count ps) ∷ rest) stack ∙ ap (run_words marks rest) (any_step ps stack))
    part_run (rep least most p) rest stack =
        ap (λ words. run_words marks words stack) (append_assoc (words_of number p) (repeat_words (is_above least most) least) rest)
        ∙ (part_run p (repeat_words (is_above least most) least ++ rest) stack
        ∙ repeat_run marks (is_above least most) least (holds (λ name. marks (number name)) p) rest stack)
    part_run (ref name rule) rest stack = refl
    part_run opaque rest stack = refl

    parts_run : (ps : Parts) (rest : List Word) (stack : List Bool) → run_words marks (words_of_all number ps ++ rest) stack ≡ run_words marks rest (pushed ps stack)
    parts_run end rest stack = refl
    parts_run (next p ps) rest stack =
        ap (λ words. run_words marks words stack) (append_assoc (words_of number p) (words_of_all number ps) rest)
        ∙ (part_run p (words_of_all number ps ++ rest) stack
        ∙ parts_run ps rest (holds (λ name. marks (number name)) p ∷ stack))

-- ---- what is left on the stack at the end

any_left : (marks : ℕ → Bool) (number : Name → ℕ) (ps : List Part) (stack : List Bool)
    → list_any is_so (run_words marks (flat_map (words_of number) ps) stack) ≡ (list_any (holds (λ name. marks (number name))) ps || list_any is_so stack)
any_left marks number [] stack = refl
any_left marks number (p ∷ ps) stack =
    let value = holds (λ name. marks (number name)) p in
    ap (list_any is_so) (part_run marks number p (flat_map (words_of number) ps) stack)
    ∙ (any_left marks number ps (value ∷ stack)
    ∙ or_moved (list_any (holds (λ name. marks (number name))) ps) value (list_any is_so stack))

pub several_hold : (marks : ℕ → Bool) (number : Name → ℕ) (ps : List Part) (words : List Word) → words ≡ flat_map (words_of number) ps
    → list_any is_so (run_words marks words []) ≡ list_any (holds (λ name. marks (number name))) ps
several_hold marks number ps words e =
    ap (λ it. list_any is_so (run_words marks it [])) e ∙ (any_left marks number ps [] ∙ or_end marks number (list_any (holds (λ name. marks (number name))) ps))

pub one_holds : (marks : ℕ → Bool) (number : Name → ℕ) (p : Part) (words : List Word) → words ≡ words_of number p
    → list_any is_so (run_words marks words []) ≡ holds (λ name. marks (number name)) p
one_holds marks number p words e =
    several_hold marks number (p ∷ []) words (e ∙ sym (append-nil (words_of number p))) ∙ or_end marks number (holds (λ name. marks (number name)) p)

-- ---- the loop that reads words, with a list of which the stack is the reverse

pub run_more : (marks : ℕ → Bool) (words : List Word) (i : ℕ) (d : Word) (before after pushed_on : List Bool) (value : Bool) → i < length words
    → reverse before ≡ run_words marks (take i words) [] → value ∷ reverse after ≡ step_word marks (get_or words i d) (reverse before) → pushed_on ≡ after ++ value ∷ []
    → reverse pushed_on ≡ run_words marks (take (i + 1) words) []
run_more marks words i d before after pushed_on value within so_far stepped joined =
    ap reverse joined ∙ (reverse_push after value ∙ (stepped ∙ (ap (step_word marks (get_or words i d)) so_far
    ∙ (sym (run_append marks (take i words) (get_or words i d ∷ []) []) ∙ ap (λ it. run_words marks it []) (sym (take_more words i d within))))))

pub left_any : (marks : ℕ → Bool) (words : List Word) (i : ℕ) (stack : List Bool) → length words ≤ i → reverse stack ≡ run_words marks (take i words) []
    → list_any is_so stack ≡ list_any is_so (run_words marks words [])
left_any marks words i stack past so_far = sym (any_turned stack) ∙ ap (list_any is_so) (so_far ∙ ap (λ it. run_words marks it []) (take_all i words past))
