-- A token ends between characters.
use Rattle.std.proofs.Common.{◌≡◌, ℕ, zero, suc, ◌+◌, ◌/◌, ◌<◌, ◌≤◌, Bool, true, false, List, [], ◌∷◌, ◌++◌, length, take, get_or, Some, ⊎_elim, refl, sym, ap, subst, ◌∙◌, arith, length-append, length-take-le}
use Rattle.std.specs.Prelude.{nat_eq}
use Rattle.std.specs.Char.{is_ascii_alphabetic, is_ascii_digit, is_ascii_alphanumeric, len_utf8}
use Rattle.std.specs.Str.{IsUtf8, IsCharBoundary, continuation_len}
use Rattle.std.proofs.lemmas.Bool.{cond_both, ne_eqb, le-ltb, lt-ltb, eq-eqb, cases_lt}
use Rattle.std.proofs.lemmas.Bool.Decides.{nat_tests}
use Rattle.std.proofs.lemmas.Str.{IsCharBoundary-end, IsCharBoundary-after_ascii, IsCharBoundary-past_char, length-encode, encode_ascii, len_utf8_ascii}
use lib.Utf8.{encode, encodes}
use Rattle.abnf_token.specs.declared.token.Kind.{Kind}
use Rattle.abnf_token.specs.declared.token.Kind.TheVariants as k
use Rattle.abnf_token.specs.declared.machine.State.{State}
use Rattle.abnf_token.specs.declared.machine.State.TheVariants as s
use Rattle.abnf_token.specs.Classes.{Text, is_in, is_character, is_quotable, is_case_letter, base_of}
use Rattle.abnf_token.specs.Tokens.{NoLonger, IsNext, Fits}
use Rattle.abnf_token.specs.own.Machine.{begin, step, run}
use Rattle.abnf_token.proofs.Language.{same, accepts, class_is}
use Rattle.abnf_token.proofs.Longest.{IsLongest}

pub never : {A : Type 0} → false ≡ true → A
never h = absurd (cc)

-- Bytes beyond ASCII pass no test.
wide_is : (b c : ℕ) → 128 ≤ b → c < 128 → nat_eq b c ≡ false
wide_is b c w small = ne_eqb b c (λ e. omega arith)

wide_letter : (b : ℕ) → 128 ≤ b → is_ascii_alphabetic b ≡ false
wide_letter b w = grind (arith, nat_tests)

wide_digit : (b : ℕ) → 128 ≤ b → is_ascii_digit b ≡ false
wide_digit b w = grind (arith, nat_tests)

wide_alphanumeric : (b : ℕ) → 128 ≤ b → is_ascii_alphanumeric b ≡ false
wide_alphanumeric b w = grind (arith, nat_tests)

wide_quotable : (b : ℕ) → 128 ≤ b → is_quotable b ≡ false
wide_quotable b w = grind (arith, nat_tests)

wide_begin : (kind : Kind) (b : ℕ) → 128 ≤ b → accepts kind (begin b) ≡ false
wide_begin kind b w =
    rw (
      wide_is b 0x3D w (omega arith),
      wide_is b 0x2F w (omega arith),
      wide_is b 0x2A w (omega arith),
      wide_is b 0x28 w (omega arith),
      wide_is b 0x29 w (omega arith),
      wide_is b 0x5B w (omega arith),
      wide_is b 0x5D w (omega arith),
      wide_is b 0x22 w (omega arith),
      wide_is b 0x25 w (omega arith),
      wide_is b 0x3C w (omega arith),
      wide_is b 0x3B w (omega arith),
      wide_is b 0x20 w (omega arith),
      wide_is b 0x09 w (omega arith),
      wide_digit b w,
      wide_letter b w,
    ) refl

wide_number : (kind : Kind) (st : State) (base b : ℕ) → 128 ≤ b → (begun : Bool) → accepts kind (step (s.First base begun) b) ≡ false
wide_number kind st base b w true = rw (wide_alphanumeric b w, wide_is b 0x2E w (omega arith), wide_is b 0x2D w (omega arith)) refl
wide_number kind st base b w false = rw (wide_alphanumeric b w) refl

wide_series : (kind : Kind) (base b : ℕ) → 128 ≤ b → (begun : Bool) → accepts kind (step (s.Series base begun) b) ≡ false
wide_series kind base b w true = rw (wide_alphanumeric b w, wide_is b 0x2E w (omega arith)) refl
wide_series kind base b w false = rw (wide_alphanumeric b w) refl

-- A byte beyond ASCII ends nothing but a comment.
wide : (st : State) (kind : Kind) (b : ℕ) → 128 ≤ b → same k.Comment kind ≡ false → accepts kind (step st b) ≡ false
wide s.Start kind b w n = wide_begin kind b w
wide s.Name kind b w n = rw (wide_letter b w, wide_digit b w, wide_is b 0x2D w (omega arith)) refl
wide s.Equals kind b w n = rw (wide_is b 0x2F w (omega arith)) refl
wide s.Digits kind b w n = rw (wide_digit b w, wide_is b 0x2A w (omega arith)) refl
wide s.Star kind b w n = rw (wide_digit b w) refl
wide s.Percent kind b w n = cond_both (is_case_letter b) s.Marked (s.First (base_of b) false) (λ st. accepts kind st ≡ false) (λ e. refl) (λ e. refl)
wide s.Marked kind b w n = rw (wide_is b 0x22 w (omega arith)) refl
wide s.Quote kind b w n = rw (wide_quotable b w, wide_is b 0x22 w (omega arith)) refl
wide (s.First base begun) kind b w n = wide_number kind s.Start base b w begun
wide (s.Series base begun) kind b w n = wide_series kind base b w begun
wide (s.Range base begun) kind b w n = rw (wide_alphanumeric b w) refl
wide s.Prose kind b w n = rw (wide_is b 0x3E w (omega arith)) refl
wide s.Comment kind b w n = n
wide s.Blank kind b w n = rw (wide_is b 0x20 w (omega arith), wide_is b 0x09 w (omega arith)) refl
wide (s.Done j) kind b w n = refl
wide s.Dead kind b w n = refl

-- The last byte of a text in a class is ASCII, but for comments.
pub last_ascii : (st : State) (kind : Kind) (t : Text) (m : ℕ) → same k.Comment kind ≡ false → m < length t → accepts kind (run st (take (suc m) t)) ≡ true → get_or t m 0 < 128
last_ascii st kind [] m n lt is = absurd (omega arith)
last_ascii st kind (b ∷ bs) zero n lt is = ⊎_elim (λ small. small) (λ w. never (sym (wide st kind b w n) ∙ is)) (cases_lt b 128)
last_ascii st kind (b ∷ bs) (suc m) n lt is = last_ascii (step st b) kind bs m n (omega arith) is

-- A comment goes on to the end.
pub comment_end : (left : Text) (n : ℕ) → 0 < n → n < length left → is_in k.Comment (take n left) ≡ true → NoLonger n left → ⊥
comment_end [] n some lt is longest = omega arith
comment_end (b ∷ bs) zero some lt is longest = omega arith
comment_end (b ∷ bs) (suc n) some lt is longest = never (sym (longest k.Comment (suc (length bs)) (omega arith) (omega arith)) ∙ is)

cut_comment : (left : Text) (n : ℕ) → 0 < n → n ≤ length left → is_in k.Comment (take n left) ≡ true → NoLonger n left → IsCharBoundary left n
cut_comment left n some within is longest =
    ⊎_elim (λ lt. absurd (comment_end left n some lt is longest))
    (λ ge. let all : length left ≡ n = omega arith in subst (IsCharBoundary left) all (IsCharBoundary-end left)) (cases_lt n (length left))

cut_at : (kind : Kind) (left : Text) (n : ℕ) → same k.Comment kind ≡ false → IsUtf8 left → 0 < n → n ≤ length left → is_in kind (take n left) ≡ true → IsCharBoundary left n
cut_at kind left zero isnt utf8 some within is = absurd (omega arith)
cut_at kind left (suc m) isnt utf8 some within is =
    let ends : get_or left m 0 < 128 = last_ascii s.Start kind left m isnt (omega arith) (sym (class_is kind (take (suc m) left)) ∙ is) in
    let last : m + 1 ≡ suc m = omega arith in
    subst (IsCharBoundary left) last (IsCharBoundary-after_ascii left m utf8 (omega arith) ends)

pub cut : (kind : Kind) (left : Text) (n : ℕ) → IsUtf8 left → 0 < n → n ≤ length left → is_in kind (take n left) ≡ true → NoLonger n left → IsCharBoundary left n
cut k.Comment left n utf8 some within is longest = cut_comment left n some within is longest
cut kind left n utf8 some within is longest = cut_at kind left n refl utf8 some within is

pub found_cut : (left : Text) (f : Kind × ℕ) → IsUtf8 left → IsLongest (Some f) left → IsCharBoundary left f.1
found_cut left f utf8 l = cut f.0 left f.1 utf8 l.0 l.1 l.2 l.3

pub fits_class : (kind : Kind) (text left : Text) → is_in kind text ≡ true → NoLonger (length text) left → Fits kind text left
fits_class k.Bad text left is longest = never is
fits_class k.Name text left is longest = (is, longest)
fits_class kind text left is longest = (is, longest)

pub found_next : (left : Text) (f : Kind × ℕ) → IsLongest (Some f) left → IsNext f.0 (take f.1 left) left
found_next left f l =
    let long : length (take f.1 left) ≡ f.1 = length-take-le f.1 left l.1 in
    record {
      front = ap (λ m. take m left) (sym long);
      within = omega (arith, l.1);
      some = omega (arith, l.0);
      fits = fits_class f.0 (take f.1 left) left l.2 (subst (λ m. NoLonger m left) (sym long) l.3);
    }

-- The first byte of a character says its length.
lead_2 : (c : ℕ) → 128 ≤ c → c < 2048 → continuation_len (192 + c / 64) + 1 ≡ 2
lead_2 c low high = let a : 128 ≤ 192 + c / 64 = omega arith in let z : 192 + c / 64 < 224 = omega arith in rw (le-ltb _ _ a, lt-ltb _ _ z) refl

lead_3 : (c : ℕ) → 2048 ≤ c → c < 65536 → continuation_len (224 + c / 4096) + 1 ≡ 3
lead_3 c low high =
    let a : 128 ≤ 224 + c / 4096 = omega arith in
    let d : 224 ≤ 224 + c / 4096 = omega arith in
    let z : 224 + c / 4096 < 240 = omega arith in
    rw (le-ltb _ _ a, le-ltb _ _ d, lt-ltb _ _ z) refl

lead_4 : (c : ℕ) → continuation_len (240 + c / 262144) + 1 ≡ 4
lead_4 c =
    let a : 128 ≤ 240 + c / 262144 = omega arith in
    let d : 224 ≤ 240 + c / 262144 = omega arith in
    let z : 240 ≤ 240 + c / 262144 = omega arith in
    rw (le-ltb _ _ a, le-ltb _ _ d, le-ltb _ _ z) refl

head_2 : (c : ℕ) (rest : Text) → 128 ≤ c → c < 2048 → get_or (encode c ++ rest) 0 0 ≡ 192 + c / 64
unfolding encode
head_2 c rest low high = rw (le-ltb c 128 low, lt-ltb c 2048 high) refl

head_3 : (c : ℕ) (rest : Text) → 128 ≤ c → 2048 ≤ c → c < 65536 → get_or (encode c ++ rest) 0 0 ≡ 224 + c / 4096
unfolding encode
head_3 c rest a low high = rw (le-ltb c 128 a, le-ltb c 2048 low, lt-ltb c 65536 high) refl

head_4 : (c : ℕ) (rest : Text) → 128 ≤ c → 2048 ≤ c → 65536 ≤ c → get_or (encode c ++ rest) 0 0 ≡ 240 + c / 262144
unfolding encode
head_4 c rest a low high = rw (le-ltb c 128 a, le-ltb c 2048 low, le-ltb c 65536 high) refl

lead_1 : (c : ℕ) → c < 128 → continuation_len c + 1 ≡ 1
lead_1 c small = rw (lt-ltb c 128 small) refl

wide_lead : (c : ℕ) (rest : Text) → 128 ≤ c → continuation_len (get_or (encode c ++ rest) 0 0) + 1 ≡ len_utf8 c
wide_lead c rest a =
    ⊎_elim (λ small. ap (λ b. continuation_len b + 1) (head_2 c rest a small) ∙ lead_2 c a small ∙ sym (rw (le-ltb c 128 a, lt-ltb c 2048 small) refl))
    (λ d.
    ⊎_elim (λ small. ap (λ b. continuation_len b + 1) (head_3 c rest a d small) ∙ lead_3 c d small ∙ sym (rw (le-ltb c 128 a, le-ltb c 2048 d, lt-ltb c 65536 small) refl))
    (λ z. ap (λ b. continuation_len b + 1) (head_4 c rest a d z) ∙ lead_4 c ∙ sym (rw (le-ltb c 128 a, le-ltb c 2048 d, le-ltb c 65536 z) refl))
    (cases_lt c 65536))
    (cases_lt c 2048)

pub lead : (c : ℕ) (rest : Text) → continuation_len (get_or (encode c ++ rest) 0 0) + 1 ≡ len_utf8 c
lead c rest =
    ⊎_elim (λ small. ap (λ bs. continuation_len (get_or (bs ++ rest) 0 0) + 1) (encode_ascii c small) ∙ lead_1 c small ∙ sym (len_utf8_ascii c small))
    (wide_lead c rest) (cases_lt c 128)

-- the length of the first character
abbrev pub char_len : Text → ℕ
char_len left = continuation_len (get_or left 0 0) + 1

pub record FirstChar (left : Text) : Type 0 where
  pub cut : IsCharBoundary left (char_len left)
  pub within : char_len left ≤ length left

first_of : (left : Text) (cs : List ℕ) → IsUtf8 left → encodes cs ≡ left → 0 < length left → FirstChar left
first_of left [] utf8 e some = absurd (omega (arith, ap length e))
first_of left (c ∷ cs) utf8 e some =
    let is : left ≡ encode c ++ encodes cs = sym e in
    let len : char_len left ≡ len_utf8 c = ap char_len is ∙ lead c (encodes cs) in
    let start : 0 + len_utf8 c ≡ char_len left = omega arith in
    record {
      cut = subst (IsCharBoundary left) start (IsCharBoundary-past_char left (encodes cs) 0 c (omega arith) utf8 is);
      within = omega (arith, ap length is, length-append (encode c) (encodes cs), length-encode c);
    }

pub first_char : (left : Text) → IsUtf8 left → 0 < length left → FirstChar left
first_char left utf8 some = first_of left utf8.0 utf8 utf8.1.1 some

pub one_char : (left : Text) → char_len left ≤ length left → is_character (take (char_len left) left) ≡ true
one_char [] within = absurd (omega arith)
one_char (b ∷ bs) within =
    let long : length (take (continuation_len b) bs) ≡ continuation_len b = length-take-le (continuation_len b) bs (omega arith) in
    let more : continuation_len b + 1 ≡ suc (continuation_len b) = omega arith in
    subst (λ m. is_character (take m (b ∷ bs)) ≡ true) (sym more) (eq-eqb _ _ long)

pub bad_next_by : (left : Text) → char_len left ≤ length left → NoLonger 0 left → IsNext k.Bad (take (char_len left) left) left
bad_next_by left within none =
    let long : length (take (char_len left) left) ≡ char_len left = length-take-le (char_len left) left within in
    record {
      front = ap (λ m. take m left) (sym long);
      within = omega (arith, within);
      some = omega arith;
      fits = (one_char left within, none);
    }

pub bad_next : (left : Text) → FirstChar left → NoLonger 0 left → IsNext k.Bad (take (char_len left) left) left
bad_next left first none = bad_next_by left first.within none
