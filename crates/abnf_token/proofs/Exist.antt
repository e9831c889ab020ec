-- Each line has a list of tokens: behind each token characters follow, so that the next one is found.
use Rattle.std.proofs.Common.{◌≡◌, ℕ, zero, suc, ◌+◌, ◌^◌, ◌<◌, ◌≤◌, true, false, List, [], ◌∷◌, ◌++◌, length, take, drop, get_or, Option, Some, None, ⊎_elim, refl, sym, ap, subst, ◌∙◌, arith, length-append, length-take-le}
use Rattle.std.specs.Str.{encode_utf8_all, IsUtf8}
use Rattle.std.proofs.lemmas.Bool.{le-ltb, lt-ltb, cases_lt}
use Rattle.std.proofs.lemmas.List.{length-drop}
use Rattle.std.proofs.lemmas.Str.{length-encode, encode_ascii}
use lib.Utf8.{encode, encodes}
use Rattle.abnf_token.specs.declared.token.Kind.{Kind}
use Rattle.abnf_token.specs.declared.token.Kind.TheVariants as k
use Rattle.abnf_token.specs.declared.token.Token.{Token}
use Rattle.abnf_token.specs.declared.machine.State.TheVariants as s
use Rattle.abnf_token.specs.Classes.{Text, is_in}
use Rattle.abnf_token.specs.Tokens.{NoLonger, IsNext, TokensOf}
use Rattle.abnf_token.specs.own.Machine.{munch}
use Rattle.abnf_token.proofs.Language.{same, class_is}
use Rattle.abnf_token.proofs.Longest.{IsLongest, longest}
use Rattle.abnf_token.proofs.Cuts.{last_ascii, comment_end, found_next, lead, char_len, bad_next_by}

-- ---- behind a byte of ASCII a character begins, whatever the characters are

abbrev AreWide : Text → Type 0
AreWide [] = Unit {0}
AreWide (b ∷ bs) = (128 ≤ b) × AreWide bs

wide_encode : (c : ℕ) → 128 ≤ c → AreWide (encode c)
unfolding encode
wide_encode c w =
    ⊎_elim (λ small. rw (le-ltb c 128 w, lt-ltb c 2048 small) (omega arith, (omega arith, tt)))
    (λ d.
    ⊎_elim (λ small. rw (le-ltb c 128 w, le-ltb c 2048 d, lt-ltb c 65536 small) (omega arith, (omega arith, (omega arith, tt))))
    (λ z. rw (le-ltb c 128 w, le-ltb c 2048 d, le-ltb c 65536 z) (omega arith, (omega arith, (omega arith, (omega arith, tt)))))
    (cases_lt c 65536))
    (cases_lt c 2048)

-- the characters that stand behind
abbrev pub Behind : Text → Type 0
Behind left = (cs : List ℕ) × (encodes cs ≡ left)

record AsciiIn (rest after : Text) : Type 0 where
  at : ℕ
  within : at < length rest
  small : get_or rest at 0 < 128
  same_after : after ≡ drop (suc at) rest

ascii_in : (ws rest : Text) (m : ℕ) → AreWide ws → m < length (ws ++ rest) → get_or (ws ++ rest) m 0 < 128 → AsciiIn rest (drop (suc m) (ws ++ rest))
ascii_in [] rest m wide lt small = record { at = m; within = lt; small = small; same_after = refl }
ascii_in (w ∷ ws) rest zero wide lt small = absurd (omega (arith, wide.0))
ascii_in (w ∷ ws) rest (suc m) wide lt small = ascii_in ws rest m wide.1 (omega arith) small

abbrev CutsIn : Text → Type 0
CutsIn text = (m : ℕ) → m < length text → get_or text m 0 < 128 → Behind (drop (suc m) text)

cuts_one : (c : ℕ) (cs : List ℕ) → CutsIn (encodes cs) → CutsIn (c ∷ encodes cs)
cuts_one c cs cuts zero lt small = (cs, refl)
cuts_one c cs cuts (suc m) lt small = cuts m (omega arith) small

cuts_wide : (c : ℕ) (cs : List ℕ) → 128 ≤ c → CutsIn (encodes cs) → CutsIn (encode c ++ encodes cs)
cuts_wide c cs wide cuts m lt small =
    let a = ascii_in (encode c) (encodes cs) m (wide_encode c wide) lt small in
    let b = cuts a.at a.within a.small in
    (b.0, b.1 ∙ sym a.same_after)

ascii_cut : (cs : List ℕ) → CutsIn (encodes cs)
ascii_cut [] m lt small = absurd (omega arith)
ascii_cut (c ∷ cs) m lt small =
    ⊎_elim (λ narrow. subst (λ xs. CutsIn (xs ++ encodes cs)) (sym (encode_ascii c narrow)) (cuts_one c cs (ascii_cut cs)) m lt small)
    (λ wide. cuts_wide c cs wide (ascii_cut cs) m lt small) (cases_lt c 128)

-- ---- the next token, and the characters behind it

record Step (left : Text) : Type 0 where
  kind : Kind
  text : Text
  next : IsNext kind text left
  behind : Behind (drop (length text) left)

drop_all : (n : ℕ) (t : Text) → length t ≤ n → drop n t ≡ []
drop_all zero [] le = refl
drop_all zero (b ∷ bs) le = absurd (omega arith)
drop_all (suc n) [] le = refl
drop_all (suc n) (b ∷ bs) le = drop_all n bs (omega arith)

behind_class : (kind : Kind) (cs : List ℕ) (n : ℕ) → same k.Comment kind ≡ false → 0 < n → n ≤ length (encodes cs) → is_in kind (take n (encodes cs)) ≡ true → Behind (drop n (encodes cs))
behind_class kind cs zero isnt some within is = absurd (omega arith)
behind_class kind cs (suc m) isnt some within is =
    ascii_cut cs m (omega arith) (last_ascii s.Start kind (encodes cs) m isnt (omega arith) (sym (class_is kind (take (suc m) (encodes cs))) ∙ is))

behind_comment : (left : Text) (n : ℕ) → 0 < n → is_in k.Comment (take n left) ≡ true → NoLonger n left → Behind (drop n left)
behind_comment left n some is none =
    ⊎_elim (λ lt. absurd (comment_end left n some lt is none)) (λ ge. ([], sym (drop_all n left ge))) (cases_lt n (length left))

behind_found : (kind : Kind) (cs : List ℕ) (n : ℕ) → 0 < n → n ≤ length (encodes cs) → is_in kind (take n (encodes cs)) ≡ true → NoLonger n (encodes cs) → Behind (drop n (encodes cs))
behind_found k.Comment cs n some within is none = behind_comment (encodes cs) n some is none
behind_found kind cs n some within is none = behind_class kind cs n refl some within is

drop_front : (xs ys : Text) → drop (length xs) (xs ++ ys) ≡ ys
drop_front [] ys = refl
drop_front (x ∷ xs) ys = drop_front xs ys

with_len : (left : Text) (kind : Kind) (n : ℕ) → n ≤ length left → IsNext kind (take n left) left → Behind (drop n left) → Step left
with_len left kind n within next behind = record {
  kind = kind;
  text = take n left;
  next = next;
  behind = subst (λ m. Behind (drop m left)) (sym (length-take-le n left within)) behind;
}

next_step : (cs : List ℕ) (r : Option (Kind × ℕ)) → IsLongest r (encodes cs) → 0 < length (encodes cs) → Step (encodes cs)
next_step cs (Some f) l some = with_len (encodes cs) f.0 f.1 l.1 (found_next (encodes cs) f l) (behind_found f.0 cs f.1 l.0 l.1 l.2 l.3)
next_step [] None l some = absurd (omega arith)
next_step (c ∷ cs) None l some =
    let left = encode c ++ encodes cs in
    let len : char_len left ≡ length (encode c) = lead c (encodes cs) ∙ sym (length-encode c) in
    let within : char_len left ≤ length left = omega (arith, len, length-append (encode c) (encodes cs)) in
    with_len left k.Bad (char_len left) within (bad_next_by left within l) (cs, sym (ap (λ n. drop n left) len ∙ drop_front (encode c) (encodes cs)))

some_tokens : (fuel line start : ℕ) (left : Text) → Behind left → length left ≤ fuel → start + length left < 2 ^ 64 → (ts : List Token) × TokensOf line start left ts
some_tokens fuel line start [] is enough small = ([], refl)
some_tokens zero line start (b ∷ bs) is enough small = absurd (omega arith)
some_tokens (suc fuel) line start (b ∷ bs) is enough small =
    let left = b ∷ bs in
    let step : Step left = subst Step is.1 (next_step is.0 (munch s.Start 0 None (encodes is.0)) (longest (encodes is.0)) (omega (arith, ap length is.1))) in
    let len = length step.text in
    let t : Token = record { kind = step.kind; text = record { ref_ptr = (0, 0); now = step.text }; line = line; start = start; in_line = omega (arith, small, step.next.within) } in
    let shorter : length (drop len left) + len ≡ length left = omega (arith, length-drop len left, step.next.within) in
    let rest = some_tokens fuel line (start + len) (drop len left) step.behind (omega (arith, shorter, enough, step.next.some)) (omega (arith, shorter, small)) in
    (t ∷ rest.0, (record { next = step.next; line = refl; start = refl }, rest.1))

-- Each line has a list of tokens.
pub tokens_of : (line : ℕ) (cs : List ℕ) → length (encode_utf8_all cs) < 2 ^ 64 → (ts : List Token) × TokensOf line 0 (encode_utf8_all cs) ts
tokens_of line cs small = some_tokens (length (encode_utf8_all cs)) line 0 (encode_utf8_all cs) (cs, refl) (omega arith) (omega (arith, small))

-- the same of bytes of UTF-8
pub utf8_tokens : (line : ℕ) (text : Text) → IsUtf8 text → length text < 2 ^ 64 → (ts : List Token) × TokensOf line 0 text ts
utf8_tokens line text utf8 small =
    let found = tokens_of line utf8.0 (omega (arith, small, ap length utf8.1.1)) in
    (found.0, subst (λ t. TokensOf line 0 t found.0) utf8.1.1 found.1)

-- A longer line has none, since each token ends below 2^64.
short_from : (line start : ℕ) (left : Text) (ts : List Token) → TokensOf line start left ts → 0 < length left → start + length left < 2 ^ 64
short_from line start left [] p some = absurd (omega (arith, ap length p, some))
short_from line start left (t ∷ ts) p some =
    let len = length t.text.now in
    let gone = length-drop len left in
    ⊎_elim
    (λ more. omega (arith, gone, more, short_from line (start + len) (drop len left) ts p.1 (omega (arith, gone, more))))
    (λ all. omega (arith, t.in_line, p.0.start, all))
    (cases_lt len (length left))

pub short_line : (line : ℕ) (text : Text) (ts : List Token) → TokensOf line 0 text ts → length text < 2 ^ 64
short_line line text ts p =
    ⊎_elim (λ some. omega (arith, short_from line 0 text ts p some)) (λ none. omega (arith, none)) (cases_lt 0 (length text))
