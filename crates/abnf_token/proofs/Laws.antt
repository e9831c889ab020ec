-- No text is in two classes, and a text has one list of tokens.
use Rattle.std.proofs.Common.{◌≡◌, ℕ, ◌+◌, ◌<◌, true, List, [], ◌∷◌, ◌++◌, length, take, drop, get_or, Option, Some, None, ⊎_elim, refl, sym, ap, ap₂, subst, ◌∙◌, arith}
use Rattle.std.specs.Prelude.{nat_eq, if◌then◌else◌}
use Rattle.abnf_token.specs.declared.token.Token.{Token}
use Rattle.std.proofs.lemmas.Bool.{eqb-true, cases_order}
use Rattle.std.proofs.lemmas.List.{drop-drop, take-append-drop}
use Rattle.std.specs.Str.{continuation_len}
use Rattle.abnf_token.specs.declared.token.Kind.{Kind}
use Rattle.abnf_token.specs.declared.token.Kind.TheVariants as k
use Rattle.abnf_token.specs.declared.machine.State.TheVariants as s
use Rattle.abnf_token.specs.Classes.{Text, is_in, is_character}
use Rattle.abnf_token.specs.Tokens.{NoLonger, IsNext, Fits, TokensOf, AreApart, HasOneAnswer, AreSlices, HasSlices, joined_tokens, HasJoin, GivesToken, GivesTokensOf, view}
use Rattle.abnf_token.specs.own.Machine.{accepted, run}
use Rattle.abnf_token.specs.Rest.{Rest}
use Rattle.std.specs.Iterator.{Yields}
use Rattle.abnf_token.proofs.Language.{tag, same, is_kind, class_is}
use Rattle.abnf_token.proofs.Cuts.{never, char_len}

abbrev kind_from : ℕ → Kind
kind_from n =
    if nat_eq n 0 then k.Name else (if nat_eq n 1 then k.Defines else (if nat_eq n 2 then k.Adds else (if nat_eq n 3 then k.Slash
    else (if nat_eq n 4 then k.Repeat else (if nat_eq n 5 then k.ParenL else (if nat_eq n 6 then k.ParenR else (if nat_eq n 7 then k.BracketL
    else (if nat_eq n 8 then k.BracketR else (if nat_eq n 9 then k.Quoted else (if nat_eq n 10 then k.Number else (if nat_eq n 11 then k.Prose
    else (if nat_eq n 12 then k.Comment else (if nat_eq n 13 then k.Blank else k.Bad)))))))))))))

tag_back : (kind : Kind) → kind_from (tag kind) ≡ kind
tag_back k.Name = refl
tag_back kind = refl

pub same_kind : (j kind : Kind) → same j kind ≡ true → j ≡ kind
same_kind j kind e = sym (tag_back j) ∙ ap kind_from (eqb-true (tag j) (tag kind) e) ∙ tag_back kind

both_kinds : (o : Option Kind) (j kind : Kind) → is_kind j o ≡ true → is_kind kind o ≡ true → j ≡ kind
both_kinds None j kind x y = never x
both_kinds (Some i) j kind x y = sym (same_kind i j x) ∙ same_kind i kind y

pub apart : AreApart
apart j kind text x y = both_kinds (accepted (run s.Start text)) j kind (sym (class_is j text) ∙ x) (sym (class_is kind text) ∙ y)

pub data Fitting : Kind → Text → Text → Type 0 where
  in_class : {kind : Kind} {text left : Text} → is_in kind text ≡ true → NoLonger (length text) left → Fitting kind text left
  is_bad : {kind : Kind} {text left : Text} → kind ≡ k.Bad → is_character text ≡ true → NoLonger 0 left → Fitting kind text left

pub fitting : (kind : Kind) (text left : Text) → Fits kind text left → Fitting kind text left
fitting k.Bad text left f = is_bad refl f.0 f.1
fitting k.Name text left f = in_class f.0 f.1
fitting kind text left f = in_class f.0 f.1

-- the length of a character that is a front of the text
pub front_len : (text left : Text) → 0 < length text → text ≡ take (length text) left → is_character text ≡ true → length text ≡ char_len left
front_len [] left some front is = never is
front_len (b ∷ bs) [] some front is = absurd (omega (arith, ap length front))
front_len (b ∷ bs) (c ∷ cs) some front is =
    let first : b ≡ c = ap (λ l. get_or l 0 0) front in
    let more : continuation_len b ≡ continuation_len c = ap continuation_len first in
    omega (arith, eqb-true (length bs) (continuation_len b) is, more)

pub record SameNext (j kind : Kind) (x y : Text) : Type 0 where
  pub kinds : j ≡ kind
  pub texts : x ≡ y

contradiction : (j kind : Kind) (x y left : Text) (n : ℕ) → IsNext kind y left → n < length y → NoLonger n left → is_in kind y ≡ true → ⊥
contradiction j kind x y left n next lt none is =
    never (sym (none kind (length y) lt next.within) ∙ ap (is_in kind) (sym next.front) ∙ is)

same_texts : (x y left : Text) → x ≡ take (length x) left → y ≡ take (length y) left → length x ≡ length y → x ≡ y
same_texts x y left p q e = p ∙ ap (λ m. take m left) e ∙ sym q

one_by : (j kind : Kind) (x y left : Text) → IsNext j x left → IsNext kind y left → Fitting j x left → Fitting kind y left → SameNext j kind x y
one_by j kind x y left p q (in_class a la) (in_class b lb) =
    ⊎_elim (λ e. let t : x ≡ y = same_texts x y left p.front q.front e in record { kinds = apart j kind y (subst (λ z. is_in j z ≡ true) t a) b; texts = t })
    (λ d. ⊎_elim (λ lt. absurd (contradiction j kind x y left (length x) q lt la b)) (λ gt. absurd (contradiction kind j y x left (length y) p gt lb a)) d)
    (cases_order (length x) (length y))
one_by j kind x y left p q (in_class a la) (is_bad e b lb) = absurd (contradiction kind j y x left 0 p p.some lb a)
one_by j kind x y left p q (is_bad e a la) (in_class b lb) = absurd (contradiction j kind x y left 0 q q.some la b)
one_by j kind x y left p q (is_bad d a la) (is_bad e b lb) = record {
  kinds = d ∙ sym e;
  texts = same_texts x y left p.front q.front (front_len x left p.some p.front a ∙ sym (front_len y left q.some q.front b));
}

pub one_next : (j kind : Kind) (x y left : Text) → IsNext j x left → IsNext kind y left → SameNext j kind x y
one_next j kind x y left p q = one_by j kind x y left p q (fitting j x left p.fits) (fitting kind y left q.fits)

pub one_answer : (left : Text) → HasOneAnswer left
one_answer left line start [] [] p q = refl
one_answer left line start [] (u ∷ us) p q = absurd (omega (arith, ap length p, q.0.next.some, q.0.next.within))
one_answer left line start (t ∷ ts) [] p q = absurd (omega (arith, ap length q, p.0.next.some, p.0.next.within))
one_answer left line start (t ∷ ts) (u ∷ us) p q =
    let one = one_next t.kind u.kind t.text.now u.text.now left p.0.next q.0.next in
    let long : length u.text.now ≡ length t.text.now = ap length (sym one.texts) in
    let heads : view t ≡ view u = λ i. (one.kinds i, one.texts i, (p.0.line ∙ sym q.0.line) i, (p.0.start ∙ sym q.0.start) i) in
    let q2 : TokensOf line (start + length t.text.now) (drop (length t.text.now) left) us = subst (λ n. TokensOf line (start + n) (drop n left) us) long q.1 in
    ap₂ (λ h l. h ∷ l) heads (one_answer (drop (length t.text.now) left) line (start + length t.text.now) ts us p.1 q2)

slices_from : (whole : Text) (line start : ℕ) (ts : List Token) → TokensOf line start (drop start whole) ts → AreSlices whole ts
slices_from whole line start [] p = tt
slices_from whole line start (t ∷ ts) p =
    let len = length t.text.now in
    let rest : TokensOf line (start + len) (drop (start + len) whole) ts = subst (λ l. TokensOf line (start + len) l ts) (drop-drop len start whole) p.1 in
    (p.0.next.front ∙ ap (λ n. take len (drop n whole)) (sym p.0.start), slices_from whole line (start + len) ts rest)

pub slices : (whole : Text) → HasSlices whole
slices whole line ts p = slices_from whole line 0 ts p

joined_from : (left : Text) (line start : ℕ) (ts : List Token) → TokensOf line start left ts → joined_tokens ts ≡ left
joined_from left line start [] p = sym p
joined_from left line start (t ∷ ts) p =
    ap₂ (λ x y. x ++ y) p.0.next.front (joined_from (drop (length t.text.now) left) line (start + length t.text.now) ts p.1)
    ∙ take-append-drop (length t.text.now) left

pub all_joined : (whole : Text) → HasJoin whole
all_joined whole line ts p = joined_from whole line 0 ts p

-- Calls up to `None` give the tokens of what is left.
given : (rest end last : Rest) (ts : List Token) → Yields GivesToken rest ts end → GivesToken end None last → TokensOf rest.line rest.start rest.text ts
given rest end last [] same_as none = ap (λ r. r.text) same_as ∙ none.0
given rest end last (t ∷ ts) y none =
    let len = length t.text.now in
    (y.1.0, subst (λ r. TokensOf r.line r.start r.text ts) y.1.1 (given y.0 end last ts y.2 none))

pub gives_all : (rest : Rest) → GivesTokensOf rest
gives_all rest ts d = given rest d.1.0 d.0 ts d.1.1 d.1.2
