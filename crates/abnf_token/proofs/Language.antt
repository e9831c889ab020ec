-- The machine accepts just the classes.
use Rattle.std.proofs.Common.{◌≡◌, ℕ, Bool, true, false, ◌&&◌, [], ◌∷◌, Option, Some, None, refl, sym, ap, subst, ◌∙◌, arith, ⊎_elim}
use Rattle.std.specs.Prelude.{nat_eq, if◌then◌else◌}
use Rattle.std.specs.List.{list_all}
use Rattle.std.specs.Char.{is_ascii_alphabetic, is_ascii_digit, is_ascii_alphanumeric, to_ascii_lowercase, digit_value}
use Rattle.std.proofs.lemmas.Bool.{cond_both, or_cases, eqb-true, le-ltb}
use Rattle.std.proofs.lemmas.Bool.Decides.{nat_tests}
use Rattle.abnf_token.specs.declared.token.Kind.{Kind}
use Rattle.abnf_token.specs.declared.token.Kind.TheVariants as k
use Rattle.abnf_token.specs.declared.machine.State.{State}
use Rattle.abnf_token.specs.declared.machine.State.TheVariants as s
use Rattle.abnf_token.specs.Classes.{Text, is_in, is_text, is_name_byte, is_blank_byte, is_quotable, is_prose_rest, is_repeat_rest, is_quoted_rest, is_quotation, is_case_letter, is_case_quotation, base_of, is_digit, is_digits, is_series, is_number_rest, is_based}
use Rattle.abnf_token.specs.own.Machine.{begin, accepted, run}

abbrev pub tag : Kind → ℕ
tag k.Name = 0
tag k.Defines = 1
tag k.Adds = 2
tag k.Slash = 3
tag k.Repeat = 4
tag k.ParenL = 5
tag k.ParenR = 6
tag k.BracketL = 7
tag k.BracketR = 8
tag k.Quoted = 9
tag k.Number = 10
tag k.Prose = 11
tag k.Comment = 12
tag k.Blank = 13
tag k.Bad = 14

abbrev pub same : Kind → Kind → Bool
same j kind = nat_eq (tag j) (tag kind)

abbrev pub is_kind : Kind → Option Kind → Bool
is_kind kind None = false
is_kind kind (Some j) = same j kind

abbrev pub accepts : Kind → State → Bool
accepts kind st = is_kind kind (accepted st)

pub and_false : (a : Bool) → a && false ≡ false
and_false true = refl
and_false false = refl

pub and_true : (a : Bool) → a && true ≡ a
and_true true = refl
and_true false = refl

pub dead : (kind : Kind) (t : Text) → accepts kind (run s.Dead t) ≡ false
dead kind [] = refl
dead kind (b ∷ bs) = dead kind bs

fork : (c a x y : Bool) (kind : Kind) (st other : State) (bs : Text) → accepts kind (run st bs) ≡ a && x → accepts kind (run other bs) ≡ a && y → accepts kind (run (if c then st else other) bs) ≡ a && (if c then x else y)
fork true a x y kind st other bs h g = h
fork false a x y kind st other bs h g = g

keep : (c a x : Bool) (kind : Kind) (st : State) (bs : Text) → accepts kind (run st bs) ≡ a && x → accepts kind (run (if c then st else s.Dead) bs) ≡ a && (c && x)
keep true a x kind st bs h = h
keep false a x kind st bs h = dead kind bs ∙ sym (and_false a)

done : (kind j : Kind) (t : Text) → accepts kind (run (s.Done j) t) ≡ same j kind && is_text [] t
done kind j [] = sym (and_true (same j kind))
done kind j (b ∷ bs) = dead kind bs ∙ sym (and_false (same j kind))

name : (kind : Kind) (t : Text) → accepts kind (run s.Name t) ≡ same k.Name kind && list_all is_name_byte t
name kind [] = sym (and_true (same k.Name kind))
name kind (b ∷ bs) = keep (is_name_byte b) (same k.Name kind) (list_all is_name_byte bs) kind s.Name bs (name kind bs)

blank : (kind : Kind) (t : Text) → accepts kind (run s.Blank t) ≡ same k.Blank kind && list_all is_blank_byte t
blank kind [] = sym (and_true (same k.Blank kind))
blank kind (b ∷ bs) = keep (is_blank_byte b) (same k.Blank kind) (list_all is_blank_byte bs) kind s.Blank bs (blank kind bs)

comment : (kind : Kind) (t : Text) → accepts kind (run s.Comment t) ≡ same k.Comment kind
comment kind [] = refl
comment kind (b ∷ bs) = comment kind bs

star : (kind : Kind) (t : Text) → accepts kind (run s.Star t) ≡ same k.Repeat kind && list_all is_ascii_digit t
star kind [] = sym (and_true (same k.Repeat kind))
star kind (b ∷ bs) = keep (is_ascii_digit b) (same k.Repeat kind) (list_all is_ascii_digit bs) kind s.Star bs (star kind bs)

digits : (kind : Kind) (t : Text) → accepts kind (run s.Digits t) ≡ same k.Repeat kind && is_repeat_rest t
digits kind [] = sym (and_true (same k.Repeat kind))
digits kind (b ∷ bs) =
    fork (is_ascii_digit b) (same k.Repeat kind) _ _ kind s.Digits _ bs (digits kind bs)
    (keep (nat_eq b 0x2A) (same k.Repeat kind) (list_all is_ascii_digit bs) kind s.Star bs (star kind bs))

quote : (kind : Kind) (t : Text) → accepts kind (run s.Quote t) ≡ same k.Quoted kind && is_quoted_rest t
quote kind [] = sym (and_false (same k.Quoted kind))
quote kind (b ∷ bs) =
    fork (nat_eq b 0x22) (same k.Quoted kind) _ _ kind (s.Done k.Quoted) _ bs (done kind k.Quoted bs)
    (keep (is_quotable b) (same k.Quoted kind) (is_quoted_rest bs) kind s.Quote bs (quote kind bs))

quotation : (kind : Kind) (t : Text) → accepts kind (run s.Marked t) ≡ same k.Quoted kind && is_quotation t
quotation kind [] = sym (and_false (same k.Quoted kind))
quotation kind (b ∷ bs) = keep (nat_eq b 0x22) (same k.Quoted kind) (is_quoted_rest bs) kind s.Quote bs (quote kind bs)

prose : (kind : Kind) (t : Text) → accepts kind (run s.Prose t) ≡ same k.Prose kind && is_prose_rest t
prose kind [] = sym (and_false (same k.Prose kind))
prose kind (b ∷ bs) = fork (nat_eq b 0x3E) (same k.Prose kind) _ _ kind (s.Done k.Prose) s.Prose bs (done kind k.Prose bs) (prose kind bs)

begun_is : (kind : Kind) (begun : Bool) → is_kind kind (if begun then Some k.Number else None) ≡ same k.Number kind && begun
begun_is kind true = sym (and_true (same k.Number kind))
begun_is kind false = sym (and_false (same k.Number kind))

range : (kind : Kind) (base : ℕ) (begun : Bool) (t : Text) → accepts kind (run (s.Range base begun) t) ≡ same k.Number kind && is_digits base begun t
range kind base begun [] = begun_is kind begun
range kind base begun (b ∷ bs) = keep (is_digit base b) (same k.Number kind) (is_digits base true bs) kind (s.Range base true) bs (range kind base true bs)

series : (kind : Kind) (base : ℕ) (begun : Bool) (t : Text) → accepts kind (run (s.Series base begun) t) ≡ same k.Number kind && is_series base begun t
series kind base begun [] = begun_is kind begun
series kind base begun (b ∷ bs) =
    fork (is_digit base b) (same k.Number kind) _ _ kind (s.Series base true) _ bs (series kind base true bs)
    (keep begun (same k.Number kind) _ kind _ bs
    (keep (nat_eq b 0x2E) (same k.Number kind) (is_series base false bs) kind (s.Series base false) bs (series kind base false bs)))

first : (kind : Kind) (base : ℕ) (begun : Bool) (t : Text) → accepts kind (run (s.First base begun) t) ≡ same k.Number kind && is_number_rest base begun t
first kind base begun [] = begun_is kind begun
first kind base begun (b ∷ bs) =
    fork (is_digit base b) (same k.Number kind) _ _ kind (s.First base true) _ bs (first kind base true bs)
    (keep begun (same k.Number kind) _ kind _ bs
    (fork (nat_eq b 0x2E) (same k.Number kind) _ _ kind (s.Series base false) _ bs (series kind base false bs)
    (keep (nat_eq b 0x2D) (same k.Number kind) (is_digits base false bs) kind (s.Range base false) bs (range kind base false bs))))

equals : (kind : Kind) (t : Text) → accepts kind (run s.Equals t) ≡ (if same k.Adds kind then is_text (0x2F ∷ []) t else (same k.Defines kind && is_text [] t))
equals k.Adds [] = refl
equals kind [] = refl
equals k.Adds (b ∷ bs) = keep (nat_eq b 0x2F) true _ k.Adds (s.Done k.Adds) bs (done k.Adds k.Adds bs)
equals kind (b ∷ bs) = keep (nat_eq b 0x2F) (same k.Adds kind) (is_text [] bs) kind (s.Done k.Adds) bs (done kind k.Adds bs)

-- a letter that marks a quotation gives no base
abbrev base_from : ℕ → ℕ
base_from b = if nat_eq b 0x62 then 2 else (if nat_eq b 0x64 then 10 else (if nat_eq b 0x78 then 16 else 0))

no_base : (b : ℕ) → is_case_letter b ≡ true → base_of b ≡ 0
no_base b e = ⊎_elim (λ i. ap base_from (eqb-true (to_ascii_lowercase b) 0x69 i)) (λ m. ap base_from (eqb-true (to_ascii_lowercase b) 0x73 m)) (or_cases _ _ e)

none_of : (bs : Text) → is_number_rest 0 false bs ≡ false
none_of [] = refl
none_of (b ∷ bs) = rw (le-ltb (digit_value b) 0 (omega arith), and_false (is_ascii_alphanumeric b)) refl

percent_number : (b : ℕ) (bs : Text) → accepts k.Number (run (if is_case_letter b then s.Marked else s.First (base_of b) false) bs) ≡ is_number_rest (base_of b) false bs
percent_number b bs =
    cond_both (is_case_letter b) s.Marked (s.First (base_of b) false) (λ st. accepts k.Number (run st bs) ≡ is_number_rest (base_of b) false bs)
    (λ e. quotation k.Number bs ∙ sym (none_of bs) ∙ ap (λ base. is_number_rest base false bs) (sym (no_base b e)))
    (λ e. first k.Number (base_of b) false bs)

pick : (c x : Bool) (kind : Kind) (st other : State) (bs : Text) → accepts kind (run st bs) ≡ x → accepts kind (run other bs) ≡ false → accepts kind (run (if c then st else other) bs) ≡ c && x
pick true x kind st other bs h g = h
pick false x kind st other bs h g = g

percent : (kind : Kind) (t : Text) → accepts kind (run s.Percent t) ≡ (if same k.Quoted kind then is_case_quotation t else (same k.Number kind && is_based t))
percent k.Quoted [] = refl
percent kind [] = refl
percent k.Quoted (b ∷ bs) = pick (is_case_letter b) (is_quotation bs) k.Quoted s.Marked (s.First (base_of b) false) bs (quotation k.Quoted bs) (first k.Quoted (base_of b) false bs)
percent k.Number (b ∷ bs) = percent_number b bs
percent kind (b ∷ bs) =
    pick (is_case_letter b) false kind s.Marked (s.First (base_of b) false) bs (quotation kind bs) (first kind (base_of b) false bs)
    ∙ and_false (is_case_letter b)

-- the first byte
on_equals : (kind : Kind) (bs : Text) → is_in kind (0x3D ∷ bs) ≡ accepts kind (run s.Equals bs)
on_equals k.Adds bs = sym (equals k.Adds bs)
on_equals kind bs = sym (equals kind bs)

on_slash : (kind : Kind) (bs : Text) → is_in kind (0x2F ∷ bs) ≡ accepts kind (run (s.Done k.Slash) bs)
on_slash k.Slash bs = sym (done k.Slash k.Slash bs)
on_slash kind bs = sym (done kind k.Slash bs)

on_star : (kind : Kind) (bs : Text) → is_in kind (0x2A ∷ bs) ≡ accepts kind (run s.Star bs)
on_star k.Repeat bs = sym (star k.Repeat bs)
on_star kind bs = sym (star kind bs)

on_paren_l : (kind : Kind) (bs : Text) → is_in kind (0x28 ∷ bs) ≡ accepts kind (run (s.Done k.ParenL) bs)
on_paren_l k.ParenL bs = sym (done k.ParenL k.ParenL bs)
on_paren_l kind bs = sym (done kind k.ParenL bs)

on_paren_r : (kind : Kind) (bs : Text) → is_in kind (0x29 ∷ bs) ≡ accepts kind (run (s.Done k.ParenR) bs)
on_paren_r k.ParenR bs = sym (done k.ParenR k.ParenR bs)
on_paren_r kind bs = sym (done kind k.ParenR bs)

on_bracket_l : (kind : Kind) (bs : Text) → is_in kind (0x5B ∷ bs) ≡ accepts kind (run (s.Done k.BracketL) bs)
on_bracket_l k.BracketL bs = sym (done k.BracketL k.BracketL bs)
on_bracket_l kind bs = sym (done kind k.BracketL bs)

on_bracket_r : (kind : Kind) (bs : Text) → is_in kind (0x5D ∷ bs) ≡ accepts kind (run (s.Done k.BracketR) bs)
on_bracket_r k.BracketR bs = sym (done k.BracketR k.BracketR bs)
on_bracket_r kind bs = sym (done kind k.BracketR bs)

on_quote : (kind : Kind) (bs : Text) → is_in kind (0x22 ∷ bs) ≡ accepts kind (run s.Quote bs)
on_quote k.Quoted bs = sym (quote k.Quoted bs)
on_quote kind bs = sym (quote kind bs)

on_percent : (kind : Kind) (bs : Text) → is_in kind (0x25 ∷ bs) ≡ accepts kind (run s.Percent bs)
on_percent k.Quoted bs = sym (percent k.Quoted bs)
on_percent kind bs = sym (percent kind bs)

on_prose : (kind : Kind) (bs : Text) → is_in kind (0x3C ∷ bs) ≡ accepts kind (run s.Prose bs)
on_prose k.Prose bs = sym (prose k.Prose bs)
on_prose kind bs = sym (prose kind bs)

on_comment : (kind : Kind) (bs : Text) → is_in kind (0x3B ∷ bs) ≡ accepts kind (run s.Comment bs)
on_comment k.Comment bs = sym (comment k.Comment bs)
on_comment kind bs = sym (comment kind bs)

on_space : (kind : Kind) (bs : Text) → is_in kind (0x20 ∷ bs) ≡ accepts kind (run s.Blank bs)
on_space k.Blank bs = sym (blank k.Blank bs)
on_space kind bs = sym (blank kind bs)

on_tab : (kind : Kind) (bs : Text) → is_in kind (0x09 ∷ bs) ≡ accepts kind (run s.Blank bs)
on_tab k.Blank bs = sym (blank k.Blank bs)
on_tab kind bs = sym (blank kind bs)

pub record Elsewhere (b : ℕ) : Type 0 where
  pub equals : nat_eq b 0x3D ≡ false
  pub slash : nat_eq b 0x2F ≡ false
  pub star : nat_eq b 0x2A ≡ false
  pub paren_l : nat_eq b 0x28 ≡ false
  pub paren_r : nat_eq b 0x29 ≡ false
  pub bracket_l : nat_eq b 0x5B ≡ false
  pub bracket_r : nat_eq b 0x5D ≡ false
  pub quote : nat_eq b 0x22 ≡ false
  pub percent : nat_eq b 0x25 ≡ false
  pub angle : nat_eq b 0x3C ≡ false
  pub semicolon : nat_eq b 0x3B ≡ false
  pub space : nat_eq b 0x20 ≡ false
  pub tab : nat_eq b 0x09 ≡ false

if_and : (c x : Bool) → (if c then x else false) ≡ c && x
if_and true x = refl
if_and false x = refl

others : (kind : Kind) (b : ℕ) (bs : Text) → Elsewhere b → is_in kind (b ∷ bs) ≡ (if same k.Name kind then (is_ascii_alphabetic b && list_all is_name_byte bs) else (same k.Repeat kind && (is_ascii_digit b && is_repeat_rest bs)))
others k.Name b bs n = refl
others k.Defines b bs n = rw n.equals refl
others k.Adds b bs n = rw n.equals refl
others k.Slash b bs n = rw n.slash refl
others k.Repeat b bs n = rw n.star (if_and (is_ascii_digit b) (is_repeat_rest bs))
others k.ParenL b bs n = rw n.paren_l refl
others k.ParenR b bs n = rw n.paren_r refl
others k.BracketL b bs n = rw n.bracket_l refl
others k.BracketR b bs n = rw n.bracket_r refl
others k.Quoted b bs n = rw (n.percent, n.quote) refl
others k.Number b bs n = rw n.percent refl
others k.Prose b bs n = rw n.angle refl
others k.Comment b bs n = n.semicolon
others k.Blank b bs n = rw (n.space, n.tab) refl
others k.Bad b bs n = refl

only_repeat : (kind : Kind) (x : Bool) → (if same k.Name kind then false else (same k.Repeat kind && x)) ≡ same k.Repeat kind && x
only_repeat k.Name x = refl
only_repeat kind x = refl

only_name : (kind : Kind) (x : Bool) → (if same k.Name kind then x else (same k.Repeat kind && false)) ≡ same k.Name kind && x
only_name k.Name x = refl
only_name kind x = refl

letter_not_digit : (b : ℕ) → is_ascii_digit b ≡ true → is_ascii_alphabetic b ≡ false
letter_not_digit b d = grind (arith, nat_tests)

on_digit : (kind : Kind) (b : ℕ) (bs : Text) → Elsewhere b → is_ascii_digit b ≡ true → is_in kind (b ∷ bs) ≡ accepts kind (run s.Digits bs)
on_digit kind b bs n d =
    let no : is_ascii_alphabetic b ≡ false = letter_not_digit b d in
    others kind b bs n ∙ rw (no, d) (only_repeat kind (is_repeat_rest bs)) ∙ sym (digits kind bs)

on_letter : (kind : Kind) (b : ℕ) (bs : Text) → Elsewhere b → is_ascii_digit b ≡ false → is_ascii_alphabetic b ≡ true → is_in kind (b ∷ bs) ≡ accepts kind (run s.Name bs)
on_letter kind b bs n d l = others kind b bs n ∙ rw (l, d) (only_name kind (list_all is_name_byte bs)) ∙ sym (name kind bs)

on_other : (kind : Kind) (b : ℕ) (bs : Text) → Elsewhere b → is_ascii_digit b ≡ false → is_ascii_alphabetic b ≡ false → is_in kind (b ∷ bs) ≡ accepts kind (run s.Dead bs)
on_other kind b bs n d l = others kind b bs n ∙ rw (l, d) (only_repeat kind false) ∙ and_false (same k.Repeat kind) ∙ sym (dead kind bs)

byte : (kind : Kind) (b c : ℕ) (bs : Text) (st : State) → is_in kind (c ∷ bs) ≡ accepts kind (run st bs) → nat_eq b c ≡ true → is_in kind (b ∷ bs) ≡ accepts kind (run st bs)
byte kind b c bs st h e = subst (λ d. is_in kind (d ∷ bs) ≡ accepts kind (run st bs)) (sym (eqb-true b c e)) h

begins : (kind : Kind) (b : ℕ) (bs : Text) → is_in kind (b ∷ bs) ≡ accepts kind (run (begin b) bs)
begins kind b bs =
    let P = λ (st : State). is_in kind (b ∷ bs) ≡ accepts kind (run st bs) in
    cond_both (nat_eq b 0x3D) _ _ P (byte kind b 0x3D bs s.Equals (on_equals kind bs)) (λ n0.
    cond_both (nat_eq b 0x2F) _ _ P (byte kind b 0x2F bs (s.Done k.Slash) (on_slash kind bs)) (λ n1.
    cond_both (nat_eq b 0x2A) _ _ P (byte kind b 0x2A bs s.Star (on_star kind bs)) (λ n2.
    cond_both (nat_eq b 0x28) _ _ P (byte kind b 0x28 bs (s.Done k.ParenL) (on_paren_l kind bs)) (λ n3.
    cond_both (nat_eq b 0x29) _ _ P (byte kind b 0x29 bs (s.Done k.ParenR) (on_paren_r kind bs)) (λ n4.
    cond_both (nat_eq b 0x5B) _ _ P (byte kind b 0x5B bs (s.Done k.BracketL) (on_bracket_l kind bs)) (λ n5.
    cond_both (nat_eq b 0x5D) _ _ P (byte kind b 0x5D bs (s.Done k.BracketR) (on_bracket_r kind bs)) (λ n6.
    cond_both (nat_eq b 0x22) _ _ P (byte kind b 0x22 bs s.Quote (on_quote kind bs)) (λ n7.
    cond_both (nat_eq b 0x25) _ _ P (byte kind b 0x25 bs s.Percent (on_percent kind bs)) (λ n8.
    cond_both (nat_eq b 0x3C) _ _ P (byte kind b 0x3C bs s.Prose (on_prose kind bs)) (λ n9.
    cond_both (nat_eq b 0x3B) _ _ P (byte kind b 0x3B bs s.Comment (on_comment kind bs)) (λ n10.
    cond_both (nat_eq b 0x20) _ _ P (byte kind b 0x20 bs s.Blank (on_space kind bs)) (λ n11.
    cond_both (nat_eq b 0x09) _ _ P (byte kind b 0x09 bs s.Blank (on_tab kind bs)) (λ n12.
    let n : Elsewhere b = record { equals = n0; slash = n1; star = n2; paren_l = n3; paren_r = n4; bracket_l = n5; bracket_r = n6; quote = n7; percent = n8; angle = n9; semicolon = n10; space = n11; tab = n12 } in
    cond_both (is_ascii_digit b) _ _ P (on_digit kind b bs n) (λ d.
    cond_both (is_ascii_alphabetic b) _ _ P (on_letter kind b bs n d) (on_other kind b bs n d)))))))))))))))

pub class_is : (kind : Kind) (t : Text) → is_in kind t ≡ accepts kind (run s.Start t)
class_is k.Name [] = refl
class_is kind [] = refl
class_is k.Name (b ∷ bs) = begins k.Name b bs
class_is kind (b ∷ bs) = begins kind b bs
