-- Each text and each name have an example, and a check of it says yes.
use Rattle.std.proofs.Common.{◌≡◌, refl, ℕ, zero, suc, ◌+◌, ◌<◌, ◌^◌, ⊎_elim, Bool, true, false, ◌&&◌, cond, List, [], ◌∷◌, ◌++◌, length, length-append, append_assoc, Option, Some, None, sym, ◌∙◌, ap, subst, arith, if◌then◌else◌}
use Rattle.std.specs.Prelude.{◌==◌, ◌/◌, ◌%◌, nat_lt, codes, IsTrue}
use Rattle.std.specs.List.{AllByRecursion, list_all}
use Rattle.std.specs.Option.{unwrap_or}
use Rattle.std.specs.Fmt.{digits, digits_onto, digit_glyph, decimal}
use Rattle.std.proofs.lemmas.Bool.{cases_Bool, eqb-true, ltb-true, and_parts}
use Rattle.abnf_token.specs.Folded.{lowercase}
use Rattle.abnf_parts.specs.Part.{Part}
use Rattle.abnf_parts.specs.Names.{rule_number}
use Rattle.abnf_parts.proofs.Closed.{all_both}
use Rattle.abnf_names.specs.Rules.{Grammar}
use Rattle.abnf_names.proofs.Exist.{some_grammar}
use Rattle.abnf_names.proofs.OneGrammar.{one_grammar}
use Rattle.abnf_names.proofs.Within.{rule_within}
use Rattle.abnf_cert.specs.Accepted.{IsAccepted}
use Rattle.abnf_cert.specs.Text.{cert_text}
use Rattle.abnf_cert.specs.Read.{IsOf64Bits, Reads}
use Rattle.abnf_cert.proofs.Again.{texts_are_read}
use Rattle.abnf_least.specs.declared.shortest.Shortest.{Shortest}
use Rattle.abnf_least.specs.declared.shortest.Shortest.TheVariants.{Shown, Long, Huge, Nothing, NotKnown}
use Rattle.abnf_least.specs.Rendered.{rendered, rendered_text}
use Rattle.abnf_least.proofs.SomeShown.{certificate_of}
use Rattle.ls_answers.specs.Hover.{IsHoverText, shown_text}
use Rattle.ls_answers.proofs.HoverTexts.{some_hover_text}
use Rattle.ls_program.specs.Commands.{behind_empty_line, cert_part, IsExampleText, IsChecked}

pub some_example : (text name : List ℕ) → length text < 2 ^ 62 → (bytes : List ℕ) × IsExampleText text name bytes
some_example text name small =
    let g = some_grammar text small in
    let rule = rule_number g.0.names (lowercase name) in
    let cert = certificate_of g.0 g.2 in
    let shown = some_hover_text g.0 g.2 rule (rule_within g.0 g.2 (lowercase name)) in (
      shown.0 ++ 10 ∷ 10 ∷ [] ++ cert_text cert.0,
      record {
        grammar = g.0;
        of_text = g.1;
        right = g.2;
        example = record { shown = shown.0; hover = shown.1; entries = cert.0; accepted = cert.1; bytes_are = refl };
      },
    )

-- ---- lines without a line end inside

abbrev IsOther : ℕ → Type 0
IsOther b = b ≡ 10 → ⊥

abbrev HasNoEnd : List ℕ → Type 0
HasNoEnd bytes = AllByRecursion IsOther bytes

above : (b : ℕ) → 10 < b → IsOther b
above b less e = omega (arith, less, e)

all_above : (bytes : List ℕ) → list_all (λ b. nat_lt 10 b) bytes ≡ true → HasNoEnd bytes
all_above [] h = tt
all_above (b ∷ bytes) h = let r = and_parts (nat_lt 10 b) (list_all (λ b. nat_lt 10 b) bytes) h in (above b (ltb-true 10 b r.0), all_above bytes r.1)

glyph_by : (less upper : Bool) (d : ℕ) → IsOther (if less then 48 + d else (if upper then 55 + d else 87 + d))
glyph_by true upper d e = omega (arith, e)
glyph_by false true d e = omega (arith, e)
glyph_by false false d e = omega (arith, e)

either_line : (b : Bool) (xs ys : List ℕ) → HasNoEnd xs → HasNoEnd ys → HasNoEnd (cond b xs ys)
either_line true xs ys h k = h
either_line false xs ys h k = k

digits_line : (k base : ℕ) (upper : Bool) (n : ℕ) (behind : List ℕ) → HasNoEnd behind → HasNoEnd (digits_onto k base upper n behind)
digits_line zero base upper n behind h = h
digits_line (suc k) base upper n behind h =
    let d = digit_glyph upper (n % base) in
    let more : HasNoEnd (d ∷ behind) = (glyph_by (nat_lt (n % base) 10) upper (n % base), h) in
    either_line (n / base == 0) (d ∷ behind) (digits_onto k base upper (n / base) (d ∷ behind)) more (digits_line k base upper (n / base) (d ∷ behind) more)

number_line : (base : ℕ) (upper : Bool) (n : ℕ) → HasNoEnd (digits base upper n)
unfolding digits
number_line base upper n = digits_line 64 base upper n [] tt

rendered_by : (backslash visible : Bool) (c : ℕ) → (visible ≡ true → IsOther c)
    → HasNoEnd (if backslash then 92 ∷ 92 ∷ [] else if visible then c ∷ [] else 92 ∷ 120 ∷ 123 ∷ [] ++ digits 16 true c ++ 125 ∷ [])
rendered_by true visible c h = all_above (92 ∷ 92 ∷ []) refl
rendered_by false true c h = (h refl, tt)
rendered_by false false c h =
    all_both IsOther (92 ∷ 120 ∷ 123 ∷ []) (digits 16 true c ++ 125 ∷ []) (all_above (92 ∷ 120 ∷ 123 ∷ []) refl)
    (all_both IsOther (digits 16 true c) (125 ∷ []) (number_line 16 true c) (all_above (125 ∷ []) refl))

rendered_line : (c : ℕ) → HasNoEnd (rendered c)
rendered_line c =
    rendered_by (c == 92) (nat_lt 31 c && nat_lt c 127) c
    (λ visible. let less : 31 < c = ltb-true 31 c (and_parts (nat_lt 31 c) (nat_lt c 127) visible).0 in above c (omega (arith, less)))

text_line : (characters : List ℕ) → HasNoEnd (rendered_text characters)
text_line [] = tt
text_line (c ∷ characters) = all_both IsOther (rendered c) (rendered_text characters) (rendered_line c) (text_line characters)

-- ---- the first empty line

is_false : (b : ℕ) → IsOther b → (b == 10) ≡ false
is_false b other = ⊎_elim (λ t. absurd (other (eqb-true b 10 t))) (λ f. f) (cases_Bool (b == 10))

not_both : (p : Bool) (b : ℕ) → IsOther b → (p && b == 10) ≡ false
not_both true b other = is_false b other
not_both false b other = refl

step : (before b : ℕ) (bytes : List ℕ) → IsOther b → behind_empty_line before (b ∷ bytes) ≡ behind_empty_line b bytes
step before b bytes other = ap (λ t. if t then Some bytes else behind_empty_line b bytes) (not_both (before == 10) b other)

at_end : (b : ℕ) (rest : List ℕ) → IsOther b → behind_empty_line b (10 ∷ rest) ≡ behind_empty_line 10 rest
at_end b rest other = ap (λ t. if t && (10 == 10) then Some rest else behind_empty_line 10 rest) (is_false b other)

passes : (before : ℕ) (line rest : List ℕ) → 0 < length line → HasNoEnd line → behind_empty_line before (line ++ 10 ∷ rest) ≡ behind_empty_line 10 rest
passes before [] rest some h = absurd (omega (arith, some))
passes before (b ∷ []) rest some h = step before b (10 ∷ rest) h.0 ∙ at_end b rest h.0
passes before (b ∷ c ∷ line) rest some h = step before b (c ∷ line ++ 10 ∷ rest) h.0 ∙ passes b (c ∷ line) rest (omega arith) h.1

one_line : (line cert : List ℕ) → 0 < length line → HasNoEnd line → behind_empty_line 10 (line ++ 10 ∷ 10 ∷ cert) ≡ Some cert
one_line line cert some h = passes 10 line (10 ∷ cert) some h

cut : (a b c d : List ℕ) → (a ++ (b ++ 10 ∷ c)) ++ d ≡ (a ++ b) ++ 10 ∷ (c ++ d)
cut a b c d = append_assoc a (b ++ 10 ∷ c) d ∙ ap (λ x. a ++ x) (append_assoc b (10 ∷ c) d) ∙ sym (append_assoc a b (10 ∷ (c ++ d)))

two_lines : (a b c cert : List ℕ) → 0 < length a → HasNoEnd a → HasNoEnd b → 0 < length c → HasNoEnd c → behind_empty_line 10 ((a ++ (b ++ 10 ∷ c)) ++ 10 ∷ 10 ∷ cert) ≡ Some cert
two_lines a b c cert some h k more l =
    let long : 0 < length (a ++ b) = omega (arith, some, length-append a b) in
    ap (behind_empty_line 10) (cut a b c (10 ∷ 10 ∷ cert)) ∙ passes 10 (a ++ b) (c ++ 10 ∷ 10 ∷ cert) long (all_both IsOther a b h k) ∙ one_line c cert more l

-- a length, and what is said of an example
with_length : (n : ℕ) (said cert : List ℕ) → HasNoEnd said
    → behind_empty_line 10 ((codes "shortest length " ++ (decimal n ++ 10 ∷ (codes "example " ++ said))) ++ 10 ∷ 10 ∷ cert) ≡ Some cert
with_length n said cert h =
    let some : 0 < length (codes "shortest length ") = omega arith in
    let word : length (codes "example ") ≡ 8 = refl in
    let long : 0 < length (codes "example " ++ said) = omega (arith, word, length-append (codes "example ") said) in
    two_lines (codes "shortest length ") (decimal n) (codes "example " ++ said) cert some (all_above (codes "shortest length ") refl) (number_line 10 false n) long
    (all_both IsOther (codes "example ") said (all_above (codes "example ") refl) h)

shaped : (n : ℕ) (said : List ℕ) → codes "shortest length " ++ decimal n ++ 10 ∷ [] ++ codes "example " ++ said ≡ codes "shortest length " ++ (decimal n ++ 10 ∷ (codes "example " ++ said))
shaped n said =
    let start = codes "shortest length " in
    let word = codes "example " in
    append_assoc ((start ++ decimal n) ++ 10 ∷ []) word said ∙ (append_assoc (start ++ decimal n) (10 ∷ []) (word ++ said) ∙ append_assoc start (decimal n) (10 ∷ (word ++ said)))

of_shown : (shown : Shortest) (cert : List ℕ) → behind_empty_line 10 (shown_text shown ++ 10 ∷ 10 ∷ cert) ≡ Some cert
of_shown (Shown n example) cert = ap (λ x. behind_empty_line 10 (x ++ 10 ∷ 10 ∷ cert)) (shaped n (rendered_text example)) ∙ with_length n (rendered_text example) cert (text_line example)
of_shown (Long n) cert = ap (λ x. behind_empty_line 10 (x ++ 10 ∷ 10 ∷ cert)) (shaped n (codes "not shown")) ∙ with_length n (codes "not shown") cert (all_above (codes "not shown") refl)
of_shown Huge cert = one_line (codes "shortest length 18446744073709551615 or more") cert (omega arith) (all_above (codes "shortest length 18446744073709551615 or more") refl)
of_shown Nothing cert = one_line (codes "generates nothing") cert (omega arith) (all_above (codes "generates nothing") refl)
of_shown NotKnown cert = one_line (codes "not known") cert (omega arith) (all_above (codes "not known") refl)

of_hover : (roots : List Part) (rule : Option ℕ) (text cert : List ℕ) → IsHoverText roots rule text → behind_empty_line 10 (text ++ 10 ∷ 10 ∷ cert) ≡ Some cert
of_hover roots None text cert is =
    ap (λ x. behind_empty_line 10 (x ++ 10 ∷ 10 ∷ cert)) is ∙ one_line (codes "undefined") cert (omega arith) (all_above (codes "undefined") refl)
of_hover roots (Some r) text cert is = ap (λ x. behind_empty_line 10 (x ++ 10 ∷ 10 ∷ cert)) is.2 ∙ of_shown is.0 cert

pub accepted : (text name bytes : List ℕ) (answer : Bool) (example : IsExampleText text name bytes) → IsOf64Bits example.example.entries
    → IsChecked text bytes answer → IsTrue answer
accepted text name bytes answer example wide checked =
    let e = example.example in
    let g : Grammar = example.grammar in
    let same : g ≡ checked.grammar = one_grammar g checked.grammar example.right checked.right (example.of_text ∙ sym checked.of_text) in
    let part : cert_part bytes ≡ cert_text e.entries =
    ap (λ o. unwrap_or o bytes) (ap (behind_empty_line 10) (e.bytes_are ∙ append_assoc e.shown (10 ∷ 10 ∷ []) (cert_text e.entries)) ∙ of_hover g.rules (rule_number g.names (lowercase name)) e.shown (cert_text e.entries) e.hover) in
    let same_text : cert_text checked.entries ≡ cert_text e.entries = sym checked.read ∙ part in
    let is : checked.entries ≡ e.entries =
    (texts_are_read e.entries wide).1 checked.entries (subst (λ t. Reads 0 t checked.entries) same_text (texts_are_read checked.entries checked.wide).0) in
    checked.answer.1 (subst (λ es. IsAccepted checked.grammar.rules es) (sym is) (subst (λ (h : Grammar). IsAccepted h.rules e.entries) same e.accepted))
