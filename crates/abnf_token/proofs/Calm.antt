-- What the machine does at a name that stands behind other pieces.
use Rattle.std.proofs.Common.{◌≡◌, ℕ, Bool, true, false, not, ◌||◌, [], ◌∷◌, Option, Some, None, refl, sym, ap, subst, ◌∙◌, arith}
use Rattle.std.specs.Prelude.{nat_eq, if◌then◌else◌}
use Rattle.std.specs.List.{list_all}
use Rattle.std.specs.Char.{is_ascii_alphabetic, is_ascii_digit, is_ascii_alphanumeric, to_ascii_lowercase, digit_value}
use Rattle.std.proofs.lemmas.Bool.{cond_both, eqb-true, le-ltb, ne_eqb, and_parts}
use Rattle.std.proofs.lemmas.Bool.Decides.{nat_tests}
use Rattle.abnf_token.specs.declared.token.Kind.{Kind}
use Rattle.abnf_token.specs.declared.token.Kind.TheVariants as k
use Rattle.abnf_token.specs.declared.machine.State.{State}
use Rattle.abnf_token.specs.declared.machine.State.TheVariants as s
use Rattle.abnf_token.specs.Classes.{Text, is_name, is_name_byte, is_blank_byte, is_quotable, is_case_letter, base_of, is_digit}
use Rattle.abnf_token.specs.own.Machine.{begin, step, accepted, run}
use Rattle.abnf_token.proofs.Cuts.{never}
use Rattle.abnf_token.proofs.Language.{and_false}

-- No front of the text but the empty one is accepted from the state on.
abbrev pub Quiet : State → Text → Type 0
Quiet st [] = Unit {0}
Quiet st (b ∷ bs) = (accepted (step st b) ≡ None) × Quiet (step st b) bs

-- a place may stand right behind a piece of this kind
abbrev pub may_end : Kind → Bool
may_end k.Name = false
may_end k.Number = false
may_end k.Comment = false
may_end k.Bad = false
may_end _ = true

abbrev pub ends : Option Kind → Bool
ends None = false
ends (Some kind) = may_end kind

-- Names change nothing in this state, or lead nowhere.
abbrev pub calm : State → Bool
calm s.Equals = true
calm s.Digits = true
calm s.Star = true
calm s.Quote = true
calm s.Prose = true
calm s.Blank = true
calm (s.Done kind) = true
calm s.Dead = true
calm (s.First base begun) = nat_eq base 0
calm _ = false

-- the state behind a name
abbrev pub past : State → State
past s.Quote = s.Quote
past s.Prose = s.Prose
past _ = s.Dead

-- the bytes at which pieces end behind which a place may stand
abbrev pub closing : ℕ → Bool
closing b = not (is_ascii_alphabetic b || (nat_eq b 0x2E || (nat_eq b 0x2D || nat_eq b 0x25)))

pub past_calm : (st : State) → calm (past st) ≡ true
past_calm s.Quote = refl
past_calm s.Prose = refl
past_calm st = refl

-- ---- a state that accepts such a piece is calm

if_number : (begun : Bool) {A : Type 0} → ends (if begun then Some k.Number else None) ≡ true → A
if_number true e = never e
if_number false e = never e

pub calm_after : (st : State) → ends (accepted st) ≡ true → calm st ≡ true
calm_after s.Start e = never e
calm_after s.Name e = never e
calm_after s.Equals e = refl
calm_after s.Digits e = refl
calm_after s.Star e = refl
calm_after s.Percent e = never e
calm_after s.Marked e = never e
calm_after s.Quote e = refl
calm_after (s.First base begun) e = if_number begun e
calm_after (s.Series base begun) e = if_number begun e
calm_after (s.Range base begun) e = if_number begun e
calm_after s.Prose e = refl
calm_after s.Comment e = never e
calm_after s.Blank e = refl
calm_after (s.Done kind) e = refl
calm_after s.Dead e = refl

-- ---- such a piece ends at a closing byte

is_closing : (b c : ℕ) → closing c ≡ true → nat_eq b c ≡ true → closing b ≡ true
is_closing b c h e = subst (λ d. closing d ≡ true) (sym (eqb-true b c e)) h

digit_closes : (b : ℕ) → is_ascii_digit b ≡ true → closing b ≡ true
digit_closes b d = grind (arith, nat_tests)

abbrev Closes : ℕ → State → Type 0
Closes b st = ends (accepted st) ≡ true → closing b ≡ true

begin_closes : (b : ℕ) → Closes b (begin b)
begin_closes b =
    cond_both (nat_eq b 0x3D) _ _ (Closes b) (λ e x. is_closing b 0x3D refl e) (λ n0.
    cond_both (nat_eq b 0x2F) _ _ (Closes b) (λ e x. is_closing b 0x2F refl e) (λ n1.
    cond_both (nat_eq b 0x2A) _ _ (Closes b) (λ e x. is_closing b 0x2A refl e) (λ n2.
    cond_both (nat_eq b 0x28) _ _ (Closes b) (λ e x. is_closing b 0x28 refl e) (λ n3.
    cond_both (nat_eq b 0x29) _ _ (Closes b) (λ e x. is_closing b 0x29 refl e) (λ n4.
    cond_both (nat_eq b 0x5B) _ _ (Closes b) (λ e x. is_closing b 0x5B refl e) (λ n5.
    cond_both (nat_eq b 0x5D) _ _ (Closes b) (λ e x. is_closing b 0x5D refl e) (λ n6.
    cond_both (nat_eq b 0x22) _ _ (Closes b) (λ e x. never x) (λ n7.
    cond_both (nat_eq b 0x25) _ _ (Closes b) (λ e x. never x) (λ n8.
    cond_both (nat_eq b 0x3C) _ _ (Closes b) (λ e x. never x) (λ n9.
    cond_both (nat_eq b 0x3B) _ _ (Closes b) (λ e x. never x) (λ n10.
    cond_both (nat_eq b 0x20) _ _ (Closes b) (λ e x. is_closing b 0x20 refl e) (λ n11.
    cond_both (nat_eq b 0x09) _ _ (Closes b) (λ e x. is_closing b 0x09 refl e) (λ n12.
    cond_both (is_ascii_digit b) _ _ (Closes b) (λ e x. digit_closes b e) (λ n13.
    cond_both (is_ascii_alphabetic b) _ _ (Closes b) (λ e x. never x) (λ n14 x. never x)))))))))))))))

blank_closes : (b : ℕ) → is_blank_byte b ≡ true → closing b ≡ true
blank_closes b e = grind (arith, nat_tests)

pub step_closes : (st : State) (b : ℕ) → Closes b (step st b)
step_closes s.Start b = begin_closes b
step_closes s.Name b = cond_both (is_name_byte b) _ _ (Closes b) (λ e x. never x) (λ e x. never x)
step_closes s.Equals b = cond_both (nat_eq b 0x2F) _ _ (Closes b) (λ e x. is_closing b 0x2F refl e) (λ e x. never x)
step_closes s.Digits b =
    cond_both (is_ascii_digit b) _ _ (Closes b) (λ e x. digit_closes b e) (λ n.
    cond_both (nat_eq b 0x2A) _ _ (Closes b) (λ e x. is_closing b 0x2A refl e) (λ e x. never x))
step_closes s.Star b = cond_both (is_ascii_digit b) _ _ (Closes b) (λ e x. digit_closes b e) (λ e x. never x)
step_closes s.Percent b = cond_both (is_case_letter b) _ _ (Closes b) (λ e x. never x) (λ e x. never x)
step_closes s.Marked b = cond_both (nat_eq b 0x22) _ _ (Closes b) (λ e x. never x) (λ e x. never x)
step_closes s.Quote b =
    cond_both (nat_eq b 0x22) _ _ (Closes b) (λ e x. is_closing b 0x22 refl e) (λ n.
    cond_both (is_quotable b) _ _ (Closes b) (λ e x. never x) (λ e x. never x))
step_closes (s.First base begun) b =
    cond_both (is_digit base b) _ _ (Closes b) (λ e x. never x) (λ n.
    cond_both begun _ _ (Closes b) (λ t.
    cond_both (nat_eq b 0x2E) _ _ (Closes b) (λ e x. never x) (λ m.
    cond_both (nat_eq b 0x2D) _ _ (Closes b) (λ e x. never x) (λ e x. never x))) (λ e x. never x))
step_closes (s.Series base begun) b =
    cond_both (is_digit base b) _ _ (Closes b) (λ e x. never x) (λ n.
    cond_both begun _ _ (Closes b) (λ t.
    cond_both (nat_eq b 0x2E) _ _ (Closes b) (λ e x. never x) (λ e x. never x)) (λ e x. never x))
step_closes (s.Range base begun) b = cond_both (is_digit base b) _ _ (Closes b) (λ e x. never x) (λ e x. never x)
step_closes s.Prose b = cond_both (nat_eq b 0x3E) _ _ (Closes b) (λ e x. is_closing b 0x3E refl e) (λ e x. never x)
step_closes s.Comment b = λ x. never x
step_closes s.Blank b = cond_both (is_blank_byte b) _ _ (Closes b) (λ e x. blank_closes b e) (λ e x. never x)
step_closes (s.Done kind) b = λ x. never x
step_closes s.Dead b = λ x. never x

-- ---- a step at a closing byte that accepts nothing leads to a calm state

abbrev Calms : State → Type 0
Calms st = accepted st ≡ None → calm st ≡ true

not_closing : {A : Type 0} (b c : ℕ) → closing c ≡ false → closing b ≡ true → nat_eq b c ≡ true → A
not_closing b c h e q = never (sym h ∙ (ap closing (sym (eqb-true b c q)) ∙ e))

letter_not : (b : ℕ) → is_ascii_alphabetic b ≡ true → closing b ≡ false
letter_not b l = rw l refl

no_letter : (b : ℕ) → closing b ≡ true → is_ascii_alphabetic b ≡ false
no_letter b e = by (is_ascii_alphabetic b) refl
  where
    by : (x : Bool) → is_ascii_alphabetic b ≡ x → is_ascii_alphabetic b ≡ false
    by true l = never (sym (letter_not b l) ∙ e)
    by false l = l

some_none : {A : Type 0} (kind : Kind) → ◌≡◌ {A = Option Kind} (Some kind) None → A
some_none kind e = absurd (cc)

no_base : (b : ℕ) → is_ascii_alphabetic b ≡ false → base_of b ≡ 0
no_base b n =
    cond_both (nat_eq (to_ascii_lowercase b) 0x62) _ _ (λ (m : ℕ). m ≡ 0) (λ e. never (sym n ∙ grind (arith, nat_tests))) (λ n0.
    cond_both (nat_eq (to_ascii_lowercase b) 0x64) _ _ (λ (m : ℕ). m ≡ 0) (λ e. never (sym n ∙ grind (arith, nat_tests))) (λ n1.
    cond_both (nat_eq (to_ascii_lowercase b) 0x78) _ _ (λ (m : ℕ). m ≡ 0) (λ e. never (sym n ∙ grind (arith, nat_tests))) (λ n2. refl)))

no_case : (b : ℕ) → is_ascii_alphabetic b ≡ false → is_case_letter b ≡ true → is_ascii_alphabetic b ≡ true
no_case b n e = grind (arith, nat_tests)

begin_calms : (b : ℕ) → closing b ≡ true → Calms (begin b)
begin_calms b c =
    cond_both (nat_eq b 0x3D) _ _ Calms (λ e x. refl) (λ n0.
    cond_both (nat_eq b 0x2F) _ _ Calms (λ e x. refl) (λ n1.
    cond_both (nat_eq b 0x2A) _ _ Calms (λ e x. refl) (λ n2.
    cond_both (nat_eq b 0x28) _ _ Calms (λ e x. refl) (λ n3.
    cond_both (nat_eq b 0x29) _ _ Calms (λ e x. refl) (λ n4.
    cond_both (nat_eq b 0x5B) _ _ Calms (λ e x. refl) (λ n5.
    cond_both (nat_eq b 0x5D) _ _ Calms (λ e x. refl) (λ n6.
    cond_both (nat_eq b 0x22) _ _ Calms (λ e x. refl) (λ n7.
    cond_both (nat_eq b 0x25) _ _ Calms (λ e x. not_closing b 0x25 refl c e) (λ n8.
    cond_both (nat_eq b 0x3C) _ _ Calms (λ e x. refl) (λ n9.
    cond_both (nat_eq b 0x3B) _ _ Calms (λ e x. some_none k.Comment x) (λ n10.
    cond_both (nat_eq b 0x20) _ _ Calms (λ e x. refl) (λ n11.
    cond_both (nat_eq b 0x09) _ _ Calms (λ e x. refl) (λ n12.
    cond_both (is_ascii_digit b) _ _ Calms (λ e x. refl) (λ n13.
    cond_both (is_ascii_alphabetic b) _ _ Calms (λ e x. never (sym (letter_not b e) ∙ c)) (λ n14 x. refl)))))))))))))))

pub step_calms : (st : State) (b : ℕ) → closing b ≡ true → Calms (step st b)
step_calms s.Start b c = begin_calms b c
step_calms s.Name b c = cond_both (is_name_byte b) _ _ Calms (λ e x. some_none k.Name x) (λ e x. refl)
step_calms s.Equals b c = cond_both (nat_eq b 0x2F) _ _ Calms (λ e x. refl) (λ e x. refl)
step_calms s.Digits b c =
    cond_both (is_ascii_digit b) _ _ Calms (λ e x. refl) (λ n.
    cond_both (nat_eq b 0x2A) _ _ Calms (λ e x. refl) (λ e x. refl))
step_calms s.Star b c = cond_both (is_ascii_digit b) _ _ Calms (λ e x. refl) (λ e x. refl)
step_calms s.Percent b c =
    cond_both (is_case_letter b) _ _ Calms (λ e x. never (sym (no_letter b c) ∙ no_case b (no_letter b c) e))
    (λ e x. ap (λ n. nat_eq n 0) (no_base b (no_letter b c)))
step_calms s.Marked b c = cond_both (nat_eq b 0x22) _ _ Calms (λ e x. refl) (λ e x. refl)
step_calms s.Quote b c =
    cond_both (nat_eq b 0x22) _ _ Calms (λ e x. refl) (λ n.
    cond_both (is_quotable b) _ _ Calms (λ e x. refl) (λ e x. refl))
step_calms (s.First base begun) b c =
    cond_both (is_digit base b) _ _ Calms (λ e x. some_none k.Number x) (λ n.
    cond_both begun _ _ Calms (λ t.
    cond_both (nat_eq b 0x2E) _ _ Calms (λ e x. not_closing b 0x2E refl c e) (λ m.
    cond_both (nat_eq b 0x2D) _ _ Calms (λ e x. not_closing b 0x2D refl c e) (λ e x. refl))) (λ e x. refl))
step_calms (s.Series base begun) b c =
    cond_both (is_digit base b) _ _ Calms (λ e x. some_none k.Number x) (λ n.
    cond_both begun _ _ Calms (λ t.
    cond_both (nat_eq b 0x2E) _ _ Calms (λ e x. not_closing b 0x2E refl c e) (λ e x. refl)) (λ e x. refl))
step_calms (s.Range base begun) b c = cond_both (is_digit base b) _ _ Calms (λ e x. some_none k.Number x) (λ e x. refl)
step_calms s.Prose b c = cond_both (nat_eq b 0x3E) _ _ Calms (λ e x. refl) (λ e x. refl)
step_calms s.Comment b c = λ x. some_none k.Comment x
step_calms s.Blank b c = cond_both (is_blank_byte b) _ _ Calms (λ e x. refl) (λ e x. refl)
step_calms (s.Done kind) b c = λ x. refl
step_calms s.Dead b c = λ x. refl

-- ---- names in a calm state

pub quiet_dead : (t : Text) → Quiet s.Dead t
quiet_dead [] = tt
quiet_dead (b ∷ bs) = (refl, quiet_dead bs)

pub run_dead : (t : Text) → run s.Dead t ≡ s.Dead
run_dead [] = refl
run_dead (b ∷ bs) = run_dead bs

letter_is : (b c : ℕ) → is_ascii_alphabetic c ≡ false → is_ascii_alphabetic b ≡ true → nat_eq b c ≡ false
letter_is b c n l = ne_eqb b c (λ e. never (sym n ∙ (ap is_ascii_alphabetic (sym e) ∙ l)))

letter_digit : (b : ℕ) → is_ascii_alphabetic b ≡ true → is_ascii_digit b ≡ false
letter_digit b l = grind (arith, nat_tests)

below_zero : (b base : ℕ) → nat_eq base 0 ≡ true → is_digit base b ≡ false
below_zero b base e = rw (eqb-true base 0 e, le-ltb (digit_value b) 0 (omega arith)) (and_false (is_ascii_alphanumeric b))

same_both : {A : Type 0} (b : Bool) (x : A) → (if b then x else x) ≡ x
same_both true x = refl
same_both false x = refl

-- a letter leads nowhere, unless in a quotation or in prose
letter_dead : (st : State) (b : ℕ) → calm st ≡ true → is_ascii_alphabetic b ≡ true → past st ≡ s.Dead → step st b ≡ s.Dead
letter_dead s.Start b c l p = never c
letter_dead s.Name b c l p = never c
letter_dead s.Equals b c l p = rw (letter_is b 0x2F refl l) refl
letter_dead s.Digits b c l p = rw (letter_digit b l, letter_is b 0x2A refl l) refl
letter_dead s.Star b c l p = rw (letter_digit b l) refl
letter_dead s.Percent b c l p = never c
letter_dead s.Marked b c l p = never c
letter_dead s.Quote b c l p = absurd (cc)
letter_dead (s.First base begun) b c l p = rw (below_zero b base c, letter_is b 0x2E refl l, letter_is b 0x2D refl l) (same_both begun s.Dead)
letter_dead (s.Series base begun) b c l p = never c
letter_dead (s.Range base begun) b c l p = never c
letter_dead s.Prose b c l p = absurd (cc)
letter_dead s.Comment b c l p = never c
letter_dead s.Blank b c l p = rw (letter_is b 0x20 refl l, letter_is b 0x09 refl l) refl
letter_dead (s.Done kind) b c l p = refl
letter_dead s.Dead b c l p = refl

name_quotable : (b : ℕ) → is_name_byte b ≡ true → is_quotable b ≡ true
name_quotable b e = grind (arith, nat_tests)

name_quote : (b : ℕ) → is_name_byte b ≡ true → nat_eq b 0x22 ≡ false
name_quote b e = ne_eqb b 0x22 (λ x. never (ap is_name_byte (sym x) ∙ e))

name_angle : (b : ℕ) → is_name_byte b ≡ true → nat_eq b 0x3E ≡ false
name_angle b e = ne_eqb b 0x3E (λ x. never (ap is_name_byte (sym x) ∙ e))

letter_name : (b : ℕ) → is_ascii_alphabetic b ≡ true → is_name_byte b ≡ true
letter_name b l = rw l refl

pub record Passes (st : State) (t : Text) (to : State) : Type 0 where
  pub ends : run st t ≡ to
  pub quiet : Quiet st t

in_quote : (t : Text) → list_all is_name_byte t ≡ true → Passes s.Quote t s.Quote
in_quote [] n = record { ends = refl; quiet = tt }
in_quote (b ∷ bs) n =
    let h = and_parts (is_name_byte b) (list_all is_name_byte bs) n in
    let go : step s.Quote b ≡ s.Quote = rw (name_quotable b h.0, name_quote b h.0) refl in
    let more = in_quote bs h.1 in
    record { ends = ap (λ st. run st bs) go ∙ more.ends; quiet = (ap accepted go, subst (λ st. Quiet st bs) (sym go) more.quiet) }

in_prose : (t : Text) → list_all is_name_byte t ≡ true → Passes s.Prose t s.Prose
in_prose [] n = record { ends = refl; quiet = tt }
in_prose (b ∷ bs) n =
    let h = and_parts (is_name_byte b) (list_all is_name_byte bs) n in
    let go : step s.Prose b ≡ s.Prose = rw (name_angle b h.0) refl in
    let more = in_prose bs h.1 in
    record { ends = ap (λ st. run st bs) go ∙ more.ends; quiet = (ap accepted go, subst (λ st. Quiet st bs) (sym go) more.quiet) }

all_bytes : (b : ℕ) (bs : Text) → is_name (b ∷ bs) ≡ true → list_all is_name_byte (b ∷ bs) ≡ true
all_bytes b bs n = let h = and_parts (is_ascii_alphabetic b) (list_all is_name_byte bs) n in rw (letter_name b h.0) h.1

to_dead : (st : State) (b : ℕ) (bs : Text) → step st b ≡ s.Dead → Passes st (b ∷ bs) s.Dead
to_dead st b bs go = record {
  ends = ap (λ st. run st bs) go ∙ run_dead bs;
  quiet = (ap accepted go, subst (λ st. Quiet st bs) (sym go) (quiet_dead bs));
}

other_name : (st : State) (b : ℕ) (bs : Text) → calm st ≡ true → is_name (b ∷ bs) ≡ true → past st ≡ s.Dead → Passes st (b ∷ bs) s.Dead
other_name st b bs c n p = to_dead st b bs (letter_dead st b c (and_parts (is_ascii_alphabetic b) (list_all is_name_byte bs) n).0 p)

pub passes : (st : State) (t : Text) → calm st ≡ true → is_name t ≡ true → Passes st t (past st)
passes st [] c n = never n
passes s.Quote (b ∷ bs) c n = in_quote (b ∷ bs) (all_bytes b bs n)
passes s.Prose (b ∷ bs) c n = in_prose (b ∷ bs) (all_bytes b bs n)
passes s.Start (b ∷ bs) c n = never c
passes st (b ∷ bs) c n = other_name st b bs c n refl

-- ---- a name from the start

pub begin_letter : (b : ℕ) → is_ascii_alphabetic b ≡ true → begin b ≡ s.Name
begin_letter b l =
    rw (
      letter_is b 0x3D refl l,
      letter_is b 0x2F refl l,
      letter_is b 0x2A refl l,
      letter_is b 0x28 refl l,
      letter_is b 0x29 refl l,
      letter_is b 0x5B refl l,
      letter_is b 0x5D refl l,
      letter_is b 0x22 refl l,
      letter_is b 0x25 refl l,
      letter_is b 0x3C refl l,
      letter_is b 0x3B refl l,
      letter_is b 0x20 refl l,
      letter_is b 0x09 refl l,
      letter_digit b l,
      l,
    ) refl
