-- In a rule that the items of a text derive, no number is cut.
use Rattle.std.proofs.Common.{◌≡◌, refl, ℕ, suc, ◌+◌, ◌*◌, ◌<◌, ◌^◌, Bool, true, false, not, ◌&&◌, ◌||◌, List, [], ◌∷◌, ◌++◌, map, take, drop, length, get_or, Option, Some, None, sym, ap, subst, ◌∙◌, arith, append_assoc, append-nil, if◌then◌else◌}
use Rattle.std.specs.Prelude.{◌==◌, All, nat_eq, nat_lt, min, is_some, unwrap_or, slice_index_or}
use Rattle.std.specs.List.{list_all, flat_map, position_or_len}
use Rattle.std.specs.Char.{digit_value, is_ascii_digit}
use Rattle.std.proofs.Math.Dec.{eqb-suc-zero}
use Rattle.std.proofs.Math.Nat.{min-eq_left}
use Rattle.std.proofs.lemmas.Bool.{eqb-true, ltb-true, false≢true, and_parts}
use Rattle.std.proofs.lemmas.List.Elements.{All-nil, All-cons, All-head, All-tail, All-append}
use Rattle.abnf_token.specs.declared.token.Kind.{Kind}
use Rattle.abnf_token.specs.declared.token.Kind.TheVariants as k
use Rattle.abnf_token.specs.declared.token.Token.{Token}
use Rattle.abnf_token.specs.Classes.{Text, base_of, is_digit, is_digits, is_series, is_number_rest, is_number, is_repeat_rest, is_repeat}
use Rattle.abnf_token.specs.Numbers.{value_in, number_of, are_digits}
use Rattle.abnf_token.specs.Tokens.{Fits, TokensOf}
use Rattle.abnf_syntax.specs.declared.item.Item.{Item}
use Rattle.abnf_syntax.specs.declared.tree.Element.{Element}
use Rattle.abnf_syntax.specs.declared.tree.Repetition.{Repetition}
use Rattle.abnf_syntax.specs.declared.tree.Rule.{Rule}
use Rattle.abnf_syntax.specs.Fitting.{fit}
use Rattle.abnf_syntax.specs.Grammar.{kind_of, fits, defined_as, Concatenation, Alternation, IsAlternation, IsConcatenation, IsRepetition, IsElement, Derives}
use Rattle.abnf_syntax.specs.Grammar.IsAlternation.{only, or}
use Rattle.abnf_syntax.specs.Grammar.IsConcatenation.{one, and}
use Rattle.abnf_syntax.specs.Grammar.IsRepetition.{once, times}
use Rattle.abnf_syntax.specs.Grammar.IsElement.{name as a_name, quoted as a_text, number as a_number, prose as a_prose, group as a_group, choice as a_choice}
use Rattle.abnf_syntax.specs.Items.{with_line_end, items_behind, items_of, AreTokens, AreItems, view}
use Rattle.abnf_syntax.specs.Kinds.{is_item}
use Rattle.abnf_syntax.specs.Numbers.{is_sign, parts_from, number_pieces, is_small, numbers_fit}
use Rattle.abnf_syntax.proofs.NumberLaws.{fit_based}
use Rattle.abnf_parts.specs.Leaf.{before, behind, has, max_number, numbers_from}
use Rattle.abnf_parts.specs.Uncut.{bound_of, IsUncut}

-- ---- the numbers of items that derive a rule fit

abbrev IsFit : Item → Type 0
IsFit item = fits item ≡ true

-- an item of a kind whose numbers always fit stands before others
fit_first : (item : Item) (rest : List Item) (kind : Kind) → kind_of item ≡ kind → numbers_fit kind item.token.text.now ≡ true → All IsFit rest → All IsFit (item ∷ rest)
fit_first item rest kind is fit all = All-cons IsFit item rest (ap (λ kind. numbers_fit kind item.token.text.now) is ∙ fit) all

mutual
  rows_fit : {room : ℕ} {from to : List Item} {a : Alternation} → IsAlternation room from to a → All IsFit to → All IsFit from
  rows_fit (only h) all = row_fit h all
  rows_fit (or {mid = mid} {slash = slash} h is more) all = row_fit h (fit_first slash mid k.Slash is refl (rows_fit more all))

  row_fit : {room : ℕ} {from to : List Item} {c : Concatenation} → IsConcatenation room from to c → All IsFit to → All IsFit from
  row_fit (one h) all = part_fit h all
  row_fit (and h apart more) all = part_fit h (row_fit more all)

  part_fit : {room : ℕ} {from to : List Item} {r : Repetition} → IsRepetition room from to r → All IsFit to → All IsFit from
  part_fit (once h) all = element_fit h all
  part_fit (times {mid = mid} {repeat = repeat} {next = next} is fit apart h) all = All-cons IsFit repeat (next ∷ mid) fit (element_fit h all)

  element_fit : {room : ℕ} {from to : List Item} {x : Element} → IsElement room from to x → All IsFit to → All IsFit from
  element_fit (a_name {item = item} {to = to} is) all = fit_first item to k.Name is refl all
  element_fit (a_text {item = item} {to = to} is) all = fit_first item to k.Quoted is refl all
  element_fit (a_number {item = item} {to = to} is fit) all = All-cons IsFit item to fit all
  element_fit (a_prose {item = item} {to = to} is) all = fit_first item to k.Prose is refl all
  element_fit (a_group {inner = inner} {to = to} {left = left} {right = right} l h r) all = fit_first left inner k.ParenL l refl (rows_fit h (fit_first right to k.ParenR r refl all))
  element_fit (a_choice {inner = inner} {to = to} {left = left} {right = right} l h r) all = fit_first left inner k.BracketL l refl (rows_fit h (fit_first right to k.BracketR r refl all))

defined_fits : (adds : Bool) (text : Text) → numbers_fit (defined_as adds) text ≡ true
defined_fits true text = refl
defined_fits false text = refl

items_fit : (items : List Item) (rule : Rule) → Derives items rule → All IsFit items
items_fit items rule d =
    subst (All IsFit) (sym d.split)
    (fit_first d.head (d.defined ∷ d.body) k.Name d.named refl
    (fit_first d.defined d.body (defined_as rule.adds) d.adds (defined_fits rule.adds d.defined.token.text.now)
    (rows_fit d.alternation (All-nil IsFit))))

-- ---- the items of a text are in the classes of their kinds

abbrev IsClassed : Kind → Text → Type 0
IsClassed k.Repeat text = is_repeat text ≡ true
IsClassed k.Number text = is_number text ≡ true
IsClassed _ text = Unit {0}

classed : (kind : Kind) (text left : Text) → Fits kind text left → IsClassed kind text
classed k.Repeat text left h = h.0
classed k.Number text left h = h.0
classed _ text left h = tt

abbrev TokenIs : Token → Type 0
TokenIs t = IsClassed t.kind t.text.now

abbrev SomeIs : Option Token → Type 0
SomeIs None = Unit {0}
SomeIs (Some t) = TokenIs t

abbrev PairIs : Token × Bool → Type 0
PairIs p = TokenIs p.0

abbrev ItemIs : Item → Type 0
ItemIs item = TokenIs item.token

line_classed : (line start : ℕ) (left : Text) (ts : List Token) → TokensOf line start left ts → All SomeIs (with_line_end ts)
line_classed line start left [] h = All-cons SomeIs None [] tt (All-nil SomeIs)
line_classed line start left (t ∷ ts) h =
    All-cons SomeIs (Some t) (with_line_end ts) (classed t.kind t.text.now left h.0.next.fits)
    (line_classed line (start + length t.text.now) (drop (length t.text.now) left) ts h.1)

lines_classed : (ls : List Text) (at : ℕ) (tss : List (List Token)) → AreTokens ls at tss → All SomeIs (flat_map with_line_end tss)
lines_classed ls at [] h = All-nil SomeIs
lines_classed ls at (ts ∷ tss) h =
    All-append SomeIs (with_line_end ts) (flat_map with_line_end tss) (line_classed at 0 (slice_index_or ls at []) ts h.0) (lines_classed ls (suc at) tss h.1)

either : (b : Bool) (ps qs : List (Token × Bool)) → All PairIs ps → All PairIs qs → All PairIs (if b then ps else qs)
either true ps qs p q = p
either false ps qs p q = q

behind_classed : (apart : Bool) (os : List (Option Token)) → All SomeIs os → All PairIs (items_behind apart os)
behind_classed apart [] all = All-nil PairIs
behind_classed apart (None ∷ os) all = behind_classed true os (All-tail SomeIs None os all)
behind_classed apart (Some t ∷ os) all =
    let rest = All-tail SomeIs (Some t) os all in
    either (is_item t.kind) ((t, apart) ∷ items_behind false os) (items_behind true os)
    (All-cons PairIs (t, apart) (items_behind false os) (All-head SomeIs (Some t) os all) (behind_classed false os rest)) (behind_classed true os rest)

of_classed : (os : List (Option Token)) → All SomeIs os → All PairIs (items_of os)
of_classed [] all = All-nil PairIs
of_classed (None ∷ os) all = of_classed os (All-tail SomeIs None os all)
of_classed (Some t ∷ os) all =
    let rest = All-tail SomeIs (Some t) os all in
    either (is_item t.kind) ((t, false) ∷ items_behind false os) (items_of os)
    (All-cons PairIs (t, false) (items_behind false os) (All-head SomeIs (Some t) os all) (behind_classed false os rest)) (of_classed os rest)

viewed : (items : List Item) → All PairIs (map view items) → All ItemIs items
viewed [] all = All-nil ItemIs
viewed (x ∷ xs) all = All-cons ItemIs x xs (All-head PairIs (view x) (map view xs) all) (viewed xs (All-tail PairIs (view x) (map view xs) all))

items_classed : (ls : List Text) (first end : ℕ) (items : List Item) → AreItems ls first end items → All ItemIs items
items_classed ls first end items h =
    viewed items (subst (All PairIs) (sym h.items_are) (of_classed (flat_map with_line_end h.tokens) (lines_classed ls first h.tokens h.tokens_are)))

-- ---- the numbers behind `%` and a letter

-- no `*` stands in the text
abbrev HasNoStar : Text → Type 0
HasNoStar [] = Unit {0}
HasNoStar (b ∷ bs) = (nat_eq b 0x2A ≡ false) × HasNoStar bs

-- what passes a test that this byte doesn't pass is another one
other : (test : ℕ → Bool) (byte b : ℕ) → test byte ≡ false → test b ≡ true → nat_eq b byte ≡ false
other test byte b fails h = by (nat_eq b byte) refl
  where
    by : (e : Bool) → nat_eq b byte ≡ e → e ≡ false
    by false is = refl
    by true is = absurd (false≢true (sym fails ∙ (ap test (sym (eqb-true b byte is)) ∙ h)))

digits_no_star : (base : ℕ) (begun : Bool) (bs : Text) → is_digits base begun bs ≡ true → HasNoStar bs
digits_no_star base begun [] h = tt
digits_no_star base begun (b ∷ bs) h = let r = and_parts (is_digit base b) (is_digits base true bs) h in (other (is_digit base) 0x2A b refl r.0, digits_no_star base true bs r.1)

series_no_star : (base : ℕ) (begun : Bool) (bs : Text) → is_series base begun bs ≡ true → HasNoStar bs
series_no_star base begun [] h = tt
series_no_star base begun (b ∷ bs) h = by (is_digit base b) refl h (series_no_star base true bs) (series_no_star base false bs)
  where
    by : (d : Bool) → is_digit base b ≡ d → (if d then is_series base true bs else (begun && (nat_eq b 0x2E && is_series base false bs))) ≡ true
        → (is_series base true bs ≡ true → HasNoStar bs) → (is_series base false bs ≡ true → HasNoStar bs) → HasNoStar (b ∷ bs)
    by true e h more next = (other (is_digit base) 0x2A b refl e, more h)
    by false e h more next =
        let r = and_parts (nat_eq b 0x2E) (is_series base false bs) (and_parts begun (nat_eq b 0x2E && is_series base false bs) h).1 in
        (other (λ x. nat_eq x 0x2E) 0x2A b refl r.0, next r.1)

number_no_star : (base : ℕ) (begun : Bool) (bs : Text) → is_number_rest base begun bs ≡ true → HasNoStar bs
number_no_star base begun [] h = tt
number_no_star base begun (b ∷ bs) h = by (is_digit base b) (nat_eq b 0x2E) refl refl h (number_no_star base true bs)
  where
    by : (d dot : Bool) → is_digit base b ≡ d → nat_eq b 0x2E ≡ dot
        → (if d then is_number_rest base true bs else (begun && (if dot then is_series base false bs else (nat_eq b 0x2D && is_digits base false bs)))) ≡ true
        → (is_number_rest base true bs ≡ true → HasNoStar bs) → HasNoStar (b ∷ bs)
    by true dot e s h more = (other (is_digit base) 0x2A b refl e, more h)
    by false true e s h more = (other (λ x. nat_eq x 0x2E) 0x2A b refl s, series_no_star base false bs (and_parts begun (is_series base false bs) h).1)
    by false false e s h more =
        let r = and_parts (nat_eq b 0x2D) (is_digits base false bs) (and_parts begun (nat_eq b 0x2D && is_digits base false bs) h).1 in
        (other (λ x. nat_eq x 0x2D) 0x2A b refl r.0, digits_no_star base false bs r.1)

value_snoc : (base v : ℕ) (xs : Text) (b : ℕ) → value_in base v (xs ++ b ∷ []) ≡ value_in base v xs * base + digit_value b
value_snoc base v [] b = refl
value_snoc base v (x ∷ xs) b = value_snoc base (v * base + digit_value x) xs b

-- One byte more, which may be a sign.
one_more : (base v w digit : ℕ) (since longer bs : Text) (sign : Bool) → v ≡ value_in base 0 since
    → (if sign then fit base 0 bs else (nat_lt digit base && (nat_lt w (2 ^ 32) && fit base w bs))) ≡ true
    → (fit base 0 bs ≡ true → numbers_from base 0 bs ≡ map (value_in base 0) (number_pieces bs))
    → (fit base w bs ≡ true → numbers_from base w bs ≡ map (value_in base 0) (parts_from longer bs))
    → (if sign then v ∷ numbers_from base 0 bs else numbers_from base (min w max_number) bs) ≡ map (value_in base 0) (if sign then since ∷ number_pieces bs else parts_from longer bs)
one_more base v w digit since longer bs true e h next more = λ i. e i ∷ next h i
one_more base v w digit since longer bs false e h next more =
    let r = and_parts (nat_lt w (2 ^ 32)) (fit base w bs) (and_parts (nat_lt digit base) (nat_lt w (2 ^ 32) && fit base w bs) h).1 in
    let small : w < 2 ^ 32 = ltb-true w (2 ^ 32) r.0 in
    ap (λ n. numbers_from base n bs) (min-eq_left (omega (arith, small))) ∙ more r.1

-- the numbers, where these digits stand before the text
uncut_from : (base : ℕ) (since bs : Text) → HasNoStar bs → fit base (value_in base 0 since) bs ≡ true → numbers_from base (value_in base 0 since) bs ≡ map (value_in base 0) (parts_from since bs)
uncut_from base since [] clean h = refl
uncut_from base since (b ∷ bs) clean h =
    let v = value_in base 0 since in
    let w = v * base + digit_value b in
    let longer = since ++ b ∷ [] in
    let snoc : value_in base 0 longer ≡ w = value_snoc base 0 since b in
    let star : nat_eq b 0x2A ≡ false = clean.0 in
    let more : fit base w bs ≡ true → numbers_from base w bs ≡ map (value_in base 0) (parts_from longer bs) =
    subst (λ n. fit base n bs ≡ true → numbers_from base n bs ≡ map (value_in base 0) (parts_from longer bs)) snoc (uncut_from base longer bs clean.1) in
    rw star (one_more base v w (digit_value b) since longer bs (nat_eq b 0x2E || nat_eq b 0x2D) refl (rw star at h) (uncut_from base [] bs clean.1) more)

number_uncut : (text : Text) → is_number text ≡ true → numbers_fit k.Number text ≡ true → IsUncut k.Number text
number_uncut [] is fit = absurd (false≢true is)
number_uncut (percent ∷ []) is fit = absurd (false≢true (and_parts (nat_eq percent 0x25) false is).1)
number_uncut (percent ∷ letter ∷ digits) is fit =
    let base = base_of letter in
    uncut_from base [] digits (number_no_star base false digits (and_parts (nat_eq percent 0x25) (is_number_rest base false digits) is).1) (fit_based letter digits ∙ fit)

-- ---- the bounds of a repeat

no_sign : (b : ℕ) → is_ascii_digit b ≡ true → is_sign b ≡ false
no_sign b h = rw (other is_ascii_digit 0x2A b refl h, other is_ascii_digit 0x2E b refl h, other is_ascii_digit 0x2D b refl h) refl

one_text : (t u : Text) → t ≡ u → (let l : List Text = t ∷ [] in l) ≡ u ∷ []
one_text t u e = ap (λ (t : Text). t ∷ []) e

all_digits : (since bs : Text) → list_all is_ascii_digit bs ≡ true → parts_from since bs ≡ (since ++ bs) ∷ []
all_digits since [] h = one_text since (since ++ []) (sym (append-nil since))
all_digits since (b ∷ bs) h =
    let r = and_parts (is_ascii_digit b) (list_all is_ascii_digit bs) h in
    ap (λ s. if s then since ∷ parts_from [] bs else parts_from (since ++ b ∷ []) bs) (no_sign b r.0)
    ∙ (all_digits (since ++ b ∷ []) bs r.1 ∙ one_text ((since ++ b ∷ []) ++ bs) (since ++ b ∷ bs) (append_assoc since (b ∷ []) bs))

-- how many bytes stand before the first `*`
abbrev count : Text → ℕ
count bs = position_or_len (λ b. b == 0x2A) bs

count_more : (b : ℕ) (bs : Text) → nat_eq b 0x2A ≡ false → count (b ∷ bs) ≡ suc (count bs)
count_more b bs e = rw e (omega arith)

before_more : (b : ℕ) (bs : Text) → nat_eq b 0x2A ≡ false → before 0x2A (b ∷ bs) ≡ b ∷ before 0x2A bs
before_more b bs e = ap (λ n. take n (b ∷ bs)) (count_more b bs e)

behind_more : (b : ℕ) (bs : Text) → nat_eq b 0x2A ≡ false → behind 0x2A (b ∷ bs) ≡ behind 0x2A bs
behind_more b bs e = let n : count (b ∷ bs) + 1 ≡ suc (count bs + 1) = omega (arith, count_more b bs e) in ap (λ n. drop n (b ∷ bs)) n

before_none : (b : ℕ) (bs : Text) → nat_eq b 0x2A ≡ true → before 0x2A (b ∷ bs) ≡ []
before_none b bs e = rw e refl

behind_all : (b : ℕ) (bs : Text) → nat_eq b 0x2A ≡ true → behind 0x2A (b ∷ bs) ≡ bs
behind_all b bs e = rw e refl

-- the parts of a repeat, where these digits stand before the text
abbrev parts_by : Bool → Text → Text → List Text
parts_by star since bs = if star then (since ++ before 0x2A bs) ∷ behind 0x2A bs ∷ [] else (since ++ bs) ∷ []

repeat_parts : (since bs : Text) → is_repeat_rest bs ≡ true → parts_from since bs ≡ parts_by (has 0x2A bs) since bs
repeat_parts since [] h = one_text since (since ++ []) (sym (append-nil since))
repeat_parts since (b ∷ bs) h = by (is_ascii_digit b) refl h (repeat_parts (since ++ b ∷ []) bs)
  where
    shifted : (star : Bool) → nat_eq b 0x2A ≡ false → parts_by star (since ++ b ∷ []) bs ≡ parts_by star since (b ∷ bs)
    shifted true e =
        let first : (since ++ b ∷ []) ++ before 0x2A bs ≡ since ++ before 0x2A (b ∷ bs) = append_assoc since (b ∷ []) (before 0x2A bs) ∙ ap (λ t. since ++ t) (sym (before_more b bs e)) in
        (λ i. first i ∷ sym (behind_more b bs e) i ∷ [])
    shifted false e = one_text ((since ++ b ∷ []) ++ bs) (since ++ b ∷ bs) (append_assoc since (b ∷ []) bs)

    by : (d : Bool) → is_ascii_digit b ≡ d → (if d then is_repeat_rest bs else (nat_eq b 0x2A && list_all is_ascii_digit bs)) ≡ true
        → (is_repeat_rest bs ≡ true → parts_from (since ++ b ∷ []) bs ≡ parts_by (has 0x2A bs) (since ++ b ∷ []) bs) → parts_from since (b ∷ bs) ≡ parts_by (has 0x2A (b ∷ bs)) since (b ∷ bs)
    by true e h more =
        let star : nat_eq b 0x2A ≡ false = other is_ascii_digit 0x2A b refl e in
        ap (λ s. if s then since ∷ number_pieces bs else parts_from (since ++ b ∷ []) bs) (no_sign b e)
        ∙ (more h ∙ (shifted (has 0x2A bs) star ∙ ap (λ s. parts_by (s || has 0x2A bs) since (b ∷ bs)) (sym star)))
    by false e h more =
        let r = and_parts (nat_eq b 0x2A) (list_all is_ascii_digit bs) h in
        let all : since ∷ number_pieces bs ≡ parts_by true since (b ∷ bs) =
        ap (λ l. since ∷ l) (all_digits [] bs r.1)
        ∙ (λ i. sym (append-nil since) i ∷ bs ∷ []) ∙ (λ i. (since ++ sym (before_none b bs r.0) i) ∷ sym (behind_all b bs r.0) i ∷ []) in
        ap (λ s. if s || (nat_eq b 0x2E || nat_eq b 0x2D) then since ∷ number_pieces bs else parts_from (since ++ b ∷ []) bs) r.0
        ∙ (all ∙ ap (λ s. parts_by (s || has 0x2A bs) since (b ∷ bs)) (sym r.0))

-- a number that fits, or none
abbrev chosen : Bool → ℕ → Option ℕ
chosen ok n = if ok then Some n else None

fitting : (z ok : Bool) (n : ℕ) → z || is_some (if not z then chosen ok n else None) ≡ true → (if not z then chosen ok n else None) ≡ (if z then None else Some n)
fitting true ok n h = refl
fitting false true n h = refl
fitting false false n h = absurd (false≢true h)

bound_is : (x : Text) → (if nat_eq (length x) 0 then None else Some (value_in 10 0 x)) ≡ bound_of x
bound_is [] = refl
bound_is (b ∷ bs) = rw (eqb-suc-zero (length bs)) refl

bound : (x : Text) → is_small 10 x ≡ true → number_of x 10 ≡ bound_of x
bound x h = fitting (nat_eq (length x) 0) (are_digits 10 x && nat_lt (value_in 10 0 x) (2 ^ 32)) (value_in 10 0 x) h ∙ bound_is x

or_zero : (x : Text) → unwrap_or (bound_of x) 0 ≡ value_in 10 0 x
or_zero [] = refl
or_zero (b ∷ bs) = refl

least : (x : Text) → is_small 10 x ≡ true → unwrap_or (number_of x 10) 0 ≡ value_in 10 0 x
least x h = ap (λ o. unwrap_or o 0) (bound x h) ∙ or_zero x

abbrev Bounds : Type 0
Bounds = ℕ × Option ℕ

-- bounds, by whether a `*` stands there
abbrev bounds_by : Bool → Bounds → ℕ → Bounds
bounds_by star two n = if star then two else (n, Some n)

bounds_uncut : (x y z : Text) (star : Bool) → list_all (is_small 10) (if star then y ∷ z ∷ [] else x ∷ []) ≡ true
    → bounds_by star (unwrap_or (number_of y 10) 0, number_of z 10) (unwrap_or (number_of x 10) 0) ≡ bounds_by star (value_in 10 0 y, bound_of z) (value_in 10 0 x)
bounds_uncut x y z true h =
    let r = and_parts (is_small 10 y) (is_small 10 z && true) h in
    (λ i. (least y r.0 i, bound z (and_parts (is_small 10 z) true r.1).0 i))
bounds_uncut x y z false h = let n = least x (and_parts (is_small 10 x) true h).0 in (λ i. (n i, Some (n i)))

repeat_rest : (text : Text) → is_repeat text ≡ true → is_repeat_rest text ≡ true
repeat_rest [] h = refl
repeat_rest (b ∷ bs) h = h

repeat_uncut : (text : Text) → is_repeat text ≡ true → numbers_fit k.Repeat text ≡ true → IsUncut k.Repeat text
repeat_uncut text is fit =
    bounds_uncut text (before 0x2A text) (behind 0x2A text) (has 0x2A text)
    (ap (list_all (is_small 10)) (sym (repeat_parts [] text (repeat_rest text is))) ∙ fit)

uncut : (kind : Kind) (text : Text) → IsClassed kind text → numbers_fit kind text ≡ true → IsUncut kind text
uncut k.Repeat text is fit = repeat_uncut text is fit
uncut k.Number text is fit = number_uncut text is fit
uncut _ text is fit = tt

pub items_uncut : (ls : List Text) (first end : ℕ) (items : List Item) (rule : Rule) → AreItems ls first end items → Derives items rule → All (λ item. IsUncut item.token.kind item.token.text.now) items
items_uncut ls first end items rule are derives n d less =
    let item = get_or items n d in
    uncut item.token.kind item.token.text.now (items_classed ls first end items are n d less) (items_fit items rule derives n d less)
