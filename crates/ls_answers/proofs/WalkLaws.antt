-- The walk over the tokens of a text meets each place of a name at its token, since both ascend.
use Rattle.std.proofs.Common.{◌≡◌, ℕ, suc, ◌+◌, ◌<◌, ◌≤◌, ◌⊎◌, inl, inr, Bool, true, false, List, [], ◌∷◌, ◌++◌, length, map, drop, Option, Some, None, Result, Ok, Err, IfOk, refl, sym, ap, subst, ◌∙◌, arith, append_assoc, length-append}
use Rattle.std.specs.Prelude.{◌||◌, ◌&&◌, nat_lt, nat_eq, find, flat_map, slice_index_or, if◌then◌else◌}
use Rattle.std.specs.List.{filter_map, cons_option}
use Rattle.std.proofs.lemmas.Bool.{lt-ltb, ltb-true, le-ltb, eq-eqb, eqb-true, false≢true, and_parts, or_cases}
use Rattle.std.proofs.lemmas.List.Elements.{All-head, All-tail}
use Rattle.std.proofs.lemmas.List.{append-nil}
use Rattle.ls_text.specs.declared.position.Encoding.{Encoding}
use Rattle.abnf_token.specs.Classes.{Text}
use Rattle.abnf_token.specs.Marks.{AreMarks, mark_of}
use Rattle.abnf_token.specs.Tokens.{TokensOf}
use Rattle.abnf_token.specs.declared.mark.TokenMark.{TokenMark}
use Rattle.abnf_token.specs.declared.token.Token.{Token}
use Rattle.abnf_syntax.specs.Blocks.{line_texts}
use Rattle.abnf_syntax.specs.Items.{AreTokens}
use Rattle.abnf_names.specs.Places.{AllBehind, Ascend, Named, begins_before}
use Rattle.abnf_names.specs.Rules.{Grammar, IsGrammar}
use Rattle.abnf_names.proofs.Ascending.{places_ascend}
use Rattle.ls_answers.specs.SemanticTokens.{AreReported, AreSemanticTokens, origin, relative, stands_at, told, told_of}
use Rattle.ls_answers.specs.Outline.{as_list}
use Rattle.ls_answers.specs.own.Walk.{AreLineMarks, AreToldTokens, HasWalked, first_at, from_point, left_behind, left_behind_all, told_in_line, told_in_lines}
use Rattle.ls_answers.specs.declared.semantic_tokens.SemanticToken.{SemanticToken}

-- ---- points

-- the byte t of line m isn't before the byte s of line l
abbrev Reaches : ℕ → ℕ → ℕ → ℕ → Type 0
Reaches l s m t = (l < m) ⊎ ((l ≡ m) × (s ≤ t))

reaches_next : (l s m t : ℕ) → Reaches l s m t → Reaches l s (suc m) 0
reaches_next l s m t (inl less) = inl (omega (arith, less))
reaches_next l s m t (inr at) = inl (let e : l ≡ m = at.0 in omega (arith, e))

abbrev Before : ℕ → ℕ → Named → Type 0
Before l s n = (n.place.line < l) ⊎ ((n.place.line ≡ l) × (n.place.start < s))

before : (l s : ℕ) (n : Named) → begins_before l s n ≡ true → Before l s n
before l s n e = by (or_cases (nat_lt n.place.line l) (nat_eq n.place.line l && nat_lt n.place.start s) e)
  where
    by : (nat_lt n.place.line l ≡ true) ⊎ ((nat_eq n.place.line l && nat_lt n.place.start s) ≡ true) → Before l s n
    by (inl less) = inl (ltb-true n.place.line l less)
    by (inr at) =
        let both = and_parts (nat_eq n.place.line l) (nat_lt n.place.start s) at in
        inr (eqb-true n.place.line l both.0, ltb-true n.place.start s both.1)

begins : (l s : ℕ) (n : Named) → Before l s n → begins_before l s n ≡ true
begins l s n (inl less) = ap (λ b. b || (nat_eq n.place.line l && nat_lt n.place.start s)) (lt-ltb n.place.line l less)
begins l s n (inr at) =
    subst (λ line. (nat_lt n.place.line line || (nat_eq n.place.line line && nat_lt n.place.start s)) ≡ true) at.0
    (rw (le-ltb n.place.line n.place.line (omega arith), eq-eqb n.place.line n.place.line refl, lt-ltb n.place.start s at.1) refl)

before_later : (l s m t : ℕ) (n : Named) → Reaches l s m t → Before l s n → Before m t n
before_later l s m t n (inl a) (inl b) = inl (omega (arith, a, b))
before_later l s m t n (inl a) (inr b) = inl (let e : n.place.line ≡ l = b.0 in omega (arith, a, e))
before_later l s m t n (inr a) (inl b) = inl (let e : l ≡ m = a.0 in omega (arith, b, e))
before_later l s m t n (inr a) (inr b) = inr (b.0 ∙ a.0, (let x : n.place.start < s = b.1 in let y : s ≤ t = a.1 in omega (arith, x, y)))

later : (l s m t : ℕ) (n : Named) → Reaches l s m t → begins_before l s n ≡ true → begins_before m t n ≡ true
later l s m t n r e = begins m t n (before_later l s m t n r (before l s n e))

-- ---- places from a point on

from_by : (l s m t : ℕ) (n : Named) (ns : List Named) (b : Bool) → begins_before l s n ≡ b → Reaches l s m t → from_point m t (from_point l s ns) ≡ from_point m t ns
    → from_point m t (from_point l s (n ∷ ns)) ≡ from_point m t (n ∷ ns)
from_by l s m t n ns true e r rest = rw (e, later l s m t n r e) rest
from_by l s m t n ns false e r rest = rw e refl

from_later : (l s m t : ℕ) (ns : List Named) → Reaches l s m t → from_point m t (from_point l s ns) ≡ from_point m t ns
from_later l s m t [] r = refl
from_later l s m t (n ∷ ns) r = from_by l s m t n ns (begins_before l s n) refl r (from_later l s m t ns r)

stands : (m t : ℕ) (n : Named) → stands_at m t n ≡ true → (n.place.line ≡ m) × (n.place.start ≡ t)
stands m t n e =
    let both = and_parts (nat_eq n.place.line m) (nat_eq n.place.start t) e in
    (eqb-true n.place.line m both.0, eqb-true n.place.start t both.1)

-- what begins behind a point doesn't stand there
not_there : (m t : ℕ) (n k : Named) → begins_before m t n ≡ false → begins_before k.place.line k.place.start n ≡ true → stands_at m t k ≡ false
not_there m t n k e ahead = by (stands_at m t k) refl
  where
    by : (b : Bool) → stands_at m t k ≡ b → stands_at m t k ≡ false
    by true s =
        let at = stands m t k s in
        absurd (false≢true (sym e ∙ ((λ i. begins_before (sym at.0 i) (sym at.1 i) n) ∙ ahead)))
    by false s = s

none_behind : (m t : ℕ) (n : Named) (ks : List Named) → begins_before m t n ≡ false → AllBehind n ks → find (stands_at m t) ks ≡ None
none_behind m t n [] e all = refl
none_behind m t n (k ∷ ks) e all =
    let P : Named → Type 0 = λ k. begins_before k.place.line k.place.start n ≡ true in
    rw (not_there m t n k e (All-head P k ks all)) (none_behind m t n ks e (All-tail P k ks all))

-- a place before a point doesn't stand there
not_behind : (m t : ℕ) (n : Named) → begins_before m t n ≡ true → stands_at m t n ≡ false
not_behind m t n e = by (stands_at m t n) refl
  where
    never : Before m t n → (n.place.line ≡ m) × (n.place.start ≡ t) → stands_at m t n ≡ false
    never (inl less) at = absurd (let x : n.place.line ≡ m = at.0 in omega (arith, less, x))
    never (inr h) at = absurd (let x : n.place.start ≡ t = at.1 in let y : n.place.start < t = h.1 in omega (arith, x, y))

    by : (b : Bool) → stands_at m t n ≡ b → stands_at m t n ≡ false
    by true s = never (before m t n e) (stands m t n s)
    by false s = s

here : (m t : ℕ) (n : Named) (ns : List Named) (b : Bool) → stands_at m t n ≡ b → begins_before m t n ≡ false → AllBehind n ns → first_at m t (n ∷ ns) ≡ find (stands_at m t) (n ∷ ns)
here m t n ns true s e all = rw s refl
here m t n ns false s e all = rw (s, none_behind m t n ns e all) refl

found_by : (m t : ℕ) (n : Named) (ns : List Named) (b : Bool) → begins_before m t n ≡ b → AllBehind n ns → first_at m t (from_point m t ns) ≡ find (stands_at m t) ns
    → first_at m t (from_point m t (n ∷ ns)) ≡ find (stands_at m t) (n ∷ ns)
found_by m t n ns true e all rest = rw (e, not_behind m t n e) rest
found_by m t n ns false e all rest = rw e (here m t n ns (stands_at m t n) refl e all)

-- the first place from a point on is the one that stands there, if one does
found_first : (m t : ℕ) (ns : List Named) → Ascend ns → first_at m t (from_point m t ns) ≡ find (stands_at m t) ns
found_first m t [] all = refl
found_first m t (n ∷ ns) all = found_by m t n ns (begins_before m t n) refl all.0 (found_first m t ns all.1)

module _ (encoding : Encoding) where
  -- ---- the tokens of a line

  one_reported : (o : Option SemanticToken) (xs : List SemanticToken) → as_list o ++ xs ≡ cons_option o xs
  one_reported None xs = refl
  one_reported (Some x) xs = refl

  module _ (g : Grammar) (ascend : Ascend g.places) where
    abbrev at_point : ℕ → ℕ → List Named
    at_point l s = from_point l s g.places

    line_told : (line start l s : ℕ) (left : Text) (ts : List Token) → TokensOf line start left ts → Reaches l s line start
        → told_in_line encoding g line (map mark_of ts) (at_point l s) ≡ filter_map (told encoding g) ts
    line_told line start l s left [] h r = refl
    line_told line start l s left (t ∷ ts) h r =
        let of_line : t.line ≡ line = h.0.line in
        let of_start : t.start ≡ start = h.0.start in
        let there : Reaches l s line t.start = subst (λ n. Reaches l s line n) (sym of_start) r in
        let places_are : from_point line t.start (at_point l s) ≡ at_point line t.start = from_later l s line t.start g.places there in
        let found : first_at line t.start (at_point line t.start) ≡ find (stands_at t.line t.start) g.places =
        found_first line t.start g.places ascend ∙ ap (λ n. find (stands_at n t.start) g.places) (sym of_line) in
        let rest = line_told line (start + length t.text.now) line t.start (drop (length t.text.now) left) ts h.1 (inr (refl, omega (arith, of_start))) in
        (λ i. as_list (told_of encoding g (sym of_line i) (mark_of t) ((ap (first_at line t.start) places_are ∙ found) i)) ++ told_in_line encoding g line (map mark_of ts) (places_are i))
        ∙ (ap (λ l. as_list (told encoding g t) ++ l) rest ∙ one_reported (told encoding g t) (filter_map (told encoding g) ts))

    -- where the walk stands behind a line
    line_left : (line start l s : ℕ) (left : Text) (ts : List Token) → TokensOf line start left ts → Reaches l s line start
        → (m : ℕ) × (t : ℕ) × (left_behind line (map mark_of ts) (at_point l s) ≡ at_point m t) × Reaches m t (suc line) 0
    line_left line start l s left [] h r = (l, s, refl, reaches_next l s line start r)
    line_left line start l s left (t ∷ ts) h r =
        let of_start : t.start ≡ start = h.0.start in
        let there : Reaches l s line t.start = subst (λ n. Reaches l s line n) (sym of_start) r in
        let rest = line_left line (start + length t.text.now) line t.start (drop (length t.text.now) left) ts h.1 (inr (refl, omega (arith, of_start))) in
        (rest.0, rest.1, ap (left_behind line (map mark_of ts)) (from_later l s line t.start g.places there) ∙ rest.2, rest.3)

    -- ---- the tokens of all lines

    record LinesTold (ls : List Text) (at count : ℕ) (tokens : List SemanticToken) : Type 0 where
      lists : List (List Token)
      count_is : length lists ≡ count
      are : AreTokens ls at lists
      told_are : tokens ≡ flat_map (filter_map (told encoding g)) lists

    lines_told : (ls : List Text) (at l s : ℕ) (lines : List (List TokenMark)) → AreLineMarks ls at lines → Reaches l s at 0
        → LinesTold ls at (length lines) (told_in_lines encoding g at lines (at_point l s))
    lines_told ls at l s [] marks r = record { lists = []; count_is = refl; are = tt; told_are = refl }
    lines_told ls at l s (m ∷ lines) marks r =
        let line = marks.0 at in
        let own : told_in_line encoding g at m (at_point l s) ≡ filter_map (told encoding g) line.0 =
        ap (λ m. told_in_line encoding g at m (at_point l s)) (sym line.2) ∙ line_told at 0 l s (slice_index_or ls at []) line.0 line.1 r in
        let behind = line_left at 0 l s (slice_index_or ls at []) line.0 line.1 r in
        let left : left_behind at m (at_point l s) ≡ at_point behind.0 behind.1 = ap (λ m. left_behind at m (at_point l s)) (sym line.2) ∙ behind.2 in
        let rest = lines_told ls (suc at) behind.0 behind.1 lines marks.1 behind.3 in
        record {
          lists = line.0 ∷ rest.lists;
          count_is = ap suc rest.count_is;
          are = (line.1, rest.are);
          told_are = (λ i. own i ++ told_in_lines encoding g (suc at) lines (left i)) ∙ ap (λ l. filter_map (told encoding g) line.0 ++ l) rest.told_are;
        }

  -- nothing begins before the first byte
  from_start : (ns : List Named) → from_point 0 0 ns ≡ ns
  from_start [] = refl
  from_start (n ∷ ns) = rw (le-ltb n.place.line 0 (omega arith), le-ltb n.place.start 0 (omega arith)) (by (nat_eq n.place.line 0))
    where
      by : (b : Bool) → (if b && false then from_point 0 0 ns else n ∷ ns) ≡ n ∷ ns
      by true = refl
      by false = refl

  reported_all : (g : Grammar) (tokens : List SemanticToken) → IsGrammar g → AreToldTokens encoding g tokens → AreReported encoding g.text tokens
  reported_all g tokens right walked =
      let w = walked.1 in
      let all = lines_told g (places_ascend g right) (line_texts g.text) 0 0 0 w.lines w.marks (inr (refl, omega arith)) in
      record {
        grammar = g;
        of_text = refl;
        right = right;
        tokens = all.lists;
        all = all.count_is ∙ w.count_is;
        tokens_are = all.are;
        given_are = w.told ∙ (ap (told_in_lines encoding g 0 w.lines) (sym (from_start g.places)) ∙ all.told_are);
      }

  pub told_numbers : {E : Type 0} (g : Grammar) (tokens given : List SemanticToken) (numbers : Result (List ℕ) E) → IsGrammar g → AreToldTokens encoding g tokens → given ≡ tokens
      → IfOk numbers (λ numbers. numbers ≡ relative origin given) → IfOk numbers (λ numbers. AreSemanticTokens encoding g.text numbers)
  told_numbers g tokens given (Ok numbers) right walked same are = record { tokens = tokens; reported = reported_all g tokens right walked; numbers_are = are ∙ ap (relative origin) same }
  told_numbers g tokens given (Err e) right walked same are = are

  pub reported_given : {E : Type 0} (g : Grammar) (tokens : Result (List SemanticToken) E) → IsGrammar g → IfOk tokens (λ tokens. AreToldTokens encoding g tokens) → IfOk tokens (λ tokens. AreReported encoding g.text tokens)
  reported_given g (Ok tokens) right walked = reported_all g tokens right walked
  reported_given g (Err e) right walked = walked

  -- ---- the walk, line by line

  told_more : (g : Grammar) (at : ℕ) (lines : List (List TokenMark)) (m : List TokenMark) (ns : List Named) (last : ℕ) → length lines + at ≡ last
      → told_in_lines encoding g at (lines ++ m ∷ []) ns ≡ told_in_lines encoding g at lines ns ++ told_in_line encoding g last m (left_behind_all at lines ns)
  told_more g at [] m ns last e =
      let n : at ≡ last = omega (arith, e) in
      append-nil (told_in_line encoding g at m ns) ∙ ap (λ n. told_in_line encoding g n m ns) n
  told_more g at (l ∷ lines) m ns last e =
      let first = told_in_line encoding g at l ns in
      let behind = left_behind at l ns in
      ap (λ x. first ++ x) (told_more g (suc at) lines m behind last (omega (arith, e)))
      ∙ sym (append_assoc first (told_in_lines encoding g (suc at) lines behind) (told_in_line encoding g last m (left_behind_all (suc at) lines behind)))

  left_more : (at : ℕ) (lines : List (List TokenMark)) (m : List TokenMark) (ns : List Named) (last : ℕ) → length lines + at ≡ last
      → left_behind_all at (lines ++ m ∷ []) ns ≡ left_behind last m (left_behind_all at lines ns)
  left_more at [] m ns last e = let n : at ≡ last = omega (arith, e) in ap (λ n. left_behind n m ns) n
  left_more at (l ∷ lines) m ns last e = left_more (suc at) lines m (left_behind at l ns) last (omega (arith, e))

  marks_more : (ls : List Text) (at : ℕ) (lines : List (List TokenMark)) (m : List TokenMark) (last : ℕ) → length lines + at ≡ last → AreLineMarks ls at lines
      → AreMarks (slice_index_or ls last []) m → AreLineMarks ls at (lines ++ m ∷ [])
  marks_more ls at [] m last e h k = let n : last ≡ at = omega (arith, e) in (subst (λ n. AreMarks (slice_index_or ls n []) m) n k, tt)
  marks_more ls at (l ∷ lines) m last e h k = (h.0, marks_more ls (suc at) lines m last (omega (arith, e)) h.1 k)

  pub nothing_walked : (g : Grammar) (tokens : List SemanticToken) → tokens ≡ [] → HasWalked encoding g 0 tokens g.places
  nothing_walked g tokens none = record { lines = []; count_is = refl; marks = tt; told = none; left_is = refl }

  pub line_walked : (g : Grammar) (at : ℕ) (tokens new : List SemanticToken) (left behind : List Named) (m : List TokenMark) → HasWalked encoding g at tokens left → AreMarks (slice_index_or (line_texts g.text) at []) m
      → new ≡ tokens ++ told_in_line encoding g at m left → behind ≡ left_behind at m left → HasWalked encoding g (at + 1) new behind
  line_walked g at tokens new left behind m w marks told_is behind_is =
      let last : length w.lines + 0 ≡ at = omega (arith, w.count_is) in
      record {
        lines = w.lines ++ m ∷ [];
        count_is = length-append w.lines (m ∷ []) ∙ ap (λ n. n + 1) w.count_is;
        marks = marks_more (line_texts g.text) 0 w.lines m at last w.marks marks;
        told = told_is ∙ ((λ i. w.told i ++ told_in_line encoding g at m (w.left_is i)) ∙ sym (told_more g 0 w.lines m g.places at last));
        left_is = behind_is ∙ (ap (left_behind at m) w.left_is ∙ sym (left_more 0 w.lines m g.places at last));
      }

  pub all_walked : (g : Grammar) (at : ℕ) (tokens : List SemanticToken) (left : List Named) → at ≡ length (line_texts g.text) → HasWalked encoding g at tokens left → AreToldTokens encoding g tokens
  all_walked g at tokens left e w = (left, subst (λ n. HasWalked encoding g n tokens left) e w)
