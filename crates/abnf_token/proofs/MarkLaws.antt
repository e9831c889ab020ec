-- Laws of marks.
use Rattle.std.proofs.Common.{◌≡◌, ℕ, zero, suc, ◌+◌, ◌-◌, ◌<◌, ◌≤◌, true, List, [], ◌∷◌, ◌++◌, length, map, take, drop, get_or, Some, None, refl, sym, ap, subst, ◌∙◌, arith, append_assoc, length-drop}
use Rattle.std.specs.Str.{IsUtf8, IsCharBoundary}
use Rattle.std.proofs.lemmas.List.{append-nil, drop-drop, map-append}
use Rattle.std.proofs.lemmas.Str.{IsUtf8-drop, IsCharBoundary-from_rest, IsCharBoundary-start}
use Rattle.abnf_token.specs.declared.mark.TokenMark.{TokenMark}
use Rattle.abnf_token.specs.declared.token.Kind.{Kind}
use Rattle.abnf_token.specs.declared.token.Token.{Token}
use Rattle.abnf_token.specs.Classes.{Text, is_in}
use Rattle.abnf_token.specs.Marks.{mark_of, AreMarksOnto, IsMarkOf}
use Rattle.abnf_token.specs.Rest.{Rest}
use Rattle.abnf_token.specs.Tokens.{IsNext, TokensOf, GivesToken, AreSlices}
use Rattle.abnf_token.proofs.Cuts.{cut, first_char}
use Rattle.abnf_token.proofs.Laws.{Fitting, in_class, is_bad, fitting, front_len, slices}

-- ---- the marks of a line, one after another
abbrev renumber : ℕ → Token → Token
renumber n t = record t { line = n }

renumbered : (line n start : ℕ) (left : Text) (ts : List Token) → TokensOf line start left ts → TokensOf n start left (map (renumber n) ts)
renumbered line n start left [] p = p
renumbered line n start left (t ∷ ts) p =
    (record { next = p.0.next; line = refl; start = p.0.start }, renumbered line n (start + length t.text.now) (drop (length t.text.now) left) ts p.1)

marks_renumbered : (n : ℕ) (ts : List Token) → map mark_of (map (renumber n) ts) ≡ map mark_of ts
marks_renumbered n [] = refl
marks_renumbered n (t ∷ ts) = ap (λ ms. mark_of t ∷ ms) (marks_renumbered n ts)

-- the marks of a front of a line have come to the end of some marks
pub record HasMarks (text : Text) (rest : Rest) (old marks : List TokenMark) : Type 0 where
  pub tokens : List Token
  pub whole : (ts : List Token) → TokensOf rest.line rest.start rest.text ts → TokensOf 0 0 text (tokens ++ ts)
  pub marks_are : old ++ map mark_of tokens ≡ marks
  pub all : rest.start + length rest.text ≡ length text

pub no_marks : (text : Text) (old : List TokenMark) → HasMarks text (record { text = text; line = 0; start = 0 }) old old
no_marks text old = record { tokens = []; whole = λ ts p. p; marks_are = append-nil old; all = omega arith }

pub marks_more : {text : Text} {rest behind : Rest} {old marks next : List TokenMark} (t : Token) → HasMarks text rest old marks → GivesToken rest (Some t) behind → next ≡ marks ++ mark_of t ∷ [] → HasMarks text behind old next
marks_more {text = text} {rest = rest} {behind = behind} {old = old} t h gives pushed = record {
  tokens = h.tokens ++ t ∷ [];
  whole = λ ts are. subst (TokensOf 0 0 text) (sym (append_assoc h.tokens (t ∷ []) ts)) (h.whole (t ∷ ts) (gives.0, subst (λ (r : Rest). TokensOf r.line r.start r.text ts) gives.1 are));
  marks_are = ap (λ ms. old ++ ms) (map-append mark_of h.tokens (t ∷ [])) ∙ sym (append_assoc old (map mark_of h.tokens) (mark_of t ∷ [])) ∙ ap (λ ms. ms ++ mark_of t ∷ []) h.marks_are ∙ sym pushed;
  all = omega (arith, h.all, ap (λ (r : Rest). r.start + length r.text) gives.1, length-drop (length t.text.now) rest.text, gives.0.next.within);
}

pub marks_done : {text : Text} {rest behind : Rest} {old marks : List TokenMark} → HasMarks text rest old marks → GivesToken rest None behind → AreMarksOnto text old marks
marks_done {text = text} h gives =
    let are : TokensOf 0 0 text h.tokens = rw append-nil at (h.whole [] gives.0) in
    (map mark_of h.tokens, (λ line. (map (renumber line) h.tokens, renumbered 0 line 0 text h.tokens are, marks_renumbered line h.tokens)), sym h.marks_are)

-- a token that comes ends within the line
pub end_within : {text : Text} {rest behind : Rest} {old marks : List TokenMark} (t : Token) → HasMarks text rest old marks → GivesToken rest (Some t) behind → t.start + length t.text.now ≤ length text
end_within t h gives = omega (arith, h.all, gives.0.next.within, gives.0.start)

-- ---- where a mark stands
next_boundary_by : (kind : Kind) (text left : Text) → IsNext kind text left → IsUtf8 left → Fitting kind text left → IsCharBoundary left (length text)
next_boundary_by kind text left next u (in_class is longest) =
    cut kind left (length text) u next.some next.within (subst (λ x. is_in kind x ≡ true) next.front is) longest
next_boundary_by kind text left next u (is_bad e is longest) =
    let first = first_char left u (omega (arith, next.some, next.within)) in
    subst (IsCharBoundary left) (sym (front_len text left next.some next.front is)) first.cut

next_boundary : (kind : Kind) (text left : Text) → IsNext kind text left → IsUtf8 left → IsCharBoundary left (length text)
next_boundary kind text left next u = next_boundary_by kind text left next u (fitting kind text left next.fits)

pub record IsPlaced (whole : Text) (mark : TokenMark) : Type 0 where
  pub order : mark.start ≤ mark.end
  pub within : mark.end ≤ length whole
  pub from : IsCharBoundary whole mark.start
  pub to : IsCharBoundary whole mark.end

placed_from : (whole : Text) (line start : ℕ) (left : Text) (ts : List Token) → drop start whole ≡ left → start ≤ length whole → IsUtf8 left → IsCharBoundary whole start → TokensOf line start left ts → (k : ℕ) → k < length (map mark_of ts) → (m : TokenMark) → get_or (map mark_of ts) k m ≡ m → IsPlaced whole m
placed_from whole line start left [] e le u b are k lt m is = absurd (omega arith)
placed_from whole line start left (t ∷ ts) e le u b are zero lt m is =
    let next = are.0.next in
    let here : IsCharBoundary left (length t.text.now) = next_boundary t.kind t.text.now left next u in
    let behind : IsCharBoundary whole (start + length t.text.now) = IsCharBoundary-from_rest whole start (length t.text.now) le (subst (λ l. IsCharBoundary l (length t.text.now)) (sym e) here) in
    let from : start ≡ m.start = sym are.0.start ∙ ap (λ (x : TokenMark). x.start) is in
    let to : start + length t.text.now ≡ m.end = ap (λ n. n + length t.text.now) (sym are.0.start) ∙ ap (λ (x : TokenMark). x.end) is in
    record {
      order = omega (arith, from, to);
      within = omega (arith, to, next.within, ap length e, length-drop start whole);
      from = subst (IsCharBoundary whole) from b;
      to = subst (IsCharBoundary whole) to behind;
    }
placed_from whole line start left (t ∷ ts) e le u b are (suc k) lt m is =
    let next = are.0.next in
    let len = length t.text.now in
    let here : IsCharBoundary left len = next_boundary t.kind t.text.now left next u in
    let behind : IsCharBoundary whole (start + len) = IsCharBoundary-from_rest whole start len le (subst (λ l. IsCharBoundary l len) (sym e) here) in
    placed_from whole line (start + len) (drop len left) ts (sym (drop-drop len start whole) ∙ ap (drop len) e) (omega (arith, next.within, ap length e, length-drop start whole)) (IsUtf8-drop left len u here) behind are.1 k (omega (arith, lt)) m is

pub placed : (text : Text) (mark : TokenMark) → IsUtf8 text → IsMarkOf text mark → IsPlaced text mark
placed text mark u is =
    let tokens = is.1 0 in
    placed_from text 0 0 text tokens.0 refl (omega arith) u (IsCharBoundary-start text u) tokens.1 is.2.0 (omega (arith, is.2.1, ap length tokens.2)) mark (ap (λ ms. get_or ms is.2.0 mark) tokens.2 ∙ is.2.2)

-- ---- a token that is given again
slice_of : (whole : Text) (us : List Token) (t : Token) (ts : List Token) → AreSlices whole (us ++ t ∷ ts) → t.text.now ≡ take (length t.text.now) (drop t.start whole)
slice_of whole [] t ts p = p.0
slice_of whole (u ∷ us) t ts p = slice_of whole us t ts p.1

put_from : (line start : ℕ) (left : Text) (us : List Token) (t u : Token) (ts : List Token) → u.kind ≡ t.kind → u.text.now ≡ t.text.now → u.line ≡ line → u.start ≡ t.start → TokensOf line start left (us ++ t ∷ ts) → TokensOf line start left (us ++ u ∷ ts)
put_from line start left [] t u ts kinds texts lines starts are = (
  record {
    next = subst (λ x. IsNext u.kind x left) (sym texts) (subst (λ k. IsNext k t.text.now left) (sym kinds) are.0.next);
    line = lines;
    start = starts ∙ are.0.start;
  },
  subst (λ n. TokensOf line (start + n) (drop n left) ts) (ap length (sym texts)) are.1,
)
put_from line start left (v ∷ us) t u ts kinds texts lines starts are =
    (are.0, put_from line (start + length v.text.now) (drop (length v.text.now) left) us t u ts kinds texts lines starts are.1)

-- A token with the mark of one, and the text that stands there, may take its place.
pub put : (line : ℕ) (whole : Text) (us : List Token) (t u : Token) (ts : List Token) (mark : TokenMark) → mark_of t ≡ mark → mark_of u ≡ mark → u.line ≡ line → u.text.now ≡ take (mark.end - mark.start) (drop mark.start whole) → TokensOf line 0 whole (us ++ t ∷ ts) → TokensOf line 0 whole (us ++ u ∷ ts)
put line whole us t u ts mark t_is u_is line_is text_is are =
    let kinds : u.kind ≡ t.kind = ap (λ (m : TokenMark). m.kind) (u_is ∙ sym t_is) in
    let starts : u.start ≡ t.start = ap (λ (m : TokenMark). m.start) (u_is ∙ sym t_is) in
    let start : mark.start ≡ t.start = ap (λ (m : TokenMark). m.start) (sym t_is) in
    let long : mark.end - mark.start ≡ length t.text.now = omega (arith, start, ap (λ (m : TokenMark). m.end) t_is) in
    let texts : u.text.now ≡ t.text.now = text_is ∙ (λ i. take (long i) (drop (start i) whole)) ∙ sym (slice_of whole us t ts (slices whole line (us ++ t ∷ ts) are)) in
    put_from line 0 whole us t u ts kinds texts line_is starts are
