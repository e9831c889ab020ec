-- The items that are gathered are those of the tokens.
use Rattle.std.proofs.Common.{◌≡◌, ℕ, suc, ◌+◌, ◌-◌, ◌<◌, ◌≤◌, Bool, true, false, not, List, [], ◌∷◌, ◌++◌, length, map, take, drop, get_or, Option, Some, None, sym, refl, ap, subst, ◌∙◌, append_assoc, arith, length-drop, if◌then◌else◌}
use Rattle.std.specs.Prelude.{slice_index_or, ◌==◌}
use Rattle.std.specs.List.{flat_map}
use Rattle.std.proofs.lemmas.List.{append-nil, length-append, length-map, drop_more}
use Rattle.std.proofs.lemmas.Bool.Decides.{nat_tests}
use Rattle.std.proofs.lemmas.Grind.{flat_map-append}
use Rattle.abnf_token.specs.declared.token.Token.{Token}
use Rattle.abnf_token.specs.Classes.{Text}
use Rattle.abnf_token.specs.Marks.{mark_of, AreMarks}
use Rattle.abnf_token.specs.Tokens.{TokensOf}
use Rattle.abnf_token.specs.declared.mark.TokenMark.{TokenMark}
use Rattle.abnf_token.proofs.MarkLaws.{put}
use Rattle.abnf_syntax.specs.declared.item.Item.{Item}
use Rattle.abnf_syntax.specs.Kinds.{is_item}
use Rattle.abnf_syntax.specs.Items.{with_line_end, items_behind, items_of, AreTokens, AreItems, view}
use Rattle.abnf_syntax.specs.own.Gather.{Gathering, is_some, with_gap, gathered_on, after_all, nothing_gathered, AddsLine, HasLines}

pub not_empty : (items : List Item) (empty : Bool) → empty ≡ (length items == 0) → not empty ≡ is_some (map view items)
not_empty [] empty is = ap not is
not_empty (item ∷ items) true is = absurd (grind (arith, nat_tests, is))
not_empty (item ∷ items) false is = refl

after_all_append : (s : Gathering) (xs ys : List (Option Token)) → after_all s (xs ++ ys) ≡ after_all (after_all s xs) ys
after_all_append s [] ys = refl
after_all_append s (x ∷ xs) ys = after_all_append (gathered_on s x) xs ys

-- the tokens with the first k of a line's marks have come, and those with the others are still to come
pub record HasMarked (at : ℕ) (line : Text) (marks : List TokenMark) (k : ℕ) (old now : Gathering) : Type 0 where
  pub tokens : List Token
  pub behind : List Token
  pub whole : TokensOf at 0 line (tokens ++ behind)
  pub marks_are : map mark_of behind ≡ drop k marks
  pub state : now ≡ after_all old (map Some tokens)

after_all_snoc : (s : Gathering) (ts : List Token) (t : Token) → after_all s (map Some (ts ++ t ∷ [])) ≡ gathered_on (after_all s (map Some ts)) (Some t)
after_all_snoc s [] t = refl
after_all_snoc s (x ∷ ts) t = after_all_snoc (gathered_on s (Some x)) ts t

after_all_line_end : (s : Gathering) (ts : List Token) → after_all s (with_line_end ts) ≡ with_gap (after_all s (map Some ts))
after_all_line_end s [] = refl
after_all_line_end s (t ∷ ts) = after_all_line_end (gathered_on s (Some t)) ts

pub none_marked : (at : ℕ) (line : Text) (marks : List TokenMark) (old : Gathering) → AreMarks line marks → HasMarked at line marks 0 old old
none_marked at line marks old are = record { tokens = []; behind = (are at).0; whole = (are at).1; marks_are = (are at).2; state = refl }

-- one more token, which has the next mark and the text that stands there
pub token_more : {at : ℕ} {line : Text} {marks : List TokenMark} {k : ℕ} {old now next : Gathering} (mark : TokenMark) (u : Token) → k < length marks → mark ≡ get_or marks k mark → mark_of u ≡ mark → u.line ≡ at → u.text.now ≡ take (mark.end - mark.start) (drop mark.start line) → next ≡ gathered_on now (Some u) → HasMarked at line marks k old now → HasMarked at line marks (k + 1) old next
token_more {at = at} {line = line} {marks = marks} {k = k} {old = old} {now = now} {next = next} mark u lt item u_is line_is text_is e h = by_behind h.behind h.whole (h.marks_are ∙ drop_more marks k mark lt)
  where
    by_behind : (behind : List Token) → TokensOf at 0 line (h.tokens ++ behind) → map mark_of behind ≡ get_or marks k mark ∷ drop (k + 1) marks → HasMarked at line marks (k + 1) old next
    by_behind [] whole are = absurd (omega (arith, ap length are))
    by_behind (t ∷ ts) whole are =
        let head : mark_of t ≡ get_or marks k mark = cc in
        let rest : map mark_of ts ≡ drop (k + 1) marks = cc in
        record {
          tokens = h.tokens ++ u ∷ [];
          behind = ts;
          whole = subst (TokensOf at 0 line) (sym (append_assoc h.tokens (u ∷ []) ts)) (put at line h.tokens t u ts mark (head ∙ sym item) u_is line_is text_is whole);
          marks_are = rest;
          state = e ∙ ap (λ s. gathered_on s (Some u)) h.state ∙ sym (after_all_snoc old h.tokens u);
        }

pub line_done : {at : ℕ} {line : Text} {marks : List TokenMark} {k : ℕ} {old now next : Gathering} → length marks ≤ k → HasMarked at line marks k old now → next ≡ with_gap now → AddsLine at line old next
line_done {at = at} {line = line} {marks = marks} {k = k} {old = old} le h e = record {
  tokens = h.tokens;
  tokens_are = subst (TokensOf at 0 line) (ap (λ ts. h.tokens ++ ts) (none h.behind (omega (arith, ap length h.marks_are, length-map h.behind mark_of, length-drop k marks))) ∙ append-nil h.tokens) h.whole;
  state = e ∙ ap with_gap h.state ∙ sym (after_all_line_end old h.tokens);
}
  where
    none : (ts : List Token) → length ts ≡ 0 → ts ≡ []
    none [] e = refl
    none (t ∷ ts) e = absurd (omega (arith, e))

tokens_more : (ls : List Text) (at : ℕ) (tss : List (List Token)) (ts : List Token) → AreTokens ls at tss → TokensOf (at + length tss) 0 (slice_index_or ls (at + length tss) []) ts → AreTokens ls at (tss ++ ts ∷ [])
tokens_more ls at [] ts are last = (subst (λ n. TokensOf n 0 (slice_index_or ls n []) ts) (let e : at + 0 ≡ at = omega arith in e) last, tt)
tokens_more ls at (us ∷ tss) ts are last =
    (are.0, tokens_more ls (suc at) tss ts are.1 (subst (λ n. TokensOf n 0 (slice_index_or ls n []) ts) (let e : at + suc (length tss) ≡ suc at + length tss = omega arith in e) last))

pub line_more : (ls : List Text) (first at : ℕ) (old new : Gathering) → HasLines ls first at old → AddsLine at (slice_index_or ls at []) old new → HasLines ls first (at + 1) new
line_more ls first at old new h line = record {
  tokens = h.tokens ++ line.tokens ∷ [];
  all = omega (arith, h.all, length-append h.tokens (line.tokens ∷ []));
  tokens_are = tokens_more ls first h.tokens line.tokens h.tokens_are (subst (λ n. TokensOf n 0 (slice_index_or ls n []) line.tokens) (sym h.all) line.tokens_are);
  state =
      line.state ∙ ap (λ s. after_all s (with_line_end line.tokens)) h.state
      ∙ sym (after_all_append nothing_gathered (flat_map with_line_end h.tokens) (with_line_end line.tokens))
      ∙ ap (after_all nothing_gathered) (ap (λ x. flat_map with_line_end h.tokens ++ x) (sym (append-nil (with_line_end line.tokens))) ∙ sym (flat_map-append with_line_end h.tokens (line.tokens ∷ [])));
}

abbrev state : List (Token × Bool) → Bool → Gathering
state items apart = record { items = items; apart = apart }

some_snoc : (items : List (Token × Bool)) (item : Token × Bool) → is_some (items ++ item ∷ []) ≡ true
some_snoc [] item = refl
some_snoc (x ∷ items) item = refl

-- Behind an item come the items behind it.
behind : (ts : List (Option Token)) (items : List (Token × Bool)) (apart : Bool) → is_some items ≡ true → (after_all (state items apart) ts).items ≡ items ++ items_behind apart ts
behind [] items apart some = sym (append-nil items)
behind (None ∷ ts) items apart some = ap (λ b. (after_all (state items b) ts).items) some ∙ behind ts items true some
behind (Some t ∷ ts) items apart some = behind_by t ts items apart some (is_item t.kind) (behind ts (items ++ (t, apart) ∷ []) false (some_snoc items (t, apart))) (behind ts items true some)
  where
    behind_by : (t : Token) (ts : List (Option Token)) (items : List (Token × Bool)) (apart : Bool) → is_some items ≡ true → (item : Bool) →
        (after_all (state (items ++ (t, apart) ∷ []) false) ts).items ≡ (items ++ (t, apart) ∷ []) ++ items_behind false ts → (after_all (state items true) ts).items ≡ items ++ items_behind true ts →
        (after_all (if item then state (items ++ (t, apart) ∷ []) false else with_gap (state items apart)) ts).items ≡ items ++ (if item then (t, apart) ∷ items_behind false ts else items_behind true ts)
    behind_by t ts items apart some true h g = h ∙ append_assoc items ((t, apart) ∷ []) (items_behind false ts)
    behind_by t ts items apart some false h g = ap (λ b. (after_all (state items b) ts).items) some ∙ g

from_start : (ts : List (Option Token)) → (after_all nothing_gathered ts).items ≡ items_of ts
from_start [] = refl
from_start (None ∷ ts) = from_start ts
from_start (Some t ∷ ts) = from_start_by t ts (is_item t.kind) (from_start ts)
  where
    from_start_by : (t : Token) (ts : List (Option Token)) (item : Bool) → (after_all nothing_gathered ts).items ≡ items_of ts →
        (after_all (if item then state ((t, false) ∷ []) false else with_gap nothing_gathered) ts).items ≡ (if item then (t, false) ∷ items_behind false ts else items_of ts)
    from_start_by t ts true h = behind ts ((t, false) ∷ []) false refl
    from_start_by t ts false h = h

pub items_are : (ls : List Text) (first end : ℕ) (now : Gathering) (items : List Item) → map view items ≡ now.items → HasLines ls first end now → AreItems ls first end items
items_are ls first end now items e h = record { tokens = h.tokens; all = h.all; tokens_are = h.tokens_are; items_are = e ∙ ap (λ s. s.items) h.state ∙ from_start (flat_map with_line_end h.tokens) }
