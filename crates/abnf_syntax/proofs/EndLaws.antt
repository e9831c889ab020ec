-- The first items and the last one of lines are known by their marks.
use Rattle.std.proofs.Common.{◌≡◌, ℕ, zero, suc, ◌+◌, ◌-◌, ◌<◌, ◌≤◌, Bool, true, false, List, [], ◌∷◌, ◌++◌, length, map, take, drop, get_or, Option, Some, None, option_map, refl, sym, ap, subst, ◌∙◌, arith, length-append, if◌then◌else◌}
use Rattle.std.specs.Prelude.{◌&&◌, is_some, slice_index_or, slice_range}
use Rattle.std.specs.List.{flat_map, last_or}
use Rattle.std.proofs.lemmas.List.{append-nil, take_more}
use Rattle.std.proofs.lemmas.Grind.{flat_map-append}
use Rattle.abnf_token.specs.declared.mark.TokenMark.{TokenMark}
use Rattle.abnf_token.specs.declared.token.Token.{Token}
use Rattle.abnf_token.specs.Classes.{Text}
use Rattle.abnf_token.specs.Marks.{AreMarks, mark_of}
use Rattle.abnf_token.specs.Tokens.{AreSlices, TokensOf, view}
use Rattle.abnf_token.proofs.Laws.{one_answer, slices}
use Rattle.abnf_syntax.specs.declared.block.Head.{Head}
use Rattle.abnf_syntax.specs.declared.ends.FirstItems.{FirstItems}
use Rattle.abnf_syntax.specs.declared.ends.FirstItems.TheVariants.{Nothing, One, Two}
use Rattle.abnf_syntax.specs.declared.ends.Headed.{Headed}
use Rattle.abnf_syntax.specs.declared.item.Item.{Item}
use Rattle.abnf_syntax.specs.Faults.{last_of}
use Rattle.abnf_syntax.specs.Grammar.{kind_of}
use Rattle.abnf_syntax.specs.Heads.{headed_items, headed_view}
use Rattle.abnf_syntax.specs.Kinds.{is_item, is_name_kind, is_defined_as, is_adds}
use Rattle.abnf_syntax.specs.Items as spec
use Rattle.abnf_syntax.specs.Items.{with_line_end, items_behind, items_of, AreTokens, AreItems}
use Rattle.abnf_syntax.specs.own.Ends.{View, view_at, items_at, items_among, AreSeen, front_views, is_full, head_view, head_seen}

-- ---- a line's marks and its tokens

abbrev viewed_mark : View → TokenMark
viewed_mark v = record { kind = v.0; start = v.3; end = v.3 + length v.1 }

viewed : (ts : List Token) → map mark_of ts ≡ map viewed_mark (map view ts)
viewed [] = refl
viewed (t ∷ ts) = ap (λ l. mark_of t ∷ l) (viewed ts)

-- a line's marks are those of its tokens, whichever list of these is taken
pub marks_are : (line : Text) (marks : List TokenMark) (at : ℕ) (ts : List Token) → AreMarks line marks → TokensOf at 0 line ts → map mark_of ts ≡ marks
marks_are line marks at ts are of =
    let own = are at in
    viewed ts ∙ (ap (map viewed_mark) (one_answer line at 0 ts own.0 of own.1) ∙ (sym (viewed own.0) ∙ own.2))

-- what a token says its mark and its line say
token_seen : (line : Text) (at : ℕ) (t : Token) → t.line ≡ at → t.text.now ≡ take (length t.text.now) (drop t.start line) → view t ≡ view_at at line (mark_of t)
token_seen line at t number slice =
    let long : (t.start + length t.text.now) - t.start ≡ length t.text.now = omega arith in
    let text : t.text.now ≡ take ((t.start + length t.text.now) - t.start) (drop t.start line) = slice ∙ sym (ap (λ n. take n (drop t.start line)) long) in
    (λ i. (t.kind, text i, number i, t.start))

tokens_seen : (line : Text) (at start : ℕ) (left : Text) (ts : List Token) → TokensOf at start left ts → AreSlices line ts → items_among ts ≡ items_at at line (map mark_of ts)
tokens_seen line at start left [] of p = refl
tokens_seen line at start left (t ∷ ts) of p =
    let rest = tokens_seen line at (start + length t.text.now) (drop (length t.text.now) left) ts of.1 p.1 in
    (λ i. if is_item t.kind then token_seen line at t of.0.line p.0 i ∷ rest i else rest i)

pub line_seen : (line : Text) (marks : List TokenMark) (at : ℕ) (ts : List Token) → AreMarks line marks → TokensOf at 0 line ts → items_among ts ≡ items_at at line marks
line_seen line marks at ts are of = tokens_seen line at 0 line ts of (slices line at ts of) ∙ ap (items_at at line) (marks_are line marks at ts are of)

-- a token that was made by its mark
pub made : (line : Text) (at : ℕ) (mark : TokenMark) (u : Token) → mark_of u ≡ mark → u.line ≡ at → u.text.now ≡ slice_range line mark.start mark.end → view u ≡ view_at at line mark
made line at mark u u_is number text = (λ i. ((u_is i).kind, text i, number i, (u_is i).start))

pub items_at-append : (at : ℕ) (line : Text) (xs ys : List TokenMark) → items_at at line (xs ++ ys) ≡ items_at at line xs ++ items_at at line ys
items_at-append at line [] ys = refl
items_at-append at line (x ∷ xs) ys = by (is_item x.kind) (items_at-append at line xs ys)
  where
    by : (b : Bool) → items_at at line (xs ++ ys) ≡ items_at at line xs ++ items_at at line ys →
        (if b then view_at at line x ∷ items_at at line (xs ++ ys) else items_at at line (xs ++ ys)) ≡ (if b then view_at at line x ∷ items_at at line xs else items_at at line xs) ++ items_at at line ys
    by true e = ap (λ l. view_at at line x ∷ l) e
    by false e = e

-- ---- lines

-- what the items of some lines say, and those of the lines behind
pub record IsSplit (ls : List Text) (first at end : ℕ) (seen : List View) : Type 0 where
  pub front : List View
  pub back : List View
  pub front_are : AreSeen ls first at front
  pub back_are : AreSeen ls at end back
  pub both : seen ≡ front ++ back

split_tokens : (ls : List Text) (n first : ℕ) (tss : List (List Token)) → n ≤ length tss → AreTokens ls first tss → (xs : List (List Token)) × (ys : List (List Token)) × (tss ≡ xs ++ ys) × (length xs ≡ n) × AreTokens ls first xs × AreTokens ls (first + n) ys
split_tokens ls zero first tss le are = ([], tss, refl, refl, tt, subst (λ m. AreTokens ls m tss) (let e : first ≡ first + 0 = omega arith in e) are)
split_tokens ls (suc n) first [] le are = absurd (omega arith)
split_tokens ls (suc n) first (ts ∷ tss) le are =
    let r = split_tokens ls n (suc first) tss (omega arith) are.1 in
    (ts ∷ r.0, r.1, ap (λ l. ts ∷ l) r.2, ap suc r.3, (are.0, r.4), subst (λ m. AreTokens ls m r.1) (let e : suc first + n ≡ first + suc n = omega arith in e) r.5)

pub split : (ls : List Text) (first at end : ℕ) (seen : List View) → first ≤ at → at ≤ end → AreSeen ls first end seen → IsSplit ls first at end seen
split ls first at end seen from to are =
    let r = split_tokens ls (at - first) first are.tokens (omega (arith, are.all)) are.tokens_are in
    record {
      front = flat_map items_among r.0;
      back = flat_map items_among r.1;
      front_are = record { tokens = r.0; all = omega (arith, r.3); tokens_are = r.4; seen_are = refl };
      back_are = record {
        tokens = r.1;
        all = omega (arith, are.all, ap length r.2, length-append r.0 r.1, r.3);
        tokens_are = subst (λ n. AreTokens ls n r.1) (let e : first + (at - first) ≡ at = omega arith in e) r.5;
        seen_are = refl;
      };
      both = are.seen_are ∙ ap (flat_map items_among) r.2 ∙ flat_map-append items_among r.0 r.1;
    }

-- no lines have no items
pub none_seen : (ls : List Text) (at : ℕ) (seen : List View) → AreSeen ls at at seen → seen ≡ []
none_seen ls at seen are = are.seen_are ∙ ap (flat_map items_among) (empty are.tokens (omega (arith, are.all)))
  where
    empty : (tss : List (List Token)) → length tss ≡ 0 → tss ≡ []
    empty [] e = refl
    empty (ts ∷ tss) e = absurd (omega (arith, e))

-- the items of one line
pub one_line : (ls : List Text) (at : ℕ) (line : Text) (marks : List TokenMark) (seen : List View) → line ≡ slice_index_or ls at [] → AreMarks (slice_index_or ls at []) marks → AreSeen ls at (at + 1) seen → seen ≡ items_at at line marks
one_line ls at line marks seen line_is marks_of are = by are.tokens (omega (arith, are.all)) are.tokens_are are.seen_are
  where
    by : (tss : List (List Token)) → length tss ≡ 1 → AreTokens ls at tss → seen ≡ flat_map items_among tss → seen ≡ items_at at line marks
    by [] e tokens_are seen_are = absurd (omega (arith, e))
    by (ts ∷ us ∷ tss) e tokens_are seen_are = absurd (omega (arith, e))
    by (ts ∷ []) e tokens_are seen_are =
        seen_are ∙ append-nil (items_among ts) ∙ line_seen (slice_index_or ls at []) marks at ts marks_of tokens_are.0 ∙ ap (λ l. items_at at l marks) (sym line_is)

-- ---- the items of a block

abbrev tokens_of : List (Token × Bool) → List View
tokens_of pairs = map (λ (p : Token × Bool). view p.0) pairs

abbrev some_views : List (Option Token) → List View
some_views [] = []
some_views (None ∷ os) = some_views os
some_views (Some t ∷ os) = if is_item t.kind then view t ∷ some_views os else some_views os

behind_seen : (apart : Bool) (os : List (Option Token)) → tokens_of (items_behind apart os) ≡ some_views os
behind_seen apart [] = refl
behind_seen apart (None ∷ os) = behind_seen true os
behind_seen apart (Some t ∷ os) = by (is_item t.kind) (behind_seen false os) (behind_seen true os)
  where
    by : (b : Bool) → tokens_of (items_behind false os) ≡ some_views os → tokens_of (items_behind true os) ≡ some_views os →
        tokens_of (if b then (t, apart) ∷ items_behind false os else items_behind true os) ≡ (if b then view t ∷ some_views os else some_views os)
    by true kept past = ap (λ l. view t ∷ l) kept
    by false kept past = past

of_seen : (os : List (Option Token)) → tokens_of (items_of os) ≡ some_views os
of_seen [] = refl
of_seen (None ∷ os) = of_seen os
of_seen (Some t ∷ os) = by (is_item t.kind) (behind_seen false os) (of_seen os)
  where
    by : (b : Bool) → tokens_of (items_behind false os) ≡ some_views os → tokens_of (items_of os) ≡ some_views os →
        tokens_of (if b then (t, false) ∷ items_behind false os else items_of os) ≡ (if b then view t ∷ some_views os else some_views os)
    by true kept past = ap (λ l. view t ∷ l) kept
    by false kept past = past

line_views : (ts : List Token) (os : List (Option Token)) → some_views (with_line_end ts ++ os) ≡ items_among ts ++ some_views os
line_views [] os = refl
line_views (t ∷ ts) os = by (is_item t.kind) (line_views ts os)
  where
    by : (b : Bool) → some_views (with_line_end ts ++ os) ≡ items_among ts ++ some_views os →
        (if b then view t ∷ some_views (with_line_end ts ++ os) else some_views (with_line_end ts ++ os)) ≡ (if b then view t ∷ items_among ts else items_among ts) ++ some_views os
    by true e = ap (λ l. view t ∷ l) e
    by false e = e

lines_views : (tss : List (List Token)) → some_views (flat_map with_line_end tss) ≡ flat_map items_among tss
lines_views [] = refl
lines_views (ts ∷ tss) = line_views ts (flat_map with_line_end tss) ∙ ap (λ l. items_among ts ++ l) (lines_views tss)

-- what items say
abbrev pub said : List Item → List View
said items = map (λ (item : Item). view item.token) items

said_pairs : (items : List Item) → said items ≡ tokens_of (map spec.view items)
said_pairs [] = refl
said_pairs (item ∷ items) = ap (λ l. view item.token ∷ l) (said_pairs items)

pub items_seen : (ls : List Text) (first end : ℕ) (items : List Item) → AreItems ls first end items → AreSeen ls first end (said items)
items_seen ls first end items are = record {
  tokens = are.tokens;
  all = are.all;
  tokens_are = are.tokens_are;
  seen_are = said_pairs items ∙ ap tokens_of are.items_are ∙ of_seen (flat_map with_line_end are.tokens) ∙ lines_views are.tokens;
}

-- ---- the first two

pub two_more : (xs ys : List View) → take 2 (take 2 xs ++ ys) ≡ take 2 (xs ++ ys)
two_more [] ys = refl
two_more (x ∷ []) ys = refl
two_more (x ∷ y ∷ xs) ys = refl

-- no item counts behind two
pub full : (front : FirstItems) (xs ys : List View) → is_full front ≡ true → front_views front ≡ take 2 xs → front_views front ≡ take 2 (xs ++ ys)
full Nothing xs ys is e = absurd (cc)
full (One a) xs ys is e = absurd (cc)
full (Two a b) [] ys is e = absurd (cc)
full (Two a b) (x ∷ []) ys is e = absurd (cc)
full (Two a b) (x ∷ y ∷ xs) ys is e = e

-- ---- the last one

pub last-append : {A : Type 0} (o : Option A) (xs ys : List A) → last_or o (xs ++ ys) ≡ last_or (last_or o xs) ys
last-append o [] ys = refl
last-append o (x ∷ xs) ys = last-append (Some x) xs ys

-- ---- both

last_said : (first : Item) (items : List Item) → last_or (Some (view first.token)) (said items) ≡ Some (view (last_of first items).token)
last_said first [] = refl
last_said first (item ∷ items) = last_said item items

-- what both say of a block
abbrev pub headed_seen : Option (View × Bool) → Option View → Option (View × View × Bool)
headed_seen (Some head) (Some last) = Some (head.0, last, head.1)
headed_seen _ _ = None

pub headed_said : (items : List Item) → headed_seen (head_seen (take 2 (said items))) (last_or None (said items)) ≡ option_map headed_view (headed_items items)
headed_said [] = refl
headed_said (first ∷ []) = refl
headed_said (first ∷ second ∷ items) =
    ap (headed_seen (head_seen (view first.token ∷ view second.token ∷ []))) (last_said second items) ∙ by (is_name_kind (kind_of first) && is_defined_as (kind_of second))
  where
    by : (b : Bool) → headed_seen (if b then Some (view first.token, is_adds (kind_of second)) else None) (Some (view (last_of second items).token))
        ≡ option_map headed_view (option_map (λ (head : Head). record { head = head; last = (last_of second items).token }) (if b then Some (record { name = first.token; adds = is_adds (kind_of second) }) else None))
    by true = refl
    by false = refl

-- ---- as the loops go

module _ (at : ℕ) (line : Text) (marks : List TokenMark) (n : ℕ) (d : TokenMark) where
  -- the last item before a place, by the mark just before it
  before : 0 < n → n ≤ length marks → last_or None (items_at at line (take n marks)) ≡ last_or (last_or None (items_at at line (take (n - 1) marks))) (items_at at line (get_or marks (n - 1) d ∷ []))
  before some within =
      let next : n ≡ (n - 1) + 1 = omega arith in
      let mark : List TokenMark = get_or marks (n - 1) d ∷ [] in
      ap (λ m. last_or None (items_at at line (take m marks))) next
      ∙ ap (λ l. last_or None (items_at at line l)) (take_more marks (n - 1) d (omega arith))
      ∙ ap (last_or None) (items_at-append at line (take (n - 1) marks) mark)
      ∙ last-append None (items_at at line (take (n - 1) marks)) (items_at at line mark)

  one : (mark : TokenMark) → is_item mark.kind ≡ true → items_at at line (mark ∷ []) ≡ view_at at line mark ∷ []
  one mark item = rw item refl

  none : (mark : TokenMark) → is_item mark.kind ≡ false → items_at at line (mark ∷ []) ≡ []
  none mark other = rw other refl

  -- an item is the last one before the place behind it
  pub last_here : (u : Token) → 0 < n → n ≤ length marks → is_item (get_or marks (n - 1) d).kind ≡ true → mark_of u ≡ get_or marks (n - 1) d → u.line ≡ at →
      u.text.now ≡ slice_range line (get_or marks (n - 1) d).start (get_or marks (n - 1) d).end → Some (view u) ≡ last_or None (items_at at line (take n marks))
  last_here u some within item u_is number text =
      ap Some (made line at (get_or marks (n - 1) d) u u_is number text)
      ∙ sym (before some within ∙ ap (last_or (last_or None (items_at at line (take (n - 1) marks)))) (one (get_or marks (n - 1) d) item))

  -- what is no item is passed over
  pub not_here : 0 < n → n ≤ length marks → is_item (get_or marks (n - 1) d).kind ≡ false → last_or None (items_at at line (take n marks)) ≡ last_or None (items_at at line (take (n - 1) marks))
  not_here some within other = before some within ∙ ap (last_or (last_or None (items_at at line (take (n - 1) marks)))) (none (get_or marks (n - 1) d) other)

module _ (ls : List Text) (first at end : ℕ) where
  -- the lines behind two items tell nothing
  pub front_full : (front : FirstItems) → first ≤ at → at ≤ end → is_full front ≡ true → ((seen : List View) → AreSeen ls first at seen → front_views front ≡ take 2 seen) →
      (seen : List View) → AreSeen ls first end seen → front_views front ≡ take 2 seen
  front_full front from to is so_far seen are =
      let s = split ls first at end seen from to are in
      full front s.front s.back is (so_far s.front s.front_are) ∙ ap (take 2) (sym s.both)

  -- one line more
  pub front_more : (old new : FirstItems) (line : Text) (marks : List TokenMark) → first ≤ at → line ≡ slice_index_or ls at [] → AreMarks (slice_index_or ls at []) marks →
      front_views new ≡ take 2 (front_views old ++ items_at at line marks) → ((seen : List View) → AreSeen ls first at seen → front_views old ≡ take 2 seen) →
      (seen : List View) → AreSeen ls first (at + 1) seen → front_views new ≡ take 2 seen
  front_more old new line marks from line_is marks_of new_is so_far seen are =
      let s = split ls first at (at + 1) seen from (omega arith) are in
      let back = one_line ls at line marks s.back line_is marks_of s.back_are in
      new_is ∙ ap (λ l. take 2 (l ++ items_at at line marks)) (so_far s.front s.front_are)
      ∙ two_more s.front (items_at at line marks)
      ∙ ap (λ l. take 2 (s.front ++ l)) (sym back) ∙ ap (take 2) (sym s.both)

module _ (ls : List Text) (first from end : ℕ) (line : Text) (marks : List TokenMark) (last : Option Token) where
  abbrev IsEmptyFrom : ℕ → Type 0
  IsEmptyFrom at = (seen : List View) → AreSeen ls at end seen → seen ≡ []

  -- This is the last item of the line before.
  pub record IsLastBefore : Type 0 where
    pub some : first < from
    pub within : from ≤ end
    pub line_is : line ≡ slice_index_or ls (from - 1) []
    pub marks_of : AreMarks (slice_index_or ls (from - 1) []) marks
    pub last_is : option_map view last ≡ last_or None (items_at (from - 1) line marks)
    pub rest : IsEmptyFrom from

  -- the items from that line on
  of_line : IsLastBefore → (seen : List View) → AreSeen ls (from - 1) end seen → seen ≡ items_at (from - 1) line marks
  of_line h seen are =
      let next : (from - 1) + 1 ≡ from = omega (arith, h.some) in
      let s = split ls (from - 1) from end seen (omega arith) h.within are in
      let here = one_line ls (from - 1) line marks s.front h.line_is h.marks_of (subst (λ n. AreSeen ls (from - 1) n s.front) (sym next) s.front_are) in
      s.both ∙ (λ i. here i ++ h.rest s.back s.back_are i) ∙ append-nil (items_at (from - 1) line marks)

  -- no item stands in a line more
  pub none_more : IsLastBefore → is_some last ≡ false → IsEmptyFrom (from - 1)
  none_more h none seen are = of_line h seen are ∙ by last none (items_at (from - 1) line marks) h.last_is
    where
      not_none : (v : View) (vs : List View) → None ≡ last_or (Some v) vs → ⊥
      not_none v [] e = absurd (cc)
      not_none v (w ∷ vs) e = not_none w vs e

      by : (o : Option Token) → is_some o ≡ false → (vs : List View) → option_map view o ≡ last_or None vs → vs ≡ []
      by (Some t) is vs e = absurd (cc)
      by None is [] e = refl
      by None is (v ∷ vs) e = absurd (not_none v vs e)

  -- the last item of the last line with one
  pub last_found : IsLastBefore → is_some last ≡ true → (seen : List View) → AreSeen ls first end seen → option_map view last ≡ last_or None seen
  last_found h some seen are =
      let s = split ls first (from - 1) end seen (omega (arith, h.some)) (omega (arith, h.within)) are in
      by last some (items_at (from - 1) line marks) h.last_is (last_or None s.front)
      ∙ sym (ap (last_or None) (s.both ∙ ap (λ l. s.front ++ l) (of_line h s.back s.back_are)) ∙ last-append None s.front (items_at (from - 1) line marks))
    where
      by : (o : Option Token) → is_some o ≡ true → (vs : List View) → option_map view o ≡ last_or None vs → (before : Option View) → option_map view o ≡ last_or before vs
      by None is vs e before = absurd (cc)
      by (Some t) is [] e before = absurd (cc)
      by (Some t) is (v ∷ vs) e before = e

module _ (ls : List Text) (first end : ℕ) (front : List View) (head : Option Head) (fronts : (seen : List View) → AreSeen ls first end seen → front ≡ take 2 seen) (head_is : option_map head_view head ≡ head_seen front) where
  head_told : (items : List Item) → AreItems ls first end items → option_map head_view head ≡ head_seen (take 2 (said items))
  head_told items are = head_is ∙ ap head_seen (fronts (said items) (items_seen ls first end items are))

  -- without a head nothing is shown
  pub no_head : (shown : Option Headed) → shown ≡ None → head ≡ None → (items : List Item) → AreItems ls first end items → option_map headed_view shown ≡ option_map headed_view (headed_items items)
  no_head shown nothing none items are =
      ap (option_map headed_view) nothing
      ∙ ap (λ h. headed_seen h (last_or None (said items))) (sym (ap (option_map head_view) none) ∙ head_told items are)
      ∙ headed_said items

  -- the head and the last item are shown together
  pub both_shown : (last : Option Token) → ((seen : List View) → AreSeen ls first end seen → option_map view last ≡ last_or None seen) → (shown : Option Headed) →
      option_map headed_view shown ≡ headed_seen (option_map head_view head) (option_map view last) → (items : List Item) → AreItems ls first end items → option_map headed_view shown ≡ option_map headed_view (headed_items items)
  both_shown last lasts shown is items are =
      is ∙ (λ i. headed_seen (head_told items are i) (lasts (said items) (items_seen ls first end items are) i)) ∙ headed_said items

pub no_last : (head : Option Head) (last : Option Token) (shown : Option Headed) → last ≡ None → shown ≡ None → option_map headed_view shown ≡ headed_seen (option_map head_view head) (option_map view last)
no_last None last shown none nothing = ap (option_map headed_view) nothing
no_last (Some head) last shown none nothing = ap (option_map headed_view) nothing ∙ sym (ap (λ (o : Option Token). headed_seen (Some (head_view head)) (option_map view o)) none)
