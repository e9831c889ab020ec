-- The bare items that walks leave.
use Rattle.std.proofs.Common.{◌≡◌, ℕ, suc, ◌+◌, ◌-◌, ◌<◌, ◌≤◌, Bool, true, false, not, List, [], ◌∷◌, ◌++◌, length, map, take, drop, get_or, refl, sym, ap, subst, ◌∙◌, arith, if◌then◌else◌}
use Rattle.std.specs.Prelude.{slice_index_or, is_some, Option, Some, None}
use Rattle.std.proofs.lemmas.List.{drop_more, drop_all}
use Rattle.abnf_token.specs.declared.mark.TokenMark.{TokenMark}
use Rattle.abnf_token.specs.declared.token.Token.{Token}
use Rattle.abnf_token.specs.Classes.{Text}
use Rattle.abnf_token.specs.Marks.{mark_of, AreMarks}
use Rattle.abnf_token.specs.Tokens.{AreSlices}
use Rattle.abnf_token.proofs.Laws.{slices}
use Rattle.abnf_syntax.specs.Blocks.{begins_at}
use Rattle.abnf_syntax.specs.Kinds.{is_item}
use Rattle.abnf_digests.specs.BareItems.{BareItem, bare_text, bare_item, bare_items_behind, line_bare_items, AreBareItems}
use Rattle.incremental_findings.specs.declared.line_item.Stand.{Stand}
use Rattle.incremental_findings.specs.declared.walk.Walk.{Walk}
use Rattle.incremental_findings.specs.own.Walks.{stand, bare_item_at, bare_items_marked, AreLeft, Leaves, IsWalk, GivesBareItem, GivesAll}

-- ---- the bare items of a line's marks are those of its tokens
same_bare_item : (line : Text) (begins apart : Bool) (t : Token) → t.text.now ≡ take (length t.text.now) (drop t.start line)
    → bare_item begins apart t ≡ bare_item_at line (stand begins apart) (mark_of t)
same_bare_item line begins apart t e =
    let long : (t.start + length t.text.now) - t.start ≡ length t.text.now = omega arith in
    let text : t.text.now ≡ take ((t.start + length t.text.now) - t.start) (drop t.start line) = e ∙ sym (ap (λ n. take n (drop t.start line)) long) in
    ap (λ (x : Text). let e : BareItem = record { begins = begins; kind = t.kind; text = bare_text t.kind x; apart = apart } in e) text

behind_marked : (line : Text) (apart : Bool) (ts : List Token) → AreSlices line ts → bare_items_behind apart ts ≡ bare_items_marked line (stand false apart) (map mark_of ts)
behind_marked line apart [] p = refl
behind_marked line apart (t ∷ ts) p = by (is_item t.kind) (same_bare_item line false apart t p.0) (behind_marked line false ts p.1) (behind_marked line true ts p.1)
  where
    by : (b : Bool) {e f : BareItem} {es fs gs hs : List BareItem} → e ≡ f → es ≡ fs → gs ≡ hs → (if b then e ∷ es else gs) ≡ (if b then f ∷ fs else hs)
    by true h i j = cc
    by false h i j = j

line_marked : (line : Text) (begins : Bool) (ts : List Token) → AreSlices line ts
    → line_bare_items begins ts ≡ bare_items_marked line (stand begins (not begins)) (map mark_of ts)
line_marked line begins [] p = refl
line_marked line begins (t ∷ ts) p = by (is_item t.kind) (same_bare_item line begins (not begins) t p.0) (behind_marked line false ts p.1) (line_marked line begins ts p.1)
  where
    by : (b : Bool) {e f : BareItem} {es fs gs hs : List BareItem} → e ≡ f → es ≡ fs → gs ≡ hs → (if b then e ∷ es else gs) ≡ (if b then f ∷ fs else hs)
    by true h i j = cc
    by false h i j = j

-- the bare items of a line, and of those behind it
pub line_first : (ls : List Text) (at end : ℕ) (marks : List TokenMark) (bare_items : List BareItem) → AreMarks (slice_index_or ls at []) marks
    → AreBareItems ls (suc at) end bare_items
    → AreBareItems ls at end (bare_items_marked (slice_index_or ls at []) (stand (begins_at ls at) (not (begins_at ls at))) marks ++ bare_items)
line_first ls at end marks bare_items are more =
    let line = slice_index_or ls at [] in
    let here = are at in
    record {
      tokens = here.0 ∷ more.tokens;
      all = omega (arith, more.all);
      tokens_are = (here.1, more.tokens_are);
      bare_items_are =
          ap (λ ms. bare_items_marked line (stand (begins_at ls at) (not (begins_at ls at))) ms ++ bare_items) (sym here.2)
          ∙ ap (λ es. es ++ bare_items) (sym (line_marked line (begins_at ls at) here.0 (slices line at here.0 here.1)))
          ∙ ap (λ es. line_bare_items (begins_at ls at) here.0 ++ es) more.bare_items_are;
    }

-- no line is left
pub no_bare_items : (ls : List Text) (at end : ℕ) → at ≡ end → AreBareItems ls at end []
no_bare_items ls at end e = record { tokens = []; all = omega (arith, e); tokens_are = tt; bare_items_are = refl }

-- ---- one mark more
abbrev by_item : Text → Stand → TokenMark → List TokenMark → Bool → List BareItem
by_item line s m more item = if item then bare_item_at line s m ∷ bare_items_marked line (stand false false) more else bare_items_marked line (stand s.begins (not s.begins)) more

pub over_item : (line : Text) (s : Stand) (m : TokenMark) (left more : List TokenMark) → is_item m.kind ≡ true → left ≡ m ∷ more
    → bare_items_marked line s left ≡ bare_item_at line s m ∷ bare_items_marked line (stand false false) more
over_item line s m left more item e = ap (bare_items_marked line s) e ∙ ap (by_item line s m more) item

pub over_gap : (line : Text) (s : Stand) (m : TokenMark) (left more : List TokenMark) → is_item m.kind ≡ false → left ≡ m ∷ more
    → bare_items_marked line s left ≡ bare_items_marked line (stand s.begins (not s.begins)) more
over_gap line s m left more item e = ap (bare_items_marked line s) e ∙ ap (by_item line s m more) item

pub left_by_gap : {ls : List Text} {at end : ℕ} {line : Text} {s : Stand} (m : TokenMark) {left more : List TokenMark} {bare_items : List BareItem}
    → is_item m.kind ≡ false → left ≡ m ∷ more
    → AreLeft ls at end line (stand s.begins (not s.begins)) more bare_items → AreLeft ls at end line s left bare_items
left_by_gap {line = line} {s = s} m {left = left} {more = more} item e h = record {
  behind = h.behind;
  behind_are = h.behind_are;
  bare_items_are = h.bare_items_are ∙ ap (λ es. es ++ h.behind) (sym (over_gap line s m left more item e));
}

pub left_by_item : {ls : List Text} {at end : ℕ} {line : Text} {s : Stand} (m : TokenMark) {left more : List TokenMark} {bare_items : List BareItem}
    → is_item m.kind ≡ true → left ≡ m ∷ more
    → AreLeft ls at end line (stand false false) more bare_items → AreLeft ls at end line s left (bare_item_at line s m ∷ bare_items)
left_by_item {line = line} {s = s} m {left = left} {more = more} item e h = record {
  behind = h.behind;
  behind_are = h.behind_are;
  bare_items_are = ap (λ es. bare_item_at line s m ∷ es) h.bare_items_are ∙ ap (λ es. es ++ h.behind) (sym (over_item line s m left more item e));
}

-- no mark is left
pub left_at_end : {ls : List Text} {at end : ℕ} {line : Text} {s : Stand} (left : List TokenMark) {bare_items : List BareItem} → left ≡ []
    → AreBareItems ls at end bare_items → AreLeft ls at end line s left bare_items
left_at_end {line = line} {s = s} left {bare_items = bare_items} e are = record {
  behind = bare_items;
  behind_are = are;
  bare_items_are = ap (λ ms. bare_items_marked line s ms ++ bare_items) (sym e);
}

-- ---- the mark at a place
pub item_gives : (ls : List Text) (at end : ℕ) (line : Text) (s next : Stand) (marks : List TokenMark) (k : ℕ) (d : TokenMark) (e : BareItem)
    (rest : List BareItem) → k < length marks → is_item (get_or marks k d).kind ≡ true
    → e ≡ bare_item_at line s (get_or marks k d) → next ≡ stand false false → AreLeft ls at end line next (drop (k + 1) marks) rest
    → AreLeft ls at end line s (drop k marks) (e ∷ rest)
item_gives ls at end line s next marks k d e rest less item is stands h =
    subst (λ (x : BareItem). AreLeft ls at end line s (drop k marks) (x ∷ rest)) (sym is)
    (left_by_item (get_or marks k d) item (drop_more marks k d less) (subst (λ (x : Stand). AreLeft ls at end line x (drop (k + 1) marks) rest) stands h))

pub gap_gives : (ls : List Text) (at end : ℕ) (line : Text) (s next : Stand) (marks : List TokenMark) (k : ℕ) (d : TokenMark) (rest : List BareItem)
    → k < length marks → is_item (get_or marks k d).kind ≡ false
    → next ≡ stand s.begins (not s.begins) → AreLeft ls at end line next (drop (k + 1) marks) rest → AreLeft ls at end line s (drop k marks) rest
gap_gives ls at end line s next marks k d rest less item stands h =
    left_by_gap (get_or marks k d) item (drop_more marks k d less) (subst (λ (x : Stand). AreLeft ls at end line x (drop (k + 1) marks) rest) stands h)

pub none_gives : (ls : List Text) (at end : ℕ) (line : Text) (s : Stand) (marks : List TokenMark) (k : ℕ) (rest : List BareItem) → length marks ≤ k
    → AreBareItems ls at end rest → AreLeft ls at end line s (drop k marks) rest
none_gives ls at end line s marks k rest more are = left_at_end (drop k marks) (drop_all k marks more) are

-- the next line
pub turn_gives : (ls : List Text) (at end : ℕ) (line : Text) (s : Stand) (begins : Bool) (marks : List TokenMark) (bare_items : List BareItem)
    → line ≡ slice_index_or ls at [] → begins ≡ begins_at ls at → s ≡ stand begins (not begins)
    → AreMarks (slice_index_or ls at []) marks → AreLeft ls (at + 1) end line s marks bare_items → AreBareItems ls at end bare_items
turn_gives ls at end line s begins marks bare_items line_is begins_is stand_is are h =
    let next : at + 1 ≡ suc at = omega arith in
    let behind : AreBareItems ls (suc at) end h.behind = subst (λ (n : ℕ). AreBareItems ls n end h.behind) next h.behind_are in
    let stands : s ≡ stand (begins_at ls at) (not (begins_at ls at)) = stand_is ∙ ap (λ b. stand b (not b)) begins_is in
    subst (AreBareItems ls at end)
    (sym (h.bare_items_are ∙ ap (λ l. bare_items_marked l s marks ++ h.behind) line_is ∙ ap (λ x. bare_items_marked (slice_index_or ls at []) x marks ++ h.behind) stands))
    (line_first ls at end marks h.behind are behind)

-- the lines from one on begin with a row
pub row_first : (ls : List Text) (at end : ℕ) (line : Text) (begins : Bool) (marks : List TokenMark) (bare_items : List BareItem) → line ≡ slice_index_or ls at []
    → begins ≡ begins_at ls at → AreMarks (slice_index_or ls at []) marks
    → AreBareItems ls (at + 1) end bare_items → AreBareItems ls at end (bare_items_marked line (stand begins (not begins)) marks ++ bare_items)
row_first ls at end line begins marks bare_items line_is begins_is are more =
    let next : at + 1 ≡ suc at = omega arith in
    let behind : AreBareItems ls (suc at) end bare_items = subst (λ (n : ℕ). AreBareItems ls n end bare_items) next more in
    subst (AreBareItems ls at end)
    (sym (ap (λ l. bare_items_marked l (stand begins (not begins)) marks ++ bare_items) line_is
    ∙ ap (λ b. bare_items_marked (slice_index_or ls at []) (stand b (not b)) marks ++ bare_items) begins_is))
    (line_first ls at end marks bare_items are behind)

-- ---- a walk that follows a row
pub record HasFollowed (start now : Walk) (first : List BareItem) (line : Text) (s : Stand) (left : List TokenMark) : Type 0 where
  pub walks : IsWalk now
  pub gives : (rest : List BareItem) → Leaves now (bare_items_marked line s left ++ rest) → Leaves start (first ++ rest)

pub nothing_followed : (start : Walk) (line : Text) (begins : Bool) (s : Stand) (marks : List TokenMark) → s ≡ stand begins (not begins) → IsWalk start
    → HasFollowed start start (bare_items_marked line (stand begins (not begins)) marks) line s marks
nothing_followed start line begins s marks e walks = record {
  walks = walks;
  gives = λ rest h. subst (λ (x : Stand). Leaves start (bare_items_marked line x marks ++ rest)) e h;
}

pub followed_item : (start now new joined : Walk) (first : List BareItem) (line : Text) (s next at_join : Stand) (marks : List TokenMark) (k : ℕ)
    (d : TokenMark) (e : BareItem) → HasFollowed start now first line s (drop k marks) → k < length marks
    → is_item (get_or marks k d).kind ≡ true → e ≡ bare_item_at line s (get_or marks k d) → IsWalk new → GivesBareItem now e new → next ≡ stand false false
    → joined ≡ new → at_join ≡ next → HasFollowed start joined first line at_join (drop (k + 1) marks)
followed_item start now new joined first line s next at_join marks k d e h less item e_is walks gives stands joined_is at_join_is =
    subst (λ (w : Walk). HasFollowed start w first line at_join (drop (k + 1) marks)) (sym joined_is) (record {
      walks = walks;
      gives = λ rest left.
          let more = drop (k + 1) marks in
          let behind : Leaves new (bare_items_marked line (stand false false) more ++ rest) =
          subst (λ (x : Stand). Leaves new (bare_items_marked line x more ++ rest)) (at_join_is ∙ stands) left in
          let over = over_item line s (get_or marks k d) (drop k marks) more item (drop_more marks k d less) in
          h.gives rest (subst (Leaves now) (ap (λ (x : BareItem). x ∷ (bare_items_marked line (stand false false) more ++ rest)) e_is ∙ sym (ap (λ es. es ++ rest) over)) (gives _ behind));
    })

pub followed_gap : (start now joined : Walk) (first : List BareItem) (line : Text) (s next at_join : Stand) (marks : List TokenMark) (k : ℕ) (d : TokenMark)
    → HasFollowed start now first line s (drop k marks) → k < length marks
    → is_item (get_or marks k d).kind ≡ false → next ≡ stand s.begins (not s.begins) → joined ≡ now → at_join ≡ next
    → HasFollowed start joined first line at_join (drop (k + 1) marks)
followed_gap start now joined first line s next at_join marks k d h less item stands joined_is at_join_is =
    subst (λ (w : Walk). HasFollowed start w first line at_join (drop (k + 1) marks)) (sym joined_is) (record {
      walks = h.walks;
      gives = λ rest left.
          let more = drop (k + 1) marks in
          let behind : Leaves now (bare_items_marked line (stand s.begins (not s.begins)) more ++ rest) =
          subst (λ (x : Stand). Leaves now (bare_items_marked line x more ++ rest)) (at_join_is ∙ stands) left in
          h.gives rest (subst (λ es. Leaves now (es ++ rest)) (sym (over_gap line s (get_or marks k d) (drop k marks) more item (drop_more marks k d less))) behind);
    })

pub all_followed : (start now : Walk) (first : List BareItem) (line : Text) (s : Stand) (marks : List TokenMark) (k : ℕ)
    → HasFollowed start now first line s (drop k marks) → length marks ≤ k → GivesAll start first now
all_followed start now first line s marks k h more rest left = h.gives rest
    (subst (λ ms. Leaves now (bare_items_marked line s ms ++ rest)) (sym (drop_all k marks more)) left)

pub nothing_given : {A : Type 0} (o : Option A) (none : Bool) → is_some o ≡ not none → none ≡ true → o ≡ None
nothing_given None none e t = refl
nothing_given (Some a) none e t = absurd (cc (e, ap not t))
