-- Laws of lines in chunks. A piece may be any value that has lines.
use Rattle.std.proofs.Common.{◌≡◌, ℕ, zero, suc, ◌+◌, ◌-◌, ◌^◌, ◌<◌, ◌≤◌, List, [], ◌∷◌, ◌++◌, length, take, drop, get_or, refl, sym, ap, subst, ◌∙◌, ⊎_elim, arith, append_assoc, length-append, take-append-drop, length-drop}
use Rattle.std.specs.List.{flat_map}
use Rattle.std.specs.Str.{encode_utf8_all as encodes}
use Rattle.std.proofs.lemmas.List.{append-nil, take-append-le, take_at, drop-append-le, get_or_append_left, get_or_push, take_all, take_more, get_or_read, get_or-append-add, take-take, drop-take, drop-drop, get_or-drop}
use Rattle.std.proofs.lemmas.List.Concat.{flat_map-append}
use Rattle.std.proofs.lemmas.Bool.{cases_lt}
use Rattle.std.proofs.lemmas.Str.{encodes-append, length-le-encodes}
use Rattle.ls_text.specs.Cut.{text_of, end_text, line_text, start_of, IsIndex}
use Rattle.ls_text.specs.own.Chunks.{char_length, byte_length, AreSums, IsSpine, IsLineAt}
use Rattle.ls_text.specs.Cut.{Row}
use Rattle.ls_text.proofs.HeldLaws.{text_of_append, text_of_one}
use Rattle.ls_text.proofs.OffsetLaws.{start_le}

-- ---- what is measured adds up
pub char_length_append : (xs ys : List Row) → char_length (xs ++ ys) ≡ char_length xs + char_length ys
char_length_append xs ys = ap length (text_of_append xs ys) ∙ length-append (text_of xs) (text_of ys)

pub byte_length_append : (xs ys : List Row) → byte_length (xs ++ ys) ≡ byte_length xs + byte_length ys
byte_length_append xs ys = ap (λ x. length (encodes x)) (text_of_append xs ys) ∙ ap length (encodes-append (text_of xs) (text_of ys)) ∙ length-append (encodes (text_of xs)) (encodes (text_of ys))

pub chars_le_bytes : (ls : List Row) → char_length ls ≤ byte_length ls
chars_le_bytes ls = length-le-encodes (text_of ls)

pub byte_length_front : (xs ys : List Row) → byte_length xs ≤ byte_length (xs ++ ys)
byte_length_front xs ys = omega (arith, byte_length_append xs ys)

-- ---- lists of three parts
pub take_in : {X : Type 0} (a b c : List X) (j : ℕ) → j ≤ length b → take (length a + j) (a ++ (b ++ c)) ≡ a ++ take j b
take_in [] b c j le = ap (λ n. take n (b ++ c)) (zero_plus j) ∙ take-append-le j b c le
  where
    zero_plus : (j : ℕ) → 0 + j ≡ j
    zero_plus j = omega arith
take_in (x ∷ a) b c j le = ap (λ n. take n (x ∷ (a ++ (b ++ c)))) (more (length a) j) ∙ ap (λ z. x ∷ z) (take_in a b c j le)
  where
    more : (n j : ℕ) → suc n + j ≡ suc (n + j)
    more n j = omega arith

pub drop_in : {X : Type 0} (a b c : List X) (j : ℕ) → j ≤ length b → drop (length a + j) (a ++ (b ++ c)) ≡ drop j b ++ c
drop_in [] b c j le = ap (λ n. drop n (b ++ c)) (zero_plus j) ∙ drop-append-le j b c le
  where
    zero_plus : (j : ℕ) → 0 + j ≡ j
    zero_plus j = omega arith
drop_in (x ∷ a) b c j le = ap (λ n. drop n (x ∷ (a ++ (b ++ c)))) (more (length a) j) ∙ drop_in a b c j le
  where
    more : (n j : ℕ) → suc n + j ≡ suc (n + j)
    more n j = omega arith

pub get_in : (a b c : List Row) (j : ℕ) (d : Row) → j < length b → get_or (a ++ (b ++ c)) (length a + j) d ≡ get_or b j d
get_in a b c j d lt = get_or-append-add a (b ++ c) j d ∙ get_or_append_left b c d j lt

-- a line starts after the lines before it
pub start_of_append : (a b : List Row) (j : ℕ) → start_of (a ++ b) (length a + j) ≡ char_length a + start_of b j
start_of_append [] b j = ap (start_of b) (zero_plus j) ∙ sym (zero_plus (start_of b j))
  where
    zero_plus : (j : ℕ) → 0 + j ≡ j
    zero_plus j = omega arith
start_of_append (l ∷ a) b j =
    ap (start_of (l ∷ (a ++ b))) (more (length a) j)
    ∙ omega (arith, start_of_append a b j, length-append (line_text l) (end_text l.end ++ text_of a), length-append (end_text l.end) (text_of a))
  where
    more : (n j : ℕ) → suc n + j ≡ suc (n + j)
    more n j = omega arith

pub start_of_left : (a b : List Row) (j : ℕ) → j < length a → start_of (a ++ b) j ≡ start_of a j
start_of_left [] b j lt = absurd (omega (arith, lt))
start_of_left (l ∷ a) b zero lt = refl
start_of_left (l ∷ a) b (suc j) lt = ap (λ n. length (line_text l) + (length (end_text l.end) + n)) (start_of_left a b j (omega (arith, lt)))

-- a list's front, and what follows it up to a place
pub take_join : {X : Type 0} (xs : List X) (front place : ℕ) → front ≤ place → take front xs ++ take (place - front) (drop front xs) ≡ take place xs
take_join xs front place le =
    let sum : front + (place - front) ≡ place = omega (arith, le) in
    (λ i. (sym (take-take front place xs le)) i ++ (sym (drop-take front (place - front) xs) ∙ ap (λ n. drop front (take n xs)) sum) i)
    ∙ take-append-drop front (take place xs)

pub start_none : (ls : List Row) → start_of ls 0 ≡ 0
start_none [] = refl
start_none (l ∷ ls) = refl

-- ---- pieces
module _ {X : Type 0} (value : X → List Row) where
  pub pieces_push : (cs : List X) (x : X) → flat_map value (cs ++ x ∷ []) ≡ flat_map value cs ++ value x
  pieces_push cs x = flat_map-append value cs (x ∷ []) ∙ ap (λ z. flat_map value cs ++ z) (append-nil (value x))

  pub pieces_split : (cs : List X) (k : ℕ) → flat_map value (take k cs) ++ flat_map value (drop k cs) ≡ flat_map value cs
  pieces_split cs k = sym (flat_map-append value (take k cs) (drop k cs)) ∙ ap (flat_map value) (take-append-drop k cs)

  pub sums_push : (measure : List Row → ℕ) → ((xs ys : List Row) → measure (xs ++ ys) ≡ measure xs + measure ys) → (cs : List X) (x : X) (sums : List ℕ) (total more : ℕ) → AreSums value measure cs sums total → more ≡ measure (value x) → AreSums value measure (cs ++ x ∷ []) (sums ++ total ∷ []) (total + more)
  sums_push measure add cs x sums total more s more_is = record {
    count = omega (arith, length-append sums (total ∷ []), length-append cs (x ∷ []), s.count);
    sums_are = λ k lt. ⊎_elim (λ below. get_or_append_left sums (total ∷ []) 0 k (omega (arith, below, s.count)) ∙ s.sums_are k below ∙ ap (λ z. measure (flat_map value z)) (sym (take-append-le k cs (x ∷ []) (omega (arith, below)))))
        (λ above. let e : k ≡ length cs = omega (arith, above, lt, length-append cs (x ∷ [])) in
        subst (λ z. get_or (sums ++ total ∷ []) z 0 ≡ measure (flat_map value (take z (cs ++ x ∷ [])))) (sym e)
        (get_or_push sums total 0 (length cs) s.count ∙ s.total_is ∙ ap (λ z. measure (flat_map value z)) (sym (take_at cs (x ∷ []) (length cs) refl)))) (cases_lt k (length cs));
    total_is = (λ i. s.total_is i + more_is i) ∙ sym (add (flat_map value cs) (value x)) ∙ ap measure (sym (pieces_push cs x));
  }

  pub spine_push : (cs next : List X) (x : X) (firsts starts firsts' starts' : List ℕ) (count chars bytes more_lines more_chars more_bytes : ℕ) → IsSpine value cs firsts starts count chars bytes → next ≡ cs ++ x ∷ [] → firsts' ≡ firsts ++ count ∷ [] → starts' ≡ starts ++ chars ∷ [] → more_lines ≡ length (value x) → more_chars ≡ char_length (value x) → more_bytes ≡ byte_length (value x) → bytes + more_bytes ≤ 4_194_304 → count + more_lines < 2 ^ 64 → IsSpine value next firsts' starts' (count + more_lines) (chars + more_chars) (bytes + more_bytes)
  spine_push cs next x firsts starts firsts' starts' count chars bytes more_lines more_chars more_bytes s next_is firsts_are starts_are lines_is chars_is bytes_is small fits =
      subst (λ z. IsSpine value z firsts' starts' (count + more_lines) (chars + more_chars) (bytes + more_bytes)) (sym next_is) (record {
        line_sums = subst (λ z. AreSums value length (cs ++ x ∷ []) z (count + more_lines)) (sym firsts_are) (sums_push length (λ xs ys. length-append xs ys) cs x firsts count more_lines s.line_sums lines_is);
        char_sums = subst (λ z. AreSums value char_length (cs ++ x ∷ []) z (chars + more_chars)) (sym starts_are) (sums_push char_length char_length_append cs x starts chars more_chars s.char_sums chars_is);
        bytes_are = (λ i. s.bytes_are i + bytes_is i) ∙ sym (byte_length_append (flat_map value cs) (value x)) ∙ ap byte_length (sym (pieces_push cs x));
        small = small;
        fits = fits;
      })

  -- the lines before a piece, the piece, and the lines after it
  pub pieces_at : (cs : List X) (k : ℕ) (x : X) → k < length cs → x ≡ get_or cs k x → flat_map value cs ≡ flat_map value (take k cs) ++ (value x ++ flat_map value (drop (k + 1) cs))
  pieces_at cs k x lt item =
      sym (pieces_split cs (k + 1))
      ∙ ap (λ z. flat_map value z ++ flat_map value (drop (k + 1) cs)) (take_more cs k x lt ∙ ap (λ z. take k cs ++ z ∷ []) (sym item))
      ∙ ap (λ z. z ++ flat_map value (drop (k + 1) cs)) (pieces_push (take k cs) x)
      ∙ append_assoc (flat_map value (take k cs)) (value x) (flat_map value (drop (k + 1) cs))

  pub pieces_next : (cs : List X) (k : ℕ) (x : X) → k < length cs → x ≡ get_or cs k x → flat_map value (take (k + 1) cs) ≡ flat_map value (take k cs) ++ value x
  pieces_next cs k x lt item = ap (flat_map value) (take_more cs k x lt ∙ ap (λ z. take k cs ++ z ∷ []) (sym item)) ∙ pieces_push (take k cs) x

  pub pieces_some : (cs : List X) → 0 < length (flat_map value cs) → 0 < length cs
  pieces_some [] lt = absurd (omega (arith, lt))
  pieces_some (c ∷ cs) lt = omega arith

  -- the lines of one more piece
  pub pieces_more : (cs : List X) (i : ℕ) (x : X) → i < length cs → x ≡ get_or cs i x → (now next init : List Row) → next ≡ now ++ value x → now ≡ init ++ flat_map value (take i cs) → next ≡ init ++ flat_map value (take (i + 1) cs)
  pieces_more cs i x lt item now next init pushed before =
      pushed ∙ ap (λ z. z ++ value x) before ∙ append_assoc init (flat_map value (take i cs)) (value x) ∙ ap (λ z. init ++ z) (sym (pieces_next cs i x lt item))

  pub pieces_bytes : (cs : List X) (i : ℕ) (x : X) → i < length cs → x ≡ get_or cs i x → (now piece init : List Row) → piece ≡ value x → now ≡ init ++ flat_map value (take i cs) → byte_length (now ++ piece) ≤ byte_length (init ++ flat_map value cs)
  pieces_bytes cs i x lt item now piece init piece_is before =
      let some : now ++ piece ≡ init ++ flat_map value (take (i + 1) cs) = pieces_more cs i x lt item now (now ++ piece) init (ap (λ z. now ++ z) piece_is) before in
      let all : init ++ flat_map value cs ≡ (init ++ flat_map value (take (i + 1) cs)) ++ flat_map value (drop (i + 1) cs) = ap (λ z. init ++ z) (sym (pieces_split cs (i + 1))) ∙ sym (append_assoc init (flat_map value (take (i + 1) cs)) (flat_map value (drop (i + 1) cs))) in
      omega (arith, ap byte_length some, ap byte_length all, byte_length_front (init ++ flat_map value (take (i + 1) cs)) (flat_map value (drop (i + 1) cs)))

  -- ---- the piece found among sums
  module _ (measure : List Row → ℕ) (add : (xs ys : List Row) → measure (xs ++ ys) ≡ measure xs + measure ys) (none : measure [] ≡ 0) (cs : List X) (sums : List ℕ) (total : ℕ) (s : AreSums value measure cs sums total) where
    pub sums_first : 0 < length cs → get_or sums 0 0 ≡ 0
    sums_first lt = s.sums_are 0 lt ∙ none

    -- how far into the piece a place stands, which is not past the piece's end
    pub sums_found : (k at : ℕ) (x : X) → k < length cs → x ≡ get_or cs k x → get_or sums k 0 ≤ at → (k + 1 < length sums → at < get_or sums (k + 1) 0) → at ≤ total → at - get_or sums k 0 ≤ measure (value x)
    sums_found k at x lt item le next within = ⊎_elim inner at_last (cases_lt (k + 1) (length cs))
      where
        inner : k + 1 < length cs → at - get_or sums k 0 ≤ measure (value x)
        inner more = omega (arith, next (omega (arith, more, s.count)), s.sums_are (k + 1) more, s.sums_are k lt, ap measure (pieces_next cs k x lt item), add (flat_map value (take k cs)) (value x))

        at_last : length cs ≤ k + 1 → at - get_or sums k 0 ≤ measure (value x)
        at_last all = omega (arith, within, s.total_is, s.sums_are k lt, ap measure (sym (ap (flat_map value) (take_all (k + 1) cs all)) ∙ pieces_next cs k x lt item), add (flat_map value (take k cs)) (value x))

    pub sums_within : (k at : ℕ) (x : X) → k < length cs → x ≡ get_or cs k x → get_or sums k 0 ≤ at → (k + 1 < length sums → at < get_or sums (k + 1) 0) → at < total → at - get_or sums k 0 < measure (value x)
    sums_within k at x lt item le next within = ⊎_elim inner at_last (cases_lt (k + 1) (length cs))
      where
        inner : k + 1 < length cs → at - get_or sums k 0 < measure (value x)
        inner more = omega (arith, le, next (omega (arith, more, s.count)), s.sums_are (k + 1) more, s.sums_are k lt, ap measure (pieces_next cs k x lt item), add (flat_map value (take k cs)) (value x))

        at_last : length cs ≤ k + 1 → at - get_or sums k 0 < measure (value x)
        at_last all = omega (arith, le, within, s.total_is, s.sums_are k lt, ap measure (sym (ap (flat_map value) (take_all (k + 1) cs all)) ∙ pieces_next cs k x lt item), add (flat_map value (take k cs)) (value x))

  -- ---- pieces joined again
  module _ (cs : List X) (place : ℕ) (x : X) (lt : place < length cs) (item : x ≡ get_or cs place x) (local : ℕ) (room : length (flat_map value (take place cs)) + local ≤ length (flat_map value (take (place + 1) cs))) where
    pub piece_room : local ≤ length (value x)
    piece_room = omega (arith, room, ap length (pieces_next cs place x lt item), length-append (flat_map value (take place cs)) (value x))

    pub before_is : (front : ℕ) → front ≤ place → (init mid last : List Row) → init ≡ [] → mid ≡ init ++ flat_map value (take (place - front) (drop front cs)) → last ≡ mid ++ take local (value x) → flat_map value (take front cs) ++ last ≡ take (length (flat_map value (take place cs)) + local) (flat_map value cs)
    before_is front le init mid last init_is mid_is last_is =
        let a = flat_map value (take front cs) in
        let b = flat_map value (take (place - front) (drop front cs)) in
        let all : last ≡ b ++ take local (value x) = last_is ∙ ap (λ z. z ++ take local (value x)) (mid_is ∙ ap (λ z. z ++ flat_map value (take (place - front) (drop front cs))) init_is) in
        ap (λ z. flat_map value (take front cs) ++ z) all
        ∙ sym (append_assoc (flat_map value (take front cs)) (flat_map value (take (place - front) (drop front cs))) (take local (value x)))
        ∙ ap (λ z. z ++ take local (value x)) (sym (flat_map-append value (take front cs) (take (place - front) (drop front cs))) ∙ ap (flat_map value) (take_join cs front place le))
        ∙ sym (take_in (flat_map value (take place cs)) (value x) (flat_map value (drop (place + 1) cs)) local piece_room)
        ∙ ap (take (length (flat_map value (take place cs)) + local)) (sym (pieces_at cs place x lt item))

    pub after_is : (back : ℕ) → place < back → (init mid last : List Row) → mid ≡ init ++ drop local (value x) → last ≡ mid ++ flat_map value (take (back - (place + 1)) (drop (place + 1) cs)) → last ++ flat_map value (drop back cs) ≡ init ++ drop (length (flat_map value (take place cs)) + local) (flat_map value cs)
    after_is back le init mid last mid_is last_is =
        let sum : place + 1 + (back - (place + 1)) ≡ back = omega (arith, le) in
        let rest : flat_map value (take (back - (place + 1)) (drop (place + 1) cs)) ++ flat_map value (drop back cs) ≡ flat_map value (drop (place + 1) cs) =
        ap (λ z. flat_map value (take (back - (place + 1)) (drop (place + 1) cs)) ++ flat_map value z) (ap (λ n. drop n cs) (sym sum) ∙ sym (drop-drop (back - (place + 1)) (place + 1) cs)) ∙ pieces_split (drop (place + 1) cs) (back - (place + 1)) in
        ap (λ z. z ++ flat_map value (drop back cs)) last_is
        ∙ append_assoc mid (flat_map value (take (back - (place + 1)) (drop (place + 1) cs))) (flat_map value (drop back cs))
        ∙ (λ i. mid_is i ++ rest i)
        ∙ append_assoc init (drop local (value x)) (flat_map value (drop (place + 1) cs))
        ∙ ap (λ z. init ++ z) (sym (drop_in (flat_map value (take place cs)) (value x) (flat_map value (drop (place + 1) cs)) local piece_room) ∙ ap (drop (length (flat_map value (take place cs)) + local)) (sym (pieces_at cs place x lt item)))

  -- ---- a line of a piece
  pub line_at_piece : (cs : List X) (k : ℕ) (x : X) → k < length cs → x ≡ get_or cs k x → (first start local local_start : ℕ) (line : Row) → first ≡ length (flat_map value (take k cs)) → start ≡ char_length (flat_map value (take k cs)) → IsLineAt (value x) local line local_start → IsLineAt (flat_map value cs) (first + local) line (start + local_start)
  line_at_piece cs k x lt item first start local local_start line first_is start_is found =
      let a = flat_map value (take k cs) in
      let c = flat_map value (drop (k + 1) cs) in
      subst (λ n. IsLineAt (flat_map value cs) (n + local) line (start + local_start)) (sym first_is)
      (subst (λ z. IsLineAt z (length (flat_map value (take k cs)) + local) line (start + local_start)) (sym (pieces_at cs k x lt item)) (record {
        in_range = omega (arith, found.in_range, length-append (flat_map value (take k cs)) (value x ++ flat_map value (drop (k + 1) cs)), length-append (value x) (flat_map value (drop (k + 1) cs)));
        line_is = found.line_is ∙ sym (get_in (flat_map value (take k cs)) (value x) (flat_map value (drop (k + 1) cs)) local line found.in_range);
        start_is = (λ i. start_is i + found.start_is i) ∙ ap (λ n. char_length (flat_map value (take k cs)) + n) (sym (start_of_left (value x) (flat_map value (drop (k + 1) cs)) local found.in_range)) ∙ sym (start_of_append (flat_map value (take k cs)) (value x ++ flat_map value (drop (k + 1) cs)) local);
      }))

-- a line of lines with an index
pub line_known : (ls : List Row) (starts : List ℕ) (len : ℕ) → IsIndex starts len ls → (j : ℕ) (line : Row) (start : ℕ) → j < length ls → line ≡ get_or ls j line → start ≡ get_or starts j start → IsLineAt ls j line start
line_known ls starts len index j line start lt line_is start_is = record {
  in_range = lt;
  line_is = line_is;
  start_is = get_or_read starts j start (omega (arith, lt, index.count)) start_is 0 ∙ index.starts_are j lt;
}

pub line_start_le : (ls : List Row) (m : ℕ) (line : Row) (start : ℕ) → IsLineAt ls m line start → start ≤ byte_length ls
line_start_le ls m line start found = omega (arith, found.start_is, start_le ls m found.in_range, chars_le_bytes ls)

-- ---- lines from the first on, and up to the last
pub from_none : {X : Type 0} (n : ℕ) (xs : List X) → take (n - 0) (drop 0 xs) ≡ take n xs
from_none n xs =
    let same : n - 0 ≡ n = omega arith in
    ap (λ k. take k xs) same

pub up_to_end : {X : Type 0} (n : ℕ) (xs : List X) (len : ℕ) → len ≡ length xs → take (len - n) (drop n xs) ≡ drop n xs
up_to_end n xs len len_is = take_all (len - n) (drop n xs) (omega (arith, len_is, length-drop n xs))

-- ---- lines up to one, and those from it up to another
pub parts_more : (init ls now next : List Row) (from to : ℕ) → from ≤ to → now ≡ init ++ take from ls → next ≡ now ++ take (to - from) (drop from ls) → next ≡ init ++ take to ls
parts_more init ls now next from to le before more =
    more ∙ ap (λ z. z ++ take (to - from) (drop from ls)) before ∙ append_assoc init (take from ls) (take (to - from) (drop from ls)) ∙ ap (λ z. init ++ z) (take_join ls from to le)

pub parts_bytes : (init ls next : List Row) (to : ℕ) → next ≡ init ++ take to ls → byte_length next ≤ byte_length (init ++ ls)
parts_bytes init ls next to is =
    let all : init ++ ls ≡ (init ++ take to ls) ++ drop to ls = ap (λ z. init ++ z) (sym (take-append-drop to ls)) ∙ sym (append_assoc init (take to ls) (drop to ls)) in
    omega (arith, ap byte_length is, ap byte_length all, byte_length_front (init ++ take to ls) (drop to ls))

pub nil_of : {X : Type 0} (xs : List X) → length xs ≡ 0 → xs ≡ []
nil_of [] e = refl
nil_of (x ∷ xs) e = absurd (omega arith)

-- ---- what a spine finds
module _ {X : Type 0} (value : X → List Row) (cs : List X) (firsts starts : List ℕ) (count chars bytes : ℕ) (s : IsSpine value cs firsts starts count chars bytes) where
  pub spine_line : (got : List ℕ) → got ≡ firsts → (k at : ℕ) → k < length got → get_or got k 0 ≤ at → (k + 1 < length got → at < get_or got (k + 1) 0) → at < count → (x : X) → x ≡ get_or cs k x → (first start : ℕ) → first ≡ get_or firsts k first → start ≡ get_or starts k start → (held : List Row) → held ≡ value x → (line : Row) (local_start : ℕ) → (at - first < length held → IsLineAt held (at - first) line local_start) → IsLineAt (flat_map value cs) at line (start + local_start)
  spine_line got got_is k at in_range le next within x item first start first_is start_is held held_is line local_start found =
      let lt : k < length cs = omega (arith, in_range, ap length got_is, s.line_sums.count) in
      let first_at : first ≡ get_or firsts k 0 = get_or_read firsts k first (omega (arith, in_range, ap length got_is)) first_is 0 in
      let start_at : start ≡ get_or starts k 0 = get_or_read starts k start (omega (arith, lt, s.char_sums.count)) start_is 0 in
      let le_at : get_or firsts k 0 ≤ at = subst (λ z. get_or z k 0 ≤ at) got_is le in
      let next_at : k + 1 < length firsts → at < get_or firsts (k + 1) 0 = subst (λ z. k + 1 < length z → at < get_or z (k + 1) 0) got_is next in
      let inside : at - get_or firsts k 0 < length (value x) = sums_within value length (λ xs ys. length-append xs ys) refl cs firsts count s.line_sums k at x lt item le_at next_at within in
      let there : IsLineAt held (at - first) line local_start = found (omega (arith, inside, first_at, ap length held_is)) in
      let sum : first + (at - first) ≡ at = omega (arith, le_at, first_at) in
      subst (λ n. IsLineAt (flat_map value cs) n line (start + local_start)) sum
      (line_at_piece value cs k x lt item first start (at - first) local_start line (first_at ∙ s.line_sums.sums_are k lt) (start_at ∙ s.char_sums.sums_are k lt) (subst (λ z. IsLineAt z (at - first) line local_start) held_is there))

  -- how many lines come before a place in the piece found
  pub spine_place : (got : List ℕ) → got ≡ firsts → (k at : ℕ) → k < length got → get_or got k 0 ≤ at → (first : ℕ) → first ≡ get_or firsts k first → length (flat_map value (take k cs)) + (at - first) ≡ at
  spine_place got got_is k at in_range le first first_is =
      let lt : k < length cs = omega (arith, in_range, ap length got_is, s.line_sums.count) in
      omega (arith, get_or_read firsts k first (omega (arith, in_range, ap length got_is)) first_is 0, s.line_sums.sums_are k lt, ap (λ z. get_or z k 0) got_is, le)

  -- a place in the piece found is not past the piece's end
  pub spine_room : (got : List ℕ) → got ≡ firsts → (k at : ℕ) → k < length got → get_or got k 0 ≤ at → (k + 1 < length got → at < get_or got (k + 1) 0) → at ≤ count → (first : ℕ) → first ≡ get_or firsts k first → length (flat_map value (take k cs)) + (at - first) ≤ length (flat_map value (take (k + 1) cs))
  spine_room got got_is k at in_range le next within first first_is =
      let sum : length (flat_map value (take k cs)) + (at - first) ≡ at = spine_place got got_is k at in_range le first first_is in
      ⊎_elim (λ more. omega (arith, sum, next (omega (arith, more, ap length got_is, s.line_sums.count)), s.line_sums.sums_are (k + 1) more, ap (λ z. get_or z (k + 1) 0) got_is))
      (λ all. omega (arith, sum, within, s.line_sums.total_is, ap (λ z. length (flat_map value z)) (take_all (k + 1) cs all))) (cases_lt (k + 1) (length cs))

  module _ (got : List ℕ) (got_is : got ≡ starts) (k offset : ℕ) (in_range : k < length got) (le : get_or got k 0 ≤ offset) (next : k + 1 < length got → offset < get_or got (k + 1) 0) (x : X) (item : x ≡ get_or cs k x) (first start : ℕ) (first_is : first ≡ get_or firsts k first) (start_is : start ≡ get_or starts k start) where
    k_lt : k < length cs
    k_lt = omega (arith, in_range, ap length got_is, s.char_sums.count)

    first_at : first ≡ length (flat_map value (take k cs))
    first_at = get_or_read firsts k first (omega (arith, k_lt, s.line_sums.count)) first_is 0 ∙ s.line_sums.sums_are k k_lt

    start_at : start ≡ char_length (flat_map value (take k cs))
    start_at = get_or_read starts k start (omega (arith, k_lt, s.char_sums.count)) start_is 0 ∙ s.char_sums.sums_are k k_lt

    pub spine_found : (held : List Row) → held ≡ value x → (local local_start : ℕ) (line : Row) → IsLineAt held local line local_start → IsLineAt (flat_map value cs) (first + local) line (start + local_start)
    spine_found held held_is local local_start line found =
        line_at_piece value cs k x k_lt item first start local local_start line first_at start_at (subst (λ z. IsLineAt z local line local_start) held_is found)

    pub spine_last : (held : List Row) → held ≡ value x → (local : ℕ) → local < length held → (local + 1 < length held → offset - start < start_of held (local + 1)) → first + local + 1 < length (flat_map value cs) → offset < start_of (flat_map value cs) (first + local + 1)
    spine_last held held_is local local_lt local_next more = ⊎_elim inner at_end (cases_lt (local + 1) (length held))
      where
        after_start : start ≤ offset
        after_start = omega (arith, le, ap (λ z. get_or z k 0) got_is, start_at, s.char_sums.sums_are k k_lt)

        inner : local + 1 < length held → offset < start_of (flat_map value cs) (first + local + 1)
        inner lt =
            let sum : first + local + 1 ≡ length (flat_map value (take k cs)) + (local + 1) = omega (arith, first_at) in
            let lt' : local + 1 < length (value x) = omega (arith, lt, ap length held_is) in
            let here : start_of (flat_map value cs) (first + local + 1) ≡ char_length (flat_map value (take k cs)) + start_of (value x) (local + 1) =
            ap (start_of (flat_map value cs)) sum ∙ ap (λ z. start_of z (length (flat_map value (take k cs)) + (local + 1))) (pieces_at value cs k x k_lt item)
            ∙ start_of_append (flat_map value (take k cs)) (value x ++ flat_map value (drop (k + 1) cs)) (local + 1)
            ∙ ap (λ n. char_length (flat_map value (take k cs)) + n) (start_of_left (value x) (flat_map value (drop (k + 1) cs)) (local + 1) lt') in
            omega (arith, here, local_next lt, ap (λ z. start_of z (local + 1)) held_is, start_at, after_start)

        at_end : length held ≤ local + 1 → offset < start_of (flat_map value cs) (first + local + 1)
        at_end ge = ⊎_elim inside past (cases_lt (k + 1) (length cs))
          where
            ends : first + local + 1 ≡ length (flat_map value (take (k + 1) cs))
            ends = omega (arith, ge, local_lt, ap length held_is, first_at, ap length (pieces_next value cs k x k_lt item), length-append (flat_map value (take k cs)) (value x))

            inside : k + 1 < length cs → offset < start_of (flat_map value cs) (first + local + 1)
            inside lt =
                let zero_more : length (flat_map value (take (k + 1) cs)) + 0 ≡ length (flat_map value (take (k + 1) cs)) = omega arith in
                let here : start_of (flat_map value cs) (first + local + 1) ≡ char_length (flat_map value (take (k + 1) cs)) + start_of (flat_map value (drop (k + 1) cs)) 0 =
                ap (start_of (flat_map value cs)) (ends ∙ sym zero_more) ∙ ap (λ z. start_of z (length (flat_map value (take (k + 1) cs)) + 0)) (sym (pieces_split value cs (k + 1)))
                ∙ start_of_append (flat_map value (take (k + 1) cs)) (flat_map value (drop (k + 1) cs)) 0 in
                omega (arith, here, start_none (flat_map value (drop (k + 1) cs)), next (omega (arith, lt, ap length got_is, s.char_sums.count)), ap (λ z. get_or z (k + 1) 0) got_is, s.char_sums.sums_are (k + 1) lt)

            past : length cs ≤ k + 1 → offset < start_of (flat_map value cs) (first + local + 1)
            past le_k = absurd (omega (arith, ends, more, ap (λ z. length (flat_map value z)) (take_all (k + 1) cs le_k)))

-- ---- a part replaced: p comes before the new chunks, which have the lines l, and b after them
module _ (p l0 l1 l b new front back : List Row) (front_is : p ++ l0 ≡ front) (l1_is : l1 ≡ l0 ++ new) (back_is : l ++ b ≡ l1 ++ back) where
  pub replaced_is : (p ++ l) ++ b ≡ front ++ (new ++ back)
  replaced_is =
      append_assoc p l b ∙ ap (λ z. p ++ z) (back_is ∙ ap (λ z. z ++ back) l1_is ∙ append_assoc l0 new back)
      ∙ sym (append_assoc p l0 (new ++ back)) ∙ ap (λ z. z ++ (new ++ back)) front_is

  pub replaced_bytes : byte_length (p ++ l) ≤ byte_length (front ++ (new ++ back))
  replaced_bytes = omega (arith, ap byte_length replaced_is, byte_length_front (p ++ l) b)

-- ---- the text of the lines from one up to another
pub between_none : (ls : List Row) (from : ℕ) (t : List ℕ) → t ≡ t ++ text_of (take (from - from) (drop from ls))
between_none ls from t =
    let none : from - from ≡ 0 = omega arith in
    sym (append-nil t) ∙ ap (λ n. t ++ text_of (take n (drop from ls))) (sym none)

pub between_more : (ls : List Row) (from i : ℕ) (l : Row) (start : ℕ) → from ≤ i → IsLineAt ls i l start → (init now next : List ℕ) → next ≡ now ++ (line_text l ++ end_text l.end) → now ≡ init ++ text_of (take (i - from) (drop from ls)) → next ≡ init ++ text_of (take (i + 1 - from) (drop from ls))
between_more ls from i l start le at init now next next_is before =
    let place : from + (i - from) ≡ i = omega (arith, le) in
    let one : i + 1 - from ≡ i - from + 1 = omega (arith, le) in
    let here : get_or (drop from ls) (i - from) l ≡ l = get_or-drop from ls (i - from) l ∙ ap (λ n. get_or ls n l) place ∙ sym at.line_is in
    let more : take (i + 1 - from) (drop from ls) ≡ take (i - from) (drop from ls) ++ l ∷ [] =
    ap (λ n. take n (drop from ls)) one ∙ take_more (drop from ls) (i - from) l (omega (arith, le, at.in_range, length-drop from ls)) ∙ ap (λ z. take (i - from) (drop from ls) ++ z ∷ []) here in
    next_is ∙ ap (λ z. z ++ (line_text l ++ end_text l.end)) before
    ∙ append_assoc init (text_of (take (i - from) (drop from ls))) (line_text l ++ end_text l.end)
    ∙ ap (λ z. init ++ z) (sym (text_of_one (take (i - from) (drop from ls)) l) ∙ ap text_of (sym more))
