-- What is gathered from a draft are Unicode scalar values, as the draft's characters are.
use Rattle.std.proofs.Common.{◌≡◌, ℕ, zero, suc, ◌+◌, ◌-◌, ◌≤◌, ◌<◌, List, [], ◌∷◌, ◌++◌, length, take, drop, refl, sym, subst, arith}
use Rattle.std.specs.Prelude.{◌*◌, slice_index, pred, All, Bool, true, false, ◌&&◌, ◌||◌, ◌==◌, nat_le, nat_lt, min, Option, Some, None, is_some, Result, Ok, Err, if◌then◌else◌}
use Rattle.std.specs.Option.{option_map}
use Rattle.std.specs.List.{AllByRecursion, prefix_len}
use Rattle.std.specs.Char.{IsScalar, digit_value, is_digit}
use Rattle.std.proofs.lemmas.Bool.{ltb-true, lt-ltb, le-leb, leb-true}
use Rattle.std.proofs.lemmas.List.Elements.{All-from_recursion, recursion_from_All}
use Rattle.ls_text.specs.Lines.{ends_line}
use Rattle.origins.specs.Origins.{Sourced, SourcedBlock, aligned, characters, first_indent, from, gathered_grammar, is_blank_char, is_break, left_aligned}
use Rattle.markdown_blocks.specs.Fences.{Line, behind_line, closes_fence, ended_block, fence_content, fenced_blocks, first_says, margin, placed_lines_from, put_placed, with_word, without_end}
use Rattle.markdown_blocks.specs.declared.fence.Fence.{Fence}
use Rattle.markdown_blocks.specs.declared.reading.Reading.{Reading}
use Rattle.markdown_blocks.specs.declared.reading.Reading.TheVariants as reading
use Rattle.xml_blocks.specs.Xml.{Opened, begins_with_mark, behind_piece, by_name, by_number, element_front, ended_at, closes_element, from_piece_on, is_plain_char, is_scalar, markup, named_value, number, numbered_value, opened_by, piece_at, piece_content, piece_of, put_before, reference, referred_piece, section_text, tag_len, until, value_with_digit, with_value}
use Rattle.xml_blocks.specs.declared.fault.XmlFault.{XmlFault}
use Rattle.xml_blocks.specs.declared.fault.XmlFault.TheVariants.{CommentWithoutEnd, SectionWithoutEnd, TagWithoutEnd}
use Rattle.xml_blocks.specs.declared.piece.Kind.{Kind}
use Rattle.xml_blocks.specs.declared.piece.Kind.TheVariants.{Text, Comment, Section, Tag, Reference}
use Rattle.xml_blocks.specs.declared.piece.Piece.{Piece}
use Rattle.xml_blocks.specs.declared.gather.Open.{Open as Begun}
use Rattle.draft_grammars.specs.Drafts.{grammar_in}
use Rattle.draft_grammars.specs.declared.format.Format.{Format}
use Rattle.draft_grammars.specs.declared.format.Format.TheVariants.{Markdown, Xml}
use Rattle.draft_grammars.proofs.GatherLaws.{grammar_of_append}

abbrev Are : List ℕ → Type 0
Are t = AllByRecursion IsScalar t

abbrev AreOf : List Sourced → Type 0
AreOf cs = AllByRecursion (λ (c : Sourced). IsScalar c.0) cs

both : {X : Type 0} (P : X → Type 0) (xs ys : List X) → AllByRecursion P xs → AllByRecursion P ys → AllByRecursion P (xs ++ ys)
both P [] ys h k = k
both P (x ∷ xs) ys h k = (h.0, both P xs ys h.1 k)

are_drop : (n : ℕ) (t : List ℕ) → Are t → Are (drop n t)
are_drop zero t h = h
are_drop (suc n) [] h = h
are_drop (suc n) (c ∷ t) h = are_drop n t h.1

are_take : (n : ℕ) (t : List ℕ) → Are t → Are (take n t)
are_take zero t h = tt
are_take (suc n) [] h = h
are_take (suc n) (c ∷ t) h = (h.0, are_take n t h.1)

are_from : (at : ℕ) (t : List ℕ) → Are t → AreOf (from at t)
are_from at [] h = tt
are_from at (c ∷ t) h = (h.0, are_from (suc at) t h.1)

are_characters : (cs : List Sourced) → AreOf cs → Are (characters cs)
are_characters [] h = tt
are_characters (c ∷ cs) h = (h.0, are_characters cs h.1)

-- ---- blocks

are_left : (base left : ℕ) (cs : List Sourced) → AreOf cs → AreOf (left_aligned base left cs)
are_left base left [] h = tt
are_left base left (c ∷ cs) h =
    by (is_blank_char c.0 && nat_lt 0 left) (are_left base (pred left) cs h.1) (are_left base (if is_break c.0 then base else 0) cs h.1)
  where
    by : (b : Bool) → AreOf (left_aligned base (pred left) cs) → AreOf (left_aligned base (if is_break c.0 then base else 0) cs)
        → AreOf (if b then left_aligned base (pred left) cs else c ∷ left_aligned base (if is_break c.0 then base else 0) cs)
    by true gone kept = gone
    by false gone kept = (h.0, kept)

abbrev line_end : ℕ → List Sourced
line_end at = (10, at) ∷ []

are_block : (b : SourcedBlock) → AreOf b.content → AreOf (aligned b)
are_block b h =
    let base = first_indent (Some 0) (characters b.content) in
    both (λ (c : Sourced). IsScalar c.0) (left_aligned base base b.content) (line_end b.end) (are_left base base b.content h) (refl, tt)

are_one : (b : SourcedBlock) → AreOf b.content → AreOf (gathered_grammar (b ∷ []))
are_one b h = both (λ (c : Sourced). IsScalar c.0) (aligned b) [] (are_block b h) tt

are_ended : (fence : Fence) (content : List Sourced) (at : ℕ) → AreOf content → AreOf (gathered_grammar (ended_block fence content at))
are_ended fence content at h = by fence.is_abnf
  where
    by : (b : Bool) → AreOf (gathered_grammar (if b then record { content = content; end = at } ∷ [] else []))
    by true = are_one (record { content = content; end = at }) h
    by false = tt

are_joined : (bs cs : List SourcedBlock) → AreOf (gathered_grammar bs) → AreOf (gathered_grammar cs) → AreOf (gathered_grammar (bs ++ cs))
are_joined bs cs h k = subst AreOf (sym (grammar_of_append bs cs)) (both (λ (c : Sourced). IsScalar c.0) (gathered_grammar bs) (gathered_grammar cs) h k)

-- ---- Markdown

abbrev AreLines : List Line → Type 0
AreLines ls = AllByRecursion (λ (l : Line). Are l.1) ls

are_put : (at c : ℕ) (ls : List Line) → IsScalar c → AreLines ls → AreLines (put_placed at c ls)
are_put at c [] h k = ((h, tt), tt)
are_put at c (l ∷ ls) h k = ((h, k.0), k.1)

are_lines : (at : ℕ) (t : List ℕ) → Are t → AreLines (placed_lines_from at t)
unfolding placed_lines_from
are_lines at [] h = tt
are_lines at (c ∷ t) h = by (ends_line c t) (are_lines (suc at) t h.1)
  where
    by : (b : Bool) → AreLines (placed_lines_from (suc at) t) → AreLines (if b then (at, c ∷ []) ∷ placed_lines_from (suc at) t else put_placed at c (placed_lines_from (suc at) t))
    by true rest = ((h.0, tt), rest)
    by false rest = are_put at c (placed_lines_from (suc at) t) h.0 rest

-- a line of a block
are_content : (fence : Fence) (l : Line) → Are l.1 → AreOf (fence_content fence l)
are_content fence l h =
    let gone = min fence.indent (margin fence.quoted l.1) in
    are_from (l.0 + gone) (drop gone l.1) (are_drop gone l.1 h)

are_gathered : (end : ℕ) (r : Reading) (content : List Sourced) (ls : List Line) → AreOf content → AreLines ls → AreOf (gathered_grammar (fenced_blocks end r content ls))
unfolding fenced_blocks
are_gathered end (reading.Block fence) content [] h k = are_ended fence content end h
are_gathered end r content [] h k = tt
are_gathered end (reading.Block fence) content (l ∷ ls) h k =
    by (closes_fence fence (without_end l.1)) (are_gathered end reading.BehindBlock [] ls tt k.1)
    (are_gathered end (reading.Block fence) (content ++ fence_content fence l) ls (both (λ (c : Sourced). IsScalar c.0) content (fence_content fence l) h (are_content fence l k.0)) k.1)
  where
    by : (b : Bool) → AreOf (gathered_grammar (fenced_blocks end reading.BehindBlock [] ls)) → AreOf (gathered_grammar (fenced_blocks end (reading.Block fence) (content ++ fence_content fence l) ls))
        → AreOf (gathered_grammar (if b then ended_block (with_word (first_says ls) fence) content l.0 ++ fenced_blocks end reading.BehindBlock [] ls
        else fenced_blocks end (reading.Block fence) (content ++ fence_content fence l) ls))
    by true outside inside =
        let fence = with_word (first_says ls) fence in
        are_joined (ended_block fence content l.0) (fenced_blocks end reading.BehindBlock [] ls) (are_ended fence content l.0 h) outside
    by false outside inside = inside
are_gathered end r content (l ∷ ls) h k = are_gathered end (behind_line r (without_end l.1)) [] ls tt k.1

-- ---- XML: references

scalar_of : (c : ℕ) → c ≤ 0x10FFFF → is_scalar c ≡ true → IsScalar c
scalar_of c le e = by (nat_lt c 0xD800) (nat_lt 0xDFFF c) refl refl e
  where
    by : (low high : Bool) → nat_lt c 0xD800 ≡ low → nat_lt 0xDFFF c ≡ high → (low || high) ≡ true → IsScalar c
    by true high l h e = rw l refl
    by false true l h e =
        let above : 0xDFFF < c = ltb-true 0xDFFF c h in
        let from_high = le-leb 0xE000 c (omega (arith, above)) in
        let up_to = lt-ltb c 0x11_0000 (omega (arith, le)) in
        rw (l, from_high, up_to) refl
    by false false l h e = absurd (cc (e))

named_scalar : (value count : ℕ) (r : ℕ × ℕ) → value ≤ 0x10FFFF → named_value value count ≡ Some r → IsScalar r.0
named_scalar value count r le e = by (is_scalar value) refl e
  where
    by : (b : Bool) → is_scalar value ≡ b → (if b then Some (value, count) else None) ≡ Some r → IsScalar r.0
    by true is e = let same : (value, count) ≡ r = cc (e) in subst (λ (q : ℕ × ℕ). IsScalar q.0) same (scalar_of value le is)
    by false is e = absurd (cc (e))

digit_small : (value base c more : ℕ) → value_with_digit value base c ≡ Some more → more ≤ 0x10FFFF
digit_small value base c more e = by (is_digit c base) (nat_le (value * base + digit_value c) 0x10FFFF) refl e
  where
    by : (digit small : Bool) → nat_le (value * base + digit_value c) 0x10FFFF ≡ small → (if digit && small then Some (value * base + digit_value c) else None) ≡ Some more → more ≤ 0x10FFFF
    by true true is e =
        let same : value * base + digit_value c ≡ more = cc (e) in
        subst (λ n. n ≤ 0x10FFFF) same (leb-true (value * base + digit_value c) 0x10FFFF is)
    by true false is e = absurd (cc (e))
    by false small is e = absurd (cc (e))

number_scalar : (base value : ℕ) (t : List ℕ) (r : ℕ × ℕ) → value ≤ 0x10FFFF → number base value t ≡ Some r → IsScalar r.0
unfolding number
number_scalar base value [] r le e = absurd (cc (e))
number_scalar base value (c ∷ t) r le e = by (λ more q. number_scalar base more t q) (c == 59) e
  where
    mapped : ((more : ℕ) (q : ℕ × ℕ) → more ≤ 0x10FFFF → number base more t ≡ Some q → IsScalar q.0) → (more : ℕ) → more ≤ 0x10FFFF → (o : Option (ℕ × ℕ)) → number base more t ≡ o
        → option_map (λ (q : ℕ × ℕ). (q.0, suc q.1)) o ≡ Some r → IsScalar r.0
    mapped all more small None is e = absurd (cc (e))
    mapped all more small (Some q) is e = let same : (q.0, suc q.1) ≡ r = cc (e) in subst (λ (q : ℕ × ℕ). IsScalar q.0) same (all more q small is)

    valued : ((more : ℕ) (q : ℕ × ℕ) → more ≤ 0x10FFFF → number base more t ≡ Some q → IsScalar q.0) → (o : Option ℕ) → value_with_digit value base c ≡ o
        → with_value o (λ more. option_map (λ (q : ℕ × ℕ). (q.0, suc q.1)) (number base more t)) ≡ Some r → IsScalar r.0
    valued all None is e = absurd (cc (e))
    valued all (Some more) is e = mapped all more (digit_small value base c more is) (number base more t) refl e

    by : ((more : ℕ) (q : ℕ × ℕ) → more ≤ 0x10FFFF → number base more t ≡ Some q → IsScalar q.0) → (b : Bool)
        → (if b then named_value value 1 else with_value (value_with_digit value base c) (λ more. option_map (λ (q : ℕ × ℕ). (q.0, suc q.1)) (number base more t))) ≡ Some r → IsScalar r.0
    by all true e = named_scalar value 1 r le e
    by all false e = valued all (value_with_digit value base c) refl e

numbered_scalar : (base front : ℕ) (t : List ℕ) (r : ℕ × ℕ) → numbered_value base front t ≡ Some r → IsScalar r.0
numbered_scalar base front t r e = by (is_digit (slice_index (drop front t) 0) base) e
  where
    mapped : (o : Option (ℕ × ℕ)) → number base 0 (drop front t) ≡ o → option_map (λ (q : ℕ × ℕ). (q.0, q.1 + front)) o ≡ Some r → IsScalar r.0
    mapped None is e = absurd (cc (e))
    mapped (Some q) is e = let same : (q.0, q.1 + front) ≡ r = cc (e) in subst (λ (q : ℕ × ℕ). IsScalar q.0) same (number_scalar base 0 (drop front t) q (omega arith) is)

    by : (b : Bool) → (if b then option_map (λ (q : ℕ × ℕ). (q.0, q.1 + front)) (number base 0 (drop front t)) else None) ≡ Some r → IsScalar r.0
    by true e = mapped (number base 0 (drop front t)) refl e
    by false e = absurd (cc (e))

by_number_scalar : (t : List ℕ) (r : ℕ × ℕ) → by_number t ≡ Some r → IsScalar r.0
by_number_scalar t r e = by (begins_with_mark (35 ∷ 120 ∷ []) t) (begins_with_mark (35 ∷ []) t) e
  where
    by : (hex number : Bool) → (if hex then numbered_value 16 2 t else (if number then numbered_value 10 1 t else None)) ≡ Some r → IsScalar r.0
    by true number e = numbered_scalar 16 2 t r e
    by false true e = numbered_scalar 10 1 t r e
    by false false e = absurd (cc (e))

named_by : (b : Bool) (c n : ℕ) (other : Option (ℕ × ℕ)) (r : ℕ × ℕ) → IsScalar c → (other ≡ Some r → IsScalar r.0) → (if b then Some (c, n) else other) ≡ Some r → IsScalar r.0
named_by true c n other r own rest e = let same : (c, n) ≡ r = cc (e) in subst (λ (q : ℕ × ℕ). IsScalar q.0) same own
named_by false c n other r own rest e = rest e

by_name_scalar : (t : List ℕ) (r : ℕ × ℕ) → by_name t ≡ Some r → IsScalar r.0
by_name_scalar t r e =
    named_by (begins_with_mark (110 ∷ 98 ∷ 115 ∷ 112 ∷ 59 ∷ []) t) 0xA0 5 _ r refl
    (λ e. named_by (begins_with_mark (110 ∷ 98 ∷ 104 ∷ 121 ∷ 59 ∷ []) t) 0x2011 5 _ r refl
    (λ e. named_by (begins_with_mark (122 ∷ 119 ∷ 115 ∷ 112 ∷ 59 ∷ []) t) 0x200B 5 _ r refl
    (λ e. named_by (begins_with_mark (119 ∷ 106 ∷ 59 ∷ []) t) 0x2060 3 _ r refl (λ e. by_number_scalar t r e) e) e) e)
    e

reference_scalar : (t : List ℕ) (r : ℕ × ℕ) → reference t ≡ Some r → IsScalar r.0
reference_scalar t r e =
    named_by (begins_with_mark (108 ∷ 116 ∷ 59 ∷ []) t) 60 3 _ r refl
    (λ e. named_by (begins_with_mark (103 ∷ 116 ∷ 59 ∷ []) t) 62 3 _ r refl
    (λ e. named_by (begins_with_mark (97 ∷ 109 ∷ 112 ∷ 59 ∷ []) t) 38 4 _ r refl
    (λ e. named_by (begins_with_mark (113 ∷ 117 ∷ 111 ∷ 116 ∷ 59 ∷ []) t) 34 5 _ r refl
    (λ e. named_by (begins_with_mark (97 ∷ 112 ∷ 111 ∷ 115 ∷ 59 ∷ []) t) 39 5 _ r refl (λ e. by_name_scalar t r e) e) e) e) e)
    e

-- ---- XML: pieces

abbrev IsFair : ℕ → List ℕ → Piece → Type 0
IsFair at t piece = AreOf (piece_content piece.kind at (take piece.more t))

fair_markup : (at : ℕ) (t : List ℕ) (piece : Piece) → Are t → markup at t ≡ Ok piece → IsFair at t piece
fair_markup at t piece h e = by (begins_with_mark (33 ∷ 45 ∷ 45 ∷ []) t) (begins_with_mark (33 ∷ 91 ∷ 67 ∷ 68 ∷ 65 ∷ 84 ∷ 65 ∷ 91 ∷ []) t) e
  where
    made : (kind : Kind) (fault : XmlFault) (o : Option ℕ) (front : ℕ) → ((n : ℕ) → IsFair at t (record { kind = kind; more = n })) → piece_of kind fault o front ≡ Ok piece → IsFair at t piece
    made kind fault None front all e = absurd (cc (e))
    made kind fault (Some n) front all e = let same : record { kind = kind; more = n + front } ≡ piece = cc (e) in subst (IsFair at t) same (all (n + front))

    in_section : (u : List ℕ) → Are u → AreOf (from (at + 9) (section_text u))
    in_section u k = are_from (at + 9) (section_text u) (are_take (length u - 11) (drop 8 u) (are_drop 8 u k))

    by : (comment section : Bool) → (if comment then piece_of Comment (CommentWithoutEnd at) (until (45 ∷ 45 ∷ 62 ∷ []) (drop 3 t)) 6
        else (if section then piece_of Section (SectionWithoutEnd at) (until (93 ∷ 93 ∷ 62 ∷ []) (drop 8 t)) 11 else piece_of Tag (TagWithoutEnd at) (tag_len t) 0)) ≡ Ok piece → IsFair at t piece
    by true section e = made Comment (CommentWithoutEnd at) (until (45 ∷ 45 ∷ 62 ∷ []) (drop 3 t)) 6 (λ n. tt) e
    by false true e = made Section (SectionWithoutEnd at) (until (93 ∷ 93 ∷ 62 ∷ []) (drop 8 t)) 11 (λ n. in_section (take n t) (are_take n t h)) e
    by false false e = made Tag (TagWithoutEnd at) (tag_len t) 0 (λ n. tt) e

fair_reference : (at : ℕ) (t : List ℕ) (piece : Piece) → referred_piece at (reference t) ≡ Ok piece → IsFair at t piece
fair_reference at t piece e = by (reference t) refl e
  where
    by : (o : Option (ℕ × ℕ)) → reference t ≡ o → referred_piece at o ≡ Ok piece → IsFair at t piece
    by None is e = absurd (cc (e))
    by (Some r) is e = let same : record { kind = Reference r.0; more = r.1 } ≡ piece = cc (e) in subst (IsFair at t) same (reference_scalar t r is, tt)

fair : (in_block : Bool) (at c : ℕ) (t : List ℕ) (piece : Piece) → IsScalar c → Are t → piece_at in_block at c t ≡ Ok piece → IsFair at t piece
fair in_block at c t piece own h e = by (c == 60) (in_block && c == 38) e
  where
    by : (mark refers : Bool) → (if mark then markup at t else (if refers then referred_piece at (reference t) else Ok (record { kind = Text c; more = prefix_len (is_plain_char in_block) t }))) ≡ Ok piece → IsFair at t piece
    by true refers e = fair_markup at t piece h e
    by false true e = fair_reference at t piece e
    by false false e =
        let n = prefix_len (is_plain_char in_block) t in
        let same : record { kind = Text c; more = n } ≡ piece = cc (e) in
        subst (IsFair at t) same (own, are_from (at + 1) (take n t) (are_take n t h))

abbrev IsOpened : Option Opened → Type 0
IsOpened None = Unit {0}
IsOpened (Some opened) = AreOf opened.1

abbrev IsStep : Option Opened × List SourcedBlock → Type 0
IsStep next = AreOf (gathered_grammar next.1) × IsOpened next.0

steps : (state : Option Opened) (kind : Kind) (at : ℕ) (t : List ℕ) → IsOpened state → AreOf (piece_content kind at t) → IsStep (behind_piece state kind at t)
steps None kind at t h k = by (opened_by kind at t)
  where
    by : (o : Option Begun) → IsStep (option_map (λ (o : Begun). (o, [])) o, [])
    by None = (tt, tt)
    by (Some o) = (tt, tt)
steps (Some opened) kind at t h k = by (closes_element (opened.0).element kind t)
  where
    by : (b : Bool) → IsStep (if b then (None, record { content = opened.1; end = at } ∷ []) else (Some (opened.0, opened.1 ++ piece_content kind at t), []))
    by true = (are_one (record { content = opened.1; end = at }) h, tt)
    by false = (tt, both (λ (c : Sourced). IsScalar c.0) opened.1 (piece_content kind at t) h k)

are_ended_at : (state : Option Opened) (at : ℕ) → IsOpened state → AreOf (gathered_grammar (ended_at state at))
are_ended_at None at h = tt
are_ended_at (Some opened) at h = are_one (record { content = opened.1; end = at }) h

elements : (state : Option Opened) (read at : ℕ) (t : List ℕ) → IsOpened state → Are t → AreOf (gathered_grammar (element_front state read at t).blocks)
unfolding element_front
elements None read at [] h k = tt
elements (Some opened) read at [] h k = tt
elements state (suc read) at (c ∷ t) h k = elements state read (suc at) t h k.1
elements state zero at (c ∷ t) h k = by (λ s read g. elements s read (suc at) t g k.1) (piece_at (is_some state) at c t) refl
  where
    by : ((s : Option Opened) (read : ℕ) → IsOpened s → AreOf (gathered_grammar (element_front s read (suc at) t).blocks)) → (r : Result Piece XmlFault) → piece_at (is_some state) at c t ≡ r
        → AreOf (gathered_grammar (from_piece_on state at r (λ piece.
        put_before (behind_piece state piece.kind at (take piece.more t)).1 (element_front (behind_piece state piece.kind at (take piece.more t)).0 piece.more (suc at) t))).blocks)
    by all (Err fault) is = are_ended_at state at h
    by all (Ok piece) is =
        let next = behind_piece state piece.kind at (take piece.more t) in
        let step = steps state piece.kind at (take piece.more t) h (fair (is_some state) at c t piece k.0 k.1 is) in
        are_joined next.1 (element_front next.0 piece.more (suc at) t).blocks step.0 (all next.0 piece.more step.1)

-- ---- both formats

gathered : (format : Format) (draft : List ℕ) → Are draft → AreOf (grammar_in format draft)
gathered Markdown draft h = are_gathered (length draft) reading.Text [] (placed_lines_from 0 draft) tt (are_lines 0 draft h)
gathered Xml draft h = elements None 0 0 draft tt h

pub all_scalars : (format : Format) (draft : List ℕ) → All IsScalar draft → All IsScalar (characters (grammar_in format draft))
all_scalars format draft h =
    let g = grammar_in format draft in
    All-from_recursion IsScalar (characters g) (are_characters g (gathered format draft (recursion_from_All IsScalar draft h)))
