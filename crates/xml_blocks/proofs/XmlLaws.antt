-- Laws of texts, tags, references and blocks.
use Rattle.std.proofs.Common.{◌≡◌, ℕ, zero, suc, ◌+◌, ◌-◌, ◌<◌, ◌≤◌, ◌^◌, Bool, true, false, cond, ◌&&◌, ◌||◌, List, [], ◌∷◌, ◌++◌, length, take, drop, refl, sym, ap, subst, inl, inr, ◌∙◌, eq-eqb, append_assoc, length-append, arith}
use Rattle.std.specs.Prelude.{Option, Some, None, Ok, Err, nat_eq}
use Rattle.std.specs.Option.{option_map, is_some}
use Rattle.std.specs.Str.{chars, IsUtf8, IsCharBoundary, encode_utf8_all as encodes}
use Rattle.std.proofs.Math.Seq.{drop-append_seam}
use Rattle.std.proofs.lemmas.Bool.Decides.{eqb_tells}
use Rattle.std.proofs.lemmas.List.{append-nil, append_cancel_right, take-append-drop}
use Rattle.std.proofs.lemmas.Str.{encodes-chars, length-le-encodes, chars-nil, chars-append, encodes-append, IsCharBoundary-at_seam, IsUtf8-take}
use Rattle.origins.specs.Origins.{Sourced, SourcedBlock, aligned, gathered_grammar}
use Rattle.xml_blocks.specs.declared.fault.XmlFault.{XmlFault}
use Rattle.xml_blocks.specs.declared.gather.Open.{Open}
use Rattle.xml_blocks.specs.declared.piece.Piece.{Piece}
use Rattle.xml_blocks.specs.own.Reading.{front_behind, reading_element}
use Rattle.xml_blocks.specs.Xml.{Front, Opened, at_end, begins_with_mark, begins_type, behind_piece, closes_tag, element_front, ended_at, from_piece_on, has_abnf_type, is_scalar, named_value, number, open_quote, piece_at, put_before, quoted_len, value_with_digit, with_value}

-- ---- texts

pub chars_none : (bs : List ℕ) → length bs ≡ 0 → chars bs ≡ []
chars_none [] e = chars-nil
chars_none (b ∷ bs) e = absurd (omega (arith, e))

pub chars_le : (bs : List ℕ) → IsUtf8 bs → length (chars bs) ≤ length bs
chars_le bs u = omega (arith, length-le-encodes (chars bs), ap length (encodes-chars bs u))

-- a text is what comes before a rest of it, and the rest
module _ (bs ds : List ℕ) (n : ℕ) (u : IsUtf8 bs) (v : IsUtf8 ds) (is : chars ds ≡ drop n (chars bs)) where
  front_joins : encodes (take n (chars bs)) ++ ds ≡ bs
  front_joins =
      ap (λ r. encodes (take n (chars bs)) ++ r) (sym (encodes-chars ds v) ∙ ap encodes is)
      ∙ sym (encodes-append (take n (chars bs)) (drop n (chars bs)))
      ∙ ap encodes (take-append-drop n (chars bs))
      ∙ encodes-chars bs u

  pub rest_le : length ds ≤ length bs
  rest_le = omega (arith, ap length front_joins, length-append (encodes (take n (chars bs))) ds)

  front_len : length bs - length ds ≡ length (encodes (take n (chars bs)))
  front_len = omega (arith, ap length front_joins, length-append (encodes (take n (chars bs))) ds)

  pub rest_boundary : IsCharBoundary bs (length bs - length ds)
  rest_boundary = subst (λ k. IsCharBoundary bs k) (sym front_len) (IsCharBoundary-at_seam bs (encodes (take n (chars bs))) ds (sym front_joins) v)

  rest_is : drop (length bs - length ds) bs ≡ ds
  rest_is = ap (λ k. drop k bs) front_len ∙ ap (λ r. drop (length (encodes (take n (chars bs)))) r) (sym front_joins) ∙ drop-append_seam (encodes (take n (chars bs))) ds

  pub front_chars : (front : List ℕ) → front ≡ take (length bs - length ds) bs → chars front ≡ take n (chars bs)
  front_chars front e =
      let w : IsUtf8 front = subst IsUtf8 (sym e) (IsUtf8-take bs (length bs - length ds) u rest_boundary) in
      append_cancel_right (chars front) (take n (chars bs)) (drop n (chars bs))
      (ap (λ r. chars front ++ r) (sym is) ∙ sym (chars-append front ds w)
      ∙ ap chars ((λ i. e i ++ sym rest_is i) ∙ take-append-drop (length bs - length ds) bs)
      ∙ sym (take-append-drop n (chars bs)))

-- a text of fewer bytes than 2^63 has as few characters
pub chars_small : (bs : List ℕ) → IsUtf8 bs → length bs < 2 ^ 63 → length (chars bs) < 2 ^ 63
chars_small bs u lt = omega (arith, chars_le bs u, lt)

-- ---- marks

pub begins_all : (mark t : List ℕ) {whole : Bool} → length mark ≡ 0 → begins_with_mark mark t ≡ whole → true ≡ whole
unfolding begins_with_mark
begins_all [] t e was = was
begins_all (m ∷ ms) t e was = absurd (omega (arith, e))

pub begins_none : (mark t ms : List ℕ) (m : ℕ) {whole : Bool} → mark ≡ m ∷ ms → t ≡ [] → begins_with_mark mark t ≡ whole → false ≡ whole
unfolding begins_with_mark
begins_none mark t ms m e is was = (λ i. begins_with_mark (sym e i) (sym is i)) ∙ was

pub begins_other : (mark t ms u : List ℕ) (m c : ℕ) {whole : Bool} → mark ≡ m ∷ ms → t ≡ c ∷ u → (c ≡ m → ⊥) → begins_with_mark mark t ≡ whole → false ≡ whole
unfolding begins_with_mark
begins_other mark t ms u m c e is other was =
    let differs : nat_eq c m ≡ false = elim (eqb_tells c m) [ inl x ↦ absurd (other x.1) | inr x ↦ x.0 ] in
    (λ i. sym differs i && begins_with_mark ms u) ∙ (λ i. begins_with_mark (sym e i) (sym is i)) ∙ was

pub begins_more : (mark t ms u : List ℕ) (m c : ℕ) {whole : Bool} → mark ≡ m ∷ ms → t ≡ c ∷ u → c ≡ m → begins_with_mark mark t ≡ whole → begins_with_mark ms u ≡ whole
unfolding begins_with_mark
begins_more mark t ms u m c e is same was =
    (λ i. sym (eq-eqb c m same) i && begins_with_mark ms u) ∙ (λ i. begins_with_mark (sym e i) (sym is i)) ∙ was

map_suc : (count : ℕ) (o : Option ℕ) → option_map (λ n. count + 1 + n) o ≡ option_map (λ n. count + n) (option_map suc o)
map_suc count None = refl
map_suc count (Some n) = ap Some (let e : count + 1 + n ≡ count + suc n = omega arith in e)

-- ---- tags

module _ (count : ℕ) (quote : Option ℕ) (t : List ℕ) {whole : Option ℕ} (was : option_map (λ n. count + n) (quoted_len quote t) ≡ whole) where
  pub quoted_none : t ≡ [] → None ≡ whole
  unfolding quoted_len
  quoted_none is = ap (λ u. option_map (λ n. count + n) (quoted_len quote u)) (sym is) ∙ was

  pub quoted_closed : (c : ℕ) (u : List ℕ) → t ≡ c ∷ u → closes_tag quote c ≡ true → Some (count + 1) ≡ whole
  unfolding quoted_len
  quoted_closed c u is b =
      ap (λ x. option_map (λ n. count + n) (cond x (Some 1) (option_map suc (quoted_len (open_quote quote c) u)))) (sym b)
      ∙ ap (λ v. option_map (λ n. count + n) (quoted_len quote v)) (sym is) ∙ was

  pub quoted_more : (c : ℕ) (u : List ℕ) (next : Option ℕ) → t ≡ c ∷ u → closes_tag quote c ≡ false → next ≡ open_quote quote c → option_map (λ n. count + 1 + n) (quoted_len next u) ≡ whole
  unfolding quoted_len
  quoted_more c u next is b e =
      ap (λ q. option_map (λ n. count + 1 + n) (quoted_len q u)) e
      ∙ map_suc count (quoted_len (open_quote quote c) u)
      ∙ ap (λ x. option_map (λ n. count + n) (cond x (Some 1) (option_map suc (quoted_len (open_quote quote c) u)))) (sym b)
      ∙ ap (λ v. option_map (λ n. count + n) (quoted_len quote v)) (sym is) ∙ was

module _ (quote : Option ℕ) (t : List ℕ) {whole : Bool} (was : has_abnf_type quote t ≡ whole) where
  pub type_none : t ≡ [] → false ≡ whole
  unfolding has_abnf_type
  type_none is = ap (has_abnf_type quote) (sym is) ∙ was

  pub type_found : (c : ℕ) (u : List ℕ) → t ≡ c ∷ u → begins_type quote c u ≡ true → true ≡ whole
  unfolding has_abnf_type
  type_found c u is b = ap (λ x. x || has_abnf_type (open_quote quote c) u) (sym b) ∙ ap (has_abnf_type quote) (sym is) ∙ was

  pub type_more : (c : ℕ) (u : List ℕ) (next : Option ℕ) → t ≡ c ∷ u → begins_type quote c u ≡ false → next ≡ open_quote quote c → has_abnf_type next u ≡ whole
  unfolding has_abnf_type
  type_more c u next is b e = ap (λ q. has_abnf_type q u) e ∙ ap (λ x. x || has_abnf_type (open_quote quote c) u) (sym b) ∙ ap (has_abnf_type quote) (sym is) ∙ was

-- ---- references

count_named : (value count : ℕ) → named_value value (count + 1) ≡ option_map {U = ℕ × ℕ} (λ r. (r.0, count + r.1)) (named_value value 1)
count_named value count = by_test (is_scalar value)
  where
    by_test : (b : Bool) → cond {A = Option (ℕ × ℕ)} b (Some (value, count + 1)) None ≡ option_map {U = ℕ × ℕ} (λ r. (r.0, count + r.1)) (cond {A = Option (ℕ × ℕ)} b (Some (value, 1)) None)
    by_test true = refl
    by_test false = refl

map_suc_of : (count : ℕ) (o : Option (ℕ × ℕ)) → option_map {U = ℕ × ℕ} (λ r. (r.0, count + 1 + r.1)) o ≡ option_map {U = ℕ × ℕ} (λ r. (r.0, count + r.1)) (option_map {U = ℕ × ℕ} (λ r. (r.0, suc r.1)) o)
map_suc_of count None = refl
map_suc_of count (Some r) =
    let pair : ℕ → Option (ℕ × ℕ) = λ n. Some (r.0, n) in
    ap pair (let e : count + 1 + r.1 ≡ count + suc r.1 = omega arith in e)

module _ (base value count : ℕ) (t : List ℕ) {whole : Option (ℕ × ℕ)} (was : option_map {U = ℕ × ℕ} (λ r. (r.0, count + r.1)) (number base value t) ≡ whole) where
  pub number_none : t ≡ [] → None ≡ whole
  unfolding number
  number_none is = ap (λ u. option_map {U = ℕ × ℕ} (λ r. (r.0, count + r.1)) (number base value u)) (sym is) ∙ was

  number_at : (c : ℕ) (u : List ℕ) → t ≡ c ∷ u → (b : Bool) → nat_eq c 59 ≡ b → option_map {U = ℕ × ℕ} (λ r. (r.0, count + r.1)) (cond b (named_value value 1) (with_value (value_with_digit value base c) (λ more. option_map {U = ℕ × ℕ} (λ r. (r.0, suc r.1)) (number base more u)))) ≡ whole
  unfolding number
  number_at c u is b e =
      ap (λ x. option_map {U = ℕ × ℕ} (λ r. (r.0, count + r.1)) (cond x (named_value value 1) (with_value (value_with_digit value base c) (λ more. option_map {U = ℕ × ℕ} (λ r. (r.0, suc r.1)) (number base more u))))) (sym e)
      ∙ ap (λ v. option_map {U = ℕ × ℕ} (λ r. (r.0, count + r.1)) (number base value v)) (sym is) ∙ was

  pub number_ends : (c : ℕ) (u : List ℕ) → t ≡ c ∷ u → c ≡ 59 → named_value value (count + 1) ≡ whole
  number_ends c u is e = count_named value count ∙ number_at c u is true (eq-eqb c 59 e)

  not_end : (c : ℕ) → (c ≡ 59 → ⊥) → nat_eq c 59 ≡ false
  not_end c s = elim (eqb_tells c 59) [ inl x ↦ absurd (s x.1) | inr x ↦ x.0 ]

  pub number_bad : (c : ℕ) (u : List ℕ) → t ≡ c ∷ u → (c ≡ 59 → ⊥) → None ≡ value_with_digit value base c → None ≡ whole
  number_bad c u is s e =
      ap (λ d. option_map {U = ℕ × ℕ} (λ r. (r.0, count + r.1)) (with_value d (λ more. option_map {U = ℕ × ℕ} (λ r. (r.0, suc r.1)) (number base more u)))) e
      ∙ number_at c u is false (not_end c s)

  pub number_more : (c next : ℕ) (u : List ℕ) → t ≡ c ∷ u → (c ≡ 59 → ⊥) → Some next ≡ value_with_digit value base c → option_map {U = ℕ × ℕ} (λ r. (r.0, count + 1 + r.1)) (number base next u) ≡ whole
  number_more c next u is s e =
      map_suc_of count (number base next u)
      ∙ ap (λ d. option_map {U = ℕ × ℕ} (λ r. (r.0, count + r.1)) (with_value d (λ more. option_map {U = ℕ × ℕ} (λ r. (r.0, suc r.1)) (number base more u)))) e
      ∙ number_at c u is false (not_end c s)

-- ---- blocks

-- what was read already is passed over
front_skip : (state : Option Opened) (n at : ℕ) (t : List ℕ) → element_front state n at t ≡ element_front state 0 (at + length (take n t)) (drop n t)
unfolding element_front
front_skip state zero at t = ap (λ a. element_front state 0 a t) (let e : at ≡ at + 0 = omega arith in e)
front_skip state (suc n) at [] = refl
front_skip state (suc n) at (c ∷ t) =
    front_skip state n (suc at) t
    ∙ ap (λ a. element_front state 0 a (drop n t)) (let e : suc at + length (take n t) ≡ at + suc (length (take n t)) = omega arith in e)

pub parts_len : (n : ℕ) (t : List ℕ) → length (take n t) + length (drop n t) ≡ length t
parts_len n t = sym (length-append (take n t) (drop n t)) ∙ ap length (take-append-drop n t)

grammar_of_append : (bs cs : List SourcedBlock) → gathered_grammar (bs ++ cs) ≡ gathered_grammar bs ++ gathered_grammar cs
grammar_of_append [] cs = refl
grammar_of_append (b ∷ bs) cs = ap (λ g. aligned b ++ g) (grammar_of_append bs cs) ∙ sym (append_assoc (aligned b) (gathered_grammar bs) (gathered_grammar cs))

behind_put : (grammar : List Sourced) (bs : List SourcedBlock) (rest : Front) → front_behind (grammar ++ gathered_grammar bs) rest ≡ front_behind grammar (put_before bs rest)
behind_put grammar bs rest =
    let pair : List Sourced → List Sourced × Option XmlFault = λ g. (g, rest.fault) in
    ap pair (append_assoc grammar (gathered_grammar bs) (gathered_grammar rest.blocks) ∙ ap (λ g. grammar ++ g) (sym (grammar_of_append bs rest.blocks)))

reading_some : (current : Option Open) (block : List Sourced) → is_some current ≡ is_some (reading_element current block)
reading_some None block = refl
reading_some (Some o) block = refl

-- what is read behind a piece
after : Option Opened → ℕ → List ℕ → Piece → Front
after state at t piece = put_before (behind_piece state piece.kind at (take piece.more t)).1 (element_front (behind_piece state piece.kind at (take piece.more t)).0 piece.more (suc at) t)

-- no block comes at the end of the draft
none_at_end : (state : Option Opened) → [] ≡ (at_end state).blocks
none_at_end None = refl
none_at_end (Some opened) = refl

module _ (grammar : List Sourced) (at : ℕ) (rest : List ℕ) (current : Option Open) (block : List Sourced) {whole : List Sourced × Option XmlFault} (was : front_behind grammar (element_front (reading_element current block) 0 at rest) ≡ whole) where
  pub front_ends : rest ≡ [] → front_behind grammar (at_end (reading_element current block)) ≡ whole
  unfolding element_front
  front_ends none = ap (λ t. front_behind grammar (element_front (reading_element current block) 0 at t)) (sym none) ∙ was

  pub ends_grammar : rest ≡ [] → grammar ≡ whole.0
  ends_grammar none = sym (append-nil grammar) ∙ ap (λ bs. grammar ++ gathered_grammar bs) (none_at_end (reading_element current block)) ∙ ap (λ r. r.0) (front_ends none)

  module _ (c : ℕ) (t : List ℕ) (is : rest ≡ c ∷ t) (flag : Bool) (some : flag ≡ is_some current) where
    stands : front_behind grammar (from_piece_on (reading_element current block) at (piece_at flag at c t) (after (reading_element current block) at t)) ≡ whole
    unfolding element_front after
    stands =
        (λ i. front_behind grammar (from_piece_on (reading_element current block) at (piece_at ((some ∙ reading_some current block) i) at c t) (after (reading_element current block) at t)))
        ∙ (λ i. front_behind grammar (element_front (reading_element current block) 0 at (sym is i)))
        ∙ was

    pub piece_fault : (fault : XmlFault) → Err fault ≡ piece_at flag at c t → (grammar ++ gathered_grammar (ended_at (reading_element current block) at), Some fault) ≡ whole
    piece_fault fault e = ap (λ r. front_behind grammar (from_piece_on (reading_element current block) at r (after (reading_element current block) at t))) e ∙ stands

    module _ (piece : Piece) (piece_is : Ok piece ≡ piece_at flag at c t) where
      skipped : front_behind (grammar ++ gathered_grammar (behind_piece (reading_element current block) piece.kind at (take piece.more t)).1) (element_front (behind_piece (reading_element current block) piece.kind at (take piece.more t)).0 0 (at + (1 + length (take piece.more t))) (drop piece.more t)) ≡ whole
      unfolding after
      skipped =
          let next = behind_piece (reading_element current block) piece.kind at (take piece.more t) in
          ap (λ a. front_behind (grammar ++ gathered_grammar next.1) (element_front next.0 0 a (drop piece.more t))) (let e : at + (1 + length (take piece.more t)) ≡ suc at + length (take piece.more t) = omega arith in e)
          ∙ ap (λ r. front_behind (grammar ++ gathered_grammar next.1) r) (sym (front_skip next.0 piece.more (suc at) t))
          ∙ behind_put grammar next.1 (element_front next.0 piece.more (suc at) t)
          ∙ ap (λ r. front_behind grammar (from_piece_on (reading_element current block) at r (after (reading_element current block) at t))) piece_is
          ∙ stands

      pub piece_read : (text left : List ℕ) (n : ℕ) (next : Option Open) (to content : List Sourced) → text ≡ take piece.more t → left ≡ drop piece.more t → n ≡ length text → reading_element next content ≡ (behind_piece (reading_element current block) piece.kind at text).0 → to ≡ grammar ++ gathered_grammar (behind_piece (reading_element current block) piece.kind at text).1 → front_behind to (element_front (reading_element next content) 0 (at + (1 + n)) left) ≡ whole
      piece_read text left n next to content text_is left_is n_is next_is to_is =
          (λ i. front_behind (to_is i) (element_front (next_is i) 0 (at + (1 + n_is i)) (left_is i)))
          ∙ ap (λ x. front_behind (grammar ++ gathered_grammar (behind_piece (reading_element current block) piece.kind at x).1) (element_front (behind_piece (reading_element current block) piece.kind at x).0 0 (at + (1 + length x)) (drop piece.more t))) text_is
          ∙ skipped
