-- The blocks and items of renamed lines.
use Rattle.std.proofs.Common.{◌≡◌, ℕ, zero, suc, Bool, true, false, not, ◌&&◌, List, [], ◌∷◌, ◌++◌, length, map, Option, Some, None, option_map, refl, sym, ap, subst, ◌∙◌, arith}
use Rattle.std.specs.Prelude.{if◌then◌else◌, slice_index_or, nat_eq, nat_le}
use Rattle.std.specs.List.{flat_map, list_all}
use Rattle.std.specs.Char.{is_ascii_alphabetic}
use Rattle.std.proofs.lemmas.List.{map-append}
use Rattle.std.proofs.lemmas.Bool.Decides.{nat_tests}
use Rattle.std.proofs.lemmas.Bool.{and_parts}
use Rattle.abnf_token.proofs.Language.{and_false, and_true}
use Rattle.abnf_token.specs.declared.token.Kind.{Kind}
use Rattle.abnf_token.specs.declared.token.Kind.TheVariants as k
use Rattle.abnf_token.specs.declared.token.Token.{Token}
use Rattle.abnf_token.specs.Classes.{Text, is_name, is_name_byte, is_blank_byte}
use Rattle.abnf_token.specs.Tokens.{TokensOf}
use Rattle.abnf_token.specs.Renamed.{Piece, piece, joined, AreCut, touches, is_at_place, renamed_text, renamed}
use Rattle.abnf_token.proofs.Cuts.{never}
use Rattle.abnf_token.proofs.LineLaw.{line_kept, cut_tokens, one_cut, piece_name, at_place}
use Rattle.abnf_syntax.specs.declared.item.Item.{Item}
use Rattle.abnf_syntax.specs.Kinds.{is_item}
use Rattle.abnf_syntax.specs.Blocks.{indent, is_content, base_indent, begins_at, NoneBegins, IsBlock, AreBlocks}
use Rattle.abnf_syntax.specs.Items.{with_line_end, items_behind, items_of, AreTokens, AreItems, view}
use Rattle.abnf_rename.specs.Lines.{IsRenamedLine, AreRenamedLines, HaveRenamedTokens}
use Rattle.abnf_rename.proofs.ItemShapes.{Shape, shape, renamed_shapes, AreRenamedItems}

-- ---- what a line begins with

letter_blank : (b : ℕ) → is_ascii_alphabetic b ≡ true → is_blank_byte b ≡ false
letter_blank b l = grind (arith, nat_tests)

letter_comment : (b : ℕ) → is_ascii_alphabetic b ≡ true → nat_eq b 0x3B ≡ false
letter_comment b l = grind (arith, nat_tests)

name_indent : (t r : Text) → is_name t ≡ true → indent (t ++ r) ≡ 0
name_indent [] r n = never n
name_indent (b ∷ bs) r n = rw (letter_blank b (and_parts (is_ascii_alphabetic b) (list_all is_name_byte bs) n).0) refl

pub name_content : (t r : Text) → is_name t ≡ true → is_content (t ++ r) ≡ true
name_content [] r n = never n
name_content (b ∷ bs) r n =
    let l = (and_parts (is_ascii_alphabetic b) (list_all is_name_byte bs) n).0 in
    rw (letter_blank b l, letter_comment b l) refl

indent_tail : (t r s : Text) → indent r ≡ indent s → indent (t ++ r) ≡ indent (t ++ s)
indent_tail [] r s e = e
indent_tail (b ∷ bs) r s e = ap (λ n. if is_blank_byte b then suc n else 0) (indent_tail bs r s e)

content_tail : (t r s : Text) → is_content r ≡ is_content s → is_content (t ++ r) ≡ is_content (t ++ s)
content_tail [] r s e = e
content_tail (b ∷ bs) r s e = ap (λ c. if is_blank_byte b then c else not (nat_eq b 0x3B)) (content_tail bs r s e)

module _ (old new : Text) (named : is_name new ≡ true) where
  indent_by : (p : Piece) (ps : List Piece) (touched b : Bool) → is_at_place old touched p.0 p.1 ≡ b → AreCut (p ∷ ps) →
      indent (joined (renamed old new (touches p.0) ps)) ≡ indent (joined ps) → indent ((if b then new else p.1) ++ joined (renamed old new (touches p.0) ps)) ≡ indent (p.1 ++ joined ps)
  indent_by p ps touched true e cut h =
      name_indent new (joined (renamed old new (touches p.0) ps)) named ∙ sym (name_indent p.1 (joined ps) (piece_name p ps cut (at_place old p.1 touched p.0 e).0))
  indent_by p ps touched false e cut h = indent_tail p.1 (joined (renamed old new (touches p.0) ps)) (joined ps) h

  indent_kept : (ps : List Piece) (touched : Bool) → AreCut ps → indent (joined (renamed old new touched ps)) ≡ indent (joined ps)
  indent_kept [] touched cut = refl
  indent_kept (p ∷ ps) touched cut = indent_by p ps touched (is_at_place old touched p.0 p.1) refl cut (indent_kept ps (touches p.0) cut.1)

  content_by : (p : Piece) (ps : List Piece) (touched b : Bool) → is_at_place old touched p.0 p.1 ≡ b → AreCut (p ∷ ps) →
      is_content (joined (renamed old new (touches p.0) ps)) ≡ is_content (joined ps) → is_content ((if b then new else p.1) ++ joined (renamed old new (touches p.0) ps)) ≡ is_content (p.1 ++ joined ps)
  content_by p ps touched true e cut h =
      name_content new (joined (renamed old new (touches p.0) ps)) named ∙ sym (name_content p.1 (joined ps) (piece_name p ps cut (at_place old p.1 touched p.0 e).0))
  content_by p ps touched false e cut h = content_tail p.1 (joined (renamed old new (touches p.0) ps)) (joined ps) h

  content_kept : (ps : List Piece) (touched : Bool) → AreCut ps → is_content (joined (renamed old new touched ps)) ≡ is_content (joined ps)
  content_kept [] touched cut = refl
  content_kept (p ∷ ps) touched cut = content_by p ps touched (is_at_place old touched p.0 p.1) refl cut (content_kept ps (touches p.0) cut.1)

  same_indent : (l m : Text) → IsRenamedLine old new l m → indent m ≡ indent l
  same_indent l m h = ap indent h.other_is ∙ (indent_kept h.pieces false h.cut ∙ ap indent (sym h.line_is))

  same_content : (l m : Text) → IsRenamedLine old new l m → is_content m ≡ is_content l
  same_content l m h = ap is_content h.other_is ∙ (content_kept h.pieces false h.cut ∙ ap is_content (sym h.line_is))

  empty_line : IsRenamedLine old new [] []
  empty_line = record { pieces = []; cut = tt; line_is = refl; other_is = refl }

  line_at : (ls ms : List Text) → AreRenamedLines old new ls ms → (at : ℕ) → IsRenamedLine old new (slice_index_or ls at []) (slice_index_or ms at [])
  line_at [] [] h at = empty_line
  line_at [] (m ∷ ms) h at = absurd h
  line_at (l ∷ ls) [] h at = absurd h
  line_at (l ∷ ls) (m ∷ ms) h zero = h.0
  line_at (l ∷ ls) (m ∷ ms) h (suc at) = line_at ls ms h.1 at

  same_count : (ls ms : List Text) → AreRenamedLines old new ls ms → length ms ≡ length ls
  same_count [] [] h = refl
  same_count [] (m ∷ ms) h = absurd h
  same_count (l ∷ ls) [] h = absurd h
  same_count (l ∷ ls) (m ∷ ms) h = ap suc (same_count ls ms h.1)

  same_base : (ls ms : List Text) → AreRenamedLines old new ls ms → base_indent ms ≡ base_indent ls
  same_base [] [] h = refl
  same_base [] (m ∷ ms) h = absurd h
  same_base (l ∷ ls) [] h = absurd h
  same_base (l ∷ ls) (m ∷ ms) h = (λ i. if same_content l m h.0 i then same_indent l m h.0 i else same_base ls ms h.1 i)

  same_begins : (ls ms : List Text) → AreRenamedLines old new ls ms → (at : ℕ) → begins_at ms at ≡ begins_at ls at
  same_begins ls ms h at =
      let l = line_at ls ms h at in
      (λ i. same_content (slice_index_or ls at []) (slice_index_or ms at []) l i && nat_le (same_indent (slice_index_or ls at []) (slice_index_or ms at []) l i) (same_base ls ms h i))

  none_begins : (ls ms : List Text) → AreRenamedLines old new ls ms → (from to : ℕ) → NoneBegins ls from to → NoneBegins ms from to
  none_begins ls ms h from to n at a b = same_begins ls ms h at ∙ n at a b

  block_kept : (ls ms : List Text) → AreRenamedLines old new ls ms → (first end : ℕ) → IsBlock ls first end → IsBlock ms first end
  block_kept ls ms h first end b = record {
    some = b.some;
    within = omega (arith, b.within, same_count ls ms h);
    begins = same_begins ls ms h first ∙ b.begins;
    rest = none_begins ls ms h (suc first) end b.rest;
    ends = λ lt. same_begins ls ms h end ∙ b.ends (omega (arith, lt, same_count ls ms h));
  }

  pub blocks_are : (ls ms : List Text) → AreRenamedLines old new ls ms → (from : ℕ) (bounds : List (ℕ × ℕ)) → AreBlocks ls from bounds → AreBlocks ms from bounds
  blocks_are ls ms h from [] b = subst (λ n. NoneBegins ms from n) (sym (same_count ls ms h)) (none_begins ls ms h from (length ls) b)
  blocks_are ls ms h from (b ∷ bounds) a =
      (a.0, none_begins ls ms h from b.0 a.1, block_kept ls ms h b.0 b.1 a.2, blocks_are ls ms h b.1 bounds a.3)

  -- ---- tokens of lines

  pieces_kept : (at other : ℕ) (l m : Text) → IsRenamedLine old new l m → (ts us : List Token) → TokensOf at 0 l ts → TokensOf other 0 m us → map piece us ≡ renamed old new false (map piece ts)
  pieces_kept at other l m h ts us t u =
      let before = cut_tokens at 0 l ts t in
      let after = cut_tokens other 0 m us u in
      let same : map piece ts ≡ h.pieces = one_cut (map piece ts) h.pieces before.cut h.cut (sym before.is ∙ h.line_is) in
      one_cut (map piece us) (renamed old new false h.pieces) after.cut (line_kept old new h.pieces named h.cut) (sym after.is ∙ h.other_is)
      ∙ ap (renamed old new false) (sym same)

  pub tokens_kept : (ls ms : List Text) → AreRenamedLines old new ls ms → HaveRenamedTokens old new ls ms
  tokens_kept [] [] h = tt
  tokens_kept [] (m ∷ ms) h = absurd h
  tokens_kept (l ∷ ls) [] h = absurd h
  tokens_kept (l ∷ ls) (m ∷ ms) h = (λ at there ts us t u. pieces_kept at there l m h.0 ts us t u, tokens_kept ls ms h.1)

  lines_kept : (ls ms : List Text) → AreRenamedLines old new ls ms → (at : ℕ) (tss uss : List (List Token)) → length uss ≡ length tss → AreTokens ls at tss → AreTokens ms at uss →
      map (map piece) uss ≡ map (λ ts. renamed old new false (map piece ts)) tss
  lines_kept ls ms h at [] [] e t u = refl
  lines_kept ls ms h at [] (us ∷ uss) e t u = absurd (omega (arith, e))
  lines_kept ls ms h at (ts ∷ tss) [] e t u = absurd (omega (arith, e))
  lines_kept ls ms h at (ts ∷ tss) (us ∷ uss) e t u =
      (λ i. pieces_kept at at (slice_index_or ls at []) (slice_index_or ms at []) (line_at ls ms h at) ts us t.0 u.0 i ∷ lines_kept ls ms h (suc at) tss uss (omega (arith, e)) t.1 u.1 i)

-- ---- items of lines

abbrev pair_shape : Token × Bool → Shape
pair_shape p = (p.0.kind, p.0.text.now, p.1)

abbrev Pieces : Type 0
Pieces = List (Option Piece)

abbrev behind : Bool → Pieces → List Shape
behind apart [] = []
behind apart (None ∷ ps) = behind true ps
behind apart (Some p ∷ ps) = if is_item p.0 then (p.0, p.1, apart) ∷ behind false ps else behind true ps

abbrev first : Pieces → List Shape
first [] = []
first (None ∷ ps) = first ps
first (Some p ∷ ps) = if is_item p.0 then (p.0, p.1, false) ∷ behind false ps else first ps

if_shapes : (b : Bool) (x : Token × Bool) (xs ys : List (Token × Bool)) → map pair_shape (if b then x ∷ xs else ys) ≡ (if b then pair_shape x ∷ map pair_shape xs else map pair_shape ys)
if_shapes true x xs ys = refl
if_shapes false x xs ys = refl

behind_is : (apart : Bool) (os : List (Option Token)) → map pair_shape (items_behind apart os) ≡ behind apart (map (option_map piece) os)
behind_is apart [] = refl
behind_is apart (None ∷ os) = behind_is true os
behind_is apart (Some t ∷ os) =
    if_shapes (is_item t.kind) (t, apart) (items_behind false os) (items_behind true os)
    ∙ (λ i. if is_item t.kind then pair_shape (t, apart) ∷ behind_is false os i else behind_is true os i)

first_is : (os : List (Option Token)) → map pair_shape (items_of os) ≡ first (map (option_map piece) os)
first_is [] = refl
first_is (None ∷ os) = first_is os
first_is (Some t ∷ os) =
    if_shapes (is_item t.kind) (t, false) (items_behind false os) (items_of os)
    ∙ (λ i. if is_item t.kind then pair_shape (t, false) ∷ behind_is false os i else first_is os i)

abbrev ended : List Piece → Pieces
ended [] = None ∷ []
ended (p ∷ ps) = Some p ∷ ended ps

ended_is : (ts : List Token) → map (option_map piece) (with_line_end ts) ≡ ended (map piece ts)
ended_is [] = refl
ended_is (t ∷ ts) = ap (λ l. Some (piece t) ∷ l) (ended_is ts)

all_ended : (tss : List (List Token)) → map (option_map piece) (flat_map with_line_end tss) ≡ flat_map ended (map (map piece) tss)
all_ended [] = refl
all_ended (ts ∷ tss) = map-append (option_map piece) (with_line_end ts) (flat_map with_line_end tss) ∙ (λ i. ended_is ts i ++ all_ended tss i)

module _ (old new : Text) where
  abbrev renamed_pieces : Bool → Pieces → Pieces
  renamed_pieces touched [] = []
  renamed_pieces touched (None ∷ ps) = None ∷ renamed_pieces false ps
  renamed_pieces touched (Some p ∷ ps) = Some (p.0, renamed_text old new touched p.0 p.1) ∷ renamed_pieces (touches p.0) ps

  ended_renamed : (touched : Bool) (ps : List Piece) (rest : Pieces) → renamed_pieces touched (ended ps ++ rest) ≡ ended (renamed old new touched ps) ++ renamed_pieces false rest
  ended_renamed touched [] rest = refl
  ended_renamed touched (p ∷ ps) rest = ap (λ l. Some (p.0, renamed_text old new touched p.0 p.1) ∷ l) (ended_renamed (touches p.0) ps rest)

  lines_renamed : (tss : List (List Token)) → flat_map ended (map (λ ts. renamed old new false (map piece ts)) tss) ≡ renamed_pieces false (flat_map ended (map (map piece) tss))
  lines_renamed [] = refl
  lines_renamed (ts ∷ tss) =
      ap (λ l. ended (renamed old new false (map piece ts)) ++ l) (lines_renamed tss)
      ∙ sym (ended_renamed false (map piece ts) (flat_map ended (map (map piece) tss)))

  if_renamed : (b touched : Bool) (x : Shape) (xs ys : List Shape) → renamed_shapes old new touched (if b then x ∷ xs else ys) ≡ (if b then renamed_shapes old new touched (x ∷ xs) else renamed_shapes old new touched ys)
  if_renamed true touched x xs ys = refl
  if_renamed false touched x xs ys = refl

  -- a blank or a comment touches no name
  gap_by : (kind : Kind) (xs ys us vs : List Shape) → (is_item kind ≡ true → xs ≡ ys) → (touches kind ≡ false → us ≡ vs) → (if is_item kind then xs else us) ≡ (if is_item kind then ys else vs)
  gap_by k.Comment xs ys us vs h g = g refl
  gap_by k.Blank xs ys us vs h g = g refl
  gap_by kind xs ys us vs h g = h refl

  behind_renamed : (apart here before : Bool) (ps : Pieces) → here ≡ before && not apart → behind apart (renamed_pieces here ps) ≡ renamed_shapes old new before (behind apart ps)
  behind_renamed apart here before [] e = refl
  behind_renamed apart here before (None ∷ ps) e = behind_renamed true false before ps (sym (and_false before))
  behind_renamed apart here before (Some p ∷ ps) e =
      gap_by p.0
      ((p.0, renamed_text old new here p.0 p.1, apart) ∷ behind false (renamed_pieces (touches p.0) ps))
      ((p.0, renamed_text old new (before && not apart) p.0 p.1, apart) ∷ renamed_shapes old new (touches p.0) (behind false ps))
      (behind true (renamed_pieces (touches p.0) ps)) (renamed_shapes old new before (behind true ps))
      (λ i j. (p.0, renamed_text old new (e j) p.0 p.1, apart) ∷ behind_renamed false (touches p.0) (touches p.0) ps (sym (and_true (touches p.0))) j)
      (λ t. behind_renamed true (touches p.0) before ps (t ∙ sym (and_false before)))
      ∙ sym (if_renamed (is_item p.0) before (p.0, p.1, apart) (behind false ps) (behind true ps))

  first_renamed : (here : Bool) (ps : Pieces) → here ≡ false → first (renamed_pieces here ps) ≡ renamed_shapes old new false (first ps)
  first_renamed here [] e = refl
  first_renamed here (None ∷ ps) e = first_renamed false ps refl
  first_renamed here (Some p ∷ ps) e =
      gap_by p.0
      ((p.0, renamed_text old new here p.0 p.1, false) ∷ behind false (renamed_pieces (touches p.0) ps))
      ((p.0, renamed_text old new false p.0 p.1, false) ∷ renamed_shapes old new (touches p.0) (behind false ps))
      (first (renamed_pieces (touches p.0) ps)) (renamed_shapes old new false (first ps))
      (λ i j. (p.0, renamed_text old new (e j) p.0 p.1, false) ∷ behind_renamed false (touches p.0) (touches p.0) ps (sym (and_true (touches p.0))) j)
      (λ t. first_renamed (touches p.0) ps t)
      ∙ sym (if_renamed (is_item p.0) false (p.0, p.1, false) (behind false ps) (first ps))

shapes_view : (xs : List Item) → map shape xs ≡ map pair_shape (map view xs)
shapes_view [] = refl
shapes_view (x ∷ xs) = ap (λ l. shape x ∷ l) (shapes_view xs)

shapes_are : (ls : List Text) (from end : ℕ) (xs : List Item) (h : AreItems ls from end xs) → map shape xs ≡ first (flat_map ended (map (map piece) h.tokens))
shapes_are ls from end xs h =
    shapes_view xs ∙ (ap (map pair_shape) h.items_are ∙ (first_is (flat_map with_line_end h.tokens) ∙ ap first (all_ended h.tokens)))

pub items_kept : (old new : Text) → is_name new ≡ true → (ls ms : List Text) → AreRenamedLines old new ls ms → (from end : ℕ) (xs ys : List Item) → AreItems ls from end xs → AreItems ms from end ys → AreRenamedItems old new xs ys
items_kept old new named ls ms h from end xs ys p q =
    let lines = lines_kept old new named ls ms h from p.tokens q.tokens (omega (arith, p.all, q.all)) p.tokens_are q.tokens_are in
    shapes_are ms from end ys q
    ∙ (ap (λ l. first (flat_map ended l)) lines
    ∙ (ap first (lines_renamed old new p.tokens)
    ∙ (first_renamed old new false (flat_map ended (map (map piece) p.tokens)) refl
    ∙ ap (renamed_shapes old new false) (sym (shapes_are ls from end xs p)))))
