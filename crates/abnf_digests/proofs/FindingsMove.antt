-- Where nothing is found in the part of a text that is replaced, and the lines that come say the same of blocks, what is found in the text
-- is found in the other one, moved with its lines, and nothing else.
use Rattle.std.proofs.Common.{◌≡◌, ◌↔◌, ◌⊎◌, inl, inr, ℕ, ◌^◌, ◌<◌, ◌≤◌, List, [], ◌∷◌, ◌++◌, length, map, None, refl, sym, ap, subst, ◌∙◌, append_assoc, arith}
use Rattle.std.specs.Prelude.{Contains}
use Rattle.std.specs.List.{AllByRecursion, AllZip}
use Rattle.ls_text.specs.declared.position.Place.{Place}
use Rattle.abnf_token.specs.Classes.{Text}
use Rattle.abnf_syntax.specs.Blocks.{line_texts, AreBlocksUpTo}
use Rattle.abnf_parts.specs.Names.{Name}
use Rattle.abnf_names.specs.Said.{Block, IsWithin, AreWithin, AreSaid}
use Rattle.abnf_names.specs.Shown.{fault_shown}
use Rattle.abnf_names.proofs.Exist.{some_said}
use Rattle.abnf_lint.specs.declared.finding.Code.{Code}
use Rattle.abnf_lint.specs.declared.finding.Finding.{Finding}
use Rattle.abnf_lint.specs.Rows.{AnyBases, AnyDefines, AreRows, RowHolds, RowStands}
use Rattle.abnf_digests.specs.Digests.{digest_of}
use Rattle.abnf_digests.specs.BareItems.{AreBareItems, BareItem}
use Rattle.abnf_digests.specs.Moved.{moved_place, moved_code, moved_finding, NoneFound}
use Rattle.abnf_digests.specs.Quiet.{has_own_findings}
use Rattle.abnf_digests.specs.Replaced.{AreReplaced}
use Rattle.abnf_digests.specs.Roles.{FindAlike}
use Rattle.abnf_digests.proofs.Middles.{middles_alike}
use Rattle.abnf_digests.proofs.MovedOrder.{moved_ascend}
use Rattle.abnf_digests.proofs.MovedRows.{row_came, row_moves}
use Rattle.abnf_digests.proofs.NoRows.{AreAlike, HasNoRow, bases_too, defines_too, in_map, map_in, no_fault_shown, no_row_too}
use Rattle.abnf_digests.proofs.Parted.{IsCarried, blocks_parted, carried_digest}
use Rattle.abnf_digests.proofs.RoleLaws.{find_alike}
use Rattle.abnf_digests.proofs.RowLines.{row_within}

-- ---- lists of the same length

module _ {A B : Type 0} (R : A → B → Type 0) where
  zip_append : (xs us : List A) (ys vs : List B) → AllZip R xs ys → AllZip R us vs → AllZip R (xs ++ us) (ys ++ vs)
  zip_append [] us [] vs h g = g
  zip_append [] us (y ∷ ys) vs h g = absurd h
  zip_append (x ∷ xs) us [] vs h g = absurd h
  zip_append (x ∷ xs) us (y ∷ ys) vs h g = (h.0, zip_append xs us ys vs h.1 g)

  zip_to : (S : A → B → Type 0) → ((x : A) (y : B) → R x y → S x y) → (xs : List A) (ys : List B) → AllZip R xs ys → AllZip S xs ys
  zip_to S f [] [] h = tt
  zip_to S f [] (y ∷ ys) h = absurd h
  zip_to S f (x ∷ xs) [] h = absurd h
  zip_to S f (x ∷ xs) (y ∷ ys) h = (f x y h.0, zip_to S f xs ys h.1)

  flipped : (xs : List A) (ys : List B) → AllZip R xs ys → AllZip (λ y x. R x y) ys xs
  flipped [] [] h = tt
  flipped [] (y ∷ ys) h = absurd h
  flipped (x ∷ xs) [] h = absurd h
  flipped (x ∷ xs) (y ∷ ys) h = (h.0, flipped xs ys h.1)

  -- what stands in the other list where this stands
  record Opposite (before : List A) (x : A) (ys : List B) : Type 0 where
    earlier : List B
    y : B
    later : List B
    split : ys ≡ earlier ++ y ∷ later
    pairs : AllZip R before earlier
    pair : R x y

  opposite_in : (before : List A) (x : A) (after : List A) (ys : List B) → AllZip R (before ++ x ∷ after) ys → Opposite before x ys
  opposite_in [] x after [] h = absurd h
  opposite_in [] x after (y ∷ ys) h = record { earlier = []; y = y; later = ys; split = refl; pairs = tt; pair = h.0 }
  opposite_in (b ∷ before) x after [] h = absurd h
  opposite_in (b ∷ before) x after (y ∷ ys) h =
      let r = opposite_in before x after ys h.1 in
      record { earlier = y ∷ r.earlier; y = r.y; later = r.later; split = ap (λ l. y ∷ l) r.split; pairs = (h.0, r.pairs); pair = r.pair }

  opposite : (xs before : List A) (x : A) (after : List A) (ys : List B) → xs ≡ before ++ x ∷ after → AllZip R xs ys → Opposite before x ys
  opposite xs before x after ys e h = opposite_in before x after ys (subst (λ l. AllZip R l ys) e h)

abbrev AllQuiet : List Block → Type 0
AllQuiet blocks = AllByRecursion (λ b. fault_shown b.said ≡ None) blocks

-- ---- blocks of a part in which nothing is found

module _ (ls : List Text) (front old : ℕ) where
  -- the block is one of the part, and the other one says the same
  record IsReplaced (block other : Block) : Type 0 where
    bounds : ℕ × ℕ
    low : front ≤ bounds.0
    high : bounds.1 ≤ old
    within : IsWithin ls bounds block
    alike : AreAlike block other

  all_replaced : (from : ℕ) (bs : List (ℕ × ℕ)) (gone come : List Block) → front ≤ from → AreBlocksUpTo ls from old bs → AreWithin ls bs gone
      → AllQuiet gone → AllQuiet come
      → map digest_of gone ≡ map digest_of come → map has_own_findings gone ≡ map has_own_findings come → AllZip IsReplaced gone come
  all_replaced from bs [] [] low h w p q d e = tt
  all_replaced from bs [] (y ∷ come) low h w p q d e = absurd (cc d)
  all_replaced from bs (x ∷ gone) [] low h w p q d e = absurd (cc d)
  all_replaced from [] (x ∷ gone) (y ∷ come) low h w p q d e = absurd w
  all_replaced from (b ∷ bs) (x ∷ gone) (y ∷ come) low h w p q d e =
      let digest : digest_of x ≡ digest_of y = cc d in
      let digests : map digest_of gone ≡ map digest_of come = cc d in
      let own : has_own_findings x ≡ has_own_findings y = cc e in
      let owns : map has_own_findings gone ≡ map has_own_findings come = cc e in
      let alike : AreAlike x y = record { digests = digest; quiet = p.0; other_quiet = q.0; own = own } in
      let one : IsReplaced x y = record { bounds = b; low = omega (arith, low, h.0); high = h.3; within = w.0; alike = alike } in
      (one, all_replaced b.1 bs gone come (omega (arith, low, h.0, h.2.some)) h.4 w.1 p.1 q.1 digests owns)

-- ---- the findings

module _ (text other : List ℕ) (front old new : ℕ) (bare_items : List BareItem) (rows : List Finding)
    (replaced : AreReplaced (line_texts text) (line_texts other) front old new)
    (told : AreBareItems (line_texts text) front old bare_items) (other_told : AreBareItems (line_texts other) front new bare_items)
    (none : NoneFound front old rows) (are : AreRows text rows) where
  abbrev ls : List Text
  ls = line_texts text

  abbrev others : List Text
  others = line_texts other

  abbrev moved : Finding → Finding
  moved = moved_finding front old new

  abbrev Carried : Block → Block → Type 0
  Carried = IsCarried ls others front old new

  -- how the blocks of the texts stand to each other
  abbrev Match : Block → Block → Type 0
  Match block fellow = Carried block fellow ⊎ IsReplaced ls front old block fellow

  module _ (blocks fresh : List Block) (said : AreSaid text blocks) (other_said : AreSaid other fresh) where
    row_found : (before : List Block) (block : Block) (after : List Block) → blocks ≡ before ++ block ∷ after
        → (place : Place) (name : List ℕ) (code : Code) → RowHolds blocks before block place name code → Contains rows (record { place = place; code = code; name = name })
    row_found before block after split place name code row =
        let found : Finding = record { place = place; code = code; name = name } in
        let stands : RowStands text found = record { blocks = blocks; of_text = said; before = before; block = block; after = after; split = split; holds = row } in
        (are.each found).1 stands

    -- no row holds of a block of the part
    none_there : (before : List Block) (block : Block) (after : List Block) → blocks ≡ before ++ block ∷ after
        → (b : ℕ × ℕ) → front ≤ b.0 → b.1 ≤ old → IsWithin ls b block → HasNoRow blocks before block
    none_there before block after split b low high within place name code row =
        let line = row_within ls b blocks before block within place name code row in
        let out : (place.line < front) ⊎ (old ≤ place.line) = none (record { place = place; code = code; name = name }) (row_found before block after split place name code row) in
        elim out [ inl h ↦ omega (arith, h, low, line.0) | inr h ↦ omega (arith, h, high, line.1) ]

    gone_quiet : (before : List Block) (from : ℕ) (bs : List (ℕ × ℕ)) (gone behind : List Block) → blocks ≡ before ++ (gone ++ behind) → front ≤ from
        → AreBlocksUpTo ls from old bs → AreWithin ls bs gone → AllQuiet gone
    gone_quiet before from bs [] behind e low h w = tt
    gone_quiet before from [] (x ∷ gone) behind e low h w = absurd w
    gone_quiet before from (b ∷ bs) (x ∷ gone) behind e low h w =
        let nothing : HasNoRow blocks before x = none_there before x (gone ++ behind) e b (omega (arith, low, h.0)) h.3 w.0 in
        let more : blocks ≡ (before ++ x ∷ []) ++ (gone ++ behind) = e ∙ sym (append_assoc before (x ∷ []) (gone ++ behind)) in
        (no_fault_shown blocks before x nothing w.0.says, gone_quiet (before ++ x ∷ []) b.1 bs gone behind more (omega (arith, low, h.0, h.2.some)) h.4 w.1)

    all_match : AllZip Match blocks fresh
    all_match =
        let h = blocks_parted text other front old new blocks fresh replaced said other_said in
        let quiet : AllQuiet h.gone = gone_quiet h.before front h.gone_are.bounds h.gone h.behind h.are (omega arith) h.gone_are.all h.gone_are.each in
        let alike = middles_alike ls others front old front new h.gone h.come bare_items h.gone_are h.come_are told other_told quiet in
        let fronts : AllZip Match h.before h.first = zip_to Carried Match (λ x y c. inl c) h.before h.first h.fronts in
        let backs : AllZip Match h.behind h.last = zip_to Carried Match (λ x y c. inl c) h.behind h.last h.backs in
        let parts : AllZip (IsReplaced ls front old) h.gone h.come =
        all_replaced ls front old front h.gone_are.bounds h.gone h.come (omega arith) h.gone_are.all h.gone_are.each quiet alike.1 alike.0 alike.2
        in
        let middle : AllZip Match h.gone h.come = zip_to (IsReplaced ls front old) Match (λ x y c. inr c) h.gone h.come parts in
        let all : AllZip Match (h.before ++ (h.gone ++ h.behind)) (h.first ++ (h.come ++ h.last)) =
        zip_append Match h.before (h.gone ++ h.behind) h.first (h.come ++ h.last) fronts (zip_append Match h.gone h.behind h.come h.last middle backs)
        in
        subst (λ l. AllZip Match l fresh) (sym h.are) (subst (λ l. AllZip Match (h.before ++ (h.gone ++ h.behind)) l) (sym h.fresh_are) all)

    match_digest : (block fellow : Block) → Match block fellow → digest_of block ≡ digest_of fellow
    match_digest block fellow (inl c) = carried_digest ls others front old new block fellow c
    match_digest block fellow (inr c) = c.alike.digests

    match_digests : (xs ys : List Block) → AllZip Match xs ys → map digest_of xs ≡ map digest_of ys
    match_digests [] [] h = refl
    match_digests [] (y ∷ ys) h = absurd h
    match_digests (x ∷ xs) [] h = absurd h
    match_digests (x ∷ xs) (y ∷ ys) h = (λ i. match_digest x y h.0 i ∷ match_digests xs ys h.1 i)

    alike : FindAlike blocks fresh
    alike = find_alike blocks fresh (match_digests blocks fresh all_match)

    -- blocks that stand to each other so, at the same place among all
    module _ (before earlier : List Block) (block fellow : Block) (pairs : AllZip Match before earlier) where
      heads : map digest_of before ≡ map digest_of earlier
      heads = match_digests before earlier pairs

      same_defines : (name : Name) → AnyDefines before name ↔ AnyDefines earlier name
      same_defines name = (defines_too before earlier heads name, defines_too earlier before (sym heads) name)

      same_bases : (name : Name) → AnyBases before name ↔ AnyBases earlier name
      same_bases name = (bases_too before earlier heads name, bases_too earlier before (sym heads) name)

      row_to : (after : List Block) → blocks ≡ before ++ block ∷ after → Match block fellow
          → (place : Place) (name : List ℕ) (code : Code) → RowHolds blocks before block place name code
          → RowHolds fresh earlier fellow (moved_place front old new place) name (moved_code front old new code)
      row_to after split (inl c) place name code row =
          row_moves ls others c.bounds c.there front old new blocks before fresh earlier block fellow c.same c.lines c.within c.other_within alike.names alike.unproductive
          same_defines same_bases place name code row
      row_to after split (inr c) place name code row = absurd (none_there before block after split c.bounds c.low c.high c.within place name code row)

      row_from : (after : List Block) → blocks ≡ before ++ block ∷ after → Match block fellow
          → (place : Place) (name : List ℕ) (code : Code) → RowHolds fresh earlier fellow place name code
          → Contains (map moved rows) (record { place = place; code = code; name = name })
      row_from after split (inl c) place name code row =
          let came =
          row_came ls others c.bounds c.there front old new blocks before fresh earlier block fellow c.same c.lines c.within c.other_within alike.names alike.unproductive
          same_defines same_bases place name code row
          in
          let found : Finding = record { place = came.there; code = came.kind; name = name } in
          let is : moved found ≡ record { place = place; code = code; name = name } = (λ i. record { place = sym came.place_is i; code = sym came.code_is i; name = name }) in
          subst (λ f. Contains (map moved rows) f) is (map_in moved rows found (row_found before block after split came.there name came.kind came.holds))
      row_from after split (inr c) place name code row =
          let nothing : HasNoRow blocks before block = none_there before block after split c.bounds c.low c.high c.within in
          absurd (no_row_too blocks before fresh earlier block fellow c.alike alike.names alike.unproductive heads nothing place name code row)

  module _ (small : length text < 2 ^ 62) (other_small : length other < 2 ^ 62) where
    stands_there : (found : Finding) → RowStands text found → RowStands other (moved found)
    stands_there found st =
        let fresh = some_said other other_small in
        let o = opposite Match st.blocks st.before st.block st.after fresh.0 st.split (all_match st.blocks fresh.0 st.of_text fresh.1) in
        record {
          blocks = fresh.0;
          of_text = fresh.1;
          before = o.earlier;
          block = o.y;
          after = o.later;
          split = o.split;
          holds = row_to st.blocks fresh.0 st.of_text fresh.1 st.before o.earlier st.block o.y o.pairs st.after st.split o.pair found.place found.name found.code st.holds;
        }

    found_before : (found : Finding) → RowStands other found → Contains (map moved rows) found
    found_before found st =
        let here = some_said text small in
        let pairs = flipped Match here.0 st.blocks (all_match here.0 st.blocks here.1 st.of_text) in
        let o = opposite (λ y x. Match x y) st.blocks st.before st.block st.after here.0 st.split pairs in
        row_from here.0 st.blocks here.1 st.of_text o.earlier st.before o.y st.block (flipped (λ y x. Match x y) st.before o.earlier o.pairs)
        o.later o.split o.pair found.place found.name found.code st.holds

    rows_moved : AreRows other (map moved rows)
    rows_moved = record {
      each = λ found. (
        (λ h. let x = in_map moved rows found h in subst (λ f. RowStands other f) x.2 (stands_there x.0 ((are.each x.0).0 x.1))),
        (λ st. found_before found st),
      );
      ordered = moved_ascend front old new replaced.order rows none are.ordered;
    }

pub findings_moved : (text other : List ℕ) (front old new : ℕ) (bare_items : List BareItem) (rows : List Finding) → length text < 2 ^ 62 → length other < 2 ^ 62
    → AreReplaced (line_texts text) (line_texts other) front old new → AreBareItems (line_texts text) front old bare_items → AreBareItems (line_texts other) front new bare_items
    → NoneFound front old rows → AreRows text rows → AreRows other (map (moved_finding front old new) rows)
findings_moved text other front old new bare_items rows small other_small replaced told other_told none are =
    rows_moved text other front old new bare_items rows replaced told other_told none are small other_small
