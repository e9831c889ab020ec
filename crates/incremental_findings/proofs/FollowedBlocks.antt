-- The blocks of a text of which a part is replaced: those before the part, in it and behind it, and what is kept of them.
use Rattle.std.proofs.Common.{◌≡◌, ◌∙◌, ℕ, ◌+◌, ◌-◌, ◌^◌, ◌<◌, ◌≤◌, Bool, true, false, List, [], ◌∷◌, ◌++◌, length, map, get_or, refl, sym, ap, subst, arith, append_assoc, inl, inr, ltb}
use Rattle.std.specs.Prelude.{All, slice_range}
use Rattle.std.specs.List.Sorted.{IsPartitionPoint, IsPartitionedBy}
use Rattle.std.proofs.lemmas.Bool.{cases_lt, cases_order, false≢true, le-ltb, lt-ltb}
use Rattle.std.proofs.lemmas.List.{get_or_append_left, get_or-append_right, length-append}
use Rattle.std.proofs.lemmas.List.Elements.{All-append}
use Rattle.abnf_token.specs.Classes.{Text}
use Rattle.abnf_syntax.specs.Blocks.{AreBlocks, AreBlocksUpTo}
use Rattle.abnf_parts.specs.Names.{Name}
use Rattle.abnf_names.specs.Said.{AreWithin, Block}
use Rattle.abnf_digests.specs.Replaced.{AreReplaced}
use Rattle.abnf_digests.proofs.Parted.{AreCarried, begins_before, begins_behind, carried_behind, halves}
use Rattle.abnf_digests.proofs.Seams.{AreMoved, before_seam, cut, join, moved}
use Rattle.findings_index.specs.declared.digest.BlockDigest.{BlockDigest}
use Rattle.findings_index.specs.declared.word.Word.{Word}
use Rattle.findings_index.specs.KeptBlocks.{AreEachKept, AreKept, CanMove, IsKeptOf, moved_block, replaced_by_last}
use Rattle.findings_index.specs.Stored.{Stored}
use Rattle.incremental_findings.specs.own.Reads.{AddsBetween}
use Rattle.incremental_findings.proofs.KeptLists.{KeptHalves, all_moved, begin_before, begin_behind, behind_are, can_move, kept_halves, kept_join, kept_length, replaced_are, whole_length, within_length}
use Rattle.incremental_findings.proofs.SameBlocks.{blocks_before, blocks_there}

-- ---- blocks

record BlockParts (ls others : List Text) (front old new : ℕ) (bounds : List (ℕ × ℕ)) (blocks : List Block) : Type 0 where
  before : List (ℕ × ℕ)
  gone : List (ℕ × ℕ)
  behind : List (ℕ × ℕ)
  there : List (ℕ × ℕ)
  first : List Block
  middle : List Block
  last : List Block
  fresh : List Block
  bounds_are : bounds ≡ before ++ (gone ++ behind)
  blocks_are : blocks ≡ first ++ (middle ++ last)
  before_all : AreBlocksUpTo ls 0 front before
  gone_all : AreBlocksUpTo ls front old gone
  behind_all : AreBlocks ls old behind
  first_within : AreWithin ls before first
  middle_within : AreWithin ls gone middle
  last_within : AreWithin ls behind last
  -- in the other text
  before_there : AreBlocksUpTo others 0 front before
  first_there : AreWithin others before first
  moved : AreMoved old new behind there
  there_all : AreBlocks others new there
  fresh_within : AreWithin others there fresh
  carried : AreCarried ls others front old new last fresh

in_three : {X : Type 0} (all front rest middle last : List X) → all ≡ front ++ rest → rest ≡ middle ++ last → all ≡ front ++ (middle ++ last)
in_three all front rest middle last e f = e ∙ ap (λ l. front ++ l) f

module _ (ls others : List Text) (front old new : ℕ) (r : AreReplaced ls others front old new) where
  block_parts : (bounds : List (ℕ × ℕ)) (blocks : List Block) → AreBlocks ls 0 bounds → AreWithin ls bounds blocks → BlockParts ls others front old new bounds blocks
  block_parts bounds blocks all each =
      let a = cut ls 0 front bounds (omega arith) r.fronts.0 all in
      let b = cut ls front old a.back r.order.0 r.backs.0 a.from_there in
      let x = halves ls a.front a.back blocks (subst (λ l. AreWithin ls l blocks) a.are each) in
      let y = halves ls b.front b.back x.back (subst (λ l. AreWithin ls l x.back) b.are x.backs) in
      let m = moved ls others old new r.count (begins_behind ls others front old new r) old new b.back (omega arith) (omega arith) b.from_there in
      let fresh = blocks_there ls others front old new r.behind new b.back m.0 m.2 m.1 y.back y.backs in
      record {
        before = a.front;
        gone = b.front;
        behind = b.back;
        there = m.0;
        first = x.front;
        middle = y.front;
        last = y.back;
        fresh = fresh.0;
        bounds_are = in_three bounds a.front a.back b.front b.back a.are b.are;
        blocks_are = in_three blocks x.front x.back y.front y.back x.are y.are;
        before_all = a.up_to;
        gone_all = b.up_to;
        behind_all = b.from_there;
        first_within = x.fronts;
        middle_within = y.fronts;
        last_within = y.backs;
        before_there = before_seam ls others front r.fronts.0 r.fronts.1 (begins_before ls others front old new r) 0 a.front a.up_to;
        first_there = blocks_before ls others front r.before 0 a.front a.up_to x.front x.fronts;
        moved = m.2;
        there_all = m.1;
        fresh_within = fresh.1;
        carried = carried_behind ls others front old new r.order.0 r.behind b.back m.0 m.2 y.back fresh.0 y.backs fresh.1;
      }

-- ---- where they are kept

-- A test that the first so many items of a list pass, and no others: the place up to which it is passed.
pub record IsPoint {X : Type 0} (p : X → Bool) (xs : List X) (at : ℕ) : Type 0 where
  pub within : at ≤ length xs
  pub low : (k : ℕ) (d : X) → k < at → p (get_or xs k d) ≡ true
  pub high : (k : ℕ) (d : X) → at ≤ k → k < length xs → p (get_or xs k d) ≡ false

module _ {X : Type 0} (p : X → Bool) where
  point_parts : (xs : List X) (at : ℕ) → IsPoint p xs at → IsPartitionedBy p xs
  point_parts xs at h i j d le less e =
      elim (cases_lt j at) [
        | inl low ↦ h.low i d (omega (arith, le, low))
        | inr high ↦ absurd (false≢true (sym (h.high j d high less) ∙ e))
      ]

  one_point : (xs : List X) (at found : ℕ) → IsPoint p xs at → found ≤ length xs → IsPartitionPoint (λ y. p y ≡ true) (λ y. p y ≡ false) xs found → found ≡ at
  one_point [] at found h within point = omega (arith, h.within, within)
  one_point (x ∷ xs) at found h within point =
      elim (cases_order found at) [
        | inl same ↦ same
        | inr order ↦
            elim order [
              | inl less ↦ absurd (false≢true (sym (point.1 found x (omega arith) (omega (arith, less, h.within))) ∙ h.low found x less))
              | inr more ↦ absurd (false≢true (sym (h.high at x (omega arith) (omega (arith, more, within))) ∙ point.0 at x (omega arith) more))
            ]
      ]

  point_of : (xs ys : List X) → All (λ x. p x ≡ true) xs → All (λ x. p x ≡ false) ys → IsPoint p (xs ++ ys) (length xs)
  point_of xs ys low high = record {
    within = omega (arith, length-append xs ys);
    low = λ k d less. ap p (get_or_append_left xs ys d k less) ∙ low k d less;
    high = λ k d more less. ap p (get_or-append_right xs ys (length xs) k d refl more) ∙ high (k - length xs) d (omega (arith, more, less, length-append xs ys));
  }

-- a test of where blocks begin
abbrev pub begins_early : ℕ → BlockDigest → Bool
begins_early line kept = ltb kept.first line

pub within_join : (ls : List Text) (bs cs : List (ℕ × ℕ)) (xs ys : List Block) → AreWithin ls bs xs → AreWithin ls cs ys → AreWithin ls (bs ++ cs) (xs ++ ys)
within_join ls [] cs [] ys h g = g
within_join ls [] cs (x ∷ xs) ys h g = absurd h
within_join ls (b ∷ bs) cs [] ys h g = absurd h
within_join ls (b ∷ bs) cs (x ∷ xs) ys h g = (h.0, within_join ls bs cs xs ys h.1 g)

module _ (ls others : List Text) (front old new : ℕ) (r : AreReplaced ls others front old new) (bounds : List (ℕ × ℕ)) (blocks : List Block)
    (p : BlockParts ls others front old new bounds blocks) where
  -- what is kept of them, in the same parts
  record KeptParts (table : List Name) (words : List Word) (ks : List BlockDigest) : Type 0 where
    first : List BlockDigest
    gone : List BlockDigest
    behind : List BlockDigest
    are : ks ≡ first ++ (gone ++ behind)
    first_kept : AreEachKept table words first p.before p.first
    gone_kept : AreEachKept table words gone p.gone p.middle
    behind_kept : AreEachKept table words behind p.behind p.last
    first_count : length first ≡ length p.before
    gone_count : length gone ≡ length p.gone

  kept_parts : (table : List Name) (words : List Word) (ks : List BlockDigest) → AreEachKept table words ks bounds blocks → KeptParts table words ks
  kept_parts table words ks h =
      let parted : AreEachKept table words ks (p.before ++ (p.gone ++ p.behind)) (p.first ++ (p.middle ++ p.last)) =
      subst (λ (bs : List (ℕ × ℕ)). AreEachKept table words ks bs (p.first ++ (p.middle ++ p.last))) p.bounds_are (subst (AreEachKept table words ks bounds) p.blocks_are h)
      in
      let a = kept_halves table words ks p.before (p.gone ++ p.behind) p.first (p.middle ++ p.last) (within_length ls p.before p.first p.first_within) parted in
      let b = kept_halves table words a.back p.gone p.behind p.middle p.last (within_length ls p.gone p.middle p.middle_within) a.backs in
      record {
        first = a.front;
        gone = b.front;
        behind = b.back;
        are = in_three ks a.front a.back b.front b.back a.are b.are;
        first_kept = a.fronts;
        gone_kept = b.fronts;
        behind_kept = b.backs;
        first_count = (kept_length table words a.front p.before p.first a.fronts).0;
        gone_count = (kept_length table words b.front p.gone p.middle b.fronts).0;
      }

  front_point : (s : Stored) → AreKept s bounds blocks → IsPoint (begins_early front) s.kept (length p.before)
  front_point s kept =
      let q = kept_parts s.table s.words s.kept kept in
      let early : All (λ (k : BlockDigest). k.first < front) q.first = begin_before s.table s.words ls 0 front q.first p.before p.first p.before_all q.first_kept in
      let rest : AreBlocks ls front (p.gone ++ p.behind) = join ls front old p.gone p.behind r.order.0 p.gone_all p.behind_all in
      let late : All (λ (k : BlockDigest). front ≤ k.first) (q.gone ++ q.behind) =
      begin_behind s.table s.words ls front front (q.gone ++ q.behind) (p.gone ++ p.behind) (p.middle ++ p.last) (omega arith) rest
      (kept_join s.table s.words q.gone q.behind p.gone p.behind p.middle p.last q.gone_kept q.behind_kept)
      in
      let point : IsPoint (begins_early front) (q.first ++ (q.gone ++ q.behind)) (length q.first) =
      point_of (begins_early front) q.first (q.gone ++ q.behind) (λ k d less. lt-ltb _ _ (early k d less)) (λ k d less. le-ltb _ _ (late k d less))
      in
      subst (λ (n : ℕ). IsPoint (begins_early front) s.kept n) q.first_count
      (subst (λ (ks : List BlockDigest). IsPoint (begins_early front) ks (length q.first)) (sym q.are) point)

  old_point : (s : Stored) → AreKept s bounds blocks → IsPoint (begins_early old) s.kept (length p.before + length p.gone)
  old_point s kept =
      let q = kept_parts s.table s.words s.kept kept in
      let early : All (λ (k : BlockDigest). k.first < front) q.first = begin_before s.table s.words ls 0 front q.first p.before p.first p.before_all q.first_kept in
      let early_too : All (λ (k : BlockDigest). k.first < old) q.first = λ k d less. omega (arith, early k d less, r.order.0) in
      let soon : All (λ (k : BlockDigest). k.first < old) q.gone = begin_before s.table s.words ls front old q.gone p.gone p.middle p.gone_all q.gone_kept in
      let both : All (λ (k : BlockDigest). k.first < old) (q.first ++ q.gone) = All-append (λ k. k.first < old) q.first q.gone early_too soon in
      let late : All (λ (k : BlockDigest). old ≤ k.first) q.behind = begin_behind s.table s.words ls old old q.behind p.behind p.last (omega arith) p.behind_all q.behind_kept in
      let point : IsPoint (begins_early old) ((q.first ++ q.gone) ++ q.behind) (length (q.first ++ q.gone)) =
      point_of (begins_early old) (q.first ++ q.gone) q.behind (λ k d less. lt-ltb _ _ (both k d less)) (λ k d less. le-ltb _ _ (late k d less))
      in
      let joined : s.kept ≡ (q.first ++ q.gone) ++ q.behind = q.are ∙ sym (append_assoc q.first q.gone q.behind) in
      let count : length (q.first ++ q.gone) ≡ length p.before + length p.gone = omega (arith, length-append q.first q.gone, q.first_count, q.gone_count) in
      subst (λ (n : ℕ). IsPoint (begins_early old) s.kept n) count
      (subst (λ (ks : List BlockDigest). IsPoint (begins_early old) ks (length (q.first ++ q.gone))) (sym joined) point)

  -- ---- what is kept of the other text's blocks

  module _ (each : AreWithin ls bounds blocks) (small : length others < 2 ^ 32) (s after : Stored) (kept : AreKept s bounds blocks) (added : AddsBetween others front new s after)
      (from to come : ℕ) (from_is : from ≡ length p.before) (to_is : to ≡ length p.before + length p.gone) (come_is : come ≡ length after.kept - length s.kept) where
    abbrev Both : Type 0
    Both = KeptHalves after.table after.words after.kept bounds added.bounds blocks added.blocks

    both : Both
    both = kept_halves after.table after.words after.kept bounds added.bounds blocks added.blocks (within_length ls bounds blocks each) (added.kept bounds blocks kept)

    parts : KeptParts after.table after.words both.front
    parts = kept_parts after.table after.words both.front both.fronts

    whole : after.kept ≡ parts.first ++ (parts.gone ++ (parts.behind ++ both.back))
    whole =
        both.are ∙ (ap (λ l. l ++ both.back) parts.are ∙ (append_assoc parts.first (parts.gone ++ parts.behind) both.back
        ∙ ap (λ l. parts.first ++ l) (append_assoc parts.gone parts.behind both.back)))

    come_count : come ≡ length both.back
    come_count =
        omega (
          arith,
          come_is,
          ap length both.are,
          length-append both.front both.back,
          (kept_length after.table after.words both.front bounds blocks both.fronts).0,
          (kept_length s.table s.words s.kept bounds blocks kept).0,
        )

    count : length after.kept ≡ length parts.first + (length parts.gone + (length parts.behind + length both.back))
    count = whole_length parts.first parts.gone parts.behind both.back after.kept whole

    come_within : to + come ≤ length after.kept
    come_within = omega (arith, to_is, come_count, count, parts.first_count, parts.gone_count)

    lines_move : All (CanMove old new) (slice_range after.kept to (length after.kept - come))
    lines_move =
        let all : All (CanMove old new) parts.behind =
        can_move after.table after.words ls others old new old new parts.behind p.behind p.there p.last small p.behind_all p.there_all p.moved parts.behind_kept
        in
        let are : slice_range after.kept to (length after.kept - come) ≡ parts.behind =
        behind_are parts.first parts.gone parts.behind both.back after.kept whole to (length after.kept - come) (omega (arith, to_is, parts.first_count, parts.gone_count))
        (omega (arith, count, come_count))
        in
        subst (All (CanMove old new)) (sym are) all

    abbrev kept_then : Stored
    kept_then = record { table = after.table; words = after.words; kept = replaced_by_last from to come old new after.kept }

    followed_are_kept : IsKeptOf others kept_then
    followed_are_kept =
        let behind = map (moved_block old new) parts.behind in
        let behind_kept : AreEachKept after.table after.words behind p.there p.fresh =
        all_moved after.table after.words ls others front old new old parts.behind p.behind p.there p.last p.fresh p.behind_all p.moved p.carried parts.behind_kept
        in
        let rest : AreEachKept after.table after.words (both.back ++ behind) (added.bounds ++ p.there) (added.blocks ++ p.fresh) =
        kept_join after.table after.words both.back behind added.bounds p.there added.blocks p.fresh both.backs behind_kept
        in
        let all : AreEachKept after.table after.words (parts.first ++ (both.back ++ behind)) (p.before ++ (added.bounds ++ p.there)) (p.first ++ (added.blocks ++ p.fresh)) =
        kept_join after.table after.words parts.first (both.back ++ behind) p.before (added.bounds ++ p.there) p.first (added.blocks ++ p.fresh) parts.first_kept rest
        in
        let are : replaced_by_last from to come old new after.kept ≡ parts.first ++ (both.back ++ behind) =
        replaced_are parts.first parts.gone parts.behind both.back after.kept whole from to come old new (omega (arith, from_is, parts.first_count))
        (omega (arith, to_is, parts.first_count, parts.gone_count)) come_count
        in
        record {
          bounds = p.before ++ (added.bounds ++ p.there);
          blocks = p.first ++ (added.blocks ++ p.fresh);
          all =
              join others 0 front p.before (added.bounds ++ p.there) (omega arith) p.before_there
              (join others front new added.bounds p.there r.order.1 added.all p.there_all);
          each =
              within_join others p.before (added.bounds ++ p.there) p.first (added.blocks ++ p.fresh) p.first_there
              (within_join others added.bounds p.there added.blocks p.fresh added.each p.fresh_within);
          kept =
              subst (λ (ks : List BlockDigest). AreEachKept after.table after.words ks (p.before ++ (added.bounds ++ p.there)) (p.first ++ (added.blocks ++ p.fresh))) (sym are) all;
        }

-- ---- all of it

pub kept_more : (ls others : List Text) (from to : ℕ) (s given after : Stored) → s ≡ given → IsKeptOf ls given → AddsBetween others from to s after → length s.kept ≤ length after.kept
kept_more ls others from to s given after same h added =
    let kept : AreKept s h.bounds h.blocks = subst (λ (x : Stored). AreKept x h.bounds h.blocks) (sym same) h.kept in
    let both = kept_halves after.table after.words after.kept h.bounds added.bounds h.blocks added.blocks (within_length ls h.bounds h.blocks h.each) (added.kept h.bounds h.blocks kept) in
    omega (
      arith,
      ap length both.are,
      length-append both.front both.back,
      (kept_length after.table after.words both.front h.bounds h.blocks both.fronts).0,
      (kept_length s.table s.words s.kept h.bounds h.blocks kept).0,
    )

-- the last that are kept may stand in place of those of the part, and then all are kept of the other text
pub record CanFollow (others : List Text) (old new : ℕ) (after : Stored) (from to come : ℕ) : Type 0 where
  pub order : from ≤ to
  pub within : to + come ≤ length after.kept
  pub lines : All (CanMove old new) (slice_range after.kept to (length after.kept - come))
  pub kept : IsKeptOf others (record { table = after.table; words = after.words; kept = replaced_by_last from to come old new after.kept })

-- where the blocks of which these are kept begin before a line, as a search tells it
abbrev pub Tells : ℕ → List BlockDigest → ℕ → Type 0
Tells line lent found =
    IsPartitionedBy (begins_early line) lent → IsPartitionPoint (λ y. begins_early line y ≡ true) (λ y. begins_early line y ≡ false) lent found

pub can_follow : (ls others : List Text) (front old new : ℕ) (s given after : Stored) (lent later : List BlockDigest) (from to : ℕ) → AreReplaced ls others front old new
    → length others < 2 ^ 32 → s ≡ given → IsKeptOf ls given → AddsBetween others front new s after → lent ≡ s.kept → later ≡ after.kept → from ≤ length lent → to ≤ length lent
    → Tells front lent from → Tells old lent to → CanFollow others old new after from to (length later - length lent)
can_follow ls others front old new s given after lent later from to r small same h added lent_is later_is from_within to_within tells_from tells_to =
    let kept : AreKept s h.bounds h.blocks = subst (λ (x : Stored). AreKept x h.bounds h.blocks) (sym same) h.kept in
    let p = block_parts ls others front old new r h.bounds h.blocks h.all h.each in
    let fronts : IsPoint (begins_early front) lent (length p.before) =
    subst (λ (ks : List BlockDigest). IsPoint (begins_early front) ks (length p.before)) (sym lent_is) (front_point ls others front old new r h.bounds h.blocks p s kept)
    in
    let olds : IsPoint (begins_early old) lent (length p.before + length p.gone) =
    subst (λ (ks : List BlockDigest). IsPoint (begins_early old) ks (length p.before + length p.gone)) (sym lent_is) (old_point ls others front old new r h.bounds h.blocks p s kept)
    in
    let from_is : from ≡ length p.before =
    one_point (begins_early front) lent (length p.before) from fronts from_within (tells_from (point_parts (begins_early front) lent (length p.before) fronts))
    in
    let to_is : to ≡ length p.before + length p.gone =
    one_point (begins_early old) lent (length p.before + length p.gone) to olds to_within (tells_to (point_parts (begins_early old) lent (length p.before + length p.gone) olds))
    in
    let come_is : length later - length lent ≡ length after.kept - length s.kept = (λ i. length (later_is i) - length (lent_is i)) in
    record {
      order = omega (arith, from_is, to_is);
      within = come_within ls others front old new r h.bounds h.blocks p h.each small s after kept added from to (length later - length lent) from_is to_is come_is;
      lines = lines_move ls others front old new r h.bounds h.blocks p h.each small s after kept added from to (length later - length lent) from_is to_is come_is;
      kept = followed_are_kept ls others front old new r h.bounds h.blocks p h.each small s after kept added from to (length later - length lent) from_is to_is come_is;
    }
