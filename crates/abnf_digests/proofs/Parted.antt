-- The blocks of two texts, where a part of the one is replaced by the other's: those before and behind it stand one by one in the same
-- lines, and those of the part are among its lines.
use Rattle.std.proofs.Common.{◌≡◌, ℕ, ◌+◌, ◌<◌, ◌≤◌, List, [], ◌∷◌, ◌++◌, map, refl, sym, ap, subst, ◌∙◌, arith}
use Rattle.std.specs.Prelude.{slice_index_or}
use Rattle.std.specs.List.{AllZip}
use Rattle.abnf_token.specs.Classes.{Text}
use Rattle.abnf_syntax.specs.Blocks.{line_texts, begins_block, begins_at, AreBlocks, AreBlocksUpTo}
use Rattle.abnf_syntax.proofs.Bare.{one_list}
use Rattle.abnf_names.specs.Said.{Block, IsWithin, AreWithin, AreSaid}
use Rattle.abnf_digests.specs.Digests.{digest_of}
use Rattle.abnf_digests.specs.Moved.{moved_line}
use Rattle.abnf_digests.specs.SameLines.{AreSameLines}
use Rattle.abnf_digests.specs.Replaced.{AreReplaced, AreBetween}
use Rattle.abnf_digests.proofs.MovedOrder.{stays, moves}
use Rattle.abnf_digests.proofs.SameDigests.{same_digests}
use Rattle.abnf_digests.proofs.Seams.{IsMoved, AreMoved, further, cut, join, before_seam, moved}

-- ---- blocks of bounds that are joined

pub record Halves (ls : List Text) (xs ys : List (ℕ × ℕ)) (blocks : List Block) : Type 0 where
  pub front : List Block
  pub back : List Block
  pub are : blocks ≡ front ++ back
  pub fronts : AreWithin ls xs front
  pub backs : AreWithin ls ys back

pub halves : (ls : List Text) (xs ys : List (ℕ × ℕ)) (blocks : List Block) → AreWithin ls (xs ++ ys) blocks → Halves ls xs ys blocks
halves ls [] ys blocks h = record { front = []; back = blocks; are = refl; fronts = tt; backs = h }
halves ls (x ∷ xs) ys [] h = absurd h
halves ls (x ∷ xs) ys (block ∷ blocks) h =
    let rest = halves ls xs ys blocks h.1 in
    record { front = block ∷ rest.front; back = rest.back; are = ap (λ l. block ∷ l) rest.are; fronts = (h.0, rest.fronts); backs = rest.backs }

-- ---- blocks that are carried along

-- The other block stands in the same lines, each of them moved.
pub record IsCarried (ls others : List Text) (front old new : ℕ) (block other : Block) : Type 0 where
  pub bounds : ℕ × ℕ
  pub there : ℕ × ℕ
  pub same : AreSameLines ls others bounds there
  pub lines : (n : ℕ) → bounds.0 ≤ n → n < bounds.1 → moved_line front old new n + bounds.0 ≡ n + there.0
  pub within : IsWithin ls bounds block
  pub other_within : IsWithin others there other

module _ (ls others : List Text) (front old new : ℕ) where
  abbrev pub AreCarried : List Block → List Block → Type 0
  AreCarried blocks fresh = AllZip (IsCarried ls others front old new) blocks fresh

  pub carried_digest : (block other : Block) → IsCarried ls others front old new block other → digest_of block ≡ digest_of other
  carried_digest block other h = (same_digests ls others h.bounds h.there block other h.same h.within h.other_within).0

  pub carried_digests : (blocks fresh : List Block) → AreCarried blocks fresh → map digest_of blocks ≡ map digest_of fresh
  carried_digests [] [] h = refl
  carried_digests [] (other ∷ fresh) h = absurd h
  carried_digests (block ∷ blocks) [] h = absurd h
  carried_digests (block ∷ blocks) (other ∷ fresh) h = (λ i. carried_digest block other h.0 i ∷ carried_digests blocks fresh h.1 i)

  pub carried_before : ((n : ℕ) → n < front → slice_index_or ls n [] ≡ slice_index_or others n []) → (from : ℕ) (bs : List (ℕ × ℕ)) → AreBlocksUpTo ls from front bs
      → (blocks fresh : List Block) → AreWithin ls bs blocks → AreWithin others bs fresh → AreCarried blocks fresh
  carried_before same from [] h [] [] p q = tt
  carried_before same from [] h [] (c ∷ fresh) p q = absurd q
  carried_before same from [] h (b ∷ blocks) fresh p q = absurd p
  carried_before same from (b ∷ bs) h [] fresh p q = absurd p
  carried_before same from (b ∷ bs) h (block ∷ blocks) [] p q = absurd q
  carried_before same from (b ∷ bs) h (block ∷ blocks) (other ∷ fresh) p q =
      let lines : AreSameLines ls others b b = record { count = refl; each = λ n less. same (b.0 + n) (omega (arith, less, h.3)) } in
      let at : (n : ℕ) → b.0 ≤ n → n < b.1 → moved_line front old new n + b.0 ≡ n + b.0 =
      λ n low high. ap (λ m. m + b.0) (stays front old new n (omega (arith, high, h.3)))
      in
      let one : IsCarried ls others front old new block other = record { bounds = b; there = b; same = lines; lines = at; within = p.0; other_within = q.0 } in
      (one, carried_before same b.1 bs h.4 blocks fresh p.1 q.1)

  pub moved_lines : ((n : ℕ) → slice_index_or ls (old + n) [] ≡ slice_index_or others (new + n) []) → (b c : ℕ × ℕ) → IsMoved old new b c → AreSameLines ls others b c
  moved_lines same b c m =
      let k = further old b.0 m.0 in
      record {
        count = omega (arith, m.1, m.2);
        each = λ n less.
            let here : b.0 + n ≡ old + (k.0 + n) = omega (arith, k.1) in
            let there : new + (k.0 + n) ≡ c.0 + n = omega (arith, k.1, m.1) in
            ap (λ x. slice_index_or ls x []) here ∙ (same (k.0 + n) ∙ ap (λ x. slice_index_or others x []) there);
      }

  pub carried_behind : front ≤ old → ((n : ℕ) → slice_index_or ls (old + n) [] ≡ slice_index_or others (new + n) []) → (bs cs : List (ℕ × ℕ)) → AreMoved old new bs cs
      → (blocks fresh : List Block) → AreWithin ls bs blocks → AreWithin others cs fresh → AreCarried blocks fresh
  carried_behind order same [] [] m [] [] p q = tt
  carried_behind order same [] [] m [] (c ∷ fresh) p q = absurd q
  carried_behind order same [] [] m (b ∷ blocks) fresh p q = absurd p
  carried_behind order same [] (c ∷ cs) m blocks fresh p q = absurd m
  carried_behind order same (b ∷ bs) [] m blocks fresh p q = absurd m
  carried_behind order same (b ∷ bs) (c ∷ cs) m [] fresh p q = absurd p
  carried_behind order same (b ∷ bs) (c ∷ cs) m (block ∷ blocks) [] p q = absurd q
  carried_behind order same (b ∷ bs) (c ∷ cs) m (block ∷ blocks) (other ∷ fresh) p q =
      let at : (n : ℕ) → b.0 ≤ n → n < b.1 → moved_line front old new n + b.0 ≡ n + c.0 =
      λ n low high. omega (arith, moves front old new n order (omega (arith, low, m.0.0)), m.0.1)
      in
      let one : IsCarried ls others front old new block other =
      record { bounds = b; there = c; same = moved_lines same b c m.0; lines = at; within = p.0; other_within = q.0 }
      in
      (one, carried_behind order same bs cs m.1 blocks fresh p.1 q.1)

-- ---- one part is replaced

-- The blocks of both texts, before the part, in it and behind it.
pub record AreParted (ls others : List Text) (front old new : ℕ) (blocks fresh : List Block) : Type 0 where
  pub before : List Block
  pub gone : List Block
  pub behind : List Block
  pub first : List Block
  pub come : List Block
  pub last : List Block
  pub are : blocks ≡ before ++ (gone ++ behind)
  pub fresh_are : fresh ≡ first ++ (come ++ last)
  pub fronts : AreCarried ls others front old new before first
  pub backs : AreCarried ls others front old new behind last
  pub before_are : AreBetween ls 0 front before
  pub gone_are : AreBetween ls front old gone
  pub come_are : AreBetween others front new come

rest_parted : (all front rest come last : List Block) → all ≡ front ++ rest → rest ≡ come ++ last → all ≡ front ++ (come ++ last)
rest_parted all front rest come last e f = e ∙ ap (λ l. front ++ l) f

module _ (ls others : List Text) (front old new : ℕ) (r : AreReplaced ls others front old new) where
  pub begins_before : (n : ℕ) → n < front → begins_at ls n ≡ begins_at others n
  begins_before n less = (λ i. begins_block (r.base i) (r.before n less i))

  pub begins_behind : (n : ℕ) → begins_at ls (old + n) ≡ begins_at others (new + n)
  begins_behind n = (λ i. begins_block (r.base i) (r.behind n i))

  parted : (bs cs : List (ℕ × ℕ)) (blocks fresh : List Block) → AreBlocks ls 0 bs → AreBlocks others 0 cs → AreWithin ls bs blocks → AreWithin others cs fresh
      → AreParted ls others front old new blocks fresh
  parted bs cs blocks fresh p q within there =
      let a = cut ls 0 front bs (omega arith) r.fronts.0 p in
      let b = cut ls front old a.back r.order.0 r.backs.0 a.from_there in
      let c = cut others 0 front cs (omega arith) r.fronts.1 q in
      let d = cut others front new c.back r.order.1 r.backs.1 c.from_there in
      let fronts : AreBlocksUpTo others 0 front a.front = before_seam ls others front r.fronts.0 r.fronts.1 begins_before 0 a.front a.up_to in
      let m = moved ls others old new r.count begins_behind old new b.back (omega arith) (omega arith) b.from_there in
      let backs : m.0 ≡ d.back = one_list others new m.0 d.back m.1 d.from_there in
      let whole : cs ≡ a.front ++ (d.front ++ d.back) =
      one_list others 0 cs (a.front ++ (d.front ++ d.back)) q (join others 0 front a.front (d.front ++ d.back) (omega arith) fronts (subst (λ l. AreBlocks others front l) d.are c.from_there))
      in
      let x = halves ls a.front a.back blocks (subst (λ l. AreWithin ls l blocks) a.are within) in
      let y = halves ls b.front b.back x.back (subst (λ l. AreWithin ls l x.back) b.are x.backs) in
      let u = halves others a.front (d.front ++ d.back) fresh (subst (λ l. AreWithin others l fresh) whole there) in
      let v = halves others d.front d.back u.back u.backs in
      record {
        before = x.front;
        gone = y.front;
        behind = y.back;
        first = u.front;
        come = v.front;
        last = v.back;
        are = rest_parted blocks x.front x.back y.front y.back x.are y.are;
        fresh_are = rest_parted fresh u.front u.back v.front v.back u.are v.are;
        fronts = carried_before ls others front old new r.before 0 a.front a.up_to x.front u.front x.fronts u.fronts;
        backs = carried_behind ls others front old new r.order.0 r.behind b.back m.0 m.2 y.back v.back y.backs (subst (λ l. AreWithin others l v.back) (sym backs) v.backs);
        before_are = record { bounds = a.front; all = a.up_to; each = x.fronts };
        gone_are = record { bounds = b.front; all = b.up_to; each = y.fronts };
        come_are = record { bounds = d.front; all = d.up_to; each = v.fronts };
      }

pub blocks_parted : (text other : List ℕ) (front old new : ℕ) (blocks fresh : List Block)
    → AreReplaced (line_texts text) (line_texts other) front old new → AreSaid text blocks → AreSaid other fresh
    → AreParted (line_texts text) (line_texts other) front old new blocks fresh
blocks_parted text other front old new blocks fresh r p q =
    parted (line_texts text) (line_texts other) front old new r p.bounds q.bounds blocks fresh p.all q.all p.each q.each
