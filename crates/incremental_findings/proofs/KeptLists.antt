-- What is kept of blocks, one by one: cut, joined and moved.
use Rattle.std.proofs.Common.{◌≡◌, ◌∙◌, ℕ, zero, suc, ◌+◌, ◌-◌, ◌^◌, ◌<◌, ◌≤◌, List, [], ◌∷◌, ◌++◌, drop, length, map, take, refl, sym, ap, subst, arith, append_assoc}
use Rattle.std.specs.Prelude.{All, Some, slice_get, slice_range}
use Rattle.std.proofs.lemmas.List.{drop_at, length-append, take_at}
use Rattle.std.proofs.lemmas.List.Elements.{All-cons, All-nil}
use Rattle.abnf_token.specs.Classes.{Text}
use Rattle.abnf_syntax.specs.Blocks.{AreBlocks, AreBlocksUpTo}
use Rattle.abnf_parts.specs.Names.{Name}
use Rattle.abnf_names.specs.Said.{AreWithin, Block}
use Rattle.abnf_digests.specs.Digests.{digest_of}
use Rattle.abnf_digests.proofs.Parted.{AreCarried, IsCarried}
use Rattle.abnf_digests.proofs.SameDigests.{same_digests}
use Rattle.abnf_digests.proofs.Seams.{AreMoved, IsMoved}
use Rattle.findings_index.specs.declared.digest.BlockDigest.{BlockDigest}
use Rattle.findings_index.specs.declared.word.Word.{Word}
use Rattle.findings_index.specs.KeptBlocks.{AreEachKept, CanMove, IsKept, moved_block, replaced_by_last}
use Rattle.findings_index.specs.Stored.{IsStored, AreStored}

pub within_length : (ls : List Text) (bounds : List (ℕ × ℕ)) (blocks : List Block) → AreWithin ls bounds blocks → length bounds ≡ length blocks
within_length ls [] [] h = refl
within_length ls [] (block ∷ blocks) h = absurd h
within_length ls (b ∷ bounds) [] h = absurd h
within_length ls (b ∷ bounds) (block ∷ blocks) h = ap suc (within_length ls bounds blocks h.1)

module _ (table : List Name) (words : List Word) where
  abbrev AreKeptHere : List BlockDigest → List (ℕ × ℕ) → List Block → Type 0
  AreKeptHere ks bs xs = AreEachKept table words ks bs xs

  pub kept_length : (ks : List BlockDigest) (bs : List (ℕ × ℕ)) (xs : List Block) → AreKeptHere ks bs xs → (length ks ≡ length bs) × (length ks ≡ length xs)
  kept_length [] [] [] h = (refl, refl)
  kept_length [] [] (x ∷ xs) h = absurd h
  kept_length [] (b ∷ bs) xs h = absurd h
  kept_length (k ∷ ks) [] xs h = absurd h
  kept_length (k ∷ ks) (b ∷ bs) [] h = absurd h
  kept_length (k ∷ ks) (b ∷ bs) (x ∷ xs) h = let rest = kept_length ks bs xs h.1 in (ap suc rest.0, ap suc rest.1)

  pub kept_join : (ks ls : List BlockDigest) (bs cs : List (ℕ × ℕ)) (xs ys : List Block) → AreKeptHere ks bs xs → AreKeptHere ls cs ys → AreKeptHere (ks ++ ls) (bs ++ cs) (xs ++ ys)
  kept_join [] ls [] cs [] ys h g = g
  kept_join [] ls [] cs (x ∷ xs) ys h g = absurd h
  kept_join [] ls (b ∷ bs) cs xs ys h g = absurd h
  kept_join (k ∷ ks) ls [] cs xs ys h g = absurd h
  kept_join (k ∷ ks) ls (b ∷ bs) cs [] ys h g = absurd h
  kept_join (k ∷ ks) ls (b ∷ bs) cs (x ∷ xs) ys h g = (h.0, kept_join ks ls bs cs xs ys h.1 g)

  pub record KeptHalves (ks : List BlockDigest) (bs cs : List (ℕ × ℕ)) (xs ys : List Block) : Type 0 where
    pub front : List BlockDigest
    pub back : List BlockDigest
    pub are : ks ≡ front ++ back
    pub fronts : AreKeptHere front bs xs
    pub backs : AreKeptHere back cs ys

  pub kept_halves : (ks : List BlockDigest) (bs cs : List (ℕ × ℕ)) (xs ys : List Block) → length bs ≡ length xs → AreKeptHere ks (bs ++ cs) (xs ++ ys) → KeptHalves ks bs cs xs ys
  kept_halves ks [] cs [] ys e h = record { front = []; back = ks; are = refl; fronts = tt; backs = h }
  kept_halves ks [] cs (x ∷ xs) ys e h = absurd (omega (arith, e))
  kept_halves ks (b ∷ bs) cs [] ys e h = absurd (omega (arith, e))
  kept_halves [] (b ∷ bs) cs (x ∷ xs) ys e h = absurd h
  kept_halves (k ∷ ks) (b ∷ bs) cs (x ∷ xs) ys e h =
      let rest = kept_halves ks bs cs xs ys (omega (arith, e)) h.1 in
      record { front = k ∷ rest.front; back = rest.back; are = ap (λ l. k ∷ l) rest.are; fronts = (h.0, rest.fronts); backs = rest.backs }

  -- the digests of the blocks are kept
  pub kept_digests : (ks : List BlockDigest) (bs : List (ℕ × ℕ)) (xs : List Block) → AreKeptHere ks bs xs → AreStored table words ks (map digest_of xs)
  kept_digests [] [] [] h = tt
  kept_digests [] [] (x ∷ xs) h = absurd h
  kept_digests [] (b ∷ bs) xs h = absurd h
  kept_digests (k ∷ ks) [] xs h = absurd h
  kept_digests (k ∷ ks) (b ∷ bs) [] h = absurd h
  kept_digests (k ∷ ks) (b ∷ bs) (x ∷ xs) h = (h.0.digest, kept_digests ks bs xs h.1)

  -- what is kept at a place
  pub record KeptAt (ks : List BlockDigest) (bs : List (ℕ × ℕ)) (xs : List Block) (at : ℕ) : Type 0 where
    pub kept : BlockDigest
    pub bounds : ℕ × ℕ
    pub block : Block
    pub kept_is : slice_get ks at ≡ Some kept
    pub bounds_are : slice_get bs at ≡ Some bounds
    pub block_is : slice_get xs at ≡ Some block
    pub is_kept : IsKept table words kept bounds block

  pub kept_at : (ks : List BlockDigest) (bs : List (ℕ × ℕ)) (xs : List Block) (at : ℕ) → at < length ks → AreKeptHere ks bs xs → KeptAt ks bs xs at
  kept_at [] bs xs at less h = absurd (omega (arith, less))
  kept_at (k ∷ ks) [] xs at less h = absurd h
  kept_at (k ∷ ks) (b ∷ bs) [] at less h = absurd h
  kept_at (k ∷ ks) (b ∷ bs) (x ∷ xs) zero less h = record { kept = k; bounds = b; block = x; kept_is = refl; bounds_are = refl; block_is = refl; is_kept = h.0 }
  kept_at (k ∷ ks) (b ∷ bs) (x ∷ xs) (suc at) less h =
      let rest = kept_at ks bs xs at (omega (arith, less)) h.1 in
      record {
        kept = rest.kept;
        bounds = rest.bounds;
        block = rest.block;
        kept_is = rest.kept_is;
        bounds_are = rest.bounds_are;
        block_is = rest.block_is;
        is_kept = rest.is_kept;
      }

  -- ---- where blocks begin

  pub begin_before : (ls : List Text) (from at : ℕ) (ks : List BlockDigest) (bs : List (ℕ × ℕ)) (xs : List Block) → AreBlocksUpTo ls from at bs → AreKeptHere ks bs xs → All (λ k. k.first < at) ks
  begin_before ls from at [] bs xs h g = All-nil (λ k. k.first < at)
  begin_before ls from at (k ∷ ks) [] xs h g = absurd g
  begin_before ls from at (k ∷ ks) (b ∷ bs) [] h g = absurd g
  begin_before ls from at (k ∷ ks) (b ∷ bs) (x ∷ xs) h g =
      All-cons (λ k. k.first < at) k ks (omega (arith, g.0.first, h.2.some, h.3)) (begin_before ls b.1 at ks bs xs h.4 g.1)

  pub begin_behind : (ls : List Text) (from at : ℕ) (ks : List BlockDigest) (bs : List (ℕ × ℕ)) (xs : List Block) → at ≤ from → AreBlocks ls from bs → AreKeptHere ks bs xs
      → All (λ k. at ≤ k.first) ks
  begin_behind ls from at [] bs xs le h g = All-nil (λ k. at ≤ k.first)
  begin_behind ls from at (k ∷ ks) [] xs le h g = absurd g
  begin_behind ls from at (k ∷ ks) (b ∷ bs) [] le h g = absurd g
  begin_behind ls from at (k ∷ ks) (b ∷ bs) (x ∷ xs) le h g =
      All-cons (λ k. at ≤ k.first) k ks (omega (arith, g.0.first, le, h.0)) (begin_behind ls b.1 at ks bs xs (omega (arith, le, h.0, h.2.some)) h.3 g.1)

  -- ---- blocks that move

  pub can_move : (ls others : List Text) (old new from there : ℕ) (ks : List BlockDigest) (bs cs : List (ℕ × ℕ)) (xs : List Block) → length others < 2 ^ 32 → AreBlocks ls from bs
      → AreBlocks others there cs → AreMoved old new bs cs → AreKeptHere ks bs xs → All (CanMove old new) ks
  can_move ls others old new from there [] bs cs xs small h g m kept = All-nil (CanMove old new)
  can_move ls others old new from there (k ∷ ks) [] cs xs small h g m kept = absurd kept
  can_move ls others old new from there (k ∷ ks) (b ∷ bs) [] xs small h g m kept = absurd m
  can_move ls others old new from there (k ∷ ks) (b ∷ bs) (c ∷ cs) [] small h g m kept = absurd kept
  can_move ls others old new from there (k ∷ ks) (b ∷ bs) (c ∷ cs) (x ∷ xs) small h g m kept =
      let one : CanMove old new k = record {
        first = omega (arith, kept.0.first, m.0.0);
        behind = omega (arith, kept.0.first, kept.0.behind, h.2.some);
        small = omega (arith, kept.0.behind, m.0.2, g.2.within, small);
      } in
      All-cons (CanMove old new) k ks one (can_move ls others old new b.1 c.1 ks bs cs xs small h.3 g.3 m.1 kept.1)

  one_moved : (ls others : List Text) (front old new : ℕ) (k : BlockDigest) (b c : ℕ × ℕ) (x y : Block) → b.0 < b.1 → IsMoved old new b c → IsCarried ls others front old new x y
      → IsKept table words k b x → IsKept table words (moved_block old new k) c y
  one_moved ls others front old new k b c x y some m carried kept =
      let same = same_digests ls others carried.bounds carried.there x y carried.same carried.within carried.other_within in
      let stored : IsStored table words (moved_block old new k) (digest_of x) = record {
        head = kept.digest.head;
        order = kept.digest.order;
        within = kept.digest.within;
        words = kept.digest.words;
        known = kept.digest.known;
      } in
      record {
        digest = subst (IsStored table words (moved_block old new k)) same.0 stored;
        first = omega (arith, kept.first, m.0, m.1);
        behind = omega (arith, kept.behind, m.0, m.2, some);
        own = kept.own ∙ same.2;
      }

  pub all_moved : (ls others : List Text) (front old new from : ℕ) (ks : List BlockDigest) (bs cs : List (ℕ × ℕ)) (xs ys : List Block) → AreBlocks ls from bs → AreMoved old new bs cs
      → AreCarried ls others front old new xs ys → AreKeptHere ks bs xs → AreKeptHere (map (moved_block old new) ks) cs ys
  all_moved ls others front old new from [] [] [] [] [] h m carried kept = tt
  all_moved ls others front old new from [] [] [] [] (y ∷ ys) h m carried kept = absurd carried
  all_moved ls others front old new from [] [] [] (x ∷ xs) ys h m carried kept = absurd kept
  all_moved ls others front old new from [] [] (c ∷ cs) xs ys h m carried kept = absurd m
  all_moved ls others front old new from [] (b ∷ bs) cs xs ys h m carried kept = absurd kept
  all_moved ls others front old new from (k ∷ ks) [] cs xs ys h m carried kept = absurd kept
  all_moved ls others front old new from (k ∷ ks) (b ∷ bs) [] xs ys h m carried kept = absurd m
  all_moved ls others front old new from (k ∷ ks) (b ∷ bs) (c ∷ cs) [] ys h m carried kept = absurd kept
  all_moved ls others front old new from (k ∷ ks) (b ∷ bs) (c ∷ cs) (x ∷ xs) [] h m carried kept = absurd carried
  all_moved ls others front old new from (k ∷ ks) (b ∷ bs) (c ∷ cs) (x ∷ xs) (y ∷ ys) h m carried kept =
      (one_moved ls others front old new k b c x y h.2.some m.0 carried.0 kept.0, all_moved ls others front old new b.1 ks bs cs xs ys h.3 m.1 carried.1 kept.1)

-- ---- the last in place of others

module _ (first gone behind come : List BlockDigest) (ks : List BlockDigest) (are : ks ≡ first ++ (gone ++ (behind ++ come))) where
  abbrev Whole : List BlockDigest
  Whole = first ++ (gone ++ (behind ++ come))

  pub whole_length : length ks ≡ length first + (length gone + (length behind + length come))
  whole_length =
      ap length are ∙ (length-append first (gone ++ (behind ++ come))
      ∙ ap (λ n. length first + n) (length-append gone (behind ++ come) ∙ ap (λ n. length gone + n) (length-append behind come)))

  two_first : ks ≡ (first ++ gone) ++ (behind ++ come)
  two_first = are ∙ sym (append_assoc first gone (behind ++ come))

  pub behind_are : (to last : ℕ) → to ≡ length first + length gone → last ≡ length first + (length gone + length behind) → slice_range ks to last ≡ behind
  behind_are to last to_is last_is =
      let dropped : drop to ks ≡ behind ++ come = ap (drop to) two_first ∙ drop_at (first ++ gone) (behind ++ come) to (sym (to_is ∙ sym (length-append first gone))) in
      ap (take (last - to)) dropped ∙ take_at behind come (last - to) (omega (arith, to_is, last_is))

  last_are : (last : ℕ) → last ≡ length first + (length gone + length behind) → drop last ks ≡ come
  last_are last last_is =
      let front = first ++ (gone ++ behind) in
      let joined : ks ≡ front ++ come =
      are ∙ (ap (λ l. first ++ l) (sym (append_assoc gone behind come)) ∙ sym (append_assoc first (gone ++ behind) come))
      in
      let count : length front ≡ last = length-append first (gone ++ behind) ∙ (ap (λ n. length first + n) (length-append gone behind) ∙ sym last_is) in
      ap (drop last) joined ∙ drop_at front come last count

  pub replaced_are : (from to count old new : ℕ) → from ≡ length first → to ≡ length first + length gone → count ≡ length come
      → replaced_by_last from to count old new ks ≡ first ++ (come ++ map (moved_block old new) behind)
  replaced_are from to count old new from_is to_is count_is =
      let last : length ks - count ≡ length first + (length gone + length behind) = omega (arith, whole_length, count_is) in
      let taken : take from ks ≡ first = ap (take from) are ∙ take_at first (gone ++ (behind ++ come)) from (sym from_is) in
      (λ i. taken i ++ (last_are (length ks - count) last i ++ map (moved_block old new) (behind_are to (length ks - count) to_is last i)))
