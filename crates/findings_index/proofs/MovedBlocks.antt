-- Blocks that don't move.
use Rattle.std.proofs.Common.{◌≡◌, ℕ, ◌+◌, ◌-◌, List, [], ◌∷◌, map, refl, arith}
use Rattle.std.specs.Prelude.{All}
use Rattle.std.proofs.lemmas.List.Elements.{All-head, All-tail}
use Rattle.findings_index.specs.declared.digest.BlockDigest.{BlockDigest}
use Rattle.findings_index.specs.KeptBlocks.{CanMove, moved_block}

block_stays : (old new : ℕ) (kept : BlockDigest) → old ≡ new → CanMove old new kept → moved_block old new kept ≡ kept
block_stays old new kept same can =
    let first : (kept.first - old) + new ≡ kept.first = omega (arith, same, can.first) in
    let behind : (kept.behind - old) + new ≡ kept.behind = omega (arith, same, can.first, can.behind) in
    λ i. record { head = kept.head; start = kept.start; end = kept.end; first = first i; behind = behind i; has_own = kept.has_own }

-- what began at a line begins there still
pub blocks_stay : (old new : ℕ) (kept : List BlockDigest) → old ≡ new → All (CanMove old new) kept → map (moved_block old new) kept ≡ kept
blocks_stay old new [] same all = refl
blocks_stay old new (k ∷ kept) same all =
    λ i. block_stays old new k same (All-head (CanMove old new) k kept all) i ∷ blocks_stay old new kept same (All-tail (CanMove old new) k kept all) i
