-- Where a part of a text is replaced, the blocks before and behind it keep their digests.
use Rattle.std.proofs.Common.{◌≡◌, ℕ, List, ◌++◌, map, sym, ap, ◌∙◌}
use Rattle.std.proofs.lemmas.List.{map-append}
use Rattle.abnf_syntax.specs.Blocks.{line_texts}
use Rattle.abnf_names.specs.Said.{Block, AreSaid}
use Rattle.abnf_digests.specs.Digests.{Digest, digest_of}
use Rattle.abnf_digests.specs.Replaced.{AreReplaced, KeepDigests}
use Rattle.abnf_digests.proofs.Parted.{blocks_parted, carried_digests}

digests_are : (fresh front come last before behind : List Block) → fresh ≡ front ++ (come ++ last) → map digest_of before ≡ map digest_of front → map digest_of behind ≡ map digest_of last
    → map digest_of fresh ≡ map digest_of before ++ (map digest_of come ++ map digest_of behind)
digests_are fresh front come last before behind e f g =
    ap (map digest_of) e
    ∙ (map-append digest_of front (come ++ last)
    ∙ ((λ i. sym f i ++ map digest_of (come ++ last))
    ∙ ap (λ (l : List Digest). map digest_of before ++ l) (map-append digest_of come last ∙ ap (λ (l : List Digest). map digest_of come ++ l) (sym g))))

pub digests_kept : (text other : List ℕ) (front old new : ℕ) (blocks fresh : List Block)
    → AreReplaced (line_texts text) (line_texts other) front old new → AreSaid text blocks → AreSaid other fresh
    → KeepDigests (line_texts text) (line_texts other) front old new blocks fresh
digests_kept text other front old new blocks fresh r p q =
    let h = blocks_parted text other front old new blocks fresh r p q in
    record {
      before = h.before;
      gone = h.gone;
      behind = h.behind;
      come = h.come;
      are = h.are;
      digests = digests_are fresh h.first h.come h.last h.before h.behind h.fresh_are
          (carried_digests (line_texts text) (line_texts other) front old new h.before h.first h.fronts)
          (carried_digests (line_texts text) (line_texts other) front old new h.behind h.last h.backs);
      before_are = h.before_are;
      gone_are = h.gone_are;
      come_are = h.come_are;
    }
