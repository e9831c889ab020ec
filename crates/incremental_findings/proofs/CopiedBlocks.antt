-- Blocks that say what blocks of another text say: what is known of those is kept once more for these.
use Rattle.std.proofs.Common.{◌≡◌, ◌∙◌, ℕ, zero, suc, ◌+◌, ◌<◌, ◌≤◌, Bool, false, List, [], ◌∷◌, ◌++◌, length, map, take, Option, Some, None, refl, sym, ap, subst, append_assoc, arith}
use Rattle.std.specs.Prelude.{◌||◌, IfSome, IsSomeAnd, is_some, slice_get}
use Rattle.std.specs.List.{flat_map}
use Rattle.std.proofs.lemmas.List.{length-append, map-append, take_all, take_at}
use Rattle.abnf_token.specs.Classes.{Text}
use Rattle.abnf_syntax.specs.declared.block.Block as source
use Rattle.abnf_syntax.specs.declared.fault.SyntaxFault.{SyntaxFault}
use Rattle.abnf_syntax.specs.Blocks.{IsBlock, IsNextBlock, IsSeam}
use Rattle.abnf_syntax.specs.Bounds.{bounds}
use Rattle.abnf_syntax.specs.Items.{AreItems, with_line_end}
use Rattle.abnf_syntax.proofs.BlockLaws.{block_at, found_more, none_at}
use Rattle.abnf_syntax.proofs.ContentLaws.{some_items}
use Rattle.abnf_syntax.proofs.Whole.{some_answer}
use Rattle.abnf_parts.specs.Names.{Name}
use Rattle.abnf_names.specs.Said.{AreWithin, Block, IsWithin}
use Rattle.abnf_names.specs.Shown.{fault_shown}
use Rattle.abnf_digests.specs.Digests.{digest_of}
use Rattle.abnf_digests.specs.Quiet.{has_own_findings}
use Rattle.abnf_digests.specs.Replaced.{AreBetween}
use Rattle.abnf_digests.proofs.Middles.{middles_alike}
use Rattle.findings_index.specs.declared.digest.BlockDigest.{BlockDigest}
use Rattle.findings_index.specs.declared.word.Word.{Word}
use Rattle.findings_index.specs.KeptBlocks.{AreEachKept, AreKept, IsKept, IsKeptOf, at_lines}
use Rattle.findings_index.specs.Stored.{IsStored, Stored}
use Rattle.incremental_findings.specs.own.Reads.{HasDigests, IsBlockLike}
use Rattle.incremental_findings.specs.own.Walks.{SayTheSame}
use Rattle.incremental_findings.proofs.FindLaws as kept
use Rattle.incremental_findings.proofs.FollowedBlocks.{within_join}
use Rattle.incremental_findings.proofs.KeptLists.{kept_at, kept_halves, kept_join, kept_length, within_length}
use Rattle.incremental_findings.proofs.ReadLaws.{HasRead}
use Rattle.abnf_syntax.proofs.Exist.{seen}
use Rattle.incremental_findings.proofs.SameBlocks.{said_by}

-- ---- a block that says the same

by_none : (o : Option SyntaxFault) (b : Bool) → (is_some o || b) ≡ false → o ≡ None
by_none None b e = refl
by_none (Some fault) b e = absurd (cc (e))

no_fault : (block : Block) → has_own_findings block ≡ false → fault_shown block.said ≡ None
no_fault block e = by_none (fault_shown block.said) _ e

one_between : (ls : List Text) (b : ℕ × ℕ) (block : Block) → IsBlock ls b.0 b.1 → IsWithin ls b block → AreBetween ls b.0 b.1 (block ∷ [])
one_between ls b block is within = record {
  bounds = b ∷ [];
  all = (omega arith, none_at ls b.0, is, omega arith, none_at ls b.1);
  each = (within, tt);
}

record Alike (others : List Text) (there : ℕ × ℕ) (block : Block) : Type 0 where
  other : Block
  within : IsWithin others there other
  digest : digest_of block ≡ digest_of other
  own : has_own_findings block ≡ has_own_findings other

alike_there : (ls others : List Text) (b there : ℕ × ℕ) (block : Block) → IsBlock ls b.0 b.1 → IsBlock others there.0 there.1 → IsWithin ls b block
    → has_own_findings block ≡ false → SayTheSame ls b.0 b.1 others there.0 there.1 → Alike others there block
alike_there ls others b there block here is within quiet same =
    let items = seen (flat_map with_line_end same.theirs.tokens) in
    let are : AreItems others there.0 there.1 items.0 =
    record { tokens = same.theirs.tokens; all = same.theirs.all; tokens_are = same.theirs.tokens_are; items_are = items.1 }
    in
    let said = said_by items.0 (some_answer items.0 (some_items others there.0 there.1 items.0 is.some is.begins are)) in
    let other : Block = record { items = items.0; said = said.0 } in
    let within_there : IsWithin others there other = record { items = are; says = said.1 } in
    let m =
    middles_alike ls others b.0 b.1 there.0 there.1 (block ∷ []) (other ∷ []) same.bare_items (one_between ls b block here within)
    (one_between others there other is within_there) same.ours same.theirs (no_fault block quiet, tt)
    in
    record { other = other; within = within_there; digest = cc (m.0); own = cc (m.2) }

-- ---- what is kept of it

get_front : {X : Type 0} (xs ys : List X) (at : ℕ) → at < length xs → slice_get (xs ++ ys) at ≡ slice_get xs at
get_front [] ys at less = absurd (omega (arith, less))
get_front (x ∷ xs) ys zero less = refl
get_front (x ∷ xs) ys (suc at) less = get_front xs ys at (omega (arith, less))

kept_again : (table : List Name) (words : List Word) (k : BlockDigest) (b : ℕ × ℕ) (first end : ℕ) (block other : Block) → digest_of block ≡ digest_of other
    → has_own_findings block ≡ has_own_findings other → IsKept table words k b block → IsKept table words (at_lines first end k) (first, end) other
kept_again table words k b first end block other digests own is =
    let stored : IsStored table words (at_lines first end k) (digest_of block) = record {
      head = is.digest.head;
      order = is.digest.order;
      within = is.digest.within;
      words = is.digest.words;
      known = is.digest.known;
    } in
    record { digest = subst (IsStored table words (at_lines first end k)) digests stored; first = refl; behind = refl; own = is.own ∙ own }

-- what is known of the other text's block at a place
record KnownAt (ls : List Text) (now : Stored) (block : BlockDigest) : Type 0 where
  at : ℕ × ℕ
  said : Block
  is_block : IsBlock ls at.0 at.1
  within : IsWithin ls at said
  is_kept : IsKept now.table now.words block at said

-- the first that are kept are those of the text before
pub first_blocks : (ls : List Text) (start given : Stored) (kept : List BlockDigest) (count : ℕ) → start ≡ given → IsKeptOf ls given → kept ≡ start.kept → count ≡ length start.kept → HasDigests ls count kept
first_blocks ls start given kept count same h are count_is =
    let is : AreKept start h.bounds h.blocks = subst (λ (s : Stored). AreKept s h.bounds h.blocks) (sym same) h.kept in
    let all : take count kept ≡ start.kept = ap (take count) are ∙ take_all count start.kept (omega (arith, count_is)) in
    record {
      table = start.table;
      words = start.words;
      bounds = h.bounds;
      blocks = h.blocks;
      within = omega (arith, count_is, ap length are);
      all = h.all;
      each = subst (λ (ks : List BlockDigest). AreEachKept start.table start.words ks h.bounds h.blocks) (sym all) is;
    }

pub more_blocks : (ls others : List Text) (from to first : ℕ) (start now : Stored) (kept : List BlockDigest) (count : ℕ) → IsKeptOf ls start → HasRead others from to start first now → kept ≡ now.kept
    → count ≡ length start.kept → HasDigests ls count kept
more_blocks ls others from to first start now kept count h r are count_is =
    let halves =
    kept_halves now.table now.words now.kept h.bounds (map bounds r.done) h.blocks r.blocks (within_length ls h.bounds h.blocks h.each) (r.kept h.bounds h.blocks h.kept)
    in
    let long : length halves.front ≡ count =
    omega (
      arith,
      count_is,
      (kept_length start.table start.words start.kept h.bounds h.blocks h.kept).0,
      (kept_length now.table now.words halves.front h.bounds h.blocks halves.fronts).0,
    )
    in
    let all : take count kept ≡ halves.front = ap (take count) (are ∙ halves.are) ∙ take_at halves.front halves.back count long in
    record {
      table = now.table;
      words = now.words;
      bounds = h.bounds;
      blocks = h.blocks;
      within = omega (arith, long, ap length (are ∙ halves.are), length-append halves.front halves.back);
      all = h.all;
      each = subst (λ (ks : List BlockDigest). AreEachKept now.table now.words ks h.bounds h.blocks) (sym all) halves.fronts;
    }

module _ (ls others : List Text) (from to : ℕ) (start now : Stored) (first end at upto : ℕ) (h : IsKeptOf ls start) (count : upto ≤ length start.kept)
    (r : HasRead others from to start first now) (like : IsBlockLike ls upto now.kept others first end at) where
  known_at : KnownAt ls now like.block
  known_at =
      let halves =
      kept_halves now.table now.words now.kept h.bounds (map bounds r.done) h.blocks r.blocks (within_length ls h.bounds h.blocks h.each) (r.kept h.bounds h.blocks h.kept)
      in
      let less : at < length halves.front =
      omega (
        arith,
        like.within.0,
        count,
        (kept_length start.table start.words start.kept h.bounds h.blocks h.kept).0,
        (kept_length now.table now.words halves.front h.bounds h.blocks halves.fronts).0,
      )
      in
      let k = kept_at now.table now.words halves.front h.bounds h.blocks at less halves.fronts in
      let found : slice_get halves.front at ≡ Some like.block =
      sym (get_front halves.front halves.back at less) ∙ (ap (λ (ks : List BlockDigest). slice_get ks at) (sym halves.are) ∙ like.is)
      in
      let same : k.kept ≡ like.block = kept.some_same (slice_get halves.front at) k.kept like.block k.kept_is found in
      record {
        at = k.bounds;
        said = k.block;
        is_block = kept.block_at ls 0 h.bounds at k.bounds h.all k.bounds_are;
        within = kept.within_at ls h.bounds h.blocks at k.bounds k.block h.each k.bounds_are k.block_is;
        is_kept = subst (λ (x : BlockDigest). IsKept now.table now.words x k.bounds k.block) same k.is_kept;
      }

  module _ (less : first < to) (seam : IsSeam others to) (next : IsNextBlock others (first + 1) to end) where
    there_is : IsBlock others first end
    there_is = block_at others first to end seam (r.begins less) next

    alike : Alike others (first, end) known_at.said
    alike =
        let k = known_at in
        let same : SayTheSame ls k.at.0 k.at.1 others first end =
        subst (λ (n : ℕ). SayTheSame ls n k.at.1 others first end) k.is_kept.first (subst (λ (n : ℕ). SayTheSame ls like.block.first n others first end) k.is_kept.behind like.same)
        in
        alike_there ls others k.at (first, end) k.said k.is_block there_is k.within (sym k.is_kept.own ∙ like.quiet) same

    -- one block more is kept, as the other text's is
    pub copied_more : (after : Stored)
        → ((block : BlockDigest) → slice_get now.kept at ≡ Some block → after ≡ record { table = now.table; words = now.words; kept = now.kept ++ at_lines first end block ∷ [] })
        → HasRead others from to start end after
    copied_more after adds =
        let k = known_at in
        let other = alike.other in
        let b : source.Block = record { first = first; end = end; items = other.items } in
        let copy : BlockDigest = at_lines first end like.block in
        let added : Stored = record { table = now.table; words = now.words; kept = now.kept ++ copy ∷ [] } in
        let one : IsKept now.table now.words copy (first, end) other = kept_again now.table now.words like.block k.at first end k.said other alike.digest alike.own k.is_kept in
        let joined : map bounds r.done ++ bounds b ∷ [] ≡ map bounds (r.done ++ b ∷ []) = sym (map-append bounds r.done (b ∷ [])) in
        record {
          within = next.within;
          begins = next.begins;
          done = r.done ++ b ∷ [];
          blocks = r.blocks ++ other ∷ [];
          all = found_more others from to r.done b (r.done ++ b ∷ []) refl seam (r.begins less) next r.all;
          each =
              subst (λ bs. AreWithin others bs (r.blocks ++ other ∷ [])) joined
              (within_join others (map bounds r.done) (bounds b ∷ []) r.blocks (other ∷ []) r.each (alike.within, tt));
          kept = λ bs xs are.
              let more : AreEachKept now.table now.words (now.kept ++ copy ∷ []) ((bs ++ map bounds r.done) ++ bounds b ∷ []) ((xs ++ r.blocks) ++ other ∷ []) =
              kept_join now.table now.words now.kept (copy ∷ []) (bs ++ map bounds r.done) (bounds b ∷ []) (xs ++ r.blocks) (other ∷ []) (r.kept bs xs are) (one, tt)
              in
              let bounds_are : (bs ++ map bounds r.done) ++ bounds b ∷ [] ≡ bs ++ map bounds (r.done ++ b ∷ []) =
              append_assoc bs (map bounds r.done) (bounds b ∷ []) ∙ ap (λ l. bs ++ l) joined
              in
              subst (λ (s : Stored). AreKept s (bs ++ map bounds (r.done ++ b ∷ [])) (xs ++ (r.blocks ++ other ∷ []))) (sym (adds like.block like.is))
              (subst (λ (x : List (ℕ × ℕ)). AreKept added x (xs ++ (r.blocks ++ other ∷ []))) bounds_are
              (subst (AreKept added ((bs ++ map bounds r.done) ++ bounds b ∷ [])) (append_assoc xs r.blocks (other ∷ [])) more));
        }

-- what is asked of the text before, and what is known of one of its blocks
pub some_both : {X : Type 0} (P Q : X → Type 0) (o : Option X) → IfSome o P → IsSomeAnd o Q → (x : X) × P x × Q x
some_both P Q (Some x) p q = (x, p, q)
some_both P Q None p q = absurd q

pub some_of : {X : Type 0} (P Q : X → Type 0) (o : Option X) → IfSome o P → ((x : X) → P x → Q x) → IfSome o Q
some_of P Q (Some x) p f = f x p
some_of P Q None p f = tt
