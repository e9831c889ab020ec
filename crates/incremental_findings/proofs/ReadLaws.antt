-- Blocks that are read and kept, one after the other.
use Rattle.std.proofs.Common.{◌≡◌, ◌∙◌, ◌<◌, ◌≤◌, ◌+◌, ℕ, true, List, [], ◌∷◌, ◌++◌, length, map, refl, sym, ap, subst, append-nil, append_assoc}
use Rattle.std.proofs.lemmas.List.{map-append}
use Rattle.abnf_token.specs.Classes.{Text}
use Rattle.abnf_syntax.specs.declared.block.Block as source
use Rattle.abnf_syntax.specs.Blocks.{begins_at, AreBlocksUpTo, IsNextBlock, IsSeam}
use Rattle.abnf_syntax.specs.Bounds.{bounds}
use Rattle.abnf_syntax.specs.Items.{AreItems}
use Rattle.abnf_syntax.proofs.BlockLaws.{all_blocks, all_found, found_more, none_found}
use Rattle.abnf_names.specs.declared.section.Section.{Section}
use Rattle.abnf_names.specs.Said.{AreWithin, Block}
use Rattle.abnf_names.specs.Shown.{HasFault}
use Rattle.abnf_names.proofs.SectionPass.{found_again}
use Rattle.findings_index.specs.KeptBlocks.{AddsBlock, AreKept, IsKeptOf}
use Rattle.findings_index.specs.Sections.{IsBlockOf}
use Rattle.findings_index.specs.Stored.{Stored}
use Rattle.incremental_findings.specs.own.Reads.{AddsBetween}
use Rattle.incremental_findings.proofs.FollowedBlocks.{within_join}

-- the block of a section
pub said_in : (section : Section) (b : source.Block) → section.block ≡ b → 0 < length b.items → (block : Block) × (block.items ≡ b.items) × IsBlockOf section block
said_in section b is some =
    let has : HasFault b.items section.fault =
    found_again b.items section.fault some (subst (λ (x : source.Block). ∥ HasFault x.items section.fault ∥₁) is section.says)
    in (
      record { items = b.items; said = has.said },
      refl,
      record { says = has.says; same = (λ i. record { items = (is i).items; fault = has.shown i }) },
    )

-- The blocks up to a place are kept, behind those that were kept before.
pub record HasRead (ls : List Text) (from to : ℕ) (start : Stored) (first : ℕ) (now : Stored) : Type 0 where
  pub within : first ≤ to
  pub begins : first < to → begins_at ls first ≡ true
  pub done : List source.Block
  pub blocks : List Block
  pub all : (bs : List (ℕ × ℕ)) → AreBlocksUpTo ls first to bs → AreBlocksUpTo ls from to (map bounds done ++ bs)
  pub each : AreWithin ls (map bounds done) blocks
  pub kept : (bs : List (ℕ × ℕ)) (others : List Block) → AreKept start bs others → AreKept now (bs ++ map bounds done) (others ++ blocks)

module _ (ls : List Text) (from to : ℕ) (start : Stored) where
  pub none_read : (first : ℕ) → IsNextBlock ls from to first → HasRead ls from to start first start
  none_read first next = record {
    within = next.within;
    begins = next.begins;
    done = [];
    blocks = [];
    all = none_found ls from to first [] refl next;
    each = tt;
    kept = λ bs others kept.
        subst (λ (x : List (ℕ × ℕ)). AreKept start x (others ++ [])) (sym (append-nil bs)) (subst (AreKept start bs) (sym (append-nil others)) kept);
  }

  pub read_more : (first : ℕ) (b : source.Block) (now after : Stored) (section : Section) → HasRead ls from to start first now → first < to → IsSeam ls to
      → b.first ≡ first → IsNextBlock ls (first + 1) to b.end → AreItems ls first b.end b.items → 0 < length b.items → section.block ≡ b
      → ((block : Block) → IsBlockOf section block → AddsBlock (bounds section.block) block now after) → HasRead ls from to start b.end after
  read_more first b now after section h less seam is_first next items some is adds =
      let said = said_in section b is some in
      let block : Block = said.0 in
      let here : AreItems ls b.first b.end block.items =
      subst (λ at. AreItems ls at b.end block.items) (sym is_first) (subst (AreItems ls first b.end) (sym said.1) items)
      in
      let joined : map bounds h.done ++ bounds b ∷ [] ≡ map bounds (h.done ++ b ∷ []) = sym (map-append bounds h.done (b ∷ [])) in
      record {
        within = next.within;
        begins = next.begins;
        done = h.done ++ b ∷ [];
        blocks = h.blocks ++ block ∷ [];
        all =
            found_more ls from to h.done b (h.done ++ b ∷ []) refl seam (subst (λ at. begins_at ls at ≡ true) (sym is_first) (h.begins less))
            (subst (λ at. IsNextBlock ls (at + 1) to b.end) (sym is_first) next)
            (subst (λ at. (bs : List (ℕ × ℕ)) → AreBlocksUpTo ls at to bs → AreBlocksUpTo ls from to (map bounds h.done ++ bs)) (sym is_first) h.all);
        each =
            subst (λ bs. AreWithin ls bs (h.blocks ++ block ∷ [])) joined
            (within_join ls (map bounds h.done) (bounds b ∷ []) h.blocks (block ∷ []) h.each (record { items = here; says = said.2.says }, tt));
        kept = λ bs others kept.
            let more = adds block said.2 (bs ++ map bounds h.done) (others ++ h.blocks) (h.kept bs others kept) in
            let bounds_are : (bs ++ map bounds h.done) ++ bounds section.block ∷ [] ≡ bs ++ map bounds (h.done ++ b ∷ []) =
            (λ i. (bs ++ map bounds h.done) ++ bounds (is i) ∷ []) ∙ (append_assoc bs (map bounds h.done) (bounds b ∷ []) ∙ ap (λ l. bs ++ l) joined)
            in
            subst (λ (x : List (ℕ × ℕ)). AreKept after x (others ++ (h.blocks ++ block ∷ []))) bounds_are
            (subst (AreKept after ((bs ++ map bounds h.done) ++ bounds section.block ∷ [])) (append_assoc others h.blocks (block ∷ [])) more);
      }

  pub all_read : (first : ℕ) (now : Stored) → HasRead ls from to start first now → to ≤ first → AddsBetween ls from to start now
  all_read first now h none = record {
    bounds = map bounds h.done;
    blocks = h.blocks;
    all = all_found ls from to first h.done none h.all;
    each = h.each;
    kept = h.kept;
  }

-- ---- all blocks of a text

pub all_kept : (ls : List Text) (start now : Stored) → AreKept start [] [] → AddsBetween ls 0 (length ls) start now → IsKeptOf ls now
all_kept ls start now none added = record {
  bounds = added.bounds;
  blocks = added.blocks;
  all = all_blocks ls 0 added.bounds added.all;
  each = added.each;
  kept = added.kept [] [] none;
}
