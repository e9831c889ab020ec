-- Lines, and the blocks that they make.
use Rattle.std.proofs.Common.{◌≡◌, ℕ, zero, suc, ◌+◌, ◌≤◌, ◌<◌, true, List, [], ◌∷◌, ◌++◌, length, map, Some, None, sym, refl, ap, subst, ◌∙◌, append_assoc, arith, inl, inr}
use Rattle.std.specs.Prelude.{All, slice_get, slice_index_or}
use Rattle.std.proofs.lemmas.List.Elements.{All-append}
use Rattle.std.specs.Option.{option_map}
use Rattle.std.specs.Str.{encode_utf8_all}
use Rattle.std.proofs.lemmas.List.{length-map, map-append, append-nil}
use Rattle.std.proofs.lemmas.Bool.{cases_lt}
use Rattle.ls_text.specs.Lines.{lines, line_ends}
use Rattle.ls_text.proofs.LineLaws.{length_lines}
use Rattle.ls_text.specs.Marks.{AreMarksOf}
use Rattle.abnf_token.specs.declared.mark.TokenMark.{TokenMark}
use Rattle.abnf_token.specs.Marks.{AreMarks}
use Rattle.abnf_token.specs.Classes.{Text}
use Rattle.abnf_syntax.specs.Blocks.{line_texts, begins_at, NoneBegins, IsBlock, IsSeam, AreBlocks, AreBlocksUpTo, IsNextBlock}
use Rattle.abnf_syntax.specs.Bounds.{bounds}
use Rattle.abnf_syntax.specs.declared.block.Block.{Block}

pub count_lines : (text : List ℕ) → length (line_texts text) ≡ line_ends text + 1
count_lines text = length-map (lines text) encode_utf8_all ∙ length_lines text

none_map : (ls : List (List ℕ)) (at : ℕ) → None ≡ option_map encode_utf8_all (slice_get ls at) → slice_index_or (map encode_utf8_all ls) at [] ≡ []
none_map [] at h = refl
none_map (l ∷ ls) zero h = absurd (cc)
none_map (l ∷ ls) (suc at) h = none_map ls at h

pub no_line : (text : List ℕ) (at : ℕ) → None ≡ option_map encode_utf8_all (slice_get (lines text) at) → [] ≡ slice_index_or (line_texts text) at []
no_line text at h = sym (none_map (lines text) at h)

-- the marks of a line that there is, and behind the last line
pub marks_found : (ls : List (List ℕ)) (at : ℕ) (marks : List TokenMark) → AreMarksOf (slice_get ls at) (Some marks) → AreMarks (slice_index_or (map encode_utf8_all ls) at []) marks
marks_found [] at marks h = absurd h
marks_found (l ∷ ls) zero marks h = h
marks_found (l ∷ ls) (suc at) marks h = marks_found ls at marks h

pub no_marks : (ls : List (List ℕ)) (at : ℕ) → AreMarksOf (slice_get ls at) None → AreMarks (slice_index_or (map encode_utf8_all ls) at []) []
no_marks [] at h = λ line. ([], refl, refl)
no_marks (l ∷ ls) zero h = absurd h
no_marks (l ∷ ls) (suc at) h = no_marks ls at h

pub none_at : (ls : List Text) (from : ℕ) → NoneBegins ls from from
none_at ls from at reached before = absurd (omega arith)

pub none_both : (ls : List Text) (from mid to : ℕ) → NoneBegins ls from mid → NoneBegins ls mid to → NoneBegins ls from to
none_both ls from mid to first second at reached before = elim (cases_lt at mid) [ inl less ↦ first at reached less | inr more ↦ second at more before ]

-- The blocks from the next line that begins one are those from here.
pub from_next : (ls : List Text) (from to next : ℕ) → from ≤ next → NoneBegins ls from next → (bs : List (ℕ × ℕ)) → AreBlocksUpTo ls next to bs → AreBlocksUpTo ls from to bs
from_next ls from to next reached none [] are = none_both ls from next to none are
from_next ls from to next reached none (b ∷ bs) are = (omega (arith, reached, are.0), none_both ls from next b.0 none are.1, are.2, are.3, are.4)

-- where the next block begins, or there is a seam behind a line that begins one
next_begins : (ls : List Text) (first from to next : ℕ) → begins_at ls first ≡ true → first < next → IsSeam ls to → IsNextBlock ls from to next → next < length ls
    → begins_at ls next ≡ true
next_begins ls first from to next begins some seam is within =
    elim (cases_lt next to) [
      | inl less ↦ is.begins less
      | inr more ↦
          let same : to ≡ next = omega (arith, more, is.within) in
          subst (λ n. begins_at ls n ≡ true) same (seam.begins first (omega (arith, some, same)) begins (omega (arith, within, same)))
    ]

-- from a line that begins a block up to the next one
pub block_at : (ls : List Text) (first to end : ℕ) → IsSeam ls to → begins_at ls first ≡ true → IsNextBlock ls (first + 1) to end → IsBlock ls first end
block_at ls first to end seam begins next = record {
  some = omega (arith, next.reached);
  within = omega (arith, next.within, seam.within);
  begins = begins;
  rest = λ at reached before. next.none at (omega arith) before;
  ends = next_begins ls first (first + 1) to end begins (omega (arith, next.reached)) seam next;
}

-- a block, and those behind it
pub block_first : (ls : List Text) (first to end : ℕ) → IsSeam ls to → begins_at ls first ≡ true → IsNextBlock ls (first + 1) to end → (bs : List (ℕ × ℕ)) → AreBlocksUpTo ls end to bs →
    AreBlocksUpTo ls first to ((first, end) ∷ bs)
block_first ls first to end seam begins next bs are = (omega arith, none_at ls first, block_at ls first to end seam begins next, next.within, are)

-- The blocks up to the end are all blocks.
pub all_blocks : (ls : List Text) (from : ℕ) (bs : List (ℕ × ℕ)) → AreBlocksUpTo ls from (length ls) bs → AreBlocks ls from bs
all_blocks ls from [] are = are
all_blocks ls from (b ∷ bs) are = (are.0, are.1, are.2, all_blocks ls b.1 bs are.4)

pub text_blocks : (ls texts : List Text) (count : ℕ) → ls ≡ texts → count ≡ length ls → (bs : List (ℕ × ℕ)) → AreBlocksUpTo ls 0 count bs → AreBlocks texts 0 bs
text_blocks ls texts count same all bs are = subst (λ (xs : List Text). AreBlocks xs 0 bs) same (all_blocks ls 0 bs (subst (λ (n : ℕ). AreBlocksUpTo ls 0 n bs) all are))

-- No block goes over the end.
pub end_seam : (ls : List Text) → IsSeam ls (length ls)
end_seam ls = record { within = omega arith; begins = λ before some begins less. absurd (omega (arith, less)) }

-- the blocks where none is found yet
pub none_found : (ls : List Text) (from to first : ℕ) (found : List Block) → found ≡ [] → IsNextBlock ls from to first →
    (bs : List (ℕ × ℕ)) → AreBlocksUpTo ls first to bs → AreBlocksUpTo ls from to (map bounds found ++ bs)
none_found ls from to first found none next bs are =
    subst (λ (x : List Block). AreBlocksUpTo ls from to (map bounds x ++ bs)) (sym none) (from_next ls from to first next.reached next.none bs are)

-- one block more behind those found
pub found_more : (ls : List Text) (from to : ℕ) (found : List Block) (block : Block) (new : List Block) → new ≡ found ++ block ∷ [] → IsSeam ls to → begins_at ls block.first ≡ true →
    IsNextBlock ls (block.first + 1) to block.end → ((bs : List (ℕ × ℕ)) → AreBlocksUpTo ls block.first to bs → AreBlocksUpTo ls from to (map bounds found ++ bs)) →
    (bs : List (ℕ × ℕ)) → AreBlocksUpTo ls block.end to bs → AreBlocksUpTo ls from to (map bounds new ++ bs)
found_more ls from to found block new e seam begins next all bs are =
    subst (AreBlocksUpTo ls from to) (sym (ap (λ xs. map bounds xs ++ bs) e ∙ ap (λ xs. xs ++ bs) (map-append bounds found (block ∷ [])) ∙ append_assoc (map bounds found) (bounds block ∷ []) bs))
    (all (bounds block ∷ bs) (block_first ls block.first to block.end seam begins next bs are))

-- no block is left
pub all_found : (ls : List Text) (from to first : ℕ) (found : List Block) → to ≤ first → ((bs : List (ℕ × ℕ)) → AreBlocksUpTo ls first to bs → AreBlocksUpTo ls from to (map bounds found ++ bs)) →
    AreBlocksUpTo ls from to (map bounds found)
all_found ls from to first found none all = subst (AreBlocksUpTo ls from to) (append-nil (map bounds found)) (all [] (λ at reached before. absurd (omega arith)))

pub All_none : {A : Type 0} (P : A → Type 0) (xs : List A) → xs ≡ [] → All P xs
All_none P [] h k d less = absurd (omega arith)
All_none P (x ∷ xs) h k d less = absurd (cc)

All_one : {A : Type 0} (P : A → Type 0) (x : A) → P x → All P (x ∷ [])
All_one P x p zero d less = p
All_one P x p (suc at) d less = absurd (omega arith)

pub All_snoc : {A : Type 0} (P : A → Type 0) (xs : List A) (x : A) (new : List A) → new ≡ xs ++ x ∷ [] → All P xs → P x → All P new
All_snoc P xs x new e all p = subst (All P) (sym e) (All-append P xs (x ∷ []) all (All_one P x p))
