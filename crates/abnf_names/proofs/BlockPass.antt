-- The blocks of a text that were read so far, each with its fault.
use Rattle.std.proofs.Common.{◌≡◌, ◌<◌, ℕ, List, [], ◌∷◌, ◌++◌, map, length, sym, ap, subst, ◌∙◌, append-nil, append_assoc}
use Rattle.std.specs.Prelude.{All}
use Rattle.std.proofs.lemmas.List.{map-append}
use Rattle.std.proofs.lemmas.List.Elements.{All-head, All-tail}
use Rattle.abnf_token.specs.Classes.{Text}
use Rattle.abnf_syntax.specs.declared.block.Block.{Block}
use Rattle.abnf_syntax.specs.Blocks.{line_texts, AreBlocks}
use Rattle.abnf_syntax.specs.Items.{AreItems}
use Rattle.abnf_syntax.specs.Bounds.{bounds}
use Rattle.abnf_names.specs.declared.section.Section.{Section}
use Rattle.abnf_names.specs.Said.{IsWithin, AreWithin}
use Rattle.abnf_names.specs.Said as said
use Rattle.abnf_names.specs.Excerpts.{excerpt, excerpt_of}
use Rattle.abnf_names.specs.Sections.{AreSections}
use Rattle.abnf_names.specs.Shown.{HasFault}
use Rattle.abnf_names.proofs.SectionPass.{found_again}

pub record IsPassed (text : List ℕ) (done rest : List Block) (sections : List Section) : Type 0 where
  pub all : AreBlocks (line_texts text) 0 (map bounds (done ++ rest))
  pub items : All (λ b. AreItems (line_texts text) b.first b.end b.items) rest
  pub some : All (λ b. 0 < length b.items) rest
  pub blocks : List said.Block
  pub within : AreWithin (line_texts text) (map bounds done) blocks
  pub excerpts : map excerpt sections ≡ map excerpt_of blocks

within_more : (ls : List Text) (bs : List (ℕ × ℕ)) (xs : List said.Block) (b : ℕ × ℕ) (x : said.Block) → AreWithin ls bs xs → IsWithin ls b x → AreWithin ls (bs ++ b ∷ []) (xs ++ x ∷ [])
within_more ls [] [] b x h is = (is, tt)
within_more ls [] (y ∷ xs) b x h is = absurd h
within_more ls (a ∷ bs) [] b x h is = absurd h
within_more ls (a ∷ bs) (y ∷ xs) b x h is = (h.0, within_more ls bs xs b x h.1 is)

pub passed_all : (text : List ℕ) (done rest : List Block) (sections now : List Section) → IsPassed text done rest sections → rest ≡ [] → now ≡ sections → AreSections text now
passed_all text done rest sections now h none same = record {
  blocks = h.blocks;
  of_text = record {
    bounds = map bounds done;
    all = subst (λ bs. AreBlocks (line_texts text) 0 (map bounds bs)) (ap (λ left. done ++ left) none ∙ append-nil done) h.all;
    each = h.within;
  };
  excerpts = ap (map excerpt) same ∙ h.excerpts;
}

pub passed_more : (text : List ℕ) (done : List Block) (b : Block) (rest : List Block) (sections now : List Section) (section : Section) →
    IsPassed text done (b ∷ rest) sections → section.block ≡ b → now ≡ sections ++ section ∷ [] → IsPassed text (done ++ b ∷ []) rest now
passed_more text done b rest sections now section h is e =
    let shows : HasFault b.items section.fault =
    found_again b.items section.fault (All-head (λ x. 0 < length x.items) b rest h.some) (subst (λ (x : Block). ∥ HasFault x.items section.fault ∥₁) is section.says) in
    let block : said.Block = record { items = b.items; said = shows.said } in
    record {
      all = subst (λ bs. AreBlocks (line_texts text) 0 (map bounds bs)) (sym (append_assoc done (b ∷ []) rest)) h.all;
      items = All-tail (λ x. AreItems (line_texts text) x.first x.end x.items) b rest h.items;
      some = All-tail (λ x. 0 < length x.items) b rest h.some;
      blocks = h.blocks ++ block ∷ [];
      within =
          subst (λ bs. AreWithin (line_texts text) bs (h.blocks ++ block ∷ [])) (sym (map-append bounds done (b ∷ [])))
          (within_more (line_texts text) (map bounds done) h.blocks (bounds b) block h.within
          (record { items = All-head (λ x. AreItems (line_texts text) x.first x.end x.items) b rest h.items; says = shows.says }));
      excerpts =
          ap (map excerpt) e
          ∙ (map-append excerpt sections (section ∷ [])
          ∙ (ap (λ front. front ++ excerpt section ∷ []) h.excerpts
          ∙ ((λ i. map excerpt_of h.blocks ++ (record { items = (is i).items; fault = shows.shown i }) ∷ [])
          ∙ sym (map-append excerpt_of h.blocks (block ∷ [])))));
    }
