-- The pass over a text's blocks finds what is found block after block.
use Rattle.std.proofs.Common.{◌≡◌, ◌∙◌, Bool, true, false, List, [], ◌∷◌, ◌++◌, map, refl, sym, ap, append-nil}
use Rattle.std.specs.Prelude.{not, Option, Some, None, option_map, filter, filter_map, fold, if◌then◌else◌}
use Rattle.std.specs.Option.{option_map_or}
use Rattle.std.proofs.lemmas.List.Elements.{filter-append, filter_map-append}
use Rattle.std.proofs.lemmas.List.Sums.{fold-append}
use Rattle.abnf_syntax.specs.declared.block.Head.{Head}
use Rattle.abnf_syntax.specs.Heads.{head_of}
use Rattle.abnf_parts.specs.Names.{Name, with_name}
use Rattle.abnf_names.specs.Said.{Block, name_of}
use Rattle.abnf_names.specs.Excerpts.{excerpt_of}
use Rattle.abnf_names.specs.Rules.{adds, defined, head_name}
use Rattle.abnf_lint.specs.own.Findings.{based, block_findings, findings_after}
use Rattle.abnf_lint.specs.own.Passes.{with_head, with_base, findings_behind}

names_more : (blocks : List Block) (b : Block) (o : Option Name) → head_name b ≡ o → filter_map head_name (blocks ++ b ∷ []) ≡ filter_map head_name blocks ++ filter_map (λ n. n) (o ∷ [])
names_more blocks b None e = filter_map-append head_name blocks (b ∷ []) ∙ ap (λ o. filter_map head_name blocks ++ filter_map (λ n. n) (o ∷ [])) e
names_more blocks b (Some n) e = filter_map-append head_name blocks (b ∷ []) ∙ ap (λ o. filter_map head_name blocks ++ filter_map (λ n. n) (o ∷ [])) e

defined_more : (blocks : List Block) (b : Block) (n : Name) → head_name b ≡ Some n → defined (blocks ++ b ∷ []) ≡ with_name (defined blocks) n
defined_more blocks b n e = ap (fold with_name []) (names_more blocks b (Some n) e) ∙ fold-append with_name [] (filter_map head_name blocks) (n ∷ [])

defined_same : (blocks : List Block) (b : Block) → head_name b ≡ None → defined (blocks ++ b ∷ []) ≡ defined blocks
defined_same blocks b e = ap (fold with_name []) (names_more blocks b None e ∙ append-nil (filter_map head_name blocks))

head_more : (bs : List Block) (b : Block) (h : Option Head) → head_of b.items ≡ h → defined (bs ++ b ∷ []) ≡ option_map_or (λ head. with_name (defined bs) (name_of head)) h (defined bs)
head_more bs b None e = defined_same bs b (ap (option_map name_of) e)
head_more bs b (Some h) e = defined_more bs b (name_of h) (ap (option_map name_of) e)

heads_more : (bs : List Block) (b : Block) → defined (bs ++ b ∷ []) ≡ with_head (defined bs) (excerpt_of b)
heads_more bs b = head_more bs b (head_of b.items) refl

-- the blocks that don't add
abbrev bases : List Block → List Block
bases blocks = filter (λ block. not (adds block)) blocks

abbrev adding : Option Head → Bool
adding h = option_map_or (λ head. head.adds) h false

abbrev kept : Bool → Block → List Block
kept b block = if not b then block ∷ [] else []

based_split : (bs : List Block) (b : Block) (h : Option Head) → head_of b.items ≡ h → based (bs ++ b ∷ []) ≡ defined (bases bs ++ kept (adding h) b)
based_split bs b h e = ap defined (filter-append (λ block. not (adds block)) bs (b ∷ []) ∙ ap (λ o. bases bs ++ kept (adding o) b) e)

if_adds : (bs : List Block) (b : Block) (h : Head) → head_of b.items ≡ Some h → (a : Bool) → defined (bases bs ++ kept a b) ≡ (if a then based bs else with_name (based bs) (name_of h))
if_adds bs b h e true = ap defined (append-nil (bases bs))
if_adds bs b h e false = defined_more (bases bs) b (name_of h) (ap (option_map name_of) e)

base_more : (bs : List Block) (b : Block) (h : Option Head) → head_of b.items ≡ h → based (bs ++ b ∷ []) ≡ option_map_or (λ head. if head.adds then based bs else with_name (based bs) (name_of head)) h (based bs)
base_more bs b None e = based_split bs b None e ∙ defined_same (bases bs) b (ap (option_map name_of) e)
base_more bs b (Some h) e = based_split bs b (Some h) e ∙ if_adds bs b h e h.adds

pub bases_more : (bs : List Block) (b : Block) → based (bs ++ b ∷ []) ≡ with_base (based bs) (excerpt_of b)
bases_more bs b = base_more bs b (head_of b.items) refl

pub behind_after : (marks : List Bool) (names : List Name) (before blocks : List Block) → findings_behind marks names (defined before) (based before) (map excerpt_of blocks) ≡ findings_after marks names before blocks
behind_after marks names before [] = refl
behind_after marks names before (b ∷ bs) =
    ap (λ fs. block_findings marks names (defined before) (based before) (excerpt_of b) ++ fs)
    (ap (λ ns. findings_behind marks names ns (with_base (based before) (excerpt_of b)) (map excerpt_of bs)) (sym (heads_more before b))
    ∙ (ap (λ ns. findings_behind marks names (defined (before ++ b ∷ [])) ns (map excerpt_of bs)) (sym (bases_more before b))
    ∙ behind_after marks names (before ++ b ∷ []) bs))
