-- What the digests of blocks say of their heads.
use Rattle.std.proofs.Common.{◌≡◌, Bool, true, false, cond, List, [], ◌∷◌, map, Option, Some, None, option_map, refl, sym, ap, ◌∙◌}
use Rattle.std.specs.Prelude.{if◌then◌else◌, filter, fold}
use Rattle.std.specs.List.{filter_map, cons_option}
use Rattle.std.specs.Option.{option_map_or}
use Rattle.std.specs.Str.{bytes_eq}
use Rattle.abnf_syntax.specs.declared.block.Head.{Head}
use Rattle.abnf_syntax.specs.Heads.{head_of}
use Rattle.abnf_parts.specs.Names.{Name, with_name}
use Rattle.abnf_names.specs.Said.{Block, name_of}
use Rattle.abnf_names.specs.Rules.{defines, adds, counted, head_name, defined}
use Rattle.abnf_digests.specs.Digests.{Digest, head_digest, digest_of, head_name_by, defines_by, adds_by, counted_by, defined_by}

named_by : (o : Option Head) → option_map (λ (p : Name × Bool). p.0) (option_map head_digest o) ≡ option_map name_of o
named_by None = refl
named_by (Some head) = refl

added_by : (o : Option Head) → option_map_or (λ (p : Name × Bool). p.1) (option_map head_digest o) false ≡ option_map_or (λ (head : Head). head.adds) o false
added_by None = refl
added_by (Some head) = refl

called_by : (name : Name) (o : Option Head) → option_map_or (λ (p : Name × Bool). bytes_eq p.0 name) (option_map head_digest o) false ≡ option_map_or (λ head. bytes_eq (name_of head) name) o false
called_by name None = refl
called_by name (Some head) = refl

pub name_is : (block : Block) → head_name_by (digest_of block) ≡ head_name block
name_is block = named_by (head_of block.items)

pub adds_is : (block : Block) → adds_by (digest_of block) ≡ adds block
adds_is block = added_by (head_of block.items)

pub defines_is : (name : Name) (block : Block) → defines_by name (digest_of block) ≡ defines name block
defines_is name block = called_by name (head_of block.items)

heads_are : (blocks : List Block) → filter_map head_name_by (map digest_of blocks) ≡ filter_map head_name blocks
heads_are [] = refl
heads_are (block ∷ blocks) = (λ i. cons_option (name_is block i) (heads_are blocks i))

pub defined_is : (blocks : List Block) → defined_by (map digest_of blocks) ≡ defined blocks
defined_is blocks = ap (fold with_name []) (heads_are blocks)

-- ---- lists of blocks

kept_if : (b : Bool) (block : Block) (blocks : List Block) → map digest_of (cond b (block ∷ blocks) blocks) ≡ cond b (digest_of block ∷ map digest_of blocks) (map digest_of blocks)
kept_if true block blocks = refl
kept_if false block blocks = refl

pub filter_is : (test : Digest → Bool) (of_block : Block → Bool) → ((block : Block) → test (digest_of block) ≡ of_block block) → (blocks : List Block) →
    filter test (map digest_of blocks) ≡ map digest_of (filter of_block blocks)
filter_is test of_block same [] = refl
filter_is test of_block same (block ∷ blocks) =
    (λ i. cond (same block i) (digest_of block ∷ filter_is test of_block same blocks i) (filter_is test of_block same blocks i))
    ∙ sym (kept_if (of_block block) block (filter of_block blocks))

either : (b : Bool) (xs ys : List Block) → map digest_of (if b then xs else ys) ≡ (if b then map digest_of xs else map digest_of ys)
either true xs ys = refl
either false xs ys = refl

pub counted_is : (blocks : List Block) → counted_by (map digest_of blocks) ≡ map digest_of (counted blocks)
counted_is [] = refl
counted_is (block ∷ blocks) =
    (λ i. digest_of block ∷ (if adds_is block i then counted_is blocks i else filter_is adds_by adds adds_is blocks i))
    ∙ ap (λ l. digest_of block ∷ l) (sym (either (adds block) (counted blocks) (filter adds blocks)))
