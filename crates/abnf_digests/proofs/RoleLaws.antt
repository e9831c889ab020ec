-- Digests tell the roles of heads, so texts with the same digests find alike.
use Rattle.std.proofs.Common.{◌≡◌, ◌↔◌, not, List, [], ◌∷◌, ◌++◌, map, Option, Some, None, option_map, refl, sym, ap, subst, ◌∙◌}
use Rattle.std.specs.Prelude.{filter}
use Rattle.std.proofs.lemmas.List.{map-append}
use Rattle.abnf_syntax.specs.declared.block.Head.{Head}
use Rattle.abnf_syntax.specs.Heads.{head_of}
use Rattle.abnf_names.specs.Said.{Block, name_of}
use Rattle.abnf_names.specs.Rules.{adds}
use Rattle.abnf_lint.specs.Unproductive.{IsUnproductive}
use Rattle.abnf_digests.specs.Digests.{Digest, head_digest, digest_of, adds_by, defined_by, names_by, rules_by}
use Rattle.abnf_digests.specs.Roles.{names_with_base, role, role_of, roles_after, based_by, role_by, roles_by, FindAlike}
use Rattle.abnf_digests.proofs.Heads.{adds_is, defined_is, filter_is}
use Rattle.abnf_digests.proofs.Names.{names_are}
use Rattle.abnf_digests.proofs.Rules.{unproductive_alike}

based_is : (blocks : List Block) → based_by (map digest_of blocks) ≡ names_with_base blocks
based_is blocks =
    ap defined_by (filter_is (λ digest. not (adds_by digest)) (λ block. not (adds block)) (λ block. ap not (adds_is block)) blocks)
    ∙ defined_is (filter (λ block. not (adds block)) blocks)

role_is : (before : List Block) (o : Option Head) → option_map (role_of before) o ≡ option_map (role_by (map digest_of before)) (option_map head_digest o)
role_is before None = refl
role_is before (Some head) = (λ i. Some (role (sym (defined_is before) i) (sym (based_is before) i) (name_of head) head.adds))

roles_are : (before blocks : List Block) → roles_after before blocks ≡ roles_by (map digest_of before) (map digest_of blocks)
roles_are before [] = refl
roles_are before (block ∷ blocks) =
    (λ i. role_is before (head_of block.items) i ∷ roles_are (before ++ block ∷ []) blocks i)
    ∙ ap (λ l. option_map (role_by (map digest_of before)) (digest_of block).head ∷ roles_by l (map digest_of blocks)) (map-append digest_of before (block ∷ []))

pub all_roles : (blocks : List Block) → roles_after [] blocks ≡ roles_by [] (map digest_of blocks)
all_roles blocks = roles_are [] blocks

both_ways : {A B C D : Type 0} → A ↔ B → D ↔ C → (B → C) → (C → B) → A ↔ D
both_ways p q f g = (λ a. q.1 (f (p.0 a)), λ d. p.1 (g (q.0 d)))

pub find_alike : (blocks others : List Block) → map digest_of blocks ≡ map digest_of others → FindAlike blocks others
find_alike blocks others e = record {
  names = names_are blocks ∙ (ap names_by e ∙ sym (names_are others));
  unproductive = λ r.
      both_ways (unproductive_alike blocks r) (unproductive_alike others r)
      (subst (λ (digests : List Digest). IsUnproductive (rules_by digests) r) e)
      (subst (λ (digests : List Digest). IsUnproductive (rules_by digests) r) (sym e));
  roles = all_roles blocks ∙ (ap (λ (digests : List Digest). roles_by [] digests) e ∙ sym (all_roles others));
}
