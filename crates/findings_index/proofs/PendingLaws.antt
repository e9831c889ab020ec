-- Blocks that mark their names one after the other.
use Rattle.std.proofs.Common.{◌≡◌, ℕ, zero, suc, ◌+◌, ◌<◌, Bool, true, false, List, ◌∷◌, [], length, Option, Some, None, sym, ap, subst, ◌∙◌, arith}
use Rattle.std.specs.Prelude.{ltb, IfSome, IfNone, slice_get, slice_index_or, slice_set}
use Rattle.std.proofs.lemmas.Bool.{ltb-true}
use Rattle.std.proofs.lemmas.Option.{slice_get-get_or}
use Rattle.abnf_parts.specs.Names.{Name}
use Rattle.abnf_lint.specs.Marks.{mark_at}
use Rattle.findings_index.specs.declared.digest.HeadNumber.{HeadNumber}
use Rattle.findings_index.specs.declared.digest.BlockDigest.{BlockDigest}
use Rattle.findings_index.specs.declared.heads.HeadRole.{HeadRole}
use Rattle.findings_index.specs.declared.sweep.Way.{Way}
use Rattle.findings_index.specs.declared.word.Word.{Word}
use Rattle.findings_index.specs.own.Pending.{IsMarkedAt, MarksNext}
use Rattle.findings_index.specs.own.Ways.{AreSoundByWayFor, IsMarkedSo, count_unmarked}
use Rattle.findings_index.proofs.Sweeping.{sound_more}

-- ---- one more mark

pub one_less : (marks : List Bool) (n : ℕ) → n < length marks → mark_at marks n ≡ false → count_unmarked (slice_set marks n true) + 1 ≡ count_unmarked marks
one_less [] n l e = absurd (omega (arith, l))
one_less (true ∷ marks) zero l e = absurd (cc (e))
one_less (false ∷ marks) zero l e = omega arith
one_less (true ∷ marks) (suc n) l e = one_less marks n (omega (arith, l)) e
one_less (false ∷ marks) (suc n) l e = omega (arith, one_less marks n (omega (arith, l)) e)

module _ (way : Way) (words : List Word) where
  pub marked_less : (marks after : List Bool) (block : BlockDigest) (role : HeadRole) → IsMarkedSo way words marks block role after → count_unmarked after < count_unmarked marks
  marked_less marks after block role so = omega (arith, ap count_unmarked so.marked, one_less marks so.head.name so.within so.fresh)

module _ (way : Way) (words : List Word) (blocks : List BlockDigest) (roles : List HeadRole) where
  pub next_less : (marks after : List Bool) (name : ℕ) → MarksNext way words blocks roles marks name after → count_unmarked after < count_unmarked marks
  next_less marks after name next = marked_less way words marks after next.marked.block next.marked.role next.marked.marked

  pub next_sound : (table : List Name) (marks after : List Bool) (name : ℕ) → MarksNext way words blocks roles marks name after
      → AreSoundByWayFor way table words blocks roles marks → AreSoundByWayFor way table words blocks roles after
  next_sound table marks after name next sound =
      let x = next.marked in
      sound_more way table words blocks roles marks sound next.place x.block x.role x.at_block x.at_role after x.marked

  pub next_found : (marks before after : List Bool) (place name : ℕ) → before ≡ marks → IsMarkedAt way words blocks roles before place name after
      → MarksNext way words blocks roles marks name after
  next_found marks before after place name same x = record {
    place = place;
    marked = subst (λ (m : List Bool). IsMarkedAt way words blocks roles m place name after) same x;
  }

  pub marked_here : (marks after : List Bool) (place : ℕ) (block : BlockDigest) (role : HeadRole) (head : HeadNumber) → slice_get blocks place ≡ Some block
      → slice_get roles place ≡ Some role → block.head ≡ Some head → IsMarkedSo way words marks block role after → IsMarkedAt way words blocks roles marks place head.name after
  marked_here marks after place block role head at at_role is so = record {
    block = block;
    role = role;
    at_block = at;
    at_role = at_role;
    marked = so;
    named = (let f : Some so.head ≡ Some head = sym so.is ∙ is in let g : so.head ≡ head = cc (f) in ap (λ (h : HeadNumber). h.name) g);
  }

pub some_of : {V : Type 0} (P : V → Type 0) (o : Option V) (v : V) → o ≡ Some v → IfSome o P → P v
some_of P o v is h = subst (λ x. IfSome x P) is h

pub none_of : {V : Type 0} (P : Type 0) (o : Option V) → o ≡ None → IfNone o P → P
none_of P o is h = subst (λ x. IfNone x P) is h

pub read_at : {X : Type 0} (xs : List X) (k : ℕ) (x : X) → true ≡ ltb k (length xs) → x ≡ slice_index_or xs k x → slice_get xs k ≡ Some x
read_at xs k x less e = slice_get-get_or xs k x (ltb-true k (length xs) (sym less)) ∙ ap Some (sym e)
