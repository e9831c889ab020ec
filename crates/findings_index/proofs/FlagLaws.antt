-- Marks of the names that blocks define, and flags of blocks, by digests as they are kept.
use Rattle.std.proofs.Common.{◌≡◌, ◌∙◌, ℕ, zero, suc, ◌+◌, ◌<◌, ◌≤◌, Bool, true, false, ◌||◌, Option, Some, None, List, [], ◌∷◌, ◌++◌, length, take, drop}
use Rattle.std.proofs.Common.{refl, sym, ap, subst, arith, append-nil}
use Rattle.std.specs.Prelude.{not, ◌&&◌, slice_get, slice_index_or, replicate}
use Rattle.std.specs.List.{list_any}
use Rattle.std.specs.Option.{option_map_or}
use Rattle.std.specs.Str.{bytes_eq}
use Rattle.std.proofs.lemmas.List.{at_drop_all, take_all, take_more, length-replicate, get_or-replicate}
use Rattle.std.proofs.lemmas.List.Folds.{list_any-append}
use Rattle.std.proofs.lemmas.Option.{slice_get_within}
use Rattle.abnf_parts.specs.Names.{Name, rule_number}
use Rattle.abnf_parts.specs.Core.{is_core_name}
use Rattle.abnf_parts.proofs.NameLaws.{same_is}
use Rattle.abnf_lint.specs.Marks.{mark_at}
use Rattle.abnf_digests.specs.Digests.{Digest, defines_by}
use Rattle.abnf_digests.specs.Roles.{role_by}
use Rattle.findings_index.specs.declared.digest.HeadNumber.{HeadNumber}
use Rattle.findings_index.specs.declared.digest.BlockDigest.{BlockDigest}
use Rattle.findings_index.specs.declared.found_in.BlockTold.{BlockTold}
use Rattle.findings_index.specs.declared.heads.HeadRole.{HeadRole}
use Rattle.findings_index.specs.declared.word.Word.{Word}
use Rattle.findings_index.specs.ByTable.{AreDefinedMarks, AreFlagged, flagged_role, name_mark}
use Rattle.findings_index.specs.own.Flags.{is_idle, flag, flags}
use Rattle.findings_index.specs.own.HeadRoles.{AreRoles, kept_role, seen_with}
use Rattle.findings_index.specs.Stored.{StandsFor, IsStored, AreStored}
use Rattle.findings_index.specs.own.Ways.{AreHeadMarks, held_at, heads_number}
use Rattle.findings_index.proofs.Counting.{any_defined}
use Rattle.findings_index.proofs.HeadMarks.{seen_step, seen_each, written}
use Rattle.findings_index.proofs.Kept.{head_kept, heads_same, stands_at, zip_back, zip_long}

-- ---- marks of the names that blocks define

-- after so many blocks, with this count of names
pub record AreSeenUpTo (count : ℕ) (blocks : List BlockDigest) (passed : ℕ) (marks : List Bool) : Type 0 where
  pub one_each : length marks ≡ count
  pub each : (n : ℕ) → n < count → mark_at marks n ≡ list_any (heads_number n) (take passed blocks)

pub none_seen : (count : ℕ) (blocks : List BlockDigest) (marks : List Bool) → marks ≡ replicate count false → AreSeenUpTo count blocks 0 marks
none_seen count blocks marks e = subst (AreSeenUpTo count blocks 0) (sym e) record {
  one_each = length-replicate count false;
  each = λ n within. get_or-replicate count n false false within;
}

pub one_seen_more : (count : ℕ) (blocks : List BlockDigest) (passed : ℕ) (marks : List Bool) → AreSeenUpTo count blocks passed marks → (d : BlockDigest) → passed < length blocks
    → (on : List Bool) → on ≡ seen_with (slice_index_or blocks passed d).head marks → (long : ℕ) → long ≡ length marks
    → AreSeenUpTo count blocks (passed + 1) (take long (on ++ drop (length on) marks))
one_seen_more count blocks passed marks upto d less on e long f =
    let block = slice_index_or blocks passed d in
    let is : take long (on ++ drop (length on) marks) ≡ seen_with block.head marks = written long marks on f (ap length e ∙ seen_each block.head marks) ∙ e in
    subst (AreSeenUpTo count blocks (passed + 1)) (sym is) record {
      one_each = seen_each block.head marks ∙ upto.one_each;
      each = λ n within.
          let more : list_any (heads_number n) (take (passed + 1) blocks) ≡ (list_any (heads_number n) (take passed blocks) || (heads_number n block || false)) =
          ap (list_any (heads_number n)) (take_more blocks passed d less) ∙ list_any-append (heads_number n) (take passed blocks) (block ∷ []) in
          seen_step block.head marks n (omega (arith, within, upto.one_each)) ∙ (ap (λ b. b || (heads_number n block || false)) (upto.each n within) ∙ sym more);
    }

pub heads_are : (table : List Name) (blocks : List BlockDigest) (passed : ℕ) (marks : List Bool) → AreSeenUpTo (length table) blocks passed marks → length blocks ≤ passed
    → AreHeadMarks table blocks marks
heads_are table blocks passed marks upto all = record {
  one_each = upto.one_each;
  each = λ n within. upto.each n within ∙ ap (list_any (heads_number n)) (take_all passed blocks all);
}

module _ (table : List Name) (words : List Word) (name : Name) where
  -- a name that isn't in the table is the name of no head
  no_head : (none : rule_number table name ≡ None) (kept : Option HeadNumber) (head : Option (Name × Bool)) → StandsFor table kept head
      → option_map_or (λ (h : Name × Bool). bytes_eq h.0 name) head false ≡ false
  no_head none None None s = refl
  no_head none None (Some head) s = absurd s
  no_head none (Some number) None s = absurd s
  no_head none (Some number) (Some head) s = by (bytes_eq head.0 name) refl
    where
      by : (b : Bool) → bytes_eq head.0 name ≡ b → b ≡ false
      by false e = refl
      by true e = let g : Some number.name ≡ None = sym s.0 ∙ (ap (rule_number table) (same_is head.0 name e) ∙ none) in absurd (cc (g))

  none_defines : (none : rule_number table name ≡ None) (blocks : List BlockDigest) (digests : List Digest) → AreStored table words blocks digests
      → list_any (defines_by name) digests ≡ false
  none_defines none [] [] stored = refl
  none_defines none [] (d ∷ digests) stored = absurd stored
  none_defines none (b ∷ blocks) [] stored = absurd stored
  none_defines none (b ∷ blocks) (d ∷ digests) stored = (λ i. no_head none b.head d.head stored.0.head i || none_defines none blocks digests stored.1 i)

  module _ (blocks : List BlockDigest) (passed : ℕ) (marks : List Bool) (upto : AreSeenUpTo (length table) blocks passed marks) (all : length blocks ≤ passed)
      (digests : List Digest) (stored : AreStored table words blocks digests) where
    mark_is : (o : Option ℕ) → rule_number table name ≡ o → option_map_or (mark_at marks) o false ≡ list_any (defines_by name) digests
    mark_is None e = sym (none_defines e blocks digests stored)
    mark_is (Some n) e =
        upto.each n (slice_get_within table n name (stands_at table name n e))
        ∙ (heads_same table name n e words blocks digests stored passed
        ∙ ap (list_any (defines_by name)) (take_all passed digests (omega (arith, all, zip_long (IsStored table words) blocks digests stored))))

pub defined_are : (table : List Name) (words : List Word) (blocks : List BlockDigest) (passed : ℕ) (marks : List Bool) → AreSeenUpTo (length table) blocks passed marks
    → length blocks ≤ passed → (digests : List Digest) → AreStored table words blocks digests → AreDefinedMarks digests table marks
defined_are table words blocks passed marks upto all digests stored name =
    mark_is table words name blocks passed marks upto all digests stored (rule_number table name) refl ∙ sym (any_defined name digests)

-- ---- flags of blocks

none_left : (held led : List Bool) (blocks : List BlockDigest) (roles : List HeadRole) → length roles ≡ 0 → flags held led blocks roles ≡ []
none_left held led [] roles e = refl
none_left held led (block ∷ blocks) [] e = refl
none_left held led (block ∷ blocks) (role ∷ roles) e = absurd (omega (arith, e))

flags_get : (held led : List Bool) (blocks : List BlockDigest) (roles : List HeadRole) (k : ℕ) (block : BlockDigest) (role : HeadRole) → slice_get blocks k ≡ Some block
    → slice_get roles k ≡ Some role → slice_get (flags held led blocks roles) k ≡ Some (flag held led block.head role)
flags_get held led [] roles k block role e f = absurd (cc (e))
flags_get held led (b ∷ blocks) [] k block role e f = absurd (cc (f))
flags_get held led (b ∷ blocks) (r ∷ roles) zero block role e f =
    let one : b ≡ block = cc (e) in
    let other : r ≡ role = cc (f) in
    λ i. Some (flag held led (one i).head (other i))
flags_get held led (b ∷ blocks) (r ∷ roles) (suc k) block role e f = flags_get held led blocks roles k block role e f

flags_long : (held led : List Bool) (blocks : List BlockDigest) (roles : List HeadRole) → length roles ≡ length blocks → length (flags held led blocks roles) ≡ length blocks
flags_long held led [] roles e = refl
flags_long held led (b ∷ blocks) [] e = absurd (omega (arith, e))
flags_long held led (b ∷ blocks) (r ∷ roles) e = ap suc (flags_long held led blocks roles (omega (arith, e)))

roles_long : (table : List Name) (words : List Word) (blocks : List BlockDigest) (digests : List Digest) (roles : List HeadRole) → AreStored table words blocks digests
    → AreRoles digests roles → length roles ≡ length blocks
roles_long table words blocks digests roles stored are = are.one_each ∙ sym (zip_long (IsStored table words) blocks digests stored)

idle_at : (table : List Name) (held led : List Bool) (kept : Option HeadNumber) (number : HeadNumber) (name : Name) → kept ≡ Some number → rule_number table name ≡ Some number.name
    → is_idle held led kept ≡ (not (held_at table held name) && not (name_mark table led name))
idle_at table held led kept number name e f =
    ap (is_idle held led) e
    ∙ (λ i. not (option_map_or (mark_at held) (sym f i) (is_core_name name)) && not (option_map_or (mark_at led) (sym f i) false))

flagged : (table : List Name) (words : List Word) (blocks : List BlockDigest) (digests : List Digest) (roles : List HeadRole) (held led : List Bool)
    → AreStored table words blocks digests → AreRoles digests roles → AreFlagged digests (held_at table held) (name_mark table led) (flags held led blocks roles)
flagged table words blocks digests roles held led stored are = record {
  one_each = flags_long held led blocks roles (roles_long table words blocks digests roles stored are) ∙ zip_long (IsStored table words) blocks digests stored;
  each = λ k digest told at there.
      let b = zip_back (IsStored table words) blocks digests k digest stored at in
      let is : (head : Name × Bool) → digest.head ≡ Some head → told ≡ flag held led b.0.head (kept_role (role_by (take k digests) head)) =
      λ head e.
      let g : Some told ≡ Some (flag held led b.0.head (kept_role (role_by (take k digests) head))) =
      sym there ∙ flags_get held led blocks roles k b.0 (kept_role (role_by (take k digests) head)) b.1 (are.each k digest head at e) in
      cc (g) in
      record {
        role = λ head e. ap flagged_role (is head e);
        idle = λ head e first.
            let h = head_kept table b.0.head digest.head head b.2.head e in
            ap (λ (t : BlockTold). t.is_idle) (is head e) ∙ idle_at table held led b.0.head h.0 head.0 h.1 h.2;
      };
}

-- where nothing is left to flag, all is flagged
all_flagged : (table : List Name) (words : List Word) (blocks left : List BlockDigest) (roles rest : List HeadRole) (held led : List Bool) (told : List BlockTold)
    → flags held led blocks roles ≡ told ++ flags held led left rest → flags held led left rest ≡ [] → (digests : List Digest) → AreStored table words blocks digests
    → AreRoles digests roles → AreFlagged digests (held_at table held) (name_mark table led) told
all_flagged table words blocks left roles rest held led told is none digests stored are =
    subst (AreFlagged digests (held_at table held) (name_mark table led)) (is ∙ (ap (λ ts. told ++ ts) none ∙ append-nil told))
    (flagged table words blocks digests roles held led stored are)

pub past_roles : (blocks : List BlockDigest) (n : ℕ) (roles rest : List HeadRole) (held led : List Bool) (told : List BlockTold)
    → flags held led blocks roles ≡ told ++ flags held led (drop n blocks) rest → length rest ≡ 0 → (table : List Name) (words : List Word) (digests : List Digest)
    → AreStored table words blocks digests → AreRoles digests roles → AreFlagged digests (held_at table held) (name_mark table led) told
past_roles blocks n roles rest held led told is none table words =
    all_flagged table words blocks (drop n blocks) roles rest held led told is (none_left held led (drop n blocks) rest none)

pub past_blocks : (blocks : List BlockDigest) (n : ℕ) (roles rest : List HeadRole) (held led : List Bool) (told : List BlockTold)
    → flags held led blocks roles ≡ told ++ flags held led (drop n blocks) rest → length blocks ≤ n → (table : List Name) (words : List Word) (digests : List Digest)
    → AreStored table words blocks digests → AreRoles digests roles → AreFlagged digests (held_at table held) (name_mark table led) told
past_blocks blocks n roles rest held led told is past table words =
    all_flagged table words blocks (drop n blocks) roles rest held led told is (at_drop_all (λ bs. flags held led bs rest) blocks n past)
