-- Roles of heads by the marks of names that a pass over the blocks keeps.
use Rattle.std.proofs.Common.{◌≡◌, ⊎_elim, inl, inr, ℕ, zero, suc, ◌+◌, ◌<◌, Bool, true, false, not, ◌&&◌, ◌||◌, List, [], ◌∷◌, ◌++◌, length, take, drop, Option, Some, None, refl, sym, ap, subst, ◌∙◌, arith}
use Rattle.std.specs.Prelude.{nat_eq, slice_get, slice_index_or, slice_set, replicate, if◌then◌else◌}
use Rattle.std.specs.List.{list_any}
use Rattle.std.specs.Option.{option_map_or}
use Rattle.std.proofs.lemmas.Bool.{cases_eq, cases_lt, eq-eqb, ne_eqb}
use Rattle.std.proofs.lemmas.List.{get_or-set_same, get_or-set_other, length-set, take_at, take_more, length-append, get_or-replicate, length-replicate}
use Rattle.std.proofs.lemmas.List.Folds.{list_any-append}
use Rattle.std.proofs.lemmas.Option.{slice_get_within, slice_get-get_or, get_or_from_slice_get}
use Rattle.abnf_parts.specs.Names.{Name}
use Rattle.abnf_lint.specs.Marks.{mark_at}
use Rattle.abnf_digests.specs.Digests.{Digest}
use Rattle.findings_index.specs.declared.digest.HeadNumber.{HeadNumber}
use Rattle.findings_index.specs.declared.digest.BlockDigest.{BlockDigest}
use Rattle.findings_index.specs.declared.heads.HeadRole.{HeadRole}
use Rattle.findings_index.specs.declared.word.Word.{Word}
use Rattle.findings_index.specs.own.HeadRoles.{AreRoles, head_role, role_in, seen_with, based_with}
use Rattle.findings_index.specs.Stored.{IsStored, AreStored}
use Rattle.findings_index.specs.own.Ways.{heads_number}
use Rattle.findings_index.proofs.Counting.{among_defined, among_based}
use Rattle.findings_index.proofs.Elements.{get_front}
use Rattle.findings_index.proofs.Kept.{bases_number, zip_back, zip_long, stands_at, heads_same, bases_same, head_kept}

-- ---- marks of names

pub mark_set : (marks : List Bool) (i n : ℕ) (b : Bool) → n < length marks → mark_at (slice_set marks i b) n ≡ (if nat_eq i n then b else mark_at marks n)
mark_set marks i n b within =
    ⊎_elim
    (λ same. subst (λ k. mark_at (slice_set marks i b) k ≡ b) same (get_or-set_same marks i b false (omega (arith, same)))
    ∙ ap (λ t. if t then b else mark_at marks n) (sym (eq-eqb i n same)))
    (λ other. get_or-set_other marks i n b false (λ e. other (sym e)) ∙ ap (λ t. if t then b else mark_at marks n) (sym (ne_eqb i n other)))
    (cases_eq i n)

or_end : (a : Bool) → a ≡ (a || false)
or_end true = refl
or_end false = refl

or_mark : (a t : Bool) → (if t then true else a) ≡ (a || (t || false))
or_mark true true = refl
or_mark true false = refl
or_mark false true = refl
or_mark false false = refl

or_base : (a t adds : Bool) → (if adds then a else (if t then true else a)) ≡ (a || ((t && not adds) || false))
or_base true true true = refl
or_base true true false = refl
or_base true false true = refl
or_base true false false = refl
or_base false true true = refl
or_base false true false = refl
or_base false false true = refl
or_base false false false = refl

if_mark : (adds : Bool) (xs ys : List Bool) (n : ℕ) → mark_at (if adds then xs else ys) n ≡ (if adds then mark_at xs n else mark_at ys n)
if_mark true xs ys n = refl
if_mark false xs ys n = refl

if_length : (adds : Bool) (xs ys : List Bool) (n : ℕ) → length xs ≡ n → length ys ≡ n → length (if adds then xs else ys) ≡ n
if_length true xs ys n e f = e
if_length false xs ys n e f = f

pub seen_step : (o : Option HeadNumber) (seen : List Bool) (n : ℕ) → n < length seen
    → mark_at (seen_with o seen) n ≡ (mark_at seen n || (option_map_or (λ (h : HeadNumber). nat_eq h.name n) o false || false))
seen_step None seen n within = or_end (mark_at seen n)
seen_step (Some head) seen n within = mark_set seen head.name n true within ∙ or_mark (mark_at seen n) (nat_eq head.name n)

based_step : (o : Option HeadNumber) (based : List Bool) (n : ℕ) → n < length based
    → mark_at (based_with o based) n ≡ (mark_at based n || (option_map_or (λ (h : HeadNumber). nat_eq h.name n && not h.adds) o false || false))
based_step None based n within = or_end (mark_at based n)
based_step (Some head) based n within =
    if_mark head.adds based (slice_set based head.name true) n
    ∙ (ap (λ b. if head.adds then mark_at based n else b) (mark_set based head.name n true within)
    ∙ or_base (mark_at based n) (nat_eq head.name n) head.adds)

pub seen_each : (o : Option HeadNumber) (seen : List Bool) → length (seen_with o seen) ≡ length seen
seen_each None seen = refl
seen_each (Some head) seen = length-set seen head.name true

based_each : (o : Option HeadNumber) (based : List Bool) → length (based_with o based) ≡ length based
based_each None based = refl
based_each (Some head) based = if_length head.adds based (slice_set based head.name true) (length based) refl (length-set based head.name true)

-- ---- the pass

-- after so many blocks, with this count of names
pub record AreRolesUpTo (count : ℕ) (blocks : List BlockDigest) (passed : ℕ) (seen based : List Bool) (roles : List HeadRole) : Type 0 where
  pub one_seen : length seen ≡ count
  pub one_based : length based ≡ count
  pub one_each : length roles ≡ passed
  pub seen_is : (n : ℕ) → n < count → mark_at seen n ≡ list_any (heads_number n) (take passed blocks)
  pub based_is : (n : ℕ) → n < count → mark_at based n ≡ list_any (bases_number n) (take passed blocks)
  pub each : (k : ℕ) (block : BlockDigest) (head : HeadNumber) → k < passed → slice_get blocks k ≡ Some block → block.head ≡ Some head → head.name < count
      → slice_get roles k ≡ Some (head_role head.adds (list_any (heads_number head.name) (take k blocks)) (list_any (bases_number head.name) (take k blocks)))

pub no_roles : (count : ℕ) (blocks : List BlockDigest) → AreRolesUpTo count blocks 0 (replicate count false) (replicate count false) []
no_roles count blocks = record {
  one_seen = length-replicate count false;
  one_based = length-replicate count false;
  one_each = refl;
  seen_is = λ n within. get_or-replicate count n false false within;
  based_is = λ n within. get_or-replicate count n false false within;
  each = λ k block head less. absurd (omega (arith, less));
}

get_last : (roles : List HeadRole) (k : ℕ) (role : HeadRole) → length roles ≡ k → slice_get (roles ++ role ∷ []) k ≡ Some role
get_last [] zero role e = refl
get_last [] (suc k) role e = absurd (omega (arith, e))
get_last (r ∷ roles) zero role e = absurd (omega (arith, e))
get_last (r ∷ roles) (suc k) role e = get_last roles k role (omega (arith, e))

role_of : (o : Option HeadNumber) (seen based : List Bool) (head : HeadNumber) → o ≡ Some head
    → role_in seen based o ≡ head_role head.adds (mark_at seen head.name) (mark_at based head.name)
role_of o seen based head e = ap (role_in seen based) e

module _ (count : ℕ) (blocks : List BlockDigest) (passed : ℕ) (seen based : List Bool) (roles : List HeadRole) (upto : AreRolesUpTo count blocks passed seen based roles)
    (block : BlockDigest) (at : slice_get blocks passed ≡ Some block) where
  further : (test : BlockDigest → Bool) → list_any test (take (passed + 1) blocks) ≡ (list_any test (take passed blocks) || (test block || false))
  further test =
      ap (list_any test) (take_more blocks passed block (slice_get_within blocks passed block at))
      ∙ (list_any-append test (take passed blocks) (slice_index_or blocks passed block ∷ [])
      ∙ ap (λ b. list_any test (take passed blocks) || (test b || false)) (get_or_from_slice_get blocks passed block block at))

  pub one_role_more : AreRolesUpTo count blocks (passed + 1) (seen_with block.head seen) (based_with block.head based) (roles ++ role_in seen based block.head ∷ [])
  one_role_more = record {
    one_seen = seen_each block.head seen ∙ upto.one_seen;
    one_based = based_each block.head based ∙ upto.one_based;
    one_each = length-append roles (role_in seen based block.head ∷ []) ∙ (let e : length roles + 1 ≡ passed + 1 = omega (arith, upto.one_each) in e);
    seen_is = λ n within.
        seen_step block.head seen n (omega (arith, within, upto.one_seen))
        ∙ (ap (λ b. b || (heads_number n block || false)) (upto.seen_is n within) ∙ sym (further (heads_number n)));
    based_is = λ n within.
        based_step block.head based n (omega (arith, within, upto.one_based))
        ∙ (ap (λ b. b || (bases_number n block || false)) (upto.based_is n within) ∙ sym (further (bases_number n)));
    each = λ k b head less there is within.
        ⊎_elim
        (λ same.
        let Here : ℕ → Type 0 = λ j. slice_get blocks j ≡ Some b → slice_get (roles ++ role_in seen based block.head ∷ []) j
        ≡ Some (head_role head.adds (list_any (heads_number head.name) (take j blocks)) (list_any (bases_number head.name) (take j blocks))) in
        subst Here (sym same)
        (λ t.
        let g : Some block ≡ Some b = sym at ∙ t in
        let one : block ≡ b = cc (g) in
        get_last roles passed (role_in seen based block.head) upto.one_each
        ∙ ap Some (role_of block.head seen based head (ap (λ (x : BlockDigest). x.head) one ∙ is)
        ∙ (λ i. head_role head.adds (upto.seen_is head.name within i) (upto.based_is head.name within i))))
        there)
        (λ other.
        get_front roles (role_in seen based block.head ∷ []) k _
        (upto.each k b head (let l : k < passed = omega (arith, less, below k less other) in l) there is within))
        (cases_eq k passed);
  }
    where
      below : (k : ℕ) → k < passed + 1 → (k ≡ passed → ⊥) → k < passed
      below k less other = elim (cases_lt k passed) [ inl l ↦ l | inr m ↦ absurd (other (omega (arith, m, less))) ]

-- a part of a vector that was written
pub written : (count : ℕ) (items new : List Bool) → count ≡ length items → length new ≡ length items → take count (new ++ drop (length new) items) ≡ new
written count items new e f = take_at new (drop (length new) items) count (f ∙ sym e)

pub role_read : (o : Option HeadNumber) (seen seen_here based based_here : List Bool) (role : HeadRole) → role ≡ role_in seen_here based_here o → seen_here ≡ seen → based_here ≡ based
    → role ≡ role_in seen based o
role_read o seen seen_here based based_here role e f g = e ∙ (λ i. role_in (f i) (g i) o)

pub one_more_of : (count : ℕ) (blocks : List BlockDigest) (passed : ℕ) (seen based : List Bool) (roles : List HeadRole) → AreRolesUpTo count blocks passed seen based roles
    → (d : BlockDigest) → passed < length blocks → (seen_on based_on : List Bool) (roles_on : List HeadRole) (role : HeadRole)
    → seen_on ≡ seen_with (slice_index_or blocks passed d).head seen → based_on ≡ based_with (slice_index_or blocks passed d).head based
    → role ≡ role_in seen based (slice_index_or blocks passed d).head → roles_on ≡ roles ++ role ∷ [] → (seen_count based_count : ℕ) → seen_count ≡ length seen → based_count ≡ length based
    → AreRolesUpTo count blocks (passed + 1) (take seen_count (seen_on ++ drop (length seen_on) seen)) (take based_count (based_on ++ drop (length based_on) based)) roles_on
one_more_of count blocks passed seen based roles upto d less seen_on based_on roles_on role e f g h seen_count based_count m n =
    let o = (slice_index_or blocks passed d).head in
    let first : take seen_count (seen_on ++ drop (length seen_on) seen) ≡ seen_with o seen =
    written seen_count seen seen_on m (ap length e ∙ seen_each o seen) ∙ e in
    let second : take based_count (based_on ++ drop (length based_on) based) ≡ based_with o based =
    written based_count based based_on n (ap length f ∙ based_each o based) ∙ f in
    let third : roles_on ≡ roles ++ role_in seen based o ∷ [] = h ∙ ap (λ r. roles ++ r ∷ []) g in
    subst (λ (p : List Bool × List Bool × List HeadRole). AreRolesUpTo count blocks (passed + 1) p.0 p.1 p.2) (λ i. (sym first i, sym second i, sym third i))
    (one_role_more count blocks passed seen based roles upto (slice_index_or blocks passed d) (slice_get-get_or blocks passed d less))

pub no_roles_of : (count : ℕ) (blocks : List BlockDigest) (seen based : List Bool) (roles : List HeadRole) → seen ≡ replicate count false → based ≡ replicate count false
    → roles ≡ [] → AreRolesUpTo count blocks 0 seen based roles
no_roles_of count blocks seen based roles e f g =
    subst (λ (p : List Bool × List Bool × List HeadRole). AreRolesUpTo count blocks 0 p.0 p.1 p.2) (λ i. (sym e i, sym f i, sym g i)) (no_roles count blocks)

-- ---- the roles by digests

pub roles_are : (table : List Name) (words : List Word) (blocks : List BlockDigest) (digests : List Digest) (passed : ℕ) (seen based : List Bool) (roles : List HeadRole)
    → AreRolesUpTo (length table) blocks passed seen based roles → length blocks ≡ passed → AreStored table words blocks digests → AreRoles digests roles
roles_are table words blocks digests passed seen based roles upto all stored = record {
  one_each = upto.one_each ∙ (sym all ∙ zip_long (IsStored table words) blocks digests stored);
  each = λ k digest head at is.
      let b = zip_back (IsStored table words) blocks digests k digest stored at in
      let h = head_kept table b.0.head digest.head head b.2.head is in
      let within : h.0.name < length table = slice_get_within table h.0.name head.0 (stands_at table head.0 h.0.name h.2) in
      upto.each k b.0 h.0 (omega (arith, all, slice_get_within blocks k b.0 b.1)) b.1 h.1 within
      ∙ ap Some (λ i. head_role (h.3 i)
      ((heads_same table head.0 h.0.name h.2 words blocks digests stored k ∙ sym (among_defined head.0 (take k digests))) i)
      ((bases_same table head.0 h.0.name h.2 words blocks digests stored k ∙ sym (among_based head.0 (take k digests))) i));
}
