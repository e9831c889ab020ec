-- Sound marks of names stay sound as blocks mark their names, and are closed where no block marks another.
use Rattle.std.proofs.Common.{◌≡◌, ⊎_elim, inl, ℕ, ◌+◌, ◌<◌, Bool, true, false, not, ◌&&◌, List, length, take, Option, Some, None, refl, sym, ap, subst, ◌∙◌, arith}
use Rattle.std.specs.Prelude.{replicate, slice_get, slice_set, unwrap_or}
use Rattle.std.specs.List.{list_any}
use Rattle.std.specs.Option.{option_map_or}
use Rattle.std.specs.Str.{bytes_eq}
use Rattle.std.proofs.lemmas.Bool.{and_from, and_parts, cases_Bool, cases_eq, false_from_ne_true, not-true}
use Rattle.std.proofs.lemmas.List.{get_or-set_same, get_or-set_other, length-set, take_all, get_or-replicate, length-replicate}
use Rattle.std.proofs.lemmas.Option.{slice_get_within, slice_get-get_or}
use Rattle.abnf_parts.specs.Core.{is_core_name}
use Rattle.abnf_parts.specs.Names.{Name, rule_number}
use Rattle.abnf_parts.specs.Part.{Part}
use Rattle.abnf_parts.proofs.NameLaws.{never, same_is, same_refl}
use Rattle.abnf_lint.specs.Marks.{mark_at}
use Rattle.abnf_digests.specs.Digests.{Digest, defines_by, adds_by, defined_by}
use Rattle.abnf_digests.specs.Roles.{role_by}
use Rattle.findings_index.specs.declared.digest.BlockDigest.{BlockDigest}
use Rattle.findings_index.specs.declared.heads.HeadRole.{HeadRole}
use Rattle.findings_index.specs.declared.sweep.Way.{Way}
use Rattle.findings_index.specs.declared.sweep.Way.TheVariants.{Holding, Leading}
use Rattle.findings_index.specs.declared.word.Word.{Word}
use Rattle.findings_index.specs.ByTable.{name_mark}
use Rattle.findings_index.specs.own.HeadRoles.{AreRoles, kept_role}
use Rattle.findings_index.specs.Holding.{IsAlternative, IsOfCore}
use Rattle.findings_index.specs.Marked.{AreHoldingMarks, AreLeadingMarks}
use Rattle.findings_index.specs.Stored.{IsStored, AreStored}
use Rattle.findings_index.specs.Words.{number_in_table}
use Rattle.findings_index.specs.own.Ways.{AreCoreMarks, AreHoldingMarksFor, AreLeadingMarksFor, AreSwept, AreSoundByWay, AreSoundByWayFor, IsMarkedSo, IsSo, heads_number, held_at, marked_at, says}
use Rattle.findings_index.proofs.Counting.{Counts, any_defined, among_based, counts_there, counts_back, is_base}
use Rattle.findings_index.proofs.Elements.{any_back, any_there}
use Rattle.findings_index.proofs.Kept.{zip_there, zip_back, stands_at, same_number, heads_same, head_kept, head_back}
use Rattle.findings_index.proofs.Marking.{name_holds, name_leads}
use Rattle.findings_index.proofs.WayLaws.{any_same, lead_back, lead_opaque, lead_ref}

-- ---- marks

pub marked_is : (way : Way) (table : List Name) (marks : List Bool) (name : Name) (n : ℕ) → rule_number table name ≡ Some n → marked_at way table marks name ≡ mark_at marks n
marked_is Holding table marks name n e = ap (λ o. option_map_or (mark_at marks) o (is_core_name name)) e
marked_is Leading table marks name n e = ap (λ o. option_map_or (mark_at marks) o false) e

marked_other : (way : Way) (table : List Name) (marks others : List Bool) (name : Name) → rule_number table name ≡ None
    → marked_at way table marks name ≡ marked_at way table others name
marked_other Holding table marks others name e =
    ap (λ o. option_map_or (mark_at marks) o (is_core_name name)) e ∙ sym (ap (λ o. option_map_or (mark_at others) o (is_core_name name)) e)
marked_other Leading table marks others name e = ap (λ o. option_map_or (mark_at marks) o false) e ∙ sym (ap (λ o. option_map_or (mark_at others) o false) e)

-- a name that is in the table, by its number
by_number : (way : Way) (table : List Name) (marks : List Bool) (name : Name) → (number : ℕ) × (rule_number table name ≡ Some number)
    → mark_at marks (number_in_table table name) ≡ marked_at way table marks name
by_number way table marks name is = ap (λ o. mark_at marks (unwrap_or o (length table))) is.1 ∙ sym (marked_is way table marks name is.0 is.1)

-- ---- a reason to mark a name is one

fires : (way : Way) (digests : List Digest) (at : Name → Bool) → ((name : Name) → at name ≡ true → IsSo way digests name) → (name : Name) (part : Part)
    → IsAlternative digests name part → says way at part ≡ true → IsSo way digests name
fires Holding digests at so name part is e = name_holds digests at so name part is e
fires Leading digests at so name part is e =
    ⊎_elim (λ c. (0, (part, is, c))) (λ r. name_leads digests at so name r.0 part r.1 is r.2 r.3) (lead_back at part e)

-- ---- heads

defined_head : (name : Name) (o : Option (Name × Bool)) → option_map_or (λ (head : Name × Bool). bytes_eq head.0 name) o false ≡ true
    → (head : Name × Bool) × (o ≡ Some head) × (head.0 ≡ name)
defined_head name None e = absurd (cc (e))
defined_head name (Some head) e = (head, refl, same_is head.0 name e)

defines_head : (d : Digest) (head : Name × Bool) → d.head ≡ Some head → defines_by head.0 d ≡ true
defines_head d head e = ap (λ (o : Option (Name × Bool)). option_map_or (λ h. bytes_eq h.0 head.0) o false) e ∙ same_refl head.0

adds_head : (d : Digest) (head : Name × Bool) → d.head ≡ Some head → adds_by d ≡ head.1
adds_head d head e = ap (λ (o : Option (Name × Bool)). option_map_or (λ h. h.1) o false) e

-- whether a head is a duplicate
duplicate_is : (digests : List Digest) (k : ℕ) (d : Digest) (head : Name × Bool) → d.head ≡ Some head
    → (role_by (take k digests) head).is_duplicate ≡ (not (adds_by d) && list_any (is_base head.0) (take k digests))
duplicate_is digests k d head e = (λ i. not (sym (adds_head d head e) i) && among_based head.0 (take k digests) i)

same_role : (roles : List HeadRole) (k : ℕ) (role other : HeadRole) → slice_get roles k ≡ Some role → slice_get roles k ≡ Some other → role ≡ other
same_role roles k role other e f = let g : Some role ≡ Some other = sym e ∙ f in cc (g)

module _ (way : Way) (table : List Name) (words : List Word) (blocks : List BlockDigest) (roles : List HeadRole) (marks : List Bool) where
  module _ (digests : List Digest) (stored : AreStored table words blocks digests) (are : AreRoles digests roles) (sound : AreSoundByWay way table digests marks) where
    -- the gists of a digest say the same by the numbers of names
    gists_same : (block : BlockDigest) (d : Digest) → IsStored table words block d
        → list_any (says way (λ name. mark_at marks (number_in_table table name))) d.said ≡ list_any (says way (marked_at way table marks)) d.said
    gists_same block d s =
        any_same (λ name. mark_at marks (number_in_table table name)) (marked_at way table marks) way d.said (λ name c. by_number way table marks name (s.known name c))

    module _ (m : ℕ) (named : Name) (is : rule_number table named ≡ Some m) (so : IsSo way digests named) where
      within : m < length marks
      within = omega (arith, sound.one_each, slice_get_within table m named (stands_at table named m is))

      so_by : (name : Name) (o : Option ℕ) → rule_number table name ≡ o → marked_at way table (slice_set marks m true) name ≡ true → IsSo way digests name
      so_by name None e t = sound.so name (marked_other way table marks (slice_set marks m true) name e ∙ t)
      so_by name (Some n) e t =
          ⊎_elim
          (λ same. subst (IsSo way digests) (same_number table named name n (is ∙ ap Some same) e) so)
          (λ other.
          sound.so name (marked_is way table marks name n e ∙ (sym (get_or-set_other marks m n true false (λ f. other (sym f)))
          ∙ (sym (marked_is way table (slice_set marks m true) name n e) ∙ t))))
          (cases_eq m n)

      first_by : (name : Name) (o : Option ℕ) → rule_number table name ≡ o → marked_at way table marks name ≡ true → marked_at way table (slice_set marks m true) name ≡ true
      first_by name None e t = marked_other way table (slice_set marks m true) marks name e ∙ t
      first_by name (Some n) e t =
          marked_is way table (slice_set marks m true) name n e
          ∙ ⊎_elim
          (λ same. subst (λ j. mark_at (slice_set marks m true) j ≡ true) same (get_or-set_same marks m true false within))
          (λ other. get_or-set_other marks m n true false (λ f. other (sym f)) ∙ (sym (marked_is way table marks name n e) ∙ t))
          (cases_eq m n)

      one_marked : AreSoundByWay way table digests (slice_set marks m true)
      one_marked = record {
        one_each = length-set marks m true ∙ sound.one_each;
        so = λ name t. so_by name (rule_number table name) refl t;
        first = λ name f. first_by name (rule_number table name) refl (sound.first name f);
      }

    module _ (k : ℕ) (block : BlockDigest) (role : HeadRole) (at_block : slice_get blocks k ≡ Some block) (at_role : slice_get roles k ≡ Some role) where
      block_marks : (after : List Bool) → IsMarkedSo way words marks block role after → AreSoundByWay way table digests after
      block_marks after marked =
          let d = zip_there (IsStored table words) blocks digests k block stored at_block in
          let h = head_back table block.head d.0.head marked.head d.2.head marked.is in
          let r : role ≡ kept_role (role_by (take k digests) h.0) = same_role roles k role (kept_role (role_by (take k digests) h.0)) at_role (are.each k d.0 h.0 d.1 h.1) in
          let counts : Counts h.0.0 digests k d.0 =
          (d.1, defines_head d.0 h.0 h.1, sym (duplicate_is digests k d.0 h.0 h.1) ∙ (sym (ap (λ (x : HeadRole). x.is_duplicate) r) ∙ marked.counts)) in
          let b = any_back (says way (marked_at way table marks)) d.0.said (sym (gists_same block d.0 d.2) ∙ marked.reason (number_in_table table) d.0.said d.2.words) in
          let a : IsAlternative digests h.0.0 b.0 = record { digest = d.0; counts = counts_there h.0.0 digests k d.0 counts; says = b.1 } in
          subst (AreSoundByWay way table digests) (sym marked.marked)
          (one_marked marked.head.name h.0.0 h.2 (fires way digests (marked_at way table marks) sound.so h.0.0 b.0 a b.2))

    -- ---- marks that are closed

    module _ (done : AreSwept way words blocks roles marks) where
      pub closed : (name : Name) (part : Part) → IsAlternative digests name part → says way (marked_at way table marks) part ≡ true → marked_at way table marks name ≡ true
      closed name part a e =
          let c = counts_back name digests a.digest a.counts in
          let b = zip_back (IsStored table words) blocks digests c.0 a.digest stored c.1.0 in
          let h = defined_head name a.digest.head c.1.1 in
          let n = head_kept table b.0.head a.digest.head h.0 b.2.head h.1 in
          let duplicate : (kept_role (role_by (take c.0 digests) h.0)).is_duplicate ≡ false =
          duplicate_is digests c.0 a.digest h.0 h.1
          ∙ (ap (λ x. not (adds_by a.digest) && list_any (is_base x) (take c.0 digests)) h.2 ∙ c.1.2) in
          let there : rule_number table name ≡ Some n.0.name = ap (rule_number table) (sym h.2) ∙ n.2 in
          marked_is way table marks name n.0.name there
          ∙ ⊎_elim (λ t. t)
          (λ f.
          let less : n.0.name < length marks = omega (arith, sound.one_each, slice_get_within table n.0.name name (stands_at table name n.0.name there)) in
          let none = done c.0 b.0 (kept_role (role_by (take c.0 digests) h.0)) b.1 (are.each c.0 a.digest h.0 c.1.0 h.1) n.0 n.1 duplicate less f
          b.2.order b.2.within (number_in_table table) a.digest.said b.2.words in
          never (list_any (says way (marked_at way table marks)) a.digest.said)
          (any_there (says way (marked_at way table marks)) a.digest.said part a.says e) (sym (gists_same b.0 a.digest b.2) ∙ none))
          (cases_Bool (mark_at marks n.0.name))

  pub sound_more : AreSoundByWayFor way table words blocks roles marks → (k : ℕ) (block : BlockDigest) (role : HeadRole) → slice_get blocks k ≡ Some block
      → slice_get roles k ≡ Some role → (after : List Bool) → IsMarkedSo way words marks block role after → AreSoundByWayFor way table words blocks roles after
  sound_more sound k block role at_block at_role after marked digests stored are =
      block_marks digests stored are (sound digests stored are) k block role at_block at_role after marked

module _ (table : List Name) (words : List Word) (blocks : List BlockDigest) (roles : List HeadRole) (marks : List Bool) (digests : List Digest)
    (stored : AreStored table words blocks digests) (are : AreRoles digests roles) where
  pub are_held : AreSoundByWayFor Holding table words blocks roles marks → AreSwept Holding words blocks roles marks → AreHoldingMarks digests (held_at table marks)
  are_held sound done = let s = sound digests stored are in record {
    sound = s.so;
    core = s.first;
    closed = closed Holding table words blocks roles marks digests stored are s done;
  }

  pub are_led : AreSoundByWayFor Leading table words blocks roles marks → AreSwept Leading words blocks roles marks → AreLeadingMarks digests (name_mark table marks)
  are_led sound done = let s = sound digests stored are in record {
    sound = s.so;
    begins = λ name part a c. closed Leading table words blocks roles marks digests stored are s done name part a (lead_opaque (name_mark table marks) part c);
    closed = λ name other part rule a c e.
        closed Leading table words blocks roles marks digests stored are s done name part a (lead_ref (name_mark table marks) part other rule c e);
  }

-- ---- marks at first

module _ (table : List Name) (words : List Word) (blocks : List BlockDigest) (digests : List Digest) (stored : AreStored table words blocks digests) where
  heads_all : (name : Name) (n : ℕ) → rule_number table name ≡ Some n → list_any (heads_number n) blocks ≡ list_any (bytes_eq name) (defined_by digests)
  heads_all name n e =
      let k : ℕ = length blocks + length digests in
      ap (list_any (heads_number n)) (sym (take_all k blocks (omega arith)))
      ∙ (heads_same table name n e words blocks digests stored k
      ∙ (ap (list_any (defines_by name)) (take_all k digests (omega arith)) ∙ sym (any_defined name digests)))

  numbered : {A : Type 0} (o : Option ℕ) (n : ℕ) → o ≡ Some n → o ≡ None → A
  numbered None n e f = absurd (cc (e))
  numbered (Some m) n e f = absurd (cc (f))

  -- a name that isn't in the table isn't defined
  none_defined : (name : Name) → rule_number table name ≡ None → list_any (bytes_eq name) (defined_by digests) ≡ false
  none_defined name e = false_from_ne_true (list_any (bytes_eq name) (defined_by digests)) (λ t.
      let d = any_back (defines_by name) digests (sym (any_defined name digests) ∙ t) in
      let at : slice_get digests d.1.0 ≡ Some d.0 = slice_get-get_or digests d.1.0 d.0 d.1.1 ∙ ap Some d.1.2 in
      let b = zip_back (IsStored table words) blocks digests d.1.0 d.0 stored at in
      let h = defined_head name d.0.head d.2 in
      let n = head_kept table b.0.head d.0.head h.0 b.2.head h.1 in
      numbered (rule_number table h.0.0) n.0.name n.2 (ap (rule_number table) h.2 ∙ e))

  module _ (marks : List Bool) (core : AreCoreMarks table blocks marks) where
    mark_is : (name : Name) (n : ℕ) → rule_number table name ≡ Some n → mark_at marks n ≡ (is_core_name name && not (list_any (bytes_eq name) (defined_by digests)))
    mark_is name n e = core.each n name (stands_at table name n e) ∙ ap (λ b. is_core_name name && not b) (heads_all name n e)

    core_so : (name : Name) (o : Option ℕ) → rule_number table name ≡ o → held_at table marks name ≡ true → IsOfCore digests name
    core_so name None e t = (sym (ap (λ o. option_map_or (mark_at marks) o (is_core_name name)) e) ∙ t, none_defined name e)
    core_so name (Some n) e t =
        let p = and_parts (is_core_name name) (not (list_any (bytes_eq name) (defined_by digests))) (sym (marked_is Holding table marks name n e ∙ mark_is name n e) ∙ t) in
        (p.0, not-true (list_any (bytes_eq name) (defined_by digests)) p.1)

    core_first : (name : Name) (o : Option ℕ) → rule_number table name ≡ o → IsOfCore digests name → held_at table marks name ≡ true
    core_first name None e f = ap (λ o. option_map_or (mark_at marks) o (is_core_name name)) e ∙ f.0
    core_first name (Some n) e f =
        marked_is Holding table marks name n e ∙ (mark_is name n e
        ∙ and_from (is_core_name name) (not (list_any (bytes_eq name) (defined_by digests))) f.0 (ap not f.1))

    pub core_sound : AreSoundByWay Holding table digests marks
    core_sound = record {
      one_each = core.one_each;
      so = λ name t. (1, inl (core_so name (rule_number table name) refl t));
      first = λ name f. core_first name (rule_number table name) refl f;
    }

none_sound : (table : List Name) (digests : List Digest) → AreSoundByWay Leading table digests (replicate (length table) false)
none_sound table digests = record {
  one_each = length-replicate (length table) false;
  so = λ name t. so_by name (rule_number table name) refl t;
  first = λ name f. absurd f;
}
  where
    so_by : (name : Name) (o : Option ℕ) → rule_number table name ≡ o → name_mark table (replicate (length table) false) name ≡ true → IsSo Leading digests name
    so_by name None e t =
        let f : false ≡ true = sym (ap (λ o. option_map_or (mark_at (replicate (length table) false)) o false) e) ∙ t in absurd (cc (f))
    so_by name (Some n) e t =
        let f : false ≡ true =
        sym (get_or-replicate (length table) n false false (slice_get_within table n name (stands_at table name n e)))
        ∙ (sym (marked_is Leading table (replicate (length table) false) name n e) ∙ t) in
        absurd (cc (f))

pub sound_at_first : (table : List Name) (words : List Word) (blocks : List BlockDigest) (roles : List HeadRole) (marks : List Bool) → AreCoreMarks table blocks marks
    → AreSoundByWayFor Holding table words blocks roles marks
sound_at_first table words blocks roles marks core digests stored are = core_sound table words blocks digests stored marks core

pub none_at_first : (table : List Name) (words : List Word) (blocks : List BlockDigest) (roles : List HeadRole) (marks : List Bool)
    → marks ≡ replicate (length table) false → AreSoundByWayFor Leading table words blocks roles marks
none_at_first table words blocks roles marks e digests stored are = subst (AreSoundByWay Leading table digests) (sym e) (none_sound table digests)

-- ---- marks that are handed out

module _ (words : List Word) (blocks : List BlockDigest) (roles : List HeadRole) (marks : List Bool) where
  pub settled_are : (core : List Bool) → ((table : List Name) → AreSoundByWayFor Holding table words blocks roles core → AreSoundByWayFor Holding table words blocks roles marks)
      → AreSwept Holding words blocks roles marks → (table : List Name) → AreCoreMarks table blocks core → AreHoldingMarksFor table words blocks roles marks
  settled_are core sound done table cores digests stored are =
      are_held table words blocks roles marks digests stored are (sound table (sound_at_first table words blocks roles core cores)) done

  pub led_are : (table : List Name) → AreSoundByWayFor Leading table words blocks roles marks → AreSwept Leading words blocks roles marks
      → AreLeadingMarksFor table words blocks roles marks
  led_are table sound done digests stored are = are_led table words blocks roles marks digests stored are sound done
