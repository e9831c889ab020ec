-- Blocks as they are kept, and their digests, place by place: they have the same heads.
use Rattle.std.proofs.Common.{◌≡◌, ℕ, zero, suc, Bool, true, false, not, ◌&&◌, ◌||◌, List, [], ◌∷◌, length, take, Option, Some, None, option_map, refl, sym, ap, subst, ◌∙◌}
use Rattle.std.specs.Prelude.{nat_eq, slice_get, if◌then◌else◌}
use Rattle.std.specs.List.{list_any, AllZip}
use Rattle.std.specs.Option.{option_map_or}
use Rattle.std.specs.Str.{bytes_eq}
use Rattle.std.proofs.lemmas.Bool.{eq-eqb, eqb-true}
use Rattle.abnf_parts.specs.Names.{Name, rule_number}
use Rattle.abnf_parts.proofs.NameLaws.{position_cons, same_is, same_refl}
use Rattle.abnf_digests.specs.Digests.{Digest, defines_by}
use Rattle.findings_index.specs.declared.digest.HeadNumber.{HeadNumber}
use Rattle.findings_index.specs.declared.digest.BlockDigest.{BlockDigest}
use Rattle.findings_index.specs.declared.word.Word.{Word}
use Rattle.findings_index.specs.Stored.{StandsFor, IsStored, AreStored}
use Rattle.findings_index.specs.own.Ways.{heads_number}
use Rattle.findings_index.proofs.Counting.{is_base}

-- ---- two lists, place by place

module _ {A B : Type 0} (R : A → B → Type 0) where
  pub zip_there : (xs : List A) (ys : List B) (k : ℕ) (x : A) → AllZip R xs ys → slice_get xs k ≡ Some x → (y : B) × (slice_get ys k ≡ Some y) × R x y
  zip_there [] ys k x all e = absurd (cc (e))
  zip_there (a ∷ xs) [] k x all e = absurd all
  zip_there (a ∷ xs) (b ∷ ys) zero x all e = let same : a ≡ x = cc (e) in (b, refl, subst (λ z. R z b) same all.0)
  zip_there (a ∷ xs) (b ∷ ys) (suc k) x all e = zip_there xs ys k x all.1 e

  pub zip_back : (xs : List A) (ys : List B) (k : ℕ) (y : B) → AllZip R xs ys → slice_get ys k ≡ Some y → (x : A) × (slice_get xs k ≡ Some x) × R x y
  zip_back xs [] k y all e = absurd (cc (e))
  zip_back [] (b ∷ ys) k y all e = absurd all
  zip_back (a ∷ xs) (b ∷ ys) zero y all e = let same : b ≡ y = cc (e) in (a, refl, subst (λ z. R a z) same all.0)
  zip_back (a ∷ xs) (b ∷ ys) (suc k) y all e = zip_back xs ys k y all.1 e

  pub zip_long : (xs : List A) (ys : List B) → AllZip R xs ys → length xs ≡ length ys
  zip_long [] [] all = refl
  zip_long [] (b ∷ ys) all = absurd all
  zip_long (a ∷ xs) [] all = absurd all
  zip_long (a ∷ xs) (b ∷ ys) all = ap suc (zip_long xs ys all.1)

  pub zip_any : (p : A → Bool) (q : B → Bool) → ((x : A) (y : B) → R x y → p x ≡ q y) → (xs : List A) (ys : List B) (k : ℕ) → AllZip R xs ys
      → list_any p (take k xs) ≡ list_any q (take k ys)
  zip_any p q same [] [] zero all = refl
  zip_any p q same [] [] (suc k) all = refl
  zip_any p q same [] (b ∷ ys) k all = absurd all
  zip_any p q same (a ∷ xs) [] k all = absurd all
  zip_any p q same (a ∷ xs) (b ∷ ys) zero all = refl
  zip_any p q same (a ∷ xs) (b ∷ ys) (suc k) all = (λ i. same a b all.0 i || zip_any p q same xs ys k all.1 i)

-- ---- names and their numbers

-- where a name has a number, it stands at that place
pub stands_at : (table : List Name) (name : Name) (n : ℕ) → rule_number table name ≡ Some n → slice_get table n ≡ Some name
stands_at [] name n e = absurd (cc (e))
stands_at (x ∷ table) name n e =
    by (bytes_eq name x) (rule_number table name) n refl (sym (position_cons (bytes_eq name) x table) ∙ e) (λ m f. stands_at table name m f)
  where
    by : (b : Bool) (o : Option ℕ) (m : ℕ) → bytes_eq name x ≡ b → (if b then Some 0 else option_map suc o) ≡ Some m
        → ((k : ℕ) → o ≡ Some k → slice_get table k ≡ Some name) → slice_get (x ∷ table) m ≡ Some name
    by true o zero f e further = ap Some (sym (same_is name x f))
    by true o (suc m) f e further = absurd (cc (e))
    by false None m f e further = absurd (cc (e))
    by false (Some k) zero f e further = absurd (cc (e))
    by false (Some k) (suc m) f e further = further m (let same : k ≡ m = cc (e) in ap Some same)

pub same_number : (table : List Name) (name other : Name) (n : ℕ) → rule_number table name ≡ Some n → rule_number table other ≡ Some n → name ≡ other
same_number table name other n e f = let g : Some name ≡ Some other = sym (stands_at table name n e) ∙ stands_at table other n f in cc (g)

-- ---- heads

abbrev pub bases_number : ℕ → BlockDigest → Bool
bases_number number block = option_map_or (λ (head : HeadNumber). nat_eq head.name number && not head.adds) block.head false

bools_same : (a b : Bool) → (a ≡ true → b ≡ true) → (b ≡ true → a ≡ true) → a ≡ b
bools_same true true f g = refl
bools_same true false f g = sym (f refl)
bools_same false true f g = g refl
bools_same false false f g = refl

module _ (table : List Name) (name : Name) (n : ℕ) (is : rule_number table name ≡ Some n) where
  same_name : (number : ℕ) (other : Name) → rule_number table other ≡ Some number → nat_eq number n ≡ bytes_eq other name
  same_name number other e =
      bools_same (nat_eq number n) (bytes_eq other name)
      (λ h. let same : other ≡ name = same_number table other name n (e ∙ ap Some (eqb-true number n h)) is in ap (bytes_eq other) (sym same) ∙ same_refl other)
      (λ h.
      let same : Some number ≡ Some n = sym e ∙ (ap (rule_number table) (same_is other name h) ∙ is) in
      eq-eqb number n (cc (same)))

  head_same : (kept : Option HeadNumber) (head : Option (Name × Bool)) → StandsFor table kept head
      → option_map_or (λ (h : HeadNumber). nat_eq h.name n) kept false ≡ option_map_or (λ (h : Name × Bool). bytes_eq h.0 name) head false
  head_same None None s = refl
  head_same None (Some head) s = absurd s
  head_same (Some number) None s = absurd s
  head_same (Some number) (Some head) s = same_name number.name head.0 s.0

  base_same : (kept : Option HeadNumber) (head : Option (Name × Bool)) → StandsFor table kept head
      → option_map_or (λ (h : HeadNumber). nat_eq h.name n && not h.adds) kept false
      ≡ (option_map_or (λ (h : Name × Bool). bytes_eq h.0 name) head false && not (option_map_or (λ (h : Name × Bool). h.1) head false))
  base_same None None s = refl
  base_same None (Some head) s = absurd s
  base_same (Some number) None s = absurd s
  base_same (Some number) (Some head) s = (λ i. same_name number.name head.0 s.0 i && not (s.1 i))

  module _ (words : List Word) (blocks : List BlockDigest) (digests : List Digest) (stored : AreStored table words blocks digests) (k : ℕ) where
    pub heads_same : list_any (heads_number n) (take k blocks) ≡ list_any (defines_by name) (take k digests)
    heads_same = zip_any (IsStored table words) (heads_number n) (defines_by name) (λ b d s. head_same b.head d.head s.head) blocks digests k stored

    pub bases_same : list_any (bases_number n) (take k blocks) ≡ list_any (is_base name) (take k digests)
    bases_same = zip_any (IsStored table words) (bases_number n) (is_base name) (λ b d s. base_same b.head d.head s.head) blocks digests k stored

-- a head that is kept of one
pub head_kept : (table : List Name) (kept : Option HeadNumber) (head : Option (Name × Bool)) (h : Name × Bool) → StandsFor table kept head → head ≡ Some h
    → (number : HeadNumber) × (kept ≡ Some number) × (rule_number table h.0 ≡ Some number.name) × (number.adds ≡ h.1)
head_kept table None None h s e = absurd (cc (e))
head_kept table None (Some head) h s e = absurd s
head_kept table (Some number) None h s e = absurd s
head_kept table (Some number) (Some head) h s e =
    let same : head ≡ h = cc (e) in
    let stands : (rule_number table h.0 ≡ Some number.name) × (number.adds ≡ h.1) =
    subst (λ (x : Name × Bool). (rule_number table x.0 ≡ Some number.name) × (number.adds ≡ x.1)) same s in
    (number, refl, stands.0, stands.1)

pub head_back : (table : List Name) (kept : Option HeadNumber) (head : Option (Name × Bool)) (number : HeadNumber) → StandsFor table kept head → kept ≡ Some number
    → (h : Name × Bool) × (head ≡ Some h) × (rule_number table h.0 ≡ Some number.name) × (number.adds ≡ h.1)
head_back table None head number s e = absurd (cc (e))
head_back table (Some other) None number s e = absurd s
head_back table (Some other) (Some h) number s e =
    let same : other ≡ number = cc (e) in
    let stands : (rule_number table h.0 ≡ Some number.name) × (number.adds ≡ h.1) =
    subst (λ (x : HeadNumber). (rule_number table h.0 ≡ Some x.name) × (x.adds ≡ h.1)) same s in
    (h, refl, stands.0, stands.1)
