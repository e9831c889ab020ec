-- What the blocks before say of each rule's name, one head more at a time.
use Rattle.std.proofs.Common.{◌≡◌, ◌∙◌, ◌<◌, ℕ, suc, Bool, true, false, List, [], ◌∷◌, ⊎_elim, length, get_or, drop, replicate, ◌+◌, map, refl, sym, ap, subst, arith}
use Rattle.std.specs.Prelude.{Contains, IfSome, OnOk, Result, Ok, Err, not, ◌||◌, slice_get, slice_set, slice_index_or, Option, Some, None, option_map, if◌then◌else◌}
use Rattle.std.specs.Option.{is_some, option_map_or}
use Rattle.std.specs.Str.{bytes_eq}
use Rattle.std.proofs.Math.Seq.{drop-cons}
use Rattle.std.proofs.lemmas.Bool.{cases_eq}
use Rattle.std.proofs.lemmas.List.{get_or-replicate, get_or-set_same, get_or-set_other, length-replicate, length-set}
use Rattle.std.proofs.lemmas.List.Elements.{Contains-append_left}
use Rattle.std.proofs.lemmas.List.Quantifiers.{position-Some}
use Rattle.std.proofs.lemmas.Option.{get_or_from_slice_get, same_Some, slice_get_within, slice_get-get_or}
use Rattle.abnf_syntax.specs.declared.block.Head.{Head}
use Rattle.abnf_syntax.specs.Heads.{head_of}
use Rattle.abnf_parts.specs.Names.{Name, rule_number, with_name}
use Rattle.abnf_parts.specs.Core.{core_name}
use Rattle.abnf_parts.proofs.NameLaws.{position_any, same_is, same_refl}
use Rattle.abnf_parts.proofs.NeededLaws.{any_folded}
use Rattle.abnf_names.specs.declared.section.Section.{Section}
use Rattle.abnf_names.specs.Excerpts.{Excerpt, HasSections, excerpt, excerpt_of}
use Rattle.abnf_names.specs.Rules.{Grammar, IsGrammar, defined, names_of, needed}
use Rattle.abnf_names.specs.Said.{Block, name_of}
use Rattle.abnf_names.proofs.Within.{rule_within}
use Rattle.abnf_lint.specs.declared.block.Seen.{Seen}
use Rattle.abnf_lint.specs.own.Findings.{has_name, known_of_head, is_marked}
use Rattle.abnf_lint.specs.own.Passes.{HaveSeen, HasMark, HaveRules, seen_more, seen_of, told_of_head, with_base, with_head}
use Rattle.abnf_lint.proofs.Heads.{defines_is, from_has, has_from}
use Rattle.abnf_lint.proofs.Member.{first_in, later_in}

pub when_ok : {A E : Type 0} (r : Result A E) (P : Type 0) → P → OnOk r P
when_ok (Ok x) P h = h
when_ok (Err e) P h = tt

-- ---- a name more

or_false : (b : Bool) → (b || false) ≡ b
or_false true = refl
or_false false = refl

or_true : (b : Bool) → (b || true) ≡ true
or_true true = refl
or_true false = refl

has_more : (names : List Name) (m n : Name) → has_name (with_name names m) n ≡ (has_name names n || bytes_eq n m)
has_more names m n =
    sym (position_any n (with_name names m))
    ∙ (any_folded (bytes_eq n) names (m ∷ [])
    ∙ (λ i. position_any n names i || or_false (bytes_eq n m) i))

has_itself : (names : List Name) (n : Name) → has_name (with_name names n) n ≡ true
has_itself names n = has_more names n n ∙ (ap (λ b. has_name names n || b) (same_refl n) ∙ or_true (has_name names n))

has_other : (names : List Name) (m n : Name) → bytes_eq n m ≡ false → has_name (with_name names m) n ≡ has_name names n
has_other names m n e = has_more names m n ∙ (ap (λ b. has_name names n || b) e ∙ or_false (has_name names n))

one_number : (names : List Name) (n m : Name) (r : ℕ) → rule_number names n ≡ Some r → rule_number names m ≡ Some r → n ≡ m
one_number names n m r e h =
    same_is n (get_or names r []) (position-Some (bytes_eq n) names r [] e).1 ∙ sym (same_is m (get_or names r []) (position-Some (bytes_eq m) names r [] h).1)

not_same : (n m : Name) (b : Bool) → bytes_eq n m ≡ b → (n ≡ m → ⊥) → bytes_eq n m ≡ false
not_same n m true e other = absurd (other (same_is n m e))
not_same n m false e other = e

abbrev based_more : Bool → List Name → Name → List Name
based_more adds bases name = if adds then bases else with_name bases name

base_here : (adds : Bool) (bases : List Name) (name : Name) → (has_name bases name || not adds) ≡ has_name (based_more adds bases name) name
base_here true bases name = or_false (has_name bases name)
base_here false bases name = or_true (has_name bases name) ∙ sym (has_itself bases name)

base_other : (adds : Bool) (bases : List Name) (m n : Name) → bytes_eq n m ≡ false → has_name bases n ≡ has_name (based_more adds bases m) n
base_other true bases m n e = refl
base_other false bases m n e = sym (has_other bases m n e)

-- ---- a head more

module _ (names heads bases : List Name) (seen : List Seen) (are : HaveSeen names heads bases seen) (head : Head) (r : ℕ) (at : rule_number names (name_of head) ≡ Some r) (before : Seen)
    (was : slice_get seen r ≡ Some before) where
  pub before_is : before ≡ seen_of heads bases (name_of head)
  before_is = same_Some before (seen_of heads bases (name_of head)) (sym was ∙ are (name_of head) r at)

  abbrev more : List Seen
  more = slice_set seen r (seen_more before head)

  abbrev Stands : Name → ℕ → Type 0
  Stands n k = slice_get more k ≡ Some (seen_of (with_name heads (name_of head)) (based_more head.adds bases (name_of head)) n)

  within : r < length seen
  within = slice_get_within seen r before was

  mark_here : seen_more before head ≡ seen_of (with_name heads (name_of head)) (based_more head.adds bases (name_of head)) (name_of head)
  mark_here =
      let base = ap (λ (x : Seen). x.is_base || not head.adds) before_is ∙ base_here head.adds bases (name_of head) in
      let itself = sym (has_itself heads (name_of head)) in
      (λ i. record { is_head = itself i; is_base = base i })

  at_rule : Stands (name_of head) r
  at_rule =
      slice_get-get_or more r before (subst (λ l. r < l) (sym (length-set seen r (seen_more before head))) within)
      ∙ ap Some (get_or-set_same seen r (seen_more before head) before within ∙ mark_here)

  mark_other : (n : Name) → bytes_eq n (name_of head) ≡ false → seen_of heads bases n ≡ seen_of (with_name heads (name_of head)) (based_more head.adds bases (name_of head)) n
  mark_other n e =
      let kept = sym (has_other heads (name_of head) n e) in
      let base = base_other head.adds bases (name_of head) n e in
      (λ i. record { is_head = kept i; is_base = base i })

  at_other : (n : Name) (k : ℕ) → rule_number names n ≡ Some k → (k ≡ r → ⊥) → Stands n k
  at_other n k e other =
      let old = are n k e in
      let inside : k < length seen = slice_get_within seen k (seen_of heads bases n) old in
      let apart : bytes_eq n (name_of head) ≡ false = not_same n (name_of head) (bytes_eq n (name_of head)) refl (λ same. other (same_Some k r (sym e ∙ (ap (rule_number names) same ∙ at)))) in
      slice_get-get_or more k before (subst (λ l. k < l) (sym (length-set seen r (seen_more before head))) inside)
      ∙ ap Some (get_or-set_other seen r k (seen_more before head) before other ∙ (get_or_from_slice_get seen k (seen_of heads bases n) before old ∙ mark_other n apart))

  pub joined : HaveSeen names (with_name heads (name_of head)) (based_more head.adds bases (name_of head)) more
  joined n k e =
      ⊎_elim
      (λ (same : k ≡ r). subst (λ j. Stands n j) (sym same) (subst (λ m. Stands m r) (sym (one_number names n (name_of head) r (e ∙ ap Some same) at)) at_rule))
      (λ (other : k ≡ r → ⊥). at_other n k e other)
      (cases_eq k r)

  marked_is : (marks : List Bool) → slice_index_or marks r false ≡ is_marked marks names (name_of head)
  marked_is marks = sym (ap (λ o. option_map_or (λ k. slice_index_or marks k false) o false) at)

  pub found_is : (marks : List Bool) → told_of_head before (slice_index_or marks r false) head ≡ known_of_head marks names heads bases head
  found_is marks = (λ i. told_of_head (before_is i) (marked_is marks i) head)

-- with the head of a block, if it has one
pub seen_next : (names heads bases : List Name) (seen new : List Seen) → HaveSeen names heads bases seen → (block : Excerpt) (head : Head) → head_of block.items ≡ Some head
    → (r : ℕ) → rule_number names (name_of head) ≡ Some r → (before : Seen) → slice_get seen r ≡ Some before → new ≡ slice_set seen r (seen_more before head)
    → HaveSeen names (with_head heads block) (with_base bases block) new
seen_next names heads bases seen new are block head e r at before was is =
    let more : HaveSeen names (with_name heads (name_of head)) (based_more head.adds bases (name_of head)) new =
    subst (λ (marks : List Seen). HaveSeen names (with_name heads (name_of head)) (based_more head.adds bases (name_of head)) marks) (sym is) (joined names heads bases seen are head r at before was) in
    subst (λ o. HaveSeen names (option_map_or (λ head. with_name heads (name_of head)) o heads) (option_map_or (λ head. if head.adds then bases else with_name bases (name_of head)) o bases) new) (sym e) more

pub seen_same : (heads bases : List Name) (block : Excerpt) → head_of block.items ≡ None → (names : List Name) (seen : List Seen) → HaveSeen names heads bases seen
    → HaveSeen names (with_head heads block) (with_base bases block) seen
seen_same heads bases block e names seen are =
    subst (λ o. HaveSeen names (option_map_or (λ head. with_name heads (name_of head)) o heads) (option_map_or (λ head. if head.adds then bases else with_name bases (name_of head)) o bases) seen) (sym e) are

-- ---- the names of heads have rules

module _ (blocks : List Block) where
  from_blocks : (bs : List Block) → ((b : Block) → Contains bs b → Contains blocks b) → HaveRules (names_of blocks) (map excerpt_of bs)
  from_blocks [] among = tt
  from_blocks (b ∷ bs) among = (
    (λ head e.
        let n = name_of head in
        let own : Contains (defined blocks) n = from_has (defined blocks) n ((defines_is blocks n).1 (b, among b (first_in b bs), ap (option_map name_of) e)) in
        has_from (names_of blocks) n (Contains-append_left (defined blocks) (map core_name (needed blocks)) n own)),
    from_blocks bs (λ c h. among c (later_in b bs c h)),
  )

pub have_rules : (g : Grammar) (sections : List Section) → HasSections g sections → HaveRules g.names (map excerpt sections)
have_rules g sections h =
    subst (λ (ns : List Name). HaveRules ns (map excerpt sections)) (sym (ap (λ (x : Grammar). x.names) h.is))
    (subst (λ (os : List Excerpt). HaveRules (names_of h.blocks) os) (sym h.excerpts) (from_blocks h.blocks h.blocks (λ b m. m)))

-- so they have marks
number_of : (o : Option ℕ) → is_some o ≡ true → (r : ℕ) × (o ≡ Some r)
number_of None e = absurd (cc e)
number_of (Some r) e = (r, refl)

pub has_mark : (names heads bases : List Name) (seen : List Seen) → HaveSeen names heads bases seen → (block : Excerpt) → ((head : Head) → head_of block.items ≡ Some head → has_name names (name_of head) ≡ true)
    → HasMark names seen block
has_mark names heads bases seen are block has head e =
    let r = number_of (rule_number names (name_of head)) (has head e) in
    (r.0, r.1, slice_get_within seen r.0 (seen_of heads bases (name_of head)) (are (name_of head) r.0 r.1))

-- ---- the first and the rest of what is left

pub rest_is : (sections : List Section) (i : ℕ) (section : Section) → i < length sections → section ≡ get_or sections i section → map excerpt (drop i sections) ≡ excerpt section ∷ map excerpt (drop (i + 1) sections)
rest_is sections i section less is =
    ap (map excerpt)
    (drop-cons sections i section less
    ∙ ((λ j. sym is j ∷ drop (suc i) sections)
    ∙ ap (λ k. section ∷ drop k sections) (let e : suc i ≡ i + 1 = omega arith in e)))

pub none_seen : (g : Grammar) (sections : List Section) → HasSections g sections → (seen : List Seen) → seen ≡ replicate (length g.rules) (record { is_head = false; is_base = false }) → HaveSeen g.names [] [] seen
none_seen g sections h seen is n r e =
    let right : IsGrammar g = record { blocks = h.blocks; of_text = h.of_text; is = h.is } in
    let less : r < length g.rules = subst (λ o. IfSome o (λ k. k < length g.rules)) e (rule_within g right n) in
    let none : Seen = record { is_head = false; is_base = false } in
    let whole : length (replicate (length g.rules) none) ≡ length g.rules = length-replicate (length g.rules) none in
    ap (λ (marks : List Seen). slice_get marks r) is
    ∙ (slice_get-get_or (replicate (length g.rules) none) r none (subst (λ l. r < l) (sym whole) less)
    ∙ ap Some (get_or-replicate (length g.rules) r none none less))
