-- Definitions that repeat others: found one by one, in order, and that a text has one list of them.
use Rattle.std.proofs.Common.{◌≡◌, ◌∙◌, ℕ, suc, zero, ◌^◌, ◌<◌, ◌≤◌, Bool, true, false, cond, List, [], ◌∷◌, ◌++◌, length, map, get_or, arith, ap, refl, sym, subst, append_assoc, append-nil, eq-eqb, ⊎_elim}
use Rattle.std.specs.Prelude.{◌||◌, Option, Some, None, All, bytes_eq, find, slice_get, option_map, nat_eq, nat_lt, if◌then◌else◌}
use Rattle.std.specs.Option.{is_some, option_and_then, option_map_or, option_or}
use Rattle.std.specs.List.{list_any}
use Rattle.std.specs.List.Sorted.{IsNonDecreasingBy, IsPartitionPoint}
use Rattle.std.proofs.lemmas.List.{map-append}
use Rattle.std.proofs.lemmas.List.Elements.{All-push}
use Rattle.std.proofs.lemmas.Bool.{cases_lt, ltb-false, ltb-true, ne_eqb}
use Rattle.std.proofs.lemmas.List.Folds.{find-append, find_at}
use Rattle.std.proofs.lemmas.List.Sums.{position_or_len_is}
use Rattle.std.proofs.lemmas.Option.{get_or_from_slice_get, none-some, slice_get-map, slice_get_within}
use Rattle.abnf_token.specs.Classes.{Text}
use Rattle.abnf_syntax.specs.declared.block.Block.{Block}
use Rattle.abnf_syntax.specs.declared.block.Head.{Head}
use Rattle.abnf_syntax.specs.declared.item.Item.{Item}
use Rattle.abnf_syntax.specs.Blocks.{AreBlocks, HasBlock}
use Rattle.abnf_syntax.specs.Bounds.{bounds}
use Rattle.abnf_syntax.specs.Heads.{head_of}
use Rattle.abnf_syntax.proofs.Bare.{bare, bare_head, head_bare}
use Rattle.abnf_syntax.proofs.Cons.{cons_same}
use Rattle.abnf_parts.specs.Names.{Name, rule_number, with_name}
use Rattle.abnf_parts.proofs.NameLaws.{position_any, position_cons, same_is, with_new, with_there}
use Rattle.joined_grammars.specs.declared.repeats.Repeat.{Repeat}
use Rattle.joined_grammars.specs.Repeats.{AreRepeats, Definition, is_of_name, definition, name_defined, repeat, repeat_of, repeats_behind, word_of}
use Rattle.joined_grammars.specs.own.Firsts.{AreFirsts, AreTablesWith, definition_at, definitions, with_first}
use Rattle.joined_grammars.proofs.JoinLaws.{blocks_of, same_made}

-- ---- the table of the first definitions

-- no definitions
pub no_firsts : (names : List Name) (firsts : List Definition) → names ≡ [] → firsts ≡ [] → AreFirsts [] names firsts
no_firsts names firsts e f = record {
  first = λ name. ap (find (is_of_name name)) (sym f);
  named = ap (map (λ (name : Name). Some name)) e ∙ ap (map (λ (d : Definition). d.name)) (sym f);
}

or_none : {X : Type 0} (o : Option X) → option_or o None ≡ o
or_none None = refl
or_none (Some x) = refl

one_more : (name : Name) (b : Bool) (d : Definition) → b ≡ false → cond b (Some d) None ≡ None
one_more name true d e = cc
one_more name false d e = refl

-- one behind them that defines another name, or none
beside : (name : Name) (before : List Definition) (d : Definition) → is_of_name name d ≡ false → find (is_of_name name) (before ++ d ∷ []) ≡ find (is_of_name name) before
beside name before d others =
    find-append (is_of_name name) before (d ∷ []) ∙ (ap (option_or (find (is_of_name name) before)) (one_more name (is_of_name name d) d others) ∙ or_none (find (is_of_name name) before))

none_defined : (name : Name) (d : Definition) → d.name ≡ None → is_of_name name d ≡ false
none_defined name d e = ap (λ o. option_map_or (bytes_eq name) o false) e

-- a definition of no name comes
pub firsts_beside : (before : List Definition) (names : List Name) (firsts : List Definition) (d : Definition) → AreFirsts before names firsts → d.name ≡ None → AreFirsts (before ++ d ∷ []) names firsts
firsts_beside before names firsts d are e = record {
  first = λ name. beside name before d (none_defined name d e) ∙ are.first name;
  named = are.named;
}

-- the first definition of a new name comes
pub firsts_new : (before : List Definition) (names more : List Name) (firsts : List Definition) (d : Definition) (name : Name) → AreFirsts before names firsts → d.name ≡ Some name
    → rule_number names name ≡ None → more ≡ with_name names name → AreFirsts (before ++ d ∷ []) more (firsts ++ d ∷ [])
firsts_new before names more firsts d name are e new with = record {
  first = λ other.
      find-append (is_of_name other) before (d ∷ [])
      ∙ (ap (λ o. option_or o (find (is_of_name other) (d ∷ []))) (are.first other) ∙ sym (find-append (is_of_name other) firsts (d ∷ [])));
  named =
      ap (map (λ (n : Name). Some n)) (with ∙ with_new name names new)
      ∙ (map-append (λ (n : Name). Some n) names (name ∷ [])
      ∙ ((λ i. are.named i ++ sym e i ∷ []) ∙ sym (map-append (λ (x : Definition). x.name) firsts (d ∷ []))));
}

-- the place of a name is that of its first definition
pub place_is : (name : Name) (names : List Name) (firsts : List Definition) → map (λ (n : Name). Some n) names ≡ map (λ (d : Definition). d.name) firsts
    → option_and_then (slice_get firsts) (rule_number names name) ≡ find (is_of_name name) firsts
place_is name [] [] e = refl
place_is name [] (f ∷ firsts) e = cc
place_is name (n ∷ names) [] e = cc
place_is name (n ∷ names) (f ∷ firsts) e =
    let same = cons_same e in
    ap (option_and_then (slice_get (f ∷ firsts))) (position_cons (bytes_eq name) n names)
    ∙ (by (bytes_eq name n) (place_is name names firsts same.1)
    ∙ ap (λ o. cond (option_map_or (bytes_eq name) o false) (Some f) (find (is_of_name name) firsts)) same.0)
  where
    one_on : (o : Option ℕ) → option_and_then (slice_get (f ∷ firsts)) (option_map suc o) ≡ option_and_then (slice_get firsts) o
    one_on None = refl
    one_on (Some k) = refl

    by : (b : Bool) → option_and_then (slice_get firsts) (rule_number names name) ≡ find (is_of_name name) firsts
        → option_and_then (slice_get (f ∷ firsts)) (if b then Some 0 else option_map suc (rule_number names name)) ≡ cond b (Some f) (find (is_of_name name) firsts)
    by true rest = refl
    by false rest = one_on (rule_number names name) ∙ rest

-- a name of the table has a first definition
some_same : (name : Name) (names : List Name) (firsts : List Definition) → map (λ (n : Name). Some n) names ≡ map (λ (d : Definition). d.name) firsts
    → is_some (find (is_of_name name) firsts) ≡ list_any (bytes_eq name) names
some_same name [] [] e = refl
some_same name [] (f ∷ firsts) e = cc
some_same name (n ∷ names) [] e = cc
some_same name (n ∷ names) (f ∷ firsts) e =
    let same = cons_same e in
    ap (λ o. is_some (cond (option_map_or (bytes_eq name) o false) (Some f) (find (is_of_name name) firsts))) (sym same.0) ∙ by (bytes_eq name n) (some_same name names firsts same.1)
  where
    by : (b : Bool) → is_some (find (is_of_name name) firsts) ≡ list_any (bytes_eq name) names → is_some (cond b (Some f) (find (is_of_name name) firsts)) ≡ (b || list_any (bytes_eq name) names)
    by true rest = refl
    by false rest = rest

some_or : {X : Type 0} (o p : Option X) → is_some o ≡ true → option_or o p ≡ o
some_or None p e = cc
some_or (Some x) p e = refl

-- another definition of a name comes
pub firsts_there : (before : List Definition) (names more : List Name) (firsts : List Definition) (d : Definition) (name : Name) (k : ℕ) → AreFirsts before names firsts → d.name ≡ Some name
    → rule_number names name ≡ Some k → more ≡ with_name names name → AreFirsts (before ++ d ∷ []) more firsts
firsts_there before names more firsts d name k are e there with = record {
  first = λ other. by other (is_of_name other d) refl;
  named = ap (map (λ (n : Name). Some n)) (with ∙ with_there name names k there) ∙ are.named;
}
  where
    known : is_some (find (is_of_name name) firsts) ≡ true
    known = some_same name names firsts are.named ∙ (position_any name names ∙ ap is_some there)

    by : (other : Name) (b : Bool) → is_of_name other d ≡ b → find (is_of_name other) (before ++ d ∷ []) ≡ find (is_of_name other) firsts
    by other false others = beside other before d others ∙ are.first other
    by other true this =
        let same : other ≡ name = same_is other name (ap (λ o. option_map_or (bytes_eq other) o false) (sym e) ∙ this) in
        let is : is_some (find (is_of_name other) before) ≡ true = ap is_some (are.first other) ∙ (ap (λ n. is_some (find (is_of_name n) firsts)) same ∙ known) in
        find-append (is_of_name other) before (d ∷ []) ∙ (some_or (find (is_of_name other) before) (find (is_of_name other) (d ∷ [])) is ∙ are.first other)

-- the first definition of a name is found by the table
pub first_is : (before : List Definition) (names : List Name) (firsts : List Definition) (name : Name) → AreFirsts before names firsts
    → option_and_then (slice_get firsts) (rule_number names name) ≡ find (is_of_name name) before
first_is before names firsts name are = place_is name names firsts are.named ∙ sym (are.first name)

-- the first definition of a name, of which the table has the place
place_of : (blocks : List Block) (places : List ℕ) (o : Option ℕ)
    → option_map (definition_at blocks) (option_and_then (slice_get places) o) ≡ option_and_then (slice_get (definitions blocks places)) o
place_of blocks places None = refl
place_of blocks places (Some k) = sym (slice_get-map (definition_at blocks) places k)

-- what counts of a block that stands at a place
pub definition_is : (blocks : List Block) (at : ℕ) (block : Block) → at < length blocks → block ≡ get_or blocks at block → definition_at blocks at ≡ definition block
definition_is [] at block less e = absurd (omega (arith, less))
definition_is (b ∷ blocks) zero block less e = ap definition (sym e)
definition_is (b ∷ blocks) (suc at) block less e = definition_is blocks at block (omega (arith, less)) e

-- the place of a first definition is within
pub first_within : (n : ℕ) (places : List ℕ) (o : Option ℕ) (k : ℕ) → All (λ k. k < n) places → option_and_then (slice_get places) o ≡ Some k → k < n
first_within n places None k within e = absurd (none-some k e)
first_within n places (Some j) k within e = subst (λ m. m < n) (get_or_from_slice_get places j k k e) (within j k (slice_get_within places j k e))

-- places with one more are within
pub within_with : (n : ℕ) (o : Option ℕ) (places : List ℕ) (at : ℕ) → All (λ k. k < n) places → at < n → All (λ k. k < n) (with_first o places at)
within_with n None places at within less = All-push (λ k. k < n) places at within less
within_with n (Some k) places at within less = within

-- ---- a block that comes

-- it defines no name
pub adds_none : (blocks : List Block) (at : ℕ) (found : List Repeat) (names : List Name) (places : List ℕ) (before : List Definition) → (definition_at blocks at).name ≡ None
    → AreFirsts before names (definitions blocks places)
    → (found ≡ found ++ repeat_of before (definition_at blocks at)) × AreFirsts (before ++ definition_at blocks at ∷ []) names (definitions blocks places)
adds_none blocks at found names places before none are =
    let d = definition_at blocks at in (
      sym (append-nil found) ∙ ap (λ (o : Option Name). found ++ option_map_or (λ name. option_map_or (λ first. repeat first d ∷ []) (find (is_of_name name) before) []) o []) (sym none),
      firsts_beside before names (definitions blocks places) d are none,
    )

module _ (blocks : List Block) (at : ℕ) (found : List Repeat) (names more : List Name) (places now : List ℕ) (before : List Definition) (name : Name)
    (is : (definition_at blocks at).name ≡ Some name) (tables : AreTablesWith names places name at more now) (are : AreFirsts before names (definitions blocks places)) where
  abbrev pub d : Definition
  d = definition_at blocks at

  -- how it repeats the first definition, by the place of that
  repeats_by : (o : Option ℕ) → o ≡ option_and_then (slice_get places) (rule_number names name) → option_map_or (λ k. repeat (definition_at blocks k) d ∷ []) o [] ≡ repeat_of before d
  repeats_by o e =
      by o
      ∙ (ap (λ (f : Option Definition). option_map_or (λ first. repeat first d ∷ []) f [])
      (ap (option_map (definition_at blocks)) e ∙ (place_of blocks places (rule_number names name) ∙ first_is before names (definitions blocks places) name are))
      ∙ ap (λ (n : Option Name). option_map_or (λ name. option_map_or (λ first. repeat first d ∷ []) (find (is_of_name name) before) []) n []) (sym is))
    where
      by : (o : Option ℕ) → option_map_or (λ k. repeat (definition_at blocks k) d ∷ []) o [] ≡ option_map_or (λ first. repeat first d ∷ []) (option_map (definition_at blocks) o) []
      by None = refl
      by (Some k) = refl

  firsts_by : (o : Option ℕ) → rule_number names name ≡ o → now ≡ with_first o places at → AreFirsts (before ++ d ∷ []) more (definitions blocks now)
  firsts_by None e places_are =
      subst (λ (fs : List Definition). AreFirsts (before ++ d ∷ []) more fs) (sym (ap (definitions blocks) places_are ∙ map-append (definition_at blocks) places (at ∷ [])))
      (firsts_new before names more (definitions blocks places) d name are is e tables.names_are)
  firsts_by (Some k) e places_are =
      subst (λ (fs : List Definition). AreFirsts (before ++ d ∷ []) more fs) (sym (ap (definitions blocks) places_are))
      (firsts_there before names more (definitions blocks places) d name k are is e tables.names_are)

  now_firsts : AreFirsts (before ++ d ∷ []) more (definitions blocks now)
  now_firsts = firsts_by (rule_number names name) refl tables.places_are

  -- it repeats one
  pub adds_one : (k : ℕ) (after : List Repeat) → Some k ≡ option_and_then (slice_get places) (rule_number names name) → after ≡ found ++ repeat (definition_at blocks k) d ∷ []
      → (after ≡ found ++ repeat_of before d) × AreFirsts (before ++ d ∷ []) more (definitions blocks now)
  adds_one k after e grown = (grown ∙ ap (λ rs. found ++ rs) (repeats_by (Some k) e), now_firsts)

  -- it is the first of its name
  pub adds_first : None ≡ option_and_then (slice_get places) (rule_number names name) → (found ≡ found ++ repeat_of before d) × AreFirsts (before ++ d ∷ []) more (definitions blocks now)
  adds_first e = (sym (append-nil found) ∙ ap (λ rs. found ++ rs) (repeats_by None e), now_firsts)

-- ---- one definition more

-- of definitions behind others with one more at the end
pub repeats_next : (before ds : List Definition) (d : Definition) → repeats_behind before (ds ++ d ∷ []) ≡ repeats_behind before ds ++ repeat_of (before ++ ds) d
repeats_next before [] d = append-nil (repeat_of before d) ∙ ap (λ b. repeat_of b d) (sym (append-nil before))
repeats_next before (x ∷ ds) d =
    ap (λ r. repeat_of before x ++ r) (repeats_next (before ++ x ∷ []) ds d)
    ∙ (sym (append_assoc (repeat_of before x) (repeats_behind (before ++ x ∷ []) ds) (repeat_of ((before ++ x ∷ []) ++ ds) d))
    ∙ ap (λ b. (repeat_of before x ++ repeats_behind (before ++ x ∷ []) ds) ++ repeat_of b d) (append_assoc before (x ∷ []) ds))

-- ---- their lines

-- each line is at least the one before, and the first is at least this one
abbrev IsUp : ℕ → List Repeat → Type 0
IsUp from [] = Unit {0}
IsUp from (r ∷ rs) = (from ≤ r.line) × IsUp r.line rs

up_less : (a b : ℕ) (rs : List Repeat) → a ≤ b → IsUp b rs → IsUp a rs
up_less a b [] less up = up
up_less a b (r ∷ rs) less up = (omega (arith, less, up.0), up.1)

up_at : (from : ℕ) (rs : List Repeat) → IsUp from rs → (k : ℕ) (d : Repeat) → k < length rs → from ≤ (get_or rs k d).line
up_at from [] up k d less = absurd (omega (arith, less))
up_at from (r ∷ rs) up zero d less = up.0
up_at from (r ∷ rs) up (suc k) d less = omega (arith, up.0, up_at r.line rs up.1 k d (omega (arith, less)))

up_is : (from : ℕ) (rs : List Repeat) → IsUp from rs → IsNonDecreasingBy (λ r. r.line) rs
up_is from [] up i j d le less = absurd (omega (arith, less))
up_is from (r ∷ rs) up zero zero d le less = omega arith
up_is from (r ∷ rs) up zero (suc j) d le less = up_at r.line rs up.1 j d (omega (arith, less))
up_is from (r ∷ rs) up (suc i) zero d le less = absurd (omega (arith, le))
up_is from (r ∷ rs) up (suc i) (suc j) d le less = up_is r.line rs up.1 i j d (omega (arith, le)) (omega (arith, less))

up_with : (from : ℕ) (d : Definition) (o : Option Definition) (rest : List Repeat) → from ≤ d.line → IsUp d.line rest → IsUp from (option_map_or (λ first. repeat first d ∷ []) o [] ++ rest)
up_with from d None rest less up = up_less from d.line rest less up
up_with from d (Some first) rest less up = (less, up)

up_one : (from : ℕ) (d : Definition) (o : Option Name) (before : List Definition) (rest : List Repeat) → from ≤ d.line → IsUp d.line rest
    → IsUp from (option_map_or (λ name. option_map_or (λ first. repeat first d ∷ []) (find (is_of_name name) before) []) o [] ++ rest)
up_one from d None before rest less up = up_less from d.line rest less up
up_one from d (Some name) before rest less up = up_with from d (find (is_of_name name) before) rest less up

repeats_up : (ls : List Text) (from : ℕ) (before : List Definition) (blocks : List Block) → AreBlocks ls from (map bounds blocks) → IsUp from (repeats_behind before (map definition blocks))
repeats_up ls from before [] are = tt
repeats_up ls from before (b ∷ blocks) are =
    let rest = repeats_up ls b.end (before ++ definition b ∷ []) blocks are.3 in
    up_one from (definition b) (definition b).name before (repeats_behind (before ++ definition b ∷ []) (map definition blocks)) are.0
    (up_less b.first b.end (repeats_behind (before ++ definition b ∷ []) (map definition blocks)) (omega (arith, are.2.some)) rest)

pub lines_ascend : (ls : List Text) (blocks : List Block) (found : List Repeat) → AreBlocks ls 0 (map bounds blocks) → found ≡ repeats_behind [] (map definition blocks) → IsNonDecreasingBy (λ r. r.line) found
lines_ascend ls blocks found are e =
    subst (λ (rs : List Repeat). IsNonDecreasingBy (λ r. r.line) rs) (sym e) (up_is 0 (repeats_behind [] (map definition blocks)) (repeats_up ls 0 [] blocks are))

-- ---- the one of a line, by halving

abbrev at_this : ℕ → Repeat → Bool
at_this line r = nat_eq r.line line

find_none : (line : ℕ) (rs : List Repeat) → ((k : ℕ) (d : Repeat) → k < length rs → at_this line (get_or rs k d) ≡ false) → find (at_this line) rs ≡ None
find_none line [] none = refl
find_none line (r ∷ rs) none =
    ap (λ b. cond b (Some r) (find (at_this line) rs)) (none zero r (omega arith)) ∙ find_none line rs (λ k d less. none (suc k) d (omega (arith, less)))

module _ (found : List Repeat) (line place : ℕ) (up : IsNonDecreasingBy (λ r. r.line) found) (point : IsPartitionPoint (λ r. nat_lt r.line line ≡ true) (λ r. nat_lt r.line line ≡ false) found place) where
  before : (k : ℕ) (d : Repeat) → k < place → at_this line (get_or found k d) ≡ false
  before k d less = let lower = ltb-true (get_or found k d).line line (point.0 k d (omega arith) less) in ne_eqb (get_or found k d).line line (λ e. omega (arith, lower, e))

  behind : (r : Repeat) → slice_get found place ≡ Some r → (r.line ≡ line → ⊥) → (k : ℕ) (d : Repeat) → place ≤ k → k < length found → at_this line (get_or found k d) ≡ false
  behind r at ne k d more less =
      let here : get_or found place d ≡ r = get_or_from_slice_get found place r d at in
      let least = ltb-false (get_or found place d).line line (point.1 place d (omega arith) (omega (arith, more, less))) in
      let above = up place k d more less in
      ne_eqb (get_or found k d).line line (λ e. ne (omega (arith, least, above, e, ap (λ (x : Repeat). x.line) here)))

  pub found_there : (r : Repeat) → slice_get found place ≡ Some r → r.line ≡ line → Some r ≡ find (at_this line) found
  found_there r at same =
      let first = position_or_len_is (at_this line) found place r (omega (arith, slice_get_within found place r at)) (λ k less. before k r less)
      (λ less. ap (at_this line) (get_or_from_slice_get found place r r at) ∙ eq-eqb r.line line same) in
      sym (find_at (at_this line) found ∙ (ap (slice_get found) first ∙ at))

  pub none_there : (r : Repeat) → slice_get found place ≡ Some r → (r.line ≡ line → ⊥) → None ≡ find (at_this line) found
  none_there r at ne =
      sym (find_none line found (λ k d less. ⊎_elim (λ lower. before k d lower) (λ more. behind r at ne k d more less) (cases_lt k place)))

  pub none_behind : length found ≤ place → None ≡ find (at_this line) found
  none_behind more = sym (find_none line found (λ k d less. before k d (omega (arith, more, less))))

-- ---- there is one list

pub some_repeats : (text : List ℕ) → length text < 2 ^ 62 → (found : List Repeat) × AreRepeats text found
some_repeats text small =
    let of_text = blocks_of text small in
    (repeats_behind [] (map definition of_text.0), record { blocks = of_text.0; are_blocks = of_text.1; are = refl })

-- ---- and only one: what counts of a block doesn't depend on where its text lies

name_bare : (o : Option Head) → option_and_then name_defined (option_map bare_head o) ≡ option_and_then name_defined o
name_bare None = refl
name_bare (Some head) = refl

same_name : (xs ys : List Item) → map bare xs ≡ map bare ys → option_and_then name_defined (head_of xs) ≡ option_and_then name_defined (head_of ys)
same_name xs ys e =
    sym (name_bare (head_of xs))
    ∙ (ap (option_and_then name_defined) (sym (head_bare xs))
    ∙ (ap (λ items. option_and_then name_defined (head_of items)) e ∙ (ap (option_and_then name_defined) (head_bare ys) ∙ name_bare (head_of ys))))

words_bare : (xs : List Item) → map word_of (map bare xs) ≡ map word_of xs
words_bare [] = refl
words_bare (x ∷ xs) = ap (λ ws. word_of x ∷ ws) (words_bare xs)

same_said : (xs ys : List Item) → map bare xs ≡ map bare ys → map word_of xs ≡ map word_of ys
same_said xs ys e = sym (words_bare xs) ∙ (ap (map word_of) e ∙ words_bare ys)

same_definition : (b c : Block) → bounds b ≡ bounds c → map bare b.items ≡ map bare c.items → definition b ≡ definition c
same_definition b c at items = λ i. record { line = (at i).0; name = same_name b.items c.items items i; words = same_said b.items c.items items i }

pub one_repeats : (text : List ℕ) (a b : List Repeat) → AreRepeats text a → AreRepeats text b → a ≡ b
one_repeats text a b p q =
    p.are ∙ (ap (repeats_behind []) (same_made definition same_definition text p.blocks q.blocks p.are_blocks q.are_blocks) ∙ sym q.are)

-- ---- where memory is asked for

-- of the blocks of a text one begins
pub some_begins : (ls : List Text) (from : ℕ) (bs : List (ℕ × ℕ)) → AreBlocks ls from bs → 0 < length bs → HasBlock ls
some_begins ls from [] are some = absurd (omega (arith, some))
some_begins ls from (b ∷ bs) are some = (b.0, are.2.begins)
