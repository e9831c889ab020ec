-- Blocks and places under their names.
use Rattle.std.proofs.Common.{◌≡◌, ◌<◌, ◌+◌, ℕ, suc, Bool, true, false, List, [], ◌∷◌, ◌++◌, map, take, length, get_or, refl, sym, ap, subst, ◌∙◌, append-nil, arith}
use Rattle.std.specs.Option.{option_map_or}
use Rattle.abnf_names.specs.declared.section.Listed.{Listed}
use Rattle.std.specs.List.{cons_option}
use Rattle.std.specs.Prelude.{Result, Ok, Err, OnOk, Option, Some, None, option_map, flat_map, fold, filter, filter_map, if◌then◌else◌}
use Rattle.std.proofs.Math.Seq.{take-suc}
use Rattle.std.proofs.lemmas.List.{map-append}
use Rattle.std.proofs.lemmas.List.Elements.{filter-append, filter_map-append}
use Rattle.std.proofs.lemmas.List.Sums.{fold-append}
use Rattle.abnf_token.specs.Folded.{lowercase}
use Rattle.abnf_names.specs.declared.place.Spot.{Spot}
use Rattle.std.specs.Str.{bytes_eq}
use Rattle.abnf_parts.specs.Names.{Name, folded_text, with_name}
use Rattle.abnf_syntax.specs.declared.block.Head.{Head}
use Rattle.abnf_syntax.specs.declared.fault.SyntaxFault.{SyntaxFault}
use Rattle.abnf_syntax.specs.declared.tree.Rule.{Rule}
use Rattle.abnf_syntax.specs.Heads.{head_of}
use Rattle.abnf_syntax.proofs.Cons.{cons_same}
use Rattle.abnf_names.specs.Said.{Block, name_of}
use Rattle.abnf_names.specs.Places.{Named, named_at, places_in, places_of}
use Rattle.abnf_names.specs.Rules.{defined, head_name, fault_said, block_fault, faults_of}
use Rattle.abnf_names.specs.own.Passes.{members_of, if_same, Grouped, AreGrouped, names_defined, defines_name, section_fault, stated, with_core_name}
use Rattle.abnf_names.specs.Excerpts.{Excerpt, excerpt, excerpt_of}
use Rattle.abnf_names.specs.Shown.{fault_shown}
use Rattle.abnf_names.specs.declared.section.Section.{Section}

abbrev name_in : Excerpt → Option Name
name_in e = option_map name_of (head_of e.items)

abbrev now_excerpt : Listed → Excerpt
now_excerpt listed = excerpt listed.section.now

-- one more item that a loop has seen
pub map_take_next : {X Y : Type 0} (f : X → Y) (xs : List X) (i : ℕ) (x d : X) → i < length xs → x ≡ get_or xs i d → map f (take (i + 1) xs) ≡ map f (take i xs) ++ f x ∷ []
map_take_next f xs i x d lt is =
    ap (map f) (ap (λ k. take k xs) (let e : i + 1 ≡ suc i = omega arith in e) ∙ take-suc xs i d lt)
    ∙ (map-append f (take i xs) (get_or xs i d ∷ []) ∙ ap (λ y. map f (take i xs) ++ f y ∷ []) (sym is))

names_more : (seen : List Excerpt) (e : Excerpt) (o : Option Name) → option_map name_of (head_of e.items) ≡ o → names_defined (seen ++ e ∷ []) ≡ fold with_name (names_defined seen) (filter_map (λ n. n) (o ∷ []))
names_more seen e None h =
    ap (fold with_name []) (filter_map-append name_in seen (e ∷ []) ∙ ap (λ o. filter_map name_in seen ++ filter_map (λ n. n) (o ∷ [])) h)
    ∙ fold-append with_name [] (filter_map name_in seen) []
names_more seen e (Some n) h =
    ap (fold with_name []) (filter_map-append name_in seen (e ∷ []) ∙ ap (λ o. filter_map name_in seen ++ filter_map (λ n. n) (o ∷ [])) h)
    ∙ fold-append with_name [] (filter_map name_in seen) (n ∷ [])

one_if : (b : Bool) (listed : Listed) → map now_excerpt (if b then listed ∷ [] else []) ≡ (if b then excerpt listed.section.now ∷ [] else [])
one_if true listed = refl
one_if false listed = refl

under : (m : Name) (listed : Listed) (h : Head) → head_of listed.section.now.block.items ≡ Some h → map now_excerpt (if_same (name_of h) m listed) ≡ filter (defines_name m) (excerpt listed.section.now ∷ [])
under m listed h e =
    one_if (bytes_eq (name_of h) m) listed
    ∙ ap (λ o. if option_map_or (λ (head : Head). bytes_eq (name_of head) m) o false then excerpt listed.section.now ∷ [] else []) (sym e)

-- a section whose block has a head is put under its name
pub own_more : (old new : Grouped Listed) (listed : Listed) (h : Head) → head_of listed.section.now.block.items ≡ Some h → new.0 ≡ with_name old.0 (name_of h) →
    ((m : Name) → members_of new m ≡ members_of old m ++ if_same (name_of h) m listed) → (seen : List Excerpt) → AreGrouped seen old → AreGrouped (seen ++ excerpt listed.section.now ∷ []) new
own_more old new listed h e names members seen own = record {
  names = names ∙ (ap (λ ns. with_name ns (name_of h)) own.names ∙ sym (names_more seen (excerpt listed.section.now) (Some (name_of h)) (ap (option_map name_of) e)));
  members = λ m.
      ap (map now_excerpt) (members m)
      ∙ (map-append now_excerpt (members_of old m) (if_same (name_of h) m listed)
      ∙ (ap (λ front. front ++ map now_excerpt (if_same (name_of h) m listed)) (own.members m)
      ∙ (ap (λ back. filter (defines_name m) seen ++ back) (under m listed h e)
      ∙ sym (filter-append (defines_name m) seen (excerpt listed.section.now ∷ [])))));
}

-- one without a head isn't
pub own_same : (groups : Grouped Listed) (listed : Listed) → head_of listed.section.now.block.items ≡ None → (seen : List Excerpt) → AreGrouped seen groups → AreGrouped (seen ++ excerpt listed.section.now ∷ []) groups
own_same groups listed e seen own = record {
  names = own.names ∙ sym (names_more seen (excerpt listed.section.now) None (ap (option_map name_of) e));
  members = λ m.
      own.members m
      ∙ (sym (append-nil (filter (defines_name m) seen))
      ∙ (ap (λ o. filter (defines_name m) seen ++ (if option_map_or (λ (head : Head). bytes_eq (name_of head) m) o false then excerpt listed.section.now ∷ [] else [])) (sym e)
      ∙ sym (filter-append (defines_name m) seen (excerpt listed.section.now ∷ []))));
}

-- what a loop has grouped
pub grouped_next : (sections : List Section) (i : ℕ) (listed : Listed) (d : Section) (old new : Grouped Listed) → i < length sections → listed.section.now ≡ get_or sections i d → AreGrouped (map excerpt (take i sections)) old →
    ((seen : List Excerpt) → AreGrouped seen old → AreGrouped (seen ++ excerpt listed.section.now ∷ []) new) → AreGrouped (map excerpt (take (i + 1) sections)) new
grouped_next sections i listed d old new lt is before more =
    subst (λ seen. AreGrouped seen new) (sym (map_take_next excerpt sections i listed.section.now d lt is)) (more (map excerpt (take i sections)) before)

names_of_blocks : (blocks : List Block) → filter_map name_in (map excerpt_of blocks) ≡ filter_map head_name blocks
names_of_blocks [] = refl
names_of_blocks (block ∷ blocks) = ap (cons_option (head_name block)) (names_of_blocks blocks)

pub grouped_defined : (blocks : List Block) (groups : Grouped Listed) → AreGrouped (map excerpt_of blocks) groups → groups.0 ≡ defined blocks
grouped_defined blocks groups are = are.names ∙ ap (fold with_name []) (names_of_blocks blocks)

-- the places and faults of sections are those of their blocks
pub places_by : (sections : List Section) (blocks : List Block) → map excerpt sections ≡ map excerpt_of blocks → flat_map (λ section. places_in section.block.items) sections ≡ places_of blocks
places_by [] [] e = refl
places_by [] (b ∷ blocks) e = absurd (cc)
places_by (s ∷ sections) [] e = absurd (cc)
places_by (s ∷ sections) (b ∷ blocks) e =
    let h = cons_same e in (λ i. places_in (h.0 i).items ++ places_by sections blocks h.1 i)

fault_by : (block : Block) (fault : Option SyntaxFault) (section : Section) → section.fault ≡ fault → fault ≡ fault_shown block.said → section_fault section ≡ block_fault block
fault_by block fault section e h = by block.said (e ∙ h)
  where
    by : (said : Result Rule SyntaxFault) → section.fault ≡ fault_shown said → section_fault section ≡ fault_said said
    by (Ok rule) e = rw e refl
    by (Err fault) e = rw e refl

pub faults_by : (sections : List Section) (blocks : List Block) → map excerpt sections ≡ map excerpt_of blocks → filter_map section_fault sections ≡ faults_of blocks
faults_by [] [] e = refl
faults_by [] (b ∷ blocks) e = absurd (cc)
faults_by (s ∷ sections) [] e = absurd (cc)
faults_by (s ∷ sections) (b ∷ blocks) e =
    let h = cons_same e in (λ i. cons_option (fault_by b s.fault s refl (ap (λ (x : Excerpt). x.fault) h.0) i) (faults_by sections blocks h.1 i))

stated_more : (places : List Named) (n : Named) → stated (places ++ n ∷ []) ≡ with_core_name (stated places) (lowercase n.text)
stated_more places n =
    ap (fold with_core_name []) (map-append (λ (place : Named). lowercase place.text) places (n ∷ []))
    ∙ fold-append with_core_name [] (map (λ (place : Named). lowercase place.text) places) (lowercase n.text ∷ [])

-- the name of one more spot that a loop has seen
pub stated_next : (spots : List Spot) (i : ℕ) (spot d : Spot) (old new : List Name) → i < length spots → spot ≡ get_or spots i d → old ≡ stated (map named_at (take i spots)) →
    new ≡ with_core_name old (folded_text spot.name) → new ≡ stated (map named_at (take (i + 1) spots))
stated_next spots i spot d old new lt is before now =
    now
    ∙ (ap (λ names. with_core_name names (folded_text spot.name)) before
    ∙ sym (ap stated (map_take_next named_at spots i spot d lt is) ∙ stated_more (map named_at (take i spots)) (named_at spot)))

-- what is known of two clauses together
pub on_both : {A E : Type 0} (r : Result A E) (P Q R : Type 0) → (P → Q → R) → OnOk r P → OnOk r Q → OnOk r R
on_both (Ok x) P Q R f p q = f p q
on_both (Err e) P Q R f p q = tt
