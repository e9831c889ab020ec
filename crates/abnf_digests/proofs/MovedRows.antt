-- A row of the table that holds of a block holds, moved, of the block of the same lines in another text.
use Rattle.std.proofs.Common.{◌≡◌, ℕ, ◌+◌, ◌<◌, ◌≤◌, false, List, map, Option, Some, None, option_map, Result, Ok, Err, Bool, refl, sym, ap, subst, ◌∙◌, arith}
use Rattle.std.specs.Prelude.{◌↔◌, Contains}
use Rattle.ls_text.specs.declared.position.Place.{Place}
use Rattle.abnf_token.specs.Classes.{Text}
use Rattle.abnf_token.specs.Folded.{lowercase}
use Rattle.abnf_syntax.specs.declared.block.Head.{Head}
use Rattle.abnf_syntax.specs.declared.fault.SyntaxFault.{SyntaxFault}
use Rattle.abnf_syntax.specs.declared.fault.SyntaxFault.TheVariants as f
use Rattle.abnf_syntax.specs.declared.item.Item.{Item}
use Rattle.abnf_syntax.specs.declared.tree.Rule.{Rule}
use Rattle.abnf_syntax.specs.Faults.{place_of}
use Rattle.abnf_syntax.specs.Grammar.{kind_of}
use Rattle.abnf_parts.specs.Leaf.{repeat_limits, ends_of, number_part}
use Rattle.abnf_parts.specs.Names.{Name, rule_number}
use Rattle.abnf_names.specs.Said.{Block, BlockSays, IsWithin, name_of}
use Rattle.abnf_names.specs.Places.{Named, places_in}
use Rattle.abnf_names.specs.Rules.{names_of, rules_of}
use Rattle.abnf_names.specs.Shown.{fault_shown}
use Rattle.abnf_lint.specs.declared.finding.Code.{Code}
use Rattle.abnf_lint.specs.declared.finding.Code.TheVariants as c
use Rattle.abnf_lint.specs.Rows.{syntax_place, IsEmptyRepeat, IsEmptyRange, HasHead, AnyDefines, AnyBases, IsIdle, RowHolds}
use Rattle.abnf_lint.specs.Unproductive.{IsUnproductive}
use Rattle.abnf_digests.specs.Moved.{moved_line, moved_place, moved_fault, moved_code}
use Rattle.abnf_digests.specs.SameLines.{AreSameLines, placeless, fault_kind}
use Rattle.abnf_digests.proofs.Placed.{Placed, same, place_by, placed, fault_by}
use Rattle.abnf_digests.proofs.MovedItems.{get_by, item_there, head_there, named_there, same_placed}
use Rattle.abnf_digests.proofs.SameDigests.{same_digests}
use Rattle.abnf_digests.proofs.SameFaults.{same_fault_by}

abbrev code_by : (ℕ → ℕ) → Code → Code
code_by g (c.Syntax fault) = c.Syntax (fault_by g same fault)
code_by g code = code

-- A row holds of a block that is the same as that of the first text, where g and k renumber the lines of the first text and of this one.
pub record RowAlike (g k : ℕ → ℕ) (blocks before : List Block) (block : Block) (place : Place) (name : List ℕ) (code : Code) : Type 0 where
  pub there : Place
  pub kind : Code
  pub holds : RowHolds blocks before block there name kind
  pub place_is : place_by k same there ≡ place_by g same place
  pub code_is : code_by k kind ≡ code_by g code

-- ---- what is said

-- Both say rules, or both show the same fault.
abbrev SaidAlike : (ℕ → ℕ) → (ℕ → ℕ) → Result Rule SyntaxFault → Result Rule SyntaxFault → Type 0
SaidAlike g k (Ok rule) (Ok other) = Unit {0}
SaidAlike g k (Err fault) (Err other) = fault_by k same other ≡ fault_by g same fault
SaidAlike g k _ _ = ⊥

module _ (g k : ℕ → ℕ) where
  said_alike : (xs ys : List Item) (said other : Result Rule SyntaxFault) → map (placed g same) xs ≡ map (placed k same) ys → BlockSays xs said → BlockSays ys other
      → option_map placeless (fault_shown said) ≡ option_map placeless (fault_shown other) → SaidAlike g k said other
  said_alike xs ys (Ok rule) (Ok other) e p q s = tt
  said_alike xs ys (Ok rule) (Err fault) e p q s = absurd (cc (s))
  said_alike xs ys (Err fault) (Ok other) e p q s = absurd (cc (s))
  said_alike xs ys (Err fault) (Err other) e p q s = sym (same_fault_by g same k same xs ys fault other e p q)

  rule_there : (said other : Result Rule SyntaxFault) → SaidAlike g k said other → (rule : Rule) × (said ≡ Ok rule) → (rule : Rule) × (other ≡ Ok rule)
  rule_there (Ok rule) (Ok other) s h = (other, refl)
  rule_there (Ok rule) (Err fault) s h = absurd s
  rule_there (Err fault) (Ok other) s h = absurd s
  rule_there (Err fault) (Err other) s h = absurd (let e : Err fault ≡ Ok h.0 = h.1 in cc (e))

  fault_there : (said other : Result Rule SyntaxFault) → SaidAlike g k said other → (a : SyntaxFault) → said ≡ Err a
      → (b : SyntaxFault) × (other ≡ Err b) × (fault_by k same b ≡ fault_by g same a)
  fault_there (Ok rule) (Ok other) s a e = absurd (cc (e))
  fault_there (Ok rule) (Err fault) s a e = absurd s
  fault_there (Err fault) (Ok other) s a e = absurd s
  fault_there (Err fault) (Err other) s a e = let is : fault ≡ a = cc (e) in (other, refl, s ∙ ap (fault_by g same) is)

-- the place of a fault of the syntax
syntax_by : (g : ℕ → ℕ) (fault : SyntaxFault) → syntax_place (fault_by g same fault) ≡ option_map (place_by g same) (syntax_place fault)
syntax_by g (f.NoName p) = refl
syntax_by g (f.NoDefinedAs p) = refl
syntax_by g (f.BadToken p) = refl
syntax_by g (f.ElementExpected p) = refl
syntax_by g (f.BlankExpected p) = refl
syntax_by g (f.Unclosed p) = refl
syntax_by g (f.NumberTooLarge p) = refl
syntax_by g (f.TooDeep p) = refl
syntax_by g f.Memory = refl

large_back : (k : ℕ → ℕ) (b : SyntaxFault) (p : Place) → fault_by k same b ≡ f.NumberTooLarge p → (q : Place) × (b ≡ f.NumberTooLarge q) × (place_by k same q ≡ p)
large_back k (f.NoName q) p e = absurd (cc (e))
large_back k (f.NoDefinedAs q) p e = absurd (cc (e))
large_back k (f.BadToken q) p e = absurd (cc (e))
large_back k (f.ElementExpected q) p e = absurd (cc (e))
large_back k (f.BlankExpected q) p e = absurd (cc (e))
large_back k (f.Unclosed q) p e = absurd (cc (e))
large_back k (f.NumberTooLarge q) p e = (q, refl, cc (e))
large_back k (f.TooDeep q) p e = absurd (cc (e))
large_back k f.Memory p e = absurd (cc (e))

deep_back : (k : ℕ → ℕ) (b : SyntaxFault) (p : Place) → fault_by k same b ≡ f.TooDeep p → (q : Place) × (b ≡ f.TooDeep q) × (place_by k same q ≡ p)
deep_back k (f.NoName q) p e = absurd (cc (e))
deep_back k (f.NoDefinedAs q) p e = absurd (cc (e))
deep_back k (f.BadToken q) p e = absurd (cc (e))
deep_back k (f.ElementExpected q) p e = absurd (cc (e))
deep_back k (f.BlankExpected q) p e = absurd (cc (e))
deep_back k (f.Unclosed q) p e = absurd (cc (e))
deep_back k (f.NumberTooLarge q) p e = absurd (cc (e))
deep_back k (f.TooDeep q) p e = (q, refl, cc (e))
deep_back k f.Memory p e = absurd (cc (e))

-- ---- items

repeat_there : (x y : Item) → kind_of y ≡ kind_of x → y.token.text.now ≡ x.token.text.now → IsEmptyRepeat x → IsEmptyRepeat y
repeat_there x y kind text h = record {
  repeat = kind ∙ h.repeat;
  most = h.most;
  bounded = ap (λ t. (repeat_limits t).1) text ∙ h.bounded;
  above = subst (λ t. h.most < (repeat_limits t).0) (sym text) h.above;
}

range_there : (x y : Item) → kind_of y ≡ kind_of x → y.token.text.now ≡ x.token.text.now → IsEmptyRange x → IsEmptyRange y
range_there x y kind text h = record {
  number = kind ∙ h.number;
  ends = h.ends;
  range = ap (λ t. ends_of (number_part t)) text ∙ h.range;
  above = h.above;
}

-- ---- a row

module _ (g k : ℕ → ℕ) (blocks before fresh earlier : List Block) (block other : Block)
    (e : map (placed g same) block.items ≡ map (placed k same) other.items) (s : SaidAlike g k block.said other.said)
    (names : names_of blocks ≡ names_of fresh) (idle : (r : ℕ) → IsUnproductive (rules_of blocks) r → IsUnproductive (rules_of fresh) r)
    (defines : (name : Name) → AnyDefines earlier name → AnyDefines before name) (bases : (name : Name) → AnyBases before name ↔ AnyBases earlier name) where
  abbrev Goes : Place → List ℕ → Code → Type 0
  Goes place name code = RowAlike g k fresh earlier other place name code

  number_there : (name : Name) (o : Option ℕ) → rule_number (names_of blocks) name ≡ o → rule_number (names_of fresh) name ≡ o
  number_there name o is = ap (λ ns. rule_number ns name) (sym names) ∙ is

  syntax_goes : (fault : SyntaxFault) (place : Place) (name : List ℕ) → RowHolds blocks before block place name (c.Syntax fault) → Goes place name (c.Syntax fault)
  syntax_goes fault place name h =
      let b = fault_there g k block.said other.said s fault h.0 in
      let at : option_map (place_by k same) (syntax_place b.0) ≡ Some (place_by g same place) =
      sym (syntax_by k b.0) ∙ (ap syntax_place b.2 ∙ (syntax_by g fault ∙ ap (option_map (place_by g same)) h.1))
      in
      let p = get_by (place_by k same) (syntax_place b.0) (place_by g same place) at in
      record { there = p.0; kind = c.Syntax b.0; holds = (b.1, p.1, h.2); place_is = p.2; code_is = ap c.Syntax b.2 }

  large_goes : (place : Place) (name : List ℕ) → RowHolds blocks before block place name c.NumberTooLarge → Goes place name c.NumberTooLarge
  large_goes place name h =
      let b = fault_there g k block.said other.said s (f.NumberTooLarge place) h.0 in
      let q = large_back k b.0 (place_by g same place) b.2 in
      record { there = q.0; kind = c.NumberTooLarge; holds = (b.1 ∙ ap Err q.1, h.1); place_is = q.2; code_is = refl }

  deep_goes : (place : Place) (name : List ℕ) → RowHolds blocks before block place name c.TooDeep → Goes place name c.TooDeep
  deep_goes place name h =
      let b = fault_there g k block.said other.said s (f.TooDeep place) h.0 in
      let q = deep_back k b.0 (place_by g same place) b.2 in
      record { there = q.0; kind = c.TooDeep; holds = (b.1 ∙ ap Err q.1, h.1); place_is = q.2; code_is = refl }

  undefined_goes : (place : Place) (name : List ℕ) → RowHolds blocks before block place name c.Undefined → Goes place name c.Undefined
  undefined_goes place name h =
      let m = named_there g k block.items other.items e (record { text = name; place = place; defines = false }) h.1 in
      let text : m.0.text ≡ name = ap (λ (n : Named). n.text) m.2 in
      let defines_is : m.0.defines ≡ false = ap (λ (n : Named). n.defines) m.2 in
      let is : m.0 ≡ record { text = name; place = m.0.place; defines = false } = (λ i. record { text = text i; place = m.0.place; defines = defines_is i }) in
      record {
        there = m.0.place;
        kind = c.Undefined;
        holds = (rule_there g k block.said other.said s h.0, subst (λ n. Contains (places_in other.items) n) is m.1, number_there (lowercase name) None h.2);
        place_is = ap (λ (n : Named). n.place) m.2;
        code_is = refl;
      }

  -- the head there, and what is the same of it
  record HeadThere (place : Place) (name : List ℕ) (head : Head) : Type 0 where
    new : Head
    has : HasHead other (place_of new.name) name new
    at : place_by k same (place_of new.name) ≡ place_by g same place
    adds : new.adds ≡ head.adds
    name_is : name_of new ≡ name_of head

  has_head : (place : Place) (name : List ℕ) (head : Head) → HasHead block place name head → HeadThere place name head
  has_head place name head h =
      let o = head_there g k block.items other.items e head h.heads in
      let text : o.0.name.text.now ≡ head.name.text.now = ap (λ (t : Text × Place × Bool). t.0) o.2 in
      record {
        new = o.0;
        has = record { heads = o.1; at = refl; spelled = h.spelled ∙ sym text };
        at = ap (λ (t : Text × Place × Bool). t.1) o.2 ∙ ap (place_by g same) (sym h.at);
        adds = ap (λ (t : Text × Place × Bool). t.2) o.2;
        name_is = ap lowercase text;
      }

  duplicate_goes : (place : Place) (name : List ℕ) → RowHolds blocks before block place name c.Duplicate → Goes place name c.Duplicate
  duplicate_goes place name h =
      let o = has_head place name h.0 h.1 in
      record {
        there = place_of o.new.name;
        kind = c.Duplicate;
        holds = (o.new, o.has, o.adds ∙ h.2, (bases (name_of o.new)).0 (subst (AnyBases before) (sym o.name_is) h.3));
        place_is = o.at;
        code_is = refl;
      }

  no_base_goes : (place : Place) (name : List ℕ) → RowHolds blocks before block place name c.NoBase → Goes place name c.NoBase
  no_base_goes place name h =
      let o = has_head place name h.0 h.1 in
      record {
        there = place_of o.new.name;
        kind = c.NoBase;
        holds = (o.new, o.has, o.adds ∙ h.2, λ some. h.3 (subst (AnyBases before) o.name_is ((bases (name_of o.new)).1 some)));
        place_is = o.at;
        code_is = refl;
      }

  idle_there : (name : Name) → IsIdle blocks name → IsIdle fresh name
  idle_there name h = (h.0, number_there name (Some h.0) h.1, idle h.0 h.2)

  unproductive_goes : (place : Place) (name : List ℕ) → RowHolds blocks before block place name c.Unproductive → Goes place name c.Unproductive
  unproductive_goes place name h =
      let o = has_head place name h.0 h.1 in
      record {
        there = place_of o.new.name;
        kind = c.Unproductive;
        holds = (o.new, o.has, λ some. h.2 (subst (AnyDefines before) o.name_is (defines (name_of o.new) some)), subst (IsIdle fresh) (sym o.name_is) (idle_there (name_of h.0) h.3));
        place_is = o.at;
        code_is = refl;
      }

  repeat_goes : (place : Place) (name : List ℕ) → RowHolds blocks before block place name c.EmptyRepeat → Goes place name c.EmptyRepeat
  repeat_goes place name h =
      let y = item_there g k block.items other.items e h.1.item h.1.among in
      let is : IsEmptyRepeat y.0 = repeat_there h.1.item y.0 (ap (λ (x : Placed). x.0) y.2) (ap (λ (x : Placed). x.1) y.2) h.1.is in
      record {
        there = place_of y.0.token;
        kind = c.EmptyRepeat;
        holds = (rule_there g k block.said other.said s h.0, record { item = y.0; among = y.1; at = refl; is = is }, h.2);
        place_is = ap (λ (x : Placed). x.3) y.2 ∙ ap (place_by g same) (sym h.1.at);
        code_is = refl;
      }

  range_goes : (place : Place) (name : List ℕ) → RowHolds blocks before block place name c.EmptyRange → Goes place name c.EmptyRange
  range_goes place name h =
      let y = item_there g k block.items other.items e h.1.item h.1.among in
      let is : IsEmptyRange y.0 = range_there h.1.item y.0 (ap (λ (x : Placed). x.0) y.2) (ap (λ (x : Placed). x.1) y.2) h.1.is in
      record {
        there = place_of y.0.token;
        kind = c.EmptyRange;
        holds = (rule_there g k block.said other.said s h.0, record { item = y.0; among = y.1; at = refl; is = is }, h.2);
        place_is = ap (λ (x : Placed). x.3) y.2 ∙ ap (place_by g same) (sym h.1.at);
        code_is = refl;
      }

  row_goes : (place : Place) (name : List ℕ) (code : Code) → RowHolds blocks before block place name code → Goes place name code
  row_goes place name (c.Syntax fault) h = syntax_goes fault place name h
  row_goes place name c.NumberTooLarge h = large_goes place name h
  row_goes place name c.TooDeep h = deep_goes place name h
  row_goes place name c.Undefined h = undefined_goes place name h
  row_goes place name c.Duplicate h = duplicate_goes place name h
  row_goes place name c.NoBase h = no_base_goes place name h
  row_goes place name c.EmptyRepeat h = repeat_goes place name h
  row_goes place name c.EmptyRange h = range_goes place name h
  row_goes place name c.Unproductive h = unproductive_goes place name h

-- ---- moved

fault_stays : (fault : SyntaxFault) → fault_by same same fault ≡ fault
fault_stays (f.NoName p) = refl
fault_stays (f.NoDefinedAs p) = refl
fault_stays (f.BadToken p) = refl
fault_stays (f.ElementExpected p) = refl
fault_stays (f.BlankExpected p) = refl
fault_stays (f.Unclosed p) = refl
fault_stays (f.NumberTooLarge p) = refl
fault_stays (f.TooDeep p) = refl
fault_stays f.Memory = refl

code_stays : (code : Code) → code_by same code ≡ code
code_stays (c.Syntax fault) = ap c.Syntax (fault_stays fault)
code_stays c.NumberTooLarge = refl
code_stays c.TooDeep = refl
code_stays c.Undefined = refl
code_stays c.Duplicate = refl
code_stays c.NoBase = refl
code_stays c.EmptyRepeat = refl
code_stays c.EmptyRange = refl
code_stays c.Unproductive = refl

module _ (front old new : ℕ) where
  fault_moves : (fault : SyntaxFault) → fault_by (moved_line front old new) same fault ≡ moved_fault front old new fault
  fault_moves (f.NoName p) = refl
  fault_moves (f.NoDefinedAs p) = refl
  fault_moves (f.BadToken p) = refl
  fault_moves (f.ElementExpected p) = refl
  fault_moves (f.BlankExpected p) = refl
  fault_moves (f.Unclosed p) = refl
  fault_moves (f.NumberTooLarge p) = refl
  fault_moves (f.TooDeep p) = refl
  fault_moves f.Memory = refl

  code_moves : (code : Code) → code_by (moved_line front old new) code ≡ moved_code front old new code
  code_moves (c.Syntax fault) = ap c.Syntax (fault_moves fault)
  code_moves c.NumberTooLarge = refl
  code_moves c.TooDeep = refl
  code_moves c.Undefined = refl
  code_moves c.Duplicate = refl
  code_moves c.NoBase = refl
  code_moves c.EmptyRepeat = refl
  code_moves c.EmptyRange = refl
  code_moves c.Unproductive = refl

-- a row that holds of the block before it has moved
pub record RowCame (front old new : ℕ) (blocks before : List Block) (block : Block) (place : Place) (name : List ℕ) (code : Code) : Type 0 where
  pub there : Place
  pub kind : Code
  pub holds : RowHolds blocks before block there name kind
  pub place_is : place ≡ moved_place front old new there
  pub code_is : code ≡ moved_code front old new kind

module _ (ls others : List Text) (bounds there : ℕ × ℕ) (front old new : ℕ) (blocks before fresh earlier : List Block)
    (block other : Block) (lines : AreSameLines ls others bounds there)
    (moves : (n : ℕ) → bounds.0 ≤ n → n < bounds.1 → moved_line front old new n + bounds.0 ≡ n + there.0)
    (within : IsWithin ls bounds block) (beyond : IsWithin others there other)
    (names : names_of blocks ≡ names_of fresh) (idle : (r : ℕ) → IsUnproductive (rules_of blocks) r ↔ IsUnproductive (rules_of fresh) r)
    (defines : (name : Name) → AnyDefines before name ↔ AnyDefines earlier name) (bases : (name : Name) → AnyBases before name ↔ AnyBases earlier name) where
  items_same : map (placed (moved_line front old new) same) block.items ≡ map (placed same same) other.items
  items_same =
      same_placed (moved_line front old new) same ls others bounds there block.items other.items lines
      (λ n less. omega (arith, moves (bounds.0 + n) (omega arith) less)) within.items beyond.items

  faults_same : fault_kind block ≡ fault_kind other
  faults_same = (same_digests ls others bounds there block other lines within beyond).1

  pub row_moves : (place : Place) (name : List ℕ) (code : Code) → RowHolds blocks before block place name code
      → RowHolds fresh earlier other (moved_place front old new place) name (moved_code front old new code)
  row_moves place name code h =
      let s = said_alike (moved_line front old new) same block.items other.items block.said other.said items_same within.says beyond.says faults_same in
      let r =
      row_goes (moved_line front old new) same blocks before fresh earlier block other items_same s names (λ r. (idle r).0) (λ name. (defines name).1) bases
      place name code h
      in
      let at : r.there ≡ moved_place front old new place = r.place_is in
      let is : r.kind ≡ moved_code front old new code = sym (code_stays r.kind) ∙ (r.code_is ∙ code_moves front old new code) in
      subst (λ p. RowHolds fresh earlier other p name (moved_code front old new code)) at (subst (λ k. RowHolds fresh earlier other r.there name k) is r.holds)

  pub row_came : (place : Place) (name : List ℕ) (code : Code) → RowHolds fresh earlier other place name code → RowCame front old new blocks before block place name code
  row_came place name code h =
      let s = said_alike same (moved_line front old new) other.items block.items other.said block.said (sym items_same) beyond.says within.says (sym faults_same) in
      let r =
      row_goes same (moved_line front old new) fresh earlier blocks before other block (sym items_same) s (sym names) (λ r. (idle r).1) (λ name. (defines name).0)
      (λ name. ((bases name).1, (bases name).0)) place name code h
      in
      record {
        there = r.there;
        kind = r.kind;
        holds = r.holds;
        place_is = sym r.place_is;
        code_is = sym (code_stays code) ∙ (sym r.code_is ∙ code_moves front old new r.kind);
      }
