-- The laws of the whole parse.
use Rattle.std.proofs.Common.{◌≡◌, ◌<◌, Bool, true, false, List, [], ◌∷◌, ◌++◌, length, Option, Some, None, Result, Ok, Err, sym, refl, ap, subst, ◌∙◌, arith, ◌⊎◌, inl, inr, if◌then◌else◌}
use Rattle.abnf_token.specs.declared.token.Kind.{Kind}
use Rattle.abnf_token.specs.declared.token.Kind.TheVariants as k
use Rattle.abnf_syntax.specs.declared.item.Item.{Item}
use Rattle.abnf_syntax.specs.declared.fault.SyntaxFault.{SyntaxFault}
use Rattle.abnf_syntax.specs.declared.fault.SyntaxFault.TheVariants as f
use Rattle.abnf_syntax.specs.declared.tree.Rule.{Rule}
use Rattle.abnf_syntax.specs.Kinds.{is_name_kind, is_adds, is_defined_as, needs_element, ends_element}
use Rattle.abnf_syntax.specs.Grammar.{kind_of, Alternation, Derives, IsAlternation, max_nesting, defined_as}
use Rattle.abnf_syntax.specs.Faults.{Faults, shown, place_of, place_after}
use Rattle.abnf_syntax.specs.Machine.{start, run, parse, parse_body, rule_with}
use Rattle.abnf_syntax.proofs.Front.{ready_at_start}
use Rattle.abnf_syntax.proofs.Front.Phase.{is_ready}
use Rattle.abnf_syntax.proofs.Rows.{never}
use Rattle.abnf_syntax.proofs.Sound.{Stands, sound}
use Rattle.abnf_syntax.proofs.Complete.{complete}
use Rattle.abnf_syntax.proofs.FaultSide.{faulty}

name_is : (kind : Kind) → is_name_kind kind ≡ true → kind ≡ k.Name
name_is k.Name h = refl
name_is _ h = never h

defined_is : (kind : Kind) → is_defined_as kind ≡ true → kind ≡ defined_as (is_adds kind)
defined_is k.Defines h = refl
defined_is k.Adds h = refl
defined_is _ h = never h

needs : (kind : Kind) → is_defined_as kind ≡ true → needs_element kind ≡ true
needs k.Defines h = refl
needs k.Adds h = refl
needs _ h = never h

fresh : (kind : Kind) → is_defined_as kind ≡ true → ends_element kind ≡ false
fresh k.Defines h = refl
fresh k.Adds h = refl
fresh _ h = never h

pub chosen_ok : (b : Bool) (x : Result Rule SyntaxFault) (fault : SyntaxFault) (rule : Rule) → (if b then x else Err fault) ≡ Ok rule → (b ≡ true) × (x ≡ Ok rule)
chosen_ok true x fault rule h = (refl, h)
chosen_ok false x fault rule h = absurd (cc)

chosen_err : (b : Bool) (x : Result Rule SyntaxFault) (fault other : SyntaxFault) → (if b then x else Err fault) ≡ Err other → ((b ≡ true) × (x ≡ Err other)) ⊎ ((b ≡ false) × (fault ≡ other))
chosen_err true x fault other h = inl (refl, h)
chosen_err false x fault other h = inr (refl, cc)

at_start : (defined : Item) (body : List Item) → is_defined_as (kind_of defined) ≡ true → Stands body body (start defined)
at_start defined body d = record { room = max_nesting; start = body; nest = (refl, refl); sum = refl; phase = is_ready (needs _ d) (fresh _ d) refl (ready_at_start max_nesting body) }

pub rule_ok : (head defined : Item) (r : Result Alternation SyntaxFault) (rule : Rule) → rule_with head defined r ≡ Ok rule → (a : Alternation) × (r ≡ Ok a) × (rule.name ≡ head.token) × (rule.adds ≡ is_adds (kind_of defined)) × (rule.body ≡ a)
rule_ok head defined (Ok a) rule h = (a, refl, cc, cc, cc)
rule_ok head defined (Err fault) rule h = absurd (cc)

rule_err : (head defined : Item) (r : Result Alternation SyntaxFault) (fault : SyntaxFault) → rule_with head defined r ≡ Err fault → r ≡ Err fault
rule_err head defined (Ok a) fault h = absurd (cc)
rule_err head defined (Err other) fault h = cc

pub neither : {A : Type 0} (b : Bool) (x y : SyntaxFault) (rule : Rule) → (if b then Err x else Err y) ≡ Ok rule → A
neither true x y rule h = absurd (cc)
neither false x y rule h = absurd (cc)

err_some : (x y : SyntaxFault) → ◌≡◌ {A = Result Rule SyntaxFault} (Err x) (Err y) → ◌≡◌ {A = Option SyntaxFault} (Some x) (Some y)
err_some x y h = cc

pub parse_sound : (items : List Item) (rule : Rule) → parse items ≡ Ok rule → Derives items rule
parse_sound [] rule h = absurd (cc)
parse_sound (head ∷ []) rule h = neither _ _ _ rule h
parse_sound (head ∷ defined ∷ body) rule h =
    let c = chosen_ok _ _ _ _ h in
    let d = chosen_ok _ _ _ _ c.1 in
    let r = rule_ok head defined _ rule d.1 in
    record {
      head = head;
      defined = defined;
      body = body;
      split = refl;
      named = name_is _ c.0;
      name = r.2;
      adds = defined_is _ d.0 ∙ ap defined_as (sym r.3);
      alternation = subst (IsAlternation max_nesting body []) (sym r.4) (sound body body (start defined) r.0 (at_start defined body d.0) r.1);
    }

defines : (adds : Bool) → is_defined_as (defined_as adds) ≡ true
defines true = refl
defines false = refl

adds_back : (adds : Bool) → is_adds (defined_as adds) ≡ adds
adds_back true = refl
adds_back false = refl

rule_is : (head defined : Item) (rule : Rule) (r : Result Alternation SyntaxFault) → head.token ≡ rule.name → is_adds (kind_of defined) ≡ rule.adds → r ≡ Ok rule.body → rule_with head defined r ≡ Ok rule
rule_is head defined rule r n a h = ap (rule_with head defined) h ∙ (λ i. Ok (record { name = n i; adds = a i; body = rule.body }))

parses : (head defined : Item) (body : List Item) (rule : Rule) → kind_of head ≡ k.Name → rule.name ≡ head.token → kind_of defined ≡ defined_as rule.adds → IsAlternation max_nesting body [] rule.body → parse (head ∷ defined ∷ body) ≡ Ok rule
parses head defined body rule n m d a =
    let is_defined : is_defined_as (kind_of defined) ≡ true = ap is_defined_as d ∙ defines rule.adds in
    let adds : is_adds (kind_of defined) ≡ rule.adds = ap is_adds d ∙ adds_back rule.adds in
    let is_named : is_name_kind (kind_of head) ≡ true = ap is_name_kind n in
    rw (is_named, is_defined) (rule_is head defined rule _ (sym m) adds (complete defined body rule.body (fresh _ is_defined) a))

pub parse_complete : (items : List Item) (rule : Rule) → Derives items rule → parse items ≡ Ok rule
parse_complete items rule d = ap parse d.split ∙ parses d.head d.defined d.body rule d.named d.name d.adds d.alternation

no_first : (item : Item) (rest : List Item) → is_name_kind (kind_of item) ≡ false → Faults (item ∷ rest) (f.NoName (place_of item.token))
no_first item rest h = record { front = []; rest = item ∷ rest; split = refl; shows = rw h refl; first = λ before after e lt. absurd (omega arith) }

no_second_by : (head : Item) (rest before after : List Item) → is_name_kind (kind_of head) ≡ true → head ∷ rest ≡ before ++ after → length before < 1 → shown before after ≡ None
no_second_by head rest [] after h e lt = subst (λ l. shown [] l ≡ None) e (rw h refl)
no_second_by head rest (x ∷ xs) after h e lt = absurd (omega arith)

no_second : (head : Item) (rest : List Item) (fault : SyntaxFault) → is_name_kind (kind_of head) ≡ true → shown (head ∷ []) rest ≡ Some fault → Faults (head ∷ rest) fault
no_second head rest fault h s = record { front = head ∷ []; rest = rest; split = refl; shows = s; first = λ before after e lt. no_second_by head rest before after h e lt }

behind_head : (head defined : Item) (body : List Item) (fault : SyntaxFault) → is_name_kind (kind_of head) ≡ true →
    ((is_defined_as (kind_of defined) ≡ true) × (rule_with head defined (run (start defined) body) ≡ Err fault)) ⊎ ((is_defined_as (kind_of defined) ≡ false) × (f.NoDefinedAs (place_of defined.token) ≡ fault)) → Faults (head ∷ defined ∷ body) fault
behind_head head defined body fault e (inl q) = faulty head defined body (start defined) fault (rw e refl) (let d = q.0 in rw d refl) refl refl (rule_err head defined _ fault q.1)
behind_head head defined body fault e (inr q) = no_second head (defined ∷ body) fault e (let d = q.0 in rw d (ap Some q.1))

pub parse_faulty : (items : List Item) (fault : SyntaxFault) → 0 < length items → parse items ≡ Err fault → Faults items fault
parse_faulty [] fault some h = absurd (omega arith)
parse_faulty (head ∷ []) fault some h =
    elim (chosen_err (is_name_kind (kind_of head)) (Err (f.NoDefinedAs (place_after head.token))) (f.NoName (place_of head.token)) fault h) [
      | inl p ↦ no_second head [] fault p.0 (err_some _ _ p.1)
      | inr p ↦ subst (Faults (head ∷ [])) p.1 (no_first head [] p.0)
    ]
parse_faulty (head ∷ defined ∷ body) fault some h =
    elim (chosen_err (is_name_kind (kind_of head)) (parse_body head (defined ∷ body)) (f.NoName (place_of head.token)) fault h) [
      | inl p ↦ behind_head head defined body fault p.0 (chosen_err (is_defined_as (kind_of defined)) (rule_with head defined (run (start defined) body)) (f.NoDefinedAs (place_of defined.token)) fault p.1)
      | inr p ↦ subst (Faults (head ∷ defined ∷ body)) p.1 (no_first head (defined ∷ body) p.0)
    ]

answer_by : (items : List Item) → 0 < length items → (r : Result Rule SyntaxFault) → parse items ≡ r → ((rule : Rule) × Derives items rule) ⊎ ((fault : SyntaxFault) × Faults items fault)
answer_by items some (Ok rule) h = inl (rule, parse_sound items rule h)
answer_by items some (Err fault) h = inr (fault, parse_faulty items fault some h)

-- Items say a rule, or show a fault.
pub some_answer : (items : List Item) → 0 < length items → ((rule : Rule) × Derives items rule) ⊎ ((fault : SyntaxFault) × Faults items fault)
some_answer items some = answer_by items some (parse items) refl
