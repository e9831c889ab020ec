-- A fault of one of the first three items, or of the end where there are fewer.
use Rattle.std.proofs.Common.{◌≡◌, ℕ, ◌+◌, ◌-◌, ◌<◌, ◌≤◌, Bool, true, false, List, [], ◌∷◌, ◌++◌, length, take, drop, get_or, Option, Some, None, Result, Err, sym, refl, subst, ◌∙◌, arith, if◌then◌else◌}
use Rattle.std.proofs.lemmas.List.{take_all}
use Rattle.abnf_syntax.specs.declared.item.Item.{Item}
use Rattle.abnf_syntax.specs.declared.fault.SyntaxFault.{SyntaxFault}
use Rattle.abnf_syntax.specs.Kinds.{is_name_kind, is_defined_as}
use Rattle.abnf_syntax.specs.Grammar.{kind_of}
use Rattle.abnf_syntax.specs.Faults.{shown, Faults}
use Rattle.abnf_syntax.specs.Machine.{start, fault_at, early, early_behind}

shows_here : (b : Bool) (o : Option SyntaxFault) (f fault : SyntaxFault) → (if b then None else Some f) ≡ Some fault → (if b then o else Some f) ≡ Some fault
shows_here true o f fault h = absurd (cc)
shows_here false o f fault h = h

shows_later : (b : Bool) (o : Option SyntaxFault) (f : SyntaxFault) → (if b then None else Some f) ≡ None → (if b then o else Some f) ≡ o
shows_later true o f h = refl
shows_later false o f h = absurd (cc)

by_front : (front rest : List Item) (fault : SyntaxFault) → shown front rest ≡ Some fault → ((before after : List Item) → front ++ rest ≡ before ++ after → length before < length front → shown before after ≡ None)
    → length front < 3 → early (front ++ rest) ≡ Some fault
unfolding fault_at
by_front [] [] fault s first few = absurd (cc)
by_front [] (item ∷ rest) fault s first few = shows_here (is_name_kind (kind_of item)) (early_behind item rest) _ fault s
by_front (head ∷ []) [] fault s first few = shows_later (is_name_kind (kind_of head)) (early_behind head []) _ (first [] (head ∷ []) refl (omega arith)) ∙ s
by_front (head ∷ []) (item ∷ rest) fault s first few =
    shows_later (is_name_kind (kind_of head)) (early_behind head (item ∷ rest)) _ (first [] (head ∷ item ∷ rest) refl (omega arith))
    ∙ shows_here (is_defined_as (kind_of item)) (fault_at (start item) rest) _ fault s
by_front (head ∷ defined ∷ []) rest fault s first few =
    shows_later (is_name_kind (kind_of head)) (early_behind head (defined ∷ rest)) _ (first [] (head ∷ defined ∷ rest) refl (omega arith))
    ∙ (shows_later (is_defined_as (kind_of defined)) (fault_at (start defined) rest) _ (first (head ∷ []) (defined ∷ rest) refl (omega arith)) ∙ s)
by_front (a ∷ b ∷ c ∷ front) rest fault s first few = absurd (omega arith)

pub early_fault : (items : List Item) (fault : SyntaxFault) (f : Faults items fault) → length f.front < 3 → early items ≡ Some fault
early_fault items fault f few =
    subst (λ l. early l ≡ Some fault) (sym f.split)
    (by_front f.front f.rest fault f.shows (λ before after e less. f.first before after (f.split ∙ e) less) few)

-- before the first step all items are left, and behind the last one none
all_at : (items : List Item) (item : Item) → 0 < length items → item ≡ get_or items 0 item → item ∷ take (length items - (0 + 1)) (drop (0 + 1) items) ≡ items
all_at [] item less is = absurd (omega arith)
all_at (x ∷ xs) item less is = λ i. is i ∷ take_all (length (x ∷ xs) - 1) xs (omega arith) i

pub all_left : (items : List Item) (item : Item) (i : ℕ) → i ≡ 0 → i < length items → item ≡ get_or items i item → item ∷ take (length items - (i + 1)) (drop (i + 1) items) ≡ items
all_left items item i none less is =
    let P : ℕ → Type 0 = λ n. n < length items → item ≡ get_or items n item → item ∷ take (length items - (n + 1)) (drop (n + 1) items) ≡ items in
    subst P (sym none) (all_at items item) less is

pub err_same : {A : Type 0} (x y : SyntaxFault) → ◌≡◌ {A = Result A SyntaxFault} (Err x) (Err y) → x ≡ y
err_same x y h = cc

pub none_left : (items : List Item) (i : ℕ) → i ≡ 0 → length items ≤ i → [] ≡ items
none_left [] i none more = refl
none_left (x ∷ xs) i none more = absurd (omega arith)
