-- Arrays whose elements are sent one after another.
use Rattle.std.proofs.Common.{◌≡◌, ℕ, suc, ◌+◌, ◌<◌, ◌≤◌, List, [], ◌∷◌, length, map, drop, get_or, false, Some, refl, sym, ap, ◌∙◌, subst}
use Rattle.std.proofs.lemmas.List.{drop_all, drop_more, length-map}
use Rattle.serde.specs.Event.{Log, Logs, seq_begins, seq_ends}
use Rattle.serde_json.specs.Data.{Data, array}
use Rattle.serde_json.specs.Events.{SendsItems, SendsValue, items_len}
use Rattle.serde_json.specs.View.{items_of}
use Rattle.serde_json.specs.Written.{has_float}

items_len_items_of : (ds : List Data) → items_len (items_of ds) ≡ length ds
items_len_items_of [] = refl
items_len_items_of (d ∷ ds) = ap suc (items_len_items_of ds)

-- whatever ends it well from the element at i on ends it well from the first
abbrev pub ToFirst : {X : Type 0} → (X → Data) → List X → ℕ → Log → Log → Type 0
ToFirst f xs i first here = (end : Log) → SendsItems (items_of (map f (drop i xs))) here end → SendsItems (items_of (map f xs)) first end

pub next : {X : Type 0} (f : X → Data) (xs : List X) (i : ℕ) (x : X) (first here there : Log) → i < length xs
    → ToFirst f xs i first here → SendsValue (f (get_or xs i x)) here there → ToFirst f xs (i + 1) first there
next f xs i x first here there within so_far sent end rest =
    so_far end (subst (λ ys. SendsItems (items_of (map f ys)) here end) (sym (drop_more xs i x within)) (there, sent, rest))

pub whole : {X : Type 0} (f : X → Data) (xs : List X) (i : ℕ) (old first here end : Log) → length xs ≤ i
    → Logs old first (seq_begins (Some (length xs))) → ToFirst f xs i first here → Logs here end seq_ends → SendsValue (array (items_of (map f xs))) old end
whole f xs i old first here end past begun so_far ended =
    let count : items_len (items_of (map f xs)) ≡ length xs = items_len_items_of (map f xs) ∙ length-map xs f in
    (first, subst (λ n. Logs old first (seq_begins (Some n))) (sym count) begun, so_far end (subst (λ ys. SendsItems (items_of (map f ys)) here end) (sym (drop_all i xs past)) ended))

pub has_no_float : {X : Type 0} (f : X → Data) → ((x : X) → has_float (f x) ≡ false) → (xs : List X) → has_float (array (items_of (map f xs))) ≡ false
has_no_float f each [] = refl
has_no_float f each (x ∷ xs) = rw (each x) (has_no_float f each xs)
