-- What is printed of a draft is one, and there is one.
use Rattle.std.proofs.Common.{◌≡◌, ◌<◌, ◌^◌, ℕ, List, length, sym, subst}
use Rattle.std.proofs.lemmas.List.{length-map}
use Rattle.std.specs.Prelude.{Result, Ok, Err, IfOk}
use Rattle.origins.specs.Origins.{Sourced, characters}
use Rattle.origins.specs.declared.unread.Unread.{Unread}
use Rattle.draft_findings.specs.Ends.{block_ends}
use Rattle.findings_text.specs.declared.print.Printed.{Printed}
use Rattle.findings_text.specs.Print.{IsPrintedFrom, Locator}
use Rattle.findings_text.specs.Unread.{Asides, asides_of}
use Rattle.findings_text.proofs.PrintLaws.{one_from, some_from}
use Rattle.joined_grammars.specs.declared.repeats.Repeat.{Repeat}
use Rattle.joined_grammars.proofs.RepeatLaws.{one_repeats, some_repeats}
use Rattle.findings_files.specs.Drafts.{IsPrintedDraft, IsPrintedRepeating, draft_position}

-- what holds of what is printed, if something is, leads to what else holds of it
pub if_ok : {A E : Type 0} (P Q : A → Type 0) (r : Result A E) → ((a : A) → P a → Q a) → IfOk r P → IfOk r Q
if_ok P Q (Ok a) leads p = leads a p
if_ok P Q (Err e) leads p = p

-- ---- there is one print-out, and only one

some_repeating : (asides : Asides) (ends : List ℕ) (locate : Locator) (file text : List ℕ) → length text < 2 ^ 62 → (printed : Printed) × IsPrintedRepeating asides ends locate file text printed
some_repeating asides ends locate file text small =
    let repeats = some_repeats text small in
    let printed = some_from asides repeats.0 ends locate file text small in
    (printed.0, (repeats.0, repeats.1, printed.1))

one_repeating : (asides : Asides) (ends : List ℕ) (locate : Locator) (file text : List ℕ) (a b : Printed) → IsPrintedRepeating asides ends locate file text a → IsPrintedRepeating asides ends locate file text b → a ≡ b
one_repeating asides ends locate file text a b p q =
    one_from asides q.0 ends locate file text a b (subst (λ (rs : List Repeat). IsPrintedFrom asides rs ends locate file text a) (one_repeats text p.0 q.0 p.1 q.1) p.2) q.2

pub some_draft : (file draft : List ℕ) (unread : List Unread) (grammar : List Sourced) → length grammar < 2 ^ 62 → (printed : Printed) × IsPrintedDraft file draft unread grammar printed
some_draft file draft unread grammar small =
    some_repeating (asides_of draft unread) (block_ends draft grammar) (draft_position draft grammar) file (characters grammar) (subst (λ n. n < 2 ^ 62) (sym (length-map grammar (λ x. x.0))) small)

pub one_draft : (file draft : List ℕ) (unread : List Unread) (grammar : List Sourced) (a b : Printed) → IsPrintedDraft file draft unread grammar a → IsPrintedDraft file draft unread grammar b → a ≡ b
one_draft file draft unread grammar a b p q = one_repeating (asides_of draft unread) (block_ends draft grammar) (draft_position draft grammar) file (characters grammar) a b p q
