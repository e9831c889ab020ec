-- What the desk enters for an event of a client: the answer kept with it is the machine's.
use Rattle.std.proofs.Common.{◌≡◌, ◌∙◌, ℕ, ℤ, List, Bool, false, Option, Some, None, sym, subst, ap, refl, length}
use Rattle.std.specs.Prelude.{nat_le}
use Rattle.std.specs.Str.{chars, encode_utf8_all}
use Rattle.ls_text.specs.declared.edit.Edit.{Edit}
use Rattle.ls_text.specs.declared.position.Encoding.{Encoding}
use Rattle.ls_text.specs.Edits.{is_too_large}
use Rattle.ls_rpc.specs.declared.message.Id.{Id}
use Rattle.ls_answers.specs.declared.ask.Ask.{Ask}
use Rattle.ls_machine.specs.declared.client.ClientAnswer.{ClientAnswer}
use Rattle.ls_machine.specs.declared.client.ClientAnswer.TheVariants as answer
use Rattle.ls_machine.specs.declared.client.ClientEvent.TheVariants as client
use Rattle.ls_machine.specs.declared.event.DeskFault.{DeskFault}
use Rattle.ls_machine.specs.declared.event.DeskFault.TheVariants.{AlreadyOpen, TooManyDocuments, TooLarge}
use Rattle.ls_machine.specs.declared.event.Event.TheVariants.{Opened, Changed, Asked, Cancelled}
use Rattle.ls_machine.specs.Client.{entry_of}
use Rattle.ls_machine.specs.Machine.{IsPossible, is_open}
use Rattle.ls_desk.specs.Door.{Admits}
use Rattle.ls_desk.specs.Stands.{Seen, state_of}
use Rattle.ls_desk.specs.Faults.{Accepts, or_else, end_fault, full_fault, request_fault, cancel_fault, open_fault, open_shared_fault}

pub opens : (old new : Seen) (uri : List ℕ) (label : ℤ) (text : List ℕ) (encoding : Encoding) (version : ℕ)
    → Accepts (open_fault old uri (encode_utf8_all (chars text))) old new (Opened uri label (chars text) encoding version)
    → Admits (client.DidOpen uri label text encoding) (answer.Version version) old new
unfolding IsPossible
opens old new uri label text encoding version a =
    let P : ℕ → Type 0 = λ v. Accepts (open_fault old uri (encode_utf8_all (chars text))) old new (Opened uri label (chars text) encoding v) in
    record { accepts = subst P a.enters.possible.3 a; answer_is = ap (λ (v : ℕ). Some (Opened uri label (chars text) encoding v)) a.enters.possible.3 }

-- a text that isn't too large is refused as if it were made already
same_fault : (d : Seen) (uri text : List ℕ) → is_too_large text ≡ false → open_shared_fault d uri ≡ open_fault d uri (encode_utf8_all text)
same_fault d uri text small =
    ap (λ (b : Bool). or_else (is_open uri (state_of d).documents) AlreadyOpen
    (or_else (nat_le 256 (length (state_of d).documents)) TooManyDocuments (or_else b TooLarge (full_fault d 1)))) (sym small)

pub opens_made : (old new : Seen) (uri : List ℕ) (label : ℤ) (text : List ℕ) (encoding : Encoding) (version : ℕ) (made : List ℕ)
    → (made ≡ chars text) × (is_too_large made ≡ false)
    → Accepts (open_shared_fault old uri) old new (Opened uri label made encoding version)
    → Admits (client.DidOpen uri label text encoding) (answer.Version version) old new
opens_made old new uri label text encoding version made is a =
    let P : List ℕ → Type 0 = λ t. Accepts (open_shared_fault old uri) old new (Opened uri label t encoding version) in
    let Q : Option DeskFault → Type 0 = λ f. Accepts f old new (Opened uri label (chars text) encoding version) in
    let small : is_too_large (chars text) ≡ false = subst (λ (t : List ℕ). is_too_large t ≡ false) is.0 is.1 in
    opens old new uri label text encoding version (subst Q (same_fault old uri (chars text) small) (subst P is.0 a))

changes_to : (old new : Seen) (uri : List ℕ) (label : ℤ) (edits : List Edit) (version : Option ℕ) (told : ClientAnswer)
    → entry_of (client.DidChange uri label edits) told ≡ Some (Changed uri label edits version)
    → Accepts (end_fault old uri) old new (Changed uri label edits version)
    → Admits (client.DidChange uri label edits) told old new
unfolding IsPossible
changes_to old new uri label edits version told is a =
    let P : Option ℕ → Type 0 = λ v. Accepts (end_fault old uri) old new (Changed uri label edits v) in
    record { accepts = subst P a.enters.possible.1 a; answer_is = is ∙ ap (λ (v : Option ℕ). Some (Changed uri label edits v)) a.enters.possible.1 }

pub changes : (old new : Seen) (uri : List ℕ) (label : ℤ) (edits : List Edit) (version : ℕ)
    → Accepts (end_fault old uri) old new (Changed uri label edits (Some version))
    → Admits (client.DidChange uri label edits) (answer.Version version) old new
changes old new uri label edits version = changes_to old new uri label edits (Some version) (answer.Version version) refl

pub closes : (old new : Seen) (uri : List ℕ) (label : ℤ) (edits : List Edit)
    → Accepts (end_fault old uri) old new (Changed uri label edits None)
    → Admits (client.DidChange uri label edits) answer.Closed old new
closes old new uri label edits = changes_to old new uri label edits None answer.Closed refl

pub asks : (old new : Seen) (id : Id) (uri : List ℕ) (ask : Ask) (links : Bool) (ticket : ℕ)
    → Accepts (request_fault old id uri) old new (Asked id uri ask links ticket)
    → Admits (client.Request id uri ask links) (answer.Ticket ticket) old new
unfolding IsPossible
asks old new id uri ask links ticket a =
    let P : ℕ → Type 0 = λ t. Accepts (request_fault old id uri) old new (Asked id uri ask links t) in
    record { accepts = subst P a.enters.possible.3 a; answer_is = ap (λ (t : ℕ). Some (Asked id uri ask links t)) a.enters.possible.3 }

pub cancels : (old new : Seen) (id : Id) (found : Bool)
    → Accepts (cancel_fault old id) old new (Cancelled id found)
    → Admits (client.Cancel id) (answer.Cancelled found) old new
unfolding IsPossible
cancels old new id found a =
    let P : Bool → Type 0 = λ b. Accepts (cancel_fault old id) old new (Cancelled id b) in
    record { accepts = subst P a.enters.possible a; answer_is = ap (λ (b : Bool). Some (Cancelled id b)) a.enters.possible }
