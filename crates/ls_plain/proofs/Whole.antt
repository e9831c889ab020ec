-- A run on a whole input.
use Rattle.std.proofs.Common.{◌≡◌, ℕ, List, [], ◌++◌, Option, Some, None, Result, Ok, Err, sym, ◌∙◌, ap, subst, append_assoc}
use Rattle.std.specs.Prelude.{unwrap_or}
use Rattle.ls_frame.specs.Frames.{Stream}
use Rattle.ls_frame.specs.Faults.{fault_of}
use Rattle.ls_steps.specs.Runs.{Going, begun}
use Rattle.ls_steps.proofs.Settled.{settled_begun}
use Rattle.ls_devices.specs.Ends.{end_status}
use Rattle.ls_devices.specs.Input.{BreaksOff, ComesMore}
use Rattle.ls_devices.proofs.Whole.{behind, consumed, whole}
use Rattle.ls_plain.specs.Runs.{HasAnswered, ServedIs, Written, WrittenPrefix, last_status}
use Rattle.ls_devices.specs.declared.fault.ServeFault.{ServeFault}
use Rattle.ls_devices.specs.declared.fault.ServeFault.TheVariants.{Read, Write, Strayed, Memory}
use Rattle.ls_session.specs.declared.turn.Status.{Status}
use Rattle.ls_plain.proofs.Writing.{written_stays, prefix_longer}

-- A run on a whole input that is a stream with these contents and this rest: what is left of it, and what is written.
abbrev pub RunsOn : List ℕ → List (List ℕ) → List ℕ → Option (List ℕ) → Option (List ℕ) → Result Status ServeFault → Option (List ℕ) → Type 0
RunsOn input contents rest left old (Ok status) new = (after : Going) × ((status ≡ last_status after rest) × Written begun contents after old new)
RunsOn input contents rest left old (Err Read) new = (read : List ℕ) × (unread : List ℕ) × (answered : List (List ℕ)) × (last : List ℕ) × (more : List (List ℕ)) × (after : Going)
    × ((left ≡ Some unread) × (input ≡ read ++ unread) × Stream read answered last × (contents ≡ answered ++ more) × Written begun answered after old new)
RunsOn input contents rest left old (Err Write) new = WrittenPrefix begun contents old new
RunsOn input contents rest left old (Err Strayed) new = ⊥
RunsOn input contents rest left old (Err Memory) new = WrittenPrefix begun contents old new

-- a prefix of what all the contents ask for
by_stop : (input rest read more : List ℕ) (contents : List (List ℕ)) (old new : Option (List ℕ)) → Stream input contents rest → input ≡ read ++ more
    → BreaksOff (λ known. WrittenPrefix begun known old new) [] read
    → WrittenPrefix begun contents old new
by_stop input rest read more contents old new s e t =
    let all : input ≡ t.part ++ (t.more ++ more) = e ∙ (ap (λ l. l ++ more) t.bytes_are ∙ append_assoc t.part t.more more) in
    let parts : (zs : List (List ℕ)) × (contents ≡ t.contents ++ zs) × Stream (t.last ++ (t.more ++ more)) zs rest = behind input t.part (t.more ++ more) rest t.last contents t.contents s all t.stream in
    let P : List (List ℕ) → Type 0 = λ l. WrittenPrefix begun l old new in
    subst P (sym parts.1) (prefix_longer begun t.contents parts.0 old new t.made)

-- what was served of an input is what the run on the whole of it is
served_whole : (input rest : List ℕ) (contents : List (List ℕ)) (left : Option (List ℕ)) (spent failed : Type 0) (old : Option (List ℕ)) (r : Result Status ServeFault) (new : Option (List ℕ))
    → Stream input contents rest → ServedIs (Some input) left spent failed old r new → RunsOn input contents rest left old r new
served_whole input rest contents left spent failed old (Ok status) new s (cause, h) =
    let end = whole (λ c. HasAnswered old new c None) (HasAnswered old new) (λ c x. x) (λ xs ys status x. (x.0, (x.1.0, written_stays begun x.0 xs ys status old new settled_begun x.1.0 x.1.1)))
    (λ (fault : ServeFault) c. WrittenPrefix begun c old new) input rest contents left status s h in
    (end.1.0, (end.2 ∙ sym (ap (λ o. unwrap_or o (end_status (fault_of rest) rest)) end.1.1.0), end.1.1.1))
served_whole input rest contents left spent failed old (Err Read) new s (cause, h) =
    let g : ComesMore (λ c. HasAnswered old new c None) [] h.0 h.1 = h.3 in
    let c : (unread : List ℕ) × (left ≡ Some unread) × (input ≡ h.0 ++ unread) = consumed input h.0 left h.2 in
    let parts : (zs : List (List ℕ)) × (contents ≡ g.contents ++ zs) × Stream (h.1 ++ c.0) zs rest = behind input h.0 c.0 rest h.1 contents g.contents s c.2 g.stream in
    (h.0, c.0, g.contents, h.1, parts.0, g.made.0, (c.1, c.2, g.stream, parts.1, g.made.1.1))
served_whole input rest contents left spent failed old (Err Write) new s (cause, h) =
    let c : (unread : List ℕ) × (left ≡ Some unread) × (input ≡ h.0 ++ unread) = consumed input h.0 left h.1 in
    by_stop input rest h.0 c.0 contents old new s c.2 h.2
served_whole input rest contents left spent failed old (Err Strayed) new s (cause, h) = absurd cause
served_whole input rest contents left spent failed old (Err Memory) new s (cause, h) =
    let c : (unread : List ℕ) × (left ≡ Some unread) × (input ≡ h.0 ++ unread) = consumed input h.0 left h.1 in
    by_stop input rest h.0 c.0 contents old new s c.2 h.2

-- the same, of an input that is known
pub whole_told : (told : Option (List ℕ)) (left : Option (List ℕ)) (spent failed : Type 0) (old : Option (List ℕ)) (r : Result Status ServeFault) (new : Option (List ℕ)) → ServedIs told left spent failed old r new
    → (input rest : List ℕ) (contents : List (List ℕ)) → told ≡ Some input → Stream input contents rest → RunsOn input contents rest left old r new
whole_told told left spent failed old r new h input rest contents e s =
    let P : Option (List ℕ) → Type 0 = λ o. ServedIs o left spent failed old r new in
    served_whole input rest contents left spent failed old r new s (subst P e h)
