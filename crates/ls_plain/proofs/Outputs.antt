-- Each input has an output, and where no memory is refused in a job no two.
use Rattle.std.proofs.Common.{◌≡◌, ℕ, List, [], ◌++◌, Option, true, false, refl, sym, ap, subst, ◌∙◌, append_assoc}
use Rattle.std.specs.Prelude.{Result, Ok, Err}
use Rattle.ls_frame.specs.Frames.{Stream}
use Rattle.ls_frame.proofs.Exist.{some_stream}
use Rattle.ls_frame.proofs.Unique.{stream_front, rest_alone}
use Rattle.ls_session.specs.declared.turn.Status.{Status}
use Rattle.ls_steps.specs.Runs.{Going, begun}
use Rattle.ls_steps.specs.Plain.{Says}
use Rattle.ls_steps.proofs.OneSession.{one_session}
use Rattle.ls_steps.proofs.SomeSession.{some_session}
use Rattle.ls_steps.proofs.Settled.{goes_on, says_more, weaker}
use Rattle.ls_plain.specs.Runs.{IsOutput, RunIs, RunsToOutput, ServedIs, last_status}
use Rattle.ls_devices.specs.Devices.{AppendsPrefix}
use Rattle.ls_devices.specs.declared.fault.ServeFault.{ServeFault}
use Rattle.ls_devices.specs.declared.fault.ServeFault.TheVariants.{Read, Write, Strayed, Memory}
use Rattle.std.proofs.lemmas.List.{append-nil}
use Rattle.ls_plain.proofs.Whole.{RunsOn, whole_told}

pub some_output : (input : List ℕ) → (status : Status) × (bytes : List ℕ) × IsOutput false input status bytes
some_output input =
    let s = some_stream input in
    let b = some_session s.0 in
    (last_status b.0 s.1, b.1, (s.0, s.1, b.0, (s.2, b.2, refl)))

one_stream : (input rest last : List ℕ) (xs ys : List (List ℕ)) → Stream input xs rest → Stream input ys last → (xs ≡ ys) × (rest ≡ last)
one_stream input rest last xs ys s t =
    let f = stream_front input [] rest last xs ys s (subst (λ l. Stream l ys last) (sym (append-nil input)) t) in
    let a = rest_alone rest last f.0 s.partial (subst (λ l. Stream l f.0 last) (append-nil rest) f.2) in
    (sym (f.1 ∙ (ap (λ l. xs ++ l) a.0 ∙ append-nil xs)), sym a.1)

pub one_output : (input : List ℕ) (status other : Status) (a b : List ℕ) → IsOutput false input status a → IsOutput false input other b → (status ≡ other) × (a ≡ b)
one_output input status other a b p q =
    let same = one_stream input p.1 q.1 p.0 q.0 p.3.0 q.3.0 in
    let one = one_session begun p.2 q.2 q.0 a b (subst (λ l. Says false begun l p.2 a) same.0 p.3.1) q.3.1 in
    (p.3.2 ∙ ((λ i. last_status (one.0 i) (same.1 i)) ∙ sym q.3.2), one.1)

-- ---- a run on a whole input

-- What has been said on the first messages can be said on to their end.
record Completed (contents : List (List ℕ)) (bytes : List ℕ) : Type 0 where
  after : Going
  later : List ℕ
  said : Says true begun contents after (bytes ++ later)

completed : (answered left contents : List (List ℕ)) (after : Going) (bytes : List ℕ) → contents ≡ answered ++ left → Says true begun answered after bytes → Completed contents bytes
completed answered left contents after bytes e s =
    let rest = goes_on true after answered left bytes s in
    record {
      after = rest.0;
      later = rest.1;
      said = subst (λ l. Says true begun l rest.0 (bytes ++ rest.1)) (sym e) (says_more true begun after rest.0 answered left bytes rest.1 s (weaker after rest.0 left rest.1 rest.2));
    }

-- what is written of a prefix is a prefix of the whole
prefix_more : (old new : Option (List ℕ)) (bytes more : List ℕ) → AppendsPrefix old new bytes → AppendsPrefix old new (bytes ++ more)
prefix_more old new bytes more f = (f.0, f.1 ++ more, (ap (λ l. l ++ more) f.2.0 ∙ append_assoc f.0 f.1 more, f.2.1))

run_by : (input rest : List ℕ) (contents : List (List ℕ)) (left old : Option (List ℕ)) (r : Result Status ServeFault) (new : Option (List ℕ)) → Stream input contents rest
    → RunsOn input contents rest left old r new → (status : Status) × (bytes : List ℕ) × IsOutput true input status bytes × RunIs input status bytes left old r new
run_by input rest contents left old (Ok status) new s h =
    let w = h.1.1 in (status, w.bytes, (contents, rest, h.0, (s, w.said, h.1.0)), (refl, w.written))
run_by input rest contents left old (Err Read) new s h =
    let w = h.6.4 in
    let c = completed h.2 h.4 contents h.5 w.bytes h.6.3 w.said in (
      last_status c.after rest,
      w.bytes ++ c.later,
      (contents, rest, c.after, (s, c.said, refl)),
      (h.0, h.1, h.2, h.3, h.5, (h.6.0, h.6.1, h.6.2, w, (w.bytes, c.later, (refl, w.written)))),
    )
run_by input rest contents left old (Err Write) new s h =
    let c = completed h.answered h.left contents h.after h.bytes h.contents_are h.said in
    (last_status c.after rest, h.bytes ++ c.later, (contents, rest, c.after, (s, c.said, refl)), prefix_more old new h.bytes c.later h.written)
run_by input rest contents left old (Err Strayed) new s h = absurd h
run_by input rest contents left old (Err Memory) new s h =
    let c = completed h.answered h.left contents h.after h.bytes h.contents_are h.said in
    (last_status c.after rest, h.bytes ++ c.later, (contents, rest, c.after, (s, c.said, refl)), prefix_more old new h.bytes c.later h.written)

-- A run on an input that is known, and an output of this input.
pub run_told : (told left : Option (List ℕ)) (spent failed : Type 0) (old : Option (List ℕ)) (r : Result Status ServeFault) (new : Option (List ℕ)) → ServedIs told left spent failed old r new
    → RunsToOutput told left old r new
run_told told left spent failed old r new h input e =
    let s = some_stream input in
    run_by input s.1 s.0 left old r new s.2 (whole_told told left spent failed old r new h input s.1 s.0 e s.2)
