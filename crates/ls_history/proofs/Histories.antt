-- Histories that grow.
use Rattle.std.proofs.Common.{inl, inr, ◌≡◌, ◌+◌, ◌++◌, ◌∷◌, [], ℕ, List, Option, length, refl, ap, sym, ◌∙◌, arith, append-nil, length-append, Result}
use Rattle.std.specs.Prelude.{filter_map}
use Rattle.std.proofs.lemmas.List.Elements.{filter_map-append}
use mathlib.Core.List.{IsPrefix}
use Rattle.ls_machine.specs.declared.client.ClientAnswer.{ClientAnswer}
use Rattle.ls_machine.specs.declared.client.ClientEvent.{ClientEvent}
use Rattle.ls_machine.specs.declared.event.DeskFault.{DeskFault}
use Rattle.ls_machine.specs.declared.event.Event.{Event}
use Rattle.ls_machine.specs.declared.event.Out.{Out}
use Rattle.ls_history.specs.declared.history_entry.HistoryEntry.{HistoryEntry}
use Rattle.ls_history.specs.declared.history_entry.HistoryEntry.TheVariants.{Heard, Left, Stopped, Worked}
use Rattle.ls_history.specs.declared.history_entry.Stop.{Stop}
use Rattle.ls_history.specs.History.{IsLegalHistoryFrom, MayHappen, replay_entries}
use Rattle.ls_history.specs.Places.{Place, beginning, happens}
use Rattle.ls_history.specs.Told.{LieBeside, heard_of, heard_of_one, out_of_one, outs_of}
use Rattle.ls_history.proofs.Fronts.{prefix_whole}

pub replay_more : (p : Place) (xs ys : List HistoryEntry) → replay_entries p (xs ++ ys) ≡ replay_entries (replay_entries p xs) ys
replay_more p [] ys = refl
replay_more p (x ∷ xs) ys = replay_more (happens p x) xs ys

pub legal_more : (p : Place) (xs : List HistoryEntry) (h : HistoryEntry) → IsLegalHistoryFrom p xs → MayHappen (replay_entries p xs) h → IsLegalHistoryFrom p (xs ++ h ∷ [])
legal_more p [] h legal may = (may, tt)
legal_more p (x ∷ xs) h legal may = (legal.0, legal_more (happens p x) xs h legal.1 may)

-- what a legal history begins with is legal
pub legal_before : (p : Place) (xs ys : List HistoryEntry) → IsLegalHistoryFrom p (xs ++ ys) → IsLegalHistoryFrom p xs
legal_before p [] ys legal = tt
legal_before p (x ∷ xs) ys legal = (legal.0, legal_before (happens p x) xs ys legal.1)

-- where a desk stands once one more entry has happened
pub led_more : (before after : Place) (log new : List HistoryEntry) (h : HistoryEntry) → before ≡ replay_entries beginning log → new ≡ log ++ h ∷ [] → after ≡ happens before h → after ≡ replay_entries beginning new
led_more before after log new h led added goes =
    goes ∙ (ap (λ (p : Place). happens p h) led ∙ sym (ap (replay_entries beginning) added ∙ replay_more beginning log (h ∷ [])))

-- what stands behind a beginning with as many of a kind has none of it
same_part : {X : Type 0} (f : HistoryEntry → Option X) (xs ys : List HistoryEntry) → IsPrefix xs ys → length (filter_map f ys) ≡ length (filter_map f xs) → filter_map f ys ≡ filter_map f xs
same_part f xs ys p same =
    let whole : filter_map f xs ++ filter_map f p.0 ≡ filter_map f ys = sym (filter_map-append f xs p.0) ∙ ap (filter_map f) p.1 in
    sym (prefix_whole (filter_map f xs) (filter_map f ys) (filter_map f p.0, whole) (omega (arith, same)))

beside_part : {X : Type 0} (f : HistoryEntry → Option X) (xs ys : List HistoryEntry) → LieBeside xs ys → length (filter_map f ys) ≡ length (filter_map f xs) → filter_map f ys ≡ filter_map f xs
beside_part f xs ys beside same = elim beside [ inl p ↦ same_part f xs ys p same | inr q ↦ sym (same_part f ys xs q (sym same)) ]

pub beside_heard : (xs ys : List HistoryEntry) → LieBeside xs ys → length (heard_of ys) ≡ length (heard_of xs) → heard_of ys ≡ heard_of xs
beside_heard = beside_part heard_of_one

pub beside_outs : (xs ys : List HistoryEntry) → LieBeside xs ys → length (outs_of ys) ≡ length (outs_of xs) → outs_of ys ≡ outs_of xs
beside_outs = beside_part out_of_one

-- an entry more
more_part : {X : Type 0} (f : HistoryEntry → Option X) (xs ys new : List HistoryEntry) (h : HistoryEntry) → LieBeside xs ys → length (filter_map f ys) ≡ length (filter_map f xs) → new ≡ ys ++ h ∷ []
    → filter_map f new ≡ filter_map f xs ++ filter_map f (h ∷ [])
more_part f xs ys new h p same added = ap (filter_map f) added ∙ (filter_map-append f ys (h ∷ []) ∙ ap (λ zs. zs ++ filter_map f (h ∷ [])) (beside_part f xs ys p same))

pub heard_more : (xs ys new : List HistoryEntry) (e : ClientEvent) (reply : Result ClientAnswer DeskFault) → LieBeside xs ys → length (heard_of ys) ≡ length (heard_of xs)
    → new ≡ ys ++ Heard e reply ∷ [] → heard_of new ≡ heard_of xs ++ (e, reply) ∷ []
heard_more xs ys new e reply p same added = more_part heard_of_one xs ys new (Heard e reply) p same added

pub outs_more : (xs ys new : List HistoryEntry) (out : Out) → LieBeside xs ys → length (outs_of ys) ≡ length (outs_of xs) → new ≡ ys ++ Left out ∷ [] → outs_of new ≡ outs_of xs ++ out ∷ []
outs_more xs ys new out p same added = more_part out_of_one xs ys new (Left out) p same added

count_part : {X : Type 0} (f : HistoryEntry → Option X) (total : ℕ) (log new : List HistoryEntry) (h : HistoryEntry) → total ≡ length (filter_map f log) → new ≡ log ++ h ∷ []
    → total + length (filter_map f (h ∷ [])) ≡ length (filter_map f new)
count_part f total log new h is added =
    let parts : length (filter_map f new) ≡ length (filter_map f log ++ filter_map f (h ∷ [])) = ap (λ (l : List HistoryEntry). length (filter_map f l)) added ∙ ap length (filter_map-append f log (h ∷ [])) in
    omega (arith, is, parts, length-append (filter_map f log) (filter_map f (h ∷ [])))

pub hears_more : (total : ℕ) (log new : List HistoryEntry) (e : ClientEvent) (reply : Result ClientAnswer DeskFault) → total ≡ length (heard_of log) → new ≡ log ++ Heard e reply ∷ [] → total + 1 ≡ length (heard_of new)
hears_more total log new e reply is added = count_part heard_of_one total log new (Heard e reply) is added

pub sends_more : (total : ℕ) (log new : List HistoryEntry) (out : Out) → total ≡ length (outs_of log) → new ≡ log ++ Left out ∷ [] → total + 1 ≡ length (outs_of new)
sends_more total log new out is added = count_part out_of_one total log new (Left out) is added

keep_part : {X : Type 0} (f : HistoryEntry → Option X) (total : ℕ) (log new : List HistoryEntry) (h : HistoryEntry) → filter_map f (h ∷ []) ≡ [] → total ≡ length (filter_map f log) → new ≡ log ++ h ∷ []
    → total ≡ length (filter_map f new)
keep_part f total log new h none is added =
    is ∙ sym (ap (λ (l : List HistoryEntry). length (filter_map f l)) added ∙ (ap length (filter_map-append f log (h ∷ [])) ∙ ap length (ap (λ zs. filter_map f log ++ zs) none ∙ append-nil (filter_map f log))))

pub hears_keep_left : (total : ℕ) (log new : List HistoryEntry) (out : Out) → total ≡ length (heard_of log) → new ≡ log ++ Left out ∷ [] → total ≡ length (heard_of new)
hears_keep_left total log new out = keep_part heard_of_one total log new (Left out) refl

pub hears_keep_worked : (total : ℕ) (log new : List HistoryEntry) (e : Event) → total ≡ length (heard_of log) → new ≡ log ++ Worked e ∷ [] → total ≡ length (heard_of new)
hears_keep_worked total log new e = keep_part heard_of_one total log new (Worked e) refl

pub sends_keep_heard : (total : ℕ) (log new : List HistoryEntry) (e : ClientEvent) (reply : Result ClientAnswer DeskFault) → total ≡ length (outs_of log) → new ≡ log ++ Heard e reply ∷ [] → total ≡ length (outs_of new)
sends_keep_heard total log new e reply = keep_part out_of_one total log new (Heard e reply) refl

pub sends_keep_worked : (total : ℕ) (log new : List HistoryEntry) (e : Event) → total ≡ length (outs_of log) → new ≡ log ++ Worked e ∷ [] → total ≡ length (outs_of new)
sends_keep_worked total log new e = keep_part out_of_one total log new (Worked e) refl

pub hears_keep_stopped : (total : ℕ) (log new : List HistoryEntry) (stop : Stop) → total ≡ length (heard_of log) → new ≡ log ++ Stopped stop ∷ [] → total ≡ length (heard_of new)
hears_keep_stopped total log new stop = keep_part heard_of_one total log new (Stopped stop) refl

pub sends_keep_stopped : (total : ℕ) (log new : List HistoryEntry) (stop : Stop) → total ≡ length (outs_of log) → new ≡ log ++ Stopped stop ∷ [] → total ≡ length (outs_of new)
sends_keep_stopped total log new stop = keep_part out_of_one total log new (Stopped stop) refl
