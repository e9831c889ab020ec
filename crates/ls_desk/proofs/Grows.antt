-- One event more at the end of a journal.
use Rattle.std.proofs.Common.{◌≡◌, ℕ, zero, suc, ◌+◌, ◌<◌, ◌≤◌, Bool, true, false, cond, List, [], ◌∷◌, ◌++◌, length, refl, sym, ap, ◌∙◌, subst, arith, length-append}
use Rattle.std.proofs.lemmas.Bool.Decides.{nat_tests}
use Rattle.std.specs.Prelude.{ℤ, Option, Some, None, map, nat_le}
use Rattle.ls_answers.specs.Told.{Told}
use Rattle.ls_machine.specs.declared.base.Base.{Base}
use Rattle.ls_machine.specs.declared.base.Counts.{Counts}
use Rattle.ls_machine.specs.declared.event.Event.{Event}
use Rattle.ls_machine.specs.declared.event.Out.{Out}
use Rattle.ls_machine.specs.declared.state.Waiting.{Waiting}
use Rattle.ls_machine.specs.declared.state.Request.{Request}
use Rattle.ls_machine.specs.declared.state.State.{State}
use Rattle.ls_machine.specs.declared.state.OutboxEntry.{OutboxEntry}
use Rattle.ls_machine.specs.declared.state.OutboxEntry.TheVariants.{Body, Failure, Outcome}
use Rattle.ls_machine.specs.Machine.{step, IsPossible, told_to, end_of, ends, is_ended, content_modified}
use Rattle.ls_machine.specs.Counts.{count_one, counted_with, first, is_client, total}
use Rattle.ls_machine.specs.Journal.{replay_from, IsLegalFrom, IsCutAt, IsPast}
use Rattle.ls_machine.proofs.Replays.{counted_none, counted_push, cut_push, legal_none, legal_push, past_more, past_state, replay_none, replay_one, replay_push, total_counted, total_one}
use Rattle.ls_machine.proofs.Taken.{WereTaken, taken_all}
use Rattle.ls_machine.specs.Outs.{entry_for}
use Rattle.ls_desk.specs.Anew.{IsEndedBy, base_after, journal_after}
use Rattle.ls_desk.specs.Stands.{Seen, Answers, IsOutFor, AreOutsFor, Enters, failed_to, failed_by, failures, fresh, fresh_for, out_of, state_of, used}
use Rattle.ls_desk.specs.declared.present.Present.{Present}
use Rattle.ls_desk.specs.declared.history.History.{History}
use Rattle.ls_desk.specs.own.Held.{HeldJournal, room_after}
use Rattle.ls_desk.specs.own.Kept.{IsDeskKept}
use Rattle.ls_desk.specs.own.Writes.{Writes}

pub outs_length : (es : List OutboxEntry) (os : List Out) → AreOutsFor es os → length os ≡ length es
unfolding AreOutsFor
outs_length [] [] h = refl
outs_length [] (o ∷ os) h = absurd h
outs_length (e ∷ es) [] h = absurd h
outs_length (e ∷ es) (o ∷ os) h = let t = outs_length es os h.1 in omega arith

pub outs_append : (es fs : List OutboxEntry) (os ps : List Out) → AreOutsFor es os → AreOutsFor fs ps → AreOutsFor (es ++ fs) (os ++ ps)
unfolding AreOutsFor
outs_append [] fs [] ps h g = g
outs_append [] fs (o ∷ os) ps h g = absurd h
outs_append (e ∷ es) fs [] ps h g = absurd h
outs_append (e ∷ es) fs (o ∷ os) ps h g = (h.0, outs_append es fs os ps h.1 g)

pub failed_outs : (ticket : ℕ) (code : ℤ) (r : Option Request) → AreOutsFor (told_to ticket code r) (failed_to ticket code r)
unfolding AreOutsFor IsOutFor
failed_outs ticket code None = tt
failed_outs ticket code (Some r) = (refl, tt)

no_outs : AreOutsFor [] []
unfolding AreOutsFor
no_outs = tt

by_outs : (b : Bool) (es : List OutboxEntry) (os : List Out) → AreOutsFor es os → AreOutsFor (cond b es []) (cond b os [])
by_outs true es os h = h
by_outs false es os h = no_outs

pub failures_outs : (uri : List ℕ) (ws : List Waiting) → AreOutsFor (ends uri ws) (failures uri ws)
failures_outs uri [] = no_outs
failures_outs uri (w ∷ ws) =
    outs_append (end_of uri w) (ends uri ws) (failed_by uri w) (failures uri ws)
    (by_outs (is_ended uri w) _ _ (failed_outs w.ticket content_modified w.request))
    (failures_outs uri ws)

pub failures_length : (uri : List ℕ) (ws : List Waiting) → length (failures uri ws) ≡ length (ends uri ws)
failures_length uri ws = outs_length (ends uri ws) (failures uri ws) (failures_outs uri ws)

-- what a desk holds is what a state has
pub record Holds (s : State) (present : Present) (outbox : List Out) : Type 0 where
  pub documents_are : present.documents.items ≡ s.documents
  pub waiting_are : present.waiting.items ≡ s.waiting
  pub version_is : present.next_version ≡ s.next_version
  pub ticket_is : present.next_ticket ≡ s.next_ticket
  pub outs : AreOutsFor s.unsent outbox

-- an event is possible, and then a desk holds what the state after it has
pub record Stepped (s : State) (e : Event) (N N' : Present) (O' : List Out) : Type 0 where
  pub possible : IsPossible s e
  pub holds : Holds (step s e) N' O'
  pub versions : N'.next_version ≤ N.next_version + 1
  pub tickets : N'.next_ticket ≤ N.next_ticket + 1

abbrev pub seen : Base → List Event → List Out → ℕ → ℕ → List Event → Seen
seen B J O longest most D = record { base = B; journal = J; outbox = O; max_journal = longest; max_events = most; ended = D }

-- an event comes to the journal, which began anew before it or not, and the desk stands for the state after it
record Goes (B : Base) (J : List Event) (C : Counts) (x : Option State) (e : Event) (B' : Base) (J' : List Event) (C' : Counts) (N' : Present) (O' : List Out) (longest most room' : ℕ) : Type 0 where
  pub possible : IsPossible (replay_from B.state J) e
  pub base : B' ≡ base_after x C B
  pub journal : J' ≡ journal_after x J ++ e ∷ []
  pub state : replay_from B'.state J' ≡ step (replay_from B.state J) e
  pub counts : C' ≡ count_one C e
  pub kept : IsDeskKept B' J' C' N' O' longest most room'

is_le : (a b : ℕ) → nat_le a b ≡ true → a ≤ b
is_le a b h = grind (arith, nat_tests)

is_gt : (a b : ℕ) → nat_le a b ≡ false → b < a
is_gt a b h = grind (arith, nat_tests)

push_some : (es : List Event) (e : Event) → es ++ e ∷ [] ≡ [] → ⊥
push_some [] e h = cc
push_some (x ∷ es) e h = cc

-- the journal to which an event comes, as it is or begun anew
record Ready (B : Base) (J : List Event) (C : Counts) (s : State) (e : Event) (longest most : ℕ) : Type 0 where
  pub state : replay_from B.state J ≡ s
  pub past : (past : List Event) × IsPast most B past
  pub legal : IsLegalFrom most (total B.counts) B.state J
  pub cut : IsCutAt longest (J ++ e ∷ [])
  pub counts_are : C ≡ counted_with B.counts J
  pub checkpoints : B.checkpoints ≤ total B.counts
  pub earlier : total B.counts ≤ total C
  pub first_is : B.checkpoints ≡ 0 → B ≡ first
  pub least : 0 < longest
  pub limited : most < 18446744073709551615

-- the event has come to it
pushed : (B : Base) (J : List Event) (C : Counts) (s : State) (e : Event) (N N' : Present) (O' : List Out) (longest most room' : ℕ)
    → Ready B J C s e longest most
    → Stepped s e N N' O'
    → N.next_version ≤ total C + 1 → N.next_ticket ≤ total C + 1
    → total C + 1 + length O' ≤ most
    → length J + 1 + length O' ≤ room'
    → IsDeskKept B (J ++ e ∷ []) (count_one C e) N' O' longest most room'
pushed B J C s e N N' O' longest most room' ready stepped versions tickets used reserved =
    let now : step s e ≡ replay_from B.state (J ++ e ∷ []) = sym (replay_push B.state J e ∙ ap (λ (x : State). step x e) ready.state) in
    let H : State → Type 0 = λ x. Holds x N' O' in
    let P : State → Type 0 = λ x. IsPossible x e in
    let L : State → Type 0 = λ x. total B.counts + length J + 1 + length (step x e).unsent ≤ most in
    let held : Holds (replay_from B.state (J ++ e ∷ [])) N' O' = subst H now stepped.holds in
    let outs : length O' ≡ length (step s e).unsent = outs_length (step s e).unsent O' stepped.holds.outs in
    let one = total_one C e in
    let all : total C ≡ total B.counts + length J = ap total ready.counts_are ∙ total_counted B.counts J in
    let len : length (J ++ e ∷ []) ≡ length J + 1 = omega (arith, length-append J (e ∷ [])) in
    record {
      documents_are = held.documents_are;
      waiting_are = held.waiting_are;
      version_is = held.version_is;
      ticket_is = held.ticket_is;
      outs = held.outs;
      past = ready.past;
      legal = legal_push most (total B.counts) B.state J e ready.legal (subst P (sym ready.state) stepped.possible) (subst L (sym ready.state) (omega arith));
      cut = ready.cut;
      counts_are = ap (λ (c : Counts). count_one c e) ready.counts_are ∙ sym (counted_push B.counts J e);
      versions = let b = stepped.versions in omega arith;
      tickets = let b = stepped.tickets in omega arith;
      checkpoints = ready.checkpoints;
      earlier = let a = ready.earlier in omega arith;
      first_is = ready.first_is;
      begun = λ h. absurd (push_some J e h);
      least = ready.least;
      most = ready.limited;
      used = omega arith;
      reserved = omega arith;
    }

-- the journal goes on
on : (B : Base) (J : List Event) (C : Counts) (N : Present) (O : List Out) (longest most room : ℕ) (e : Event)
    (N' : Present) (O' : List Out) (room' : ℕ)
    → IsDeskKept B J C N O longest most room
    → (longest ≤ length J → is_client e ≡ false)
    → Stepped (replay_from B.state J) e N N' O'
    → total C + 1 + length O' ≤ most
    → length J + 1 + length O' ≤ room'
    → Goes B J C None e B (J ++ e ∷ []) (count_one C e) N' O' longest most room'
on B J C N O longest most room e N' O' room' kept late stepped used reserved =
    let ready : Ready B J C (replay_from B.state J) e longest most = record {
      state = refl;
      past = kept.past;
      legal = kept.legal;
      cut = cut_push longest J e kept.cut late;
      counts_are = kept.counts_are;
      checkpoints = kept.checkpoints;
      earlier = kept.earlier;
      first_is = kept.first_is;
      least = kept.least;
      limited = kept.most;
    } in
    let now = replay_push B.state J e in
    let after = pushed B J C (replay_from B.state J) e N N' O' longest most room' ready stepped kept.versions kept.tickets used reserved in
    record { possible = stepped.possible; base = refl; journal = refl; state = now; counts = refl; kept = after }

cut_one : (longest : ℕ) (e : Event) → 0 < longest → IsCutAt longest (e ∷ [])
unfolding IsCutAt
cut_one zero e h = absurd (omega arith)
cut_one (suc longest) e h = tt

-- the journal begins anew
anew : (B : Base) (J : List Event) (C : Counts) (N : Present) (O : List Out) (longest most room : ℕ) (e : Event)
    (N' : Present) (O' : List Out) (room' : ℕ)
    → IsDeskKept B J C N O longest most room
    → longest ≤ length J
    → Stepped (replay_from B.state J) e N N' O'
    → total C + 1 + length O' ≤ most
    → 1 + length O' ≤ room'
    → Goes B J C (Some (replay_from B.state J)) e (record { state = replay_from B.state J; counts = C; checkpoints = B.checkpoints + 1 }) (e ∷ []) (count_one C e) N' O' longest most room'
anew B J C N O longest most room e N' O' room' kept long stepped used reserved =
    let s = replay_from B.state J in
    let base : Base = record { state = s; counts = C; checkpoints = B.checkpoints + 1 } in
    let all : total C ≡ total B.counts + length J = ap total kept.counts_are ∙ total_counted B.counts J in
    let Q : Counts → Type 0 = λ c. IsPast most (record { state = s; counts = c; checkpoints = B.checkpoints + 1 }) (kept.past.0 ++ J) in
    let ready : Ready base [] C s e longest most = record {
      state = replay_none s;
      past = (kept.past.0 ++ J, subst Q (sym kept.counts_are) (past_more most B kept.past.0 J (B.checkpoints + 1) kept.past.1 kept.legal));
      legal = legal_none most (total C) s;
      cut = cut_one longest e kept.least;
      counts_are = sym (counted_none C);
      checkpoints = (let a = kept.checkpoints in let b = kept.least in omega arith);
      earlier = omega arith;
      first_is = λ h. absurd (omega (arith, h));
      least = kept.least;
      limited = kept.most;
    } in
    let after = pushed base [] C s e N N' O' longest most room' ready stepped kept.versions kept.tickets used (omega arith) in
    record { possible = stepped.possible; base = refl; journal = refl; state = replay_one s e; counts = refl; kept = after }

-- the fields as they are written
written : (B : Base) (J : List Event) (C : Counts) (x : Option State) (e : Event) (B1 : Base) (J1 : List Event) (C1 : Counts) (B' : Base) (J' : List Event) (C' : Counts) (N' : Present) (O' : List Out) (longest most room' : ℕ)
    → B' ≡ B1 → J' ≡ J1 → C' ≡ C1
    → Goes B J C x e B1 J1 C1 N' O' longest most room'
    → Goes B J C x e B' J' C' N' O' longest most room'
written B J C x e B1 J1 C1 B' J' C' N' O' longest most room' is_b is_j is_c goes =
    let P : Base → Type 0 = λ b. Goes B J C x e b J' C' N' O' longest most room' in
    let Q : List Event → Type 0 = λ js. Goes B J C x e B1 js C' N' O' longest most room' in
    let R : Counts → Type 0 = λ c. Goes B J C x e B1 J1 c N' O' longest most room' in
    subst P (sym is_b) (subst Q (sym is_j) (subst R (sym is_c) goes))

late_none : (b c : Bool) (n m : ℕ) (s : State) (q : Bool) → q ≡ b → nat_le n m ≡ c → None ≡ cond b (cond c (Some s) None) None → n ≤ m → q ≡ false
late_none false c n m s q client long is h = client
late_none true true n m s q client long is h = absurd (cc)
late_none true false n m s q client long is h = let g = is_gt n m long in absurd (omega arith)

same_state : (s z : State) → Some z ≡ Some s → z ≡ s
same_state s z h = cc

long_some : (b c : Bool) (n m : ℕ) (s z : State) → nat_le n m ≡ c → Some z ≡ cond b (cond c (Some s) None) None → (n ≤ m) × (z ≡ s)
long_some false c n m s z long is = absurd (cc)
long_some true false n m s z long is = absurd (cc)
long_some true true n m s z long is = (is_le n m long, same_state s z is)

goes : (B : Base) (J : List Event) (C : Counts) (N : Present) (O : List Out) (longest most room : ℕ) (x : Option State) (e : Event)
    (B' : Base) (J' : List Event) (C' : Counts) (N' : Present) (O' : List Out) (room' : ℕ)
    → IsDeskKept B J C N O longest most room
    → x ≡ fresh_for (seen B J O longest most []) e
    → Stepped (replay_from B.state J) e N N' O'
    → B' ≡ base_after x C B
    → J' ≡ journal_after x J ++ e ∷ []
    → C' ≡ count_one C e
    → total C + 1 + length O' ≤ most
    → length (journal_after x J) + 1 + length O' ≤ room'
    → Goes B J C x e B' J' C' N' O' longest most room'
goes B J C N O longest most room None e B' J' C' N' O' room' kept is_x stepped is_b is_j is_c used reserved =
    written B J C None e B (J ++ e ∷ []) (count_one C e) B' J' C' N' O' longest most room' is_b is_j is_c
    (on B J C N O longest most room e N' O' room' kept
    (late_none (is_client e) (nat_le longest (length J)) longest (length J) (replay_from B.state J) (is_client e) refl refl is_x) stepped used reserved)
goes B J C N O longest most room (Some z) e B' J' C' N' O' room' kept is_x stepped is_b is_j is_c used reserved =
    let s = replay_from B.state J in
    let f = long_some (is_client e) (nat_le longest (length J)) longest (length J) s z refl is_x in
    let P : State → Type 0 = λ y. Goes B J C (Some y) e B' J' C' N' O' longest most room' in
    let base : State → Base = λ y. record { state = y; counts = C; checkpoints = B.checkpoints + 1 } in
    subst P (sym f.1)
    (written B J C (Some s) e (base s) (e ∷ []) (count_one C e) B' J' C' N' O' longest most room' (is_b ∙ ap base f.1) is_j is_c
    (anew B J C N O longest most room e N' O' room' kept f.0 stepped used reserved))

enters : (B : Base) (J : List Event) (C : Counts) (N : Present) (O : List Out) (longest most room : ℕ) (x : Option State) (e : Event)
    (B' : Base) (J' : List Event) (C' : Counts) (N' : Present) (O' : List Out) (room' : ℕ) (D D' : List Event)
    → IsDeskKept B J C N O longest most room
    → x ≡ fresh_for (seen B J O longest most []) e
    → Goes B J C x e B' J' C' N' O' longest most room'
    → IsEndedBy x J D D'
    → Enters (seen B J O longest most D) (seen B' J' O' longest most D') e
enters B J C N O longest most room x e B' J' C' N' O' room' D D' kept is_x g left = record {
  possible = g.possible;
  base = g.base ∙ (λ i. base_after (is_x i) (kept.counts_are i) B);
  journal = g.journal ∙ ap (λ (y : Option State). journal_after y J ++ e ∷ []) is_x;
  ended = subst (λ (y : Option State). IsEndedBy y J D D') is_x left;
  most = refl;
  most_journal = refl;
  state = g.state;
  counts = sym g.kept.counts_are ∙ (g.counts ∙ ap (λ (c : Counts). count_one c e) kept.counts_are);
  sound = record { past = g.kept.past; first_is = g.kept.first_is; legal = g.kept.legal; cut = g.kept.cut; outs = g.kept.outs };
}

-- what is left of the journal that ended last, by what there was before room was made
left_by : (x : Option State) (J J1 D D1 D' : List Event) → J1 ≡ J → D1 ≡ D → IsEndedBy x J1 D1 D' → IsEndedBy x J D D'
left_by x J J1 D D1 D' same_j same_d left =
    let P : List Event → Type 0 = λ js. IsEndedBy x js D D' in
    let Q : List Event → Type 0 = λ ds. IsEndedBy x J1 ds D' in
    subst P same_j (subst Q same_d left)

-- what a desk holds is what the state has that contracts see
pub stands : (h : History) (N : Present) (O : List Out) (longest most : ℕ) (d : Seen)
    → IsDeskKept h.base h.events.items h.counts N O longest most h.events.room
    → seen h.base h.events.items O longest most h.events.ended ≡ d
    → Holds (state_of d) N O
stands h N O longest most d kept view =
    let H : Seen → Type 0 = λ x. Holds (state_of x) N O in
    let held : Holds (replay_from h.base.state h.events.items) N O = record {
      documents_are = kept.documents_are;
      waiting_are = kept.waiting_are;
      version_is = kept.version_is;
      ticket_is = kept.ticket_is;
      outs = kept.outs;
    } in
    subst H view held

-- no more is used than may be
pub few_of : (h : History) (N : Present) (O : List Out) (longest most : ℕ) (d : Seen)
    → IsDeskKept h.base h.events.items h.counts N O longest most h.events.room
    → seen h.base h.events.items O longest most h.events.ended ≡ d
    → used d ≤ d.max_events
few_of h N O longest most d kept view =
    let U : Seen → Type 0 = λ x. used x ≤ x.max_events in
    let counts = ap total kept.counts_are in
    let used = kept.used in
    subst U view (omega arith)

-- a desk has entered an event: its invariant holds, and contracts see the event
pub record Entered (d : Seen) (e : Event) (h : History) (N : Present) (O : List Out) (longest most : ℕ) : Type 0 where
  pub kept : IsDeskKept h.base h.events.items h.counts N O longest most h.events.room
  pub enters : Enters d (seen h.base h.events.items O longest most h.events.ended) e

-- The event was written into a journal in which room had been made.
pub entered : (h : History) (N : Present) (O : List Out) (longest most : ℕ) (d : Seen) (x : Option State) (e w : Event) (j : HeldJournal) (h' : History)
    (N' : Present) (O' : List Out)
    → IsDeskKept h.base h.events.items h.counts N O longest most h.events.room
    → seen h.base h.events.items O longest most h.events.ended ≡ d
    → x ≡ fresh_for d e
    → Stepped (state_of d) e N N' O'
    → j.items ≡ h.events.items → j.ended ≡ h.events.ended
    → Writes x (record { base = h.base; events = j; counts = h.counts }) h' w
    → w ≡ e
    → used d + 1 + length O' ≤ d.max_events + length O
    → length (journal_after x j.items) + length O' + 1 ≤ room_after x j
    → Entered d e h' N' O' longest most
entered h N O longest most d x e w j h' N' O' kept view is_x stepped same_j same_d writes is_w few room =
    let F : Seen → Type 0 = λ s. x ≡ fresh_for s e in
    let S : Seen → Type 0 = λ s. Stepped (state_of s) e N N' O' in
    let U : Seen → Type 0 = λ s. used s + 1 + length O' ≤ s.max_events + length O in
    let E : Seen → Type 0 = λ s. Enters s (seen h'.base h'.events.items O' longest most h'.events.ended) e in
    let is : x ≡ fresh_for (seen h.base h.events.items O longest most []) e = subst F (sym view) is_x in
    let u = subst U (sym view) few in
    let counts = ap total kept.counts_are in
    let long = ap (λ (es : List Event). length (journal_after x es)) same_j in
    let capacity = writes.capacity in
    let went = goes h.base h.events.items h.counts N O longest most h.events.room x e h'.base h'.events.items h'.counts N' O' h'.events.room kept is
    (subst S (sym view) stepped) writes.base (writes.events ∙ (λ i. journal_after x (same_j i) ++ is_w i ∷ [])) (writes.counts ∙ ap (count_one h.counts) is_w)
    (omega arith) (omega arith) in
    let left = left_by x h.events.items j.items h.events.ended j.ended h'.events.ended same_j same_d writes.ended in
    record { kept = went.kept; enters = subst E view (enters _ _ _ _ _ _ _ h.events.room x e _ _ _ _ _ _ _ _ kept is went left) }

-- nothing has changed, but there is room
pub kept_room : (B : Base) (J : List Event) (C : Counts) (N : Present) (O : List Out) (longest most room : ℕ)
    (J' : List Event) (N' : Present) (O' : List Out) (room' : ℕ)
    → IsDeskKept B J C N O longest most room
    → N'.documents.items ≡ N.documents.items → N'.waiting.items ≡ N.waiting.items → N'.next_version ≡ N.next_version → N'.next_ticket ≡ N.next_ticket
    → O' ≡ O → J' ≡ J → room ≤ room' → IsDeskKept B J' C N' O' longest most room'
kept_room B J C N O longest most room J' N' O' room' kept same_d same_w same_v same_t same_o same_j more =
    let P : List Event → Type 0 = λ js. IsDeskKept B js C N' O' longest most room' in
    let Q : List Out → Type 0 = λ os. IsDeskKept B J C N' os longest most room' in
    subst P (sym same_j) (subst Q (sym same_o) (record {
      documents_are = same_d ∙ kept.documents_are;
      waiting_are = same_w ∙ kept.waiting_are;
      version_is = same_v ∙ kept.version_is;
      ticket_is = same_t ∙ kept.ticket_is;
      outs = kept.outs;
      past = kept.past;
      legal = kept.legal;
      cut = kept.cut;
      counts_are = kept.counts_are;
      versions = let r = kept.versions in omega arith;
      tickets = let r = kept.tickets in omega arith;
      checkpoints = kept.checkpoints;
      earlier = kept.earlier;
      first_is = kept.first_is;
      begun = kept.begun;
      least = kept.least;
      most = kept.most;
      used = kept.used;
      reserved = let r = kept.reserved in omega arith;
    }))

-- room that was made for a state is there for the same state in another place
pub room_for : (x y : Option State) (j : HeldJournal) (n : ℕ) → x ≡ y → length (journal_after y j.items) + n + 1 ≤ room_after y j → length (journal_after x j.items) + n + 1 ≤ room_after x j
room_for x y j n same room = subst (λ (s : Option State). length (journal_after s j.items) + n + 1 ≤ room_after s j) (sym same) room

-- ---- the present state, from what a desk holds

entry_is : (e : OutboxEntry) (o : Out) → IsOutFor e o → WereTaken (e ∷ []) → entry_for o ≡ e
unfolding IsOutFor WereTaken
entry_is (Body body) o is taken = ap entry_for is
entry_is (Failure ticket id code) o is taken = ap entry_for is
entry_is (Outcome w) o is taken = ap entry_for is.1 ∙ by w w.request is.0 refl is.2 taken.0
  where
    by : (w : Waiting) (r : Option Request) (done : Told) → w.request ≡ r → Answers w done → w.taken ≡ true → entry_for (out_of w r done) ≡ Outcome w
    by w None done r a taken = λ i. Outcome (record { ticket = a.ticket i; ask = a.ask i; uri = w.uri; version = w.version; label = w.label; text = a.text i; encoding = a.encoding i; request = sym r i; taken = sym taken i })
    by w (Some q) done r a taken = λ i. Outcome (record { ticket = a.ticket i; ask = a.ask i; uri = w.uri; version = w.version; label = w.label; text = a.text i; encoding = a.encoding i; request = sym r i; taken = sym taken i })

first_taken : (e : OutboxEntry) (es : List OutboxEntry) → WereTaken (e ∷ es) → WereTaken (e ∷ [])
unfolding WereTaken
first_taken (Body body) es h = tt
first_taken (Failure ticket id code) es h = tt
first_taken (Outcome w) es h = (h.0, tt)

later_taken : (e : OutboxEntry) (es : List OutboxEntry) → WereTaken (e ∷ es) → WereTaken es
unfolding WereTaken
later_taken (Body body) es h = h
later_taken (Failure ticket id code) es h = h
later_taken (Outcome w) es h = h.1

entries_are : (es : List OutboxEntry) (os : List Out) → AreOutsFor es os → WereTaken es → map entry_for os ≡ es
unfolding AreOutsFor
entries_are [] [] h taken = refl
entries_are [] (o ∷ os) h taken = absurd h
entries_are (e ∷ es) [] h taken = absurd h
entries_are (e ∷ es) (o ∷ os) h taken = λ i. entry_is e o h.0 (first_taken e es taken) i ∷ entries_are es os h.1 (later_taken e es taken) i

state_taken : (B : Base) (J : List Event) (past : List Event) (most : ℕ) → IsPast most B past → WereTaken (replay_from B.state J).unsent
state_taken B J past most is = let P : State → Type 0 = λ s. WereTaken s.unsent in subst P (past_state most B past J is) (taken_all (past ++ J))

pub state_is : (B : Base) (J : List Event) (C : Counts) (N : Present) (O : List Out) (longest most room : ℕ)
    → IsDeskKept B J C N O longest most room
    → record { documents = N.documents.items; waiting = N.waiting.items; unsent = map entry_for O; next_version = N.next_version; next_ticket = N.next_ticket } ≡ replay_from B.state J
state_is B J C N O longest most room kept =
    let es = entries_are (replay_from B.state J).unsent O kept.outs (state_taken B J kept.past.0 most kept.past.1) in
    λ i. record { documents = kept.documents_are i; waiting = kept.waiting_are i; unsent = es i; next_version = kept.version_is i; next_ticket = kept.ticket_is i }

long_is : (n m k : ℕ) → n ≡ k → m ≤ n → nat_le m k ≡ true
long_is n m k same h = grind (arith, nat_tests)

pub fresh_is : (B : Base) (J : List Event) (O : List Out) (longest most n : ℕ) (z : State) → z ≡ replay_from B.state J → n ≡ length J → longest ≤ n → Some z ≡ fresh (seen B J O longest most [])
fresh_is B J O longest most n z is len long = ap Some is ∙ sym (λ i. cond (long_is n longest (length J) len long i) (Some (replay_from B.state J)) None)
