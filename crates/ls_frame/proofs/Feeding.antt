-- What a piece does to the rest of a stream.
use Rattle.std.proofs.Common.{◌≡◌, ℕ, ◌<◌, Bool, true, false, List, [], ◌∷◌, ◌++◌, length, take, drop, inl, inr, Option, None, Some, Result, Ok, Err, refl, sym, ◌∙◌, ap, subst, arith, append_assoc}
use Rattle.std.specs.Prelude.{◌⊎◌, if◌then◌else◌}
use Rattle.std.proofs.lemmas.List.{append-nil, take-append-drop, take_at}
use Rattle.ls_frame.specs.Frames.{HasNoFrame, Stream}
use Rattle.ls_frame.specs.Faults.{least_of, shown, or_first, first_shown, fault_of}
use Rattle.ls_frame.specs.Feeds.{FeedIs, SoFar, GoesOn}
use Rattle.ls_frame.specs.own.Rests.{IsQuiet, IsQuietBelow, RestIs, SplitIs, TakenIs}
use Rattle.ls_frame.specs.declared.fault.FrameFault.{FrameFault}
use Rattle.ls_frame.specs.declared.fault.FrameFault.TheVariants.{HeaderTooLong, BadHeader, NoLength, TwoLengths, BadLength, TooLarge, Truncated, Memory}
use Rattle.ls_frame.specs.declared.front.Taken.{Taken}
use Rattle.ls_frame.specs.declared.front.Rest.{Rest}
use Rattle.ls_frame.specs.declared.front.Rest.TheVariants.{Open, Faulty}
use Rattle.ls_frame.proofs.Streams.{stream_append, fault_sticks}
use Rattle.ls_frame.proofs.Wholes.{fault_no_frame}

-- bytes never show want of memory
least_memory : (long bad none two wrong large : Bool) → least_of long bad none two wrong large ≡ Some Memory → ⊥
least_memory true bad none two wrong large e = cc
least_memory false true none two wrong large e = cc
least_memory false false true two wrong large e = cc
least_memory false false false true wrong large e = cc
least_memory false false false false true large e = cc
least_memory false false false false false true e = cc
least_memory false false false false false false e = cc

or_memory : (o later : Option FrameFault) → (o ≡ Some Memory → ⊥) → (later ≡ Some Memory → ⊥) → or_first o later ≡ Some Memory → ⊥
or_memory None later p q e = q e
or_memory (Some fault) later p q e = p e

shown_memory : (front : List ℕ) → shown front ≡ Some Memory → ⊥
unfolding shown
shown_memory front e = least_memory _ _ _ _ _ _ e

first_memory : (front bytes : List ℕ) → first_shown front bytes ≡ Some Memory → ⊥
unfolding first_shown
first_memory front [] e = shown_memory front e
first_memory front (b ∷ bytes) e = or_memory (shown front) (first_shown (front ++ b ∷ []) bytes) (shown_memory front) (first_memory (front ++ b ∷ []) bytes) e

pub never_memory : (bytes : List ℕ) → fault_of bytes ≡ Some Memory → ⊥
unfolding fault_of
never_memory bytes e = first_memory [] bytes e

-- what a growth leaves, where it is done and where it is refused
pub grown : {A : Type 0} (old more new : List A) (ok : Bool) → new ≡ (if ok then old ++ more else old) → ok ≡ true → new ≡ old ++ more
grown old more new true e f = e
grown old more new false e f = absurd (cc)

pub refused : {A : Type 0} (old more new : List A) (ok : Bool) → new ≡ (if ok then old ++ more else old) → ok ≡ false → new ≡ old
refused old more new true e f = absurd (cc)
refused old more new false e f = e

-- a growth taken back
pub cut_back : (old more bytes new : List ℕ) (had : ℕ) (ok : Bool) → bytes ≡ (if ok then old ++ more else old) → ok ≡ true → had ≡ length old → new ≡ take had bytes → new ≡ old
cut_back old more bytes new had ok e f g h = h ∙ (ap (take had) (grown old more bytes ok e f) ∙ take_at old more had (sym g))

-- what is known of a rest, by another name
pub kept : (bytes now : List ℕ) (rest other : Rest) → RestIs bytes rest → rest ≡ other → bytes ≡ now → RestIs now other
kept bytes now rest other r e f =
    let P : Rest → Type 0 = λ x. RestIs bytes x in
    let Q : List ℕ → Type 0 = λ l. RestIs l other in
    subst Q f (subst P e r)

pub rest_no_frame : (bytes : List ℕ) (rest : Rest) → RestIs bytes rest → HasNoFrame bytes
rest_no_frame bytes (Open wanted) r = r.0.1
rest_no_frame bytes (Faulty fault) r = r.1

-- a stream of one rest
pub alone_stream : (bytes : List ℕ) → HasNoFrame bytes → Stream bytes [] bytes
alone_stream bytes n = record { frames = []; whole = refl; bytes_are = refl; partial = n }

-- a fault has been shown
pub feed_stuck : (old piece : List ℕ) (before : List (List ℕ)) (fault : FrameFault) → fault_of old ≡ Some fault → FeedIs old piece before (Err fault) old before
feed_stuck old piece before HeaderTooLong e = inl (e, refl, refl)
feed_stuck old piece before BadHeader e = inl (e, refl, refl)
feed_stuck old piece before NoLength e = inl (e, refl, refl)
feed_stuck old piece before TwoLengths e = inl (e, refl, refl)
feed_stuck old piece before BadLength e = inl (e, refl, refl)
feed_stuck old piece before TooLarge e = inl (e, refl, refl)
feed_stuck old piece before Truncated e = inl (e, refl, refl)
feed_stuck old piece before Memory e = absurd (never_memory old e)

-- A framer that shows no fault has a piece behind its rest.
pub record Longer (old piece bytes : List ℕ) (wanted : ℕ) : Type 0 where
  pub known : RestIs old (Open wanted)
  pub bytes_are : bytes ≡ old ++ piece

pub longer : (pending old piece bytes : List ℕ) (rest : Rest) (wanted : ℕ) (ok : Bool) → RestIs pending rest → rest ≡ Open wanted → pending ≡ old
    → bytes ≡ (if ok then pending ++ piece else pending) → ok ≡ true → Longer old piece bytes wanted
longer pending old piece bytes rest wanted ok r e same growth done = record {
  known = kept pending old rest (Open wanted) r e same;
  bytes_are = grown pending piece bytes ok growth done ∙ ap (λ l. l ++ piece) same;
}

-- the frame isn't whole yet
pub feed_waits : (old piece new : List ℕ) (before : List (List ℕ)) (wanted : ℕ) → Longer old piece new wanted → length new < wanted → FeedIs old piece before (Ok 0) new before
feed_waits old piece new before wanted l less =
    let quiet : IsQuiet (old ++ piece) = l.known.1 piece (omega (arith, less, ap length l.bytes_are)) in
    let P : List ℕ → Type 0 = λ x. Stream (old ++ piece) [] x in
    (l.known.0.0, ap fault_of l.bytes_are ∙ quiet.0, ([], refl, sym (append-nil before), subst P (sym l.bytes_are) (alone_stream (old ++ piece) quiet.1)))

pub rest_waits : (old piece new : List ℕ) (rest : Rest) (wanted : ℕ) → Longer old piece new wanted → length new < wanted → rest ≡ Open wanted → RestIs new rest
rest_waits old piece new rest wanted l less is =
    let below : IsQuietBelow (old ++ piece) wanted = λ more short.
    let same : old ++ (piece ++ more) ≡ (old ++ piece) ++ more = sym (append_assoc old piece more) in
    subst IsQuiet same (l.known.1 (piece ++ more) (omega (arith, short, ap length same))) in
    kept (old ++ piece) new (Open wanted) rest (l.known.1 piece (omega (arith, less, ap length l.bytes_are)), below) (sym is) (sym l.bytes_are)

-- the rest behind the frames that have been taken
pub rest_behind : (bytes whole new : List ℕ) (before after : List (List ℕ)) (taken : Taken) → whole ≡ bytes → TakenIs whole before (Ok taken) after → new ≡ drop taken.used bytes
    → RestIs new taken.rest
rest_behind bytes whole new before after taken same t is =
    kept (drop taken.used whole) new taken.rest taken.rest t.3.2 refl (ap (drop taken.used) same ∙ sym is)

behind_stream : (old piece bytes whole new : List ℕ) (contents : List (List ℕ)) (wanted used : ℕ) (rest : Rest) → Longer old piece bytes wanted → whole ≡ bytes
    → SplitIs whole contents used rest → new ≡ drop used bytes → Stream (old ++ piece) contents new
behind_stream old piece bytes whole new contents wanted used rest l same s is =
    let P : List ℕ → Type 0 = λ x. Stream x contents (drop used whole) in
    let Q : List ℕ → Type 0 = λ x. Stream (old ++ piece) contents x in
    let split : Stream whole contents (drop used whole) = record {
      frames = _;
      whole = s.1;
      bytes_are = sym (take-append-drop used whole);
      partial = rest_no_frame (drop used whole) rest s.2;
    } in
    subst Q (ap (drop used) same ∙ sym is) (subst P (same ∙ l.bytes_are) split)

-- frames are whole, and the rest shows no fault
pub feed_open : (old piece bytes whole new : List ℕ) (before after : List (List ℕ)) (wanted later : ℕ) (taken : Taken) → Longer old piece bytes wanted → whole ≡ bytes
    → TakenIs whole before (Ok taken) after → taken.rest ≡ Open later → new ≡ drop taken.used bytes → FeedIs old piece before (Ok taken.count) new after
feed_open old piece bytes whole new before after wanted later taken l same t open_rest is =
    let rest : RestIs new (Open later) = kept new new taken.rest (Open later) (rest_behind bytes whole new before after taken same t is) open_rest refl in
    (l.known.0.0, rest.0.0, (t.0, t.1, t.2, behind_stream old piece bytes whole new t.0 wanted taken.used taken.rest l same t.3 is))

feed_shows : (old piece new : List ℕ) (before after contents : List (List ℕ)) (fault : FrameFault) → fault_of old ≡ None → fault_of new ≡ Some fault
    → after ≡ before ++ contents → Stream (old ++ piece) contents new → FeedIs old piece before (Err fault) new after
feed_shows old piece new before after contents HeaderTooLong none some given s = inr (none, some, (contents, given, s))
feed_shows old piece new before after contents BadHeader none some given s = inr (none, some, (contents, given, s))
feed_shows old piece new before after contents NoLength none some given s = inr (none, some, (contents, given, s))
feed_shows old piece new before after contents TwoLengths none some given s = inr (none, some, (contents, given, s))
feed_shows old piece new before after contents BadLength none some given s = inr (none, some, (contents, given, s))
feed_shows old piece new before after contents TooLarge none some given s = inr (none, some, (contents, given, s))
feed_shows old piece new before after contents Truncated none some given s = inr (none, some, (contents, given, s))
feed_shows old piece new before after contents Memory none some given s = absurd (never_memory new some)

-- frames are whole, and the rest shows a fault
pub feed_faulty : (old piece bytes whole new : List ℕ) (before after : List (List ℕ)) (wanted : ℕ) (fault : FrameFault) (taken : Taken) → Longer old piece bytes wanted → whole ≡ bytes
    → TakenIs whole before (Ok taken) after → taken.rest ≡ Faulty fault → new ≡ drop taken.used bytes → FeedIs old piece before (Err fault) new after
feed_faulty old piece bytes whole new before after wanted fault taken l same t faulty is =
    let rest : RestIs new (Faulty fault) = kept new new taken.rest (Faulty fault) (rest_behind bytes whole new before after taken same t is) faulty refl in
    feed_shows old piece new before after t.0 fault l.known.0.0 rest.0 t.2 (behind_stream old piece bytes whole new t.0 wanted taken.used taken.rest l same t.3 is)

-- a stream is what has been seen, where nothing was taken behind a fault
pub stream_so_far : (seen kept : List ℕ) (given : List (List ℕ)) → Stream seen given kept → SoFar seen given kept
stream_so_far seen kept given s = record { rest = kept; stream = s; fault = refl; keeps = λ e. refl }

next_seen : (seen old piece new : List ℕ) (given contents : List (List ℕ)) → SoFar seen given old → fault_of old ≡ None → Stream (old ++ piece) contents new
    → SoFar (seen ++ piece) (given ++ contents) new
next_seen seen old piece new given contents s none t =
    let P : List ℕ → Type 0 = λ l. Stream (l ++ piece) contents new in
    record {
      rest = new;
      stream = stream_append seen piece s.rest new given contents s.stream (subst P (s.keeps none) t);
      fault = refl;
      keeps = λ e. refl;
    }

stuck_seen : (seen old piece : List ℕ) (given : List (List ℕ)) (fault : FrameFault) → SoFar seen given old → fault_of old ≡ Some fault → SoFar (seen ++ piece) (given ++ []) old
stuck_seen seen old piece given fault s some =
    let stays : fault_of (s.rest ++ piece) ≡ Some fault = fault_sticks s.rest piece fault (sym s.fault ∙ some) in
    record {
      rest = s.rest ++ piece;
      stream = stream_append seen piece s.rest (s.rest ++ piece) given [] s.stream (alone_stream (s.rest ++ piece) (fault_no_frame (s.rest ++ piece) fault stays));
      fault = some ∙ sym stays;
      keeps = λ none. let both : Some fault ≡ None = sym some ∙ none in absurd (cc);
    }

fault_goes : (seen old piece new : List ℕ) (given before after : List (List ℕ)) (fault : FrameFault) → SoFar seen given old
    → ((fault_of old ≡ Some fault) × (new ≡ old) × (after ≡ before))
    ⊎ ((fault_of old ≡ None) × (fault_of new ≡ Some fault) × ((contents : List (List ℕ)) × (after ≡ before ++ contents) × Stream (old ++ piece) contents new))
    → (contents : List (List ℕ)) × (after ≡ before ++ contents) × SoFar (seen ++ piece) (given ++ contents) new
fault_goes seen old piece new given before after fault s (inl (some, same, out)) =
    let P : List ℕ → Type 0 = λ l. SoFar (seen ++ piece) (given ++ []) l in
    ([], out ∙ sym (append-nil before), subst P (sym same) (stuck_seen seen old piece given fault s some))
fault_goes seen old piece new given before after fault s (inr (none, some, (contents, out, t))) =
    (contents, out, next_seen seen old piece new given contents s none t)

-- over all pieces
pub feed_stream : (seen old piece new : List ℕ) (given before after : List (List ℕ)) (result : Result ℕ FrameFault) → SoFar seen given old
    → FeedIs old piece before result new after → GoesOn seen given piece before result new after
feed_stream seen old piece new given before after (Ok n) s (none, still, (contents, count, out, t)) = (contents, out, next_seen seen old piece new given contents s none t)
feed_stream seen old piece new given before after (Err HeaderTooLong) s f = fault_goes seen old piece new given before after HeaderTooLong s f
feed_stream seen old piece new given before after (Err BadHeader) s f = fault_goes seen old piece new given before after BadHeader s f
feed_stream seen old piece new given before after (Err NoLength) s f = fault_goes seen old piece new given before after NoLength s f
feed_stream seen old piece new given before after (Err TwoLengths) s f = fault_goes seen old piece new given before after TwoLengths s f
feed_stream seen old piece new given before after (Err BadLength) s f = fault_goes seen old piece new given before after BadLength s f
feed_stream seen old piece new given before after (Err TooLarge) s f = fault_goes seen old piece new given before after TooLarge s f
feed_stream seen old piece new given before after (Err Truncated) s f = fault_goes seen old piece new given before after Truncated s f
feed_stream seen old piece new given before after (Err Memory) s (none, same, out) = let P : List ℕ → Type 0 = λ l. SoFar seen given l in (subst P (sym same) s, out)
