-- Pieces of the input that a framer is fed.
use Rattle.std.proofs.Common.{◌≡◌, ◌∙◌, ◌⊎◌, inl, inr, ℕ, ◌+◌, ◌<◌, List, [], ◌∷◌, ◌++◌, length, take, get_or, Vec, Option, None, Some, Result, Ok, Err, refl, sym, ap, subst, append_assoc}
use Rattle.std.proofs.lemmas.List.{append-nil, map-append, take_more}
use Rattle.std.specs.declared.alloc.Global.{Global}
use Rattle.ls_frame.specs.Frames.{HasNoFrame, Stream}
use Rattle.ls_frame.specs.Faults.{fault_of}
use Rattle.ls_frame.specs.Feeds.{FeedIs, contents_of}
use Rattle.ls_frame.proofs.Streams.{stream_append}
use Rattle.ls_session.specs.declared.turn.Status.{Status}
use Rattle.ls_devices.specs.Input.{BreaksOff, ComesToEnd, ComesMore}
use Rattle.ls_devices.proofs.Input.{no_stream, stream_behind}
use Rattle.ls_frame.specs.declared.fault.FrameFault.{FrameFault}
use Rattle.ls_frame.specs.declared.fault.FrameFault.TheVariants.{HeaderTooLong, BadHeader, NoLength, TwoLengths, BadLength, TooLarge, Truncated, Memory as NoMemory}

-- what a fed piece says of the rest
abbrev pub Fed : List ℕ → List ℕ → Result ℕ FrameFault → List ℕ → List (List ℕ) → Type 0
Fed old piece (Ok n) new after = (fault_of new ≡ None) × Stream (old ++ piece) after new
Fed old piece (Err NoMemory) new after = after ≡ []
Fed old piece (Err fault) new after = (fault_of new ≡ Some fault) × Stream (old ++ piece) after new

none_some : (o : Option FrameFault) (fault : FrameFault) → o ≡ None → o ≡ Some fault → ⊥
none_some o fault e f = cc

fed_err : (old piece new : List ℕ) (after : List (List ℕ)) (fault : FrameFault) → fault_of old ≡ None
    → ((fault_of old ≡ Some fault) × (new ≡ old) × (after ≡ []))
    ⊎ ((fault_of old ≡ None) × (fault_of new ≡ Some fault) × ((contents : List (List ℕ)) × (after ≡ contents) × Stream (old ++ piece) contents new))
    → (fault_of new ≡ Some fault) × Stream (old ++ piece) after new
fed_err old piece new after fault e (inl h) = absurd (none_some (fault_of old) fault e h.0)
fed_err old piece new after fault e (inr h) = (h.1, rw h.2.1 h.2.2)

pub fed_is : (old piece new : List ℕ) (after : List (List ℕ)) (fed : Result ℕ FrameFault) → fault_of old ≡ None → FeedIs old piece [] fed new after → Fed old piece fed new after
fed_is old piece new after (Ok n) e h = (h.1, rw h.2.2 h.2.3)
fed_is old piece new after (Err HeaderTooLong) e h = fed_err old piece new after HeaderTooLong e h
fed_is old piece new after (Err BadHeader) e h = fed_err old piece new after BadHeader e h
fed_is old piece new after (Err NoLength) e h = fed_err old piece new after NoLength e h
fed_is old piece new after (Err TwoLengths) e h = fed_err old piece new after TwoLengths e h
fed_is old piece new after (Err BadLength) e h = fed_err old piece new after BadLength e h
fed_is old piece new after (Err TooLarge) e h = fed_err old piece new after TooLarge e h
fed_is old piece new after (Err Truncated) e h = fed_err old piece new after Truncated e h
fed_is old piece new after (Err NoMemory) e h = h.2

-- the bodies are those of the piece, or there are none
pub fed_stream : (old piece new : List ℕ) (after : List (List ℕ)) (fed : Result ℕ FrameFault) → Fed old piece fed new after → Stream (old ++ piece) after new ⊎ (after ≡ [])
fed_stream old piece new after (Ok n) f = inl f.1
fed_stream old piece new after (Err HeaderTooLong) f = inl f.1
fed_stream old piece new after (Err BadHeader) f = inl f.1
fed_stream old piece new after (Err NoLength) f = inl f.1
fed_stream old piece new after (Err TwoLengths) f = inl f.1
fed_stream old piece new after (Err BadLength) f = inl f.1
fed_stream old piece new after (Err TooLarge) f = inl f.1
fed_stream old piece new after (Err Truncated) f = inl f.1
fed_stream old piece new after (Err NoMemory) f = inr f

-- the next of the contents that were fed
pub take_next : (bodies : List (Vec ℕ Global)) (i : ℕ) (body : Vec ℕ Global) (text : List ℕ) → i < length bodies → body ≡ get_or bodies i body → text ≡ body.items
    → contents_of (take (i + 1) bodies) ≡ contents_of (take i bodies) ++ text ∷ []
take_next bodies i body text h at e =
    ap contents_of (take_more bodies i body h)
    ∙ (map-append (λ content. content.items) (take i bodies) (get_or bodies i body ∷ [])
    ∙ ap (λ l. contents_of (take i bodies) ++ l ∷ []) (ap (λ (v : Vec ℕ Global). v.items) (sym at) ∙ sym e))

-- ---- what is made of their contents

-- nothing of the piece, where no content came
pub breaks_before : (Made : List (List ℕ) → Type 0) (old piece : List ℕ) (after : List (List ℕ)) → HasNoFrame old → after ≡ [] → Made after → BreaksOff Made old piece
breaks_before Made old piece after p e made = record {
  part = old;
  more = piece;
  bytes_are = refl;
  contents = [];
  last = old;
  stream = no_stream old p;
  made = subst Made e made;
}

pub breaks_off : (Made : List (List ℕ) → Type 0) (old piece new : List ℕ) (after : List (List ℕ)) → HasNoFrame old → Stream (old ++ piece) after new ⊎ (after ≡ []) → Made after → BreaksOff Made old piece
breaks_off Made old piece new after p (inl s) made = record {
  part = old ++ piece;
  more = [];
  bytes_are = sym (append-nil (old ++ piece));
  contents = after;
  last = new;
  stream = s;
  made = made;
}
breaks_off Made old piece new after p (inr e) made = breaks_before Made old piece after p e made

-- ---- a piece comes behind what was read

pub goes_more : (First Next All : List (List ℕ) → Type 0) (read rest piece last : List ℕ) → ComesMore First [] read rest → ComesMore Next rest piece last
    → ((xs ys : List (List ℕ)) → First xs → Next ys → All (xs ++ ys)) → ComesMore All [] (read ++ piece) last
goes_more First Next All read rest piece last g p both = record {
  contents = g.contents ++ p.contents;
  stream = stream_append read piece rest last g.contents p.contents g.stream p.stream;
  fault = p.fault;
  made = both g.contents p.contents g.made p.made;
}

pub ends_more : (First : List (List ℕ) → Type 0) (Next All : List (List ℕ) → Option Status → Type 0) (read rest piece : List ℕ) (status : Status) → ComesMore First [] read rest
    → ComesToEnd Next rest piece status → ((xs ys : List (List ℕ)) (exit : Option Status) → First xs → Next ys exit → All (xs ++ ys) exit) → ComesToEnd All [] (read ++ piece) status
ends_more First Next All read rest piece status g p both = record {
  contents = g.contents ++ p.contents;
  last = p.last;
  exit = p.exit;
  stream = stream_append read piece rest p.last g.contents p.contents g.stream p.stream;
  status_is = p.status_is;
  made = both g.contents p.contents p.exit g.made p.made;
}

pub breaks_more : (First Next All : List (List ℕ) → Type 0) (read rest piece : List ℕ) → ComesMore First [] read rest → BreaksOff Next rest piece
    → ((xs ys : List (List ℕ)) → First xs → Next ys → All (xs ++ ys)) → BreaksOff All [] (read ++ piece)
breaks_more First Next All read rest piece g p both = record {
  part = g.stream.frames ++ p.part;
  more = p.more;
  bytes_are = ap (λ l. l ++ piece) g.stream.bytes_are ∙ (append_assoc g.stream.frames rest piece
      ∙ (ap (λ l. g.stream.frames ++ l) p.bytes_are ∙ sym (append_assoc g.stream.frames p.part p.more)));
  contents = g.contents ++ p.contents;
  last = p.last;
  stream = stream_behind g.stream.frames p.part p.last g.contents p.contents g.stream.whole p.stream;
  made = both g.contents p.contents g.made p.made;
}
