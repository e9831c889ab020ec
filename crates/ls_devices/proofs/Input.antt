-- Known input that is consumed, and the frames in it.
use Rattle.std.proofs.Common.{ℕ, List, [], ◌++◌, Option, None, Some, refl, sym, ◌∙◌, ap, append_assoc}
use Rattle.std.specs.Io.KnownBytes.{Consumes, Keeps}
use Rattle.ls_frame.specs.Frames.{Frames, HasNoFrame, Stream}
use Rattle.ls_frame.proofs.Streams.{frames_append}

pub consumes_consumes : (a b c : Option (List ℕ)) (x y : List ℕ) → Consumes a b x → Consumes b c y → Consumes a c (x ++ y)
consumes_consumes None b c x y p q = tt
consumes_consumes (Some xs) None c x y p q = absurd p
consumes_consumes (Some xs) (Some ys) None x y p q = absurd q
consumes_consumes (Some xs) (Some ys) (Some zs) x y p q = p ∙ (ap (λ l. x ++ l) q ∙ sym (append_assoc x y zs))

pub consumes_keeps : (a b c : Option (List ℕ)) (x : List ℕ) → Consumes a b x → Keeps b c → Consumes a c x
consumes_keeps None b c x p q = tt
consumes_keeps (Some xs) None c x p q = absurd p
consumes_keeps (Some xs) (Some ys) None x p q = absurd q
consumes_keeps (Some xs) (Some ys) (Some zs) x p q = p ∙ ap (λ l. x ++ l) (sym q)

pub consumes_none : (a : Option (List ℕ)) → Consumes a a []
consumes_none None = tt
consumes_none (Some xs) = refl

-- frames, and then a stream
pub stream_behind : (frames bytes last : List ℕ) (xs ys : List (List ℕ)) → Frames frames xs → Stream bytes ys last → Stream (frames ++ bytes) (xs ++ ys) last
stream_behind frames bytes last xs ys f s = record {
  frames = frames ++ s.frames;
  whole = frames_append frames s.frames xs ys f s.whole;
  bytes_are = ap (λ l. frames ++ l) s.bytes_are ∙ sym (append_assoc frames s.frames last);
  partial = s.partial;
}

-- a rest without frames is a stream without contents
pub no_stream : (rest : List ℕ) → HasNoFrame rest → Stream rest [] rest
no_stream rest p = record { frames = []; whole = refl; bytes_are = refl; partial = p }
