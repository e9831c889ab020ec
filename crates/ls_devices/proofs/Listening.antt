-- The pieces of an input, and how they are heard.
use Rattle.std.proofs.Common.{◌≡◌, ◌∙◌, ◌⊎◌, inl, inr, ℕ, ◌+◌, ◌==◌, ◌||◌, Bool, true, false, List, [], ◌∷◌, ◌++◌, Option, None, Some, Result, Ok, Err, rules, refl, sym, ap, subst}
use Rattle.std.proofs.lemmas.List.{append-nil}
use Rattle.std.specs.Io.KnownBytes.{Consumes, IsAtEnd}
use Rattle.ls_frame.specs.Frames.{HasNoFrame, Stream}
use Rattle.ls_frame.specs.Faults.{fault_of}
use Rattle.ls_frame.specs.Feeds.{FeedIs}
use Rattle.ls_frame.proofs.Streams.{no_fault, none_yet}
use Rattle.ls_frame.specs.declared.fault.FrameFault.{FrameFault}
use Rattle.ls_frame.specs.declared.fault.FrameFault.TheVariants.{HeaderTooLong, BadHeader, NoLength, TwoLengths, BadLength, TooLarge, Truncated, Memory}
use Rattle.ls_session.specs.declared.turn.Status.{Status}
use Rattle.ls_session.specs.declared.turn.Status.TheVariants.{BadFrame}
use Rattle.ls_devices.specs.Ends.{end_status}
use Rattle.ls_devices.specs.Input.{ComesMore, ComesToEnd}
use Rattle.ls_devices.specs.Reading.{HearsAll, HearsPrefix, HearsInput, HearsOn, InputIs}
use Rattle.ls_devices.specs.own.Pieces.{HearsPiece, IsEndOfPiece}
use Rattle.ls_devices.specs.declared.reading.ReaderEnd.{ReaderEnd}
use Rattle.ls_devices.specs.declared.reading.ReaderEnd.TheVariants.{Broken, Ended, Failed}
use Rattle.ls_devices.proofs.Hearing.{all_append, all_heard, all_keeps, all_shows, prefix_append, prefix_keeps, prefix_shows, on_append, on_keeps, on_shows}
use Rattle.ls_devices.proofs.Input.{consumes_consumes, consumes_none, no_stream}
use Rattle.ls_devices.proofs.Pieces.{Fed, breaks_before, breaks_more, breaks_off, ends_more, fed_is, fed_stream, goes_more}

nothing_is : (before left : List (List ℕ)) (last : List ℕ) → [] ≡ before ++ last ∷ left → ⊥
nothing_is [] left last e = cc
nothing_is (body ∷ before) left last e = cc

exits : {L : Type 0} (Hears : List ℕ → L → Option Status → L → Type 0) (old piece new : List ℕ) (after : List (List ℕ)) (status : Status) (a b : L) → Stream (old ++ piece) after new ⊎ (after ≡ [])
    → HearsAll Hears after a (Some status) b → ComesToEnd (λ bodies exit. HearsAll Hears bodies a exit b) old piece status
exits Hears old piece new after status a b (inl s) h = record { contents = after; last = new; exit = Some status; stream = s; status_is = refl; made = h }
exits Hears old piece new after status a b (inr e) h = absurd (nothing_is h.0 h.2 h.1 (sym e ∙ h.4.0))

-- nothing was read
pub begins : {L : Type 0} (Hears : List ℕ → L → Option Status → L → Type 0) (rest : List ℕ) (a : L) → rest ≡ [] → ComesMore (λ bodies. HearsOn Hears bodies a a) [] [] rest
begins Hears rest a e = record { contents = []; stream = rw e (no_stream [] none_yet); fault = rw e no_fault; made = refl }

module _ {L F : Type 0} (Hears : List ℕ → L → Option Status → L → Type 0) (Breaks : List ℕ → L → F → L → Type 0) (Lacks : F → Type 0) where
  -- ---- one piece

  goes_on : (old piece new : List ℕ) (after : List (List ℕ)) (a b : L) (r : Result (Option Status) F) → r ≡ Ok None → (fault_of new ≡ None) × Stream (old ++ piece) after new → HearsOn Hears after a b
      → HearsPiece Hears Breaks Lacks old piece a r new b
  goes_on old piece new after a b r is f h =
      subst (λ o. HearsPiece Hears Breaks Lacks old piece a o new b) (sym is) (record { contents = after; stream = f.1; fault = f.0; made = h })

  is_faulty : (old piece new : List ℕ) (after : List (List ℕ)) (a b : L) (r : Result (Option Status) F) (fault : FrameFault) → r ≡ Ok (Some (BadFrame fault))
      → (fault_of new ≡ Some fault) × Stream (old ++ piece) after new → HearsOn Hears after a b → HearsPiece Hears Breaks Lacks old piece a r new b
  is_faulty old piece new after a b r fault is f h =
      subst (λ o. HearsPiece Hears Breaks Lacks old piece a o new b) (sym is) (record { contents = after; last = new; exit = None; stream = f.1; status_is = rw f.0 refl; made = h })

  end_of : (old piece new : List ℕ) (after : List (List ℕ)) (a b : L) (fed : Result ℕ FrameFault) (r : Result (Option Status) F) → IsEndOfPiece Lacks fed r → HasNoFrame old
      → Fed old piece fed new after → HearsOn Hears after a b → HearsPiece Hears Breaks Lacks old piece a r new b
  end_of old piece new after a b (Ok n) r is p f h = goes_on old piece new after a b r is f h
  end_of old piece new after a b (Err HeaderTooLong) r is p f h = is_faulty old piece new after a b r HeaderTooLong is f h
  end_of old piece new after a b (Err BadHeader) r is p f h = is_faulty old piece new after a b r BadHeader is f h
  end_of old piece new after a b (Err NoLength) r is p f h = is_faulty old piece new after a b r NoLength is f h
  end_of old piece new after a b (Err TwoLengths) r is p f h = is_faulty old piece new after a b r TwoLengths is f h
  end_of old piece new after a b (Err BadLength) r is p f h = is_faulty old piece new after a b r BadLength is f h
  end_of old piece new after a b (Err TooLarge) r is p f h = is_faulty old piece new after a b r TooLarge is f h
  end_of old piece new after a b (Err Truncated) r is p f h = is_faulty old piece new after a b r Truncated is f h
  end_of old piece new after a b (Err Memory) r is p f h =
      subst (λ o. HearsPiece Hears Breaks Lacks old piece a o new b) (sym is.1)
      (breaks_before (λ bodies. HearsPrefix Hears Breaks Lacks is.0 bodies a b) old piece after p f (all_heard Hears Breaks Lacks is.0 after a b is.2 h))

  -- all messages of a piece were heard
  pub piece_heard : (old piece new : List ℕ) (before after given : List (List ℕ)) (a b : L) (fed : Result ℕ FrameFault) (r : Result (Option Status) F) → HasNoFrame old → fault_of old ≡ None
      → FeedIs old piece before fed new after → before ≡ [] → given ≡ after → IsEndOfPiece Lacks fed r → HearsOn Hears given a b → HearsPiece Hears Breaks Lacks old piece a r new b
  piece_heard old piece new before after given a b fed r p e f none same is h =
      end_of old piece new after a b fed r is p (fed_is old piece new after fed e (subst (λ l. FeedIs old piece l fed new after) none f)) (subst (λ l. HearsOn Hears l a b) same h)

  -- an exit is among the messages of a piece
  pub piece_exits : (old piece new : List ℕ) (before after given : List (List ℕ)) (a b : L) (fed : Result ℕ FrameFault) (status : Status) → fault_of old ≡ None
      → FeedIs old piece before fed new after → before ≡ [] → given ≡ after → HearsAll Hears given a (Some status) b → HearsPiece Hears Breaks Lacks old piece a (Ok (Some status)) new b
  piece_exits old piece new before after given a b fed status e f none same h =
      exits Hears old piece new after status a b (fed_stream old piece new after fed (fed_is old piece new after fed e (subst (λ l. FeedIs old piece l fed new after) none f)))
      (subst (λ l. HearsAll Hears l a (Some status) b) same h)

  -- it broke off within the messages of a piece
  pub piece_breaks : (old piece new : List ℕ) (before after given : List (List ℕ)) (a b : L) (fed : Result ℕ FrameFault) (fault : F) → HasNoFrame old → fault_of old ≡ None
      → FeedIs old piece before fed new after → before ≡ [] → given ≡ after → HearsPrefix Hears Breaks Lacks fault given a b → HearsPiece Hears Breaks Lacks old piece a (Err fault) new b
  piece_breaks old piece new before after given a b fed fault p e f none same h =
      breaks_off (λ bodies. HearsPrefix Hears Breaks Lacks fault bodies a b) old piece new after p
      (fed_stream old piece new after fed (fed_is old piece new after fed e (subst (λ l. FeedIs old piece l fed new after) none f))) (subst (λ l. HearsPrefix Hears Breaks Lacks fault l a b) same h)

  -- ---- piece after piece

  -- a piece comes behind what was read
  pub piece_more : (read rest piece last : List ℕ) (a b c : L) (r : Result (Option Status) F) → ComesMore (λ bodies. HearsOn Hears bodies a b) [] read rest
      → HearsPiece Hears Breaks Lacks rest piece b r last c → HearsPiece Hears Breaks Lacks [] (read ++ piece) a r last c
  piece_more read rest piece last a b c (Ok None) g p =
      goes_more (λ xs. HearsOn Hears xs a b) (λ xs. HearsOn Hears xs b c) (λ xs. HearsOn Hears xs a c) read rest piece last g p (λ xs ys. on_append Hears xs ys a b c)
  piece_more read rest piece last a b c (Ok (Some status)) g p =
      ends_more (λ xs. HearsOn Hears xs a b) (λ xs exit. HearsAll Hears xs b exit c) (λ xs exit. HearsAll Hears xs a exit c) read rest piece status g p (λ xs ys exit. all_append Hears xs ys a b c exit)
  piece_more read rest piece last a b c (Err fault) g p =
      breaks_more (λ xs. HearsOn Hears xs a b) (λ xs. HearsPrefix Hears Breaks Lacks fault xs b c) (λ xs. HearsPrefix Hears Breaks Lacks fault xs a c) read rest piece g p
      (λ xs ys. prefix_append Hears Breaks Lacks fault xs ys a b c)

  -- no memory was left to read anything
  pub refused_at_once : (input : Option (List ℕ)) (a : L) (fault : F) → Lacks fault → HearsInput Hears Breaks Lacks input input a (Broken fault) a
  refused_at_once input a fault lacks = record {
    heard = (
      [],
      consumes_none input,
      record { part = []; more = []; bytes_are = refl; contents = []; last = []; stream = no_stream [] none_yet; made = all_heard Hears Breaks Lacks fault [] a a lacks refl },
    );
  }

  -- the input has ended behind what was read
  pub ended : (input before left : Option (List ℕ)) (read none rest : List ℕ) (a b : L) (status : Status) → none ≡ [] → Consumes input before read → ComesMore (λ bodies. HearsOn Hears bodies a b) [] read rest
      → Consumes before left none → IsAtEnd left → status ≡ end_status (fault_of rest) rest → HearsInput Hears Breaks Lacks input left a (Ended status) b
  ended input before left read none rest a b status n c g d at_end e = record {
    heard = (
      read,
      subst (Consumes input left) (ap (λ l. read ++ l) n ∙ append-nil read) (consumes_consumes input before left read none c d),
      inr (at_end, (rest, g, e ∙ ap (λ o. end_status o rest) g.fault)),
    );
  }

  -- a piece gives a status
  pub by_status : (input before left : Option (List ℕ)) (read piece rest last : List ℕ) (a b c : L) (status : Status) → Consumes input before read → ComesMore (λ bodies. HearsOn Hears bodies a b) [] read rest
      → Consumes before left piece → HearsPiece Hears Breaks Lacks rest piece b (Ok (Some status)) last c → HearsInput Hears Breaks Lacks input left a (Ended status) c
  by_status input before left read piece rest last a b c status q g d p =
      record { heard = (read ++ piece, consumes_consumes input before left read piece q d, inl (piece_more read rest piece last a b c (Ok (Some status)) g p)) }

  -- it breaks off in a piece
  pub by_fault : (input before left : Option (List ℕ)) (read piece rest last : List ℕ) (a b c : L) (fault : F) → Consumes input before read → ComesMore (λ bodies. HearsOn Hears bodies a b) [] read rest
      → Consumes before left piece → HearsPiece Hears Breaks Lacks rest piece b (Err fault) last c → HearsInput Hears Breaks Lacks input left a (Broken fault) c
  by_fault input before left read piece rest last a b c fault q g d p =
      record { heard = (read ++ piece, consumes_consumes input before left read piece q d, piece_more read rest piece last a b c (Err fault) g p) }

-- ---- what is made of an input

more_shows : (On More : List (List ℕ) → Type 0) (read rest : List ℕ) → ((bodies : List (List ℕ)) → On bodies → More bodies) → ComesMore On [] read rest → ComesMore More [] read rest
more_shows On More read rest on g = record { contents = g.contents; stream = g.stream; fault = g.fault; made = on g.contents g.made }

end_shows : (All Every : List (List ℕ) → Option Status → Type 0) (read : List ℕ) (status : Status) → ((bodies : List (List ℕ)) (exit : Option Status) → All bodies exit → Every bodies exit)
    → ComesToEnd All [] read status → ComesToEnd Every [] read status
end_shows All Every read status all g =
    record { contents = g.contents; last = g.last; exit = g.exit; stream = g.stream; status_is = g.status_is; made = all g.contents g.exit g.made }

-- More is known of the input where more is known of what is made of its messages.
pub input_shows : {F : Type 0} (On More : List (List ℕ) → Type 0) (All Every : List (List ℕ) → Option Status → Type 0) (Prefix Part : F → List (List ℕ) → Type 0) (input left : Option (List ℕ)) (end : ReaderEnd F)
    → ((bodies : List (List ℕ)) → On bodies → More bodies) → ((bodies : List (List ℕ)) (exit : Option Status) → All bodies exit → Every bodies exit)
    → ((fault : F) (bodies : List (List ℕ)) → end ≡ Broken fault → Prefix fault bodies → Part fault bodies) → InputIs On All Prefix input left end → InputIs More Every Part input left end
input_shows On More All Every Prefix Part input left (Ended status) on all prefix (read, consumes, inl g) = (read, consumes, inl (end_shows All Every read status all g))
input_shows On More All Every Prefix Part input left (Ended status) on all prefix (read, consumes, inr g) = (read, consumes, inr (g.0, (g.1.0, more_shows On More read g.1.0 on g.1.1, g.1.2)))
input_shows On More All Every Prefix Part input left Failed on all prefix h = (h.0, h.1, h.2, more_shows On More h.0 h.1 on h.3)
input_shows On More All Every Prefix Part input left (Broken fault) on all prefix h = (
  h.0,
  h.1,
  record {
    part = h.2.part;
    more = h.2.more;
    bytes_are = h.2.bytes_are;
    contents = h.2.contents;
    last = h.2.last;
    stream = h.2.stream;
    made = prefix fault h.2.contents refl h.2.made;
  },
)

keeps : {L F N : Type 0} (Hears : List ℕ → L → Option Status → L → Type 0) (Breaks : List ℕ → L → F → L → Type 0) (Lacks : F → Type 0) (f : L → N)
    → ((body : List ℕ) (a b : L) (exit : Option Status) → Hears body a exit b → f b ≡ f a) → ((body : List ℕ) (a b : L) (fault : F) → Breaks body a fault b → f b ≡ f a)
    → (input left : Option (List ℕ)) (a b : L) (end : ReaderEnd F)
    → InputIs (λ bodies. HearsOn Hears bodies a b) (λ bodies exit. HearsAll Hears bodies a exit b) (λ fault bodies. HearsPrefix Hears Breaks Lacks fault bodies a b) input left end → f b ≡ f a
keeps Hears Breaks Lacks f one part input left a b (Ended status) (read, consumes, inl g) = all_keeps Hears f one g.contents a b g.exit g.made
keeps Hears Breaks Lacks f one part input left a b (Ended status) (read, consumes, inr g) = on_keeps Hears f one g.1.1.contents a b g.1.1.made
keeps Hears Breaks Lacks f one part input left a b Failed h = on_keeps Hears f one h.3.contents a b h.3.made
keeps Hears Breaks Lacks f one part input left a b (Broken fault) h = prefix_keeps Hears f one Breaks Lacks fault (λ body x y p. part body x y fault p) h.2.contents a b h.2.made

-- What no message changes is as it was.
pub input_keeps : {L F N : Type 0} {Hears : List ℕ → L → Option Status → L → Type 0} {Breaks : List ℕ → L → F → L → Type 0} {Lacks : F → Type 0} {input left : Option (List ℕ)} {a b : L} {end : ReaderEnd F}
    → HearsInput Hears Breaks Lacks input left a end b → (f : L → N) → ((body : List ℕ) (a b : L) (exit : Option Status) → Hears body a exit b → f b ≡ f a)
    → ((body : List ℕ) (a b : L) (fault : F) → Breaks body a fault b → f b ≡ f a) → f b ≡ f a
input_keeps {Hears = H} {Breaks = B} {Lacks = N} {input = input} {left = left} {a = a} {b = b} {end = end} h f one part = keeps H B N f one part input left a b end h.heard

-- What shows of those who hear the messages, shows of the input.
pub input_seen : {L K F : Type 0} {Hears : List ℕ → L → Option Status → L → Type 0} {Breaks : List ℕ → L → F → L → Type 0} {Lacks : F → Type 0} {input left : Option (List ℕ)} {a b : L} {end : ReaderEnd F}
    → HearsInput Hears Breaks Lacks input left a end b → (f : L → K) (Shows : List ℕ → K → Option Status → K → Type 0) (Stops : List ℕ → K → F → K → Type 0) (Short : F → Type 0)
    → ((body : List ℕ) (a b : L) (exit : Option Status) → Hears body a exit b → Shows body (f a) exit (f b)) → ((body : List ℕ) (a b : L) (fault : F) → Breaks body a fault b → Stops body (f a) fault (f b))
    → ((fault : F) → Lacks fault → Short fault) → HearsInput Shows Stops Short input left (f a) end (f b)
input_seen {Hears = H} {Breaks = B} {Lacks = N} {input = input} {left = left} {a = a} {b = b} {end = end} h f Shows Stops Short one part none = record {
  heard = input_shows (λ bodies. HearsOn H bodies a b) (λ bodies. HearsOn Shows bodies (f a) (f b)) (λ bodies exit. HearsAll H bodies a exit b) (λ bodies exit. HearsAll Shows bodies (f a) exit (f b))
      (λ fault bodies. HearsPrefix H B N fault bodies a b) (λ fault bodies. HearsPrefix Shows Stops Short fault bodies (f a) (f b)) input left end
      (λ bodies x. on_shows H Shows f one bodies a b x) (λ bodies exit x. all_shows H Shows f one bodies a b exit x)
      (λ fault bodies e x. prefix_shows H Shows f one B Stops N Short fault (λ body s t p. part body s t fault p) (none fault) bodies a b x) h.heard;
}

-- a source that was read as often as it may be
pub spent : (failed : Bool) (reads most : ℕ) → reads + 1 ≡ most → (failed || (reads + 1 == most)) ≡ true
spent true reads most e = refl
spent false reads most e = search rules
