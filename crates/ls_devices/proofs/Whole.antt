-- A whole input, whatever part of it was read where reading ended.
use Rattle.std.proofs.Common.{◌≡◌, ◌∙◌, inl, inr, ℕ, List, [], ◌∷◌, ◌++◌, Option, Some, None, refl, sym, ap, subst, append_assoc}
use Rattle.std.specs.Prelude.{IfNone, unwrap_or}
use Rattle.std.proofs.lemmas.List.{append-nil}
use Rattle.std.specs.Io.KnownBytes.{Consumes, IsAtEnd}
use Rattle.ls_frame.specs.Frames.{HasNoFrame, Stream}
use Rattle.ls_frame.specs.Faults.{fault_of}
use Rattle.ls_frame.specs.declared.fault.FrameFault.{FrameFault}
use Rattle.ls_frame.proofs.Exist.{some_stream}
use Rattle.ls_frame.proofs.Streams.{fault_sticks}
use Rattle.ls_frame.proofs.Unique.{rest_alone, stream_front}
use Rattle.ls_frame.proofs.Wholes.{fault_no_frame}
use Rattle.ls_session.specs.declared.turn.Status.{Status}
use Rattle.ls_session.specs.declared.turn.Status.TheVariants.{BadFrame}
use Rattle.ls_devices.specs.Ends.{end_status, status_or}
use Rattle.ls_devices.specs.Input.{ComesMore}
use Rattle.ls_devices.specs.Reading.{AlwaysHears, HearsAll, HearsInOneWay, HearsInput, HearsOn, HearsPrefix, InputIs}
use Rattle.ls_devices.specs.declared.reading.ReaderEnd.TheVariants.{Ended}
use Rattle.ls_devices.proofs.Hearing.{all_append}

-- what was read of a known input, and what is left of it
pub consumed : (input read : List ℕ) (left : Option (List ℕ)) → Consumes (Some input) left read → (unread : List ℕ) × (left ≡ Some unread) × (input ≡ read ++ unread)
consumed input read None c = absurd c
consumed input read (Some unread) c = (unread, refl, c)

-- behind the frames of what was read stand the others of the whole input
pub behind : (input read more rest last : List ℕ) (contents known : List (List ℕ)) → Stream input contents rest → input ≡ read ++ more → Stream read known last
    → (others : List (List ℕ)) × (contents ≡ known ++ others) × Stream (last ++ more) others rest
behind input read more rest last contents known s e k =
    let P : List ℕ → Type 0 = λ l. Stream l contents rest in stream_front read more last rest known contents k (subst P e s)

same_some : (x y : Status) → Some x ≡ Some y → x ≡ y
same_some x y e = cc

none_some : (x : Status) → None ≡ Some x → ⊥
none_some x e = cc

-- ---- what is made of the messages of the whole input

-- Something is made of some messages up to an exit, or of all where none is one. More messages behind an exit change nothing.
module _ (On : List (List ℕ) → Type 0) (All : List (List ℕ) → Option Status → Type 0) (all : (bodies : List (List ℕ)) → On bodies → All bodies None)
    (longer : (xs ys : List (List ℕ)) (status : Status) → All xs (Some status) → All (xs ++ ys) (Some status)) where
  -- It is made of all messages of the whole input, and the status is that of an exit among them, or else of what stands behind them.
  abbrev pub Whole : List (List ℕ) → List ℕ → Status → Type 0
  Whole contents rest status = (exit : Option Status) × All contents exit × (status ≡ unwrap_or exit (end_status (fault_of rest) rest))

  -- nothing stands behind what was read
  at_last : (contents known others : List (List ℕ)) (rest : List ℕ) (status : Status) → contents ≡ known ++ others → others ≡ [] → All known None → status ≡ end_status (fault_of rest) rest → Whole contents rest status
  at_last contents known others rest status e none made s =
      (None, subst (λ l. All l None) (sym (e ∙ (ap (λ l. known ++ l) none ∙ append-nil known))) made, s)

  by_fault : (contents known others : List (List ℕ)) (rest last more : List ℕ) (o : Option FrameFault) (status : Status) → contents ≡ known ++ others → Stream (last ++ more) others rest
      → fault_of last ≡ o → status_or None o ≡ Some status → All known None → Whole contents rest status
  by_fault contents known others rest last more None status e s f h made = absurd (none_some status h)
  by_fault contents known others rest last more (Some fault) status e s f h made =
      let sticks : fault_of (last ++ more) ≡ Some fault = fault_sticks last more fault f in
      let alone : (others ≡ []) × (rest ≡ last ++ more) = rest_alone (last ++ more) rest others (fault_no_frame (last ++ more) fault sticks) s in
      let here : fault_of rest ≡ Some fault = ap fault_of alone.1 ∙ sticks in
      at_last contents known others rest status e alone.0 made (sym (same_some (BadFrame fault) status h) ∙ sym (ap (λ o. end_status o rest) here))

  by_exit : (contents known others : List (List ℕ)) (rest last more : List ℕ) (exit : Option Status) (status : Status) → contents ≡ known ++ others → Stream (last ++ more) others rest
      → status_or exit (fault_of last) ≡ Some status → All known exit → Whole contents rest status
  by_exit contents known others rest last more None status e s h made = by_fault contents known others rest last more (fault_of last) status e s refl h made
  by_exit contents known others rest last more (Some other) status e s h made =
      (Some other, subst (λ l. All l (Some other)) (sym e) (longer known others other made), sym (same_some other status h))

  by_end : (input rest read more last : List ℕ) (contents : List (List ℕ)) (status : Status) → Stream input contents rest → input ≡ read ++ more → more ≡ [] → ComesMore On [] read last
      → status ≡ end_status None last → Whole contents rest status
  by_end input rest read more last contents status s e none g is =
      let parts : (others : List (List ℕ)) × (contents ≡ g.contents ++ others) × Stream (last ++ more) others rest = behind input read more rest last contents g.contents s e g.stream in
      let end : last ++ more ≡ last = ap (λ l. last ++ l) none ∙ append-nil last in
      let alone : (parts.0 ≡ []) × (rest ≡ last ++ more) = rest_alone (last ++ more) rest parts.0 (subst HasNoFrame (sym end) g.stream.partial) parts.2 in
      let status_is : status ≡ end_status (fault_of last) last = is ∙ sym (ap (λ o. end_status o last) g.fault) in
      at_last contents g.contents parts.0 rest status parts.1 alone.0 (all g.contents g.made) (status_is ∙ sym (ap (λ l. end_status (fault_of l) l) (alone.1 ∙ end)))

  -- Where reading ended with a status, what was made of what was read is made of the whole input.
  pub whole : {F : Type 0} (Prefix : F → List (List ℕ) → Type 0) (input rest : List ℕ) (contents : List (List ℕ)) (left : Option (List ℕ)) (status : Status) → Stream input contents rest
      → InputIs On All Prefix (Some input) left (Ended status) → Whole contents rest status
  whole Prefix input rest contents left status s (read, consumes, inl g) =
      let c = consumed input read left consumes in
      let parts = behind input read c.0 rest g.last contents g.contents s c.2 g.stream in
      by_exit contents g.contents parts.0 rest g.last c.0 g.exit status parts.1 parts.2 g.status_is g.made
  whole Prefix input rest contents left status s (read, consumes, inr g) =
      let c = consumed input read left consumes in
      by_end input rest read c.0 g.1.0 contents status s c.2 (subst (λ o. IsAtEnd o) c.1 g.0) g.1.1 g.1.2

-- ---- how the messages of the whole input are heard

module _ {L F : Type 0} (Hears : List ℕ → L → Option Status → L → Type 0) (Breaks : List ℕ → L → F → L → Type 0) (Lacks : F → Type 0) where
  all_longer : (a b : L) (xs ys : List (List ℕ)) (status : Status) → HearsAll Hears xs a (Some status) b → HearsAll Hears (xs ++ ys) a (Some status) b
  all_longer a b xs ys status h = (h.0, h.1, h.2 ++ ys, h.3, (ap (λ l. l ++ ys) h.4.0 ∙ append_assoc h.0 (h.1 ∷ h.2) ys, h.4.1, h.4.2))

  heard_whole : (input rest : List ℕ) (contents : List (List ℕ)) (left : Option (List ℕ)) (a b : L) (status : Status) → Stream input contents rest → HearsInput Hears Breaks Lacks (Some input) left a (Ended status) b
      → (exit : Option Status) × HearsAll Hears contents a exit b × (status ≡ unwrap_or exit (end_status (fault_of rest) rest))
  heard_whole input rest contents left a b status s h =
      whole (λ bodies. HearsOn Hears bodies a b) (λ bodies exit. HearsAll Hears bodies a exit b) (λ bodies x. x) (λ xs ys e x. all_longer a b xs ys e x)
      (λ fault bodies. HearsPrefix Hears Breaks Lacks fault bodies a b) input rest contents left status s h.heard

  -- ---- in one way at most

  module _ (one : HearsInOneWay Hears) where
    on_same : (bodies : List (List ℕ)) (a b c : L) → HearsOn Hears bodies a b → HearsOn Hears bodies a c → b ≡ c
    on_same [] a b c h k = h ∙ sym k
    on_same (body ∷ bodies) a b c h k =
        let next = one body a h.0 k.0 None None h.1.0 k.1.0 in on_same bodies h.0 b c h.1.1 (subst (λ x. HearsOn Hears bodies x c) (sym next.1) k.1.1)

    no_exit : (body : List ℕ) (a b c : L) (status : Status) → Hears body a None b → Hears body a (Some status) c → ⊥
    no_exit body a b c status h k = none_some status (one body a b c None (Some status) h k).0

    -- an exit, and no exit
    never_both : (before left : List (List ℕ)) (last : List ℕ) (a b c d : L) (status : Status) → HearsOn Hears (before ++ last ∷ left) a b → HearsOn Hears before a c → Hears last c (Some status) d → ⊥
    never_both [] left last a b c d status h k exit = no_exit last a h.0 d status h.1.0 (subst (λ x. Hears last x (Some status) d) k exit)
    never_both (body ∷ before) left last a b c d status h k exit =
        let next = one body a h.0 k.0 None None h.1.0 k.1.0 in
        never_both before left last h.0 b c d status h.1.1 (subst (λ x. HearsOn Hears before x c) (sym next.1) k.1.1) exit

    -- an exit, and an exit
    both_exit : (before others left rest : List (List ℕ)) (last final : List ℕ) (a b c d e : L) (status other : Status) → before ++ last ∷ left ≡ others ++ final ∷ rest → HearsOn Hears before a b
        → HearsOn Hears others a c → Hears last b (Some status) d → Hears final c (Some other) e → (status ≡ other) × (d ≡ e)
    both_exit [] [] left rest last final a b c d e status other same h k x y =
        let first : last ≡ final = cc in
        let end = one final a d e (Some status) (Some other) (subst (λ l. Hears l a (Some status) d) first (subst (λ z. Hears last z (Some status) d) h x)) (subst (λ z. Hears final z (Some other) e) k y) in
        (same_some status other end.0, end.1)
    both_exit [] (body ∷ others) left rest last final a b c d e status other same h k x y =
        let first : last ≡ body = cc in
        absurd (no_exit body a k.0 d status k.1.0 (subst (λ l. Hears l a (Some status) d) first (subst (λ z. Hears last z (Some status) d) h x)))
    both_exit (body ∷ before) [] left rest last final a b c d e status other same h k x y =
        let first : final ≡ body = cc in
        absurd (no_exit body a h.0 e other h.1.0 (subst (λ l. Hears l a (Some other) e) first (subst (λ z. Hears final z (Some other) e) k y)))
    both_exit (body ∷ before) (head ∷ others) left rest last final a b c d e status other same h k x y =
        let first : head ≡ body = cc in
        let behind_it : before ++ last ∷ left ≡ others ++ final ∷ rest = cc in
        let next = one body a h.0 k.0 None None h.1.0 (subst (λ l. Hears l a None k.0) first k.1.0) in
        both_exit before others left rest last final h.0 b c d e status other behind_it h.1.1 (subst (λ z. HearsOn Hears others z c) (sym next.1) k.1.1) x y

    all_same : (bodies : List (List ℕ)) (a b c : L) (exit other : Option Status) → HearsAll Hears bodies a exit b → HearsAll Hears bodies a other c → (exit ≡ other) × (b ≡ c)
    all_same bodies a b c None None h k = (refl, on_same bodies a b c h k)
    all_same bodies a b c None (Some status) h k =
        absurd (never_both k.0 k.2 k.1 a b k.3 c status (subst (λ l. HearsOn Hears l a b) k.4.0 h) k.4.1 k.4.2)
    all_same bodies a b c (Some status) None h k =
        absurd (never_both h.0 h.2 h.1 a c h.3 b status (subst (λ l. HearsOn Hears l a c) h.4.0 k) h.4.1 h.4.2)
    all_same bodies a b c (Some status) (Some other) h k =
        let same = both_exit h.0 k.0 h.2 k.2 h.1 k.1 a h.3 k.3 b c status other (sym h.4.0 ∙ k.4.0) h.4.1 k.4.1 h.4.2 k.4.2 in (ap Some same.0, same.1)

    pub one_end : (input : List ℕ) (left other : Option (List ℕ)) (a b c : L) (status again : Status) → HearsInput Hears Breaks Lacks (Some input) left a (Ended status) b
        → HearsInput Hears Breaks Lacks (Some input) other a (Ended again) c → (status ≡ again) × (b ≡ c)
    one_end input left other a b c status again h k =
        let s = some_stream input in
        let x = heard_whole input s.1 s.0 left a b status s.2 h in
        let y = heard_whole input s.1 s.0 other a c again s.2 k in
        let same = all_same s.0 a b c x.0 y.0 x.1 y.1 in
        (x.2 ∙ (ap (λ exit. unwrap_or exit (end_status (fault_of s.1) s.1)) same.0 ∙ sym y.2), same.1)

  -- ---- in one way at least

  module _ (IsReady : L → Type 0) (always : AlwaysHears IsReady Hears) where
    abbrev IsThrough : List (List ℕ) → L → Type 0
    IsThrough bodies a = (exit : Option Status) × (b : L) × HearsAll Hears bodies a exit b

    first_then : (body : List ℕ) (bodies : List (List ℕ)) (a b : L) (exit : Option Status) → Hears body a exit b → IfNone exit (IsReady b) → ((c : L) → IsReady c → IsThrough bodies c) → IsThrough (body ∷ bodies) a
    first_then body bodies a b None h ready later =
        let rest = later b ready in (rest.0, rest.1, all_append Hears (body ∷ []) bodies a b rest.1 rest.0 (b, (h, refl)) rest.2)
    first_then body bodies a b (Some status) h ready later = (Some status, b, ([], body, bodies, a, (refl, refl, h)))

    through : (bodies : List (List ℕ)) (a : L) → IsReady a → IsThrough bodies a
    through [] a ready = (None, a, refl)
    through (body ∷ bodies) a ready = let first = always body a ready in first_then body bodies a first.1 first.0 first.2.0 first.2.1 (through bodies)

    ends_so : (input rest : List ℕ) (contents : List (List ℕ)) (a b : L) (exit : Option Status) (o : Option FrameFault) → Stream input contents rest → fault_of rest ≡ o → HearsAll Hears contents a exit b
        → (status : Status) × HearsInput Hears Breaks Lacks (Some input) (Some []) a (Ended status) b
    ends_so input rest contents a b (Some status) o s f h =
        (status, record { heard = (input, sym (append-nil input), inl (record { contents = contents; last = rest; exit = Some status; stream = s; status_is = refl; made = h })) })
    ends_so input rest contents a b None (Some fault) s f h =
        (BadFrame fault, record { heard = (input, sym (append-nil input), inl (record { contents = contents; last = rest; exit = None; stream = s; status_is = rw f refl; made = h })) })
    ends_so input rest contents a b None None s f h =
        (end_status None rest, record { heard = (input, sym (append-nil input), inr (refl, (rest, record { contents = contents; stream = s; fault = f; made = h }, refl))) })

    pub some_end : (input : List ℕ) (a : L) → IsReady a → (left : Option (List ℕ)) × (status : Status) × (b : L) × HearsInput Hears Breaks Lacks (Some input) left a (Ended status) b
    some_end input a ready =
        let s = some_stream input in
        let x = through s.0 a ready in
        let e = ends_so input s.1 s.0 a x.1 x.0 (fault_of s.1) s.2 refl x.2 in
        (Some [], e.0, x.1, e.1)
