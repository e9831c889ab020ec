-- Messages that are heard one after the other.
use Rattle.std.proofs.Common.{◌≡◌, ◌∙◌, ℕ, ◌+◌, ◌<◌, List, [], ◌∷◌, ◌++◌, length, take, drop, get_or, Vec, Option, Some, None, refl, sym, ap, subst, append_assoc}
use Rattle.std.specs.declared.alloc.Global.{Global}
use Rattle.std.proofs.lemmas.List.{append-nil, take-append-drop, map-append}
use Rattle.ls_frame.specs.Feeds.{contents_of}
use Rattle.ls_session.specs.declared.turn.Status.{Status}
use Rattle.ls_devices.specs.Reading.{BreaksIn, HearsAll, HearsPrefix, HearsOn}
use Rattle.ls_devices.proofs.Pieces.{take_next}

-- the messages before one, it, and those behind it
parts_at : (bodies : List (Vec ℕ Global)) (i : ℕ) (body : Vec ℕ Global) (text : List ℕ) → i < length bodies → body ≡ get_or bodies i body → text ≡ body.items
    → contents_of bodies ≡ contents_of (take i bodies) ++ text ∷ contents_of (drop (i + 1) bodies)
parts_at bodies i body text l at e =
    let left = contents_of (drop (i + 1) bodies) in
    let all : contents_of bodies ≡ contents_of (take (i + 1) bodies) ++ left
    = ap contents_of (sym (take-append-drop (i + 1) bodies)) ∙ map-append (λ content. content.items) (take (i + 1) bodies) (drop (i + 1) bodies) in
    all ∙ (ap (λ l. l ++ left) (take_next bodies i body text l at e) ∙ append_assoc (contents_of (take i bodies)) (text ∷ []) left)

module _ {L : Type 0} (Hears : List ℕ → L → Option Status → L → Type 0) where
  pub on_append : (xs ys : List (List ℕ)) (a b c : L) → HearsOn Hears xs a b → HearsOn Hears ys b c → HearsOn Hears (xs ++ ys) a c
  on_append [] ys a b c h k = subst (λ l. HearsOn Hears ys l c) h k
  on_append (x ∷ xs) ys a b c h k = (h.0, (h.1.0, on_append xs ys h.0 b c h.1.1 k))

  pub all_append : (xs ys : List (List ℕ)) (a b c : L) (exit : Option Status) → HearsOn Hears xs a b → HearsAll Hears ys b exit c → HearsAll Hears (xs ++ ys) a exit c
  all_append xs ys a b c None h k = on_append xs ys a b c h k
  all_append xs ys a b c (Some status) h k =
      (xs ++ k.0, k.1, k.2, k.3, (ap (λ l. xs ++ l) k.4.0 ∙ sym (append_assoc xs k.0 (k.1 ∷ k.2)), on_append xs k.0 a b k.3 h k.4.1, k.4.2))

  -- the next of some messages is heard, and is no exit
  pub hears_next : (bodies : List (Vec ℕ Global)) (i : ℕ) (body : Vec ℕ Global) (text : List ℕ) (a b c : L) → i < length bodies → body ≡ get_or bodies i body → text ≡ body.items
      → HearsOn Hears (contents_of (take i bodies)) a b → Hears text b None c → HearsOn Hears (contents_of (take (i + 1) bodies)) a c
  hears_next bodies i body text a b c l at e h one = rw (take_next bodies i body text l at e) (on_append (contents_of (take i bodies)) (text ∷ []) a b c h (c, (one, refl)))

  -- it is heard, and is an exit
  pub hears_last : (bodies : List (Vec ℕ Global)) (i : ℕ) (body : Vec ℕ Global) (text : List ℕ) (a b c : L) (status : Status) → i < length bodies → body ≡ get_or bodies i body → text ≡ body.items
      → HearsOn Hears (contents_of (take i bodies)) a b → Hears text b (Some status) c → HearsAll Hears (contents_of bodies) a (Some status) c
  hears_last bodies i body text a b c status l at e h one = (contents_of (take i bodies), text, contents_of (drop (i + 1) bodies), b, (parts_at bodies i body text l at e, h, one))

module _ {L F : Type 0} (Hears : List ℕ → L → Option Status → L → Type 0) (Breaks : List ℕ → L → F → L → Type 0) (Lacks : F → Type 0) (fault : F) where
  pub prefix_append : (xs ys : List (List ℕ)) (a b c : L) → HearsOn Hears xs a b → HearsPrefix Hears Breaks Lacks fault ys b c → HearsPrefix Hears Breaks Lacks fault (xs ++ ys) a c
  prefix_append xs ys a b c h k = (xs ++ k.0, k.1, k.2, (ap (λ l. xs ++ l) k.3.0 ∙ sym (append_assoc xs k.0 k.1), on_append Hears xs k.0 a b k.2 h k.3.1, k.3.2))

  -- within the next of some messages it breaks off
  pub hears_part : (bodies : List (Vec ℕ Global)) (i : ℕ) (body : Vec ℕ Global) (text : List ℕ) (a b c : L) → i < length bodies → body ≡ get_or bodies i body → text ≡ body.items
      → HearsOn Hears (contents_of (take i bodies)) a b → Breaks text b fault c → HearsPrefix Hears Breaks Lacks fault (contents_of bodies) a c
  hears_part bodies i body text a b c l at e h part = (contents_of (take i bodies), text ∷ contents_of (drop (i + 1) bodies), b, (parts_at bodies i body text l at e, h, part))

  -- all are heard, and an allocation is refused
  pub all_heard : (bodies : List (List ℕ)) (a b : L) → Lacks fault → HearsOn Hears bodies a b → HearsPrefix Hears Breaks Lacks fault bodies a b
  all_heard bodies a b lacks h = (bodies, [], b, (sym (append-nil bodies), h, (lacks, refl)))

-- ---- what shows of it

-- Of what hears the messages only a part is looked at, and so of what is heard.
module _ {L K : Type 0} (Hears : List ℕ → L → Option Status → L → Type 0) (Shows : List ℕ → K → Option Status → K → Type 0) (f : L → K)
    (one : (body : List ℕ) (a b : L) (exit : Option Status) → Hears body a exit b → Shows body (f a) exit (f b)) where
  pub on_shows : (bodies : List (List ℕ)) (a b : L) → HearsOn Hears bodies a b → HearsOn Shows bodies (f a) (f b)
  on_shows [] a b h = ap f h
  on_shows (body ∷ bodies) a b h = (f h.0, (one body a h.0 None h.1.0, on_shows bodies h.0 b h.1.1))

  pub all_shows : (bodies : List (List ℕ)) (a b : L) (exit : Option Status) → HearsAll Hears bodies a exit b → HearsAll Shows bodies (f a) exit (f b)
  all_shows bodies a b None h = on_shows bodies a b h
  all_shows bodies a b (Some status) h = (h.0, h.1, h.2, f h.3, (h.4.0, on_shows h.0 a h.3 h.4.1, one h.1 h.3 b (Some status) h.4.2))

  pub prefix_shows : {F : Type 0} (Breaks : List ℕ → L → F → L → Type 0) (Stops : List ℕ → K → F → K → Type 0) (Lacks Short : F → Type 0) (fault : F)
      → ((body : List ℕ) (a b : L) → Breaks body a fault b → Stops body (f a) fault (f b)) → (Lacks fault → Short fault) → (bodies : List (List ℕ)) (a b : L)
      → HearsPrefix Hears Breaks Lacks fault bodies a b → HearsPrefix Shows Stops Short fault bodies (f a) (f b)
  prefix_shows Breaks Stops Lacks Short fault part none bodies a b h = (h.0, h.1, f h.2, (h.3.0, on_shows h.0 a h.2 h.3.1, breaks h.1 h.2 b h.3.2))
    where
      breaks : (bodies : List (List ℕ)) (a b : L) → BreaksIn Breaks Lacks fault bodies a b → BreaksIn Stops Short fault bodies (f a) (f b)
      breaks [] a b h = (none h.0, ap f h.1)
      breaks (body ∷ bodies) a b h = part body a b h

-- ---- what stays

-- What no message changes is as it was.
module _ {L N : Type 0} (Hears : List ℕ → L → Option Status → L → Type 0) (f : L → N) (one : (body : List ℕ) (a b : L) (exit : Option Status) → Hears body a exit b → f b ≡ f a) where
  pub on_keeps : (bodies : List (List ℕ)) (a b : L) → HearsOn Hears bodies a b → f b ≡ f a
  on_keeps [] a b h = ap f h
  on_keeps (body ∷ bodies) a b h = on_keeps bodies h.0 b h.1.1 ∙ one body a h.0 None h.1.0

  pub all_keeps : (bodies : List (List ℕ)) (a b : L) (exit : Option Status) → HearsAll Hears bodies a exit b → f b ≡ f a
  all_keeps bodies a b None h = on_keeps bodies a b h
  all_keeps bodies a b (Some status) h = one h.1 h.3 b (Some status) h.4.2 ∙ on_keeps h.0 a h.3 h.4.1

  pub prefix_keeps : {F : Type 0} (Breaks : List ℕ → L → F → L → Type 0) (Lacks : F → Type 0) (fault : F) → ((body : List ℕ) (a b : L) → Breaks body a fault b → f b ≡ f a) → (bodies : List (List ℕ)) (a b : L)
      → HearsPrefix Hears Breaks Lacks fault bodies a b → f b ≡ f a
  prefix_keeps Breaks Lacks fault part bodies a b h = breaks h.1 h.2 b h.3.2 ∙ on_keeps h.0 a h.2 h.3.1
    where
      breaks : (bodies : List (List ℕ)) (a b : L) → BreaksIn Breaks Lacks fault bodies a b → f b ≡ f a
      breaks [] a b h = ap f h.1
      breaks (body ∷ bodies) a b h = part body a b h
