-- The tokens of a line where a name is renamed.
use Rattle.std.proofs.Common.{◌≡◌, inl, inr, ℕ, zero, suc, ◌+◌, ◌-◌, ◌<◌, ◌≤◌, Bool, true, false, ◌&&◌, List, [], ◌∷◌, ◌++◌, length, map, take, drop, Option, Some, None, refl, sym, ap, subst, ◌∙◌, arith}
use Rattle.std.specs.Prelude.{nat_eq, if◌then◌else◌}
use Rattle.std.specs.List.{list_all}
use Rattle.std.specs.Char.{is_ascii_alphabetic}
use Rattle.std.proofs.lemmas.Bool.{eqb-true, or_cases, and_parts}
use Rattle.std.proofs.lemmas.List.{length-append, take-append-drop}
use Rattle.std.proofs.Math.Seq.{take-append_seam, drop-append_seam, take-append-add}
use Rattle.abnf_token.specs.declared.token.Kind.{Kind}
use Rattle.abnf_token.specs.declared.token.Kind.TheVariants as k
use Rattle.abnf_token.specs.declared.token.Token.{Token}
use Rattle.abnf_token.specs.declared.machine.State.{State}
use Rattle.abnf_token.specs.declared.machine.State.TheVariants as s
use Rattle.abnf_token.specs.Classes.{Text, is_in, is_name, is_name_byte, is_blank_byte, is_character, is_comment}
use Rattle.abnf_token.specs.Tokens.{NoLonger, Fits, IsNext, TokensOf}
use Rattle.abnf_token.specs.own.Machine.{begin, step, accepted, run}
use Rattle.abnf_token.specs.Renamed.{Piece, piece, joined, AreCut, touches, is_at_place, renamed, KeepsCut, KeepsTokens}
use Rattle.abnf_token.proofs.Language.{is_kind, accepts, class_is, same}
use Rattle.abnf_token.proofs.Longest.{same_self}
use Rattle.abnf_token.proofs.Cuts.{never, fits_class}
use Rattle.abnf_token.proofs.Laws.{one_next, same_kind}
use Rattle.abnf_token.proofs.Calm.{Quiet, ends, calm, past, past_calm, calm_after, step_closes, step_calms, passes, begin_letter}

-- ---- the machine over a text in two pieces

run_append : (st : State) (x y : Text) → run st (x ++ y) ≡ run (run st x) y
run_append st [] y = refl
run_append st (b ∷ bs) y = run_append (step st b) bs y

quiet_front : (st : State) (x y : Text) → Quiet st (x ++ y) → Quiet st x
quiet_front st [] y q = tt
quiet_front st (b ∷ bs) y q = (q.0, quiet_front (step st b) bs y q.1)

quiet_back : (st : State) (x y : Text) → Quiet st (x ++ y) → Quiet (run st x) y
quiet_back st [] y q = q
quiet_back st (b ∷ bs) y q = quiet_back (step st b) bs y q.1

quiet_join : (st : State) (x y : Text) → Quiet st x → Quiet (run st x) y → Quiet st (x ++ y)
quiet_join st [] y p q = q
quiet_join st (b ∷ bs) y p q = (p.0, quiet_join (step st b) bs y p.1 q)

quiet_of : (st : State) (t : Text) → ((m : ℕ) → 0 < m → m ≤ length t → accepted (run st (take m t)) ≡ None) → Quiet st t
quiet_of st [] h = tt
quiet_of st (b ∷ bs) h = (h 1 (omega arith) (omega arith), quiet_of (step st b) bs (λ m some le. h (suc m) (omega arith) (omega (arith, le))))

of_quiet : (st : State) (t : Text) → Quiet st t → (m : ℕ) → 0 < m → m ≤ length t → accepted (run st (take m t)) ≡ None
of_quiet st [] q m some le = absurd (omega (arith, some, le))
of_quiet st (b ∷ bs) q zero some le = absurd (omega arith)
of_quiet st (b ∷ bs) q (suc zero) some le = q.0
of_quiet st (b ∷ bs) q (suc (suc m)) some le = of_quiet (step st b) bs q.1 (suc m) (omega arith) (omega (arith, le))

none_of : (o : Option Kind) → ((kind : Kind) → is_kind kind o ≡ false) → o ≡ None
none_of None h = refl
none_of (Some j) h = never (sym (h j) ∙ same_self j)

quiet_from : (text rest : Text) → NoLonger (length text) (text ++ rest) → Quiet (run s.Start text) rest
quiet_from text rest none =
    quiet_of (run s.Start text) rest
    (λ m some le.
    none_of (accepted (run (run s.Start text) (take m rest)))
    (λ kind.
    ap (accepts kind) (sym (run_append s.Start text (take m rest)))
    ∙ (sym (class_is kind (text ++ take m rest))
    ∙ (ap (is_in kind) (sym (take-append-add text rest m))
    ∙ none kind (length text + m) (omega (arith, some)) (omega (arith, le, length-append text rest))))))

pub to_longer : (text rest : Text) → Quiet (run s.Start text) rest → NoLonger (length text) (text ++ rest)
to_longer text rest q kind m lt le =
    let d = m - length text in
    let sum : m ≡ length text + d = omega (arith, lt) in
    ap (λ n. is_in kind (take n (text ++ rest))) sum
    ∙ (ap (is_in kind) (take-append-add text rest d)
    ∙ (class_is kind (text ++ take d rest)
    ∙ (ap (accepts kind) (run_append s.Start text (take d rest))
    ∙ ap (is_kind kind) (of_quiet (run s.Start text) rest q d (omega (arith, lt)) (omega (arith, le, length-append text rest))))))

-- ---- a piece that fits, by the machine

pub data Fine : Kind → Text → Text → Type 0 where
  in_class : {kind : Kind} {text rest : Text} → accepted (run s.Start text) ≡ Some kind → Quiet (run s.Start text) rest → Fine kind text rest
  is_bad : {kind : Kind} {text rest : Text} → kind ≡ k.Bad → is_character text ≡ true → Quiet s.Start (text ++ rest) → Fine kind text rest

same_is : (j kind : Kind) (o : Option Kind) → is_kind kind o ≡ true → o ≡ Some kind
same_is j kind None h = never h
same_is j kind (Some i) h = ap Some (same_kind i kind h)

class_fine : (kind : Kind) (text rest : Text) → is_in kind text ≡ true → NoLonger (length text) (text ++ rest) → Fine kind text rest
class_fine kind text rest is none = in_class (same_is kind kind (accepted (run s.Start text)) (sym (class_is kind text) ∙ is)) (quiet_from text rest none)

fine : (kind : Kind) (text rest : Text) → Fits kind text (text ++ rest) → Fine kind text rest
fine k.Bad text rest f = is_bad refl f.0 (quiet_from [] (text ++ rest) f.1)
fine k.Name text rest f = class_fine k.Name text rest f.0 f.1
fine kind text rest f = class_fine kind text rest f.0 f.1

fits : (kind : Kind) (text rest : Text) → Fine kind text rest → Fits kind text (text ++ rest)
fits kind text rest (in_class acc q) =
    fits_class kind text (text ++ rest) (class_is kind text ∙ (ap (is_kind kind) acc ∙ same_self kind)) (to_longer text rest q)
fits kind text rest (is_bad e c q) = subst (λ j. Fits j text (text ++ rest)) (sym e) (c, to_longer [] (text ++ rest) q)

next : (kind : Kind) (text rest : Text) → 0 < length text → Fine kind text rest → IsNext kind text (text ++ rest)
next kind text rest some f = record {
  front = sym (take-append_seam text rest);
  within = omega (arith, length-append text rest);
  some = some;
  fits = fits kind text rest f;
}

-- ---- what stands right behind a piece

abbrev head_is_name : List Piece → Bool
head_is_name [] = false
head_is_name (p ∷ ps) = same k.Name p.0

pub piece_fine : (p : Piece) (ps : List Piece) → AreCut (p ∷ ps) → Fine p.0 p.1 (joined ps)
piece_fine p ps cut = fine p.0 p.1 (joined ps) cut.0.fits

name_fine : (kind : Kind) (text rest : Text) → kind ≡ k.Name → Fine kind text rest → is_name text ≡ true
name_fine kind text rest e (in_class acc q) = class_is k.Name text ∙ (ap (is_kind k.Name) (acc ∙ ap Some e))
name_fine kind text rest e (is_bad b c q) = absurd (let x : k.Name ≡ k.Bad = sym e ∙ b in cc)

pub piece_name : (p : Piece) (ps : List Piece) → AreCut (p ∷ ps) → p.0 ≡ k.Name → is_name p.1 ≡ true
piece_name p ps cut e = name_fine p.0 p.1 (joined ps) e (piece_fine p ps cut)

names_run : (t : Text) → list_all is_name_byte t ≡ true → run s.Name t ≡ s.Name
names_run [] n = refl
names_run (b ∷ bs) n =
    let h = and_parts (is_name_byte b) (list_all is_name_byte bs) n in
    let go : step s.Name b ≡ s.Name = rw h.0 refl in
    ap (λ st. run st bs) go ∙ names_run bs h.1

name_run : (t : Text) → is_name t ≡ true → run s.Start t ≡ s.Name
name_run [] n = never n
name_run (b ∷ bs) n =
    let h = and_parts (is_ascii_alphabetic b) (list_all is_name_byte bs) n in
    ap (λ st. run st bs) (begin_letter b h.0) ∙ names_run bs h.1

name_some : (t : Text) → is_name t ≡ true → 0 < length t
name_some [] n = never n
name_some (b ∷ bs) n = omega arith

comment_runs : (t : Text) → run s.Comment t ≡ s.Comment
comment_runs [] = refl
comment_runs (b ∷ bs) = comment_runs bs

comment_run : (t : Text) → is_comment t ≡ true → run s.Start t ≡ s.Comment
comment_run [] n = never n
comment_run (b ∷ bs) n = ap (λ c. run (begin c) bs) (eqb-true b 0x3B n) ∙ comment_runs bs

-- Where the state goes on at each name, no name follows.
some_none : {A : Type 0} (o : Option Kind) (kind : Kind) → o ≡ Some kind → o ≡ None → A
some_none o kind p q = absurd (let x : ◌≡◌ {A = Option Kind} (Some kind) None = sym p ∙ q in cc)

no_name_behind : {A : Type 0} (st : State) (ps : List Piece) → ((b : ℕ) → is_ascii_alphabetic b ≡ true → (kind : Kind) × (accepted (step st b) ≡ Some kind)) → AreCut ps → Quiet st (joined ps) → head_is_name ps ≡ true → A
no_name_behind st [] goes cut q h = never h
no_name_behind st (p ∷ ps) goes cut q h = by p.1 (name_fine p.0 p.1 (joined ps) (sym (same_kind k.Name p.0 h)) (piece_fine p ps cut)) q
  where
    by : {A : Type 0} (text : Text) → is_name text ≡ true → Quiet st (text ++ joined ps) → A
    by [] n q = never n
    by (b ∷ bs) n q = let g = goes b (and_parts (is_ascii_alphabetic b) (list_all is_name_byte bs) n).0 in some_none (accepted (step st b)) g.0 g.1 q.0

name_goes : (b : ℕ) → is_ascii_alphabetic b ≡ true → (kind : Kind) × (accepted (step s.Name b) ≡ Some kind)
name_goes b l = (k.Name, rw l refl)

behind_name : {A : Type 0} (text : Text) (ps : List Piece) → is_name text ≡ true → Quiet (run s.Start text) (joined ps) → AreCut ps → head_is_name ps ≡ true → A
behind_name text ps n q cut h = no_name_behind s.Name ps name_goes cut (subst (λ st. Quiet st (joined ps)) (name_run text n) q) h

fine_quiet : (kind : Kind) (text rest : Text) → Fine kind text rest → Quiet (run s.Start text) rest
fine_quiet kind text rest (in_class acc q) = q
fine_quiet kind text rest (is_bad e c q) = quiet_back s.Start text rest q

fine_accepted : (kind : Kind) (text rest : Text) → Fine kind text rest → (kind ≡ k.Bad → ⊥) → accepted (run s.Start text) ≡ Some kind
fine_accepted kind text rest (in_class acc q) n = acc
fine_accepted kind text rest (is_bad e c q) n = absurd (n e)

-- A name at a place stands behind a piece of the other kinds.
place_behind : (kind : Kind) (text : Text) (ps : List Piece) → Fine kind text (joined ps) → AreCut ps → head_is_name ps ≡ true → touches kind ≡ false → ends (accepted (run s.Start text)) ≡ true
place_behind k.Bad text ps f cut h t = never (sym t)
place_behind k.Number text ps f cut h t = never (sym t)
place_behind k.Name text ps f cut h t = behind_name text ps (name_fine k.Name text (joined ps) refl f) (fine_quiet k.Name text (joined ps) f) cut h
place_behind k.Comment text ps f cut h t =
    let is : is_comment text ≡ true = class_is k.Comment text ∙ ap (is_kind k.Comment) (fine_accepted k.Comment text (joined ps) f (λ e. absurd (cc))) in
    no_name_behind s.Comment ps (λ b l. (k.Comment, refl)) cut (subst (λ st. Quiet st (joined ps)) (comment_run text is) (fine_quiet k.Comment text (joined ps) f)) h
place_behind kind text ps f cut h t = ap ends (fine_accepted kind text (joined ps) f (λ e. absurd (cc)))

-- Where such a piece ends a quiet text, the state is calm.
last_calm : (text : Text) (u st : State) → 0 < length text → ends (accepted (run u text)) ≡ true → Quiet st text → calm (run st text) ≡ true
last_calm [] u st some e q = absurd (omega (arith, some))
last_calm (b ∷ []) u st some e q = step_calms st b (step_closes u b e) q.0
last_calm (b ∷ c ∷ bs) u st some e q = last_calm (c ∷ bs) (step u b) (step st b) (omega arith) e q.1

-- ---- the law

pub at_place : (old text : Text) (touched : Bool) (kind : Kind) → is_at_place old touched kind text ≡ true → (kind ≡ k.Name) × (touched ≡ false)
at_place old text true k.Name h = never h
at_place old text false k.Name h = (refl, refl)
at_place old text touched kind h = never h

module _ (old new : Text) (named : is_name new ≡ true) where
  abbrev Renames : List Piece → Bool → Type 0
  Renames ps touched = (st : State) → (head_is_name ps ≡ true → touched ≡ false → calm st ≡ true) → Quiet st (joined ps) → Quiet st (joined (renamed old new touched ps))

  quiet_by : (p : Piece) (ps : List Piece) (st : State) (touched : Bool) → AreCut (p ∷ ps) → (head_is_name (p ∷ ps) ≡ true → touched ≡ false → calm st ≡ true) → Quiet st (p.1 ++ joined ps) →
      Renames ps (touches p.0) → (b : Bool) → is_at_place old touched p.0 p.1 ≡ b → Quiet st ((if b then new else p.1) ++ joined (renamed old new (touches p.0) ps))
  quiet_by p ps st touched cut h q go true e =
      let at = at_place old p.1 touched p.0 e in
      let is_calm : calm st ≡ true = h (ap (same k.Name) at.0) at.1 in
      let over = passes st p.1 is_calm (name_fine p.0 p.1 (joined ps) at.0 (piece_fine p ps cut)) in
      let again = passes st new is_calm named in
      let more = go (past st) (λ i t. past_calm st) (subst (λ u. Quiet u (joined ps)) over.ends (quiet_back st p.1 (joined ps) q)) in
      quiet_join st new (joined (renamed old new (touches p.0) ps)) again.quiet (subst (λ u. Quiet u (joined (renamed old new (touches p.0) ps))) (sym again.ends) more)
  quiet_by p ps st touched cut h q go false e =
      let f = quiet_front st p.1 (joined ps) q in
      quiet_join st p.1 (joined (renamed old new (touches p.0) ps)) f
      (go (run st p.1)
      (λ i t. last_calm p.1 s.Start st cut.0.some (place_behind p.0 p.1 ps (piece_fine p ps cut) cut.1 i t) f)
      (quiet_back st p.1 (joined ps) q))

  quiet_renamed : (ps : List Piece) (touched : Bool) → AreCut ps → Renames ps touched
  quiet_renamed [] touched cut st h q = q
  quiet_renamed (p ∷ ps) touched cut st h q = quiet_by p ps st touched cut h q (quiet_renamed ps (touches p.0) cut.1) (is_at_place old touched p.0 p.1) refl

  kept_fine : (kind : Kind) (text : Text) (ps : List Piece) → AreCut ps → Fine kind text (joined ps) → Fine kind text (joined (renamed old new (touches kind) ps))
  kept_fine kind text ps cut (in_class acc q) =
      in_class acc (quiet_renamed ps (touches kind) cut (run s.Start text) (λ i t. calm_after (run s.Start text) (place_behind kind text ps (in_class acc q) cut i t)) q)
  kept_fine kind text ps cut (is_bad e c q) =
      is_bad e c (quiet_join s.Start text (joined (renamed old new (touches kind) ps)) (quiet_front s.Start text (joined ps) q)
      (quiet_renamed ps (touches kind) cut (run s.Start text) (λ i t. never (sym t ∙ ap touches e)) (quiet_back s.Start text (joined ps) q)))

  new_fine : (kind : Kind) (text : Text) (ps : List Piece) → kind ≡ k.Name → AreCut ps → Fine kind text (joined ps) → Fine kind new (joined (renamed old new (touches kind) ps))
  new_fine kind text ps e cut f =
      let n = name_fine kind text (joined ps) e f in
      let q : Quiet s.Name (joined ps) = subst (λ st. Quiet st (joined ps)) (name_run text n) (fine_quiet kind text (joined ps) f) in
      in_class (ap accepted (name_run new named) ∙ ap Some (sym e))
      (subst (λ st. Quiet st (joined (renamed old new (touches kind) ps))) (sym (name_run new named))
      (quiet_renamed ps (touches kind) cut s.Name (λ i t. no_name_behind s.Name ps name_goes cut q i) q))

  cut_by : (p : Piece) (ps : List Piece) (touched : Bool) → AreCut (p ∷ ps) → (b : Bool) → is_at_place old touched p.0 p.1 ≡ b →
      IsNext p.0 (if b then new else p.1) ((if b then new else p.1) ++ joined (renamed old new (touches p.0) ps))
  cut_by p ps touched cut true e =
      next p.0 new (joined (renamed old new (touches p.0) ps)) (name_some new named) (new_fine p.0 p.1 ps (at_place old p.1 touched p.0 e).0 cut.1 (piece_fine p ps cut))
  cut_by p ps touched cut false e = next p.0 p.1 (joined (renamed old new (touches p.0) ps)) cut.0.some (kept_fine p.0 p.1 ps cut.1 (piece_fine p ps cut))

  cut_renamed : (ps : List Piece) (touched : Bool) → AreCut ps → AreCut (renamed old new touched ps)
  cut_renamed [] touched cut = tt
  cut_renamed (p ∷ ps) touched cut = (cut_by p ps touched cut (is_at_place old touched p.0 p.1) refl, cut_renamed ps (touches p.0) cut.1)

pub line_kept : (old new : Text) (ps : List Piece) → is_name new ≡ true → KeepsCut old new ps
line_kept old new ps named cut = cut_renamed old new named ps false cut

-- ---- tokens

-- the line is what its pieces join to, which are cut as it is
pub record CutAs (left : Text) (ps : List Piece) : Type 0 where
  pub cut : AreCut ps
  pub is : left ≡ joined ps

take_drop : (x left : Text) → x ≡ take (length x) left → left ≡ x ++ drop (length x) left
take_drop x left e = sym (take-append-drop (length x) left) ∙ ap (λ l. l ++ drop (length x) left) (sym e)

pub cut_tokens : (at start : ℕ) (left : Text) (ts : List Token) → TokensOf at start left ts → CutAs left (map piece ts)
cut_tokens at start left [] t = record { cut = tt; is = t }
cut_tokens at start left (t ∷ ts) h =
    let rest = drop (length t.text.now) left in
    let more = cut_tokens at (start + length t.text.now) rest ts h.1 in
    let whole : left ≡ t.text.now ++ joined (map piece ts) = take_drop t.text.now left h.0.next.front ∙ ap (λ l. t.text.now ++ l) more.is in
    record { cut = (subst (λ l. IsNext t.kind t.text.now l) whole h.0.next, more.cut); is = whole }

-- There is one list of pieces of a line.
pub one_cut : (ps qs : List Piece) → AreCut ps → AreCut qs → joined ps ≡ joined qs → ps ≡ qs
one_cut [] [] p q e = refl
one_cut [] (x ∷ qs) p q e = absurd (omega (arith, ap length e, length-append x.1 (joined qs), q.0.some))
one_cut (x ∷ ps) [] p q e = absurd (omega (arith, ap length e, length-append x.1 (joined ps), p.0.some))
one_cut (x ∷ ps) (y ∷ qs) p q e =
    let one = one_next x.0 y.0 x.1 y.1 (x.1 ++ joined ps) p.0 (subst (λ l. IsNext y.0 y.1 l) (sym e) q.0) in
    let rest : joined ps ≡ joined qs =
    sym (drop-append_seam x.1 (joined ps))
    ∙ ((λ i. drop (length (one.texts i)) (e i)) ∙ drop-append_seam y.1 (joined qs))
    in
    (λ i. (one.kinds i, one.texts i) ∷ one_cut ps qs p.1 q.1 rest i)

pub tokens_kept : (old new line : Text) → is_name new ≡ true → KeepsTokens old new line
tokens_kept old new line named at other ts us t u =
    let before = cut_tokens at 0 line ts t in
    let after = cut_tokens other 0 (joined (renamed old new false (map piece ts))) us u in
    one_cut (map piece us) (renamed old new false (map piece ts)) after.cut (line_kept old new (map piece ts) named before.cut) (sym after.is)

-- ---- blanks and comments

blank_byte_state : (b : ℕ) → is_blank_byte b ≡ true → begin b ≡ s.Blank
blank_byte_state b e =
    elim (or_cases (nat_eq b 0x20) (nat_eq b 0x09) e) [
      | inl h ↦ ap begin (eqb-true b 0x20 h)
      | inr h ↦ ap begin (eqb-true b 0x09 h)
    ]

dead_none : {A : Type 0} (t : Text) (kind : Kind) → accepted (run s.Dead t) ≡ Some kind → A
dead_none [] kind e = some_none None kind e refl
dead_none (b ∷ bs) kind e = dead_none bs kind e

all_blank : (t : Text) (kind : Kind) → accepted (run s.Blank t) ≡ Some kind → list_all is_blank_byte t ≡ true
all_blank [] kind e = refl
all_blank (b ∷ bs) kind e = by (is_blank_byte b) refl (λ x. all_blank bs kind x)
  where
    by : (c : Bool) → is_blank_byte b ≡ c → (accepted (run s.Blank bs) ≡ Some kind → list_all is_blank_byte bs ≡ true) → is_blank_byte b && list_all is_blank_byte bs ≡ true
    by true h more = rw h (more (subst (λ c. accepted (run (if c then s.Blank else s.Dead) bs) ≡ Some kind) h e))
    by false h more = dead_none bs kind (subst (λ c. accepted (run (if c then s.Blank else s.Dead) bs) ≡ Some kind) h e)

-- A piece that begins with a blank is blank.
pub blank_piece : (p : Piece) (ps : List Piece) (b : ℕ) (bs : Text) → AreCut (p ∷ ps) → p.1 ≡ b ∷ bs → is_blank_byte b ≡ true → list_all is_blank_byte bs ≡ true
blank_piece p ps b bs cut e h = by (subst (λ t. Fine p.0 t (joined ps)) e (piece_fine p ps cut))
  where
    by : Fine p.0 (b ∷ bs) (joined ps) → list_all is_blank_byte bs ≡ true
    by (in_class acc q) = all_blank bs p.0 (ap (λ st. accepted (run st bs)) (sym (blank_byte_state b h)) ∙ acc)
    by (is_bad x c q) = some_none (accepted (begin b)) k.Blank (ap accepted (blank_byte_state b h)) q.0

none_left : (ps : List Piece) → AreCut ps → Quiet s.Comment (joined ps) → ps ≡ []
none_left [] cut q = refl
none_left (p ∷ ps) cut q = by p.1 cut.0.some q
  where
    by : (t : Text) → 0 < length t → Quiet s.Comment (t ++ joined ps) → p ∷ ps ≡ []
    by [] some q = absurd (omega (arith, some))
    by (b ∷ bs) some q = some_none (Some k.Comment) k.Comment refl q.0

-- Nothing follows a piece that begins with `;`.
pub comment_piece : (p : Piece) (ps : List Piece) (bs : Text) → AreCut (p ∷ ps) → p.1 ≡ 0x3B ∷ bs → ps ≡ []
comment_piece p ps bs cut e = by (subst (λ t. Fine p.0 t (joined ps)) e (piece_fine p ps cut))
  where
    by : Fine p.0 (0x3B ∷ bs) (joined ps) → ps ≡ []
    by (in_class acc q) = none_left ps cut.1 (subst (λ st. Quiet st (joined ps)) (comment_runs bs) q)
    by (is_bad x c q) = some_none (Some k.Comment) k.Comment refl q.0
