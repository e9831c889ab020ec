-- Frames that are whole.
use Rattle.std.proofs.Common.{◌≡◌, ℕ, ◌+◌, ◌-◌, ◌<◌, ◌≤◌, List, [], ◌∷◌, ◌++◌, length, take, drop, refl, sym, ◌∙◌, ap, subst, arith, append_assoc, length-append}
use Rattle.std.proofs.lemmas.List.{append-nil, take-append-drop, take_rest, length-take-le, length-drop, drop-append-le}
use Rattle.ls_frame.specs.Frames.{IsFrame, IsHeader, Frames, header_part, crlf, field_lines}
use Rattle.ls_frame.specs.Faults.{fault_of}
use Rattle.ls_frame.specs.own.Heads.{HeadIs}
use Rattle.ls_frame.specs.own.Rests.{IsQuiet, RestIs, FrontIs, SplitIs}
use Rattle.ls_frame.specs.declared.header.Head.TheVariants.{Whole}
use Rattle.ls_frame.specs.declared.front.AtFront.TheVariants.{Rest as Behind, Frame}
use Rattle.ls_frame.specs.declared.front.Rest.{Rest}
use Rattle.ls_frame.specs.declared.front.Rest.TheVariants.{Open}
use Rattle.ls_frame.proofs.Wholes.{take_past, header_fault, short_no_frame}
use Rattle.ls_frame.proofs.Streams.{frames_append}

-- what a whole header part says of the bytes behind it
pub header_fits : (bytes : List ℕ) (header content : ℕ) → HeadIs bytes (Whole header content) → header ≤ length bytes
header_fits bytes header content (fields, h, len, is) = omega (arith, ap length is, length-append (header_part fields) (drop header bytes), len)

-- behind a whole header part nothing is shown before the content is there
header_quiet : (bytes : List ℕ) (header content : ℕ) → HeadIs bytes (Whole header content) → length bytes < header + content → IsQuiet bytes
header_quiet bytes header content (fields, h, len, is) less = (
  ap fault_of is ∙ header_fault fields content (drop header bytes) h,
  short_no_frame fields content bytes (drop header bytes) h is (omega (arith, length-drop header bytes, less, ap length is, length-append (header_part fields) (drop header bytes), len)),
)

-- a whole header part stays, however the bytes go on
header_more : (bytes more : List ℕ) (header content : ℕ) → HeadIs bytes (Whole header content) → HeadIs (bytes ++ more) (Whole header content)
header_more bytes more header content (fields, h, len, is) =
    let inside : header ≤ length bytes = header_fits bytes header content (fields, h, len, is) in (
      fields,
      h,
      len,
      ap (λ l. l ++ more) is ∙ (append_assoc (header_part fields) (drop header bytes) more
          ∙ ap (λ l. header_part fields ++ l) (sym (drop-append-le header bytes more inside))),
    )

pub too_short : (bytes : List ℕ) (header content : ℕ) → HeadIs bytes (Whole header content) → length bytes < header + content → FrontIs bytes (Behind (Open (header + content)))
too_short bytes header content head less = (
  header_quiet bytes header content head less,
  λ more short. header_quiet (bytes ++ more) header content (header_more bytes more header content head) short,
)

pub long_enough : (bytes : List ℕ) (header content : ℕ) → HeadIs bytes (Whole header content) → header + content ≤ length bytes → FrontIs bytes (Frame header (header + content))
long_enough bytes header content (fields, h, len, is) more =
    let count : header + content - header ≡ content = omega arith in
    let size : length (take (header + content - header) (drop header bytes)) ≡ content =
    ap (λ n. length (take n (drop header bytes))) count ∙ length-take-le content (drop header bytes) (omega (arith, length-drop header bytes, more)) in
    let some : 0 < header = omega (arith, len, length-append (field_lines fields) crlf) in
    let spelled : take (header + content) bytes ≡ header_part fields ++ take (header + content - header) (drop header bytes) =
    ap (take (header + content)) is ∙ (take_past (header + content) (header_part fields) (drop header bytes) (omega (arith, len))
    ∙ ap (λ n. header_part fields ++ take (header + content - n) (drop header bytes)) len) in
    let P : ℕ → Type 0 = λ n. IsHeader fields n in
    (omega arith, omega arith, more, record { fields = fields; header = subst P (sym size) h; spelled = spelled })

-- below no bytes at all
pub open_quiet : (bytes : List ℕ) → IsQuiet bytes → RestIs bytes (Open 0)
open_quiet bytes q = (q, λ more short. absurd (omega (arith, short)))

pub take_more : (at n : ℕ) (xs : List ℕ) → at ≤ length xs → take (at + n) xs ≡ take at xs ++ take n (drop at xs)
take_more at n xs h =
    let len : length (take at xs) ≡ at = length-take-le at xs h in
    let count : at + n - at ≡ n = omega arith in
    ap (take (at + n)) (sym (take-append-drop at xs)) ∙ (take_past (at + n) (take at xs) (drop at xs) (omega (arith, len))
    ∙ (ap (λ k. take at xs ++ take (at + n - k) (drop at xs)) len ∙ ap (λ k. take at xs ++ take k (drop at xs)) count))

pub one_frame : (frame content : List ℕ) → IsFrame frame content → Frames frame (content ∷ [])
one_frame frame content f = (frame, [], (f, sym (append-nil frame), refl))

-- the bytes from a place on
abbrev pub rest_at : List ℕ → ℕ → List ℕ
rest_at bytes at = take (length bytes - at) (drop at bytes)

pub split_rest : (bytes : List ℕ) (at : ℕ) (contents : List (List ℕ)) (rest : Rest) → at ≤ length bytes → Frames (take at bytes) contents → FrontIs (rest_at bytes at) (Behind rest)
    → SplitIs bytes contents at rest
split_rest bytes at contents rest h f is =
    let P : List ℕ → Type 0 = λ l. RestIs l rest in
    (h, f, subst P (take_rest bytes at) is)

pub split_end : (bytes : List ℕ) (at from end : ℕ) → at ≤ length bytes → FrontIs (rest_at bytes at) (Frame from end) → at + end ≤ length bytes
split_end bytes at from end h f = omega (arith, f.2, ap length (take_rest bytes at), length-drop at bytes, h)

pub split_more : (bytes : List ℕ) (at from end : ℕ) (contents : List (List ℕ)) (content : List ℕ) → at ≤ length bytes → Frames (take at bytes) contents
    → FrontIs (rest_at bytes at) (Frame from end) → content ≡ take (end - from) (drop from (rest_at bytes at)) → Frames (take (at + end) bytes) (contents ++ content ∷ [])
split_more bytes at from end contents content h f front is =
    let frame : Frames (take end (rest_at bytes at)) (content ∷ []) =
    let P : List ℕ → Type 0 = λ c. Frames (take end (rest_at bytes at)) (c ∷ []) in subst P (sym is) (one_frame _ _ front.3) in
    let cut : take at bytes ++ take end (rest_at bytes at) ≡ take (at + end) bytes =
    ap (λ l. take at bytes ++ take end l) (take_rest bytes at) ∙ sym (take_more at end bytes h) in
    let Q : List ℕ → Type 0 = λ l. Frames l (contents ++ content ∷ []) in
    subst Q cut (frames_append (take at bytes) (take end (rest_at bytes at)) contents (content ∷ []) f frame)
