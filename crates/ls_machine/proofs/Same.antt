-- Two values are the same exactly where their test says so.
use Rattle.std.proofs.Common.{◌≡◌, true, refl, ap, subst}
use Rattle.std.specs.Prelude.{◌↔◌, ◌&&◌, ◌==◌, bytes_eq, Some}
use Rattle.std.specs.Bool.{beq}
use Rattle.std.specs.Cmp.{booleans_Decides}
use Rattle.std.proofs.lemmas.Bool.{and_from, and_parts, eqb-true}
use Rattle.std.proofs.lemmas.Bool.Decides.{Decides-eqb}
use Rattle.std.proofs.lemmas.Slice.Eq.{bytes_eq-Decides}
use Rattle.ls_text.specs.declared.position.Encoding.{Encoding}
use Rattle.ls_text.specs.declared.position.Encoding.TheVariants.{Utf8, Utf16, Utf32, Markdown, Xml}
use Rattle.ls_text.specs.declared.position.Units.{Units}
use Rattle.ls_text.specs.declared.position.Units.TheVariants as counted
use Rattle.ls_text.specs.declared.position.Position.{Position}
use Rattle.ls_text.specs.declared.position.Range.{Range}
use Rattle.ls_answers.specs.Told.{Told}
use Rattle.ls_answers.specs.declared.ask.Ask.{Ask}
use Rattle.ls_answers.specs.declared.ask.Ask.TheVariants as ask
use Rattle.ls_machine.specs.Laws.{IsRunOf}
use Rattle.ls_machine.specs.Same.{ask_eq, encoding_eq, is_for, position_eq, range_eq, units_eq}
use Rattle.ls_machine.specs.declared.state.Waiting.{Waiting}

units_true : (a b : Units) → units_eq a b ≡ true → a ≡ b
units_true counted.Utf8 counted.Utf8 h = refl
units_true counted.Utf8 counted.Utf16 h = absurd (cc)
units_true counted.Utf8 counted.Utf32 h = absurd (cc)
units_true counted.Utf16 counted.Utf8 h = absurd (cc)
units_true counted.Utf16 counted.Utf16 h = refl
units_true counted.Utf16 counted.Utf32 h = absurd (cc)
units_true counted.Utf32 counted.Utf8 h = absurd (cc)
units_true counted.Utf32 counted.Utf16 h = absurd (cc)
units_true counted.Utf32 counted.Utf32 h = refl

encoding_true : (a b : Encoding) → encoding_eq a b ≡ true → a ≡ b
encoding_true Utf8 Utf8 h = refl
encoding_true Utf8 Utf16 h = absurd (cc)
encoding_true Utf8 Utf32 h = absurd (cc)
encoding_true Utf8 (Markdown v) h = absurd (cc)
encoding_true Utf8 (Xml v) h = absurd (cc)
encoding_true Utf16 Utf8 h = absurd (cc)
encoding_true Utf16 Utf16 h = refl
encoding_true Utf16 Utf32 h = absurd (cc)
encoding_true Utf16 (Markdown v) h = absurd (cc)
encoding_true Utf16 (Xml v) h = absurd (cc)
encoding_true Utf32 Utf8 h = absurd (cc)
encoding_true Utf32 Utf16 h = absurd (cc)
encoding_true Utf32 Utf32 h = refl
encoding_true Utf32 (Markdown v) h = absurd (cc)
encoding_true Utf32 (Xml v) h = absurd (cc)
encoding_true (Markdown u) Utf8 h = absurd (cc)
encoding_true (Markdown u) Utf16 h = absurd (cc)
encoding_true (Markdown u) Utf32 h = absurd (cc)
encoding_true (Markdown u) (Markdown v) h = ap Markdown (units_true u v h)
encoding_true (Markdown u) (Xml v) h = absurd (cc)
encoding_true (Xml u) Utf8 h = absurd (cc)
encoding_true (Xml u) Utf16 h = absurd (cc)
encoding_true (Xml u) Utf32 h = absurd (cc)
encoding_true (Xml u) (Markdown v) h = absurd (cc)
encoding_true (Xml u) (Xml v) h = ap Xml (units_true u v h)

position_true : (a b : Position) → position_eq a b ≡ true → a ≡ b
position_true a b h =
    let line = eqb-true _ _ (and_parts (a.line == b.line) (a.character == b.character) h).0 in
    let character = eqb-true _ _ (and_parts (a.line == b.line) (a.character == b.character) h).1 in
    (λ i. record { line = line i; character = character i })

range_true : (a b : Range) → range_eq a b ≡ true → a ≡ b
range_true a b h =
    let start = position_true a.start b.start (and_parts (position_eq a.start b.start) (position_eq a.end b.end) h).0 in
    let end = position_true a.end b.end (and_parts (position_eq a.start b.start) (position_eq a.end b.end) h).1 in
    (λ i. record { start = start i; end = end i })

ask_true : (a b : Ask) → ask_eq a b ≡ true → a ≡ b
ask_true (ask.Hover p) (ask.Hover q) h = ap ask.Hover (position_true p q h)
ask_true (ask.Hover p) (ask.Definition q) h = absurd (cc)
ask_true (ask.Hover p) (ask.References q y) h = absurd (cc)
ask_true (ask.Hover p) ask.Symbols h = absurd (cc)
ask_true (ask.Hover p) (ask.Rename q m) h = absurd (cc)
ask_true (ask.Hover p) (ask.Action t) h = absurd (cc)
ask_true (ask.Hover p) ask.Tokens h = absurd (cc)
ask_true (ask.Hover p) ask.Diagnose h = absurd (cc)
ask_true (ask.Definition p) (ask.Hover q) h = absurd (cc)
ask_true (ask.Definition p) (ask.Definition q) h = ap ask.Definition (position_true p q h)
ask_true (ask.Definition p) (ask.References q y) h = absurd (cc)
ask_true (ask.Definition p) ask.Symbols h = absurd (cc)
ask_true (ask.Definition p) (ask.Rename q m) h = absurd (cc)
ask_true (ask.Definition p) (ask.Action t) h = absurd (cc)
ask_true (ask.Definition p) ask.Tokens h = absurd (cc)
ask_true (ask.Definition p) ask.Diagnose h = absurd (cc)
ask_true (ask.References p x) (ask.Hover q) h = absurd (cc)
ask_true (ask.References p x) (ask.Definition q) h = absurd (cc)
ask_true (ask.References p x) (ask.References q y) h =
    let at = position_true p q (and_parts (position_eq p q) (beq x y) h).0 in
    let same = (booleans_Decides x y).0 (and_parts (position_eq p q) (beq x y) h).1 in
    (λ i. ask.References (at i) (same i))
ask_true (ask.References p x) ask.Symbols h = absurd (cc)
ask_true (ask.References p x) (ask.Rename q m) h = absurd (cc)
ask_true (ask.References p x) (ask.Action t) h = absurd (cc)
ask_true (ask.References p x) ask.Tokens h = absurd (cc)
ask_true (ask.References p x) ask.Diagnose h = absurd (cc)
ask_true ask.Symbols (ask.Hover q) h = absurd (cc)
ask_true ask.Symbols (ask.Definition q) h = absurd (cc)
ask_true ask.Symbols (ask.References q y) h = absurd (cc)
ask_true ask.Symbols ask.Symbols h = refl
ask_true ask.Symbols (ask.Rename q m) h = absurd (cc)
ask_true ask.Symbols (ask.Action t) h = absurd (cc)
ask_true ask.Symbols ask.Tokens h = absurd (cc)
ask_true ask.Symbols ask.Diagnose h = absurd (cc)
ask_true (ask.Rename p n) (ask.Hover q) h = absurd (cc)
ask_true (ask.Rename p n) (ask.Definition q) h = absurd (cc)
ask_true (ask.Rename p n) (ask.References q y) h = absurd (cc)
ask_true (ask.Rename p n) ask.Symbols h = absurd (cc)
ask_true (ask.Rename p n) (ask.Rename q m) h =
    let at = position_true p q (and_parts (position_eq p q) (bytes_eq n m) h).0 in
    let name = (bytes_eq-Decides n m).0 (and_parts (position_eq p q) (bytes_eq n m) h).1 in
    (λ i. ask.Rename (at i) (name i))
ask_true (ask.Rename p n) (ask.Action t) h = absurd (cc)
ask_true (ask.Rename p n) ask.Tokens h = absurd (cc)
ask_true (ask.Rename p n) ask.Diagnose h = absurd (cc)
ask_true (ask.Action r) (ask.Hover q) h = absurd (cc)
ask_true (ask.Action r) (ask.Definition q) h = absurd (cc)
ask_true (ask.Action r) (ask.References q y) h = absurd (cc)
ask_true (ask.Action r) ask.Symbols h = absurd (cc)
ask_true (ask.Action r) (ask.Rename q m) h = absurd (cc)
ask_true (ask.Action r) (ask.Action t) h = ap ask.Action (range_true r t h)
ask_true (ask.Action r) ask.Tokens h = absurd (cc)
ask_true (ask.Action r) ask.Diagnose h = absurd (cc)
ask_true ask.Tokens (ask.Hover q) h = absurd (cc)
ask_true ask.Tokens (ask.Definition q) h = absurd (cc)
ask_true ask.Tokens (ask.References q y) h = absurd (cc)
ask_true ask.Tokens ask.Symbols h = absurd (cc)
ask_true ask.Tokens (ask.Rename q m) h = absurd (cc)
ask_true ask.Tokens (ask.Action t) h = absurd (cc)
ask_true ask.Tokens ask.Tokens h = refl
ask_true ask.Tokens ask.Diagnose h = absurd (cc)
ask_true ask.Diagnose (ask.Hover q) h = absurd (cc)
ask_true ask.Diagnose (ask.Definition q) h = absurd (cc)
ask_true ask.Diagnose (ask.References q y) h = absurd (cc)
ask_true ask.Diagnose ask.Symbols h = absurd (cc)
ask_true ask.Diagnose (ask.Rename q m) h = absurd (cc)
ask_true ask.Diagnose (ask.Action t) h = absurd (cc)
ask_true ask.Diagnose ask.Tokens h = absurd (cc)
ask_true ask.Diagnose ask.Diagnose h = refl

units_itself : (a : Units) → units_eq a a ≡ true
units_itself counted.Utf8 = refl
units_itself counted.Utf16 = refl
units_itself counted.Utf32 = refl

encoding_itself : (a : Encoding) → encoding_eq a a ≡ true
encoding_itself Utf8 = refl
encoding_itself Utf16 = refl
encoding_itself Utf32 = refl
encoding_itself (Markdown u) = units_itself u
encoding_itself (Xml u) = units_itself u

position_itself : (a : Position) → position_eq a a ≡ true
position_itself a = and_from (a.line == a.line) (a.character == a.character) ((Decides-eqb a.line a.line).1 refl) ((Decides-eqb a.character a.character).1 refl)

ask_itself : (a : Ask) → ask_eq a a ≡ true
ask_itself (ask.Hover p) = position_itself p
ask_itself (ask.Definition p) = position_itself p
ask_itself (ask.References p x) = and_from (position_eq p p) (beq x x) (position_itself p) ((booleans_Decides x x).1 refl)
ask_itself ask.Symbols = refl
ask_itself (ask.Rename p n) = and_from (position_eq p p) (bytes_eq n n) (position_itself p) ((bytes_eq-Decides n n).1 refl)
ask_itself (ask.Action t) = and_from (position_eq t.start t.start) (position_eq t.end t.end) (position_itself t.start) (position_itself t.end)
ask_itself ask.Tokens = refl
ask_itself ask.Diagnose = refl

-- a run is a job's exactly where it was made of its text, with its encoding and its question
pub run_of : (w : Waiting) (done : Told) → (is_for (Some w) done ≡ true) ↔ IsRunOf w done
run_of w done =
    let encodings = encoding_eq w.encoding done.encoding in
    let texts = bytes_eq w.text done.text in
    let asks = ask_eq w.ask done.ask in (
      λ fits. record {
        encoding = encoding_true w.encoding done.encoding (and_parts encodings (texts && asks) fits).0;
        text = (bytes_eq-Decides w.text done.text).0 (and_parts texts asks (and_parts encodings (texts && asks) fits).1).0;
        ask = ask_true w.ask done.ask (and_parts texts asks (and_parts encodings (texts && asks) fits).1).1;
      },
      λ is. and_from encodings (texts && asks)
          (subst (λ e. encoding_eq w.encoding e ≡ true) is.encoding (encoding_itself w.encoding))
          (and_from texts asks ((bytes_eq-Decides w.text done.text).1 is.text) (subst (λ a. ask_eq w.ask a ≡ true) is.ask (ask_itself w.ask))),
    )
