use Rattle.std.proofs.Common.{◌≡◌, ◌∙◌, ◌++◌, ◌∷◌, [], List, ℕ, refl, ap, sym, subst, arith, length, map}
use Rattle.std.specs.Str.{chars}
use Rattle.std.specs.String.{string_bytes}
use Rattle.std.proofs.lemmas.Str.{IsUtf8-string_bytes}
use Rattle.abnf_token.specs.declared.mark.TokenMark.{TokenMark}
use Rattle.ls_text.specs.Cut.{row}
use Rattle.ls_text.specs.own.Parts.{IsPart, held_row}
use Rattle.ls_text.specs.declared.part.Held.{Held}
use Rattle.ls_text.proofs.PartLaws.{part_last, rows_last}
use Rattle.ls_text.proofs.part.Part.pushed.Goals as goal

text_start_is : (c : goal.In_ok-push) → c.in_ok-held.held.text_start ≡ length (string_bytes c.self.inside.text)
text_start_is c = omega (arith, ap (λ (h : Held). h.text_start) c.in_ok-held.ensures, c.len-text_start.ensures, c.self.inside.text.bytes.ok.0)

text_end_is : (c : goal.In_ok-push) → c.in_ok-held.held.text_end ≡ length (string_bytes c.self.inside.text ++ c.args.text.now)
text_end_is c = omega (arith, ap (λ (h : Held). h.text_end) c.in_ok-held.ensures, c.len.ensures, c.push_str.new.self.bytes.ok.0, ap length c.in_ok-push_str.ensures.bytes)

marks_start_is : (c : goal.In_ok-push) → c.in_ok-held.held.marks_start ≡ length c.self.inside.marks.items
marks_start_is c = omega (arith, ap (λ (h : Held). h.marks_start) c.in_ok-held.ensures, c.len-marks_start.ensures, c.self.inside.marks.ok.0)

marks_end_is : (c : goal.In_ok-push) → c.in_ok-held.held.marks_end ≡ length (c.self.inside.marks.items ++ c.in_ok-push_marks.ensures.0)
marks_end_is c = omega (arith, ap (λ (h : Held). h.marks_end) c.in_ok-held.ensures, c.len-2.ensures, c.push_marks.new.marks.ok.0, ap length c.in_ok-push_marks.ensures.2)

count_is : (c : goal.In_ok-push) → c.in_ok-held.held.char_count ≡ length (chars c.args.text.now)
count_is c = ap (λ (h : Held). h.char_count) c.in_ok-held.ensures ∙ c.char_count.ensures.count

pub invariant_of-result : goal.invariant_of-result
invariant_of-result c =
    let onto = c.in_ok-push_marks.ensures in
    subst (λ (z : List Held). IsPart (string_bytes c.push_str.new.self) c.push_marks.new.marks.items z) (sym c.in_ok-push.ensures.items)
    (subst (λ (z : List TokenMark). IsPart (string_bytes c.push_str.new.self) z (c.self.inside.lines.items ++ c.in_ok-held.held ∷ [])) (sym onto.2)
    (subst (λ (z : List ℕ). IsPart z (c.self.inside.marks.items ++ onto.0) (c.self.inside.lines.items ++ c.in_ok-held.held ∷ [])) (sym c.in_ok-push_str.ensures.bytes)
    (part_last (string_bytes c.self.inside.text) c.args.text.now c.self.inside.marks.items onto.0 c.self.inside.lines.items (IsUtf8-string_bytes c.self.inside.text) c.utf8.text c.self.invariant c.in_ok-held.held (text_start_is c) (text_end_is c) (marks_start_is c) (marks_end_is c) onto.1 (count_is c))))

pub returns : goal.returns
returns c =
    record {
      line = row (chars c.args.text.now) c.args.end;
      text_is = refl;
      end_is = refl;
      joins = (λ i. map (held_row (c.in_ok-push_str.ensures.bytes i)) (c.in_ok-push.ensures.items i))
          ∙ rows_last (string_bytes c.self.inside.text) c.args.text.now c.self.inside.marks.items c.in_ok-push_marks.ensures.0 c.self.inside.lines.items (IsUtf8-string_bytes c.self.inside.text) c.utf8.text c.self.invariant c.in_ok-held.held (text_start_is c) (text_end_is c) (marks_start_is c) (marks_end_is c) c.in_ok-push_marks.ensures.1 (count_is c)
          ∙ (λ i. c.self.view_is i ++ row (chars c.args.text.now) (c.in_ok-held.ensures i).end ∷ []);
    }
