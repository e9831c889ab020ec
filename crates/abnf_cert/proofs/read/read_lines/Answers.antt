use Rattle.std.proofs.Common.{rules, ◌≡◌, ◌<◌, ◌++◌, ◌∷◌, [], ℕ, List, length, arith, sym, ap, ◌∙◌, subst}
use Rattle.abnf_cert.specs.declared.entry.Entry.{Entry}
use Rattle.abnf_cert.specs.Text.{entry_line, cert_text}
use Rattle.abnf_cert.specs.Read.{IsWide}
use Rattle.std.specs.List.{AllByRecursion}
use Rattle.abnf_cert.proofs.Lines.{line_takes, line_shorter, text_push, wide_push}
use Rattle.abnf_cert.proofs.read.read_lines.Goals as goal

pub loop-rest-smaller : goal.loop-rest-smaller
loop-rest-smaller c =
    let low : c.in-Some.number < 18446744073709551616 = omega (arith, c.if-number-len.false, c.len.ensures) in
    let line = line_takes c.loop-rest.rest.now c.in-Some.behind.now c.in-Some.number c.in-Some.told c.in-Some-told_entry.entry (sym c.in-Some.ensures) low (sym c.in-Some-told_entry.ensures) in
    line_shorter c.loop-rest.rest.now c.in-Some.behind.now c.in-Some.number c.in-Some-told_entry.entry line

pub loop-rest-preserved : goal.loop-rest-preserved
loop-rest-preserved c =
    let low : c.in-Some.number < 18446744073709551616 = omega (arith, c.if-number-len.false, c.len.ensures) in
    let line = line_takes c.loop-rest.rest.now c.in-Some.behind.now c.in-Some.number c.in-Some.told c.in-Some-told_entry.entry (sym c.in-Some.ensures) low (sym c.in-Some-told_entry.ensures) in
    let number : c.in-Some.number ≡ length c.loop-rest.entries.items = omega (arith, c.if-number-len.false, c.len.ensures, c.loop-rest.entries.ok.0) in
    let pushed : c.push.new.self.items ≡ c.loop-rest.entries.items ++ c.in-Some-told_entry.entry ∷ [] = search rules in
    record {
      wide = subst (λ (es : List Entry). AllByRecursion IsWide es) (sym pushed) (wide_push c.loop-rest.entries.items c.in-Some.told c.in-Some-told_entry.entry c.loop-rest.invariant.wide (sym c.in-Some-told_entry.ensures));
      read =
          text_push c.loop-rest.entries.items c.in-Some-told_entry.entry c.args.bytes.now c.loop-rest.rest.now c.in-Some.behind.now c.loop-rest.invariant.read
          (subst (λ (n : ℕ). c.loop-rest.rest.now ≡ entry_line n c.in-Some-told_entry.entry ++ c.in-Some.behind.now) number line)
          ∙ ap (λ (es : List Entry). cert_text es ++ c.in-Some.behind.now) (sym pushed);
    }

pub returns-in_default-told_entry-clause-fault : goal.returns-in_default-told_entry-clause-fault
returns-in_default-told_entry-clause-fault c =
    let number : c.in-Some.number ≡ length c.loop-rest.entries.items = omega (arith, c.if-number-len.false, c.len.ensures, c.loop-rest.entries.ok.0) in
    (c.loop-rest.entries.items, c.loop-rest.rest.now, c.loop-rest.invariant.wide, c.loop-rest.invariant.read, ((c.in-Some.number, c.in-Some.told, c.in-Some.behind.now), sym c.in-Some.ensures, number, sym c.in_default-told_entry.ensures))

pub returns-then-is_err-clause-fault : goal.returns-then-is_err-clause-fault
returns-then-is_err-clause-fault c =
    let number : c.in-Some.number ≡ length c.loop-rest.entries.items = omega (arith, c.if-number-len.false, c.len.ensures, c.loop-rest.entries.ok.0) in
    (c.loop-rest.entries.items, c.loop-rest.rest.now, c.loop-rest.invariant.wide, c.loop-rest.invariant.read, ((c.in-Some.number, c.in-Some.told, c.in-Some.behind.now), sym c.in-Some.ensures, number, c.in-Some-told_entry.entry, sym c.in-Some-told_entry.ensures))
