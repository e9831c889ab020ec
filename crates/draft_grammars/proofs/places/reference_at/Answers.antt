use Rattle.std.proofs.Common.{◌∙◌, ℕ, List, ◌+◌, arith, sym, ap, get_or, length, length-drop}
use Rattle.std.specs.Option.{option_map}
use Rattle.std.specs.Str.{chars}
use Rattle.xml_blocks.specs.Xml.{reference}
use Rattle.draft_grammars.proofs.ReferenceLaws.{behind_le, found, found_le, may_split, none}
use Rattle.draft_grammars.proofs.places.reference_at.Goals as goal

pub split_at-requires : goal.split_at-requires
split_at-requires c =
    let begins = ap (λ (bs : List ℕ). get_or bs c.args.at 0) (sym c.as_bytes.ensures.value) ∙ c.if-as_bytes-at-ne38.false in
    may_split c.args.line.now c.args.at c.if-at-line.false begins c.utf8.line

pub reference_len-requires : goal.reference_len-requires
reference_len-requires c =
    let begins = ap (λ (bs : List ℕ). get_or bs c.args.at 0) (sym c.as_bytes.ensures.value) ∙ c.if-as_bytes-at-ne38.false in
    let le = behind_le c.args.line.now c.args.at c.if-at-line.false begins c.utf8.line in
    let same = ap (λ (bs : List ℕ). length (chars bs)) c.split_at.ensures.back in
    let all = ap (λ (bs : List ℕ). length bs) c.as_bytes.ensures.value in
    omega (arith, le, same, all, c.as_bytes.type_inv.0, c.as_bytes.type_inv.1, length-drop (c.args.at + 1) c.args.line.now)

pub overflow_add-result : goal.overflow_add-result
overflow_add-result c =
    let is = sym c.in-Some.is ∙ c.reference_len.ensures in
    let len = found_le (chars c.split_at.result.1.now) c.in-Some.len is in
    let begins = ap (λ (bs : List ℕ). get_or bs c.args.at 0) (sym c.as_bytes.ensures.value) ∙ c.if-as_bytes-at-ne38.false in
    let le = behind_le c.args.line.now c.args.at c.if-at-line.false begins c.utf8.line in
    let same = ap (λ (bs : List ℕ). length (chars bs)) c.split_at.ensures.back in
    let all = ap (λ (bs : List ℕ). length bs) c.as_bytes.ensures.value in
    omega (arith, len, le, same, all, c.as_bytes.type_inv.0, length-drop (c.args.at + 1) c.args.line.now)

pub returns-in-Some-clause-value : goal.returns-in-Some-clause-value
returns-in-Some-clause-value c =
    let begins = ap (λ (bs : List ℕ). get_or bs c.args.at 0) (sym c.as_bytes.ensures.value) ∙ c.if-as_bytes-at-ne38.false in
    let is = sym c.in-Some.is ∙ c.reference_len.ensures ∙ ap (λ (bs : List ℕ). option_map (λ (r : ℕ × ℕ). r.1) (reference (chars bs))) c.split_at.ensures.back in
    found c.args.line.now c.args.at c.if-at-line.false begins c.in-Some.len is

pub returns-in-Some-clause-small : goal.returns-in-Some-clause-small
returns-in-Some-clause-small c =
    let is = sym c.in-Some.is ∙ c.reference_len.ensures in
    let len = found_le (chars c.split_at.result.1.now) c.in-Some.len is in
    let begins = ap (λ (bs : List ℕ). get_or bs c.args.at 0) (sym c.as_bytes.ensures.value) ∙ c.if-as_bytes-at-ne38.false in
    let le = behind_le c.args.line.now c.args.at c.if-at-line.false begins c.utf8.line in
    let same = ap (λ (bs : List ℕ). length (chars bs)) c.split_at.ensures.back in
    omega (arith, len, le, same, c.if-at-line.false, length-drop (c.args.at + 1) c.args.line.now)

pub returns-in-None-clause-value : goal.returns-in-None-clause-value
returns-in-None-clause-value c =
    let begins = ap (λ (bs : List ℕ). get_or bs c.args.at 0) (sym c.as_bytes.ensures.value) ∙ c.if-as_bytes-at-ne38.false in
    let is = sym c.in-None.is ∙ c.reference_len.ensures ∙ ap (λ (bs : List ℕ). option_map (λ (r : ℕ × ℕ). r.1) (reference (chars bs))) c.split_at.ensures.back in
    none c.args.line.now c.args.at c.if-at-line.false begins is
