use Rattle.std.proofs.Common.{◌≡◌, ◌+◌, ◌≤◌, length, get_or, Some, ap, sym, subst, ◌∙◌, take}
use Rattle.std.specs.Str.{IsCharBoundary, continuation_len}
use Rattle.abnf_token.specs.declared.token.Kind.TheVariants.{Bad}
use Rattle.abnf_token.specs.Tokens.{IsNext}
use Rattle.abnf_token.proofs.Longest.{IsLongest, longest_of}
use Rattle.abnf_token.proofs.Cuts.{found_cut, found_next, FirstChar, first_char, bad_next, char_len}
use Rattle.abnf_token.proofs.scan.scan.Goals as goal

pub returns-in-Some-clause-next : goal.returns-in-Some-clause-next
returns-in-Some-clause-next c = found_next _ c.in-Some.found (longest_of _ _ _ c.as_bytes-bytes.ensures.value c.in-Some.ensures)

pub returns-in-Some-clause-within : goal.returns-in-Some-clause-within
returns-in-Some-clause-within c =
    let l : IsLongest (Some c.in-Some.found) c.args.rest.now = longest_of _ _ _ c.as_bytes-bytes.ensures.value c.in-Some.ensures in
    l.1

pub returns-in-Some-clause-boundary : goal.returns-in-Some-clause-boundary
returns-in-Some-clause-boundary c = found_cut _ c.in-Some.found c.utf8.rest (longest_of _ _ _ c.as_bytes-bytes.ensures.value c.in-Some.ensures)

pub returns-in-None-clause-next : goal.returns-in-None-clause-next
returns-in-None-clause-next c =
    let left = c.args.rest.now in
    let len : c.char_len.result ≡ char_len left = c.char_len.ensures ∙ ap (λ l. continuation_len (get_or l 0 0) + 1) c.as_bytes-bytes.ensures.value in
    subst (λ n. IsNext Bad (take n left) left) (sym len)
    (bad_next left (first_char left c.utf8.rest c.requires.some) (longest_of _ _ _ c.as_bytes-bytes.ensures.value c.in-None.ensures))

pub returns-in-None-clause-within : goal.returns-in-None-clause-within
returns-in-None-clause-within c =
    let left = c.args.rest.now in
    let len : c.char_len.result ≡ char_len left = c.char_len.ensures ∙ ap (λ l. continuation_len (get_or l 0 0) + 1) c.as_bytes-bytes.ensures.value in
    let first : FirstChar left = first_char left c.utf8.rest c.requires.some in
    subst (λ n. n ≤ length left) (sym len) first.within

pub returns-in-None-clause-boundary : goal.returns-in-None-clause-boundary
returns-in-None-clause-boundary c =
    let left = c.args.rest.now in
    let len : c.char_len.result ≡ char_len left = c.char_len.ensures ∙ ap (λ l. continuation_len (get_or l 0 0) + 1) c.as_bytes-bytes.ensures.value in
    let first : FirstChar left = first_char left c.utf8.rest c.requires.some in
    subst (IsCharBoundary left) (sym len) first.cut
