use Rattle.std.proofs.Common.{◌≡◌, ◌++◌, length, arith}
use Rattle.std.specs.Prelude.{string_bytes, string_len}
use Rattle.std.specs.Str.{chars}
use Rattle.std.proofs.lemmas.Str.{IsUtf8-string_bytes}
use Rattle.findings_text.proofs.GapLaws.{made_small, made_text, put_behind, refused_large}
use Rattle.findings_text.proofs.gaps.extended.Goals as goal

pub returns-clause-text : goal.returns-clause-text
returns-clause-text c =
    let made = c.push_str.new.self in
    let all = string_bytes made in
    let is = put_behind c.args.text.now (string_bytes c.in_ok-extended.extended) c.args.behind.now all (IsUtf8-string_bytes c.in_ok-extended.extended) c.in_ok-extended.ensures c.in_ok-push_str.ensures.bytes in
    let size : string_len made ≡ length all = omega (arith, made.bytes.ok.0) in
    made_text all (c.args.text.now ++ chars c.args.behind.now) (IsUtf8-string_bytes made) is (string_len made) size c.of_text.result c.of_text.ensures.ok

pub returns-clause-small : goal.returns-clause-small
returns-clause-small c =
    let made = c.push_str.new.self in
    let all = string_bytes made in
    let is = put_behind c.args.text.now (string_bytes c.in_ok-extended.extended) c.args.behind.now all (IsUtf8-string_bytes c.in_ok-extended.extended) c.in_ok-extended.ensures c.in_ok-push_str.ensures.bytes in
    let size : string_len made ≡ length all = omega (arith, made.bytes.ok.0) in
    made_small all (c.args.text.now ++ chars c.args.behind.now) (IsUtf8-string_bytes made) is (string_len made) size c.of_text.result c.of_text.ensures.ok

pub returns-clause-too_large : goal.returns-clause-too_large
returns-clause-too_large c =
    let made = c.push_str.new.self in
    let all = string_bytes made in
    let is = put_behind c.args.text.now (string_bytes c.in_ok-extended.extended) c.args.behind.now all (IsUtf8-string_bytes c.in_ok-extended.extended) c.in_ok-extended.ensures c.in_ok-push_str.ensures.bytes in
    let size : string_len made ≡ length all = omega (arith, made.bytes.ok.0) in
    refused_large all (c.args.text.now ++ chars c.args.behind.now) (IsUtf8-string_bytes made) is (string_len made) size c.of_text.result c.of_text.ensures.too_large.0
