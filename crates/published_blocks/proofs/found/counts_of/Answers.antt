use Rattle.std.proofs.Common.{◌≡◌, ◌∙◌, ap, arith, length, sym}
use Rattle.std.specs.Prelude.{Err, string_bytes}
use Rattle.std.specs.Str.{encode_utf8_all}
use Rattle.std.proofs.lemmas.Str.{encodes-chars}
use Rattle.origins.specs.Origins.{characters}
use Rattle.published_blocks.proofs.FoundLaws.{refused_by}
use Rattle.published_blocks.proofs.found.counts_of.Goals as goal

pub returns-in-Err-clause-fault : goal.returns-in-Err-clause-fault
returns-in-Err-clause-fault c =
    let bytes : string_bytes c.in_ok-content.content ≡ encode_utf8_all (characters c.args.run.now.block) =
    c.in_ok-content.ensures.ok ∙ (sym (encodes-chars c.as_str.result.now c.as_str.utf8) ∙ ap encode_utf8_all c.as_str.ensures) in
    refused_by c.args.run.now c.in-Err.fault (λ large.
    let found = c.in-Err.ensures.too_large.0 (ap Err large) in
    omega (arith, found, c.in_ok-content.content.bytes.ok.0, ap length bytes))
