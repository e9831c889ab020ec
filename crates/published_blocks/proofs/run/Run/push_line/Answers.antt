use Rattle.std.proofs.Common.{◌≡◌, ◌∙◌, ◌+◌, ◌++◌, ◌∷◌, [], ap, append_assoc, length, sym}
use Rattle.std.specs.Str.{chars}
use Rattle.std.proofs.lemmas.Str.{encodes-chars}
use Rattle.origins.specs.Origins.{from}
use Rattle.published_blocks.specs.Runs.{lead_with}
use Rattle.published_blocks.proofs.run.Run.push_line.Goals as goal

pub returns : goal.returns
returns c =
    let run = c.args.self.now in
    let line = chars c.args.line.now in
    let begin = c.args.begin in
    let bytes = c.as_bytes.ensures.value ∙ sym (encodes-chars c.args.line.now c.utf8.line) in
    let end : begin + c.char_count.result ≡ begin + length line = ap (λ n. begin + n) c.char_count.ensures.count in
    (λ i. record {
      begin = run.begin;
      end = end i;
      lead = (c.with-self.ensures ∙ ap (lead_with run.lead) bytes) i;
      block = (c.in_ok-put.ensures ∙ ap (λ b. b ++ (10, begin + c.char_count.result) ∷ []) c.in_ok-copy.ensures
          ∙ append_assoc run.block (from begin line) ((10, begin + c.char_count.result) ∷ [])
          ∙ ap (λ e. run.block ++ (from begin line ++ (10, e) ∷ [])) end) i;
    })
