use Rattle.std.proofs.Common.{◌≡◌, ◌∙◌, ℕ, List, ◌++◌, ap, append_assoc, rules}
use Rattle.std.specs.Prelude.{codes, string_bytes}
use Rattle.std.specs.Fmt.{decimal}
use Rattle.draft_findings.proofs.words.push_first_of.Goals as goal

three : (old a b c s1 s2 s3 : List ℕ) → s1 ≡ old ++ a → s2 ≡ s1 ++ b → s3 ≡ s2 ++ c → s3 ≡ old ++ (a ++ b ++ c)
three old a b c s1 s2 s3 e1 e2 e3 =
    e3 ∙ (ap (λ (t : List ℕ). t ++ c) (e2 ∙ (ap (λ (t : List ℕ). t ++ b) e1 ∙ append_assoc old a b)) ∙ append_assoc old (a ++ b) c)

pub returns : goal.returns
returns c =
    let number : c.as_str.result.now ≡ decimal c.args.count = search rules in
    three (string_bytes c.args.text.now) (codes " (the first of ") (decimal c.args.count) (codes " faults in this block)")
    (string_bytes c.push_str.new.self) (string_bytes c.push_str-2.new.self) (string_bytes c.push_str-3.new.self)
    c.in_ok-push_str.ensures.bytes (c.in_ok-push_str-2.ensures.bytes ∙ ap (λ (t : List ℕ). string_bytes c.push_str.new.self ++ t) number) c.in_ok-push_str-3.ensures.bytes
