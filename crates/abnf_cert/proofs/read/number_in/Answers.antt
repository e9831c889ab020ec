use Rattle.std.proofs.Common.{◌≡◌, ℕ, true, false, take, ap, sym, ◌∙◌}
use Rattle.std.specs.List.{list_all}
use Rattle.std.specs.Char.{is_ascii_digit}
use Rattle.abnf_cert.proofs.Digits.{front_listed}
use Rattle.abnf_cert.proofs.read.number_in.Goals as goal

pub returns-in-None : goal.returns-in-None
returns-in-None c =
    let good : list_all is_ascii_digit (take c.count_digits-count.result c.args.bytes.now) ≡ true = ap (λ (k : ℕ). list_all is_ascii_digit (take k c.args.bytes.now)) c.count_digits-count.ensures.count ∙ front_listed c.args.bytes.now in
    let both : false ≡ true = sym c.in-None.ensures ∙ good in absurd (cc)
