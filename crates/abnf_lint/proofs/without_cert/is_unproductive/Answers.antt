use Rattle.abnf_lint.proofs.without_cert.is_unproductive.Goals as goal

pub returns-else-not-is_productive : goal.returns-else-not-is_productive
returns-else-not-is_productive c =
    let p = c.requires.productive.0 c.if-not-is_productive.false in
    (λ t. absurd (cc t), λ u. absurd (u.nothing p.0 p.1 p.2.0 p.2.1))
