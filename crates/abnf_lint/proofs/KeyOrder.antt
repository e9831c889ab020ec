-- Keys that are less by their line, their start or their row.
use Rattle.std.proofs.Common.{◌≡◌, ◌∙◌, ℕ, ◌<◌, true, refl, sym, ap, arith}
use Rattle.std.specs.Ordering.{is_lt, nat_cmp}
use Rattle.std.specs.declared.cmp.Ordering.TheVariants.{Less, Equal}
use Rattle.std.proofs.lemmas.Bool.{lt-ltb, le-ltb, eq-eqb}
use Rattle.abnf_lint.specs.Order.{Key, key_cmp}

cmp_lt : (m n : ℕ) → m < n → nat_cmp m n ≡ Less
cmp_lt m n h = rw (lt-ltb m n h) refl

cmp_self : (m : ℕ) → nat_cmp m m ≡ Equal
cmp_self m = rw (le-ltb m m (omega arith), eq-eqb m m refl) refl

pub by_line : (p q : Key) → p.0 < q.0 → is_lt (key_cmp p q) ≡ true
by_line p q h = rw (cmp_lt p.0 q.0 h) refl

pub by_start : (p q : Key) → p.0 ≡ q.0 → p.1 < q.1 → is_lt (key_cmp p q) ≡ true
by_start p q e h = rw (ap (λ n. nat_cmp p.0 n) (sym e) ∙ cmp_self p.0, cmp_lt p.1 q.1 h) refl

pub by_row : (p q : Key) → p.0 ≡ q.0 → p.1 ≡ q.1 → p.2 < q.2 → is_lt (key_cmp p q) ≡ true
by_row p q e f h = rw (ap (λ n. nat_cmp p.0 n) (sym e) ∙ cmp_self p.0, ap (λ n. nat_cmp p.1 n) (sym f) ∙ cmp_self p.1, cmp_lt p.2 q.2 h) refl
