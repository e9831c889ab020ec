use Rattle.std.proofs.Common.{◌≡◌, ℕ, [], length}
use Rattle.abnf_names.specs.own.Search.{users_at}
use Rattle.abnf_names.proofs.reach.no_users.Given as goal

abbrev pub invariant-loop : goal.invariant-loop
invariant-loop l = (length l.users.items ≡ l.counter) × ((place : ℕ) → users_at l.users.items place ≡ [])
