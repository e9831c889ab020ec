-- What is the same at the front of two lists, and at their back. No public contract cites this.
use Rattle.std.specs.Prelude.{◌≡◌, ℕ, ◌-◌, ◌≤◌, List, length, take, drop}

-- so many at the front of both lists are the same
pub record IsSameFront {X : Type 0} (xs ys : List X) (n : ℕ) : Type 0 where
  pub ours : n ≤ length xs
  pub theirs : n ≤ length ys
  pub same : take n xs ≡ take n ys

-- so many at the back of both lists are the same
pub record IsSameBack {X : Type 0} (xs ys : List X) (n : ℕ) : Type 0 where
  pub ours : n ≤ length xs
  pub theirs : n ≤ length ys
  pub same : drop (length xs - n) xs ≡ drop (length ys - n) ys
