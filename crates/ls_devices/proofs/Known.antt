-- Known bytes that grow.
use Rattle.std.proofs.Common.{◌≡◌, ◌||◌, Bool, true, false, ℕ, List, [], ◌++◌, Option, None, Some, sym, ◌∙◌, ap, append_assoc}
use Rattle.std.proofs.lemmas.List.{append-nil}
use Rattle.std.specs.Io.KnownBytes.{Appends, Keeps}
use Rattle.ls_devices.specs.Devices.{AppendsPrefix}

pub appends_keeps : (a b c : Option (List ℕ)) (x : List ℕ) → Appends a b x → Keeps b c → Appends a c x
appends_keeps None b c x p q = tt
appends_keeps (Some xs) None c x p q = absurd p
appends_keeps (Some xs) (Some ys) None x p q = absurd q
appends_keeps (Some xs) (Some ys) (Some zs) x p q = q ∙ p

pub appends_appends : (a b c : Option (List ℕ)) (x y : List ℕ) → Appends a b x → Appends b c y → Appends a c (x ++ y)
appends_appends None b c x y p q = tt
appends_appends (Some xs) None c x y p q = absurd p
appends_appends (Some xs) (Some ys) None x y p q = absurd q
appends_appends (Some xs) (Some ys) (Some zs) x y p q = q ∙ (ap (λ l. l ++ y) p ∙ append_assoc xs x y)

pub appends_none : (a : Option (List ℕ)) → Appends a a []
appends_none None = tt
appends_none (Some xs) = sym (append-nil xs)

pub prefix_keeps : (a b c : Option (List ℕ)) (x : List ℕ) → AppendsPrefix a b x → Keeps b c → AppendsPrefix a c x
prefix_keeps a b c x f k = (f.0, f.1, (f.2.0, appends_keeps a b c f.0 f.2.1 k))

pub as_prefix : (a b : Option (List ℕ)) (bytes : List ℕ) → Appends a b bytes → AppendsPrefix a b bytes
as_prefix a b bytes w = (bytes, [], (sym (append-nil bytes), w))

pub or_true : (a b : Bool) → a ≡ (b || true) → a ≡ true
or_true a true e = e
or_true a false e = e

pub or_false : (a b : Bool) → b ≡ false → a ≡ (b || false) → a ≡ false
or_false a true f e = cc
or_false a false f e = e
