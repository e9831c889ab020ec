-- A `<` with no `>` behind it, once seen, is known of the rest of the line.
use Rattle.std.proofs.Common.{◌≡◌, ℕ, zero, suc, ◌+◌, ◌<◌, ◌≤◌, Bool, true, false, [], ◌∷◌, length, take, drop, get_or, None, refl, sym, ap, subst, ◌∙◌, arith}
use Rattle.std.specs.Prelude.{nat_eq, not, if◌then◌else◌}
use Rattle.std.proofs.lemmas.Bool.{eqb-true, not-false}
use Rattle.abnf_token.specs.declared.token.Kind.{Kind}
use Rattle.abnf_token.specs.declared.token.Kind.TheVariants as k
use Rattle.abnf_token.specs.declared.machine.State.TheVariants as s
use Rattle.abnf_token.specs.Classes.{Text, is_prose_rest}
use Rattle.abnf_token.specs.Rest.{HasNoClose}
use Rattle.abnf_token.specs.Tokens.{NoLonger, IsNext, Fits}
use Rattle.abnf_token.specs.own.Machine.{munch}

pub no_close_drop : (n : ℕ) (t : Text) → HasNoClose t → HasNoClose (drop n t)
no_close_drop zero t none = none
no_close_drop (suc n) [] none = tt
no_close_drop (suc n) (b ∷ bs) none = no_close_drop n bs none.1

unclosed : (i : ℕ) (t : Text) → HasNoClose t → munch s.Prose i None t ≡ None
unclosed i [] none = refl
unclosed i (b ∷ bs) none = rw none.0 (unclosed (i + 1) bs none.1)

pub none_found : (t : Text) → 0 < length t → get_or t 0 0 ≡ 0x3C → HasNoClose t → munch s.Start 0 None t ≡ None
none_found [] some is none = absurd (omega arith)
none_found (b ∷ bs) some is none = rw is (unclosed 1 bs none.1)

other : (c : Bool) → (if c then true else false) ≡ false → c ≡ false
other true e = e
other false e = refl

no_close : (t : Text) → ((m : ℕ) → m ≤ length t → is_prose_rest (take m t) ≡ false) → HasNoClose t
no_close [] none = tt
no_close (b ∷ bs) none =
    let isnt : nat_eq b 0x3E ≡ false = other (nat_eq b 0x3E) (none 1 (omega arith)) in
    (isnt, no_close bs (λ m le. rw isnt at (none (suc m) (omega arith))))

opened : (left : Text) → 0 < length left → get_or left 0 0 ≡ 0x3C → NoLonger 0 left → HasNoClose left
opened [] some is none = absurd (omega arith)
opened (b ∷ bs) some is none =
    (rw is refl, no_close bs (λ m le. rw is at (none k.Prose (suc m) (omega arith) (omega arith))))

same_first : (text left : Text) → 0 < length text → text ≡ take (length text) left → get_or left 0 0 ≡ get_or text 0 0
same_first [] left some front = absurd (omega arith)
same_first (b ∷ bs) [] some front = absurd (omega (arith, ap length front))
same_first (b ∷ bs) (c ∷ cs) some front = sym (ap (λ l. get_or l 0 0) front)

pub no_close_after : (kind : Kind) (text bytes left : Text) → IsNext kind text left → kind ≡ k.Bad → bytes ≡ text → not (nat_eq (get_or bytes 0 0) 0x3C) ≡ false → HasNoClose left
no_close_after kind text bytes left next bad same_as e =
    let fits : Fits k.Bad text left = subst (λ j. Fits j text left) bad next.fits in
    let is : get_or text 0 0 ≡ 0x3C = ap (λ l. get_or l 0 0) (sym same_as) ∙ eqb-true (get_or bytes 0 0) 0x3C (not-false _ e) in
    opened left (omega (arith, next.some, next.within)) (same_first text left next.some next.front ∙ is) fits.1
