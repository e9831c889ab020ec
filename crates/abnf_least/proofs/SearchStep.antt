-- One step of the search.
use Rattle.std.proofs.Common.{◌≡◌, ℕ, zero, suc, ◌+◌, ◌^◌, ◌<◌, ◌≤◌, ◌⊎◌, inl, ⊎_elim, List, [], ◌∷◌, length, refl, sym, ap, ◌∙◌, subst, arith, set, get_or-set_same, get_or-set_other}
use Rattle.std.specs.Prelude.{replicate}
use Rattle.std.proofs.lemmas.List.{length-set, length-replicate}
use Rattle.std.proofs.lemmas.Bool.{cases_lt, cases_eq}
use Rattle.abnf_cert.specs.declared.entry.Entry.{Entry}
use Rattle.abnf_cert.specs.declared.entry.Entry.TheVariants.{Nothing, Least}
use Rattle.abnf_parts.specs.Part.{Part, parts_of}
use Rattle.abnf_cert.specs.Accepted.{NotBefore, top, entry_at}
use Rattle.abnf_least.specs.declared.candidate.Candidate.{Candidate}
use Rattle.abnf_least.specs.own.Form.{Form, text, never, row, one_of, repeated, refers, needs, entry_given}
use Rattle.abnf_least.specs.Table.{InRange, IsUnchosen, IsUpTo, HasRoomAbove, unsettled}
use Rattle.abnf_least.specs.own.Queue.{LeavesQueue}
use Rattle.abnf_least.specs.own.Search.{IsExhausted, IsNextPart, OthersWait, AllWait, HasGivenPair, IsFound, offered, IsOffered, Keeps, IsSearchState, form_at, candidate}
use Rattle.abnf_least.specs.declared.users.Users.{Users}
use Rattle.abnf_least.specs.own.Users.{Uses, AreUsers}
use Rattle.abnf_least.proofs.Settle.{among, nothing_least, moved_to, some_least, none_settled, given_same, choice_from, settled_more}
use Rattle.abnf_least.proofs.Height.{given_up, settle_one}
use Rattle.abnf_least.proofs.Queued.{others_there}

-- the first to leave the queue has the least pair
pub first_of_all : (form : ℕ → Form) (at : ℕ → Entry) (old new : List Candidate) (x : Candidate) → AllWait form at old → LeavesQueue old x new → IsNextPart form at x.length x.height
first_of_all form at old new x waiting leaves k waits =
    ⊎_elim
    (λ none. subst (λ e. NotBefore x.length x.height e) (sym none) tt)
    (λ some. subst (λ e. NotBefore x.length x.height e) (sym some.3) (leaves.least (candidate some.0 some.1 k) (waiting k some.0 some.1 some.2 waits some.3)))
    (some_least (entry_given at (form k)))

pub others_wait : (form : ℕ → Form) (at : ℕ → Entry) (old new : List Candidate) (x : Candidate) → AllWait form at old → LeavesQueue old x new → OthersWait (λ k. k ≡ x.number → ⊥) form at new
others_wait form at old new x waiting leaves k l h d apart waits given =
    ⊎_elim
    (λ same. absurd (apart (ap (λ (y : Candidate). y.number) same)))
    (λ here. here)
    (others_there old new x leaves (candidate l h k) (waiting k l h d waits given))

-- where the first isn't to be settled, the others wait still
pub all_wait : (form : ℕ → Form) (table : List Entry) (old new : List Candidate) (x : Candidate) → length table ≡ length table → AllWait form (entry_at table) old → LeavesQueue old x new → ((k : ℕ) → length table ≤ k → form k ≡ never) → (HasGivenPair form table x → ⊥) → AllWait form (entry_at table) new
all_wait form table old new x _ waiting leaves past not_given k l h d waits given =
    ⊎_elim
    (λ same.
    let number : k ≡ x.number = ap (λ (y : Candidate). y.number) same in
    let pair : (l ≡ x.length) × (h ≡ x.height) = (ap (λ (y : Candidate). y.length) same, ap (λ (y : Candidate). y.height) same) in
    ⊎_elim
    (λ within. absurd (not_given (record {
      within = subst (λ n. n < length table) number within;
      waits = ap (entry_at table) (sym number) ∙ waits;
      choice = d;
      given = moved_to (entry_given (entry_at table) (form x.number)) x.length x.height l h d (ap (λ n. entry_given (entry_at table) (form n)) (sym number) ∙ given) pair.0 pair.1;
    })))
    (λ beyond. absurd (nothing_least l h d (sym (ap (entry_given (entry_at table)) (past k beyond)) ∙ given)))
    (cases_lt k (length table)))
    (λ here. here)
    (others_there old new x leaves (candidate l h k) (waiting k l h d waits given))

-- what a user is offered is what it is given, or it waited before
offered_is : (at next : ℕ → Entry) (m : ℕ) → at m ≡ Nothing → ((n : ℕ) → (n ≡ m → ⊥) → next n ≡ at n) → (f : Form) (l h d : ℕ) → entry_given next f ≡ Least l h d → ((c : ℕ) × (offered next f m ≡ Least l h c)) ⊎ ((c : ℕ) × (entry_given at f ≡ Least l h c))
offered_is at next m was others (text n) l h d is = inl (d, is)
offered_is at next m was others never l h d is = inl (d, is)
offered_is at next m was others (row ns) l h d is = inl (d, is)
offered_is at next m was others (one_of ns) l h d is = choice_from at next m was others ns l h d is
offered_is at next m was others (repeated more n) l h d is = inl (d, is)
offered_is at next m was others (refers n) l h d is = inl (d, is)

up_to_more : (b : ℕ) (e : Entry) → IsUpTo b e → IsUpTo (b + 1) e
up_to_more b Nothing u = tt
up_to_more b (Least l h c) u = omega (arith, u)

module _ (trees : List Part) (table : List Entry) (queue found new : List Candidate) (x : Candidate) (users : Users) where
  pub stands_more :
      IsSearchState trees table queue → IsFound (form_at trees) table x found → AreUsers trees users → x.length ≤ top → Keeps found new →
      ((k : ℕ) → Uses users x.number k → IsOffered (form_at trees) (entry_at (set table x.number (Least x.length x.height 0))) x.number k new) →
      IsSearchState trees (set table x.number (Least x.length x.height 0)) new
  stands_more s f are range keeps offers =
      let e = Least x.length x.height 0 in
      let after = set table x.number e in
      let at = entry_at table in
      let next = entry_at after in
      let is : next x.number ≡ e = get_or-set_same table x.number e Nothing f.is_given.within in
      let others : (n : ℕ) → (n ≡ x.number → ⊥) → next n ≡ at n = λ n ne. get_or-set_other table x.number n e Nothing ne in
      let was : at x.number ≡ Nothing = f.is_given.waits in
      let each : (P : Entry → Type 0) → P e → ((n : ℕ) → P (at n)) → (n : ℕ) → P (next n) =
      λ P pe all n. ⊎_elim (λ same. subst P (sym (ap next same ∙ is)) pe) (λ other. subst P (sym (others n other)) (all n)) (cases_eq n x.number) in
      let up : x.height ≤ s.height + 1 = subst (IsUpTo (s.height + 1)) f.is_given.given (given_up s.height at s.heights (form_at trees x.number)) in
      let fewer : unsettled after + 1 ≡ unsettled table = settle_one table x.number x.length x.height 0 f.is_given.within was in
      let long : length after ≡ length table = length-set table x.number e in
      record {
        one_each = long ∙ s.one_each;
        small = subst (λ n. n < 2 ^ 63) (sym long) s.small;
        settled = settled_more (form_at trees) at next x.number x.length x.height 0 f.is_given.choice s.settled was others is range f.is_given.given f.first;
        unchosen = each IsUnchosen refl s.unchosen;
        lengths = each InRange range s.lengths;
        height = s.height + 1;
        heights = each (IsUpTo (s.height + 1)) up (λ n. up_to_more s.height (at n) (s.heights n));
        low = let low = s.low in omega (arith, low);
        waiting = λ k l h d waits given.
            ⊎_elim
            (λ same. absurd (nothing_least x.length x.height 0 (sym waits ∙ ap next same ∙ is)))
            (λ apart.
            let waited : at k ≡ Nothing = sym (others k apart) ∙ waits in
            ⊎_elim
            (λ a.
            let within : x.number < length users.starts.items = omega (arith, are.one_each, s.one_each, f.is_given.within) in
            let off = offers k (are.each k x.number a within) in
            ⊎_elim
            (λ now. off l h now.0 waits now.1)
            (λ old. keeps (candidate l h k) (f.others k l h old.0 apart waited old.1))
            (offered_is at next x.number was others (form_at trees k) l h d given))
            (λ unneeded. keeps (candidate l h k) (f.others k l h d apart waited (sym (given_same at next x.number was others (form_at trees k) unneeded) ∙ given)))
            (among x.number (needs (form_at trees k))))
            (cases_eq k x.number);
      }

up_to_weaker : (a b : ℕ) (e : Entry) → a ≤ b → IsUpTo a e → IsUpTo b e
up_to_weaker a b Nothing le u = tt
up_to_weaker a b (Least l h c) le u = omega (arith, u)

-- heights are far from the greatest number
pub room : (trees : List Part) (table : List Entry) (queue : List Candidate) → IsSearchState trees table queue → HasRoomAbove table
room trees table queue s n =
    up_to_weaker s.height 18446744073709551614 (entry_at table n) (let low = s.low in let small = s.small in omega arith) (s.heights n)

empty_at : (table : List Entry) → ((n : ℕ) → entry_at table n ≡ Nothing) → unsettled table ≤ length table
empty_at [] none = omega arith
empty_at (Nothing ∷ table) none = omega (arith, empty_at table (λ n. none (suc n)))
empty_at (Least l h c ∷ table) none = omega (arith, empty_at table (λ n. none (suc n)))

-- how it stands at the start
pub stands_first :
    (trees : List Part) (table : List Entry) (queue : List Candidate) → length table ≡ length (parts_of trees) → length table < 2 ^ 63 →
    ((n : ℕ) → entry_at table n ≡ Nothing) → AllWait (form_at trees) (entry_at table) queue → IsSearchState trees table queue
stands_first trees table queue one_each small none waiting =
    record {
      one_each = one_each;
      small = small;
      settled = none_settled (form_at trees) (entry_at table) none;
      unchosen = λ n. subst IsUnchosen (sym (none n)) tt;
      lengths = λ n. subst InRange (sym (none n)) tt;
      height = 0;
      heights = λ n. subst (IsUpTo 0) (sym (none n)) tt;
      low = let e = empty_at table none in omega arith;
      waiting = waiting;
    }

-- and once one more is settled
pub room_more :
    (trees : List Part) (table : List Entry) (queue found : List Candidate) (x : Candidate) → IsSearchState trees table queue → IsFound (form_at trees) table x found →
    HasRoomAbove (set table x.number (Least x.length x.height 0))
room_more trees table queue found x s f n =
    let e = Least x.length x.height 0 in
    let is : entry_at (set table x.number e) x.number ≡ e = get_or-set_same table x.number e Nothing f.is_given.within in
    let up : x.height ≤ s.height + 1 = subst (IsUpTo (s.height + 1)) f.is_given.given (given_up s.height (entry_at table) s.heights (form_at trees x.number)) in
    let low = s.low in
    let small = s.small in
    ⊎_elim
    (λ same. subst (IsUpTo 18446744073709551614) (sym (ap (entry_at (set table x.number e)) same ∙ is)) (let le : x.height ≤ 18446744073709551614 = omega arith in le))
    (λ other. subst (IsUpTo 18446744073709551614) (sym (get_or-set_other table x.number n e Nothing other)) (room trees table queue s n))
    (cases_eq n x.number)

pub none_at : (n m : ℕ) → entry_at (replicate n Nothing) m ≡ Nothing
none_at zero m = refl
none_at (suc n) zero = refl
none_at (suc n) (suc m) = none_at n m

-- where no part is given an entry any more, nothing waits
pub stands_done : (trees : List Part) (table : List Entry) (queue : List Candidate) → IsSearchState trees table queue → IsExhausted (form_at trees) (entry_at table) → IsSearchState trees table []
stands_done trees table queue s done =
    record {
      one_each = s.one_each;
      small = s.small;
      settled = s.settled;
      unchosen = s.unchosen;
      lengths = s.lengths;
      height = s.height;
      heights = s.heights;
      low = s.low;
      waiting = λ k l h d waits given. absurd (nothing_least l h d (sym (done k waits) ∙ given));
    }

pub stands_at_start :
    (trees : List Part) (table : List Entry) (queue : List Candidate) (n : ℕ) → table ≡ replicate n Nothing → n ≡ length (parts_of trees) → n < 2 ^ 63 →
    AllWait (form_at trees) (entry_at table) queue → IsSearchState trees table queue
stands_at_start trees table queue n is count small waiting =
    let long : length table ≡ n = ap length is ∙ length-replicate n Nothing in
    stands_first trees table queue (long ∙ count) (subst (λ k. k < 2 ^ 63) (sym long) small) (λ m. ap (λ t. entry_at t m) is ∙ none_at n m) waiting
