-- The users of parts, listed one after the other.
use Rattle.std.proofs.Common.{◌≡◌, ℕ, ◌+◌, ◌^◌, ◌<◌, ◌≤◌, ◌⊎◌, inl, inr, ⊎_elim, List, [], ◌∷◌, ◌++◌, length, refl, sym, ap, ◌∙◌, subst, arith, take, get_or, set, get_or-set_same, get_or-set_other}
use Rattle.std.proofs.lemmas.List.{length-set, take_more, take_all}
use Rattle.std.proofs.lemmas.Bool.{cases_lt, cases_eq}
use Rattle.abnf_parts.specs.Part.{Part, parts_of}
use Rattle.abnf_least.specs.own.Form.{Form, needs}
use Rattle.abnf_least.specs.declared.users.Link.{Link}
use Rattle.abnf_least.specs.declared.users.Users.{Users}
use Rattle.abnf_least.specs.own.Search.{Among, form_at}
use Rattle.abnf_least.specs.own.Users.{Reaches, Uses, AddsUser, AddsEach, AreUsers}
use Rattle.abnf_least.proofs.Chains.{reached_alone, reached_last, reached_on, reached_still, ends_at}
use Rattle.abnf_least.proofs.At.{past_form}

-- What changes where the users of a part begin at another place: those of other parts stay.
adds_at :
    (old new : Users) (part user place : ℕ) → part < length old.starts.items → new.starts.items ≡ set old.starts.items part place →
    ((n k : ℕ) → Reaches old.links.items n k → Reaches new.links.items n k) → ((k : ℕ) → Uses old part k → Reaches new.links.items place k) → Reaches new.links.items place user →
    AddsUser old part user new
adds_at old new part user place within is still on joins =
    let starts = old.starts.items in
    let first : get_or new.starts.items part 0 ≡ place = ap (λ xs. get_or xs part 0) is ∙ get_or-set_same starts part place 0 within in
    let here : (k : ℕ) → Reaches new.links.items place k → Uses new part k = λ k r. subst (λ n. Reaches new.links.items n k) (sym first) r in
    record {
      one_each = ap length is ∙ length-set starts part place;
      kept = λ m k uses.
          ⊎_elim
          (λ same. subst (λ n. Uses new n k) (sym same) (here k (on k (subst (λ n. Uses old n k) same uses))))
          (λ other. subst (λ n. Reaches new.links.items n k) (sym (ap (λ xs. get_or xs m 0) is ∙ get_or-set_other starts part m place 0 other)) (still (get_or starts m 0) k uses))
          (cases_eq m part);
      joins = λ _. here user joins;
    }

-- the only user
pub adds_first :
    (old new : Users) (part user place : ℕ) → part < length old.starts.items → get_or old.starts.items part 0 ≡ 0 → place < 2 ^ 31 → place ≡ user + 1 →
    new.links.items ≡ old.links.items → new.starts.items ≡ set old.starts.items part place → AddsUser old part user new
adds_first old new part user place within none low is links_are starts_are =
    adds_at old new part user place within starts_are (λ n k r. subst (λ ls. Reaches ls n k) (sym links_are) r)
    (λ k uses. absurd (ends_at old.links.items (get_or old.starts.items part 0) (inl none) uses.0 k uses.1))
    (reached_alone new.links.items place user low is)

-- one more link, which leads to where the part's users began
pub adds_link :
    (old new : Users) (part user : ℕ) (link : Link) (place : ℕ) → part < length old.starts.items → link.user ≡ user → link.next ≡ get_or old.starts.items part 0 → place ≡ 2 ^ 31 + length old.links.items →
    new.links.items ≡ old.links.items ++ link ∷ [] → new.starts.items ≡ set old.starts.items part place → AddsUser old part user new
adds_link old new part user link place within same next is links_are starts_are =
    let links = old.links.items in
    let move : (n k : ℕ) → Reaches (links ++ link ∷ []) n k → Reaches new.links.items n k = λ n k r. subst (λ ls. Reaches ls n k) (sym links_are) r in
    adds_at old new part user place within starts_are (λ n k r. move n k (reached_still links link n k r))
    (λ k uses. move place k (reached_on links link place k is (subst (λ n. Reaches links n k) (sym next) uses)))
    (move place user (subst (λ k. Reaches (links ++ link ∷ []) place k) same (reached_last links link place is)))

pub adds_past : (old : Users) (part user : ℕ) → length old.starts.items ≤ part → AddsUser old part user old
adds_past old part user past =
    record { one_each = refl; kept = λ m k uses. uses; joins = λ within. absurd (omega arith) }

pub adds_none : (old : Users) (user : ℕ) → AddsEach old [] user old
adds_none old user = record { one_each = refl; kept = λ m k uses. uses; joins = λ m a _. absurd a }

among_last : (m : ℕ) (xs : List ℕ) (x : ℕ) → Among m (xs ++ x ∷ []) → Among m xs ⊎ (m ≡ x)
among_last m [] x a = ⊎_elim (λ e. inr e) (λ b. absurd b) a
among_last m (y ∷ xs) x a = ⊎_elim (λ e. inl (inl e)) (λ b. ⊎_elim (λ c. inl (inr c)) (λ d. inr d) (among_last m xs x b)) a

pub adds_more : (old mid new : Users) (parts : List ℕ) (i user : ℕ) → i < length parts → AddsEach old (take i parts) user mid → AddsUser mid (get_or parts i 0) user new → AddsEach old (take (i + 1) parts) user new
adds_more old mid new parts i user within front one =
    record {
      one_each = one.one_each ∙ front.one_each;
      kept = λ m k uses. one.kept m k (front.kept m k uses);
      joins = λ m a inside.
          ⊎_elim
          (λ b. one.kept m user (front.joins m b inside))
          (λ e. subst (λ n. Uses new n user) (sym e) (one.joins (let f = front.one_each in let g : m ≡ get_or parts i 0 = e in omega arith)))
          (among_last m (take i parts) (get_or parts i 0) (subst (λ xs. Among m xs) (take_more parts i 0 within) a));
    }

pub adds_all : (old new : Users) (parts : List ℕ) (i user : ℕ) → length parts ≤ i → AddsEach old (take i parts) user new → AddsEach old parts user new
adds_all old new parts i user past all = subst (λ xs. AddsEach old xs user new) (take_all i parts past) all

pub adds_single : (old new : Users) (part user : ℕ) → AddsUser old part user new → AddsEach old (part ∷ []) user new
adds_single old new part user one =
    record {
      one_each = one.one_each;
      kept = one.kept;
      joins = λ m a inside. ⊎_elim (λ e. subst (λ n. Uses new n user) (sym e) (one.joins (subst (λ n. n < length old.starts.items) e inside))) (λ b. absurd b) a;
    }

-- the users among the first parts
pub record Listed (trees : List Part) (users : Users) (count : ℕ) : Type 0 where
  pub one_each : length users.starts.items ≡ length (parts_of trees)
  pub each : (k m : ℕ) → k < count → Among m (needs (form_at trees k)) → m < length users.starts.items → Uses users m k

pub listed_none : (trees : List Part) (users : Users) → length users.starts.items ≡ length (parts_of trees) → Listed trees users 0
listed_none trees users e = record { one_each = e; each = λ k m below. absurd (omega arith) }

pub listed_more : (trees : List Part) (old new : Users) (count : ℕ) (form : Form) → Listed trees old count → form_at trees count ≡ form → AddsEach old (needs form) count new → Listed trees new (count + 1)
listed_more trees old new count form l is adds =
    record {
      one_each = adds.one_each ∙ l.one_each;
      each = λ k m below a inside.
          let inside' : m < length old.starts.items = let e = adds.one_each in omega arith in
          ⊎_elim
          (λ less. adds.kept m k (l.each k m less a inside'))
          (λ ge.
          let e : k ≡ count = omega arith in
          subst (λ n. Uses new m n) (sym e) (adds.joins m (subst (λ f. Among m (needs f)) (ap (form_at trees) e ∙ is) a) inside'))
          (cases_lt k count);
    }

pub listed_all : (trees : List Part) (users : Users) (count : ℕ) → Listed trees users count → length (parts_of trees) ≤ count → AreUsers trees users
listed_all trees users count l all =
    record {
      one_each = l.one_each;
      each = λ k m a inside.
          ⊎_elim
          (λ less. l.each k m less a inside)
          (λ ge. absurd (subst (λ f. Among m (needs f)) (past_form trees k (omega arith)) a))
          (cases_lt k count);
    }
