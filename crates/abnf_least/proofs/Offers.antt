-- What users are offered, one after the other.
use Rattle.std.proofs.Common.{◌≡◌, ℕ, ◌+◌, ◌<◌, ◌≤◌, ◌⊎◌, inl, inr, ⊎_elim, List, length, sym, ap, ◌∙◌, subst, arith, Result, Ok, Err}
use Rattle.std.proofs.lemmas.Bool.{cases_lt}
use Rattle.std.specs.Prelude.{OnOk}
use Rattle.std.specs.List.{Contains}
use Rattle.abnf_cert.specs.declared.entry.Entry.{Entry}
use Rattle.abnf_cert.specs.declared.entry.Entry.TheVariants.{Nothing, Least}
use Rattle.abnf_parts.specs.Part.{Part, parts_of}
use Rattle.abnf_least.specs.declared.candidate.Candidate.{Candidate}
use Rattle.abnf_least.specs.declared.users.Link.{Link}
use Rattle.abnf_least.specs.own.Form.{Form, entry_given}
use Rattle.abnf_least.specs.own.Queue.{JoinsQueue}
use Rattle.abnf_least.specs.own.Search.{form_at, offered, IsOffered, IsPushedPart, Keeps, AllWait, candidate}
use Rattle.abnf_least.specs.own.Users.{InChain, Reaches, Leads}
use Rattle.abnf_least.proofs.At.{past_form}
use Rattle.abnf_least.proofs.Queued.{now_there}
use Rattle.abnf_least.proofs.Settle.{nothing_least, same_least}

pub on_ok : {A E : Type 0} (r : Result A E) {P Q : Type 0} → OnOk r P → (P → Q) → OnOk r Q
on_ok (Ok x) p f = f p
on_ok (Err e) p f = tt

pub offered_from : (form : ℕ → Form) (at : ℕ → Entry) (part user : ℕ) (queue : List Candidate) (e : Entry) (f : Form) → form user ≡ f → e ≡ offered at f part → IsPushedPart e user queue → IsOffered form at part user queue
offered_from form at part user queue e f is e_is pushed l h d waits given =
    pushed l h d (e_is ∙ ap (λ x. offered at x part) (sym is) ∙ given)

pub offered_still : (form : ℕ → Form) (at : ℕ → Entry) (part user : ℕ) (old new : List Candidate) → Keeps old new → IsOffered form at part user old → IsOffered form at part user new
offered_still form at part user old new keeps off l h d waits given = keeps (candidate l h user) (off l h d waits given)

-- what joins waits
pub pushed_from : (e : Entry) (l h c n : ℕ) (old new : List Candidate) → e ≡ Least l h c → JoinsQueue old (candidate l h n) new → IsPushedPart e n new
pushed_from e l h c n old new is j a b d given =
    let p = same_least l h c a b d (sym is ∙ given) in
    subst (λ x. Contains new (candidate x b n)) p.0 (subst (λ x. Contains new (candidate l x n)) p.1 (now_there old new (candidate l h n) j))

-- the users that are reached from the first place have been offered, but those that are reached from this one
pub record OffersUpTo (form : ℕ → Form) (at : ℕ → Entry) (part : ℕ) (links : List Link) (first place : ℕ) (old new : List Candidate) : Type 0 where
  pub kept : Keeps old new
  pub each : (k : ℕ) → Reaches links first k → IsOffered form at part k new ⊎ Reaches links place k

pub offers_none : (form : ℕ → Form) (at : ℕ → Entry) (part : ℕ) (links : List Link) (first place : ℕ) (queue : List Candidate) → place ≡ first → OffersUpTo form at part links first place queue queue
offers_none form at part links first place queue is = record { kept = λ y here. here; each = λ k r. inr (subst (λ n. Reaches links n k) (sym is) r) }

pub offers_more :
    (form : ℕ → Form) (at : ℕ → Entry) (part : ℕ) (links : List Link) (first place here next : ℕ) (old mid new : List Candidate) → OffersUpTo form at part links first place old mid →
    Leads links place here next → Keeps mid new → IsOffered form at part here new → OffersUpTo form at part links first next old new
offers_more form at part links first place here next old mid new o leads keeps now =
    record {
      kept = λ y there. keeps y (o.kept y there);
      each = λ k r.
          ⊎_elim
          (λ offered. inl (offered_still form at part k mid new keeps offered))
          (λ left. ⊎_elim (λ e. inl (subst (λ n. IsOffered form at part n new) e now)) (λ on. inr on) (leads k left))
          (o.each k r);
    }

pub offers_all :
    (form : ℕ → Form) (at : ℕ → Entry) (part : ℕ) (links : List Link) (first place : ℕ) (old new : List Candidate) → OffersUpTo form at part links first place old new →
    ((steps k : ℕ) → InChain links steps place k → ⊥) → (k : ℕ) → Reaches links first k → IsOffered form at part k new
offers_all form at part links first place old new o ends k r = ⊎_elim (λ offered. offered) (λ left. absurd (ends left.0 k left.1)) (o.each k r)

-- the first parts wait that are given an entry
abbrev pub WaitUpTo : (ℕ → Form) → (ℕ → Entry) → ℕ → List Candidate → Type 0
WaitUpTo form at count queue = (k l h d : ℕ) → k < count → at k ≡ Nothing → entry_given at (form k) ≡ Least l h d → Contains queue (candidate l h k)

pub wait_more :
    (form : ℕ → Form) (at : ℕ → Entry) (count : ℕ) (old new : List Candidate) (e : Entry) (f : Form) → WaitUpTo form at count old → Keeps old new → form count ≡ f →
    e ≡ entry_given at f → IsPushedPart e count new → WaitUpTo form at (count + 1) new
wait_more form at count old new e f wait keeps is e_is pushed k l h d below none given =
    ⊎_elim
    (λ less. keeps (candidate l h k) (wait k l h d less none given))
    (λ ge.
    let same : k ≡ count = omega arith in
    subst (λ n. Contains new (candidate l h n)) (sym same) (pushed l h d (e_is ∙ ap (entry_given at) (sym is) ∙ ap (λ n. entry_given at (form n)) (sym same) ∙ given)))
    (cases_lt k count)

-- this one is given nothing
pub wait_past :
    (form : ℕ → Form) (at : ℕ → Entry) (count : ℕ) (queue : List Candidate) → WaitUpTo form at count queue → entry_given at (form count) ≡ Nothing → WaitUpTo form at (count + 1) queue
wait_past form at count queue wait nothing k l h d below none given =
    ⊎_elim
    (λ less. wait k l h d less none given)
    (λ ge.
    let same : k ≡ count = omega arith in
    absurd (nothing_least l h d (sym nothing ∙ ap (λ n. entry_given at (form n)) (sym same) ∙ given)))
    (cases_lt k count)

pub wait_all :
    (trees : List Part) (at : ℕ → Entry) (count : ℕ) (queue : List Candidate) → WaitUpTo (form_at trees) at count queue → length (parts_of trees) ≤ count → AllWait (form_at trees) at queue
wait_all trees at count queue wait all k l h d none given =
    ⊎_elim
    (λ less. wait k l h d less none given)
    (λ ge. absurd (nothing_least l h d (sym (ap (entry_given at) (past_form trees k (omega arith))) ∙ given)))
    (cases_lt k count)
