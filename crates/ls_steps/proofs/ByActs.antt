-- What is said on messages is what a run by acts writes.
use Rattle.std.proofs.Common.{ℕ, zero, suc, Bool, List, [], ◌∷◌, ◌++◌, refl, sym, subst, ap, ◌∙◌, append_assoc}
use Rattle.ls_steps.specs.Runs.{Act, Going, Runs, hear, send}
use Rattle.ls_steps.specs.Plain.{AreServing, RunsUntil, Says, Serves, has_run_all, has_sent_all, job_acts, many_times}

-- one run behind another
pub runs_append : (f : Bool) (g m h : Going) (xs ys : List Act) (a b : List ℕ) → Runs f g xs m a → Runs f m ys h b → Runs f g (xs ++ ys) h (a ++ b)
unfolding Runs
runs_append f g m h [] ys a b p q = subst (λ l. Runs f g ys h (l ++ b)) (sym p.1) (subst (λ x. Runs f x ys h b) p.0 q)
runs_append f g m h (x ∷ xs) ys a b p q =
    (p.0, p.1, p.2 ++ b, (p.3.0, runs_append f p.0 m h xs ys p.2 b p.3.1 q, ap (λ l. l ++ b) p.3.2 ∙ append_assoc p.1 p.2 b))

until_runs : (f : Bool) (is_done : Going → Bool) (acts : List Act) (n : ℕ) (g h : Going) (bytes : List ℕ) → RunsUntil f is_done acts n g h bytes → Runs f g (many_times n acts) h bytes
unfolding Runs RunsUntil
until_runs f is_done acts zero g h bytes w = (w.1, w.2)
until_runs f is_done acts (suc n) g h bytes w =
    let x = w.1 in
    subst (Runs f g (acts ++ many_times n acts) h) (sym x.3.2) (runs_append f g x.0 h acts (many_times n acts) x.1 x.2 x.3.0 (until_runs f is_done acts n x.0 h x.2 x.3.1))

-- a message, and then a run
serves_runs : (f : Bool) (g m h : Going) (body now later : List ℕ) (acts : List Act) (s : Serves f g body m now) → Runs f m acts h later
    → Runs f g (hear body ∷ many_times s.hears.jobs job_acts ++ (many_times s.replies (send ∷ []) ++ acts)) h (now ++ later)
unfolding Runs
serves_runs f g m h body now later acts s r =
    let x = s.hears in
    let works = until_runs f has_run_all job_acts x.jobs x.heard s.worked [] x.works in
    let sends = until_runs f has_sent_all (send ∷ []) s.replies s.worked m now s.sends in
    let behind = runs_append f s.worked m h (many_times s.replies (send ∷ [])) acts now later sends r in
    let all = runs_append f x.heard s.worked h (many_times x.jobs job_acts) (many_times s.replies (send ∷ []) ++ acts) [] (now ++ later) works behind in
    (x.heard, [], now ++ later, (x.hears, all, refl))

pub says_runs : (f : Bool) (g h : Going) (bodies : List (List ℕ)) (bytes : List ℕ) → Says f g bodies h bytes → (acts : List Act) × AreServing bodies acts × Runs f g acts h bytes
unfolding Says AreServing Runs
says_runs f g h [] bytes s = ([], refl, s)
says_runs f g h (body ∷ bodies) bytes s =
    let x = s.3.0 in
    let rest = says_runs f s.0 h bodies s.2 s.3.1 in (
      hear body ∷ many_times x.hears.jobs job_acts ++ (many_times x.replies (send ∷ []) ++ rest.0),
      (x.hears.jobs, x.replies, rest.0, (rest.1, refl)),
      subst (Runs f g (hear body ∷ many_times x.hears.jobs job_acts ++ (many_times x.replies (send ∷ []) ++ rest.0)) h) (sym s.3.2) (serves_runs f g s.0 h body s.1 s.2 rest.0 x rest.2),
    )
