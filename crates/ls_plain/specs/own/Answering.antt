-- How messages are answered.
use Rattle.std.specs.Prelude.{◌≡◌, ◌||◌, ℕ, Bool, true, false, List, [], ◌∷◌, Option, Result, Ok, Err}
use Rattle.ls_steps.specs.Runs.{Going, begun}
use Rattle.ls_steps.specs.Plain.{Says}
use Rattle.ls_session.specs.declared.turn.Status.{Status}
use Rattle.ls_plain.specs.Runs.{Written, WrittenPrefix, is_write}
use Rattle.ls_devices.specs.declared.fault.ServeFault.{ServeFault}
use Rattle.ls_devices.specs.declared.fault.ServeFault.TheVariants.{Read, Write, Strayed, Memory}

-- The session has come to this state by messages (`Says`), from the beginning.
abbrev pub WasServed : Going → Type 0
WasServed state = (bodies : List (List ℕ)) × (bytes : List ℕ) × Says true begun bodies state bytes

-- From a state the contents are answered: what the result says, what the state is then, and what is written. After a fault that is a prefix
-- of what is said on the first of them.
abbrev pub AnswersIs : Going → List (List ℕ) → Option (List ℕ) → Result (Option Status) ServeFault → Going → Option (List ℕ) → Type 0
AnswersIs state contents old (Ok status) after new = (after.status ≡ status) × Written state contents after old new
AnswersIs state contents old (Err Read) after new = ⊥
AnswersIs state contents old (Err Write) after new = WrittenPrefix state contents old new
AnswersIs state contents old (Err Strayed) after new = ⊥
AnswersIs state contents old (Err Memory) after new = WrittenPrefix state contents old new

-- where a run stands between two messages: its session, what is written, whether the sink has failed, and whether it holds bytes back
pub record Standing : Type 0 where
  pub talk : Going
  pub written : Option (List ℕ)
  pub has_failed : Bool
  pub holds : Bool

-- it, by its parts
abbrev pub standing_of : Going → Option (List ℕ) → Bool → Bool → Standing
standing_of talk written has_failed holds = record { talk = talk; written = written; has_failed = has_failed; holds = holds }

-- A message is answered whole. The sink doesn't fail, and holds nothing back that it didn't before.
abbrev pub Answers : List ℕ → Standing → Option Status → Standing → Type 0
Answers body at status next = AnswersIs at.talk (body ∷ []) at.written (Ok status) next.talk next.written × (next.has_failed ≡ at.has_failed) × (at.holds ≡ false → next.holds ≡ false)

-- The answer to a message is broken off. The sink has failed where a write did, and else holds nothing back that it didn't before.
abbrev pub AnswersPart : List ℕ → Standing → ServeFault → Standing → Type 0
AnswersPart body at fault next = AnswersIs at.talk (body ∷ []) at.written (Err fault) next.talk next.written
    × (next.has_failed ≡ (at.has_failed || is_write {A = Option Status} (Err fault)))
    × (is_write {A = Option Status} (Err fault) ≡ false → at.holds ≡ false → next.holds ≡ false)
