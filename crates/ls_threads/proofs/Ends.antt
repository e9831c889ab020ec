-- What an answer says of how the threads ended.
use Rattle.std.proofs.Common.{◌≡◌, ◌∙◌, Bool, true, false, not, IfOk, Result, Ok, Err, refl, sym, if◌then◌else◌}
use Rattle.ls_session.specs.declared.turn.Status.{Status}
use Rattle.ls_session.specs.declared.turn.Status.TheVariants.{Full}
use Rattle.ls_devices.specs.declared.fault.ServeFault.{ServeFault}
use Rattle.ls_threads.specs.Ends.{has_failed, has_met_full_session, has_strayed, has_ended_itself, is_read, lacked_memory, result_of, readers_status}
use Rattle.ls_threads.specs.declared.ending.Early.TheVariants as early
use Rattle.ls_devices.specs.declared.reading.ReaderEnd.{ReaderEnd}
use Rattle.ls_threads.specs.declared.ending.Early.{Early}
use Rattle.ls_devices.specs.declared.reading.ReaderEnd.TheVariants as reader
use Rattle.ls_threads.specs.declared.ending.Worked.{Worked}
use Rattle.ls_threads.specs.declared.ending.Wrote.{Wrote}
use Rattle.ls_threads.specs.declared.ending.Wrote.TheVariants.{All, Failed, Memory}

pub if_ok : {P : Status → Type 0} (r : Result Status ServeFault) → ((s : Status) → r ≡ Ok s → P s) → IfOk r P
if_ok (Ok s) f = f s refl
if_ok (Err e) f = tt

-- what a status that is answered says of the causes that come before it
pub record Shows (read failed strayed lacked settled full : Bool) (last status : Status) : Type 0 where
  pub not_read : read ≡ false
  pub not_failed : failed ≡ false
  pub not_lacked : lacked ≡ false
  pub is_settled : settled ≡ true
  pub is_full : full ≡ true → status ≡ Full
  pub is_last : full ≡ false → status ≡ last

abbrev answer : Bool → Bool → Bool → Bool → Bool → Bool → ServeFault → ServeFault → ServeFault → ServeFault → Status → Result Status ServeFault
answer read failed strayed lacked settled full a b c d last =
    if read then Err a else if failed then Err b else if strayed then Err c else if lacked then Err d else if not settled then Err c else if full then Ok Full else Ok last

-- an error is no status
err_ok : {P : Type 0} (e : ServeFault) (s : Status) → Err e ≡ Ok s → P
err_ok e s q = absurd (cc)

same_ok : (r : Result Status ServeFault) (a b : Status) → r ≡ Ok a → r ≡ Ok b → b ≡ a
same_ok r a b p q = cc

pub true_false : {P : Type 0} → true ≡ false → P
true_false e = absurd (cc)

pub false_true : {P : Type 0} → false ≡ true → P
false_true e = absurd (cc)

shows : (read failed strayed lacked settled full : Bool) (a b c d : ServeFault) (last s : Status) → answer read failed strayed lacked settled full a b c d last ≡ Ok s
    → Shows read failed strayed lacked settled full last s
shows true failed strayed lacked settled full a b c d last s e = err_ok a s e
shows false true strayed lacked settled full a b c d last s e = err_ok b s e
shows false false true lacked settled full a b c d last s e = err_ok c s e
shows false false false true settled full a b c d last s e = err_ok d s e
shows false false false false false full a b c d last s e = err_ok c s e
shows false false false false true true a b c d last s e = record {
  not_read = refl;
  not_failed = refl;
  not_lacked = refl;
  is_settled = refl;
  is_full = λ q. same_ok (Ok Full) Full s refl e;
  is_last = λ q. true_false q;
}
shows false false false false true false a b c d last s e = record {
  not_read = refl;
  not_failed = refl;
  not_lacked = refl;
  is_settled = refl;
  is_full = λ q. false_true q;
  is_last = λ q. same_ok (Ok last) last s refl e;
}

-- of an answered status
pub ok_shows : (h : ReaderEnd Early) (w : Wrote) (k : Worked) (settled : Bool) (s : Status) → result_of h w k true settled ≡ Ok s
    → Shows (is_read h) (has_failed w) (has_strayed k) (lacked_memory h w k) settled (has_met_full_session h k) (readers_status h) s
ok_shows h w k settled s e = shows (is_read h) (has_failed w) (has_strayed k) (lacked_memory h w k) settled (has_met_full_session h k) _ _ _ _ (readers_status h) s e

lacks : (h : ReaderEnd Early) (k : Worked) → lacked_memory h Memory k ≡ true
lacks (reader.Ended s) k = refl
lacks reader.Failed k = refl
lacks (reader.Broken early.Full) k = refl
lacks (reader.Broken early.Memory) k = refl
lacks (reader.Broken early.Halted) k = refl

-- where the writer failed or lacked memory, no status is answered
pub all_is_written : (h : ReaderEnd Early) (w : Wrote) (k : Worked) (settled : Bool) (s : Status) → result_of h w k true settled ≡ Ok s → w ≡ All
all_is_written h All k settled s e = refl
all_is_written h Failed k settled s e = let shown = ok_shows h Failed k settled s e in true_false shown.not_failed
all_is_written h Memory k settled s e = let shown = ok_shows h Memory k settled s e in true_false (sym (lacks h k) ∙ shown.not_lacked)

-- where the reader ended by itself
pub ended_is : (h : ReaderEnd Early) → has_ended_itself h ≡ true → h ≡ reader.Ended (readers_status h)
ended_is (reader.Ended s) e = refl
ended_is reader.Failed e = false_true e
ended_is (reader.Broken x) e = false_true e
