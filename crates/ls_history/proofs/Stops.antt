-- How a board has ended, entry by entry.
use Rattle.std.proofs.Common.{◌≡◌, ◌∙◌, ◌++◌, ◌∷◌, [], List, true, Option, Some, None, refl, ap, sym}
use Rattle.std.specs.Prelude.{is_some}
use Rattle.ls_history.specs.declared.history_entry.HistoryEntry.{HistoryEntry}
use Rattle.ls_history.specs.declared.history_entry.HistoryEntry.TheVariants.{Began, Heard, Left, Stopped, Worked}
use Rattle.ls_history.specs.declared.history_entry.Stop.{Stop}
use Rattle.ls_history.specs.declared.history_entry.Stop.TheVariants.{Drain, Now}
use Rattle.ls_history.specs.Ends.{ended_by, ended_with, is_over, stop_from, stop_of}
use Rattle.ls_history.specs.Laws.{EndsStay}

stop_goes : (before : Option Stop) (xs ys : List HistoryEntry) → stop_from before (xs ++ ys) ≡ stop_from (stop_from before xs) ys
stop_goes before [] ys = refl
stop_goes before (x ∷ xs) ys = stop_goes (ended_with before x) xs ys

-- with an entry more
pub stop_more : (log new : List HistoryEntry) (h : HistoryEntry) → new ≡ log ++ h ∷ [] → stop_of new ≡ ended_with (stop_of log) h
stop_more log new h added = ap stop_of added ∙ stop_goes None log (h ∷ [])

some_by : (before : Option Stop) (stop : Stop) → is_some (ended_by before stop) ≡ true
some_by None stop = refl
some_by (Some Drain) stop = refl
some_by (Some Now) stop = refl

some_with : (before : Option Stop) (h : HistoryEntry) → is_some before ≡ true → is_some (ended_with before h) ≡ true
some_with before (Began most) some = some
some_with before (Heard e reply) some = some
some_with before (Left out) some = some
some_with before (Worked event) some = some
some_with before (Stopped stop) some = some_by before stop

some_from : (before : Option Stop) (xs : List HistoryEntry) → is_some before ≡ true → is_some (stop_from before xs) ≡ true
some_from before [] some = some
some_from before (x ∷ xs) some = some_from (ended_with before x) xs (some_with before x some)

now_with : (h : HistoryEntry) → ended_with (Some Now) h ≡ Some Now
now_with (Began most) = refl
now_with (Heard e reply) = refl
now_with (Left out) = refl
now_with (Worked event) = refl
now_with (Stopped stop) = refl

now_from : (xs : List HistoryEntry) → stop_from (Some Now) xs ≡ Some Now
now_from [] = refl
now_from (x ∷ xs) = ap (λ (before : Option Stop). stop_from before xs) (now_with x) ∙ now_from xs

now_is : (before : Option Stop) → is_over before ≡ true → before ≡ Some Now
now_is None over = absurd (cc (over))
now_is (Some Drain) over = absurd (cc (over))
now_is (Some Now) over = refl

over_from : (before : Option Stop) (xs : List HistoryEntry) → is_over before ≡ true → stop_from before xs ≡ before
over_from before xs over =
    let now = now_is before over in ap (λ (b : Option Stop). stop_from b xs) now ∙ (now_from xs ∙ sym now)

pub stays : EndsStay
stays xs ys =
    let goes = stop_goes None xs ys in (
      λ some. ap is_some goes ∙ some_from (stop_of xs) ys some,
      λ over. goes ∙ over_from (stop_of xs) ys over,
    )
