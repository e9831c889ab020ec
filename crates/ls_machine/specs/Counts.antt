-- How many events there are of each kind.
use Rattle.std.specs.Prelude.{◌+◌, ℕ, List, [], ◌∷◌, Bool, true, false}
use Rattle.ls_machine.specs.declared.base.Base.{Base}
use Rattle.ls_machine.specs.declared.base.Counts.{Counts}
use Rattle.ls_machine.specs.declared.event.Event.{Event}
use Rattle.ls_machine.specs.declared.event.Event.TheVariants.{Opened, Changed, Closed, Asked, Cancelled, Said, Took, Returned, Finished, Sent}
use Rattle.ls_machine.specs.Machine.{start}

-- The event is one of the client's.
abbrev pub is_client : Event → Bool
is_client (Opened uri label text encoding version) = true
is_client (Changed uri label edits version) = true
is_client (Closed uri) = true
is_client (Asked id uri ask links ticket) = true
is_client (Cancelled id found) = true
is_client (Said body) = true
is_client _ = false

-- no event of any kind
abbrev pub no_events : Counts
no_events = record { client = 0; took = 0; returned = 0; finished = 0; sent = 0 }

-- the counts with one event more
abbrev pub count_one : Counts → Event → Counts
count_one c (Opened uri label text encoding version) = record c { client = c.client + 1 }
count_one c (Changed uri label edits version) = record c { client = c.client + 1 }
count_one c (Closed uri) = record c { client = c.client + 1 }
count_one c (Asked id uri ask links ticket) = record c { client = c.client + 1 }
count_one c (Cancelled id found) = record c { client = c.client + 1 }
count_one c (Said body) = record c { client = c.client + 1 }
count_one c (Took worker) = record c { took = c.took + 1 }
count_one c (Returned ticket) = record c { returned = c.returned + 1 }
count_one c (Finished ticket failed) = record c { finished = c.finished + 1 }
count_one c (Sent ticket) = record c { sent = c.sent + 1 }

-- the counts with the events of a list more
unfoldable pub counted_with : Counts → List Event → Counts
counted_with c [] = c
counted_with c (e ∷ es) = counted_with (count_one c e) es

-- how many events there are of all kinds together
abbrev pub total : Counts → ℕ
total c = c.client + c.took + c.returned + c.finished + c.sent

-- where a session begins: a base before which nothing has happened
abbrev pub first : Base
first = record { state = start; counts = no_events; checkpoints = 0 }
