-- The entries for which replies stand.
use Rattle.std.specs.Prelude.{ℕ, ℤ, List, Option, Some, None, true}
use Rattle.ls_answers.specs.Told.{Told}
use Rattle.ls_machine.specs.declared.event.Out.{Out}
use Rattle.ls_machine.specs.declared.event.Out.TheVariants.{Said, Replied, Failed, Findings}
use Rattle.ls_machine.specs.declared.state.OutboxEntry.{OutboxEntry}
use Rattle.ls_machine.specs.declared.state.OutboxEntry.TheVariants.{Body, Failure, Outcome}
use Rattle.ls_machine.specs.declared.state.Request.{Request}
use Rattle.ls_machine.specs.declared.state.Waiting.{Waiting}

-- the job that has run, by what its reply carries and by the run; it was taken
abbrev pub job_of_run : List ℕ → ℕ → ℤ → Option Request → Told → Waiting
job_of_run uri version label request done = record {
  ticket = done.ticket;
  ask = done.ask;
  uri = uri;
  version = version;
  label = label;
  text = done.text;
  encoding = done.encoding;
  request = request;
  taken = true;
}

-- the entry of a state for which a reply stands
abbrev pub entry_for : Out → OutboxEntry
entry_for (Said body) = Body body
entry_for (Failed ticket id code) = Failure ticket id code
entry_for (Replied id uri version label links done) = Outcome (job_of_run uri version label (Some (record { id = id; links = links })) done)
entry_for (Findings uri version label done) = Outcome (job_of_run uri version label None done)
