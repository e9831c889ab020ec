use Rattle.ls_machine.proofs.copies.state_of.Goals as goal

pub returns : goal.returns
returns c = λ i. record {
  documents = c.in_ok-documents_copy.ensures i;
  waiting = c.in_ok-waiting_copy.ensures i;
  unsent = c.in_ok-entries_for.ensures i;
  next_version = c.args.next_version;
  next_ticket = c.args.next_ticket;
}
