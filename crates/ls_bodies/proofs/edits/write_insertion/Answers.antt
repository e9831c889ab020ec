use Rattle.ls_bodies.proofs.edits.write_insertion.Goals as goal

pub returns : goal.returns
returns g c = rw (c.as_str.ensures, c.empty_range.ensures) at c.write_workspace_edit.ensures
