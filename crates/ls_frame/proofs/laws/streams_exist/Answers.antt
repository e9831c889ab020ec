use Rattle.ls_frame.proofs.Exist.{some_stream}
use Rattle.ls_frame.proofs.laws.streams_exist.Goals as goal

pub returns : goal.returns
returns c = some_stream
