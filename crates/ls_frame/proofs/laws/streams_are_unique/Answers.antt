use Rattle.std.proofs.Common.{refl, []}
use Rattle.ls_frame.proofs.Streams.{none_yet}
use Rattle.ls_frame.proofs.Unique.{stream_front, rest_alone}
use Rattle.ls_frame.proofs.Wholes.{fault_no_frame}
use Rattle.ls_frame.proofs.laws.streams_are_unique.Goals as goal

pub returns-clause-front : goal.returns-clause-front
returns-clause-front c = stream_front

pub returns-clause-alone : goal.returns-clause-alone
returns-clause-alone c = rest_alone

pub returns-clause-faulty : goal.returns-clause-faulty
returns-clause-faulty c = fault_no_frame

pub returns-clause-start : goal.returns-clause-start
returns-clause-start c = record {
  rest = [];
  stream = record { frames = []; whole = refl; bytes_are = refl; partial = none_yet };
  fault = refl;
  keeps = λ e. refl;
}
