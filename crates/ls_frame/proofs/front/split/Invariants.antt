use Rattle.std.proofs.Common.{◌-◌, ◌≤◌, length, take}
use Rattle.ls_frame.specs.Frames.{Frames}
use Rattle.ls_frame.specs.Feeds.{contents_of}
use Rattle.ls_frame.proofs.front.split.Given as goal

abbrev pub invariant-frames : goal.invariant-frames
invariant-frames l = record { within : l.at ≤ length l.bytes; frames : Frames (take l.at l.bytes) (contents_of l.found.items) }

abbrev pub decreases-frames : goal.decreases-frames
decreases-frames l = length l.bytes - l.at
