-- How a run ends, by what its session met and what the framer has.
use Rattle.std.specs.Prelude.{◌+◌, ◌==◌, ◌||◌, ℕ, Bool, true, List, [], ◌∷◌, Option, None, Some}
use Rattle.ls_frame.specs.declared.fault.FrameFault.{FrameFault}
use Rattle.ls_frame.specs.declared.fault.FrameFault.TheVariants.{Truncated}
use Rattle.ls_session.specs.declared.turn.Status.{Status}
use Rattle.ls_session.specs.declared.turn.Status.TheVariants.{BadFrame, Unclean}
use Rattle.ls_devices.specs.declared.reading.ReaderEnd.{ReaderEnd}
use Rattle.ls_devices.specs.declared.reading.ReaderEnd.TheVariants.{Failed}

-- the status where no exit comes before the end of the input, by the framing fault that was met, and by what stands behind the last frame:
-- a frame that is cut short, or nothing
abbrev pub end_status : Option FrameFault → List ℕ → Status
end_status (Some fault) rest = BadFrame fault
end_status None [] = Unclean
end_status None (b ∷ rest) = BadFrame Truncated

-- the status that the session met, else that of the fault; none where there is neither
abbrev pub status_or : Option Status → Option FrameFault → Option Status
status_or (Some status) fault = Some status
status_or None None = None
status_or None (Some fault) = Some (BadFrame fault)

-- Where reading failed, the source has failed or was read one time less than this many.
abbrev pub has_cause : {F : Type 0} → ReaderEnd F → Bool → ℕ → ℕ → Bool
has_cause Failed failed reads most = failed || (reads + 1 == most)
has_cause _ failed reads most = true
