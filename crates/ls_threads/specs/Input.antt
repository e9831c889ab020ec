-- What the reader makes of the bytes that it reads.
use Rattle.std.specs.Prelude.{◌≡◌, ℕ, List, Option}
use Rattle.ls_session.specs.declared.session.Stage.{Stage}
use Rattle.ls_devices.specs.Reading.{HearsInput}
use Rattle.ls_devices.specs.declared.reading.ReaderEnd.{ReaderEnd}
use Rattle.ls_threads.specs.Reading.{BreaksOffAt, Hears, HeardReplies}
use Rattle.ls_threads.specs.declared.ending.Early.{Early}
use Rattle.ls_threads.specs.declared.ending.Early.TheVariants.{Memory}

-- What the reader has read of the input, and heard of it, by how it ended: the messages up to an exit or a fault; or all, where the input
-- has ended; or all that came before a read failed; or a prefix of them, where it broke off. The session may be left in any stage.
abbrev pub HasHeard : Option (List ℕ) → Option (List ℕ) → Stage → HeardReplies → ReaderEnd Early → HeardReplies → Type 0
HasHeard input left stage old end new = (after : Stage)
    × HearsInput Hears (λ body at early next. BreaksOffAt body at next) (λ early. early ≡ Memory) input left (stage, old) end (after, new)
