-- What is read of a whole input.
use Rattle.std.proofs.Common.{◌≡◌, ℕ, List, [], Some, None, refl, sym, subst, inl, inr}
use Rattle.std.specs.Prelude.{◌≢◌, ◌⊎◌, Result, Ok, Err, Vec}
use Rattle.std.specs.declared.alloc.Global.{Global}
use Rattle.ls_frame.specs.Frames.{Stream}
use Rattle.ls_frame.specs.Faults.{fault_of}
use Rattle.ls_frame.specs.Feeds.{FeedIs, contents_of}
use Rattle.ls_frame.specs.declared.fault.FrameFault.{FrameFault}
use Rattle.ls_frame.specs.declared.fault.FrameFault.TheVariants.{HeaderTooLong, BadHeader, NoLength, TwoLengths, BadLength, TooLarge, Truncated, Memory}
use Rattle.ls_frame.proofs.Streams.{no_fault}

given_stream : (input kept : List ℕ) (given : List (List ℕ)) → ((contents : List (List ℕ)) × (given ≡ contents) × Stream input contents kept) → Stream input given kept
given_stream input kept given h = let P : List (List ℕ) → Type 0 = λ l. Stream input l kept in subst P (sym h.1) h.2

shown_stream : (input kept : List ℕ) (given : List (List ℕ)) (fault : FrameFault)
    → ((fault_of [] ≡ Some fault) × (kept ≡ []) × (given ≡ []))
    ⊎ ((fault_of [] ≡ None) × (fault_of kept ≡ Some fault) × ((contents : List (List ℕ)) × (given ≡ contents) × Stream input contents kept))
    → Stream input given kept
shown_stream input kept given fault (inl h) = let e = no_fault in let f = h.0 in absurd (cc)
shown_stream input kept given fault (inr h) = given_stream input kept given h.2

fed : (input kept : List ℕ) (given : List (List ℕ)) (r : Result ℕ FrameFault) → r ≢ Err Memory → FeedIs [] input [] r kept given → Stream input given kept
fed input kept given (Ok n) m h = given_stream input kept given (h.2.0, h.2.2, h.2.3)
fed input kept given (Err HeaderTooLong) m h = shown_stream input kept given HeaderTooLong h
fed input kept given (Err BadHeader) m h = shown_stream input kept given BadHeader h
fed input kept given (Err NoLength) m h = shown_stream input kept given NoLength h
fed input kept given (Err TwoLengths) m h = shown_stream input kept given TwoLengths h
fed input kept given (Err BadLength) m h = shown_stream input kept given BadLength h
fed input kept given (Err TooLarge) m h = shown_stream input kept given TooLarge h
fed input kept given (Err Truncated) m h = shown_stream input kept given Truncated h
fed input kept given (Err Memory) m h = absurd (m refl)

-- a framer at the start of a stream takes all of it
pub fed_from : (old : List ℕ) (before : List (Vec ℕ Global)) (input kept : List ℕ) (given : List (List ℕ)) (r : Result ℕ FrameFault)
    → old ≡ [] → before ≡ [] → r ≢ Err Memory → FeedIs old input (contents_of before) r kept given → Stream input given kept
fed_from old before input kept given r o b m h =
    let P : List ℕ → Type 0 = λ l. FeedIs l input (contents_of before) r kept given in
    let Q : List (Vec ℕ Global) → Type 0 = λ vs. FeedIs [] input (contents_of vs) r kept given in
    fed input kept given r m (subst Q b (subst P o h))
