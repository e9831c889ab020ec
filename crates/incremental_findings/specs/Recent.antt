-- The texts that were diagnosed last.
use Rattle.std.specs.Prelude.{◌≡◌, ℕ, ◌-◌, ◌<◌, ◌⊎◌, ◌++◌, List, [], ◌∷◌, length, Option, Some, None, nat_lt, remove, slice_index_or, if◌then◌else◌}
use Rattle.incremental_findings.specs.Known.{Known}

-- each with what is found in it, the newest last (none of them is None)
abbrev pub Texts : Type 0
Texts = List (Option Known)

-- One of them was taken, or none. This and what follows say the same of other lists of which the last ones are kept.
abbrev pub IsTaken : {A : Type 0} → List (Option A) → Option A → List (Option A) → Type 0
IsTaken old taken new =
    ((at : ℕ) × (at < length old) × (taken ≡ slice_index_or old at None) × (new ≡ remove old at))
    ⊎ ((taken ≡ None) × (new ≡ old))

-- so many are kept at most
abbrev pub most_texts : ℕ
most_texts = 4

-- one more behind them; where there are as many as may be the oldest goes
abbrev pub with_text : {A : Type 0} → List (Option A) → Option A → List (Option A)
with_text texts text = (if nat_lt (length texts) most_texts then texts else remove texts 0) ++ text ∷ []

-- one more where there is one
abbrev pub with_text_if : {A : Type 0} → List (Option A) → Option A → List (Option A)
with_text_if texts None = texts
with_text_if texts (Some text) = with_text texts (Some text)

-- What one of them was taken as.
abbrev pub lent : {A : Type 0} → Option A → List (Option A)
lent None = []
lent (Some text) = Some text ∷ []

-- the last one of some others behind them
abbrev pub with_last : {A : Type 0} → List (Option A) → List (Option A) → List (Option A)
with_last texts others = with_text_if texts (slice_index_or others (length others - 1) None)
