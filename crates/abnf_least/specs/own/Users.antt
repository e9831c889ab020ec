-- Which parts use which.
use Rattle.std.specs.Prelude.{◌≡◌, ℕ, zero, suc, ◌+◌, ◌-◌, ◌^◌, ◌<◌, ◌≤◌, ◌⊎◌, List, length, slice_index_or}
use Rattle.abnf_least.specs.declared.users.Link.{Link}
use Rattle.abnf_least.specs.declared.users.Users.{Users}
use Rattle.abnf_parts.specs.Part.{Part, parts_of}
use Rattle.abnf_least.specs.own.Form.{needs}
use Rattle.abnf_least.specs.own.Search.{Among, form_at}

-- the link at this place
abbrev pub link_at : List Link → ℕ → Link
link_at links place = slice_index_or links (place - 2 ^ 31) (record { user = 0; next = 0 })

-- the user stands at this link, or further on; the link leads to a place below its own
abbrev pub MetFrom : Link → ℕ → ℕ → (ℕ → Type 0) → Type 0
MetFrom link place user Further = (link.user ≡ user) ⊎ ((link.next < place) × Further link.next)

-- The user is met in so many steps from this place. A place below 2^31 is that of one user, with none behind, and one from there on
-- is that of a link.
abbrev pub InChain : List Link → ℕ → ℕ → ℕ → Type 0
InChain links zero place user = ⊥
InChain links (suc steps) place user =
    ((place < 2 ^ 31) × (place ≡ user + 1)) ⊎
    ((2 ^ 31 ≤ place) × (place < 2 ^ 31 + length links) × MetFrom (link_at links place) place user (λ next. InChain links steps next user))

-- the user stands in the chain that begins at this place
abbrev pub Reaches : List Link → ℕ → ℕ → Type 0
Reaches links place user = (steps : ℕ) × InChain links steps place user

-- each user that is reached from this place is the one that stands there, or is reached from the next
abbrev pub Leads : List Link → ℕ → ℕ → ℕ → Type 0
Leads links place here next = (k : ℕ) → Reaches links place k → (here ≡ k) ⊎ Reaches links next k

-- the user stands in the part's chain
abbrev pub Uses : Users → ℕ → ℕ → Type 0
Uses users part user = Reaches users.links.items (slice_index_or users.starts.items part 0) user

-- the user is added under the part, and those that were there stay
pub record AddsUser (old : Users) (part user : ℕ) (new : Users) : Type 0 where
  pub one_each : length new.starts.items ≡ length old.starts.items
  pub kept : (m k : ℕ) → Uses old m k → Uses new m k
  pub joins : part < length old.starts.items → Uses new part user

-- the user is added under each of these parts
pub record AddsEach (old : Users) (parts : List ℕ) (user : ℕ) (new : Users) : Type 0 where
  pub one_each : length new.starts.items ≡ length old.starts.items
  pub kept : (m k : ℕ) → Uses old m k → Uses new m k
  pub joins : (m : ℕ) → Among m parts → m < length old.starts.items → Uses new m user

-- each part is listed under those that its value depends on
pub record AreUsers (trees : List Part) (users : Users) : Type 0 where
  pub one_each : length users.starts.items ≡ length (parts_of trees)
  pub each : (k m : ℕ) → Among m (needs (form_at trees k)) → m < length users.starts.items → Uses users m k
