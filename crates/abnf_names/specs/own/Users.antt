-- Where the parts of rules lead, and which rules lead to each place. The places are the rules, and behind them one for all opaque
-- parts. Only contracts of private functions speak of it.
use Rattle.std.specs.Prelude.{◌≡◌, Bool, true, false, ℕ, suc, ◌<◌, ◌≤◌, Option, Some, None, List, [], ◌∷◌, ◌++◌, map, length, slice_get, slice_set, slice_range, Contains}
use Rattle.abnf_parts.specs.declared.node.Node.{Node}
use Rattle.abnf_parts.specs.declared.node.Node.TheVariants.{Ref, Opaque}
use Rattle.abnf_parts.specs.Part.{Part, ref, opaque, subparts, root_number}
use Rattle.abnf_names.specs.own.Search.{users_at}

-- the place to which a part leads: a rule that it refers to, or if it is opaque the last place
abbrev pub place_of_part : ℕ → Part → Option ℕ
place_of_part last (ref name rule) = rule
place_of_part last opaque = Some last
place_of_part last _ = None

-- the place to which a node leads: a rule that it refers to, or if it is opaque the last place
abbrev pub place_of_node : ℕ → Node → Option ℕ
place_of_node last (Ref name rule) = rule
place_of_node last Opaque = Some last
place_of_node last _ = None

-- the node is neither prose nor a faulty block
abbrev pub is_clear : Node → Bool
is_clear Opaque = false
is_clear _ = true

-- a part of rule r leads to the place
abbrev pub LeadsTo : List Part → ℕ → ℕ → Type 0
LeadsTo rules r place = (root : Part) × (slice_get rules r ≡ Some root) × Contains (map (place_of_part (length rules)) (subparts root)) (Some place)

-- the nodes of rule r are those from number start up to number end
pub record IsRangeOf (rules : List Part) (nodes : List Node) (r start end : ℕ) : Type 0 where
  pub start_is : start ≡ root_number rules r
  pub end_is : end ≡ root_number rules (suc r)
  pub ordered : start ≤ end
  pub within : end ≤ length nodes

-- the nodes of rule r
abbrev pub nodes_of : List Node → List Part → ℕ → List Node
nodes_of nodes rules r = slice_range nodes (root_number rules r) (root_number rules (suc r))

-- rule r is one more user of the place, if there is a place
abbrev pub with_user : ℕ → List (List ℕ) → Option ℕ → List (List ℕ)
with_user r users None = users
with_user r users (Some place) = slice_set users place (users_at users place ++ r ∷ [])

-- the users of the places are rules that lead there, and so many first rules are among them where they do
pub record AreUsingRules (rules : List Part) (count : ℕ) (users : List (List ℕ)) : Type 0 where
  pub one_each : length users ≡ suc (length rules)
  pub right : (place r : ℕ) → Contains (users_at users place) r → LeadsTo rules r place
  pub all : (place r : ℕ) → r < count → LeadsTo rules r place → Contains (users_at users place) r
