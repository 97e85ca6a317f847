-- The certificate that the nodes of a search give (scaffolding of the proof).
use Rattle.std.specs.Prelude.{◌≡◌, ℕ, List, [], ◌∷◌, ◌++◌, length, slice_get, Some, if◌then◌else◌}
use Rattle.np_state.specs.StateValues.{StateValue}
use Rattle.np_space.specs.Runs.{IsReached}
use Rattle.np_flat.specs.declared.parts.Parts.{Parts}
use Rattle.np_blind.specs.Readings.{flat_of}
use Rattle.np_blind.specs.Spaces.{first_of, next_of}
use Rattle.np_search.specs.declared.tree.Node.{Node}
use Rattle.np_cert.specs.declared.certificate.Limit.{Limit}
use Rattle.np_cert.specs.declared.certificate.Why.TheVariants.{Expanded}
use Rattle.np_cert.specs.declared.certificate.Entry.{Entry}
use Rattle.np_cert.specs.declared.certificate.Certificate.{Certificate}
use Rattle.np_evidence.specs.Certified.{less}

-- the entry of a state that was expanded at this path cost
abbrev pub entry_of : Limit → StateValue → ℕ → Entry
entry_of claim s cost = record { state = flat_of s; bound = less claim cost; why = Expanded }

-- it, where the node is expanded
abbrev pub entries_at : Limit → StateValue → Node → List Entry
entries_at claim s node = if node.expanded then entry_of claim s node.cost ∷ [] else []

-- the entries of all expanded nodes, in order of number
abbrev pub entries_of : Limit → List StateValue → List Node → List Entry
entries_of claim [] nodes = []
entries_of claim (s ∷ ss) [] = []
entries_of claim (s ∷ ss) (node ∷ nodes) = entries_at claim s node ++ entries_of claim ss nodes

-- the certificate with this claim
abbrev pub certificate_of : Limit → List StateValue → List Node → Certificate
certificate_of claim states nodes = record { claim = claim; proofs = []; entries = entries_of claim states nodes }

-- there are as many states as nodes, and each state is reached
pub record AreReached (task : Parts) (states : List StateValue) (nodes : List Node) : Type 0 where
  pub one_node : length nodes ≡ length states
  pub reached : (i : ℕ) (s : StateValue) → slice_get states i ≡ Some s → IsReached (next_of task) (first_of task) s
