-- Nodes that pairs join, in chains.
use Rattle.std.specs.Prelude.{◌≡◌, ◌<◌, ◌≤◌, ◌⊎◌, ℕ, List, length, get_or}
use Rattle.std.specs.List.{AllByRecursion}
use Rattle.solid_data.specs.Chain.{LeadsTo}
use Rattle.solid_data.proofs.Members.{Has}

abbrev pub Linked : List (ℕ × ℕ) → ℕ → ℕ → Type 0
Linked pairs a b = Has pairs (a, b) ⊎ Has pairs (b, a)

abbrev pub AreJoined : List (ℕ × ℕ) → ℕ → ℕ → Type 0
AreJoined pairs a b = LeadsTo (Linked pairs) a b

abbrev pub AreInside : List (ℕ × ℕ) → ℕ → Type 0
AreInside pairs count = AllByRecursion (λ (p : ℕ × ℕ). (p.0 < count) × (p.1 < count)) pairs

-- each node is marked by one that it is joined to, and that isn't greater
pub record AreLabels (pairs : List (ℕ × ℕ)) (count : ℕ) (labels : List ℕ) : Type 0 where
  pub each : length labels ≡ count
  pub low : (x : ℕ) → x < count → get_or labels x 0 ≤ x
  pub joined : (x : ℕ) → x < count → AreJoined pairs x (get_or labels x 0)

-- and nodes of a pair are marked alike: so each node is marked by the least one that it is joined to
pub record AreComponents (pairs : List (ℕ × ℕ)) (count : ℕ) (labels : List ℕ) : Type 0 where
  pub marks : AreLabels pairs count labels
  pub settled : (a b : ℕ) → Has pairs (a, b) → get_or labels a 0 ≡ get_or labels b 0
