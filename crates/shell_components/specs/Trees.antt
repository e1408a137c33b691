-- The trees that labels make: each node hangs at the one that it is marked by.
use Rattle.std.specs.Prelude.{◌≡◌, ◌<◌, ◌≤◌, ℕ, List, length, get_or}
use Rattle.shell_components.specs.Components.{Linked, AreLabels}

-- each node hangs at one that isn't greater
abbrev pub AreTrees : List ℕ → Type 0
AreTrees labels = (x : ℕ) → x < length labels → get_or labels x 0 ≤ x

-- f is alike at each node and at the one that it hangs at
abbrev pub IsEven : List ℕ → (ℕ → ℕ) → Type 0
IsEven labels f = (x : ℕ) → x < length labels → f (get_or labels x 0) ≡ f x

-- both nodes are in one tree: what is alike along every tree is alike at both
abbrev pub AreInOneTree : List ℕ → ℕ → ℕ → Type 0
AreInOneTree labels a b = (f : ℕ → ℕ) → IsEven labels f → f a ≡ f b

-- Some nodes hang elsewhere now: nodes of one tree are still in one tree, and labels of pairs are still labels of them.
pub record AreRehung (old new : List ℕ) : Type 0 where
  pub each : length new ≡ length old
  pub low : AreTrees new
  pub kept : (f : ℕ → ℕ) → IsEven new f → IsEven old f
  pub labels : (pairs : List (ℕ × ℕ)) → AreLabels pairs (length old) old → AreLabels pairs (length old) new

-- the tops of trees are still tops
abbrev pub AreTopsKept : List ℕ → List ℕ → Type 0
AreTopsKept old new = (y : ℕ) → get_or old y 0 ≡ y → get_or new y 0 ≡ y

-- each node hangs at the top of its tree
abbrev pub AreSettled : List ℕ → ℕ → Type 0
AreSettled labels count = (x : ℕ) → x < count → get_or labels (get_or labels x 0) 0 ≡ get_or labels x 0

-- a and b are in one tree now, and nodes of one tree still are
pub record AreHung (old new : List ℕ) (a b : ℕ) : Type 0 where
  pub each : length new ≡ length old
  pub low : AreTrees new
  pub kept : (f : ℕ → ℕ) → IsEven new f → IsEven old f
  pub one_tree : AreInOneTree new a b
  pub labels : (pairs : List (ℕ × ℕ)) → Linked pairs a b → AreLabels pairs (length old) old → AreLabels pairs (length old) new
