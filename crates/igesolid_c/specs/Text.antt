-- Private: a text that was written.
use Rattle.std.specs.Prelude.{ℕ, List}

-- what was written, and how often a write has failed
pub record Text : Type 0 where
  pub text : List ℕ
  pub faults : ℕ
