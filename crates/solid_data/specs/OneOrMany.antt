-- A list that holds one item apart from the many.
use Rattle.std.specs.Prelude.{List, [], ◌∷◌, Option, Some, None}

abbrev pub one_or_many : {T : Type 0} → Option T → List T → List T
one_or_many None many = many
one_or_many (Some one) many = one ∷ []
