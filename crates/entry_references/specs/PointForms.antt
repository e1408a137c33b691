-- Private: how the points of copious data are given.
use Rattle.std.specs.Prelude.{ℕ}
use Rattle.entry_references.specs.declared.place.PointForm.{PointForm}
use Rattle.entry_references.specs.declared.place.PointForm.TheVariants as form

-- the number that is written
abbrev pub form_number : PointForm → ℕ
form_number form.Plane = 1
form_number form.Space = 2
form_number form.Directed = 3
