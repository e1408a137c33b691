-- How many uses a reversed loop has.
use Rattle.std.specs.Prelude.{◌≡◌, Bool, true, false, List, length, map}
use Rattle.std.proofs.Common.{refl, ◌∙◌}
use Rattle.std.proofs.lemmas.List.{length-reverse, length-map}
use Rattle.solid_data.specs.declared.solid.LoopUse.{LoopUse}
use Rattle.shell_change.specs.Fits.{opposite_use, uses_before}

pub length_before : (uses : List LoopUse) (reversed : Bool) → length (uses_before uses reversed) ≡ length uses
length_before uses true = length-reverse (map opposite_use uses) ∙ length-map uses opposite_use
length_before uses false = refl
