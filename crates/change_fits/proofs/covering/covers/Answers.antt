use Rattle.std.specs.Prelude.{◌≡◌, ◌<◌, ◌==◌, ℕ, false, length, get_or}
use Rattle.std.specs.List.{list_any}
use Rattle.std.proofs.Common.{ap, ◌∙◌, arith}
use Rattle.change_fits.proofs.Marks.{covers_tells}
use Rattle.change_fits.proofs.covering.covers.Goals as goal

pub returns : goal.returns
returns c =
    let len : length c.as_slice.result.now ≡ c.args.count = omega (arith, c.as_slice.ensures.len, c.in_ok-marks.ensures.len) in
    covers_tells c.args.numbers.now c.args.count c.as_slice.result.now c.all_marked.result len
    (λ k lt. ap (λ xs. get_or xs k false) c.as_slice.ensures.value ∙ c.in_ok-marks.ensures.marks k lt) c.all_marked.ensures.holds c.all_marked.ensures.only
