use Rattle.std.proofs.Common.{◌∷◌, [], refl, subst, sym}
use Rattle.where_overview.specs.Recalled.{IsSolidOf}
use Rattle.where_overview.proofs.SameShells.{same_verdict}
use Rattle.where_overview.proofs.recalling.recalled.Goals as goal

pub returns : goal.returns
returns c =
    let f = c.args.judged.now.file.now in
    let other = c.in_ok-other.other in
    let one : IsSolidOf f other.0 (c.args.shell ∷ []) =
    subst (λ s. IsSolidOf f other.0 (s ∷ [])) (c.if-not-is_same_shell.ensures refl) c.in_ok-seen.ensures in
    same_verdict f other.0 c.args.no.0 (c.args.shell ∷ []) one c.requires.shell c.in_ok-verdict.verdict (c.if-not-is_of_other.ensures refl)
    (c.requires.judged c.args.place other c.in_ok-verdict.verdict (sym c.in_ok-other.ensures) c.in_ok-verdict.ensures)
