use Rattle.std.proofs.Common.{◌∷◌, ◌++◌, ◌∙◌, [], ℤ, ap, rules, w64}
use mir.Val.{SFits}
use Rattle.std.proofs.lemmas.Int.{to_z-of_z}
use Rattle.solid_geometry.specs.Curves.{curve_of}
use Rattle.solid_geometry.proofs.ListSteps.{map_next}
use Rattle.solid_geometry.proofs.curves.curves_of.Goals as goal

pub edges-preserved : goal.edges-preserved
edges-preserved c =
    let fits : SFits w64 c.curve_of.result = search rules in
    map_next (curve_of c.args.file.now) c.args.solid.now.edges c.edges.i c.edge_at.result c.edges.curves.items c.push.new.self.items c.edge_at.ensures
    c.edges.invariant
    (c.in_ok-push.ensures.items ∙ ap (λ (z : ℤ). c.edges.curves.items ++ z ∷ []) (to_z-of_z w64 c.curve_of.result fits ∙ c.curve_of.ensures))
