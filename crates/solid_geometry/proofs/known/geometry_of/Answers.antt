use Rattle.std.proofs.Common.{List, ℤ, subst}
use Rattle.solid_geometry.specs.Known.{AreCurvesOf}
use Rattle.solid_geometry.proofs.known.geometry_of.Goals as goal

pub returns : goal.returns
returns c = record {
  each_place = c.in_ok-places.ensures.each;
  places = c.in_ok-places.ensures.places;
  curves = subst (λ (zs : List ℤ). AreCurvesOf c.args.file.now zs c.in_ok-known.known) c.requires c.in_ok-known.ensures;
}
