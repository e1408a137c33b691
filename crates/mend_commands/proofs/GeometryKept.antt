-- What is mended keeps its geometry.
use Rattle.std.specs.Prelude.{◌≡◌}
use Rattle.std.proofs.Common.{sym, subst}
use Rattle.std.proofs.lemmas.List.Elements.{All-weaker}
use Rattle.iges_params.specs.Contents.{Contents}
use Rattle.brep_walk.specs.SolidOf.{solid_of}
use Rattle.shell_change.specs.Fits.{KeepsGeometry}
use Rattle.change_fits.specs.Fits.{Fits}
use Rattle.changed_file.specs.Staying.{OthersStayIn}
use Rattle.changed_file.proofs.Stays.{others_stay}
use Rattle.solid_mend.specs.Mended.{IsMended, IsWhole}
use Rattle.mend_commands.specs.Laws.{GeometryStays}

pub geometry_kept : GeometryStays
geometry_kept n f g m cs new is =
    let made : IsMended g m cs new = is.mended in
    record {
      others = subst (λ (x : Contents). OthersStayIn g (solid_of g m) cs x) (sym made.is) (others_stay g (solid_of g m) cs);
      geometry = made.geometry;
      known = made.known;
      kept = All-weaker (IsWhole (solid_of g m) made.geometry) (KeepsGeometry (solid_of g m) made.geometry)
          (λ c w. let fit : Fits (solid_of g m) made.geometry c = w.fits in fit.geometry) cs made.whole;
    }
