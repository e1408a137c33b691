use Rattle.std.proofs.Common.{ℤ, get_or, pos, refl, rules, subst, w64}
use mir.Val.{SFits}
use Rattle.std.proofs.lemmas.Int.{to_z-of_z}
use Rattle.solid_geometry.specs.Lines.{IsLineOf}
use Rattle.solid_geometry.proofs.PointPairs.{lines_further}
use Rattle.solid_geometry.proofs.lines.lines_of.Goals as goal

pub curves-preserved : goal.curves-preserved
curves-preserved c =
    let curve = get_or c.args.curves.now c.curves.curve-index (pos 0) in
    let fits : SFits w64 (get_or c.args.curves.now c.curves.curve-index (pos 0)) = search rules in
    let points = c.in_ok-line.ensures.points c.curves.invariant.points in
    let pairs = c.in_ok-line.ensures.pairs c.curves.invariant.pairs in
    let told = c.in_ok-line.ensures.line c.curves.invariant.points c.curves.invariant.seen in
    record {
      points = points.1;
      pairs = pairs.1;
      each = lines_further c.args.file.now c.curves.numbers.points c.line_after.new.numbers.points c.curves.numbers.pairs c.line_after.new.numbers.pairs points.0 pairs.0
          c.args.curves.now c.curves.lines.items c.push.new.self.items c.curves.curve-index curve c.in_ok-line.line c.curves-test.true refl
          c.curves.invariant.each
          (subst (λ (z : ℤ). IsLineOf c.args.file.now c.line_after.new.numbers.points c.line_after.new.numbers.pairs z c.in_ok-line.line) (to_z-of_z w64 curve fits) told)
          c.in_ok-push.ensures.items;
      seen = told;
    }
