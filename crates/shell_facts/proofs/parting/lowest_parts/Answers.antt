use Rattle.std.specs.Prelude.{All, Contains}
use Rattle.std.proofs.Common.{◌∙◌, ap, sym, subst, arith, length, flat_map}
use Rattle.solid_data.specs.Ranges.{IsWithin}
use Rattle.edge_uses.specs.Before.{face_vertices}
use Rattle.shell_facts.proofs.LowSteps.{face_step, marks_kept}
use Rattle.shell_facts.proofs.PartSteps.{all_of_part}
use Rattle.shell_facts.proofs.parting.lowest_parts.Goals as goal

pub lower_all-requires-clause-known : goal.lower_all-requires-clause-known
lower_all-requires-clause-known c =
    subst (λ ns. All (Contains ns) c.as_slice.result.now) (sym c.faces.invariant.numbers)
    (subst (All (Contains c.args.vertices.now)) (sym (c.as_slice.ensures.value ∙ c.in_ok-used_by.ensures.vertices))
    (all_of_part (Contains c.args.vertices.now) (face_vertices c.args.solid.now) c.as_slice-faces.result.now c.index-faces-i.result c.faces.i
    (subst (λ fs. All (Contains c.args.vertices.now) (flat_map (face_vertices c.args.solid.now) fs)) (sym c.as_slice-faces.ensures) c.requires.known)
    c.faces-test.true (sym c.index-faces-i.is)))

pub faces-preserved : goal.faces-preserved
faces-preserved c = record {
  numbers = c.lower_all.ensures.kept.numbers ∙ c.faces.invariant.numbers;
  marks = marks_kept c.faces.lows c.lower_all.new.lows c.faces.invariant.marks c.lower_all.ensures.kept;
  lows = λ v p within few.
      let inside : IsWithin c.faces.lows.span v = subst (λ s. IsWithin s v) c.lower_all.ensures.kept.span within in
      face_step c.args.solid.now c.as_slice-faces.result.now c.args.firsts.now c.index-faces-i.result c.faces.i v p c.faces.lows c.lower_all.new.lows
      c.as_slice.result.now _ c.faces-test.true (omega (arith, c.requires.each, ap length c.as_slice-faces.ensures)) c.index-faces-i.is
      (c.as_slice.ensures.value ∙ c.in_ok-used_by.ensures.vertices) (c.lower_all.ensures.lows v p inside) (c.faces.invariant.lows v p inside few);
}
