use Rattle.std.proofs.Common.{◌∙◌, ◌+◌, ◌<◌, ◌≤◌, false, map, length, get_or, sym, ap, arith}
use Rattle.std.proofs.lemmas.List.{length-map}
use Rattle.solid_data.specs.declared.solid.FaceUse.{FaceUse}
use Rattle.flag_choice.specs.Choice.{changes}
use Rattle.flag_choice.proofs.ChosenLists.{next_change, none_more, flag_at, bool_at}
use Rattle.flag_choice.proofs.choosing.changes.Goals as goal

pub faces-preserved : goal.faces-preserved
faces-preserved c =
    let lt : c.faces.i < length c.args.flags.now = omega (arith, c.faces-test.true, c.faces.auto.i-end) in
    record {
      few = omega (arith, c.change-count.ensures.few, c.faces.invariant.few);
      so_far = next_change (map (λ (f : FaceUse). f.flag) c.args.faces.now) c.args.flags.now c.faces.i
          (get_or c.args.faces.now c.faces.i c.index-faces-i.result).flag
          (get_or c.args.flags.now c.faces.i false) c.faces.count (c.faces.count + c.change-count.result)
          (changes (map (λ (f : FaceUse). f.flag) c.args.faces.now) c.args.flags.now)
          (flag_at c.args.faces.now c.faces.i c.index-faces-i.result (omega (arith, lt, c.requires)))
          (bool_at c.args.flags.now c.faces.i lt) (ap (λ n. c.faces.count + n) c.change-count.ensures.is) c.faces.invariant.so_far;
    }

pub returns-clause-is : goal.returns-clause-is
returns-clause-is c =
    let past : length c.args.flags.now ≤ c.faces.i = omega (arith, c.faces-test.false, c.faces.auto.i-end) in
    none_more (map (λ (f : FaceUse). f.flag) c.args.faces.now) c.args.flags.now c.faces.i c.faces.count _
    (length-map c.args.faces.now (λ (f : FaceUse). f.flag) ∙ sym c.requires) past c.faces.invariant.so_far
