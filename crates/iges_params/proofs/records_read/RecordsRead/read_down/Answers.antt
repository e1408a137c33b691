use Rattle.std.proofs.Common.{◌≡◌, ◌+◌, ◌-◌, refl, sym, subst, ap, ◌∙◌, arith}
use Rattle.std.specs.Prelude.{option_copied}
use Rattle.iges_lines.specs.Gives.{Gives}
use Rattle.iges_params.proofs.EntryPass.{answer_read}
use Rattle.iges_params.proofs.RecordPass.{front_record}
use Rattle.iges_params.proofs.records_read.RecordsRead.read_down.Goals as goal

pub entries-preserved : goal.entries-preserved
entries-preserved c =
    let before = c.entries.invariant in
    let params = c.args.params.now in
    let left = c.entries.self.left in
    let at = sym c.placed_at.ensures.placed ∙ ap (λ o. option_copied o) c.unwrap-placed.ensures in
    let left_is : left ≡ left - 1 + 1 = omega (arith, c.entries-test.true) in
    let put = c.in_ok-put.ensures {u = tt} in
    record {
      from = omega (arith, put.left, c.entries-test.true);
      within = omega (arith, put.left, before.within);
      spare_empty = put.spare ∙ c.read_record-answer.ensures.spare_empty;
      read = λ all front start. answer_read params.above all params.delims c.args.entries.now (left - 1) left left_is _ at
          c.read_record-answer.result _ _ put.put refl put.left
          (subst (Gives c.read_record-answer.result) (front_record params.above params.lines.now.param all front params.delims _ _
          (c.requires.records (left - 1) _ (omega (arith, c.entries-test.true, before.within)) at)) c.read_record-answer.ensures.gives)
          (before.read all front start);
    }
