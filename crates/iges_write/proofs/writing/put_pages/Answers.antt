use Rattle.std.proofs.Common.{◌-◌, ap, ℕ}
use Rattle.iges_write.specs.FileSheet.{file_sheet}
use Rattle.iges_write.specs.Sheet.{Fails}
use Rattle.iges_write.proofs.WholeFile.{front_fails, records_fail, passed_on, pages_done}
use Rattle.iges_write.proofs.writing.put_pages.Goals as goal

pub returns-in_err-put_front-clause-fault : goal.returns-in_err-put_front-clause-fault
returns-in_err-put_front-clause-fault c =
    let limit = c.args.front.now.limit in
    let f = c.args.file.now in
    passed_on c.from_residual.result _ (λ x. Fails x (file_sheet limit f))
    (front_fails limit f _ c.args.front.now c.requires.front (let h = c.in_err-put_front.ensures {u = tt} in h.steps))
    c.from_residual.ensures.1

pub returns-in_err-put_records-clause-fault : goal.returns-in_err-put_records-clause-fault
returns-in_err-put_records-clause-fault c =
    let limit = c.args.front.now.limit in
    let f = c.args.file.now in
    passed_on c.from_residual-in_err-put_records.result _ (λ x. Fails x (file_sheet limit f))
    (records_fail limit f c.args.front.now c.put_front.new.page c.requires.front (let h = c.in_ok-put_front.ensures {u = tt} in h.steps) _
    (let h = c.in_err-put_records.ensures {u = tt} in h.steps))
    c.from_residual-in_err-put_records.ensures.1

pub returns-clause-made : goal.returns-clause-made
returns-clause-made c =
    let put = c.in_ok-put_records.ensures {u = tt} in
    let minus_one = λ (n : ℕ). n - 1 in
    pages_done c.args.front.now.limit c.args.file.now c.args.front.now c.put_front.new.page c.requires.front
    (let h = c.in_ok-put_front.ensures {u = tt} in h.steps) c.put_records.new.page c.put_records.new.params _ put.steps.0 put.steps.1
    c.start_count.ensures.is (ap minus_one c.number-global.ensures) (ap minus_one c.number.ensures) (ap minus_one c.number-2.ensures)
