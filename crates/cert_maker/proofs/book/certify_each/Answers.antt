use Rattle.std.proofs.Common.{arith, sym, ◌∙◌}
use Rattle.std.proofs.lemmas.Result.{err_from_is_err_and}
use Rattle.cert_maker.proofs.BookLemmas.{left_solid, left_other_kept, solid_fails, all_zip, no_solids, none_there, above_none}
use Rattle.cert_maker.proofs.BookMade.{book_of_all}
use Rattle.cert_maker.proofs.book.certify_each.Goals.{then-is_solid_at+in_ok-part+in_ok-push, else-is_solid_at}
use Rattle.cert_maker.proofs.book.certify_each.Goals as goal

pub returns-in_err-part-clause-fault : goal.returns-in_err-part-clause-fault
returns-in_err-part-clause-fault c =
    let p = err_from_is_err_and c.from_residual.result c.from_residual.ensures.1 in
    rw (p.1, p.2)
    (solid_fails c.args.file.now c.entries.i c.entry_no.result.0 c.entries.used c.entries.parts c.in_err-part.field-0.0
    (omega (arith, c.entry_count-i-end.ensures.is, c.entries-test.true)) (sym c.is_solid_at.ensures ∙ c.if-is_solid_at.true) c.entry_no.ensures
    (rw c.entries.invariant.file at c.in_err-part.ensures.fault) c.entries.invariant.left)

pub entries-preserved : goal.entries-preserved
entries-preserved c =
    elim c.if-is_solid_at.branch [
      | then-is_solid_at+in_ok-part+in_ok-push w ↦
          record {
            file = w.walker-is ∙ w.solid_part.ensures.file ∙ c.entries.invariant.file;
            left = left_solid c.args.file.now c.entries.i w.entry_no.result.0 c.entries.used c.if-is_solid_at.used c.entries.parts c.if-is_solid_at.parts
                w.in_ok-part.part (omega (arith, c.entry_count-i-end.ensures.is, c.entries-test.true)) (sym c.is_solid_at.ensures ∙ w.if-is_solid_at.true)
                w.entry_no.ensures
                (rw c.entries.invariant.file at w.in_ok-part.ensures.part) (w.used-is ∙ (rw c.entries.invariant.file at w.in_ok-part.ensures.used))
                (rw c.entries.invariant.file at w.in_ok-part.ensures.made) (w.parts-is ∙ w.in_ok-push.ensures.ok) c.entries.invariant.left;
          }
      | else-is_solid_at w ↦
          record {
            file = w.walker-is ∙ c.entries.invariant.file;
            left = left_other_kept c.args.file.now c.entries.i c.entries.used c.if-is_solid_at.used c.entries.parts c.if-is_solid_at.parts
                (omega (arith, c.entry_count-i-end.ensures.is, c.entries-test.true)) (sym c.is_solid_at.ensures ∙ w.if-is_solid_at.false) w.used-is w.parts-is
                c.entries.invariant.left;
          }
    ]

pub returns-then-len-eq0-clause-fault : goal.returns-then-len-eq0-clause-fault
returns-then-len-eq0-clause-fault c =
    no_solids c.args.file.now c.entries.i c.entries.used c.entries.parts (omega (arith, c.entry_count-i-end.ensures.is, c.entries-test.false))
    c.entries.invariant.left (none_there c.entries.parts (sym c.len.ensures ∙ c.if-len-eq0.true))

pub returns-clause-parts : goal.returns-clause-parts
returns-clause-parts c = all_zip c.args.file.now c.entries.i c.entries.used c.entries.parts
    (omega (arith, c.entry_count-i-end.ensures.is, c.entries-test.false)) c.entries.invariant.left

pub returns-clause-book : goal.returns-clause-book
returns-clause-book c =
    book_of_all c.args.file.now c.entries.parts
    (all_zip c.args.file.now c.entries.i c.entries.used c.entries.parts (omega (arith, c.entry_count-i-end.ensures.is, c.entries-test.false))
    c.entries.invariant.left)
    (above_none c.entries.parts c.len.result c.len.ensures c.if-len-eq0.false)

pub returns-in_err-push-clause-fault : goal.returns-in_err-push-clause-fault
returns-in_err-push-clause-fault c =
    let p = err_from_is_err_and c.from_residual-in_err-push.result c.from_residual-in_err-push.ensures.1 in
    rw (p.1, p.2) tt
