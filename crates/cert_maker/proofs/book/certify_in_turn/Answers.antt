use Rattle.std.proofs.Common.{arith, refl, sym, ◌∙◌, ◌∷◌, ◌++◌, []}
use Rattle.std.proofs.lemmas.Result.{err_from_is_err_and}
use Rattle.cert_maker.proofs.BookLemmas.{left_all, left_other_kept, left_solid, solid_fails}
use Rattle.cert_maker.proofs.book.certify_in_turn.Goals.{then-is_solid_at+in_ok-used, else-is_solid_at}
use Rattle.cert_maker.proofs.book.certify_in_turn.Goals as goal

pub entries-init : goal.entries-init
entries-init c = record { file = c.requires; left = ([], left_all c.args.file.now [] refl) }

pub returns-in_err-used-clause-fault : goal.returns-in_err-used-clause-fault
returns-in_err-used-clause-fault c =
    let p = err_from_is_err_and c.from_residual.result c.from_residual.ensures.1 in
    rw (p.1, p.2)
    (solid_fails c.args.file.now c.entries.i c.entry_no.result.0 c.entries.used c.entries.invariant.left.0 c.in_err-used.field-0.0
    (omega (arith, c.entry_count-i-end.ensures.is, c.entries-test.true)) (sym c.is_solid_at.ensures ∙ c.if-is_solid_at.true) c.entry_no.ensures
    (rw c.entries.invariant.file at c.in_err-used.ensures.fault) c.entries.invariant.left.1)

pub entries-preserved : goal.entries-preserved
entries-preserved c =
    elim c.if-is_solid_at.branch [
      | then-is_solid_at+in_ok-used w ↦
          let part = rw c.entries.invariant.file at w.in_ok-used.ensures.part in
          record {
            file = w.walker-is ∙ w.used_with.ensures.file ∙ c.entries.invariant.file;
            left = (
              c.entries.invariant.left.0 ++ part.0 ∷ [],
              left_solid c.args.file.now c.entries.i w.entry_no.result.0 c.entries.used c.if-is_solid_at.used c.entries.invariant.left.0
                  (c.entries.invariant.left.0 ++ part.0 ∷ []) part.0 (omega (arith, c.entry_count-i-end.ensures.is, c.entries-test.true))
                  (sym c.is_solid_at.ensures ∙ w.if-is_solid_at.true) w.entry_no.ensures part.1
                  (w.used-is ∙ (rw c.entries.invariant.file at w.in_ok-used.ensures.used))
                  (rw c.entries.invariant.file at w.in_ok-used.ensures.made) refl c.entries.invariant.left.1,
            );
          }
      | else-is_solid_at w ↦
          record {
            file = w.walker-is ∙ c.entries.invariant.file;
            left = (
              c.entries.invariant.left.0,
              left_other_kept c.args.file.now c.entries.i c.entries.used c.if-is_solid_at.used c.entries.invariant.left.0 c.entries.invariant.left.0
                  (omega (arith, c.entry_count-i-end.ensures.is, c.entries-test.true)) (sym c.is_solid_at.ensures ∙ w.if-is_solid_at.false) w.used-is refl
                  c.entries.invariant.left.1,
            );
          }
    ]
