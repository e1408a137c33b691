use Rattle.std.proofs.Common.{sym, ◌∙◌, subst, arith, length, ◌≤◌}
use Rattle.std.proofs.lemmas.Result.{err_from_is_err_and}
use Rattle.iges_base.specs.declared.TheConstants.{FILE_LIMIT}
use Rattle.iges_lines.specs.Feeding.{Fed, IsFed}
use Rattle.iges_lines.proofs.Exact.{read_sections-IsSectioned, IsSectioned-read_sections, IsLineFault-read_sections}
use Rattle.iges_lines.proofs.Going.{left_fault, left_as}
use Rattle.iges_lines.proofs.Kept.{sections_kept}
use Rattle.iges_lines.proofs.feeding.LineFeed.finish.Goals as goal

pub returns-in_err-table-clause-only : goal.returns-in_err-table-clause-only
returns-in_err-table-clause-only c =
    let p = err_from_is_err_and c.from_residual.result c.from_residual.ensures.1 in
    λ bytes fed s h. rw (p.1, p.2) (left_as bytes _ _ (IsSectioned-read_sections bytes s h) (c.in_err-table.ensures {u = tt} bytes fed))

pub returns-in_err-table-clause-fault : goal.returns-in_err-table-clause-fault
returns-in_err-table-clause-fault c =
    let p = err_from_is_err_and c.from_residual.result c.from_residual.ensures.1 in λ bytes fed. rw (p.1, p.2)
    (left_fault bytes _ (c.in_err-table.ensures {u = tt} bytes fed))

pub returns-in_err-table-clause-only_fault : goal.returns-in_err-table-clause-only_fault
returns-in_err-table-clause-only_fault c =
    let p = err_from_is_err_and c.from_residual.result c.from_residual.ensures.1 in
    λ bytes fed f h. rw (p.1, p.2) (left_as bytes _ _ (IsLineFault-read_sections bytes f h) (c.in_err-table.ensures {u = tt} bytes fed))

pub of-requires : goal.of-requires
of-requires c =
    let old = c.self.invariant.0 in
    let within = c.self.invariant.1 in
    let long = old.1.len in
    let fed = subst (λ (f : Fed). IsFed f old.0) c.self.view_is old.1 in
    sections_kept old.0 _ (let few : length old.0 ≤ FILE_LIMIT =
    omega (arith, within, long) in few) (read_sections-IsSectioned old.0 _ (c.in_ok-table.ensures {u = tt} old.0 fed))

pub returns-clause-found : goal.returns-clause-found
returns-clause-found c = λ bytes fed. rw c.of.ensures (read_sections-IsSectioned bytes _ (c.in_ok-table.ensures {u = tt} bytes fed))

pub returns-clause-only : goal.returns-clause-only
returns-clause-only c = λ bytes fed s h. rw c.of.ensures (sym (IsSectioned-read_sections bytes s h) ∙ c.in_ok-table.ensures {u = tt} bytes fed)

pub returns-clause-only_fault : goal.returns-clause-only_fault
returns-clause-only_fault c = λ bytes fed f h. rw c.of.ensures (sym (IsLineFault-read_sections bytes f h) ∙ c.in_ok-table.ensures {u = tt} bytes fed)
