use Rattle.std.proofs.Common.{◌≤◌, ◌∙◌, ap, subst, length}
use Rattle.iges_write.specs.Sheet.{Sheet, Fails}
use Rattle.iges_write.proofs.WholeFile.{pages_joined, writes_failed}
use Rattle.iges_write.proofs.writing.joined.Goals as goal

pub returns-in_err-put_end : goal.returns-in_err-put_end
returns-in_err-put_end c limit f h =
    writes_failed limit f c.from_residual.result _
    (subst (λ (s : Sheet). Fails c.in_err-put_end.field-0.0 s)
    (pages_joined limit f c.args.pages.front c.args.pages.params c.args.pages.counts h) (c.in_err-put_end.ensures {u = tt}))
    c.from_residual.ensures.1

pub returns : goal.returns
returns c limit f h =
    let whole = c.in_ok-put_end.ensures {u = tt} ∙ pages_joined limit f c.args.pages.front c.args.pages.params c.args.pages.counts h in (
      c.in_ok-into_bytes.ensures.is ∙ ap (λ (s : Sheet). s.text) whole,
      subst (λ (s : Sheet). length s.text ≤ s.limit) whole c.into_bytes.ensures.within,
    )
