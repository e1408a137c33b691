use Rattle.std.proofs.Common.{◌≡◌, ◌<◌, get_or, ◌∙◌, inl, inr, ap, subst, sym, Some, slice_get, length, ◌∷◌, [], ℕ, arith}
use Rattle.std.proofs.Common.{length-append}
use Rattle.std.proofs.lemmas.List.{length-map}
use Rattle.std.proofs.lemmas.Option.{get_or_from_slice_get}
use Rattle.iges_base.specs.declared.entry_no.EntryNo.{EntryNo}
use Rattle.iges_params.specs.Contents.{Contents}
use Rattle.solid_verdict.specs.Closed.{IsVerdictOn}
use Rattle.solid_data.specs.declared.verdict.Verdict.{Verdict}
use Rattle.where_overview.specs.Overview.{AreVerdicts, size_of}
use Rattle.where_overview.proofs.AllSolids.{are_all, get_pushed, judged_more, some_verdict_on}
use Rattle.where_overview.proofs.judging.judge_each.Goals as goal

pub size_at-size-requires : goal.size_at-size-requires
size_at-size-requires c =
    let many = ap length c.requires.sizes ∙ length-map c.args.sized.now.solids.now (size_of c.args.sized.now.file.now) in omega (arith, many, c.solids-test.true)

pub solids-preserved : goal.solids-preserved
solids-preserved c = record {
  file = c.next_judged.ensures.file ∙ c.solids.invariant.file;
  within = c.total_after-total.ensures.within;
  each = omega (arith, ap length c.in_ok-push.ensures.ok, length-append c.solids.verdicts (c.in_ok-verdict.verdict ∷ []), c.solids.invariant.each);
  judged = judged_more c.args.sized.now.limit c.solids.total c.total_after-total.result c.args.sized.now.sizes.now c.solids.i c.size_at-size.result
      c.in_ok-verdict.verdict c.solids.verdicts c.push.new.self _ c.size_at-size.ensures (c.in_ok-verdict.ensures.room ∙ c.has_room-room.ensures)
      c.in_ok-push.ensures.ok c.total_after-total.ensures.is c.solids.invariant.judged;
  verdict = λ j n v a b.
      elim (get_pushed c.solids.verdicts c.in_ok-verdict.verdict (Some v) j (subst (λ xs. slice_get xs j ≡ Some (Some v)) c.in_ok-push.ensures.ok b)) [
        | inl old ↦ c.solids.invariant.verdict j n v a old
        | inr last ↦
            let here : slice_get c.args.sized.now.solids.now c.solids.i ≡ Some n =
            subst (λ (k : ℕ). slice_get c.args.sized.now.solids.now k ≡ Some n) (last.0 ∙ c.solids.invariant.each) a in
            let same : get_or c.args.sized.now.solids.now c.solids.i (record { 0 = 0 }) ≡ n =
            get_or_from_slice_get c.args.sized.now.solids.now c.solids.i n (record { 0 = 0 }) here in
            some_verdict_on _ c.args.sized.now.file.now _ n v c.in_ok-verdict.verdict c.solids.invariant.file same last.1 c.in_ok-verdict.ensures.verdict
      ];
}

pub returns : goal.returns
returns c =
    are_all c.args.sized.now.file.now c.args.sized.now.limit c.solids.total c.args.sized.now.solids.now c.args.sized.now.sizes.now c.solids.i c.solids.verdicts
    c.requires.sizes c.solids-test.false c.solids.invariant.judged c.solids.invariant.verdict
