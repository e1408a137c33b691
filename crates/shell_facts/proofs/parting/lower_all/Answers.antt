use Rattle.std.proofs.Common.{sym, subst}
use Rattle.solid_data.specs.Ranges.{IsWithin}
use Rattle.shell_facts.proofs.LowSteps.{kept_more, low_known, low_within, low_step}
use Rattle.shell_facts.proofs.parting.lower_all.Goals as goal

pub lower-requires-clause-known : goal.lower-requires-clause-known
lower-requires-clause-known c = low_known c.args.lows.now c.vertices.lows c.args.vertices.now c.vertices.i c.vertices.invariant.kept c.requires.known
    c.vertices-test.true

pub lower-requires-clause-within : goal.lower-requires-clause-within
lower-requires-clause-within c = low_within c.args.lows.now c.vertices.lows c.args.vertices.now c.vertices.i c.vertices.invariant.kept c.requires.marks
    c.requires.known c.vertices-test.true

pub vertices-preserved : goal.vertices-preserved
vertices-preserved c = record {
  kept = kept_more c.args.lows.now c.vertices.lows c.lower.new.lows c.vertices.invariant.kept c.lower.ensures.kept;
  lows = λ v p within. low_step c.vertices.lows c.lower.new.lows c.args.vertices.now c.vertices.i c.args.part v p _ c.vertices-test.true
      (c.lower.ensures.lows v p (subst (λ s. IsWithin s v) (sym c.vertices.invariant.kept.span) within)) (c.vertices.invariant.lows v p within);
}
