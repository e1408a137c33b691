use Rattle.std.proofs.Common.{sym, subst}
use Rattle.brep_walk.specs.Known.{HasItsRecord, LacksItsRecord}
use Rattle.brep_numbering.specs.declared.marks.Mark.TheVariants as marks
use Rattle.brep_walk.proofs.Knowing.{marked, has_its_record, lacks_its_record, record_found, no_record_found}
use Rattle.brep_walk.proofs.lists.Lists.judged.Goals as goal

pub invariant_of-self-in-Some : goal.invariant_of-self-in-Some
invariant_of-self-in-Some g c = (
  c.self.invariant.0,
  marked c.self.inside.file.now c.self.inside.marks c.set.new.self c.self.inside.failed c.self.invariant.1 c.args.no.0 marks.Fits
      (subst (λ f. HasItsRecord f c.args.no.0) (sym c.self.view_is)
      (has_its_record g.R.Record.kind c.args.self.now c.args.no.0 c.requires.kind
      (record_found g.R.Record.kind c.args.self.now c.args.no.0 c.args.values.now _ c.requires.kind c.requires.values c.in-Some.ensures.some
      c.in-Some.ensures.read)))
      c.in_ok-set-in-Some.ensures.set c.in_ok-set-in-Some.ensures.others,
)

pub invariant_of-self-in-None : goal.invariant_of-self-in-None
invariant_of-self-in-None g c = (
  c.self.invariant.0,
  marked c.self.inside.file.now c.self.inside.marks c.set-in-None.new.self c.self.inside.failed c.self.invariant.1 c.args.no.0 marks.Misfits
      (subst (λ f. LacksItsRecord f c.args.no.0) (sym c.self.view_is)
      (lacks_its_record g.R.Record.kind c.args.self.now c.args.no.0 c.requires.kind
      (no_record_found g.R.Record.kind c.args.self.now c.args.no.0 c.args.values.now c.requires.values c.in-None.ensures.none)))
      c.in_ok-set-in-None.ensures.set c.in_ok-set-in-None.ensures.others,
)
