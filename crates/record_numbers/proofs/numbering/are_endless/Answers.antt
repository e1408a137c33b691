use Rattle.std.proofs.Common.{◌≡◌, ◌∙◌, arith, pos, subst, rules, w64, ℤ}
use mir.Val.{SFits}
use Rattle.std.proofs.lemmas.Int.{to_z-of_z}
use Rattle.record_numbers.specs.Marked.{LeadsOn, mark_of}
use Rattle.record_numbers.specs.declared.marks.Mark.TheVariants.{Endless}
use Rattle.record_numbers.proofs.MarkLemmas.{one_further, each_endless}
use Rattle.record_numbers.proofs.numbering.are_endless.Goals as goal

pub marks-preserved : goal.marks-preserved
marks-preserved c =
    let fits : SFits w64 c.from.result = search rules in
    one_further (λ n. mark_of c.args.marks.now (pos n) ≡ Endless → LeadsOn c.args.file.now c.args.marks.now (pos n)) c.marks.i c.marks.invariant
    (subst (λ (z : ℤ). mark_of c.args.marks.now z ≡ Endless → LeadsOn c.args.file.now c.args.marks.now z) (to_z-of_z w64 c.from.result fits ∙ c.from.ensures)
    (c.in_ok-is_settled.ensures c.if-not-branch.false))

pub returns : goal.returns
returns c t = each_endless c.args.file.now c.args.marks.now c.in-Ok.count c.marks.i (search rules) (omega arith) c.marks.invariant
