use Rattle.std.proofs.Common.{◌∙◌, sym}
use Rattle.std.proofs.lemmas.Int.{to_z-of_z}
use mir.Syntax.{w64}
use Rattle.brep_numbering.proofs.ListTables.{found_list}
use Rattle.brep_numbering.proofs.table.ListTable.get.Goals as goal

pub returns-in-Some-get : goal.returns-in-Some-get
returns-in-Some-get g c =
    found_list c.args.number _ (sym (to_z-of_z w64 c.args.number c.ranges.number) ∙ c.in-Some.ensures) c.in-Some-get.kept.now c.if-kept-no.true
    c.deref.result.now c.args.self.now (c.deref.ensures.value ∙ c.self.view_is) c.get.result
    c.in-Some-get.ensures.lookup.3.0 c.in-Some-get.ensures.lookup.3.1
