use Rattle.std.proofs.Common.{◌∙◌, ◌||◌, Bool, List, sym, ap, subst, rules, SFits, w64}
use Rattle.std.proofs.lemmas.Int.{to_z-of_z}
use Rattle.list_compact.specs.Marking.{AreMarks, is_at, sizes}
use Rattle.list_compact.proofs.MarkSteps.{marked_at, sizes_at}
use Rattle.list_compact.proofs.marks.Marks.mark.Goals as goal

pub returns-clause-marked : goal.returns-clause-marked
returns-clause-marked c used h =
    let fits : SFits w64 c.args.list = search rules in
    let index_fits : SFits w64 c.args.index = search rules in
    let some = (c.in-Some.ensures {u = tt}).some in
    let marks : AreMarks c.self.inside.rows used = subst (λ (rows : List (List Bool)). AreMarks rows used) (sym c.self.view_is) h in
    subst (λ (rows : List (List Bool)). AreMarks rows (λ e j. used e j || is_at c.args.list c.args.index e j)) (sym c.set.ensures)
    (marked_at c.self.inside.rows used c.args.list c.args.index c.in-Some.place.entry c.in-Some.place.item (sym (to_z-of_z w64 c.args.list fits) ∙ some.0)
    (sym (to_z-of_z w64 c.args.index index_fits) ∙ some.1) marks)

pub returns-clause-sizes : goal.returns-clause-sizes
returns-clause-sizes c =
    ap (λ (rows : List (List Bool)). sizes rows) c.set.ensures
    ∙ (sizes_at c.self.inside.rows c.in-Some.place.entry c.in-Some.place.item ∙ ap (λ (rows : List (List Bool)). sizes rows) c.self.view_is)
