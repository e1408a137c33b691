use Rattle.std.proofs.Common.{pos, subst, sym, ◌∙◌}
use Rattle.brep_walk.specs.Kept.{IsVertexList}
use Rattle.std.proofs.lemmas.Int.{to_z-of_z}
use mir.Syntax.{w64}
use Rattle.brep_walk.proofs.KeptLists.{kept_vertices, more_vertices, vertex_list_kept}
use Rattle.brep_walk.proofs.lists.Lists.vertex_list.Goals as goal

pub returns-in-Some-clause-list : goal.returns-in-Some-clause-list
returns-in-Some-clause-list c =
    kept_vertices _ _ c.self.view_is c.self.inside.edges c.self.inside.vertices c.self.invariant.0 c.args.number _
    (to_z-of_z w64 c.args.number c.ranges.number) c.in-Some.kept.now c.in-Some.ensures

pub returns-in-Some-clause-holds : goal.returns-in-Some-clause-holds
returns-in-Some-clause-holds c =
    (kept_vertices _ _ c.self.view_is c.self.inside.edges c.self.inside.vertices c.self.invariant.0 c.args.number _
    (to_z-of_z w64 c.args.number c.ranges.number) c.in-Some.kept.now c.in-Some.ensures).holds

pub invariant_of-self-2 : goal.invariant_of-self-2
invariant_of-self-2 c = (
  more_vertices _ c.self-2.inside.edges c.self-2.inside.vertices c.keep.new.self c.self-2.invariant.0 (c.in_ok-no.no, _) c.in_ok-keep.ensures.kept
      (subst (λ f. IsVertexList f (pos c.in_ok-no.no.0) (c.in_ok-no.no, c.len-count.result)) (sym (c.self-2.view_is ∙ c.in_ok-no.ensures.file))
      (vertex_list_kept c.args.self.now _ c.in_ok-no.no _ c.in_ok-no.ensures.holds c.in_ok-no.ensures.named.0 c.in_ok-no.list c.in_ok-no.ensures.named.1
      c.len-count.ensures)),
  c.self-2.invariant.1,
)
