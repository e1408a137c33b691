use Rattle.std.proofs.Common.{pos, subst, sym, ◌∙◌, ◌≡◌, rules, refl, inl, true, false}
use mir.Syntax.{w64}
use mir.Val.{to_z, of_z}
use Rattle.brep_walk.specs.Places.{NamesGeometry}
use Rattle.brep_walk.specs.SolidOf.{vertex_key}
use Rattle.brep_walk.proofs.EdgeEnds.{edge_is, both_ends, start_fault, end_fault}
use Rattle.brep_walk.proofs.lists.Lists.ends.Goals as goal

pub returns-clause-holds : goal.returns-clause-holds
returns-clause-holds c =
    let a : to_z w64 (of_z w64 c.args.edge.curve) ≡ c.args.edge.curve = search rules in
    let b : to_z w64 (of_z w64 c.args.edge.start_list) ≡ c.args.edge.start_list = search rules in
    let d : to_z w64 (of_z w64 c.args.edge.start_index) ≡ c.args.edge.start_index = search rules in
    let e : to_z w64 (of_z w64 c.args.edge.end_list) ≡ c.args.edge.end_list = search rules in
    let h : to_z w64 (of_z w64 c.args.edge.end_index) ≡ c.args.edge.end_index = search rules in
    both_ends c.args.self.now c.vertex.new.self c.in_ok-from.ensures.file (pos c.args.at.entity.0) c.args.at.item c.args.edge _
    (edge_is c.args.edge _ _ _ _ _ a b d e h)
    (subst (λ f. NamesGeometry f (to_z w64 (of_z w64 c.args.edge.curve))) c.self.view_is (c.if-not-names_geometry.ensures.0 refl))
    c.in_ok-from.ensures.holds c.in_ok-to.ensures.holds

pub returns-in_err-to-clause-fault : goal.returns-in_err-to-clause-fault
returns-in_err-to-clause-fault c =
    let a : to_z w64 (of_z w64 c.args.edge.curve) ≡ c.args.edge.curve = search rules in
    let b : to_z w64 (of_z w64 c.args.edge.start_list) ≡ c.args.edge.start_list = search rules in
    let d : to_z w64 (of_z w64 c.args.edge.start_index) ≡ c.args.edge.start_index = search rules in
    let e : to_z w64 (of_z w64 c.args.edge.end_list) ≡ c.args.edge.end_list = search rules in
    let h : to_z w64 (of_z w64 c.args.edge.end_index) ≡ c.args.edge.end_index = search rules in
    end_fault c.args.self.now c.vertex.new.self c.in_ok-from.ensures.file (pos c.args.at.entity.0) c.args.at.item c.args.edge _
    (edge_is c.args.edge _ _ _ _ _ a b d e h)
    c.from_residual-in_err-to.result _
    (subst (λ f. NamesGeometry f (to_z w64 (of_z w64 c.args.edge.curve))) c.self.view_is (c.if-not-names_geometry.ensures.0 refl))
    c.in_ok-from.ensures.holds c.in_err-to.ensures.fault c.from_residual-in_err-to.ensures.1

pub returns-then-not-names_geometry-clause-fault : goal.returns-then-not-names_geometry-clause-fault
returns-then-not-names_geometry-clause-fault c =
    let a : to_z w64 (of_z w64 c.args.edge.curve) ≡ c.args.edge.curve = search rules in
    inl (
      λ h. let k : false ≡ true = c.if-not-names_geometry.ensures.1 (subst (λ f. NamesGeometry f (to_z w64 (of_z w64 c.args.edge.curve))) (sym c.self.view_is)
          (subst (NamesGeometry c.args.self.now) (sym a) h)) in cc,
      c.fails.ensures,
    )

pub returns-in_err-from-clause-fault : goal.returns-in_err-from-clause-fault
returns-in_err-from-clause-fault c =
    let a : to_z w64 (of_z w64 c.args.edge.curve) ≡ c.args.edge.curve = search rules in
    let b : to_z w64 (of_z w64 c.args.edge.start_list) ≡ c.args.edge.start_list = search rules in
    let d : to_z w64 (of_z w64 c.args.edge.start_index) ≡ c.args.edge.start_index = search rules in
    start_fault c.args.self.now _ c.in_err-from.ensures.file (pos c.args.at.entity.0) c.args.at.item c.args.edge _
    (edge_is c.args.edge _ _ _ c.args.edge.end_list c.args.edge.end_index a b d refl refl) c.from_residual.result _
    (subst (λ f. NamesGeometry f (to_z w64 (of_z w64 c.args.edge.curve))) c.self.view_is (c.if-not-names_geometry.ensures.0 refl))
    c.in_err-from.ensures.fault c.from_residual.ensures.1

pub returns-clause-ends : goal.returns-clause-ends
returns-clause-ends c =
    let b : to_z w64 (of_z w64 c.args.edge.start_list) ≡ c.args.edge.start_list = search rules in
    let d : to_z w64 (of_z w64 c.args.edge.start_index) ≡ c.args.edge.start_index = search rules in
    let e : to_z w64 (of_z w64 c.args.edge.end_list) ≡ c.args.edge.end_list = search rules in
    let h : to_z w64 (of_z w64 c.args.edge.end_index) ≡ c.args.edge.end_index = search rules in
    (c.in_ok-from.ensures.vertex ∙ (λ k. vertex_key (b k) (d k)), c.in_ok-to.ensures.vertex ∙ (λ k. vertex_key (e k) (h k)))
