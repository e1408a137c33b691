use Rattle.std.proofs.Common.{arith, subst, refl, sym, ◌∙◌, ◌≡◌, ◌-◌, ◌+◌, true, false}
use Rattle.open_certificate.specs.Line.{edge}
use Rattle.open_certificate.specs.CheckState.{Takes}
use Rattle.open_certificate.specs.contracts.state.OpenState.{the_view}
use Rattle.open_certificate.proofs.Telling.{with_edge, can_mate, edge_kept, edge_takes, edge_unfit, edge_short}
use Rattle.open_certificate.proofs.state.OpenState.take_edge.Goals as goal

pub returns-then-not-lists_all-clause-line : goal.returns-then-not-lists_all-clause-line
returns-then-not-lists_all-clause-line c =
    subst (λ k. Takes k k (edge c.args.along c.args.against) false) c.self.view_is
    (edge_short (the_view c.self.inside) (the_view c.self.inside) c.args.along c.args.against
    (λ all. let e : false ≡ true = sym c.if-not-lists_all.true ∙ c.lists_all.ensures.1 all in cc))

pub returns-in_default-clause-line : goal.returns-in_default-clause-line
returns-in_default-clause-line c = subst (λ k. Takes k k (edge c.args.along c.args.against) false) c.self.view_is
    (edge_unfit (the_view c.self.inside) (the_view c.self.inside) c.args.along c.args.against (λ at same. c.in_default.ensures at same))

pub invariant_of-self : goal.invariant_of-self
invariant_of-self c =
    edge_kept (the_view c.self.inside) c.args.along c.args.against c.in-Some.edge.0 (c.self.inside.edges_due - 1) (c.self.inside.listed + 2) c.self.invariant
    (record { fits = λ at same. c.in-Some.ensures at same }) (omega (arith, c.if-self-eq0.false)) refl refl

pub returns-clause-line : goal.returns-clause-line
returns-clause-line c =
    subst (λ k. Takes k (with_edge (the_view c.self.inside) c.args.along c.args.against c.in-Some.edge.0 (c.self.inside.edges_due - 1)
    (c.self.inside.listed + 2)) (edge c.args.along c.args.against) true) c.self.view_is
    (edge_takes (the_view c.self.inside) c.args.along c.args.against c.in-Some.edge.0 (c.self.inside.edges_due - 1) (c.self.inside.listed + 2) c.self.invariant
    (omega (arith, c.if-self-eq0.false)) refl refl
    (c.lists_all.ensures.0 c.if-not-lists_all.false) (record { fits = λ at same. c.in-Some.ensures at same }))

pub overflow_sub-along : goal.overflow_sub-along
overflow_sub-along c = (can_mate (the_view c.self.inside) c.args.along c.args.against c.in-Some.edge.0 c.self.invariant
    (record { fits = λ at same. c.in-Some.ensures at same })).pos_a

pub overflow_sub-against : goal.overflow_sub-against
overflow_sub-against c =
    (can_mate (the_view c.self.inside) c.args.along c.args.against c.in-Some.edge.0 c.self.invariant
    (record { fits = λ at same. c.in-Some.ensures at same })).pos_b

pub index_mut-requires : goal.index_mut-requires
index_mut-requires c =
    let can = can_mate (the_view c.self.inside) c.args.along c.args.against c.in-Some.edge.0 c.self.invariant
    (record { fits = λ at same. c.in-Some.ensures at same }) in
    omega (arith, can.pos_a, can.within_a)

pub index_mut-requires-2 : goal.index_mut-requires-2
index_mut-requires-2 c =
    let can = can_mate (the_view c.self.inside) c.args.along c.args.against c.in-Some.edge.0 c.self.invariant
    (record { fits = λ at same. c.in-Some.ensures at same }) in
    omega (arith, can.pos_b, can.within_b)
