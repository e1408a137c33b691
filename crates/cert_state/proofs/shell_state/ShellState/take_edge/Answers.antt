use Rattle.std.proofs.Common.{◌≡◌, ◌∙◌, arith, subst, sym, true, false}
use Rattle.cert_lines.specs.Line.{edge}
use Rattle.cert_state.specs.Matching.{Takes}
use Rattle.cert_state.specs.contracts.shell_state.ShellState.{the_view}
use Rattle.cert_state.proofs.Telling.{with_edge, can_mate, edge_kept, edge_not_due, edge_takes, edge_unfit}
use Rattle.cert_state.proofs.shell_state.ShellState.take_edge.Goals as goal

pub returns-in_default-clause-line : goal.returns-in_default-clause-line
returns-in_default-clause-line c = subst (λ k. Takes k k (edge c.args.along c.args.against) false) c.self.view_is
    (edge_unfit (the_view c.self.inside) (the_view c.self.inside) c.args.along c.args.against (λ at same. c.in_default.ensures at same))

pub invariant_of-self : goal.invariant_of-self
invariant_of-self c =
    edge_kept (the_view c.self.inside) c.args.along c.args.against c.in-Some.edge.0 c.self.invariant (record { fits = λ at same. c.in-Some.ensures at same })

pub returns-clause-line : goal.returns-clause-line
returns-clause-line c =
    subst (λ k. Takes k (with_edge (the_view c.self.inside) c.args.along c.args.against c.in-Some.edge.0) (edge c.args.along c.args.against) true)
    c.self.view_is
    (edge_takes (the_view c.self.inside) c.args.along c.args.against c.in-Some.edge.0 c.self.invariant (c.has_edge.ensures.0 c.if-not-has_edge.false)
    (record { fits = λ at same. c.in-Some.ensures at same }))

pub overflow_sub-along : goal.overflow_sub-along
overflow_sub-along c = (can_mate (the_view c.self.inside) c.args.along c.args.against c.in-Some.edge.0 c.self.invariant
    (record { fits = λ at same. c.in-Some.ensures at same })).pos_a

pub overflow_sub-against : goal.overflow_sub-against
overflow_sub-against c =
    (can_mate (the_view c.self.inside) c.args.along c.args.against c.in-Some.edge.0 c.self.invariant
    (record { fits = λ at same. c.in-Some.ensures at same })).pos_b

pub index_mut-requires : goal.index_mut-requires
index_mut-requires c =
    let can = can_mate (the_view c.self.inside) c.args.along c.args.against c.in-Some.edge.0 c.self.invariant
    (record { fits = λ at same. c.in-Some.ensures at same }) in
    omega (arith, can.pos_a, can.within_a)

pub index_mut-requires-2 : goal.index_mut-requires-2
index_mut-requires-2 c =
    let can = can_mate (the_view c.self.inside) c.args.along c.args.against c.in-Some.edge.0 c.self.invariant
    (record { fits = λ at same. c.in-Some.ensures at same }) in
    omega (arith, can.pos_b, can.within_b)

pub returns-then-not-has_edge-clause-line : goal.returns-then-not-has_edge-clause-line
returns-then-not-has_edge-clause-line c =
    subst (λ k. Takes k k (edge c.args.along c.args.against) false) c.self.view_is
    (edge_not_due (the_view c.self.inside) (the_view c.self.inside) c.args.along c.args.against
    (λ due. (let e : false ≡ true = sym c.if-not-has_edge.true ∙ c.has_edge.ensures.1 due in cc)))
