use Rattle.std.proofs.Common.{arith, subst, refl, sym, ◌∙◌, ◌≡◌, ◌-◌, ◌+◌, true, false}
use Rattle.open_certificate.specs.Line.{lone}
use Rattle.open_certificate.specs.CheckState.{Takes}
use Rattle.open_certificate.specs.contracts.state.OpenState.{the_view}
use Rattle.open_certificate.proofs.Telling.{with_lone, lone_within, lone_kept, lone_takes, lone_unfit, lone_short}
use Rattle.open_certificate.proofs.state.OpenState.take_lone.Goals as goal

pub returns-then-not-lists_all-clause-line : goal.returns-then-not-lists_all-clause-line
returns-then-not-lists_all-clause-line c =
    subst (λ k. Takes k k (lone c.args.row) false) c.self.view_is
    (lone_short (the_view c.self.inside) (the_view c.self.inside) c.args.row
    (λ all. let e : false ≡ true = sym c.if-not-lists_all.true ∙ c.lists_all.ensures.1 all in cc))

pub returns-in_default-clause-line : goal.returns-in_default-clause-line
returns-in_default-clause-line c = subst (λ k. Takes k k (lone c.args.row) false) c.self.view_is
    (lone_unfit (the_view c.self.inside) (the_view c.self.inside) c.args.row (λ at same. c.in_default.ensures at same))

pub invariant_of-self : goal.invariant_of-self
invariant_of-self c =
    lone_kept (the_view c.self.inside) c.args.row c.in-Some.edge.0 (c.self.inside.edges_due - 1) (c.self.inside.listed + 1) (c.self.inside.lone_count + 1)
    c.self.invariant (record { fits = λ at same. c.in-Some.ensures at same })
    (omega (arith, c.if-self-eq0.false)) refl refl refl

pub returns-clause-line : goal.returns-clause-line
returns-clause-line c =
    subst (λ k. Takes k (with_lone (the_view c.self.inside) c.args.row c.in-Some.edge.0 (c.self.inside.edges_due - 1) (c.self.inside.listed + 1)
    (c.self.inside.lone_count + 1)) (lone c.args.row) true) c.self.view_is
    (lone_takes (the_view c.self.inside) c.args.row c.in-Some.edge.0 (c.self.inside.edges_due - 1) (c.self.inside.listed + 1) (c.self.inside.lone_count + 1)
    c.self.invariant (omega (arith, c.if-self-eq0.false)) refl refl refl
    (c.lists_all.ensures.0 c.if-not-lists_all.false) (record { fits = λ at same. c.in-Some.ensures at same }))

pub overflow_sub-row : goal.overflow_sub-row
overflow_sub-row c = (lone_within (the_view c.self.inside) c.args.row c.in-Some.edge.0 (record { fits = λ at same. c.in-Some.ensures at same })).0

pub index_mut-requires : goal.index_mut-requires
index_mut-requires c =
    let w = lone_within (the_view c.self.inside) c.args.row c.in-Some.edge.0 (record { fits = λ at same. c.in-Some.ensures at same }) in
    omega (arith, w.0, w.1, c.self.invariant.each_lone)
