use Rattle.std.proofs.Common.{◌≡◌, ◌≤◌, ◌*◌, ◌∙◌, subst, rules, arith}
use Rattle.std.proofs.lemmas.Int.{to_z-of_z}
use mir.Val.{SFits}
use mir.Syntax.{w64}
use Rattle.record_paths.proofs.Layouts.{past_edges, edge_read_at}
use Rattle.record_paths.proofs.edges.edge_of.Goals as goal

pub returns-in_default-clause-none : goal.returns-in_default-clause-none
returns-in_default-clause-none c =
    let end : c.in-Some.end ≡ c.args.index * 5 = c.in-Some.ensures.1 in
    past_edges c.args.values.now c.args.index c.len-len.result c.len-len.ensures.is (omega (arith, end, c.if-end-len.false))

pub returns-in_default-2-clause-none : goal.returns-in_default-2-clause-none
returns-in_default-2-clause-none c =
    past_edges c.args.values.now c.args.index c.len-len.result c.len-len.ensures.is (omega (arith, c.in_default.ensures, c.len-len.type_inv))

pub returns-clause-some : goal.returns-clause-some
returns-clause-some c =
    let end : c.in-Some.end ≡ c.args.index * 5 = c.in-Some.ensures.1 in
    let within = subst (λ n. c.args.index ≤ n) c.count_at.ensures c.if-index-count_at.false in
    let fits1 : SFits w64 c.int_at.result = search rules in
    let fits2 : SFits w64 c.int_at-2.result = search rules in
    let fits3 : SFits w64 c.int_at-3.result = search rules in
    let fits4 : SFits w64 c.int_at-4.result = search rules in
    let fits5 : SFits w64 c.int_at-5.result = search rules in
    edge_read_at _ c.args.index c.in-Some.end c.args.values.now _ _ _ _ _ c.if-index-eq0.false within end
    (to_z-of_z w64 c.int_at.result fits1 ∙ c.int_at.ensures) (to_z-of_z w64 c.int_at-2.result fits2 ∙ c.int_at-2.ensures)
    (to_z-of_z w64 c.int_at-3.result fits3 ∙ c.int_at-3.ensures) (to_z-of_z w64 c.int_at-4.result fits4 ∙ c.int_at-4.ensures)
    (to_z-of_z w64 c.int_at-5.result fits5 ∙ c.int_at-5.ensures)
