use Rattle.std.proofs.Common.{rules, ◌≡◌, ◌<◌, ◌∙◌, sym, ap, subst, Some, slice_get, get_or, length}
use Rattle.std.proofs.lemmas.Option.{slice_get_within, get_or_from_slice_get}
use Rattle.solid_data.specs.Ranges.{IsWithin}
use Rattle.edge_uses.proofs.FirstOf.{left_in_less, left_in_fails}
use Rattle.orient_certificate.specs.Partners.{HasTwoRows}
use Rattle.orient_certificate.specs.declared.rows_by_edge.Seen.{Seen}
use Rattle.solid_data.specs.Obligations.{FirstNot}
use Rattle.orient_certificate.proofs.Places.{count_told, count_ne}
use Rattle.orient_certificate.proofs.rows_by_edge.first_miscounted.Goals as goal

pub returns-then-of-ne2 : goal.returns-then-of-ne2
returns-then-of-ne2 c =
    let at : slice_get c.args.rows.now.edges c.edges.i ≡ Some c.unwrap-edge.result.0 = search rules in
    let low : c.edges.i < length c.args.rows.now.edges = slice_get_within c.args.rows.now.edges c.edges.i c.unwrap-edge.result.0 at in
    let here : get_or c.args.rows.now.edges c.edges.i 0 ≡ c.unwrap-edge.result.0 = get_or_from_slice_get c.args.rows.now.edges c.edges.i c.unwrap-edge.result.0
    0 at in
    let within : IsWithin c.args.by_edge.now.span c.unwrap-edge.result.0 = subst (IsWithin c.args.by_edge.now.span) here
    (c.requires.span.holds c.edges.i 0 low) in
    subst (FirstNot (HasTwoRows c.args.rows.now) c.args.rows.now.edges) here
    (left_in_fails (HasTwoRows c.args.rows.now) c.args.rows.now.edges c.args.rows.now.edges c.edges.i 0 low c.edges.invariant
    (λ two. count_ne c.args.rows.now c.args.by_edge.now.span c.args.by_edge.now.seen c.unwrap-edge.result.0 c.requires.by_edge within
    (λ k. c.if-of-ne2.true (ap (λ (x : Seen). x.count) c.of.ensures ∙ k)) (subst (HasTwoRows c.args.rows.now) here two)))

pub edges-preserved : goal.edges-preserved
edges-preserved c =
    let at : slice_get c.args.rows.now.edges c.edges.i ≡ Some c.unwrap-edge.result.0 = search rules in
    let low : c.edges.i < length c.args.rows.now.edges = slice_get_within c.args.rows.now.edges c.edges.i c.unwrap-edge.result.0 at in
    let here : get_or c.args.rows.now.edges c.edges.i 0 ≡ c.unwrap-edge.result.0 = get_or_from_slice_get c.args.rows.now.edges c.edges.i c.unwrap-edge.result.0
    0 at in
    let within : IsWithin c.args.by_edge.now.span c.unwrap-edge.result.0 = subst (IsWithin c.args.by_edge.now.span) here
    (c.requires.span.holds c.edges.i 0 low) in
    left_in_less (HasTwoRows c.args.rows.now) c.args.rows.now.edges c.args.rows.now.edges c.edges.i 0 low c.edges.invariant
    (subst (HasTwoRows c.args.rows.now) (sym here) (count_told c.args.rows.now c.args.by_edge.now.span c.args.by_edge.now.seen c.unwrap-edge.result.0
    c.requires.by_edge within (sym (ap (λ (x : Seen). x.count) c.of.ensures) ∙ c.if-of-ne2.false)))
