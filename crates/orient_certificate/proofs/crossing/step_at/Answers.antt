use Rattle.std.proofs.Common.{rules, refl, ◌≡◌, ◌∙◌, sym, subst, arith, Some, slice_get}
use Rattle.std.specs.Option.{IsSome}
use Rattle.orient_certificate.proofs.Stepping.{partner_told, step_made, row_low}
use Rattle.orient_certificate.proofs.crossing.step_at.Goals as goal

pub unwrap-other-requires : goal.unwrap-other-requires
unwrap-other-requires c =
    let at : slice_get c.args.rows.now.rows c.args.r ≡ Some c.unwrap-row.result = search rules in
    let t = partner_told c.args.rows.now c.args.by_edge.now.span c.args.by_edge.now.seen c.args.r c.other_of-partner.result c.unwrap-row.result c.requires.whole
    c.requires.span c.requires.by_edge c.requires.two at c.other_of-partner.ensures in
    let there : c.row-2.result ≡ Some t.0 = c.row-2.ensures ∙ t.1 in
    subst (λ o. IsSome o) (sym there) refl

pub bare-requires : goal.bare-requires
bare-requires c =
    let at : slice_get c.args.rows.now.rows c.args.r ≡ Some c.unwrap-row.result = search rules in
    omega (arith, row_low c.args.rows.now c.args.r c.unwrap-row.result c.requires.whole at, c.requires.faces)

pub bare-requires-2 : goal.bare-requires-2
bare-requires-2 c =
    let at : slice_get c.args.rows.now.rows c.other_of-partner.result ≡ Some c.unwrap-other.result = search rules in
    omega (arith, row_low c.args.rows.now c.other_of-partner.result c.unwrap-other.result c.requires.whole at, c.requires.faces)

pub returns : goal.returns
returns c =
    let at : slice_get c.args.rows.now.rows c.args.r ≡ Some c.unwrap-row.result = search rules in
    let at_m : slice_get c.args.rows.now.rows c.other_of-partner.result ≡ Some c.unwrap-other.result = search rules in
    step_made c.args.rows.now c.args.by_edge.now.span c.args.by_edge.now.seen c.args.forwards.now c.args.r c.other_of-partner.result c.unwrap-row.result
    c.unwrap-other.result c.same_flags.result c.bare.result c.bare-2.result
    c.requires.whole c.requires.span c.requires.by_edge c.requires.two at c.other_of-partner.ensures at_m c.bare.ensures c.bare-2.ensures c.same_flags.ensures
