use Rattle.std.proofs.Common.{rules, sym, ◌∙◌, ◌≡◌, ◌<◌, true, false}
use Rattle.cert_state.proofs.Holding.{no_reach_mate, no_reach_row, reach_iff, reach_on}
use Rattle.edge_uses.specs.declared.row.Row.{Row}
use Rattle.cert_state.proofs.Segment.{named_has}
use Rattle.cert_state.proofs.fitting.fitting_face.Goals as goal

pub returns-in_default-clause-fits : goal.returns-in_default-clause-fits
returns-in_default-clause-fits c = λ at hm hf h. no_reach_mate c.args.rows.now at c.args.mates.now c.args.row hm (search rules) h

pub returns-in_default-named_row-2-clause-fits : goal.returns-in_default-named_row-2-clause-fits
returns-in_default-named_row-2-clause-fits c = λ at hm hf h. no_reach_row c.args.rows.now at c.args.mates.now c.args.row c.in-Some.mate hm (search rules)
    (search rules) h

pub returns-then-is_reached-clause-fits : goal.returns-then-is_reached-clause-fits
returns-then-is_reached-clause-fits c = λ at hm hf h.
    let iff = reach_iff c.args.rows.now at c.args.mates.now c.args.reached.now c.args.row c.in-Some.mate c.in-Some-named_row.here c.in-Some-named_row-2.there
    hm hf (search rules) (search rules) (search rules) in
    (iff.0 h).0 (search rules)

pub returns-then-is_reached-2-clause-fits : goal.returns-then-is_reached-2-clause-fits
returns-then-is_reached-2-clause-fits c = λ at hm hf.
    reach_on c.args.rows.now at c.args.mates.now c.args.reached.now c.args.row c.in-Some.mate c.in-Some-named_row.here c.in-Some-named_row-2.there hm hf
    (search rules) (search rules) (search rules)
    (λ k. let e : false ≡ true = sym c.if-is_reached.false ∙ c.is_reached.ensures.1 k in cc) (c.is_reached-2.ensures.0 c.if-is_reached-2.true)

pub returns-else-is_reached-2-clause-fits : goal.returns-else-is_reached-2-clause-fits
returns-else-is_reached-2-clause-fits c = λ at hm hf h.
    let iff = reach_iff c.args.rows.now at c.args.mates.now c.args.reached.now c.args.row c.in-Some.mate c.in-Some-named_row.here c.in-Some-named_row-2.there
    hm hf (search rules) (search rules) (search rules) in
    let e : false ≡ true = sym c.if-is_reached-2.false ∙ c.is_reached-2.ensures.1 (iff.0 h).1 in
    cc

pub returns-then-is_reached-2-clause-known : goal.returns-then-is_reached-2-clause-known
returns-then-is_reached-2-clause-known c = named_has (λ (r : Row). r.at.face.0 < c.args.rows.now.face_count) c.args.rows.now c.args.row
    c.in-Some-named_row.here c.len-count.ensures.kept.on_faces (search rules)
