use Rattle.std.proofs.Common.{◌<◌, All, sym, ◌∙◌, ap, arith, rules, length, subst}
use Rattle.std.specs.Prelude.{List, ℕ}
use Rattle.vertex_places.specs.Firsts.{firsts_of, place_keys}
use Rattle.vertex_places.proofs.FirstPlaces.{firsts_none, key_at, one_more, no_more, places_are, places_many, places_inside}
use Rattle.vertex_places.proofs.finding.vertex_places.Goals as goal

pub vertices-init : goal.vertices-init
vertices-init c = record { firsts = firsts_none (place_keys c.args.file.now c.args.vertices.now) c.new-firsts.result c.new-firsts.ensures.empty; places = search rules }

pub vertices-preserved : goal.vertices-preserved
vertices-preserved c =
    let at = key_at c.args.file.now c.args.vertices.now c.vertices.i c.vertex_at.result c.in_ok-key.key.items c.vertex_at.ensures c.in_ok-key.ensures in
    record {
      firsts = c.in_ok-first_like.ensures.firsts (place_keys c.args.file.now c.args.vertices.now) at c.vertices.invariant.firsts;
      places = one_more (place_keys c.args.file.now c.args.vertices.now) c.vertices.i _ c.in_ok-key.key.items c.vertices.places.items c.push.new.self.items _ at
          (c.in_ok-first_like.ensures.first (place_keys c.args.file.now c.args.vertices.now) at c.vertices.invariant.firsts) c.vertices.invariant.places
          c.in_ok-push.ensures.items;
    }

pub returns-clause-same : goal.returns-clause-same
returns-clause-same c =
    places_are c.args.file.now c.args.vertices.now c.vertices.places.items
    (no_more c.args.file.now c.args.vertices.now c.vertices.i c.vertices.places.items (firsts_of (place_keys c.args.file.now c.args.vertices.now)) (omega arith)
    c.vertices.invariant.places)

pub returns-clause-each : goal.returns-clause-each
returns-clause-each c =
    ap (λ (xs : List ℕ). length xs)
    (no_more c.args.file.now c.args.vertices.now c.vertices.i c.vertices.places.items (firsts_of (place_keys c.args.file.now c.args.vertices.now)) (omega arith)
    c.vertices.invariant.places)
    ∙ places_many c.args.file.now c.args.vertices.now

pub returns-clause-inside : goal.returns-clause-inside
returns-clause-inside c =
    subst (λ (xs : List ℕ). All (λ v. v < length c.args.vertices.now) xs)
    (sym (no_more c.args.file.now c.args.vertices.now c.vertices.i c.vertices.places.items (firsts_of (place_keys c.args.file.now c.args.vertices.now)) (omega arith)
    c.vertices.invariant.places))
    (places_inside c.args.file.now c.args.vertices.now)
