use Rattle.std.proofs.Common.{◌∙◌, ap, sym, slice_get}
use Rattle.std.specs.List.{list_any}
use Rattle.solid_data.specs.Ring.{place_of}
use Rattle.solid_data.specs.SolidData.{same_vertex}
use Rattle.brep_numbering.specs.Keyed.{vertex_slot}
use Rattle.brep_numbering.specs.Numbered.{Numbered}
use Rattle.brep_numbering.proofs.KeyedKeys.{is_known, known_place, other_key, no_key}
use Rattle.brep_numbering.proofs.SameKeys.{vertex_sound, vertex_itself}
use Rattle.brep_numbering.proofs.numbering.Numbering.known_vertex.Goals as goal

pub returns-then-eq-clause-found : goal.returns-then-eq-clause-found
returns-then-eq-clause-found c =
    is_known same_vertex vertex_sound vertex_itself (vertex_slot c.self.inside.vertex_slots) c.self.inside.vertex_keys.entries c.self.invariant.1 c.args.key
    (c.in-Some.field-0-0.now, c.in-Some.known.now)
    (ap (slice_get c.self.inside.vertex_keys.entries) (sym c.get-number.ensures) ∙ sym c.in-Some.ensures.entry) (sym c.if-eq.ensures)
    ∙ ap (λ (n : Numbered). list_any (same_vertex c.args.key) n.keys.vertices) c.self.view_is

pub returns-then-eq-clause-id : goal.returns-then-eq-clause-id
returns-then-eq-clause-id c =
    c.get-number.ensures
    ∙ (known_place same_vertex vertex_sound vertex_itself (vertex_slot c.self.inside.vertex_slots) c.self.inside.vertex_keys.entries c.self.invariant.1
    c.args.key (c.in-Some.field-0-0.now, c.in-Some.known.now)
    (ap (slice_get c.self.inside.vertex_keys.entries) (sym c.get-number.ensures) ∙ sym c.in-Some.ensures.entry) (sym c.if-eq.ensures)
    ∙ ap (λ (n : Numbered). place_of same_vertex n.keys.vertices c.args.key) c.self.view_is)

pub returns-else-eq-clause-found : goal.returns-else-eq-clause-found
returns-else-eq-clause-found c =
    other_key same_vertex vertex_sound vertex_itself (vertex_slot c.self.inside.vertex_slots) c.self.inside.vertex_keys.entries c.self.invariant.1 c.args.key
    (c.in-Some.field-0-0.now, c.in-Some.known.now)
    (ap (slice_get c.self.inside.vertex_keys.entries) (sym c.get-number.ensures) ∙ sym c.in-Some.ensures.entry) (sym c.if-eq.ensures)
    ∙ ap (λ (n : Numbered). list_any (same_vertex c.args.key) n.keys.vertices) c.self.view_is

pub returns-in_default-clause-found : goal.returns-in_default-clause-found
returns-in_default-clause-found c =
    no_key same_vertex vertex_sound vertex_itself (vertex_slot c.self.inside.vertex_slots) c.self.inside.vertex_keys.entries c.self.invariant.1 c.args.key
    (ap (slice_get c.self.inside.vertex_keys.entries) (sym c.get-number.ensures) ∙ sym c.in_default.ensures.entry)
    ∙ ap (λ (n : Numbered). list_any (same_vertex c.args.key) n.keys.vertices) c.self.view_is
