use Rattle.std.proofs.Common.{◌≡◌, ◌∙◌, ◌++◌, ◌∷◌, [], ap, sym}
use Rattle.std.specs.List.{list_any}
use Rattle.std.specs.Map.{values_of}
use Rattle.indexmap.specs.IndexSet.{insert_key}
use Rattle.solid_data.specs.SolidData.{same_vertex}
use Rattle.brep_numbering.specs.Keyed.{vertex_slot}
use Rattle.brep_numbering.specs.Numbered.{Numbered}
use Rattle.brep_numbering.proofs.KeyedKeys.{keyed_still, keyed_more, keys_pushed, keys_more, place_put, vertex_key_is}
use Rattle.brep_numbering.proofs.SameKeys.{vertex_sound, vertex_itself}
use Rattle.brep_numbering.proofs.numbering.Numbering.vertex.Goals as goal

pub invariant_of-self : goal.invariant_of-self
invariant_of-self c = (
  c.self.invariant.0,
  keyed_still same_vertex vertex_sound vertex_itself (vertex_slot c.self.inside.vertex_slots) c.self.inside.vertex_keys.entries c.self.invariant.1 c.args.key
      (sym (c.in_default.ensures.found ∙ ap (λ (n : Numbered). list_any (same_vertex c.args.key) n.keys.vertices) (sym c.self.view_is)))
      (vertex_slot c.set.new.self) (λ x differs. c.set.ensures.others x.«list».0 x.index (λ h. differs (vertex_key_is x c.args.key h.0 h.1))),
  c.self.invariant.2,
)

pub invariant_of-self-in_err-put_both : goal.invariant_of-self-in_err-put_both
invariant_of-self-in_err-put_both c = (
  c.self.invariant.0,
  rw c.in_err-put_both.ensures.err (keyed_still same_vertex vertex_sound vertex_itself
      (vertex_slot c.self.inside.vertex_slots) c.self.inside.vertex_keys.entries c.self.invariant.1 c.args.key
      (sym (c.in_default.ensures.found ∙ ap (λ (n : Numbered). list_any (same_vertex c.args.key) n.keys.vertices) (sym c.self.view_is)))
      (vertex_slot c.set.new.self) (λ x differs. c.in_ok-set.ensures.others x.«list».0 x.index (λ h. differs (vertex_key_is x c.args.key h.0 h.1)))),
  ap values_of c.in_err-put_both.ensures.err ∙ (c.self.invariant.2 ∙ sym c.in_err-put_both.ensures.list_err),
)

pub invariant_of-self-2 : goal.invariant_of-self-2
invariant_of-self-2 c = (
  c.self.invariant.0,
  keyed_more same_vertex vertex_sound vertex_itself (vertex_slot c.self.inside.vertex_slots) c.self.inside.vertex_keys.entries c.self.invariant.1 c.args.key
      (sym (c.in_default.ensures.found ∙ ap (λ (n : Numbered). list_any (same_vertex c.args.key) n.keys.vertices) (sym c.self.view_is)))
      (vertex_slot c.set.new.self) (λ x differs. c.in_ok-set.ensures.others x.«list».0 x.index (λ h. differs (vertex_key_is x c.args.key h.0 h.1)))
      c.in_ok-number.number (c.in_ok-number.ensures ∙ c.len.ensures.len) c.in_ok-set.ensures.set c.put_both.new.map.entries c.in_ok-put_both.ensures.entries,
  keys_pushed same_vertex vertex_sound vertex_itself (vertex_slot c.self.inside.vertex_slots) c.self.inside.vertex_keys.entries c.self.invariant.1 c.args.key
      (sym (c.in_default.ensures.found ∙ ap (λ (n : Numbered). list_any (same_vertex c.args.key) n.keys.vertices) (sym c.self.view_is)))
      (vertex_slot c.set.new.self) (λ x differs. c.in_ok-set.ensures.others x.«list».0 x.index (λ h. differs (vertex_key_is x c.args.key h.0 h.1)))
      c.in_ok-number.number (c.in_ok-number.ensures ∙ c.len.ensures.len) c.in_ok-set.ensures.set c.put_both.new.map.entries c.in_ok-put_both.ensures.entries
      ∙ (ap (λ ks. ks ++ c.args.key ∷ []) c.self.invariant.2 ∙ sym c.in_ok-put_both.ensures.list),
)

pub returns-clause-keys : goal.returns-clause-keys
returns-clause-keys c =
    let vertices : values_of c.put_both.new.map.entries ≡ insert_key same_vertex (values_of c.self.inside.vertex_keys.entries) c.args.key =
    keys_more same_vertex vertex_sound vertex_itself (vertex_slot c.self.inside.vertex_slots) c.self.inside.vertex_keys.entries c.self.invariant.1
    c.args.key
    (sym (c.in_default.ensures.found ∙ ap (λ (n : Numbered). list_any (same_vertex c.args.key) n.keys.vertices) (sym c.self.view_is)))
    (vertex_slot c.set.new.self) (λ x differs. c.in_ok-set.ensures.others x.«list».0 x.index (λ h. differs (vertex_key_is x c.args.key h.0 h.1)))
    c.in_ok-number.number (c.in_ok-number.ensures ∙ c.len.ensures.len) c.in_ok-set.ensures.set c.put_both.new.map.entries c.in_ok-put_both.ensures.entries in
    λ j. record {
      keys = record {
        edges = (c.self.view_is j).keys.edges;
        vertices =
            (vertices ∙ ap (λ (n : Numbered). insert_key same_vertex n.keys.vertices c.args.key) c.self.view_is) j;
      };
      edges = (c.self.view_is j).edges;
    }

pub returns-clause-id : goal.returns-clause-id
returns-clause-id c =
    place_put same_vertex vertex_sound vertex_itself (vertex_slot c.set.new.self) c.put_both.new.map.entries
    (keyed_more same_vertex vertex_sound vertex_itself (vertex_slot c.self.inside.vertex_slots) c.self.inside.vertex_keys.entries c.self.invariant.1
    c.args.key
    (sym (c.in_default.ensures.found ∙ ap (λ (n : Numbered). list_any (same_vertex c.args.key) n.keys.vertices) (sym c.self.view_is)))
    (vertex_slot c.set.new.self) (λ x differs. c.in_ok-set.ensures.others x.«list».0 x.index (λ h. differs (vertex_key_is x c.args.key h.0 h.1)))
    c.in_ok-number.number (c.in_ok-number.ensures ∙ c.len.ensures.len) c.in_ok-set.ensures.set c.put_both.new.map.entries c.in_ok-put_both.ensures.entries)
    (values_of c.self.inside.vertex_keys.entries) c.args.key c.in_ok-number.number c.in_ok-set.ensures.set
    (keys_more same_vertex vertex_sound vertex_itself (vertex_slot c.self.inside.vertex_slots) c.self.inside.vertex_keys.entries c.self.invariant.1
    c.args.key
    (sym (c.in_default.ensures.found ∙ ap (λ (n : Numbered). list_any (same_vertex c.args.key) n.keys.vertices) (sym c.self.view_is)))
    (vertex_slot c.set.new.self) (λ x differs. c.in_ok-set.ensures.others x.«list».0 x.index (λ h. differs (vertex_key_is x c.args.key h.0 h.1)))
    c.in_ok-number.number (c.in_ok-number.ensures ∙ c.len.ensures.len) c.in_ok-set.ensures.set c.put_both.new.map.entries c.in_ok-put_both.ensures.entries)
