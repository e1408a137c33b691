use Rattle.std.proofs.Common.{◌≡◌, ◌∙◌, ◌++◌, ◌∷◌, [], ap}
use Rattle.std.specs.List.{list_any}
use Rattle.std.specs.Map.{values_of}
use Rattle.indexmap.specs.IndexSet.{insert_key}
use Rattle.solid_data.specs.SolidData.{same_edge}
use Rattle.brep_numbering.specs.Keyed.{edge_slot}
use Rattle.brep_numbering.specs.Numbered.{Numbered}
use Rattle.brep_numbering.proofs.KeyedKeys.{keyed_still, keyed_more, keys_more, place_put, edge_key_is}
use Rattle.brep_numbering.proofs.SameKeys.{edge_sound, edge_itself}
use Rattle.brep_numbering.proofs.numbering.Numbering.put_edge.Goals as goal

pub invariant_of-self : goal.invariant_of-self
invariant_of-self c = (
  keyed_still same_edge edge_sound edge_itself (edge_slot c.self.inside.edge_slots) c.self.inside.edge_keys.entries c.self.invariant.0 c.args.edge.key
      (ap (λ (n : Numbered). list_any (same_edge c.args.edge.key) n.keys.edges) c.self.view_is ∙ c.requires)
      (edge_slot c.set.new.self) (λ x differs. c.set.ensures.others x.«list».0 x.index (λ h. differs (edge_key_is x c.args.edge.key h.0 h.1))),
  c.self.invariant.1,
  c.self.invariant.2,
)

pub invariant_of-self-in_err-put_both : goal.invariant_of-self-in_err-put_both
invariant_of-self-in_err-put_both c = (
  rw c.in_err-put_both.ensures.err (keyed_still same_edge edge_sound edge_itself
      (edge_slot c.self.inside.edge_slots) c.self.inside.edge_keys.entries c.self.invariant.0 c.args.edge.key
      (ap (λ (n : Numbered). list_any (same_edge c.args.edge.key) n.keys.edges) c.self.view_is ∙ c.requires)
      (edge_slot c.set.new.self) (λ x differs. c.in_ok-set.ensures.others x.«list».0 x.index (λ h. differs (edge_key_is x c.args.edge.key h.0 h.1)))),
  c.self.invariant.1,
  c.self.invariant.2,
)

pub invariant_of-self-2 : goal.invariant_of-self-2
invariant_of-self-2 c = (
  keyed_more same_edge edge_sound edge_itself (edge_slot c.self.inside.edge_slots) c.self.inside.edge_keys.entries c.self.invariant.0 c.args.edge.key
      (ap (λ (n : Numbered). list_any (same_edge c.args.edge.key) n.keys.edges) c.self.view_is ∙ c.requires)
      (edge_slot c.set.new.self) (λ x differs. c.in_ok-set.ensures.others x.«list».0 x.index (λ h. differs (edge_key_is x c.args.edge.key h.0 h.1)))
      c.in_ok-number.number (c.in_ok-number.ensures ∙ c.len.ensures.len) c.in_ok-set.ensures.set c.put_both.new.map.entries c.in_ok-put_both.ensures.entries,
  c.self.invariant.1,
  c.self.invariant.2,
)

pub returns-clause-put : goal.returns-clause-put
returns-clause-put c =
    let edges : values_of c.put_both.new.map.entries ≡ insert_key same_edge (values_of c.self.inside.edge_keys.entries) c.args.edge.key =
    keys_more same_edge edge_sound edge_itself (edge_slot c.self.inside.edge_slots) c.self.inside.edge_keys.entries c.self.invariant.0 c.args.edge.key
    (ap (λ (n : Numbered). list_any (same_edge c.args.edge.key) n.keys.edges) c.self.view_is ∙ c.requires)
    (edge_slot c.set.new.self) (λ x differs. c.in_ok-set.ensures.others x.«list».0 x.index (λ h. differs (edge_key_is x c.args.edge.key h.0 h.1)))
    c.in_ok-number.number (c.in_ok-number.ensures ∙ c.len.ensures.len) c.in_ok-set.ensures.set c.put_both.new.map.entries c.in_ok-put_both.ensures.entries in
    λ j. record {
      keys = record {
        edges = (edges ∙ ap (λ (n : Numbered). insert_key same_edge n.keys.edges c.args.edge.key) c.self.view_is) j;
        vertices =
            (c.self.view_is j).keys.vertices;
      };
      edges = (c.in_ok-put_both.ensures.list ∙ ap (λ (n : Numbered). n.edges ++ c.args.edge ∷ []) c.self.view_is) j;
    }

pub returns-clause-id : goal.returns-clause-id
returns-clause-id c =
    place_put same_edge edge_sound edge_itself (edge_slot c.set.new.self) c.put_both.new.map.entries
    (keyed_more same_edge edge_sound edge_itself (edge_slot c.self.inside.edge_slots) c.self.inside.edge_keys.entries c.self.invariant.0 c.args.edge.key
    (ap (λ (n : Numbered). list_any (same_edge c.args.edge.key) n.keys.edges) c.self.view_is ∙ c.requires)
    (edge_slot c.set.new.self) (λ x differs. c.in_ok-set.ensures.others x.«list».0 x.index (λ h. differs (edge_key_is x c.args.edge.key h.0 h.1)))
    c.in_ok-number.number (c.in_ok-number.ensures ∙ c.len.ensures.len) c.in_ok-set.ensures.set c.put_both.new.map.entries c.in_ok-put_both.ensures.entries)
    (values_of c.self.inside.edge_keys.entries) c.args.edge.key c.in_ok-number.number c.in_ok-set.ensures.set
    (keys_more same_edge edge_sound edge_itself (edge_slot c.self.inside.edge_slots) c.self.inside.edge_keys.entries c.self.invariant.0 c.args.edge.key
    (ap (λ (n : Numbered). list_any (same_edge c.args.edge.key) n.keys.edges) c.self.view_is ∙ c.requires)
    (edge_slot c.set.new.self) (λ x differs. c.in_ok-set.ensures.others x.«list».0 x.index (λ h. differs (edge_key_is x c.args.edge.key h.0 h.1)))
    c.in_ok-number.number (c.in_ok-number.ensures ∙ c.len.ensures.len) c.in_ok-set.ensures.set c.put_both.new.map.entries c.in_ok-put_both.ensures.entries)
