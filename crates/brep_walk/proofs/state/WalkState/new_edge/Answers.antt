use Rattle.std.proofs.Common.{◌∙◌, refl, pos}
use Rattle.indexmap.specs.IndexSet.{insert_key}
use Rattle.solid_data.specs.SolidData.{same_edge, same_vertex}
use Rattle.brep_walk.proofs.KnownEdges.{put_edge}
use Rattle.brep_walk.proofs.Used.{edges_put}
use Rattle.brep_walk.proofs.state.WalkState.new_edge.Goals as goal

pub returns-clause-stands : goal.returns-clause-stands
returns-clause-stands c =
    let old = c.args.self.now.numbering in
    let ends = c.in_ok-from.ensures.ends in
    let put = c.in_ok-new_edge.ensures in
    record {
      file = c.in_ok-from.ensures.file;
      edges = edges_put c.args.self.now.lists (pos c.args.key.«list».0) (pos c.args.key.index) old c.new_edge.new.self c.args.key c.args.ends c.in_ok-from.from
          c.in_ok-from.to c.requires.stands.edges
          refl c.requires.ends ends.0 ends.1 put.keys put.edges;
      known = put_edge c.args.self.now.lists old.keys c.new_edge.new.self.keys c.args.key c.args.ends c.requires.stands.known c.requires.ends
          c.in_ok-from.ensures.holds
          (put.keys ∙ (λ j. record {
            edges = insert_key same_edge old.keys.edges c.args.key;
            vertices =
                insert_key same_vertex (insert_key same_vertex old.keys.vertices (ends.0 j)) (ends.1 j);
          }));
    }
