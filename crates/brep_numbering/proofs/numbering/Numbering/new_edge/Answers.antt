use Rattle.brep_numbering.proofs.KeyPlaces.{edge_put}
use Rattle.brep_numbering.proofs.numbering.Numbering.new_edge.Goals as goal

pub returns-clause-edges : goal.returns-clause-edges
returns-clause-edges c =
    edge_put c.args.self.now c.vertex.new.self c.vertex-2.new.self c.put_edge.new.self c.args.key c.args.from c.args.to
    c.in_ok-from.from c.in_ok-to.to c.put_edge.result c.requires
    c.in_ok-from.ensures.keys c.in_ok-from.ensures.id c.in_ok-to.ensures.keys c.in_ok-to.ensures.id c.put_edge.ensures.put
