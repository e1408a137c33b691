use Rattle.std.proofs.Common.{arith}
use Rattle.cert_state.proofs.Short.{few_tallies}
use Rattle.cert_state.proofs.due.Due.of_shell.Goals as goal

pub returns-clause-few : goal.returns-clause-few
returns-clause-few c = omega (
  arith,
  c.requires.few_edges,
  c.requires.few_vertices,
  c.edge_count.ensures,
  c.vertex_count.ensures,
  c.face_count.ensures,
  c.len-count.ensures.kept.few_faces,
  few_tallies c.args.version,
  c.tallies.ensures,
)
