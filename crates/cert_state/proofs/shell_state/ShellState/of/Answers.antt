use Rattle.std.proofs.Common.{refl}
use Rattle.cert_state.proofs.Arrays.{no_mates, none_in_zeros, zeros, length_zeros}
use Rattle.cert_state.proofs.shell_state.ShellState.of.Goals as goal

pub invariant_of-result : goal.invariant_of-result
invariant_of-result c =
    let mates = c.in_ok-tables.tables.mates.items in
    record {
      sizes = c.in_ok-tables.ensures.sizes.rows;
      alone = c.in_ok-tables.ensures.sizes.alone;
      in_order = c.requires.order;
      each_row = length_zeros mates _ c.in_ok-tables.ensures.mates;
      each_face = c.in_ok-tables.ensures.len;
      few = c.of_shell-due.ensures.few;
      passed = λ r m is. absurd (none_in_zeros mates r m (zeros mates _ c.in_ok-tables.ensures.mates) is);
    }

pub returns : goal.returns
returns c = record {
  rows = refl;
  loops = refl;
  due = c.of_shell-due.ensures.all;
  last_edge = refl;
  last_vertex = refl;
  mates = no_mates c.in_ok-tables.tables.mates.items (zeros c.in_ok-tables.tables.mates.items _ c.in_ok-tables.ensures.mates);
  reached = c.in_ok-tables.ensures.first;
}
