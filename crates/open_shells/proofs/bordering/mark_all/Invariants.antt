use Rattle.std.proofs.Common.{◌≡◌, ℕ, get_or, take, vec_len}
use Rattle.std.specs.Prelude.{◌↔◌, ◌⊎◌, true, false}
use Rattle.solid_data.proofs.Members.{Has}
use Rattle.shell_reach.specs.Reaching.{row_numbers}
use Rattle.open_shells.proofs.bordering.mark_all.Given as goal

abbrev pub invariant-rows : goal.invariant-rows
invariant-rows l = record {
  len : vec_len l.seen ≡ vec_len l.fn.seen;
  marks : (x : ℕ) → (get_or l.seen.items x false ≡ true) ↔ ((get_or l.fn.seen.items x false ≡ true) ⊎ Has (row_numbers (take l.i l.rows)) x);
}
