use Rattle.std.proofs.Common.{◌≡◌, map, take}
use Rattle.std.specs.Prelude.{pos}
use Rattle.std.specs.List.{enumerate_from}
use Rattle.brep_walk.specs.Places.{numbers, shells}
use Rattle.solid_reorient.specs.Reflagged.{reflagged_record}
use Rattle.solid_reorient.proofs.Emptied.{IsEmptied}
use Rattle.solid_reorient.proofs.reflagging.reflagged.Given as goal

abbrev pub invariant-entries : goal.invariant-entries
invariant-entries l = record {
  left : IsEmptied l.fn.file l.file l.i;
  entries : l.new.entries ≡ map (reflagged_record l.flags (numbers (shells l.fn.file (pos l.fn.no.0)))) (take l.i (enumerate_from 0 l.fn.file.entries));
}
