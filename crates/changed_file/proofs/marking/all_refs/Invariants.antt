use Rattle.std.proofs.Common.{◌≡◌, ◌++◌, drop, flat_map}
use Rattle.changed_file.specs.Emptied.{refs_of}
use Rattle.changed_file.proofs.marking.all_refs.Given as goal

abbrev pub invariant-entries : goal.invariant-entries
invariant-entries l = l.out.items ++ flat_map (refs_of l.file) (drop l.i l.file.entries) ≡ flat_map (refs_of l.file) l.file.entries
