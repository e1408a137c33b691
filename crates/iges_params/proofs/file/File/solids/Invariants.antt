use Rattle.std.proofs.Common.{◌≡◌, ◌++◌, drop}
use Rattle.iges_params.specs.Solids.{numbers_of, solids_from, solids_of}
use Rattle.iges_params.proofs.file.File.solids.Given as goal

-- the numbers so far, and those of the entries that are left, are those of all
abbrev pub invariant-entries : goal.invariant-entries
invariant-entries l = numbers_of l.list ++ solids_from l.i (drop l.i l.self.entries) ≡ solids_of l.self
