-- What an error names.
use Rattle.std.specs.Prelude.{ℕ, ⊤}
use Rattle.solid_data.specs.Obligations.{FirstNot}
use Rattle.edge_uses.specs.ShellRows.{ShellRows}
use Rattle.edge_uses.specs.RowRelations.{IsPaired}
use Rattle.edge_uses.specs.declared.fault.PairFault.{PairFault}
use Rattle.edge_uses.specs.declared.fault.PairFault.TheVariants.{Unpaired, NoMemory}

-- the least edge that isn't paired
abbrev pub IsPairFault : ShellRows → PairFault → Type 0
IsPairFault d (Unpaired e) = FirstNot (IsPaired d) d.edges e.0
IsPairFault d NoMemory = ⊤
