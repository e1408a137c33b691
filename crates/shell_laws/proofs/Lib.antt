pub mod TurnedRows
pub mod TurnedShell
pub mod RenumberedRows
pub mod RenumberedShell
