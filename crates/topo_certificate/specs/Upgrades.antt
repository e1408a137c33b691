-- Why a certificate is not upgraded.
use Rattle.std.specs.Prelude.{⊤}
use Rattle.topo_certificate.specs.declared.upgrading.UpgradeFault.{UpgradeFault}
use Rattle.topo_certificate.specs.declared.upgrading.UpgradeFault.TheVariants.{TooLarge, NoMemory}

-- the text is too large, which is this, or memory ran out
abbrev pub IsUpgradeFault : Type 0 → UpgradeFault → Type 0
IsUpgradeFault Large TooLarge = Large
IsUpgradeFault Large NoMemory = ⊤
