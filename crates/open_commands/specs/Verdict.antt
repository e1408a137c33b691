-- The verdict on a shell of a file, as an open one; what is checked of it before the lines of a certificate, and which certificates are accepted.
use Rattle.std.specs.Prelude.{ℕ, List, ◌++◌}
use Rattle.iges_params.specs.Contents.{Contents}
use Rattle.brep_walk.specs.OpenPlaces.{open_places, shell_solid_of}
use Rattle.solid_data.specs.Obligations.{AllHold, Obligation, of_each, FirstFalse}
use Rattle.open_certificate.specs.Legal.{AllJoin, IsOpenLegal}
use Rattle.open_commands.specs.Opening.{OpensShell}
use Rattle.solid_data.specs.SolidData.{SolidData}
use Rattle.edge_uses.specs.Joins.{join_obligations}
use Rattle.solid_data.specs.declared.verdict.Failing.{Failing}
use Rattle.open_certificate.specs.Obligations.{open_obligations, AllHold as AllRulesHold, FirstFalse as FirstRuleFalse}
use Rattle.open_certificate.specs.declared.verdict.OpenFailing.{OpenFailing}

-- It is sound; or a rule on its records fails, or one on the shell that they describe.
pub data OpenVerdict : Type 0 where
  sound : OpenVerdict
  misplaced : Failing → OpenVerdict
  unsound : OpenFailing → OpenVerdict

-- the verdict on shell n: its places come first, and then the shell itself
abbrev pub IsOpenVerdict : Contents → ℕ → OpenVerdict → Type 0
IsOpenVerdict f n sound = AllHold (open_places f n) × AllRulesHold (open_obligations (shell_solid_of f n))
IsOpenVerdict f n (misplaced x) = FirstFalse (open_places f n) x
IsOpenVerdict f n (unsound x) = AllHold (open_places f n) × FirstRuleFalse (open_obligations (shell_solid_of f n)) x

-- each loop joins
abbrev pub joins : SolidData → List Obligation
joins s = of_each (join_obligations s) s.shells

-- the places of shell n, and then its loops
unfoldable pub open_checked : Contents → ℕ → List Obligation
open_checked f n = open_places f n ++ joins (shell_solid_of f n)

-- The certificate names shell n, whose places hold and whose loops join, and its lines from line 2 on are legal, END the last of them.
pub record IsOpenAcceptedFor (f : Contents) (certificate : List ℕ) (n : ℕ) : Type 0 where
  pub lines : List (List ℕ)
  pub opens : OpensShell certificate n lines
  pub placed : AllHold (open_places f n)
  pub joined : AllJoin (shell_solid_of f n)
  pub legal : IsOpenLegal (shell_solid_of f n) lines
