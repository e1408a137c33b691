-- The obligations on an open shell, in order, and the first that is false.
use Rattle.std.specs.Prelude.{◌≡◌, ℕ, List, [], ◌∷◌, ◌++◌, ◌⊎◌, ⊤, map, codes, slice_get}
use Rattle.iges_base.specs.declared.entry_no.EntryNo.{EntryNo}
use Rattle.solid_data.specs.SolidData.{SolidData, edge_name, vertex_name}
use Rattle.solid_data.specs.Obligations.{Obligation}
use Rattle.solid_data.specs.declared.solid.Shell.{Shell}
use Rattle.edge_uses.specs.ShellRows.{ShellRows, shell_rows}
use Rattle.edge_uses.specs.Joins.{join_obligations}
use Rattle.shell_rules.specs.ShellObligations.{reach_obligations}
use Rattle.open_certificate.specs.Sound.{IsOnce, IsFanned}
use Rattle.open_certificate.specs.declared.verdict.OpenRule.{OpenRule}
use Rattle.open_certificate.specs.declared.verdict.OpenRule.TheVariants.{Join, Edge, Reach, Fan}
use Rattle.open_certificate.specs.declared.verdict.OpenFailing.{OpenFailing}

abbrev pub rule_name : OpenRule → List ℕ
rule_name Join = codes "JOIN"
rule_name Edge = codes "EDGE"
rule_name Reach = codes "REACH"
rule_name Fan = codes "FAN"

-- What must hold, and what is named where it doesn't: the rule, the entity, and the item of the entity's record, from 1, or 0 for the entity itself.
pub record OpenObligation : Type 1 where
  pub failing : OpenFailing
  pub holds : Type 0

abbrev pub AllHold : List OpenObligation → Type 0
AllHold [] = ⊤
AllHold (o ∷ os) = o.holds × AllHold os

-- x names the first that is false: all before it hold
abbrev pub FirstFalse : List OpenObligation → OpenFailing → Type 0
FirstFalse [] x = ⊥
FirstFalse (o ∷ os) x = (¬ o.holds × (x ≡ o.failing)) ⊎ (o.holds × FirstFalse os x)

abbrev pub open_failing : OpenRule → EntryNo → ℕ → OpenFailing
open_failing rule entity place = record { rule = rule; entity = entity; place = place }

abbrev pub open_obligation : OpenRule → EntryNo → ℕ → Type 0 → OpenObligation
open_obligation rule entity place holds = record { failing = open_failing rule entity place; holds = holds }

-- an obligation on a closed shell that is one on an open shell too
abbrev pub as_open : OpenRule → Obligation → OpenObligation
as_open rule o = open_obligation rule o.failing.entity o.failing.place o.holds

abbrev pub edge_obligation : SolidData → ShellRows → ℕ → OpenObligation
edge_obligation s d e = open_obligation Edge (edge_name (slice_get s.edges e)).«list» (edge_name (slice_get s.edges e)).index (IsOnce d e)

abbrev pub fan_obligation : SolidData → ShellRows → ℕ → OpenObligation
fan_obligation s d v = open_obligation Fan (vertex_name (slice_get s.vertices v)).«list» (vertex_name (slice_get s.vertices v)).index (IsFanned d v)

-- Each loop joins; each edge, by rising number, is used once or by mates; each face is reached; each vertex, by rising number, has one fan.
unfoldable pub open_shell_obligations : SolidData → Shell → List OpenObligation
open_shell_obligations s shell =
    let d = shell_rows s shell in
    map (as_open Join) (join_obligations s shell) ++ map (edge_obligation s d) d.edges ++ map (as_open Reach) (reach_obligations shell d)
    ++ map (fan_obligation s d) d.vertices

abbrev pub of_shells : SolidData → List Shell → List OpenObligation
of_shells s [] = []
of_shells s (h ∷ hs) = open_shell_obligations s h ++ of_shells s hs

-- those of a solid that is one open shell
abbrev pub open_obligations : SolidData → List OpenObligation
open_obligations s = of_shells s s.shells
