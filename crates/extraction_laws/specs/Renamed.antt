-- The rules on the shells of solids that differ only in names.
use Rattle.std.specs.Prelude.{◌≡◌, ℕ}
use Rattle.solid_data.specs.SolidData.{SolidData}
use Rattle.solid_data.specs.Obligations.{FirstFalse}
use Rattle.solid_data.specs.declared.solid.EdgeKey.{EdgeKey}
use Rattle.solid_data.specs.declared.solid.VertexKey.{VertexKey}
use Rattle.solid_data.specs.declared.verdict.Failing.{Failing}
use Rattle.solid_data.specs.declared.verdict.Rule.{Rule}
use Rattle.solid_data.specs.declared.verdict.Rule.TheVariants.{Unpaired, Unlinked, Shared}
use Rattle.shell_rules.specs.ShellObligations.{solid_obligations}
use Rattle.extraction_laws.specs.Alike.{AllAlike, KeepsVerdictAs}
use Rattle.extraction_laws.specs.Relabelled.{Names, IsRelabelled, AreNamedAlike}

-- a new number for each entity, and a new list and index for each edge and vertex
pub record Renaming : Type 0 where
  pub entity : ℕ → ℕ
  pub edge : EdgeKey → EdgeKey
  pub vertex : VertexKey → VertexKey

-- b is the new name of a
abbrev pub new_names : Renaming → Names
new_names r = record { entity = λ a b. b ≡ r.entity a; edge = λ a b. b ≡ r.edge a; vertex = λ a b. b ≡ r.vertex a }

-- Item by item their obligations are false at the same loops, edges, faces and vertices.
abbrev pub RenamedFailAlike : Type 0
RenamedFailAlike = (r : Renaming) (s t : SolidData) → IsRelabelled (new_names r) s t
    → AllAlike (AreNamedAlike (new_names r)) (solid_obligations s) (solid_obligations t)

-- what the rule names at this place of this entity, an edge, a vertex or the place itself, under its new name
abbrev pub renamed_place : Renaming → Rule → ℕ → ℕ → ℕ × ℕ
renamed_place r Unpaired e i = let key = r.edge (record { «list» = record { 0 = e }; index = i }) in (key.«list».0, key.index)
renamed_place r Unlinked e i = let key = r.vertex (record { «list» = record { 0 = e }; index = i }) in (key.«list».0, key.index)
renamed_place r Shared e i = let key = r.vertex (record { «list» = record { 0 = e }; index = i }) in (key.«list».0, key.index)
renamed_place r _ e i = (r.entity e, i)

abbrev pub under_new_name : Renaming → Failing → Failing
under_new_name r x = let named = renamed_place r x.rule x.entity.0 x.place in record x { entity = record { 0 = named.0 }; place = named.1 }

-- So a solid under new names fails the rule that it failed, at the new name of the same place.
abbrev pub RenamedKeepsVerdict : Type 0
RenamedKeepsVerdict = (r : Renaming) (s t : SolidData) → IsRelabelled (new_names r) s t
    → KeepsVerdictAs (under_new_name r) (solid_obligations s) (solid_obligations t)

-- no two names become one
pub record IsOneToOne (r : Renaming) : Type 0 where
  pub entity : (a b : ℕ) → r.entity a ≡ r.entity b → a ≡ b
  pub edge : (a b : EdgeKey) → r.edge a ≡ r.edge b → a ≡ b
  pub vertex : (a b : VertexKey) → r.vertex a ≡ r.vertex b → a ≡ b

-- Where no two names become one, the new name of a place says which place failed.
abbrev pub RenamedTellsPlace : Type 0
RenamedTellsPlace = (r : Renaming) (s t : SolidData) → IsOneToOne r → IsRelabelled (new_names r) s t → (x : Failing)
    → FirstFalse (solid_obligations t) (under_new_name r x) → FirstFalse (solid_obligations s) x
