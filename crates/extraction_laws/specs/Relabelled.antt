-- Solids that differ only in the names of their entities, edges and vertices.
use Rattle.std.specs.Prelude.{◌≡◌, ℕ}
use Rattle.std.specs.List.{AllZip}
use Rattle.solid_data.specs.SolidData.{SolidData}
use Rattle.solid_data.specs.declared.solid.Edge.{Edge}
use Rattle.solid_data.specs.declared.solid.EdgeKey.{EdgeKey}
use Rattle.solid_data.specs.declared.solid.VertexKey.{VertexKey}
use Rattle.solid_data.specs.declared.solid.Loop.{Loop}
use Rattle.solid_data.specs.declared.solid.FaceUse.{FaceUse}
use Rattle.solid_data.specs.declared.solid.Shell.{Shell}
use Rattle.solid_data.specs.declared.verdict.Failing.{Failing}
use Rattle.solid_data.specs.declared.verdict.Rule.{Rule}
use Rattle.solid_data.specs.declared.verdict.Rule.TheVariants.{Unpaired, Unlinked, Shared}

-- Which numbers of entities are related, which keys of edges, and which keys of vertices.
pub record Names : Type 1 where
  pub entity : ℕ → ℕ → Type 0
  pub edge : EdgeKey → EdgeKey → Type 0
  pub vertex : VertexKey → VertexKey → Type 0

pub record IsRelabelledLoop (N : Names) (a b : Loop) : Type 0 where
  pub entity : N.entity a.entity.0 b.entity.0
  pub uses : a.uses ≡ b.uses

pub record IsRelabelledFace (N : Names) (a b : FaceUse) : Type 0 where
  pub entity : N.entity a.entity.0 b.entity.0
  pub flag : a.flag ≡ b.flag
  pub loops : AllZip (IsRelabelledLoop N) a.loops b.loops

pub record IsRelabelledShell (N : Names) (a b : Shell) : Type 0 where
  pub entity : N.entity a.entity.0 b.entity.0
  pub flag : a.flag ≡ b.flag
  pub faces : AllZip (IsRelabelledFace N) a.faces b.faces

pub record IsRelabelledEdge (N : Names) (a b : Edge) : Type 0 where
  pub key : N.edge a.key b.key
  pub from : a.from ≡ b.from
  pub to : a.to ≡ b.to

-- Shells, faces, loops, edges and vertices are the same, in the same order, but for their names.
pub record IsRelabelled (N : Names) (s t : SolidData) : Type 0 where
  pub entity : N.entity s.entity.0 t.entity.0
  pub shells : AllZip (IsRelabelledShell N) s.shells t.shells
  pub edges : AllZip (IsRelabelledEdge N) s.edges t.edges
  pub vertices : AllZip N.vertex s.vertices t.vertices

-- What the rule names, at this place of this entity, is related: an edge, a vertex, or the place itself of a related entity.
abbrev pub AreNamed : Names → Rule → ℕ → ℕ → ℕ → ℕ → Type 0
AreNamed N Unpaired e i f j = N.edge (record { «list» = record { 0 = e }; index = i }) (record { «list» = record { 0 = f }; index = j })
AreNamed N Unlinked e i f j = N.vertex (record { «list» = record { 0 = e }; index = i }) (record { «list» = record { 0 = f }; index = j })
AreNamed N Shared e i f j = N.vertex (record { «list» = record { 0 = e }; index = i }) (record { «list» = record { 0 = f }; index = j })
AreNamed N _ e i f j = N.entity e f × (i ≡ j)

-- the same rule, of what is related
pub record AreNamedAlike (N : Names) (x y : Failing) : Type 0 where
  pub rule : x.rule ≡ y.rule
  pub named : AreNamed N x.rule x.entity.0 x.place y.entity.0 y.place

-- Numbers of entities that R relates, and keys whose lists have such numbers and whose indices are the same.
abbrev pub renumbered : (ℕ → ℕ → Type 0) → Names
renumbered R = record {
  entity = R;
  edge = λ a b. R a.«list».0 b.«list».0 × (a.index ≡ b.index);
  vertex = λ a b. R a.«list».0 b.«list».0 × (a.index ≡ b.index);
}
