-- The solid of a file whose unused items are dropped: each index is the rank that it had.
use Rattle.std.specs.Prelude.{◌≡◌, ℕ, true, ◌++◌}
use Rattle.iges_params.specs.Contents.{Contents}
use Rattle.brep_walk.specs.Places.{places}
use Rattle.brep_walk.specs.SolidOf.{solid_of}
use Rattle.solid_data.specs.Obligations.{AllHold}
use Rattle.solid_data.specs.declared.solid.EdgeKey.{EdgeKey}
use Rattle.solid_data.specs.declared.solid.VertexKey.{VertexKey}
use Rattle.solid_data.specs.declared.verdict.Failing.{Failing}
use Rattle.solid_data.specs.declared.verdict.Rule.{Rule}
use Rattle.solid_data.specs.declared.verdict.Rule.TheVariants.{Unpaired, Unlinked, Shared}
use Rattle.shell_rules.specs.ShellObligations.{solid_obligations}
use Rattle.extraction_laws.specs.Alike.{KeepsVerdictAs}
use Rattle.extraction_laws.specs.Relabelled.{Names, IsRelabelled}
use Rattle.list_compact.specs.Used.{rank, is_used_edge, is_used_vertex}
use Rattle.list_compact.specs.Dropped.{dropped}

-- a used edge of the same list, by its rank
pub record IsRankedEdge (g : Contents) (a b : EdgeKey) : Type 0 where
  pub same : b.«list» ≡ a.«list»
  pub used : is_used_edge g a.«list».0 a.index ≡ true
  pub index : b.index ≡ rank (is_used_edge g a.«list».0) a.index

pub record IsRankedVertex (g : Contents) (a b : VertexKey) : Type 0 where
  pub same : b.«list» ≡ a.«list»
  pub used : is_used_vertex g a.«list».0 a.index ≡ true
  pub index : b.index ≡ rank (is_used_vertex g a.«list».0) a.index

-- entities keep their numbers
abbrev pub ranked_names : Contents → Names
ranked_names g = record { entity = λ a b. b ≡ a; edge = IsRankedEdge g; vertex = IsRankedVertex g }

-- Where the places hold, the solid is the same with each list index by its rank; edges and vertices keep their order.
abbrev pub SolidIsRanked : Type 0
SolidIsRanked = (g : Contents) (n : ℕ) → AllHold (places g n) → IsRelabelled (ranked_names g) (solid_of g n) (solid_of (dropped g) n)

-- the place by its rank where the rule names an edge or a vertex
abbrev pub ranked_place : Contents → Rule → ℕ → ℕ → ℕ
ranked_place g Unpaired e j = rank (is_used_edge g e) j
ranked_place g Unlinked v j = rank (is_used_vertex g v) j
ranked_place g Shared v j = rank (is_used_vertex g v) j
ranked_place g _ e j = j

abbrev pub ranked_failing : Contents → Failing → Failing
ranked_failing g x = record x { place = ranked_place g x.rule x.entity.0 x.place }

-- So the solid has the verdict that it had, at the rank of the place.
abbrev pub VerdictIsRanked : Type 0
VerdictIsRanked = (g : Contents) (n : ℕ) → AllHold (places g n) → KeepsVerdictAs (ranked_failing g) (places g n ++ solid_obligations (solid_of g n))
    (places (dropped g) n ++ solid_obligations (solid_of (dropped g) n))
