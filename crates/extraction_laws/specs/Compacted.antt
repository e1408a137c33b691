-- The compacted solid and its verdict: entities under the numbers of both extractions, list indices by their ranks.
use Rattle.std.specs.Prelude.{◌≡◌, ◌↔◌, ℕ, true, Contains}
use Rattle.iges_params.specs.Contents.{Contents}
use Rattle.brep_walk.specs.SolidOf.{solid_of}
use Rattle.solid_data.specs.declared.solid.EdgeKey.{EdgeKey}
use Rattle.solid_data.specs.declared.solid.VertexKey.{VertexKey}
use Rattle.solid_data.specs.declared.verdict.Verdict.{Verdict}
use Rattle.solid_data.specs.declared.verdict.Verdict.TheVariants.{Closed, Fails}
use Rattle.solid_verdict.specs.Closed.{IsClosed, IsVerdictOn}
use Rattle.solid_extract.specs.Extracted.{new_number}
use Rattle.extraction_laws.specs.KeptVerdict.{renamed_verdict}
use Rattle.list_compact.specs.Used.{rank, is_used_edge, is_used_vertex}
use Rattle.list_compact.specs.Compacted.{IsCompacted}
use Rattle.extraction_laws.specs.Relabelled.{Names, IsRelabelled}
use Rattle.extraction_laws.specs.Ranked.{ranked_failing}

module _ (f : Contents) (n : ℕ) (new : Contents) (c : IsCompacted f n new) where
  -- the number of an entity once its solid is extracted, and once it is extracted again
  abbrev pub number_between : ℕ → ℕ
  number_between m = new_number c.extracted.kept m

  abbrev pub number_after : ℕ → ℕ
  number_after m = new_number c.again.kept (number_between m)

  -- the entity is kept twice, and this is its new number
  pub record IsNumbered (m k : ℕ) : Type 0 where
    pub kept : Contains c.extracted.kept m
    pub again : Contains c.again.kept (number_between m)
    pub is : k ≡ number_after m

  -- the list is kept, and the index is the rank of the one that was used
  pub record IsRankedEdge (a b : EdgeKey) : Type 0 where
    pub «list» : IsNumbered a.«list».0 b.«list».0
    pub used : is_used_edge c.«between» (number_between a.«list».0) a.index ≡ true
    pub index : b.index ≡ rank (is_used_edge c.«between» (number_between a.«list».0)) a.index

  pub record IsRankedVertex (a b : VertexKey) : Type 0 where
    pub «list» : IsNumbered a.«list».0 b.«list».0
    pub used : is_used_vertex c.«between» (number_between a.«list».0) a.index ≡ true
    pub index : b.index ≡ rank (is_used_vertex c.«between» (number_between a.«list».0)) a.index

  abbrev pub compacted_names : Names
  compacted_names = record { entity = IsNumbered; edge = IsRankedEdge; vertex = IsRankedVertex }

-- the same at the rank of the place, where the rule names an edge or a vertex
abbrev pub ranked_verdict : Contents → Verdict → Verdict
ranked_verdict g Closed = Closed
ranked_verdict g (Fails x) = Fails (ranked_failing g x)

abbrev pub compacted_verdict : (f : Contents) (n : ℕ) (new : Contents) → IsCompacted f n new → Verdict → Verdict
compacted_verdict f n new c v = renamed_verdict c.again.kept (ranked_verdict c.«between» (renamed_verdict c.extracted.kept v))

-- The compacted file describes the solid of the file, with each directory number renamed by the two extractions and each list index by its rank.
abbrev pub SolidIsCompacted : Type 0
SolidIsCompacted = (f : Contents) (n : ℕ) (new : Contents) (c : IsCompacted f n new)
    → IsRelabelled (compacted_names f n new c) (solid_of f n) (solid_of new (number_after f n new c n))

-- What is the verdict on the solid in its file is, with the entity renamed and the place by its rank, the verdict in the compacted one.
abbrev pub VerdictIsCompacted : Type 0
VerdictIsCompacted = (f : Contents) (n : ℕ) (new : Contents) (c : IsCompacted f n new) (v : Verdict) → IsVerdictOn f n v
    → IsVerdictOn new (number_after f n new c n) (compacted_verdict f n new c v)

-- Each verdict on it there is such a one.
abbrev pub NoOtherVerdict : Type 0
NoOtherVerdict = (f : Contents) (n : ℕ) (new : Contents) (c : IsCompacted f n new) (w : Verdict) → IsVerdictOn new (number_after f n new c n) w
    → (v : Verdict) × (w ≡ compacted_verdict f n new c v) × IsVerdictOn f n v

-- It is closed in the one exactly where it is closed in the other.
abbrev pub ClosedIsCompacted : Type 0
ClosedIsCompacted = (f : Contents) (n : ℕ) (new : Contents) (c : IsCompacted f n new) → IsClosed f n ↔ IsClosed new (number_after f n new c n)
