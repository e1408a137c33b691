-- Keys by number, each found by the slot of its item.
use Rattle.std.specs.Prelude.{◌≡◌, ℕ, List, Some, slice_get}
use Rattle.solid_data.specs.declared.solid.EdgeKey.{EdgeKey}
use Rattle.solid_data.specs.declared.solid.VertexKey.{VertexKey}
use Rattle.brep_numbering.specs.Slots.{Slots, slot_of}

-- each key has its place as its number and in its slot
abbrev pub AreKeyed : {K : Type 0} → (K → ℕ) → List (ℕ × K) → Type 0
AreKeyed {K} slot entries = (i : ℕ) (e : ℕ × K) → slice_get entries i ≡ Some e → (e.0 ≡ i) × (slot e.1 ≡ i)

abbrev pub edge_slot : Slots → EdgeKey → ℕ
edge_slot slots key = slot_of slots key.«list».0 key.index

abbrev pub vertex_slot : Slots → VertexKey → ℕ
vertex_slot slots key = slot_of slots key.«list».0 key.index
