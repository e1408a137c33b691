-- Keys that are the same are equal.
use Rattle.std.specs.Prelude.{◌≡◌, ◌==◌, ◌&&◌, true}
use Rattle.std.proofs.Common.{refl, ◌∙◌, ap}
use Rattle.std.proofs.lemmas.Bool.{eq-eqb, eqb-true, and_parts}
use Rattle.solid_data.specs.SolidData.{same_edge, same_vertex}
use Rattle.solid_data.specs.declared.solid.EdgeKey.{EdgeKey}
use Rattle.solid_data.specs.declared.solid.VertexKey.{VertexKey}

pub edge_sound : (a b : EdgeKey) → same_edge a b ≡ true → a ≡ b
edge_sound a b h =
    let parts = and_parts (a.«list».0 == b.«list».0) (a.index == b.index) h in
    ap (λ n. record a { «list» = record { 0 = n } }) (eqb-true a.«list».0 b.«list».0 parts.0)
    ∙ ap (λ n. record b { index = n }) (eqb-true a.index b.index parts.1)

pub edge_itself : (a : EdgeKey) → same_edge a a ≡ true
edge_itself a = ap (λ t. t && (a.index == a.index)) (eq-eqb a.«list».0 a.«list».0 refl) ∙ eq-eqb a.index a.index refl

pub vertex_sound : (a b : VertexKey) → same_vertex a b ≡ true → a ≡ b
vertex_sound a b h =
    let parts = and_parts (a.«list».0 == b.«list».0) (a.index == b.index) h in
    ap (λ n. record a { «list» = record { 0 = n } }) (eqb-true a.«list».0 b.«list».0 parts.0)
    ∙ ap (λ n. record b { index = n }) (eqb-true a.index b.index parts.1)

pub vertex_itself : (a : VertexKey) → same_vertex a a ≡ true
vertex_itself a = ap (λ t. t && (a.index == a.index)) (eq-eqb a.«list».0 a.«list».0 refl) ∙ eq-eqb a.index a.index refl
