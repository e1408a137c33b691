-- Solids that are relabelled twice.
use Rattle.std.specs.Prelude.{ℕ, List, [], ◌∷◌}
use Rattle.std.specs.List.{AllZip}
use Rattle.std.proofs.Common.{◌∙◌}
use Rattle.solid_data.specs.SolidData.{SolidData}
use Rattle.solid_data.specs.declared.solid.Edge.{Edge}
use Rattle.solid_data.specs.declared.solid.EdgeKey.{EdgeKey}
use Rattle.solid_data.specs.declared.solid.VertexKey.{VertexKey}
use Rattle.solid_data.specs.declared.solid.Loop.{Loop}
use Rattle.solid_data.specs.declared.solid.FaceUse.{FaceUse}
use Rattle.solid_data.specs.declared.solid.Shell.{Shell}
use Rattle.extraction_laws.specs.Relabelled.{Names, IsRelabelledLoop, IsRelabelledFace, IsRelabelledShell, IsRelabelledEdge, IsRelabelled}

zip_then : {A B C : Type 0} (P : A → B → Type 0) (Q : B → C → Type 0) (T : A → C → Type 0) → ((x : A) (y : B) (z : C) → P x y → Q y z → T x z)
    → (xs : List A) (ys : List B) (zs : List C) → AllZip P xs ys → AllZip Q ys zs → AllZip T xs zs
zip_then P Q T f [] [] [] h k = tt
zip_then P Q T f [] [] (z ∷ zs) h k = absurd k
zip_then P Q T f [] (y ∷ ys) zs h k = absurd h
zip_then P Q T f (x ∷ xs) [] zs h k = absurd h
zip_then P Q T f (x ∷ xs) (y ∷ ys) [] h k = absurd k
zip_then P Q T f (x ∷ xs) (y ∷ ys) (z ∷ zs) h k = (f x y z h.0 k.0, zip_then P Q T f xs ys zs h.1 k.1)

-- one after the other they make the third
pub record Compose (M N O : Names) : Type 0 where
  pub entity : (a b c : ℕ) → M.entity a b → N.entity b c → O.entity a c
  pub edge : (a b c : EdgeKey) → M.edge a b → N.edge b c → O.edge a c
  pub vertex : (a b c : VertexKey) → M.vertex a b → N.vertex b c → O.vertex a c

module _ (M N O : Names) (h : Compose M N O) where
  loop_then : (a b c : Loop) → IsRelabelledLoop M a b → IsRelabelledLoop N b c → IsRelabelledLoop O a c
  loop_then a b c x y = record { entity = h.entity a.entity.0 b.entity.0 c.entity.0 x.entity y.entity; uses = x.uses ∙ y.uses }

  face_then : (a b c : FaceUse) → IsRelabelledFace M a b → IsRelabelledFace N b c → IsRelabelledFace O a c
  face_then a b c x y = record {
    entity = h.entity a.entity.0 b.entity.0 c.entity.0 x.entity y.entity;
    flag = x.flag ∙ y.flag;
    loops = zip_then (IsRelabelledLoop M) (IsRelabelledLoop N) (IsRelabelledLoop O) loop_then a.loops b.loops c.loops x.loops y.loops;
  }

  shell_then : (a b c : Shell) → IsRelabelledShell M a b → IsRelabelledShell N b c → IsRelabelledShell O a c
  shell_then a b c x y = record {
    entity = h.entity a.entity.0 b.entity.0 c.entity.0 x.entity y.entity;
    flag = x.flag ∙ y.flag;
    faces = zip_then (IsRelabelledFace M) (IsRelabelledFace N) (IsRelabelledFace O) face_then a.faces b.faces c.faces x.faces y.faces;
  }

  edge_then : (a b c : Edge) → IsRelabelledEdge M a b → IsRelabelledEdge N b c → IsRelabelledEdge O a c
  edge_then a b c x y = record { key = h.edge a.key b.key c.key x.key y.key; from = x.from ∙ y.from; to = x.to ∙ y.to }

  pub relabelled_then : (s t u : SolidData) → IsRelabelled M s t → IsRelabelled N t u → IsRelabelled O s u
  relabelled_then s t u x y = record {
    entity = h.entity s.entity.0 t.entity.0 u.entity.0 x.entity y.entity;
    shells = zip_then (IsRelabelledShell M) (IsRelabelledShell N) (IsRelabelledShell O) shell_then s.shells t.shells u.shells x.shells y.shells;
    edges = zip_then (IsRelabelledEdge M) (IsRelabelledEdge N) (IsRelabelledEdge O) edge_then s.edges t.edges u.edges x.edges y.edges;
    vertices = zip_then M.vertex N.vertex O.vertex h.vertex s.vertices t.vertices u.vertices x.vertices y.vertices;
  }
