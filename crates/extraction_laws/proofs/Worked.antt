-- What the definitions say of small cases.
use Rattle.std.specs.Prelude.{◌≡◌, ℕ, ◌+◌, true, [], ◌∷◌, ⊤}
use Rattle.std.proofs.Common.{refl, ap, arith}
use Rattle.solid_data.specs.Obligations.{obligation}
use Rattle.solid_data.specs.SolidData.{SolidData}
use Rattle.solid_data.specs.declared.solid.EdgeKey.{EdgeKey}
use Rattle.solid_data.specs.declared.solid.LoopUse.TheVariants.{VertexUse}
use Rattle.solid_data.specs.declared.verdict.Failing.{Failing}
use Rattle.solid_data.specs.declared.verdict.Rule.{Rule}
use Rattle.solid_data.specs.declared.verdict.Rule.TheVariants.{Twice, Unjoined, Unpaired, Unlinked}
use Rattle.solid_data.specs.declared.verdict.Verdict.TheVariants.{Fails}
use Rattle.extraction_laws.specs.Alike.{AllAlike, FailAlike}
use Rattle.extraction_laws.specs.Relabelled.{Names, IsRelabelled, AreNamedAlike}
use Rattle.extraction_laws.specs.Renamed.{Renaming, new_names, under_new_name}
use Rattle.extraction_laws.specs.KeptVerdict.{renamed_verdict}

twice : ℕ → Failing
twice entity = record { rule = Twice; entity = record { 0 = entity }; place = 2 }

-- the third entry that is kept becomes entry 5
third_is_renamed : renamed_verdict (11 ∷ 13 ∷ 25 ∷ 27 ∷ []) (Fails (twice 25)) ≡ Fails (twice 5)
unfolding twice
third_is_renamed = refl

-- the same names
same : Names
same = record { entity = λ a b. a ≡ b; edge = λ a b. a ≡ b; vertex = λ a b. a ≡ b }

-- one that holds is not alike to one that doesn't
not_alike : FailAlike (AreNamedAlike same) (obligation Unpaired 7 1 ⊤ ∷ []) (obligation Unpaired 7 1 ⊥ ∷ []) → ⊥
not_alike h = h.1.0 tt

-- nor is one of another place
other_place : FailAlike (AreNamedAlike same) (obligation Unpaired 7 1 ⊥ ∷ []) (obligation Unpaired 7 2 ⊥ ∷ []) → ⊥
unfolding same
other_place h = let place : ℕ = 1 in let e : place ≡ 2 = ap (λ (k : EdgeKey). k.index) h.0.named in absurd (omega (arith, e))

-- what stands behind a false one isn't compared
behind_false : FailAlike (AreNamedAlike same) (obligation Unpaired 7 1 ⊥ ∷ obligation Unlinked 5 1 ⊤ ∷ []) (obligation Unpaired 7 1 ⊥ ∷ [])
unfolding same
behind_false = (record { rule = refl; named = refl }, (λ h. h, λ h. h), λ h. absurd h)

-- but where all are, it is
behind_too : AllAlike (AreNamedAlike same) (obligation Unpaired 7 1 ⊥ ∷ obligation Unlinked 5 1 ⊤ ∷ []) (obligation Unpaired 7 1 ⊥ ∷ obligation Unlinked 5 1 ⊥ ∷ [])
    → ⊥
behind_too h = h.1.0.1.0 tt

-- a ball of one face whose loop is one vertex
ball : ℕ → ℕ → ℕ → ℕ → ℕ → ℕ → SolidData
ball solid shell face round list index = record {
  entity = record { 0 = solid };
  shells = record {
    entity = record { 0 = shell };
    flag = true;
    faces =
        record { entity = record { 0 = face }; flag = true; loops = record { entity = record { 0 = round }; uses = VertexUse (record { 0 = 0 }) ∷ [] } ∷ [] }
        ∷ [];
  } ∷ [];
  edges = [];
  vertices = record { «list» = record { 0 = list }; index = index } ∷ [];
}

-- numbers that are greater by 2, and indices of vertices by 3
moved : Renaming
moved = record {
  entity = λ m. m + 2;
  edge = λ k. record { «list» = record { 0 = k.«list».0 + 2 }; index = k.index };
  vertex = λ k. record { «list» = record { 0 = k.«list».0 + 2 }; index = k.index + 3 };
}

ball_is_relabelled : IsRelabelled (new_names moved) (ball 13 11 9 7 3 1) (ball 15 13 11 9 5 4)
unfolding ball moved
ball_is_relabelled = record {
  entity = refl;
  shells = (
    record { entity = refl; flag = refl; faces = (record { entity = refl; flag = refl; loops = (record { entity = refl; uses = refl }, tt) }, tt) },
    tt,
  );
  edges = tt;
  vertices = (refl, tt);
}

at : Rule → ℕ → ℕ → Failing
at rule entity place = record { rule = rule; entity = record { 0 = entity }; place = place }

-- LINK names a vertex, whose index moves; a place of a loop stays
vertex_moves : under_new_name moved (at Unlinked 3 1) ≡ at Unlinked 5 4
unfolding moved at
vertex_moves = refl

place_stays : under_new_name moved (at Unjoined 7 1) ≡ at Unjoined 9 1
unfolding moved at
place_stays = refl
