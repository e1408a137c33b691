-- The definitions evaluated on small shells.
use Rattle.std.specs.Prelude.{◌≡◌, ◌≢◌, ℕ, zero, suc, Bool, true, false, not, List, [], ◌∷◌, slice_get, Some}
use Rattle.std.proofs.Common.{refl, sym, ◌∙◌, ap, arith, inl}
use Rattle.std.proofs.lemmas.Option.{same_Some}
use Rattle.solid_data.specs.SolidData.{SolidData}
use Rattle.solid_data.specs.declared.solid.FaceUse.{FaceUse}
use Rattle.solid_data.specs.declared.solid.LoopUse.{LoopUse}
use Rattle.solid_data.specs.declared.solid.LoopUse.TheVariants.{EdgeUse}
use Rattle.solid_data.specs.declared.solid.VertexKey.{VertexKey}
use Rattle.edge_uses.specs.declared.row.Row.{Row}
use Rattle.edge_uses.specs.ShellRows.{shell_rows}
use Rattle.orient_certificate.specs.declared.fault.OrientRule.TheVariants.{Count}
use Rattle.orient_certificate.specs.Partners.{AllHaveTwoRows, ArePartners, IsReached}
use Rattle.orient_certificate.specs.Flags.{rows_at, rows_with, FlagsFit}
use Rattle.orient_certificate.specs.OddRing.{OddRing}
use Rattle.orient_certificate.specs.Outcome.{CountFails}
use Rattle.orient_certificate.proofs.Lawful.{refuses}

-- a use of the one edge, and a face of one loop
abbrev along : Bool → LoopUse
along way = EdgeUse (record { 0 = 0 }) way

abbrev face_of : ℕ → List LoopUse → FaceUse
face_of number uses = record { entity = record { 0 = number }; flag = true; loops = record { entity = record { 0 = 7 }; uses = uses } ∷ [] }

abbrev vertex_key : ℕ → VertexKey
vertex_key index = record { «list» = record { 0 = 3 }; index = index }

-- one shell of these faces, with one edge between two vertices
abbrev solid_of : List FaceUse → SolidData
solid_of faces = record {
  entity = record { 0 = 13 };
  shells = record { entity = record { 0 = 11 }; flag = true; faces = faces } ∷ [];
  edges = record { key = record { «list» = record { 0 = 5 }; index = 1 }; from = record { 0 = 0 }; to = record { 0 = 1 } } ∷ [];
  vertices = vertex_key 1 ∷ vertex_key 2 ∷ [];
}

-- one face that runs along the edge and back, and one that runs along it twice
abbrev seam : SolidData
seam = solid_of (face_of 9 (along true ∷ along false ∷ []) ∷ [])

abbrev twice : SolidData
twice = solid_of (face_of 9 (along true ∷ along true ∷ []) ∷ [])

-- two faces that both run along the edge
abbrev alike : SolidData
alike = solid_of (face_of 9 (along true ∷ []) ∷ face_of 15 (along true ∷ []) ∷ [])

-- one face that runs along the edge once
abbrev once : SolidData
once = solid_of (face_of 9 (along true ∷ []) ∷ [])

pub twice_counts : AllHaveTwoRows (rows_at twice 0)
unfolding shell_rows
twice_counts = (refl, tt)

-- its two rows are partners, and each alone is an odd ring
pub twice_partners : ArePartners (rows_at twice 0) 0 1
unfolding shell_rows
twice_partners = record { row = _; partner = _; at_r = refl; at_m = refl; one_edge = refl; apart = λ e. absurd (omega (arith, e)); two = refl }

pub twice_is_odd : OddRing twice 0 (0 ∷ [])
unfolding shell_rows
twice_is_odd = record {
  some = omega arith;
  closed = ((1, 0, twice_partners, (_, refl, refl), (_, refl, refl)), tt);
  odd = inl (record { m = 1; a = _; b = _; partners = twice_partners; at_r = refl; at_m = refl; alike = refl }, refl);
}

-- so no flags fit
pub twice_has_no_flags : (flags : List Bool) → ¬ FlagsFit twice 0 flags
twice_has_no_flags flags fit = refuses twice 0 (0 ∷ []) flags twice_counts twice_is_odd fit

-- two rows that run in different directions
two_rows : (rows : List Row) (a b : Row) → rows ≡ a ∷ b ∷ [] → a.along ≡ not b.along → b.along ≡ not a.along → (r m : ℕ) (x y : Row) → r ≢ m
    → slice_get rows r ≡ Some x → slice_get rows m ≡ Some y → x.along ≡ not y.along
two_rows rows a b e p q r m x y ne at_x at_y = by_place r m ne (ap (λ rs. slice_get rs r) (sym e) ∙ at_x) (ap (λ rs. slice_get rs m) (sym e) ∙ at_y)
  where
    by_place : (r m : ℕ) → r ≢ m → slice_get (a ∷ b ∷ []) r ≡ Some x → slice_get (a ∷ b ∷ []) m ≡ Some y → x.along ≡ not y.along
    by_place zero zero ne g h = absurd (ne refl)
    by_place zero (suc zero) ne g h = ap (λ (w : Row). w.along) (sym (same_Some a x g)) ∙ (p ∙ ap (λ (w : Row). not w.along) (same_Some b y h))
    by_place (suc zero) zero ne g h = ap (λ (w : Row). w.along) (sym (same_Some b x g)) ∙ (q ∙ ap (λ (w : Row). not w.along) (same_Some a y h))
    by_place (suc zero) (suc zero) ne g h = absurd (ne refl)
    by_place (suc (suc r)) m ne g h = absurd cc
    by_place zero (suc (suc m)) ne g h = absurd cc
    by_place (suc zero) (suc (suc m)) ne g h = absurd cc

-- the seam needs no change
pub seam_fits : FlagsFit seam 0 (true ∷ [])
unfolding shell_rows
seam_fits = record {
  each = refl;
  first = refl;
  differ = λ r m a b p at_a at_b. two_rows (rows_with seam 0 (true ∷ [])).rows _ _ refl refl refl r m a b p.apart
      at_a at_b;
}

-- of two alike faces the second is turned
pub alike_fits : FlagsFit alike 0 (true ∷ false ∷ [])
unfolding shell_rows
alike_fits = record {
  each = refl;
  first = refl;
  differ = λ r m a b p at_a at_b. two_rows (rows_with alike 0 (true ∷ false ∷ [])).rows _ _ refl refl refl r m a
      b p.apart at_a at_b;
}

alike_partners : ArePartners (rows_at alike 0) 0 1
unfolding shell_rows
alike_partners = record { row = _; partner = _; at_r = refl; at_m = refl; one_edge = refl; apart = λ e. absurd (omega (arith, e)); two = refl }

-- its second face is reached
pub alike_reached : IsReached (rows_at alike 0) 1
unfolding shell_rows
alike_reached = (1, (1, (0, 1, alike_partners, (_, refl, refl), (_, refl, refl)), refl))

-- an edge with one row fails COUNT, by its list and its index
pub once_fails : CountFails once 0 (record { rule = Count; entity = record { 0 = 5 }; place = 1 })
unfolding shell_rows
once_fails = record { edge = 0; first = inl ((λ two. let e : ◌≡◌ {A = ℕ} 1 2 = two in absurd (omega (arith, e))), refl); named = refl }
