-- What fits at one progress fits at another that differs at most in TALLY lines that are due.
use Rattle.std.specs.Prelude.{◌≡◌, ℕ, ◌-◌, ◌<◌, List, ◌∷◌, Contains}
use Rattle.std.specs.List.{AllZip}
use Rattle.solid_data.specs.Ring.{next_of_each}
use Rattle.std.proofs.Common.{sym, ◌∙◌, subst}
use Rattle.edge_uses.specs.ShellRows.{ShellRows}
use Rattle.cert_lines.specs.Line.{shell, edge, reach}
use Rattle.cert_state.specs.Progress.{Progress, IsAbove, IsMate, TurnsTo, CornerDue, ReachDue, FitsEdge, FitsCorner, FitsPoint, FitsReach}

-- stands that differ at most in TALLY lines that are due
pub record SameProgress (a b : Progress) : Type 0 where
  pub ended : b.ended ≡ a.ended
  pub shell : b.shell ≡ a.shell
  pub edges : b.due.edges ≡ a.due.edges
  pub corners : b.due.corners ≡ a.due.corners
  pub reach : b.due.reach ≡ a.due.reach
  pub mates : b.mates ≡ a.mates
  pub last_edge : b.last_edge ≡ a.last_edge
  pub last_vertex : b.last_vertex ≡ a.last_vertex
  pub reached : b.reached ≡ a.reached

-- What fits at the one progress fits at the other.
pub fits_edge : (d : ShellRows) (a b : Progress) (x y : ℕ) → SameProgress a b → FitsEdge d a x y → FitsEdge d b x y
fits_edge d a b x y h f =
    record {
      along_row = f.along_row;
      against_row = f.against_row;
      at_a = f.at_a;
      at_b = f.at_b;
      one_edge = f.one_edge;
      along = f.along;
      against =
          f.against;
      rises = subst (λ o. IsAbove o f.along_row.edge.0) (sym h.last_edge) f.rises;
    }

pub fits_corner : (d : ShellRows) (a b : Progress) (r : ℕ) (rs : List ℕ) → SameProgress a b → FitsCorner d a r rs → FitsCorner d b r rs
fits_corner d a b r rs h f =
    record {
      vertex = f.vertex;
      lies_at = f.lies_at;
      turns = subst (λ ms. AllZip (TurnsTo d ms) (r ∷ rs) (next_of_each (r ∷ rs))) (sym h.mates) f.turns;
      least = f.least;
      whole = f.whole;
      no_point = f.no_point;
      rises = subst (λ o. IsAbove o f.vertex) (sym h.last_vertex) f.rises;
    }

pub fits_point : (d : ShellRows) (a b : Progress) (x y : ℕ) → SameProgress a b → FitsPoint d a x y → FitsPoint d b x y
fits_point d a b x y h f =
    record {
      vertex = f.vertex;
      lies_at = f.lies_at;
      no_row = f.no_row;
      one_point = f.one_point;
      rises =
          subst (λ o. IsAbove o f.vertex) (sym h.last_vertex) f.rises;
    }

pub fits_reach : (d : ShellRows) (a b : Progress) (r : ℕ) → SameProgress a b → FitsReach d a r → FitsReach d b r
fits_reach d a b r h f =
    record {
      mate = f.mate;
      face = f.face;
      known = f.known;
      mates = subst (λ ms. IsMate ms r f.mate) (sym h.mates) f.mates;
      on_face = f.on_face;
      on_known =
          f.on_known;
      new = λ c. f.new (subst (λ xs. Contains xs f.face) h.reached c);
      old = subst (λ xs. Contains xs f.known) (sym h.reached) f.old;
    }

pub corner_due : (a b : Progress) → SameProgress a b → CornerDue a.due → CornerDue b.due
corner_due a b h d = (h.edges ∙ d.0, subst (λ n. 0 < n) (sym h.corners) d.1)

pub reach_due : (a b : Progress) → SameProgress a b → ReachDue a.due → ReachDue b.due
reach_due a b h d = (h.edges ∙ d.0, h.corners ∙ d.1, subst (λ n. 0 < n) (sym h.reach) d.2)
