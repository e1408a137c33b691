-- The step of each row.
use Rattle.std.specs.Prelude.{◌≡◌, ◌≢◌, ◌<◌, ◌⊎◌, ℕ, zero, suc, Bool, true, List, [], ◌∷◌, ◌++◌, length, Contains, slice_get, Some}
use Rattle.std.proofs.Common.{refl, sym, ◌∙◌, ap, subst, inl, inr, ⊎_elim, get_or}
use Rattle.std.proofs.lemmas.Option.{same_Some}
use Rattle.solid_data.specs.SolidData.{same_flag}
use Rattle.solid_data.proofs.Members.{All-at, has_get, Has-from_Contains}
use Rattle.solid_data.specs.declared.spanning.Span.{Span}
use Rattle.solid_data.specs.Ranges.{IsWithin, IsSpanOf}
use Rattle.edge_uses.specs.declared.row.Row.{Row}
use Rattle.edge_uses.specs.ShellRows.{ShellRows, AreRows}
use Rattle.edge_uses.proofs.Mating.{rows_within}
use Rattle.orient_certificate.specs.declared.rows_by_edge.Seen.{Seen}
use Rattle.orient_certificate.specs.Partners.{HasTwoRows, AllHaveTwoRows}
use Rattle.orient_certificate.specs.RowsByEdge.{seen_of, AreRowsByEdge}
use Rattle.orient_certificate.specs.Crossings.{IsStep}
use Rattle.orient_certificate.proofs.Places.{other_in, partner_made}

pub edge_within : (d : ShellRows) (span : Span) (r : ℕ) (row : Row) → AreRows d → IsSpanOf span d.edges → slice_get d.rows r ≡ Some row
    → IsWithin span row.edge.0
edge_within d span r row whole is at = All-at (λ (x : Row). IsWithin span x.edge.0) d.rows (rows_within d.edges d.rows span whole.edges_hold is.holds) row
    (has_get d.rows r row at)

pub row_low : (d : ShellRows) (r : ℕ) (row : Row) → AreRows d → slice_get d.rows r ≡ Some row → row.at.face.0 < d.face_count
row_low d r row whole at = All-at (λ (x : Row). x.at.face.0 < d.face_count) d.rows whole.on_faces row (has_get d.rows r row at)

pub edge_two : (d : ShellRows) (r : ℕ) (row : Row) → AreRows d → AllHaveTwoRows d → slice_get d.rows r ≡ Some row → HasTwoRows d row.edge.0
edge_two d r row whole two at =
    All-at (HasTwoRows d) d.edges two row.edge.0
    (Has-from_Contains d.edges row.edge.0 (All-at (λ (x : Row). Contains d.edges x.edge.0) d.rows whole.edges_hold row (has_get d.rows r row at)))

pub partner_told : (d : ShellRows) (span : Span) (by_edge : List Seen) (r m : ℕ) (row : Row) → AreRows d → IsSpanOf span d.edges → AreRowsByEdge d span by_edge
    → AllHaveTwoRows d → slice_get d.rows r ≡ Some row → m ≡ other_in (seen_of span by_edge row.edge.0) r
    → (other : Row) × (slice_get d.rows m ≡ Some other) × (row.edge ≡ other.edge) × (r ≢ m)
partner_told d span by_edge r m row whole is told two at e =
    partner_made d r row at (edge_two d r row whole two at) m (e ∙ ap (λ s. other_in s r) (told row.edge.0 (edge_within d span r row whole is at)))

pub step_made : (d : ShellRows) (span : Span) (by_edge : List Seen) (forwards : List Bool) (r m : ℕ) (row other : Row) (flips a b : Bool) → AreRows d
    → IsSpanOf span d.edges → AreRowsByEdge d span by_edge → AllHaveTwoRows d
    → slice_get d.rows r ≡ Some row → m ≡ other_in (seen_of span by_edge row.edge.0) r → slice_get d.rows m ≡ Some other
    → a ≡ same_flag row.along (get_or forwards row.at.face.0 true) → b ≡ same_flag other.along (get_or forwards other.at.face.0 true) → flips ≡ same_flag a b
    → IsStep d forwards r (record { from = row.at.face.0; to = other.at.face.0; partner = m; flips = flips })
step_made d span by_edge forwards r m row other flips a b whole is told two at e at_m is_a is_b is_flips =
    let t = partner_told d span by_edge r m row whole is told two at e in
    let same : t.0 ≡ other = same_Some t.0 other (sym t.1 ∙ at_m) in
    record {
      partners = record {
        row = row;
        partner = other;
        at_r = at;
        at_m = at_m;
        one_edge = t.2 ∙ ap (λ (x : Row). x.edge) same;
        apart = t.3;
        two =
            edge_two d r row whole two at;
      };
      from = (row, at, refl);
      to = (other, at_m, refl);
      flips = is_flips ∙ (ap (λ x. same_flag x b) is_a ∙ ap (same_flag (same_flag row.along (get_or forwards row.at.face.0 true))) is_b);
    }

-- one item more, at the end
pub pushed_all : {A : Type 0} (P : ℕ → A → Type 0) (xs new : List A) (x : A) (n : ℕ) → new ≡ xs ++ x ∷ [] → length xs ≡ n
    → ((k : ℕ) (y : A) → slice_get xs k ≡ Some y → P k y) → P n x → (k : ℕ) (y : A) → slice_get new k ≡ Some y → P k y
pushed_all {A = A} P xs new x n e long all here k y at = ⊎_elim (all k y) (λ b. subst (λ j. P j y) (sym (b.0 ∙ long)) (subst (P n) b.1 here))
    (get_pushed xs k (ap (λ ys. slice_get ys k) (sym e) ∙ at))
  where
    get_pushed : (ys : List A) (j : ℕ) → slice_get (ys ++ x ∷ []) j ≡ Some y → (slice_get ys j ≡ Some y) ⊎ ((j ≡ length ys) × (x ≡ y))
    get_pushed [] zero h = inr (refl, same_Some x y h)
    get_pushed [] (suc j) h = absurd cc
    get_pushed (z ∷ ys) zero h = inl h
    get_pushed (z ∷ ys) (suc j) h = ⊎_elim (λ a. inl a) (λ b. inr (ap suc b.0, b.1)) (get_pushed ys j h)
