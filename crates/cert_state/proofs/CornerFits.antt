-- When a corner line or a point line fits.
use Rattle.std.specs.Prelude.{◌≡◌, ◌≢◌, ℕ, zero, suc, ◌-◌, ◌<◌, ◌≤◌, ◌==◌, ◌&&◌, ◌⊎◌, Bool, true, false, List, ◌∷◌, length, map, Option, Some, None, slice_get}
use Rattle.std.specs.Prelude.{option_map, if◌then◌else◌}
use Rattle.std.proofs.Common.{refl, sym, ◌∙◌, ap, subst, arith, inl, inr, get_or}
use Rattle.std.proofs.lemmas.Bool.Decides.{eqb_tells}
use Rattle.std.proofs.lemmas.Bool.{eq-eqb, eqb-true, and_from}
use Rattle.std.proofs.lemmas.Option.{get_or_from_slice_get, slice_get-map, same_Some, slice_get_within}
use Rattle.std.proofs.lemmas.List.{length-map}
use Rattle.solid_data.specs.declared.solid.LoopAt.{LoopAt}
use Rattle.edge_uses.specs.declared.row.Row.{Row}
use Rattle.edge_uses.specs.ShellRows.{ShellRows}
use Rattle.edge_uses.specs.RowRelations.{point_count}
use Rattle.cert_lines.specs.Line.{corner, point}
use Rattle.cert_text.specs.Text.{Begins}
use Rattle.cert_state.specs.Progress.{Progress, FitsCorner, FitsPoint, IsAbove, row_named, row_start, vertex_of, point_named, start_count}
use Rattle.cert_state.specs.CheckState.{corner_size, is_alone}
use Rattle.cert_state.specs.Places.{IsNamedAt}
use Rattle.cert_state.specs.Ring.{IsRing, FitsCornerLine, BeginsWithNumbers}
use Rattle.cert_state.proofs.Rings.{next_before}

pub named_below : (d : ShellRows) (n : ℕ) (row : Row) → row_named d n ≡ Some row → (0 < n) × (n ≤ length d.rows)
named_below d zero row h = absurd cc
named_below d (suc k) row h = (omega arith, omega (arith, slice_get_within d.rows k row h))

-- the rest of a fitting line whose first number is read
pub corner_of : (d : ShellRows) (at : Progress) (text others : List ℕ) (first : ℕ) (rs stop : List ℕ) → Begins text first others
    → BeginsWithNumbers text rs stop → FitsCornerLine d at rs → (ms : List ℕ) × BeginsWithNumbers others ms stop × FitsCorner d at first ms
corner_of d at text others first rs stop b h fits = let n = next_before text others stop first rs b h in (n.0, n.2, subst (FitsCornerLine d at) n.1 fits)

pub corner_no_row : (d : ShellRows) (at : Progress) (first : ℕ) (ms : List ℕ) → row_named d first ≡ None → FitsCorner d at first ms → ⊥
corner_no_row d at first ms none fits = let e : None ≡ Some fits.vertex = sym (ap row_start none) ∙ fits.lies_at in cc

pub corner_vertex : (d : ShellRows) (at : Progress) (first : ℕ) (ms : List ℕ) (row : Row) → row_named d first ≡ Some row → (fits : FitsCorner d at first ms)
    → fits.vertex ≡ row.from.0
corner_vertex d at first ms row h fits = same_Some fits.vertex row.from.0 (sym fits.lies_at ∙ ap row_start h)

pub corner_low : (d : ShellRows) (at : Progress) (first : ℕ) (ms : List ℕ) (row : Row) (last : Option ℕ) → row_named d first ≡ Some row → at.last_vertex ≡ last
    → (IsAbove last row.from.0 → ⊥) → FitsCorner d at first ms → ⊥
corner_low d at first ms row last h same low fits =
    low (subst (λ o. IsAbove o row.from.0) same (subst (IsAbove at.last_vertex) (corner_vertex d at first ms row h fits) fits.rises))

pub corner_ring : (d : ShellRows) (at : Progress) (first : ℕ) (ms : List ℕ) → FitsCorner d at first ms → IsRing d at.mates first first ms
corner_ring d at first ms fits = (fits.turns, fits.least)

pub size_tells : (d : ShellRows) (v n : ℕ) → corner_size d v ≡ n → 0 < n → (point_count d v ≡ 0) × (n ≡ start_count d v)
size_tells d v n e pos = by_count (eqb_tells (point_count d v) 0)
  where
    by_count : (((point_count d v == 0) ≡ true) × (point_count d v ≡ 0)) ⊎ (((point_count d v == 0) ≡ false) × (point_count d v ≢ 0))
        → (point_count d v ≡ 0) × (n ≡ start_count d v)
    by_count (inl y) = let f : corner_size d v ≡ start_count d v = ap (λ b. if b then start_count d v else 0) y.0 in (y.1, sym e ∙ f)
    by_count (inr k) = absurd (let f : corner_size d v ≡ 0 = ap (λ b. if b then start_count d v else 0) k.0 in omega (arith, e, f, pos))

pub size_of : (d : ShellRows) (v : ℕ) → point_count d v ≡ 0 → corner_size d v ≡ start_count d v
size_of d v none = ap (λ b. if b then start_count d v else 0) (eq-eqb (point_count d v) 0 none)

pub size_there : (d : ShellRows) (sizes : List ℕ) (first z : ℕ) (row : Row) → sizes ≡ map (λ (r : Row). corner_size d r.from.0) d.rows
    → row_named d first ≡ Some row → get_or sizes (first - 1) z ≡ corner_size d row.from.0
size_there d sizes zero z row is h = absurd cc
size_there d sizes (suc k) z row is h =
    let e : suc k - 1 ≡ k = omega arith in
    let at : slice_get sizes k ≡ Some (corner_size d row.from.0) = ap (λ xs. slice_get xs k) is
    ∙ (slice_get-map (λ (r : Row). corner_size d r.from.0) d.rows k ∙ ap (option_map (λ (r : Row). corner_size d r.from.0)) h) in
    ap (λ n. get_or sizes n z) e ∙ get_or_from_slice_get sizes k (corner_size d row.from.0) z at

pub size_below : (d : ShellRows) (sizes : List ℕ) (first : ℕ) (row : Row) → sizes ≡ map (λ (r : Row). corner_size d r.from.0) d.rows
    → row_named d first ≡ Some row → first - 1 < length sizes
size_below d sizes first row is h =
    let b = named_below d first row h in
    omega (arith, b.0, b.1, ap (λ xs. length xs) is, length-map d.rows (λ (r : Row). corner_size d r.from.0))

pub corner_fits : (d : ShellRows) (at : Progress) (text others : List ℕ) (first : ℕ) (rs stop rest : List ℕ) (row : Row) (last : Option ℕ) (len : ℕ)
    → Begins text first others → BeginsWithNumbers text rs stop → row_named d first ≡ Some row → at.last_vertex ≡ last → IsAbove last row.from.0
    → ((ms : List ℕ) → BeginsWithNumbers others ms stop → IsRing d at.mates first first ms × (len ≡ length (first ∷ ms)) × (rest ≡ stop))
    → corner_size d row.from.0 ≡ len → FitsCornerLine d at rs × (vertex_of d (corner rs) ≡ Some row.from.0) × (rest ≡ stop)
corner_fits d at text others first rs stop rest row last len b h is_row same above ring size =
    let n = next_before text others stop first rs b h in
    let r = ring n.0 n.2 in
    let s = size_tells d row.from.0 len size (omega (arith, r.1)) in
    let fits : FitsCorner d at first n.0 = record {
      vertex = row.from.0;
      lies_at = ap row_start is_row;
      turns = r.0.0;
      least = r.0.1;
      whole = sym r.1 ∙ s.1;
      no_point = s.0;
      rises = subst (λ o. IsAbove o row.from.0) (sym same) above;
    } in
    (subst (FitsCornerLine d at) (sym n.1) fits, ap (λ xs. vertex_of d (corner xs)) n.1 ∙ ap row_start is_row, r.2)

pub corner_other_size : (d : ShellRows) (at : Progress) (first : ℕ) (ms : List ℕ) (row : Row) (len : ℕ) → row_named d first ≡ Some row
    → (corner_size d row.from.0 ≡ len → ⊥) → len ≡ length (first ∷ ms) → FitsCorner d at first ms → ⊥
corner_other_size d at first ms row len h differ is fits =
    let v = corner_vertex d at first ms row h fits in
    let none : point_count d row.from.0 ≡ 0 = subst (λ x. point_count d x ≡ 0) v fits.no_point in
    let whole : length (first ∷ ms) ≡ start_count d row.from.0 = subst (λ x. length (first ∷ ms) ≡ start_count d x) v fits.whole in
    differ (size_of d row.from.0 none ∙ (sym whole ∙ sym is))

-- Points.

alone_tells : (d : ShellRows) (v : ℕ) → is_alone d v ≡ true → (start_count d v ≡ 0) × (point_count d v ≡ 1)
alone_tells d v h = by_tests (start_count d v == 0) (point_count d v == 1) refl refl h
  where
    by_tests : (a b : Bool) → (start_count d v == 0) ≡ a → (point_count d v == 1) ≡ b → (a && b) ≡ true → (start_count d v ≡ 0) × (point_count d v ≡ 1)
    by_tests true true x y h = (eqb-true (start_count d v) 0 x, eqb-true (point_count d v) 1 y)
    by_tests true false x y h = absurd cc
    by_tests false b x y h = absurd cc

alone_is : (d : ShellRows) (v : ℕ) → start_count d v ≡ 0 → point_count d v ≡ 1 → is_alone d v ≡ true
alone_is d v a b = and_from (start_count d v == 0) (point_count d v == 1) (eq-eqb (start_count d v) 0 a) (eq-eqb (point_count d v) 1 b)

pub alone_there : (d : ShellRows) (alone : List Bool) (i : ℕ) (p : LoopAt × ℕ) (z : Bool) → alone ≡ map (λ (p : LoopAt × ℕ). is_alone d p.1) d.points
    → slice_get d.points i ≡ Some p → get_or alone i z ≡ is_alone d p.1
alone_there d alone i p z is h =
    let at : slice_get alone i ≡ Some (is_alone d p.1) = ap (λ xs. slice_get xs i) is
    ∙ (slice_get-map (λ (p : LoopAt × ℕ). is_alone d p.1) d.points i ∙ ap (option_map (λ (p : LoopAt × ℕ). is_alone d p.1)) h) in
    get_or_from_slice_get alone i (is_alone d p.1) z at

pub alone_below : (d : ShellRows) (alone : List Bool) (i : ℕ) (p : LoopAt × ℕ) → alone ≡ map (λ (p : LoopAt × ℕ). is_alone d p.1) d.points
    → slice_get d.points i ≡ Some p → i < length alone
alone_below d alone i p is h = omega (arith, slice_get_within d.points i p h, ap (λ xs. length xs) is, length-map d.points (λ (p : LoopAt × ℕ). is_alone d p.1))

named_vertex : (d : ShellRows) (face place i : ℕ) (p : LoopAt × ℕ) → IsNamedAt d face place i → slice_get d.points i ≡ Some p
    → vertex_of d (point face place) ≡ Some p.1
named_vertex d face place i p n h =
    let same : n.point ≡ p = same_Some n.point p (sym n.at_i ∙ h) in
    ap (option_map (λ (q : LoopAt × ℕ). q.1)) n.named ∙ ap (λ (q : LoopAt × ℕ). Some q.1) same

pub point_fits : (d : ShellRows) (at : Progress) (alone : List Bool) (face place i : ℕ) (p : LoopAt × ℕ) (last : Option ℕ) → IsNamedAt d face place i
    → slice_get d.points i ≡ Some p → is_alone d p.1 ≡ true → at.last_vertex ≡ last → IsAbove last p.1
    → FitsPoint d at face place × (vertex_of d (point face place) ≡ Some p.1)
point_fits d at alone face place i p last n h single same above =
    let t = alone_tells d p.1 single in (
      record { vertex = p.1; lies_at = named_vertex d face place i p n h; no_row = t.0; one_point = t.1; rises = subst (λ o. IsAbove o p.1) (sym same) above },
      named_vertex d face place i p n h,
    )

pub point_vertex : (d : ShellRows) (at : Progress) (face place i : ℕ) (p : LoopAt × ℕ) → IsNamedAt d face place i → slice_get d.points i ≡ Some p
    → (fits : FitsPoint d at face place) → fits.vertex ≡ p.1
point_vertex d at face place i p n h fits = same_Some fits.vertex p.1 (sym fits.lies_at ∙ named_vertex d face place i p n h)

pub point_not_alone : (d : ShellRows) (at : Progress) (face place i : ℕ) (p : LoopAt × ℕ) → IsNamedAt d face place i → slice_get d.points i ≡ Some p
    → is_alone d p.1 ≡ false → FitsPoint d at face place → ⊥
point_not_alone d at face place i p n h other fits =
    let v = point_vertex d at face place i p n h fits in
    let single = alone_is d p.1 (subst (λ x. start_count d x ≡ 0) v fits.no_row) (subst (λ x. point_count d x ≡ 1) v fits.one_point) in
    let e : false ≡ true = sym other ∙ single in
    cc

pub point_low : (d : ShellRows) (at : Progress) (face place i : ℕ) (p : LoopAt × ℕ) (last : Option ℕ) → IsNamedAt d face place i → slice_get d.points i ≡ Some p
    → at.last_vertex ≡ last → (IsAbove last p.1 → ⊥) → FitsPoint d at face place → ⊥
point_low d at face place i p last n h same low fits =
    low (subst (λ o. IsAbove o p.1) same (subst (IsAbove at.last_vertex) (point_vertex d at face place i p n h fits) fits.rises))

pub point_none : (d : ShellRows) (at : Progress) (face place : ℕ) → point_named d face place ≡ None → FitsPoint d at face place → ⊥
point_none d at face place none fits = let e : None ≡ Some fits.vertex = sym (ap (option_map (λ (q : LoopAt × ℕ). q.1)) none) ∙ fits.lies_at in cc
