-- Where the paths of rows round vertices begin.
use Rattle.std.specs.Prelude.{◌≡◌, ◌≢◌, ◌<◌, ◌≤◌, ◌+◌, ◌-◌, ◌==◌, ◌⊎◌, ℕ, true, false, List, length, slice_get, slice_set, Option, Some, None, MatchOption}
use Rattle.std.proofs.Common.{refl, sym, ◌∙◌, ap, subst, arith, inl, inr, ⊎_elim, get_or}
use Rattle.std.proofs.lemmas.Bool.{cases_lt}
use Rattle.std.proofs.lemmas.Bool.Decides.{eqb_tells}
use Rattle.std.proofs.lemmas.Option.{same_Some, slice_get_within}
use Rattle.solid_data.specs.declared.solid.VertexId.{VertexId}
use Rattle.solid_data.specs.declared.spanning.Span.{Span}
use Rattle.solid_data.specs.Ranges.{IsWithin}
use Rattle.edge_uses.specs.declared.row.Row.{Row}
use Rattle.edge_uses.specs.ShellRows.{ShellRows}
use Rattle.edge_uses.specs.RowRelations.{AreMates, Follows}
use Rattle.edge_uses.proofs.Tallies.{set_same, set_other}
use Rattle.edge_uses.proofs.Turns.{mates_back, follows_apart, follows_onto}
use Rattle.open_certificate.specs.Sound.{IsBorder}
use Rattle.open_shells.specs.Mating.{AreOnce}
use Rattle.open_shells.specs.FanParts.{IsHeadOf}
use Rattle.open_certificate.proofs.Fans.{lone_no_mate}

abbrev pub EndsAt : ShellRows → ℕ → ℕ → Type 0
EndsAt d v p = (row : Row) × (slice_get d.rows p ≡ Some row) × (row.to.0 ≡ v)

-- what the first rows tell of a vertex
abbrev pub HeadBefore : ShellRows → ℕ → ℕ → Option ℕ → Type 0
HeadBefore d i v None = (p : ℕ) → p < i → IsBorder d p → EndsAt d v p → ⊥
HeadBefore d i v (Some h) = (p : ℕ) × IsBorder d p × Follows d p h × EndsAt d v p

pub head_none : (d : ShellRows) (v : ℕ) (o : Option ℕ) → o ≡ None → HeadBefore d 0 v o
head_none d v None e = λ p lt. absurd (omega (arith, lt))
head_none d v (Some h) e = absurd (let k : Some h ≡ None = e in cc)

-- a row that is no border row changes nothing
pub head_other : (d : ShellRows) (i v : ℕ) (o : Option ℕ) → (IsBorder d i → ⊥) → HeadBefore d i v o → HeadBefore d (i + 1) v o
head_other d i v None no_border before = λ p lt border ends. ⊎_elim (λ low. before p low border ends)
    (λ le. let e : p ≡ i = omega (arith, le, lt) in no_border (subst (IsBorder d) e border)) (cases_lt p i)
head_other d i v (Some h) no_border before = before

-- a row that ends at another vertex changes nothing there
pub head_away : (d : ShellRows) (i v : ℕ) (row : Row) (o : Option ℕ) → slice_get d.rows i ≡ Some row → (row.to.0 ≡ v → ⊥) → HeadBefore d i v o
    → HeadBefore d (i + 1) v o
head_away d i v row None at away before = λ p lt border ends. ⊎_elim (λ low. before p low border ends)
    (λ le. let e : p ≡ i = omega (arith, le, lt) in
    let same : ends.0 ≡ row = same_Some ends.0 row (sym ends.1 ∙ (ap (λ n. slice_get d.rows n) e ∙ at)) in
    away (sym (ap (λ (r : Row). r.to.0) same) ∙ ends.2)) (cases_lt p i)
head_away d i v row (Some h) at away before = before

pub heads_noted : (d : ShellRows) (i : ℕ) (span : Span) (row : Row) (h : ℕ) (old new : List (Option ℕ)) → slice_get d.rows i ≡ Some row
    → IsWithin span row.to.0 → length old ≡ span.count → IsBorder d i → Follows d i h → new ≡ slice_set old (row.to.0 - span.least) (Some h)
    → ((v : ℕ) → IsWithin span v → HeadBefore d i v (get_or old (v - span.least) None)) → (v : ℕ) → IsWithin span v
    → HeadBefore d (i + 1) v (get_or new (v - span.least) None)
heads_noted d i span row h old new at within long border follows is_new before v low = by_vertex (eqb_tells row.to.0 v)
  where
    k : ℕ
    k = row.to.0 - span.least

    by_vertex : (((row.to.0 == v) ≡ true) × (row.to.0 ≡ v)) ⊎ (((row.to.0 == v) ≡ false) × (row.to.0 ≢ v))
        → HeadBefore d (i + 1) v (get_or new (v - span.least) None)
    by_vertex (inl y) =
        let place : v - span.least ≡ row.to.0 - span.least = ap (λ n. n - span.least) (sym y.1) in
        let e : get_or new (v - span.least) None ≡ Some h = ap (λ xs. get_or xs (v - span.least) None) is_new
        ∙ (ap (λ n. get_or (slice_set old (row.to.0 - span.least) (Some h)) n None) place ∙ set_same old (row.to.0 - span.least) (Some h) None
        (omega (arith, within.0, within.1, long))) in
        subst (HeadBefore d (i + 1) v) (sym e) (i, border, follows, (row, at, y.1))
    by_vertex (inr n) =
        let other : row.to.0 - span.least ≢ v - span.least = λ e. n.1 (omega (arith, e, within.0, low.0)) in
        let e : get_or new (v - span.least) None ≡ get_or old (v - span.least) None = ap (λ xs. get_or xs (v - span.least) None) is_new
        ∙ set_other old (row.to.0 - span.least) (v - span.least) (Some h) None other in
        subst (HeadBefore d (i + 1) v) (sym e) (head_away d i v row (get_or old (v - span.least) None) at n.1 (before v low))

pub heads_kept : (d : ShellRows) (i : ℕ) (span : Span) (old new : List (Option ℕ)) → (IsBorder d i → ⊥) → new ≡ old
    → ((v : ℕ) → IsWithin span v → HeadBefore d i v (get_or old (v - span.least) None)) → (v : ℕ) → IsWithin span v
    → HeadBefore d (i + 1) v (get_or new (v - span.least) None)
heads_kept d i span old new no_border same before v low = subst (λ xs. HeadBefore d (i + 1) v (get_or xs (v - span.least) None)) (sym same)
    (head_other d i v (get_or old (v - span.least) None) no_border (before v low))

pub head_done : (d : ShellRows) (i v : ℕ) (o : Option ℕ) → AreOnce d → length d.rows ≤ i → HeadBefore d i v o
    → ((m : ℕ) (a : Row) → slice_get d.rows m ≡ Some a → IsBorder d m ⊎ ((t : ℕ) × AreMates d m t)) → IsHeadOf d v o
head_done d i v None whole past before decide = λ x (row, at, starts).
    let q = follows_onto d whole.rows x row at in
    let met : q.1.to.0 ≡ row.from.0 = ap (λ (w : VertexId). w.0) (whole.meet q.0 x q.1 row q.2 q.3 at) in
    ⊎_elim (λ border. absurd (before q.0 (omega (arith, past, slice_get_within d.rows q.0 q.1 q.3)) border (q.1, q.3, met ∙ starts)))
    (λ m. (m.0, (q.0, mates_back d q.0 m.0 m.1, q.2))) (decide q.0 q.1 q.3)
head_done d i v (Some h) whole past (p, border, follows, ends) decide =
    let g = whole.rows.followed p ends.0 ends.1 in
    let there : h ≡ g.0 = same_Some h g.0 (sym follows ∙ g.2) in
    let at_h : slice_get d.rows h ≡ Some g.1 = ap (λ n. slice_get d.rows n) there ∙ g.3 in
    let met : ends.0.to.0 ≡ g.1.from.0 = ap (λ (w : VertexId). w.0) (whole.meet p h ends.0 g.1 follows ends.1 at_h) in (
      (g.1, at_h, sym met ∙ ends.2),
      λ t turn.
          let same : turn.0 ≡ p = follows_apart d whole.rows turn.0 p h turn.2 follows in
          lone_no_mate d p t border.0 border.1 border.2 (mates_back d t p (subst (AreMates d t) same turn.1)),
    )
