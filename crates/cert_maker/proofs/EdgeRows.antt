-- The two rows of an edge.
use Rattle.std.specs.Prelude.{◌≡◌, ◌≢◌, ℕ, ◌+◌, ◌-◌, ◌<◌, ◌≤◌, ◌⊎◌, Bool, true, false, List, length, Option, Some, None, slice_get, slice_set, IsSome}
use Rattle.std.specs.Prelude.{MatchOption, All}
use Rattle.std.specs.List.{AllByRecursion}
use Rattle.std.proofs.Common.{refl, sym, ◌∙◌, ap, subst, arith, inl, inr, ⊎_elim, get_or}
use Rattle.solid_data.specs.declared.solid.EdgeId.{EdgeId}
use Rattle.solid_data.specs.declared.solid.RowId.{RowId}
use Rattle.solid_data.proofs.Members.{All-at, Contains-from_Has, has_get}
use Rattle.solid_data.proofs.ObligationLemmas.{AllByRecursion-weaker}
use Rattle.std.proofs.lemmas.List.Elements.{All-contains}
use Rattle.std.proofs.lemmas.Bool.{not-true}
use Rattle.std.proofs.lemmas.Option.{same_Some, slice_get_within}
use Rattle.solid_data.specs.declared.spanning.Span.{Span}
use Rattle.solid_data.specs.Ranges.{IsWithin, IsSpanOf}
use Rattle.edge_uses.specs.declared.row.Row.{Row}
use Rattle.edge_uses.specs.ShellRows.{ShellRows, AreRows}
use Rattle.edge_uses.specs.RowRelations.{AreMates, IsPaired}
use Rattle.edge_uses.specs.Mates.{ArePaired, RunsOn}
use Rattle.edge_uses.proofs.Tallies.{set_same, set_other}
use Rattle.edge_uses.proofs.Cycle.{same_or_not}
use Rattle.edge_uses.proofs.Turn.{row_of_edge_along}
use Rattle.cert_state.proofs.Segment.{row_has}
use Rattle.cert_maker.specs.Along.{RunAlong}

-- A range that holds the edges that occur holds the edge of each row.
pub edges_within : (d : ShellRows) (span : Span) → AreRows d → IsSpanOf span d.edges → AllByRecursion (λ (r : Row). IsWithin span r.edge.0) d.rows
edges_within d span rows spans = AllByRecursion-weaker _ (λ (r : Row). IsWithin span r.edge.0) d.rows
    (λ r h. All-contains (IsWithin span) d.edges r.edge.0 spans.holds h) rows.edges_hold

pub edge_within : (d : ShellRows) (span : Span) (i e : ℕ) → All (IsWithin span) d.edges → slice_get d.edges i ≡ Some e → IsWithin span e
edge_within d span i e holds at = All-contains (IsWithin span) d.edges e holds (Contains-from_Has d.edges e (has_get d.edges i e at))

pub none_along : (d : ShellRows) (span : Span) (along : List ℕ) → RunAlong d span 0 along
none_along d span along e r runs low = absurd (omega (arith, low))

row_within : (d : ShellRows) (span : Span) (e r : ℕ) → AllByRecursion (λ (r : Row). IsWithin span r.edge.0) d.rows → RunsOn d e true r → IsWithin span e
row_within d span e r within runs = subst (IsWithin span) runs.edge (row_has (λ (x : Row). IsWithin span x.edge.0) d.rows r runs.row within runs.at)

-- one row more
pub noted : (d : ShellRows) (span : Span) (i : ℕ) (row : Row) (old new : List ℕ) → slice_get d.rows i ≡ Some row
    → AllByRecursion (λ (r : Row). IsWithin span r.edge.0) d.rows → length old ≡ span.count
    → (row.along ≡ true → new ≡ slice_set old (row.edge.0 - span.least) i) → (row.along ≡ false → new ≡ old) → RunAlong d span i old
    → RunAlong d span (i + 1) new
noted d span i row old new at within size along against before e r runs low = by_place (same_or_not r i)
  where
    here : IsWithin span row.edge.0
    here = row_has (λ (x : Row). IsWithin span x.edge.0) d.rows i row within at

    in_old : row.edge.0 - span.least < length old
    in_old = omega (arith, here.0, here.1, size)

    at_edge : e ≡ row.edge.0 → row.along ≡ true → RunsOn d e true (get_or new (e - span.least) 0)
    at_edge same w =
        let there : get_or new (e - span.least) 0 ≡ i = ap (λ ys. get_or ys (e - span.least) 0) (along w)
        ∙ (ap (λ n. get_or (slice_set old (row.edge.0 - span.least) i) (n - span.least) 0) same ∙ set_same old (row.edge.0 - span.least) i 0 in_old) in
        subst (RunsOn d e true) (sym there) (record { row = row; at = at; edge = sym same; along = w })

    elsewhere : (e ≡ row.edge.0 → ⊥) → r < i → (b : Bool) → row.along ≡ b → RunsOn d e true (get_or new (e - span.least) 0)
    elsewhere differ below true w =
        let low : IsWithin span e = row_within d span e r within runs in
        let apart : row.edge.0 - span.least ≢ e - span.least = λ same. differ (omega (arith, same, low.0, here.0)) in
        let there : get_or new (e - span.least) 0 ≡ get_or old (e - span.least) 0 = ap (λ ys. get_or ys (e - span.least) 0) (along w)
        ∙ set_other old (row.edge.0 - span.least) (e - span.least) i 0 apart in
        subst (RunsOn d e true) (sym there) (before e r runs below)
    elsewhere differ below false w = subst (λ ys. RunsOn d e true (get_or ys (e - span.least) 0)) (sym (against w)) (before e r runs below)

    by_way : r < i → (b : Bool) → row.along ≡ b → RunsOn d e true (get_or new (e - span.least) 0)
    by_way below true w = ⊎_elim (λ same. at_edge same w) (λ differ. elsewhere differ below true w) (same_or_not e row.edge.0)
    by_way below false w = subst (λ ys. RunsOn d e true (get_or ys (e - span.least) 0)) (sym (against w)) (before e r runs below)

    by_place : (r ≡ i) ⊎ (r ≡ i → ⊥) → RunsOn d e true (get_or new (e - span.least) 0)
    by_place (inl same) =
        let one : runs.row ≡ row = same_Some runs.row row (sym runs.at ∙ (ap (slice_get d.rows) same ∙ at)) in
        at_edge (sym runs.edge ∙ ap (λ (x : Row). x.edge.0) one) (sym (ap (λ (x : Row). x.along) one) ∙ runs.along)
    by_place (inr differ) = by_way (omega (arith, low, differ)) row.along refl

-- the i-th edge has a row along it
pub along_there : (d : ShellRows) (span : Span) (along : List ℕ) (i e : ℕ) → ArePaired d → slice_get d.edges i ≡ Some e → RunAlong d span (length d.rows) along
    → RunsOn d e true (get_or along (e - span.least) 0)
along_there d span along i e paired at all =
    let r = row_of_edge_along d e (All-at (IsPaired d) d.edges paired.paired e (has_get d.edges i e at)) in
    all e r.0 (record { row = r.1; at = r.2; edge = r.3; along = r.4 }) (slice_get_within d.rows r.0 r.1 r.2)

-- and its mate runs against it
pub mate_against : (d : ShellRows) (e r m : ℕ) → RunsOn d e true r → AreMates d r m → RunsOn d e false m
mate_against d e r m runs mates =
    let one : mates.row ≡ runs.row = same_Some mates.row runs.row (sym mates.at_r ∙ runs.at) in
    record {
      row = mates.mate;
      at = mates.at_m;
      edge = ap (λ (x : EdgeId). x.0) (sym mates.one_edge) ∙ (ap (λ (x : Row). x.edge.0) one ∙ runs.edge);
      along = not-true mates.mate.along (sym mates.opposite ∙ (ap (λ (x : Row). x.along) one ∙ runs.along));
    }

pub has_mate : (P : RowId → Type 0) (o : Option RowId) (n r : ℕ) → MatchOption o (n ≤ r) P → r < n → IsSome o
has_mate P None n r h low = absurd (omega (arith, h, low))
has_mate P (Some m) n r h low = refl

pub mate_of : (d : ShellRows) (r : ℕ) (o : Option RowId) (m : RowId) → MatchOption o (length d.rows ≤ r) (λ m. AreMates d r m.0) → o ≡ Some m → AreMates d r m.0
mate_of d r o m h e = let Q : Option RowId → Type 0 = λ z. MatchOption z (length d.rows ≤ r) (λ m. AreMates d r m.0) in subst Q e h
