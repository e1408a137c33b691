-- The mate of each row.
use Rattle.std.specs.Prelude.{◌≡◌, ◌<◌, ◌⊎◌, ℕ, zero, suc, Bool, true, false, not, List, [], ◌∷◌, ◌++◌, length, Some, slice_get, Contains, if◌then◌else◌, All}
use Rattle.std.specs.List.{AllByRecursion}
use Rattle.std.proofs.Common.{refl, sym, ◌∙◌, ap, subst, arith, inl, inr, ⊎_elim, get_or}
use Rattle.std.proofs.lemmas.Option.{slice_get-get_or, same_Some}
use Rattle.solid_data.specs.Ranges.{IsWithin}
use Rattle.solid_data.specs.declared.spanning.Span.{Span}
use Rattle.edge_uses.specs.declared.row.Row.{Row}
use Rattle.edge_uses.specs.declared.tally.Seen.{Seen}
use Rattle.edge_uses.specs.ShellRows.{ShellRows}
use Rattle.edge_uses.specs.RowRelations.{IsPaired, AreMates}
use Rattle.edge_uses.specs.Mates.{ArePaired, RunsOn}
use Rattle.edge_uses.specs.Tally.{seen_of, IsSeen, IsTally}
use Rattle.solid_data.proofs.Members.{Has-from_Contains, All-at}
use Rattle.edge_uses.proofs.Joins.{at_place}
use Rattle.edge_uses.proofs.Steps.{default_apart}
use Rattle.edge_uses.proofs.Turn.{edge_id}

pub get_pushed : (xs : List ℕ) (m r k : ℕ) → slice_get (xs ++ m ∷ []) r ≡ Some k → (slice_get xs r ≡ Some k) ⊎ ((r ≡ length xs) × (m ≡ k))
get_pushed [] m zero k h = inr (refl, same_Some m k h)
get_pushed [] m (suc r) k h = absurd cc
get_pushed (x ∷ xs) m zero k h = inl h
get_pushed (x ∷ xs) m (suc r) k h = ⊎_elim (λ a. inl a) (λ b. inr (ap suc b.0, b.1)) (get_pushed xs m r k h)

-- the edge of a row is paired
pub row_paired : (d : ShellRows) → ArePaired d → (i : ℕ) (row : Row) → i < length d.rows → get_or d.rows i row ≡ row → IsPaired d row.edge.0
row_paired d whole i row lt at =
    let has : Contains d.edges row.edge.0 = at_place (λ (r : Row). Contains d.edges r.edge.0) d.rows row i whole.rows.edges_hold lt at in
    All-at (IsPaired d) d.edges whole.paired row.edge.0 (Has-from_Contains d.edges row.edge.0 has)

mate_is : (d : ShellRows) (seen : Seen) (i : ℕ) (row : Row) → slice_get d.rows i ≡ Some row → IsPaired d row.edge.0 → IsSeen d row.edge.0 seen
    → AreMates d i (if row.along then seen.against_row else seen.along_row)
mate_is d seen i row at paired is = by_way row.along refl
  where
    by_way : (way : Bool) → row.along ≡ way → AreMates d i (if way then seen.against_row else seen.along_row)
    by_way true k =
        let there : RunsOn d row.edge.0 false seen.against_row = is.against_row (omega (arith, is.against, paired.1)) in
        record {
          row = row;
          mate = there.row;
          at_r = at;
          at_m = there.at;
          one_edge = edge_id row.edge there.row.edge (sym there.edge);
          opposite =
              k ∙ ap not (sym there.along);
        }
    by_way false k =
        let there : RunsOn d row.edge.0 true seen.along_row = is.along_row (omega (arith, is.along, paired.0)) in
        record {
          row = row;
          mate = there.row;
          at_r = at;
          at_m = there.at;
          one_edge = edge_id row.edge there.row.edge (sym there.edge);
          opposite =
              k ∙ ap not (sym there.along);
        }

pub mate_pushed : (d : ShellRows) (rows : List Row) (span : Span) (tally : List Seen) (i : ℕ) (none : Row) (m : ℕ) (old new : List ℕ) → rows ≡ d.rows
    → i < length rows → length old ≡ i
    → IsTally d span tally → AllByRecursion (λ (r : Row). IsWithin span r.edge.0) d.rows → ArePaired d
    → ((r k : ℕ) → slice_get old r ≡ Some k → AreMates d r k)
    → m ≡ (if (get_or rows i none).along then (seen_of span tally (get_or rows i none).edge.0).against_row else
    (seen_of span tally (get_or rows i none).edge.0).along_row)
    → new ≡ old ++ m ∷ [] → (r k : ℕ) → slice_get new r ≡ Some k → AreMates d r k
mate_pushed d rows span tally i none m old new same lt long is below whole each is_m is_new r k h =
    ⊎_elim (λ a. each r k a) (λ b. subst (λ n. AreMates d n k) (sym (b.0 ∙ long)) (subst (AreMates d i) (sym is_m ∙ b.1) here))
    (get_pushed old m r k (ap (λ ns. slice_get ns r) (sym is_new) ∙ h))
  where
    row : Row
    row = get_or rows i none

    in_rows : i < length d.rows
    in_rows = omega (arith, lt, ap (λ rs. length rs) same)

    at : get_or d.rows i row ≡ row
    at = default_apart d.rows i row none in_rows ∙ ap (λ rs. get_or rs i none) (sym same)

    here : AreMates d i (if row.along then (seen_of span tally row.edge.0).against_row else (seen_of span tally row.edge.0).along_row)
    here = mate_is d (seen_of span tally row.edge.0) i row (slice_get-get_or d.rows i row in_rows ∙ ap Some at) (row_paired d whole i row in_rows at)
        (is row.edge.0 (at_place (λ (r : Row). IsWithin span r.edge.0) d.rows row i below in_rows at))

-- a range that has each edge that occurs has that of each row
pub rows_within : (es : List ℕ) (rows : List Row) (span : Span) → AllByRecursion (λ (r : Row). Contains es r.edge.0) rows → All (λ e. IsWithin span e) es
    → AllByRecursion (λ (r : Row). IsWithin span r.edge.0) rows
rows_within es [] span h within = tt
rows_within es (r ∷ rows) span h within = (known h.0, rows_within es rows span h.1 within)
  where
    known : Contains es r.edge.0 → IsWithin span r.edge.0
    known c = subst (IsWithin span) c.2 (within c.0 r.edge.0 c.1)
