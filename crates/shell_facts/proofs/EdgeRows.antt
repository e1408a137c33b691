-- The rows of a shell by the edges that they have.
use Rattle.std.specs.Prelude.{◌≡◌, ◌≤◌, ℕ, ◌+◌, ◌==◌, List, [], ◌∷◌, ◌++◌, length, map, flat_map, All, Contains, if◌then◌else◌}
use Rattle.std.specs.List.{AllByRecursion, enumerate_from}
use Rattle.std.proofs.Common.{refl, sym, ◌∙◌, ap, subst, drop}
use Rattle.std.proofs.lemmas.List.{append-nil, drop_all, length-map}
use Rattle.std.proofs.lemmas.List.Elements.{All-nil, All-cons}
use Rattle.solid_data.specs.declared.spanning.Span.{Span}
use Rattle.solid_data.specs.Ranges.{IsWithin, IsSpanOf}
use Rattle.edge_uses.specs.declared.row.Row.{Row}
use Rattle.edge_uses.specs.ShellRows.{ShellRows, AreRows}
use Rattle.edge_uses.proofs.Mating.{rows_within}
use Rattle.solid_faults.specs.Edges.{row_on, rows_on_edge}
use Rattle.shell_components.specs.Groups.{place_if, places_of}

-- Where none are left, all were read.
pub mapped_done : {A B : Type 0} (f : A → B) (xs : List A) (i : ℕ) (now all : List B) → length xs ≤ i → now ++ map f (drop i xs) ≡ all → now ≡ all
mapped_done f xs i now all past h = sym (append-nil now) ∙ (ap (λ ys. now ++ map f ys) (sym (drop_all i xs past)) ∙ h)

abbrev pub edge_of_row : Row → ℕ
edge_of_row r = r.edge.0

all_mapped : {A B : Type 0} (P : B → Type 0) (f : A → B) (xs : List A) → AllByRecursion (λ x. P (f x)) xs → All P (map f xs)
all_mapped P f [] h = All-nil P
all_mapped P f (x ∷ xs) h = All-cons P (f x) (map f xs) h.0 (all_mapped P f xs h.1)

-- the edges of the rows lie in the range of those that occur
pub edges_within : (d : ShellRows) (span : Span) (edges : List ℕ) → AreRows d → IsSpanOf span d.edges → edges ≡ map edge_of_row d.rows
    → All (IsWithin span) edges
edges_within d span edges whole range e =
    subst (All (IsWithin span)) (sym e) (all_mapped (IsWithin span) edge_of_row d.rows (rows_within d.edges d.rows span whole.edges_hold range.holds))

pub edges_few : (d : ShellRows) (edges : List ℕ) → edges ≡ map edge_of_row d.rows → length edges ≡ length d.rows
edges_few d edges e = ap (length {A = ℕ}) e ∙ length-map d.rows edge_of_row

places_are_rows : (e i : ℕ) (rows : List Row) → flat_map (place_if e) (enumerate_from i (map edge_of_row rows)) ≡ flat_map (row_on e) (enumerate_from i rows)
places_are_rows e i [] = refl
places_are_rows e i (r ∷ rows) = ap (λ xs. (if r.edge.0 == e then i ∷ [] else []) ++ xs) (places_are_rows e (i + 1) rows)

pub grouped_rows : (d : ShellRows) (edges groups : List ℕ) → edges ≡ map edge_of_row d.rows → groups ≡ edges → (e : ℕ) → places_of e groups ≡ rows_on_edge d e
grouped_rows d edges groups is all e = ap (places_of e) (all ∙ is) ∙ places_are_rows e 0 d.rows
