-- Two rows of one edge in opposite directions have each other's ends.
use Rattle.std.specs.Prelude.{◌≡◌, ℕ, zero, suc, Bool, true, false, not, List, [], ◌∷◌, ◌++◌, flat_map, filter_map, Option, Some, None, slice_get}
use Rattle.std.specs.List.{AllByRecursion, cons_option}
use Rattle.std.proofs.Common.{refl, sym, ◌∙◌, ap, subst}
use Rattle.std.proofs.lemmas.Option.{same_Some}
use Rattle.solid_data.specs.SolidData.{SolidData, PlacedLoop, placed_loops, same_flag}
use Rattle.solid_data.specs.declared.solid.Edge.{Edge}
use Rattle.solid_data.specs.declared.solid.EdgeId.{EdgeId}
use Rattle.solid_data.specs.declared.solid.LoopAt.{LoopAt}
use Rattle.solid_data.specs.declared.solid.LoopUse.{LoopUse}
use Rattle.solid_data.specs.declared.solid.LoopUse.TheVariants.{EdgeUse, VertexUse}
use Rattle.solid_data.specs.declared.solid.Shell.{Shell}
use Rattle.edge_uses.specs.declared.row.Row.{Row}
use Rattle.edge_uses.specs.ShellRows.{ShellRows, row_of_edge, row_of, loop_rows, shell_rows}
use Rattle.edge_uses.specs.Joins.{begin_of}

-- the row runs along its edge of the solid, or against it
abbrev pub HasShape : SolidData → Row → Type 0
HasShape s r = (e : Edge) × (slice_get s.edges r.edge.0 ≡ Some e) × (r.from.0 ≡ begin_of (Some e) r.along) × (r.to.0 ≡ begin_of (Some e) (not r.along))

abbrev OptionShape : SolidData → Option Row → Type 0
OptionShape s None = Unit {0}
OptionShape s (Some r) = HasShape s r

edge_shape : (s : SolidData) (at : LoopAt) (edge : EdgeId) (along : Bool) (o : Option Edge) → slice_get s.edges edge.0 ≡ o
    → OptionShape s (row_of_edge at edge along o)
edge_shape s at edge along None h = tt
edge_shape s at edge true (Some e) h = (e, h, refl, refl)
edge_shape s at edge false (Some e) h = (e, h, refl, refl)

use_shape : (s : SolidData) (p : PlacedLoop) (u : LoopUse) → OptionShape s (row_of s p u)
use_shape s p (EdgeUse edge along) = edge_shape s p.at edge (same_flag along p.forwards) (slice_get s.edges edge.0) refl
use_shape s p (VertexUse vertex) = tt

add_shape : (s : SolidData) (o : Option Row) (rows : List Row) → OptionShape s o → AllByRecursion (HasShape s) rows
    → AllByRecursion (HasShape s) (cons_option o rows)
add_shape s None rows h all = all
add_shape s (Some r) rows h all = (h, all)

loop_shapes : (s : SolidData) (p : PlacedLoop) (us : List LoopUse) → AllByRecursion (HasShape s) (filter_map (row_of s p) us)
loop_shapes s p [] = tt
loop_shapes s p (u ∷ us) = add_shape s (row_of s p u) (filter_map (row_of s p) us) (use_shape s p u) (loop_shapes s p us)

join_shapes : (s : SolidData) (xs ys : List Row) → AllByRecursion (HasShape s) xs → AllByRecursion (HasShape s) ys → AllByRecursion (HasShape s) (xs ++ ys)
join_shapes s [] ys a b = b
join_shapes s (x ∷ xs) ys a b = (a.0, join_shapes s xs ys a.1 b)

pub all_shapes : (s : SolidData) (ps : List PlacedLoop) → AllByRecursion (HasShape s) (flat_map (loop_rows s) ps)
all_shapes s [] = tt
all_shapes s (p ∷ ps) = join_shapes s (loop_rows s p) (flat_map (loop_rows s) ps) (loop_shapes s p p.loop.uses) (all_shapes s ps)

pub shape_at : (s : SolidData) (rows : List Row) (n : ℕ) (r : Row) → AllByRecursion (HasShape s) rows → slice_get rows n ≡ Some r → HasShape s r
shape_at s [] n r all at = absurd cc
shape_at s (x ∷ rows) zero r all at = subst (HasShape s) (same_Some x r at) all.0
shape_at s (x ∷ rows) (suc n) r all at = shape_at s rows n r all.1 at

-- rows of one edge in opposite directions: the one starts where the other ends
abbrev pub EndsExchanged : ShellRows → Type 0
EndsExchanged d = (n m : ℕ) (a b : Row) → slice_get d.rows n ≡ Some a → slice_get d.rows m ≡ Some b → a.edge ≡ b.edge → a.along ≡ not b.along
    → a.from.0 ≡ b.to.0

pub ends_exchanged : (s : SolidData) (shell : Shell) → EndsExchanged (shell_rows s shell)
unfolding shell_rows
ends_exchanged s shell n m a b at_n at_m one opposite =
    let rows : List Row = flat_map (loop_rows s) (placed_loops shell) in
    let all : AllByRecursion (HasShape s) rows = all_shapes s (placed_loops shell) in
    let x = shape_at s rows n a all at_n in
    let y = shape_at s rows m b all at_m in
    let same : x.0 ≡ y.0 = same_Some x.0 y.0 (sym x.1 ∙ (ap (λ (e : EdgeId). slice_get s.edges e.0) one ∙ y.1)) in
    x.2 ∙ (ap (begin_of (Some x.0)) opposite ∙ (ap (λ e. begin_of (Some e) (not b.along)) same ∙ sym y.3))
