-- Each row is followed by a row.
use Rattle.std.specs.Prelude.{◌≡◌, ℕ, ◌+◌, ◌<◌, Bool, true, false, List, [], ◌∷◌, length, flat_map, reverse, Some, slice_get, if◌then◌else◌}
use Rattle.std.proofs.Common.{refl, ◌∙◌, arith, inl, inr, ⊎_elim, length-append}
use Rattle.std.proofs.lemmas.List.{length-reverse}
use Rattle.std.proofs.lemmas.Option.{slice_get_within}
use Rattle.edge_uses.proofs.JoinLemmas.{length-next}
use Rattle.solid_data.specs.Ring.{next_of_each, previous_of_each, numbers_from}
use Rattle.solid_data.specs.SolidData.{SolidData, PlacedLoop, placed_loops}
use Rattle.solid_data.specs.declared.solid.Shell.{Shell}
use Rattle.edge_uses.specs.declared.row.Row.{Row}
use Rattle.edge_uses.specs.ShellRows.{ShellRows, loop_rows, follows_from, shell_rows}
use Rattle.edge_uses.specs.RowRelations.{Follows}
use Rattle.solid_data.proofs.Members.{has_append, Has, has_get, get_some, has_reverse}
use Rattle.solid_data.proofs.Occurring.{number_below, length-numbers}

has_next : (xs : List ℕ) (z : ℕ) → Has (next_of_each xs) z → Has xs z
has_next [] z h = h
has_next (x ∷ xs) z h = ⊎_elim (λ k. inr k) (λ k. ⊎_elim (λ e. inl e) (λ m. absurd m) k) (has_append xs (x ∷ []) z h)

ordered_has : (b : Bool) (xs : List ℕ) (z : ℕ) → Has (if b then next_of_each xs else previous_of_each xs) z → Has xs z
ordered_has true xs z h = has_next xs z h
ordered_has false xs z h = has_reverse xs z (has_next (reverse xs) z (has_reverse (next_of_each (reverse xs)) z h))

length-ordered : (b : Bool) (xs : List ℕ) → length (if b then next_of_each xs else previous_of_each xs) ≡ length xs
length-ordered true xs = length-next xs
length-ordered false xs = length-reverse (next_of_each (reverse xs)) ∙ (length-next (reverse xs) ∙ length-reverse xs)

length-follows : (s : SolidData) (base : ℕ) (ps : List PlacedLoop) → length (follows_from s base ps) ≡ length (flat_map (loop_rows s) ps)
length-follows s base [] = refl
length-follows s base (p ∷ ps) =
    let n : ℕ = length (loop_rows s p) in
    let ring : List ℕ = numbers_from base n in
    let a = length-append (if p.forwards then next_of_each ring else previous_of_each ring) (follows_from s (base + n) ps) in
    let b = length-ordered p.forwards ring in
    let c = length-numbers base n in
    let d = length-follows s (base + n) ps in
    let e = length-append (loop_rows s p) (flat_map (loop_rows s) ps) in
    omega (arith, a, b, c, d, e)

follows_below : (s : SolidData) (base : ℕ) (ps : List PlacedLoop) (x : ℕ) → Has (follows_from s base ps) x → x < base + length (flat_map (loop_rows s) ps)
follows_below s base [] x h = absurd h
follows_below s base (p ∷ ps) x h =
    let n : ℕ = length (loop_rows s p) in
    let ring : List ℕ = numbers_from base n in
    let e = length-append (loop_rows s p) (flat_map (loop_rows s) ps) in
    ⊎_elim
    (λ m. let k = number_below base n x (ordered_has p.forwards ring x m) in omega (arith, k.1, e))
    (λ m. let k = follows_below s (base + n) ps x m in omega (arith, k, e))
    (has_append (if p.forwards then next_of_each ring else previous_of_each ring) (follows_from s (base + n) ps) x h)

-- each row is followed by a row
abbrev pub EachIsFollowed : ShellRows → Type 0
EachIsFollowed d = (m : ℕ) (a : Row) → slice_get d.rows m ≡ Some a → (s : ℕ) × (b : Row) × Follows d m s × (slice_get d.rows s ≡ Some b)

pub each_is_followed : (s : SolidData) (shell : Shell) → EachIsFollowed (shell_rows s shell)
unfolding shell_rows
each_is_followed s shell m a at =
    let rows : List Row = flat_map (loop_rows s) (placed_loops shell) in
    let follows : List ℕ = follows_from s 0 (placed_loops shell) in
    let long = length-follows s 0 (placed_loops shell) in
    let low = slice_get_within rows m a at in
    let t = get_some follows m (omega (arith, long, low)) in
    let below = follows_below s 0 (placed_loops shell) t.0 (has_get follows m t.0 t.1) in
    let b = get_some rows t.0 (omega (arith, below)) in
    (t.0, b.0, t.1, b.1)
