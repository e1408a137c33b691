-- Edges that are used once or by mates, and the mates of their rows.
use Rattle.std.specs.Prelude.{◌≡◌, ℕ, zero, suc, ◌+◌, ◌-◌, ◌<◌, ◌≤◌, ◌⊎◌, Bool, true, false, not, List, [], ◌∷◌, ◌++◌, length, Contains, Option, Some}
use Rattle.std.specs.Prelude.{All, slice_get}
use Rattle.std.specs.List.{AllByRecursion, AllZip}
use Rattle.std.proofs.Common.{refl, sym, ◌∙◌, ap, subst, arith, inl, inr, ⊎_elim, drop, append_assoc, get_or}
use Rattle.std.proofs.lemmas.List.{append-nil, drop_all}
use Rattle.std.proofs.lemmas.Option.{get_or_from_slice_get, same_Some, slice_get_within}
use Rattle.solid_data.specs.Obligations.{FirstNot}
use Rattle.solid_data.specs.declared.solid.RowId.{RowId}
use Rattle.solid_data.proofs.Members.{split_at, All-at, Has-from_Contains, has_get}
use Rattle.solid_data.specs.declared.spanning.Span.{Span}
use Rattle.solid_data.specs.Ranges.{IsWithin}
use Rattle.edge_uses.specs.declared.row.Row.{Row}
use Rattle.edge_uses.specs.declared.tally.Seen.{Seen}
use Rattle.edge_uses.specs.ShellRows.{ShellRows}
use Rattle.edge_uses.specs.RowRelations.{AreMates, IsPaired, row_count}
use Rattle.edge_uses.specs.Mates.{RunsOn}
use Rattle.edge_uses.specs.Tally.{IsSeen, IsTally, unseen}
use Rattle.edge_uses.proofs.Counting.{counts_of_edge}
use Rattle.edge_uses.proofs.FirstOf.{LeftIn}
use Rattle.edge_uses.proofs.Turn.{edge_id, row_of_edge_along, row_of_edge_against}
use Rattle.open_certificate.specs.Sound.{IsOnce, IsBorder, row_total}
use Rattle.shell_reach.specs.OneMate.{HaveOneMate}
use Rattle.open_shells.specs.Mating.{IsMateOf, AreOnce}
use Rattle.open_certificate.proofs.Fans.{one_mate_of}
use Rattle.open_certificate.proofs.Once.{OnceRows, total_uses}

-- What holds of all holds of the one at a place.

pub all_there : (P : ℕ → Type 0) (xs : List ℕ) (i v : ℕ) → slice_get xs i ≡ Some v → All P xs → P v
all_there P xs i v at all = subst P (get_or_from_slice_get xs i v v at) (all i v (slice_get_within xs i v at))

-- What is shown of those left is shown of all, one more.

pub left_more : (P : ℕ → Type 0) (xs : List ℕ) (i v : ℕ) → slice_get xs i ≡ Some v → LeftIn P (drop i xs) xs → P v → LeftIn P (drop (i + 1) xs) xs
left_more P xs i v at l p =
    let k = subst (λ vs. LeftIn P vs xs) (split_at xs i v at) l in
    record { holds = λ h. k.holds (p, h); fails = λ x h. k.fails x (inr (p, h)) }

pub left_fails : (P : ℕ → Type 0) (xs : List ℕ) (i v : ℕ) → slice_get xs i ≡ Some v → LeftIn P (drop i xs) xs → (P v → ⊥) → FirstNot P xs v
left_fails P xs i v at l ne = (subst (λ vs. LeftIn P vs xs) (split_at xs i v at) l).fails v (inl (ne, refl))

pub left_done : (P : ℕ → Type 0) (xs : List ℕ) (i : ℕ) → length xs ≤ i → LeftIn P (drop i xs) xs → AllByRecursion P xs
left_done P xs i past l = l.holds (subst (AllByRecursion P) (sym (drop_all i xs past)) tt)

-- Of a list that grows with another, one more.

pub zip_more : {B : Type 0} (P : ℕ → B → Type 0) (xs : List ℕ) (i v : ℕ) (b : B) (old new : List B) → slice_get xs i ≡ Some v → P v b → new ≡ old ++ b ∷ []
    → ((rest : List B) → AllZip P (drop i xs) rest → AllZip P xs (old ++ rest)) → (rest : List B) → AllZip P (drop (i + 1) xs) rest → AllZip P xs (new ++ rest)
zip_more P xs i v b old new at p e all rest h =
    let there : AllZip P xs (old ++ b ∷ rest) = all (b ∷ rest) (subst (λ vs. AllZip P vs (b ∷ rest)) (sym (split_at xs i v at)) (p, h)) in
    subst (AllZip P xs) (sym (ap (λ cs. cs ++ rest) e ∙ append_assoc old (b ∷ []) rest)) there

pub zip_done : {B : Type 0} (P : ℕ → B → Type 0) (xs : List ℕ) (i : ℕ) (made : List B) → length xs ≤ i
    → ((rest : List B) → AllZip P (drop i xs) rest → AllZip P xs (made ++ rest)) → AllZip P xs made
zip_done P xs i made past all = subst (AllZip P xs) (append-nil made) (all [] (subst (λ vs. AllZip P vs []) (sym (drop_all i xs past)) tt))

pub get_pushed_of : {A : Type 0} (xs : List A) (m : A) (r : ℕ) (k : A) → slice_get (xs ++ m ∷ []) r ≡ Some k
    → (slice_get xs r ≡ Some k) ⊎ ((r ≡ length xs) × (m ≡ k))
get_pushed_of [] m zero k h = inr (refl, same_Some m k h)
get_pushed_of [] m (suc r) k h = absurd cc
get_pushed_of (x ∷ xs) m zero k h = inl h
get_pushed_of (x ∷ xs) m (suc r) k h = ⊎_elim (λ e. inl e) (λ p. inr (ap suc p.0, p.1)) (get_pushed_of xs m r k h)

-- Edges.

pub once_counts : (d : ShellRows) (e : ℕ) → IsOnce d e → (row_count d e true ≤ 1) × (row_count d e false ≤ 1) × (1 ≤ row_count d e true + row_count d e false)
once_counts d e (inl one) =
    let t = total_uses d e in let c = counts_of_edge d e in (omega (arith, one, t, c), omega (arith, one, t, c), omega (arith, one, t, c))
once_counts d e (inr pair) = (omega (arith, pair.0), omega (arith, pair.1), omega (arith, pair.0, pair.1))

pub counts_once : (d : ShellRows) (e : ℕ) (a b : ℕ) → a ≡ row_count d e true → b ≡ row_count d e false → a ≤ 1 → b ≤ 1 → 1 ≤ a + b → IsOnce d e
counts_once d e zero b is_a is_b low_a low_b some = inl (omega (arith, is_a, is_b, low_b, some, total_uses d e, counts_of_edge d e))
counts_once d e (suc a) zero is_a is_b low_a low_b some = inl (omega (arith, is_a, is_b, low_a, some, total_uses d e, counts_of_edge d e))
counts_once d e (suc a) (suc b) is_a is_b low_a low_b some = inr (omega (arith, is_a, low_a), omega (arith, is_b, low_b))

-- what was seen of an edge of the range
pub seen_there : (d : ShellRows) (span : Span) (tally : List Seen) (e : ℕ) (seen : Seen) → IsTally d span tally → IsWithin span e
    → seen ≡ get_or tally (e - span.least) unseen → IsSeen d e seen
seen_there d span tally e seen all within is_seen = subst (IsSeen d e) (sym is_seen) (all e within)

pub only_against : (d : ShellRows) (e : ℕ) (seen : Seen) → IsSeen d e seen → IsOnce d e → seen.along ≡ 0
    → RunsOn d e false seen.against_row × (row_total d e ≡ 1)
only_against d e seen s once none =
    let k = once_counts d e once in
    (s.against_row (omega (arith, none, s.along, s.against, k.2)), omega (arith, none, s.along, k.1, k.2, total_uses d e, counts_of_edge d e))

pub only_along : (d : ShellRows) (e : ℕ) (seen : Seen) → IsSeen d e seen → IsOnce d e → seen.against ≡ 0 → RunsOn d e true seen.along_row × (row_total d e ≡ 1)
only_along d e seen s once none =
    let k = once_counts d e once in
    (s.along_row (omega (arith, none, s.along, s.against, k.2)), omega (arith, none, s.against, k.0, k.2, total_uses d e, counts_of_edge d e))

-- Mates.

pub mate_along : (d : ShellRows) (r : ℕ) (row : Row) (seen : Seen) → slice_get d.rows r ≡ Some row → row.along ≡ true → 0 < seen.against
    → IsSeen d row.edge.0 seen → AreMates d r seen.against_row
mate_along d r row seen at way some s =
    let m = s.against_row some in
    record { row = row; mate = m.row; at_r = at; at_m = m.at; one_edge = edge_id row.edge m.row.edge (sym m.edge); opposite = way ∙ sym (ap not m.along) }

pub mate_against : (d : ShellRows) (r : ℕ) (row : Row) (seen : Seen) → slice_get d.rows r ≡ Some row → row.along ≡ false → 0 < seen.along
    → IsSeen d row.edge.0 seen → AreMates d r seen.along_row
mate_against d r row seen at way some s =
    let m = s.along_row some in
    record { row = row; mate = m.row; at_r = at; at_m = m.at; one_edge = edge_id row.edge m.row.edge (sym m.edge); opposite = way ∙ sym (ap not m.along) }

pub no_mate_along : (d : ShellRows) (r : ℕ) (row : Row) (seen : Seen) → slice_get d.rows r ≡ Some row → seen.against ≡ 0 → IsSeen d row.edge.0 seen
    → IsOnce d row.edge.0 → IsBorder d r
no_mate_along d r row seen at none s once = (row, at, (only_along d row.edge.0 seen s once none).1)

pub no_mate_against : (d : ShellRows) (r : ℕ) (row : Row) (seen : Seen) → slice_get d.rows r ≡ Some row → seen.along ≡ 0 → IsSeen d row.edge.0 seen
    → IsOnce d row.edge.0 → IsBorder d r
no_mate_against d r row seen at none s once = (row, at, (only_against d row.edge.0 seen s once none).1)

-- the edge of a row is used once or by mates
pub row_once : (d : ShellRows) → AreOnce d → OnceRows d
row_once d whole n a at =
    let has : Contains d.edges a.edge.0 = All-at (λ (r : Row). Contains d.edges r.edge.0) d.rows whole.rows.edges_hold a (has_get d.rows n a at) in
    All-at (IsOnce d) d.edges whole.once a.edge.0 (Has-from_Contains d.edges a.edge.0 has)

pub once_one : (d : ShellRows) → AreOnce d → HaveOneMate d
once_one d whole = record { rows = whole.rows; one = one_mate_of d (row_once d whole) }

pub mate_pushed : (d : ShellRows) (i : ℕ) (old new : List (Option RowId)) (mate : Option RowId) → length old ≡ i → IsMateOf d i mate → new ≡ old ++ mate ∷ []
    → ((r : ℕ) (o : Option RowId) → slice_get old r ≡ Some o → IsMateOf d r o) → (r : ℕ) (o : Option RowId) → slice_get new r ≡ Some o → IsMateOf d r o
mate_pushed d i old new mate long is_mate e all r o at =
    ⊎_elim (λ h. all r o h) (λ h. subst (IsMateOf d r) h.1 (subst (λ n. IsMateOf d n mate) (sym (h.0 ∙ long)) is_mate))
    (get_pushed_of old mate r o (ap (λ xs. slice_get xs r) (sym e) ∙ at))

-- each row is a border row or has a mate
pub border_or_mate : (d : ShellRows) → AreOnce d → (m : ℕ) (a : Row) → slice_get d.rows m ≡ Some a → IsBorder d m ⊎ ((t : ℕ) × AreMates d m t)
border_or_mate d whole m a at = by_once (row_once d whole m a at)
  where
    paired : IsPaired d a.edge.0 → (b : Bool) → a.along ≡ b → (t : ℕ) × AreMates d m t
    paired pair true e = let k = row_of_edge_against d a.edge.0 pair
        in (k.0, record { row = a; mate = k.1; at_r = at; at_m = k.2; one_edge = edge_id a.edge k.1.edge (sym k.3); opposite = e ∙ sym (ap not k.4) })
    paired pair false e = let k = row_of_edge_along d a.edge.0 pair
        in (k.0, record { row = a; mate = k.1; at_r = at; at_m = k.2; one_edge = edge_id a.edge k.1.edge (sym k.3); opposite = e ∙ sym (ap not k.4) })

    by_once : IsOnce d a.edge.0 → IsBorder d m ⊎ ((t : ℕ) × AreMates d m t)
    by_once (inl one) = inl (a, at, one)
    by_once (inr pair) = inr (paired pair a.along refl)
