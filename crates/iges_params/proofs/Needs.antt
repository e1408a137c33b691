-- How many lines the entries before each block need.
use Rattle.std.proofs.Common.{◌≡◌, ◌⊎◌, inl, inr, ℕ, ◌+◌, ◌*◌, ◌<◌, ◌≤◌, true, List, ◌++◌, take, drop, min, Some, sym, ap, subst, ◌∙◌, arith, append_assoc}
use Rattle.std.specs.Prelude.{slice_get}
use Rattle.std.proofs.lemmas.Bool.{cases_lt}
use Rattle.std.proofs.lemmas.List.{take-append-drop}
use Rattle.std.proofs.lemmas.Option.{same_Some}
use Rattle.iges_directory.specs.declared.entry.Placed.{Placed}
use Rattle.iges_directory.specs.Entries.{has_record}
use Rattle.iges_params.specs.FromLast.{IsFront, LieWithin, IsNeedOf}
use Rattle.iges_params.proofs.RecordPass.{record_more, record_both}

-- one entry more
pub most_more : (ps : List Placed) (i : ℕ) (p : Placed) (most need new : ℕ) → slice_get ps i ≡ Some p → LieWithin most i ps →
    has_record need p.entry.kind p.first p.count ≡ true → most ≤ new → need ≤ new → LieWithin new (i + 1) ps
most_more ps i p most need new at h one a b j q lt is = by_place (cases_lt j i)
  where
    by_place : (j < i) ⊎ (i ≤ j) → has_record new q.entry.kind q.first q.count ≡ true
    by_place (inl before) = record_more most new q.entry.kind q.first q.count a (h j q before is)
    by_place (inr past) =
        let same : j ≡ i = omega (arith, lt, past) in
        let found : q ≡ p = same_Some q p (sym is ∙ ap (slice_get ps) same ∙ at) in
        record_more need new q.entry.kind q.first q.count b (subst (λ (x : Placed). has_record need x.entry.kind x.first x.count ≡ true) (sym found) one)

pub needs_more : (ps : List Placed) (i most : ℕ) (needs new : List ℕ) → LieWithin most i ps →
    ((block need : ℕ) → slice_get needs block ≡ Some need → LieWithin need (64 * block) ps) →
    ((block need : ℕ) → slice_get new block ≡ Some need → IsNeedOf needs i most block need) →
    (block need : ℕ) → slice_get new block ≡ Some need → LieWithin need (64 * block) ps
needs_more ps i most needs new m old h block need is = by_kind (h block need is)
  where
    by_kind : IsNeedOf needs i most block need → LieWithin need (64 * block) ps
    by_kind (inl before) = old block need before
    by_kind (inr here) = subst (λ (n : ℕ). LieWithin n (64 * block) ps) (sym here.0) (subst (λ (k : ℕ). LieWithin most k ps) (sym here.1) m)

-- entries whose records lie among both counts of lines lie among the fewer
pub within_both : (ps : List Placed) (i n m k : ℕ) → LieWithin n i ps → LieWithin m i ps → k ≡ min n m → LieWithin k i ps
within_both ps i n m k a b e j q lt is =
    subst (λ (x : ℕ). has_record x q.entry.kind q.first q.count ≡ true) (sym e) (record_both n m q.entry.kind q.first q.count (a j q lt is) (b j q lt is))

pub within_fewer : (ps : List Placed) (i k n : ℕ) → i ≤ k → LieWithin n k ps → LieWithin n i ps
within_fewer ps i k n le h j q lt is = h j q (omega (arith, le, lt)) is

pub front_less : (k : ℕ) (front all new : List (List ℕ)) → IsFront front all → new ≡ take k front → IsFront new all
front_less k front all new h e = (
  drop k front ++ h.0,
  h.1 ∙ ap (λ (l : List (List ℕ)). l ++ h.0) (sym (take-append-drop k front)) ∙ append_assoc (take k front) (drop k front) h.0
      ∙ ap (λ (l : List (List ℕ)). l ++ (drop k front ++ h.0)) (sym e),
)
