-- How many pieces have begun, as far as a loop has come.
use Rattle.std.specs.Prelude.{◌≡◌, ◌<◌, ◌≤◌, ◌+◌, ◌⊎◌, ℕ, ◌==◌, nat_lt, List, Some, None, slice_get, true, false, Bool, if◌then◌else◌}
use Rattle.std.proofs.Common.{arith, refl, sym, ◌∙◌, ap, inl, inr, ⊎_elim}
use Rattle.std.proofs.lemmas.Bool.{false≢true, eqb-true, eq-eqb, ltb-true, ltb-false}
use Rattle.std.proofs.lemmas.Option.{same_Some, none-some}
use Rattle.shell_change.specs.declared.change.FaceNow.{FaceNow}
use Rattle.shell_change.specs.declared.change.Fate.{Fate}
use Rattle.shell_change.specs.declared.change.Fate.TheVariants.{Removed, Kept}
use Rattle.shell_change.specs.Pieces.{HasBegun, BeginsInOrder, piece_of, begun_with}
use Rattle.shell_change.proofs.Matching.{last_or}

-- the pieces that have begun before place i are those below a number
pub record Begun (fates : List Fate) (i begun : ℕ) : Type 0 where
  pub few : begun ≤ i
  pub each : (piece : ℕ) → piece < begun → HasBegun fates i piece
  pub only : (piece : ℕ) → HasBegun fates i piece → piece < begun

pub none_begun : (fates : List Fate) → Begun fates 0 0
none_begun fates = record {
  few = omega arith;
  each = λ piece lt. absurd (omega (arith, lt));
  only = λ piece h. absurd (omega (arith, h.before));
}

still : (fates : List Fate) (i piece : ℕ) → HasBegun fates i piece → HasBegun fates (i + 1) piece
still fates i piece h = record { place = h.place; face = h.face; before = omega (arith, h.before); kept = h.kept; of_piece = h.of_piece }

-- one more place, with a face of this piece
begins : (fates : List Fate) (i piece : ℕ) (face : FaceNow) → slice_get fates i ≡ Some (Kept face) → face.piece ≡ piece → HasBegun fates (i + 1) piece
begins fates i piece face at is = record { place = i; face = face; before = omega arith; kept = at; of_piece = is }

-- what has begun before one more place had before, or begins there
begun_or : (fates : List Fate) (i piece : ℕ) (fate : Fate) → slice_get fates i ≡ Some fate → HasBegun fates (i + 1) piece
    → HasBegun fates i piece ⊎ (piece_of fate ≡ Some piece)
begun_or fates i piece fate at h =
    ⊎_elim (λ lt. inl (record { place = h.place; face = h.face; before = lt; kept = h.kept; of_piece = h.of_piece }))
    (λ e. inr (ap piece_of (same_Some fate (Kept h.face) (sym at ∙ (ap (λ k. slice_get fates k) (sym e) ∙ h.kept))) ∙ ap (λ n. Some n) h.of_piece))
    (last_or h.place i h.before)

-- how many have begun then, by the two tests
tested : (less same : Bool) (piece begun : ℕ) → nat_lt begun piece ≡ less → (piece == begun) ≡ same
    → begun_with (Some piece) begun ≡ (if less then None else (if same then Some (begun + 1) else Some begun))
tested less same piece begun is_less is_same =
    ap (λ t. if t then None else (if piece == begun then Some (begun + 1) else Some begun)) is_less
    ∙ ap (λ t. if less then None else (if t then Some (begun + 1) else Some begun)) is_same

pub begun_more : (fates : List Fate) (i begun more : ℕ) (fate : Fate) → slice_get fates i ≡ Some fate → Begun fates i begun
    → begun_with (piece_of fate) begun ≡ Some more → Begun fates (i + 1) more
begun_more fates i begun more Removed at b e =
    let same : begun ≡ more = same_Some begun more e in
    record {
      few = omega (arith, b.few, same);
      each = λ piece lt. still fates i piece (b.each piece (omega (arith, lt, same)));
      only = λ piece h. ⊎_elim (λ k. let lt = b.only piece k in omega (arith, lt, same)) (λ w. absurd (none-some piece w)) (begun_or fates i piece Removed at h);
    }
begun_more fates i begun more (Kept face) at b e = by_test (nat_lt begun face.piece) (face.piece == begun) refl refl
  where
    by_test : (less same : Bool) → nat_lt begun face.piece ≡ less → (face.piece == begun) ≡ same → Begun fates (i + 1) more
    by_test true same is_less is_same = absurd (none-some more (sym (tested true same face.piece begun is_less is_same) ∙ e))
    by_test false true is_less is_same =
        let one : begun + 1 ≡ more = same_Some (begun + 1) more (sym (tested false true face.piece begun is_less is_same) ∙ e) in
        let here : face.piece ≡ begun = eqb-true face.piece begun is_same in
        record {
          few = omega (arith, b.few, one);
          each = λ piece lt.
              ⊎_elim (λ k. still fates i piece (b.each piece k)) (λ k. begins fates i piece face at (here ∙ sym k)) (last_or piece begun (omega (arith, lt, one)));
          only = λ piece h.
              ⊎_elim (λ k. let lt = b.only piece k in omega (arith, lt, one))
              (λ w. let is = same_Some face.piece piece w in omega (arith, is, here, one)) (begun_or fates i piece (Kept face) at h);
        }
    by_test false false is_less is_same =
        let same : begun ≡ more = same_Some begun more (sym (tested false false face.piece begun is_less is_same) ∙ e) in
        let low : face.piece ≤ begun = ltb-false begun face.piece is_less in
        let other : (face.piece ≡ begun → ⊥) = λ k. false≢true (sym is_same ∙ eq-eqb face.piece begun k) in
        record {
          few = omega (arith, b.few, same);
          each = λ piece lt. still fates i piece (b.each piece (omega (arith, lt, same)));
          only = λ piece h.
              ⊎_elim (λ k. let lt = b.only piece k in omega (arith, lt, same))
              (λ w. let is = same_Some face.piece piece w in omega (arith, is, low, other, same)) (begun_or fates i piece (Kept face) at h);
        }

-- A face with which pieces have begun in order begins in order.
pub begins_well : (fates : List Fate) (i begun more : ℕ) (fate : Fate) → Begun fates i begun → begun_with (piece_of fate) begun ≡ Some more
    → BeginsInOrder fates i fate
begins_well fates i begun more Removed b e = tt
begins_well fates i begun more (Kept face) b e = by_test (nat_lt begun face.piece) refl
  where
    by_test : (less : Bool) → nat_lt begun face.piece ≡ less → BeginsInOrder fates i (Kept face)
    by_test true is_less = absurd (none-some more (sym (tested true (face.piece == begun) face.piece begun is_less refl) ∙ e))
    by_test false is_less = λ piece lt. let low = ltb-false begun face.piece is_less in b.each piece (omega (arith, lt, low))

pub begins_badly : (fates : List Fate) (i begun : ℕ) (fate : Fate) → Begun fates i begun → begun_with (piece_of fate) begun ≡ None
    → BeginsInOrder fates i fate → ⊥
begins_badly fates i begun Removed b e h = none-some begun (sym e)
begins_badly fates i begun (Kept face) b e h = by_test (nat_lt begun face.piece) (face.piece == begun) refl refl
  where
    by_test : (less same : Bool) → nat_lt begun face.piece ≡ less → (face.piece == begun) ≡ same → ⊥
    by_test true same is_less is_same = let lt = b.only begun (h begun (ltb-true begun face.piece is_less)) in omega (arith, lt)
    by_test false true is_less is_same = none-some (begun + 1) (sym e ∙ tested false true face.piece begun is_less is_same)
    by_test false false is_less is_same = none-some begun (sym e ∙ tested false false face.piece begun is_less is_same)
