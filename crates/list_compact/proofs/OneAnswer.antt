-- A solid is compacted in one way, or refused in one, or has one first false place.
use Rattle.std.specs.Prelude.{◌≡◌, ℕ, List, Result, Ok, Err, IfOk, IfErr}
use Rattle.std.proofs.Common.{subst}
use Rattle.iges_params.specs.Contents.{Contents}
use Rattle.brep_walk.specs.Places.{places}
use Rattle.solid_data.specs.declared.verdict.Failing.{Failing}
use Rattle.solid_data.proofs.ObligationLemmas.{FirstFalse-not_all, FirstFalse-one}
use Rattle.entry_references.specs.declared.fault.ExtractReason.{ExtractReason}
use Rattle.entry_references.proofs.RisingLists.{contains_at, in_from, same_increasing}
use Rattle.solid_extract.specs.Extracted.{new_number, IsExtracted, IsRefused}
use Rattle.solid_extract.proofs.One.{IsExtracted-unique, IsRefused-unique, IsExtracted-IsRefused}
use Rattle.list_compact.specs.declared.fault.CompactFault.{CompactFault}
use Rattle.list_compact.specs.declared.fault.CompactFault.TheVariants as fault
use Rattle.list_compact.specs.Compacted.{IsCompacted, IsMisplaced, IsCompactFault, GivesFile, GivesRefusal, GivesPlace}
use Rattle.list_compact.specs.Dropped.{dropped}

-- what is kept is what is reached
pub one_kept : (f a b : Contents) (n : ℕ) (x : IsExtracted f n a) (y : IsExtracted f n b) → x.kept ≡ y.kept
one_kept f a b n x y =
    same_increasing x.kept y.kept x.rising y.rising
    (λ m i. in_from y.kept m ((y.reached m).1 ((x.reached m).0 (contains_at x.kept m i))))
    (λ m i. in_from x.kept m ((x.reached m).1 ((y.reached m).0 (contains_at y.kept m i))))

one_file : (f a b : Contents) (n : ℕ) → IsCompacted f n a → IsCompacted f n b → a ≡ b
one_file f a b n x y =
    let middle : x.«between» ≡ y.«between» = IsExtracted-unique f n x.«between» y.«between» x.extracted y.extracted in
    let kept : x.extracted.kept ≡ y.extracted.kept = one_kept f x.«between» y.«between» n x.extracted y.extracted in
    let again : IsExtracted (dropped y.«between») (new_number y.extracted.kept n) a =
    subst (λ (ms : List ℕ). IsExtracted (dropped y.«between») (new_number ms n) a) kept
    (subst (λ (g : Contents). IsExtracted (dropped g) (new_number x.extracted.kept n) a) middle x.again) in
    IsExtracted-unique (dropped y.«between») (new_number y.extracted.kept n) a b again y.again

module _ (f : Contents) (n : ℕ) where
  pub only_file : (result : Result Contents CompactFault) (new : Contents) → IfOk result (IsCompacted f n) → IfErr result (IsCompactFault f n)
      → IsCompacted f n new → GivesFile result new
  only_file (Ok given) new found bad h = one_file f given new n found h
  only_file (Err (fault.Refused entity reason)) new found bad h = IsExtracted-IsRefused f n h.«between» entity.0 reason h.extracted bad
  only_file (Err (fault.Fails x)) new found bad h = FirstFalse-not_all (places f n) x bad.places h.places
  only_file (Err fault.NoMemory) new found bad h = tt

  pub only_refusal : (result : Result Contents CompactFault) (entity : ℕ) (reason : ExtractReason) → IfOk result (IsCompacted f n)
      → IfErr result (IsCompactFault f n) → IsRefused f n entity reason → GivesRefusal result entity reason
  only_refusal (Ok given) entity reason found bad h = IsExtracted-IsRefused f n found.«between» entity reason found.extracted h
  only_refusal (Err (fault.Refused e r)) entity reason found bad h = IsRefused-unique f n e.0 entity r reason bad h
  only_refusal (Err (fault.Fails x)) entity reason found bad h = IsExtracted-IsRefused f n bad.«between» entity reason bad.extracted h
  only_refusal (Err fault.NoMemory) entity reason found bad h = tt

  pub only_place : (result : Result Contents CompactFault) (x : Failing) → IfOk result (IsCompacted f n) → IfErr result (IsCompactFault f n)
      → IsMisplaced f n x → GivesPlace result x
  only_place (Ok given) x found bad h = FirstFalse-not_all (places f n) x h.places found.places
  only_place (Err (fault.Refused e r)) x found bad h = IsExtracted-IsRefused f n h.«between» e.0 r h.extracted bad
  only_place (Err (fault.Fails y)) x found bad h = FirstFalse-one (places f n) y x bad.places h.places
  only_place (Err fault.NoMemory) x found bad h = tt
