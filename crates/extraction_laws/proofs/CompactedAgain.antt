-- A compacted file that is compacted again.
use Rattle.std.specs.Prelude.{◌≡◌, ◌↔◌, ℕ}
use Rattle.std.proofs.Common.{sym, ◌∙◌, ap, subst}
use Rattle.iges_params.specs.Contents.{Contents}
use Rattle.brep_walk.specs.Places.{places}
use Rattle.solid_data.specs.Obligations.{AllHold}
use Rattle.solid_extract.specs.Extracted.{new_number, IsExtracted, IsExtractedAs}
use Rattle.solid_extract.proofs.Again.{number_again}
use Rattle.solid_extract.proofs.One.{IsExtracted-unique}
use Rattle.extraction_laws.proofs.ExtractedSolid.{places_kept}
use Rattle.list_compact.specs.Dropped.{dropped}
use Rattle.list_compact.specs.Compacted.{IsCompacted}
use Rattle.list_compact.proofs.OneAnswer.{one_kept}
use Rattle.extraction_laws.specs.Again.{CompactedIsExtracted, CompactedAgain, CompactedStays}
use Rattle.extraction_laws.specs.Compacted.{number_between, number_after}
use Rattle.extraction_laws.proofs.CompactedSolid.{places_dropped}

module _ (f : Contents) (n : ℕ) (new : Contents) (c : IsCompacted f n new) where
  abbrev m : ℕ
  m = number_after f n new c n

  itself : IsExtractedAs new m new m
  itself = number_again (dropped c.«between») new (number_between f n new c n) c.again

  places_hold : AllHold (places new m)
  places_hold = let k = places_kept (dropped c.«between») new (number_between f n new c n) c.again in k.all.0 (places_dropped f n new c)

  is_extracted : (again : Contents) → IsCompacted new m again → IsExtracted (dropped new) m again
  is_extracted again h =
      let middle : h.«between» ≡ new = IsExtracted-unique new m h.«between» new h.extracted itself.extracted in
      let number : new_number h.extracted.kept m ≡ m = ap (λ ms. new_number ms m) (one_kept new h.«between» new m h.extracted itself.extracted) ∙ sym itself.is
      in
      subst (λ g. IsExtracted (dropped g) m again) middle (subst (λ k. IsExtracted (dropped h.«between») k again) number h.again)

  is_compacted : (again : Contents) → IsExtracted (dropped new) m again → IsCompacted new m again
  is_compacted again x = record {
    «between» = new;
    extracted = itself.extracted;
    places = places_hold;
    again =
        subst (λ k. IsExtracted (dropped new) k again) itself.is x;
  }

  stays : dropped new ≡ new → (again : Contents) → IsCompacted new m again ↔ again ≡ new
  stays same again = (
    λ h. IsExtracted-unique new m again new (subst (λ g. IsExtracted g m again) same (is_extracted again h)) itself.extracted,
    λ e. is_compacted again (subst (λ g. IsExtracted g m again) (sym same) (subst (IsExtracted new m) (sym e) itself.extracted)),
  )

pub compacted_is_extracted : CompactedIsExtracted
compacted_is_extracted f n new c = let x = itself f n new c in (x.extracted, places_hold f n new c)

pub compacted_again : CompactedAgain
compacted_again f n new c again = (is_extracted f n new c again, is_compacted f n new c again)

pub compacted_stays : CompactedStays
compacted_stays f n new c same again = stays f n new c same again
