-- Extraction keeps the places of a solid, and what its records tell.
use Rattle.brep_walk.specs.Places.{places}
use Rattle.solid_extract.specs.Extracted.{new_number, renamed}
use Rattle.extraction_laws.specs.Kept.{PlacesAreAlike, PlacesAreKept, SolidIsKept}
use Rattle.extraction_laws.proofs.KeptPlaces as in_both
use Rattle.extraction_laws.proofs.KeptSolid.{solid_relabelled}
use Rattle.extraction_laws.proofs.KeptVerdicts.{keeps_verdict}
use Rattle.extraction_laws.proofs.ExtractedEntries.{IsKept, extraction_renames, solid_kept}

pub places_alike : PlacesAreAlike
places_alike f q n x = in_both.places_alike f q (IsKept f q n x) (new_number x.kept) (renamed x.kept) (extraction_renames f q n x) n (solid_kept f q n x)

pub places_kept : PlacesAreKept
places_kept f q n x = keeps_verdict x.kept (places f n) (places q (new_number x.kept n)) (places_alike f q n x)

pub solid_told : SolidIsKept
solid_told f q n x = solid_relabelled f q (IsKept f q n x) (new_number x.kept) (renamed x.kept) (extraction_renames f q n x) n (solid_kept f q n x)
