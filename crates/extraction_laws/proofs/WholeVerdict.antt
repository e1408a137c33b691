-- Extraction keeps the verdict on a solid.
use Rattle.std.specs.Prelude.{ℕ}
use Rattle.std.proofs.Common.{refl, ap}
use Rattle.iges_params.specs.Contents.{Contents}
use Rattle.brep_walk.specs.Places.{places}
use Rattle.brep_walk.specs.SolidOf.{solid_of}
use Rattle.solid_data.specs.declared.verdict.Verdict.TheVariants.{Closed, Fails}
use Rattle.shell_rules.specs.ShellObligations.{solid_obligations}
use Rattle.solid_verdict.specs.Closed.{obligations}
use Rattle.solid_verdict.proofs.Closed.{closed_is_all_hold_of_file}
use Rattle.solid_extract.specs.Extracted.{new_number, IsExtracted}
use Rattle.extraction_laws.specs.Alike.{FailAlike}
use Rattle.extraction_laws.specs.Kept.{kept_names, KeepsVerdict}
use Rattle.extraction_laws.specs.Relabelled.{AreNamedAlike}
use Rattle.extraction_laws.specs.KeptVerdict.{VerdictIsKept, NoOtherVerdict, ClosedIsKept}
use Rattle.extraction_laws.proofs.AlikeLists.{append_alike}
use Rattle.extraction_laws.proofs.RelabelledSolids.{solids_alike}
use Rattle.extraction_laws.proofs.ExtractedSolid.{places_alike, solid_told}
use Rattle.extraction_laws.proofs.KeptVerdicts.{keeps_verdict}

obligations_alike : (f q : Contents) (n : ℕ) (x : IsExtracted f n q)
    → FailAlike (AreNamedAlike (kept_names x.kept)) (obligations f n) (obligations q (new_number x.kept n))
unfolding obligations
obligations_alike f q n x =
    append_alike (AreNamedAlike (kept_names x.kept)) (places f n) (solid_obligations (solid_of f n)) (places q (new_number x.kept n))
    (solid_obligations (solid_of q (new_number x.kept n))) (places_alike f q n x)
    (λ all. solids_alike (kept_names x.kept) (solid_of f n) (solid_of q (new_number x.kept n)) (solid_told f q n x all))

obligations_kept : (f q : Contents) (n : ℕ) (x : IsExtracted f n q) → KeepsVerdict x.kept (obligations f n) (obligations q (new_number x.kept n))
obligations_kept f q n x = keeps_verdict x.kept (obligations f n) (obligations q (new_number x.kept n)) (obligations_alike f q n x)

pub verdict_kept : VerdictIsKept
verdict_kept f q n x Closed = let k = obligations_kept f q n x in k.all
verdict_kept f q n x (Fails y) = let k = obligations_kept f q n x in k.fails y

pub no_other : NoOtherVerdict
no_other f q n x Closed h = let k = obligations_kept f q n x in (Closed, refl, k.all.1 h)
no_other f q n x (Fails y) h = let k = obligations_kept f q n x in let e = k.only y h in (Fails e.0, ap (λ z. Fails z) e.1, e.2)

pub closed_kept : ClosedIsKept
closed_kept f q n x =
    let k = obligations_kept f q n x in
    let before = closed_is_all_hold_of_file f n in
    let after = closed_is_all_hold_of_file q (new_number x.kept n) in
    (λ c. after.1 (k.all.0 (before.0 c)), λ c. before.1 (k.all.1 (after.0 c)))
