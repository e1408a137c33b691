-- Where each closed solid has a certificate that is made, a file whose solids can all be certified has the book of them.
use Rattle.std.specs.Prelude.{◌+◌, ℕ, List, [], ◌∷◌}
use Rattle.std.specs.List.{AllZip}
use Rattle.std.proofs.Common.{refl}
use Rattle.iges_params.specs.Contents.{Contents}
use Rattle.iges_params.specs.Limits.{FitsLimits}
use Rattle.brep_walk.specs.SolidOf.{solid_of}
use Rattle.shell_rules.proofs.ClosedLemmas.{closed_is_all_hold}
use Rattle.cert_lines.specs.Written.{book_lines, text_of}
use Rattle.cert_lines.specs.declared.parts.Certificate.{Certificate}
use Rattle.iges_params.specs.Solids.{solids_of}
use Rattle.cert_maker.specs.Book.{uses_of, AllMade, IsCertificateOf}
use Rattle.cert_maker.specs.Certified.{ClosedHasText}
use Rattle.cert_maker.specs.BookLaws.{MadeHasBook}

some_parts : ClosedHasText → (f : Contents) → FitsLimits f → (used : ℕ) (ns : List ℕ) → AllMade f used ns
    → (cs : List Certificate) × AllZip (IsCertificateOf f) ns cs
some_parts has_text f limits used [] made = ([], tt)
some_parts has_text f limits used (n ∷ ns) (made, more) =
    let (text, (c, certificate, same)) = has_text f n limits (record { placed = made.0; closed = (closed_is_all_hold (solid_of f n)).1 made.2 }) in
    let rest = some_parts has_text f limits (used + uses_of f n) ns more in
    (c ∷ rest.0, ((made.0, certificate), rest.1))

pub some_book : ClosedHasText → MadeHasBook
some_book has_text f limits made =
    let parts = some_parts has_text f limits 0 (solids_of f) made in
    (text_of (book_lines parts.0), (parts.0, parts.1, refl))
