-- What a checker that is given the lines of a part says of the book.
use Rattle.std.specs.Prelude.{◌≡◌, ℕ, ◌+◌, ◌<◌, List, [], ◌∷◌, ◌++◌, length, flat_map, Result, Ok, Err, MatchResult}
use Rattle.std.specs.List.{AllZip}
use Rattle.std.proofs.Common.{refl, sym, ◌∙◌, ap, subst, arith, length-append}
use Rattle.std.proofs.lemmas.List.{append-nil}
use Rattle.iges_params.specs.Contents.{Contents}
use Rattle.brep_walk.specs.SolidOf.{solid_of}
use Rattle.solid_data.specs.Obligations.{AllHold}
use Rattle.cert_lines.specs.Line.{CertLine, end, spelling, IsLine, line_limit}
use Rattle.cert_lines.specs.declared.version.Version.TheVariants.{Two}
use Rattle.cert_text.specs.declared.fault.Illegal.{Illegal}
use Rattle.topo_certificate.specs.Legal.{IsLegal, IsPartBad}
use Rattle.topo_certificate.specs.Feeding.{FedState}
use Rattle.topo_certificate.specs.PartEnds.{EndsPart}
use Rattle.topo_certificate.proofs.Forward.{fitting_more}
use Rattle.cert_accept.specs.Accepted.{Part, part_lines, solids_named}
use Rattle.cert_accept.specs.Accepted.{checked}
use Rattle.cert_accept.specs.Book.{illegal, IsBookBad}
use Rattle.cert_accept.proofs.PartOutcomes.{end_is_line}
use Rattle.cert_accept.proofs.BookReading.{Reaches, IsBookOf, made_part, lines_more, part_number, part_refused, part_ends, next_reached, solid_entity}

zip_length : (limit : ℕ) (lines : List (List ℕ)) (read : List CertLine) → AllZip (IsLine limit) lines read → length lines ≡ length read
zip_length limit [] [] h = refl
zip_length limit [] (l ∷ read) h = absurd h
zip_length limit (x ∷ lines) [] h = absurd h
zip_length limit (x ∷ lines) (l ∷ read) h = let more = zip_length limit lines read h.1 in omega (arith, more)

module _ (f : Contents) (n number : ℕ) (text : List ℕ) (m line : ℕ) (c : FedState) (ends : EndsPart Two (solid_of f n) number text m line c) where
  -- what stands in front of the line that begins the next part is legal with END in its place
  pub ends_legal : IsLegal Two (solid_of f n) (ends.good ++ spelling end ∷ [])
  ends_legal = record {
    read = ends.read ++ end ∷ [];
    fitting = fitting_more Two (solid_of f n) ends.good ends.read (spelling end) end ends.fitting (end_is_line (solid_of f n)) ends.begins.0;
    before = ends.read;
    ended = refl;
  }

  -- it is a good part, and the line is reached behind it
  pub ends_reach : (lines : List (List ℕ)) (before : List Part) (first : List ℕ) (rest : List (List ℕ)) → AllHold (checked f n)
      → Reaches f lines before n first (ends.good ++ ends.bytes ∷ rest) → Reaches f lines (before ++ made_part n first ends.good ∷ []) m ends.bytes rest
  ends_reach lines before first rest all r = next_reached f lines before n first ends.good ends.bytes m rest r all ends_legal ends.names.1
      (subst (λ k. k < m) (solid_entity f n) ends.begins.1)

  -- and the line behind it has the number that it has in the book
  pub ends_number : (before : List Part) (first : List ℕ) → number ≡ part_number before → line ≡ part_number (before ++ made_part n first ends.good ∷ [])
  ends_number before first same =
      let p : Part = made_part n first ends.good in
      let counted : length (flat_map part_lines (before ++ p ∷ [])) ≡ length (flat_map part_lines before) + length (part_lines p) =
      ap (λ (ls : List (List ℕ)). length ls)
      (sym (append-nil (flat_map part_lines (before ++ p ∷ [])))
      ∙ (lines_more before p [] ∙ ap (λ (ls : List (List ℕ)). flat_map part_lines before ++ first ∷ ls) (append-nil ends.good)))
      ∙ length-append (flat_map part_lines before) (part_lines p) in
      omega (arith, same, counted, ends.number, zip_length (line_limit (solid_of f n)) ends.good ends.read ends.fitting.spelled)

-- What is told behind the last line of a part: the book is accepted, or this line is its first bad one.
pub part_told : (f : Contents) (n : ℕ) (lines : List (List ℕ)) (before : List Part) (first : List ℕ) (rest : List (List ℕ)) (told : Result (Unit {0}) Illegal)
    → AllHold (checked f n) → Reaches f lines before n first rest
    → MatchResult told (λ _. IsLegal Two (solid_of f n) rest) (λ bad. IsPartBad Two (solid_of f n) (part_number before) rest bad)
    → MatchResult told (λ _. (parts : List Part) × IsBookOf f lines parts × (solids_named parts ≡ solids_named before ++ n ∷ []))
    (λ bad. IsBookBad f lines (illegal bad))
part_told f n lines before first rest (Ok done) all r legal = part_ends f lines before n first rest r all legal
part_told f n lines before first rest (Err bad) all r wrong = part_refused f lines before n first rest (illegal bad) r (all, wrong)
