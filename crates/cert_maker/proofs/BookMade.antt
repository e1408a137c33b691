-- The certificates of all solids of a file make an accepted book.
use Rattle.std.specs.Prelude.{◌≡◌, ℕ, pos, ◌+◌, ◌*◌, ◌<◌, Bool, true, false, List, [], ◌∷◌, ◌++◌, length, map, flat_map, if◌then◌else◌}
use Rattle.std.specs.List.{AllByRecursion, AllZip, enumerate_from}
use Rattle.std.specs.List.Sorted.{IsStrictlyIncreasing}
use Rattle.std.specs.Ordering.{int_eq}
use Rattle.std.proofs.Common.{refl, sym, ◌∙◌, ap, subst, arith}
use Rattle.iges_fields.specs.declared.value.Value.{Value}
use Rattle.iges_directory.specs.declared.entry.Entry.{Entry}
use Rattle.iges_params.specs.Contents.{Contents}
use Rattle.brep_walk.specs.SolidOf.{solid_of}
use Rattle.cert_lines.specs.Line.{CertLine, head, solid, end, spelling, HasSpelling}
use Rattle.cert_lines.specs.Written.{shell_lines, solid_lines, book_lines, text_of}
use Rattle.cert_lines.specs.declared.parts.Certificate.{Certificate}
use Rattle.cert_lines.specs.declared.version.Version.TheVariants.{Two, Three}
use Rattle.cert_lines.proofs.CutLines.{cut_spelled}
use Rattle.topo_certificate.specs.Legal.{IsLegal}
use Rattle.cert_accept.specs.Accepted.{Certify, Part, part_lines, solids_named, IsGoodPart, IsAccepted}
use Rattle.iges_params.specs.Solids.{solids_from, solids_of}
use Rattle.cert_maker.specs.Book.{IsCertificateOf}
use Rattle.cert_maker.specs.BookLaws.{BookTextIsAccepted, OneBookText}
use Rattle.cert_maker.proofs.OneText.{one_zip, one_certificate}
use Rattle.cert_maker.proofs.Zipping.{zip_length}
use Rattle.cert_accept.proofs.Complete.{head_read}
use Rattle.solid_data.proofs.Members.{Rises}
use Rattle.edge_uses.proofs.Whole.{rising}

-- the lines of a certificate's shells
abbrev shells_lines : Certificate → List CertLine
shells_lines c = flat_map (shell_lines c.version) (enumerate_from 1 c.shells)

abbrev part_of : Certificate → Part
part_of c = record { solid = c.solid.0; first = spelling (solid c.solid.0); further = map spelling (shells_lines c) }

map_append : (xs ys : List CertLine) → map spelling (xs ++ ys) ≡ map spelling xs ++ map spelling ys
map_append [] ys = refl
map_append (x ∷ xs) ys = ap (λ ls. spelling x ∷ ls) (map_append xs ys)

lines_of_parts : (cs : List Certificate) → map spelling (flat_map solid_lines cs) ≡ flat_map part_lines (map part_of cs)
lines_of_parts [] = refl
lines_of_parts (c ∷ cs) = map_append (solid_lines c) (flat_map solid_lines cs) ∙ ap (λ ls. map spelling (solid_lines c) ++ ls) (lines_of_parts cs)

all_left : (xs ys : List CertLine) → AllByRecursion HasSpelling (xs ++ ys) → AllByRecursion HasSpelling xs
all_left [] ys h = tt
all_left (x ∷ xs) ys h = (h.0, all_left xs ys h.1)

all_both : (xs ys : List CertLine) → AllByRecursion HasSpelling xs → AllByRecursion HasSpelling ys → AllByRecursion HasSpelling (xs ++ ys)
all_both [] ys a b = b
all_both (x ∷ xs) ys a b = (a.0, all_both xs ys a.1 b)

spelled_part : (f : Contents) (n : ℕ) (c : Certificate) → IsCertificateOf f n c → AllByRecursion HasSpelling (solid_lines c)
spelled_part f n c h = all_left (solid_lines c) (end ∷ []) h.1.spelled.1

spelled_parts : (f : Contents) (ns : List ℕ) (cs : List Certificate) → AllZip (IsCertificateOf f) ns cs → AllByRecursion HasSpelling (flat_map solid_lines cs)
spelled_parts f [] [] h = tt
spelled_parts f [] (c ∷ cs) h = absurd h
spelled_parts f (n ∷ ns) [] h = absurd h
spelled_parts f (n ∷ ns) (c ∷ cs) h = all_both (solid_lines c) (flat_map solid_lines cs) (spelled_part f n c h.0) (spelled_parts f ns cs h.1)

named : (f : Contents) (n : ℕ) (c : Certificate) → IsCertificateOf f n c → c.solid.0 ≡ n
unfolding solid_of
named f n c h = ap (λ e. e.0) h.1.names

names_are : (f : Contents) (ns : List ℕ) (cs : List Certificate) → AllZip (IsCertificateOf f) ns cs → solids_named (map part_of cs) ≡ ns
names_are f [] [] h = refl
names_are f [] (c ∷ cs) h = absurd h
names_are f (n ∷ ns) [] h = absurd h
names_are f (n ∷ ns) (c ∷ cs) h = ap (λ m. m ∷ solids_named (map part_of cs)) (named f n c h.0) ∙ ap (λ ms. n ∷ ms) (names_are f ns cs h.1)

good_part : (f : Contents) (n : ℕ) (c : Certificate) → IsCertificateOf f n c → IsGoodPart f (part_of c)
good_part f n c h = record {
  names = (h.1.spelled.1.0, refl);
  certified = subst (λ m. Certify Two f m (map spelling (shells_lines c) ++ spelling end ∷ [])) (sym (named f n c h)) (record {
    placed = h.0;
    joined = h.1.joined;
    apart = h.1.apart;
    legal = subst (IsLegal Two (solid_of f n)) (map_append (shells_lines c) (end ∷ [])) h.1.legal;
  });
}

good_parts : (f : Contents) (ns : List ℕ) (cs : List Certificate) → AllZip (IsCertificateOf f) ns cs → AllByRecursion (IsGoodPart f) (map part_of cs)
good_parts f [] [] h = tt
good_parts f [] (c ∷ cs) h = absurd h
good_parts f (n ∷ ns) [] h = absurd h
good_parts f (n ∷ ns) (c ∷ cs) h = (good_part f n c h.0, good_parts f ns cs h.1)

some_parts : (cs : List Certificate) → 0 < length cs → 0 < length (map part_of cs)
some_parts [] h = h
some_parts (c ∷ cs) h = omega arith

-- The text of the certificates of all solids is an accepted book that names them, where their numbers rise.
pub book_made : (f : Contents) (cs : List Certificate) → IsStrictlyIncreasing (solids_of f) → AllZip (IsCertificateOf f) (solids_of f) cs → 0 < length cs
    → IsAccepted f (text_of (book_lines cs)) Three (solids_of f)
book_made f cs rises made some =
    let lines : List CertLine = flat_map solid_lines cs in
    let names = names_are f (solids_of f) cs made in (
      map part_of cs,
      sym names,
      record {
        headed = record {
          first = spelling (head Three);
          cut = cut_spelled (book_lines cs) (tt, all_both lines (end ∷ []) (spelled_parts f (solids_of f) cs made) (tt, tt))
              ∙ ap (λ ls. spelling (head Three) ∷ ls) (map_append lines (end ∷ []) ∙ ap (λ ls. ls ++ spelling end ∷ []) (lines_of_parts cs));
          is_head = head_read Three;
        };
        some = some_parts cs some;
        rising = subst IsStrictlyIncreasing (sym names) rises;
        good = good_parts f (solids_of f) cs made;
      },
    )

-- The numbers of solids rise.
solids_above : (low i : ℕ) (es : List (Entry × List Value)) → low < 2 * i + 1 → AllByRecursion (λ n. low < n) (solids_from i es)
solids_above low i [] h = tt
solids_above low i (e ∷ es) h = by_test (int_eq e.0.kind (pos 186)) (solids_above low (i + 1) es (omega (arith, h)))
  where
    by_test : (b : Bool) → AllByRecursion (λ n. low < n) (solids_from (i + 1) es)
        → AllByRecursion (λ n. low < n) (if b then (2 * i + 1) ∷ solids_from (i + 1) es else solids_from (i + 1) es)
    by_test true later = (h, later)
    by_test false later = later

solids_rise : (i : ℕ) (es : List (Entry × List Value)) → Rises (solids_from i es)
solids_rise i [] = tt
solids_rise i (e ∷ es) = by_test (int_eq e.0.kind (pos 186)) (solids_rise (i + 1) es)
  where
    by_test : (b : Bool) → Rises (solids_from (i + 1) es) → Rises (if b then (2 * i + 1) ∷ solids_from (i + 1) es else solids_from (i + 1) es)
    by_test true later = (solids_above (2 * i + 1) (i + 1) es (omega arith), later)
    by_test false later = later

-- The text of the certificates of all solids is an accepted book that names them.
pub book_of_all : (f : Contents) (cs : List Certificate) → AllZip (IsCertificateOf f) (solids_of f) cs → 0 < length cs
    → IsAccepted f (text_of (book_lines cs)) Three (solids_of f)
book_of_all f cs made some = book_made f cs (rising (solids_of f) (solids_rise 0 f.entries)) made some

pub book_text_accepted : BookTextIsAccepted
book_text_accepted f text some (cs, made, same) =
    let few : 0 < length cs = omega (arith, some, zip_length (IsCertificateOf f) (solids_of f) cs made) in
    subst (λ t. IsAccepted f t Three (solids_of f)) (sym same) (book_of_all f cs made few)

pub one_text_of_book : OneBookText
one_text_of_book f a b (cs, made_a, same_a) (ds, made_b, same_b) =
    let parts : cs ≡ ds = one_zip (IsCertificateOf f) (λ n c d h k. one_certificate (solid_of f n) c d h.1 k.1) (solids_of f) cs ds made_a made_b in
    same_a ∙ (ap (λ x. text_of (book_lines x)) parts ∙ sym same_b)
