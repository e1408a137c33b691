-- What is accepted stays accepted when it is upgraded.
use Rattle.std.specs.Prelude.{◌≡◌, ℕ, true, false, List, [], ◌∷◌, ◌++◌, map, flat_map, Contains}
use Rattle.std.specs.List.{AllByRecursion, AllZip}
use Rattle.std.specs.Fmt.{digits}
use Rattle.std.proofs.Common.{refl, sym, ◌∙◌, ap, subst, ⊎_elim}
use Rattle.iges_params.specs.Contents.{Contents}
use Rattle.iges_params.specs.Limits.{FitsLimits}
use Rattle.solid_data.specs.SolidData.{SolidData}
use Rattle.solid_data.proofs.Members.{has_get, Has-from_Contains}
use Rattle.brep_walk.specs.SolidOf.{solid_of}
use Rattle.brep_walk.proofs.Few.{has_few_parts}
use Rattle.cert_lines.specs.Line.{CertLine, head, solid, words, spelling, HasSpelling, IsLine, cut_lines}
use Rattle.cert_lines.specs.declared.version.Version.{Version}
use Rattle.cert_lines.specs.declared.version.Version.TheVariants.{One, Two, Three}
use Rattle.cert_lines.proofs.CutLines.{cut_spelled}
use Rattle.topo_certificate.specs.Legal.{IsLegal}
use Rattle.topo_certificate.specs.Upgraded.{starts_with, tally_of_shell, with_tallies, joined, upgraded}
use Rattle.cert_state.proofs.Short.{readable_tally}
use Rattle.topo_certificate.proofs.Upgrades.{TalliesRead, upgrade_legal}
use Rattle.topo_certificate.proofs.UpgradedText.{kept_other, upgraded_one}
use Rattle.cert_accept.specs.Accepted.{Certify, IsAcceptedAlone, IsAcceptedBook}
use Rattle.cert_accept.specs.Laws.{UpgradedIsAccepted}
use Rattle.cert_accept.proofs.Sound.{certified_is_closed}
use Rattle.cert_accept.proofs.Complete.{shell_small, head_read}

-- lines that are spelled one by one are the spellings
lines_spelled : (limit : ℕ) (lines : List (List ℕ)) (read : List CertLine) → AllZip (IsLine limit) lines read
    → (lines ≡ map spelling read) × AllByRecursion HasSpelling read
lines_spelled limit [] [] h = (refl, tt)
lines_spelled limit [] (l ∷ read) h = absurd h
lines_spelled limit (b ∷ lines) [] h = absurd h
lines_spelled limit (b ∷ lines) (l ∷ read) h =
    let more = lines_spelled limit lines read h.1 in
    (ap (λ x. x ∷ lines) h.0.1.1 ∙ ap (λ xs. spelling l ∷ xs) more.0, (h.0.1.0, more.1))

joined_spelled : (ls : List CertLine) → joined (map spelling ls) ≡ flat_map spelling ls
joined_spelled [] = refl
joined_spelled (l ∷ ls) = ap (λ xs. spelling l ++ xs) (joined_spelled ls)

one_first : starts_with (words (head One)) (spelling (head One)) ≡ true
unfolding digits
one_first = refl

two_not : starts_with (words (head One)) (spelling (head Two)) ≡ false
unfolding digits
two_not = refl

pub three_not : starts_with (words (head One)) (spelling (head Three)) ≡ false
unfolding digits
three_not = refl

-- a certificate of another version is kept
kept : (s : SolidData) (certificate first : List ℕ) (lines : List (List ℕ)) (v : Version) → cut_lines certificate ≡ first ∷ lines → first ≡ spelling (head v)
    → starts_with (words (head One)) (spelling (head v)) ≡ false → certificate ≡ upgraded s certificate
kept s certificate first lines v cut is no_ = kept_other s certificate first lines cut (ap (starts_with (words (head One))) is ∙ no_)

tallies_read : (f : Contents) (n : ℕ) (rest : List (List ℕ)) → FitsLimits f → Certify One f n rest → TalliesRead (solid_of f n)
tallies_read f n rest limits a k h at =
    let closed = certified_is_closed One f n rest a in
    let small = shell_small (solid_of f n) n (has_few_parts f n limits a.placed) h (has_get (solid_of f n).shells k h at) closed in
    readable_tally (solid_of f n) (tally_of_shell (solid_of f n) h) small.0.vertices small.0.edges small.0.faces small.1

upgraded_alone : (f : Contents) (n : ℕ) (certificate : List ℕ) → FitsLimits f → IsAcceptedAlone One f n certificate
    → IsAcceptedAlone Two f n (upgraded (solid_of f n) certificate)
upgraded_alone f n certificate limits a =
    let s : SolidData = solid_of f n in
    let legal : IsLegal Two s (with_tallies s 0 a.rest) = upgrade_legal s (tallies_read f n a.rest limits a.certified) a.rest a.certified.legal in
    let named : a.opens.second ≡ spelling (solid n) = a.opens.names.1.1 in
    let spelled = lines_spelled _ (with_tallies s 0 a.rest) legal.read legal.fitting.spelled in
    let all : List CertLine = head Two ∷ solid n ∷ legal.read in
    let begun : starts_with (words (head One)) a.opens.first ≡ true = ap (starts_with (words (head One))) a.opens.is_head.1.1 ∙ one_first in
    let text : spelling (head Two) ++ joined (with_tallies s 0 (a.opens.second ∷ a.rest)) ≡ upgraded s certificate =
    upgraded_one s certificate a.opens.first (a.opens.second ∷ a.rest) (spelling (head Two))
    (spelling (head Two) ++ joined (with_tallies s 0 (a.opens.second ∷ a.rest))) a.opens.cut begun refl refl in
    let second : joined (with_tallies s 0 (a.opens.second ∷ a.rest)) ≡ spelling (solid n) ++ joined (with_tallies s 0 a.rest) =
    ap (λ x. joined (with_tallies s 0 (x ∷ a.rest))) named in
    let further : joined (with_tallies s 0 a.rest) ≡ flat_map spelling legal.read = ap joined spelled.0 ∙ joined_spelled legal.read in
    let whole : upgraded s certificate ≡ flat_map spelling all =
    sym text ∙ ap (λ x. spelling (head Two) ++ x) (second ∙ ap (λ x. spelling (solid n) ++ x) further) in
    record {
      rest = with_tallies s 0 a.rest;
      opens = record {
        first = spelling (head Two);
        second = spelling (solid n);
        cut = ap cut_lines whole
            ∙ (cut_spelled all (tt, (a.opens.names.1.0, spelled.1)) ∙ ap (λ ls. spelling (head Two) ∷ spelling (solid n) ∷ ls) (sym spelled.0));
        is_head = head_read Two;
        names = subst (λ b. IsLine _ b (solid n)) named a.opens.names;
      };
      certified = record { placed = a.certified.placed; joined = a.certified.joined; apart = a.certified.apart; legal = legal };
    }

pub upgraded_is_accepted : UpgradedIsAccepted
upgraded_is_accepted f certificate One ns n limits named (m, is, a) =
    let same : n ≡ m = ⊎_elim (λ e. sym e) (λ h. absurd h) (Has-from_Contains (m ∷ []) n (subst (λ xs. Contains xs n) is named)) in
    (m, is, subst (λ x. IsAcceptedAlone Two f m (upgraded (solid_of f x) certificate)) (sym same) (upgraded_alone f m certificate limits a))
upgraded_is_accepted f certificate Two ns n limits named (m, is, a) = (
  m,
  is,
  subst (IsAcceptedAlone Two f m)
      (kept (solid_of f n) certificate a.opens.first (a.opens.second ∷ a.rest) Two a.opens.cut a.opens.is_head.1.1 two_not) a,
)
upgraded_is_accepted f certificate Three ns n limits named (parts, is, a) =
    (parts, is, subst (λ c. IsAcceptedBook f c parts) (kept (solid_of f n) certificate a.headed.first _ Three a.headed.cut a.headed.is_head.1.1 three_not) a)
