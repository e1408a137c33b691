-- The maker's certificates are legal, and accepted.
use Rattle.std.specs.Prelude.{◌≡◌, ℕ, suc, ◌+◌, ◌≤◌, List, [], ◌∷◌, ◌++◌, length, map, Err}
use Rattle.std.specs.List.{AllByRecursion, AllZip}
use Rattle.std.proofs.Common.{refl, sym, ◌∙◌, ap, subst, arith, inl, length-append}
use Rattle.std.proofs.lemmas.List.{length-map}
use Rattle.std.proofs.lemmas.Option.{slice_get_within}
use Rattle.iges_base.specs.declared.entry_no.EntryNo.{EntryNo}
use Rattle.solid_data.specs.SolidData.{SolidData}
use Rattle.solid_data.specs.Numbering.{IsNumberedSolid}
use Rattle.solid_data.specs.Ring.{numbers_from}
use Rattle.solid_data.specs.declared.solid.RowId.{RowId}
use Rattle.solid_data.specs.declared.solid.Shell.{Shell}
use Rattle.solid_data.proofs.Members.{Has, Has-from_Contains, Contains-from_Has, NoRepeat, no_longer, Rises, rises_none, All-at, has_map, map_has}
use Rattle.solid_data.proofs.Members.{from_flat_map}
use Rattle.solid_data.proofs.Occurring.{numbers_have, length-numbers}
use Rattle.edge_uses.specs.ShellRows.{ShellRows, shell_rows}
use Rattle.edge_uses.specs.RowRelations.{AreMates}
use Rattle.edge_uses.proofs.Counting.{uses-all}
use Rattle.edge_uses.proofs.RowFacts.{edges_rise, vertices_rise}
use Rattle.cert_state.specs.Progress.{IsMate}
use Rattle.cert_state.proofs.Segment.{AreGoodRows}
use Rattle.topo_certificate.proofs.Build.{PointsDiffer}
use Rattle.topo_certificate.proofs.Complete.{any_above}
use Rattle.open_certificate.specs.Sound.{IsBorder, IsBorderCycleOf, IsSoundShell}
use Rattle.open_certificate.specs.Line.{OpenLine, head, shell, end, spelling, HasSpelling}
use Rattle.open_certificate.specs.Progress.{shell_of}
use Rattle.open_certificate.specs.Legal.{IsOpenLegal}
use Rattle.open_certificate.specs.Obligations.{OpenObligation, AllHold, FirstFalse, open_obligations}
use Rattle.open_certificate.specs.Legal.{IsOpenAccepted}
use Rattle.open_shells.specs.Certified.{IsOpenCertificate, IsOpenFault, IsNoMemory, FailsSo}
use Rattle.open_shells.specs.Listed.{AreListedParts}
use Rattle.open_shells.specs.Mating.{AreOnce}
use Rattle.shell_reach.specs.Reaching.{row_numbers}
use Rattle.open_shells.specs.BorderParts.{AreBorderCycles, flat, first_in, rows_of_cycle}
use Rattle.open_certificate.specs.Written.{edge_line, corner_line, reach_line, border_line, shell_line, further_lines, open_lines, text_of}
use Rattle.open_certificate.specs.declared.parts.OpenCertificate.{OpenCertificate}
use Rattle.open_shells.specs.declared.fault.OpenFault.{OpenFault}
use Rattle.open_shells.specs.declared.fault.OpenFault.TheVariants.{Fails, NoMemory}
use Rattle.open_certificate.specs.declared.verdict.OpenFailing.{OpenFailing}
use Rattle.open_certificate.proofs.Spelling.{cut_spelled}
use Rattle.open_certificate.proofs.Legality.{no_first_false, one_first_false_of}
use Rattle.open_certificate.proofs.Sound.{rows_are, joins_shell, good_shell, shell_from_hold}
use Rattle.open_shells.proofs.OpenSizes.{AreSmall, sound_small, points_differ}
use Rattle.open_shells.proofs.PartsFit.{Follow, follow_legal, follow_spelled, shell_stage, shell_fits, end_fits}
use Rattle.open_shells.proofs.PartsGo.{LoneOk, edges_go, corners_go, reach_go, borders_go, listed_mates, listed_border}

zip_length : {A B : Type 0} (R : A → B → Type 0) (xs : List A) (ys : List B) → AllZip R xs ys → length xs ≡ length ys
zip_length R [] [] h = refl
zip_length R [] (y ∷ ys) h = absurd h
zip_length R (x ∷ xs) [] h = absurd h
zip_length R (x ∷ xs) (y ∷ ys) h = ap suc (zip_length R xs ys h.1)

none_suc : (xs : List ℕ) → NoRepeat xs → NoRepeat (map suc xs)
none_suc [] h = tt
none_suc (x ∷ xs) h = ((λ m. let k = has_map suc xs (suc x) m in let e : k.0 ≡ x = omega (arith, k.2) in h.0 (subst (Has xs) e k.1)), none_suc xs h.1)

-- a row of a cycle of border rows is one
each_border : (d : ShellRows) (cycles : List (List ℕ)) → AllByRecursion (IsBorderCycleOf d) cycles → (y : ℕ) → Has (flat cycles) y → IsBorder d y
each_border d cycles all y m = let k = from_flat_map rows_of_cycle cycles y m in by_rows k.0 (All-at (IsBorderCycleOf d) cycles all k.0 k.1) k.2
  where
    by_rows : (rs : List ℕ) → IsBorderCycleOf d rs → Has rs y → IsBorder d y
    by_rows [] h has = absurd h
    by_rows (r ∷ rs) h has = All-at (IsBorder d) (r ∷ rs) h.border y has

cycles_few : (d : ShellRows) (cycles : List (List ℕ)) → AllByRecursion (IsBorderCycleOf d) cycles → length cycles ≤ length (flat cycles)
cycles_few d [] h = omega arith
cycles_few d ([] ∷ cycles) h = absurd h.0
cycles_few d ((r ∷ rs) ∷ cycles) h = omega (arith, cycles_few d cycles h.1, length-append (r ∷ rs) (flat cycles))

-- no more cycles than rows
borders_few : (d : ShellRows) (cycles : List (List ℕ)) → AreBorderCycles d cycles → length cycles ≤ length d.rows
borders_few d cycles h =
    let n : ℕ = length d.rows in
    let into : (y : ℕ) → Has (flat cycles) y → Has (numbers_from 0 n) y =
    λ y m. let row = each_border d cycles h.each y m in let same : 0 + y ≡ y = omega arith in subst (Has (numbers_from 0 n)) same
    (numbers_have 0 n y (slice_get_within d.rows y row.0 row.1)) in
    omega (arith, cycles_few d cycles h.each, no_longer (flat cycles) (numbers_from 0 n) h.apart into, length-numbers 0 n)

-- as many rows are bordered as are the only ones of their edges
flat_count : (d : ShellRows) (ls : List ℕ) (cycles : List (List ℕ)) → AreBorderCycles d cycles → LoneOk d [] ls → ((r : ℕ) → IsBorder d r → Has ls (suc r))
    → length (flat cycles) ≡ length ls
flat_count d ls cycles h ok bordered =
    let into : (x : ℕ) → Has (map suc (flat cycles)) x
    → Has ls x = λ x m. let k = has_map suc (flat cycles) x m in subst (Has ls) k.2 (bordered k.0 (each_border d cycles h.each k.0 k.1)) in
    let back : (x : ℕ) → Has ls x → Has (map suc (flat cycles)) x = λ x m. let k = ok.each x m in subst (Has (map suc (flat cycles))) (sym k.2)
    (map_has suc (flat cycles) k.0 (h.all k.0 (k.1, k.3, k.4))) in
    omega (
      arith,
      no_longer (map suc (flat cycles)) ls (none_suc (flat cycles) h.apart) into,
      no_longer ls (map suc (flat cycles)) ok.none back,
      length-map
          (flat cycles) suc,
    )

-- The lines of a sound shell's parts fit, from the one on that names the shell.
parts_follow : (s : SolidData) (h : Shell) (c : OpenCertificate) → IsNumberedSolid s → s.shells ≡ h ∷ [] → AreOnce (shell_of s) → IsSoundShell s h
    → AreListedParts (shell_of s) c.edges c.corners c.reach c.borders
    → Follow s (shell s.entity.0 (length (shell_of s).rows) (length (shell_of s).edges) (length (shell_of s).vertices) (shell_of s).face_count
    (length c.borders) ∷ []) (map edge_line c.edges ++ (map corner_line c.corners ++ (map reach_line c.reach ++ (map border_line c.borders ++ end ∷ []))))
parts_follow s h c numbered alone once sound parts =
    let d : ShellRows = shell_of s in
    let b : ℕ = length c.borders in
    let back : shell_rows s h ≡ d = sym (rows_are s h alone) in
    let good : AreGoodRows d = good_shell s h numbered alone (joins_shell s h alone sound.joined) in
    let small : AreSmall d = subst AreSmall back (sound_small s h numbered alone sound) in
    let differ : PointsDiffer d = subst PointsDiffer back (points_differ s h) in
    let edges_up : Rises d.edges = subst (λ (x : ShellRows). Rises x.edges) back (edges_rise s h) in
    let vertices_up : Rises d.vertices = subst (λ (x : ShellRows). Rises x.vertices) back (vertices_rise s h) in
    let border_lines : List OpenLine = map border_line c.borders ++ end ∷ [] in
    let reach_lines : List OpenLine = map reach_line c.reach ++ border_lines in
    let corner_lines : List OpenLine = map corner_line c.corners ++ reach_lines in
    edges_go s b small corner_lines d.edges [] c.edges [] [] _ (shell_stage s b) (omega arith)
    (omega (arith, uses-all d.rows d.edges (rises_none d.edges edges_up) good.edges)) (any_above d.edges) edges_up parts.each_edge once.once
    (record { none = tt; each = λ a m. absurd m }) (λ x m. inl m)
    (λ es ms ls lines stage edges_done ok listed.
    let mates : (r m : ℕ) → AreMates d r m → IsMate ms (suc r) (suc m) = listed_mates d ms ls once good listed in
    let bordered : (r : ℕ) → IsBorder d r → Has ls (suc r) = listed_border d ms ls good listed in
    corners_go s b small es ms ls differ mates bordered edges_done reach_lines d.vertices [] c.corners lines stage (omega arith) (any_above d.vertices)
    vertices_up parts.each_vertex
    (λ vs lines' stage' corners_done.
    reach_go s b small es vs ms ls mates edges_done corners_done border_lines c.reach (0 ∷ []) [] lines' stage'
    (omega (arith, parts.each_face.count, length-map c.reach (λ (r : RowId). r.0))) parts.each_face.order
    (λ f m. Has-from_Contains (0 ∷ []) f m) (λ f m. Contains-from_Has (0 ∷ []) f m)
    (λ fs lines'' stage'' reach_done.
    borders_go s b small es vs fs ms ls bordered edges_done corners_done reach_done (end ∷ []) c.borders [] [] lines'' stage'' (omega arith)
    parts.each_border.each (any_above (map suc (map first_in (map row_numbers c.borders)))) parts.each_border.rises
    (λ bs rows lines''' stage''' borders_done size.
    end_fits s lines''' b es vs fs bs ms ls rows stage''' edges_done corners_done reach_done borders_done
    (omega (arith, size, flat_count d ls (map row_numbers c.borders) parts.each_border ok bordered))))))

same_shell : (n r e c f n' r' e' c' f' b : ℕ) → n ≡ n' → r ≡ r' → e ≡ e' → c ≡ c' → f ≡ f' → shell n r e c f b ≡ shell n' r' e' c' f' b
same_shell n r e c f n' r' e' c' f' b p q t u v =
    ap (λ x. shell x r e c f b) p
    ∙ (ap (λ x. shell n' x e c f b) q ∙ (ap (λ x. shell n' r' x c f b) t ∙ (ap (λ x. shell n' r' e' x f b) u ∙ ap (λ x. shell n' r' e' c' x b) v)))

-- Parts of a sound shell make a certificate.
pub certificate_made : (s : SolidData) (h : Shell) (c : OpenCertificate) → IsNumberedSolid s → s.shells ≡ h ∷ [] → AreOnce (shell_of s)
    → AllHold (open_obligations s) → AreListedParts (shell_of s) c.edges c.corners c.reach c.borders
    → c.shell ≡ s.entity → c.rows ≡ length (shell_of s).rows → c.faces ≡ (shell_of s).face_count → IsOpenCertificate s c
unfolding IsOpenLegal
certificate_made s h c numbered alone once all parts names rows faces =
    let d : ShellRows = shell_of s in
    let b : ℕ = length c.borders in
    let sound : IsSoundShell s h = shell_from_hold s h alone all in
    let small : AreSmall d = subst AreSmall (sym (rows_are s h alone)) (sound_small s h numbered alone sound) in
    let few : b ≤ length d.rows = (let k = borders_few d (map row_numbers c.borders) parts.each_border in omega (arith, k, length-map c.borders row_numbers)) in
    let rest : List OpenLine = map edge_line c.edges ++ (map corner_line c.corners ++ (map reach_line c.reach ++ (map border_line c.borders ++ end ∷ []))) in
    let same : shell s.entity.0 (length d.rows) (length d.edges) (length d.vertices) d.face_count b ≡ shell_line c =
    same_shell s.entity.0 (length d.rows) (length d.edges) (length d.vertices) d.face_count c.shell.0 c.rows (length c.edges) (length c.corners) c.faces b
    (ap (λ (x : EntryNo). x.0) (sym names)) (sym rows) (zip_length _ d.edges c.edges parts.each_edge) (zip_length _ d.vertices c.corners parts.each_vertex)
    (sym faces) in
    let short : HasSpelling (shell s.entity.0 (length d.rows) (length d.edges) (length d.vertices) d.face_count b) =
    ((numbered.number, (omega (arith, small.rows), (small.edges, (small.vertices, (small.faces, (omega (arith, few, small.rows), tt)))))), tt) in
    let whole : Follow s [] (further_lines c) =
    subst (λ l. Follow s [] (l ∷ rest)) same (short, shell_fits s b, parts_follow s h c numbered alone once sound parts) in
    record {
      names = names;
      spelled = ((tt, tt), follow_spelled s [] (further_lines c) whole);
      legal = follow_legal s [] (further_lines c) whole;
    }

-- A certificate is accepted.
pub certificate_accepted : (s : SolidData) (h : Shell) (c : OpenCertificate) → s.shells ≡ h ∷ [] → AllHold (open_obligations s) → IsOpenCertificate s c
    → IsOpenAccepted s (text_of (open_lines c))
certificate_accepted s h c alone all made = record {
  first = spelling head;
  rest = map spelling (further_lines c);
  cut = cut_spelled (open_lines c) made.spelled;
  is_head = ((tt, tt), refl);
  joined = joins_shell s h alone (shell_from_hold s h alone all).joined;
  legal = made.legal;
}

pub only_memory : (os : List OpenObligation) (e : OpenFault) → IsOpenFault os e → AllHold os → IsNoMemory e
only_memory os (Fails x) bad all = no_first_false os x all bad
only_memory os NoMemory bad all = tt

pub only_so : (A : Type 0) (os : List OpenObligation) (e : OpenFault) (x : OpenFailing) → IsOpenFault os e → FirstFalse os x → FailsSo {A = A} x (Err e)
only_so A os (Fails y) x bad first = one_first_false_of os y x bad first
only_so A os NoMemory x bad first = tt

pub never : (os : List OpenObligation) (x : OpenFailing) → AllHold os → FirstFalse os x → ⊥
never os x all first = no_first_false os x all first
