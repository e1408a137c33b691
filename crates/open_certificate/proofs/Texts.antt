-- Texts of lines that are put one behind the other.
use Rattle.std.specs.Prelude.{◌≡◌, ℕ, List, [], ◌∷◌, ◌++◌, map, flat_map}
use Rattle.std.proofs.Common.{refl, sym, ◌∙◌, ap, append_assoc}
use Rattle.std.proofs.lemmas.Grind.{flat_map-append}
use Rattle.std.proofs.lemmas.List.Folds.{flat_map-map}
use Rattle.open_certificate.specs.Line.{OpenLine, head, end, spelling}
use Rattle.open_certificate.specs.Written.{edge_line, corner_line, reach_line, border_line, shell_line, open_lines, text_of}
use Rattle.open_certificate.specs.declared.parts.OpenCertificate.{OpenCertificate}

-- lines behind which others stand
piece : {A : Type 0} (line : A → OpenLine) (xs : List A) (rest : List OpenLine) (t : List ℕ) → text_of rest ≡ t
    → text_of (map line xs ++ rest) ≡ flat_map (λ x. spelling (line x)) xs ++ t
piece line xs rest t e = flat_map-append spelling (map line xs) rest
    ∙ (ap (λ u. u ++ text_of rest) (flat_map-map spelling line xs) ∙ ap (λ u. flat_map (λ x. spelling (line x)) xs ++ u) e)

pub whole_text : (c : OpenCertificate) (o1 o2 o3 o4 o5 o6 o7 : List ℕ)
    → o1 ≡ spelling head → o2 ≡ o1 ++ spelling (shell_line c) → o3 ≡ o2 ++ flat_map (λ e. spelling (edge_line e)) c.edges
    → o4 ≡ o3 ++ flat_map (λ l. spelling (corner_line l)) c.corners
    → o5 ≡ o4 ++ flat_map (λ r. spelling (reach_line r)) c.reach → o6 ≡ o5 ++ flat_map (λ b. spelling (border_line b)) c.borders → o7 ≡ o6 ++ spelling end
    → o7 ≡ text_of (open_lines c)
whole_text c o1 o2 o3 o4 o5 o6 o7 h1 h2 h3 h4 h5 h6 h7 =
    let a = spelling head in
    let b = spelling (shell_line c) in
    let fe = flat_map (λ e. spelling (edge_line e)) c.edges in
    let fc = flat_map (λ l. spelling (corner_line l)) c.corners in
    let fr = flat_map (λ r. spelling (reach_line r)) c.reach in
    let fb = flat_map (λ l. spelling (border_line l)) c.borders in
    let z = spelling end in
    let t1 = piece border_line c.borders (end ∷ []) z refl in
    let t2 = piece reach_line c.reach (map border_line c.borders ++ end ∷ []) (fb ++ z) t1 in
    let t3 = piece corner_line c.corners (map reach_line c.reach ++ (map border_line c.borders ++ end ∷ [])) (fr ++ (fb ++ z)) t2 in
    let t4 = piece edge_line c.edges (map corner_line c.corners ++ (map reach_line c.reach ++ (map border_line c.borders ++ end ∷ [])))
    (fc ++ (fr ++ (fb ++ z))) t3 in
    let put : o7 ≡ (((((a ++ b) ++ fe) ++ fc) ++ fr) ++ fb) ++ z =
    h7 ∙ ap (λ o. o ++ z) (h6 ∙ ap (λ o. o ++ fb) (h5 ∙ ap (λ o. o ++ fr) (h4 ∙ ap (λ o. o ++ fc) (h3 ∙ ap (λ o. o ++ fe) (h2 ∙ ap (λ o. o ++ b) h1))))) in
    put
    ∙ (append_assoc ((((a ++ b) ++ fe) ++ fc) ++ fr) fb z
    ∙ (append_assoc (((a ++ b) ++ fe) ++ fc) fr (fb ++ z)
    ∙ (append_assoc ((a ++ b) ++ fe) fc (fr ++ (fb ++ z))
    ∙ (append_assoc (a ++ b) fe (fc ++ (fr ++ (fb ++ z)))
    ∙ (append_assoc a b (fe ++ (fc ++ (fr ++ (fb ++ z)))) ∙ ap (λ t. a ++ (b ++ t)) (sym t4))))))
