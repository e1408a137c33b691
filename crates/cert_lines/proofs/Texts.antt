-- Texts of lines that are put one behind the other.
use Rattle.std.specs.Prelude.{◌≡◌, ℕ, List, [], ◌∷◌, ◌++◌, map, flat_map}
use Rattle.std.proofs.Common.{refl, sym, ◌∙◌, ap, append_assoc}
use Rattle.std.proofs.lemmas.Grind.{flat_map-append}
use Rattle.std.proofs.lemmas.List.Folds.{flat_map-map}
use Rattle.solid_data.specs.declared.solid.RowId.{RowId}
use Rattle.cert_lines.specs.Line.{CertLine, head, solid, end, spelling}
use Rattle.cert_lines.specs.declared.version.Version.{Version}
use Rattle.cert_lines.specs.declared.parts.Certificate.{Certificate}
use Rattle.cert_lines.specs.Written.{edge_line, corner_line, reach_line, shell_lines, solid_lines, text_of}
use Rattle.solid_data.specs.declared.linked.Corner.{Corner}
use Rattle.cert_lines.specs.declared.parts.ShellPart.{ShellPart}

pub shell_text : (line : CertLine) (es : List (RowId × RowId)) (cs : List Corner) (rs : List RowId) (ts : List CertLine) (old o1 o2 o3 o4 o5 : List ℕ)
    → o1 ≡ old ++ spelling line → o2 ≡ o1 ++ flat_map (λ p. spelling (edge_line p)) es → o3 ≡ o2 ++ flat_map (λ l. spelling (corner_line l)) cs →
    o4 ≡ o3 ++ flat_map (λ r. spelling (reach_line r)) rs → o5 ≡ o4 ++ text_of ts
    → o5 ≡ old ++ text_of (line ∷ (map edge_line es ++ (map corner_line cs ++ (map reach_line rs ++ ts))))
shell_text line es cs rs ts old o1 o2 o3 o4 o5 h1 h2 h3 h4 h5 =
    let s = spelling line in
    let fe = flat_map (λ p. spelling (edge_line p)) es in
    let fc = flat_map (λ l. spelling (corner_line l)) cs in
    let fr = flat_map (λ r. spelling (reach_line r)) rs in
    let ft = text_of ts in
    let corners = map corner_line cs in
    let reached = map reach_line rs in
    let m1 : text_of (map edge_line es) ≡ fe = flat_map-map spelling edge_line es in
    let m2 : text_of corners ≡ fc = flat_map-map spelling corner_line cs in
    let m3 : text_of reached ≡ fr = flat_map-map spelling reach_line rs in
    let last : text_of (reached ++ ts) ≡ fr ++ ft = flat_map-append spelling reached ts ∙ ap (λ t. t ++ ft) m3 in
    let inner : text_of (corners ++ (reached ++ ts)) ≡ fc ++ (fr ++ ft) =
    flat_map-append spelling corners (reached ++ ts) ∙ (ap (λ t. t ++ text_of (reached ++ ts)) m2 ∙ ap (λ t. fc ++ t) last) in
    let whole : text_of (map edge_line es ++ (corners ++ (reached ++ ts))) ≡ fe ++ (fc ++ (fr ++ ft)) =
    flat_map-append spelling (map edge_line es) (corners ++ (reached ++ ts)) ∙
    (ap (λ t. t ++ text_of (corners ++ (reached ++ ts))) m1 ∙ ap (λ t. fe ++ t) inner) in
    let put : o5 ≡ ((((old ++ s) ++ fe) ++ fc) ++ fr) ++ ft =
    h5 ∙ ap (λ o. o ++ ft) (h4 ∙ ap (λ o. o ++ fr) (h3 ∙ ap (λ o. o ++ fc) (h2 ∙ ap (λ o. o ++ fe) h1))) in
    put ∙ (append_assoc (((old ++ s) ++ fe) ++ fc) fr ft ∙ (append_assoc ((old ++ s) ++ fe) fc (fr ++ ft) ∙
    (append_assoc (old ++ s) fe (fc ++ (fr ++ ft)) ∙ (append_assoc old s (fe ++ (fc ++ (fr ++ ft))) ∙ ap (λ t. old ++ (s ++ t)) (sym whole)))))

shells_text : (v : Version) (hs : List (ℕ × ShellPart)) → text_of (flat_map (shell_lines v) hs) ≡ flat_map (λ h. text_of (shell_lines v h)) hs
shells_text v [] = refl
shells_text v (h ∷ hs) = flat_map-append spelling (shell_lines v h) (flat_map (shell_lines v) hs) ∙ ap (λ t. text_of (shell_lines v h) ++ t) (shells_text v hs)

pub solid_text : (v : Version) (n : ℕ) (hs : List (ℕ × ShellPart)) (old o1 o2 : List ℕ) → o1 ≡ old ++ spelling (solid n) →
    o2 ≡ o1 ++ flat_map (λ h. text_of (shell_lines v h)) hs → o2 ≡ old ++ text_of (solid n ∷ flat_map (shell_lines v) hs)
solid_text v n hs old o1 o2 h1 h2 =
    let b = spelling (solid n) in
    let f = flat_map (λ h. text_of (shell_lines v h)) hs in
    let put : o2 ≡ (old ++ b) ++ f = h2 ∙ ap (λ o. o ++ f) h1 in
    put ∙ (append_assoc old b f ∙ ap (λ t. old ++ (b ++ t)) (sym (shells_text v hs)))

solids_text : (cs : List Certificate) → text_of (flat_map solid_lines cs) ≡ flat_map (λ c. text_of (solid_lines c)) cs
solids_text [] = refl
solids_text (c ∷ cs) = flat_map-append spelling (solid_lines c) (flat_map solid_lines cs) ∙ ap (λ t. text_of (solid_lines c) ++ t) (solids_text cs)

pub whole_text : (v : Version) (ls : List CertLine) (o1 o2 o3 : List ℕ) → o1 ≡ spelling (head v) → o2 ≡ o1 ++ text_of ls → o3 ≡ o2 ++ spelling end →
    o3 ≡ text_of (head v ∷ (ls ++ end ∷ []))
whole_text v ls o1 o2 o3 h1 h2 h3 =
    let a = spelling (head v) in
    let f = text_of ls in
    let e = spelling end in
    let tail : text_of (ls ++ end ∷ []) ≡ f ++ e = flat_map-append spelling ls (end ∷ []) in
    let put : o3 ≡ (a ++ f) ++ e = h3 ∙ ap (λ o. o ++ e) (h2 ∙ ap (λ o. o ++ f) h1) in
    put ∙ (append_assoc a f e ∙ ap (λ t. a ++ t) (sym tail))

pub book_text : (v : Version) (cs : List Certificate) (o1 o2 o3 : List ℕ) → o1 ≡ spelling (head v) → o2 ≡ o1 ++ flat_map (λ c. text_of (solid_lines c)) cs →
    o3 ≡ o2 ++ spelling end → o3 ≡ text_of (head v ∷ (flat_map solid_lines cs ++ end ∷ []))
book_text v cs o1 o2 o3 h1 h2 h3 = whole_text v (flat_map solid_lines cs) o1 o2 o3 h1 (h2 ∙ ap (λ t. o1 ++ t) (sym (solids_text cs))) h3
