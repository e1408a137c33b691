-- The tables of parts, and the parts that are told from them.
use Rattle.std.specs.Prelude.{◌≡◌, ◌<◌, ◌≤◌, ◌+◌, ◌==◌, ◌&&◌, ◌||◌, ◌⊎◌, ◌^◌, not, ℕ, suc, Bool, true, false, List, [], ◌∷◌, ◌++◌, length, map, flat_map}
use Rattle.std.specs.Prelude.{slice_get, Some, All, Contains, if◌then◌else◌}
use Rattle.std.specs.List.{enumerate_from, list_any}
use Rattle.std.specs.Option.{option_to_list}
use Rattle.std.proofs.Common.{refl, sym, ◌∙◌, ap, subst, arith, inl, inr, ⊎_elim, get_or}
use Rattle.solid_data.specs.Ring.{numbers_from}
use Rattle.solid_data.specs.SolidData.{SolidData, PlacedLoop, placed_in_face, edge_used, occurring, shell_edges, shell_vertices}
use Rattle.solid_data.specs.Numbering.{IsNumberedSolid}
use Rattle.solid_data.specs.declared.solid.Shell.{Shell}
use Rattle.solid_data.specs.declared.solid.FaceUse.{FaceUse}
use Rattle.solid_data.specs.declared.solid.Loop.{Loop}
use Rattle.solid_data.specs.declared.solid.LoopUse.{LoopUse}
use Rattle.std.proofs.lemmas.Bool.Decides.{eqb_tells}
use Rattle.std.proofs.lemmas.Grind.{flat_map-append}
use Rattle.std.proofs.lemmas.List.{length-append}
use Rattle.std.proofs.lemmas.Option.{get_or_from_slice_get}
use Rattle.std.proofs.lemmas.List.Elements.{All-from_recursion}
use Rattle.solid_data.proofs.Members.{Has, All-from, Contains-from_Has, Has-from_Contains, Has-from_place, has_flat_map, has_map, from_flat_map, get_some}
use Rattle.solid_data.proofs.Occurring.{length-numbers, occurs}
use Rattle.solid_data.proofs.Trail.{leads_here}
use Rattle.solid_data.specs.declared.spanning.Span.{Span}
use Rattle.solid_data.specs.Cells.{Celled}
use Rattle.solid_data.specs.Ranges.{IsWithin, IsSpanOf}
use Rattle.solid_data.proofs.Occurs.{all_at, from_occurring}
use Rattle.edge_uses.specs.Before.{face_vertices, faces_vertices}
use Rattle.edge_uses.specs.Building.{HasKnownParts, uses_in}
use Rattle.edge_uses.specs.RowRelations.{row_count}
use Rattle.edge_uses.specs.ShellRows.{ShellRows, shell_rows, rows_of}
use Rattle.edge_uses.proofs.Above.{shell_flat}
use Rattle.edge_uses.proofs.Whole.{few_edges, vertices_known}
use Rattle.solid_faults.specs.Edges.{unpaired_at, edge_unpaired, unpaired_of}
use Rattle.shell_components.specs.FaceUses.{loop_edges, face_edges}
use Rattle.shell_facts.specs.PartFacts.{faces_where, faces_before, part_faces, part_vertices, part_touching}
use Rattle.shell_facts.specs.PartTables.{faces_numbered, low_vertex, IsLowest}
use Rattle.shell_components.specs.Groups.{place_if, places_of}
use Rattle.solid_faults.specs.Parts.{ShareEdge, AreParts}
use Rattle.shell_components.specs.Trees.{AreTrees}
use Rattle.solid_faults.specs.declared.edge.Unpaired.{Unpaired}
use Rattle.shell_components.proofs.RisenLists.{kept_occurring, occurring_short}

-- a number is among some exactly where it has a place
places_from : (n i : ℕ) (xs : List ℕ) → list_any (λ m. m == n) xs ≡ false → flat_map (place_if n) (enumerate_from i xs) ≡ []
places_from n i [] h = refl
places_from n i (x ∷ xs) h = by_test (x == n) h (λ k. places_from n (i + 1) xs k)
  where
    by_test : (b : Bool) → (b || list_any (λ m. m == n) xs) ≡ false
        → (list_any (λ m. m == n) xs ≡ false → flat_map (place_if n) (enumerate_from (i + 1) xs) ≡ [])
        → (if b then i ∷ [] else []) ++ flat_map (place_if n) (enumerate_from (i + 1) xs) ≡ []
    by_test true k more = absurd cc
    by_test false k more = more k

some_place : (n i : ℕ) (xs : List ℕ) → flat_map (place_if n) (enumerate_from i xs) ≡ [] → list_any (λ m. m == n) xs ≡ false
some_place n i [] h = refl
some_place n i (x ∷ xs) h = by_test (x == n) h (λ k. some_place n (i + 1) xs k)
  where
    by_test : (b : Bool) → (if b then i ∷ [] else []) ++ flat_map (place_if n) (enumerate_from (i + 1) xs) ≡ []
        → (flat_map (place_if n) (enumerate_from (i + 1) xs) ≡ [] → list_any (λ m. m == n) xs ≡ false) → (b || list_any (λ m. m == n) xs) ≡ false
    by_test true k more = absurd cc
    by_test false k more = more k

pub none_placed : (n : ℕ) (xs : List ℕ) → list_any (λ m. m == n) xs ≡ false → places_of n xs ≡ []
none_placed n xs h = places_from n 0 xs h

pub placed_none : (n : ℕ) (xs : List ℕ) → places_of n xs ≡ [] → list_any (λ m. m == n) xs ≡ false
placed_none n xs h = some_place n 0 xs h

pub all_from : (P : ℕ → Type 0) (xs : List ℕ) → ((x : ℕ) → Has xs x → P x) → All P xs
all_from P xs h = All-from_recursion P xs (All-from P xs h)

-- what holds of all that faces use holds of what one uses
pub all_of_part : {A : Type 0} (P : ℕ → Type 0) (g : A → List ℕ) (xs : List A) (x : A) (i : ℕ) → All P (flat_map g xs) → i < length xs → get_or xs i x ≡ x
    → All P (g x)
all_of_part P g xs x i h lt at = all_from P (g x) (λ y m. all_at P (flat_map g xs) y h (has_flat_map g xs x y (Has-from_place xs x i lt at) m))

-- whether a number is among some, by its places
pub among : (n : ℕ) (xs places : List ℕ) (none : Bool) → places ≡ places_of n xs → none ≡ (length places == 0) → not none ≡ list_any (λ m. m == n) xs
among n xs [] none at e = ap not e ∙ sym (placed_none n xs (sym at))
among n xs (k ∷ places) none at e =
    let some : (length (k ∷ places) == 0) ≡ false = ⊎_elim (λ h. absurd (omega (arith, h.1))) (λ h. h.0) (eqb_tells (length (k ∷ places)) 0) in
    ap not (e ∙ some) ∙ by_test (list_any (λ m. m == n) xs) (λ h. at ∙ none_placed n xs h)
  where
    by_test : (b : Bool) → (b ≡ false → (k ∷ places) ≡ []) → true ≡ b
    by_test true h = refl
    by_test false h = absurd (let z : (k ∷ places) ≡ [] = h refl in cc)

-- What the tables of a shell take for granted.

pub firsts_low : (d : ShellRows) (firsts : List ℕ) → AreParts d firsts → AreTrees firsts
firsts_low d firsts parts x lt =
    let at : (p : ℕ) × (slice_get firsts x ≡ Some p) = get_some firsts x lt in
    subst (λ n. n ≤ x) (sym (get_or_from_slice_get firsts x at.0 0 at.1)) (parts.least x at.0 x at.1 (leads_here (ShareEdge d) x))

pub the_shell : (s : SolidData) (k : ℕ) (h : Shell) (d : ShellRows) → slice_get s.shells k ≡ Some h → d ≡ rows_of s (slice_get s.shells k) → d ≡ shell_rows s h
the_shell s k h d at is = is ∙ ap (rows_of s) at

unpaired_edge : (e along against : ℕ) (u : Unpaired) → Has (unpaired_at e along against) u → u.edge.0 ≡ e
unpaired_edge e along against u m = by_test ((along == 1) && (against == 1)) m
  where
    by_test : (b : Bool) → Has (if b then [] else record { edge = record { 0 = e }; along = along; against = against } ∷ []) u → u.edge.0 ≡ e
    by_test true m = absurd m
    by_test false (inl h) = ap (λ (x : Unpaired). x.edge.0) (sym h)
    by_test false (inr h) = absurd h

pub unpaired_within : (d : ShellRows) (us : List Unpaired) (ns : List ℕ) (range : Span) → us ≡ unpaired_of d → ns ≡ map (λ (u : Unpaired). u.edge.0) us
    → IsSpanOf range d.edges → All (IsWithin range) ns
unpaired_within d us ns range is are span = all_from (IsWithin range) ns (λ x m.
    let from : (u : Unpaired) × Has us u × (u.edge.0 ≡ x) = has_map (λ (u : Unpaired). u.edge.0) us x (subst (λ ys. Has ys x) are m) in
    let at : (e : ℕ) × Has d.edges e × Has (edge_unpaired d e) from.0 = from_flat_map (edge_unpaired d) d.edges from.0 (subst (λ vs. Has vs from.0) is from.1)
    in
    let e : at.0 ≡ x = sym (unpaired_edge at.0 (row_count d at.0 true) (row_count d at.0 false) from.0 at.2) ∙ from.2 in
    all_at (IsWithin range) d.edges x span.holds (subst (Has d.edges) e at.1))

at_most_one : (e along against : ℕ) → length (unpaired_at e along against) ≤ 1
at_most_one e along against = by_test ((along == 1) && (against == 1))
  where
    by_test : (b : Bool) → length {A = Unpaired} (if b then [] else record { edge = record { 0 = e }; along = along; against = against } ∷ []) ≤ 1
    by_test true = omega arith
    by_test false = omega arith

unpaired_short : (d : ShellRows) (es : List ℕ) → length (flat_map (edge_unpaired d) es) ≤ length es
unpaired_short d [] = omega arith
unpaired_short d (e ∷ es) =
    omega (
      arith,
      length-append (edge_unpaired d e) (flat_map (edge_unpaired d) es),
      at_most_one e (row_count d e true) (row_count d e false),
      unpaired_short d
          es,
    )

pub unpaired_few : (s : SolidData) (h : Shell) (d : ShellRows) (us : List Unpaired) → IsNumberedSolid s → d ≡ shell_rows s h → us ≡ unpaired_of d
    → length us < 2 ^ 32
unfolding shell_rows
unpaired_few s h d us numbered rows is =
    let edges : d.edges ≡ occurring (numbers_from 0 (length s.edges)) (shell_edges h) = ap (λ (x : ShellRows). x.edges) rows in
    let long : length us ≤ length d.edges = subst (λ xs. length xs ≤ length d.edges) (sym is) (unpaired_short d d.edges) in
    let short : length d.edges ≤ length s.edges =
    omega (arith, ap (length {A = ℕ}) edges, occurring_short (numbers_from 0 (length s.edges)) (shell_edges h), length-numbers 0 (length s.edges)) in
    omega (arith, long, short, few_edges s numbered)

-- what a shell's faces use occurs in it
pub vertices_occur : (s : SolidData) (h : Shell) (d : ShellRows) → IsNumberedSolid s → Has s.shells h → d ≡ shell_rows s h
    → All (Contains d.vertices) (faces_vertices s h)
unfolding shell_rows
vertices_occur s h d numbered has rows = all_from (Contains d.vertices) (faces_vertices s h) (λ x m.
    let used : Has (shell_vertices s h) x = subst (λ ys. Has ys x) (sym (shell_flat s h)) m in
    let among : Has d.vertices x =
    subst (λ (e : ShellRows). Has e.vertices x) (sym rows)
    (occurs (length s.vertices) (shell_vertices s h) x (vertices_known s h numbered has x used) used) in
    Contains-from_Has d.vertices x among)

pub vertices_within : (ns ms : List ℕ) (range : Span) → IsSpanOf range ns → All (Contains ns) ms → All (IsWithin range) ms
vertices_within ns ms range span occur =
    all_from (IsWithin range) ms (λ x m. all_at (IsWithin range) ns x span.holds (Has-from_Contains ns x (all_at (Contains ns) ms x occur m)))

pub firsts_each : (s : SolidData) (h : Shell) (d : ShellRows) (firsts : List ℕ) → d ≡ shell_rows s h → AreParts d firsts → length firsts ≡ length h.faces
unfolding shell_rows
firsts_each s h d firsts rows parts = parts.each ∙ ap (λ (x : ShellRows). x.face_count) rows

-- What a part has.

where_from : (p i : ℕ) (fs all : List FaceUse) (ps : List ℕ) → length ps ≡ length fs → ((j : ℕ) → slice_get all (i + j) ≡ slice_get fs j)
    → flat_map (λ n. option_to_list (slice_get all n)) (flat_map (place_if p) (enumerate_from i ps)) ≡ faces_where (λ q. q == p) fs ps
where_from p i [] all [] e at = refl
where_from p i [] all (q ∷ ps) e at = absurd (omega (arith, e))
where_from p i (f ∷ fs) all [] e at = absurd (omega (arith, e))
where_from p i (f ∷ fs) all (q ∷ ps) e at =
    let z : i + 0 ≡ i = omega arith in
    by_test (q == p) (ap option_to_list (sym (ap (λ n. slice_get all n) z) ∙ at 0))
    (where_from p (i + 1) fs all ps (omega (arith, e)) (λ j. let n : i + 1 + j ≡ i + suc j = omega arith in ap (λ n. slice_get all n) n ∙ at (suc j)))
  where
    by_test : (b : Bool) → option_to_list (slice_get all i) ≡ f ∷ []
        → flat_map (λ n. option_to_list (slice_get all n)) (flat_map (place_if p) (enumerate_from (i + 1) ps)) ≡ faces_where (λ q. q == p) fs ps
        → flat_map (λ n. option_to_list (slice_get all n)) ((if b then i ∷ [] else []) ++ flat_map (place_if p) (enumerate_from (i + 1) ps))
        ≡ (if b then f ∷ faces_where (λ q. q == p) fs ps else faces_where (λ q. q == p) fs ps)
    by_test true h r = ap (λ xs. xs ++ flat_map (λ n. option_to_list (slice_get all n)) (flat_map (place_if p) (enumerate_from (i + 1) ps))) h
        ∙ ap (λ xs. f ∷ xs) r
    by_test false h r = r

-- the faces at the places of a part are those of the part
pub part_named : (h : Shell) (firsts : List ℕ) (p : ℕ) → length firsts ≡ length h.faces → faces_numbered h (places_of p firsts) ≡ part_faces h firsts p
part_named h firsts p e = where_from p 0 h.faces h.faces firsts e (λ j. let z : 0 + j ≡ j = omega arith in ap (λ n. slice_get h.faces n) z)

has_where : (wanted : ℕ → Bool) (fs : List FaceUse) (ps : List ℕ) (f : FaceUse) → Has (faces_where wanted fs ps) f → Has fs f
has_where wanted [] ps f m = absurd m
has_where wanted (g ∷ fs) [] f m = absurd m
has_where wanted (g ∷ fs) (p ∷ ps) f m = by_test (wanted p) m (λ k. has_where wanted fs ps f k)
  where
    by_test : (b : Bool) → Has (if b then g ∷ faces_where wanted fs ps else faces_where wanted fs ps) f → (Has (faces_where wanted fs ps) f → Has fs f)
        → (g ≡ f) ⊎ Has fs f
    by_test true (inl e) more = inl e
    by_test true (inr k) more = inr (more k)
    by_test false k more = inr (more k)

-- what a part uses its shell uses
part_uses : (g : FaceUse → List ℕ) (h : Shell) (firsts : List ℕ) (p x : ℕ) → Has (flat_map g (part_faces h firsts p)) x → Has (flat_map g h.faces) x
part_uses g h firsts p x m =
    let from : (f : FaceUse) × Has (part_faces h firsts p) f × Has (g f) x = from_flat_map g (part_faces h firsts p) x m in
    has_flat_map g h.faces from.0 x (has_where (λ q. q == p) h.faces firsts from.0 from.1) from.2

loops_edges : (face : ℕ) (flag : Bool) (i : ℕ) (ls : List Loop)
    → flat_map edge_used (flat_map uses_in
    (map (λ (l : ℕ × Loop). record { at = record { face = record { 0 = face }; place = l.0 }; forwards = flag; loop = l.1 }) (enumerate_from i ls)))
    ≡ flat_map loop_edges ls
loops_edges face flag i [] = refl
loops_edges face flag i (l ∷ ls) =
    let rest : List LoopUse =
    flat_map uses_in (map (λ (l : ℕ × Loop). record { at = record { face = record { 0 = face }; place = l.0 }; forwards = flag; loop = l.1 })
    (enumerate_from (i + 1) ls)) in
    flat_map-append edge_used l.uses rest ∙ ap (λ es. loop_edges l ++ es) (loops_edges face flag (i + 1) ls)

faces_edges : (flag : Bool) (i : ℕ) (fs : List FaceUse) → flat_map edge_used (flat_map uses_in (flat_map (placed_in_face flag) (enumerate_from i fs)))
    ≡ flat_map face_edges fs
faces_edges flag i [] = refl
faces_edges flag i (f ∷ fs) =
    let here : List PlacedLoop = placed_in_face flag (i, f) in
    let rest : List PlacedLoop = flat_map (placed_in_face flag) (enumerate_from (i + 1) fs) in
    ap (flat_map edge_used) (flat_map-append uses_in here rest)
    ∙ (flat_map-append edge_used (flat_map uses_in here) (flat_map uses_in rest)
    ∙ (ap (λ es. es ++ flat_map edge_used (flat_map uses_in rest)) (loops_edges i _ 0 f.loops)
    ∙ ap (λ es. face_edges f ++ es) (faces_edges flag (i + 1) fs)))

-- the numbers of edges and vertices that a part uses are known to the solid
pub edges_below : (s : SolidData) (h : Shell) (firsts : List ℕ) (p : ℕ) → HasKnownParts s h
    → All (λ e. e < length s.edges) (flat_map face_edges (part_faces h firsts p))
edges_below s h firsts p known = all_from (λ e. e < length s.edges) (flat_map face_edges (part_faces h firsts p)) (λ x m.
    all_at (λ e. e < length s.edges) (shell_edges h) x known.edges
    (subst (λ ys. Has ys x) (sym (faces_edges h.flag 0 h.faces)) (part_uses face_edges h firsts p x m)))

pub vertices_below : (s : SolidData) (h : Shell) (firsts : List ℕ) (p : ℕ) → HasKnownParts s h
    → All (λ v. v < length s.vertices) (flat_map (face_vertices s) (part_faces h firsts p))
vertices_below s h firsts p known = all_from (λ v. v < length s.vertices) (flat_map (face_vertices s) (part_faces h firsts p)) (λ x m.
    all_at (λ v. v < length s.vertices) (shell_vertices s h) x known.vertices
    (subst (λ ys. Has ys x) (sym (shell_flat s h)) (part_uses (face_vertices s) h firsts p x m)))

-- the vertices that occur in a part lie in the range of its shell's
pub part_within : (s : SolidData) (h : Shell) (firsts : List ℕ) (p : ℕ) (range : Span) → All (IsWithin range) (faces_vertices s h)
    → All (IsWithin range) (part_vertices s h firsts p)
part_within s h firsts p range within = all_from (IsWithin range) (part_vertices s h firsts p) (λ x m.
    all_at (IsWithin range) (faces_vertices s h) x within
    (part_uses (face_vertices s) h firsts p x
    (from_occurring (numbers_from 0 (length s.vertices)) (flat_map (face_vertices s) (part_faces h firsts p)) x m)))

-- those that are marked by a part before are those that occur in one
pub touching_kept : (s : SolidData) (h : Shell) (firsts : List ℕ) (p : ℕ) (lows : Celled ℕ) → IsLowest s h firsts lows
    → All (IsWithin lows.span) (part_vertices s h firsts p) → p < 2 ^ 32
    → flat_map (low_vertex lows p) (part_vertices s h firsts p) ≡ part_touching s h firsts p
touching_kept s h firsts p lows lowest within few =
    sym (kept_occurring (part_vertices s h firsts p) (flat_map (face_vertices s) (faces_before h firsts p)) (low_vertex lows p) (λ v m.
    ap (λ b. if b then v ∷ [] else []) (lowest v p (all_at (IsWithin lows.span) (part_vertices s h firsts p) v within m) few)))

pub rises_to : (n : ℕ) (old new target : List ℕ) → ((m : ℕ) → All (λ k. k < m) old → new ≡ occurring (numbers_from 0 m) old) → old ≡ target
    → All (λ k. k < n) target → new ≡ occurring (numbers_from 0 n) target
rises_to n old new target h e below = h n (subst (All (λ k. k < n)) (sym e) below) ∙ ap (occurring (numbers_from 0 n)) e
