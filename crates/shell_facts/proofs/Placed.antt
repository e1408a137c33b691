-- Where rows stand: the places that are found so far, and those of the uses, loops and faces that are left.
use Rattle.std.specs.Prelude.{◌≡◌, ◌<◌, ◌≤◌, ◌+◌, ℕ, Bool, true, false, List, [], ◌∷◌, ◌++◌, length, map, flat_map, filter_map, Option, Some, None, slice_get}
use Rattle.std.specs.List.{enumerate_from, cons_option}
use Rattle.std.proofs.Common.{refl, sym, ◌∙◌, ap, arith, get_or, drop}
use Rattle.std.proofs.lemmas.List.{drop_all, append-nil, map-append, length-map}
use Rattle.std.proofs.lemmas.Grind.{flat_map-append}
use Rattle.solid_data.specs.SolidData.{SolidData, PlacedLoop, placed_in_face, placed_loops, same_flag}
use Rattle.solid_data.specs.declared.solid.Edge.{Edge}
use Rattle.solid_data.specs.declared.solid.EdgeId.{EdgeId}
use Rattle.solid_data.specs.declared.solid.FaceUse.{FaceUse}
use Rattle.solid_data.specs.declared.solid.Loop.{Loop}
use Rattle.solid_data.specs.declared.solid.LoopAt.{LoopAt}
use Rattle.solid_data.specs.declared.solid.LoopUse.{LoopUse}
use Rattle.solid_data.specs.declared.solid.Shell.{Shell}
use Rattle.edge_uses.specs.declared.row.Row.{Row}
use Rattle.edge_uses.specs.Joining.{placed_at}
use Rattle.edge_uses.specs.ShellRows.{row_of, row_of_edge, loop_rows, shell_rows, rows_of}
use Rattle.edge_uses.proofs.Joins.{split_drop, loops_left, split_loops}
use Rattle.shell_facts.specs.declared.placing.RowPlace.{RowPlace}
use Rattle.shell_facts.specs.RowPlaces.{flag_of_use, place_of_row, use_places, loop_places, face_places, row_places_of, places_in}
use Rattle.solid_faults.proofs.GapSteps.{piece_more}

-- a row that is made of an edge runs along it by the flag
pub placed_edge : (f : FaceUse) (p : PlacedLoop) (t : ℕ) (flag : Bool) (at : LoopAt) (id : EdgeId) (along : Bool) (e : Edge)
    → place_of_row f p t flag (row_of_edge at id along (Some e))
    ≡ record { along = along; face = f.entity; face_flag = f.flag; walk = p.loop.entity; tuple = t; flag = flag } ∷ []
placed_edge f p t flag at id true e = refl
placed_edge f p t flag at id false e = refl

pub tuple_step : {A B : Type 0} (f : ℕ × A → List B) (xs : List A) (x : A) (i : ℕ) (old new all : List B) → i < length xs → get_or xs i x ≡ x
    → old ++ flat_map f (enumerate_from (i + 1) (drop i xs)) ≡ all → new ≡ old ++ f (i + 1, x)
    → new ++ flat_map f (enumerate_from (i + 1 + 1) (drop (i + 1) xs)) ≡ all
tuple_step f xs x i old new all lt at h e =
    piece_more old new (f (i + 1, x)) (flat_map f (enumerate_from (i + 1 + 1) (drop (i + 1) xs))) all
    (ap (λ ys. old ++ flat_map f (enumerate_from (i + 1) ys)) (sym (split_drop xs x i lt at)) ∙ h) e

pub tuples_done : {A B : Type 0} (f : ℕ × A → List B) (xs : List A) (i : ℕ) (now all : List B) → length xs ≤ i
    → now ++ flat_map f (enumerate_from (i + 1) (drop i xs)) ≡ all → now ≡ all
tuples_done f xs i now all past h = sym (append-nil now) ∙ (ap (λ ys. now ++ flat_map f (enumerate_from (i + 1) ys)) (sym (drop_all i xs past)) ∙ h)

pub placed_step : {B : Type 0} (f : PlacedLoop → List B) (face : ℕ) (forwards : Bool) (ls : List Loop) (l : Loop) (i : ℕ) (old new all : List B)
    → i < length ls → get_or ls i l ≡ l
    → old ++ flat_map f (loops_left face forwards ls i) ≡ all → new ≡ old ++ f (placed_at face forwards (i, l))
    → new ++ flat_map f (loops_left face forwards ls (i + 1)) ≡ all
placed_step f face forwards ls l i old new all lt at h e =
    piece_more old new (f (placed_at face forwards (i, l))) (flat_map f (loops_left face forwards ls (i + 1))) all
    (ap (λ ps. old ++ flat_map f ps) (sym (split_loops face forwards ls l i lt at)) ∙ h) e

pub placed_done : {B : Type 0} (f : PlacedLoop → List B) (face : ℕ) (forwards : Bool) (ls : List Loop) (i : ℕ) (now all : List B) → length ls ≤ i
    → now ++ flat_map f (loops_left face forwards ls i) ≡ all → now ≡ all
placed_done f face forwards ls i now all past h =
    sym (append-nil now) ∙ (ap (λ us. now ++ flat_map f (map (placed_at face forwards) (enumerate_from i us))) (sym (drop_all i ls past)) ∙ h)

-- Places and rows run the same way, one by one.

abbrev place_way : RowPlace → Bool
place_way p = p.along

abbrev row_way : Row → Bool
row_way r = r.along

ways_more : (f : FaceUse) (p : PlacedLoop) (t : ℕ) (flag : Bool) (o : Option Row) (ps : List RowPlace) (rs : List Row) → map place_way ps ≡ map row_way rs
    → map place_way (place_of_row f p t flag o ++ ps) ≡ map row_way (cons_option o rs)
ways_more f p t flag None ps rs h = h
ways_more f p t flag (Some r) ps rs h = ap (λ ws. r.along ∷ ws) h

ways_of_uses : (s : SolidData) (f : FaceUse) (p : PlacedLoop) (n : ℕ) (us : List LoopUse) → map place_way (flat_map (use_places s f p) (enumerate_from n us))
    ≡ map row_way (filter_map (row_of s p) us)
ways_of_uses s f p n [] = refl
ways_of_uses s f p n (u ∷ us) =
    ways_more f p n (flag_of_use u) (row_of s p u) (flat_map (use_places s f p) (enumerate_from (n + 1) us)) (filter_map (row_of s p) us)
    (ways_of_uses s f p (n + 1) us)

ways_of_loops : (s : SolidData) (f : FaceUse) (ps : List PlacedLoop) → map place_way (flat_map (loop_places s f) ps) ≡ map row_way (flat_map (loop_rows s) ps)
ways_of_loops s f [] = refl
ways_of_loops s f (p ∷ ps) =
    map-append place_way (loop_places s f p) (flat_map (loop_places s f) ps)
    ∙ (ap (λ ws. ws ++ map place_way (flat_map (loop_places s f) ps)) (ways_of_uses s f p 1 p.loop.uses)
    ∙ (ap (λ ws. map row_way (loop_rows s p) ++ ws) (ways_of_loops s f ps)
    ∙ sym (map-append row_way (loop_rows s p) (flat_map (loop_rows s) ps))))

ways_of_faces : (s : SolidData) (flag : Bool) (fs : List (ℕ × FaceUse)) → map place_way (flat_map (face_places s flag) fs)
    ≡ map row_way (flat_map (loop_rows s) (flat_map (placed_in_face flag) fs))
ways_of_faces s flag [] = refl
ways_of_faces s flag (f ∷ fs) =
    map-append place_way (face_places s flag f) (flat_map (face_places s flag) fs)
    ∙ (ap (λ ws. ws ++ map place_way (flat_map (face_places s flag) fs)) (ways_of_loops s f.1 (placed_in_face flag f))
    ∙ (ap (λ ws. map row_way (flat_map (loop_rows s) (placed_in_face flag f)) ++ ws) (ways_of_faces s flag fs)
    ∙ (sym (map-append row_way (flat_map (loop_rows s) (placed_in_face flag f)) (flat_map (loop_rows s) (flat_map (placed_in_face flag) fs)))
    ∙ ap (map row_way) (sym (flat_map-append (loop_rows s) (placed_in_face flag f) (flat_map (placed_in_face flag) fs))))))

pub ways_of_shell : (s : SolidData) (h : Shell) → map place_way (row_places_of s h) ≡ map row_way (shell_rows s h).rows
unfolding shell_rows
ways_of_shell s h = ways_of_faces s h.flag (enumerate_from 0 h.faces)

-- what is found of a shell that is there
pub found_ways : (s : SolidData) (o : Option Shell) (h : Shell) (ps : List RowPlace) → o ≡ Some h → ps ≡ row_places_of s h
    → map place_way ps ≡ map row_way (rows_of s o).rows
found_ways s o h ps at e = ap (map place_way) e ∙ (ways_of_shell s h ∙ ap (λ (x : Option Shell). map row_way (rows_of s x).rows) (sym at))

pub found_each : (s : SolidData) (o : Option Shell) (h : Shell) (ps : List RowPlace) → o ≡ Some h → ps ≡ row_places_of s h
    → length ps ≡ length (rows_of s o).rows
found_each s o h ps at e =
    sym (length-map ps place_way) ∙ (ap (length {A = Bool}) (found_ways s o h ps at e) ∙ length-map (rows_of s o).rows row_way)

pub found_places : (s : SolidData) (o : Option Shell) (h : Shell) (ps : List RowPlace) → o ≡ Some h → ps ≡ row_places_of s h → ps ≡ places_in s o
found_places s o h ps at e = e ∙ ap (places_in s) (sym at)
