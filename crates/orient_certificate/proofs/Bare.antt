-- The rows of a shell beside its rows in their bare directions.
use Rattle.std.specs.Prelude.{◌≡◌, ◌<◌, ◌+◌, ◌==◌, ℕ, zero, suc, Bool, true, false, cond, List, [], ◌∷◌, ◌++◌, length, map, filter_map, flat_map, slice_get}
use Rattle.std.specs.Prelude.{Option, Some, None, option_map}
use Rattle.std.specs.List.{AllZip, enumerate_from, cons_option}
use Rattle.std.proofs.Common.{refl, sym, ◌∙◌, ap, subst, arith, get_or}
use Rattle.std.proofs.lemmas.Grind.{flat_map-append}
use Rattle.std.proofs.lemmas.Option.{same_Some}
use Rattle.solid_data.specs.SolidData.{SolidData, PlacedLoop, placed_in_face, same_flag}
use Rattle.solid_data.specs.declared.solid.Edge.{Edge}
use Rattle.solid_data.specs.declared.solid.EdgeId.{EdgeId}
use Rattle.solid_data.specs.declared.solid.FaceUse.{FaceUse}
use Rattle.solid_data.specs.declared.solid.Loop.{Loop}
use Rattle.solid_data.specs.declared.solid.LoopAt.{LoopAt}
use Rattle.solid_data.specs.declared.solid.LoopUse.{LoopUse}
use Rattle.solid_data.specs.declared.solid.LoopUse.TheVariants.{EdgeUse, VertexUse}
use Rattle.solid_data.specs.declared.solid.Shell.{Shell}
use Rattle.solid_data.proofs.Members.{total, count_by-total}
use Rattle.edge_uses.specs.declared.row.Row.{Row}
use Rattle.edge_uses.specs.ShellRows.{ShellRows, row_of_edge, row_of, loop_rows, shell_rows, rows_of}
use Rattle.orient_certificate.specs.Partners.{HasTwoRows, ArePartners}
use Rattle.orient_certificate.specs.Flags.{faces_with, shell_with}
use Rattle.orient_certificate.specs.OddRing.{bare_shell}

-- row b is row a in its bare direction, where F says which faces are walked as they stand
pub record Told (F : ℕ → Bool) (a b : Row) : Type 0 where
  pub at : a.at ≡ b.at
  pub edge : a.edge ≡ b.edge
  pub along : same_flag a.along (F a.at.face.0) ≡ b.along

zip_append : {A B : Type 0} (R : A → B → Type 0) (xs : List A) (ys : List B) (us : List A) (vs : List B) → AllZip R xs ys → AllZip R us vs
    → AllZip R (xs ++ us) (ys ++ vs)
zip_append R [] [] us vs a b = b
zip_append R [] (y ∷ ys) us vs a b = absurd a
zip_append R (x ∷ xs) [] us vs a b = absurd a
zip_append R (x ∷ xs) (y ∷ ys) us vs a b = (a.0, zip_append R xs ys us vs a.1 b)

abbrev OptionZip : {A B : Type 0} → (A → B → Type 0) → Option A → Option B → Type 0
OptionZip R None None = Unit {0}
OptionZip R None (Some y) = ⊥
OptionZip R (Some x) None = ⊥
OptionZip R (Some x) (Some y) = R x y

zip_option : {A B : Type 0} (R : A → B → Type 0) (o : Option A) (p : Option B) (xs : List A) (ys : List B) → OptionZip R o p → AllZip R xs ys
    → AllZip R (cons_option o xs) (cons_option p ys)
zip_option R None None xs ys h a = a
zip_option R None (Some y) xs ys h a = absurd h
zip_option R (Some x) None xs ys h a = absurd h
zip_option R (Some x) (Some y) xs ys h a = (h, a)

told_use : (F : ℕ → Bool) (at : LoopAt) (edge : EdgeId) (along forwards : Bool) (o : Option Edge) → F at.face.0 ≡ forwards
    → OptionZip (Told F) (row_of_edge at edge (same_flag along forwards) o) (row_of_edge at edge (same_flag along true) o)
told_use F at edge along forwards None h = tt
told_use F at edge true true (Some e) h = record { at = refl; edge = refl; along = ap (same_flag true) h }
told_use F at edge true false (Some e) h = record { at = refl; edge = refl; along = ap (same_flag false) h }
told_use F at edge false true (Some e) h = record { at = refl; edge = refl; along = ap (same_flag false) h }
told_use F at edge false false (Some e) h = record { at = refl; edge = refl; along = ap (same_flag true) h }

abbrev placed : ℕ → Bool → ℕ × Loop → PlacedLoop
placed face forwards l = record { at = record { face = record { 0 = face }; place = l.0 }; forwards = forwards; loop = l.1 }

told_uses : (F : ℕ → Bool) (s : SolidData) (face : ℕ) (forwards : Bool) (l : ℕ × Loop) (us : List LoopUse) → F face ≡ forwards
    → AllZip (Told F) (filter_map (row_of s (placed face forwards l)) us) (filter_map (row_of s (placed face true l)) us)
told_uses F s face forwards l [] h = tt
told_uses F s face forwards l (EdgeUse edge along ∷ us) h =
    zip_option (Told F) _ _ (filter_map (row_of s (placed face forwards l)) us) (filter_map (row_of s (placed face true l)) us)
    (told_use F (placed face forwards l).at edge along forwards (slice_get s.edges edge.0) h) (told_uses F s face forwards l us h)
told_uses F s face forwards l (VertexUse vertex ∷ us) h = told_uses F s face forwards l us h

told_loops : (F : ℕ → Bool) (s : SolidData) (face : ℕ) (forwards : Bool) (ls : List (ℕ × Loop)) → F face ≡ forwards
    → AllZip (Told F) (flat_map (loop_rows s) (map (placed face forwards) ls)) (flat_map (loop_rows s) (map (placed face true) ls))
told_loops F s face forwards [] h = tt
told_loops F s face forwards (l ∷ ls) h =
    zip_append (Told F) (loop_rows s (placed face forwards l)) (loop_rows s (placed face true l)) (flat_map (loop_rows s) (map (placed face forwards) ls))
    (flat_map (loop_rows s) (map (placed face true) ls))
    (told_uses F s face forwards l l.1.uses h) (told_loops F s face forwards ls h)

abbrev bare_face : FaceUse → FaceUse
bare_face f = record { entity = f.entity; flag = true; loops = f.loops }

told_faces : (F : ℕ → Bool) (s : SolidData) (flag : Bool) (n : ℕ) (fs : List FaceUse)
    → ((j : ℕ) (f : FaceUse) → slice_get fs j ≡ Some f → F (n + j) ≡ same_flag f.flag flag)
    → AllZip (Told F) (flat_map (loop_rows s) (flat_map (placed_in_face flag) (enumerate_from n fs)))
    (flat_map (loop_rows s) (flat_map (placed_in_face true) (enumerate_from n (map bare_face fs))))
told_faces F s flag n [] h = tt
told_faces F s flag n (f ∷ fs) h =
    let here : F n ≡ same_flag f.flag flag = subst (λ k. F k ≡ same_flag f.flag flag) (omega arith) (h zero f refl) in
    let rest = told_faces F s flag (n + 1) fs (λ j g at. subst (λ k. F k ≡ same_flag g.flag flag) (omega arith) (h (suc j) g at)) in
    let one = told_loops F s n (same_flag f.flag flag) (enumerate_from 0 f.loops) here in
    let left = flat_map-append (loop_rows s) (placed_in_face flag (n, f)) (flat_map (placed_in_face flag) (enumerate_from (n + 1) fs)) in
    let right = flat_map-append (loop_rows s) (placed_in_face true (n, bare_face f))
    (flat_map (placed_in_face true) (enumerate_from (n + 1) (map bare_face fs))) in
    subst (λ xs. AllZip (Told F) xs (flat_map (loop_rows s) (flat_map (placed_in_face true) (enumerate_from n (map bare_face (f ∷ fs)))))) (sym left)
    (subst (λ ys. AllZip (Told F)
    (flat_map (loop_rows s) (placed_in_face flag (n, f)) ++ flat_map (loop_rows s) (flat_map (placed_in_face flag) (enumerate_from (n + 1) fs))) ys)
    (sym right)
    (zip_append (Told F) (flat_map (loop_rows s) (placed_in_face flag (n, f))) (flat_map (loop_rows s) (placed_in_face true (n, bare_face f))) _ _ one rest))

-- which faces are walked as they stand
abbrev pub forwards_in : Option Shell → List Bool
forwards_in None = []
forwards_in (Some h) = map (λ (f : FaceUse). same_flag f.flag h.flag) h.faces

abbrev pub walks : Option Shell → ℕ → Bool
walks o i = get_or (forwards_in o) i true

mapped_flag : (flag : Bool) (fs : List FaceUse) (j : ℕ) (f : FaceUse) → slice_get fs j ≡ Some f
    → get_or (map (λ (g : FaceUse). same_flag g.flag flag) fs) j true ≡ same_flag f.flag flag
mapped_flag flag [] j f at = absurd cc
mapped_flag flag (x ∷ fs) zero f at = ap (λ (g : FaceUse). same_flag g.flag flag) (same_Some x f at)
mapped_flag flag (x ∷ fs) (suc j) f at = mapped_flag flag fs j f at

pub told_rows : (s : SolidData) (o : Option Shell) → AllZip (Told (walks o)) (rows_of s o).rows (rows_of s (option_map bare_shell o)).rows
unfolding shell_rows
told_rows s None = tt
told_rows s (Some h) = told_faces (walks (Some h)) s h.flag 0 h.faces
    (λ j f at. subst (λ k. get_or (map (λ (g : FaceUse). same_flag g.flag h.flag) h.faces) k true ≡ same_flag f.flag h.flag) (omega arith)
    (mapped_flag h.flag h.faces j f at))

-- at a place of two lists
pub zip_get : {A B : Type 0} (R : A → B → Type 0) (xs : List A) (ys : List B) (k : ℕ) (x : A) → AllZip R xs ys → slice_get xs k ≡ Some x
    → (y : B) × (slice_get ys k ≡ Some y) × R x y
zip_get R [] ys k x a at = absurd cc
zip_get R (z ∷ xs) [] k x a at = absurd a
zip_get R (z ∷ xs) (y ∷ ys) zero x a at = (y, refl, subst (λ w. R w y) (same_Some z x at) a.0)
zip_get R (z ∷ xs) (y ∷ ys) (suc k) x a at = zip_get R xs ys k x a.1 at

pub zip_turned : {A B : Type 0} (R : A → B → Type 0) (S : B → A → Type 0) → ((x : A) (y : B) → R x y → S y x) → (xs : List A) (ys : List B) → AllZip R xs ys
    → AllZip S ys xs
zip_turned R S f [] [] a = tt
zip_turned R S f [] (y ∷ ys) a = absurd a
zip_turned R S f (x ∷ xs) [] a = absurd a
zip_turned R S f (x ∷ xs) (y ∷ ys) a = (f x y a.0, zip_turned R S f xs ys a.1)

pub zip_long : {A B : Type 0} (R : A → B → Type 0) (xs : List A) (ys : List B) → AllZip R xs ys → length xs ≡ length ys
zip_long R [] [] a = refl
zip_long R [] (y ∷ ys) a = absurd a
zip_long R (x ∷ xs) [] a = absurd a
zip_long R (x ∷ xs) (y ∷ ys) a = ap suc (zip_long R xs ys a.1)

-- rows of one place and one edge
pub record Alike (a b : Row) : Type 0 where
  pub at : a.at ≡ b.at
  pub edge : a.edge ≡ b.edge

pub told_alike : (F : ℕ → Bool) (a b : Row) → Told F a b → Alike a b
told_alike F a b t = record { at = t.at; edge = t.edge }

pub alike_back : (a b : Row) → Alike a b → Alike b a
alike_back a b t = record { at = sym t.at; edge = sym t.edge }

same_total : (e : ℕ) (xs ys : List Row) → AllZip Alike xs ys → total (λ (r : Row). cond (r.edge.0 == e) 1 0) xs ≡ total (λ (r : Row). cond (r.edge.0 == e) 1 0)
    ys
same_total e [] [] a = refl
same_total e [] (y ∷ ys) a = absurd a
same_total e (x ∷ xs) [] a = absurd a
same_total e (x ∷ xs) (y ∷ ys) a =
    let here : ◌≡◌ {A = ℕ} (cond (x.edge.0 == e) 1 0) (cond (y.edge.0 == e) 1 0) = ap (λ (i : EdgeId). cond (i.0 == e) 1 0) a.0.edge in
    omega (arith, here, same_total e xs ys a.1)

pub two_rows_alike : (d e : ShellRows) (g : ℕ) → AllZip Alike d.rows e.rows → HasTwoRows d g → HasTwoRows e g
two_rows_alike d e g a two = count_by-total (λ (r : Row). r.edge.0 == g) e.rows
    ∙ (sym (same_total g d.rows e.rows a) ∙ (sym (count_by-total (λ (r : Row). r.edge.0 == g) d.rows) ∙ two))

-- partners are the same in both
pub partners_alike : (d e : ShellRows) (r m : ℕ) → AllZip Alike d.rows e.rows → ArePartners d r m → ArePartners e r m
partners_alike d e r m a p =
    let x = zip_get Alike d.rows e.rows r p.row a p.at_r in
    let y = zip_get Alike d.rows e.rows m p.partner a p.at_m in
    record {
      row = x.0;
      partner = y.0;
      at_r = x.1;
      at_m = y.1;
      one_edge = sym x.2.edge ∙ (p.one_edge ∙ y.2.edge);
      apart = p.apart;
      two = subst (HasTwoRows e) (ap (λ (i : EdgeId). i.0) x.2.edge) (two_rows_alike d e p.row.edge.0 a p.two);
    }

-- A shell with other flags has the same bare rows.
bare_faces : (flags : List Bool) (fs : List FaceUse) → length flags ≡ length fs → map bare_face (faces_with flags fs) ≡ map bare_face fs
bare_faces [] [] h = refl
bare_faces [] (f ∷ fs) h = absurd (omega (arith, h))
bare_faces (b ∷ bs) [] h = absurd (omega (arith, h))
bare_faces (b ∷ bs) (f ∷ fs) h = ap (λ gs. bare_face f ∷ gs) (bare_faces bs fs (omega (arith, h)))

pub bare_with : (flags : List Bool) (h : Shell) → length flags ≡ length h.faces → bare_shell (shell_with flags h) ≡ bare_shell h
bare_with flags h e = ap (λ fs. record { entity = h.entity; flag = true; faces = fs }) (bare_faces flags h.faces e)

forwards_faces : (sf : Bool) (flags : List Bool) (fs : List FaceUse) (i : ℕ) → length flags ≡ length fs → i < length flags
    → get_or (map (λ (f : FaceUse). same_flag f.flag sf) (faces_with flags fs)) i true ≡ same_flag (get_or flags i false) sf
forwards_faces sf [] fs i h lt = absurd (omega (arith, lt))
forwards_faces sf (b ∷ bs) [] i h lt = absurd (omega (arith, h))
forwards_faces sf (b ∷ bs) (f ∷ fs) zero h lt = refl
forwards_faces sf (b ∷ bs) (f ∷ fs) (suc i) h lt = forwards_faces sf bs fs i (omega (arith, h)) (omega (arith, lt))

pub walks_with : (flags : List Bool) (h : Shell) (i : ℕ) → length flags ≡ length h.faces → i < length flags
    → walks (Some (shell_with flags h)) i ≡ same_flag (get_or flags i false) h.flag
walks_with flags h i e lt = forwards_faces h.flag flags h.faces i e lt
