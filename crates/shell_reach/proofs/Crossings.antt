-- What is crossed, and the rows that are kept of it.
use Rattle.std.specs.Prelude.{◌≡◌, ◌<◌, ◌≤◌, ◌+◌, ◌-◌, ◌==◌, ◌⊎◌, ℕ, zero, suc, Bool, true, false, cond, List, [], ◌∷◌, ◌++◌, length, map, flat_map, filter}
use Rattle.std.specs.Prelude.{slice_get, Some, if◌then◌else◌}
use Rattle.std.specs.List.{AllByRecursion, list_any}
use Rattle.std.specs.Option.{option_to_list}
use Rattle.std.proofs.Common.{refl, sym, ◌∙◌, ap, subst, arith, inl, inr, get_or, take, append_assoc}
use Rattle.std.proofs.lemmas.Bool.{eqb-true, eq-eqb, false_from_ne_true, or_from, cases_lt}
use Rattle.std.proofs.lemmas.List.{append-nil, get_or-map, map-append, take-append-le, take_more, take_all}
use Rattle.std.proofs.lemmas.List.Elements.{filter-append}
use Rattle.std.proofs.lemmas.Grind.{flat_map-append}
use Rattle.std.proofs.lemmas.Option.{slice_get_within, slice_get-get_or, slice_get_past, get_or_from_slice_get, same_Some, none-some}
use Rattle.solid_data.specs.Ring.{numbers_from}
use Rattle.solid_data.proofs.Members.{Has, get_some}
use Rattle.solid_data.proofs.Occurring.{found}
use Rattle.edge_uses.specs.declared.row.Row.{Row}
use Rattle.edge_uses.specs.ShellRows.{ShellRows}
use Rattle.edge_uses.specs.RowRelations.{AreMates, OnFace}
use Rattle.edge_uses.specs.Mates.{ArePaired, HaveMates}
use Rattle.solid_data.proofs.Occurring.{numbers_more}
use Rattle.edge_uses.proofs.Turn.{one_mate, has_mate, paired_rows}
use Rattle.shell_tables.specs.FaceRows.{IsHead}
use Rattle.shell_reach.specs.Reaching.{face_of, across, on_new_faces, IsBreadthFirst}
use Rattle.shell_reach.specs.Flood.{IsFlood, Grows, HasCrossed, Crosses, mate_at, across_place, across_all}

-- the face of a row
pub face_is : (d : ShellRows) (face r : ℕ) → OnFace d face r → face_of d r ≡ face
face_is d face r (row, at, e) =
    let low : r < length d.rows = slice_get_within d.rows r row at in
    get_or-map (λ (x : Row). x.at.face.0) d.rows r row 0 low ∙ (ap (λ (x : Row). x.at.face.0) (get_or_from_slice_get d.rows r row row at) ∙ e)

pub on_its_face : (d : ShellRows) (r : ℕ) → r < length d.rows → OnFace d (face_of d r) r
on_its_face d r low = let g = get_some d.rows r low in (g.0, g.1, sym (face_is d g.0.at.face.0 r (g.0, g.1, refl)))

not_on : (d : ShellRows) (face r : ℕ) → r < length d.rows → (OnFace d face r → ⊥) → (face_of d r == face) ≡ false
not_on d face r low apart =
    false_from_ne_true (face_of d r == face) (λ e. apart (subst (λ f. OnFace d f r) (eqb-true (face_of d r) face e) (on_its_face d r low)))

-- the mate of a row in a list of mates
pub mate_is : (d : ShellRows) (mates : List ℕ) (r m : ℕ) → HaveMates d mates → AreMates d r m → m ≡ get_or mates r 0
mate_is d mates r m have pair =
    let low : r < length mates = omega (arith, slice_get_within d.rows r pair.row pair.at_r, have.each) in
    one_mate d (paired_rows d have.whole) r m (get_or mates r 0) pair (have.mate r (get_or mates r 0) (slice_get-get_or mates r 0 low))

put_first : (d : ShellRows) (k x : ℕ) (ms : List ℕ) → AreMates d k x → ((i m : ℕ) → slice_get ms i ≡ Some m → AreMates d (k + 1 + i) m) → (i m : ℕ)
    → slice_get (x ∷ ms) i ≡ Some m → AreMates d (k + i) m
put_first d k x ms here later zero m at = let e : k ≡ k + 0 = omega arith in subst (λ n. AreMates d n m) e (subst (AreMates d k) (same_Some x m at) here)
put_first d k x ms here later (suc i) m at = let e : k + 1 + i ≡ k + suc i = omega arith in subst (λ n. AreMates d n m) e (later i m at)

mates_from : (d : ShellRows) → ArePaired d → (k n : ℕ) → k + n ≡ length d.rows
    → (ms : List ℕ) × (length ms ≡ n) × ((i m : ℕ) → slice_get ms i ≡ Some m → AreMates d (k + i) m)
mates_from d whole k zero e = ([], refl, λ i m at. absurd (none-some m at))
mates_from d whole k (suc n) e =
    let row = get_some d.rows k (omega (arith, e)) in
    let one = has_mate d (paired_rows d whole) k row.0 row.1 in
    let rest = mates_from d whole (k + 1) n (omega (arith, e)) in
    (one.0 ∷ rest.0, ap suc rest.1, put_first d k one.0 rest.0 one.1 rest.2)

-- rows that are paired have a list of mates
pub some_mates : (d : ShellRows) → ArePaired d → (mates : List ℕ) × HaveMates d mates
some_mates d whole =
    let all = mates_from d whole 0 (length d.rows) (omega arith) in (
      all.0,
      record {
        whole = whole;
        each = all.1;
        mate = λ r m at. let e : 0 + r ≡ r = omega arith in subst (λ n. AreMates d n m) e (all.2 r m at);
      },
    )

filter_last : (p : ℕ → Bool) (n : ℕ) (b : Bool) → p n ≡ b → filter p (numbers_from 0 (n + 1)) ≡ filter p (numbers_from 0 n) ++ cond b (n ∷ []) []
filter_last p n b e =
    let same : 0 + n ≡ n = omega arith in
    ap (filter p) (numbers_more 0 n)
    ∙ (ap (λ k. filter p (numbers_from 0 n ++ k ∷ [])) same
    ∙ (filter-append p (numbers_from 0 n) (n ∷ []) ∙ ap (λ c. filter p (numbers_from 0 n) ++ cond c (n ∷ []) []) e))

none_between : (p : ℕ → Bool) (a n : ℕ) → ((x : ℕ) → a ≤ x → x < a + n → p x ≡ false) → filter p (numbers_from 0 (a + n)) ≡ filter p (numbers_from 0 a)
none_between p a zero none = let e : a + 0 ≡ a = omega arith in ap (λ k. filter p (numbers_from 0 k)) e
none_between p a (suc n) none =
    let e : a + suc n ≡ a + n + 1 = omega arith in
    ap (λ k. filter p (numbers_from 0 k)) e
    ∙ (filter_last p (a + n) false (none (a + n) (omega arith) (omega arith))
    ∙ (append-nil (filter p (numbers_from 0 (a + n))) ∙ none_between p a n (λ x low high. none x low (omega (arith, high)))))

no_row_between : (d : ShellRows) (face a b : ℕ) → IsHead d face a b → filter (λ r. face_of d r == face) (numbers_from 0 b)
    ≡ filter (λ r. face_of d r == face) (numbers_from 0 a)
no_row_between d face a b t =
    let e : b ≡ a + (b - a) = omega (arith, t.low) in
    ap (λ k. filter (λ r. face_of d r == face) (numbers_from 0 k)) e
    ∙ none_between (λ r. face_of d r == face) a (b - a)
    (λ x low high. not_on d face x (omega (arith, high, e, t.high)) (λ on. let late : b ≤ x = t.all x on low in omega (arith, late, high, e)))

-- the mates of the rows on a face up to a row
abbrev pub across_below : ShellRows → ℕ → ℕ → List ℕ → List ℕ
across_below d face at mates = map (λ r. get_or mates r 0) (filter (λ r. face_of d r == face) (numbers_from 0 at))

pub below_first : (d : ShellRows) (face at : ℕ) (mates : List ℕ) → IsHead d face 0 at → across_below d face at mates ≡ []
below_first d face at mates t = ap (map (λ r. get_or mates r 0)) (no_row_between d face 0 at t)

pub below_next : (d : ShellRows) (face r at : ℕ) (mates : List ℕ) → OnFace d face r → IsHead d face (r + 1) at
    → across_below d face at mates ≡ across_below d face r mates ++ mate_at r mates
below_next d face r at mates on t =
    let test : (face_of d r == face) ≡ true = eq-eqb (face_of d r) face (face_is d face r on) in
    ap (map (λ x. get_or mates x 0)) (no_row_between d face (r + 1) at t ∙ filter_last (λ x. face_of d x == face) r true test)
    ∙ map-append (λ x. get_or mates x 0) (filter (λ x. face_of d x == face) (numbers_from 0 r)) (r ∷ [])

-- what is kept of rows and more rows
pub on_new_append : (face : ℕ → ℕ) (known xs ys : List ℕ) → on_new_faces face known (xs ++ ys) ≡ on_new_faces face known xs
    ++ on_new_faces face (known ++ map face (on_new_faces face known xs)) ys
on_new_append face known [] ys = ap (λ k. on_new_faces face k ys) (sym (append-nil known))
on_new_append face known (x ∷ xs) ys = by_test (list_any (λ f. f == face x) known) (on_new_append face known xs ys)
    (on_new_append face (known ++ face x ∷ []) xs ys)
  where
    old : List ℕ
    old = on_new_faces face known xs

    new : List ℕ
    new = on_new_faces face (known ++ face x ∷ []) xs

    by_test : (b : Bool) → on_new_faces face known (xs ++ ys) ≡ old ++ on_new_faces face (known ++ map face old) ys
        → on_new_faces face (known ++ face x ∷ []) (xs ++ ys) ≡ new ++ on_new_faces face ((known ++ face x ∷ []) ++ map face new) ys
        → (if b then on_new_faces face known (xs ++ ys) else x ∷ on_new_faces face (known ++ face x ∷ []) (xs ++ ys))
        ≡ (if b then old else x ∷ new) ++ on_new_faces face (known ++ map face (if b then old else x ∷ new)) ys
    by_test true g h = g
    by_test false g h = ap (λ k. x ∷ k) (h ∙ ap (λ k. new ++ on_new_faces face k ys) (append_assoc known (face x ∷ []) (map face new)))

pub unfound : (n : ℕ) (ids : List ℕ) → (Has ids n → ⊥) → list_any (λ m. m == n) ids ≡ false
unfound n [] none = refl
unfound n (m ∷ ids) none = or_from (m == n) (list_any (λ k. k == n) ids) (false_from_ne_true (m == n) (λ e. none (inl (eqb-true m n e))))
    (unfound n ids (λ h. none (inr h)))

same_known : (d : ShellRows) (crossed order rows : List ℕ) → HasCrossed d crossed order rows
    → order ≡ 0 ∷ map (face_of d) (on_new_faces (face_of d) (0 ∷ []) crossed)
same_known d crossed order rows h = h.listed ∙ ap (λ rs. 0 ∷ map (face_of d) rs) h.kept

crossed_old : (d : ShellRows) (crossed order rows : List ℕ) (m : ℕ) → HasCrossed d crossed order rows → Has order (face_of d m)
    → HasCrossed d (crossed ++ m ∷ []) order rows
crossed_old d crossed order rows m h old = record {
  kept = h.kept ∙ sym (on_new_append (face_of d) (0 ∷ []) crossed (m ∷ []) ∙ (ap (λ k. so_far ++ k) none ∙ append-nil so_far));
  listed = h.listed;
}
  where
    so_far : List ℕ
    so_far = on_new_faces (face_of d) (0 ∷ []) crossed

    none : on_new_faces (face_of d) (0 ∷ map (face_of d) so_far) (m ∷ []) ≡ []
    none = ap (λ b. if b then [] else m ∷ [])
        (found (face_of d m) (0 ∷ map (face_of d) so_far) (subst (λ os. Has os (face_of d m)) (same_known d crossed order rows h) old))

crossed_new : (d : ShellRows) (crossed order rows : List ℕ) (m : ℕ) → HasCrossed d crossed order rows → (Has order (face_of d m) → ⊥)
    → HasCrossed d (crossed ++ m ∷ []) (order ++ face_of d m ∷ []) (rows ++ m ∷ [])
crossed_new d crossed order rows m h new = record {
  kept = ap (λ k. k ++ m ∷ []) h.kept ∙ sym (on_new_append (face_of d) (0 ∷ []) crossed (m ∷ []) ∙ ap (λ k. so_far ++ k) one);
  listed = ap (λ os. os ++ face_of d m ∷ []) h.listed ∙ ap (λ k. 0 ∷ k) (sym (map-append (face_of d) rows (m ∷ [])));
}
  where
    so_far : List ℕ
    so_far = on_new_faces (face_of d) (0 ∷ []) crossed

    one : on_new_faces (face_of d) (0 ∷ map (face_of d) so_far) (m ∷ []) ≡ m ∷ []
    one = ap (λ b. if b then [] else m ∷ [])
        (unfound (face_of d m) (0 ∷ map (face_of d) so_far) (λ old. new (subst (λ os. Has os (face_of d m)) (sym (same_known d crossed order rows h)) old)))

-- the mate's face was reached before
pub crosses_old : (d : ShellRows) (marks : List Bool) (order rows : List ℕ) (r mate other : ℕ) → IsFlood d marks order rows → AreMates d r mate
    → OnFace d other mate → get_or marks other false ≡ true → Crosses d (mate_at r) order rows order rows
crosses_old d marks order rows r mate other flood pair on marked mates crossed have h =
    subst (λ m. HasCrossed d (crossed ++ m ∷ []) order rows) (mate_is d mates r mate have pair)
    (crossed_old d crossed order rows mate h (subst (Has order) (sym (face_is d other mate on)) (flood.listed other marked)))

-- the mate's face is new
pub crosses_new : (d : ShellRows) (marks : List Bool) (order os rows rs : List ℕ) (r mate other : ℕ) → IsFlood d marks order rows → AreMates d r mate
    → OnFace d other mate → get_or marks other false ≡ false → os ≡ order ++ other ∷ [] → rs ≡ rows ++ mate ∷ []
    → Crosses d (mate_at r) order rows os rs
crosses_new d marks order os rows rs r mate other flood pair on unmarked new_order new_rows mates crossed have h =
    let face : face_of d mate ≡ other = face_is d other mate on in
    let more : HasCrossed d (crossed ++ mate ∷ []) (order ++ face_of d mate ∷ []) (rows ++ mate ∷ []) =
    crossed_new d crossed order rows mate h (λ old. let e : true ≡ false = sym (flood.marked other (subst (Has order) face old)) ∙ unmarked in absurd (cc)) in
    let at_mate : HasCrossed d (crossed ++ mate ∷ []) os rs =
    subst (λ k. HasCrossed d (crossed ++ mate ∷ []) os k) (sym new_rows)
    (subst (λ k. HasCrossed d (crossed ++ mate ∷ []) k (rows ++ mate ∷ [])) (ap (λ f. order ++ f ∷ []) face ∙ sym new_order) more) in
    subst (λ m. HasCrossed d (crossed ++ m ∷ []) os rs) (mate_is d mates r mate have pair) at_mate

-- nothing is across a row without a mate, where each row has one
pub crosses_lone : (d : ShellRows) (order rows : List ℕ) (face r : ℕ) → OnFace d face r → ((m : ℕ) → ¬ AreMates d r m) → Crosses d (mate_at r) order rows order rows
crosses_lone d order rows face r on lone mates crossed have h =
    let low : r < length mates = omega (arith, slice_get_within d.rows r on.0 on.1, have.each) in
    absurd (lone (get_or mates r 0) (have.mate r (get_or mates r 0) (slice_get-get_or mates r 0 low)))

pub crosses_none : (d : ShellRows) (those : List ℕ → List ℕ) (order rows : List ℕ) → ((mates : List ℕ) → those mates ≡ [])
    → Crosses d those order rows order rows
crosses_none d those order rows none mates crossed have h =
    subst (λ k. HasCrossed d k order rows) (sym (ap (λ k. crossed ++ k) (none mates) ∙ append-nil crossed)) h

pub crosses_both : (d : ShellRows) (xs ys zs : List ℕ → List ℕ) (o1 r1 o2 r2 o3 r3 : List ℕ) → Crosses d xs o1 r1 o2 r2 → Crosses d ys o2 r2 o3 r3
    → ((mates : List ℕ) → zs mates ≡ xs mates ++ ys mates) → Crosses d zs o1 r1 o3 r3
crosses_both d xs ys zs o1 r1 o2 r2 o3 r3 f g e mates crossed have h =
    subst (λ k. HasCrossed d k o3 r3) (append_assoc crossed (xs mates) (ys mates) ∙ ap (λ k. crossed ++ k) (sym (e mates)))
    (g mates (crossed ++ xs mates) have (f mates crossed have h))

pub crosses_as : (d : ShellRows) (xs ys : List ℕ → List ℕ) (o1 r1 o2 r2 : List ℕ) → Crosses d xs o1 r1 o2 r2 → ((mates : List ℕ) → ys mates ≡ xs mates)
    → Crosses d ys o1 r1 o2 r2
crosses_as d xs ys o1 r1 o2 r2 f e mates crossed have h = subst (λ k. HasCrossed d (crossed ++ k) o2 r2) (sym (e mates)) (f mates crossed have h)

-- all rows of a face are below the end
pub below_end : (d : ShellRows) (face at : ℕ) (mates : List ℕ) → length d.rows ≤ at → at ≤ length d.rows → across d mates face ≡ across_below d face at mates
below_end d face at mates low high = let e : length d.rows ≡ at = omega (arith, low, high) in ap (λ n. across_below d face n mates) e

pub across_past : (d : ShellRows) (order : List ℕ) (q : ℕ) (mates : List ℕ) → length order ≤ q → across_place d order q mates ≡ []
across_past d order q mates past = ap (λ o. flat_map (across d mates) (option_to_list o)) (slice_get_past order q past)

pub across_there : (d : ShellRows) (order : List ℕ) (q face : ℕ) (mates : List ℕ) → slice_get order q ≡ Some face
    → across_place d order q mates ≡ across d mates face
across_there d order q face mates at = ap (λ o. flat_map (across d mates) (option_to_list o)) at ∙ append-nil (across d mates face)

-- one place more is crossed
pub place_more : (d : ShellRows) (old new : List ℕ) (q : ℕ) (mates : List ℕ) → Grows old new → (length old ≤ q → new ≡ old)
    → across_all d (take (q + 1) new) mates ≡ across_all d (take q old) mates ++ across_place d old q mates
place_more d old new q mates grows same = ap (λ xs. flat_map (across d mates) xs) (by_place (cases_lt q (length old)))
    ∙ flat_map-append (across d mates) (take q old) (option_to_list (slice_get old q))
  where
    by_place : (q < length old) ⊎ (length old ≤ q) → take (q + 1) new ≡ take q old ++ option_to_list (slice_get old q)
    by_place (inl low) =
        ap (take (q + 1)) grows.1
        ∙ (take-append-le (q + 1) old grows.0 (omega (arith, low))
        ∙ (take_more old q 0 low ∙ ap (λ o. take q old ++ option_to_list o) (sym (slice_get-get_or old q 0 low))))
    by_place (inr high) =
        ap (take (q + 1)) (same high)
        ∙ (take_all (q + 1) old (omega (arith, high))
        ∙ (sym (take_all q old high) ∙ (sym (append-nil (take q old)) ∙ ap (λ o. take q old ++ option_to_list o) (sym (slice_get_past old q high)))))

-- rows that all mates lead to are breadth first
pub breadth_first : (d : ShellRows) (start_order start_rows order rows : List ℕ) → ArePaired d → HasCrossed d [] start_order start_rows
    → Crosses d (across_all d order) start_order start_rows order rows → IsBreadthFirst d rows
breadth_first d start_order start_rows order rows whole start crosses =
    let some = some_mates d whole in
    let h : HasCrossed d (across_all d order some.0) order rows = crosses some.0 [] some.1 start in
    record {
      mates = some.0;
      paired = some.1;
      order = h.kept ∙ ap (λ os. on_new_faces (face_of d) (0 ∷ []) (flat_map (across d some.0) os)) h.listed;
    }

no_rows : (n : ℕ) (rows : List Row) → n ≡ 0 → AllByRecursion (λ (r : Row). r.at.face.0 < n) rows → length rows ≡ 0
no_rows n [] none all = refl
no_rows n (r ∷ rows) none all = absurd (omega (arith, none, all.0))

-- without a face there is no row
pub none_breadth_first : (d : ShellRows) → ArePaired d → d.face_count ≡ 0 → IsBreadthFirst d []
none_breadth_first d whole none =
    let some = some_mates d whole in
    let e : 0 ≡ length d.rows = sym (no_rows d.face_count d.rows none whole.rows.on_faces) in
    record {
      mates = some.0;
      paired = some.1;
      order = ap (λ n. on_new_faces (face_of d) (0 ∷ []) (across_below d 0 n some.0 ++ [])) e;
    }
