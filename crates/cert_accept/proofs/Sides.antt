-- What one line is, as the lines before it and those to come tell: no two can stand there, but reach lines.
use Rattle.std.specs.Prelude.{◌≡◌, ℕ, zero, suc, ◌+◌, ◌<◌, ◌≤◌, ◌==◌, ◌&&◌, Bool, true, false, cond, List, [], ◌∷◌, length, find, option_map, Option, Some}
use Rattle.std.specs.Prelude.{None}
use Rattle.std.specs.List.{AllByRecursion, AllZip}
use Rattle.std.proofs.Common.{refl, sym, ◌∙◌, ap, subst, arith, inl, inr}
use Rattle.std.proofs.lemmas.Bool.{eq-eqb, eqb-true, and_parts}
use Rattle.std.proofs.lemmas.Option.{same_Some, none-some}
use Rattle.solid_data.specs.Ring.{next_of_each}
use Rattle.solid_data.specs.SolidData.{SolidData}
use Rattle.solid_data.specs.declared.solid.EdgeId.{EdgeId}
use Rattle.solid_data.specs.declared.solid.LoopAt.{LoopAt}
use Rattle.solid_data.proofs.Members.{Has, NoRepeat, All-at, covers, total, count_by-total}
use Rattle.solid_data.proofs.Trail.{Trail, trail_from_zip, no_repeat}
use Rattle.edge_uses.specs.declared.row.Row.{Row}
use Rattle.edge_uses.specs.ShellRows.{ShellRows}
use Rattle.edge_uses.specs.RowRelations.{IsPaired, row_count, point_count}
use Rattle.edge_uses.proofs.Turn.{PairedRows, pair_counts, one_of_edge}
use Rattle.edge_uses.proofs.RowNumbers.{starting, length-starting}
use Rattle.cert_lines.specs.Line.{shell, edge, corner, point, tally}
use Rattle.cert_lines.specs.declared.counts.ShellCounts.{ShellCounts}
use Rattle.cert_lines.specs.declared.counts.TallyCounts.{TallyCounts}
use Rattle.cert_state.specs.Progress.{Progress, TurnsTo, FitsShell, FitsTally, row_named, row_start, point_named, start_count, rows_of_shell, loops_of_shell}
use Rattle.cert_state.proofs.Corner.{MatesHold, StartsNamed, corner_starts, turns_one, starts_listed, above_least}
use Rattle.cert_state.proofs.Segment.{AreGoodRows}
use Rattle.cert_accept.proofs.Nexts.{IsNext, next_one}

-- the two rows of the least edge above the last
pub record EdgeSide (d : ShellRows) (last : Option ℕ) (a b : ℕ) : Type 0 where
  pub along_row : Row
  pub against_row : Row
  pub at_a : row_named d a ≡ Some along_row
  pub at_b : row_named d b ≡ Some against_row
  pub one_edge : along_row.edge ≡ against_row.edge
  pub along : along_row.along ≡ true
  pub against : against_row.along ≡ false
  pub next : IsNext d.edges last along_row.edge.0
  pub paired : IsPaired d along_row.edge.0

one_named : (d : ShellRows) (e : ℕ) (b : Bool) (n m : ℕ) (x y : Row) → row_count d e b ≡ 1 → row_named d n ≡ Some x → row_named d m ≡ Some y → x.edge.0 ≡ e
    → y.edge.0 ≡ e → x.along ≡ b → y.along ≡ b → n ≡ m
one_named d e b zero m x y one at_n at_m ex ey bx by = absurd (none-some x at_n)
one_named d e b (suc n) zero x y one at_n at_m ex ey bx by = absurd (none-some y at_m)
one_named d e b (suc n) (suc m) x y one at_n at_m ex ey bx by = ap suc (one_of_edge d e b n m x y one at_n at_m ex ey bx by)

pub edge_one : (d : ShellRows) (last : Option ℕ) (a b m n : ℕ) → EdgeSide d last a b → EdgeSide d last m n → edge a b ≡ edge m n
edge_one d last a b m n h k =
    let e : ℕ = h.along_row.edge.0 in
    let same : k.along_row.edge.0 ≡ e = next_one d.edges last k.along_row.edge.0 e k.next h.next in
    let a_m : a ≡ m = one_named d e true a m h.along_row k.along_row (pair_counts d e true h.paired) h.at_a k.at_a refl same h.along k.along in
    let here : h.against_row.edge.0 ≡ e = ap (λ (x : EdgeId). x.0) (sym h.one_edge) in
    let there : k.against_row.edge.0 ≡ e = ap (λ (x : EdgeId). x.0) (sym k.one_edge) ∙ same in
    let b_n : b ≡ n = one_named d e false b n h.against_row k.against_row (pair_counts d e false h.paired) h.at_b k.at_b here there h.against k.against in
    ap (λ x. edge x b) a_m ∙ ap (λ y. edge m y) b_n

-- all rows that start at the least vertex above the last, from the least row on, each turned to the next
pub record CornerSide (d : ShellRows) (mates : List (ℕ × ℕ)) (last : Option ℕ) (r : ℕ) (rs : List ℕ) : Type 0 where
  pub vertex : ℕ
  pub lies_at : row_start (row_named d r) ≡ Some vertex
  pub turns : AllZip (TurnsTo d mates) (r ∷ rs) (next_of_each (r ∷ rs))
  pub least : AllByRecursion (λ x. r < x) rs
  pub whole : length (r ∷ rs) ≡ start_count d vertex
  pub next : IsNext d.vertices last vertex
  pub hold : MatesHold d mates
  pub paired : PairedRows d
  pub good : AreGoodRows d

rows_listed : (d : ShellRows) (mates : List (ℕ × ℕ)) (last : Option ℕ) (r : ℕ) (rs : List ℕ) → (c : CornerSide d mates last r rs) → (x : ℕ)
    → StartsNamed d c.vertex x → Has (r ∷ rs) x
rows_listed d mates last r rs c x h =
    let R : ℕ → ℕ → Type 0 = TurnsTo d mates in
    let trail : Trail R r rs r = trail_from_zip R r rs r c.turns in
    let none : NoRepeat (r ∷ rs) = no_repeat R (turns_one d mates c.hold c.paired) r rs r trail (above_least r rs c.least) in
    let start : (y : ℕ) → Has (r ∷ rs) y → StartsNamed d c.vertex y = corner_starts d mates c.good.meet c.good.exchanged c.hold c.vertex r rs r trail c.lies_at
    in
    let few : length (starting c.vertex 1 d.rows) ≤ length (r ∷ rs) =
    omega (arith, c.whole, length-starting c.vertex 1 d.rows, count_by-total (λ (y : Row). y.from.0 == c.vertex) d.rows) in
    covers (r ∷ rs) (starting c.vertex 1 d.rows) none (λ y m. starts_listed d c.vertex y (start y m)) few x (starts_listed d c.vertex x h)

least_of : (r : ℕ) (rs : List ℕ) (x : ℕ) → AllByRecursion (λ y. r < y) rs → Has (r ∷ rs) x → r ≤ x
least_of r rs x least (inl e) = omega (arith, e)
least_of r rs x least (inr m) = let lt : r < x = All-at (λ y. r < y) rs least x m in omega (arith, lt)

-- where R leads to one number at most, a trail is told by its first number and its length
trail_one : (R : ℕ → ℕ → Type 0) → ((x y z : ℕ) → R x y → R x z → y ≡ z) → (x : ℕ) (xs ys : List ℕ) (z w : ℕ) → Trail R x xs z → Trail R x ys w
    → length xs ≡ length ys → xs ≡ ys
trail_one R one x [] [] z w t u same = refl
trail_one R one x [] (b ∷ ys) z w t u same = absurd (omega (arith, same))
trail_one R one x (a ∷ xs) [] z w t u same = absurd (omega (arith, same))
trail_one R one x (a ∷ xs) (b ∷ ys) z w t u same =
    let first : a ≡ b = one x a b t.0 u.0 in
    let rest : xs ≡ ys = trail_one R one a xs ys z w t.1 (subst (λ n. Trail R n ys w) (sym first) u.1) (omega (arith, same)) in
    ap (λ n. n ∷ xs) first ∙ ap (λ ns. b ∷ ns) rest

pub corner_one : (d : ShellRows) (mates : List (ℕ × ℕ)) (last : Option ℕ) (r : ℕ) (rs : List ℕ) (q : ℕ) (qs : List ℕ) → CornerSide d mates last r rs
    → CornerSide d mates last q qs → corner (r ∷ rs) ≡ corner (q ∷ qs)
corner_one d mates last r rs q qs c e =
    let R : ℕ → ℕ → Type 0 = TurnsTo d mates in
    let v : c.vertex ≡ e.vertex = next_one d.vertices last c.vertex e.vertex c.next e.next in
    let q_here : Has (r ∷ rs) q = rows_listed d mates last r rs c q (subst (λ x. StartsNamed d x q) (sym v) e.lies_at) in
    let r_there : Has (q ∷ qs) r = rows_listed d mates last q qs e r (subst (λ x. StartsNamed d x r) v c.lies_at) in
    let first : r ≡ q = omega (arith, least_of r rs q c.least q_here, least_of q qs r e.least r_there) in
    let counts : start_count d c.vertex ≡ start_count d e.vertex = ap (start_count d) v in
    let long : length rs ≡ length qs = omega (arith, c.whole, e.whole, counts) in
    let trail : Trail R q qs q = trail_from_zip R q qs q e.turns in
    let rest : rs ≡ qs = trail_one R (turns_one d mates c.hold c.paired) r rs qs r q (trail_from_zip R r rs r c.turns)
    (subst (λ n. Trail R n qs q) (sym first) trail) long in
    ap (λ n. corner (n ∷ rs)) first ∙ ap (λ ns. corner (q ∷ ns)) rest

-- the only loop without an edge at the least vertex above the last, where no row starts
pub record PointSide (d : ShellRows) (last : Option ℕ) (face l : ℕ) : Type 0 where
  pub vertex : ℕ
  pub lies_at : option_map (λ (p : LoopAt × ℕ). p.1) (point_named d face l) ≡ Some vertex
  pub no_row : start_count d vertex ≡ 0
  pub one_point : point_count d vertex ≡ 1
  pub next : IsNext d.vertices last vertex

found_has : (test : LoopAt × ℕ → Bool) (ps : List (LoopAt × ℕ)) (q : LoopAt × ℕ) → find test ps ≡ Some q → Has ps q × (test q ≡ true)
found_has test [] q h = absurd cc
found_has test (p ∷ ps) q h = by_test (test p) refl h (λ k. found_has test ps q k)
  where
    by_test : (b : Bool) → test p ≡ b → cond b (Some p) (find test ps) ≡ Some q → (find test ps ≡ Some q → Has ps q × (test q ≡ true))
        → Has (p ∷ ps) q × (test q ≡ true)
    by_test true e h k = let same : p ≡ q = same_Some p q h in (inl same, subst (λ x. test x ≡ true) same e)
    by_test false e h k = let r = k h in (inr r.0, r.1)

-- a point that is named is one of the shell
pub record NamedPoint (d : ShellRows) (face l v : ℕ) : Type 0 where
  pub point : LoopAt × ℕ
  pub here : Has d.points point
  pub face_is : point.0.face.0 + 1 ≡ face
  pub place_is : point.0.place + 1 ≡ l
  pub lies_at : point.1 ≡ v

named_point : (d : ShellRows) (face l v : ℕ) → option_map (λ (p : LoopAt × ℕ). p.1) (point_named d face l) ≡ Some v → NamedPoint d face l v
named_point d face l v h = at_point (point_named d face l) refl h
  where
    test : LoopAt × ℕ → Bool
    test p = (p.0.face.0 + 1 == face) && (p.0.place + 1 == l)

    at_point : (o : Option (LoopAt × ℕ)) → point_named d face l ≡ o → option_map (λ (p : LoopAt × ℕ). p.1) o ≡ Some v → NamedPoint d face l v
    at_point None e h = absurd cc
    at_point (Some p) e h =
        let found = found_has (λ (q : LoopAt × ℕ). (q.0.face.0 + 1 == face) && (q.0.place + 1 == l)) d.points p e in
        let both = and_parts (p.0.face.0 + 1 == face) (p.0.place + 1 == l) found.1 in
        record {
          point = p;
          here = found.0;
          face_is = eqb-true (p.0.face.0 + 1) face both.0;
          place_is = eqb-true (p.0.place + 1) l both.1;
          lies_at =
              same_Some p.1 v h;
        }

counted_one : {A : Type 0} (test : A → Bool) (xs : List A) (x : A) → Has xs x → test x ≡ true → 1 ≤ total (λ y. cond (test y) 1 0) xs
counted_one test [] x m passes = absurd m
counted_one {A} test (y ∷ ys) x (inl e) passes =
    let h : ◌≡◌ {A = ℕ} (cond (test y) 1 0) 1 = ap (λ b. cond b 1 0) (ap test e ∙ passes) in omega (arith, h)
counted_one test (y ∷ ys) x (inr m) passes = omega (arith, counted_one test ys x m passes)

-- where one passes, it is one
one_passes : {A : Type 0} (test : A → Bool) (xs : List A) (x y : A) → total (λ z. cond (test z) 1 0) xs ≡ 1 → Has xs x → Has xs y → test x ≡ true
    → test y ≡ true → x ≡ y
one_passes test [] x y one m n px py = absurd m
one_passes test (z ∷ zs) x y one (inl e) (inl g) px py = sym e ∙ g
one_passes test (z ∷ zs) x y one (inl e) (inr n) px py =
    let h : ◌≡◌ {A = ℕ} (cond (test z) 1 0) 1 = ap (λ b. cond b 1 0) (ap test e ∙ px) in absurd (omega (arith, h, one, counted_one test zs y n py))
one_passes test (z ∷ zs) x y one (inr m) (inl g) px py =
    let h : ◌≡◌ {A = ℕ} (cond (test z) 1 0) 1 = ap (λ b. cond b 1 0) (ap test g ∙ py) in absurd (omega (arith, h, one, counted_one test zs x m px))
one_passes test (z ∷ zs) x y one (inr m) (inr n) px py =
    let rest = counted_one test zs x m px in one_passes test zs x y (omega (arith, one, rest)) m n px py

pub point_one : (d : ShellRows) (last : Option ℕ) (face l face2 l2 : ℕ) → PointSide d last face l → PointSide d last face2 l2 → point face l ≡ point face2 l2
point_one d last face l face2 l2 h k =
    let v : k.vertex ≡ h.vertex = next_one d.vertices last k.vertex h.vertex k.next h.next in
    let p : NamedPoint d face l h.vertex = named_point d face l h.vertex h.lies_at in
    let q : NamedPoint d face2 l2 k.vertex = named_point d face2 l2 k.vertex k.lies_at in
    let test : LoopAt × ℕ → Bool = λ x. x.1 == h.vertex in
    let same : p.point ≡ q.point = one_passes test d.points p.point q.point (sym (count_by-total test d.points) ∙ h.one_point) p.here q.here
    (eq-eqb p.point.1 h.vertex p.lies_at) (eq-eqb q.point.1 h.vertex (q.lies_at ∙ v)) in
    let faces : face ≡ face2 = sym p.face_is ∙ (ap (λ (x : LoopAt × ℕ). x.0.face.0 + 1) same ∙ q.face_is) in
    let places : l ≡ l2 = sym p.place_is ∙ (ap (λ (x : LoopAt × ℕ). x.0.place + 1) same ∙ q.place_is) in
    ap (λ x. point x l) faces ∙ ap (λ x. point face2 x) places

-- rows start at a corner, and none at a point
pub corner_no_point : (d : ShellRows) (mates : List (ℕ × ℕ)) (last : Option ℕ) (r : ℕ) (rs : List ℕ) (face l : ℕ) → CornerSide d mates last r rs
    → PointSide d last face l → ⊥
corner_no_point d mates last r rs face l c p =
    let counts : start_count d c.vertex ≡ start_count d p.vertex = ap (start_count d) (next_one d.vertices last c.vertex p.vertex c.next p.next) in
    omega (arith, c.whole, counts, p.no_row)

same_counts : (r r2 e e2 c c2 f f2 : ℕ) → r ≡ r2 → e ≡ e2 → c ≡ c2 → f ≡ f2
    → ◌≡◌ {A = ShellCounts} (record { rows = r; edges = e; corners = c; faces = f }) (record { rows = r2; edges = e2; corners = c2; faces = f2 })
same_counts r r2 e e2 c c2 f f2 hr he hc hf = cc

pub shell_one : (s : SolidData) (at bt : Progress) (k k2 : ℕ) (c c2 : ShellCounts) → at.shell ≡ bt.shell → FitsShell s at k c → FitsShell s bt k2 c2
    → shell k c ≡ shell k2 c2
shell_one s at bt k k2 c c2 same h g =
    let n : k ≡ k2 = omega (arith, h.next, g.next, same) in
    let d : k ≡ k2 → rows_of_shell s k ≡ rows_of_shell s k2 = ap (rows_of_shell s) in
    let counts : c ≡ c2 = same_counts c.rows c2.rows c.edges c2.edges c.corners c2.corners c.faces c2.faces
    (h.rows_counted ∙ (ap (λ (x : ShellRows). length x.rows) (d n) ∙ sym g.rows_counted))
    (h.edges_counted ∙ (ap (λ (x : ShellRows). length x.edges) (d n) ∙ sym g.edges_counted))
    (h.corners_counted ∙ (ap (λ (x : ShellRows). length x.vertices) (d n) ∙ sym g.corners_counted))
    (h.faces_counted ∙ (ap (λ (x : ShellRows). x.face_count) (d n) ∙ sym g.faces_counted)) in
    ap (λ x. shell x c) n ∙ ap (λ x. shell k2 x) counts

same_tally : (v v2 e e2 f f2 l l2 : ℕ) → v ≡ v2 → e ≡ e2 → f ≡ f2 → l ≡ l2
    → ◌≡◌ {A = TallyCounts} (record { vertices = v; edges = e; faces = f; loops = l }) (record { vertices = v2; edges = e2; faces = f2; loops = l2 })
same_tally v v2 e e2 f f2 l l2 hv he hf hl = cc

pub tally_one : (s : SolidData) (k k2 : ℕ) (t t2 : TallyCounts) → k ≡ k2 → FitsTally s k t → FitsTally s k2 t2 → tally t ≡ tally t2
tally_one s k k2 t t2 n h g =
    let d : rows_of_shell s k ≡ rows_of_shell s k2 = ap (rows_of_shell s) n in
    let same : t ≡ t2 = same_tally t.vertices t2.vertices t.edges t2.edges t.faces t2.faces t.loops t2.loops
    (h.vertices_counted ∙ (ap (λ (x : ShellRows). length x.vertices) d ∙ sym g.vertices_counted))
    (h.edges_counted ∙ (ap (λ (x : ShellRows). length x.edges) d ∙ sym g.edges_counted))
    (h.faces_counted ∙ (ap (λ (x : ShellRows). x.face_count) d ∙ sym g.faces_counted)) (h.loops_counted ∙ (ap (loops_of_shell s) n ∙ sym g.loops_counted)) in
    ap tally same
