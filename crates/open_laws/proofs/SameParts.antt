-- What a line of an edge, of a vertex and of a border is, where it fits, is told by the edge, the vertex and the first row.
use Rattle.std.specs.Prelude.{◌≡◌, ℕ, zero, suc, ◌+◌, ◌≤◌, ◌<◌, ◌==◌, ◌&&◌, Bool, true, false, cond, List, [], ◌∷◌, ◌++◌, length, find, filter_map, option_map}
use Rattle.std.specs.Prelude.{Contains, Option, Some, None, slice_get}
use Rattle.std.specs.List.{AllByRecursion, AllZip, cons_option}
use Rattle.std.proofs.Common.{refl, sym, ◌∙◌, ap, subst, arith, inl, inr, ⊎_elim}
use Rattle.std.proofs.lemmas.Bool.{eq-eqb, eqb-true, and_parts}
use Rattle.std.proofs.lemmas.List.Elements.{filter_map-append}
use Rattle.std.proofs.lemmas.Option.{same_Some, none-some}
use Rattle.solid_data.specs.SolidData.{SolidData}
use Rattle.solid_data.specs.declared.solid.EdgeId.{EdgeId}
use Rattle.solid_data.specs.declared.solid.LoopAt.{LoopAt}
use Rattle.solid_data.proofs.Members.{Has, NoRepeat, Has-from_Contains, Contains-from_Has, All-at, All-from, has_right, covers, total, count_by-total}
use Rattle.solid_data.proofs.Trail.{Trail, trail_from_zip, next_on, no_repeat}
use Rattle.edge_uses.specs.declared.row.Row.{Row}
use Rattle.edge_uses.specs.ShellRows.{ShellRows}
use Rattle.edge_uses.specs.RowRelations.{point_count}
use Rattle.edge_uses.proofs.Counting.{one_place}
use Rattle.edge_uses.proofs.RowNumbers.{starting, length-starting}
use Rattle.edge_uses.proofs.Turn.{one_of_edge}
use Rattle.cert_state.specs.Progress.{row_named}
use Rattle.cert_state.specs.Progress.{point_named, start_count, TurnsTo}
use Rattle.cert_state.proofs.Corner.{MatesHold, mates_named, StartsNamed, turn_start_by, turns_row, corner_starts, starts_listed, above_least}
use Rattle.cert_state.proofs.Segment.{AreGoodRows, named_has}
use Rattle.open_certificate.specs.Sound.{IsOnce, row_total}
use Rattle.open_certificate.specs.Line.{OpenLine, head, shell, edge, lone, cycle, path, point, reach, border, end}
use Rattle.open_certificate.specs.Progress.{progress_from_latest, shell_of, FitsLine, IsChain, last_of, GoesOnTo, lone_in, mates_in, edge_in, vertex_in}
use Rattle.open_certificate.specs.Progress.{border_in}
use Rattle.open_certificate.specs.Progress.{is_edge}
use Rattle.open_certificate.specs.Progress.{is_corner, is_border}
use Rattle.open_certificate.proofs.Borders.{AreBorder, StartApart, Goes, goes_one, ring_trail}
use Rattle.open_certificate.proofs.Facts.{AllFit}
use Rattle.open_certificate.proofs.Fans.{counted_way, both_ways_counted, turns_one, lone_no_turn, chain_no_repeat}
use Rattle.open_certificate.proofs.Once.{OnceRows, way_one}
use Rattle.open_laws.proofs.LineLists.{least_of, trail_same, chain_same}

-- ---- edges

pub data EdgeIs (d : ShellRows) (e : ℕ) : OpenLine → Type 0 where
  two_rows : (a b : ℕ) (x y : Row) → row_named d a ≡ Some x → row_named d b ≡ Some y → x.edge.0 ≡ e → y.edge.0 ≡ e → x.along ≡ true → y.along ≡ false
      → EdgeIs d e (edge a b)
  one_row : (a : ℕ) (x : Row) → row_named d a ≡ Some x → x.edge.0 ≡ e → row_total d e ≡ 1 → EdgeIs d e (lone a)

-- a row that is named has a number from 0
unname : (d : ShellRows) (a : ℕ) (x : Row) → row_named d a ≡ Some x → (n : ℕ) × (a ≡ suc n) × (slice_get d.rows n ≡ Some x)
unname d zero x at = absurd (none-some x at)
unname d (suc n) x at = (n, refl, at)

module _ (d : ShellRows) (good : AreGoodRows d) (once : (e : ℕ) → Has d.edges e → IsOnce d e) where
  same_way : (e : ℕ) (b : Bool) (a c : ℕ) (x y : Row) → row_named d a ≡ Some x → row_named d c ≡ Some y → x.edge.0 ≡ e → y.edge.0 ≡ e → x.along ≡ b
      → y.along ≡ b → a ≡ c
  same_way e b a c x y at_a at_c ex ey bx by =
      let i = unname d a x at_a in
      let j = unname d c y at_c in
      let known : Has d.edges e = subst (Has d.edges) ex (named_has (λ (r : Row). Has d.edges r.edge.0) d a x good.edges at_a) in
      let count = way_one d e b (once e known) (counted_way d e b i.0 x i.2 ex bx) in
      i.1 ∙ (ap suc (one_of_edge d e b i.0 j.0 x y count i.2 j.2 ex ey bx by) ∙ sym j.1)

  not_both : (e a b c : ℕ) (x y z : Row) → row_named d a ≡ Some x → row_named d b ≡ Some y → x.edge.0 ≡ e → y.edge.0 ≡ e → x.along ≡ true → y.along ≡ false
      → row_total d e ≡ 1 → ⊥
  not_both e a b c x y z at_a at_b ex ey bx by one =
      let i = unname d a x at_a in
      let j = unname d b y at_b in
      both_ways_counted d e one (counted_way d e true i.0 x i.2 ex bx) (counted_way d e false j.0 y j.2 ey by)

  pub one_edge : (x y : OpenLine) (e : ℕ) → EdgeIs d e x → EdgeIs d e y → x ≡ y
  one_edge x y e (two_rows a b p q at_a at_b ep eq wp wq) (two_rows m n u v at_m at_n eu ev wu wv) =
      ap (λ k. edge k b) (same_way e true a m p u at_a at_m ep eu wp wu) ∙ ap (λ k. edge m k) (same_way e false b n q v at_b at_n eq ev wq wv)
  one_edge x y e (two_rows a b p q at_a at_b ep eq wp wq) (one_row m u at_m eu one) =
      absurd (not_both e a b m p q u at_a at_b ep eq wp wq one)
  one_edge x y e (one_row m u at_m eu one) (two_rows a b p q at_a at_b ep eq wp wq) =
      absurd (not_both e a b m p q u at_a at_b ep eq wp wq one)
  one_edge x y e (one_row a p at_a ep one) (one_row m u at_m eu other) =
      let i = unname d a p at_a in
      let j = unname d m u at_m in
      let test : Row → Bool = λ r. r.edge.0 == e in
      ap lone (i.1 ∙ (ap suc (one_place test d.rows (sym (count_by-total test d.rows) ∙ one) i.0 j.0 p u i.2 j.2 (eq-eqb p.edge.0 e ep) (eq-eqb u.edge.0 e eu))
      ∙ sym j.1))

-- ---- vertices

-- by the mates and the border rows that lines named
pub data CornerIs (d : ShellRows) (mates : List (ℕ × ℕ)) (alone : List ℕ) (v : ℕ) : OpenLine → Type 0 where
  round : (r : ℕ) (rs : List ℕ) → StartsNamed d v r → Trail (TurnsTo d mates) r rs r → AllByRecursion (λ x. r < x) rs
      → length (r ∷ rs) ≡ start_count d v → CornerIs d mates alone v (cycle (r ∷ rs))
  along : (r : ℕ) (rs : List ℕ) → StartsNamed d v r → IsChain (TurnsTo d mates) r rs → Contains alone (last_of r rs) → length (r ∷ rs) ≡ start_count d v
      → CornerIs d mates alone v (path (r ∷ rs))
  spot : (face l : ℕ) → option_map (λ (p : LoopAt × ℕ). p.1) (point_named d face l) ≡ Some v → start_count d v ≡ 0 → point_count d v ≡ 1
      → CornerIs d mates alone v (point face l)

-- from an element of a chain on it is a chain to the same end, and shorter, but from the first
rest_of_chain : (R : ℕ → ℕ → Type 0) (x : ℕ) (xs : List ℕ) → IsChain R x xs → (y : ℕ) → Has (x ∷ xs) y
    → (ys : List ℕ) × IsChain R y ys × (last_of y ys ≡ last_of x xs) × (length ys ≤ length xs) × (length ys ≡ length xs → y ≡ x)
rest_of_chain R x xs c y (inl e) =
    (xs, subst (λ z. IsChain R z xs) e c, ap (λ z. last_of z xs) (sym e), omega arith, λ same. sym e)
rest_of_chain R x [] c y (inr m) = absurd m
rest_of_chain R x (w ∷ ws) c y (inr m) =
    let k = rest_of_chain R w ws c.1 y m in
    (k.0, k.1, k.2, omega (arith, k.3), λ same. absurd (omega (arith, same, k.3)))

-- the point that is named, and that one at most lies at a vertex
found_point : (test : LoopAt × ℕ → Bool) (ps : List (LoopAt × ℕ)) (q : LoopAt × ℕ) → find test ps ≡ Some q → Has ps q × (test q ≡ true)
found_point test [] q h = absurd cc
found_point test (p ∷ ps) q h = by_test (test p) refl h (λ k. found_point test ps q k)
  where
    by_test : (b : Bool) → test p ≡ b → cond b (Some p) (find test ps) ≡ Some q → (find test ps ≡ Some q → Has ps q × (test q ≡ true))
        → Has (p ∷ ps) q × (test q ≡ true)
    by_test true e h k = let same : p ≡ q = same_Some p q h in (inl same, subst (λ x. test x ≡ true) same e)
    by_test false e h k = let r = k h in (inr r.0, r.1)

passes_some : (test : LoopAt × ℕ → Bool) (ps : List (LoopAt × ℕ)) (p : LoopAt × ℕ) → Has ps p → test p ≡ true → 1 ≤ total (λ x. cond (test x) 1 0) ps
passes_some test [] p m passes = absurd m
passes_some test (x ∷ ps) p (inl e) passes =
    let h : ◌≡◌ {A = ℕ} (cond (test x) 1 0) 1 = ap (λ b. cond b 1 0) (ap test e ∙ passes) in omega (arith, h)
passes_some test (x ∷ ps) p (inr m) passes = omega (arith, passes_some test ps p m passes)

one_passes : (test : LoopAt × ℕ → Bool) (ps : List (LoopAt × ℕ)) (p q : LoopAt × ℕ) → total (λ x. cond (test x) 1 0) ps ≡ 1 → Has ps p → Has ps q
    → test p ≡ true → test q ≡ true → p ≡ q
one_passes test [] p q one m n tp tq = absurd m
one_passes test (x ∷ ps) p q one (inl e) (inl g) tp tq = sym e ∙ g
one_passes test (x ∷ ps) p q one (inl e) (inr n) tp tq =
    let h : ◌≡◌ {A = ℕ} (cond (test x) 1 0) 1 = ap (λ b. cond b 1 0) (ap test e ∙ tp) in absurd (omega (arith, h, one, passes_some test ps q n tq))
one_passes test (x ∷ ps) p q one (inr m) (inl g) tp tq =
    let h : ◌≡◌ {A = ℕ} (cond (test x) 1 0) 1 = ap (λ b. cond b 1 0) (ap test g ∙ tq) in absurd (omega (arith, h, one, passes_some test ps p m tp))
one_passes test (x ∷ ps) p q one (inr m) (inr n) tp tq =
    let rest = passes_some test ps p m tp in one_passes test ps p q (omega (arith, one, rest)) m n tp tq

pub record PointAt (d : ShellRows) (face l v : ℕ) : Type 0 where
  pub spot : LoopAt × ℕ
  pub here : Has d.points spot
  pub face_is : spot.0.face.0 + 1 ≡ face
  pub place_is : spot.0.place + 1 ≡ l
  pub lies_at : spot.1 ≡ v

point_at : (d : ShellRows) (face l v : ℕ) → option_map (λ (p : LoopAt × ℕ). p.1) (point_named d face l) ≡ Some v → PointAt d face l v
point_at d face l v h = by_option (point_named d face l) refl h
  where
    by_option : (o : Option (LoopAt × ℕ)) → point_named d face l ≡ o → option_map (λ (p : LoopAt × ℕ). p.1) o ≡ Some v → PointAt d face l v
    by_option None e h = absurd cc
    by_option (Some p) e h =
        let k = found_point (λ (q : LoopAt × ℕ). (q.0.face.0 + 1 == face) && (q.0.place + 1 == l)) d.points p e in
        let both = and_parts (p.0.face.0 + 1 == face) (p.0.place + 1 == l) k.1 in
        record {
          spot = p;
          here = k.0;
          face_is = eqb-true (p.0.face.0 + 1) face both.0;
          place_is = eqb-true (p.0.place + 1) l both.1;
          lies_at = same_Some p.1 v h;
        }

module _ (d : ShellRows) (mates : List (ℕ × ℕ)) (alone : List ℕ) (good : AreGoodRows d) (hold : MatesHold d mates) (once : OnceRows d)
    (borders : AreBorder d alone) where
  abbrev R : ℕ → ℕ → Type 0
  R = TurnsTo d mates

  one_turn : (x y z : ℕ) → R x y → R x z → y ≡ z
  one_turn = turns_one d mates hold once

  stuck : (a w : ℕ) → Contains alone a → R a w → ⊥
  stuck a w c turn = let b = borders a c in lone_no_turn d mates hold a w b.0 b.1 b.2 turn

  -- the rows of a path start where the first does
  path_starts : (v r : ℕ) (rs : List ℕ) → IsChain R r rs → Contains alone (last_of r rs) → StartsNamed d v r → (x : ℕ) → Has (r ∷ rs) x → StartsNamed d v x
  path_starts v r rs c ends start x (inl e) = subst (StartsNamed d v) e start
  path_starts v r [] c ends start x (inr m) = absurd m
  path_starts v r (w ∷ ws) c ends start x (inr m) =
      let row = row_of w ws c.1 ends in
      let a = mates_named d mates r c.0.0 hold c.0.1 in
      path_starts v w ws c.1 ends (turn_start_by d good.meet good.exchanged v r c.0.0 w a c.0.2 row.0 row.1 start) x m
    where
      row_of : (y : ℕ) (ys : List ℕ) → IsChain R y ys → Contains alone (last_of y ys) → (row : Row) × (row_named d y ≡ Some row)
      row_of y [] k e = let b = borders y e in (b.0, b.1)
      row_of y (z ∷ zs) k e = turns_row d mates y z hold k.0

  all_listed : (v r : ℕ) (rs : List ℕ) → NoRepeat (r ∷ rs) → ((x : ℕ) → Has (r ∷ rs) x → StartsNamed d v x) → length (r ∷ rs) ≡ start_count d v
      → (x : ℕ) → StartsNamed d v x → Has (r ∷ rs) x
  all_listed v r rs none start whole x h =
      let few : length (starting v 1 d.rows) ≤ length (r ∷ rs) =
      omega (arith, whole, length-starting v 1 d.rows, count_by-total (λ (y : Row). y.from.0 == v) d.rows) in
      covers (r ∷ rs) (starting v 1 d.rows) none (λ y m. starts_listed d v y (start y m)) few x (starts_listed d v x h)

  round_has : (v r : ℕ) (rs : List ℕ) → StartsNamed d v r → Trail R r rs r → AllByRecursion (λ x. r < x) rs → length (r ∷ rs) ≡ start_count d v → (x : ℕ)
      → StartsNamed d v x → Has (r ∷ rs) x
  round_has v r rs start trail least whole x h =
      all_listed v r rs (no_repeat R one_turn r rs r trail (above_least r rs least)) (corner_starts d mates good.meet good.exchanged hold v r rs r trail start)
      whole x h

  path_has : (v r : ℕ) (rs : List ℕ) → StartsNamed d v r → IsChain R r rs → Contains alone (last_of r rs) → length (r ∷ rs) ≡ start_count d v → (x : ℕ)
      → StartsNamed d v x → Has (r ∷ rs) x
  path_has v r rs start chain ends whole x h =
      all_listed v r rs (chain_no_repeat R one_turn r rs chain (λ w t. stuck (last_of r rs) w ends t)) (path_starts v r rs chain ends start) whole x h

  last_in : (r : ℕ) (rs : List ℕ) → Has (r ∷ rs) (last_of r rs)
  last_in r [] = inl refl
  last_in r (w ∷ ws) = inr (last_in w ws)

  -- no cycle ends
  not_both_kinds : (v r q : ℕ) (rs qs : List ℕ) → StartsNamed d v r → Trail R r rs r → AllByRecursion (λ x. r < x) rs → length (r ∷ rs) ≡ start_count d v
      → StartsNamed d v q → IsChain R q qs → Contains alone (last_of q qs) → ⊥
  not_both_kinds v r q rs qs start trail least whole begin chain ends =
      let last : Has (r ∷ rs) (last_of q qs) = round_has v r rs start trail least whole (last_of q qs)
      (path_starts v q qs chain ends begin (last_of q qs) (last_in q qs)) in
      let k = next_on R r rs r trail (last_of q qs) last in
      stuck (last_of q qs) k.0 ends k.1

  same_round : (v r q : ℕ) (rs qs : List ℕ) → StartsNamed d v r → Trail R r rs r → AllByRecursion (λ x. r < x) rs → length (r ∷ rs) ≡ start_count d v
      → StartsNamed d v q → Trail R q qs q → AllByRecursion (λ x. q < x) qs → length (q ∷ qs) ≡ start_count d v → cycle (r ∷ rs) ≡ cycle (q ∷ qs)
  same_round v r q rs qs start trail least whole begin back above count =
      let first : r ≡ q = omega (
        arith,
        least_of r rs q least (round_has v r rs start trail least whole q begin),
        least_of q qs r above (round_has v q qs begin back above count r start),
      ) in
      let more : rs ≡ qs = trail_same R one_turn r rs qs r trail (above_least r rs least) (subst (λ n. Trail R n qs n) (sym first) back)
      (subst (λ n. Has qs n → ⊥) (sym first) (above_least q qs above)) in
      ap (λ n. cycle (n ∷ rs)) first ∙ ap (λ ns. cycle (q ∷ ns)) more

  same_path : (v r q : ℕ) (rs qs : List ℕ) → StartsNamed d v r → IsChain R r rs → Contains alone (last_of r rs) → length (r ∷ rs) ≡ start_count d v
      → StartsNamed d v q → IsChain R q qs → Contains alone (last_of q qs) → length (q ∷ qs) ≡ start_count d v → path (r ∷ rs) ≡ path (q ∷ qs)
  same_path v r q rs qs start chain ends whole begin other stop count =
      let k = rest_of_chain R r rs chain q (path_has v r rs start chain ends whole q begin) in
      let there : k.0 ≡ qs = chain_same R one_turn q k.0 qs k.1 (λ w t. stuck (last_of q k.0) w (subst (Contains alone) (sym k.2) ends) t) other
      (λ w t. stuck (last_of q qs) w stop t) in
      let long : length k.0 ≡ length qs = ap (λ (ns : List ℕ). length ns) there in
      let first : q ≡ r = k.4 (omega (arith, long, whole, count)) in
      let more : rs ≡ qs = chain_same R one_turn r rs qs chain (λ w t. stuck (last_of r rs) w ends t) (subst (λ n. IsChain R n qs) first other)
      (subst (λ n. (w : ℕ) → R (last_of n qs) w → ⊥) first (λ w t. stuck (last_of q qs) w stop t)) in
      ap (λ n. path (n ∷ rs)) (sym first) ∙ ap (λ ns. path (q ∷ ns)) more

  same_point : (v face l other place : ℕ) → option_map (λ (p : LoopAt × ℕ). p.1) (point_named d face l) ≡ Some v
      → option_map (λ (p : LoopAt × ℕ). p.1) (point_named d other place) ≡ Some v → point_count d v ≡ 1 → point face l ≡ point other place
  same_point v face l other place h g one =
      let p = point_at d face l v h in
      let q = point_at d other place v g in
      let test : LoopAt × ℕ → Bool = λ x. x.1 == v in
      let same : p.spot ≡ q.spot = one_passes test d.points p.spot q.spot (sym (count_by-total test d.points) ∙ one) p.here q.here
      (eq-eqb p.spot.1 v p.lies_at) (eq-eqb q.spot.1 v q.lies_at) in
      ap (λ x. point x l) (sym p.face_is ∙ (ap (λ (x : LoopAt × ℕ). x.0.face.0 + 1) same ∙ q.face_is))
      ∙ ap (λ x. point other x) (sym p.place_is ∙ (ap (λ (x : LoopAt × ℕ). x.0.place + 1) same ∙ q.place_is))

  pub one_corner : (x y : OpenLine) (v : ℕ) → CornerIs d mates alone v x → CornerIs d mates alone v y → x ≡ y
  one_corner x y v (round r rs a b c e) (round q qs f g h k) = same_round v r q rs qs a b c e f g h k
  one_corner x y v (round r rs a b c e) (along q qs f g h k) = absurd (not_both_kinds v r q rs qs a b c e f g h)
  one_corner x y v (round r rs a b c e) (spot face l f g h) = absurd (omega (arith, e, g))
  one_corner x y v (along q qs f g h k) (round r rs a b c e) = absurd (not_both_kinds v r q rs qs a b c e f g h)
  one_corner x y v (along r rs a b c e) (along q qs f g h k) = same_path v r q rs qs a b c e f g h k
  one_corner x y v (along r rs a b c e) (spot face l f g h) = absurd (omega (arith, e, g))
  one_corner x y v (spot face l f g h) (round r rs a b c e) = absurd (omega (arith, e, g))
  one_corner x y v (spot face l f g h) (along r rs a b c e) = absurd (omega (arith, e, g))
  one_corner x y v (spot face l f g h) (spot other place a b c) = same_point v face l other place f a h

-- ---- borders

pub data BorderIs (d : ShellRows) (alone : List ℕ) (r : ℕ) : OpenLine → Type 0 where
  ring : (rs : List ℕ) → Trail (Goes d alone) r rs r → AllByRecursion (λ x. r < x) rs → BorderIs d alone r (border (r ∷ rs))

pub one_border : (d : ShellRows) (alone : List ℕ) → StartApart d alone → (x y : OpenLine) (r : ℕ) → BorderIs d alone r x → BorderIs d alone r y → x ≡ y
one_border d alone apart x y r (ring rs t above) (ring qs u over) =
    ap (λ ns. border (r ∷ ns)) (trail_same (Goes d alone) (goes_one d alone apart) r rs qs r t (above_least r rs above) u (above_least r qs over))

-- ---- lines that fit

-- a line among those that fit, with the lines before it
pub record FitsAt (s : SolidData) (lines : List OpenLine) (x : OpenLine) : Type 0 where
  pub later : List OpenLine
  pub before : List OpenLine
  pub all : lines ≡ later ++ before
  pub fits : FitsLine s (progress_from_latest s before) x

pub fit_at : (s : SolidData) (lines : List OpenLine) → AllFit s lines → (x : OpenLine) → Has lines x → FitsAt s lines x
fit_at s [] fit x m = absurd m
fit_at s (y ∷ ls) fit x (inl same) =
    record { later = y ∷ []; before = ls; all = refl; fits = subst (FitsLine s (progress_from_latest s ls)) same fit.0 }
fit_at s (y ∷ ls) fit x (inr m) =
    let k = fit_at s ls fit.1 x m in record { later = y ∷ k.later; before = k.before; all = ap (λ zs. y ∷ zs) k.all; fits = k.fits }

held : {B : Type 0} (g : OpenLine → Option B) (lines later before : List OpenLine) → lines ≡ later ++ before → (z : B) → Contains (filter_map g before) z
    → Contains (filter_map g lines) z
held g lines later before all z c =
    Contains-from_Has (filter_map g lines) z
    (subst (λ zs. Has zs z) (sym (ap (filter_map g) all ∙ filter_map-append g later before))
    (has_right (filter_map g later) (filter_map g before) z (Has-from_Contains (filter_map g before) z c)))

trail_weaker : (R S : ℕ → ℕ → Type 0) → ((x y : ℕ) → R x y → S x y) → (x : ℕ) (xs : List ℕ) (z : ℕ) → Trail R x xs z → Trail S x xs z
trail_weaker R S h x [] z t = h x z t
trail_weaker R S h x (y ∷ ys) z t = (h x y t.0, trail_weaker R S h y ys z t.1)

chain_weaker : (R S : ℕ → ℕ → Type 0) → ((x y : ℕ) → R x y → S x y) → (x : ℕ) (xs : List ℕ) → IsChain R x xs → IsChain S x xs
chain_weaker R S h x [] c = tt
chain_weaker R S h x (y ∷ ys) c = (h x y c.0, chain_weaker R S h y ys c.1)

has_filter_map : {B : Type 0} (g : OpenLine → Option B) (lines : List OpenLine) (x : OpenLine) (y : B) → Has lines x → g x ≡ Some y → Has (filter_map g lines) y
has_filter_map g [] x y m e = absurd m
has_filter_map g (l ∷ ls) x y (inl same) e = subst (λ o. Has (cons_option o (filter_map g ls)) y) (sym (ap g same ∙ e)) (inl refl)
has_filter_map {B} g (l ∷ ls) x y (inr m) e = behind (g l) (filter_map g ls) (has_filter_map g ls x y m e)
  where
    behind : (o : Option B) (ys : List B) → Has ys y → Has (cons_option o ys) y
    behind None ys h = h
    behind (Some z) ys h = inr h

pub no_test : false ≡ true → ⊥
no_test e = cc

module _ (s : SolidData) (mates : List (ℕ × ℕ)) (alone : List ℕ) (lines : List OpenLine) (fit : AllFit s lines) (borders : AreBorder (shell_of s) alone)
    (named : (p : ℕ × ℕ) → Contains (filter_map mates_in lines) p → Contains mates p)
    (listed : (a : ℕ) → Contains (filter_map lone_in lines) a → Contains alone a) where
  abbrev d : ShellRows
  d = shell_of s

  more_turns : (later before : List OpenLine) → lines ≡ later ++ before → (x y : ℕ) → TurnsTo d (filter_map mates_in before) x y → TurnsTo d mates x y
  more_turns later before all x y (m, is_m, f) = (
    m,
    ⊎_elim (λ c. inl (named (x, m) (held mates_in lines later before all (x, m) c))) (λ c. inr (named (m, x) (held mates_in lines later before all (m, x) c)))
        is_m,
    f,
  )

  pub edge_line_is : (x : OpenLine) → Has lines x → is_edge x ≡ true → (e : ℕ) × (edge_in d x ≡ Some e) × EdgeIs d e x
  unfolding progress_from_latest
  edge_line_is x m e = at_line x m e (fit_at s lines fit x m)
    where
      at_line : (x : OpenLine) → Has lines x → is_edge x ≡ true → FitsAt s lines x → (e : ℕ) × (edge_in d x ≡ Some e) × EdgeIs d e x
      at_line head m e k = absurd (no_test e)
      at_line (shell n a b c g f) m e k = absurd (no_test e)
      at_line (edge a b) m e k =
          let h = k.fits.1.1 in (
            h.along_row.edge.0,
            ap (option_map (λ (r : Row). r.edge.0)) h.at_a,
            two_rows a b h.along_row h.against_row h.at_a h.at_b refl (ap (λ (i : EdgeId). i.0) (sym h.one_edge)) h.along h.against,
          )
      at_line (lone a) m e k =
          let h = k.fits.1.1 in
          let b = borders a (listed a (Contains-from_Has (filter_map lone_in lines) a (has_filter_map lone_in lines (lone a) a m refl))) in
          let same : b.0 ≡ h.row = same_Some b.0 h.row (sym b.1 ∙ h.at_a) in (
            h.row.edge.0,
            ap (option_map (λ (r : Row). r.edge.0)) h.at_a,
            one_row a h.row h.at_a refl (subst (λ (r : Row). row_total d r.edge.0 ≡ 1) same b.2),
          )
      at_line (cycle rs) m e k = absurd (no_test e)
      at_line (path rs) m e k = absurd (no_test e)
      at_line (point face l) m e k = absurd (no_test e)
      at_line (reach r) m e k = absurd (no_test e)
      at_line (border rs) m e k = absurd (no_test e)
      at_line end m e k = absurd (no_test e)

  pub corner_line_is : (x : OpenLine) → Has lines x → is_corner x ≡ true → (v : ℕ) × (vertex_in d x ≡ Some v) × CornerIs d mates alone v x
  unfolding progress_from_latest
  corner_line_is x m e = at_line x e (fit_at s lines fit x m)
    where
      at_line : (x : OpenLine) → is_corner x ≡ true → FitsAt s lines x → (v : ℕ) × (vertex_in d x ≡ Some v) × CornerIs d mates alone v x
      at_line head e k = absurd (no_test e)
      at_line (shell n a b c g f) e k = absurd (no_test e)
      at_line (edge a b) e k = absurd (no_test e)
      at_line (lone a) e k = absurd (no_test e)
      at_line (cycle []) e k = absurd k.fits.1
      at_line (cycle (r ∷ rs)) e k =
          let h = k.fits.1.1 in (
            h.vertex,
            h.lies_at,
            round r rs h.lies_at
                (trail_weaker (TurnsTo d (filter_map mates_in k.before)) (TurnsTo d mates) (more_turns k.later k.before k.all) r rs r
                (trail_from_zip (TurnsTo d (filter_map mates_in k.before)) r rs r h.turns)) h.least h.whole,
          )
      at_line (path []) e k = absurd k.fits.1
      at_line (path (r ∷ rs)) e k =
          let h = k.fits.1.1 in (
            h.vertex,
            h.lies_at,
            along r rs h.lies_at
                (chain_weaker (TurnsTo d (filter_map mates_in k.before)) (TurnsTo d mates) (more_turns k.later k.before k.all) r rs h.turns)
                (listed (last_of r rs) (held lone_in lines k.later k.before k.all (last_of r rs) h.ends)) h.whole,
          )
      at_line (point face l) e k = let h = k.fits.1.1 in (h.vertex, h.lies_at, spot face l h.lies_at h.no_row h.one_point)
      at_line (reach r) e k = absurd (no_test e)
      at_line (border rs) e k = absurd (no_test e)
      at_line end e k = absurd (no_test e)

  pub border_line_is : (x : OpenLine) → Has lines x → is_border x ≡ true → (r : ℕ) × (border_in x ≡ Some r) × BorderIs d alone r x
  unfolding progress_from_latest
  border_line_is x m e = at_line x e (fit_at s lines fit x m)
    where
      at_line : (x : OpenLine) → is_border x ≡ true → FitsAt s lines x → (r : ℕ) × (border_in x ≡ Some r) × BorderIs d alone r x
      at_line head e k = absurd (no_test e)
      at_line (shell n a b c g f) e k = absurd (no_test e)
      at_line (edge a b) e k = absurd (no_test e)
      at_line (lone a) e k = absurd (no_test e)
      at_line (cycle rs) e k = absurd (no_test e)
      at_line (path rs) e k = absurd (no_test e)
      at_line (point face l) e k = absurd (no_test e)
      at_line (reach r) e k = absurd (no_test e)
      at_line (border []) e k = absurd k.fits.1
      at_line (border (r ∷ rs)) e k =
          let h = k.fits.1.1 in
          let all : AllByRecursion (Contains alone) (r ∷ rs) = All-from (Contains alone) (r ∷ rs)
          (λ a m. listed a (held lone_in lines k.later k.before k.all a (All-at (Contains (filter_map lone_in k.before)) (r ∷ rs) h.lone a m))) in
          (r, refl, ring rs (ring_trail d alone r rs r all all.0 h.goes_on) h.least)
      at_line end e k = absurd (no_test e)
