-- What the lines since a SHELL line show of its shell.
use Rattle.std.specs.Prelude.{◌≡◌, ℕ, zero, suc, ◌+◌, ◌-◌, ◌*◌, ◌<◌, ◌≤◌, ◌==◌, ◌&&◌, Bool, true, false, not, cond, option_map, List, [], ◌∷◌, length, find}
use Rattle.std.specs.Prelude.{count_by, Option, Some, None, slice_get}
use Rattle.std.specs.List.{AllByRecursion, cons_option}
use Rattle.std.proofs.Common.{refl, sym, ◌∙◌, ap, subst, arith, inl, inr, ⊎_elim}
use Rattle.std.proofs.lemmas.Bool.{eq-eqb, and_from}
use Rattle.std.proofs.lemmas.Option.{same_Some}
use Rattle.solid_data.specs.Ring.{numbers_from}
use Rattle.solid_data.specs.declared.solid.EdgeId.{EdgeId}
use Rattle.solid_data.specs.declared.solid.LoopAt.{LoopAt}
use Rattle.edge_uses.specs.declared.row.Row.{Row}
use Rattle.edge_uses.specs.ShellRows.{ShellRows, EndsMeet}
use Rattle.edge_uses.specs.RowRelations.{IsPaired, row_count}
use Rattle.edge_uses.specs.Around.{AreNeighbours, IsReached, IsLinked, IsPoint}
use Rattle.solid_data.proofs.Members.{Has, NoRepeat, Has-from_Contains, Contains-from_Has, All-at, All-from, covers, count_by-total}
use Rattle.edge_uses.proofs.Counting.{counted, paired_by_count}
use Rattle.cert_state.specs.Progress.{Progress, FitsEdge, FitsCorner, FitsPoint, FitsReach, IsAbove, first_of, row_named, row_edge, row_start, row_face}
use Rattle.cert_state.specs.Progress.{point_named}
use Rattle.solid_data.proofs.Trail.{leads_last}
use Rattle.solid_data.proofs.Occurring.{numbers_have, length-numbers}
use Rattle.edge_uses.proofs.RowShape.{EndsExchanged}
use Rattle.edge_uses.proofs.Turn.{PairedRows}
use Rattle.cert_state.proofs.Corner.{AreNamedMates, MatesHold, mates_named, mates_back, corner_from_line}

-- what rows of a shell whose loops join keep
pub record AreGoodRows (d : ShellRows) : Type 0 where
  pub edges : AllByRecursion (λ (r : Row). Has d.edges r.edge.0) d.rows
  pub starts : AllByRecursion (λ (r : Row). Has d.vertices r.from.0) d.rows
  pub points : AllByRecursion (λ (p : LoopAt × ℕ). Has d.vertices p.1) d.points
  pub faces : AllByRecursion (λ (r : Row). r.at.face.0 < d.face_count) d.rows
  pub meet : EndsMeet d
  pub exchanged : EndsExchanged d

pub row_has : (P : Row → Type 0) (rows : List Row) (n : ℕ) (r : Row) → AllByRecursion P rows → slice_get rows n ≡ Some r → P r
row_has P [] n r all h = absurd cc
row_has P (x ∷ rows) zero r all h = subst P (same_Some x r h) all.0
row_has P (x ∷ rows) (suc n) r all h = row_has P rows n r all.1 h

pub named_has : (P : Row → Type 0) (d : ShellRows) (n : ℕ) (r : Row) → AllByRecursion P d.rows → row_named d n ≡ Some r → P r
named_has P d zero r all h = absurd cc
named_has P d (suc n) r all h = row_has P d.rows n r all h

-- each is greater than all behind it
abbrev pub Falls : List ℕ → Type 0
Falls [] = Unit {0}
Falls (x ∷ xs) = AllByRecursion (λ y. y < x) xs × Falls xs

pub falls_none : (xs : List ℕ) → Falls xs → NoRepeat xs
falls_none [] h = tt
falls_none (x ∷ xs) h = ((λ m. let lt : x < x = All-at (λ y. y < x) xs h.0 x m in omega (arith, lt)), falls_none xs h.1)

pub falls_more : (xs : List ℕ) (x : ℕ) → IsAbove (first_of xs) x → Falls xs → AllByRecursion (λ y. y < x) xs
falls_more [] x above h = tt
falls_more (y ∷ ys) x above h = (above, All-from (λ z. z < x) ys (λ z m. let lt : z < y = All-at (λ w. w < y) ys h.0 z m in omega (arith, lt, above)))

pub record EdgeFacts (d : ShellRows) (mates : List (ℕ × ℕ)) (es : List ℕ) (n : ℕ) : Type 0 where
  pub falls : Falls es
  pub number : length es ≡ n
  pub within : n ≤ length d.edges
  pub each : (e : ℕ) → Has es e → Has d.edges e × (1 ≤ row_count d e true) × (1 ≤ row_count d e false)
  pub hold : MatesHold d mates

pub mates_of_line : (d : ShellRows) (at : Progress) (a b : ℕ) → FitsEdge d at a b → AreNamedMates d a b
mates_of_line d at a b h =
    record { row = h.along_row; mate = h.against_row; at_r = h.at_a; at_m = h.at_b; one_edge = h.one_edge; opposite = h.along ∙ sym (ap not h.against) }

pub counted_named : (p : Row → Bool) (d : ShellRows) (n : ℕ) (r : Row) → row_named d n ≡ Some r → p r ≡ true → 1 ≤ count_by p d.rows
counted_named p d zero r h passes = absurd cc
counted_named p d (suc n) r h passes = omega (arith, counted p d.rows n r h passes, count_by-total p d.rows)

pub edge_step : (d : ShellRows) (at : Progress) (mates : List (ℕ × ℕ)) (es : List ℕ) (n a b : ℕ) → AreGoodRows d → EdgeFacts d mates es n → n < length d.edges
    → at.last_edge ≡ first_of es
    → FitsEdge d at a b → EdgeFacts d ((a, b) ∷ mates) (cons_option (row_edge (row_named d a)) es) (suc n)
edge_step d at mates es n a b good facts more last h =
    let e : ℕ = h.along_row.edge.0 in
    let listed : row_edge (row_named d a) ≡ Some e = ap row_edge h.at_a in
    let here : Has d.edges e × (1 ≤ row_count d e true) × (1 ≤ row_count d e false) = (
      named_has (λ (r : Row). Has d.edges r.edge.0) d a h.along_row good.edges h.at_a,
      counted_named (λ (r : Row). (r.edge.0 == e) && r.along) d a h.along_row h.at_a (and_from (e == e) h.along_row.along (eq-eqb e e refl) h.along),
      counted_named (λ (r : Row). (r.edge.0 == e) && not r.along) d b h.against_row h.at_b
          (and_from (h.against_row.edge.0 == e) (not h.against_row.along) (eq-eqb h.against_row.edge.0 e (ap (λ (x : EdgeId). x.0) (sym h.one_edge)))
          (ap not h.against)),
    ) in
    subst (λ o. EdgeFacts d ((a, b) ∷ mates) (cons_option o es) (suc n)) (sym listed) (record {
      falls = (falls_more es e (subst (λ o. IsAbove o e) last h.rises) facts.falls, facts.falls);
      number = ap suc facts.number;
      within = omega (arith, more);
      each = λ x m. ⊎_elim (λ same. subst (λ y. Has d.edges y × (1 ≤ row_count d y true) × (1 ≤ row_count d y false)) same here) (λ k. facts.each x k) m;
      hold = λ r m c. ⊎_elim (λ same. subst (λ (p : ℕ × ℕ). AreNamedMates d p.0 p.1) same (mates_of_line d at a b h))
          (λ k. facts.hold r m (Contains-from_Has mates (r, m) k)) (Has-from_Contains ((a, b) ∷ mates) (r, m) c);
    })

-- Where a line has come for each edge, each edge is paired.
pub edges_paired : (d : ShellRows) (mates : List (ℕ × ℕ)) (es : List ℕ) (n : ℕ) → EdgeFacts d mates es n → length d.edges ≤ n
    → 2 * length d.edges ≡ length d.rows → (e : ℕ) → Has d.edges e → IsPaired d e
edges_paired d mates es n facts all twice e m =
    let none : NoRepeat es = falls_none es facts.falls in
    let listed : Has es e = covers es d.edges none (λ x k. (facts.each x k).0) (omega (arith, all, facts.number)) e m in
    let two : 2 * length es ≡ length d.rows = omega (arith, twice, all, facts.number, facts.within) in
    paired_by_count d es none two (λ x k. let f = facts.each x k in (f.1, f.2)) e listed

pub paired_rows : (d : ShellRows) → AreGoodRows d → ((e : ℕ) → Has d.edges e → IsPaired d e) → PairedRows d
paired_rows d good paired n a at = paired a.edge.0 (row_has (λ (r : Row). Has d.edges r.edge.0) d.rows n a good.edges at)

pub record CornerFacts (d : ShellRows) (vs : List ℕ) (n : ℕ) : Type 0 where
  pub falls : Falls vs
  pub number : length vs ≡ n
  pub each : (v : ℕ) → Has vs v → Has d.vertices v × IsLinked d v

vertex_step : (d : ShellRows) (vs : List ℕ) (n v : ℕ) (o : Option ℕ) → CornerFacts d vs n → o ≡ Some v → IsAbove (first_of vs) v → Has d.vertices v
    → IsLinked d v → CornerFacts d (cons_option o vs) (suc n)
vertex_step d vs n v o facts e above known linked = subst (λ p. CornerFacts d (cons_option p vs) (suc n)) (sym e) (record {
  falls = (falls_more vs v above facts.falls, facts.falls);
  number = ap suc facts.number;
  each = λ x m. ⊎_elim (λ same. subst (λ y. Has d.vertices y × IsLinked d y) same (known, linked)) (λ k. facts.each x k) m;
})

pub start_known : (d : ShellRows) → AreGoodRows d → (r v : ℕ) → row_start (row_named d r) ≡ Some v → Has d.vertices v
start_known d good r v h = at_row (row_named d r) refl h
  where
    at_row : (o : Option Row) → row_named d r ≡ o → row_start o ≡ Some v → Has d.vertices v
    at_row None e h = absurd cc
    at_row (Some row) e h = subst (Has d.vertices) (same_Some row.from.0 v h) (named_has (λ (x : Row). Has d.vertices x.from.0) d r row good.starts e)

abbrev point_vertex : Option (LoopAt × ℕ) → Option ℕ
point_vertex None = None
point_vertex (Some p) = Some p.1

found_point : (P : LoopAt × ℕ → Type 0) (test : LoopAt × ℕ → Bool) (ps : List (LoopAt × ℕ)) (q : LoopAt × ℕ) → AllByRecursion P ps → find test ps ≡ Some q → P q
found_point P test [] q all h = absurd cc
found_point P test (p ∷ ps) q all h = by_test (test p) h (λ k. found_point P test ps q all.1 k)
  where
    by_test : (b : Bool) → cond b (Some p) (find test ps) ≡ Some q → (find test ps ≡ Some q → P q) → P q
    by_test true h k = subst P (same_Some p q h) all.0
    by_test false h k = k h

pub point_known : (d : ShellRows) → AreGoodRows d → (face l v : ℕ) → option_map (λ (p : LoopAt × ℕ). p.1) (point_named d face l) ≡ Some v → Has d.vertices v
point_known d good face l v h = at_point (point_named d face l) refl h
  where
    at_point : (o : Option (LoopAt × ℕ)) → point_named d face l ≡ o → option_map (λ (p : LoopAt × ℕ). p.1) o ≡ Some v → Has d.vertices v
    at_point None e h = absurd cc
    at_point (Some p) e h = subst (Has d.vertices) (same_Some p.1 v h) (found_point (λ (q : LoopAt × ℕ). Has d.vertices q.1) _ d.points p good.points e)

pub point_from_line : (d : ShellRows) (at : Progress) (face l : ℕ) → (h : FitsPoint d at face l) → IsPoint d h.vertex
point_from_line d at face l h = record {
  no_row = λ r (row, at_r, e). omega (
    arith,
    h.no_row,
    counted (λ (x : Row). x.from.0 == h.vertex) d.rows r row at_r (eq-eqb row.from.0 h.vertex e),
    count_by-total
        (λ (x : Row). x.from.0 == h.vertex) d.rows,
  );
  one_point = h.one_point;
}

pub corner_step : (d : ShellRows) (at : Progress) (vs : List ℕ) (n r : ℕ) (rs : List ℕ) → AreGoodRows d → MatesHold d at.mates → PairedRows d → CornerFacts d vs n
    → at.last_vertex ≡ first_of vs
    → FitsCorner d at r rs → CornerFacts d (cons_option (row_start (row_named d r)) vs) (suc n)
corner_step d at vs n r rs good hold paired facts last h =
    vertex_step d vs n h.vertex (row_start (row_named d r)) facts h.lies_at (subst (λ o. IsAbove o h.vertex) last h.rises)
    (start_known d good r h.vertex h.lies_at)
    (inl (corner_from_line d at r rs good.meet good.exchanged hold paired h))

pub point_step : (d : ShellRows) (at : Progress) (vs : List ℕ) (n face l : ℕ) → AreGoodRows d → CornerFacts d vs n → at.last_vertex ≡ first_of vs
    → FitsPoint d at face l → CornerFacts d (cons_option (option_map (λ (p : LoopAt × ℕ). p.1) (point_named d face l)) vs) (suc n)
point_step d at vs n face l good facts last h =
    vertex_step d vs n h.vertex (option_map (λ (p : LoopAt × ℕ). p.1) (point_named d face l)) facts h.lies_at (subst (λ o. IsAbove o h.vertex) last h.rises)
    (point_known d good face l h.vertex h.lies_at)
    (inr (point_from_line d at face l h))

pub vertices_linked : (d : ShellRows) (vs : List ℕ) (n : ℕ) → CornerFacts d vs n → length d.vertices ≤ n → (v : ℕ) → Has d.vertices v → IsLinked d v
vertices_linked d vs n facts all v m =
    (facts.each v (covers vs d.vertices (falls_none vs facts.falls) (λ x k. (facts.each x k).0) (omega (arith, all, facts.number)) v m)).1

pub record ReachFacts (d : ShellRows) (fs : List ℕ) (n : ℕ) : Type 0 where
  pub none : NoRepeat (0 ∷ fs)
  pub number : length fs ≡ n
  pub each : (f : ℕ) → Has fs f → (f < d.face_count) × IsReached d f

neighbours_of_mates : (d : ShellRows) (r m f g : ℕ) → AreNamedMates d r m → row_face (row_named d r) ≡ Some f → row_face (row_named d m) ≡ Some g
    → AreNeighbours d g f
neighbours_of_mates d zero m f g a on_f on_g = absurd (let h : None ≡ Some a.row = a.at_r in cc)
neighbours_of_mates d (suc r) zero f g a on_f on_g = absurd (let h : None ≡ Some a.mate = a.at_m in cc)
neighbours_of_mates d (suc r) (suc m) f g a on_f on_g =
    let b : AreNamedMates d (suc m) (suc r) = mates_back d (suc r) (suc m) a in (
      m,
      r,
      record { row = b.row; mate = b.mate; at_r = b.at_r; at_m = b.at_m; one_edge = b.one_edge; opposite = b.opposite },
      (a.mate, a.at_m, same_Some a.mate.at.face.0 g (sym (ap row_face a.at_m) ∙ on_g)),
      (a.row, a.at_r, same_Some a.row.at.face.0 f (sym (ap row_face a.at_r) ∙ on_f)),
    )

pub first_reached : (d : ShellRows) → IsReached d 0
first_reached d = (zero, refl)

face_below : (d : ShellRows) → AreGoodRows d → (r f : ℕ) → row_face (row_named d r) ≡ Some f → f < d.face_count
face_below d good r f h = at_row (row_named d r) refl h
  where
    at_row : (o : Option Row) → row_named d r ≡ o → row_face o ≡ Some f → f < d.face_count
    at_row None e h = absurd cc
    at_row (Some row) e h = subst (λ x. x < d.face_count) (same_Some row.at.face.0 f h)
        (named_has (λ (x : Row). x.at.face.0 < d.face_count) d r row good.faces e)

pub reach_step : (d : ShellRows) (at : Progress) (fs : List ℕ) (n r : ℕ) → AreGoodRows d → MatesHold d at.mates → ReachFacts d fs n → at.reached ≡ 0 ∷ fs
    → FitsReach d at r → ReachFacts d (cons_option (row_face (row_named d r)) fs) (suc n)
reach_step d at fs n r good hold facts reached h =
    let known : IsReached d h.known = ⊎_elim (λ e. subst (IsReached d) e (first_reached d)) (λ m. (facts.each h.known m).1)
    (subst (λ xs. Has xs h.known) reached (Has-from_Contains at.reached h.known h.old)) in
    let a : AreNamedMates d r h.mate = mates_named d at.mates r h.mate hold h.mates in
    let now : IsReached d h.face = leads_last (AreNeighbours d) 0 h.known h.face known (neighbours_of_mates d r h.mate h.face h.known a h.on_face h.on_known) in
    let new : Has (0 ∷ fs) h.face → ⊥ = λ m. h.new (Contains-from_Has at.reached h.face (subst (λ xs. Has xs h.face) (sym reached) m)) in
    subst (λ o. ReachFacts d (cons_option o fs) (suc n)) (sym h.on_face) (record {
      none = ((λ m. ⊎_elim (λ e. new (inl (sym e))) (λ k. facts.none.0 k) m), ((λ m. new (inr m)), facts.none.1));
      number = ap suc facts.number;
      each = λ f m. ⊎_elim (λ e. subst (λ x. (x < d.face_count) × IsReached d x) e (face_below d good r h.face h.on_face, now)) (λ k. facts.each f k) m;
    })

pub faces_reached : (d : ShellRows) (fs : List ℕ) (n : ℕ) → ReachFacts d fs n → d.face_count - 1 ≤ n → (f : ℕ) → f < d.face_count → IsReached d f
faces_reached d fs n facts all f lt =
    let zero_more : (k : ℕ) → 0 + k ≡ k = λ k. omega arith in
    let listed : (k : ℕ) → k < d.face_count → Has (numbers_from 0 d.face_count) k = λ k less. subst (Has (numbers_from 0 d.face_count)) (zero_more k)
    (numbers_have 0 d.face_count k less) in
    let into : (k : ℕ) → Has (0 ∷ fs) k → Has (numbers_from 0 d.face_count) k =
    λ k m. ⊎_elim (λ e. listed k (omega (arith, e, lt))) (λ j. listed k (facts.each k j).0) m in
    let here : Has (0 ∷ fs) f = covers (0 ∷ fs) (numbers_from 0 d.face_count) facts.none into (omega (arith, all, facts.number, length-numbers 0 d.face_count))
    f (listed f lt) in
    ⊎_elim (λ e. subst (IsReached d) e (first_reached d)) (λ m. (facts.each f m).1) here
