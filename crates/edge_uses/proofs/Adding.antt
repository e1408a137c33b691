-- Loops are added one after another.
use Rattle.std.specs.Prelude.{◌≡◌, ◌<◌, ◌≤◌, ◌+◌, ◌-◌, ℕ, suc, Bool, List, [], ◌∷◌, ◌++◌, length, map, flat_map, filter_map, Option, Some, None}
use Rattle.std.specs.List.{enumerate_from, cons_option}
use Rattle.std.proofs.Common.{sym, ◌∙◌, ap, subst, arith, length-append, append_assoc, get_or}
use Rattle.std.proofs.lemmas.Grind.{flat_map-append}
use Rattle.std.proofs.lemmas.List.{append-nil, drop_all}
use Rattle.solid_data.specs.SolidData.{SolidData, PlacedLoop, edge_used, vertices_used, placed_in_face}
use Rattle.solid_data.specs.declared.solid.Loop.{Loop}
use Rattle.solid_data.specs.declared.solid.LoopUse.{LoopUse}
use Rattle.solid_data.specs.declared.solid.FaceUse.{FaceUse}
use Rattle.edge_uses.specs.declared.row.Row.{Row}
use Rattle.edge_uses.specs.declared.building.Built.{Built}
use Rattle.edge_uses.specs.ShellRows.{row_of, loop_rows, follows_from}
use Rattle.edge_uses.specs.Building.{uses_in, uses_of, point_in, Added, ring_from}
use Rattle.edge_uses.specs.Joining.{placed_at}
use Rattle.edge_uses.proofs.Joins.{loops_left, faces_left, split_loops, split_faces}

follows-append : (s : SolidData) (base : ℕ) (ps qs : List PlacedLoop) → follows_from s base (ps ++ qs) ≡ follows_from s base ps
    ++ follows_from s (base + length (flat_map (loop_rows s) ps)) qs
follows-append s base [] qs = let e : base ≡ base + 0 = omega arith in ap (λ n. follows_from s n qs) e
follows-append s base (p ∷ ps) qs =
    let n : ℕ = length (loop_rows s p) in
    let ring : List ℕ = ring_from p.forwards base n in
    let counted = length-append (loop_rows s p) (flat_map (loop_rows s) ps) in
    let e : base + n + length (flat_map (loop_rows s) ps) ≡ base + length (loop_rows s p ++ flat_map (loop_rows s) ps) = omega (arith, counted) in
    ap (λ ys. ring ++ ys) (follows-append s (base + n) ps qs ∙ ap (λ k. follows_from s (base + n) ps ++ follows_from s k qs) e)
    ∙ sym (append_assoc ring (follows_from s (base + n) ps) (follows_from s (base + length (loop_rows s p ++ flat_map (loop_rows s) ps)) qs))

shorter_option : {A : Type 0} (o : Option A) (xs : List A) (n : ℕ) → length xs ≤ n → length (cons_option o xs) ≤ suc n
shorter_option None xs n h = omega (arith, h)
shorter_option (Some x) xs n h = omega (arith, h)

pub rows_shorter : (s : SolidData) (p : PlacedLoop) (us : List LoopUse) → length (filter_map (row_of s p) us) ≤ length us
rows_shorter s p [] = omega arith
rows_shorter s p (u ∷ us) = shorter_option (row_of s p u) (filter_map (row_of s p) us) (length us) (rows_shorter s p us)

pub all_rows_shorter : (s : SolidData) (ps : List PlacedLoop) → length (flat_map (loop_rows s) ps) ≤ length (uses_of ps)
all_rows_shorter s [] = omega arith
all_rows_shorter s (p ∷ ps) =
    omega (
      arith,
      all_rows_shorter s ps,
      rows_shorter s p p.loop.uses,
      length-append (loop_rows s p) (flat_map (loop_rows s) ps),
      length-append p.loop.uses
          (uses_of ps),
    )

-- those added so far and those left are all
pub record Adds (s : SolidData) (old now : Built) (left all : List PlacedLoop) : Type 0 where
  pub whole : (new : Built) → Added s now new left → Added s old new all
  pub room : (n : ℕ) → length old.rows.items + length (uses_of all) < n → length now.rows.items + length (uses_of left) < n

pub adds_all : (s : SolidData) (old : Built) (all : List PlacedLoop) → Adds s old old all all
adds_all s old all = record { whole = λ new h. h; room = λ n h. h }

more_of : {A B : Type 0} (f : A → List B) (old now new : List B) (ps qs : List A) → now ≡ old ++ flat_map f ps → new ≡ now ++ flat_map f qs
    → new ≡ old ++ flat_map f (ps ++ qs)
more_of f old now new ps qs h k =
    k ∙ (ap (λ ys. ys ++ flat_map f qs) h ∙ (append_assoc old (flat_map f ps) (flat_map f qs) ∙ ap (λ ys. old ++ ys) (sym (flat_map-append f ps qs))))

more_used : {B : Type 0} (f : LoopUse → List B) (old now new : List B) (ps qs : List PlacedLoop) → now ≡ old ++ flat_map f (uses_of ps)
    → new ≡ now ++ flat_map f (uses_of qs) → new ≡ old ++ flat_map f (uses_of (ps ++ qs))
more_used f old now new ps qs h k = more_of f old now new (uses_of ps) (uses_of qs) h k ∙ ap (λ us. old ++ flat_map f us) (sym (flat_map-append uses_in ps qs))

pub added_both : (s : SolidData) (old now new : Built) (ps qs : List PlacedLoop) → Added s old now ps → Added s now new qs → Added s old new (ps ++ qs)
added_both s old now new ps qs a b =
    let n : length now.rows.items ≡ length old.rows.items + length (flat_map (loop_rows s) ps) = ap (λ ys. length ys) a.rows
    ∙ length-append old.rows.items (flat_map (loop_rows s) ps) in
    let f : List ℕ = follows_from s (length old.rows.items) ps in
    let g : List ℕ = follows_from s (length now.rows.items) qs in
    record {
      rows = more_of (loop_rows s) old.rows.items now.rows.items new.rows.items ps qs a.rows b.rows;
      next = b.next ∙ (ap (λ ys. ys ++ g) a.next ∙ (append_assoc old.next.items f g
          ∙ ap (λ ys. old.next.items ++ ys) (ap (λ k. f ++ follows_from s k qs) n ∙ sym (follows-append s (length old.rows.items) ps qs))));
      points = more_of (point_in s) old.points.items now.points.items new.points.items ps qs a.points b.points;
      edges = more_used edge_used old.edges.items now.edges.items new.edges.items ps qs a.edges b.edges;
      vertices = more_used (vertices_used s) old.vertices.items now.vertices.items new.vertices.items ps qs a.vertices b.vertices;
    }

pub adds_more : (s : SolidData) (old now new : Built) (ps left all : List PlacedLoop) → Adds s old now (ps ++ left) all → Added s now new ps
    → Adds s old new left all
adds_more s old now new ps left all h a = record {
  whole = λ last b. h.whole last (added_both s now new last ps left a b);
  room = λ n lt.
      let grown : length new.rows.items ≡ length now.rows.items + length (flat_map (loop_rows s) ps) = ap (λ ys. length ys) a.rows
      ∙ length-append now.rows.items (flat_map (loop_rows s) ps) in
      let both : length (uses_of (ps ++ left)) ≡ length (uses_of ps) + length (uses_of left) = ap (λ ys. length ys) (flat_map-append uses_in ps left)
      ∙ length-append (uses_of ps) (uses_of left) in
      omega (arith, h.room n lt, grown, both, all_rows_shorter s ps);
}

pub adds_room : (s : SolidData) (old now : Built) (ps left all : List PlacedLoop) (n : ℕ) → Adds s old now (ps ++ left) all
    → length old.rows.items + length (uses_of all) < n → length now.rows.items + length (uses_of ps) < n
adds_room s old now ps left all n h lt =
    let both : length (uses_of (ps ++ left)) ≡ length (uses_of ps) + length (uses_of left) = ap (λ ys. length ys) (flat_map-append uses_in ps left)
    ∙ length-append (uses_of ps) (uses_of left) in
    omega (arith, h.room n lt, both)

pub added_none : (s : SolidData) (now : Built) → Added s now now []
added_none s now = record {
  rows = sym (append-nil now.rows.items);
  next = sym (append-nil now.next.items);
  points = sym (append-nil now.points.items);
  edges = sym (append-nil now.edges.items);
  vertices = sym (append-nil now.vertices.items);
}

pub adds_done : (s : SolidData) (old now : Built) (left all : List PlacedLoop) → left ≡ [] → Adds s old now left all → Added s old now all
adds_done s old now left all e h = h.whole now (subst (Added s now now) (sym e) (added_none s now))

-- one loop
pub added_loop : (s : SolidData) (old new : Built) (p : PlacedLoop) → new.rows.items ≡ old.rows.items ++ loop_rows s p
    → new.next.items ≡ old.next.items ++ ring_from p.forwards (length old.rows.items) (length new.rows.items - length old.rows.items)
    → new.points.items ≡ old.points.items ++ point_in s p
    → new.edges.items ≡ old.edges.items ++ flat_map edge_used p.loop.uses
    → new.vertices.items ≡ old.vertices.items ++ flat_map (vertices_used s) p.loop.uses
    → Added s old new (p ∷ [])
added_loop s old new p rows next points edges vertices =
    let grown : length new.rows.items ≡ length old.rows.items + length (loop_rows s p) = ap (λ ys. length ys) rows
    ∙ length-append old.rows.items (loop_rows s p) in
    let n : length new.rows.items - length old.rows.items ≡ length (loop_rows s p) = omega (arith, grown) in
    record {
      rows = rows ∙ ap (λ ys. old.rows.items ++ ys) (sym (append-nil (loop_rows s p)));
      next = next ∙ ap (λ ys. old.next.items ++ ys)
          (ap (λ k. ring_from p.forwards (length old.rows.items) k) n
          ∙ sym (append-nil (ring_from p.forwards (length old.rows.items) (length (loop_rows s p)))));
      points = points ∙ ap (λ ys. old.points.items ++ ys) (sym (append-nil (point_in s p)));
      edges = edges ∙ ap (λ us. old.edges.items ++ flat_map edge_used us) (sym (append-nil p.loop.uses));
      vertices = vertices ∙ ap (λ us. old.vertices.items ++ flat_map (vertices_used s) us) (sym (append-nil p.loop.uses));
    }

pub rows_few : (s : SolidData) (p : PlacedLoop) (old new : List Row) (n : ℕ) → new ≡ old ++ loop_rows s p → length old + length (uses_of (p ∷ [])) < n
    → length new < n
rows_few s p old new n e h =
    omega (arith, h, ap (λ ys. length ys) e, length-append old (loop_rows s p), rows_shorter s p p.loop.uses, length-append p.loop.uses [])

pub loop_room : (s : SolidData) (old now : Built) (face : ℕ) (forwards f : Bool) (ls : List Loop) (l : Loop) (i n : ℕ) (all : List PlacedLoop) → i < length ls
    → get_or ls i l ≡ l
    → Adds s old now (loops_left face forwards ls i) all → length old.rows.items + length (uses_of all) < n
    → length now.rows.items + length (uses_of (placed_at face f (i, l) ∷ [])) < n
loop_room s old now face forwards f ls l i n all lt e h room =
    adds_room s old now (placed_at face forwards (i, l) ∷ []) (loops_left face forwards ls (i + 1)) all n
    (subst (λ ps. Adds s old now ps all) (split_loops face forwards ls l i lt e) h) room

pub loop_added : (s : SolidData) (old now new : Built) (face : ℕ) (forwards f : Bool) (ls : List Loop) (l : Loop) (i : ℕ) (all : List PlacedLoop)
    → i < length ls → get_or ls i l ≡ l → f ≡ forwards
    → Adds s old now (loops_left face forwards ls i) all → Added s now new (placed_at face f (i, l) ∷ [])
    → Adds s old new (loops_left face forwards ls (i + 1)) all
loop_added s old now new face forwards f ls l i all lt e same h a =
    adds_more s old now new (placed_at face forwards (i, l) ∷ []) (loops_left face forwards ls (i + 1)) all
    (subst (λ ps. Adds s old now ps all) (split_loops face forwards ls l i lt e) h)
    (subst (λ b. Added s now new (placed_at face b (i, l) ∷ [])) same a)

pub loops_added : (s : SolidData) (old now : Built) (face : ℕ) (forwards : Bool) (ls : List Loop) (i : ℕ) (all : List PlacedLoop) → length ls ≤ i
    → Adds s old now (loops_left face forwards ls i) all → Added s old now all
loops_added s old now face forwards ls i all past h =
    adds_done s old now (loops_left face forwards ls i) all (ap (λ us. map (placed_at face forwards) (enumerate_from i us)) (drop_all i ls past)) h

pub face_room : (s : SolidData) (old now : Built) (flag : Bool) (fs : List FaceUse) (f : FaceUse) (i n : ℕ) (all : List PlacedLoop) → i < length fs
    → get_or fs i f ≡ f
    → Adds s old now (faces_left flag fs i) all → length old.rows.items + length (uses_of all) < n
    → length now.rows.items + length (uses_of (placed_in_face flag (i, f))) < n
face_room s old now flag fs f i n all lt e h room =
    adds_room s old now (placed_in_face flag (i, f)) (faces_left flag fs (i + 1)) all n (subst (λ ps. Adds s old now ps all) (split_faces flag fs f i lt e) h)
    room

pub face_added : (s : SolidData) (old now new : Built) (flag : Bool) (fs : List FaceUse) (f : FaceUse) (i : ℕ) (all : List PlacedLoop) → i < length fs
    → get_or fs i f ≡ f
    → Adds s old now (faces_left flag fs i) all → Added s now new (placed_in_face flag (i, f)) → Adds s old new (faces_left flag fs (i + 1)) all
face_added s old now new flag fs f i all lt e h a = adds_more s old now new (placed_in_face flag (i, f)) (faces_left flag fs (i + 1)) all
    (subst (λ ps. Adds s old now ps all) (split_faces flag fs f i lt e) h) a

pub faces_added : (s : SolidData) (old now : Built) (flag : Bool) (fs : List FaceUse) (i : ℕ) (all : List PlacedLoop) → length fs ≤ i
    → Adds s old now (faces_left flag fs i) all → Added s old now all
faces_added s old now flag fs i all past h =
    adds_done s old now (faces_left flag fs i) all (ap (λ us. flat_map (placed_in_face flag) (enumerate_from i us)) (drop_all i fs past)) h
