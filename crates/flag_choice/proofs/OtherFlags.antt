-- A solid with other flags in place of its faces' is paired and reached.
use Rattle.std.specs.Prelude.{◌≡◌, ℕ, suc, ◌+◌, ◌≤◌, ◌==◌, ◌&&◌, Bool, true, false, not, List, [], ◌∷◌, ◌++◌, length, map, flat_map, filter_map, slice_get}
use Rattle.std.specs.Prelude.{Option, Some, option_map, count_by}
use Rattle.std.specs.List.{AllByRecursion, AllZip, enumerate_from, cons_option}
use Rattle.std.proofs.Common.{refl, sym, ◌∙◌, ap, subst, arith}
use Rattle.std.proofs.lemmas.Bool.{eq-eqb, eqb-true, and_from, not_from_false}
use Rattle.std.proofs.lemmas.Grind.{flat_map-append}
use Rattle.std.proofs.lemmas.List.{length-map}
use Rattle.solid_data.specs.Ring.{numbers_from}
use Rattle.solid_data.specs.SolidData.{SolidData, PlacedLoop, placed_in_face, placed_loops, shell_uses, edge_used, same_flag, occurring}
use Rattle.solid_data.specs.declared.solid.EdgeId.{EdgeId}
use Rattle.solid_data.specs.declared.solid.FaceUse.{FaceUse}
use Rattle.solid_data.specs.declared.solid.Loop.{Loop}
use Rattle.solid_data.specs.declared.solid.LoopAt.{LoopAt}
use Rattle.solid_data.specs.declared.solid.LoopUse.{LoopUse}
use Rattle.solid_data.specs.declared.solid.LoopUse.TheVariants.{EdgeUse, VertexUse}
use Rattle.solid_data.specs.declared.solid.Shell.{Shell}
use Rattle.solid_data.proofs.Members.{count_by-total}
use Rattle.solid_data.proofs.ObligationLemmas.{AllByRecursion-weaker}
use Rattle.edge_uses.specs.declared.row.Row.{Row}
use Rattle.edge_uses.specs.RowRelations.{row_count, IsPaired, AreMates, OnFace}
use Rattle.edge_uses.specs.Around.{AreNeighbours}
use Rattle.edge_uses.specs.Around as around
use Rattle.edge_uses.specs.ShellRows.{ShellRows, row_of, loop_rows, shell_rows, rows_of}
use Rattle.edge_uses.proofs.Counting.{counted, counts_of_edge, found_row}
use Rattle.orient_certificate.specs.Partners.{HasTwoRows, AllHaveTwoRows, Adjoin, IsReached, AllReached}
use Rattle.orient_certificate.specs.Flags.{PartnersDiffer, face_flags, faces_with, rows_at, shell_with}
use Rattle.orient_certificate.specs.OddRing.{bare_shell}
use Rattle.orient_certificate.proofs.Bare.{Told, Alike, walks, told_rows, bare_with, zip_get, partners_alike, two_rows_alike}
use Rattle.orient_certificate.proofs.Crossed.{steps_map}
use Rattle.orient_certificate.proofs.Places.{partner_made, other_in}
use Rattle.orient_certificate.specs.RowsByEdge.{summary, places_of}
use Rattle.flag_choice.specs.Laws.{SuitedIsSewn}
use Rattle.flag_choice.specs.Suiting.{FlagsOrient, FlagsSuit}
use Rattle.flag_choice.specs.Turned.{turned}
use Rattle.flag_choice.proofs.Two.{suit_orients}

-- The rows with other flags.

zip_alike : (F G : ℕ → Bool) (xs ys bs : List Row) → AllZip (Told F) xs bs → AllZip (Told G) ys bs → AllZip Alike xs ys
zip_alike F G [] [] [] a b = tt
zip_alike F G [] [] (z ∷ bs) a b = absurd a
zip_alike F G [] (y ∷ ys) [] a b = absurd b
zip_alike F G [] (y ∷ ys) (z ∷ bs) a b = absurd a
zip_alike F G (x ∷ xs) [] [] a b = absurd a
zip_alike F G (x ∷ xs) (y ∷ ys) [] a b = absurd a
zip_alike F G (x ∷ xs) [] (z ∷ bs) a b = absurd b
zip_alike F G (x ∷ xs) (y ∷ ys) (z ∷ bs) a b = (record { at = a.0.at ∙ sym b.0.at; edge = a.0.edge ∙ sym b.0.edge }, zip_alike F G xs ys bs a.1 b.1)

alike_with : (s : SolidData) (h : Shell) (flags : List Bool) → length flags ≡ length h.faces
    → AllZip Alike (shell_rows s h).rows (shell_rows s (shell_with flags h)).rows
alike_with s h flags e =
    zip_alike (walks (Some h)) (walks (Some (shell_with flags h))) (shell_rows s h).rows (shell_rows s (shell_with flags h)).rows
    (shell_rows s (bare_shell h)).rows (told_rows s (Some h))
    (subst (λ (g : Shell). AllZip (Told (walks (Some (shell_with flags h)))) (shell_rows s (shell_with flags h)).rows (shell_rows s g).rows)
    (bare_with flags h e) (told_rows s (Some (shell_with flags h))))

-- The uses with other flags.

abbrev face_uses : FaceUse → List LoopUse
face_uses f = flat_map (λ (l : Loop). l.uses) f.loops

loops_uses : (flag : Bool) (n m : ℕ) (ls : List Loop)
    → flat_map (λ (p : PlacedLoop). p.loop.uses)
    (map (λ l. record { at = record { face = record { 0 = n }; place = l.0 }; forwards = flag; loop = l.1 }) (enumerate_from m ls))
    ≡ flat_map (λ (l : Loop). l.uses) ls
loops_uses flag n m [] = refl
loops_uses flag n m (l ∷ ls) = ap (λ (us : List LoopUse). l.uses ++ us) (loops_uses flag n (m + 1) ls)

faces_uses : (flag : Bool) (n : ℕ) (fs : List FaceUse) → flat_map (λ (p : PlacedLoop). p.loop.uses) (flat_map (placed_in_face flag) (enumerate_from n fs))
    ≡ flat_map face_uses fs
faces_uses flag n [] = refl
faces_uses flag n (f ∷ fs) =
    flat_map-append (λ (p : PlacedLoop). p.loop.uses) (placed_in_face flag (n, f)) (flat_map (placed_in_face flag) (enumerate_from (n + 1) fs))
    ∙ ap (λ (us : List LoopUse). us ++ flat_map (λ (p : PlacedLoop). p.loop.uses) (flat_map (placed_in_face flag) (enumerate_from (n + 1) fs)))
    (loops_uses (same_flag f.flag flag) n 0 f.loops)
    ∙ ap (λ (us : List LoopUse). face_uses f ++ us) (faces_uses flag (n + 1) fs)

uses_with : (flags : List Bool) (fs : List FaceUse) → length flags ≡ length fs → flat_map face_uses (faces_with flags fs) ≡ flat_map face_uses fs
uses_with [] [] e = refl
uses_with [] (f ∷ fs) e = absurd (omega (arith, e))
uses_with (b ∷ bs) [] e = absurd (omega (arith, e))
uses_with (b ∷ bs) (f ∷ fs) e = ap (λ (us : List LoopUse). face_uses f ++ us) (uses_with bs fs (omega (arith, e)))

shell_uses_with : (h : Shell) (flags : List Bool) → length flags ≡ length h.faces → shell_uses (shell_with flags h) ≡ shell_uses h
shell_uses_with h flags e = faces_uses h.flag 0 (faces_with flags h.faces) ∙ uses_with flags h.faces e ∙ sym (faces_uses h.flag 0 h.faces)

edges_with : (s : SolidData) (h : Shell) (flags : List Bool) → length flags ≡ length h.faces → (shell_rows s (shell_with flags h)).edges
    ≡ (shell_rows s h).edges
unfolding shell_rows
edges_with s h flags e = ap (λ (us : List LoopUse). occurring (numbers_from 0 (length s.edges)) (flat_map edge_used us)) (shell_uses_with h flags e)

length-with : (flags : List Bool) (fs : List FaceUse) → length flags ≡ length fs → length (faces_with flags fs) ≡ length fs
length-with [] [] e = refl
length-with [] (f ∷ fs) e = absurd (omega (arith, e))
length-with (b ∷ bs) [] e = absurd (omega (arith, e))
length-with (b ∷ bs) (f ∷ fs) e = ap suc (length-with bs fs (omega (arith, e)))

-- The rows of a shell, in a solid with other flags.

uses_rows : (s : SolidData) (flags : List (List Bool)) (p : PlacedLoop) (us : List LoopUse) → filter_map (row_of (turned flags s) p) us
    ≡ filter_map (row_of s p) us
uses_rows s flags p [] = refl
uses_rows s flags p (EdgeUse edge along ∷ us) = ap (λ (rs : List Row). cons_option (row_of s p (EdgeUse edge along)) rs) (uses_rows s flags p us)
uses_rows s flags p (VertexUse vertex ∷ us) = uses_rows s flags p us

loops_rows : (s : SolidData) (flags : List (List Bool)) (ps : List PlacedLoop) → flat_map (loop_rows (turned flags s)) ps ≡ flat_map (loop_rows s) ps
loops_rows s flags [] = refl
loops_rows s flags (p ∷ ps) =
    ap (λ (rs : List Row). rs ++ flat_map (loop_rows (turned flags s)) ps) (uses_rows s flags p p.loop.uses) ∙ ap (λ (rs : List Row). loop_rows s p ++ rs)
    (loops_rows s flags ps)

rows_in : (s : SolidData) (flags : List (List Bool)) (h : Shell) → (shell_rows (turned flags s) h).rows ≡ (shell_rows s h).rows
unfolding shell_rows
rows_in s flags h = loops_rows s flags (placed_loops h)

edges_in : (s : SolidData) (flags : List (List Bool)) (h : Shell) → (shell_rows (turned flags s) h).edges ≡ (shell_rows s h).edges
unfolding shell_rows
edges_in s flags h = refl

faces_in : (s : SolidData) (h : Shell) → (shell_rows s h).face_count ≡ length h.faces
unfolding shell_rows
faces_in s h = refl

-- each edge with two rows, which run in different directions, is paired
module _ (d : ShellRows) (differ : PartnersDiffer d) where
  both_ways : (e r m : ℕ) (a b : Row) (way : Bool) → a.along ≡ way → b.along ≡ not way → slice_get d.rows r ≡ Some a → slice_get d.rows m ≡ Some b
      → a.edge.0 ≡ e → b.edge.0 ≡ e → (1 ≤ row_count d e true) × (1 ≤ row_count d e false)
  both_ways e r m a b true is other at_r at_m on_a on_b = (
    subst (λ n. 1 ≤ n) (sym (count_by-total (λ (x : Row). (x.edge.0 == e) && x.along) d.rows))
        (counted (λ (x : Row). (x.edge.0 == e) && x.along) d.rows r a at_r (and_from (a.edge.0 == e) a.along (eq-eqb a.edge.0 e on_a) is)),
    subst (λ n. 1 ≤ n) (sym (count_by-total (λ (x : Row). (x.edge.0 == e) && not x.along) d.rows))
        (counted (λ (x : Row). (x.edge.0 == e) && not x.along) d.rows m b at_m
        (and_from (b.edge.0 == e) (not b.along) (eq-eqb b.edge.0 e on_b) (not_from_false b.along other))),
  )
  both_ways e r m a b false is other at_r at_m on_a on_b = (
    subst (λ n. 1 ≤ n) (sym (count_by-total (λ (x : Row). (x.edge.0 == e) && x.along) d.rows))
        (counted (λ (x : Row). (x.edge.0 == e) && x.along) d.rows m b at_m (and_from (b.edge.0 == e) b.along (eq-eqb b.edge.0 e on_b) other)),
    subst (λ n. 1 ≤ n) (sym (count_by-total (λ (x : Row). (x.edge.0 == e) && not x.along) d.rows))
        (counted (λ (x : Row). (x.edge.0 == e) && not x.along) d.rows r a at_r
        (and_from (a.edge.0 == e) (not a.along) (eq-eqb a.edge.0 e on_a) (not_from_false a.along is))),
  )

  partner_of : (r : ℕ) (row : Row) → slice_get d.rows r ≡ Some row → HasTwoRows d row.edge.0 → (m : ℕ) × (other : Row) × (slice_get d.rows m ≡ Some other)
      × (row.edge ≡ other.edge) × (row.along ≡ not other.along)
  partner_of r row at two =
      let m : ℕ = other_in (summary (places_of row.edge.0 0 d.rows)) r in
      let p = partner_made d r row at two m refl in
      (m, p.0, p.1, p.2, differ r m row p.0 (record { row = row; partner = p.0; at_r = at; at_m = p.1; one_edge = p.2; apart = p.3; two = two }) at p.1)

  paired_edge : (e : ℕ) → HasTwoRows d e → IsPaired d e
  paired_edge e two =
      let many = count_by-total (λ (r : Row). r.edge.0 == e) d.rows in
      let found = found_row (λ (r : Row). r.edge.0 == e) d.rows (omega (arith, many, two)) in
      let same : found.1.edge.0 ≡ e = eqb-true found.1.edge.0 e found.3 in
      let p = partner_of found.0 found.1 found.2 (subst (HasTwoRows d) (sym same) two) in
      let other : p.1.along ≡ not found.1.along = other_way found.1.along p.1.along p.4 in
      let each = both_ways e found.0 p.0 found.1 p.1 found.1.along refl other found.2 p.2 same (sym (ap (λ (i : EdgeId). i.0) p.3) ∙ same) in
      let sum = counts_of_edge d e in
      (omega (arith, each.0, each.1, sum, many, two), omega (arith, each.0, each.1, sum, many, two))
    where
      other_way : (a b : Bool) → a ≡ not b → b ≡ not a
      other_way true true e = e
      other_way true false e = refl
      other_way false true e = refl
      other_way false false e = e

-- Faces are reached by mates, which partners are.
module _ (c d : ShellRows) (alike : AllZip Alike c.rows d.rows) (differ : PartnersDiffer d) where
  face_alike : (face r : ℕ) → OnFace c face r → OnFace d face r
  face_alike face r (row, at, on) =
      let x = zip_get Alike c.rows d.rows r row alike at in
      (x.0, x.1, sym (ap (λ (i : LoopAt). i.face.0) x.2.at) ∙ on)

  neighbours : (a b : ℕ) → Adjoin c a b → AreNeighbours d a b
  neighbours a b (r, m, partners, on_a, on_b) =
      let p = partners_alike c d r m alike partners in
      let mates : AreMates d r m =
      record {
        row = p.row;
        mate = p.partner;
        at_r = p.at_r;
        at_m = p.at_m;
        one_edge = p.one_edge;
        opposite =
            differ r m p.row p.partner p p.at_r p.at_m;
      } in
      (r, m, mates, face_alike a r on_a, face_alike b m on_b)

  reached_face : (face : ℕ) → IsReached c face → around.IsReached d face
  reached_face face (n, steps) = (n, steps_map (Adjoin c) (AreNeighbours d) neighbours n 0 face steps)

-- A shell with flags under which the two uses of each edge run in opposite directions, in a solid with such flags.
module _ (s : SolidData) (all : List (List Bool)) (k : ℕ) (h : Shell) (flags : List Bool) (at : slice_get s.shells k ≡ Some h)
    (two : AllHaveTwoRows (rows_at s k)) (reached : AllReached (rows_at s k)) (orients : FlagsOrient s k flags) where
  abbrev with_flags : Shell
  with_flags = shell_with flags h

  abbrev old : ShellRows
  old = shell_rows s h

  abbrev new : ShellRows
  new = shell_rows (turned all s) with_flags

  long : length flags ≡ length h.faces
  long = orients.each ∙ ap (λ (o : Option Shell). length (face_flags o)) at ∙ length-map h.faces (λ (f : FaceUse). f.flag)

  rows_alike : AllZip Alike old.rows new.rows
  rows_alike = subst (AllZip Alike old.rows) (sym (rows_in s all with_flags)) (alike_with s h flags long)

  alone_differ : PartnersDiffer (shell_rows s with_flags)
  alone_differ = subst (λ (o : Option Shell). PartnersDiffer (rows_of s (option_map (shell_with flags) o))) at orients.differ

  new_differ : PartnersDiffer new
  new_differ r m a b p at_r at_m =
      let e = rows_in s all with_flags in
      alone_differ r m a b
      (record {
        row = p.row;
        partner = p.partner;
        at_r = subst (λ (rs : List Row). slice_get rs r ≡ Some p.row) e p.at_r;
        at_m = subst (λ (rs : List Row). slice_get rs m ≡ Some p.partner) e p.at_m;
        one_edge = p.one_edge;
        apart = p.apart;
        two = subst (λ (rs : List Row). count_by (λ (x : Row). x.edge.0 == p.row.edge.0) rs ≡ 2) e p.two;
      })
      (subst (λ (rs : List Row). slice_get rs r ≡ Some a) e at_r) (subst (λ (rs : List Row). slice_get rs m ≡ Some b) e at_m)

  old_two : AllHaveTwoRows old
  old_two = subst (λ (o : Option Shell). AllHaveTwoRows (rows_of s o)) at two

  old_reached : AllReached old
  old_reached = subst (λ (o : Option Shell). AllReached (rows_of s o)) at reached

  pub new_paired : AllByRecursion (IsPaired new) new.edges
  new_paired =
      subst (AllByRecursion (IsPaired new)) (sym (edges_in s all with_flags ∙ edges_with s h flags long))
      (AllByRecursion-weaker (HasTwoRows old) (IsPaired new) old.edges (λ e two. paired_edge new new_differ e (two_rows_alike old new e rows_alike two))
      old_two)

  pub new_reached : AllByRecursion (around.IsReached new) (numbers_from 0 (length with_flags.faces))
  new_reached =
      subst (λ n. AllByRecursion (around.IsReached new) (numbers_from 0 n)) (faces_in s h ∙ sym (length-with flags h.faces long))
      (AllByRecursion-weaker (IsReached old) (around.IsReached new) (numbers_from 0 old.face_count)
      (λ face reached. reached_face old new rows_alike new_differ face reached) old_reached)

pub suited_sewn : SuitedIsSewn
suited_sewn s all k h flags at suit =
    let orients = suit_orients s k flags suit in
    (new_paired s all k h flags at suit.counted suit.reached orients, new_reached s all k h flags at suit.counted suit.reached orients)
