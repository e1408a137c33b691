-- Faces are connected exactly where chains of the pairs join them.
use Rattle.std.specs.Prelude.{◌≡◌, ◌<◌, ◌≤◌, ◌==◌, ◌&&◌, ℕ, zero, suc, Bool, true, false, not, List, Some, slice_get, if◌then◌else◌}
use Rattle.std.proofs.Common.{refl, sym, ◌∙◌, ap, subst, arith, inl, inr, ⊎_elim, get_or}
use Rattle.std.proofs.lemmas.Bool.{eq-eqb, and_from}
use Rattle.std.proofs.lemmas.Bool.Decides.{eqb_tells}
use Rattle.std.proofs.lemmas.Option.{slice_get_within, get_or_from_slice_get}
use Rattle.solid_data.specs.Chain.{Steps}
use Rattle.solid_data.proofs.Members.{Has, All-at, All-from, has_get, has_map, map_has, count_by-total, Has-from_Contains}
use Rattle.solid_data.proofs.Trail.{leads_here, leads_one, leads_trans}
use Rattle.solid_data.specs.declared.spanning.Span.{Span}
use Rattle.solid_data.specs.Ranges.{IsWithin, IsSpanOf}
use Rattle.edge_uses.specs.declared.row.Row.{Row}
use Rattle.edge_uses.specs.declared.tally.Seen.{Seen}
use Rattle.edge_uses.specs.RowRelations.{row_count}
use Rattle.edge_uses.specs.Mates.{RunsOn}
use Rattle.edge_uses.specs.ShellRows.{ShellRows}
use Rattle.edge_uses.specs.Tally.{IsSeen, seen_of}
use Rattle.edge_uses.proofs.Counting.{counted}
use Rattle.edge_uses.proofs.Turn.{edge_id}
use Rattle.shell_components.specs.Components.{Linked, AreJoined, AreInside, AreComponents}
use Rattle.solid_faults.specs.PartPairs.{chosen_row, face_in, chosen_face, part_pair, part_pairs}
use Rattle.solid_faults.specs.Tallied.{AreTallied}
use Rattle.solid_faults.specs.Parts.{ShareEdge, AreConnected, AreParts}
use Rattle.shell_components.proofs.Joined.{has_place, least_of_joined}
use Rattle.solid_faults.proofs.Reached.{share_back}

-- a row that has the edge
abbrev pub OnEdge : ShellRows → ℕ → ℕ → Type 0
OnEdge d e q = (other : Row) × (slice_get d.rows q ≡ Some other) × (other.edge.0 ≡ e)

runs_on_edge : (d : ShellRows) (e q : ℕ) (way : Bool) → RunsOn d e way q → OnEdge d e q
runs_on_edge d e q way h = (h.row, h.at, h.edge)

count_of_row : (d : ShellRows) (r : ℕ) (row : Row) (way : Bool) → slice_get d.rows r ≡ Some row → row.along ≡ way → 1 ≤ row_count d row.edge.0 way
count_of_row d r row true at is =
    let p : Row → Bool = λ x. (x.edge.0 == row.edge.0) && x.along in
    omega (arith, count_by-total p d.rows, counted p d.rows r row at (and_from (row.edge.0 == row.edge.0) row.along (eq-eqb row.edge.0 row.edge.0 refl) is))
count_of_row d r row false at is =
    let p : Row → Bool = λ x. (x.edge.0 == row.edge.0) && not x.along in
    omega (
      arith,
      count_by-total p d.rows,
      counted p d.rows r row at
          (and_from (row.edge.0 == row.edge.0) (not row.along) (eq-eqb row.edge.0 row.edge.0 refl) (ap not is)),
    )

-- the chosen row of a row's edge has the edge
chosen_on_edge : (d : ShellRows) (r : ℕ) (row : Row) (seen : Seen) → slice_get d.rows r ≡ Some row → IsSeen d row.edge.0 seen
    → OnEdge d row.edge.0 (chosen_row seen)
chosen_on_edge d r row seen at h =
    ⊎_elim
    (λ none. subst (λ b. OnEdge d row.edge.0 (if b then seen.against_row else seen.along_row)) (sym none.0) (by_way row.along refl none.1))
    (λ some. subst (λ b. OnEdge d row.edge.0 (if b then seen.against_row else seen.along_row)) (sym some.0)
    (let pos : 0 < seen.along = omega (arith, some.1) in runs_on_edge d row.edge.0 seen.along_row true (h.along_row pos)))
    (eqb_tells seen.along 0)
  where
    by_way : (way : Bool) → row.along ≡ way → seen.along ≡ 0 → OnEdge d row.edge.0 seen.against_row
    by_way true is none = absurd (let k = count_of_row d r row true at is in omega (arith, k, h.along, none))
    by_way false is none = let k = count_of_row d r row false at is in runs_on_edge d row.edge.0 seen.against_row false
        (h.against_row (omega (arith, k, h.against)))

edge_within : (d : ShellRows) (span : Span) (e : ℕ) → IsSpanOf span d.edges → Has d.edges e → IsWithin span e
edge_within d span e h has =
    let k = has_place d.edges e has in
    subst (IsWithin span) (get_or_from_slice_get d.edges k.0 e e k.1) (h.holds k.0 e (slice_get_within d.edges k.0 e k.1))

chosen : (d : ShellRows) (span : Span) (seen : List Seen) (r : ℕ) (row : Row) → AreTallied d span seen → slice_get d.rows r ≡ Some row
    → OnEdge d row.edge.0 (chosen_row (seen_of span seen row.edge.0))
chosen d span seen r row t at =
    let known : Has d.edges row.edge.0 = Has-from_Contains d.edges row.edge.0 (All-at (λ (x : Row). _) d.rows t.rows.edges_hold row (has_get d.rows r row at))
    in
    chosen_on_edge d r row (seen_of span seen row.edge.0) at (t.tally row.edge.0 (edge_within d span row.edge.0 t.span known))

-- a pair shares an edge
pair_shares : (d : ShellRows) (span : Span) (seen : List Seen) (a b : ℕ) → AreTallied d span seen → Has (part_pairs d span seen) (a, b) → ShareEdge d a b
pair_shares d span seen a b t has =
    let k = has_map (part_pair d span seen) d.rows (a, b) has in
    let row : Row = k.0 in
    let p = has_place d.rows row k.1 in
    let o = chosen d span seen p.0 row t p.1 in
    record {
      r = p.0;
      q = chosen_row (seen_of span seen row.edge.0);
      row = row;
      other = o.0;
      at_r = p.1;
      at_q = o.1;
      one_edge = edge_id row.edge o.0.edge (sym o.2);
      on_a = ap (λ (x : ℕ × ℕ). x.0) k.2;
      on_b = ap face_in (sym o.1) ∙ ap (λ (x : ℕ × ℕ). x.1) k.2;
    }

linked_shares : (d : ShellRows) (span : Span) (seen : List Seen) (a b : ℕ) → AreTallied d span seen → Linked (part_pairs d span seen) a b → ShareEdge d a b
linked_shares d span seen a b t link = ⊎_elim (λ h. pair_shares d span seen a b t h) (λ h. share_back d b a (pair_shares d span seen b a t h)) link

joined_connected : (d : ShellRows) (span : Span) (seen : List Seen) (n a b : ℕ) → AreTallied d span seen → Steps (Linked (part_pairs d span seen)) n a b
    → AreConnected d a b
joined_connected d span seen zero a b t e = subst (λ x. AreConnected d a x) e (leads_here (ShareEdge d) a)
joined_connected d span seen (suc n) a b t (c, link, rest) = leads_one (ShareEdge d) a c b (linked_shares d span seen a c t link)
    (joined_connected d span seen n c b t rest)

row_pair : (d : ShellRows) (span : Span) (seen : List Seen) (r : ℕ) (row : Row) (a : ℕ) → slice_get d.rows r ≡ Some row → row.at.face.0 ≡ a
    → Has (part_pairs d span seen) (a, chosen_face d span seen row.edge.0)
row_pair d span seen r row a at on = subst (λ x. Has (part_pairs d span seen) (x, chosen_face d span seen row.edge.0)) on
    (map_has (part_pair d span seen) d.rows row (has_get d.rows r row at))

-- faces that share an edge are joined by two pairs
share_joined : (d : ShellRows) (span : Span) (seen : List Seen) (a b : ℕ) → ShareEdge d a b → AreJoined (part_pairs d span seen) a b
share_joined d span seen a b h =
    let c : ℕ = chosen_face d span seen h.row.edge.0 in
    let here : Has (part_pairs d span seen) (a, c) = row_pair d span seen h.r h.row a h.at_r h.on_a in
    let there : Has (part_pairs d span seen) (b, c) = subst (λ (e : _). Has (part_pairs d span seen) (b, chosen_face d span seen e))
    (ap (λ (e : _). e.0) (sym h.one_edge)) (row_pair d span seen h.q h.other b h.at_q h.on_b) in
    leads_one (Linked (part_pairs d span seen)) a c b (inl here)
    (leads_one (Linked (part_pairs d span seen)) c b b (inr there) (leads_here (Linked (part_pairs d span seen)) b))

connected_joined : (d : ShellRows) (span : Span) (seen : List Seen) (n a b : ℕ) → Steps (ShareEdge d) n a b → AreJoined (part_pairs d span seen) a b
connected_joined d span seen zero a b e = subst (λ x. AreJoined (part_pairs d span seen) a x) e (leads_here (Linked (part_pairs d span seen)) a)
connected_joined d span seen (suc n) a b (c, h, rest) = on (share_joined d span seen a c h) (connected_joined d span seen n c b rest)
  where
    on : AreJoined (part_pairs d span seen) a c → AreJoined (part_pairs d span seen) c b → AreJoined (part_pairs d span seen) a b
    on x y = leads_trans (Linked (part_pairs d span seen)) a c b x.0 x.1 y

face_inside : (d : ShellRows) (span : Span) (seen : List Seen) (row : Row) → AreTallied d span seen → Has d.rows row → row.at.face.0 < d.face_count
face_inside d span seen row t has = All-at (λ (x : Row). x.at.face.0 < d.face_count) d.rows t.rows.on_faces row has

pub pairs_inside : (d : ShellRows) (span : Span) (seen : List Seen) → AreTallied d span seen → AreInside (part_pairs d span seen) d.face_count
pairs_inside d span seen t = All-from (λ (p : ℕ × ℕ). (p.0 < d.face_count) × (p.1 < d.face_count)) (part_pairs d span seen) (λ p has.
    let h = pair_shares d span seen p.0 p.1 t has in (
      subst (λ n. n < d.face_count) h.on_a (face_inside d span seen h.row t (has_get d.rows h.r h.row h.at_r)),
      subst (λ n. n < d.face_count) h.on_b (face_inside d span seen h.other t (has_get d.rows h.q h.other h.at_q)),
    ))

pub parts_of_labels : (d : ShellRows) (span : Span) (seen : List Seen) (labels : List ℕ) → AreTallied d span seen
    → AreComponents (part_pairs d span seen) d.face_count labels → AreParts d labels
parts_of_labels d span seen labels t h = record {
  each = h.marks.each;
  connected = λ f p at.
      let lt : f < d.face_count = omega (arith, slice_get_within labels f p at, h.marks.each) in
      let j = h.marks.joined f lt in
      subst (λ n. AreConnected d f n) (get_or_from_slice_get labels f p 0 at) (joined_connected d span seen j.0 f (get_or labels f 0) t j.1);
  least = λ f p g at chain.
      let lt : f < d.face_count = omega (arith, slice_get_within labels f p at, h.marks.each) in
      let low = least_of_joined (part_pairs d span seen) d.face_count labels f g (pairs_inside d span seen t) h lt
      (connected_joined d span seen chain.0 f g chain.1) in
      omega (arith, low, get_or_from_slice_get labels f p 0 at);
}
