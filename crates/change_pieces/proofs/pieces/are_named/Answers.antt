use Rattle.std.specs.Prelude.{◌≡◌, ◌<◌, map, length}
use Rattle.std.proofs.Common.{refl, ◌∙◌, ap, subst, arith}
use Rattle.solid_data.specs.declared.solid.Edge.{Edge}
use Rattle.edge_uses.specs.Before.{above_of}
use Rattle.shell_change.specs.declared.change.EdgeName.{EdgeName}
use Rattle.shell_change.specs.declared.change.Rim.{Rim}
use Rattle.shell_change.specs.Matching.{EachAt, Matched}
use Rattle.change_pieces.specs.Names.{ends_named, HasEnds}
use Rattle.change_pieces.specs.Pieces.{IsPiece, faces_of, kept_faces, piece_of, piece_count}
use Rattle.change_pieces.proofs.pieces.are_named.Goals as goal

pub returns : goal.returns
returns c = λ t.
    let made = c.args.made.now in
    let is_count : c.piece_count-count.result ≡ piece_count c.args.change.now =
    c.piece_count-count.ensures ∙ ap (λ fs. above_of (map piece_of (kept_faces fs))) c.as_slice-fates.ensures in
    let vs : c.as_slice-vertices.result.now ≡ made.vertex_names.names.items = c.as_slice-vertices.ensures.value in
    let es : c.as_slice-names.result.now ≡ made.edge_names.names.items = c.as_slice-names.ensures.value in
    let long : length c.as_slice-shells.result.now ≡ length made.shells = ap (λ hs. length hs) c.as_slice-shells.ensures in
    record {
      vertices_once = c.if-not-vertices_once.ensures refl;
      edges_once = c.if-not-edges_once.ensures refl;
      ends = subst (λ xs. Matched (λ (name : EdgeName) (e : Edge). HasEnds xs (ends_named c.args.solid.now c.args.change.now name) e) made.edge_names.names.items made.edges) vs
          (subst (λ ns. Matched (λ (name : EdgeName) (e : Edge). HasEnds c.as_slice-vertices.result.now (ends_named c.args.solid.now c.args.change.now name) e) ns made.edges) es
          (subst (λ xs. Matched (λ (name : EdgeName) (e : Edge). HasEnds c.as_slice-vertices.result.now (ends_named c.args.solid.now c.args.change.now name) e)
          c.as_slice-names.result.now xs) c.as_slice-edges.ensures (c.if-not-have_ends.ensures refl)));
      count = omega (arith, is_count, long);
      rims = subst (λ rs. EachAt (λ _ (rim : Rim). rim.piece < piece_count c.args.change.now) rs) c.as_slice-rims.ensures
          (subst (λ n. EachAt (λ _ (rim : Rim). rim.piece < n) c.as_slice-rims.result.now) is_count (c.if-not-rims_within.ensures refl));
      each = subst (λ xs. EachAt (λ piece h. IsPiece xs made.edge_names.names.items c.args.flag (faces_of c.args.flag c.args.change.now piece) h) made.shells) vs
          (subst (λ ns. EachAt (λ piece h. IsPiece c.as_slice-vertices.result.now ns c.args.flag (faces_of c.args.flag c.args.change.now piece) h) made.shells) es
          (subst (λ hs. EachAt (λ piece h. IsPiece c.as_slice-vertices.result.now c.as_slice-names.result.now c.args.flag
          (faces_of c.args.flag c.args.change.now piece) h) hs) c.as_slice-shells.ensures (c.in_ok-named.ensures t)));
    }
