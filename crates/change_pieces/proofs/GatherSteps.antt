-- Faces that are compared with those of their pieces, one after the other.
use Rattle.std.specs.Prelude.{◌≡◌, ◌<◌, ◌+◌, ◌++◌, ◌==◌, cond, ℕ, suc, Bool, true, false, List, [], ◌∷◌, length, map, filter, take, drop, get_or, slice_set, Some, slice_get}
use Rattle.std.proofs.Common.{refl, sym, ◌∙◌, ap, subst, arith, append_assoc}
use Rattle.std.proofs.lemmas.Bool.{false≢true, eqb-true, eq-eqb}
use Rattle.std.proofs.lemmas.List.{append-nil, length-set, get_or-set_same, get_or-set_other}
use Rattle.std.proofs.lemmas.List.Elements.{filter-append}
use Rattle.std.proofs.lemmas.Option.{slice_get_within, get_or_from_slice_get}
use Rattle.std.proofs.Math.Seq.{take-suc, take-length}
use Rattle.solid_data.specs.declared.solid.FaceUse.{FaceUse}
use Rattle.solid_data.specs.declared.solid.Shell.{Shell}
use Rattle.solid_data.proofs.Members.{split_at}
use Rattle.shell_change.specs.declared.change.Change.{Change}
use Rattle.shell_change.specs.declared.change.EdgeName.{EdgeName}
use Rattle.shell_change.specs.declared.change.FaceNow.{FaceNow}
use Rattle.shell_change.specs.declared.change.Fate.{Fate}
use Rattle.shell_change.specs.declared.change.Rim.{Rim}
use Rattle.shell_change.specs.declared.change.VertexName.{VertexName}
use Rattle.shell_change.specs.Matching.{EachAt, Matched}
use Rattle.change_pieces.specs.Gathered.{AreGathered, HasAll, face_in}
use Rattle.change_pieces.specs.Pieces.{IsFace, IsPiece, face_on, faces_after, faces_of, is_of, kept_face, kept_faces}
use Rattle.change_pieces.proofs.Compared.{matched_none, matched_last}

pub gathered_none : (vs : List VertexName) (es : List EdgeName) (shells : List Shell) (counts : List ℕ) → length counts ≡ length shells
    → ((k : ℕ) → k < length shells → get_or counts k 0 ≡ 0) → AreGathered vs es shells [] counts
gathered_none vs es shells counts long none =
    record {
      long = long;
      each = λ piece h at. subst (λ n. Matched (IsFace vs es) [] (take n h.faces)) (sym (none piece (slice_get_within shells piece h at))) (matched_none (IsFace vs es));
    }

take_more : (xs : List FaceUse) (n : ℕ) (x : FaceUse) → slice_get xs n ≡ Some x → take (n + 1) xs ≡ take n xs ++ x ∷ []
take_more xs n x at =
    let one : n + 1 ≡ suc n = omega arith in
    ap (λ k. take k xs) one ∙ (take-suc xs n x (slice_get_within xs n x at) ∙ ap (λ y. take n xs ++ y ∷ []) (get_or_from_slice_get xs n x x at))

pub gathered_more : (vs : List VertexName) (es : List EdgeName) (shells : List Shell) (seen : List FaceNow) (old new : List ℕ) (now : FaceNow) (face : FaceUse)
    → face_in (slice_get shells now.piece) (get_or old now.piece 0) ≡ Some face → IsFace vs es now face → now.piece < length old
    → new ≡ slice_set old now.piece (get_or old now.piece 0 + 1) → AreGathered vs es shells seen old → AreGathered vs es shells (seen ++ now ∷ []) new
gathered_more vs es shells seen old new now face found holds inside set g =
    record {
      long = ap (λ (ns : List ℕ). length ns) set ∙ (length-set old now.piece (get_or old now.piece 0 + 1) ∙ g.long);
      each = λ piece h at. by_test piece h at (now.piece == piece) refl;
    }
  where
    by_test : (piece : ℕ) (h : Shell) → slice_get shells piece ≡ Some h → (b : Bool) → (now.piece == piece) ≡ b
        → Matched (IsFace vs es) (filter (is_of piece) (seen ++ now ∷ [])) (take (get_or new piece 0) h.faces)
    by_test piece h at true is =
        let same : now.piece ≡ piece = eqb-true now.piece piece is in
        let n : ℕ = get_or old piece 0 in
        let more : get_or new piece 0 ≡ n + 1 =
        ap (λ ns. get_or ns piece 0) set ∙ (ap (λ k. get_or (slice_set old now.piece (get_or old now.piece 0 + 1)) k 0) (sym same)
        ∙ (get_or-set_same old now.piece (get_or old now.piece 0 + 1) 0 inside ∙ ap (λ k. get_or old k 0 + 1) same)) in
        let here : slice_get h.faces n ≡ Some face =
        sym (ap (λ o. face_in o n) at) ∙ (sym (ap (λ k. face_in (slice_get shells k) (get_or old k 0)) same) ∙ found) in
        subst (λ xs. Matched (IsFace vs es) xs (take (get_or new piece 0) h.faces))
        (sym (filter-append (is_of piece) seen (now ∷ []) ∙ ap (λ b. filter (is_of piece) seen ++ cond b (now ∷ []) []) is))
        (subst (λ ys. Matched (IsFace vs es) (filter (is_of piece) seen ++ now ∷ []) ys) (sym (ap (λ k. take k h.faces) more ∙ take_more h.faces n face here))
        (matched_last (IsFace vs es) (filter (is_of piece) seen) (take n h.faces) now face (g.each piece h at) holds))
    by_test piece h at false is =
        let other : piece ≡ now.piece → ⊥ = λ e. false≢true (sym is ∙ eq-eqb now.piece piece (sym e)) in
        let same : get_or new piece 0 ≡ get_or old piece 0 =
        ap (λ ns. get_or ns piece 0) set ∙ get_or-set_other old now.piece piece (get_or old now.piece 0 + 1) 0 other in
        subst (λ xs. Matched (IsFace vs es) xs (take (get_or new piece 0) h.faces))
        (sym (filter-append (is_of piece) seen (now ∷ []) ∙ (ap (λ b. filter (is_of piece) seen ++ cond b (now ∷ []) []) is ∙ append-nil (filter (is_of piece) seen))))
        (subst (λ n. Matched (IsFace vs es) (filter (is_of piece) seen) (take n h.faces)) (sym same) (g.each piece h at))

-- ---- as far as a loop has come

-- what is gathered and what is left make all
pub record IsLeft (vs : List VertexName) (es : List EdgeName) (shells : List Shell) (left all : List FaceNow) (counts : List ℕ) : Type 0 where
  pub done : List FaceNow
  pub rest : done ++ left ≡ all
  pub gathered : AreGathered vs es shells done counts

pub left_next : (vs : List VertexName) (es : List EdgeName) (shells : List Shell) (some left left_old all : List FaceNow) (old new : List ℕ) → left_old ≡ some ++ left
    → ((seen : List FaceNow) → AreGathered vs es shells seen old → AreGathered vs es shells (seen ++ some) new) → IsLeft vs es shells left_old all old
    → IsLeft vs es shells left all new
left_next vs es shells some left left_old all old new split step k =
    record {
      done = k.done ++ some;
      rest = append_assoc k.done some left ∙ (ap (λ xs. k.done ++ xs) (sym split) ∙ k.rest);
      gathered = step k.done k.gathered;
    }

pub left_done : (vs : List VertexName) (es : List EdgeName) (shells : List Shell) (left all : List FaceNow) (counts : List ℕ) → left ≡ []
    → IsLeft vs es shells left all counts → AreGathered vs es shells all counts
left_done vs es shells left all counts none k =
    subst (λ xs. AreGathered vs es shells xs counts) (sym (append-nil k.done) ∙ (ap (λ xs. k.done ++ xs) (sym none) ∙ k.rest)) k.gathered

pub fates_split : (fates : List Fate) (i : ℕ) (x : Fate) → slice_get fates i ≡ Some x → kept_faces (drop i fates) ≡ kept_face x ++ kept_faces (drop (i + 1) fates)
fates_split fates i x at = ap kept_faces (split_at fates i x at)

pub rims_split : (flag : Bool) (rims : List Rim) (i : ℕ) (x : Rim) → slice_get rims i ≡ Some x
    → map (face_on flag) (drop i rims) ≡ (face_on flag x ∷ []) ++ map (face_on flag) (drop (i + 1) rims)
rims_split flag rims i x at = ap (map (face_on flag)) (split_at rims i x at)

-- ---- all of them

pub pieces_have : (vs : List VertexName) (es : List EdgeName) (shells : List Shell) (flag : Bool) (c : Change) (counts : List ℕ)
    → AreGathered vs es shells (faces_after flag c) counts → EachAt (λ piece h. HasAll flag (get_or counts piece 0) h) shells
    → EachAt (λ piece h. IsPiece vs es flag (faces_of flag c piece) h) shells
pieces_have vs es shells flag c counts g all =
    record {
      at = λ piece h at.
          let have = all.at piece h at in
          record {
            flag = have.0;
            faces = subst (λ fs. Matched (IsFace vs es) (faces_of flag c piece) fs) (ap (λ n. take n h.faces) (sym have.1) ∙ take-length h.faces)
                (g.each piece h at);
          };
    }

pub all_gathered : (vs : List VertexName) (es : List EdgeName) (shells : List Shell) (flag : Bool) (c : Change) (fates : List Fate) (rims : List Rim) (counts : List ℕ)
    → fates ≡ c.faces → rims ≡ c.rims → AreGathered vs es shells (kept_faces fates ++ map (face_on flag) rims) counts
    → AreGathered vs es shells (faces_after flag c) counts
all_gathered vs es shells flag c fates rims counts is_faces is_rims g =
    subst (λ fs. AreGathered vs es shells (kept_faces fs ++ map (face_on flag) c.rims) counts) is_faces
    (subst (λ rs. AreGathered vs es shells (kept_faces fates ++ map (face_on flag) rs) counts) is_rims g)
