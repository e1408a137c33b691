-- A solid that is reoriented again.
use Rattle.std.specs.Prelude.{◌≡◌, ℕ, ℤ, pos, List, Bool, length}
use Rattle.std.specs.List.{AllZip}
use Rattle.std.proofs.Common.{sym, ◌∙◌, ap, subst}
use Rattle.std.proofs.lemmas.List.{length-map}
use Rattle.iges_params.specs.Contents.{Contents}
use Rattle.brep_walk.specs.Places.{shells, faces}
use Rattle.brep_walk.specs.SolidOf.{face_by, shell_by, keys_of, solid_of}
use Rattle.brep_walk.proofs.Few.{has_few_parts}
use Rattle.brep_walk.proofs.Found as found
use Rattle.solid_data.specs.Numbering.{IsNumberedSolid}
use Rattle.solid_data.specs.declared.solid.Shell.{Shell}
use Rattle.iges_write.specs.Writable.{IsWritable}
use Rattle.solid_extract.specs.Extracted.{IsExtracted}
use Rattle.solid_extract.proofs.Again.{extracted_again}
use Rattle.solid_extract.proofs.One.{IsExtracted-unique}
use Rattle.flag_choice.specs.Suiting.{AllSuit}
use Rattle.solid_reorient.specs.Fitting.{HasFlags}
use Rattle.solid_reorient.specs.Reflagged.{reflagged}
use Rattle.solid_reorient.specs.Reoriented.{IsReoriented}
use Rattle.flag_choice.specs.Turned.{AreListsFor}
use Rattle.solid_reorient.proofs.FileAgain.{extracted_still, number_still}
use Rattle.solid_reorient.proofs.ReflaggedSolid.{zip_unmapped}
use Rattle.flag_choice.proofs.Two.{one_flags}
use Rattle.reorient_laws.specs.Closed.{number_in}
use Rattle.reorient_laws.specs.Stays.{own_flags, ReorientedAgain}
use Rattle.reorient_laws.proofs.ClosedAlready.{sewn_suits}
use Rattle.reorient_laws.proofs.ClosedSolid.{paired, reached}
use Rattle.reorient_laws.proofs.OwnFlags.{file_stays, own_in, own_flags_stay}
use Rattle.reorient_laws.proofs.TurnedSolid.{lists, places_new}
use Rattle.reorient_laws.proofs.WrittenText.{reoriented_writable}

module _ (f : Contents) (n : ℕ) (new : Contents) (r : IsReoriented f n new) (w : IsWritable f) where
  abbrev m : ℕ
  m = number_in f n new r n

  suits : AllSuit (solid_of new m) (own_flags (solid_of new m))
  suits =
      let writable : IsWritable new = reoriented_writable f new n w r in
      let numbered : IsNumberedSolid (solid_of new m) = found.solid_is_numbered new m (places_new f n new r)
      (has_few_parts new m writable.made.limits (places_new f n new r)) in
      sewn_suits (solid_of new m) numbered (λ k h at. record { paired = paired f n new r k h at; reached = reached f n new r k h at })

  has : HasFlags new m (own_flags (solid_of new m))
  has = record { places = places_new f n new r; suit = suits }

-- one flag for each face of each shell
counted : (g : Contents) (m : ℕ) (flags : List (List Bool)) → AreListsFor flags (let s = solid_of g m in s.shells)
    → AllZip (λ (y : List Bool) (i : ℤ × Bool). length y ≡ length (faces g i.0)) flags (shells g (pos m))
unfolding solid_of
counted g m flags z =
    zip_unmapped (λ (y : List Bool) (h : Shell). length y ≡ length h.faces) (λ (y : List Bool) (i : ℤ × Bool). length y ≡ length (faces g i.0))
    (shell_by g (keys_of g (pos m))) flags (shells g (pos m))
    (λ y i e. e ∙ length-map (faces g i.0) (face_by g (keys_of g (pos m)))) z

-- the new file is what is extracted of it
still_extracted : (f : Contents) (n : ℕ) (new : Contents) (r : IsReoriented f n new) → IsExtracted new (number_in f n new r n) new
still_extracted f n new r =
    let g : Contents = r.«between» in
    subst (λ (c : Contents). IsExtracted c (number_in f n new r n) c) (sym r.is)
    (extracted_still r.«between» (number_in f n new r n) r.flags (extracted_again f r.«between» n r.extracted)
    (counted r.«between» (number_in f n new r n) r.flags (lists f n new r)))

pub reoriented_again : ReorientedAgain
reoriented_again f n new r w =
    let e : IsExtracted new (number_in f n new r n) new = still_extracted f n new r in
    let stays : reflagged new (number_in f n new r n) (own_flags (solid_of new (number_in f n new r n))) ≡ new =
    file_stays new (number_in f n new r n) (own_flags (solid_of new (number_in f n new r n))) (own_in new (number_in f n new r n) (places_new f n new r)) in (
      record {
        flags = own_flags (solid_of new (number_in f n new r n));
        fit = has f n new r w;
        «between» = new;
        extracted = e;
        is = sym stays ∙ ap (λ (k : ℕ). reflagged new k (own_flags (solid_of new (number_in f n new r n)))) (sym (number_still new (number_in f n new r n) e));
      },
      λ again q.
          own_flags_stay new (number_in f n new r n) again q
          (one_flags (solid_of new (number_in f n new r n)) q.flags (own_flags (solid_of new (number_in f n new r n))) q.fit.suit (suits f n new r w))
          ∙ IsExtracted-unique new (number_in f n new r n) q.«between» new q.extracted e,
    )
