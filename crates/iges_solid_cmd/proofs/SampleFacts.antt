-- What holds of each sample.
use Rattle.std.proofs.Common.{◌≡◌, ◌<◌, ◌*◌, ◌+◌, ◌^◌, ℕ, List, [], ◌∷◌, length, drop, sym, ap, subst, ◌∙◌, Some, slice_get, arith, length-append}
use Rattle.solid_data.specs.Numbering.{IsNumberedSolid}
use Rattle.solid_data.specs.declared.solid.Shell.{Shell}
use Rattle.solid_data.specs.Obligations.{FirstFalse}
use Rattle.solid_data.specs.SolidData.{SolidData}
use Rattle.solid_data.specs.declared.verdict.Failing.{Failing}
use Rattle.solid_data.proofs.Members.{split_at}
use Rattle.solid_data.proofs.ObligationLemmas.{FirstFalse-not_all}
use Rattle.shell_rules.specs.ShellObligations.{solid_obligations}
use Rattle.shell_rules.proofs.ClosedLemmas.{closed_is_all_hold}
use Rattle.brep_walk.specs.Places.{places}
use Rattle.brep_walk.specs.SolidOf.{solid_of}
use Rattle.iges_params.specs.Contents.{Contents}
use Rattle.cert_lines.specs.Opening.{Opens, IsBadOpening}
use Rattle.cert_text.specs.declared.fault.Illegal.{Illegal}
use Rattle.cert_lines.proofs.Openings.{one_opening, opens_or_bad}
use Rattle.topo_certificate.specs.Legal.{IsFirstBad}
use Rattle.topo_certificate.proofs.LegalLemmas.{legal_has_no_bad_lem}
use Rattle.cert_lines.specs.declared.version.Version.{Version}
use Rattle.cert_lines.specs.declared.version.Version.TheVariants.{Two}
use Rattle.cert_accept.specs.Accepted.{IsAccepted}
use Rattle.cert_maker.specs.Certified.{IsCertificateText}
use Rattle.cert_maker.proofs.OneText.{text_accepted}
use Rattle.iges_write.specs.Text.{IsText}
use Rattle.sample_solids.specs.Laws.{IsClosedMesh, faces_in}
use Rattle.sample_solids.specs.Sample.{sample}
use Rattle.sample_solids.proofs.Closed.{closed}
use Rattle.command_replies.specs.declared.answer.Answer.{Answer}
use Rattle.command_replies.specs.declared.answer.Answer.TheVariants.{Done}
use Rattle.iges_solid_cmd.specs.Forms.{IsSize}
use Rattle.iges_solid_cmd.specs.Texts.{sample_line}
use Rattle.command_replies.proofs.Owing.{owed_so}
use Rattle.iges_solid_cmd.specs.Due.{OfSample, sampled}

module _ (n : ℕ) (size : IsSize n) where
  mesh : IsClosedMesh (sample n) n
  mesh = closed n size.0 size.1

  -- no place is false
  pub no_place_fails : (f : Contents) (x : Failing) → f ≡ sample n → FirstFalse (places f 1) x → ⊥
  no_place_fails f x is first = FirstFalse-not_all (places (sample n) 1) x (subst (λ (g : Contents). FirstFalse (places g 1) x) is first) mesh.closed.placed

  -- no rule on the shells fails
  pub no_rule_fails : (s : SolidData) (x : Failing) → s ≡ solid_of (sample n) 1 → FirstFalse (solid_obligations s) x → ⊥
  no_rule_fails s x is first =
      let d = solid_of (sample n) 1 in
      FirstFalse-not_all (solid_obligations d) x (subst (λ (e : SolidData). FirstFalse (solid_obligations e) x) is first)
      ((closed_is_all_hold d).0 mesh.closed.closed)

  -- the text that was made is that of its certificate
  pub made_text : (s : SolidData) (text made : List ℕ) → s ≡ solid_of (sample n) 1 → text ≡ made
      → ((f : Contents) (k : ℕ) → s ≡ solid_of f k → IsCertificateText f k made) → IsCertificateText (sample n) 1 text
  made_text s text made is same of_file = subst (IsCertificateText (sample n) 1) (sym same) (of_file (sample n) 1 is)

  -- and is accepted
  pub made_accepted : (text : List ℕ) → IsCertificateText (sample n) 1 text → IsAccepted (sample n) text Two (1 ∷ [])
  made_accepted text made = text_accepted (sample n) 1 text mesh.closed.placed made

  -- the line tells the counts of n times n squares
  pub sample_told : (s : SolidData) (text certificate t : List ℕ) (a : Answer) → s ≡ solid_of (sample n) 1 → IsText (sample n) text
      → IsCertificateText (sample n) 1 certificate → a ≡ Done
      → t ≡ sample_line n (length (faces_in s.shells)) (length s.edges) (length s.vertices) (length text) (length certificate) → OfSample n a t
  sample_told s text certificate t a is canonical made done told =
      let counts : sample_line n (length (faces_in s.shells)) (length s.edges) (length s.vertices) (length text) (length certificate)
      ≡ sample_line n (n * n) (2 * n * n) (n * n) (length text) (length certificate) =
      ap (λ (d : SolidData). sample_line n (length (faces_in d.shells)) (length d.edges) (length d.vertices) (length text) (length certificate)) is
      ∙ ap (λ k. sample_line n k (length (solid_of (sample n) 1).edges) (length (solid_of (sample n) 1).vertices) (length text) (length certificate)) mesh.faces
      ∙ ap (λ k. sample_line n (n * n) k (length (solid_of (sample n) 1).vertices) (length text) (length certificate)) mesh.edges
      ∙ ap (λ k. sample_line n (n * n) (2 * n * n) k (length text) (length certificate)) mesh.vertices in
      owed_so (OfSample n) _ _ _ _ (sampled text certificate canonical made) done (told ∙ counts)

-- an accepted certificate opens
pub opens_well : (f : Contents) (k : ℕ) (certificate : List ℕ) (bad : Illegal) → IsAccepted f certificate Two (k ∷ []) → IsBadOpening certificate bad → ⊥
opens_well f k certificate bad (n, is, accepted) wrong = opens_or_bad certificate Two n accepted.rest bad accepted.opens wrong

-- and its further lines are legal
pub no_bad_line : (f : Contents) (k m : ℕ) (v : Version) (s : SolidData) (certificate : List ℕ) (lines : List (List ℕ)) (bad : Illegal)
    → IsAccepted f certificate Two (k ∷ []) → s ≡ solid_of f k → Opens certificate v m lines → IsFirstBad v s 3 lines bad → ⊥
no_bad_line f k m v s certificate lines bad (n, named, accepted) is opens first =
    let one = one_opening certificate v Two m n lines accepted.rest opens accepted.opens in
    let k_is : k ≡ n = cc in
    legal_has_no_bad_lem Two (solid_of f n) 3 accepted.rest bad accepted.certified.legal
    (subst (λ (u : Version). IsFirstBad u (solid_of f n) 3 accepted.rest bad) one.0
    (subst (λ (e : SolidData). IsFirstBad v e 3 accepted.rest bad) (is ∙ ap (solid_of f) k_is)
    (subst (λ (ls : List (List ℕ)). IsFirstBad v s 3 ls bad) one.2 first)))

-- the faces of a shell, and those of the shells behind it
pub faces_next : (shells : List Shell) (k : ℕ) (h : Shell) → slice_get shells k ≡ Some h → length h.faces + length (faces_in (drop (k + 1) shells))
    ≡ length (faces_in (drop k shells))
faces_next shells k h there =
    sym (ap (λ hs. length (faces_in hs)) (split_at shells k h there) ∙ length-append h.faces (faces_in (drop (k + 1) shells)))

-- a solid has few faces
pub few_left : (s : SolidData) (count k : ℕ) → IsNumberedSolid s → count + length (faces_in (drop k s.shells)) ≡ length (faces_in s.shells)
    → count + length (faces_in (drop k s.shells)) < 2 ^ 29
few_left s count k numbered all = omega (arith, numbered.few_faces, all)
