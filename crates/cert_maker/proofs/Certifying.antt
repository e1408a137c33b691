-- Parts of closed shells make a certificate, whose text is accepted.
use Rattle.std.specs.Prelude.{◌≡◌, ℕ, ◌<◌, ◌^◌, [], ◌∷◌, map}
use Rattle.std.specs.List.{enumerate_from}
use Rattle.std.proofs.Common.{refl, sym, ◌∙◌, ap, subst, arith, length-append}
use Rattle.cert_lines.proofs.CutLines.{cut_spelled}
use Rattle.iges_base.specs.declared.entry_no.EntryNo.{EntryNo}
use Rattle.iges_params.specs.Contents.{Contents}
use Rattle.brep_walk.specs.Places.{places}
use Rattle.brep_walk.specs.SolidOf.{solid_of}
use Rattle.solid_data.specs.SolidData.{SolidData}
use Rattle.solid_data.specs.Numbering.{IsNumberedSolid}
use Rattle.solid_data.specs.Obligations.{AllHold}
use Rattle.shell_rules.specs.Closed.{IsClosedSolid}
use Rattle.shell_rules.specs.ShellObligations.{solid_obligations}
use Rattle.shell_rules.proofs.ClosedLemmas.{closed_is_all_hold}
use Rattle.edge_uses.proofs.Whole.{vertices_known}
use Rattle.cert_text.specs.Text.{spaced}
use Rattle.cert_lines.specs.Line.{head, solid, spelling}
use Rattle.cert_lines.specs.Written.{certificate_lines, text_of}
use Rattle.cert_lines.specs.declared.parts.Certificate.{Certificate}
use Rattle.cert_lines.specs.declared.version.Version.TheVariants.{Two}
use Rattle.topo_certificate.specs.Legal.{IsLegal}
use Rattle.cert_state.proofs.Short.{length-spaced}
use Rattle.cert_accept.specs.Accepted.{IsAccepted}
use Rattle.cert_maker.specs.Certified.{AreParts}
use Rattle.cert_maker.specs.Certified.{IsCertificate, further_lines}
use Rattle.cert_accept.proofs.Ready.{closed_is_ready, closed_joins, apart_all}
use Rattle.cert_accept.proofs.Complete.{shell_small, head_read}
use Rattle.cert_maker.proofs.PartLines.{parts_legal}
use Rattle.shell_rules.proofs.Few.{few_parts}

-- Parts of the shells of a closed solid make a certificate of it.
pub certificate_made : (s : SolidData) (c : Certificate) → IsNumberedSolid s → c.version ≡ Two → c.solid ≡ s.entity → AllHold (solid_obligations s)
    → AreParts s s.shells c.shells → IsCertificate s c
certificate_made s c numbered is_two names hold parts =
    let closed : IsClosedSolid s = (closed_is_all_hold s).1 hold in
    let lines = parts_legal c.version s c.shells
    (closed_is_ready s (shell_small s s.entity.0 (few_parts s numbered)) (λ h m. vertices_known s h numbered m) closed) parts in
    record {
      version = is_two;
      names = names;
      parts = parts;
      spelled = (tt, (subst (λ (e : EntryNo). e.0 < 10 ^ 9) (sym names) numbered.number, lines.1));
      legal = subst (λ v. IsLegal v s (map spelling (further_lines c))) is_two lines.0;
      joined = closed_joins s closed;
      apart = apart_all s (enumerate_from 0 s.shells) closed;
    }

accepted_of_file : (f : Contents) (n : ℕ) (c : Certificate) → AllHold (places f n) → IsCertificate (solid_of f n) c → c.solid.0 ≡ n
    → IsAccepted f (text_of (certificate_lines c)) Two (n ∷ [])
accepted_of_file f n c placed made names =
    let size = length-append (spaced (n ∷ [])) (10 ∷ []) in
    let number : n < 10 ^ 9 = subst (λ m. m < 10 ^ 9) names made.spelled.1.0 in (
      n,
      refl,
      record {
        rest = map spelling (further_lines c);
        opens = record {
          first = spelling (head Two);
          second = spelling (solid n);
          cut = cut_spelled (certificate_lines c) made.spelled
              ∙ (ap (λ v. spelling (head v) ∷ spelling (solid c.solid.0) ∷ map spelling (further_lines c)) made.version
              ∙ ap (λ m. spelling (head Two) ∷ spelling (solid m) ∷ map spelling (further_lines c)) names);
          is_head = head_read Two;
          names = (omega (arith, size, length-spaced (n ∷ []) (number, tt)), (number, refl));
        };
        certified = record { placed = placed; joined = made.joined; apart = made.apart; legal = made.legal };
      },
    )

-- The text of a certificate is accepted for each file whose solid it is of.
pub certificate_accepted : (s : SolidData) (c : Certificate) → IsCertificate s c → (f : Contents) (n : ℕ) → AllHold (places f n) → s ≡ solid_of f n
    → IsAccepted f (text_of (certificate_lines c)) Two (n ∷ [])
unfolding solid_of
certificate_accepted s c made f n placed same =
    accepted_of_file f n c placed (subst (λ t. IsCertificate t c) same made) (ap (λ (e : EntryNo). e.0) made.names ∙ ap (λ (t : SolidData). t.entity.0) same)
