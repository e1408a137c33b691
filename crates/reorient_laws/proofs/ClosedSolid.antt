-- When a reoriented solid is closed.
use Rattle.std.specs.Prelude.{◌≡◌, ◌↔◌, ℕ, zero, suc, ◌+◌, Bool, List, [], ◌∷◌, length, Some, slice_get}
use Rattle.std.specs.List.{AllByRecursion, AllZip, enumerate_from}
use Rattle.std.proofs.Common.{refl, subst, arith}
use Rattle.std.proofs.lemmas.Option.{none-some, same_Some}
use Rattle.iges_params.specs.Contents.{Contents}
use Rattle.solid_data.specs.Ring.{numbers_from}
use Rattle.solid_data.specs.SolidData.{SolidData}
use Rattle.solid_data.specs.declared.solid.Shell.{Shell}
use Rattle.edge_uses.specs.RowRelations.{IsPaired}
use Rattle.edge_uses.specs.Around.{IsReached}
use Rattle.shell_rules.specs.Closed.{IsClosedShell, IsClosedSolid}
use Rattle.shell_rules.specs.ShellObligations.{solid_obligations}
use Rattle.edge_uses.specs.ShellRows.{ShellRows, shell_rows}
use Rattle.shell_rules.proofs.ClosedLemmas.{closed_is_all_hold}
use Rattle.brep_walk.specs.SolidOf.{solid_of}
use Rattle.solid_verdict.specs.Closed.{IsClosed}
use Rattle.orient_certificate.specs.Flags.{shell_with}
use Rattle.orient_commands.specs.Turned.{JoinsAndLinks}
use Rattle.extraction_laws.specs.Kept.{kept_names}
use Rattle.extraction_laws.specs.Relabelled.{IsRelabelled, IsRelabelledFace, IsRelabelledShell}
use Rattle.solid_extract.proofs.Copies.{zip_length}
use Rattle.extraction_laws.proofs.KeptVerdicts.{keeps_verdict}
use Rattle.extraction_laws.proofs.RelabelledSolids.{solids_alike, shell_rows_same}
use Rattle.flag_choice.specs.Suiting.{FlagsSuit, AllSuit}
use Rattle.flag_choice.specs.Turned.{turned_shells, turned}
use Rattle.flag_choice.proofs.OtherFlags.{suited_sewn}
use Rattle.solid_reorient.specs.Reoriented.{IsReoriented}
use Rattle.reorient_laws.specs.Closed.{number_in, ReorientedIsPaired, ClosedWithFlags, ReorientedIsClosed}
use Rattle.reorient_laws.proofs.TurnedSolid.{places_new, relabelled}

-- ---- flags that suit

-- with such flags a shell keeps PAIR and REACH
shells_closed : (s : SolidData) (all : List (List Bool)) (n : ℕ) (flags : List (List Bool)) (shells : List Shell)
    → ((j : ℕ) (x : List Bool) → slice_get flags j ≡ Some x → FlagsSuit s (n + j) x)
    → ((j : ℕ) (h : Shell) → slice_get shells j ≡ Some h → slice_get s.shells (n + j) ≡ Some h)
    → AllByRecursion (λ (h : ℕ × Shell). JoinsAndLinks (turned all s) h.0 h.1) (enumerate_from n (turned_shells flags shells))
    → AllByRecursion (λ (h : ℕ × Shell). IsClosedShell (turned all s) h.0 h.1) (enumerate_from n (turned_shells flags shells))
shells_closed s all n [] shells suit at j = tt
shells_closed s all n (x ∷ flags) [] suit at j = tt
shells_closed s all n (x ∷ flags) (h ∷ shells) suit at (here, j) =
    let first : n + 0 ≡ n = omega arith in
    let there : slice_get s.shells n ≡ Some h = subst (λ i. slice_get s.shells i ≡ Some h) first (at 0 h refl) in
    let suits : FlagsSuit s n x = subst (λ i. FlagsSuit s i x) first (suit 0 x refl) in (
      record {
        joined = here.joined;
        paired = (suited_sewn s all n h x there suits).0;
        reached = (suited_sewn s all n h x there suits).1;
        linked = here.linked;
        apart = here.apart;
      },
      shells_closed s all (n + 1) flags shells
          (λ i y is. subst (λ i. FlagsSuit s i y) (let next : n + suc i ≡ (n + 1) + i = omega arith in next) (suit (suc i) y is))
          (λ i g is. subst (λ i. slice_get s.shells i ≡ Some g) (let next : n + suc i ≡ (n + 1) + i = omega arith in next) (at (suc i) g is)) j,
    )

suited_closed : (s : SolidData) (flags : List (List Bool)) → AllSuit s flags
    → AllByRecursion (λ (h : ℕ × Shell). JoinsAndLinks (turned flags s) h.0 h.1) (enumerate_from 0 (turned_shells flags s.shells))
    → IsClosedSolid (turned flags s)
suited_closed s flags suits parts =
    shells_closed s flags 0 flags s.shells
    (λ j x is. subst (λ i. FlagsSuit s i x) (let same : j ≡ 0 + j = omega arith in same) (suits.suit j x is))
    (λ j h is. subst (λ i. slice_get s.shells i ≡ Some h) (let same : j ≡ 0 + j = omega arith in same) is) parts

-- ---- shells by their places

-- a shell with flags is that of a list and a shell
shell_at : (flags : List (List Bool)) (hs : List Shell) (k : ℕ) (t : Shell) → slice_get (turned_shells flags hs) k ≡ Some t
    → (x : List Bool) × (h : Shell) × (slice_get flags k ≡ Some x) × (slice_get hs k ≡ Some h) × (shell_with x h ≡ t)
shell_at [] hs k t at = absurd (none-some t at)
shell_at (x ∷ flags) [] k t at = absurd (none-some t at)
shell_at (x ∷ flags) (h ∷ hs) zero t at = (x, h, refl, refl, same_Some (shell_with x h) t at)
shell_at (x ∷ flags) (h ∷ hs) (suc k) t at = shell_at flags hs k t at

-- what is related to the item at a place
zip_back : {A B : Type 0} (Q : A → B → Type 0) (xs : List A) (ys : List B) (k : ℕ) (y : B) → AllZip Q xs ys → slice_get ys k ≡ Some y
    → (x : A) × (slice_get xs k ≡ Some x) × Q x y
zip_back Q xs [] k y z at = absurd (none-some y at)
zip_back Q [] (b ∷ ys) k y z at = absurd z
zip_back {A = A} Q (a ∷ xs) (b ∷ ys) zero y z at = (a, refl, subst (Q a) (same_Some b y at) z.0)
zip_back Q (a ∷ xs) (b ∷ ys) (suc k) y z at = zip_back Q xs ys k y z.1 at

module _ (f : Contents) (n : ℕ) (new : Contents) (r : IsReoriented f n new) where
  abbrev s : SolidData
  s = solid_of f n

  abbrev t : SolidData
  t = turned r.flags (solid_of f n)

  abbrev u : SolidData
  u = solid_of new (number_in f n new r n)

  pub paired : (k : ℕ) (h : Shell) → slice_get u.shells k ≡ Some h → AllByRecursion (IsPaired (shell_rows u h)) (let d = shell_rows u h in d.edges)
  paired k h at =
      let rel : IsRelabelled (kept_names r.extracted.kept) t u = relabelled f n new r in
      let b = zip_back (IsRelabelledShell (kept_names r.extracted.kept)) t.shells u.shells k h rel.shells at in
      let p = shell_at r.flags s.shells k b.0 b.1 in
      let suit : FlagsSuit s k p.0 = r.fit.suit.suit k p.0 p.2 in
      let here : AllByRecursion (IsPaired (shell_rows t (shell_with p.0 p.1))) (let d = shell_rows t (shell_with p.0 p.1) in d.edges) =
      (suited_sewn s r.flags k p.1 p.0 p.3 suit).0 in
      let there : AllByRecursion (IsPaired (shell_rows t b.0)) (let d = shell_rows t b.0 in d.edges) = subst
      (λ (x : Shell). AllByRecursion (IsPaired (shell_rows t x)) (let d = shell_rows t x in d.edges)) p.4 here in
      subst (λ (d : ShellRows). AllByRecursion (IsPaired d) d.edges) (shell_rows_same (kept_names r.extracted.kept) t u rel b.0 h b.2) there

  pub reached : (k : ℕ) (h : Shell) → slice_get u.shells k ≡ Some h → AllByRecursion (IsReached (shell_rows u h)) (numbers_from 0 (length h.faces))
  reached k h at =
      let rel : IsRelabelled (kept_names r.extracted.kept) t u = relabelled f n new r in
      let b = zip_back (IsRelabelledShell (kept_names r.extracted.kept)) t.shells u.shells k h rel.shells at in
      let p = shell_at r.flags s.shells k b.0 b.1 in
      let suit : FlagsSuit s k p.0 = r.fit.suit.suit k p.0 p.2 in
      let here : AllByRecursion (IsReached (shell_rows t (shell_with p.0 p.1))) (numbers_from 0 (let x = shell_with p.0 p.1 in length x.faces)) =
      (suited_sewn s r.flags k p.1 p.0 p.3 suit).1 in
      let there : AllByRecursion (IsReached (shell_rows t b.0)) (numbers_from 0 (length b.0.faces)) = subst
      (λ (x : Shell). AllByRecursion (IsReached (shell_rows t x)) (numbers_from 0 (length x.faces))) p.4 here in
      subst (λ (m : ℕ). AllByRecursion (IsReached (shell_rows u h)) (numbers_from 0 m))
      (zip_length (IsRelabelledFace (kept_names r.extracted.kept)) b.0.faces h.faces b.2.faces)
      (subst (λ (d : ShellRows). AllByRecursion (IsReached d) (numbers_from 0 (length b.0.faces)))
      (shell_rows_same (kept_names r.extracted.kept) t u rel b.0 h b.2) there)

  pub exactly : IsClosedSolid t ↔ IsClosed new (number_in f n new r n)
  exactly =
      let rel : IsRelabelled (kept_names r.extracted.kept) t u = relabelled f n new r in
      let k = keeps_verdict r.extracted.kept (solid_obligations t) (solid_obligations u) (solids_alike (kept_names r.extracted.kept) t u rel) in
      let before = closed_is_all_hold t in
      let after = closed_is_all_hold u in
      (λ c. record { placed = places_new f n new r; closed = after.1 (k.all.0 (before.0 c)) }, λ c. before.1 (k.all.1 (after.0 c.closed)))

pub reoriented_paired : ReorientedIsPaired
reoriented_paired f n new r k h at = paired f n new r k h at

pub closed_with_flags : ClosedWithFlags
closed_with_flags f n new r = exactly f n new r

pub reoriented_closed : ReorientedIsClosed
reoriented_closed f n new r parts = (exactly f n new r).0 (suited_closed (solid_of f n) r.flags r.fit.suit parts)
