-- A solid that is closed has its own flags.
use Rattle.std.specs.Prelude.{◌≡◌, ◌≢◌, ℕ, ◌+◌, ◌==◌, ◌&&◌, Bool, true, false, not, List, [], ◌∷◌, length, map, slice_get, Option, Some, None}
use Rattle.std.specs.Prelude.{option_map, Contains}
use Rattle.std.specs.List.{AllByRecursion, enumerate_from}
use Rattle.std.proofs.Common.{refl, sym, ◌∙◌, ap, subst, arith}
use Rattle.std.proofs.lemmas.Bool.{eq-eqb, and_from, not_from_false}
use Rattle.std.proofs.lemmas.List.{length-map}
use Rattle.std.proofs.lemmas.Option.{none-some, same_Some, slice_get-map}
use Rattle.brep_walk.specs.SolidOf.{solid_of}
use Rattle.brep_walk.proofs.Few.{has_few_parts}
use Rattle.brep_walk.proofs.Found as found
use Rattle.solid_data.specs.Numbering.{IsNumberedSolid}
use Rattle.solid_data.specs.Ring.{numbers_from}
use Rattle.solid_data.specs.SolidData.{SolidData}
use Rattle.solid_data.specs.declared.solid.EdgeId.{EdgeId}
use Rattle.solid_data.specs.declared.solid.FaceUse.{FaceUse}
use Rattle.solid_data.specs.declared.solid.Shell.{Shell}
use Rattle.solid_data.proofs.Members.{All-at, Has-from_Contains, has_get, count_by-total}
use Rattle.solid_data.proofs.ObligationLemmas.{AllByRecursion-weaker}
use Rattle.edge_uses.specs.declared.row.Row.{Row}
use Rattle.edge_uses.specs.RowRelations.{IsPaired}
use Rattle.edge_uses.specs.Around.{AreNeighbours}
use Rattle.shell_rules.specs.Closed.{IsClosedShell, IsClosedSolid}
use Rattle.edge_uses.specs.Around as around
use Rattle.edge_uses.specs.ShellRows.{ShellRows, shell_rows, rows_of, AreRows}
use Rattle.edge_uses.proofs.Counting.{counts_of_edge, one_place}
use Rattle.edge_uses.proofs.Whole.{are_rows}
use Rattle.orient_certificate.specs.Partners.{HasTwoRows, AllHaveTwoRows, Adjoin, IsReached, AllReached}
use Rattle.orient_certificate.specs.Flags.{face_flags, faces_with, shell_with, PartnersDiffer}
use Rattle.orient_certificate.proofs.Crossed.{steps_map}
use Rattle.solid_extract.proofs.Copies.{all_at}
use Rattle.flag_choice.specs.Choice.{chosen}
use Rattle.flag_choice.specs.Suiting.{FlagsSuit, AllSuit}
use Rattle.flag_choice.proofs.ChosenLists.{chosen_own}
use Rattle.solid_reorient.proofs.Entries.{get_enumerated}
use Rattle.flag_choice.proofs.Two.{one_flags}
use Rattle.reorient_laws.specs.Stays.{own_flags, ClosedStays}
use Rattle.reorient_laws.proofs.OwnFlags.{own_flags_stay}

abbrev flags_of : Shell → List Bool
flags_of h = map (λ (f : FaceUse). f.flag) h.faces

-- its own flags change nothing
faces_own : (fs : List FaceUse) → faces_with (map (λ (f : FaceUse). f.flag) fs) fs ≡ fs
faces_own [] = refl
faces_own (f ∷ fs) = ap (λ (gs : List FaceUse). f ∷ gs) (faces_own fs)

shell_own : (h : Shell) → shell_with (flags_of h) h ≡ h
shell_own h = ap (λ (fs : List FaceUse). let s : Shell = record { entity = h.entity; flag = h.flag; faces = fs } in s) (faces_own h.faces)

not_self : (b : Bool) → b ≡ not b → ⊥
not_self true e = cc
not_self false e = cc

face_count_is : (s : SolidData) (h : Shell) → (shell_rows s h).face_count ≡ length h.faces
unfolding shell_rows
face_count_is s h = refl

-- a shell whose edges are paired and whose faces are reached
pub record IsSewn (s : SolidData) (h : Shell) : Type 0 where
  pub paired : AllByRecursion (IsPaired (shell_rows s h)) (let d = shell_rows s h in d.edges)
  pub reached : AllByRecursion (around.IsReached (shell_rows s h)) (numbers_from 0 (length h.faces))

module _ (s : SolidData) (k : ℕ) (h : Shell) (numbered : IsNumberedSolid s) (at : slice_get s.shells k ≡ Some h) (c : IsSewn s h) where
  abbrev d : ShellRows
  d = shell_rows s h

  rows : AreRows d
  rows = are_rows s h numbered (has_get s.shells k h at)

  two_of : (e : ℕ) → IsPaired d e → HasTwoRows d e
  two_of e p = omega (arith, p.0, p.1, counts_of_edge (shell_rows s h) e, count_by-total (λ (r : Row). r.edge.0 == e) (shell_rows s h).rows)

  paired_at : (r : ℕ) (a : Row) → slice_get d.rows r ≡ Some a → IsPaired d a.edge.0
  paired_at r a there = All-at (IsPaired d) d.edges c.paired a.edge.0
      (Has-from_Contains d.edges a.edge.0 (All-at (λ (x : Row). Contains d.edges x.edge.0) d.rows rows.edges_hold a (has_get d.rows r a there)))

  -- two rows of one edge run in different directions
  ways : (r m : ℕ) (a b : Row) → slice_get d.rows r ≡ Some a → slice_get d.rows m ≡ Some b → a.edge ≡ b.edge → r ≢ m → (v w : Bool) → a.along ≡ v → b.along ≡ w
      → v ≡ not w
  ways r m a b ra rb same apart true true va wb =
      absurd (apart (one_place (λ (x : Row). (x.edge.0 == a.edge.0) && x.along) d.rows
      (sym (count_by-total (λ (x : Row). (x.edge.0 == a.edge.0) && x.along) d.rows) ∙ (paired_at r a ra).0) r m a b ra rb
      (and_from (a.edge.0 == a.edge.0) a.along (eq-eqb a.edge.0 a.edge.0 refl) va)
      (and_from (b.edge.0 == a.edge.0) b.along (eq-eqb b.edge.0 a.edge.0 (sym (ap (λ (i : EdgeId). i.0) same))) wb)))
  ways r m a b ra rb same apart true false va wb = refl
  ways r m a b ra rb same apart false true va wb = refl
  ways r m a b ra rb same apart false false va wb =
      absurd (apart (one_place (λ (x : Row). (x.edge.0 == a.edge.0) && not x.along) d.rows
      (sym (count_by-total (λ (x : Row). (x.edge.0 == a.edge.0) && not x.along) d.rows) ∙ (paired_at r a ra).1) r m a b ra rb
      (and_from (a.edge.0 == a.edge.0) (not a.along) (eq-eqb a.edge.0 a.edge.0 refl) (not_from_false a.along va))
      (and_from (b.edge.0 == a.edge.0) (not b.along) (eq-eqb b.edge.0 a.edge.0 (sym (ap (λ (i : EdgeId). i.0) same))) (not_from_false b.along wb))))

  differ : PartnersDiffer d
  differ r m a b p ra rb =
      let one : p.row ≡ a = same_Some p.row a (sym p.at_r ∙ ra) in
      let other : p.partner ≡ b = same_Some p.partner b (sym p.at_m ∙ rb) in
      ways r m a b ra rb (sym (ap (λ (x : Row). x.edge) one) ∙ (p.one_edge ∙ ap (λ (x : Row). x.edge) other)) p.apart a.along b.along refl refl

  adjoin : (a b : ℕ) → AreNeighbours d a b → Adjoin d a b
  adjoin a b (r, m, mates, on_a, on_b) = (
    r,
    m,
    record {
      row = mates.row;
      partner = mates.mate;
      at_r = mates.at_r;
      at_m = mates.at_m;
      one_edge = mates.one_edge;
      apart = λ e. not_self mates.row.along (mates.opposite
          ∙ ap (λ (x : Row). not x.along) (same_Some mates.mate mates.row (sym mates.at_m ∙ (ap (slice_get d.rows) (sym e) ∙ mates.at_r))));
      two = two_of mates.row.edge.0 (paired_at r mates.row mates.at_r);
    },
    on_a,
    on_b,
  )

  reached_by : (face : ℕ) → around.IsReached d face → IsReached d face
  reached_by face (n, steps) = (n, steps_map (AreNeighbours d) (Adjoin d) adjoin n 0 face steps)

  counted : AllHaveTwoRows d
  counted = AllByRecursion-weaker (IsPaired d) (HasTwoRows d) d.edges two_of c.paired

  all_reached : AllReached d
  all_reached = subst (λ n. AllByRecursion (IsReached d) (numbers_from 0 n)) (sym (face_count_is s h))
      (AllByRecursion-weaker (around.IsReached d) (IsReached d) (numbers_from 0 (length h.faces)) reached_by c.reached)

  own_suits : FlagsSuit s k (flags_of h)
  own_suits = record {
    counted = subst (λ (o : Option Shell). AllHaveTwoRows (rows_of s o)) (sym at) counted;
    reached = subst (λ (o : Option Shell). AllReached (rows_of s o)) (sym at) all_reached;
    kept = flags_of h;
    fit = record {
      each = ap (λ (o : Option Shell). length (face_flags o)) (sym at);
      first = ap (λ (o : Option Shell). slice_get (face_flags o) 0) (sym at);
      differ = subst (λ (o : Option Shell). PartnersDiffer (rows_of s (option_map (shell_with (flags_of h)) o))) (sym at)
          (subst (λ (x : Shell). PartnersDiffer (shell_rows s x)) (sym (shell_own h)) differ);
    };
    choice = sym (ap (λ (o : Option Shell). chosen (face_flags o) (flags_of h)) at ∙ chosen_own (flags_of h));
  }

-- ---- the solid

closed_at : (s : SolidData) (k : ℕ) (h : Shell) → IsClosedSolid s → slice_get s.shells k ≡ Some h → IsClosedShell s k h
closed_at s k h c at =
    let none : 0 + k ≡ k = omega arith in
    all_at (λ (x : ℕ × Shell). IsClosedShell s x.0 x.1) (enumerate_from 0 s.shells) k (k, h) c (get_enumerated 0 s.shells k
    ∙ (ap (option_map (λ (x : Shell). (0 + k, x))) at ∙ ap (λ j. Some (j, h)) none))

-- its own flags suit a solid whose shells are sewn
pub sewn_suits : (s : SolidData) → IsNumberedSolid s → ((k : ℕ) (h : Shell) → slice_get s.shells k ≡ Some h → IsSewn s h) → AllSuit s (own_flags s)
sewn_suits s numbered c = record {
  each = length-map s.shells flags_of;
  suit = λ k x at. by_shell k x (slice_get s.shells k) refl
      (sym (slice_get-map flags_of s.shells k) ∙ at);
}
  where
    by_shell : (k : ℕ) (x : List Bool) (o : Option Shell) → slice_get s.shells k ≡ o → option_map flags_of o ≡ Some x → FlagsSuit s k x
    by_shell k x None at e = absurd (none-some x e)
    by_shell k x (Some h) at e = subst (FlagsSuit s k) (same_Some (flags_of h) x e) (own_suits s k h numbered at (c k h at))

closed_suits : (s : SolidData) → IsNumberedSolid s → IsClosedSolid s → AllSuit s (own_flags s)
closed_suits s numbered c = sewn_suits s numbered (λ k h at. let shell = closed_at s k h c at in record { paired = shell.paired; reached = shell.reached })

pub closed_stays : ClosedStays
closed_stays f n new r limits c =
    let numbered : IsNumberedSolid (solid_of f n) = found.solid_is_numbered f n c.placed (has_few_parts f n limits c.placed) in
    own_flags_stay f n new r (one_flags (solid_of f n) r.flags (own_flags (solid_of f n)) r.fit.suit (closed_suits (solid_of f n) numbered c.closed))
