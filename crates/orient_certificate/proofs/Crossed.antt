-- Flags that suit the steps of a shell fit it, and odd walks are odd rings.
use Rattle.std.specs.Prelude.{◌≡◌, ◌<◌, ◌⊎◌, ℕ, zero, suc, Bool, true, false, not, List, [], ◌∷◌, ◌++◌, length, map, slice_get, Option, Some, None, option_map}
use Rattle.std.specs.List.{AllZip, AllByRecursion}
use Rattle.std.proofs.Common.{refl, sym, ◌∙◌, ap, subst, arith, inl, inr, ⊎_elim, get_or}
use Rattle.std.proofs.lemmas.Option.{same_Some, slice_get_within}
use Rattle.solid_data.specs.Chain.{Steps, LeadsTo}
use Rattle.solid_data.specs.SolidData.{SolidData, same_flag}
use Rattle.solid_data.specs.declared.solid.FaceUse.{FaceUse}
use Rattle.solid_data.specs.declared.solid.LoopAt.{LoopAt}
use Rattle.solid_data.specs.declared.solid.Shell.{Shell}
use Rattle.solid_data.proofs.Members.{All-at, has_get, get_some}
use Rattle.edge_uses.specs.declared.row.Row.{Row}
use Rattle.edge_uses.specs.ShellRows.{ShellRows, shell_rows, rows_of}
use Rattle.edge_uses.specs.RowRelations.{OnFace}
use Rattle.edge_uses.proofs.RowFacts.{faces_known}
use Rattle.orient_certificate.specs.declared.crossing.Crossing.{Crossing}
use Rattle.orient_certificate.specs.Partners.{ArePartners, Adjoin, IsReached}
use Rattle.orient_certificate.specs.Flags.{face_flags, shell_with, rows_at, rows_with, FlagsFit, PartnersDiffer}
use Rattle.orient_certificate.specs.OddRing.{bare_shell, bare_rows, GoesOn, RunsAlike, OddlyMany, OddRing}
use Rattle.orient_certificate.specs.Crossings.{flipped, IsStep, IsCrossing, AreCrossings, HasWayBack, IsGraph, Walk, Meets, AllAgree, IsOddWalk}
use Rattle.orient_certificate.proofs.Places.{one_partner, partners_back}
use Rattle.orient_certificate.proofs.Bare.{Told, Alike, told_alike, alike_back, told_rows, forwards_in, walks, bare_with, walks_with, zip_get, zip_turned}
use Rattle.orient_certificate.proofs.Bare.{zip_long}
use Rattle.orient_certificate.proofs.Bare.{partners_alike}

-- the face of a row
pub face_is : (d : ShellRows) (f r : ℕ) (row : Row) → OnFace d f r → slice_get d.rows r ≡ Some row → row.at.face.0 ≡ f
face_is d f r row (a, at, e) is = ap (λ (x : Row). x.at.face.0) (same_Some row a (sym is ∙ at)) ∙ e

pub faces_low : (s : SolidData) (o : Option Shell) → AllByRecursion (λ (r : Row). r.at.face.0 < (rows_of s o).face_count) (rows_of s o).rows
unfolding shell_rows
faces_low s None = tt
faces_low s (Some h) = faces_known s h

length-faces : (fs : List FaceUse) → length (map (λ (f : FaceUse). f.flag) fs) ≡ length fs
length-faces [] = refl
length-faces (f ∷ fs) = ap suc (length-faces fs)

pub faces_counted : (s : SolidData) (o : Option Shell) → (rows_of s o).face_count ≡ length (face_flags o)
unfolding shell_rows
faces_counted s None = refl
faces_counted s (Some h) = sym (length-faces h.faces)

-- a step read of the shell's rows is that of the bare rows
pub crossing_made : (s : SolidData) (k r : ℕ) (c : Crossing) (forwards : List Bool) → forwards ≡ forwards_in (slice_get s.shells k)
    → IsStep (rows_at s k) forwards r c → IsCrossing s k r c
crossing_made s k r c forwards e st = record {
  partners = st.partners;
  from = st.from;
  to = st.to;
  flips = λ a b at_a at_b.
      let x = own r st.partners.row st.partners.at_r c.from st.from a at_a in
      let y = own c.partner st.partners.partner st.partners.at_m c.to st.to b at_b in
      st.flips ∙ (ap (λ u. same_flag u (same_flag st.partners.partner.along (get_or forwards c.to true))) x ∙ ap (same_flag a.along) y);
}
  where
    own : (q : ℕ) (row : Row) → slice_get (rows_at s k).rows q ≡ Some row → (f : ℕ) → OnFace (rows_at s k) f q → (a : Row)
        → slice_get (bare_rows s k).rows q ≡ Some a → same_flag row.along (get_or forwards f true) ≡ a.along
    own q row at f on a at_a =
        let t = zip_get (Told (walks (slice_get s.shells k))) (rows_at s k).rows (bare_rows s k).rows q row (told_rows s (slice_get s.shells k)) at in
        ap (λ i. same_flag row.along (get_or forwards i true)) (sym (face_is (rows_at s k) f q row on at))
        ∙ (ap (λ fs. same_flag row.along (get_or fs row.at.face.0 true)) e ∙ (t.2.along ∙ ap (λ (w : Row). w.along) (same_Some t.0 a (sym t.1 ∙ at_a))))

-- each row has a bare one
pub bare_at : (s : SolidData) (k r : ℕ) (row : Row) → slice_get (rows_at s k).rows r ≡ Some row → (a : Row) × (slice_get (bare_rows s k).rows r ≡ Some a)
    × Alike row a
bare_at s k r row at =
    let t = zip_get (Told (walks (slice_get s.shells k))) (rows_at s k).rows (bare_rows s k).rows r row (told_rows s (slice_get s.shells k)) at in
    (t.0, t.1, told_alike (walks (slice_get s.shells k)) row t.0 t.2)

flag_comm : (a b : Bool) → same_flag a b ≡ same_flag b a
flag_comm true true = refl
flag_comm true false = refl
flag_comm false true = refl
flag_comm false false = refl

-- the step of a row
pub crossing_at : (s : SolidData) (k : ℕ) (cs : List Crossing) → AreCrossings s k cs → (r : ℕ) (row : Row) → slice_get (rows_at s k).rows r ≡ Some row
    → (c : Crossing) × (slice_get cs r ≡ Some c)
crossing_at s k cs all r row at = get_some cs r (omega (arith, all.each, slice_get_within (rows_at s k).rows r row at))

pub crossing_of : (s : SolidData) (k : ℕ) (cs : List Crossing) → AreCrossings s k cs → (r m : ℕ) → ArePartners (rows_at s k) r m
    → (c : Crossing) × (slice_get cs r ≡ Some c) × (c.partner ≡ m)
crossing_of s k cs all r m p =
    let c = crossing_at s k cs all r p.row p.at_r in
    (c.0, c.1, one_partner (rows_at s k) r c.0.partner m (all.tell r c.0 c.1).partners p)

pub from_is : (s : SolidData) (k : ℕ) (cs : List Crossing) → AreCrossings s k cs → (r : ℕ) (c : Crossing) → slice_get cs r ≡ Some c → (f : ℕ)
    → OnFace (rows_at s k) f r → c.from ≡ f
from_is s k cs all r c at f (row, is, e) = sym (face_is (rows_at s k) c.from r row (all.tell r c at).from is) ∙ e

pub to_is : (s : SolidData) (k : ℕ) (cs : List Crossing) → AreCrossings s k cs → (r : ℕ) (c : Crossing) → slice_get cs r ≡ Some c → (f : ℕ)
    → OnFace (rows_at s k) f c.partner → c.to ≡ f
to_is s k cs all r c at f (row, is, e) = sym (face_is (rows_at s k) c.to c.partner row (all.tell r c at).to is) ∙ e

pub graph_made : (s : SolidData) (k : ℕ) (cs : List Crossing) (n : ℕ) → AreCrossings s k cs → n ≡ (rows_at s k).face_count → IsGraph n cs
graph_made s k cs n all e = record {
  from_low = λ r c at. low c.from r (all.tell r c at).from;
  to_low = λ r c at. low c.to c.partner (all.tell r c at).to;
  back = back;
}
  where
    low : (f r : ℕ) → OnFace (rows_at s k) f r → f < n
    low f r (row, at, is) =
        subst (λ x. x < n) is (omega (
          arith,
          e,
          All-at (λ (x : Row). x.at.face.0 < (rows_at s k).face_count) (rows_at s k).rows (faces_low s (slice_get s.shells k)) row
              (has_get (rows_at s k).rows r row at),
        ))

    back : (r : ℕ) (c : Crossing) → slice_get cs r ≡ Some c → HasWayBack cs r c
    back r c at =
        let here : IsCrossing s k r c = all.tell r c at in
        let p = crossing_of s k cs all c.partner r (partners_back (rows_at s k) r c.partner here.partners) in
        let there : IsCrossing s k c.partner p.0 = all.tell c.partner p.0 p.1 in
        let a = bare_at s k r here.partners.row here.partners.at_r in
        let b = bare_at s k c.partner here.partners.partner here.partners.at_m in
        record {
          back = p.0;
          at = p.1;
          partner = p.2;
          from = from_is s k cs all c.partner p.0 p.1 c.to here.to;
          to = to_is s k cs all c.partner p.0 p.1 c.from (subst (OnFace (rows_at s k) c.from) (sym p.2) here.from);
          flips = there.flips b.0 a.0 b.1 (ap (slice_get (bare_rows s k).rows) p.2 ∙ a.1) ∙ (flag_comm b.0.along a.0.along ∙ sym (here.flips a.0 b.0 a.1 b.1));
        }

-- Chains of faces that adjoin are chains of steps.
pub meets_from : (s : SolidData) (k : ℕ) (cs : List Crossing) → AreCrossings s k cs → (a b : ℕ) → Adjoin (rows_at s k) a b → Meets cs a b
meets_from s k cs all a b (r, m, p, on_a, on_b) =
    let c = crossing_of s k cs all r m p in
    (r, c.0, c.1, from_is s k cs all r c.0 c.1 a on_a, to_is s k cs all r c.0 c.1 b (subst (OnFace (rows_at s k) b) (sym c.2) on_b))

pub adjoin_from : (s : SolidData) (k : ℕ) (cs : List Crossing) → AreCrossings s k cs → (a b : ℕ) → Meets cs a b → Adjoin (rows_at s k) a b
adjoin_from s k cs all a b (r, c, at, from, to) =
    let t : IsCrossing s k r c = all.tell r c at in
    (r, c.partner, t.partners, subst (λ f. OnFace (rows_at s k) f r) from t.from, subst (λ f. OnFace (rows_at s k) f c.partner) to t.to)

pub steps_map : (R S : ℕ → ℕ → Type 0) → ((a b : ℕ) → R a b → S a b) → (n a b : ℕ) → Steps R n a b → Steps S n a b
steps_map R S f zero a b e = e
steps_map R S f (suc n) a b (c, r, rest) = (c, f a c r, steps_map R S f n c b rest)

pub leads_from : (s : SolidData) (k : ℕ) (cs : List Crossing) → AreCrossings s k cs → (f : ℕ) → IsReached (rows_at s k) f → LeadsTo (Meets cs) 0 f
leads_from s k cs all f (n, st) = (n, steps_map (Adjoin (rows_at s k)) (Meets cs) (meets_from s k cs all) n 0 f st)

pub reached_from : (s : SolidData) (k : ℕ) (cs : List Crossing) → AreCrossings s k cs → (f : ℕ) → LeadsTo (Meets cs) 0 f → IsReached (rows_at s k) f
reached_from s k cs all f (n, st) = (n, steps_map (Meets cs) (Adjoin (rows_at s k)) (adjoin_from s k cs all) n 0 f st)

-- the directions of two partners, and the flags of their faces and of the shell
agree_core : (sf xa xb b : Bool) → xb ≡ flipped (same_flag (same_flag (not b) (same_flag xa sf)) (same_flag b (same_flag xb sf))) xa
agree_core true true true true = refl
agree_core true true true false = refl
agree_core true true false true = refl
agree_core true true false false = refl
agree_core true false true true = refl
agree_core true false true false = refl
agree_core true false false true = refl
agree_core true false false false = refl
agree_core false true true true = refl
agree_core false true true false = refl
agree_core false true false true = refl
agree_core false true false false = refl
agree_core false false true true = refl
agree_core false false true false = refl
agree_core false false false true = refl
agree_core false false false false = refl

alike_core : (sf xa xb b : Bool) → xb ≡ not (flipped (same_flag (same_flag b (same_flag xa sf)) (same_flag b (same_flag xb sf))) xa)
alike_core true true true true = refl
alike_core true true true false = refl
alike_core true true false true = refl
alike_core true true false false = refl
alike_core true false true true = refl
alike_core true false true false = refl
alike_core true false false true = refl
alike_core true false false false = refl
alike_core false true true true = refl
alike_core false true true false = refl
alike_core false true false true = refl
alike_core false true false false = refl
alike_core false false true true = refl
alike_core false false true false = refl
alike_core false false false true = refl
alike_core false false false false = refl

pub agree_made : (sf xa xb a b ua ub f : Bool) → same_flag a (same_flag xa sf) ≡ ua → same_flag b (same_flag xb sf) ≡ ub → f ≡ same_flag ua ub → a ≡ not b
    → xb ≡ flipped f xa
agree_made sf xa xb a b ua ub f p q is ne =
    let first : same_flag (not b) (same_flag xa sf) ≡ ua = ap (λ x. same_flag x (same_flag xa sf)) (sym ne) ∙ p in
    agree_core sf xa xb b ∙ (ap (λ u. flipped (same_flag u (same_flag b (same_flag xb sf))) xa) first
    ∙ (ap (λ u. flipped (same_flag ua u) xa) q ∙ ap (λ g. flipped g xa) (sym is)))

not_self : (x : Bool) → x ≡ not x → ⊥
not_self true e = let k : true ≡ false = e in absurd (cc)
not_self false e = let k : false ≡ true = e in absurd (cc)

alike_or : (a b : Bool) → (a ≡ b) ⊎ (a ≡ not b)
alike_or true true = inl refl
alike_or true false = inr refl
alike_or false true = inr refl
alike_or false false = inl refl

pub differ_made : (sf xa xb a b ua ub f : Bool) → same_flag a (same_flag xa sf) ≡ ua → same_flag b (same_flag xb sf) ≡ ub → f ≡ same_flag ua ub
    → xb ≡ flipped f xa → a ≡ not b
differ_made sf xa xb a b ua ub f p q is agree = by_case (alike_or a b)
  where
    by_case : (a ≡ b) ⊎ (a ≡ not b) → a ≡ not b
    by_case (inr e) = e
    by_case (inl e) =
        let first : same_flag b (same_flag xa sf) ≡ ua = ap (λ x. same_flag x (same_flag xa sf)) (sym e) ∙ p in
        let other : xb ≡ not (flipped f xa) = alike_core sf xa xb b
        ∙ (ap (λ u. not (flipped (same_flag u (same_flag b (same_flag xb sf))) xa)) first
        ∙ (ap (λ u. not (flipped (same_flag ua u) xa)) q ∙ ap (λ g. not (flipped g xa)) (sym is))) in
        absurd (not_self (flipped f xa) (sym agree ∙ other))

abbrev shell_flag : Option Shell → Bool
shell_flag None = true
shell_flag (Some h) = h.flag

told_with : (s : SolidData) (o : Option Shell) (flags : List Bool) → length flags ≡ length (face_flags o)
    → AllZip (Told (walks (option_map (shell_with flags) o))) (rows_of s (option_map (shell_with flags) o)).rows (rows_of s (option_map bare_shell o)).rows
told_with s None flags e = tt
told_with s (Some h) flags e =
    subst (λ g. AllZip (Told (walks (Some (shell_with flags h)))) (rows_of s (Some (shell_with flags h))).rows (rows_of s (Some g)).rows)
    (bare_with flags h (e ∙ length-faces h.faces)) (told_rows s (Some (shell_with flags h)))

walks_o : (o : Option Shell) (flags : List Bool) (i : ℕ) → length flags ≡ length (face_flags o) → i < length flags → walks (option_map (shell_with flags) o) i
    ≡ same_flag (get_or flags i false) (shell_flag o)
walks_o None flags i e lt = absurd (omega (arith, e, lt))
walks_o (Some h) flags i e lt = walks_with flags h i (e ∙ length-faces h.faces) lt

-- a step, seen with other flags
record Sides (s : SolidData) (k : ℕ) (flags : List Bool) (r : ℕ) (c : Crossing) : Type 0 where
  a : Row
  b : Row
  ua : Bool
  ub : Bool
  partners : ArePartners (rows_with s k flags) r c.partner
  at_r : slice_get (rows_with s k flags).rows r ≡ Some a
  at_m : slice_get (rows_with s k flags).rows c.partner ≡ Some b
  from : same_flag a.along (same_flag (get_or flags c.from false) (shell_flag (slice_get s.shells k))) ≡ ua
  to : same_flag b.along (same_flag (get_or flags c.to false) (shell_flag (slice_get s.shells k))) ≡ ub
  flips : c.flips ≡ same_flag ua ub

zips : (s : SolidData) (k : ℕ) (flags : List Bool) → length flags ≡ length (face_flags (slice_get s.shells k))
    → AllZip (Told (walks (option_map (shell_with flags) (slice_get s.shells k)))) (rows_with s k flags).rows (bare_rows s k).rows
zips s k flags e = told_with s (slice_get s.shells k) flags e

-- other flags leave a row on its face
same_face : (s : SolidData) (k : ℕ) (flags : List Bool) → length flags ≡ length (face_flags (slice_get s.shells k)) → (r : ℕ) (row base : Row)
    → slice_get (rows_with s k flags).rows r ≡ Some row → slice_get (rows_at s k).rows r ≡ Some base → row.at.face.0 ≡ base.at.face.0
same_face s k flags each r row base at_row at_base =
    let x = zip_get (Told (walks (option_map (shell_with flags) (slice_get s.shells k)))) (rows_with s k flags).rows (bare_rows s k).rows r row
    (zips s k flags each) at_row in
    let w = bare_at s k r base at_base in
    let same : x.0.at ≡ w.0.at = ap (λ (q : Row). q.at) (same_Some x.0 w.0 (sym x.1 ∙ w.1)) in
    let at : row.at ≡ base.at = x.2.at ∙ (same ∙ sym w.2.at) in
    ap (λ (l : LoopAt). l.face.0) at

sides_of : (s : SolidData) (k : ℕ) (cs : List Crossing) (n : ℕ) (flags : List Bool) → IsGraph n cs → length flags ≡ length (face_flags (slice_get s.shells k))
    → length flags ≡ n → (r : ℕ) (c : Crossing) → slice_get cs r ≡ Some c → IsCrossing s k r c → ArePartners (rows_with s k flags) r c.partner
    → Sides s k flags r c
sides_of s k cs n flags graph each long r c at t p = made (told r p.row p.at_r) (told c.partner p.partner p.at_m)
  where
    F : ℕ → Bool
    F = walks (option_map (shell_with flags) (slice_get s.shells k))

    told : (q : ℕ) (row : Row) → slice_get (rows_with s k flags).rows q ≡ Some row → (b : Row) × (slice_get (bare_rows s k).rows q ≡ Some b) × Told F row b
    told q row is = zip_get (Told F) (rows_with s k flags).rows (bare_rows s k).rows q row (zips s k flags each) is

    at_from : p.row.at.face.0 ≡ c.from
    at_from = same_face s k flags each r p.row t.partners.row p.at_r t.partners.at_r ∙ face_is (rows_at s k) c.from r t.partners.row t.from t.partners.at_r

    at_to : p.partner.at.face.0 ≡ c.to
    at_to = same_face s k flags each c.partner p.partner t.partners.partner p.at_m t.partners.at_m ∙ face_is (rows_at s k) c.to c.partner t.partners.partner
        t.to t.partners.at_m

    walks_from : F p.row.at.face.0 ≡ same_flag (get_or flags c.from false) (shell_flag (slice_get s.shells k))
    walks_from = ap F at_from ∙ walks_o (slice_get s.shells k) flags c.from each (omega (arith, graph.from_low r c at, long))

    walks_to : F p.partner.at.face.0 ≡ same_flag (get_or flags c.to false) (shell_flag (slice_get s.shells k))
    walks_to = ap F at_to ∙ walks_o (slice_get s.shells k) flags c.to each (omega (arith, graph.to_low r c at, long))

    made : (b : Row) × (slice_get (bare_rows s k).rows r ≡ Some b) × Told F p.row b → (b : Row) × (slice_get (bare_rows s k).rows c.partner ≡ Some b)
        × Told F p.partner b → Sides s k flags r c
    made x y = record {
      a = p.row;
      b = p.partner;
      ua = x.0.along;
      ub = y.0.along;
      partners = p;
      at_r = p.at_r;
      at_m = p.at_m;
      from = ap (same_flag p.row.along) (sym walks_from) ∙ x.2.along;
      to = ap (same_flag p.partner.along) (sym walks_to) ∙ y.2.along;
      flips = t.flips x.0 y.0 x.1 y.1;
    }

-- partners are the same under other flags
partners_with : (s : SolidData) (k : ℕ) (flags : List Bool) → length flags ≡ length (face_flags (slice_get s.shells k)) → (r m : ℕ)
    → ArePartners (rows_at s k) r m → ArePartners (rows_with s k flags) r m
partners_with s k flags each r m p = partners_alike (bare_rows s k) (rows_with s k flags) r m back (partners_alike (rows_at s k) (bare_rows s k) r m plain p)
  where
    G : ℕ → Bool
    G = walks (slice_get s.shells k)

    F : ℕ → Bool
    F = walks (option_map (shell_with flags) (slice_get s.shells k))

    plain : AllZip Alike (rows_at s k).rows (bare_rows s k).rows
    plain = zip_turned (λ y x. Told G x y) Alike (λ y x w. told_alike G x y w) (bare_rows s k).rows (rows_at s k).rows
        (zip_turned (Told G) (λ y x. Told G x y) (λ x y w. w) (rows_at s k).rows (bare_rows s k).rows (told_rows s (slice_get s.shells k)))

    back : AllZip Alike (bare_rows s k).rows (rows_with s k flags).rows
    back = zip_turned (Told F) Alike (λ x y w. alike_back x y (told_alike F x y w)) (rows_with s k flags).rows (bare_rows s k).rows (zips s k flags each)

sides : (s : SolidData) (k : ℕ) (cs : List Crossing) (n : ℕ) (flags : List Bool) → AreCrossings s k cs → IsGraph n cs
    → n ≡ length (face_flags (slice_get s.shells k)) → length flags ≡ n → (r : ℕ) (c : Crossing) → slice_get cs r ≡ Some c → Sides s k flags r c
sides s k cs n flags all graph counted long r c at =
    sides_of s k cs n flags graph (long ∙ counted) long r c at (all.tell r c at)
    (partners_with s k flags (long ∙ counted) r c.partner (all.tell r c at).partners)

-- flags that agree with each step fit
pub fits_made : (s : SolidData) (k : ℕ) (cs : List Crossing) (n : ℕ) (flags : List Bool) → AreCrossings s k cs → IsGraph n cs
    → n ≡ length (face_flags (slice_get s.shells k)) → length flags ≡ n → slice_get flags 0 ≡ slice_get (face_flags (slice_get s.shells k)) 0
    → AllAgree flags cs → FlagsFit s k flags
fits_made s k cs n flags all graph counted long own agree = record { each = long ∙ counted; first = own; differ = differ }
  where
    rows_long : length (rows_with s k flags).rows ≡ length cs
    rows_long =
        zip_long (Told (walks (option_map (shell_with flags) (slice_get s.shells k)))) (rows_with s k flags).rows (bare_rows s k).rows
        (zips s k flags (long ∙ counted))
        ∙ (sym (zip_long (Told (walks (slice_get s.shells k))) (rows_at s k).rows (bare_rows s k).rows (told_rows s (slice_get s.shells k))) ∙ sym all.each)

    differ : PartnersDiffer (rows_with s k flags)
    differ r m a b p at_a at_b =
        let c = get_some cs r (omega (arith, rows_long, slice_get_within (rows_with s k flags).rows r a at_a)) in
        let t : Sides s k flags r c.0 = sides s k cs n flags all graph counted long r c.0 c.1 in
        let same : c.0.partner ≡ m = one_partner (rows_with s k flags) r c.0.partner m t.partners p in
        let is_a : t.a ≡ a = same_Some t.a a (sym t.at_r ∙ at_a) in
        let is_b : t.b ≡ b = same_Some t.b b (sym t.at_m ∙ (ap (slice_get (rows_with s k flags).rows) same ∙ at_b)) in
        let ne : t.a.along ≡ not t.b.along =
        differ_made (shell_flag (slice_get s.shells k)) (get_or flags c.0.from false) (get_or flags c.0.to false) t.a.along t.b.along t.ua t.ub c.0.flips
        t.from t.to t.flips (agree r c.0 c.1) in
        ap (λ (x : Row). x.along) (sym is_a) ∙ (ne ∙ ap (λ (x : Row). not x.along) is_b)

-- flags that fit agree with each step
pub fits_agree : (s : SolidData) (k : ℕ) (cs : List Crossing) (n : ℕ) (flags : List Bool) → AreCrossings s k cs → IsGraph n cs
    → n ≡ length (face_flags (slice_get s.shells k)) → FlagsFit s k flags → AllAgree flags cs
fits_agree s k cs n flags all graph counted fit r c at =
    let t : Sides s k flags r c = sides s k cs n flags all graph counted (fit.each ∙ sym counted) r c at in
    agree_made (shell_flag (slice_get s.shells k)) (get_or flags c.from false) (get_or flags c.to false) t.a.along t.b.along t.ua t.ub c.flips t.from t.to
    t.flips (fit.differ r c.partner t.a t.b t.partners t.at_r t.at_m)

-- whether the row runs as its partner does
self_flag : (a : Bool) → same_flag a a ≡ true
self_flag true = refl
self_flag false = refl

true_flag : (a b : Bool) → same_flag a b ≡ true → a ≡ b
true_flag true true e = refl
true_flag true false e = absurd (cc)
true_flag false true e = absurd (cc)
true_flag false false e = refl

pub alike_flips : (s : SolidData) (k : ℕ) (cs : List Crossing) → AreCrossings s k cs → (r : ℕ) (c : Crossing) → slice_get cs r ≡ Some c → RunsAlike s k r
    → c.flips ≡ true
alike_flips s k cs all r c at h =
    let t : IsCrossing s k r c = all.tell r c at in
    let same : h.m ≡ c.partner = one_partner (rows_at s k) r h.m c.partner h.partners t.partners in
    t.flips h.a h.b h.at_r (ap (slice_get (bare_rows s k).rows) (sym same) ∙ h.at_m) ∙ (ap (same_flag h.a.along) (sym h.alike) ∙ self_flag h.a.along)

pub flips_alike : (s : SolidData) (k : ℕ) (cs : List Crossing) → AreCrossings s k cs → (r : ℕ) (c : Crossing) → slice_get cs r ≡ Some c → c.flips ≡ true
    → RunsAlike s k r
flips_alike s k cs all r c at h =
    let t : IsCrossing s k r c = all.tell r c at in
    let a = bare_at s k r t.partners.row t.partners.at_r in
    let b = bare_at s k c.partner t.partners.partner t.partners.at_m in
    record {
      m = c.partner;
      a = a.0;
      b = b.0;
      partners = t.partners;
      at_r = a.1;
      at_m = b.1;
      alike =
          true_flag a.0.along b.0.along (sym (t.flips a.0 b.0 a.1 b.1) ∙ h);
    }

true_or : (b : Bool) → (b ≡ true) ⊎ (b ≡ false)
true_or true = inl refl
true_or false = inr refl

pub unlike_flips : (s : SolidData) (k : ℕ) (cs : List Crossing) → AreCrossings s k cs → (r : ℕ) (c : Crossing) → slice_get cs r ≡ Some c
    → (RunsAlike s k r → ⊥) → c.flips ≡ false
unlike_flips s k cs all r c at ne = ⊎_elim (λ e. absurd (ne (flips_alike s k cs all r c at e))) (λ e. e) (true_or c.flips)

flipped_on : (odd s0 : Bool) → flipped (not odd) (flipped true s0) ≡ flipped odd s0
flipped_on true true = refl
flipped_on true false = refl
flipped_on false true = refl
flipped_on false false = refl

odd_true : (odd : Bool) → not odd ≡ false → odd ≡ true
odd_true true e = refl
odd_true false e = absurd (cc)

flipped_one : (f g s0 : Bool) → flipped f s0 ≡ flipped g s0 → f ≡ g
flipped_one true true s0 e = refl
flipped_one true false s0 e = absurd (not_self s0 (sym e))
flipped_one false true s0 e = absurd (not_self s0 e)
flipped_one false false s0 e = refl

-- A ring's rows walk from the face of the first one on.
to_walk : (s : SolidData) (k : ℕ) (cs : List Crossing) → AreCrossings s k cs → (odd s0 : Bool) (x : ℕ) (xs : List ℕ) (z : ℕ) (c cz : Crossing)
    → slice_get cs x ≡ Some c → slice_get cs z ≡ Some cz
    → AllZip (GoesOn (rows_at s k)) (x ∷ xs) (xs ++ z ∷ []) → OddlyMany (RunsAlike s k) odd (x ∷ xs) → Walk cs c.from s0 (x ∷ xs) cz.from (flipped odd s0)
to_walk s k cs all odd s0 x [] z c cz at at_z ((m, face, p, on_m, on_z), rest) parity =
    let q = crossing_of s k cs all x m p in
    let same : q.0 ≡ c = same_Some q.0 c (sym q.1 ∙ at) in
    let to : c.to ≡ face = to_is s k cs all x c at face (subst (OnFace (rows_at s k) face) (sym (ap (λ (w : Crossing). w.partner) (sym same) ∙ q.2)) on_m) in
    let from : cz.from ≡ face = from_is s k cs all z cz at_z face on_z in
    (c, at, refl, (to ∙ sym from, by_parity parity))
  where
    by_parity : OddlyMany (RunsAlike s k) odd (x ∷ []) → flipped c.flips s0 ≡ flipped odd s0
    by_parity (inl (h, e)) = ap (λ f. flipped f s0) (alike_flips s k cs all x c at h ∙ sym (odd_true odd e))
    by_parity (inr (ne, e)) = ap (λ f. flipped f s0) (unlike_flips s k cs all x c at ne ∙ sym e)
to_walk s k cs all odd s0 x (y ∷ ys) z c cz at at_z ((m, face, p, on_m, on_y), rest) parity =
    let q = crossing_of s k cs all x m p in
    let same : q.0 ≡ c = same_Some q.0 c (sym q.1 ∙ at) in
    let to : c.to ≡ face = to_is s k cs all x c at face (subst (OnFace (rows_at s k) face) (sym (ap (λ (w : Crossing). w.partner) (sym same) ∙ q.2)) on_m) in
    let cy = crossing_at s k cs all y on_y.0 on_y.1 in
    let from : cy.0.from ≡ face = from_is s k cs all y cy.0 cy.1 face on_y in (
      c,
      at,
      refl,
      subst (λ f. Walk cs f (flipped c.flips s0) (y ∷ ys) cz.from (flipped odd s0)) (from ∙ sym to) (
          ⊎_elim
          (λ (h : RunsAlike s k x × OddlyMany (RunsAlike s k) (not odd) (y ∷ ys)).
          let f : c.flips ≡ true = alike_flips s k cs all x c at h.0 in
          subst (λ g. Walk cs cy.0.from (flipped g s0) (y ∷ ys) cz.from (flipped odd s0)) (sym f)
          (subst (Walk cs cy.0.from (flipped true s0) (y ∷ ys) cz.from) (flipped_on odd s0)
          (to_walk s k cs all (not odd) (flipped true s0) y ys z cy.0 cz cy.1 at_z rest h.1)))
          (λ (h : (¬ RunsAlike s k x) × OddlyMany (RunsAlike s k) odd (y ∷ ys)).
          let f : c.flips ≡ false = unlike_flips s k cs all x c at h.0 in
          subst (λ g. Walk cs cy.0.from (flipped g s0) (y ∷ ys) cz.from (flipped odd s0)) (sym f) (to_walk s k cs all odd s0 y ys z cy.0 cz cy.1 at_z rest h.1))
          parity
          ),
    )

pub ring_walk : (s : SolidData) (k : ℕ) (cs : List Crossing) → AreCrossings s k cs → (rows : List ℕ) → OddRing s k rows → IsOddWalk cs rows
ring_walk s k cs all [] ring = absurd (omega (arith, ring.some))
ring_walk s k cs all (r ∷ rs) ring =
    let p = first_of rs ring.closed in
    let c = crossing_of s k cs all r p.0 p.1 in
    record { face = c.0.from; some = ring.some; walk = to_walk s k cs all true false r rs r c.0 c.0 c.1 c.1 ring.closed ring.odd }
  where
    first_of : (ys : List ℕ) → AllZip (GoesOn (rows_at s k)) (r ∷ ys) (ys ++ r ∷ []) → (m : ℕ) × ArePartners (rows_at s k) r m
    first_of [] h = (h.0.0, h.0.2)
    first_of (y ∷ ys) h = (h.0.0, h.0.2)

-- the rows of a walk go on one after the other, and their parity is told by its flags
from_walk : (s : SolidData) (k : ℕ) (cs : List Crossing) → AreCrossings s k cs → (odd s0 : Bool) (x : ℕ) (xs : List ℕ) (z : ℕ) (a b : ℕ) (cz : Crossing)
    → slice_get cs z ≡ Some cz → cz.from ≡ b → Walk cs a s0 (x ∷ xs) b (flipped odd s0)
    → AllZip (GoesOn (rows_at s k)) (x ∷ xs) (xs ++ z ∷ []) × OddlyMany (RunsAlike s k) odd (x ∷ xs)
from_walk s k cs all odd s0 x [] z a b cz at_z from_z (c, at, from, (to, flag)) =
    let t : IsCrossing s k x c = all.tell x c at in
    let on_z : OnFace (rows_at s k) c.to z = subst (λ f. OnFace (rows_at s k) f z) (from_z ∙ sym to) (all.tell z cz at_z).from in
    (((c.partner, c.to, t.partners, t.to, on_z), tt), by_flips (true_or c.flips))
  where
    by_flips : (c.flips ≡ true) ⊎ (c.flips ≡ false) → OddlyMany (RunsAlike s k) odd (x ∷ [])
    by_flips (inl e) = inl (flips_alike s k cs all x c at e, ap not (sym (flipped_one c.flips odd s0 flag) ∙ e))
    by_flips (inr e) = inr (λ h. not_self true (sym (alike_flips s k cs all x c at h) ∙ e), sym (flipped_one c.flips odd s0 flag) ∙ e)
from_walk s k cs all odd s0 x (y ∷ ys) z a b cz at_z from_z (c, at, from, (cy, at_y, from_y, rest)) =
    let t : IsCrossing s k x c = all.tell x c at in
    let on_y : OnFace (rows_at s k) c.to y = subst (λ f. OnFace (rows_at s k) f y) from_y (all.tell y cy at_y).from in
    ⊎_elim
    (λ (e : c.flips ≡ true).
    let more : Walk cs c.to (flipped true s0) (y ∷ ys) b (flipped (not odd) (flipped true s0)) =
    subst (Walk cs c.to (flipped true s0) (y ∷ ys) b) (sym (flipped_on odd s0))
    (subst (λ g. Walk cs c.to (flipped g s0) (y ∷ ys) b (flipped odd s0)) e (cy, at_y, from_y, rest)) in
    let h = from_walk s k cs all (not odd) (flipped true s0) y ys z c.to b cz at_z from_z more in
    (((c.partner, c.to, t.partners, t.to, on_y), h.0), inl (flips_alike s k cs all x c at e, h.1)))
    (λ (e : c.flips ≡ false).
    let more : Walk cs c.to s0 (y ∷ ys) b (flipped odd s0) = subst (λ g. Walk cs c.to (flipped g s0) (y ∷ ys) b (flipped odd s0)) e (cy, at_y, from_y, rest) in
    let h = from_walk s k cs all odd s0 y ys z c.to b cz at_z from_z more in
    (((c.partner, c.to, t.partners, t.to, on_y), h.0), inr (λ h. not_self true (sym (alike_flips s k cs all x c at h) ∙ e), h.1)))
    (true_or c.flips)

pub walk_ring : (s : SolidData) (k : ℕ) (cs : List Crossing) → AreCrossings s k cs → (rows : List ℕ) → IsOddWalk cs rows → OddRing s k rows
walk_ring s k cs all [] odd = absurd (omega (arith, odd.some))
walk_ring s k cs all (r ∷ rs) odd =
    let c : Crossing = odd.walk.0 in
    let h = from_walk s k cs all true false r rs r odd.face odd.face c odd.walk.1 odd.walk.2 odd.walk in
    record { some = odd.some; closed = h.0; odd = h.1 }
