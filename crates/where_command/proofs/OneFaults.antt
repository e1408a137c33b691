-- What fails in a shell is one.
use Rattle.std.specs.Prelude.{◌≡◌, ℕ, suc, ◌≤◌, List, [], ◌∷◌, length, Option, Some, None, slice_get}
use Rattle.std.proofs.Common.{refl, sym, ap, ◌∙◌, subst, arith}
use Rattle.std.proofs.lemmas.Option.{slice_get_within}
use Rattle.solid_data.specs.SolidData.{SolidData}
use Rattle.solid_data.specs.declared.solid.Shell.{Shell}
use Rattle.solid_data.proofs.Members.{get_some}
use Rattle.edge_uses.specs.ShellRows.{ShellRows, shell_rows}
use Rattle.solid_faults.specs.Fans.{AreFans, unlinked_of}
use Rattle.solid_faults.specs.Faults.{AreFaults, AreLinkings, Faults, Linking}
use Rattle.solid_faults.specs.Parts.{AreParts}
use Rattle.solid_hints.specs.AllFaults.{AreAllFaults}

-- lists of one length with the same items are one
pub same_list : {A : Type 0} (xs ys : List A) → length xs ≡ length ys → ((i : ℕ) (x y : A) → slice_get xs i ≡ Some x → slice_get ys i ≡ Some y → x ≡ y)
    → xs ≡ ys
same_list [] [] long each = refl
same_list [] (y ∷ ys) long each = absurd (omega (arith, long))
same_list (x ∷ xs) [] long each = absurd (omega (arith, long))
same_list (x ∷ xs) (y ∷ ys) long each =
    ap (λ z. z ∷ xs) (each 0 x y refl refl) ∙ ap (λ zs. y ∷ zs) (same_list xs ys (omega (arith, long)) (λ i a b at there. each (suc i) a b at there))

between : (p q : ℕ) → p ≤ q → q ≤ p → p ≡ q
between p q low high = omega (arith, low, high)

one_parts : (d : ShellRows) (xs ys : List ℕ) → AreParts d xs → AreParts d ys → xs ≡ ys
one_parts d xs ys a b =
    same_list xs ys (a.each ∙ sym b.each) (λ i p q at there. between p q (a.least i p q at (b.connected i q there)) (b.least i q p there (a.connected i p at)))

one_fans : (d : ShellRows) (xs ys : List ℕ) → AreFans d xs → AreFans d ys → xs ≡ ys
one_fans d xs ys a b = same_list xs ys (a.each ∙ sym b.each)
    (λ i p q at there. between p q (a.least i p q at (b.down i q there)) (b.least i q p there (a.down i p at)))

one_linking : (d : ShellRows) (gaps : _) (unpaired : _) (o p : Option Linking) → AreLinkings d gaps unpaired o → AreLinkings d gaps unpaired p → o ≡ p
one_linking d gaps unpaired None None a b = refl
one_linking d gaps unpaired None (Some m) a b = absurd (a (b.0, b.1))
one_linking d gaps unpaired (Some l) None a b = absurd (b (a.0, a.1))
one_linking d gaps unpaired (Some l) (Some m) a b =
    let leasts : l.leasts ≡ m.leasts = one_fans d l.leasts m.leasts a.2 b.2 in
    let unlinked : l.unlinked ≡ m.unlinked = a.3 ∙ (ap (unlinked_of d) leasts ∙ sym b.3) in
    ap (λ z. Some (record { leasts = z; unlinked = l.unlinked })) leasts ∙ ap (λ z. Some (record { leasts = m.leasts; unlinked = z })) unlinked

one_faults : (s : SolidData) (k : ℕ) (h : Shell) (x y : Faults) → AreFaults s k h x → AreFaults s k h y → x ≡ y
one_faults s k h x y a b =
    let d : ShellRows = shell_rows s h in
    let gaps : x.gaps ≡ y.gaps = a.gaps ∙ sym b.gaps in
    let unpaired : x.unpaired ≡ y.unpaired = a.unpaired ∙ sym b.unpaired in
    let firsts : x.firsts ≡ y.firsts = one_parts d x.firsts y.firsts a.firsts b.firsts in
    let there : AreLinkings d y.gaps y.unpaired x.linking =
    subst (λ us. AreLinkings d y.gaps us x.linking) unpaired (subst (λ gs. AreLinkings d gs x.unpaired x.linking) gaps a.linking) in
    let linking : x.linking ≡ y.linking = one_linking d y.gaps y.unpaired x.linking y.linking there b.linking in
    let shared : x.shared ≡ y.shared = a.shared ∙ sym b.shared in
    ap (λ z. record { gaps = z; unpaired = x.unpaired; firsts = x.firsts; linking = x.linking; shared = x.shared }) gaps
    ∙ (ap (λ z. record { gaps = y.gaps; unpaired = z; firsts = x.firsts; linking = x.linking; shared = x.shared }) unpaired
    ∙ (ap (λ z. record { gaps = y.gaps; unpaired = y.unpaired; firsts = z; linking = x.linking; shared = x.shared }) firsts
    ∙ (ap (λ z. record { gaps = y.gaps; unpaired = y.unpaired; firsts = y.firsts; linking = z; shared = x.shared }) linking
    ∙ ap (λ z. record { gaps = y.gaps; unpaired = y.unpaired; firsts = y.firsts; linking = y.linking; shared = z }) shared)))

pub one_of_all : (s : SolidData) (xs ys : List Faults) → AreAllFaults s xs → AreAllFaults s ys → xs ≡ ys
one_of_all s xs ys a b =
    same_list xs ys (a.each ∙ sym b.each)
    (λ k x y at there.
    let h = get_some s.shells k (omega (arith, slice_get_within xs k x at, a.each)) in
    one_faults s k h.0 x y (a.shell k h.0 x h.1 at) (b.shell k h.0 y h.1 there))
