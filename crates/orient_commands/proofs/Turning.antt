-- A solid with fitting flags in place of its faces' is closed where it keeps JOIN, LINK and APART.
use Rattle.std.specs.Prelude.{◌≡◌, ℕ, suc, ◌+◌, Bool, List, [], ◌∷◌, Some, slice_get}
use Rattle.std.specs.List.{AllByRecursion, enumerate_from}
use Rattle.std.proofs.Common.{refl, subst, arith}
use Rattle.std.proofs.lemmas.Option.{slice_get_within}
use Rattle.solid_data.specs.SolidData.{SolidData}
use Rattle.solid_data.specs.declared.solid.Shell.{Shell}
use Rattle.shell_rules.specs.Closed.{IsClosedShell}
use Rattle.orient_certificate.specs.Flags.{FlagsFit, shell_with}
use Rattle.flag_choice.specs.Suiting.{FlagsOrient}
use Rattle.flag_choice.specs.Turned.{turned, turned_shells}
use Rattle.flag_choice.proofs.OtherFlags.{new_paired, new_reached}
use Rattle.orient_commands.specs.Laws.{FittingFlagsClose}
use Rattle.orient_commands.specs.Shells.{IsReady, OfAllShells}
use Rattle.orient_commands.specs.Turned.{JoinsAndLinks}

-- A shell with flags that fit.
turned_closed : (s : SolidData) (all : List (List Bool)) (k : ℕ) (h : Shell) (flags : List Bool) → slice_get s.shells k ≡ Some h → IsReady s k
    → FlagsFit s k flags → JoinsAndLinks (turned all s) k (shell_with flags h) → IsClosedShell (turned all s) k (shell_with flags h)
turned_closed s all k h flags at ready fit parts =
    let orients : FlagsOrient s k flags = record { each = fit.each; differ = fit.differ } in
    record {
      joined = parts.joined;
      paired = new_paired s all k h flags at ready.counted ready.reached orients;
      reached = new_reached s all k h flags at ready.counted ready.reached orients;
      linked = parts.linked;
      apart = parts.apart;
    }

-- All shells.

all_closed : (s : SolidData) (all : List (List Bool)) → OfAllShells IsReady s → (n : ℕ) (flags : List (List Bool)) (shells : List Shell)
    → ((j : ℕ) (x : List Bool) → slice_get flags j ≡ Some x → FlagsFit s (n + j) x)
    → ((j : ℕ) (h : Shell) → slice_get shells j ≡ Some h → slice_get s.shells (n + j) ≡ Some h)
    → AllByRecursion (λ (h : ℕ × Shell). JoinsAndLinks (turned all s) h.0 h.1) (enumerate_from n (turned_shells flags shells))
    → AllByRecursion (λ (h : ℕ × Shell). IsClosedShell (turned all s) h.0 h.1) (enumerate_from n (turned_shells flags shells))
all_closed s all ready n [] shells fit at j = tt
all_closed s all ready n (x ∷ flags) [] fit at j = tt
all_closed s all ready n (x ∷ flags) (h ∷ shells) fit at (here, j) =
    let first : n + 0 ≡ n = omega arith in
    let there : slice_get s.shells n ≡ Some h = subst (λ i. slice_get s.shells i ≡ Some h) first (at 0 h refl) in (
      turned_closed s all n h x there (ready n (slice_get_within s.shells n h there)) (subst (λ i. FlagsFit s i x) first (fit 0 x refl)) here,
      all_closed s all ready (n + 1) flags shells
          (λ i y is. subst (λ i. FlagsFit s i y) (let next : n + suc i ≡ (n + 1) + i = omega arith in next) (fit (suc i) y is))
          (λ i g is. subst (λ i. slice_get s.shells i ≡ Some g) (let next : n + suc i ≡ (n + 1) + i = omega arith in next) (at (suc i) g is)) j,
    )

pub fitting_close : FittingFlagsClose
fitting_close s flags ready all parts =
    all_closed s flags ready 0 flags s.shells
    (λ j x is. subst (λ i. FlagsFit s i x) (let same : j ≡ 0 + j = omega arith in same) (all.fit j x is))
    (λ j h is. subst (λ i. slice_get s.shells i ≡ Some h) (let same : j ≡ 0 + j = omega arith in same) is) parts
