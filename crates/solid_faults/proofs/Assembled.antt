-- The faults of a shell, put together.
use Rattle.std.specs.Prelude.{◌≡◌, ◌⊎◌, ℕ, Bool, true, false, List, [], ◌∷◌, map, Option, Some, None, slice_get, IfSome, MatchOption}
use Rattle.std.specs.List.{AllByRecursion}
use Rattle.std.proofs.Common.{sym, ◌∙◌, ap, subst, ⊎_elim}
use Rattle.solid_data.specs.Obligations.{AllHold, FirstNot}
use Rattle.solid_data.specs.SolidData.{SolidData, PlacedLoop, placed_loops}
use Rattle.solid_data.specs.declared.solid.Shell.{Shell}
use Rattle.solid_data.proofs.ObligationLemmas.{AllByRecursion-weaker, AllHold-of_each, map-AllHold, AllHold-map}
use Rattle.edge_uses.specs.Joins.{IsJoined, loop_obligations, join_obligations}
use Rattle.edge_uses.specs.RowRelations.{IsPaired}
use Rattle.edge_uses.specs.ShellRows.{ShellRows, EndsMeet, shell_rows, rows_of}
use Rattle.shell_rules.specs.ShellObligations.{pair_obligations}
use Rattle.edge_uses.proofs.JoinLemmas.{joined_from_hold}
use Rattle.edge_uses.proofs.RowLemmas.{ends_meet}
use Rattle.solid_faults.specs.declared.gap.Gap.{Gap}
use Rattle.solid_faults.specs.declared.edge.Unpaired.{Unpaired}
use Rattle.solid_faults.specs.Failing.{AreFailing}
use Rattle.solid_faults.specs.Faults.{Faults, Linking, AreFaults, AreLinkings}
use Rattle.solid_faults.specs.Gaps.{gaps_of, gap_failing}
use Rattle.solid_faults.specs.Edges.{unpaired_of, unpaired_failing, shared_of}
use Rattle.solid_faults.specs.Fans.{AreFans, unlinked_of}
use Rattle.solid_faults.specs.Parts.{AreParts}
use Rattle.solid_faults.proofs.Definite.{map_none}
use Rattle.solid_faults.proofs.FailingLemmas.{none_fails, all_hold_none}
use Rattle.solid_faults.proofs.Named.{gaps_named, unpaired_named}

no_solid : SolidData
no_solid = record { entity = record { 0 = 0 }; shells = []; edges = []; vertices = [] }

pub all_paired_none : (d : ShellRows) → AllByRecursion (IsPaired d) d.edges → unpaired_of d ≡ []
all_paired_none d h = map_none (unpaired_failing no_solid) (unpaired_of d)
    (all_hold_none (pair_obligations no_solid d) _ (map-AllHold _ d.edges h) (unpaired_named no_solid d))

first_not_all : (P : ℕ → Type 0) (xs : List ℕ) (x : ℕ) → FirstNot P xs x → AllByRecursion P xs → ⊥
first_not_all P [] x h all = h
first_not_all P (y ∷ ys) x h all = ⊎_elim (λ a. a.0 all.0) (λ b. first_not_all P ys x b.1 all.1) h

pub some_unpaired : (d : ShellRows) (e : ℕ) → FirstNot (IsPaired d) d.edges e → unpaired_of d ≡ [] → ⊥
some_unpaired d e first none =
    first_not_all (IsPaired d) d.edges e first
    (AllHold-map _ d.edges (none_fails (pair_obligations no_solid d)
    (subst (λ us. AreFailing (pair_obligations no_solid d) (map (unpaired_failing no_solid) us)) none (unpaired_named no_solid d))))

pub meet_without_gap : (s : SolidData) (k : ℕ) (o : Option Shell) (d : ShellRows) (gaps : List Gap) → slice_get s.shells k ≡ o → d ≡ rows_of s o
    → IfSome o (λ h. gaps ≡ gaps_of s h) → gaps ≡ [] → EndsMeet d
meet_without_gap s k None d gaps at is found none = subst EndsMeet (sym is) (λ r t a b follows. absurd cc)
meet_without_gap s k (Some shell) d gaps at is found none =
    let join : AllHold (join_obligations s shell) =
    none_fails (join_obligations s shell)
    (subst (λ gs. AreFailing (join_obligations s shell) (map gap_failing gs)) (sym found ∙ none) (gaps_named s shell)) in
    subst EndsMeet (sym is)
    (ends_meet s shell (AllByRecursion-weaker (λ (p : PlacedLoop). AllHold (loop_obligations s p.loop)) (λ (p : PlacedLoop). IsJoined s p.loop)
    (placed_loops shell) (λ p. joined_from_hold s p.loop) (AllHold-of_each (λ (p : PlacedLoop). loop_obligations s p.loop) (placed_loops shell) join)))

-- what `linking` says, as the faults have it
pub as_linkings : (d : ShellRows) (gaps : List Gap) (unpaired : List Unpaired) (gap : Bool) (o : Option Linking) → unpaired ≡ unpaired_of d
    → (gap ≡ false → gaps ≡ []) → (gap ≡ true → gaps ≡ [] → ⊥)
    → MatchOption o ((gap ≡ true) ⊎ (unpaired_of d ≡ [] → ⊥))
    (λ l. (gap ≡ false) × (unpaired_of d ≡ []) × AreFans d l.leasts × (l.unlinked ≡ unlinked_of d l.leasts)) → AreLinkings d gaps unpaired o
as_linkings d gaps unpaired gap None is none some h = λ k. ⊎_elim (λ e. some e k.0) (λ n. n (sym is ∙ k.1)) h
as_linkings d gaps unpaired gap (Some l) is none some h = (none h.0, is ∙ h.1, h.2, h.3)

pub assembled : (s : SolidData) (k : ℕ) (shell : Shell) (d : ShellRows) (x : Faults) → slice_get s.shells k ≡ Some shell → d ≡ rows_of s (slice_get s.shells k)
    → IfSome (slice_get s.shells k) (λ h. x.gaps ≡ gaps_of s h)
    → x.unpaired ≡ unpaired_of d → AreParts d x.firsts → AreLinkings d x.gaps x.unpaired x.linking → x.shared ≡ shared_of s k d → AreFaults s k shell x
assembled s k shell d x at is gaps unpaired firsts linking shared =
    let here : d ≡ shell_rows s shell = is ∙ ap (λ o. rows_of s o) at in
    record {
      gaps = subst (λ o. IfSome o (λ h. x.gaps ≡ gaps_of s h)) at gaps;
      unpaired = subst (λ e. x.unpaired ≡ unpaired_of e) here unpaired;
      firsts = subst (λ e. AreParts e x.firsts) here firsts;
      linking = subst (λ e. AreLinkings e x.gaps x.unpaired x.linking) here linking;
      shared = subst (λ e. x.shared ≡ shared_of s k e) here shared;
    }
