-- What the faults of a shell say of its obligations.
use Rattle.std.specs.Prelude.{◌≡◌, ◌↔◌, ◌^◌, All, flat_map, ◌<◌, ◌≤◌, ◌+◌, ℕ, zero, suc, List, [], ◌∷◌, ◌++◌, length, map, Option, Some, None, slice_get}
use Rattle.std.specs.List.{enumerate_from}
use Rattle.std.proofs.Common.{refl, sym, ◌∙◌, ap, subst, arith, get_or, drop, length-append}
use Rattle.std.proofs.lemmas.List.{drop_all}
use Rattle.solid_data.specs.Numbering.{IsNumberedSolid}
use Rattle.solid_data.specs.Obligations.{Obligation, AllHold, FirstFalse, of_each}
use Rattle.solid_data.specs.SolidData.{SolidData, PlacedLoop, placed_loops}
use Rattle.solid_data.specs.declared.solid.FaceUse.{FaceUse}
use Rattle.solid_data.specs.declared.solid.Shell.{Shell}
use Rattle.solid_data.specs.declared.verdict.Failing.{Failing}
use Rattle.solid_data.proofs.Members.{Has, split_at}
use Rattle.solid_data.proofs.ObligationLemmas.{AllHold-append, AllHold-append_left, AllHold-append_right, FirstFalse-append_front, FirstFalse-append_rest}
use Rattle.solid_data.proofs.ObligationLemmas.{AllHold-of_each, AllHold-map, AllByRecursion-weaker}
use Rattle.edge_uses.specs.Joins.{IsJoined, loop_obligations, join_obligations}
use Rattle.shell_rules.specs.Closed.{IsClosedSolid}
use Rattle.edge_uses.specs.Mates.{ArePaired}
use Rattle.edge_uses.specs.ShellRows.{ShellRows, shell_rows}
use Rattle.shell_rules.specs.ShellObligations.{pair_obligations, reach_obligations, link_obligations, apart_obligations, shell_obligations, solid_obligations}
use Rattle.edge_uses.proofs.JoinLemmas.{joined_from_hold}
use Rattle.shell_rules.proofs.ClosedLemmas.{closed_is_all_hold}
use Rattle.edge_uses.proofs.RowLemmas.{ends_meet}
use Rattle.edge_uses.proofs.Turn.{paired_rows}
use Rattle.edge_uses.proofs.Whole.{are_rows}
use Rattle.solid_faults.specs.Failing.{AreFailing}
use Rattle.solid_faults.specs.Faults.{Faults, Linking, AreFaults, AreLinkings, failing_vertices, failing_of, AreLinked, IsFaultless}
use Rattle.solid_faults.specs.Gaps.{gap_failing}
use Rattle.solid_faults.specs.Edges.{unpaired_failing, shared_failing}
use Rattle.solid_faults.specs.Fans.{unlinked_failing}
use Rattle.solid_faults.specs.Parts.{apart_from, failing_faces}
use Rattle.solid_faults.specs.Naming.{AreNamed}
use Rattle.solid_faults.proofs.FailingLemmas.{none_fails, all_hold_none, first_fails, failing_append}
use Rattle.solid_faults.proofs.Named.{gaps_named, unpaired_named, shared_named}
use Rattle.solid_faults.proofs.Reached.{parts_named}
use Rattle.solid_faults.proofs.LinkNamed.{unlinked_named}

pub map_none : {A B : Type 0} (f : A → B) (xs : List A) → map f xs ≡ [] → xs ≡ []
map_none f [] e = refl
map_none f (x ∷ xs) e = absurd cc

-- Where what is found first is exact, and the rest is exact where nothing is found before, the first that is found is the first false one.
first_generic : (a b c e g : List Obligation) (p q r t u : List Failing) → AreFailing a p → AreFailing b q
    → (p ≡ [] → q ≡ [] → AreFailing c r × AreFailing e t) → AreFailing g u
    → (y : Failing) (ys : List Failing) → p ++ q ++ r ++ t ++ u ≡ y ∷ ys → FirstFalse (a ++ b ++ c ++ e ++ g) y
first_generic a b c e g (n ∷ p) q r t u fa fb rest fg y ys is =
    let same : n ≡ y = ap (λ zs. get_or zs 0 n) is in
    subst (FirstFalse (a ++ b ++ c ++ e ++ g)) same
    (FirstFalse-append_front (a ++ b ++ c ++ e) g n
    (FirstFalse-append_front (a ++ b ++ c) e n (FirstFalse-append_front (a ++ b) c n (FirstFalse-append_front a b n (first_fails a n p fa)))))
first_generic a b c e g [] (n ∷ q) r t u fa fb rest fg y ys is =
    let same : n ≡ y = ap (λ zs. get_or zs 0 n) is in
    subst (FirstFalse (a ++ b ++ c ++ e ++ g)) same
    (FirstFalse-append_front (a ++ b ++ c ++ e) g n
    (FirstFalse-append_front (a ++ b ++ c) e n
    (FirstFalse-append_front (a ++ b) c n (FirstFalse-append_rest a b n (none_fails a fa) (first_fails b n q fb)))))
first_generic a b c e g [] [] r t u fa fb rest fg y ys is =
    let k = rest refl refl in
    let all = failing_append (a ++ b ++ c ++ e) g (r ++ t) u
    (failing_append (a ++ b ++ c) e r t (failing_append (a ++ b) c [] r (failing_append a b [] [] fa fb) k.0) k.1) fg in
    first_fails (a ++ b ++ c ++ e ++ g) y ys (subst (AreFailing (a ++ b ++ c ++ e ++ g)) is all)

-- Loops that join, and edges that are paired.
judged : (s : SolidData) (k : ℕ) (shell : Shell) (x : Faults) → IsNumberedSolid s → Has s.shells shell → AreFaults s k shell x → x.gaps ≡ [] → x.unpaired ≡ []
    → ArePaired (shell_rows s shell)
judged s k shell x numbered has h no_gap no_edge =
    let d : ShellRows = shell_rows s shell in
    let join : AllHold (join_obligations s shell) =
    none_fails (join_obligations s shell)
    (subst (λ gs. AreFailing (join_obligations s shell) (map gap_failing gs)) (sym h.gaps ∙ no_gap) (gaps_named s shell)) in
    let pair : AllHold (pair_obligations s d) =
    none_fails (pair_obligations s d)
    (subst (λ us. AreFailing (pair_obligations s d) (map (unpaired_failing s) us)) (sym h.unpaired ∙ no_edge) (unpaired_named s d)) in
    record {
      rows = are_rows s shell numbered has;
      meet = ends_meet s shell
          (AllByRecursion-weaker (λ (p : PlacedLoop). AllHold (loop_obligations s p.loop)) (λ (p : PlacedLoop). IsJoined s p.loop) (placed_loops shell)
          (λ p. joined_from_hold s p.loop) (AllHold-of_each (λ (p : PlacedLoop). loop_obligations s p.loop) (placed_loops shell) join));
      paired = AllHold-map _ d.edges pair;
    }

count_of_faces : (s : SolidData) (shell : Shell) → (shell_rows s shell).face_count ≡ length shell.faces
unfolding shell_rows
count_of_faces s shell = refl

linking_named : (s : SolidData) (d : ShellRows) (gaps : _) (unpaired : _) (l : Option Linking) → ArePaired d → AreLinkings d gaps unpaired l → gaps ≡ []
    → unpaired ≡ [] → AreFailing (link_obligations s d) (failing_vertices s l)
linking_named s d gaps unpaired None whole h no_gap no_edge = absurd (h (no_gap, no_edge))
linking_named s d gaps unpaired (Some l) whole h no_gap no_edge = subst (λ us. AreFailing (link_obligations s d) (map (unlinked_failing s) us)) (sym h.3)
    (unlinked_named s d l.leasts whole h.2)

pub are_named : (s : SolidData) (k : ℕ) (shell : Shell) (x : Faults) → IsNumberedSolid s → Has s.shells shell → AreFaults s k shell x → AreNamed s k shell x
are_named s k shell x numbered has h =
    let d : ShellRows = shell_rows s shell in
    record {
      join = subst (λ gs. AreFailing (join_obligations s shell) (map gap_failing gs)) (sym h.gaps) (gaps_named s shell);
      pair = subst (λ us. AreFailing (pair_obligations s d) (map (unpaired_failing s) us)) (sym h.unpaired) (unpaired_named s d);
      reach = λ no_gap no_edge. parts_named d shell x.firsts (paired_rows d (judged s k shell x numbered has h no_gap no_edge)) (count_of_faces s shell)
          h.firsts;
      link = λ no_gap no_edge. linking_named s d x.gaps x.unpaired x.linking (judged s k shell x numbered has h no_gap no_edge) h.linking no_gap no_edge;
      apart = subst (λ vs. AreFailing (apart_obligations s k d) (map (shared_failing s) vs)) (sym h.shared) (shared_named s k d);
    }

-- The first of all is the first false obligation.
pub first_named : (s : SolidData) (k : ℕ) (shell : Shell) (x : Faults) → IsNumberedSolid s → Has s.shells shell → AreFaults s k shell x
    → (y : Failing) (ys : List Failing) → failing_of s shell x ≡ y ∷ ys → FirstFalse (shell_obligations s (k, shell)) y
unfolding shell_obligations
first_named s k shell x numbered has h y ys is =
    let d : ShellRows = shell_rows s shell in
    let n : AreNamed s k shell x = are_named s k shell x numbered has h in
    first_generic (join_obligations s shell) (pair_obligations s d) (reach_obligations shell d) (link_obligations s d) (apart_obligations s k d)
    (map gap_failing x.gaps) (map (unpaired_failing s) x.unpaired) (failing_faces shell.faces x.firsts) (failing_vertices s x.linking)
    (map (shared_failing s) x.shared) n.join n.pair
    (λ a b. (
      n.reach (map_none gap_failing x.gaps a) (map_none (unpaired_failing s) x.unpaired b),
      n.link (map_none gap_failing x.gaps a)
          (map_none (unpaired_failing s) x.unpaired b),
    )) n.apart y ys is

no_face_apart : (fs : List FaceUse) (ps : List ℕ) (i : ℕ) → length fs ≡ length ps → failing_faces fs ps ≡ [] → apart_from i ps ≡ []
no_face_apart [] [] i long e = refl
no_face_apart [] (p ∷ ps) i long e = absurd (omega (arith, long))
no_face_apart (f ∷ fs) [] i long e = refl
no_face_apart (f ∷ fs) (zero ∷ ps) i long e = no_face_apart fs ps (i + 1) (omega (arith, long)) e
no_face_apart (f ∷ fs) (suc p ∷ ps) i long e = absurd cc

none_apart : (fs : List FaceUse) (ps : List ℕ) (i : ℕ) → apart_from i ps ≡ [] → failing_faces fs ps ≡ []
none_apart [] ps i e = refl
none_apart (f ∷ fs) [] i e = refl
none_apart (f ∷ fs) (zero ∷ ps) i e = none_apart fs ps (i + 1) e
none_apart (f ∷ fs) (suc p ∷ ps) i e = absurd cc

some_linking : (d : ShellRows) (gaps : _) (unpaired : _) (o : Option Linking) → AreLinkings d gaps unpaired o → gaps ≡ [] → unpaired ≡ []
    → (l : Linking) × (o ≡ Some l)
some_linking d gaps unpaired None h a b = absurd (h (a, b))
some_linking d gaps unpaired (Some l) h a b = (l, refl)

no_vertex : (s : SolidData) (os : List Obligation) (o : Option Linking) → AreLinked o → AreFailing os (failing_vertices s o) → AreFailing os []
no_vertex s os None h fails = absurd h
no_vertex s os (Some l) h fails = subst (λ us. AreFailing os (map (unlinked_failing s) us)) h fails

-- All hold exactly where nothing is found.
pub faultless_holds : (s : SolidData) (k : ℕ) (shell : Shell) (x : Faults) → IsNumberedSolid s → Has s.shells shell → AreFaults s k shell x → IsFaultless x
    → AllHold (shell_obligations s (k, shell))
unfolding shell_obligations
faultless_holds s k shell x numbered has h none =
    let d : ShellRows = shell_rows s shell in
    let n : AreNamed s k shell x = are_named s k shell x numbered has h in
    let join : AllHold (join_obligations s shell) = none_fails _ (subst (λ gs. AreFailing (join_obligations s shell) (map gap_failing gs)) none.gaps n.join) in
    let pair : AllHold (pair_obligations s d) =
    none_fails _ (subst (λ us. AreFailing (pair_obligations s d) (map (unpaired_failing s) us)) none.unpaired n.pair) in
    let reach : AllHold (reach_obligations shell d) =
    none_fails _ (subst (λ fs. AreFailing (reach_obligations shell d) fs) (none_apart shell.faces x.firsts 0 none.one_part)
    (n.reach none.gaps none.unpaired)) in
    let link : AllHold (link_obligations s d) = none_fails _ (no_vertex s (link_obligations s d) x.linking none.linked (n.link none.gaps none.unpaired)) in
    let apart : AllHold (apart_obligations s k d) =
    none_fails _ (subst (λ vs. AreFailing (apart_obligations s k d) (map (shared_failing s) vs)) none.shared n.apart) in
    AllHold-append _ (apart_obligations s k d)
    (AllHold-append _ (link_obligations s d)
    (AllHold-append _ (reach_obligations shell d) (AllHold-append (join_obligations s shell) (pair_obligations s d) join pair) reach) link) apart

pub holds_faultless : (s : SolidData) (k : ℕ) (shell : Shell) (x : Faults) → IsNumberedSolid s → Has s.shells shell → AreFaults s k shell x
    → AllHold (shell_obligations s (k, shell)) → IsFaultless x
unfolding shell_obligations
holds_faultless s k shell x numbered has h all =
    let d : ShellRows = shell_rows s shell in
    let n : AreNamed s k shell x = are_named s k shell x numbered has h in
    let a : List Obligation = join_obligations s shell in
    let b : List Obligation = pair_obligations s d in
    let c : List Obligation = reach_obligations shell d in
    let e : List Obligation = link_obligations s d in
    let g : List Obligation = apart_obligations s k d in
    let abce : AllHold (a ++ b ++ c ++ e) = AllHold-append_left (a ++ b ++ c ++ e) g all in
    let abc : AllHold (a ++ b ++ c) = AllHold-append_left (a ++ b ++ c) e abce in
    let ab : AllHold (a ++ b) = AllHold-append_left (a ++ b) c abc in
    let gaps : x.gaps ≡ [] = map_none gap_failing x.gaps (all_hold_none a _ (AllHold-append_left a b ab) n.join) in
    let unpaired : x.unpaired ≡ [] = map_none (unpaired_failing s) x.unpaired (all_hold_none b _ (AllHold-append_right a b ab) n.pair) in
    let l = some_linking d x.gaps x.unpaired x.linking h.linking gaps unpaired in
    record {
      gaps = gaps;
      unpaired = unpaired;
      one_part = no_face_apart shell.faces x.firsts 0 (sym (count_of_faces s shell) ∙ sym h.firsts.each)
          (all_hold_none c _ (AllHold-append_right (a ++ b) c abc) (n.reach gaps unpaired));
      linked = subst AreLinked (sym l.1)
          (map_none (unlinked_failing s) l.0.unlinked
          (all_hold_none e _ (AllHold-append_right (a ++ b ++ c) e abce) (subst (λ o. AreFailing e (failing_vertices s o)) l.1 (n.link gaps unpaired))));
      shared = map_none (shared_failing s) x.shared (all_hold_none g _ (AllHold-append_right (a ++ b ++ c ++ e) g all) n.apart);
    }

-- The shells that are left hold exactly where all do.
abbrev pub LeftHold : SolidData → ℕ → Type 0
LeftHold s i = AllHold (of_each (shell_obligations s) (enumerate_from i (drop i s.shells))) ↔ AllHold
    (of_each (shell_obligations s) (enumerate_from 0 s.shells))

shells_split : (s : SolidData) (i : ℕ) (h : Shell) → slice_get s.shells i ≡ Some h → of_each (shell_obligations s) (enumerate_from i (drop i s.shells))
    ≡ shell_obligations s (i, h) ++ of_each (shell_obligations s) (enumerate_from (i + 1) (drop (i + 1) s.shells))
shells_split s i h at = ap (λ hs. of_each (shell_obligations s) (enumerate_from i hs)) (split_at s.shells i h at)

pub shell_holds : (s : SolidData) (i : ℕ) (h : Shell) → slice_get s.shells i ≡ Some h → LeftHold s i → AllHold (shell_obligations s (i, h)) → LeftHold s (i + 1)
shell_holds s i h at left holds =
    let rest : List Obligation = of_each (shell_obligations s) (enumerate_from (i + 1) (drop (i + 1) s.shells)) in (
      λ more. left.0 (subst AllHold (sym (shells_split s i h at)) (AllHold-append (shell_obligations s (i, h)) rest holds more)),
      λ all. AllHold-append_right (shell_obligations s (i, h)) rest (subst AllHold (shells_split s i h at) (left.1 all)),
    )

pub shell_fails : (s : SolidData) (i : ℕ) (h : Shell) → slice_get s.shells i ≡ Some h → LeftHold s i → (AllHold (shell_obligations s (i, h)) → ⊥)
    → IsClosedSolid s → ⊥
unfolding solid_obligations
shell_fails s i h at left fails closed =
    let rest : List Obligation = of_each (shell_obligations s) (enumerate_from (i + 1) (drop (i + 1) s.shells)) in
    fails (AllHold-append_left (shell_obligations s (i, h)) rest (subst AllHold (shells_split s i h at) (left.1 ((closed_is_all_hold s).0 closed))))

pub shells_done : (s : SolidData) (i : ℕ) → length s.shells ≤ i → LeftHold s i → IsClosedSolid s
unfolding solid_obligations
shells_done s i past left =
    (closed_is_all_hold s).1 (left.0 (subst (λ hs. AllHold (of_each (shell_obligations s) (enumerate_from i hs))) (sym (drop_all i s.shells past)) tt))

-- a solid has fewer shells than faces
shells_fewer : (hs : List Shell) → All (λ (h : Shell). 0 < length h.faces) hs → length hs ≤ length (flat_map (λ (h : Shell). h.faces) hs)
shells_fewer [] all = omega arith
shells_fewer (h ∷ hs) all =
    omega (
      arith,
      all 0 h (omega arith),
      shells_fewer hs (λ i x lt. all (suc i) x (omega (arith, lt))),
      length-append h.faces
          (flat_map (λ (h : Shell). h.faces) hs),
    )

pub few_shells : (s : SolidData) → IsNumberedSolid s → length s.shells < 2 ^ 29
few_shells s numbered = omega (arith, shells_fewer s.shells numbered.each_shell, numbered.few_faces)
