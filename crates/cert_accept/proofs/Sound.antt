-- What has legal lines is closed.
use Rattle.std.specs.Prelude.{◌≡◌, ℕ, zero, suc, ◌+◌, ◌<◌, List, [], ◌∷◌, length, flat_map, Option, Some, None, slice_get}
use Rattle.std.specs.List.{AllByRecursion, enumerate_from}
use Rattle.std.proofs.Common.{refl, sym, subst, arith}
use Rattle.std.proofs.lemmas.Option.{slice_get_within}
use Rattle.solid_data.specs.Ring.{numbers_from}
use Rattle.solid_data.specs.SolidData.{SolidData, PlacedLoop, placed_loops}
use Rattle.solid_data.specs.declared.solid.Shell.{Shell}
use Rattle.edge_uses.specs.ShellRows.{rows_of, shell_rows}
use Rattle.edge_uses.specs.Before.{IsApart}
use Rattle.edge_uses.specs.Joins.{IsJoined}
use Rattle.edge_uses.specs.RowRelations.{IsPaired}
use Rattle.edge_uses.specs.Around.{IsReached, IsLinked}
use Rattle.shell_rules.specs.Closed.{IsClosedShell, IsClosedSolid}
use Rattle.edge_uses.proofs.RowLemmas.{ends_meet}
use Rattle.solid_data.proofs.Members.{Has, All-at, All-from, has_flat_map, has_get}
use Rattle.cert_state.specs.Progress.{rows_of_shell}
use Rattle.topo_certificate.specs.Legal.{IsLegal}
use Rattle.edge_uses.proofs.RowShape.{ends_exchanged}
use Rattle.solid_data.proofs.Occurring.{VerticesKnown, number_below}
use Rattle.edge_uses.proofs.RowFacts.{edges_known, starts_known, points_known, faces_known}
use Rattle.cert_state.proofs.Segment.{AreGoodRows}
use Rattle.topo_certificate.proofs.Shells.{AreProper, legal_is_proper}
use Rattle.topo_certificate.proofs.Forward.{legal_behind}
use Rattle.cert_state.proofs.PointOrder.{faces_of_rows}
use Rattle.cert_lines.specs.declared.version.Version.{Version}
use Rattle.iges_params.specs.Contents.{Contents}
use Rattle.brep_walk.specs.SolidOf.{solid_of}
use Rattle.cert_accept.specs.Accepted.{AllJoin, AllApart, Certify}
use Rattle.brep_walk.proofs.KnownVertices.{vertices_known}

-- no rows keep everything
no_rows : (s : SolidData) → AreGoodRows (rows_of s None)
no_rows s = record {
  edges = tt;
  starts = tt;
  points = tt;
  faces = tt;
  meet = λ r t a b follows at_r at_t. absurd (let h : None ≡ Some t = follows in cc);
  exchanged = λ n m a b at_n at_m one opposite. absurd (let h : None ≡ Some a = at_n in cc);
}

pub shell_joined : (s : SolidData) (shell : Shell) → AllJoin s → Has s.shells shell
    → AllByRecursion (λ (p : PlacedLoop). IsJoined s p.loop) (placed_loops shell)
shell_joined s shell joined here = All-from (λ (p : PlacedLoop). IsJoined s p.loop) (placed_loops shell)
    (λ p m. All-at (λ (q : PlacedLoop). IsJoined s q.loop) (flat_map placed_loops s.shells) joined p (has_flat_map placed_loops s.shells shell p here m))

-- the vertices that the shells use are vertices of the solid
abbrev pub AllKnown : SolidData → Type 0
AllKnown s = (shell : Shell) → Has s.shells shell → VerticesKnown s shell

good_shell : (s : SolidData) (shell : Shell) → AllJoin s → AllKnown s → Has s.shells shell → AreGoodRows (shell_rows s shell)
good_shell s shell joined known here = record {
  edges = edges_known s shell;
  starts = starts_known s shell (known shell here);
  points = points_known s shell (known shell here);
  faces = subst (λ n. AllByRecursion (λ r. r.at.face.0 < n) (shell_rows s shell).rows) (sym (faces_of_rows s shell)) (faces_known s shell);
  meet = ends_meet s shell (shell_joined s shell joined here);
  exchanged = ends_exchanged s shell;
}

pub good_rows : (s : SolidData) → AllJoin s → AllKnown s → (k : ℕ) → AreGoodRows (rows_of_shell s k)
good_rows s joined known zero = no_rows s
good_rows s joined known (suc k) = at_shell (slice_get s.shells k) refl
  where
    at_shell : (o : Option Shell) → slice_get s.shells k ≡ o → AreGoodRows (rows_of s o)
    at_shell None e = no_rows s
    at_shell (Some shell) e = good_shell s shell joined known (has_get s.shells k shell e)

-- each of the shells, with its place
enumerated : (base : ℕ) (xs : List Shell) (P : ℕ × Shell → Type 0) → ((k : ℕ) (x : Shell) → slice_get xs k ≡ Some x → P (base + k, x))
    → AllByRecursion P (enumerate_from base xs)
enumerated base [] P h = tt
enumerated base (x ∷ xs) P h =
    let zero_more : base + 0 ≡ base = omega arith in (
      subst (λ n. P (n, x)) zero_more (h 0 x refl),
      enumerated (base + 1) xs P (λ k y e. let more : base + suc k ≡ base + 1 + k = omega arith in subst (λ n. P (n, y)) more (h (suc k) y e)),
    )

both_all : {A : Type 0} (P Q R : A → Type 0) (xs : List A) → ((x : A) → P x → Q x → R x) → AllByRecursion P xs → AllByRecursion Q xs → AllByRecursion R xs
both_all P Q R [] f p q = tt
both_all P Q R (x ∷ xs) f p q = (f x p.0 q.0, both_all P Q R xs f p.1 q.1)

-- What joins, is apart and has legal lines is closed.
pub legal_is_closed : (version : Version) (s : SolidData) (lines : List (List ℕ)) → AllKnown s → AllJoin s → AllApart s → IsLegal version s lines
    → IsClosedSolid s
legal_is_closed version s lines known joined apart legal =
    both_all (λ (h : ℕ × Shell). slice_get s.shells h.0 ≡ Some h.1) (λ (h : ℕ × Shell). AllByRecursion (IsApart s h.0) (shell_rows s h.1).vertices)
    (λ (h : ℕ × Shell). IsClosedShell s h.0 h.1)
    (enumerate_from 0 s.shells) closed_at
    (enumerated 0 s.shells (λ (h : ℕ × Shell). slice_get s.shells h.0 ≡ Some h.1)
    (λ k x e. let same : k ≡ 0 + k = omega arith in subst (λ n. slice_get s.shells n ≡ Some x) same e))
    apart
  where
    closed_at : (h : ℕ × Shell) → slice_get s.shells h.0 ≡ Some h.1 → AllByRecursion (IsApart s h.0) (shell_rows s h.1).vertices → IsClosedShell s h.0 h.1
    closed_at h at each_apart =
        let proper : AreProper (rows_of s (slice_get s.shells h.0)) = legal_is_proper version s (good_rows s joined known) lines
        (legal_behind version s lines legal) h.0 (slice_get_within s.shells h.0 h.1 at) in
        let here : AreProper (shell_rows s h.1) = subst (λ o. AreProper (rows_of s o)) at proper in
        record {
          joined = shell_joined s h.1 joined (has_get s.shells h.0 h.1 at);
          paired = All-from (IsPaired (shell_rows s h.1)) (shell_rows s h.1).edges here.paired;
          reached = All-from (IsReached (shell_rows s h.1)) (numbers_from 0 (length h.1.faces))
              (λ f m. here.reached f (subst (λ n. f < n) (sym (faces_of_rows s h.1)) (let b = number_below 0 (length h.1.faces) f m in omega (arith, b.1))));
          linked = All-from (IsLinked (shell_rows s h.1)) (shell_rows s h.1).vertices here.linked;
          apart = each_apart;
        }

-- The solid that lines certify is closed.
pub certified_is_closed : (v : Version) (f : Contents) (n : ℕ) (lines : List (List ℕ)) → Certify v f n lines → IsClosedSolid (solid_of f n)
unfolding solid_of
certified_is_closed v f n lines a = legal_is_closed v (solid_of f n) lines (vertices_known f n) a.joined a.apart a.legal
