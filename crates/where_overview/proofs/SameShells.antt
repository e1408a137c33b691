-- What is said of one solid is said of another that names the same shells, but for what is said of its own entry.
use Rattle.std.specs.Prelude.{◌≡◌, ℕ, ◌+◌, ℤ, pos, Bool, not, List, [], ◌∷◌, ◌++◌, length, map, flat_map, filter_map, take, Contains, slice_get, if◌then◌else◌}
use Rattle.std.specs.List.{enumerate_from}
use Rattle.std.proofs.Common.{refl, sym, ◌∙◌, ap, subst, inl, inr, ◌⊎◌, ⊎_elim}
use Rattle.iges_params.specs.Contents.{Contents}
use Rattle.brep_lists.specs.declared.entity_kind.EntityKind.TheVariants.{Solid as solid}
use Rattle.brep_walk.specs.Places.{places, record_places, shell_places, shells}
use Rattle.brep_walk.specs.SolidOf.{solid_listing, solid_of}
use Rattle.brep_walk.proofs.Found.{solid_lists}
use Rattle.solid_data.specs.Obligations.{Obligation, obligation, AllHold, FirstFalse, after_each, of_each}
use Rattle.solid_data.specs.Ring.{next_of_each, previous_of_each, numbers_from}
use Rattle.solid_data.specs.SolidData.{SolidData, PlacedLoop, placed_loops, shell_uses, ends_of, vertices_used, shell_edges, shell_vertices, same_flag, occurring}
use Rattle.solid_data.specs.SolidData.{edge_name, vertex_name}
use Rattle.solid_data.specs.declared.solid.Edge.{Edge}
use Rattle.solid_data.specs.declared.solid.LoopUse.{LoopUse}
use Rattle.solid_data.specs.declared.solid.LoopUse.TheVariants.{EdgeUse, VertexUse}
use Rattle.solid_data.specs.declared.solid.Shell.{Shell}
use Rattle.solid_data.specs.declared.solid.VertexKey.{VertexKey}
use Rattle.solid_data.specs.declared.verdict.Failing.{Failing}
use Rattle.solid_data.specs.declared.verdict.Rule.TheVariants.{Unjoined, Unpaired, Unlinked, Shared}
use Rattle.solid_data.specs.declared.verdict.Verdict.{Verdict}
use Rattle.solid_data.specs.declared.verdict.Verdict.TheVariants.{Closed, Fails}
use Rattle.solid_data.proofs.ObligationLemmas.{AllHold-append, AllHold-append_left, AllHold-append_right, FirstFalse-append_front, FirstFalse-append_rest}
use Rattle.solid_data.proofs.ObligationLemmas.{FirstFalse-not_all}
use Rattle.edge_uses.specs.declared.row.Row.{Row}
use Rattle.edge_uses.specs.Joins.{begin_of, start_of, end_of, ends_and_starts}
use Rattle.edge_uses.specs.ShellRows.{ShellRows, row_of_edge, row_of, loop_rows, follows_from, point_of, shell_rows}
use Rattle.edge_uses.specs.RowRelations.{IsPaired}
use Rattle.edge_uses.specs.Around.{IsLinked}
use Rattle.shell_rules.specs.ShellObligations.{at_edge, at_vertex, reach_obligations, shell_obligations, solid_obligations}
use Rattle.solid_verdict.specs.Closed.{IsVerdictOn, obligations}
use Rattle.where_overview.specs.Recalled.{IsSolidOf, IsOfOther}

-- Where all of os hold, all of ps do; and what fails first in os fails first in ps, unless it names entity m.
record Says (m : ℕ) (os ps : List Obligation) : Type 0 where
  holds : AllHold os → AllHold ps
  fails : (x : Failing) → ¬ (x.entity.0 ≡ m) → FirstFalse os x → FirstFalse ps x

says_same : (m : ℕ) (os : List Obligation) → Says m os os
says_same m os = record { holds = λ h. h; fails = λ x other h. h }

-- the first false one of the whole is that of the front, or the front holds
split : (os ps : List Obligation) (x : Failing) → FirstFalse (os ++ ps) x → FirstFalse os x ⊎ (AllHold os × FirstFalse ps x)
split [] ps x h = inr (tt, h)
split (o ∷ os) ps x h =
    ⊎_elim (λ bad. inl (inl bad))
    (λ rest. ⊎_elim (λ front. inl (inr (rest.0, front))) (λ behind. inr ((rest.0, behind.0), behind.1)) (split os ps x rest.1)) h

says_append : (m : ℕ) (os qs ps rs : List Obligation) → Says m os ps → Says m qs rs → Says m (os ++ qs) (ps ++ rs)
says_append m os qs ps rs a b = record {
  holds = λ h. AllHold-append ps rs (a.holds (AllHold-append_left os qs h)) (b.holds (AllHold-append_right os qs h));
  fails = λ x other h.
      ⊎_elim (λ front. FirstFalse-append_front ps rs x (a.fails x other front))
      (λ behind. FirstFalse-append_rest ps rs x (a.holds behind.0) (b.fails x other behind.1)) (split os qs x h);
}

-- one of the same fact, which names the same unless it names entity m
says_one : (m : ℕ) (holds : Type 0) (a b : Failing) (os ps : List Obligation) → (¬ (a.entity.0 ≡ m) → a ≡ b) → Says m os ps
    → Says m (record { failing = a; holds = holds } ∷ os) (record { failing = b; holds = holds } ∷ ps)
says_one m holds a b os ps same rest = record {
  holds = λ h. (h.0, rest.holds h.1);
  fails = λ x other h.
      ⊎_elim (λ bad. inl (bad.0, bad.1 ∙ same (λ e. other (ap (λ (y : Failing). y.entity.0) bad.1 ∙ e)))) (λ more. inr (more.0, rest.fails x other more.1)) h;
}

says_after : {A : Type 0} (m : ℕ) (g h : List A → A → List Obligation) → ((before : List A) (x : A) → Says m (g before x) (h before x)) → (before xs : List A)
    → Says m (after_each g before xs) (after_each h before xs)
says_after m g h each before [] = says_same m []
says_after m g h each before (x ∷ xs) =
    says_append m (g before x) (after_each g (before ++ x ∷ []) xs) (h before x) (after_each h (before ++ x ∷ []) xs) (each before x)
    (says_after m g h each (before ++ x ∷ []) xs)

says_each : {A : Type 0} (m : ℕ) (g h : A → List Obligation) → ((x : A) → Says m (g x) (h x)) → (xs : List A) → Says m (of_each g xs) (of_each h xs)
says_each m g h each [] = says_same m []
says_each m g h each (x ∷ xs) = says_append m (g x) (of_each g xs) (h x) (of_each h xs) (each x) (says_each m g h each xs)

-- ---- the records

shell_says : (f : Contents) (m n : ℕ) (before : List (ℤ × Bool)) (item : ℤ × Bool) → Says m (shell_places f (pos m) before item) (shell_places f (pos n) before item)
unfolding shell_places
shell_says f m n before item =
    says_one m _ _ _ _ _ (λ other. absurd (other refl))
    (says_one m _ _ _ _ _ (λ other. absurd (other refl))
    (says_one m _ _ _ _ _ (λ other. refl)
    (says_one m _ _ _ _ _ (λ other. absurd (other refl)) (says_same m _))))

-- ---- the shells

-- what the obligations on a shell are made of
record Made : Type 0 where
  ends : LoopUse → ℕ
  starts : LoopUse → ℕ
  edges : List Edge
  vertices : List VertexKey
  before : List ℕ
  rows : ShellRows

abbrev said : Made → Shell → List Obligation
said d h =
    of_each (λ (p : PlacedLoop). map (λ (u : ℕ × ℕ × ℕ). obligation Unjoined p.loop.entity.0 u.0 (u.1 ≡ u.2))
    (ends_and_starts 1 (map d.ends p.loop.uses) (next_of_each (map d.starts p.loop.uses)))) (placed_loops h)
    ++ map (λ e. at_edge Unpaired (edge_name (slice_get d.edges e)) (IsPaired d.rows e)) d.rows.edges
    ++ reach_obligations h d.rows
    ++ map (λ v. at_vertex Unlinked (vertex_name (slice_get d.vertices v)) (IsLinked d.rows v)) d.rows.vertices
    ++ map (λ v. at_vertex Shared (vertex_name (slice_get d.vertices v)) (¬ Contains d.before v)) d.rows.vertices

abbrev made : SolidData → ℕ → Shell → Made
made s k h = record {
  ends = end_of s;
  starts = start_of s;
  edges = s.edges;
  vertices = s.vertices;
  before = flat_map (shell_vertices s) (take k s.shells);
  rows = shell_rows s h;
}

module _ (m : ℕ) (a b : SolidData) (shells_are : a.shells ≡ b.shells) (edges_are : a.edges ≡ b.edges) (vertices_are : a.vertices ≡ b.vertices) where
  starts_same : start_of a ≡ start_of b
  starts_same = λ i u. at u i
    where
      at : (u : LoopUse) → start_of a u ≡ start_of b u
      at (EdgeUse edge along) = ap (λ (es : List Edge). begin_of (slice_get es edge.0) along) edges_are
      at (VertexUse vertex) = refl

  ends_same : end_of a ≡ end_of b
  ends_same = λ i u. at u i
    where
      at : (u : LoopUse) → end_of a u ≡ end_of b u
      at (EdgeUse edge along) = ap (λ (es : List Edge). begin_of (slice_get es edge.0) (not along)) edges_are
      at (VertexUse vertex) = refl

  used_same : vertices_used a ≡ vertices_used b
  used_same = λ i u. at u i
    where
      at : (u : LoopUse) → vertices_used a u ≡ vertices_used b u
      at (EdgeUse edge along) = ap (λ (es : List Edge). ends_of (slice_get es edge.0)) edges_are
      at (VertexUse vertex) = refl

  row_same : (p : PlacedLoop) → row_of a p ≡ row_of b p
  row_same p = λ i u. at u i
    where
      at : (u : LoopUse) → row_of a p u ≡ row_of b p u
      at (EdgeUse edge along) = ap (λ (es : List Edge). row_of_edge p.at edge (same_flag along p.forwards) (slice_get es edge.0)) edges_are
      at (VertexUse vertex) = refl

  rows_same : (p : PlacedLoop) → loop_rows a p ≡ loop_rows b p
  rows_same p = ap (λ g. filter_map g p.loop.uses) (row_same p)

  follows_same : (base : ℕ) (ps : List PlacedLoop) → follows_from a base ps ≡ follows_from b base ps
  follows_same base [] = refl
  follows_same base (p ∷ ps) =
      ap (λ n. (if p.forwards then next_of_each (numbers_from base n) else previous_of_each (numbers_from base n)) ++ follows_from a (base + n) ps)
      (ap length (rows_same p))
      ∙ ap (λ ns. (if p.forwards then next_of_each (numbers_from base (length (loop_rows b p))) else previous_of_each
      (numbers_from base (length (loop_rows b p)))) ++ ns) (follows_same (base + length (loop_rows b p)) ps)

  shell_vertices_same : (h : Shell) → shell_vertices a h ≡ shell_vertices b h
  shell_vertices_same h = ap (λ g. flat_map g (shell_uses h)) used_same

  points_same : (p : PlacedLoop) → point_of p p.loop.uses (map (λ (r : Row). r.edge.0) (loop_rows a p))
      ≡ point_of p p.loop.uses (map (λ (r : Row). r.edge.0) (loop_rows b p))
  points_same p = ap (λ rs. point_of p p.loop.uses (map (λ (r : Row). r.edge.0) rs)) (rows_same p)

  shell_rows_same : (h : Shell) → shell_rows a h ≡ shell_rows b h
  unfolding shell_rows
  shell_rows_same h = λ i. record {
    rows = flat_map (λ p. rows_same p i) (placed_loops h);
    follows = follows_same 0 (placed_loops h) i;
    face_count = length h.faces;
    edges = occurring (numbers_from 0 (length (edges_are i))) (shell_edges h);
    vertices = occurring (numbers_from 0 (length (vertices_are i))) (shell_vertices_same h i);
    points = flat_map (λ p. points_same p i) (placed_loops h);
  }

  before_same : (k : ℕ) → flat_map (shell_vertices a) (take k a.shells) ≡ flat_map (shell_vertices b) (take k b.shells)
  before_same k = λ i. flat_map (λ h. shell_vertices_same h i) (take k (shells_are i))

  made_same : (k : ℕ) (h : Shell) → made a k h ≡ made b k h
  made_same k h = λ i. record {
    ends = ends_same i;
    starts = starts_same i;
    edges = edges_are i;
    vertices = vertices_are i;
    before = before_same k i;
    rows = shell_rows_same h i;
  }

  of_shell : (x : ℕ × Shell) → Says m (shell_obligations a x) (shell_obligations b x)
  unfolding shell_obligations
  of_shell x = subst (λ (d : Made). Says m (said (made a x.0 x.1) x.1) (said d x.1)) (made_same x.0 x.1) (says_same m (said (made a x.0 x.1) x.1))

  solid_says : Says m (solid_obligations a) (solid_obligations b)
  unfolding solid_obligations
  solid_says =
      subst (λ (hs : List Shell). Says m (of_each (shell_obligations a) (enumerate_from 0 a.shells)) (of_each (shell_obligations b) (enumerate_from 0 hs)))
      shells_are (says_each m (shell_obligations a) (shell_obligations b) of_shell (enumerate_from 0 a.shells))

listed_says : (f : Contents) (m n : ℕ) (items : List (ℤ × Bool))
    → Says m (solid_obligations (solid_listing f m items)) (solid_obligations (solid_listing f n items))
unfolding solid_listing
listed_says f m n items = solid_says m (solid_listing f m items) (solid_listing f n items) refl refl refl

-- ---- both

module _ (f : Contents) (m n : ℕ) (items : List (ℤ × Bool)) (one : IsSolidOf f m items) (here : IsSolidOf f n items) where
  of_solid : Says m (solid_obligations (solid_of f m)) (solid_obligations (solid_of f n))
  of_solid =
      subst (λ (s : SolidData). Says m (solid_obligations s) (solid_obligations (solid_of f n)))
      (ap (solid_listing f m) (sym one.shells_are) ∙ sym (solid_lists f m))
      (subst (λ (s : SolidData). Says m (solid_obligations (solid_listing f m items)) (solid_obligations s))
      (ap (solid_listing f n) (sym here.shells_are) ∙ sym (solid_lists f n)) (listed_says f m n items))

  of_record : Says m (record_places f (pos m) 0 solid (pos m)) (record_places f (pos n) 0 solid (pos n))
  of_record = record {
    holds = λ h. here.fits;
    fails = λ x away bad. absurd (FirstFalse-not_all (record_places f (pos m) 0 solid (pos m)) x bad one.fits);
  }

  of_shells : Says m (after_each (shell_places f (pos m)) [] (shells f (pos m))) (after_each (shell_places f (pos n)) [] (shells f (pos n)))
  of_shells =
      subst (λ xs. Says m (after_each (shell_places f (pos m)) [] xs) (after_each (shell_places f (pos n)) [] (shells f (pos n)))) (sym one.shells_are)
      (subst (λ xs. Says m (after_each (shell_places f (pos m)) [] items) (after_each (shell_places f (pos n)) [] xs)) (sym here.shells_are)
      (says_after m (shell_places f (pos m)) (shell_places f (pos n)) (shell_says f m n) [] items))

  all_says : Says m (obligations f m) (obligations f n)
  unfolding obligations places
  all_says =
      says_append m (places f m) (solid_obligations (solid_of f m)) (places f n) (solid_obligations (solid_of f n))
      (says_append m (record_places f (pos m) 0 solid (pos m)) (after_each (shell_places f (pos m)) [] (shells f (pos m)))
      (record_places f (pos n) 0 solid (pos n)) (after_each (shell_places f (pos n)) [] (shells f (pos n))) of_record of_shells)
      of_solid

  -- The verdict on a solid that names the same shells is the verdict here, unless it names the entry of that solid.
  pub same_verdict : (v : Verdict) → IsOfOther m v → IsVerdictOn f m v → IsVerdictOn f n v
  same_verdict Closed away h = all_says.holds h
  same_verdict (Fails x) away h = all_says.fails x away h
