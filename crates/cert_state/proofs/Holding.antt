-- What arrays of mates and faces tell of reach lines and turns.
use Rattle.std.specs.Prelude.{◌≡◌, ℕ, zero, suc, ◌+◌, ◌-◌, ◌<◌, ◌↔◌, Bool, true, List, Contains, Option, Some, None, slice_get}
use Rattle.std.proofs.Common.{refl, sym, ◌∙◌, ap, subst, arith}
use Rattle.std.proofs.lemmas.Option.{same_Some}
use Rattle.edge_uses.specs.declared.row.Row.{Row}
use Rattle.edge_uses.specs.ShellRows.{ShellRows}
use Rattle.cert_state.specs.Progress.{Progress, row_named, row_face, IsMate, FollowsAsNamed, TurnsTo, FitsReach}
use Rattle.cert_state.specs.CheckState.{above_zero, mate_in, HoldsMates, HoldsFaces}

pub none_some : {A : Type 0} (o : Option A) (x : A) → o ≡ None → o ≡ Some x → ⊥
none_some o x a b = let e : None ≡ Some x = sym a ∙ b in cc

above : (o : Option ℕ) (m : ℕ) → above_zero o ≡ Some m → 0 < m
above None m e = absurd (none_some None m refl e)
above (Some zero) m e = absurd (none_some None m refl e)
above (Some (suc n)) m e = let s : suc n ≡ m = same_Some (suc n) m e in omega (arith, s)

mate_above : (mates : List ℕ) (r m : ℕ) → mate_in mates r ≡ Some m → 0 < m
mate_above mates zero m e = absurd (none_some None m refl e)
mate_above mates (suc r) m e = above (slice_get mates r) m e

pub no_reach_mate : (d : ShellRows) (at : Progress) (mates : List ℕ) (row : ℕ) → HoldsMates mates at.mates → mate_in mates row ≡ None → FitsReach d at row → ⊥
no_reach_mate d at mates row holds none h = none_some (mate_in mates row) h.mate none ((holds row h.mate).0 h.mates)

reach_mate : (d : ShellRows) (at : Progress) (mates : List ℕ) (row m : ℕ) → HoldsMates mates at.mates → mate_in mates row ≡ Some m → (h : FitsReach d at row)
    → h.mate ≡ m
reach_mate d at mates row m holds is h = same_Some h.mate m (sym ((holds row h.mate).0 h.mates) ∙ is)

pub no_reach_row : (d : ShellRows) (at : Progress) (mates : List ℕ) (row m : ℕ) → HoldsMates mates at.mates → mate_in mates row ≡ Some m → row_named d m ≡ None
    → FitsReach d at row → ⊥
no_reach_row d at mates row m holds is none h =
    let e = reach_mate d at mates row m holds is h in
    none_some (row_face (row_named d m)) h.known (ap row_face none) (subst (λ z. row_face (row_named d z) ≡ Some h.known) e h.on_known)

pub reach_iff : (d : ShellRows) (at : Progress) (mates : List ℕ) (reached : List Bool) (row m : ℕ) (x y : Row) → HoldsMates mates at.mates
    → HoldsFaces reached at.reached
    → mate_in mates row ≡ Some m → row_named d row ≡ Some x → row_named d m ≡ Some y
    → FitsReach d at row ↔ (¬ (slice_get reached x.at.face.0 ≡ Some true)) × (slice_get reached y.at.face.0 ≡ Some true)
reach_iff d at mates reached row m x y holds faces is hx hy = (
  λ h. (let e = reach_mate d at mates row m holds is h in
      let ef : h.face ≡ x.at.face.0 = same_Some h.face x.at.face.0 (sym h.on_face ∙ ap row_face hx) in
      let on : row_face (row_named d m) ≡ Some h.known = subst (λ z. row_face (row_named d z) ≡ Some h.known) e h.on_known in
      let ek : h.known ≡ y.at.face.0 = same_Some h.known y.at.face.0 (sym on ∙ ap row_face hy) in (
        (λ k. h.new (subst (Contains at.reached) (sym ef) ((faces x.at.face.0).1 k))),
        subst (λ z. slice_get reached z ≡ Some true) ek
            ((faces h.known).0 h.old),
      )),
  λ p. record {
    mate = m;
    face = x.at.face.0;
    known = y.at.face.0;
    mates = (holds row m).1 is;
    on_face = ap row_face hx;
    on_known = ap row_face hy;
    new = λ k. p.0 ((faces x.at.face.0).0 k);
    old = (faces y.at.face.0).1 p.1;
  },
)

pub turn_none : (d : ShellRows) (pairs : List (ℕ × ℕ)) (mates : List ℕ) (row s : ℕ) → HoldsMates mates pairs → mate_in mates row ≡ None → TurnsTo d pairs row s
    → ⊥
turn_none d pairs mates row s holds none (m, is_mate, on) = none_some (mate_in mates row) m none ((holds row m).0 is_mate)

follows_to : (d : ShellRows) (m s : ℕ) → FollowsAsNamed d m s → slice_get d.follows (m - 1) ≡ Some (s - 1) × (0 < s)
follows_to d zero s h = absurd h
follows_to d (suc k) zero h = absurd h
follows_to d (suc k) (suc t) h =
    let a : suc k - 1 ≡ k = omega arith in
    let b : suc t - 1 ≡ t = omega arith in
    (ap (slice_get d.follows) a ∙ (h ∙ ap (λ z. Some z) (sym b)), omega arith)

follows_from_array : (d : ShellRows) (m n : ℕ) → 0 < m → slice_get d.follows (m - 1) ≡ Some n → FollowsAsNamed d m (suc n)
follows_from_array d zero n h f = absurd (omega (arith, h))
follows_from_array d (suc k) n h f = let a : suc k - 1 ≡ k = omega arith in ap (slice_get d.follows) (sym a) ∙ f

turn_mate : (pairs : List (ℕ × ℕ)) (mates : List ℕ) (row m k : ℕ) → HoldsMates mates pairs → mate_in mates row ≡ Some m → IsMate pairs row k → k ≡ m
turn_mate pairs mates row m k holds is mate = same_Some k m (sym ((holds row k).0 mate) ∙ is)

pub turn_end : (d : ShellRows) (pairs : List (ℕ × ℕ)) (mates : List ℕ) (row m s : ℕ) → HoldsMates mates pairs → mate_in mates row ≡ Some m
    → slice_get d.follows (m - 1) ≡ None → TurnsTo d pairs row s → ⊥
turn_end d pairs mates row m s holds is none (k, is_mate, on) =
    let e = turn_mate pairs mates row m k holds is is_mate in
    none_some (slice_get d.follows (m - 1)) (s - 1) none (follows_to d m s (subst (λ z. FollowsAsNamed d z s) e on)).0

pub turn_iff : (d : ShellRows) (pairs : List (ℕ × ℕ)) (mates : List ℕ) (row m n s : ℕ) → HoldsMates mates pairs → mate_in mates row ≡ Some m
    → slice_get d.follows (m - 1) ≡ Some n
    → (Some (n + 1) ≡ Some s) ↔ TurnsTo d pairs row s
turn_iff d pairs mates row m n s holds is next = (
  λ e. (let same : suc n ≡ s = (let f : n + 1 ≡ s = same_Some (n + 1) s e in omega (arith, f)) in
      (m, (holds row m).1 is, subst (FollowsAsNamed d m) same (follows_from_array d m n (mate_above mates row m is) next))),
  λ (k, is_mate, on). (let e = turn_mate pairs mates row m k holds is is_mate in
      let f = follows_to d m s (subst (λ z. FollowsAsNamed d z s) e on) in
      let g : n ≡ s - 1 = same_Some n (s - 1) (sym next ∙ f.0) in
      ap (λ z. Some z) (omega (arith, g, f.1))),
)

-- where the row is there, and its mate, a reach line is fitting by the two faces alone
pub reach_on : (d : ShellRows) (at : Progress) (mates : List ℕ) (reached : List Bool) (row m : ℕ) (x y : Row) → HoldsMates mates at.mates
    → HoldsFaces reached at.reached
    → mate_in mates row ≡ Some m → row_named d row ≡ Some x → row_named d m ≡ Some y → (slice_get reached x.at.face.0 ≡ Some true → ⊥)
    → slice_get reached y.at.face.0 ≡ Some true
    → FitsReach d at row × (row_face (row_named d row) ≡ Some x.at.face.0)
reach_on d at mates reached row m x y holds faces is hx hy new old =
    ((reach_iff d at mates reached row m x y holds faces is hx hy).1 (new, old), ap row_face hx)
