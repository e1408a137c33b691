-- What holds of a closed solid holds of its shells as open ones.
use Rattle.std.specs.Prelude.{◌≡◌, ◌⊎◌, ℕ, ◌+◌, ℤ, pos, Bool, true, false, List, [], ◌∷◌, ◌++◌, map, flat_map, Contains, Option, Some, None, IsSomeAnd}
use Rattle.std.specs.List.{enumerate_from}
use Rattle.std.proofs.Common.{refl, sym, ap, subst, inl, inr}
use Rattle.iges_params.specs.Contents.{Contents}
use Rattle.iges_params.specs.Named.{named}
use Rattle.brep_lists.specs.declared.entity_kind.EntityKind.TheVariants.{Shell as shell}
use Rattle.brep_numbering.specs.Keys.{Keys}
use Rattle.brep_walk.specs.OpenPlaces.{NamesShell, open_places, shell_solid_of}
use Rattle.brep_walk.specs.Places.{NamesKind, shells, faces, loops, numbers, loop_places, face_places, shell_places}
use Rattle.brep_walk.specs.SolidOf.{shell_by, keys_in, solid_listing}
use Rattle.brep_walk.proofs.Found.{shells_hold, solid_lists, edges_found, listed_solid}
use Rattle.solid_data.specs.Obligations.{Obligation, AllHold, after_each}
use Rattle.solid_data.specs.SolidData.{SolidData}
use Rattle.solid_data.specs.declared.solid.Shell.{Shell}
use Rattle.solid_data.proofs.Members.{Has, Has-from_Contains, Contains-from_Has, All-at, has_left, has_right, has_append, has_flat_map, from_flat_map, map_has}
use Rattle.solid_data.proofs.ObligationLemmas.{AllHold-append, AllHold-append_left, AllHold-append_right}
use Rattle.shell_rules.specs.Closed.{IsClosedShell, IsClosedSolid}
use Rattle.shell_laws.proofs.TurnedShell.{turned_shell}
use Rattle.open_certificate.specs.Sound.{IsBorder}
use Rattle.open_certificate.proofs.ClosedShells.{closed_is_sound}
use Rattle.open_certificate.proofs.Sound.{hold_of_shell, rows_are}
use Rattle.open_laws.specs.Laws.{ShellsHavePlaces, ClosedIsSound}
use Rattle.open_laws.proofs.Renumbers.{mine, closed_alone}

-- Places hold where fewer numbers were named before.

fewer : {A : Type 0} (g h : List A → A → List Obligation) → ((b : List A) (x : A) → AllHold (g b x) → AllHold (h b x)) → (b xs : List A)
    → AllHold (after_each g b xs) → AllHold (after_each h b xs)
fewer g h step b [] all = tt
fewer g h step b (x ∷ xs) all =
    AllHold-append (h b x) (after_each h (b ++ x ∷ []) xs) (step b x (AllHold-append_left (g b x) (after_each g (b ++ x ∷ []) xs) all))
    (fewer g h step (b ++ x ∷ []) xs (AllHold-append_right (g b x) (after_each g (b ++ x ∷ []) xs) all))

has_more : (v w b : List ℤ) → ((z : ℤ) → Has w z → Has v z) → (z : ℤ) → Has (w ++ b) z → Has (v ++ b) z
has_more v w b within z h = by_side (has_append w b z h)
  where
    by_side : Has w z ⊎ Has b z → Has (v ++ b) z
    by_side (inl m) = has_left v b z (within z m)
    by_side (inr m) = has_right v b z m

still_fresh : (v w b : List ℤ) → ((z : ℤ) → Has w z → Has v z) → (z : ℤ) → ¬ Contains (v ++ b) z → ¬ Contains (w ++ b) z
still_fresh v w b within z fresh again = fresh (Contains-from_Has (v ++ b) z (has_more v w b within z (Has-from_Contains (w ++ b) z again)))

loop_fewer : (f : Contents) (c : ℤ) (v w : List ℤ) → ((z : ℤ) → Has w z → Has v z) → (b : List ℤ) (l : ℤ) → AllHold (loop_places f c v b l)
    → AllHold (loop_places f c w b l)
unfolding loop_places
loop_fewer f c v w within b l (names, (kind, (layout, (fresh, rest)))) = (names, (kind, (layout, (still_fresh v w b within l fresh, rest))))

-- the loops of faces that were named before are fewer too
loops_within : (f : Contents) (u : List ℤ) (cs : List ℤ) (z : ℤ) → Has (flat_map (loops f) cs) z → Has (flat_map (loops f) (u ++ cs)) z
loops_within f u cs z h = let c = from_flat_map (loops f) cs z h in has_flat_map (loops f) (u ++ cs) c.0 z (has_right u cs c.0 c.1) c.2

face_fewer : (f : Contents) (s : ℤ) (u : List ℤ) (b : List (ℤ × Bool)) (c : ℤ × Bool) → AllHold (face_places f s u b c) → AllHold (face_places f s [] b c)
unfolding face_places
face_fewer f s u b c (names, (kind, (layout, (fresh, (surface, rest))))) = (
  names,
  (
    kind,
    (
      layout,
      (
        still_fresh u [] (numbers b) (λ z h. absurd h) c.0 fresh,
        (
          surface,
          fewer (loop_places f c.0 (flat_map (loops f) (u ++ numbers b))) (loop_places f c.0 (flat_map (loops f) (numbers b)))
              (loop_fewer f c.0 (flat_map (loops f) (u ++ numbers b)) (flat_map (loops f) (numbers b)) (loops_within f u (numbers b))) [] (loops f c.0) rest,
        ),
      ),
    ),
  ),
)

some_weaker : {A : Type 0} (o : Option A) (P Q : A → Type 0) → ((x : A) → P x → Q x) → IsSomeAnd o P → IsSomeAnd o Q
some_weaker None P Q f h = h
some_weaker (Some x) P Q f h = f x h

-- a closed shell may be taken for an open one
either_form : (f : Contents) (s : ℤ) → NamesKind shell f s → NamesShell f s
either_form f s h = some_weaker (named f s) _ _ (λ e (kind, form). (kind, inl form)) h

shell_opens : (f : Contents) (n : ℤ) (b : List (ℤ × Bool)) (m : ℕ) (flag : Bool) → AllHold (shell_places f n b (pos m, flag)) → AllHold (open_places f m)
unfolding shell_places open_places
shell_opens f n b m flag (names, (kind, (layout, (fresh, rest)))) =
    let used : List ℤ = flat_map (λ s. numbers (faces f s)) (numbers b) in (
      names,
      (
        either_form f (pos m) kind,
        (layout, fewer (face_places f (pos m) used) (face_places f (pos m) []) (face_fewer f (pos m) used) [] (faces f (pos m)) rest),
      ),
    )

pub shells_have_places : ShellsHavePlaces
shells_have_places f n m flag all listed =
    let s = shells_hold f n all (pos m, flag) (Has-from_Contains (shells f (pos n)) (pos m, flag) listed) in
    shell_opens f (pos n) s.0 m flag s.1

-- Each item of a list has a number.
numbered : {A : Type 0} (base : ℕ) (xs : List A) (x : A) → Has xs x → (k : ℕ) × Has (enumerate_from base xs) (k, x)
numbered base [] x h = absurd h
numbered base (y ∷ xs) x (inl same) = (base, inl (ap (λ z. (base, z)) same))
numbered base (y ∷ xs) x (inr h) = let k = numbered (base + 1) xs x h in (k.0, inr k.1)

shells_are : (f : Contents) (n : ℕ) (items : List (ℤ × Bool)) → (solid_listing f n items).shells ≡ map (shell_by f (keys_in f items)) items
unfolding solid_listing
shells_are f n items = refl

alone : (f : Contents) (m : ℕ) → (shell_solid_of f m).shells ≡ mine f m ∷ []
unfolding solid_listing
alone f m = refl

-- A listed shell of a closed solid is closed, and stays so with the flag 1.
closed_with_flag : (s : SolidData) (f : Contents) (keys : Keys) (m : ℤ) (flag : Bool) (k : ℕ) → IsClosedShell s k (shell_by f keys (m, flag))
    → IsClosedShell s k (shell_by f keys (m, true))
closed_with_flag s f keys m true k closed = closed
closed_with_flag s f keys m false k closed = turned_shell s k (shell_by f keys (m, false)) closed

listed_closed : (f : Contents) (n : ℕ) (items : List (ℤ × Bool)) (item : ℤ × Bool) → Has items item → IsClosedSolid (solid_listing f n items)
    → (k : ℕ) × IsClosedShell (solid_listing f n items) k (shell_by f (keys_in f items) item)
listed_closed f n items item listed closed =
    let s : SolidData = solid_listing f n items in
    let h : Shell = shell_by f (keys_in f items) item in
    let here : Has s.shells h = subst (λ hs. Has hs h) (sym (shells_are f n items)) (map_has (shell_by f (keys_in f items)) items item listed) in
    let k = numbered 0 s.shells h here in
    (k.0, All-at (λ (x : ℕ × Shell). IsClosedShell s x.0 x.1) (enumerate_from 0 s.shells) closed (k.0, h) k.1)

pub closed_sound : ClosedIsSound
closed_sound f n m flag closed contains =
    let items : List (ℤ × Bool) = shells f (pos n) in
    let listed : Has items (pos m, flag) = Has-from_Contains items (pos m, flag) contains in
    let c = listed_closed f n items (pos m, flag) listed (subst IsClosedSolid (solid_lists f n) closed.closed) in
    let s : SolidData = shell_solid_of f m in
    let shell : Shell = mine f m in
    let one : IsClosedShell s 0 shell = closed_alone f n items m flag (edges_found f items (listed_solid f n closed.placed)) listed c.0
    (closed_with_flag (solid_listing f n items) f (keys_in f items) (pos m) flag c.0 c.1) in
    let x = closed_is_sound s 0 shell one in (
      (shells_have_places f n m flag closed.placed contains, hold_of_shell s shell (alone f m) x.0),
      λ r border. x.1 r (subst (λ d. IsBorder d r) (rows_are s shell (alone f m)) border),
    )
