-- What stays of a file in which shells of a solid change.
use Rattle.std.specs.Prelude.{◌≡◌, ℕ, zero, suc, ◌+◌, ◌*◌, ◌/◌, ◌==◌, ◌&&◌, ◌||◌, Bool, true, false, not, ℤ, pos, List, [], ◌∷◌, ◌++◌, Contains, flat_map, length, map, Option, Some, None, option_map, slice_get, get_or, if◌then◌else◌, set, unwrap_or}
use Rattle.std.specs.List.{enumerate_from}
use Rattle.std.specs.Ordering.{int_eq}
use Rattle.std.proofs.Common.{refl, sym, ◌∙◌, ap, arith, inl, inr, replicate}
use Rattle.std.proofs.Math.Bool.{or-false}
use Rattle.std.proofs.lemmas.Bool.Decides.{Decides-int_eq}
use Rattle.std.proofs.lemmas.List.{get_or-set_other}
use Rattle.std.proofs.lemmas.List.Folds.{list_any-append}
use Rattle.std.proofs.lemmas.Option.{none-some, slice_get-map}
use Rattle.iges_fields.specs.declared.value.Value.{Value}
use Rattle.iges_params.specs.Contents.{Contents}
use Rattle.entry_references.specs.Refs.{Record}
use Rattle.solid_data.specs.SolidData.{SolidData}
use Rattle.solid_data.specs.declared.solid.FaceUse.{FaceUse}
use Rattle.solid_data.specs.declared.solid.Loop.{Loop}
use Rattle.solid_data.specs.declared.solid.Shell.{Shell}
use Rattle.solid_data.proofs.Members.{Has, Contains-from_Has, has_get}
use Rattle.shell_change.specs.declared.change.Change.{Change}
use Rattle.shell_change.specs.declared.change.Fate.{Fate}
use Rattle.shell_change.specs.declared.change.Fate.TheVariants.{Removed, Kept}
use Rattle.shell_change.specs.declared.change.LoopNow.{LoopNow}
use Rattle.changed_records.specs.declared.named.NewLists.{NewLists}
use Rattle.changed_records.specs.declared.shells.FaceFlag.{FaceFlag}
use Rattle.changed_file.specs.declared.draft.Draft.{Draft}
use Rattle.changed_file.specs.declared.draft.NewEntry.{NewEntry}
use Rattle.changed_file.specs.Folds.{fold_items, fold_pairs}
use Rattle.changed_file.specs.Draft.{blank_draft}
use Rattle.changed_file.specs.Faces.{loop_number, pieces_of, with_loop, with_loops, with_loops_of, with_removed, with_removed_loops}
use Rattle.changed_file.specs.Changing.{drafted, new_lists, with_change, with_changes, with_first, with_gone, with_outer, with_piece, with_pieces, with_shell, with_uses, with_void, with_voids}
use Rattle.changed_file.specs.Emptied.{all_refs, emptied, emptied_record, names_number, unless_gone}
use Rattle.changed_file.specs.Changed.{changed, kept_record, new_record, rewritten}
use Rattle.changed_file.specs.Staying.{IsTopology, IsRemoved, OthersStay, place_of, solid, shell, «loop», face}
use Rattle.changed_file.proofs.EntrySteps.{get_enumerated}

abbrev Slots : Type 0
Slots = List (Option (List Value))

-- ---- one entry, by its place

module _ (i : ℕ) where
  slot : Slots → Option (List Value)
  slot slots = get_or slots i None

  put_elsewhere : (slots : Slots) (n : ℕ) (vs : Option (List Value)) → ¬ (place_of n ≡ i) → get_or (set slots (n / 2) vs) i None ≡ get_or slots i None
  put_elsewhere slots n vs other = get_or-set_other slots (n / 2) i vs None (λ e. other (sym e))

  -- ---- loops of kept faces

  loops_stay : (f : Contents) (s : SolidData) (n : NewLists) (slots : Slots) (now : List LoopNow) (old : List Loop)
      → ((l : Loop) → Has old l → ¬ (place_of l.entity.0 ≡ i)) → get_or (fold_pairs (with_loop f s n) slots now old) i None ≡ get_or slots i None
  loops_stay f s n slots [] old others = refl
  loops_stay f s n slots (x ∷ now) [] others = refl
  loops_stay f s n slots (x ∷ now) (l ∷ old) others =
      loops_stay f s n (with_loop f s n slots x l) now old (λ m h. others m (inr h))
      ∙ put_elsewhere slots l.entity.0 _ (others l (inl refl))

  faces_stay : (f : Contents) (s : SolidData) (n : NewLists) (slots : Slots) (fates : List Fate) (faces : List FaceUse)
      → ((x : FaceUse) → Has faces x → (l : Loop) → Has x.loops l → ¬ (place_of l.entity.0 ≡ i))
      → get_or (fold_pairs (with_loops_of f s n) slots fates faces) i None ≡ get_or slots i None
  faces_stay f s n slots [] faces others = refl
  faces_stay f s n slots (x ∷ fates) [] others = refl
  faces_stay f s n slots (Removed ∷ fates) (y ∷ faces) others = faces_stay f s n slots fates faces (λ z h. others z (inr h))
  faces_stay f s n slots (Kept x ∷ fates) (y ∷ faces) others =
      faces_stay f s n (fold_pairs (with_loop f s n) slots x.loops y.loops) fates faces (λ z h. others z (inr h))
      ∙ loops_stay f s n slots x.loops y.loops (others y (inl refl))

  -- ---- removed faces and their loops

  unnamed : (n : ℕ) → ¬ (place_of n ≡ i) → int_eq (pos n) (pos (2 * i + 1)) ≡ false
  unnamed n other = by_test (int_eq (pos n) (pos (2 * i + 1))) refl
    where
      half : (m : ℕ) → m ≡ 2 * i + 1 → place_of m ≡ i
      half m e = omega (arith, e)

      by_test : (b : Bool) → int_eq (pos n) (pos (2 * i + 1)) ≡ b → int_eq (pos n) (pos (2 * i + 1)) ≡ false
      by_test true e = absurd (other (half n (let same : pos n ≡ pos (2 * i + 1) = (Decides-int_eq (pos n) (pos (2 * i + 1))).0 e in cc)))
      by_test false e = e

  one_more : (ns : List ℤ) (n : ℕ) → ¬ (place_of n ≡ i) → names_number (ns ++ pos n ∷ []) (2 * i + 1) ≡ names_number ns (2 * i + 1)
  one_more ns n other =
      list_any-append (λ z. int_eq z (pos (2 * i + 1))) ns (pos n ∷ [])
      ∙ (ap (λ b. names_number ns (2 * i + 1) || (b || false)) (unnamed n other) ∙ or-false (names_number ns (2 * i + 1)))

  none_named : (old : List Loop) → ((l : Loop) → Has old l → ¬ (place_of l.entity.0 ≡ i)) → names_number (map loop_number old) (2 * i + 1) ≡ false
  none_named [] others = refl
  none_named (l ∷ old) others =
      ap (λ b. b || names_number (map loop_number old) (2 * i + 1)) (unnamed l.entity.0 (others l (inl refl)))
      ∙ none_named old (λ m h. others m (inr h))

  more_loops : (ns : List ℤ) (old : List Loop) → ((l : Loop) → Has old l → ¬ (place_of l.entity.0 ≡ i))
      → names_number (ns ++ map loop_number old) (2 * i + 1) ≡ names_number ns (2 * i + 1)
  more_loops ns old others =
      list_any-append (λ z. int_eq z (pos (2 * i + 1))) ns (map loop_number old)
      ∙ (ap (λ b. names_number ns (2 * i + 1) || b) (none_named old others) ∙ or-false (names_number ns (2 * i + 1)))

  removed_stay : (ns : List ℤ) (fates : List Fate) (faces : List FaceUse)
      → ((k : ℕ) (x : FaceUse) → slice_get fates k ≡ Some Removed → slice_get faces k ≡ Some x → ¬ (place_of x.entity.0 ≡ i))
      → names_number (fold_pairs with_removed ns fates faces) (2 * i + 1) ≡ names_number ns (2 * i + 1)
  removed_stay ns [] faces others = refl
  removed_stay ns (x ∷ fates) [] others = refl
  removed_stay ns (Removed ∷ fates) (y ∷ faces) others =
      removed_stay (ns ++ pos y.entity.0 ∷ []) fates faces (λ k z a b. others (suc k) z a b) ∙ one_more ns y.entity.0 (others 0 y refl refl)
  removed_stay ns (Kept x ∷ fates) (y ∷ faces) others = removed_stay ns fates faces (λ k z a b. others (suc k) z a b)

  removed_loops_stay : (ns : List ℤ) (fates : List Fate) (faces : List FaceUse)
      → ((x : FaceUse) → Has faces x → (l : Loop) → Has x.loops l → ¬ (place_of l.entity.0 ≡ i))
      → names_number (fold_pairs with_removed_loops ns fates faces) (2 * i + 1) ≡ names_number ns (2 * i + 1)
  removed_loops_stay ns [] faces others = refl
  removed_loops_stay ns (x ∷ fates) [] others = refl
  removed_loops_stay ns (Removed ∷ fates) (y ∷ faces) others =
      removed_loops_stay (ns ++ map loop_number y.loops) fates faces (λ z h. others z (inr h)) ∙ more_loops ns y.loops (others y (inl refl))
  removed_loops_stay ns (Kept x ∷ fates) (y ∷ faces) others = removed_loops_stay ns fates faces (λ z h. others z (inr h))

  -- ---- what changes make of the records

  -- the entry has no new values, and goes with no face and no loop
  record Untouched (d : Draft) : Type 0 where
    pub slot : get_or d.slots i None ≡ None
    pub faces : names_number d.faces (2 * i + 1) ≡ false
    pub loops : names_number d.loops (2 * i + 1) ≡ false

  piece_stays : (f : Contents) (s : SolidData) (k : ℕ) (h : Shell) (d : Draft) (faces : List FaceFlag) → Untouched d → Untouched (with_piece f s k h d faces)
  piece_stays f s k h d faces u = by_test (k == 0)
    where
      by_test : (b : Bool) → Untouched (if b then with_outer f s h d faces else with_void f h d faces)
      by_test true = record { slot = u.slot; faces = u.faces; loops = u.loops }
      by_test false = record { slot = u.slot; faces = u.faces; loops = u.loops }

  more_stay : (f : Contents) (s : SolidData) (k : ℕ) (h : Shell) (d : Draft) (more : List (List FaceFlag)) → Untouched d
      → Untouched (fold_items (with_piece f s k h) d more)
  more_stay f s k h d [] u = u
  more_stay f s k h d (faces ∷ more) u = more_stay f s k h (with_piece f s k h d faces) more (piece_stays f s k h d faces u)

  pieces_stay : (f : Contents) (s : SolidData) (k : ℕ) (h : Shell) (d : Draft) (pieces : List (List FaceFlag)) → ¬ (place_of h.entity.0 ≡ i) → Untouched d
      → Untouched (with_pieces f s k h d pieces)
  pieces_stay f s k h d [] other u = u
  pieces_stay f s k h d (faces ∷ more) other u =
      more_stay f s k h (with_first f h d faces) more
      (record { slot = put_elsewhere d.slots h.entity.0 _ other ∙ u.slot; faces = u.faces; loops = u.loops })

  uses_stay : (f : Contents) (s : SolidData) (c : Change) (h : Shell) (d : Draft)
      → ((x : FaceUse) → Has h.faces x → (l : Loop) → Has x.loops l → ¬ (place_of l.entity.0 ≡ i)) → Untouched d → Untouched (with_uses f s c h d)
  unfolding with_loops
  uses_stay f s c h d others u = record {
    slot = faces_stay f s (new_lists f s d.added c) d.slots c.faces h.faces others ∙ u.slot;
    faces = u.faces;
    loops = u.loops;
  }

  -- a shell that a change changes, whose record and whose loops stand elsewhere
  record IsElsewhere (c : Change) (h : Shell) : Type 0 where
    pub shell : ¬ (place_of h.entity.0 ≡ i)
    pub loops : (x : FaceUse) → Has h.faces x → (l : Loop) → Has x.loops l → ¬ (place_of l.entity.0 ≡ i)
    pub faces : (k : ℕ) (x : FaceUse) → slice_get c.faces k ≡ Some Removed → slice_get h.faces k ≡ Some x → ¬ (place_of x.entity.0 ≡ i)

  gone_stays : (c : Change) (h : Shell) (d : Draft) → IsElsewhere c h → Untouched d → Untouched (with_gone c h d)
  gone_stays c h d e u = record {
    slot = u.slot;
    faces = removed_stay d.faces c.faces h.faces e.faces ∙ u.faces;
    loops = removed_loops_stay d.loops c.faces h.faces e.loops ∙ u.loops;
  }

  change_stays : (f : Contents) (s : SolidData) (d : Draft) (c : Change) → ((h : Shell) → slice_get s.shells c.shell.0 ≡ Some h → IsElsewhere c h)
      → Untouched d → Untouched (with_change f s d c)
  unfolding with_change
  change_stays f s d c others u = by_shell (slice_get s.shells c.shell.0) refl
    where
      by_shell : (o : Option Shell) → slice_get s.shells c.shell.0 ≡ o → Untouched (with_shell f s c d o)
      by_shell None e = u
      by_shell (Some h) e =
          let there : IsElsewhere c h = others h e in
          gone_stays c h (with_pieces f s c.shell.0 h (with_uses f s c h d) (pieces_of c.faces h.faces)) there
          (pieces_stay f s c.shell.0 h (with_uses f s c h d) (pieces_of c.faces h.faces) there.shell (uses_stay f s c h d there.loops u))

  changes_stay : (f : Contents) (s : SolidData) (d : Draft) (cs : List Change)
      → ((c : Change) → Has cs c → (h : Shell) → slice_get s.shells c.shell.0 ≡ Some h → IsElsewhere c h) → Untouched d
      → Untouched (fold_items (with_change f s) d cs)
  changes_stay f s d [] others u = u
  changes_stay f s d (c ∷ cs) others u =
      changes_stay f s (with_change f s d c) cs (λ x h. others x (inr h)) (change_stays f s d c (others c (inl refl)) u)

  voids_stay : (f : Contents) (s : SolidData) (d : Draft) (voids : List FaceFlag) → ¬ (place_of s.entity.0 ≡ i) → Untouched d → Untouched (with_voids f s d voids)
  voids_stay f s d [] other u = u
  voids_stay f s d (v ∷ vs) other u = record { slot = put_elsewhere d.slots s.entity.0 _ other ∙ u.slot; faces = u.faces; loops = u.loops }

  blank : (n : ℕ) (k : ℕ) → get_or (replicate {A = Option (List Value)} n None) k None ≡ None
  blank zero k = refl
  blank (suc n) zero = refl
  blank (suc n) (suc k) = blank n k

  drafted_stays : (f : Contents) (s : SolidData) (cs : List Change) → ¬ (place_of s.entity.0 ≡ i)
      → ((c : Change) → Has cs c → (h : Shell) → slice_get s.shells c.shell.0 ≡ Some h → IsElsewhere c h) → Untouched (drafted f s cs)
  unfolding drafted
  drafted_stays f s cs other others =
      let d : Draft = with_changes f s cs in
      voids_stay f s d d.voids other
      (changes_stay f s (blank_draft f) cs others (record { slot = blank (length f.entries) i; faces = refl; loops = refl }))

  -- ---- the file

  emptied_stays : (ns : List ℤ) (f : Contents) (r : Record) → names_number ns (2 * i + 1) ≡ false → slice_get f.entries i ≡ Some r
      → slice_get (emptied ns f).entries i ≡ Some r
  unfolding emptied
  emptied_stays ns f r none at =
      let h : ℕ × Record → Record = emptied_record ns (all_refs f) in
      let zeroes : 0 + i ≡ i = omega arith in
      slice_get-map h (enumerate_from 0 f.entries) i
      ∙ (ap (λ o. option_map h o) (get_enumerated 0 f.entries i r at ∙ ap (λ j. Some (j, r)) zeroes)
      ∙ ap (λ b. Some (unless_gone (b && not (names_number (all_refs f) (2 * i + 1))) r)) none)

  first_part : {X : Type 0} (xs ys : List X) (k : ℕ) (x : X) → slice_get xs k ≡ Some x → slice_get (xs ++ ys) k ≡ Some x
  first_part [] ys k x at = absurd (none-some x at)
  first_part (z ∷ xs) ys zero x at = at
  first_part (z ∷ xs) ys (suc k) x at = first_part xs ys k x at

  rewritten_stays : (f : Contents) (slots : Slots) (added : List NewEntry) (r : Record) → get_or slots i None ≡ None → slice_get f.entries i ≡ Some r
      → slice_get (rewritten f slots added).entries i ≡ Some r
  unfolding rewritten
  rewritten_stays f slots added r none at =
      let zeroes : 0 + i ≡ i = omega arith in
      first_part (map (kept_record slots) (enumerate_from 0 f.entries)) (flat_map (new_record f) added) i r
      (slice_get-map (kept_record slots) (enumerate_from 0 f.entries) i
      ∙ (ap (λ o. option_map (kept_record slots) o) (get_enumerated 0 f.entries i r at ∙ ap (λ j. Some (j, r)) zeroes)
      ∙ ap (λ (o : Option (List Value)). Some (r.0, unwrap_or o r.1)) none))

entries_stay : (f : Contents) (s : SolidData) (cs : List Change) (i : ℕ) (r : Record) → slice_get f.entries i ≡ Some r → ¬ IsTopology s i
    → ¬ IsRemoved s cs i → slice_get (changed f s cs).entries i ≡ Some r
unfolding changed
entries_stay f s cs i r at topology removed =
    let d : Draft = drafted f s cs in
    let u : Untouched i d = drafted_stays i f s cs (λ e. topology (solid e)) elsewhere in
    let new : Contents = rewritten f d.slots d.added in
    emptied_stays i d.loops (emptied d.faces new) r u.loops (emptied_stays i d.faces new r u.faces (rewritten_stays i f d.slots d.added r u.slot at))
  where
    shell_there : (c : Change) (h : Shell) → slice_get s.shells c.shell.0 ≡ Some h → Contains s.shells h
    shell_there c h e = Contains-from_Has s.shells h (has_get s.shells c.shell.0 h e)

    elsewhere : (c : Change) → Has cs c → (h : Shell) → slice_get s.shells c.shell.0 ≡ Some h → IsElsewhere i c h
    elsewhere c among h e = record {
      shell = λ p. topology (shell h (shell_there c h e) p);
      loops = λ x hx l hl p. topology («loop» h x l (shell_there c h e) (Contains-from_Has h.faces x hx) (Contains-from_Has x.loops l hl) p);
      faces = λ k x gone there p. removed (face c h k x (Contains-from_Has cs c among) e gone there p);
    }

pub others_stay : OthersStay
unfolding changed emptied rewritten
others_stay f s cs = record { start = refl; global = refl; entries = entries_stay f s cs }
