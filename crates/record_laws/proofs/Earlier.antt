-- Where an entity is named twice, the first place of the solid that names it comes before.
use Rattle.std.specs.Prelude.{◌≡◌, ◌≢◌, ℕ, suc, ◌+◌, if◌then◌else◌, Bool, true, false, ℤ, pos, negsuc, List, [], ◌∷◌, ◌++◌, ◌⊎◌, length, flat_map, Contains}
use Rattle.std.specs.Prelude.{Some, None, slice_get, IsSomeAnd}
use Rattle.std.specs.List.{enumerate_from}
use Rattle.std.specs.Ordering.{int_eq}
use Rattle.std.proofs.Common.{refl, sym, ◌∙◌, ap, subst, arith, inl, inr, ⊎_elim, length-append, append_assoc}
use Rattle.std.proofs.lemmas.Bool.{cases_Bool}
use Rattle.std.proofs.lemmas.Bool.Decides.{Decides-int_eq}
use Rattle.std.proofs.lemmas.List.{append-nil}
use Rattle.std.proofs.lemmas.List.Elements.{Contains-append_cases}
use Rattle.std.proofs.lemmas.Grind.{flat_map-append}
use Rattle.iges_params.specs.Contents.{Contents}
use Rattle.iges_params.specs.Named.{values_of}
use Rattle.brep_lists.specs.declared.entity_kind.EntityKind.{EntityKind}
use Rattle.brep_lists.specs.declared.entity_kind.EntityKind.TheVariants.{Solid as solid, Shell as shell, Face as face, Loop as «loop»}
use Rattle.brep_walk.specs.Places.{told, shells, faces, loops, tuples, numbers, NamesKind, NamesGeometry, HasRecordOf, record_places, tuple_places, loop_at}
use Rattle.brep_walk.specs.Places.{loop_places, face_at, face_places, shell_at, shell_places, places}
use Rattle.solid_data.specs.Obligations.{Obligation, AllHold, FirstFalse, obligation, entry_number, after_each}
use Rattle.solid_data.specs.declared.verdict.Rule.{Rule}
use Rattle.solid_data.specs.declared.verdict.Rule.TheVariants as rule
use Rattle.solid_data.specs.declared.verdict.Failing.{Failing}
use Rattle.solid_data.proofs.Members.{Has, Has-from_Contains, has_append, has_left, has_right}
use Rattle.solid_data.proofs.ObligationLemmas.{AllHold-append_left, AllHold-append_right}
use Rattle.record_values.specs.declared.bad_values.BadValue.{BadValue}
use Rattle.record_values.specs.BadValue.{bad_value}
use Rattle.record_values.specs.Naming.{Names, names, shells_in, shells_told, faces_in, faces_told, loops_in, loops_told, names_in_face, names_in_shell}
use Rattle.record_values.specs.Naming.{names_in_solid}
use Rattle.record_values.specs.Naming.{first_of, first_naming}
use Rattle.record_paths.specs.Searched.{Bears}
use Rattle.record_paths.proofs.Bearing.{false_either, bears_left, bears_right, first_bears}
use Rattle.where_records.specs.RecordText.{judged}
use Rattle.record_laws.specs.Lying.{ComesBefore}
use Rattle.record_laws.specs.Breaks.{once_at, number_at, IsEarlier, Breaks, BreaksBy, BadValuesBreak}
use Rattle.record_laws.proofs.Befores.{obligation_front, obligation_rest, obligation_across}
use Rattle.record_laws.proofs.Breaking.{Broken, BrokenBy, bad_at, loop_place, not_number, values_broken}
use Rattle.record_laws.proofs.Leading.{seam, next}
use Rattle.record_laws.proofs.NamedKinds.{told_here}
use Rattle.record_laws.proofs.NamedOnce.{all_faces, numbers_push, faces_push, record_none, geometry_none, tuples_none, places_once}
use Rattle.record_laws.proofs.Sites.{solid_item, shell_item, face_item}
use Rattle.record_laws.proofs.Splits.{fail}

-- ---- lists of names

-- one of the names has this number
abbrev Listed : List Names → ℤ → Type 0
Listed ns z = (m : Names) × Has ns m × (m.number ≡ z)

listed_in : {A : Type 0} (g : ℕ × A → List Names) (z : ℤ) (xs : List A) (y : A) → Has xs y → ((i : ℕ) → Listed (g (i, y)) z) → (i : ℕ)
    → Listed (flat_map g (enumerate_from i xs)) z
listed_in g z [] y h each i = absurd h
listed_in {A} g z (x ∷ xs) y h each i =
    ⊎_elim
    (λ e. let c = subst (λ (w : A). Listed (g (i, w)) z) (sym e) (each i) in (c.0, has_left (g (i, x)) (flat_map g (enumerate_from (i + 1) xs)) c.0 c.1, c.2))
    (λ r. let c = listed_in g z xs y r each (i + 1) in (c.0, has_right (g (i, x)) (flat_map g (enumerate_from (i + 1) xs)) c.0 c.1, c.2))
    h

-- a number that the front names, or the front names it not
first_found : (z : ℤ) (front rest : List Names)
    → ((m : Names) × Has front m × (m.number ≡ z) × (first_of z (front ++ rest) ≡ Some m.naming)) ⊎ ((m : Names) → Has front m → m.number ≢ z)
first_found z [] rest = inr (λ m h. absurd h)
first_found z (y ∷ ys) rest =
    elim (cases_Bool (int_eq y.number z)) [
      | inl e ↦ inl (y, inl refl, (Decides-int_eq y.number z).0 e, ap (λ b. if b then Some y.naming else first_of z (ys ++ rest)) e)
      | inr e ↦
          ⊎_elim
          (λ c. inl (c.0, inr c.1, c.2, ap (λ b. if b then Some y.naming else first_of z (ys ++ rest)) e ∙ c.3))
          (λ none. inr (λ m h. ⊎_elim
          (λ same k. let g : int_eq y.number z ≡ true = (Decides-int_eq y.number z).1 (ap (λ (n : Names). n.number) same ∙ k) in wrong (sym e ∙ g))
          (λ r. none m r) h))
          (first_found z ys rest)
    ]
  where
    wrong : false ≡ true → ⊥
    wrong e = cc

-- ---- lists of numbers

in_push : (xs : List ℤ) (y z : ℤ) → Contains (xs ++ y ∷ []) z → Contains xs z ⊎ (y ≡ z)
in_push xs y z h =
    ⊎_elim inl (λ r. ⊎_elim inr (λ n. absurd n) (Has-from_Contains (y ∷ []) z r)) (Contains-append_cases xs (y ∷ []) z h)

in_flat : {A : Type 0} (g : A → List ℤ) (xs : List A) (z : ℤ) → Has (flat_map g xs) z → (x : A) × Has xs x × Has (g x) z
in_flat g [] z h = absurd h
in_flat g (x ∷ xs) z h =
    ⊎_elim (λ q. (x, inl refl, q)) (λ q. let r = in_flat g xs z q in (r.0, inr r.1, r.2)) (has_append (g x) (flat_map g xs) z h)

in_numbers : (xs : List (ℤ × Bool)) (z : ℤ) → Has (numbers xs) z → (x : ℤ × Bool) × Has xs x × (x.0 ≡ z)
in_numbers [] z h = absurd h
in_numbers (x ∷ xs) z h = ⊎_elim (λ e. (x, inl refl, e)) (λ q. let r = in_numbers xs z q in (r.0, inr r.1, r.2)) h

-- ---- what fits is told

shells_are : (f : Contents) (n : ℤ) → HasRecordOf solid f n → shells_in f n ≡ shells f n
unfolding shells_in
shells_are f n h = ap shells_told (told_here f n solid h)

faces_are : (f : Contents) (s : ℤ) → HasRecordOf shell f s → faces_in f s ≡ faces f s
unfolding faces_in
faces_are f s h = ap faces_told (told_here f s shell h)

loops_are : (f : Contents) (c : ℤ) → HasRecordOf face f c → loops_in f c ≡ loops f c
unfolding loops_in
loops_are f c h = ap loops_told (told_here f c face h)

loop_listed : (f : Contents) (c z : ℤ) → HasRecordOf face f c → Has (loops f c) z → Listed (names_in_face f c) z
loop_listed f c z hr h =
    listed_in (λ (l : ℕ × ℤ). names c l.0 l.1 ∷ []) z (loops_in f c) z (subst (λ ls. Has ls z) (sym (loops_are f c hr)) h)
    (λ i. (names c i z, inl refl, refl)) 1

face_listed : (f : Contents) (s z : ℤ) → HasRecordOf shell f s → Has (numbers (faces f s)) z → Listed (names_in_shell f s) z
face_listed f s z hr h =
    let c = in_numbers (faces f s) z h in
    listed_in (λ (c : ℕ × (ℤ × Bool)). names s c.0 c.1.0 ∷ names_in_face f c.1.0) z (faces_in f s) c.0
    (subst (λ cs. Has cs c.0) (sym (faces_are f s hr)) c.1) (λ i. (names s i c.0.0, inl refl, c.2)) 1

inner_listed : (f : Contents) (s z : ℤ) (c : ℤ × Bool) → HasRecordOf shell f s → Has (faces f s) c → Listed (names_in_face f c.0) z
    → Listed (names_in_shell f s) z
inner_listed f s z c hr h l =
    listed_in (λ (c : ℕ × (ℤ × Bool)). names s c.0 c.1.0 ∷ names_in_face f c.1.0) z (faces_in f s) c
    (subst (λ cs. Has cs c) (sym (faces_are f s hr)) h) (λ i. (l.0, inr l.1, l.2)) 1

faces_fit : (f : Contents) (s : ℤ) (used : List ℤ) (before cs : List (ℤ × Bool)) (c : ℤ × Bool) → AllHold (after_each (face_places f s used) before cs)
    → Has cs c → HasRecordOf face f c.0
unfolding face_places
faces_fit f s used before [] c all h = absurd h
faces_fit f s used before (y ∷ ys) c all h =
    let place = face_places f s used before y in
    let others = after_each (face_places f s used) (before ++ y ∷ []) ys in
    let here = AllHold-append_left place others all in
    ⊎_elim (λ e. subst (λ (w : ℤ × Bool). HasRecordOf face f w.0) e here.1.1.0)
    (λ r. faces_fit f s used (before ++ y ∷ []) ys c (AllHold-append_right place others all) r)
    h

module _ (f : Contents) (x : Failing) (tw : x.rule ≡ rule.Twice) where
  -- the number that is named twice
  abbrev number : ℤ
  number = let bad = bad_value f x in judged f x.entity bad.place

  -- a place whose obligation is one of these, or one that comes before x, and whose number is at the place

  abbrev Stands : List Obligation → Names → Type 0
  Stands os m = Bears os (once_at m.naming) × (number_at f m.naming ≡ m.number)

  abbrev Precedes : List Obligation → Names → Type 0
  Precedes os m = ComesBefore (once_at m.naming) x os × (number_at f m.naming ≡ m.number)

  abbrev Absent : List Names → Type 0
  Absent ns = (m : Names) → Has ns m → m.number ≢ number

  -- The names before that of x: each precedes it, and one has its number, if none outside has it.
  record IsFound (os : List Obligation) (ns : List Names) (Outer : Type 0) : Type 0 where
    early : List Names
    late : List Names
    all : ns ≡ early ++ late
    before : (m : Names) → Has early m → Precedes os m
    again : ¬ Outer → ¬ Absent early

  -- the names are those of the obligations
  record IsTold (os : List Obligation) (ns : List Names) (Outer : Type 0) : Type 0 where
    stands : AllHold os → (m : Names) → Has ns m → Stands os m
    found : FirstFalse os x → IsFound os ns Outer

  told_outer : (os : List Obligation) (ns : List Names) (O P : Type 0) → (O → P) → IsTold os ns O → IsTold os ns P
  told_outer os ns O P into t = record {
    stands = t.stands;
    found = λ h. let c = t.found h in
        record { early = c.early; late = c.late; all = c.all; before = c.before; again = λ none. c.again (λ o. none (into o)) };
  }

  told_join : (a b : List Obligation) (na nb : List Names) (O P : Type 0) → IsTold a na O → (AllHold a → IsTold b nb P)
      → (AllHold a → P → ¬ O → ¬ Absent na) → IsTold (a ++ b) (na ++ nb) O
  told_join a b na nb O P front rest link = record {
    stands = λ all m h. ⊎_elim
        (λ q. let s = front.stands (AllHold-append_left a b all) m q in (bears_left a b (once_at m.naming) s.0, s.1))
        (λ q. let s = (rest (AllHold-append_left a b all)).stands (AllHold-append_right a b all) m q in (bears_right a b (once_at m.naming) s.0, s.1))
        (has_append na nb m h);
    found = λ h. ⊎_elim
        (λ q. let c = front.found q in
        record {
          early = c.early;
          late = c.late ++ nb;
          all = ap (λ ns. ns ++ nb) c.all ∙ append_assoc c.early c.late nb;
          before = λ m k. let p = c.before m k in (obligation_front a b (once_at m.naming) x p.0, p.1);
          again = c.again;
        })
        (λ q. let c = (rest q.0).found q.1 in
        record {
          early = na ++ c.early;
          late = c.late;
          all = ap (λ ns. na ++ ns) c.all ∙ sym (append_assoc na c.early c.late);
          before = λ m k. ⊎_elim
              (λ i. let s = front.stands q.0 m i in (obligation_across a b (once_at m.naming) x q.0 s.0 q.1, s.1))
              (λ i. let p = c.before m i in (obligation_rest a b (once_at m.naming) x q.0 p.0, p.1))
              (has_append na c.early m k);
          again = λ none absent. c.again (λ p. link q.0 p none (λ m k. absent m (has_left na c.early m k)))
              (λ m k. absent m (has_right na c.early m k));
        })
        (false_either a b x h);
  }

  told_after : {A : Type 0} (k : List A → A → List Obligation) (g : ℕ × A → List Names) (O : List A → Type 0) (all : List A)
      → ((before : List A) (y : A) (rest : List A) → before ++ y ∷ rest ≡ all → IsTold (k before y) (g (length before + 1, y)) (O before))
      → ((before : List A) (y : A) → AllHold (k before y) → O (before ++ y ∷ []) → ¬ O before → ¬ Absent (g (length before + 1, y)))
      → (before xs : List A) → before ++ xs ≡ all → IsTold (after_each k before xs) (flat_map g (enumerate_from (length before + 1) xs)) (O before)
  told_after k g O all each link before [] e = record { stands = λ held m h. absurd h; found = λ h. absurd h }
  told_after k g O all each link before (y ∷ ys) e =
      let rest = after_each k (before ++ y ∷ []) ys in
      let more = length-append before (y ∷ []) in
      let place : length (before ++ y ∷ []) + 1 ≡ length before + 1 + 1 = omega (arith, more) in
      told_join (k before y) rest (g (length before + 1, y)) (flat_map g (enumerate_from (length before + 1 + 1) ys)) (O before) (O (before ++ y ∷ []))
      (each before y ys e)
      (λ held. subst (λ i. IsTold rest (flat_map g (enumerate_from i ys)) (O (before ++ y ∷ []))) place
      (told_after k g O all each link (before ++ y ∷ []) ys (append_assoc before (y ∷ []) ys ∙ e)))
      (link before y)

  -- a place that names a record, and what else is owed there
  told_place : (m i : ℕ) (k : EntityKind) (known : List ℤ) (z : ℤ) (more : List Obligation) → ¬ Bears more x
      → number_at f (record { entity = pos m; item = suc i }) ≡ z
      → IsTold (record_places f (pos m) (suc i) k z ++ (obligation rule.Twice m (suc i) (¬ Contains known z) ∷ more)) (names (pos m) (suc i) z ∷ [])
      (Contains known number)
  told_place m i k known z more others here =
      let own = record_places f (pos m) (suc i) k z in
      let rest = obligation rule.Twice m (suc i) (¬ Contains known z) ∷ more in
      record {
        stands = λ all y h. ⊎_elim (λ e. subst (λ (w : Names). Stands (own ++ rest) w) e (bears_right own rest (fail rule.Twice m (suc i)) (inl refl), here))
            (λ n. absurd n) h;
        found = λ h. ⊎_elim (λ q. absurd (record_none f x tw (pos m) (suc i) k z (first_bears own x q)))
            (λ q. ⊎_elim
            (λ a.
            let same : number ≡ z = ap (λ (y : Failing). let bad = bad_value f y in judged f y.entity bad.place) a.1 ∙ here in
            record {
              early = [];
              late = names (pos m) (suc i) z ∷ [];
              all = refl;
              before = λ y n. absurd n;
              again = λ none absent. a.0 (λ c. none (subst (λ w. Contains known w) (sym same) c));
            })
            (λ b. absurd (others (first_bears more x b.1))) q.1)
            (false_either own rest x h);
      }

  -- ---- the loops of a face

  abbrev loop_name : ℤ → ℕ × ℤ → List Names
  loop_name c l = names c l.0 l.1 ∷ []

  loop_number : (m i : ℕ) (l : ℤ) → NamesKind face f (pos m) → slice_get (loops f (pos m)) i ≡ Some l
      → number_at f (record { entity = pos m; item = suc i }) ≡ l
  loop_number m i l nk there =
      ap (λ (b : BadValue). judged f (record { 0 = m }) b.place) (bad_at f m face rule.Twice (suc i) nk (not_number rule.Twice m i) ∙ loop_place i None)
      ∙ face_item (values_of f (pos m)) i l there

  told_loop : (m : ℕ) (used : List ℤ) → NamesKind face f (pos m) → (before : List ℤ) (l : ℤ) (rest : List ℤ) → before ++ l ∷ rest ≡ loops f (pos m)
      → IsTold (loop_places f (pos m) used before l) (loop_name (pos m) (length before + 1, l)) (Contains (used ++ before) number)
  unfolding loop_places
  told_loop m used nk before l rest e =
      subst (λ i. IsTold (loop_at f (pos m) i (used ++ before) l) (loop_name (pos m) (i, l)) (Contains (used ++ before) number)) (next before)
      (told_place m (length before) «loop» (used ++ before) l (after_each (tuple_places f l) [] (tuples f l)) (tuples_none f x tw l [] (tuples f l))
      (loop_number m (length before) l nk (seam before rest l (loops f (pos m)) e)))

  told_loops : (c : ℤ) (used : List ℤ) → NamesKind face f c → HasRecordOf face f c
      → IsTold (after_each (loop_places f c used) [] (loops f c)) (names_in_face f c) (Contains (used ++ []) number)
  told_loops (negsuc m) used nk hr = absurd nk
  told_loops (pos m) used nk hr =
      let owed = after_each (loop_places f (pos m) used) [] (loops f (pos m)) in
      subst (λ ls. IsTold owed (flat_map (loop_name (pos m)) (enumerate_from 1 ls)) (Contains (used ++ []) number)) (sym (loops_are f (pos m) hr))
      (told_after (loop_places f (pos m) used) (loop_name (pos m)) (λ before. Contains (used ++ before) number) (loops f (pos m)) (told_loop m used nk)
      (λ before l held late none absent. ⊎_elim none (λ e. absent (names (pos m) (length before + 1) l) (inl refl) e)
      (in_push (used ++ before) l number (subst (λ ns. Contains ns number) (sym (append_assoc used before (l ∷ []))) late)))
      [] (loops f (pos m)) refl)

  -- ---- the faces of a shell

  -- the number is that of a known face, or of one of its loops
  abbrev OuterFaces : List ℤ → Type 0
  OuterFaces known = Contains known number ⊎ Contains (flat_map (loops f) known) number

  abbrev face_name : ℤ → ℕ × (ℤ × Bool) → List Names
  face_name s c = names s c.0 c.1.0 ∷ names_in_face f c.1.0

  face_number : (m i : ℕ) (c : ℤ × Bool) → NamesKind shell f (pos m) → slice_get (faces f (pos m)) i ≡ Some c
      → number_at f (record { entity = pos m; item = suc i }) ≡ c.0
  face_number m i c nk there =
      ap (λ (b : BadValue). judged f (record { 0 = m }) b.place) (bad_at f m shell rule.Twice (suc i) nk (not_number rule.Twice m i))
      ∙ shell_item (values_of f (pos m)) i c there

  abbrev surface_owed : ℤ → List Obligation
  surface_owed c = obligation rule.BadGeometry (entry_number c) 0 (let items = told face f c in NamesGeometry f items.surface) ∷ []

  told_face_at : (m i : ℕ) (known : List ℤ) (c : ℤ × Bool) → NamesKind shell f (pos m) → slice_get (faces f (pos m)) i ≡ Some c
      → IsTold (face_at f (pos m) (suc i) known c.0) (face_name (pos m) (suc i, c)) (OuterFaces known)
  told_face_at m i known c nk there =
      let own = record_places f (pos m) (suc i) face c.0 ++ (obligation rule.Twice m (suc i) (¬ Contains known c.0) ∷ surface_owed c.0) in
      let inner = flat_map (loops f) known in
      told_join own (after_each (loop_places f c.0 inner) [] (loops f c.0)) (names (pos m) (suc i) c.0 ∷ []) (names_in_face f c.0) (OuterFaces known)
      (Contains (inner ++ []) number)
      (told_outer own (names (pos m) (suc i) c.0 ∷ []) (Contains known number) (OuterFaces known) (λ k. inl k)
      (told_place m i face known c.0 (surface_owed c.0)
      (geometry_none f x tw (entry_number c.0) 0 (let items = told face f c.0 in NamesGeometry f items.surface)) (face_number m i c nk there)))
      (λ held. told_loops c.0 inner held.1.0 held.1.1.0)
      (λ held late none absent. none (inr (subst (λ ns. Contains ns number) (append-nil inner) late)))

  told_face : (m : ℕ) (used : List ℤ) → NamesKind shell f (pos m) → (before : List (ℤ × Bool)) (c : ℤ × Bool) (rest : List (ℤ × Bool))
      → before ++ c ∷ rest ≡ faces f (pos m)
      → IsTold (face_places f (pos m) used before c) (face_name (pos m) (length before + 1, c)) (OuterFaces (used ++ numbers before))
  unfolding face_places
  told_face m used nk before c rest e =
      subst (λ i. IsTold (face_at f (pos m) i (used ++ numbers before) c.0) (face_name (pos m) (i, c)) (OuterFaces (used ++ numbers before))) (next before)
      (told_face_at m (length before) (used ++ numbers before) c nk (seam before rest c (faces f (pos m)) e))

  known_push : (used : List ℤ) (before : List (ℤ × Bool)) (c : ℤ × Bool) → used ++ numbers (before ++ c ∷ []) ≡ (used ++ numbers before) ++ c.0 ∷ []
  known_push used before c = ap (λ ns. used ++ ns) (numbers_push before c) ∙ sym (append_assoc used (numbers before) (c.0 ∷ []))

  face_link : (m : ℕ) (used : List ℤ) (before : List (ℤ × Bool)) (c : ℤ × Bool) → AllHold (face_places f (pos m) used before c)
      → OuterFaces (used ++ numbers (before ++ c ∷ [])) → ¬ OuterFaces (used ++ numbers before) → ¬ Absent (face_name (pos m) (length before + 1, c))
  unfolding face_places
  face_link m used before c held late none absent =
      let known = used ++ numbers before in
      let pushed = known_push used before c in
      ⊎_elim
      (λ k. ⊎_elim (λ q. none (inl q)) (λ e. absent (names (pos m) (length before + 1) c.0) (inl refl) e)
      (in_push known c.0 number (subst (λ ns. Contains ns number) pushed k)))
      (λ k. ⊎_elim (λ q. none (inr q))
      (λ q.
      let new = subst (λ ns. Contains ns number) (append-nil (loops f c.0)) q in
      let l = loop_listed f c.0 number held.1.1.0 (Has-from_Contains (loops f c.0) number new) in
      absent l.0 (inr l.1) l.2)
      (Contains-append_cases (flat_map (loops f) known) (flat_map (loops f) (c.0 ∷ [])) number
      (subst (λ ns. Contains ns number) (ap (flat_map (loops f)) pushed ∙ flat_map-append (loops f) known (c.0 ∷ [])) k)))
      late

  told_faces : (s : ℤ) (used : List ℤ) → NamesKind shell f s → HasRecordOf shell f s
      → IsTold (after_each (face_places f s used) [] (faces f s)) (names_in_shell f s) (OuterFaces (used ++ []))
  told_faces (negsuc m) used nk hr = absurd nk
  told_faces (pos m) used nk hr =
      let owed = after_each (face_places f (pos m) used) [] (faces f (pos m)) in
      subst (λ cs. IsTold owed (flat_map (face_name (pos m)) (enumerate_from 1 cs)) (OuterFaces (used ++ []))) (sym (faces_are f (pos m) hr))
      (told_after (face_places f (pos m) used) (face_name (pos m)) (λ before. OuterFaces (used ++ numbers before)) (faces f (pos m)) (told_face m used nk)
      (face_link m used) [] (faces f (pos m)) refl)

  -- ---- the shells of a solid

  abbrev OuterShells : List ℤ → Type 0
  OuterShells known = Contains known number ⊎ OuterFaces (all_faces f known)

  abbrev shell_name : ℤ → ℕ × (ℤ × Bool) → List Names
  shell_name n s = names n s.0 s.1.0 ∷ names_in_shell f s.1.0

  shell_number : (m i : ℕ) (s : ℤ × Bool) → NamesKind solid f (pos m) → slice_get (shells f (pos m)) i ≡ Some s
      → number_at f (record { entity = pos m; item = suc i }) ≡ s.0
  shell_number m i s nk there =
      ap (λ (b : BadValue). judged f (record { 0 = m }) b.place) (bad_at f m solid rule.Twice (suc i) nk (not_number rule.Twice m i))
      ∙ solid_item (values_of f (pos m)) i s there

  told_shell_at : (m i : ℕ) (known : List ℤ) (s : ℤ × Bool) → NamesKind solid f (pos m) → slice_get (shells f (pos m)) i ≡ Some s
      → IsTold (shell_at f (pos m) (suc i) known s.0) (shell_name (pos m) (suc i, s)) (OuterShells known)
  told_shell_at m i known s nk there =
      let own = record_places f (pos m) (suc i) shell s.0 ++ (obligation rule.Twice m (suc i) (¬ Contains known s.0) ∷ []) in
      let used = all_faces f known in
      told_join own (after_each (face_places f s.0 used) [] (faces f s.0)) (names (pos m) (suc i) s.0 ∷ []) (names_in_shell f s.0) (OuterShells known)
      (OuterFaces (used ++ []))
      (told_outer own (names (pos m) (suc i) s.0 ∷ []) (Contains known number) (OuterShells known) (λ k. inl k)
      (told_place m i shell known s.0 [] (λ n. n) (shell_number m i s nk there)))
      (λ held. told_faces s.0 used held.1.0 held.1.1.0)
      (λ held late none absent. none (inr (subst OuterFaces (append-nil used) late)))

  told_shell : (m : ℕ) → NamesKind solid f (pos m) → (before : List (ℤ × Bool)) (s : ℤ × Bool) (rest : List (ℤ × Bool))
      → before ++ s ∷ rest ≡ shells f (pos m)
      → IsTold (shell_places f (pos m) before s) (shell_name (pos m) (length before + 1, s)) (OuterShells (numbers before))
  unfolding shell_places
  told_shell m nk before s rest e =
      subst (λ i. IsTold (shell_at f (pos m) i (numbers before) s.0) (shell_name (pos m) (i, s)) (OuterShells (numbers before))) (next before)
      (told_shell_at m (length before) (numbers before) s nk (seam before rest s (shells f (pos m)) e))

  shell_link : (m : ℕ) (before : List (ℤ × Bool)) (s : ℤ × Bool) → AllHold (shell_places f (pos m) before s)
      → OuterShells (numbers (before ++ s ∷ [])) → ¬ OuterShells (numbers before) → ¬ Absent (shell_name (pos m) (length before + 1, s))
  unfolding shell_places
  shell_link m before s held late none absent =
      let known = numbers before in
      let fits = held.1.1.0 in
      let used = all_faces f known in
      let new = numbers (faces f s.0) in
      ⊎_elim
      (λ k. ⊎_elim (λ q. none (inl q)) (λ e. absent (names (pos m) (length before + 1) s.0) (inl refl) e)
      (in_push known s.0 number (subst (λ ns. Contains ns number) (numbers_push before s) k)))
      (λ o. ⊎_elim
      (λ k. ⊎_elim (λ q. none (inr (inl q)))
      (λ q. let l = face_listed f s.0 number fits (Has-from_Contains new number q) in absent l.0 (inr l.1) l.2)
      (Contains-append_cases used new number (subst (λ ns. Contains ns number) (faces_push f before s) k)))
      (λ k. ⊎_elim (λ q. none (inr (inr q)))
      (λ q. let l = loops_listed (Has-from_Contains (flat_map (loops f) new) number q) in absent l.0 (inr l.1) l.2)
      (Contains-append_cases (flat_map (loops f) used) (flat_map (loops f) new) number
      (subst (λ ns. Contains ns number) (ap (flat_map (loops f)) (faces_push f before s) ∙ flat_map-append (loops f) used new) k)))
      o)
      late
    where
      inner : AllHold (after_each (face_places f s.0 (all_faces f (numbers before))) [] (faces f s.0))
      inner = AllHold-append_right (record_places f (pos m) (length before + 1) shell s.0
          ++ (obligation rule.Twice m (length before + 1) (¬ Contains (numbers before) s.0) ∷ []))
          (after_each (face_places f s.0 (all_faces f (numbers before))) [] (faces f s.0)) held

      loops_listed : Has (flat_map (loops f) (numbers (faces f s.0))) number → Listed (names_in_shell f s.0) number
      loops_listed h =
          let c = in_flat (loops f) (numbers (faces f s.0)) number h in
          let g = in_numbers (faces f s.0) c.0 c.1 in
          inner_listed f s.0 number g.0 held.1.1.0 g.1
          (loop_listed f g.0.0 number (faces_fit f s.0 (all_faces f (numbers before)) [] (faces f s.0) g.0 inner g.1)
          (subst (λ w. Has (loops f w) number) (sym g.2) c.2))

  told_shells : (m : ℕ) → NamesKind solid f (pos m) → HasRecordOf solid f (pos m)
      → IsTold (after_each (shell_places f (pos m)) [] (shells f (pos m))) (names_in_solid f (pos m)) (OuterShells [])
  told_shells m nk hr =
      let owed = after_each (shell_places f (pos m)) [] (shells f (pos m)) in
      subst (λ ss. IsTold owed (flat_map (shell_name (pos m)) (enumerate_from 1 ss)) (OuterShells [])) (sym (shells_are f (pos m) hr))
      (told_after (shell_places f (pos m)) (shell_name (pos m)) (λ before. OuterShells (numbers before)) (shells f (pos m)) (told_shell m nk)
      (shell_link m) [] (shells f (pos m)) refl)

  none_outside : ¬ OuterShells []
  none_outside o =
      ⊎_elim (λ k. Has-from_Contains [] number k) (λ r. ⊎_elim (λ k. Has-from_Contains [] number k) (λ k. Has-from_Contains [] number k) r) o

  -- ---- the place that is named

  pub earlier_place : (n : ℕ) → FirstFalse (places f n) x → IsSomeAnd (first_naming f (pos n) number) (λ first. IsEarlier f n x number first)
  unfolding places first_naming
  earlier_place n h =
      let own = record_places f (pos n) 0 solid (pos n) in
      let rest = after_each (shell_places f (pos n)) [] (shells f (pos n)) in
      ⊎_elim (λ q. absurd (record_none f x tw (pos n) 0 solid (pos n) (first_bears own x q)))
      (λ q. by_names rest (λ y k. obligation_rest own rest y x q.0 k) ((told_shells n q.0.1.0 q.0.1.1.0).found q.1))
      (false_either own rest x h)
    where
      by_names : (rest : List Obligation) → ((y : Failing) → ComesBefore y x rest → ComesBefore y x (places f n))
          → IsFound rest (names_in_solid f (pos n)) (OuterShells [])
          → IsSomeAnd (first_of number (names_in_solid f (pos n))) (λ first. IsEarlier f n x number first)
      by_names rest into c =
          ⊎_elim
          (λ m.
          let p = c.before m.0 m.1 in
          let comes = into (once_at m.0.naming) p.0 in
          subst (λ o. IsSomeAnd o (λ first. IsEarlier f n x number first)) (sym (ap (first_of number) c.all ∙ m.3))
          ((λ same. places_once f x tw n (subst (λ y. ComesBefore y x (places f n)) same comes)), comes, p.1 ∙ m.2))
          (λ none. absurd (c.again none_outside none))
          (first_found number c.early c.late)

abbrev Earlier : Contents → ℕ → Failing → BadValue → Type 0
Earlier f n x bad = let number = judged f x.entity bad.place in IsSomeAnd (first_naming f (pos n) number) (λ first. IsEarlier f n x number first)

-- with the earlier place the value breaks the rule
all_broken : (f : Contents) (n : ℕ) (x : Failing) (bad : BadValue) (r : Rule) → BrokenBy f x bad r → (r ≡ rule.Twice → Earlier f n x bad) → BreaksBy f n x bad r
all_broken f n x bad rule.NoEntry h earlier = h
all_broken f n x bad rule.WrongKind h earlier = h
all_broken f n x bad rule.BadLayout h earlier = h
all_broken f n x bad rule.Twice h earlier = (h, earlier refl)
all_broken f n x bad rule.BadIndex h earlier = h
all_broken f n x bad rule.BadGeometry h earlier = h
all_broken f n x bad rule.Unjoined h earlier = absurd h
all_broken f n x bad rule.Unpaired h earlier = absurd h
all_broken f n x bad rule.Unreached h earlier = absurd h
all_broken f n x bad rule.Unlinked h earlier = absurd h
all_broken f n x bad rule.Shared h earlier = absurd h

pub bad_values_break : BadValuesBreak
unfolding Breaks Broken
bad_values_break f n x h = all_broken f n x (bad_value f x) x.rule (values_broken f n x h) (λ tw. earlier_place f x tw n h)
