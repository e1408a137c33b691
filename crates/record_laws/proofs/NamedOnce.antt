-- No obligation Twice that holds before the first false one bears the name of that one: a shell, a face and a loop are named once.
use Rattle.std.specs.Prelude.{◌≡◌, ℕ, ◌+◌, ◌<◌, Bool, true, false, ℤ, pos, List, [], ◌∷◌, ◌++◌, ◌⊎◌, length, flat_map, All, Contains, Option, Some, None}
use Rattle.std.proofs.Common.{sym, ◌∙◌, ap, subst, arith, inl, inr, ⊎_elim, length-append, append_assoc}
use Rattle.std.proofs.lemmas.List.{append-nil, map-append}
use Rattle.std.proofs.lemmas.List.Elements.{Contains-append_left, Contains-append_right, Contains-push}
use Rattle.std.proofs.lemmas.Grind.{flat_map-append}
use Rattle.iges_params.specs.Contents.{Contents}
use Rattle.brep_lists.specs.Record.{LoopTuple}
use Rattle.brep_lists.specs.declared.entity_kind.EntityKind.{EntityKind}
use Rattle.brep_lists.specs.declared.entity_kind.EntityKind.TheVariants.{Solid as solid, Shell as shell, Face as face, Loop as «loop», EdgeList as edges}
use Rattle.brep_lists.specs.declared.entity_kind.EntityKind.TheVariants.{VertexList as vertices}
use Rattle.brep_lists.specs.declared.edge_list.EdgeTuple.{EdgeTuple}
use Rattle.brep_walk.specs.Places.{told, shells, faces, loops, tuples, numbers, edge_at, NamesKind, NamesGeometry, IsIndex, record_places, item_places}
use Rattle.brep_walk.specs.Places.{edge_places, used_places, tuple_places, loop_at, loop_places, face_at, face_places, shell_at, shell_places, places}
use Rattle.solid_data.specs.Obligations.{Obligation, obligation, entry_number, after_each}
use Rattle.solid_data.specs.declared.verdict.Rule.{Rule}
use Rattle.solid_data.specs.declared.verdict.Rule.TheVariants as rule
use Rattle.solid_data.specs.declared.verdict.Failing.{Failing}
use Rattle.solid_data.proofs.Members.{Has, Contains-from_Has}
use Rattle.record_paths.specs.Searched.{Bears}
use Rattle.record_paths.proofs.Bearing.{bears_either, first_bears}
use Rattle.record_laws.specs.Lying.{ComesBefore}
use Rattle.record_laws.proofs.Befores.{Reached, false_reached, held_reached, reached_bears, reached_split, before_bears, before_split}
use Rattle.record_laws.proofs.Settled.{IsAt, at_name, kind_one, number_of}

-- ---- numbers of items

abbrev pub all_faces : Contents → List ℤ → List ℤ
all_faces f known = flat_map (λ b. numbers (faces f b)) known

pub numbers_push : (xs : List (ℤ × Bool)) (x : ℤ × Bool) → numbers (xs ++ x ∷ []) ≡ numbers xs ++ x.0 ∷ []
numbers_push xs x = map-append (λ (i : ℤ × Bool). i.0) xs (x ∷ [])

-- those before are among those before the next
pub known_more : (used : List ℤ) (xs : List (ℤ × Bool)) (x : ℤ × Bool) (z : ℤ) → Contains (used ++ numbers xs) z → Contains (used ++ numbers (xs ++ x ∷ [])) z
known_more used xs x z h =
    subst (λ ns. Contains (used ++ ns) z) (sym (numbers_push xs x))
    (subst (λ ns. Contains ns z) (append_assoc used (numbers xs) (x.0 ∷ [])) (Contains-append_left (used ++ numbers xs) (x.0 ∷ []) z h))

pub known_this : (used : List ℤ) (xs : List (ℤ × Bool)) (x : ℤ × Bool) → Contains (used ++ numbers (xs ++ x ∷ [])) x.0
known_this used xs x =
    subst (λ ns. Contains (used ++ ns) x.0) (sym (numbers_push xs x)) (Contains-append_right used (numbers xs ++ x.0 ∷ []) x.0 (Contains-push (numbers xs) x.0))

pub faces_push : (f : Contents) (xs : List (ℤ × Bool)) (x : ℤ × Bool) → all_faces f (numbers (xs ++ x ∷ [])) ≡ all_faces f (numbers xs) ++ numbers (faces f x.0)
faces_push f xs x =
    ap (all_faces f) (numbers_push xs x) ∙ flat_map-append (λ b. numbers (faces f b)) (numbers xs) (x.0 ∷ [])
    ∙ ap (λ ns. all_faces f (numbers xs) ++ ns) (append-nil (numbers (faces f x.0)))

pub faces_more : (f : Contents) (xs : List (ℤ × Bool)) (x : ℤ × Bool) (z : ℤ) → Contains (all_faces f (numbers xs)) z
    → Contains (all_faces f (numbers (xs ++ x ∷ []))) z
faces_more f xs x z h = subst (λ ns. Contains ns z) (sym (faces_push f xs x)) (Contains-append_left (all_faces f (numbers xs)) (numbers (faces f x.0)) z h)

pub faces_these : (f : Contents) (xs : List (ℤ × Bool)) (x : ℤ × Bool) (z : ℤ) → Has (numbers (faces f x.0)) z
    → Contains (all_faces f (numbers (xs ++ x ∷ []))) z
faces_these f xs x z h =
    subst (λ ns. Contains ns z) (sym (faces_push f xs x))
    (Contains-append_right (all_faces f (numbers xs)) (numbers (faces f x.0)) z (Contains-from_Has (numbers (faces f x.0)) z h))

module _ (f : Contents) (x : Failing) (tw : x.rule ≡ rule.Twice) where
  -- the number of the entity whose item is named
  abbrev ent : ℤ
  ent = pos x.entity.0

  clash : (r : Rule) (e item : ℕ) → x ≡ (let y : Failing = record { rule = r; entity = record { 0 = e }; place = item } in y) → r ≡ rule.Twice
  clash r e item h = sym (ap (λ (y : Failing). y.rule) h) ∙ tw

  is_kind : (k : EntityKind) (z : ℤ) → x.entity.0 ≡ entry_number z → NamesKind k f z → NamesKind k f ent
  is_kind k z e h = subst (NamesKind k f) (sym (number_of f z k h) ∙ ap pos (sym e)) h

  is_number : (k : EntityKind) (z : ℤ) → x.entity.0 ≡ entry_number z → NamesKind k f z → z ≡ ent
  is_number k z e h = sym (number_of f z k h) ∙ ap pos (sym e)

  -- ---- obligations of other rules

  pub record_none : (e : ℤ) (item : ℕ) (k : EntityKind) (z : ℤ) → ¬ Bears (record_places f e item k z) x
  record_none e item k z b =
      ⊎_elim (λ h. let g : rule.NoEntry ≡ rule.Twice = clash rule.NoEntry (entry_number e) item h in cc)
      (λ r. ⊎_elim (λ h. let g : rule.WrongKind ≡ rule.Twice = clash rule.WrongKind (entry_number e) item h in cc)
      (λ q. ⊎_elim (λ h. let g : rule.BadLayout ≡ rule.Twice = clash rule.BadLayout (entry_number z) 0 h in cc) (λ n. n) q) r) b

  pub geometry_none : (e item : ℕ) (P : Type 0) → ¬ Bears (obligation rule.BadGeometry e item P ∷ []) x
  geometry_none e item P b = ⊎_elim (λ h. let g : rule.BadGeometry ≡ rule.Twice = clash rule.BadGeometry e item h in cc) (λ n. n) b

  item_none : (e : ℤ) (item : ℕ) (k : EntityKind) (z index : ℤ) (count : ℕ) → ¬ Bears (item_places f e item k z index count) x
  item_none e item k z index count b =
      ⊎_elim (λ q. record_none e item k z q)
      (λ q. ⊎_elim (λ h. let g : rule.BadIndex ≡ rule.Twice = clash rule.BadIndex (entry_number e) item h in cc) (λ n. n) q)
      (bears_either (record_places f e item k z) (obligation rule.BadIndex (entry_number e) item (IsIndex index count) ∷ []) x b)

  edge_none : (e : ℤ) (item : ℕ) (o : Option EdgeTuple) → ¬ Bears (edge_places f e item o) x
  edge_none e item None b = b
  edge_none e item (Some t) b =
      let geometry = obligation rule.BadGeometry (entry_number e) item (NamesGeometry f t.curve) ∷ [] in
      let start = item_places f e item vertices t.start_list t.start_index (length (told vertices f t.start_list)) in
      let end = item_places f e item vertices t.end_list t.end_index (length (told vertices f t.end_list)) in
      ⊎_elim (λ g. geometry_none (entry_number e) item (NamesGeometry f t.curve) g)
      (λ r. ⊎_elim (λ s. item_none e item vertices t.start_list t.start_index (length (told vertices f t.start_list)) s)
      (λ s. item_none e item vertices t.end_list t.end_index (length (told vertices f t.end_list)) s) (bears_either start end x r))
      (bears_either geometry (start ++ end) x b)

  used_none : (l : ℤ) (item : ℕ) (v index : ℤ) (is_vertex : Bool) → ¬ Bears (used_places f l item v index is_vertex) x
  used_none l item v index true b = item_none l item vertices v index (length (told vertices f v)) b
  used_none l item v index false b =
      let place = item_places f l item edges v index (length (told edges f v)) in
      ⊎_elim (λ q. item_none l item edges v index (length (told edges f v)) q)
      (λ q. edge_none v (entry_number index) (edge_at f v (entry_number index)) q)
      (bears_either place (edge_places f v (entry_number index) (edge_at f v (entry_number index))) x b)

  pub tuples_none : (l : ℤ) (before ts : List LoopTuple) → ¬ Bears (after_each (tuple_places f l) before ts) x
  unfolding tuple_places
  tuples_none l before [] b = b
  tuples_none l before (t ∷ ts) b =
      let item = length before + 1 in
      let used = used_places f l item t.«list» t.index t.is_vertex in
      let Curves = All (λ (c : Bool × ℤ). NamesGeometry f c.1) t.curves in
      ⊎_elim
      (λ q. ⊎_elim (λ r. used_none l item t.«list» t.index t.is_vertex r) (λ r. geometry_none (entry_number l) item Curves r)
      (bears_either used (obligation rule.BadGeometry (entry_number l) item Curves ∷ []) x q))
      (λ q. tuples_none l (before ++ t ∷ []) ts q)
      (bears_either (tuple_places f l before t) (after_each (tuple_places f l) (before ++ t ∷ []) ts) x b)

  -- ---- the loops of a face

  abbrev tuples_owe : ℤ → List Obligation
  tuples_owe l = after_each (tuple_places f l) [] (tuples f l)

  loop_reached : (c : ℤ) (place : ℕ) (known : List ℤ) (l : ℤ) → Reached x (loop_at f c place known l) → IsAt (entry_number c) place x
  loop_reached c place known l h =
      let own = record_places f c place «loop» l in
      let rest = (obligation rule.Twice (entry_number c) place (¬ Contains known l) ∷ []) ++ tuples_owe l in
      ⊎_elim (λ q. absurd (record_none c place «loop» l (reached_bears own x q)))
      (λ q. ⊎_elim (λ e. at_name x rule.Twice (entry_number c) place e)
      (λ r. absurd (tuples_none l [] (tuples f l) (reached_bears (tuples_owe l) x r.1))) q.1)
      (reached_split own rest x h)

  loop_once : (c : ℤ) (place : ℕ) (known : List ℤ) (l : ℤ) → ¬ ComesBefore x x (loop_at f c place known l)
  loop_once c place known l h =
      let own = record_places f c place «loop» l in
      let rest = (obligation rule.Twice (entry_number c) place (¬ Contains known l) ∷ []) ++ tuples_owe l in
      ⊎_elim (λ q. record_none c place «loop» l (before_bears own x x q))
      (λ r. ⊎_elim (λ q. record_none c place «loop» l q.1)
      (λ q. ⊎_elim (λ e. tuples_none l [] (tuples f l) (first_bears (tuples_owe l) x e.1))
      (λ e. tuples_none l [] (tuples f l) (before_bears (tuples_owe l) x x e)) q.1.1)
      r)
      (before_split own rest x x h)

  loops_reached : (c : ℤ) (used before ls : List ℤ) → Reached x (after_each (loop_places f c used) before ls)
      → (x.entity.0 ≡ entry_number c) × (length before < x.place)
  unfolding loop_places
  loops_reached c used before [] h = absurd h
  loops_reached c used before (l ∷ ls) h =
      let more = length-append before (l ∷ []) in
      ⊎_elim
      (λ q.
      let at = loop_reached c (length before + 1) (used ++ before) l q in
      let place = at.1 in (at.0, (let r : length before < x.place = omega (arith, place) in r)))
      (λ q.
      let at = loops_reached c used (before ++ l ∷ []) ls q.1 in
      let late = at.1 in (at.0, (let r : length before < x.place = omega (arith, late, more) in r)))
      (reached_split (loop_places f c used before l) (after_each (loop_places f c used) (before ++ l ∷ []) ls) x h)

  loops_once : (c : ℤ) (used before ls : List ℤ) → ¬ ComesBefore x x (after_each (loop_places f c used) before ls)
  unfolding loop_places
  loops_once c used before [] h = h
  loops_once c used before (l ∷ ls) h =
      let here = loop_places f c used before l in
      let rest = after_each (loop_places f c used) (before ++ l ∷ []) ls in
      let more = length-append before (l ∷ []) in
      ⊎_elim (λ q. loop_once c (length before + 1) (used ++ before) l q)
      (λ r. ⊎_elim
      (λ q.
      let at = loop_reached c (length before + 1) (used ++ before) l (held_reached here x q.0 q.1) in
      let late = loops_reached c used (before ++ l ∷ []) ls (false_reached rest x q.2) in
      let place = at.1 in let after = late.1 in absurd (omega (arith, place, after, more)))
      (λ q. loops_once c used (before ++ l ∷ []) ls q.1) r)
      (before_split here rest x x h)

  -- ---- the faces of a shell

  abbrev Surface : ℤ → Type 0
  Surface c = (let items = told face f c in NamesGeometry f items.surface)

  abbrev loops_owe : List ℤ → ℤ → List Obligation
  loops_owe known c = after_each (loop_places f c (flat_map (loops f) known)) [] (loops f c)

  abbrev face_rest : ℤ → ℕ → List ℤ → ℤ → List Obligation
  face_rest s place known c =
      (obligation rule.Twice (entry_number s) place (¬ Contains known c) ∷ obligation rule.BadGeometry (entry_number c) 0 (Surface c) ∷ []) ++ loops_owe known c

  -- the item is named of a face that none of these names
  abbrev OfFace : List ℤ → Type 0
  OfFace known = NamesKind face f ent × (¬ Contains known ent)

  abbrev OfShell : List ℤ → Type 0
  OfShell known = NamesKind shell f ent × (¬ Contains known ent)

  two_kinds : (z : ℤ) → x.entity.0 ≡ entry_number z → NamesKind shell f z → ¬ NamesKind face f ent
  two_kinds z e nk h = let g : shell ≡ face = kind_one f ent shell face (is_kind shell z e nk) h in cc

  in_face : (c : ℤ) (known : List ℤ) → NamesKind face f c → ¬ Contains known c → Reached x (loops_owe known c) → (c ≡ ent) × OfFace known
  in_face c known nk new h =
      let e = (loops_reached c (flat_map (loops f) known) [] (loops f c) h).0 in
      let same = is_number face c e nk in
      (same, (is_kind face c e nk, subst (λ z. ¬ Contains known z) same new))

  face_reached : (s : ℤ) (place : ℕ) (known : List ℤ) (c : ℤ) → Reached x (face_at f s place known c)
      → IsAt (entry_number s) place x ⊎ ((c ≡ ent) × OfFace known)
  face_reached s place known c h =
      let own = record_places f s place face c in
      ⊎_elim (λ q. absurd (record_none s place face c (reached_bears own x q)))
      (λ q. ⊎_elim (λ e. inl (at_name x rule.Twice (entry_number s) place e))
      (λ r. ⊎_elim (λ e. absurd (geometry_none (entry_number c) 0 (Surface c) (inl e))) (λ u. inr (in_face c known q.0.1.0 r.0 u.1)) r.1)
      q.1)
      (reached_split own (face_rest s place known c) x h)

  face_once : (s : ℤ) (place : ℕ) (known : List ℤ) (c : ℤ) → NamesKind shell f s → ¬ ComesBefore x x (face_at f s place known c)
  face_once s place known c nk h =
      let own = record_places f s place face c in
      ⊎_elim (λ q. record_none s place face c (before_bears own x x q))
      (λ r. ⊎_elim (λ q. record_none s place face c q.1) (λ q. after_record q.0.1.0 q.1) r)
      (before_split own (face_rest s place known c) x x h)
    where
      after_record : NamesKind face f c → ComesBefore x x (face_rest s place known c) → ⊥
      after_record kind h =
          ⊎_elim
          (λ e. ⊎_elim (λ b. geometry_none (entry_number c) 0 (Surface c) (inl b.1))
          (λ u.
          let of = in_face c known kind h.0 (false_reached (loops_owe known c) x u.1) in
          two_kinds s (at_name x rule.Twice (entry_number s) place e.0).0 nk of.1.0) e.1)
          (λ e. ⊎_elim (λ b. geometry_none (entry_number c) 0 (Surface c) (inl b.0))
          (λ u. loops_once c (flat_map (loops f) known) [] (loops f c) u) e.1)
          h.1

  faces_reached : (s : ℤ) (used : List ℤ) (before cs : List (ℤ × Bool)) → Reached x (after_each (face_places f s used) before cs)
      → ((x.entity.0 ≡ entry_number s) × (length before < x.place)) ⊎ (Has (numbers cs) ent × OfFace (used ++ numbers before))
  unfolding face_places
  faces_reached s used before [] h = absurd h
  faces_reached s used before (c ∷ cs) h =
      let more = length-append before (c ∷ []) in
      ⊎_elim
      (λ q. ⊎_elim
      (λ at. let place = at.1 in inl (at.0, (let r : length before < x.place = omega (arith, place) in r)))
      (λ of. inr (inl of.0, of.1))
      (face_reached s (length before + 1) (used ++ numbers before) c.0 q))
      (λ q. ⊎_elim
      (λ at. let late = at.1 in inl (at.0, (let r : length before < x.place = omega (arith, late, more) in r)))
      (λ of. inr (inr of.0, (of.1.0, λ k. of.1.1 (known_more used before c ent k))))
      (faces_reached s used (before ++ c ∷ []) cs q.1))
      (reached_split (face_places f s used before c) (after_each (face_places f s used) (before ++ c ∷ []) cs) x h)

  faces_once : (s : ℤ) (used : List ℤ) (before cs : List (ℤ × Bool)) → NamesKind shell f s → ¬ ComesBefore x x (after_each (face_places f s used) before cs)
  unfolding face_places
  faces_once s used before [] nk h = h
  faces_once s used before (c ∷ cs) nk h =
      let here = face_places f s used before c in
      let rest = after_each (face_places f s used) (before ++ c ∷ []) cs in
      let more = length-append before (c ∷ []) in
      ⊎_elim (λ q. face_once s (length before + 1) (used ++ numbers before) c.0 nk q)
      (λ r. ⊎_elim
      (λ q.
      let late = faces_reached s used (before ++ c ∷ []) cs (false_reached rest x q.2) in
      ⊎_elim
      (λ at. ⊎_elim (λ l. let place = at.1 in let after = l.1 in absurd (omega (arith, place, after, more))) (λ l. two_kinds s at.0 nk l.1.0) late)
      (λ of. ⊎_elim (λ l. two_kinds s l.0 nk of.1.0) (λ l. l.1.1 (subst (Contains (used ++ numbers (before ++ c ∷ []))) of.0 (known_this used before c))) late)
      (face_reached s (length before + 1) (used ++ numbers before) c.0 (held_reached here x q.0 q.1)))
      (λ q. faces_once s used (before ++ c ∷ []) cs nk q.1) r)
      (before_split here rest x x h)

  -- ---- the shells of a solid

  abbrev faces_owe : List ℤ → ℤ → List Obligation
  faces_owe known s = after_each (face_places f s (all_faces f known)) [] (faces f s)

  abbrev shell_rest : ℤ → ℕ → List ℤ → ℤ → List Obligation
  shell_rest n place known s = (obligation rule.Twice (entry_number n) place (¬ Contains known s) ∷ []) ++ faces_owe known s

  in_shell : (s : ℤ) (known : List ℤ) → NamesKind shell f s → ¬ Contains known s → Reached x (faces_owe known s)
      → ((s ≡ ent) × OfShell known) ⊎ (Has (numbers (faces f s)) ent × OfFace (all_faces f known))
  in_shell s known nk new h =
      ⊎_elim
      (λ at. let same = is_number shell s at.0 nk in inl (same, (is_kind shell s at.0 nk, subst (λ z. ¬ Contains known z) same new)))
      (λ of. inr (of.0, (of.1.0, λ k. of.1.1 (Contains-append_left (all_faces f known) [] ent k))))
      (faces_reached s (all_faces f known) [] (faces f s) h)

  shell_reached : (n : ℤ) (place : ℕ) (known : List ℤ) (s : ℤ) → Reached x (shell_at f n place known s)
      → IsAt (entry_number n) place x ⊎ (((s ≡ ent) × OfShell known) ⊎ (Has (numbers (faces f s)) ent × OfFace (all_faces f known)))
  shell_reached n place known s h =
      let own = record_places f n place shell s in
      ⊎_elim (λ q. absurd (record_none n place shell s (reached_bears own x q)))
      (λ q. ⊎_elim (λ e. inl (at_name x rule.Twice (entry_number n) place e)) (λ r. inr (in_shell s known q.0.1.0 r.0 r.1)) q.1)
      (reached_split own (shell_rest n place known s) x h)

  no_shell : (n : ℤ) → x.entity.0 ≡ entry_number n → NamesKind solid f n → ¬ NamesKind shell f ent
  no_shell n e nk h = let g : solid ≡ shell = kind_one f ent solid shell (is_kind solid n e nk) h in cc

  no_face : (n : ℤ) → x.entity.0 ≡ entry_number n → NamesKind solid f n → ¬ NamesKind face f ent
  no_face n e nk h = let g : solid ≡ face = kind_one f ent solid face (is_kind solid n e nk) h in cc

  not_both : NamesKind shell f ent → ¬ NamesKind face f ent
  not_both k h = let g : shell ≡ face = kind_one f ent shell face k h in cc

  shell_once : (n : ℤ) (place : ℕ) (known : List ℤ) (s : ℤ) → NamesKind solid f n → ¬ ComesBefore x x (shell_at f n place known s)
  shell_once n place known s nk h =
      let own = record_places f n place shell s in
      ⊎_elim (λ q. record_none n place shell s (before_bears own x x q))
      (λ r. ⊎_elim (λ q. record_none n place shell s q.1) (λ q. after_record q.0.1.0 q.1) r)
      (before_split own (shell_rest n place known s) x x h)
    where
      after_record : NamesKind shell f s → ComesBefore x x (shell_rest n place known s) → ⊥
      after_record kind h =
          ⊎_elim
          (λ e. let at = at_name x rule.Twice (entry_number n) place e.0 in
          ⊎_elim (λ of. no_shell n at.0 nk of.1.0) (λ of. no_face n at.0 nk of.1.0)
          (in_shell s known kind h.0 (false_reached (faces_owe known s) x e.1)))
          (λ e. faces_once s (all_faces f known) [] (faces f s) kind e)
          h.1

  shells_reached : (n : ℤ) (before ss : List (ℤ × Bool)) → Reached x (after_each (shell_places f n) before ss)
      → ((x.entity.0 ≡ entry_number n) × (length before < x.place)) ⊎ (OfShell (numbers before) ⊎ OfFace (all_faces f (numbers before)))
  unfolding shell_places
  shells_reached n before [] h = absurd h
  shells_reached n before (s ∷ ss) h =
      let more = length-append before (s ∷ []) in
      ⊎_elim
      (λ q. ⊎_elim
      (λ at. let place = at.1 in inl (at.0, (let r : length before < x.place = omega (arith, place) in r)))
      (λ of. inr (⊎_elim (λ o. inl o.1) (λ o. inr o.1) of))
      (shell_reached n (length before + 1) (numbers before) s.0 q))
      (λ q. ⊎_elim
      (λ at. let late = at.1 in inl (at.0, (let r : length before < x.place = omega (arith, late, more) in r)))
      (λ of. inr (⊎_elim (λ o. inl (o.0, λ k. o.1 (known_more [] before s ent k))) (λ o. inr (o.0, λ k. o.1 (faces_more f before s ent k))) of))
      (shells_reached n (before ++ s ∷ []) ss q.1))
      (reached_split (shell_places f n before s) (after_each (shell_places f n) (before ++ s ∷ []) ss) x h)

  shells_once : (n : ℤ) (before ss : List (ℤ × Bool)) → NamesKind solid f n → ¬ ComesBefore x x (after_each (shell_places f n) before ss)
  unfolding shell_places
  shells_once n before [] nk h = h
  shells_once n before (s ∷ ss) nk h =
      let here = shell_places f n before s in
      let rest = after_each (shell_places f n) (before ++ s ∷ []) ss in
      let more = length-append before (s ∷ []) in
      ⊎_elim (λ q. shell_once n (length before + 1) (numbers before) s.0 nk q)
      (λ r. ⊎_elim
      (λ q.
      let late = shells_reached n (before ++ s ∷ []) ss (false_reached rest x q.2) in
      ⊎_elim
      (λ at. ⊎_elim (λ l. let place = at.1 in let after = l.1 in absurd (omega (arith, place, after, more)))
      (λ l. ⊎_elim (λ o. no_shell n at.0 nk o.0) (λ o. no_face n at.0 nk o.0) l) late)
      (λ of. ⊎_elim
      (λ a. ⊎_elim (λ l. no_shell n l.0 nk a.1.0)
      (λ l. ⊎_elim (λ o. o.1 (subst (Contains (numbers (before ++ s ∷ []))) a.0 (known_this [] before s))) (λ o. not_both a.1.0 o.0) l) late)
      (λ a. ⊎_elim (λ l. no_face n l.0 nk a.1.0)
      (λ l. ⊎_elim (λ o. not_both o.0 a.1.0) (λ o. o.1 (faces_these f before s ent a.0)) l) late)
      of)
      (shell_reached n (length before + 1) (numbers before) s.0 (held_reached here x q.0 q.1)))
      (λ q. shells_once n (before ++ s ∷ []) ss nk q.1) r)
      (before_split here rest x x h)

  pub places_once : (n : ℕ) → ¬ ComesBefore x x (places f n)
  unfolding places
  places_once n h =
      let own = record_places f (pos n) 0 solid (pos n) in
      let rest = after_each (shell_places f (pos n)) [] (shells f (pos n)) in
      ⊎_elim (λ q. record_none (pos n) 0 solid (pos n) (before_bears own x x q))
      (λ r. ⊎_elim (λ q. record_none (pos n) 0 solid (pos n) q.1) (λ q. shells_once (pos n) [] (shells f (pos n)) q.0.1.0 q.1) r)
      (before_split own rest x x h)
