-- What is owed of an item of a record is the same wherever it is asked, but for whether it was named before.
use Rattle.std.specs.Prelude.{◌≡◌, ℕ, zero, suc, ◌≤◌, Bool, true, false, ℤ, pos, negsuc, List, [], ◌∷◌, ◌++◌, ◌⊎◌, ⊤, length, All, Contains, Option, Some, None}
use Rattle.std.specs.Prelude.{option_map, slice_get}
use Rattle.std.proofs.Common.{refl, sym, ◌∙◌, ap, subst, arith, inl, inr, ⊎_elim}
use Rattle.std.proofs.lemmas.Option.{same_Some}
use Rattle.iges_params.specs.Contents.{Contents}
use Rattle.brep_lists.specs.Record.{LoopTuple}
use Rattle.brep_lists.specs.declared.entity_kind.EntityKind.{EntityKind}
use Rattle.brep_lists.specs.declared.entity_kind.EntityKind.TheVariants.{Solid as solid, Shell as shell, Face as face, Loop as «loop», EdgeList as edges}
use Rattle.brep_lists.specs.declared.entity_kind.EntityKind.TheVariants.{VertexList as vertices}
use Rattle.brep_lists.specs.declared.edge_list.EdgeTuple.{EdgeTuple}
use Rattle.brep_walk.specs.Places.{told, shells, faces, loops, tuples, edge_at, NamesKind, NamesGeometry, HasRecordOf, IsIndex, record_places, item_places}
use Rattle.brep_walk.specs.Places.{edge_places, used_places, tuple_at}
use Rattle.solid_data.specs.Obligations.{AllHold, FirstFalse, obligation, entry_number}
use Rattle.solid_data.specs.declared.verdict.Rule.{Rule}
use Rattle.solid_data.specs.declared.verdict.Rule.TheVariants as rule
use Rattle.solid_data.specs.declared.verdict.Failing.{Failing}
use Rattle.solid_data.proofs.ObligationLemmas.{AllHold-append_left, AllHold-append_right, FirstFalse-not_all}
use Rattle.record_values.specs.BadValue.{entry_at, kind_in}
use Rattle.record_paths.specs.Paths.{naming_places, face_naming}
use Rattle.record_paths.specs.Searched.{Bears}
use Rattle.record_paths.proofs.Bearing.{false_either, bears_either}
use Rattle.record_laws.proofs.NamedKinds.{at_kind}
use Rattle.record_laws.proofs.Splits.{fail}

abbrev pub IsAt : ℕ → ℕ → Failing → Type 0
IsAt e item x = (x.entity.0 ≡ e) × (x.place ≡ item)

pub at_name : (x : Failing) (r : Rule) (e item : ℕ) → x ≡ fail r e item → IsAt e item x
at_name x r e item h = (ap (λ (y : Failing). y.entity.0) h, ap (λ (y : Failing). y.place) h)

-- ---- kinds

pub kind_one : (f : Contents) (z : ℤ) (k l : EntityKind) → NamesKind k f z → NamesKind l f z → k ≡ l
kind_one f z k l h g = same_Some k l (sym (at_kind f z k h) ∙ at_kind f z l g)

pub number_of : (f : Contents) (z : ℤ) (k : EntityKind) → NamesKind k f z → pos (entry_number z) ≡ z
number_of f (pos m) k h = refl
number_of f (negsuc m) k h = absurd h

-- ---- what is owed of an item of an entity, or of the whole record

abbrev place_owed : Contents → ℕ → ℕ → EntityKind → Option ℤ → Type 0
place_owed f e item k None = ⊤
place_owed f e item k (Some z) = AllHold (record_places f (pos e) item k z)

abbrev tuple_owed : Contents → ℕ → ℕ → Option LoopTuple → Type 0
tuple_owed f e item None = ⊤
tuple_owed f e item (Some t) = AllHold (tuple_at f (pos e) item t)

abbrev number_at : List (ℤ × Bool) → ℕ → Option ℤ
number_at items i = option_map (λ (p : ℤ × Bool). p.0) (slice_get items i)

abbrev item_owed : Contents → ℕ → ℕ → EntityKind → Type 0
item_owed f e i solid = place_owed f e (suc i) shell (number_at (shells f (pos e)) i)
item_owed f e i shell = place_owed f e (suc i) face (number_at (faces f (pos e)) i)
item_owed f e i face = place_owed f e (suc i) «loop» (slice_get (loops f (pos e)) i)
item_owed f e i «loop» = tuple_owed f e (suc i) (slice_get (tuples f (pos e)) i)
item_owed f e i edges = AllHold (edge_places f (pos e) (suc i) (edge_at f (pos e) (suc i)))
item_owed f e i vertices = ⊤

abbrev whole_owed : Contents → ℕ → EntityKind → Type 0
whole_owed f e solid = HasRecordOf solid f (pos e)
whole_owed f e shell = HasRecordOf shell f (pos e)
whole_owed f e face = HasRecordOf face f (pos e) × (let items = told face f (pos e) in NamesGeometry f items.surface)
whole_owed f e «loop» = HasRecordOf «loop» f (pos e)
whole_owed f e edges = HasRecordOf edges f (pos e)
whole_owed f e vertices = HasRecordOf vertices f (pos e)

abbrev owed_of : Contents → ℕ → ℕ → Option EntityKind → Type 0
owed_of f e item None = ⊤
owed_of f e zero (Some k) = whole_owed f e k
owed_of f e (suc i) (Some k) = item_owed f e i k

-- all that is owed there holds
abbrev pub Settled : Contents → ℕ → ℕ → Type 0
Settled f e item = owed_of f e item (kind_in (entry_at f (pos e)))

settled_as : (f : Contents) (e item : ℕ) (k : EntityKind) → NamesKind k f (pos e) → owed_of f e item (Some k) → Settled f e item
settled_as f e item k nk h = subst (owed_of f e item) (sym (at_kind f (pos e) k nk)) h

settled_is : (f : Contents) (e item : ℕ) (k : EntityKind) → NamesKind k f (pos e) → Settled f e item → owed_of f e item (Some k)
settled_is f e item k nk h = subst (owed_of f e item) (at_kind f (pos e) k nk) h

has_record : (f : Contents) (e : ℕ) (k : EntityKind) → whole_owed f e k → HasRecordOf k f (pos e)
has_record f e solid h = h
has_record f e shell h = h
has_record f e face h = h.0
has_record f e «loop» h = h
has_record f e edges h = h
has_record f e vertices h = h

-- of such a kind no more is owed than a record
abbrev IsPlain : Contents → EntityKind → Type 0
IsPlain f k = (e : ℕ) → HasRecordOf k f (pos e) → whole_owed f e k

pub plain_whole : (f : Contents) (k : EntityKind) (z : ℤ) → IsPlain f k → NamesKind k f z → HasRecordOf k f z → whole_owed f (entry_number z) k
plain_whole f k (pos m) plain nk h = plain m h
plain_whole f k (negsuc m) plain nk h = absurd nk

low_index : (index : ℤ) (count : ℕ) → IsIndex index count → 1 ≤ entry_number index
low_index index count h = let same : entry_number index ≡ h.0 = ap entry_number h.1 in let low = h.2 in omega (arith, same, low)

edge_settled : (f : Contents) (m item : ℕ) → NamesKind edges f (pos m) → 1 ≤ item → AllHold (edge_places f (pos m) item (edge_at f (pos m) item))
    → Settled f m item
edge_settled f m zero nk low all = absurd (omega (arith, low))
edge_settled f m (suc i) nk low all = settled_as f m (suc i) edges nk all

edge_is : (f : Contents) (m item : ℕ) → NamesKind edges f (pos m) → 1 ≤ item → Settled f m item
    → AllHold (edge_places f (pos m) item (edge_at f (pos m) item))
edge_is f m zero nk low h = absurd (omega (arith, low))
edge_is f m (suc i) nk low h = settled_is f m (suc i) edges nk h

module _ (f : Contents) (x : Failing) where
  -- all that is owed where x is holds
  abbrev pub Named : Type 0
  Named = Settled f x.entity.0 x.place

  at_settled : (e item : ℕ) → IsAt e item x → Settled f e item → Named
  at_settled e item at h = subst (λ d. Settled f d x.place) (sym at.0) (subst (λ i. Settled f e i) (sym at.1) h)

  settled_at : (e item : ℕ) → IsAt e item x → Named → Settled f e item
  settled_at e item at h = subst (λ i. Settled f e i) at.1 (subst (λ d. Settled f d x.place) at.0 h)

  whole_settled : (k : EntityKind) (z : ℤ) → NamesKind k f z → whole_owed f (entry_number z) k → Settled f (entry_number z) 0
  whole_settled k (pos m) nk h = settled_as f m 0 k nk h
  whole_settled k (negsuc m) nk h = absurd nk

  whole_is : (k : EntityKind) (z : ℤ) → NamesKind k f z → Settled f (entry_number z) 0 → whole_owed f (entry_number z) k
  whole_is k (pos m) nk h = settled_is f m 0 k nk h
  whole_is k (negsuc m) nk h = absurd nk

  -- ---- where all hold

  record_held : (ent : ℤ) (item : ℕ) (k : EntityKind) (z : ℤ) → NamesKind k f z → whole_owed f (entry_number z) k
      → Bears (record_places f ent item k z) x → IsAt (entry_number ent) item x ⊎ Named
  record_held ent item k z nk whole b =
      ⊎_elim (λ e. inl (at_name x rule.NoEntry (entry_number ent) item e))
      (λ r. ⊎_elim (λ e. inl (at_name x rule.WrongKind (entry_number ent) item e))
      (λ q. ⊎_elim (λ e. inr (at_settled (entry_number z) 0 (at_name x rule.BadLayout (entry_number z) 0 e) (whole_settled k z nk whole)))
      (λ n. absurd n) q) r) b

  item_held : (ent : ℤ) (item : ℕ) (k : EntityKind) (z index : ℤ) (count : ℕ) → IsPlain f k → AllHold (item_places f ent item k z index count)
      → Bears (item_places f ent item k z index count) x → IsAt (entry_number ent) item x ⊎ Named
  item_held ent item k z index count plain all b =
      ⊎_elim (λ r. record_held ent item k z all.1.0 (plain_whole f k z plain all.1.0 all.1.1.0) r)
      (λ r. ⊎_elim (λ e. inl (at_name x rule.BadIndex (entry_number ent) item e)) (λ n. absurd n) r)
      (bears_either (record_places f ent item k z) (obligation rule.BadIndex (entry_number ent) item (IsIndex index count) ∷ []) x b)

  edge_held : (ent : ℤ) (item : ℕ) (o : Option EdgeTuple) → AllHold (edge_places f ent item o) → Bears (edge_places f ent item o) x
      → IsAt (entry_number ent) item x ⊎ Named
  edge_held ent item None all b = absurd b
  edge_held ent item (Some t) all b =
      let geometry = obligation rule.BadGeometry (entry_number ent) item (NamesGeometry f t.curve) ∷ [] in
      let start = item_places f ent item vertices t.start_list t.start_index (length (told vertices f t.start_list)) in
      let end = item_places f ent item vertices t.end_list t.end_index (length (told vertices f t.end_list)) in
      let held = AllHold-append_right geometry (start ++ end) all in
      ⊎_elim (λ g. ⊎_elim (λ e. inl (at_name x rule.BadGeometry (entry_number ent) item e)) (λ n. absurd n) g)
      (λ r. ⊎_elim
      (λ s. item_held ent item vertices t.start_list t.start_index (length (told vertices f t.start_list)) (λ e h. h) (AllHold-append_left start end held) s)
      (λ s. item_held ent item vertices t.end_list t.end_index (length (told vertices f t.end_list)) (λ e h. h) (AllHold-append_right start end held) s)
      (bears_either start end x r))
      (bears_either geometry (start ++ end) x b)

  used_held : (l : ℤ) (item : ℕ) (v index : ℤ) (b : Bool) → AllHold (used_places f l item v index b) → Bears (used_places f l item v index b) x
      → IsAt (entry_number l) item x ⊎ Named
  used_held l item v index true all h = item_held l item vertices v index (length (told vertices f v)) (λ e r. r) all h
  used_held l item (negsuc m) index false all h = absurd all.1.0
  used_held l item (pos m) index false all h =
      let place = item_places f l item edges (pos m) index (length (told edges f (pos m))) in
      let ends = edge_places f (pos m) (entry_number index) (edge_at f (pos m) (entry_number index)) in
      let front = AllHold-append_left place ends all in
      let rest = AllHold-append_right place ends all in
      ⊎_elim (λ q. item_held l item edges (pos m) index (length (told edges f (pos m))) (λ e r. r) front q)
      (λ q. ⊎_elim
      (λ at. inr (at_settled m (entry_number index) at
      (edge_settled f m (entry_number index) all.1.0 (low_index index (length (told edges f (pos m))) all.1.1.1.0) rest)))
      (λ s. inr s)
      (edge_held (pos m) (entry_number index) (edge_at f (pos m) (entry_number index)) rest q))
      (bears_either place ends x h)

  tuple_held : (l : ℤ) (item : ℕ) (t : LoopTuple) → AllHold (tuple_at f l item t) → Bears (tuple_at f l item t) x → IsAt (entry_number l) item x ⊎ Named
  tuple_held l item t all h =
      let used = used_places f l item t.«list» t.index t.is_vertex in
      let curves = obligation rule.BadGeometry (entry_number l) item (All (λ (c : Bool × ℤ). NamesGeometry f c.1) t.curves) ∷ [] in
      ⊎_elim (λ q. used_held l item t.«list» t.index t.is_vertex (AllHold-append_left used curves all) q)
      (λ q. ⊎_elim (λ e. inl (at_name x rule.BadGeometry (entry_number l) item e)) (λ n. absurd n) q)
      (bears_either used curves x h)

  -- the solid that was asked for
  pub whole_named : (n : ℕ) → NamesKind solid f (pos n) → HasRecordOf solid f (pos n) → Bears (record_places f (pos n) 0 solid (pos n)) x → Named
  whole_named n nk h b =
      ⊎_elim (λ at. at_settled n 0 at (whole_settled solid (pos n) nk h)) (λ s. s) (record_held (pos n) 0 solid (pos n) nk h b)

  -- ---- where x is the first false one

  layout_broken : (k : EntityKind) (z : ℤ) → IsAt (entry_number z) 0 x → NamesKind k f z → ¬ HasRecordOf k f z → ¬ Named
  layout_broken k (negsuc m) at nk bad s = absurd nk
  layout_broken k (pos m) at nk bad s = bad (has_record f m k (settled_is f m 0 k nk (settled_at m 0 at s)))

  record_false : (ent : ℤ) (item : ℕ) (k : EntityKind) (z : ℤ) → FirstFalse (record_places f ent item k z) x → IsAt (entry_number ent) item x ⊎ (¬ Named)
  record_false ent item k z h =
      ⊎_elim (λ a. inl (at_name x rule.NoEntry (entry_number ent) item a.1))
      (λ r. ⊎_elim (λ b. inl (at_name x rule.WrongKind (entry_number ent) item b.1))
      (λ q. ⊎_elim (λ c. inr (layout_broken k z (at_name x rule.BadLayout (entry_number z) 0 c.1) q.0 c.0)) (λ p. absurd p.1) q.1)
      r.1) h

  item_false : (ent : ℤ) (item : ℕ) (k : EntityKind) (z index : ℤ) (count : ℕ) → FirstFalse (item_places f ent item k z index count) x
      → IsAt (entry_number ent) item x ⊎ (¬ Named)
  item_false ent item k z index count h =
      ⊎_elim (λ front. record_false ent item k z front)
      (λ rest. ⊎_elim (λ a. inl (at_name x rule.BadIndex (entry_number ent) item a.1)) (λ b. absurd b.1) rest.1)
      (false_either (record_places f ent item k z) (obligation rule.BadIndex (entry_number ent) item (IsIndex index count) ∷ []) x h)

  edge_false : (ent : ℤ) (item : ℕ) (o : Option EdgeTuple) → FirstFalse (edge_places f ent item o) x → IsAt (entry_number ent) item x ⊎ (¬ Named)
  edge_false ent item None h = absurd h
  edge_false ent item (Some t) h =
      let geometry = obligation rule.BadGeometry (entry_number ent) item (NamesGeometry f t.curve) ∷ [] in
      let start = item_places f ent item vertices t.start_list t.start_index (length (told vertices f t.start_list)) in
      let end = item_places f ent item vertices t.end_list t.end_index (length (told vertices f t.end_list)) in
      ⊎_elim (λ g. ⊎_elim (λ a. inl (at_name x rule.BadGeometry (entry_number ent) item a.1)) (λ b. absurd b.1) g)
      (λ r. ⊎_elim
      (λ s. item_false ent item vertices t.start_list t.start_index (length (told vertices f t.start_list)) s)
      (λ s. item_false ent item vertices t.end_list t.end_index (length (told vertices f t.end_list)) s.1)
      (false_either start end x r.1))
      (false_either geometry (start ++ end) x h)

  used_false : (l : ℤ) (item : ℕ) (v index : ℤ) (b : Bool) → FirstFalse (used_places f l item v index b) x → IsAt (entry_number l) item x ⊎ (¬ Named)
  used_false l item v index true h = item_false l item vertices v index (length (told vertices f v)) h
  used_false l item v index false h =
      let place = item_places f l item edges v index (length (told edges f v)) in
      ⊎_elim (λ front. item_false l item edges v index (length (told edges f v)) front)
      (λ rest. inr (late_false v rest.0.1.0 (low_index index (length (told edges f v)) rest.0.1.1.1.0) rest.1))
      (false_either place (edge_places f v (entry_number index) (edge_at f v (entry_number index))) x h)
    where
      late_false : (v : ℤ) → NamesKind edges f v → 1 ≤ entry_number index
          → FirstFalse (edge_places f v (entry_number index) (edge_at f v (entry_number index))) x → ¬ Named
      late_false (negsuc m) nk low late = absurd nk
      late_false (pos m) nk low late =
          ⊎_elim
          (λ at s. FirstFalse-not_all (edge_places f (pos m) (entry_number index) (edge_at f (pos m) (entry_number index))) x late
          (edge_is f m (entry_number index) nk low (settled_at m (entry_number index) at s)))
          (λ s. s)
          (edge_false (pos m) (entry_number index) (edge_at f (pos m) (entry_number index)) late)

  -- ---- a tuple at its place

  pub tuple_settles : (m i : ℕ) (t : LoopTuple) → NamesKind «loop» f (pos m) → slice_get (tuples f (pos m)) i ≡ Some t
      → AllHold (tuple_at f (pos m) (suc i) t) → Bears (tuple_at f (pos m) (suc i) t) x → Named
  tuple_settles m i t nk there all b =
      ⊎_elim (λ at. at_settled m (suc i) at (settled_as f m (suc i) «loop» nk (subst (tuple_owed f m (suc i)) (sym there) all))) (λ s. s)
      (tuple_held (pos m) (suc i) t all b)

  pub tuple_fresh : (m i : ℕ) (t : LoopTuple) → NamesKind «loop» f (pos m) → slice_get (tuples f (pos m)) i ≡ Some t
      → FirstFalse (tuple_at f (pos m) (suc i) t) x → ¬ Named
  tuple_fresh m i t nk there h =
      ⊎_elim own
      (λ s. s)
      (⊎_elim (λ front. used_false (pos m) (suc i) t.«list» t.index t.is_vertex front)
      (λ rest. ⊎_elim (λ a. inl (at_name x rule.BadGeometry m (suc i) a.1)) (λ b. absurd b.1) rest.1)
      (false_either (used_places f (pos m) (suc i) t.«list» t.index t.is_vertex)
      (obligation rule.BadGeometry m (suc i) (All (λ (c : Bool × ℤ). NamesGeometry f c.1) t.curves) ∷ []) x h))
    where
      own : IsAt m (suc i) x → ¬ Named
      own at s = FirstFalse-not_all (tuple_at f (pos m) (suc i) t) x h
          (subst (tuple_owed f m (suc i)) there (settled_is f m (suc i) «loop» nk (settled_at m (suc i) at s)))

  -- ---- a place that names a record

  -- what is owed there is what is owed of the item of the entity
  pub record IsItem (m i : ℕ) (k : EntityKind) (z : ℤ) : Type 0 where
    pub to : AllHold (record_places f (pos m) (suc i) k z) → Settled f m (suc i)
    pub back : Settled f m (suc i) → AllHold (record_places f (pos m) (suc i) k z)

  pub naming_settles : (m i : ℕ) (k : EntityKind) (known : List ℤ) (z : ℤ) → IsItem m i k z → whole_owed f (entry_number z) k
      → AllHold (naming_places f (pos m) (suc i) k known z) → Bears (naming_places f (pos m) (suc i) k known z) x → Named
  naming_settles m i k known z item whole all b =
      let own = record_places f (pos m) (suc i) k z in
      let once = obligation rule.Twice m (suc i) (¬ Contains known z) ∷ [] in
      ⊎_elim (λ at. at_settled m (suc i) at (item.to (AllHold-append_left own once all))) (λ s. s)
      (⊎_elim (λ q. record_held (pos m) (suc i) k z all.1.0 whole q)
      (λ q. ⊎_elim (λ e. inl (at_name x rule.Twice m (suc i) e)) (λ n. absurd n) q) (bears_either own once x b))

  pub naming_fresh : (m i : ℕ) (k : EntityKind) (known : List ℤ) (z : ℤ) → IsItem m i k z
      → FirstFalse (naming_places f (pos m) (suc i) k known z) x → (x.rule ≡ rule.Twice) ⊎ (¬ Named)
  naming_fresh m i k known z item h =
      let own = record_places f (pos m) (suc i) k z in
      let once = obligation rule.Twice m (suc i) (¬ Contains known z) ∷ [] in
      ⊎_elim
      (λ front. inr (⊎_elim (λ at s. FirstFalse-not_all own x front (item.back (settled_at m (suc i) at s))) (λ s. s)
      (record_false (pos m) (suc i) k z front)))
      (λ rest. ⊎_elim (λ a. inl (ap (λ (y : Failing). y.rule) a.1)) (λ b. absurd b.1) rest.1)
      (false_either own once x h)

  shell_item : (m i : ℕ) (p : ℤ × Bool) → NamesKind solid f (pos m) → slice_get (shells f (pos m)) i ≡ Some p → IsItem m i shell p.0
  shell_item m i p nk there =
      let same : number_at (shells f (pos m)) i ≡ Some p.0 = ap (option_map (λ (q : ℤ × Bool). q.0)) there in
      record {
        to = λ h. settled_as f m (suc i) solid nk (subst (place_owed f m (suc i) shell) (sym same) h);
        back = λ h. subst (place_owed f m (suc i) shell) same (settled_is f m (suc i) solid nk h);
      }

  face_item : (m i : ℕ) (p : ℤ × Bool) → NamesKind shell f (pos m) → slice_get (faces f (pos m)) i ≡ Some p → IsItem m i face p.0
  face_item m i p nk there =
      let same : number_at (faces f (pos m)) i ≡ Some p.0 = ap (option_map (λ (q : ℤ × Bool). q.0)) there in
      record {
        to = λ h. settled_as f m (suc i) shell nk (subst (place_owed f m (suc i) face) (sym same) h);
        back = λ h. subst (place_owed f m (suc i) face) same (settled_is f m (suc i) shell nk h);
      }

  loop_item : (m i : ℕ) (l : ℤ) → NamesKind face f (pos m) → slice_get (loops f (pos m)) i ≡ Some l → IsItem m i «loop» l
  loop_item m i l nk there =
      record {
        to = λ h. settled_as f m (suc i) face nk (subst (place_owed f m (suc i) «loop») (sym there) h);
        back = λ h. subst (place_owed f m (suc i) «loop») there (settled_is f m (suc i) face nk h);
      }

  pub shell_settles : (m i : ℕ) (known : List ℤ) (p : ℤ × Bool) → NamesKind solid f (pos m) → slice_get (shells f (pos m)) i ≡ Some p
      → AllHold (naming_places f (pos m) (suc i) shell known p.0) → Bears (naming_places f (pos m) (suc i) shell known p.0) x → Named
  shell_settles m i known p nk there all b =
      naming_settles m i shell known p.0 (shell_item m i p nk there) (plain_whole f shell p.0 (λ e h. h) all.1.0 all.1.1.0) all b

  pub shell_fresh : (m i : ℕ) (known : List ℤ) (p : ℤ × Bool) → NamesKind solid f (pos m) → slice_get (shells f (pos m)) i ≡ Some p
      → FirstFalse (naming_places f (pos m) (suc i) shell known p.0) x → (x.rule ≡ rule.Twice) ⊎ (¬ Named)
  shell_fresh m i known p nk there h = naming_fresh m i shell known p.0 (shell_item m i p nk there) h

  pub loop_settles : (m i : ℕ) (known : List ℤ) (l : ℤ) → NamesKind face f (pos m) → slice_get (loops f (pos m)) i ≡ Some l
      → AllHold (naming_places f (pos m) (suc i) «loop» known l) → Bears (naming_places f (pos m) (suc i) «loop» known l) x → Named
  loop_settles m i known l nk there all b =
      naming_settles m i «loop» known l (loop_item m i l nk there) (plain_whole f «loop» l (λ e h. h) all.1.0 all.1.1.0) all b

  pub loop_fresh : (m i : ℕ) (known : List ℤ) (l : ℤ) → NamesKind face f (pos m) → slice_get (loops f (pos m)) i ≡ Some l
      → FirstFalse (naming_places f (pos m) (suc i) «loop» known l) x → (x.rule ≡ rule.Twice) ⊎ (¬ Named)
  loop_fresh m i known l nk there h = naming_fresh m i «loop» known l (loop_item m i l nk there) h

  abbrev Surface : ℤ → Type 0
  Surface z = (let items = told face f z in NamesGeometry f items.surface)

  face_whole : (z : ℤ) → NamesKind face f z → HasRecordOf face f z → Surface z → whole_owed f (entry_number z) face
  face_whole (pos m) nk h s = (h, s)
  face_whole (negsuc m) nk h s = absurd nk

  surface_of : (z : ℤ) → NamesKind face f z → whole_owed f (entry_number z) face → Surface z
  surface_of (pos m) nk h = h.1
  surface_of (negsuc m) nk h = absurd nk

  pub face_settles : (m i : ℕ) (known : List ℤ) (p : ℤ × Bool) → NamesKind shell f (pos m) → slice_get (faces f (pos m)) i ≡ Some p
      → AllHold (face_naming f (pos m) (suc i) known p.0) → Bears (face_naming f (pos m) (suc i) known p.0) x → Named
  face_settles m i known p nk there all b =
      let own = naming_places f (pos m) (suc i) face known p.0 in
      let surface = obligation rule.BadGeometry (entry_number p.0) 0 (Surface p.0) ∷ [] in
      let whole = face_whole p.0 all.1.0 all.1.1.0 all.1.1.1.1.0 in
      ⊎_elim (λ q. naming_settles m i face known p.0 (face_item m i p nk there) whole (AllHold-append_left own surface all) q)
      (λ q. ⊎_elim (λ e. at_settled (entry_number p.0) 0 (at_name x rule.BadGeometry (entry_number p.0) 0 e) (whole_settled face p.0 all.1.0 whole))
      (λ n. absurd n) q)
      (bears_either own surface x b)

  pub face_fresh : (m i : ℕ) (known : List ℤ) (p : ℤ × Bool) → NamesKind shell f (pos m) → slice_get (faces f (pos m)) i ≡ Some p
      → FirstFalse (face_naming f (pos m) (suc i) known p.0) x → (x.rule ≡ rule.Twice) ⊎ (¬ Named)
  face_fresh m i known p nk there h =
      let own = naming_places f (pos m) (suc i) face known p.0 in
      let surface = obligation rule.BadGeometry (entry_number p.0) 0 (Surface p.0) ∷ [] in
      ⊎_elim (λ front. naming_fresh m i face known p.0 (face_item m i p nk there) front)
      (λ rest. ⊎_elim
      (λ a. inr (λ s. a.0 (surface_of p.0 rest.0.1.0
      (whole_is face p.0 rest.0.1.0 (settled_at (entry_number p.0) 0 (at_name x rule.BadGeometry (entry_number p.0) 0 a.1) s)))))
      (λ b. absurd b.1) rest.1)
      (false_either own surface x h)
