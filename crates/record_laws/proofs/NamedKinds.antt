-- What a number names, as a test and as a fact.
use Rattle.std.specs.Prelude.{◌≡◌, ◌≢◌, ℕ, suc, ◌+◌, ◌≤◌, nat_lt, nat_le, ◌&&◌, ◌||◌, not, IsSome, IsSomeAnd, Bool, true, false, if◌then◌else◌, ℤ, pos, negsuc}
use Rattle.std.specs.Prelude.{List, [], ◌∷◌, All, Option, Some, None, option_map, slice_get, ◌⊎◌}
use Rattle.std.specs.Bool.{Decides}
use Rattle.std.specs.List.{AllByRecursion, position_from}
use Rattle.std.specs.Option.{is_some, is_none}
use Rattle.std.specs.Ordering.{int_eq}
use Rattle.std.proofs.Common.{refl, sym, ◌∙◌, ap, arith, inl, inr, ⊎_elim}
use Rattle.std.proofs.lemmas.Bool.{cases_Bool}
use Rattle.std.proofs.lemmas.List.Elements.{All-from_recursion}
use Rattle.std.proofs.lemmas.Bool.Decides.{Decides-int_eq, Decides-ltb, leb_tells}
use Rattle.iges_fields.specs.declared.value.Value.{Value}
use Rattle.iges_directory.specs.declared.entry.Entry.{Entry}
use Rattle.iges_params.specs.Contents.{Contents}
use Rattle.iges_params.specs.Named.{named, record_values, values_of}
use Rattle.brep_lists.specs.Record.{type_number, kind_of_type, HasForm, IsRecordOf, Items, items_of}
use Rattle.brep_lists.specs.declared.entity_kind.EntityKind.{EntityKind}
use Rattle.brep_lists.specs.declared.entity_kind.EntityKind.TheVariants.{Solid as solid, Shell as shell, Face as face, Loop as «loop», EdgeList as edges}
use Rattle.brep_lists.specs.declared.entity_kind.EntityKind.TheVariants.{VertexList as vertices}
use Rattle.brep_lists.proofs.Decided.{decided}
use Rattle.brep_lists.proofs.KindTypes.{kind_known}
use Rattle.brep_walk.specs.Places.{Names, NamesKind, NamesGeometry, HasRecordOf, IsIndex}
use Rattle.record_values.specs.BadValue.{entry_at, kind_in, is_geometry, is_vertex_list, is_index, names_geometry}
use Rattle.record_values.specs.Told.{told_in}

abbrev told_if : (k : EntityKind) → List Value → Bool → Option (Items k)
told_if k vs b = if b then Some (items_of k vs) else None

pub at_kind : (f : Contents) (z : ℤ) (k : EntityKind) → NamesKind k f z → kind_in (entry_at f z) ≡ Some k
at_kind f z k h = by_entry (named f z) h
  where
    by_entry : (o : Option (Entry × List Value)) → IsSomeAnd o (λ e. (e.0.kind ≡ type_number k) × HasForm k e.0.form)
        → kind_in (option_map (λ (e : Entry × List Value). e.0) o) ≡ Some k
    by_entry None h = absurd h
    by_entry (Some e) h = ap kind_of_type h.0 ∙ kind_known k

pub record_here : (f : Contents) (z : ℤ) (k : EntityKind) → HasRecordOf k f z → IsRecordOf k (values_of f z)
record_here f z k h = by_entry (named f z) h
  where
    by_entry : (o : Option (Entry × List Value)) → IsSomeAnd o (λ e. IsRecordOf k e.1) → IsRecordOf k (record_values o)
    by_entry None h = absurd h
    by_entry (Some e) h = h

pub record_there : (f : Contents) (z : ℤ) (k : EntityKind) → Names f z → IsRecordOf k (values_of f z) → HasRecordOf k f z
record_there f z k some h = by_entry (named f z) some h
  where
    by_entry : (o : Option (Entry × List Value)) → IsSome o → IsRecordOf k (record_values o) → IsSomeAnd o (λ e. IsRecordOf k e.1)
    by_entry None some h = absurd (let g : false ≡ true = some in cc)
    by_entry (Some e) some h = h

pub told_here : (f : Contents) (z : ℤ) (k : EntityKind) → HasRecordOf k f z → told_in k (values_of f z) ≡ Some (items_of k (values_of f z))
told_here f z k h = ap (told_if k (values_of f z)) ((decided k (values_of f z)).1 (record_here f z k h))

pub named_there : (f : Contents) (z : ℤ) (k : EntityKind) → NamesKind k f z → Names f z
named_there f z k h = by_entry (named f z) h
  where
    by_entry : (o : Option (Entry × List Value)) → IsSomeAnd o (λ e. (e.0.kind ≡ type_number k) × HasForm k e.0.form) → IsSome o
    by_entry None h = absurd h
    by_entry (Some e) h = refl

-- ---- tests

pub no_entry : (f : Contents) (z : ℤ) → ¬ Names f z → is_some (entry_at f z) ≡ false
no_entry f z h = by_entry (named f z) h
  where
    by_entry : (o : Option (Entry × List Value)) → ¬ IsSome o → is_some (option_map (λ (e : Entry × List Value). e.0) o) ≡ false
    by_entry None h = refl
    by_entry (Some e) h = absurd (h refl)

pub an_entry : (f : Contents) (z : ℤ) → Names f z → is_some (entry_at f z) ≡ true
an_entry f z h = by_entry (named f z) h
  where
    by_entry : (o : Option (Entry × List Value)) → IsSome o → is_some (option_map (λ (e : Entry × List Value). e.0) o) ≡ true
    by_entry None h = absurd (let g : false ≡ true = h in cc)
    by_entry (Some e) h = refl

-- of a vertex list

and_true : (a b : Bool) → (a && b) ≡ true → (a ≡ true) × (b ≡ true)
and_true true b e = (refl, e)
and_true false b e = absurd (let g : false ≡ true = e in cc)

or_true : (a b : Bool) → (a || b) ≡ true → (a ≡ true) ⊎ (b ≡ true)
or_true true b e = inl refl
or_true false b e = inr e

or_left : (a b : Bool) → a ≡ true → (a || b) ≡ true
or_left true b e = refl
or_left false b e = absurd (let g : false ≡ true = e in cc)

or_right : (a b : Bool) → b ≡ true → (a || b) ≡ true
or_right true b e = refl
or_right false b e = e

abbrev test_of : Entry → Bool
test_of e = int_eq e.kind (pos 502) && (int_eq e.form (pos 0) || int_eq e.form (pos 1))

list_test : (e : Entry) → (test_of e ≡ true → (e.kind ≡ pos 502) × HasForm vertices e.form) × ((e.kind ≡ pos 502) × HasForm vertices e.form → test_of e ≡ true)
list_test e = (there, back)
  where
    there : test_of e ≡ true → (e.kind ≡ pos 502) × HasForm vertices e.form
    there t =
        let p = and_true (int_eq e.kind (pos 502)) _ t in (
          (Decides-int_eq e.kind (pos 502)).0 p.0,
          ⊎_elim (λ a. inl ((Decides-int_eq e.form (pos 0)).0 a)) (λ b. inr ((Decides-int_eq e.form (pos 1)).0 b))
              (or_true (int_eq e.form (pos 0)) (int_eq e.form (pos 1)) p.1),
        )

    back : (e.kind ≡ pos 502) × HasForm vertices e.form → test_of e ≡ true
    back h =
        ap (λ b. b && (int_eq e.form (pos 0) || int_eq e.form (pos 1))) ((Decides-int_eq e.kind (pos 502)).1 h.0)
        ∙ ⊎_elim (λ a. or_left (int_eq e.form (pos 0)) (int_eq e.form (pos 1)) ((Decides-int_eq e.form (pos 0)).1 a))
        (λ b. or_right (int_eq e.form (pos 0)) (int_eq e.form (pos 1)) ((Decides-int_eq e.form (pos 1)).1 b)) h.1

pub a_vertex_list : (f : Contents) (z : ℤ) → NamesKind vertices f z → is_vertex_list (entry_at f z) ≡ true
a_vertex_list f z h = by_entry (named f z) h
  where
    by_entry : (o : Option (Entry × List Value)) → IsSomeAnd o (λ e. (e.0.kind ≡ pos 502) × HasForm vertices e.0.form)
        → is_vertex_list (option_map (λ (e : Entry × List Value). e.0) o) ≡ true
    by_entry None h = absurd h
    by_entry (Some e) h = (list_test e.0).1 h

pub no_vertex_list : (f : Contents) (z : ℤ) → ¬ NamesKind vertices f z → is_vertex_list (entry_at f z) ≡ false
no_vertex_list f z h = by_entry (named f z) h
  where
    by_entry : (o : Option (Entry × List Value)) → ¬ IsSomeAnd o (λ e. (e.0.kind ≡ pos 502) × HasForm vertices e.0.form)
        → is_vertex_list (option_map (λ (e : Entry × List Value). e.0) o) ≡ false
    by_entry None h = refl
    by_entry (Some e) h = elim (cases_Bool (test_of e.0)) [ inl t ↦ absurd (h ((list_test e.0).0 t)) | inr n ↦ n ]

-- of an index

pub an_index : (z : ℤ) (n : ℕ) → IsIndex z n → is_index z n ≡ true
an_index (negsuc k) n h = absurd (let e : negsuc k ≡ pos h.0 = h.1 in cc)
an_index (pos k) n h =
    let e : pos k ≡ pos h.0 = h.1 in
    let same : k ≡ h.0 = cc in
    let low = h.2 in
    let high = h.3 in
    let above : nat_lt 0 k ≡ true = (Decides-ltb 0 k).1 (omega (arith, same, low)) in
    let below : nat_le k n ≡ true = ⊎_elim (λ y. y.0) (λ x. absurd (let more = x.1 in omega (arith, same, high, more))) (leb_tells k n) in
    ap (λ b. b && nat_le k n) above ∙ below

pub no_index : (z : ℤ) (n : ℕ) → ¬ IsIndex z n → is_index z n ≡ false
no_index (negsuc k) n h = refl
no_index (pos k) n h =
    elim (cases_Bool (is_index (pos k) n)) [
      | inl t ↦
          let p = and_true (nat_lt 0 k) (nat_le k n) t in
          let low = (Decides-ltb 0 k).0 p.0 in
          let high : k ≤ n = ⊎_elim (λ y. y.1) (λ x. absurd (let g : false ≡ true = sym x.0 ∙ p.1 in cc)) (leb_tells k n) in
          absurd (h (k, refl, omega (arith, low), high))
      | inr e ↦ e
    ]

-- of a curve or a surface

abbrev nest : Bool → Bool → Bool → Bool → Bool → Bool → Option EntityKind
nest a b c d e g =
    if a then Some solid else
    (if b then Some shell else (if c then Some face else (if d then Some «loop» else (if e then Some edges else (if g then Some vertices else None)))))

wrong : {P : Type 0} → false ≡ true → P
wrong {P} e = absurd cc

all_false : (a b c d e g : Bool) → is_none (nest a b c d e g) ≡ true → (a ≡ false) × (b ≡ false) × (c ≡ false) × (d ≡ false) × (e ≡ false) × (g ≡ false)
all_false true b c d e g h = wrong h
all_false false true c d e g h = wrong h
all_false false false true d e g h = wrong h
all_false false false false true e g h = wrong h
all_false false false false false true g h = wrong h
all_false false false false false false true h = wrong h
all_false false false false false false false h = (refl, refl, refl, refl, refl, refl)

none_of : (a b c d e g : Bool) → a ≡ false → b ≡ false → c ≡ false → d ≡ false → e ≡ false → g ≡ false → is_none (nest a b c d e g) ≡ true
none_of a b c d e g p q r s t u =
    ap (λ x. is_none (nest x b c d e g)) p ∙ ap (λ x. is_none (nest false x c d e g)) q ∙ ap (λ x. is_none (nest false false x d e g)) r
    ∙ ap (λ x. is_none (nest false false false x e g)) s ∙ ap (λ x. is_none (nest false false false false x g)) t
    ∙ ap (λ x. is_none (nest false false false false false x)) u

differs : (z w : ℤ) → int_eq z w ≡ false → z ≢ w
differs z w e same = wrong (sym e ∙ (Decides-int_eq z w).1 same)

is_other : (z w : ℤ) → z ≢ w → int_eq z w ≡ false
is_other z w ne = elim (cases_Bool (int_eq z w)) [ inl t ↦ absurd (ne ((Decides-int_eq z w).0 t)) | inr e ↦ e ]

kind_test : (z : ℤ) → Decides (is_none (kind_of_type z)) ((k : EntityKind) → ¬ (z ≡ type_number k))
kind_test z = (there, back)
  where
    there : is_none (kind_of_type z) ≡ true → (k : EntityKind) → ¬ (z ≡ type_number k)
    there e =
        let all = all_false (int_eq z (pos 186)) (int_eq z (pos 514)) (int_eq z (pos 510)) (int_eq z (pos 508)) (int_eq z (pos 504)) (int_eq z (pos 502)) e in
        by_kind all
      where
        by_kind : (int_eq z (pos 186) ≡ false) × (int_eq z (pos 514) ≡ false) × (int_eq z (pos 510) ≡ false) × (int_eq z (pos 508) ≡ false)
            × (int_eq z (pos 504) ≡ false) × (int_eq z (pos 502) ≡ false) → (k : EntityKind) → ¬ (z ≡ type_number k)
        by_kind all solid = differs z (pos 186) all.0
        by_kind all shell = differs z (pos 514) all.1
        by_kind all face = differs z (pos 510) all.2
        by_kind all «loop» = differs z (pos 508) all.3
        by_kind all edges = differs z (pos 504) all.4
        by_kind all vertices = differs z (pos 502) all.5

    back : ((k : EntityKind) → ¬ (z ≡ type_number k)) → is_none (kind_of_type z) ≡ true
    back h =
        none_of (int_eq z (pos 186)) (int_eq z (pos 514)) (int_eq z (pos 510)) (int_eq z (pos 508)) (int_eq z (pos 504)) (int_eq z (pos 502))
        (is_other z (pos 186) (h solid)) (is_other z (pos 514) (h shell)) (is_other z (pos 510) (h face)) (is_other z (pos 508) (h «loop»))
        (is_other z (pos 504) (h edges)) (is_other z (pos 502) (h vertices))

pub geometry_test : (f : Contents) (z : ℤ) → Decides (names_geometry f z) (NamesGeometry f z)
geometry_test f z = by_entry (named f z)
  where
    by_entry : (o : Option (Entry × List Value))
        → Decides (is_geometry (option_map (λ (e : Entry × List Value). e.0) o)) (IsSomeAnd o (λ e. (k : EntityKind) → ¬ (e.0.kind ≡ type_number k)))
    by_entry None = ((λ e. absurd (let g : false ≡ true = e in cc)), (λ h. absurd h))
    by_entry (Some e) = kind_test e.0.kind

-- ---- the first curve that isn't one

abbrev pub curves_good : Contents → List (Bool × ℤ) → Type 0
curves_good f cs = AllByRecursion (λ (c : Bool × ℤ). NamesGeometry f c.1) cs

pub record IsBadCurve (f : Contents) (base : ℕ) (cs : List (Bool × ℤ)) : Type 0 where
  pub place : ℕ
  pub curve : Bool × ℤ
  pub there : slice_get cs place ≡ Some curve
  pub found : position_from (λ (c : Bool × ℤ). not (names_geometry f c.1)) base cs ≡ Some (base + place)
  pub bad : ¬ NamesGeometry f curve.1

first_bad : (f : Contents) (base : ℕ) (cs : List (Bool × ℤ)) → curves_good f cs ⊎ IsBadCurve f base cs
first_bad f base [] = inl tt
first_bad f base (c ∷ cs) =
    elim (cases_Bool (names_geometry f c.1)) [
      | inl good ↦
          ⊎_elim (λ all. inl ((geometry_test f c.1).0 good, all))
          (λ b.
          let next : base + 1 + b.place ≡ base + suc b.place = omega arith in
          inr (record {
            place = suc b.place;
            curve = b.curve;
            there = b.there;
            found = ap (λ t. if not t then Some base else position_from (λ (x : Bool × ℤ). not (names_geometry f x.1)) (base + 1) cs) good ∙ b.found
                ∙ ap Some next;
            bad = b.bad;
          }))
          (first_bad f (base + 1) cs)
      | inr bad ↦
          inr (record {
            place = 0;
            curve = c;
            there = refl;
            found = ap (λ t. if not t then Some base else position_from (λ (x : Bool × ℤ). not (names_geometry f x.1)) (base + 1) cs) bad
                ∙ (let e : base ≡ base + 0 = omega arith in ap Some e);
            bad = λ h. wrong (sym bad ∙ (geometry_test f c.1).1 h);
          })
    ]

pub bad_curve : (f : Contents) (cs : List (Bool × ℤ)) → ¬ All (λ (c : Bool × ℤ). NamesGeometry f c.1) cs → IsBadCurve f 0 cs
bad_curve f cs h = ⊎_elim (λ all. absurd (h (All-from_recursion (λ (c : Bool × ℤ). NamesGeometry f c.1) cs all))) (λ b. b) (first_bad f 0 cs)
