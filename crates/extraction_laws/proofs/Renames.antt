-- Two files of which the one has the kept entries of the other under new numbers.
use Rattle.std.specs.Prelude.{◌≡◌, ◌↔◌, ◌⊎◌, ℕ, true, false, ℤ, pos, List, [], ◌∷◌, Option, Some, None, IsSome, IsSomeAnd}
use Rattle.std.proofs.Common.{refl, sym, ◌∙◌, ap, subst, inl, inr}
use Rattle.iges_params.specs.Contents.{Contents}
use Rattle.iges_params.specs.Named.{named, record_values, values_of}
use Rattle.brep_lists.specs.DueValues.{DueValue, pointer, number, flag, at_least_one, count, coordinate}
use Rattle.brep_lists.specs.Record.{type_number, kind_of_type, HasForm, due, items_of, IsRecordOf}
use Rattle.brep_lists.specs.declared.entity_kind.EntityKind.{EntityKind}
use Rattle.brep_lists.specs.declared.entity_kind.EntityKind.TheVariants.{Solid as solid, Shell as shell, Face as face, Loop as «loop», EdgeList as edges}
use Rattle.brep_lists.specs.declared.entity_kind.EntityKind.TheVariants.{VertexList as vertices}
use Rattle.brep_lists.proofs.KindTypes.{kind_known}
use Rattle.brep_walk.specs.Places.{told, Names, NamesKind, HasRecordOf, NamesGeometry}
use Rattle.solid_data.specs.Obligations.{entry_number}
use Rattle.entry_references.specs.Refs.{Record}
use Rattle.solid_extract.specs.Kept.{renamed_items}
use Rattle.extraction_laws.proofs.Zips.{OptionZip}

-- P holds of each pointer that is due
abbrev pub AllPointers : (ℤ → Type 0) → List DueValue → Type 0
AllPointers P [] = Unit {0}
AllPointers P (pointer z ∷ ds) = P z × AllPointers P ds
AllPointers P (number z ∷ ds) = AllPointers P ds
AllPointers P (flag b ∷ ds) = AllPointers P ds
AllPointers P (at_least_one n ∷ ds) = AllPointers P ds
AllPointers P (count n ∷ ds) = AllPointers P ds
AllPointers P (coordinate w ∷ ds) = AllPointers P ds

-- the number of an entry that is kept
abbrev pub IsEntity : (ℕ → Type 0) → ℤ → Type 0
IsEntity K z = (m : ℕ) × (z ≡ pos m) × K m

-- 0, or the number of an entry that is kept
abbrev pub IsPointer : (ℕ → Type 0) → ℤ → Type 0
IsPointer K z = (z ≡ pos 0) ⊎ IsEntity K z

-- an entry becomes one of the same type and form
abbrev pub IsSameKind : Record → Record → Type 0
IsSameKind r s = (s.0.kind ≡ r.0.kind) × (s.0.form ≡ r.0.form)

-- K tells which entries of f are kept, `new` their numbers in q, and g what becomes of a pointer.
pub record Renames (f q : Contents) (K : ℕ → Type 0) (new : ℕ → ℕ) (g : ℤ → ℤ) : Type 0 where
  pub nothing : g (pos 0) ≡ pos 0
  pub something : (m : ℕ) → K m → g (pos m) ≡ pos (new m)
  pub apart : (m k : ℕ) → K m → K k → new m ≡ new k → m ≡ k
  pub entry : (m : ℕ) → K m → OptionZip IsSameKind (named f (pos m)) (named q (pos (new m)))
  pub there : (m : ℕ) → K m → Names f (pos m)
  pub records : (m : ℕ) (r : Record) (kind : EntityKind) → K m → named f (pos m) ≡ Some r → kind_of_type r.0.kind ≡ Some kind
      → IsRecordOf kind r.1 × IsRecordOf kind (values_of q (pos (new m)))
      × (items_of kind (values_of q (pos (new m))) ≡ renamed_items g kind (items_of kind r.1))
  pub pointers : (m : ℕ) (r : Record) (kind : EntityKind) → K m → named f (pos m) ≡ Some r → kind_of_type r.0.kind ≡ Some kind
      → AllPointers (IsPointer K) (due kind (items_of kind r.1))

-- an entry is kept, and this is its new number
abbrev pub IsNew : (ℕ → Type 0) → (ℕ → ℕ) → ℕ → ℕ → Type 0
IsNew K new m k = K m × (k ≡ new m)

module _ (f q : Contents) (K : ℕ → Type 0) (new : ℕ → ℕ) (g : ℤ → ℤ) (h : Renames f q K new g) where
  entry_zip : (z : ℤ) → IsPointer K z → OptionZip IsSameKind (named f z) (named q (g z))
  entry_zip z (inl e) = subst (λ w. OptionZip IsSameKind (named f w) (named q (g w))) (sym e)
      (subst (λ w. OptionZip IsSameKind (named f (pos 0)) (named q w)) (sym h.nothing) tt)
  entry_zip z (inr k) = subst (λ w. OptionZip IsSameKind (named f w) (named q (g w))) (sym k.1)
      (subst (λ w. OptionZip IsSameKind (named f (pos k.0)) (named q w)) (sym (h.something k.0 k.2)) (h.entry k.0 k.2))

  pub names_same : (z : ℤ) → IsPointer K z → Names f z ↔ Names q (g z)
  names_same z p = by_entries (named f z) (named q (g z)) (entry_zip z p)
    where
      by_entries : (a b : Option Record) → OptionZip IsSameKind a b → IsSome a ↔ IsSome b
      by_entries None None k = (λ x. x, λ x. x)
      by_entries None (Some y) k = absurd k
      by_entries (Some x) None k = absurd k
      by_entries (Some x) (Some y) k = (λ x. refl, λ x. refl)

  pub kind_same : (kind : EntityKind) (z : ℤ) → IsPointer K z → NamesKind kind f z ↔ NamesKind kind q (g z)
  kind_same kind z p = by_entries (named f z) (named q (g z)) (entry_zip z p)
    where
      by_entries : (a b : Option Record) → OptionZip IsSameKind a b → IsSomeAnd a (λ e. (e.0.kind ≡ type_number kind) × HasForm kind e.0.form) ↔ IsSomeAnd b
          (λ e. (e.0.kind ≡ type_number kind) × HasForm kind e.0.form)
      by_entries None None k = (λ x. x, λ x. x)
      by_entries None (Some y) k = absurd k
      by_entries (Some x) None k = absurd k
      by_entries (Some x) (Some y) k = (λ c. (k.0 ∙ c.0, subst (HasForm kind) (sym k.1) c.1), λ c. (sym k.0 ∙ c.0, subst (HasForm kind) k.1 c.1))

  pub geometry_same : (z : ℤ) → IsPointer K z → NamesGeometry f z ↔ NamesGeometry q (g z)
  geometry_same z p = by_entries (named f z) (named q (g z)) (entry_zip z p)
    where
      by_entries : (a b : Option Record) → OptionZip IsSameKind a b → IsSomeAnd a (λ e. (kind : EntityKind) → ¬ (e.0.kind ≡ type_number kind)) ↔ IsSomeAnd b
          (λ e. (kind : EntityKind) → ¬ (e.0.kind ≡ type_number kind))
      by_entries None None k = (λ x. x, λ x. x)
      by_entries None (Some y) k = absurd k
      by_entries (Some x) None k = absurd k
      by_entries (Some x) (Some y) k = (λ c kind e. c kind (sym k.0 ∙ e), λ c kind e. c kind (k.0 ∙ e))

  -- what names an entry is kept
  pub is_entity : (z : ℤ) → IsPointer K z → Names f z → IsEntity K z
  is_entity z (inl e) n = let no : false ≡ true = subst (Names f) e n in absurd cc
  is_entity z (inr k) n = k

  -- what an entity of a kind tells
  pub record Tells (kind : EntityKind) (z : ℤ) : Type 0 where
    pub before : HasRecordOf kind f z
    pub after : HasRecordOf kind q (g z)
    pub same : told kind q (g z) ≡ renamed_items g kind (told kind f z)
    pub pointers : AllPointers (IsPointer K) (due kind (told kind f z))

  pub tells : (kind : EntityKind) (z : ℤ) → IsEntity K z → NamesKind kind f z → Tells kind z
  tells kind z e n = subst (Tells kind) (sym e.1) (by_entry (named f (pos e.0)) refl (subst (NamesKind kind f) e.1 n))
    where
      has_record : (o p : Option Record) → OptionZip IsSameKind o p → (r : Record) → o ≡ Some r → IsRecordOf kind (record_values p)
          → IsSomeAnd p (λ x. IsRecordOf kind x.1)
      has_record None p k r s is = absurd cc
      has_record (Some x) None k r s is = absurd k
      has_record (Some x) (Some y) k r s is = is

      by_entry : (o : Option Record) → named f (pos e.0) ≡ o → IsSomeAnd o (λ x. (x.0.kind ≡ type_number kind) × HasForm kind x.0.form) → Tells kind (pos e.0)
      by_entry None s k = absurd k
      by_entry (Some r) s k =
          let of_kind : kind_of_type r.0.kind ≡ Some kind = ap kind_of_type k.0 ∙ kind_known kind in
          let all = h.records e.0 r kind e.2 s of_kind in
          let new_name : pos (new e.0) ≡ g (pos e.0) = sym (h.something e.0 e.2) in
          let after : HasRecordOf kind q (pos (new e.0)) = has_record (named f (pos e.0)) (named q (pos (new e.0))) (h.entry e.0 e.2) r s all.1 in
          let values : values_of f (pos e.0) ≡ r.1 = ap record_values s in
          record {
            before = subst (λ o. IsSomeAnd o (λ x. IsRecordOf kind x.1)) (sym s) all.0;
            after = subst (HasRecordOf kind q) new_name after;
            same = subst (λ w. told kind q w ≡ renamed_items g kind (told kind f (pos e.0))) new_name
                (all.2 ∙ ap (λ vs. renamed_items g kind (items_of kind vs)) (sym values));
            pointers = subst (λ vs. AllPointers (IsPointer K) (due kind (items_of kind vs))) (sym values) (h.pointers e.0 r kind e.2 s of_kind);
          }

  -- the numbers under which an entity is named
  pub number_new : (z : ℤ) → IsEntity K z → IsNew K new (entry_number z) (entry_number (g z))
  number_new z e = subst (λ w. IsNew K new (entry_number w) (entry_number (g w))) (sym e.1) (e.2, ap entry_number (h.something e.0 e.2))

  pub becomes_entity : (z : ℤ) → IsEntity K z → g z ≡ pos (new (entry_number z))
  becomes_entity z e = subst (λ w. g w ≡ pos (new (entry_number w))) (sym e.1) (h.something e.0 e.2)

  no_zero : (m : ℕ) → K m → g (pos m) ≡ pos 0 → ⊥
  no_zero m k e =
      let n : Names q (g (pos m)) = (names_same (pos m) (inr (m, refl, k))).0 (h.there m k) in
      let no : false ≡ true = subst (Names q) e n in absurd cc

  pub pointers_apart : (y z : ℤ) → IsPointer K y → IsPointer K z → g y ≡ g z → y ≡ z
  pointers_apart y z (inl a) (inl b) e = a ∙ sym b
  pointers_apart y z (inl a) (inr b) e = absurd (no_zero b.0 b.2 (ap g (sym b.1) ∙ (sym e ∙ (ap g a ∙ h.nothing))))
  pointers_apart y z (inr a) (inl b) e = absurd (no_zero a.0 a.2 (ap g (sym a.1) ∙ (e ∙ (ap g b ∙ h.nothing))))
  pointers_apart y z (inr a) (inr b) e =
      let same : new a.0 ≡ new b.0 = ap entry_number (sym (h.something a.0 a.2) ∙ (ap g (sym a.1) ∙ (e ∙ (ap g b.1 ∙ h.something b.0 b.2)))) in
      a.1 ∙ (ap (λ n. pos n) (h.apart a.0 b.0 a.2 b.2 same) ∙ sym b.1)
