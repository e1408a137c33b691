-- The obligations on the records of a solid, in order.
use Rattle.std.specs.Prelude.{◌≡◌, ℕ, ◌+◌, ◌-◌, ◌≤◌, Bool, true, false, ℤ, pos, List, [], ◌∷◌, ◌++◌, length, map, flat_map, slice_get, All, Contains, Option}
use Rattle.std.specs.Prelude.{Some, None, IsSome, IsSomeAnd}
use Rattle.iges_params.specs.Contents.{Contents}
use Rattle.iges_params.specs.Named.{named, values_of}
use Rattle.brep_lists.specs.Record.{type_number, HasForm, Items, LoopTuple, items_of, IsRecordOf}
use Rattle.brep_lists.specs.declared.entity_kind.EntityKind.{EntityKind}
use Rattle.brep_lists.specs.declared.entity_kind.EntityKind.TheVariants.{Solid as solid, Shell as shell, Face as face, Loop as «loop», EdgeList as edges}
use Rattle.brep_lists.specs.declared.entity_kind.EntityKind.TheVariants.{VertexList as vertices}
use Rattle.brep_lists.specs.declared.edge_list.EdgeTuple.{EdgeTuple}
use Rattle.solid_data.specs.Obligations.{Obligation, obligation, entry_number, after_each}
use Rattle.solid_data.specs.declared.verdict.Rule.TheVariants.{NoEntry, WrongKind, BadLayout, Twice, BadIndex, BadGeometry}

-- what the record of an entry describes as one of this kind
abbrev pub told : (kind : EntityKind) → Contents → ℤ → Items kind
told kind f number = items_of kind (values_of f number)

-- the shells of a solid, the faces of a shell, the loops of a face and the tuples of a loop, as listed
abbrev pub shells : Contents → ℤ → List (ℤ × Bool)
shells f n = let items = told solid f n in items.outer ∷ items.voids

abbrev pub faces : Contents → ℤ → List (ℤ × Bool)
faces f s = told shell f s

abbrev pub loops : Contents → ℤ → List ℤ
loops f c = let items = told face f c in items.loops

abbrev pub tuples : Contents → ℤ → List LoopTuple
tuples f l = told «loop» f l

-- an item of a list, from 1
abbrev pub edge_at : Contents → ℤ → ℕ → Option EdgeTuple
edge_at f e j = slice_get (told edges f e) (j - 1)

abbrev pub Names : Contents → ℤ → Type 0
Names f number = IsSome (named f number)

abbrev pub NamesKind : EntityKind → Contents → ℤ → Type 0
NamesKind kind f number = IsSomeAnd (named f number) (λ e. (e.0.kind ≡ type_number kind) × HasForm kind e.0.form)

abbrev pub HasRecordOf : EntityKind → Contents → ℤ → Type 0
HasRecordOf kind f number = IsSomeAnd (named f number) (λ e. IsRecordOf kind e.1)

-- an entry that is none of the six
abbrev pub NamesGeometry : Contents → ℤ → Type 0
NamesGeometry f number = IsSomeAnd (named f number) (λ e. (kind : EntityKind) → ¬ (e.0.kind ≡ type_number kind))

abbrev pub IsIndex : ℤ → ℕ → Type 0
IsIndex z n = (k : ℕ) × (z ≡ pos k) × (1 ≤ k) × (k ≤ n)

-- The number, at this place of this entity, names an entry of the kind.
abbrev pub entry_places : Contents → ℤ → ℕ → EntityKind → ℤ → List Obligation
entry_places f entity place kind number =
    obligation NoEntry (entry_number entity) place (Names f number)
    ∷ obligation WrongKind (entry_number entity) place (NamesKind kind f number)
    ∷ []

-- It names a record of the kind.
abbrev pub record_places : Contents → ℤ → ℕ → EntityKind → ℤ → List Obligation
record_places f entity place kind number =
    entry_places f entity place kind number ++ (obligation BadLayout (entry_number number) 0 (HasRecordOf kind f number) ∷ [])

-- The number and the index, at this place of this entity, name an item of a list.
abbrev pub item_places : Contents → ℤ → ℕ → EntityKind → ℤ → ℤ → ℕ → List Obligation
item_places f entity place kind number index count =
    record_places f entity place kind number ++ (obligation BadIndex (entry_number entity) place (IsIndex index count) ∷ [])

-- The curve of an edge and its two vertices.
abbrev pub edge_places : Contents → ℤ → ℕ → Option EdgeTuple → List Obligation
edge_places f e j None = []
edge_places f e j (Some t) =
    (obligation BadGeometry (entry_number e) j (NamesGeometry f t.curve) ∷ [])
    ++ item_places f e j vertices t.start_list t.start_index (length (told vertices f t.start_list))
    ++ item_places f e j vertices t.end_list t.end_index (length (told vertices f t.end_list))

-- the list, the index and, at an edge, its curve and its vertices
abbrev pub used_places : Contents → ℤ → ℕ → ℤ → ℤ → Bool → List Obligation
used_places f l place v j true = item_places f l place vertices v j (length (told vertices f v))
used_places f l place e j false =
    item_places f l place edges e j (length (told edges f e)) ++ edge_places f e (entry_number j) (edge_at f e (entry_number j))

-- A tuple of a loop, at its place.
abbrev pub tuple_at : Contents → ℤ → ℕ → LoopTuple → List Obligation
tuple_at f l place t =
    used_places f l place t.«list» t.index t.is_vertex
    ++ (obligation BadGeometry (entry_number l) place (All (λ (c : Bool × ℤ). NamesGeometry f c.1) t.curves) ∷ [])

unfoldable pub tuple_places : Contents → ℤ → List LoopTuple → LoopTuple → List Obligation
tuple_places f l before t = tuple_at f l (length before + 1) t

-- A loop at its place in a face, where those known are the loops that earlier places name.
abbrev pub loop_at : Contents → ℤ → ℕ → List ℤ → ℤ → List Obligation
loop_at f c place known l =
    record_places f c place «loop» l
    ++ (obligation Twice (entry_number c) place (¬ Contains known l) ∷ [])
    ++ after_each (tuple_places f l) [] (tuples f l)

-- where those used are the loops of the faces before
unfoldable pub loop_places : Contents → ℤ → List ℤ → List ℤ → ℤ → List Obligation
loop_places f c used before l = loop_at f c (length before + 1) (used ++ before) l

abbrev pub numbers : List (ℤ × Bool) → List ℤ
numbers items = map (λ (i : ℤ × Bool). i.0) items

-- A face at its place in a shell, where those known are the faces that earlier places name.
abbrev pub face_at : Contents → ℤ → ℕ → List ℤ → ℤ → List Obligation
face_at f s place known c =
    record_places f s place face c
    ++ (obligation Twice (entry_number s) place (¬ Contains known c)
    ∷ obligation BadGeometry (entry_number c) 0 (let items = told face f c in NamesGeometry f items.surface)
    ∷ [])
    ++ after_each (loop_places f c (flat_map (loops f) known)) [] (loops f c)

-- where those used are the faces of the shells before
unfoldable pub face_places : Contents → ℤ → List ℤ → List (ℤ × Bool) → ℤ × Bool → List Obligation
face_places f s used before item = face_at f s (length before + 1) (used ++ numbers before) item.0

-- A shell at its place in a solid, where those known are the shells that earlier places name.
abbrev pub shell_at : Contents → ℤ → ℕ → List ℤ → ℤ → List Obligation
shell_at f n place known s =
    record_places f n place shell s
    ++ (obligation Twice (entry_number n) place (¬ Contains known s) ∷ [])
    ++ after_each (face_places f s (flat_map (λ b. numbers (faces f b)) known)) [] (faces f s)

unfoldable pub shell_places : Contents → ℤ → List (ℤ × Bool) → ℤ × Bool → List Obligation
shell_places f n before item = shell_at f n (length before + 1) (numbers before) item.0

-- The obligations of solid n, depth first. Up to the first false one each speaks of entries, records and items that those before it have shown to be there;
-- what comes after that one is never looked at.
unfoldable pub places : Contents → ℕ → List Obligation
places f n = record_places f (pos n) 0 solid (pos n) ++ after_each (shell_places f (pos n)) [] (shells f (pos n))
