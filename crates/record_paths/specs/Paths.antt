-- On which path the obligations on the records of a solid lie.
use Rattle.std.specs.Prelude.{◌≡◌, ◌↔◌, ⊤, ℕ, ◌+◌, ℤ, pos, Bool, List, [], ◌∷◌, ◌++◌, ◌⊎◌, length, flat_map, Contains, Option, Some, None}
use Rattle.iges_params.specs.Contents.{Contents}
use Rattle.brep_lists.specs.Record.{LoopTuple}
use Rattle.brep_lists.specs.declared.entity_kind.EntityKind.{EntityKind}
use Rattle.brep_lists.specs.declared.entity_kind.EntityKind.TheVariants.{Solid as solid, Shell as shell, Face as face, Loop as «loop»}
use Rattle.brep_walk.specs.Places.{told, shells, faces, loops, tuples, numbers, HasRecordOf, NamesGeometry, entry_places, record_places, tuple_places}
use Rattle.brep_walk.specs.SolidOf.{entry_no}
use Rattle.solid_data.specs.Obligations.{Obligation, obligation, entry_number}
use Rattle.solid_data.specs.declared.verdict.Failing.{Failing}
use Rattle.solid_data.specs.declared.verdict.Rule.TheVariants.{BadLayout, Twice, BadGeometry}
use Rattle.record_paths.specs.declared.path.Path.{Path}
use Rattle.record_paths.specs.declared.path.Step.{Step}

-- An obligation with the path on which it lies. Those that ask for a solid lie on none.
pub record Sited : Type 1 where
  pub path : Option Path
  pub owed : Obligation

-- these obligations, all on one path
abbrev pub on : Option Path → List Obligation → List Sited
on path [] = []
on path (o ∷ os) = record { path = path; owed = o } ∷ on path os

-- the obligations alone
abbrev pub all_owed : List Sited → List Obligation
all_owed [] = []
all_owed (s ∷ ss) = s.owed ∷ all_owed ss

-- they have the same names and ask the same
abbrev pub AreSame : List Obligation → List Obligation → Type 0
AreSame [] [] = ⊤
AreSame (o ∷ os) (p ∷ ps) = (o.failing ≡ p.failing) × (o.holds ↔ p.holds) × AreSame os ps
AreSame _ _ = ⊥

-- The path of the first obligation that bears the name: one that bears it lies there, and so does each before it that bears it. Up to the first false
-- obligation of a solid those that bear one name are one and the same, or lie on one path: a shell, a face and a loop are named once, an entity is of one kind,
-- and an edge asks the same wherever it is used. So this is where the first false obligation lies, where the name is its name; no law here states that.
abbrev pub IsPathTo : Failing → List Sited → Option Path → Type 0
IsPathTo name [] path = ⊥
IsPathTo name (s ∷ ss) path = (name ≡ s.owed.failing → path ≡ s.path) × ((name ≡ s.owed.failing) ⊎ IsPathTo name ss path)

-- the item of a list that names the entity, from 1
abbrev pub step : ℤ → ℕ → Option Step
step number item = Some (record { entity = entry_no number; item = item })

abbrev pub in_solid : Path
in_solid = record { shell = None; face = None; the_loop = None }

-- further on, in the shell, the face or the loop of a place
abbrev pub in_shell : Path → ℤ → ℕ → Path
in_shell path s item = record path { shell = step s item }

abbrev pub in_face : Path → ℤ → ℕ → Path
in_face path c item = record path { face = step c item }

abbrev pub in_loop : Path → ℤ → ℕ → Path
in_loop path l item = record path { the_loop = step l item }

-- what each item owes, which is given with the items before it
abbrev pub sited_after : {A : Type 0} → (List A → A → List Sited) → List A → List A → List Sited
sited_after g before [] = []
sited_after g before (x ∷ xs) = g before x ++ sited_after g (before ++ x ∷ []) xs

-- On a place that names a record, which none of the places before may name.
abbrev pub naming_places : Contents → ℤ → ℕ → EntityKind → List ℤ → ℤ → List Obligation
naming_places f entity place kind known number = record_places f entity place kind number
    ++ (obligation Twice (entry_number entity) place (¬ Contains known number) ∷ [])

unfoldable pub tuples_sited : Contents → Path → ℤ → List LoopTuple → LoopTuple → List Sited
tuples_sited f path l before t = on (Some path) (tuple_places f l before t)

-- A loop: what its place owes lies in the face, and what its tuples owe in the loop.
abbrev pub loop_sited : Contents → Path → ℤ → ℕ → List ℤ → ℤ → List Sited
loop_sited f path c place known l =
    on (Some path) (naming_places f c place «loop» known l) ++ sited_after (tuples_sited f (in_loop path l place) l) [] (tuples f l)

unfoldable pub loops_sited : Contents → Path → ℤ → List ℤ → List ℤ → ℤ → List Sited
loops_sited f path c used before l = loop_sited f path c (length before + 1) (used ++ before) l

-- on the place of a face, and on its surface
abbrev pub face_naming : Contents → ℤ → ℕ → List ℤ → ℤ → List Obligation
face_naming f s place known c =
    record_places f s place face c
    ++ (obligation Twice (entry_number s) place (¬ Contains known c)
    ∷ obligation BadGeometry (entry_number c) 0 (let items = told face f c in NamesGeometry f items.surface)
    ∷ [])

-- A face: what its place and its surface owe lies in the shell, and what its places owe in the face.
abbrev pub face_sited : Contents → Path → ℤ → ℕ → List ℤ → ℤ → List Sited
face_sited f path s place known c =
    on (Some path) (face_naming f s place known c) ++ sited_after (loops_sited f (in_face path c place) c (flat_map (loops f) known)) [] (loops f c)

unfoldable pub faces_sited : Contents → Path → ℤ → List ℤ → List (ℤ × Bool) → ℤ × Bool → List Sited
faces_sited f path s used before item = face_sited f path s (length before + 1) (used ++ numbers before) item.0

-- A shell: what its place owes lies in the solid, and what its places owe in the shell.
abbrev pub shell_sited : Contents → Path → ℤ → ℕ → List ℤ → ℤ → List Sited
shell_sited f path n place known s =
    on (Some path) (naming_places f n place shell known s)
    ++ sited_after (faces_sited f (in_shell path s place) s (flat_map (λ b. numbers (faces f b)) known)) [] (faces f s)

unfoldable pub shells_sited : Contents → Path → ℤ → List (ℤ × Bool) → ℤ × Bool → List Sited
shells_sited f path n before item = shell_sited f path n (length before + 1) (numbers before) item.0

-- The obligations of solid n in their order, each on its path.
unfoldable pub sited : Contents → ℕ → List Sited
sited f n =
    on None (entry_places f (pos n) 0 solid (pos n))
    ++ on (Some in_solid) (obligation BadLayout n 0 (HasRecordOf solid f (pos n)) ∷ [])
    ++ sited_after (shells_sited f in_solid (pos n)) [] (shells f (pos n))
