-- The names of a record, by the shape of its values.
use Rattle.std.specs.Prelude.{◌≡◌, Bool, true, false, ◌&&◌, ◌||◌, ℤ, List, [], ◌++◌, Option, Some, None, is_some, filter, filter_map, take, drop, if◌then◌else◌}
use Rattle.std.proofs.Common.{refl, sym, ap, ◌∙◌}
use Rattle.std.proofs.lemmas.Bool.{and_from, cond-true}
use Rattle.iges_params.specs.Contents.{Contents}
use Rattle.brep_lists.specs.Record.{kind_of_type}
use Rattle.brep_lists.specs.declared.entity_kind.EntityKind.{EntityKind}
use Rattle.entry_references.specs.declared.group.Group.{Group}
use Rattle.entry_references.specs.Layout.{Layout, Own, layout_of, own_in}
use Rattle.entry_references.specs.Refs.{Record, are_groups, has_layout, is_listed, is_name, names_of, number_of, own_of_kind, second_group}
use Rattle.entry_references.specs.Shapes.{HasShape}
use Rattle.where_entities.specs.Facts.{entity_names, is_of_solids}
use Rattle.where_entities.specs.NamesGroups.{IsNamesGroup}

abbrev fits_by : Record → Option Own → Bool
fits_by r o = elim o [ Some own ↦ are_groups own r.1 | None ↦ false ]

abbrev names_by : Contents → Record → Option Own → List ℤ
names_by f r o = elim o [ Some own ↦ filter (is_name f) (filter_map number_of (second_group own r.1).pointers) | None ↦ [] ]

pub group_given : (r : Record) (own : Own) (g : Group) → HasShape r own g → IsNamesGroup r g
group_given r own g h = record { fits = ap (fits_by r) h.own_values ∙ h.groups; own = own; own_values = h.own_values; second = h.second; small = h.small }

abbrev own_by : Record → Option EntityKind → Option Layout → Option Own
own_by r k l = elim k [ Some kind ↦ own_of_kind kind r.1 | None ↦ elim l [ Some layout ↦ own_in layout r.1 | None ↦ None ] ]

none_by : (r : Record) (k : Option EntityKind) (l : Option Layout) → (is_some k || is_some l) ≡ false → fits_by r (own_by r k l) ≡ false
none_by r None None e = refl
none_by r None (Some l) e = absurd (let t : true ≡ false = e in cc)
none_by r (Some k) l e = absurd (let t : true ≡ false = e in cc)

pub unlisted : (r : Record) → is_listed r ≡ false → has_layout r ≡ false
unlisted r e = none_by r (kind_of_type r.0.kind) (layout_of r.0) e

pub no_names : (f : Contents) (r : Record) → (is_of_solids r.0.kind ≡ false) → entity_names f r ≡ []
unfolding entity_names
no_names f r e = ap (λ t. if t && has_layout r then names_of f r else []) e

pub no_group : (f : Contents) (r : Record) → is_of_solids r.0.kind ≡ true → has_layout r ≡ false → entity_names f r ≡ []
unfolding entity_names
no_group f r e h = ap (λ t. if t && has_layout r then names_of f r else []) e ∙ ap (λ t. if t then names_of f r else []) h

pub names_given : (f : Contents) (r : Record) (g : Group) → is_of_solids r.0.kind ≡ true → IsNamesGroup r g
    → filter (is_name f) (filter_map number_of (take g.count (drop g.before r.1))) ≡ entity_names f r
unfolding entity_names
names_given f r g e h =
    let all : (if is_of_solids r.0.kind && has_layout r then names_of f r else []) ≡ names_of f r =
    cond-true (is_of_solids r.0.kind && has_layout r) (names_of f r) [] (and_from (is_of_solids r.0.kind) (has_layout r) e h.fits) in
    sym (all ∙ (ap (names_by f r) h.own_values ∙ ap (λ x. filter (is_name f) (filter_map number_of x.pointers)) h.second))

pub names_put : (f : Contents) (r : Record) (g : Group) (start new : List ℤ) → is_of_solids r.0.kind ≡ true → IsNamesGroup r g → start ≡ []
    → new ≡ start ++ filter (is_name f) (filter_map number_of (take g.count (drop g.before r.1))) → new ≡ entity_names f r
names_put f r g start new e h none put =
    put ∙ (ap (λ ns. ns ++ filter (is_name f) (filter_map number_of (take g.count (drop g.before r.1)))) none ∙ names_given f r g e h)
