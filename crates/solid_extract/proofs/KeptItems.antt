-- What a kept entry of one of the six kinds tells in the extracted file.
use Rattle.std.proofs.Common.{◌≡◌, Bool, true, false, [], ◌∷◌, pos, Option, Some, None, refl, sym, ap, subst, ◌∙◌}
use Rattle.std.specs.Prelude.{◌==◌, slice_get}
use Rattle.std.specs.List.{list_all, position_or_len}
use Rattle.std.proofs.lemmas.Bool.{cond-false}
use Rattle.std.proofs.lemmas.List.Elements.{recursion_from_All}
use Rattle.iges_base.proofs.Tests.{passes}
use Rattle.iges_params.specs.Contents.{Contents}
use Rattle.iges_params.specs.Named.{record_values, values_of}
use Rattle.brep_lists.specs.Record.{kind_of_type, items_of, Fits, IsRecordOf}
use Rattle.brep_lists.specs.declared.entity_kind.EntityKind.{EntityKind}
use Rattle.brep_lists.specs.OwnValues.{is_record_of, own_count, pointer_places}
use Rattle.brep_lists.proofs.Decided.{decided}
use Rattle.brep_lists.proofs.OnlyRead.{only_read}
use Rattle.entry_references.specs.declared.fault.ExtractReason.TheVariants.{Unlisted, Layout, Dangling}
use Rattle.entry_references.specs.Layout.{Own, layout_of, own_in}
use Rattle.entry_references.specs.Refs.{Record, own_of_kind, own_of, are_groups, has_layout, is_listed, names_entry, pointers_of, entry_fault}
use Rattle.entry_references.proofs.RisingLists.{in_from}
use Rattle.solid_extract.specs.Extracted.{renamed, new_values, new_number}
use Rattle.solid_extract.specs.Kept.{renamed_items, ItemsAreKept}
use Rattle.solid_extract.proofs.Copies.{all_at}
use Rattle.solid_extract.proofs.Keeping.{keeps}
use Rattle.solid_extract.proofs.NewNumbers.{found_at, new_named}

-- a faultless entry of one of the six kinds has a record of that kind
pub faultless_is_record : (f : Contents) (r : Record) (kind : EntityKind) → entry_fault f r ≡ None → kind_of_type r.0.kind ≡ Some kind
    → is_record_of kind r.1 ≡ true
faultless_is_record f r kind none e = by_test (is_record_of kind r.1) refl
  where
    own : own_of r ≡ own_of_kind kind r.1
    own = ap (λ (o : Option EntityKind). elim o as (λ _. Option Own)
        [ Some k ↦ own_of_kind k r.1 | None ↦ elim (layout_of r.0) as (λ _. Option Own) [ Some layout ↦ own_in layout r.1 | None ↦ None ] ]) e

    good : has_layout r ≡ true
    good = (passes ((is_listed r, Unlisted) ∷ (has_layout r, Layout) ∷ (list_all (names_entry f) (pointers_of r), Dangling) ∷ []) none).1.0

    by_test : (b : Bool) → is_record_of kind r.1 ≡ b → is_record_of kind r.1 ≡ true
    by_test true t = t
    by_test false t =
        let nothing : own_of r ≡ None =
        own ∙ cond-false (is_record_of kind r.1) (Some (record { count = own_count kind r.1; pointers = pointer_places kind r.1; cut = [] })) None t in
        let bad : has_layout r ≡ false = ap (λ (o : Option Own). elim o as (λ _. Bool) [ Some own ↦ are_groups own r.1 | None ↦ false ]) nothing in
        absurd (let no : true ≡ false = sym good ∙ bad in cc)

pub items_kept : ItemsAreKept
items_kept f new n x m r kind c e k =
    let at : slice_get x.records (position_or_len (λ j. j == m) x.kept) ≡ Some r = found_at f x.kept x.records x.each_named m r (in_from x.kept m c) e in
    let none : entry_fault f r ≡ None = all_at (λ q. entry_fault f q ≡ None) x.records (position_or_len (λ j. j == m) x.kept) r
    (recursion_from_All (λ q. entry_fault f q ≡ None) x.records x.faultless) at in
    let is : IsRecordOf kind r.1 = (decided kind r.1).0 (faultless_is_record f r kind none k) in
    let values : values_of new (pos (new_number x.kept m)) ≡ new_values f x.kept r = ap record_values (new_named f new n x m r c e) in
    let fits : Fits kind (new_values f x.kept r) (renamed_items (renamed x.kept) kind (items_of kind r.1)) = keeps f x.kept r kind k is in
    let same : renamed_items (renamed x.kept) kind (items_of kind r.1) ≡ items_of kind (new_values f x.kept r) =
    only_read kind (new_values f x.kept r) (renamed_items (renamed x.kept) kind (items_of kind r.1)) fits in (
      is,
      subst (IsRecordOf kind) (sym values) (subst (Fits kind (new_values f x.kept r)) same fits),
      ap (items_of kind) values ∙ sym same,
    )
