-- A file whose unused items are dropped can be made.
use Rattle.std.specs.Prelude.{◌≡◌, ℕ, ◌+◌, ◌*◌, ◌≤◌, Bool, true, false, pos, List, [], ◌∷◌, length, map, None, if◌then◌else◌}
use Rattle.std.specs.List.{AllByRecursion, enumerate_from}
use Rattle.std.proofs.Common.{refl, ◌∙◌, subst, arith}
use Rattle.std.proofs.lemmas.Bool.Decides.{Decides-int_eq}
use Rattle.std.proofs.lemmas.List.{length-map}
use Rattle.std.proofs.lemmas.List.Elements.{recursion_from_All}
use Rattle.std.proofs.lemmas.List.FromFn.{length-enumerate_from}
use Rattle.std.proofs.lemmas.List.Sums.{sum_by-cons}
use Rattle.iges_params.specs.Contents.{Contents, value_count}
use Rattle.iges_params.specs.Made.{IsMade, IsMadeEntry}
use Rattle.brep_lists.specs.Record.{items_of, Fits, IsRecordOf}
use Rattle.brep_lists.specs.declared.entity_kind.EntityKind.TheVariants.{Loop as «loop», EdgeList as edges, VertexList as vertices}
use Rattle.brep_lists.proofs.Decided.{decided}
use Rattle.brep_lists.proofs.OnlyRead.{only_read}
use Rattle.solid_data.proofs.Members.{Has, All-at, All-from, has_map}
use Rattle.entry_references.specs.Refs.{Record, entry_fault}
use Rattle.solid_extract.specs.Extracted.{renamed, new_record, new_values, IsExtracted}
use Rattle.solid_extract.specs.Kept.{renamed_items}
use Rattle.solid_extract.proofs.Keeping.{keeps}
use Rattle.solid_extract.proofs.KeptFile.{extracted_is_made}
use Rattle.solid_extract.proofs.KeptItems.{faultless_is_record}
use Rattle.list_compact.specs.Used.{is_kind}
use Rattle.list_compact.specs.Dropped.{loop_values, edge_values, vertex_values, dropped_values, dropped_record, dropped}
use Rattle.list_compact.specs.Laws.{DroppedIsMade}
use Rattle.list_compact.specs.Marking.{IsOfItsKind}
use Rattle.list_compact.proofs.Rewritten.{loop_rewritten, edges_either, vertices_either}
use Rattle.list_compact.proofs.DroppedEntries.{unused_same, kind_is}

-- it gets no longer
pub values_few : (g : Contents) (e : ℕ) (r : Record) → IsOfItsKind r → length (dropped_values g e r) ≤ length r.1
values_few g e r h = by_kinds (is_kind «loop» r) (is_kind edges r) (is_kind vertices r) refl refl refl
  where
    by_kinds : (l d v : Bool) → is_kind «loop» r ≡ l → is_kind edges r ≡ d → is_kind vertices r ≡ v
        → length (if l then loop_values g r.1 else if d then edge_values g e r.1 else if v then vertex_values g e r.1 else r.1) ≤ length r.1
    by_kinds true d v el ed ev = let k = loop_rewritten g r.1 (h «loop» (kind_is «loop» r el)) in k.few
    by_kinds false true v el ed ev = let k = edges_either g e r.1 (h edges (kind_is edges r ed)) in k.1.few
    by_kinds false false true el ed ev = let k = vertices_either g e r.1 (h vertices (kind_is vertices r ev)) in k.1.few
    by_kinds false false false el ed ev = omega arith

module _ (g : Contents) where
  pub counts_few : (k : ℕ) (rs : List Record) → AllByRecursion IsOfItsKind rs → value_count (map (dropped_record g) (enumerate_from k rs)) ≤ value_count rs
  counts_few k [] all = omega arith
  counts_few k (r ∷ rs) all =
      let on : value_count (map (dropped_record g) (enumerate_from (k + 1) rs)) ≤ value_count rs = counts_few (k + 1) rs all.1 in
      omega (
        arith,
        on,
        values_few g (2 * k + 1) r all.0,
        sum_by-cons (λ (q : Record). length q.1) (dropped_record g (k, r))
            (map (dropped_record g) (enumerate_from (k + 1) rs)),
        sum_by-cons (λ (q : Record). length q.1) r rs,
      )

  entries_made : (k : ℕ) (rs : List Record) → AllByRecursion IsMadeEntry rs → AllByRecursion IsMadeEntry (map (dropped_record g) (enumerate_from k rs))
  entries_made k [] all = tt
  entries_made k (r ∷ rs) all =
      let made : IsMadeEntry r = all.0 in (
        record { bounded = made.bounded; unused = λ none. unused_same g (2 * k + 1) r ((Decides-int_eq r.0.kind (pos 0)).0 none) ∙ made.unused none },
        entries_made (k + 1) rs all.1,
      )

  pub can_be_made : AllByRecursion IsOfItsKind g.entries → IsMade g → IsMade (dropped g)
  unfolding dropped
  can_be_made all made =
      let most : length g.entries ≤ 4999999 = made.limits.entries in
      let values : value_count g.entries ≤ 164000000 = made.limits.values in
      record {
        some_start = made.some_start;
        start = made.start;
        kinds = made.kinds;
        entries = entries_made 0 g.entries made.entries;
        limits = record {
          entries = omega (arith, most, length-map (enumerate_from 0 g.entries) (dropped_record g), length-enumerate_from 0 g.entries);
          values = omega (arith, values, counts_few 0 g.entries all);
        };
      }

-- what an extracted file has of the six kinds are records of their kinds
pub extracted_of_kind : (f g : Contents) (n : ℕ) → IsExtracted f n g → AllByRecursion IsOfItsKind g.entries
extracted_of_kind f g n x =
    All-from IsOfItsKind g.entries (λ s m.
    let r = has_map (new_record f x.kept) x.records s (subst (λ es. Has es s) x.entries m) in
    let none : entry_fault f r.0 ≡ None =
    All-at (λ q. entry_fault f q ≡ None) x.records (recursion_from_All (λ q. entry_fault f q ≡ None) x.records x.faultless) r.0 r.1 in
    subst IsOfItsKind r.2 (λ kind k.
    let is : IsRecordOf kind r.0.1 = (decided kind r.0.1).0 (faultless_is_record f r.0 kind none k) in
    let fits : Fits kind (new_values f x.kept r.0) (renamed_items (renamed x.kept) kind (items_of kind r.0.1)) = keeps f x.kept r.0 kind k is in
    subst (Fits kind (new_values f x.kept r.0)) (only_read kind (new_values f x.kept r.0) (renamed_items (renamed x.kept) kind (items_of kind r.0.1)) fits)
    fits))

pub dropped_made : DroppedIsMade
dropped_made f g n made x = can_be_made g (extracted_of_kind f g n x) (extracted_is_made f g n made x)
