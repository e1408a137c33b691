-- A file from which the values of one entry after the other are taken.
use Rattle.std.specs.Prelude.{◌≡◌, ℕ, ◌+◌, ◌<◌, ◌≤◌, List, [], length, map, set, Some, option_map, slice_get}
use Rattle.std.specs.List.{enumerate_from}
use Rattle.std.proofs.Common.{refl, sym, ap, ◌∙◌, arith}
use Rattle.std.proofs.lemmas.List.{length-set}
use Rattle.std.proofs.lemmas.Option.{get_or_from_slice_get, slice_get_within}
use Rattle.iges_fields.specs.declared.value.Value.{Value}
use Rattle.iges_directory.specs.declared.entry.Entry.{Entry}
use Rattle.iges_params.specs.Contents.{Contents}
use Rattle.iges_params.specs.Made.{IsMade}
use Rattle.entry_references.specs.Refs.{Record}
use Rattle.entry_references.proofs.NamedRecords.{named_pair}
use Rattle.solid_data.proofs.Members.{Has-from_place}
use Rattle.solid_extract.proofs.Taken.{get_later}
use Rattle.list_compact.specs.Dropped.{dropped, dropped_record}
use Rattle.list_compact.specs.Marking.{AreRecords}
use Rattle.list_compact.proofs.FileSteps.{short, whole_file}

-- the entries from a place on are as they were
pub record IsEmptied (f g : Contents) (i : ℕ) : Type 0 where
  pub start : g.start ≡ f.start
  pub global : g.global ≡ f.global
  pub long : length g.entries ≡ length f.entries
  pub rest : (j : ℕ) → i ≤ j → slice_get g.entries j ≡ slice_get f.entries j

pub none_emptied : (f : Contents) → IsEmptied f f 0
none_emptied f = record { start = refl; global = refl; long = refl; rest = λ j le. refl }

module _ (f g : Contents) (i : ℕ) (h : IsEmptied f g i) (entry : Entry) (is : option_map (λ (r : Record). r.0) (slice_get g.entries i) ≡ Some entry) where
  pub taken_at : (values : List Value) → option_map (λ (r : Record). r.1) (slice_get g.entries i) ≡ Some values → slice_get f.entries i ≡ Some (entry, values)
  taken_at values taken = sym (h.rest i (omega arith)) ∙ named_pair (slice_get g.entries i) entry values (sym is) (sym taken)

  pub next_emptied : (next : Contents) → i < length g.entries
      → ((e : Entry) → option_map (λ (r : Record). r.0) (slice_get g.entries i) ≡ Some e → next ≡ record g { entries = set g.entries i (e, []) })
      → IsEmptied f next (i + 1)
  next_emptied next lt left =
      let same = left entry is in
      record {
        start = ap (λ (x : Contents). x.start) same ∙ h.start;
        global = ap (λ (x : Contents). x.global) same ∙ h.global;
        long = ap (λ (x : Contents). length x.entries) same ∙ (length-set g.entries i (entry, []) ∙ h.long);
        rest = λ j le. ap (λ (x : Contents). slice_get x.entries j) same
            ∙ (get_later g.entries i j (entry, []) (omega (arith, le)) ∙ h.rest j (omega (arith, le)));
      }

pub taken_short : (f : Contents) (records : AreRecords f) (made : IsMade f) (i : ℕ) (r : Record) → slice_get f.entries i ≡ Some r → length r.1 ≤ 164000000
taken_short f records made i r at =
    short f records made r (Has-from_place f.entries r i (slice_get_within f.entries i r at) (get_or_from_slice_get f.entries i r r at))

pub all_dropped : (f g old new : Contents) → g.start ≡ f.start → g.global ≡ f.global → old.entries ≡ map (dropped_record f) (enumerate_from 0 f.entries)
    → new ≡ record old { start = g.start; global = g.global } → new ≡ dropped f
all_dropped f g old new start global entries e =
    whole_file f new (ap (λ (x : Contents). x.start) e ∙ start) (ap (λ (x : Contents). x.global) e ∙ global) (ap (λ (x : Contents). x.entries) e ∙ entries)
