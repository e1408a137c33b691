-- The text that is written of an extracted solid reads back.
use Rattle.std.specs.Prelude.{◌≡◌, ℕ, ◌/◌, ◌≤◌, pos, List, [], ◌∷◌, length, map, Some, IsTrue}
use Rattle.std.specs.List.{AllByRecursion, AllZip, list_all}
use Rattle.std.proofs.Common.{sym, ◌∙◌, subst, inl, inr}
use Rattle.iges_fields.specs.Delims.{are_permitted}
use Rattle.iges_fields.specs.InLine.{is_value}
use Rattle.iges_params.specs.declared.global.Global26.{Global26}
use Rattle.iges_params.specs.Contents.{Contents}
use Rattle.iges_params.specs.IsFile.{IsFile}
use Rattle.iges_params.specs.Made.{IsMade}
use Rattle.iges_params.specs.Named.{named}
use Rattle.iges_params.specs.Refusal.{IsOnly, HasOneReading}
use Rattle.iges_params.proofs.FileExact.{one_reading}
use Rattle.iges_write.specs.Writable.{IsHeld, IsWritable}
use Rattle.iges_write.specs.Text.{IsText}
use Rattle.iges_write.proofs.FileBack.{reads_back, one_text}
use Rattle.iges_write.proofs.Made.{can_be_made}
use Rattle.entry_references.specs.Refs.{Record}
use Rattle.entry_references.proofs.NamedRecords.{named_place, named_few}
use Rattle.solid_extract.specs.Extracted.{new_number, new_record}
use Rattle.solid_extract.proofs.Copies.{all_at}
use Rattle.solid_extract.proofs.Again.{extracted_again}
use Rattle.solid_extract.proofs.HeldValues.{values_held}
use Rattle.solid_extract.proofs.KeptFile.{kept_count, extracted_is_made}
use Rattle.solid_extract.proofs.One.{IsExtracted-unique}
use Rattle.extraction_laws.specs.Written.{ExtractedIsWritable, WrittenIsExtracted, WrittenKeepsVerdict, WrittenAgain}
use Rattle.extraction_laws.proofs.WholeVerdict.{verdict_kept, no_other, closed_kept}

module _ (f : Contents) (kept : List ℕ) (few : length kept ≤ 4999999) (made : IsMade f) (all : AllByRecursion IsHeld f.entries) where
  entry_held : (m : ℕ) (r : Record) → named f (pos m) ≡ Some r → IsHeld (new_record f kept r)
  entry_held m r e =
      let at = (named_place f m r e).1 in
      let held : IsHeld r = all_at IsHeld f.entries (m / 2) r all at in
      let short : length r.1 ≤ 164000000 = named_few f m r made e in
      record { status = held.status; label = held.label; values = values_held kept few f r short held.values }

  entries_held : (ms : List ℕ) (rs : List Record) → AllZip (λ m r. named f (pos m) ≡ Some r) ms rs → AllByRecursion IsHeld (map (new_record f kept) rs)
  entries_held [] [] h = tt
  entries_held [] (r ∷ rs) h = absurd h
  entries_held (m ∷ ms) [] h = absurd h
  entries_held (m ∷ ms) (r ∷ rs) h = (entry_held m r h.0, entries_held ms rs h.1)

pub extracted_is_writable : ExtractedIsWritable
extracted_is_writable f new n w x =
    let few : length x.kept ≤ 4999999 = kept_count f new n w.made x in
    record {
      made = extracted_is_made f new n w.made x;
      delims = subst (λ (g : Global26). IsTrue (are_permitted g.delims)) (sym x.global) w.delims;
      global_values = subst (λ (g : Global26). IsTrue (list_all is_value g.values)) (sym x.global) w.global_values;
      held = subst (AllByRecursion IsHeld) (sym x.entries) (entries_held f x.kept few w.made w.held x.kept x.records x.each_named);
    }

-- a file of a text is the only one
pub only_file : (text : List ℕ) (f : Contents) → IsFile text f → IsOnly (IsFile text) f
only_file text f is = by_reading (one_reading text)
  where
    by_reading : HasOneReading text → IsOnly (IsFile text) f
    by_reading (inl one) = (is, λ other h. one.1.1 other h ∙ sym (one.1.1 f is))
    by_reading (inr none) = absurd (none.2 f is)

pub written_is_extracted : WrittenIsExtracted
written_is_extracted bytes text f new n w =
    let old : IsWritable f = can_be_made bytes f w.within w.file in
    only_file text new (reads_back new text (extracted_is_writable f new n old w.extracted) w.written w.text_within)

pub written_keeps_verdict : WrittenKeepsVerdict
written_keeps_verdict bytes text f new n w = (
  new,
  written_is_extracted bytes text f new n w,
  record { verdict = verdict_kept f new n w.extracted; only = no_other f new n w.extracted; closed = closed_kept f new n w.extracted },
)

pub written_again : WrittenAgain
written_again bytes text f new n w = (
  record {
    within = w.text_within;
    file = (written_is_extracted bytes text f new n w).0;
    extracted = extracted_again f new n w.extracted;
    written = w.written;
    text_within = w.text_within;
  },
  λ again other x t.
      let same : again ≡ new = IsExtracted-unique new (new_number w.extracted.kept n) again new x (extracted_again f new n w.extracted) in
      let one = one_text new in
      one.2 other (subst (λ (c : Contents). IsText c other) same t) ∙ sym (one.2 text w.written),
)
