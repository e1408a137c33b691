-- The verdict on each solid of a file.
use Rattle.std.specs.Prelude.{◌≡◌, ◌+◌, ℕ, pos, Bool, true, false, not, ◌&&◌, ◌==◌, nat_le, nat_lt, List, [], ◌∷◌, ◌++◌, length, map, flat_map, zip, count_by}
use Rattle.std.specs.Prelude.{Option, Some, None, slice_get, codes, decimal, if◌then◌else◌}
use Rattle.iges_base.specs.declared.entry_no.EntryNo.{EntryNo}
use Rattle.iges_params.specs.Contents.{Contents}
use Rattle.solid_data.specs.declared.verdict.Verdict.{Verdict}
use Rattle.solid_data.specs.declared.verdict.Verdict.TheVariants.{Closed, Fails}
use Rattle.solid_verdict.specs.Closed.{IsVerdictOn}
use Rattle.where_entities.specs.Facts.{entity_facts}
use Rattle.where_places.specs.declared.placed_file.PlacedFile.{PlacedFile}
use Rattle.where_text.specs.Spelled.{space_word}
use Rattle.where_unjudged.specs.Unjudged.{unjudged_text}
use Rattle.named_sizes.specs.Sizes.{capped, solid_size}
use Rattle.where_solids.specs.Hints.{no_solid_hint}
use Rattle.where_solids.specs.Lines.{counted, failing_words}
use Rattle.where_unjudged.specs.Listed.{solids_of}

-- ---- how many solids are judged

-- with a solid of this size no more is named than the limit
abbrev pub has_room : ℕ → ℕ → ℕ → Bool
has_room limit total size = nat_le (total + size) limit

abbrev pub total_after : ℕ → ℕ → ℕ → ℕ
total_after limit total size = if has_room limit total size then total + size else total

-- which of the solids of these sizes are judged, after a total
abbrev pub judged_from : ℕ → ℕ → List ℕ → List Bool
judged_from limit total [] = []
judged_from limit total (size ∷ sizes) = has_room limit total size ∷ judged_from limit (total_after limit total size) sizes

abbrev pub size_of : Contents → EntryNo → ℕ
size_of f n = capped (solid_size f (pos n.0))

abbrev pub is_judged : Option Verdict → Bool
is_judged None = false
is_judged (Some v) = true

-- At each place the verdict on the solid at that place. A solid is judged if its size and those of the solids judged before it are together no more than the bytes of the file.
pub record AreVerdicts (f : Contents) (limit : ℕ) (ns : List EntryNo) (vs : List (Option Verdict)) : Type 0 where
  pub judged : map is_judged vs ≡ judged_from limit 0 (map (size_of f) ns)
  pub verdict : (i : ℕ) (n : EntryNo) (v : Verdict) → slice_get ns i ≡ Some n → slice_get vs i ≡ Some (Some v) → IsVerdictOn f n.0 v

-- ---- the text

abbrev pub fails : Option Verdict → Bool
fails None = false
fails (Some Closed) = false
fails (Some (Fails x)) = true

abbrev pub is_unjudged : Option Verdict → Bool
is_unjudged v = not (is_judged v)

abbrev pub verdict_words : Option Verdict → List ℕ
verdict_words None = codes "unjudged"
verdict_words (Some Closed) = codes "closed"
verdict_words (Some (Fails x)) = failing_words x

-- the number of a solid, its verdict, and its facts
unfoldable pub solid_paragraph : PlacedFile → EntryNo × Option Verdict → List ℕ
solid_paragraph x p = codes "solid" ++ space_word (decimal p.0.0) ++ space_word (verdict_words p.1) ++ codes "\n" ++ entity_facts x p.0.0

-- how many solids there are, and how many of them fail
unfoldable pub overview_start : List (Option Verdict) → List ℕ
overview_start vs = codes "solids" ++ space_word (decimal (length vs)) ++ counted (codes "failing") (count_by fails vs) ++ codes "\n"

-- that there is no solid, where there are so many
unfoldable pub overview_end : ℕ → List ℕ
overview_end solids = if solids == 0 then no_solid_hint else []

unfoldable pub unjudged_sentence : List ℕ
unjudged_sentence = codes "  The solids of this file name the same loops again and again, so these\n  weren't judged here. To judge one, run igesolid where with its number.\n"

-- of so many solids that aren't judged
unfoldable pub unjudged_lines : ℕ → List ℕ
unjudged_lines n = codes "hint unjudged solids" ++ space_word (decimal n) ++ codes "\n" ++ unjudged_sentence

-- the same; nothing where all are
abbrev pub unjudged_hint : ℕ → List ℕ
unjudged_hint n = if n == 0 then [] else unjudged_lines n

-- the solids, then what stands beside them, and then how many aren't judged
unfoldable pub overview_text : PlacedFile → List (Option Verdict) → List ℕ
overview_text p vs =
    overview_start vs ++ flat_map (solid_paragraph p) (zip (solids_of p.file) vs)
    ++ (unjudged_text p.file ++ overview_end (length (solids_of p.file)) ++ unjudged_hint (count_by is_unjudged vs))

-- there are solids, and all are judged and closed
abbrev pub all_close : List (Option Verdict) → Bool
all_close vs = nat_lt 0 (length vs) && (count_by fails vs == 0 && count_by is_unjudged vs == 0)

-- The text speaks of all solids of the file, which have these verdicts.
pub record IsOverview (p : PlacedFile) (verdicts : List (Option Verdict)) (text : List ℕ) : Type 0 where
  pub judged : AreVerdicts p.file (length p.bytes) (solids_of p.file) verdicts
  pub text_is : text ≡ overview_text p verdicts
