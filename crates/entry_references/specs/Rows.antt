-- Private: the layouts by the names that the code gives them.
use Rattle.std.specs.Prelude.{ℤ, ◌+◌, ◌*◌, List, [], ◌∷◌, ◌==◌, if◌then◌else◌}
use Rattle.std.specs.List.{range_with_len}
use Rattle.entry_references.specs.Layout.{Layout, fixed, counted, nth, by_form}
use Rattle.entry_references.specs.declared.layout.Layout.{Layout as Named}
use Rattle.entry_references.specs.declared.layout.Layout.TheVariants as row
use Rattle.entry_references.specs.declared.layout.Forms.{Forms}
use Rattle.entry_references.specs.declared.layout.Forms.TheVariants as forms

abbrev pub layout_of_row : Named → Layout
layout_of_row (row.Fixed own places) = fixed own places.now
layout_of_row row.CompositeCurve = record { counts = 1 ∷ []; choices = []; own = λ c. 1 + nth c 0; pointers = λ c. range_with_len 2 (nth c 0); cut = [] }
layout_of_row row.CopiousData = record {
  counts = 2 ∷ [];
  choices = 1 ∷ [];
  pointers = λ _. [];
  cut = [];
  own = λ c. 2 + (if nth c 1 == 1 then 1 + 2 * nth c 0 else (if nth c 1 == 2 then 3 * nth c 0 else 6 * nth c 0));
}
layout_of_row row.SplineCurve = counted (4 ∷ []) (λ c. 4 + (nth c 0 + 1) + 12 * nth c 0 + 12)
layout_of_row row.Point = record { counts = []; choices = []; own = λ _. 4; pointers = λ _. []; cut = 4 ∷ [] }
layout_of_row row.RationalCurve = counted (1 ∷ 2 ∷ []) (λ c. 6 + (nth c 0 + nth c 1 + 2) + 4 * (nth c 0 + 1) + 5)
layout_of_row row.RationalSurface =
    counted (1 ∷ 2 ∷ 3 ∷ 4 ∷ []) (λ c. 9 + (nth c 0 + nth c 2 + 2) + (nth c 1 + nth c 3 + 2) + 4 * (nth c 0 + 1) * (nth c 1 + 1) + 4)

abbrev pub layout_in_form : ℤ → Forms → Layout
layout_in_form form (forms.Every layout) = layout_of_row layout
layout_in_form form (forms.First first other) = by_form form (layout_of_row first) (layout_of_row other)
