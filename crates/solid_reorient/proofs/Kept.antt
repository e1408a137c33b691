-- A file that can be made can be made with other flags.
use Rattle.std.specs.Prelude.{◌≡◌, ℕ, ◌+◌, ◌*◌, ◌≤◌, Bool, ℤ, pos, List, [], ◌∷◌, length, map}
use Rattle.std.specs.List.{AllByRecursion, enumerate_from}
use Rattle.std.proofs.Common.{refl, ◌∙◌, ap, arith}
use Rattle.std.proofs.lemmas.List.{length-map}
use Rattle.std.proofs.lemmas.List.FromFn.{length-enumerate_from}
use Rattle.iges_fields.specs.declared.value.Value.{Value}
use Rattle.iges_params.specs.Contents.{value_count}
use Rattle.iges_params.specs.Made.{IsMadeEntry}
use Rattle.entry_references.specs.Refs.{Record}
use Rattle.brep_walk.specs.Places.{shells, numbers}
use Rattle.solid_reorient.specs.Reflagged.{flags_for, reflagged_record, reflagged}
use Rattle.solid_reorient.specs.Laws.{ReflaggedIsMade}
use Rattle.solid_reorient.proofs.Entries.{length-reflagged}
use Rattle.solid_reorient.proofs.Emptied.{values_same}

empty : (ws : List Value) → length ws ≡ 0 → ws ≡ []
empty [] h = refl
empty (w ∷ ws) h = absurd (omega (arith, h))

entries_made : (flags : List (List Bool)) (zs : List ℤ) (k : ℕ) (rs : List Record) → AllByRecursion IsMadeEntry rs
    → AllByRecursion IsMadeEntry (map (reflagged_record flags zs) (enumerate_from k rs))
entries_made flags zs k [] all = tt
entries_made flags zs k (r ∷ rs) all =
    let made : IsMadeEntry r = all.0 in (
      record { bounded = made.bounded; unused = λ none. empty _ (length-reflagged (flags_for flags zs (2 * k + 1)) r ∙ ap length (made.unused none)) },
      entries_made flags zs (k + 1) rs all.1,
    )

pub made_with : ReflaggedIsMade
unfolding reflagged
made_with g n flags made =
    let most : length g.entries ≤ 4999999 = made.limits.entries in
    let values : value_count g.entries ≤ 164000000 = made.limits.values in
    record {
      some_start = made.some_start;
      start = made.start;
      kinds = made.kinds;
      entries = entries_made flags (numbers (shells g (pos n))) 0 g.entries made.entries;
      limits = record {
        entries = omega (
          arith,
          most,
          length-map (enumerate_from 0 g.entries) (reflagged_record flags (numbers (shells g (pos n)))),
          length-enumerate_from 0 g.entries,
        );
        values = omega (arith, values, values_same flags (numbers (shells g (pos n))) g.entries);
      };
    }
