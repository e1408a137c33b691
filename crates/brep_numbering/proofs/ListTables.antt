-- Lists that are found by their positions.
use Rattle.std.specs.Prelude.{◌≡◌, ◌<◌, ℕ, ℤ, pos, List, length, slice_get, Some}
use Rattle.std.proofs.Common.{refl, sym, ◌∙◌, ap, get_or}
use Rattle.std.proofs.lemmas.Option.{slice_get_read}
use Rattle.iges_base.specs.declared.entry_no.EntryNo.{EntryNo}

-- a list at its position, with the number that was looked up
pub found_list : {T : Type 0} (z : ℤ) (n : ℕ) → z ≡ pos n → (kept : EntryNo × T) → kept.0.0 ≡ n → (seen lists : List (EntryNo × T)) → seen ≡ lists → (i : ℕ) →
    i < length seen
    → ((d : EntryNo × T) → kept ≡ get_or seen i d) → (z ≡ pos kept.0.0) × ((x : ℕ) × (slice_get lists x ≡ Some kept))
found_list z n at kept same seen lists are i within is =
    (at ∙ ap pos (sym same), (i, ap (λ l. slice_get l i) (sym are) ∙ slice_get_read seen (length seen) i kept refl within (is kept)))
