use Rattle.std.proofs.Common.{◌≡◌, ◌∙◌, ◌/◌, Some, ap, sym, arith, refl}
use Rattle.std.specs.Prelude.{slice_get, option_copied, ◌-◌}
use Rattle.std.proofs.lemmas.List.{length-set}
use Rattle.entry_references.specs.EntrySets.{IsWithin, numbers_of}
use Rattle.solid_extract.proofs.Places.{within_at, number_at, places_next}
use Rattle.solid_extract.proofs.renaming.Renaming.new.Goals as goal

pub index_mut-requires : goal.index_mut-requires
index_mut-requires c =
    let at : slice_get c.args.kept (c.kept.left - 1) ≡ Some c.unwrap-no.result.now = sym c.get.ensures.item ∙ ap option_copied c.unwrap-no.ensures in
    let within : IsWithin c.args.size c.unwrap-no.result.now.0 = within_at (IsWithin c.args.size) c.args.kept (c.kept.left - 1) c.unwrap-no.result.now
    c.requires.within at in
    omega (arith, within.1, c.kept.invariant.long, c.kept.places.ok.0)

pub kept-preserved : goal.kept-preserved
kept-preserved c =
    let no = c.unwrap-no.result.now in
    let at : slice_get c.args.kept (c.kept.left - 1) ≡ Some no = sym c.get.ensures.item ∙ ap option_copied c.unwrap-no.ensures in
    let within : IsWithin c.args.size no.0 = within_at (IsWithin c.args.size) c.args.kept (c.kept.left - 1) no c.requires.within at in
    record {
      long = length-set c.kept.places.items (no.0 / 2) (c.kept.left - 1) ∙ c.kept.invariant.long;
      below = omega (arith, c.kept.invariant.below);
      stand = places_next (numbers_of c.args.kept) c.kept.places.items _ c.args.size c.kept.left (c.kept.left - 1) no.0 c.kept.invariant.long c.kept-test.true
          refl (number_at c.args.kept (c.kept.left - 1) no at) within refl c.kept.invariant.stand;
    }
