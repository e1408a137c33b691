use Rattle.std.proofs.Common.{refl, subst, sym, ℕ, List, Bool, false, [], take, length, rules}
use Rattle.std.proofs.lemmas.List.{take_more, take_all}
use Rattle.solid_extract.specs.NewValues.{AreMarkedPlaces, AreRenewed}
use Rattle.solid_extract.proofs.KeptValues.{none_renewed, renewed_fits}
use Rattle.solid_extract.proofs.new_values.rename_places.Goals as goal

pub places-init : goal.places-init
places-init c count =
    let none : AreMarkedPlaces c.resize.new.self.items [] (length c.args.values.now) = search rules in
    none_renewed c.args.renaming.now count c.args.values.now c.resize.new.self.items none

pub rename_in-requires : goal.rename_in-requires
rename_in-requires c =
    renewed_fits c.args.renaming.now (record { count = 0; pointers = take c.places.place-index c.args.places.now; cut = [] }) c.args.values.now
    c.places.marks.items c.places.values (c.places.invariant 0)

pub places-preserved : goal.places-preserved
places-preserved c count =
    subst (λ (ps : List ℕ).
    AreRenewed c.args.renaming.now (record { count = count; pointers = ps; cut = [] }) c.args.values.now c.rename_in.new.marks.items c.rename_in.new.values)
    (sym (take_more c.args.places.now c.places.place-index 0 c.places-test.true))
    (c.rename_in.ensures (record { count = count; pointers = take c.places.place-index c.args.places.now; cut = [] }) c.args.values.now refl
    (c.places.invariant count))

pub returns : goal.returns
returns c count =
    subst (λ (ps : List ℕ).
    AreRenewed c.args.renaming.now (record { count = count; pointers = ps; cut = [] }) c.args.values.now c.places.marks.items c.places.values)
    (take_all c.places.place-index c.args.places.now c.places-test.false) (c.places.invariant count)
