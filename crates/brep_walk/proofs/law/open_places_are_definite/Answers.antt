use Rattle.brep_walk.specs.OpenPlaces.{open_places}
use Rattle.solid_data.proofs.ObligationLemmas.{FirstFalse-one, FirstFalse-not_all}
use Rattle.solid_data.proofs.ObligationsDecided.{all_or_first_false}
use Rattle.brep_walk.proofs.Decided.{open_places_decided}
use Rattle.brep_walk.proofs.law.open_places_are_definite.Goals as goal

pub returns-clause-one : goal.returns-clause-one
returns-clause-one c f n x y = FirstFalse-one (open_places f n) x y

pub returns-clause-none : goal.returns-clause-none
returns-clause-none c f n x = FirstFalse-not_all (open_places f n) x

pub returns-clause-always : goal.returns-clause-always
returns-clause-always c f n = all_or_first_false (open_places f n) (open_places_decided f n)
