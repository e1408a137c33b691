-- The solids by their numbers.
use Rattle.std.specs.Prelude.{◌≡◌, List, [], ◌∷◌, map}
use Rattle.std.proofs.Common.{refl, sym, ap, ◌∙◌}
use Rattle.iges_base.specs.declared.entry_no.EntryNo.{EntryNo}
use Rattle.iges_params.specs.Contents.{Contents}
use Rattle.iges_params.specs.Solids.{numbers_of, solids_of as solid_numbers}
use Rattle.where_unjudged.specs.Listed.{numbered, solids_of}

numbered_again : (list : List EntryNo) → map numbered (numbers_of list) ≡ list
numbered_again [] = refl
numbered_again (n ∷ ns) = ap (λ (ms : List EntryNo). n ∷ ms) (numbered_again ns)

pub solids_are : (f : Contents) (list : List EntryNo) → numbers_of list ≡ solid_numbers f → list ≡ solids_of f
unfolding solids_of
solids_are f list is = sym (numbered_again list) ∙ ap (map numbered) is
