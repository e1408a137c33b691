use Rattle.std.proofs.Common.{◌≡◌, List}
use Rattle.std.proofs.lemmas.Result.{IfOk-weaker}
use Rattle.iges_base.specs.declared.entry_no.EntryNo.{EntryNo}
use Rattle.iges_params.specs.Solids.{numbers_of, solids_of as solid_numbers}
use Rattle.where_unjudged.specs.Listed.{solids_of}
use Rattle.where_unjudged.proofs.Numbers.{solids_are}
use Rattle.where_unjudged.proofs.listed.solids.Goals as goal

pub returns : goal.returns
returns c =
    IfOk-weaker c.solids.result (λ (list : List EntryNo). numbers_of list ≡ solid_numbers c.args.file.now)
    (λ (list : List EntryNo). list ≡ solids_of c.args.file.now)
    (λ (list : List EntryNo) is. solids_are c.args.file.now list is) c.solids.ensures
