use Rattle.std.proofs.Common.{◌≡◌, ◌++◌, drop, filter, pos}
use Rattle.iges_base.specs.declared.entry_no.EntryNo.{EntryNo}
use Rattle.iges_params.specs.Named.{named}
use Rattle.where_unjudged.specs.Listed.{is_form_0}
use Rattle.where_unjudged.proofs.listed.push_true.Given as goal

abbrev pub invariant-solids : goal.invariant-solids
invariant-solids l =
    l.list ++ filter (λ (n : EntryNo). is_form_0 (named l.file (pos n.0))) (drop l.i l.all) ≡ l.fn.list
    ++ filter (λ (n : EntryNo). is_form_0 (named l.file (pos n.0))) l.all
