use Rattle.std.proofs.Common.{◌∙◌, ◌≤◌, sym, subst, List, ℕ}
use Rattle.iges_params.specs.Contents.{value_count}
use Rattle.solid_extract.specs.Making.{records_of}
use Rattle.solid_extract.specs.Flooding.{IsFlooded}
use Rattle.solid_extract.proofs.KeptFile.{refused_is, values_fit}
use Rattle.solid_extract.proofs.extraction.renaming_of.Goals as goal

pub returns-in-Some-clause-fault : goal.returns-in-Some-clause-fault
returns-in-Some-clause-fault c =
    refused_is c.args.file.now c.args.no.0 c.in_ok-found.found.reached.numbers c.in_ok-found.found.refusal c.in-Some.refusal
    (sym c.is_solid.ensures ∙ c.if-not-is_solid.false) c.in_ok-found.ensures.flooded c.in-Some.is

pub returns-clause-found : goal.returns-clause-found
returns-clause-found c =
    let f = c.args.file.now in
    let solid = sym c.is_solid.ensures ∙ c.if-not-is_solid.false in
    record {
      reached = c.in_ok-found.found.reached.numbers;
      numbers = c.in_ok-kept.kept;
      is = c.in_ok-renaming.ensures;
      solid = solid;
      flooded = subst (IsFlooded f c.args.no.0 c.in_ok-found.found.reached.numbers) c.in_default.is c.in_ok-found.ensures.flooded;
      rising = c.in_ok-kept.ensures.rising;
      few = subst (λ (ms : List ℕ). value_count (records_of f ms) ≤ 164000000) (sym c.in_ok-renaming.ensures)
          (values_fit f c.args.no.0 c.in_ok-found.found.reached.numbers c.in_ok-found.found.refusal c.in_ok-kept.kept solid c.in_ok-found.ensures.flooded
          c.in_default.is c.in_ok-kept.ensures.rising c.entry_count.ensures.made);
    }
