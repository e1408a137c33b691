use Rattle.std.proofs.Common.{◌≡◌, ◌+◌, ◌∙◌, ap, sym, subst, length, None, Option, ℕ, List, [], option_map}
use Rattle.iges_base.specs.declared.entry_no.EntryNo.{EntryNo}
use Rattle.entry_references.specs.EntrySets.{Entries, IsWithin, with_number}
use Rattle.entry_references.proofs.NamedRecords.{is_within}
use Rattle.solid_extract.specs.declared.fault.Refusal.{Refusal}
use Rattle.solid_extract.specs.Flooding.{with_refs, least_of}
use Rattle.solid_extract.proofs.FloodSteps.{IsFlooding, flood_starts, flood_goes, flood_ends}
use Rattle.solid_extract.proofs.reaching.reach.Goals as goal

pub add-requires : goal.add-requires
add-requires c =
    let size : c.in_ok-reached.reached.size ≡ length c.args.file.now.entries = ap (λ (s : Entries). s.size) c.in_ok-reached.ensures ∙ c.entry_count.ensures.is
    in
    subst (λ (n : ℕ). IsWithin n c.args.no.0) (sym size) (is_within c.args.file.now c.args.no.0 c.requires)

pub entries-init : goal.entries-init
entries-init c =
    let added : c.add.new.self.numbers ≡ with_number [] c.args.no.0 =
    ap (λ (s : Entries). s.numbers) c.in_ok-add.ensures.ok ∙ ap (λ (s : Entries). with_number s.numbers c.args.no.0) c.in_ok-reached.ensures in
    record {
      flooding = subst (λ (ns : List ℕ). IsFlooding c.args.file.now c.args.no.0 0 ns None) (sym added) (flood_starts c.args.file.now c.args.no.0);
      size = ap (λ (s : Entries). s.size) c.in_ok-add.ensures.ok ∙ (ap (λ (s : Entries). s.size) c.in_ok-reached.ensures ∙ c.entry_count.ensures.is);
    }

pub entries-preserved : goal.entries-preserved
entries-preserved c =
    let f = c.args.file.now in
    let e = c.in-Some.entity in
    let goes : IsFlooding f c.args.no.0 (c.entries.next + 1) (with_refs f c.entries.reached.numbers e.0) (least_of c.entries.refusal e c.in_ok-fault.fault) =
    flood_goes f c.args.no.0 c.entries.next c.entries.reached.numbers c.entries.refusal e c.in_ok-fault.fault c.entries.invariant.flooding
    (sym (c.in-Some.ensures {u = tt}).is) c.in_ok-fault.ensures.fault in
    record {
      flooding =
          subst (λ (r : Option Refusal). IsFlooding f c.args.no.0 (c.entries.next + 1) c.visit.new.reached.numbers r) (sym c.least_of-refusal.ensures)
          (subst (λ (ns : List ℕ). IsFlooding f c.args.no.0 (c.entries.next + 1) ns (least_of c.entries.refusal e c.in_ok-fault.fault))
          (sym (ap (λ (s : Entries). s.numbers) c.in_ok-fault.ensures.reached)) goes);
      size = ap (λ (s : Entries). s.size) c.in_ok-fault.ensures.reached ∙ c.entries.invariant.size;
    }

pub returns-clause-flooded : goal.returns-clause-flooded
returns-clause-flooded c =
    let is : option_map (λ (n : EntryNo). n.0) c.get.result ≡ None = ap (option_map (λ (n : EntryNo). n.0)) c.in_default.is in
    flood_ends c.args.file.now c.args.no.0 c.entries.next c.entries.reached.numbers c.entries.refusal c.entries.invariant.flooding (sym c.get.ensures.is ∙ is)
