-- The verdict on a solid whose unused items are dropped.
use Rattle.std.specs.Prelude.{◌≡◌, ℕ, ◌++◌, List, [], ◌∷◌}
use Rattle.std.proofs.Common.{sym, ap, inl, inr}
use Rattle.iges_params.specs.Contents.{Contents}
use Rattle.brep_walk.specs.Places.{places}
use Rattle.brep_walk.specs.SolidOf.{solid_of}
use Rattle.solid_data.specs.Obligations.{Obligation, AllHold, FirstFalse}
use Rattle.solid_data.specs.declared.verdict.Failing.{Failing}
use Rattle.solid_data.specs.declared.verdict.Rule.{Rule}
use Rattle.solid_data.specs.declared.verdict.Rule.TheVariants.{NoEntry, WrongKind, BadLayout, Twice, BadIndex, BadGeometry, Unjoined, Unpaired, Unreached}
use Rattle.solid_data.specs.declared.verdict.Rule.TheVariants.{Unlinked, Shared}
use Rattle.solid_data.proofs.ObligationLemmas.{AllHold-append, AllHold-append_right, FirstFalse-append_rest}
use Rattle.shell_rules.specs.ShellObligations.{solid_obligations}
use Rattle.list_compact.specs.Dropped.{dropped}
use Rattle.list_compact.proofs.StillHold.{still_hold}
use Rattle.extraction_laws.specs.Alike.{KeepsVerdictAs}
use Rattle.extraction_laws.specs.Relabelled.{AreNamed, AreNamedAlike}
use Rattle.extraction_laws.specs.Ranked.{ranked_names, ranked_place, ranked_failing, VerdictIsRanked}
use Rattle.extraction_laws.proofs.RelabelledSolids.{solids_alike}
use Rattle.extraction_laws.proofs.RenamedPlaces.{failing_is, keeps_as}
use Rattle.extraction_laws.proofs.RankedSolid.{solid_ranked}

-- what is named alike is named by the rank
named_is : (g : Contents) (rule : Rule) (e i f j : ℕ) → AreNamed (ranked_names g) rule e i f j → (f ≡ e) × (j ≡ ranked_place g rule e i)
named_is g Unpaired e i f j h = (ap (λ (l : _). l.0) h.same, h.index)
named_is g Unlinked e i f j h = (ap (λ (l : _). l.0) h.same, h.index)
named_is g Shared e i f j h = (ap (λ (l : _). l.0) h.same, h.index)
named_is g NoEntry e i f j h = (h.0, sym h.1)
named_is g WrongKind e i f j h = (h.0, sym h.1)
named_is g BadLayout e i f j h = (h.0, sym h.1)
named_is g Twice e i f j h = (h.0, sym h.1)
named_is g BadIndex e i f j h = (h.0, sym h.1)
named_is g BadGeometry e i f j h = (h.0, sym h.1)
named_is g Unjoined e i f j h = (h.0, sym h.1)
named_is g Unreached e i f j h = (h.0, sym h.1)

is_ranked : (g : Contents) (x y : Failing) → AreNamedAlike (ranked_names g) x y → y ≡ ranked_failing g x
is_ranked g x y k = let n = named_is g x.rule x.entity.0 x.place y.entity.0 y.place k.named in failing_is y (ranked_failing g x) (sym k.rule) n.0 n.1

-- the first false one behind those that hold
first_behind : (ps qs : List Obligation) (x : Failing) → AllHold ps → FirstFalse (ps ++ qs) x → FirstFalse qs x
first_behind [] qs x all h = h
first_behind (p ∷ ps) qs x all (inl bad) = absurd (bad.0 all.0)
first_behind (p ∷ ps) qs x all (inr rest) = first_behind ps qs x all.1 rest.1

pub verdict_ranked : VerdictIsRanked
verdict_ranked g n all = record {
  all = (
    λ h. AllHold-append (places (dropped g) n) (solid_obligations (solid_of (dropped g) n)) still
        (one.all.0 (AllHold-append_right (places g n) (solid_obligations (solid_of g n)) h)),
    λ h. AllHold-append (places g n) (solid_obligations (solid_of g n)) all
        (one.all.1 (AllHold-append_right (places (dropped g) n) (solid_obligations (solid_of (dropped g) n)) h)),
  );
  fails = λ x bad.
      FirstFalse-append_rest (places (dropped g) n) (solid_obligations (solid_of (dropped g) n)) (ranked_failing g x) still
      (one.fails x (first_behind (places g n) (solid_obligations (solid_of g n)) x all bad));
  only = λ y bad.
      let k = one.only y (first_behind (places (dropped g) n) (solid_obligations (solid_of (dropped g) n)) y still bad) in
      (k.0, k.1, FirstFalse-append_rest (places g n) (solid_obligations (solid_of g n)) k.0 all k.2);
}
  where
    still : AllHold (places (dropped g) n)
    still = still_hold g n all

    one : KeepsVerdictAs (ranked_failing g) (solid_obligations (solid_of g n)) (solid_obligations (solid_of (dropped g) n))
    one = keeps_as (AreNamedAlike (ranked_names g)) (ranked_failing g) (is_ranked g) (solid_obligations (solid_of g n))
        (solid_obligations (solid_of (dropped g) n)) (solids_alike (ranked_names g) (solid_of g n) (solid_of (dropped g) n) (solid_ranked g n all))
