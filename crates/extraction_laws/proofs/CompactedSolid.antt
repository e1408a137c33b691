-- The compacted file tells the solid of the file under other names, and its verdict.
use Rattle.std.specs.Prelude.{◌≡◌, ◌↔◌, ℕ, true, Contains}
use Rattle.std.proofs.Common.{refl, sym, ◌∙◌, ap, subst}
use Rattle.iges_params.specs.Contents.{Contents}
use Rattle.brep_walk.specs.Places.{places}
use Rattle.brep_walk.specs.SolidOf.{solid_of}
use Rattle.solid_data.specs.Obligations.{AllHold}
use Rattle.solid_data.specs.declared.solid.EdgeKey.{EdgeKey}
use Rattle.solid_data.specs.declared.solid.VertexKey.{VertexKey}
use Rattle.solid_data.specs.declared.verdict.Verdict.{Verdict}
use Rattle.solid_data.specs.declared.verdict.Verdict.TheVariants.{Closed, Fails}
use Rattle.solid_verdict.specs.Closed.{IsClosed, IsVerdictOn, obligations}
use Rattle.solid_verdict.proofs.Closed.{closed_is_all_hold_of_file}
use Rattle.solid_extract.specs.Extracted.{new_number}
use Rattle.extraction_laws.specs.Alike.{KeepsVerdictAs}
use Rattle.extraction_laws.specs.Kept.{IsNewNumber, kept_names}
use Rattle.extraction_laws.specs.KeptVerdict.{renamed_verdict}
use Rattle.extraction_laws.proofs.ExtractedSolid.{places_kept, solid_told}
use Rattle.extraction_laws.proofs.WholeVerdict.{verdict_kept, no_other, closed_kept}
use Rattle.list_compact.specs.Used.{rank, is_used_edge, is_used_vertex}
use Rattle.list_compact.specs.Dropped.{dropped}
use Rattle.list_compact.specs.Compacted.{IsCompacted}
use Rattle.list_compact.proofs.StillHold.{still_hold}
use Rattle.extraction_laws.specs.Compacted.{number_between, number_after, IsNumbered, compacted_names, ranked_verdict, compacted_verdict, SolidIsCompacted}
use Rattle.extraction_laws.specs.Compacted.{VerdictIsCompacted, NoOtherVerdict, ClosedIsCompacted}
use Rattle.extraction_laws.specs.Ranked as ranks
use Rattle.extraction_laws.specs.Relabelled.{Names, IsRelabelled}
use Rattle.extraction_laws.proofs.Composed.{Compose, relabelled_then}
use Rattle.extraction_laws.proofs.RankedSolid.{solid_ranked}
use Rattle.extraction_laws.proofs.RankedVerdict.{verdict_ranked}

module _ (f : Contents) (n : ℕ) (new : Contents) (c : IsCompacted f n new) where
  abbrev g : Contents
  g = c.«between»

  abbrev d : Contents
  d = dropped c.«between»

  abbrev n1 : ℕ
  n1 = number_between f n new c n

  places_between : AllHold (places g n1)
  places_between = let k = places_kept f g n c.extracted in k.all.0 c.places

  pub places_dropped : AllHold (places d n1)
  places_dropped = still_hold g n1 places_between

  -- ---- the solid

  abbrev First : Names
  First = kept_names c.extracted.kept

  abbrev Second : Names
  Second = kept_names c.again.kept

  -- ranks, and then the second extraction
  record IsSecondEdge (a b : EdgeKey) : Type 0 where
    kept : Contains c.again.kept a.«list».0
    is : b.«list».0 ≡ new_number c.again.kept a.«list».0
    used : is_used_edge g a.«list».0 a.index ≡ true
    index : b.index ≡ rank (is_used_edge g a.«list».0) a.index

  record IsSecondVertex (a b : VertexKey) : Type 0 where
    kept : Contains c.again.kept a.«list».0
    is : b.«list».0 ≡ new_number c.again.kept a.«list».0
    used : is_used_vertex g a.«list».0 a.index ≡ true
    index : b.index ≡ rank (is_used_vertex g a.«list».0) a.index

  abbrev Rest : Names
  Rest = record { entity = IsNewNumber c.again.kept; edge = IsSecondEdge; vertex = IsSecondVertex }

  rest : Compose (ranks.ranked_names g) Second Rest
  rest = record {
    entity = λ x y z e k. subst (λ m. IsNewNumber c.again.kept m z) e k;
    edge = λ x y z e k. record {
      kept = subst (λ (l : _). Contains c.again.kept l.0) e.same k.0.0;
      is = subst (λ (l : _). z.«list».0 ≡ new_number c.again.kept l.0) e.same k.0.1;
      used = e.used;
      index = sym k.1 ∙ e.index;
    };
    vertex = λ x y z e k. record {
      kept = subst (λ (l : _). Contains c.again.kept l.0) e.same k.0.0;
      is = subst (λ (l : _). z.«list».0 ≡ new_number c.again.kept l.0) e.same k.0.1;
      used = e.used;
      index = sym k.1 ∙ e.index;
    };
  }

  whole : Compose First Rest (compacted_names f n new c)
  whole = record {
    entity = λ x y z e k. numbered x y z e k;
    edge = λ x y z e k. record {
      «list» = numbered x.«list».0 y.«list».0 z.«list».0 e.0 (k.kept, k.is);
      used = subst (λ l. is_used_edge g l x.index ≡ true) e.0.1 (subst (λ i. is_used_edge g y.«list».0 i ≡ true) (sym e.1) k.used);
      index = k.index ∙ (ap (rank (is_used_edge g y.«list».0)) (sym e.1) ∙ ap (λ l. rank (is_used_edge g l) x.index) e.0.1);
    };
    vertex = λ x y z e k. record {
      «list» = numbered x.«list».0 y.«list».0 z.«list».0 e.0 (k.kept, k.is);
      used = subst (λ l. is_used_vertex g l x.index ≡ true) e.0.1 (subst (λ i. is_used_vertex g y.«list».0 i ≡ true) (sym e.1) k.used);
      index = k.index ∙ (ap (rank (is_used_vertex g y.«list».0)) (sym e.1) ∙ ap (λ l. rank (is_used_vertex g l) x.index) e.0.1);
    };
  }
    where
      numbered : (x y z : ℕ) → IsNewNumber c.extracted.kept x y → IsNewNumber c.again.kept y z → IsNumbered f n new c x z
      numbered x y z e k = record { kept = e.0; again = subst (Contains c.again.kept) e.1 k.0; is = k.1 ∙ ap (new_number c.again.kept) e.1 }

  solid_is : IsRelabelled (compacted_names f n new c) (solid_of f n) (solid_of new (number_after f n new c n))
  solid_is =
      relabelled_then First Rest (compacted_names f n new c) whole (solid_of f n) (solid_of g n1) (solid_of new (number_after f n new c n))
      (solid_told f g n c.extracted c.places)
      (relabelled_then (ranks.ranked_names g) Second Rest rest (solid_of g n1) (solid_of d n1) (solid_of new (number_after f n new c n))
      (solid_ranked g n1 places_between)
      (solid_told d new n1 c.again places_dropped))

  -- ---- the verdict

  ranks_kept : KeepsVerdictAs (ranks.ranked_failing g) (obligations g n1) (obligations d n1)
  unfolding obligations
  ranks_kept = verdict_ranked g n1 places_between

  ranked_there : (v : Verdict) → IsVerdictOn g n1 v → IsVerdictOn d n1 (ranked_verdict g v)
  ranked_there Closed h = let k = ranks_kept in k.all.0 h
  ranked_there (Fails x) h = let k = ranks_kept in k.fails x h

  ranked_back : (w : Verdict) → IsVerdictOn d n1 w → (v : Verdict) × (w ≡ ranked_verdict g v) × IsVerdictOn g n1 v
  ranked_back Closed h = let k = ranks_kept in (Closed, refl, k.all.1 h)
  ranked_back (Fails y) h = let k = ranks_kept in let e = k.only y h in (Fails e.0, ap (λ z. Fails z) e.1, e.2)

  verdict_there : (v : Verdict) → IsVerdictOn f n v → IsVerdictOn new (number_after f n new c n) (compacted_verdict f n new c v)
  verdict_there v h =
      let first : IsVerdictOn g n1 (renamed_verdict c.extracted.kept v) = (verdict_kept f g n c.extracted v).0 h in
      (verdict_kept d new n1 c.again (ranked_verdict g (renamed_verdict c.extracted.kept v))).0 (ranked_there (renamed_verdict c.extracted.kept v) first)

  verdict_back : (w : Verdict) → IsVerdictOn new (number_after f n new c n) w → (v : Verdict) × (w ≡ compacted_verdict f n new c v) × IsVerdictOn f n v
  verdict_back w h =
      let second = no_other d new n1 c.again w h in
      let middle = ranked_back second.0 second.2 in
      let first = no_other f g n c.extracted middle.0 middle.2 in
      (first.0, second.1 ∙ ap (renamed_verdict c.again.kept) (middle.1 ∙ ap (ranked_verdict g) first.1), first.2)

  closed_is : IsClosed f n ↔ IsClosed new (number_after f n new c n)
  closed_is =
      let first = closed_kept f g n c.extracted in
      let second = closed_kept d new n1 c.again in
      let before = closed_is_all_hold_of_file g n1 in
      let after = closed_is_all_hold_of_file d n1 in
      let k = ranks_kept in
      (λ h. second.0 (after.1 (k.all.0 (before.0 (first.0 h)))), λ h. first.1 (before.1 (k.all.1 (after.0 (second.1 h)))))

pub solid_compacted : SolidIsCompacted
solid_compacted f n new c = solid_is f n new c

pub verdict_compacted : VerdictIsCompacted
verdict_compacted f n new c v h = verdict_there f n new c v h

pub no_other_verdict : NoOtherVerdict
no_other_verdict f n new c w h = verdict_back f n new c w h

pub closed_compacted : ClosedIsCompacted
closed_compacted f n new c = closed_is f n new c
