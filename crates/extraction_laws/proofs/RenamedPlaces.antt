-- What a rule names, under other names.
use Rattle.std.specs.Prelude.{◌≡◌, ℕ, List}
use Rattle.std.proofs.Common.{sym, ◌∙◌, ap, subst}
use Rattle.solid_data.specs.Obligations.{Obligation, FirstFalse}
use Rattle.solid_data.specs.declared.solid.EdgeKey.{EdgeKey}
use Rattle.solid_data.specs.declared.solid.VertexKey.{VertexKey}
use Rattle.solid_data.specs.declared.verdict.Failing.{Failing}
use Rattle.solid_data.specs.declared.verdict.Rule.{Rule}
use Rattle.solid_data.specs.declared.verdict.Rule.TheVariants.{NoEntry, WrongKind, BadLayout, Twice, BadIndex, BadGeometry, Unjoined, Unpaired, Unreached}
use Rattle.solid_data.specs.declared.verdict.Rule.TheVariants.{Unlinked, Shared}
use Rattle.shell_rules.specs.ShellObligations.{solid_obligations}
use Rattle.extraction_laws.specs.Alike.{FailAlike, KeepsVerdictAs}
use Rattle.extraction_laws.specs.Relabelled.{renumbered, AreNamed, AreNamedAlike}
use Rattle.extraction_laws.specs.Renamed.{Renaming, new_names, renamed_place, under_new_name, RenamedFailAlike, RenamedKeepsVerdict, IsOneToOne}
use Rattle.extraction_laws.specs.Renamed.{RenamedTellsPlace}
use Rattle.extraction_laws.proofs.AlikeLists.{HaveOneVerdict, one_verdict}
use Rattle.extraction_laws.proofs.RelabelledSolids.{solids_alike, solids_all_alike}

pub failing_is : (x y : Failing) → x.rule ≡ y.rule → x.entity.0 ≡ y.entity.0 → x.place ≡ y.place → x ≡ y
failing_is x y r e p =
    ap (λ w. let z : Failing = record { rule = w; entity = x.entity; place = x.place } in z) r
    ∙ (ap (λ w. let z : Failing = record { rule = y.rule; entity = record { 0 = w }; place = x.place } in z) e
    ∙ ap (λ w. let z : Failing = record { rule = y.rule; entity = y.entity; place = w } in z) p)

-- Where each of one list is named like one of the other exactly as `change` renames it, the verdict is renamed by it.
pub keeps_as : (Q : Failing → Failing → Type 0) (change : Failing → Failing) → ((x y : Failing) → Q x y → y ≡ change x) → (ps qs : List Obligation)
    → FailAlike Q ps qs → KeepsVerdictAs change ps qs
keeps_as Q change is ps qs h = record {
  all = one.all;
  fails = λ x bad. let k = one.fails x bad in subst (FirstFalse qs) (is x k.0 k.1) k.2;
  only = λ y bad. let k = one.only y bad in (k.0, is k.0 y k.1, k.2);
}
  where
    one : HaveOneVerdict Q ps qs
    one = one_verdict Q ps qs h

-- ---- where indices stay

module _ (R : ℕ → ℕ → Type 0) where
  pub renumbered_named : (rule : Rule) (e i f j : ℕ) → R e f → i ≡ j → AreNamed (renumbered R) rule e i f j
  renumbered_named Unpaired e i f j r s = (r, s)
  renumbered_named Unlinked e i f j r s = (r, s)
  renumbered_named Shared e i f j r s = (r, s)
  renumbered_named NoEntry e i f j r s = (r, s)
  renumbered_named WrongKind e i f j r s = (r, s)
  renumbered_named BadLayout e i f j r s = (r, s)
  renumbered_named Twice e i f j r s = (r, s)
  renumbered_named BadIndex e i f j r s = (r, s)
  renumbered_named BadGeometry e i f j r s = (r, s)
  renumbered_named Unjoined e i f j r s = (r, s)
  renumbered_named Unreached e i f j r s = (r, s)

  pub renumbered_parts : (rule : Rule) (e i f j : ℕ) → AreNamed (renumbered R) rule e i f j → R e f × (i ≡ j)
  renumbered_parts Unpaired e i f j h = h
  renumbered_parts Unlinked e i f j h = h
  renumbered_parts Shared e i f j h = h
  renumbered_parts NoEntry e i f j h = h
  renumbered_parts WrongKind e i f j h = h
  renumbered_parts BadLayout e i f j h = h
  renumbered_parts Twice e i f j h = h
  renumbered_parts BadIndex e i f j h = h
  renumbered_parts BadGeometry e i f j h = h
  renumbered_parts Unjoined e i f j h = h
  renumbered_parts Unreached e i f j h = h

-- ---- under new names

module _ (r : Renaming) where
  place_is : (rule : Rule) (e i f j : ℕ) → AreNamed (new_names r) rule e i f j → (f ≡ (renamed_place r rule e i).0) × (j ≡ (renamed_place r rule e i).1)
  place_is Unpaired e i f j h = (ap (λ (k : EdgeKey). k.«list».0) h, ap (λ (k : EdgeKey). k.index) h)
  place_is Unlinked e i f j h = (ap (λ (k : VertexKey). k.«list».0) h, ap (λ (k : VertexKey). k.index) h)
  place_is Shared e i f j h = (ap (λ (k : VertexKey). k.«list».0) h, ap (λ (k : VertexKey). k.index) h)
  place_is NoEntry e i f j h = (h.0, sym h.1)
  place_is WrongKind e i f j h = (h.0, sym h.1)
  place_is BadLayout e i f j h = (h.0, sym h.1)
  place_is Twice e i f j h = (h.0, sym h.1)
  place_is BadIndex e i f j h = (h.0, sym h.1)
  place_is BadGeometry e i f j h = (h.0, sym h.1)
  place_is Unjoined e i f j h = (h.0, sym h.1)
  place_is Unreached e i f j h = (h.0, sym h.1)

  is_renamed : (x y : Failing) → AreNamedAlike (new_names r) x y → y ≡ under_new_name r x
  is_renamed x y k = let n = place_is x.rule x.entity.0 x.place y.entity.0 y.place k.named in failing_is y (under_new_name r x) (sym k.rule) n.0 n.1

  edge_key_is : (a b : EdgeKey) → a.«list».0 ≡ b.«list».0 → a.index ≡ b.index → a ≡ b
  edge_key_is a b l i = ap (λ n. let k : EdgeKey = record { «list» = record { 0 = n }; index = a.index } in k) l
      ∙ ap (λ n. let k : EdgeKey = record { «list» = b.«list»; index = n } in k) i

  vertex_key_is : (a b : VertexKey) → a.«list».0 ≡ b.«list».0 → a.index ≡ b.index → a ≡ b
  vertex_key_is a b l i = ap (λ n. let k : VertexKey = record { «list» = record { 0 = n }; index = a.index } in k) l
      ∙ ap (λ n. let k : VertexKey = record { «list» = b.«list»; index = n } in k) i

  module _ (one : IsOneToOne r) where
    edges_apart : (a b : EdgeKey) → (let x = r.edge a in let y = r.edge b in (x.«list».0 ≡ y.«list».0) × (x.index ≡ y.index))
        → (a.«list».0 ≡ b.«list».0) × (a.index ≡ b.index)
    edges_apart a b h = let e = one.edge a b (edge_key_is (r.edge a) (r.edge b) h.0 h.1)
        in (ap (λ (k : EdgeKey). k.«list».0) e, ap (λ (k : EdgeKey). k.index) e)

    vertices_apart : (a b : VertexKey) → (let x = r.vertex a in let y = r.vertex b in (x.«list».0 ≡ y.«list».0) × (x.index ≡ y.index))
        → (a.«list».0 ≡ b.«list».0) × (a.index ≡ b.index)
    vertices_apart a b h = let e = one.vertex a b (vertex_key_is (r.vertex a) (r.vertex b) h.0 h.1)
        in (ap (λ (k : VertexKey). k.«list».0) e, ap (λ (k : VertexKey). k.index) e)

    -- two places of one rule with one new name
    places_apart : (rule : Rule) (e i f j : ℕ) → ((renamed_place r rule e i).0 ≡ (renamed_place r rule f j).0)
        × ((renamed_place r rule e i).1 ≡ (renamed_place r rule f j).1) → (e ≡ f) × (i ≡ j)
    places_apart Unpaired e i f j h = edges_apart (record { «list» = record { 0 = e }; index = i }) (record { «list» = record { 0 = f }; index = j }) h
    places_apart Unlinked e i f j h = vertices_apart (record { «list» = record { 0 = e }; index = i }) (record { «list» = record { 0 = f }; index = j }) h
    places_apart Shared e i f j h = vertices_apart (record { «list» = record { 0 = e }; index = i }) (record { «list» = record { 0 = f }; index = j }) h
    places_apart NoEntry e i f j h = (one.entity e f h.0, h.1)
    places_apart WrongKind e i f j h = (one.entity e f h.0, h.1)
    places_apart BadLayout e i f j h = (one.entity e f h.0, h.1)
    places_apart Twice e i f j h = (one.entity e f h.0, h.1)
    places_apart BadIndex e i f j h = (one.entity e f h.0, h.1)
    places_apart BadGeometry e i f j h = (one.entity e f h.0, h.1)
    places_apart Unjoined e i f j h = (one.entity e f h.0, h.1)
    places_apart Unreached e i f j h = (one.entity e f h.0, h.1)

    names_apart : (x y : Failing) → under_new_name r x ≡ under_new_name r y → y ≡ x
    names_apart x y e =
        let rule : x.rule ≡ y.rule = ap (λ (z : Failing). z.rule) e in
        let there : ((renamed_place r x.rule x.entity.0 x.place).0 ≡ (renamed_place r y.rule y.entity.0 y.place).0)
        × ((renamed_place r x.rule x.entity.0 x.place).1 ≡ (renamed_place r y.rule y.entity.0 y.place).1)
        = (ap (λ (z : Failing). z.entity.0) e, ap (λ (z : Failing). z.place) e) in
        let same = places_apart x.rule x.entity.0 x.place y.entity.0 y.place
        (subst (λ w. ((renamed_place r x.rule x.entity.0 x.place).0 ≡ (renamed_place r w y.entity.0 y.place).0)
        × ((renamed_place r x.rule x.entity.0 x.place).1 ≡ (renamed_place r w y.entity.0 y.place).1)) (sym rule) there) in
        failing_is y x (sym rule) (sym same.0) (sym same.1)

-- ---- the laws

pub renamed_alike : RenamedFailAlike
renamed_alike r s t h = solids_all_alike (new_names r) s t h

pub renamed_verdict : RenamedKeepsVerdict
renamed_verdict r s t h = keeps_as (AreNamedAlike (new_names r)) (under_new_name r) (is_renamed r) (solid_obligations s) (solid_obligations t)
    (solids_alike (new_names r) s t h)

pub renamed_tells_place : RenamedTellsPlace
renamed_tells_place r s t one h x bad =
    let v = renamed_verdict r s t h in
    let k = v.only (under_new_name r x) bad in
    subst (FirstFalse (solid_obligations s)) (names_apart r one x k.0 k.1) k.2
