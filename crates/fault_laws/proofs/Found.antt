-- Of each shell there is something to find: its parts and its fans can be told.
use Rattle.std.specs.Prelude.{◌≡◌, ◌<◌, ℕ, zero, suc, List, [], ◌∷◌, length, map, Option, Some, None, slice_get}
use Rattle.std.specs.List.{AllByRecursion}
use Rattle.std.proofs.Common.{refl, sym, subst, arith, inl, inr}
use Rattle.std.proofs.lemmas.Option.{slice_get_within}
use Rattle.solid_data.specs.Chain.{Steps, LeadsTo}
use Rattle.solid_data.specs.Numbering.{IsNumberedSolid}
use Rattle.solid_data.specs.SolidData.{SolidData}
use Rattle.solid_data.specs.declared.solid.Shell.{Shell}
use Rattle.solid_data.proofs.ChainsDecided.{leads_decided}
use Rattle.solid_data.proofs.Decisions.{Decided, decided_alike, decided_below, decided_bounded, decided_found, decided_same, decided_three}
use Rattle.solid_data.proofs.Members.{All-at, get_some, has_get}
use Rattle.solid_data.proofs.ObligationLemmas.{AllHold-map}
use Rattle.solid_data.proofs.Trail.{leads_here, leads_trans}
use Rattle.edge_uses.specs.Mates.{ArePaired}
use Rattle.edge_uses.specs.RowRelations.{IsPaired, Turns}
use Rattle.edge_uses.specs.ShellRows.{AreRows, ShellRows, shell_rows}
use Rattle.edge_uses.specs.declared.row.Row.{Row}
use Rattle.edge_uses.proofs.Made.{rows_whole}
use Rattle.edge_uses.proofs.Turns.{mates_involute, turns_permute}
use Rattle.shell_rules.specs.ShellObligations.{pair_obligations}
use Rattle.shell_rules.proofs.Decided.{edge_id_decided}
use Rattle.solid_faults.specs.declared.edge.Unpaired.{Unpaired}
use Rattle.solid_faults.specs.declared.gap.Gap.{Gap}
use Rattle.solid_faults.specs.Edges.{shared_of, unpaired_failing, unpaired_of}
use Rattle.solid_faults.specs.Failing.{AreFailing}
use Rattle.solid_faults.specs.Fans.{AreFans, unlinked_of}
use Rattle.solid_faults.specs.Faults.{AreFaults, AreLinkings, Faults, Linking}
use Rattle.solid_faults.specs.Gaps.{gaps_of}
use Rattle.solid_faults.specs.Parts.{AreParts, ShareEdge}
use Rattle.solid_faults.proofs.Assembled.{meet_without_gap}
use Rattle.solid_faults.proofs.FailingLemmas.{none_fails}
use Rattle.solid_faults.proofs.Named.{unpaired_named}
use Rattle.solid_faults.proofs.TurnBack.{turn_back}
use Rattle.shell_facts.specs.FanFacts.{turn_of}
use Rattle.shell_facts.proofs.TurnSteps.{turn_inside, turn_is}
use Rattle.fault_laws.proofs.Leasts.{leasts_of}

-- ---- parts

abbrev SharedBy : ℕ → ℕ → Row → Row → Type 0
SharedBy a b row other = (row.edge ≡ other.edge) × (row.at.face.0 ≡ a) × (other.at.face.0 ≡ b)

abbrev SharedAt : ShellRows → ℕ → ℕ → ℕ → ℕ → Type 0
SharedAt d a b r q = (row : Row) × (slice_get d.rows r ≡ Some row) × ((other : Row) × (slice_get d.rows q ≡ Some other) × SharedBy a b row other)

at_decided : (d : ShellRows) (a b r q : ℕ) → Decided (SharedAt d a b r q)
at_decided d a b r q =
    decided_found (slice_get d.rows r) (λ row. (other : Row) × (slice_get d.rows q ≡ Some other) × SharedBy a b row other)
    (λ row. decided_found (slice_get d.rows q) (SharedBy a b row)
    (λ other. decided_three (edge_id_decided row.edge other.edge) (decided_same row.at.face.0 a) (decided_same other.at.face.0 b)))

abbrev SharedFrom : ShellRows → ℕ → ℕ → ℕ → Type 0
SharedFrom d a b r = (q : ℕ) × (q < length d.rows) × SharedAt d a b r q

share_decided : (d : ShellRows) (a b : ℕ) → Decided (ShareEdge d a b)
share_decided d a b = decided_alike (λ h. to h) (λ h. from h)
    (decided_bounded (SharedFrom d a b) (λ r. decided_bounded (SharedAt d a b r) (at_decided d a b r) (length d.rows)) (length d.rows))
  where
    to : (r : ℕ) × (r < length d.rows) × SharedFrom d a b r → ShareEdge d a b
    to (r, lt, (q, below, (row, at_r, (other, at_q, (e, on_a, on_b))))) =
        record { r = r; q = q; row = row; other = other; at_r = at_r; at_q = at_q; one_edge = e; on_a = on_a; on_b = on_b }

    from : ShareEdge d a b → (r : ℕ) × (r < length d.rows) × SharedFrom d a b r
    from h = (
      h.r,
      slice_get_within d.rows h.r h.row h.at_r,
      (
        h.q,
        slice_get_within d.rows h.q h.other h.at_q,
        (h.row, h.at_r, (h.other, h.at_q, (h.one_edge, h.on_a, h.on_b))),
      ),
    )

share_below : (d : ShellRows) → AreRows d → (a b : ℕ) → ShareEdge d a b → b < d.face_count
share_below d rows a b h =
    let on = All-at (λ (r : Row). r.at.face.0 < d.face_count) d.rows rows.on_faces h.other (has_get d.rows h.q h.other h.at_q) in omega (arith, on, h.on_b)

some_parts : (d : ShellRows) → AreRows d → (firsts : List ℕ) × AreParts d firsts
some_parts d rows =
    let found = leasts_of (ShareEdge d) (leads_decided (ShareEdge d) (share_decided d) d.face_count (share_below d rows)) d.face_count in (
      found.0,
      record {
        each = found.1;
        connected = λ f p at. let h = found.2 f p at in h.0;
        least = λ f p g at chain. let h = found.2 f p at in h.1 g chain;
      },
    )

-- ---- fans

turns_on : (d : ShellRows) (a : ℕ) → ArePaired d → a < length d.rows → Turns d a (turn_of d a)
turns_on d a whole lt =
    let row = get_some d.rows a lt in
    let next : (t : ℕ) × Turns d a t = (turns_permute d whole).each row.0.from.0 a (row.0, row.1, refl) in
    subst (Turns d a) (turn_is d a next.0 (mates_involute d whole) next.1) next.1

turns_decided : (d : ShellRows) → ArePaired d → (a b : ℕ) → Decided (Turns d a b)
turns_decided d whole a b = by_row (decided_below a (length d.rows))
  where
    by_row : Decided (a < length d.rows) → Decided (Turns d a b)
    by_row (inl lt) = decided_alike (λ e. subst (Turns d a) e (turns_on d a whole lt)) (λ t. sym (turn_is d a b (mates_involute d whole) t))
        (decided_same (turn_of d a) b)
    by_row (inr never) = inr (λ t. never (slice_get_within d.rows a t.1.row t.1.at_r))

steps_back : (d : ShellRows) (n a b : ℕ) → ArePaired d → Steps (Turns d) n a b → LeadsTo (Turns d) b a
steps_back d zero a b whole e = subst (λ x. LeadsTo (Turns d) x a) e (leads_here (Turns d) a)
steps_back d (suc n) a b whole (c, turn, rest) =
    let later = steps_back d n c b whole rest in
    let first : LeadsTo (Turns d) c a = turn_back d turn.1.row.from.0 a c whole (turn.1.row, turn.1.at_r, refl) turn in
    leads_trans (Turns d) b c a later.0 later.1 first

some_fans : (d : ShellRows) → ArePaired d → (leasts : List ℕ) × AreFans d leasts
some_fans d whole =
    let found = leasts_of (Turns d)
    (leads_decided (Turns d) (turns_decided d whole) (length d.rows) (λ a b t. turn_inside d a b whole.rows t)) (length d.rows) in (
      found.0,
      record {
        each = found.1;
        down = λ r f at. let h = found.2 r f at in h.0;
        back = λ r f at. let h = found.2 r f at in steps_back d h.0.0 r f whole h.0.1;
        least = λ r f q at chain. let h = found.2 r f at in h.1 q chain;
      },
    )

-- ---- all that fails

all_paired : (s : SolidData) (d : ShellRows) → unpaired_of d ≡ [] → AllByRecursion (IsPaired d) d.edges
all_paired s d none =
    AllHold-map _ d.edges (none_fails (pair_obligations s d)
    (subst (λ us. AreFailing (pair_obligations s d) (map (unpaired_failing s) us)) none (unpaired_named s d)))

some_linkings : (s : SolidData) (k : ℕ) (h : Shell) (gaps : List Gap) (us : List Unpaired) → AreRows (shell_rows s h) → slice_get s.shells k ≡ Some h
    → gaps ≡ gaps_of s h → us ≡ unpaired_of (shell_rows s h) → (o : Option Linking) × AreLinkings (shell_rows s h) gaps us o
some_linkings s k h (g ∷ gaps) us rows at is are = (None, λ none. absurd (let e : g ∷ gaps ≡ [] = none.0 in cc))
some_linkings s k h [] (u ∷ us) rows at is are = (None, λ none. absurd (let e : u ∷ us ≡ [] = none.1 in cc))
some_linkings s k h [] [] rows at is are =
    let d : ShellRows = shell_rows s h in
    let whole : ArePaired d = record {
      rows = rows;
      meet = meet_without_gap s k (Some h) d [] at refl is refl;
      paired = all_paired s d (sym are);
    } in
    let fans = some_fans d whole in
    (Some (record { leasts = fans.0; unlinked = unlinked_of d fans.0 }), (refl, refl, fans.1, refl))

pub some_faults : (s : SolidData) (k : ℕ) (h : Shell) → IsNumberedSolid s → slice_get s.shells k ≡ Some h → (x : Faults) × AreFaults s k h x
some_faults s k h numbered at =
    let d : ShellRows = shell_rows s h in
    let rows : AreRows d = rows_whole s k h numbered at in
    let parts = some_parts d rows in
    let linking = some_linkings s k h (gaps_of s h) (unpaired_of d) rows at refl refl in (
      record { gaps = gaps_of s h; unpaired = unpaired_of d; firsts = parts.0; linking = linking.0; shared = shared_of s k d },
      record { gaps = refl; unpaired = refl; firsts = parts.1; linking = linking.1; shared = refl },
    )
