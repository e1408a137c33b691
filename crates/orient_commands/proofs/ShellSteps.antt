-- What is first false of the shells, and lines of a shell.
use Rattle.std.specs.Prelude.{◌≡◌, ◌↔◌, ℕ, suc, zero, ◌+◌, ◌<◌, ◌^◌, Bool, List, [], ◌∷◌, length, map, drop, Option, None, Some, slice_get, Result, Ok, Err}
use Rattle.std.specs.Prelude.{IfOk, IsTrue}
use Rattle.std.specs.List.{AllByRecursion, AllZip}
use Rattle.std.proofs.Common.{refl, sym, ◌∙◌, ap, subst, arith, ⊎_elim, get_or}
use Rattle.std.proofs.lemmas.Bool.{cases_order}
use Rattle.std.proofs.lemmas.List.{length-map}
use Rattle.std.proofs.lemmas.Option.{slice_get_within}
use Rattle.iges_base.specs.declared.no_memory.NoMemory.{NoMemory as OutOfMemory}
use Rattle.iges_params.specs.Contents.{Contents}
use Rattle.solid_data.specs.Numbering.{IsNumberedSolid}
use Rattle.solid_data.specs.Obligations.{AllHold}
use Rattle.solid_data.specs.Ring.{next_of_each}
use Rattle.solid_data.specs.SolidData.{SolidData}
use Rattle.solid_data.specs.declared.solid.FaceUse.{FaceUse}
use Rattle.solid_data.specs.declared.solid.RowId.{RowId}
use Rattle.solid_data.specs.declared.solid.Shell.{Shell}
use Rattle.solid_data.proofs.Members.{get_some}
use Rattle.edge_uses.specs.declared.row.Row.{Row}
use Rattle.edge_uses.specs.ShellRows.{shell_rows, rows_of}
use Rattle.edge_uses.proofs.Made.{rows_whole}
use Rattle.brep_walk.specs.Places.{places}
use Rattle.brep_walk.specs.SolidOf.{solid_of}
use Rattle.cert_state.proofs.UseSizes.{few_shells}
use Rattle.orient_certificate.specs.Checked.{ShellOf}
use Rattle.orient_certificate.specs.Flags.{FlagsFit, face_flags, rows_at}
use Rattle.cert_text.specs.Text.{IsShort}
use Rattle.orient_certificate.specs.OddRing.{OddRing, GoesOn, row_numbers}
use Rattle.orient_certificate.specs.Outcome.{IsFault}
use Rattle.orient_certificate.specs.declared.fault.OrientFailing.{OrientFailing}
use Rattle.orient_certificate.specs.declared.fault.OrientFault.{OrientFault}
use Rattle.orient_certificate.specs.declared.fault.OrientFault.TheVariants.{Fails, NoMemory}
use Rattle.orient_certificate.specs.declared.line.OrientLine.{OrientLine}
use Rattle.orient_certificate.specs.declared.line.OrientLine.TheVariants.{Flags, Ring}
use Rattle.orient_certificate.proofs.Answered.{some_faces}
use Rattle.command_replies.specs.declared.answer.Answer.{Answer}
use Rattle.orient_commands.specs.Due.{IsOriented, OfOrient, oriented}
use Rattle.orient_commands.specs.Shells.{IsReady, OfAllShells, FailsInShell}
use Rattle.orient_commands.specs.Text.{FitsAs, NameOddRing}

-- it holds of each shell below
abbrev pub Below : (SolidData → ℕ → Type 0) → SolidData → ℕ → Type 0
Below Holds s k = (j : ℕ) → j < k → Holds s j

pub below_next : (Holds : SolidData → ℕ → Type 0) (s : SolidData) (k next : ℕ) → next ≡ k + 1 → Below Holds s k → Holds s k → Below Holds s next
below_next Holds s k next e below here j lt =
    ⊎_elim (λ same. subst (Holds s) (sym same) here) (λ other. ⊎_elim (below j) (λ above. absurd (omega (arith, lt, above, e))) other) (cases_order j k)

pub shell_fault : (Holds : SolidData → ℕ → Type 0) (FailsOf : SolidData → ℕ → OrientFailing → Type 0) (s : SolidData) (k : ℕ) (e : OrientFault)
    → k < length s.shells → Below Holds s k → IsFault (FailsOf s k) e → IsFault (FailsInShell Holds FailsOf s) e
shell_fault Holds FailsOf s k (Fails x) lt below h = record { shell = k; within = lt; before = below; fails = h }
shell_fault Holds FailsOf s k NoMemory lt below h = h

-- Lines of shell k.

pub flags_as : (s : SolidData) (k shell : ℕ) (flags : List Bool) (line : OrientLine) (B : Type 0) → k < length s.shells → line ≡ Flags shell flags
    → (B → FlagsFit s k flags) × (FlagsFit s k flags → B) → shell ≡ k + 1 → (B → FitsAs s (k + 2) line) × (FitsAs s (k + 2) line → B)
flags_as s k shell flags line B lt e h named = (
  (λ b. subst (FitsAs s (k + 2)) (sym e) (k, record { within = lt; numbered = named; at = refl }, h.0 b)),
  (λ f. h.1 (back (subst (FitsAs s (k + 2)) e f))),
)
  where
    back : FitsAs s (k + 2) (Flags shell flags) → FlagsFit s k flags
    back (j, of, fit) = let at = of.at in subst (λ i. FlagsFit s i flags) (let same : j ≡ k = omega (arith, at) in same) fit

pub ring_as : (s : SolidData) (k shell : ℕ) (numbers : List ℕ) (line : OrientLine) (B : Type 0) → k < length s.shells → line ≡ Ring shell numbers
    → (B → NameOddRing s k numbers) × (NameOddRing s k numbers → B) → shell ≡ k + 1 → (B → FitsAs s (k + 2) line) × (FitsAs s (k + 2) line → B)
ring_as s k shell numbers line B lt e h named = (
  (λ b. subst (FitsAs s (k + 2)) (sym e) (k, record { within = lt; numbered = named; at = refl }, h.0 b)),
  (λ f. h.1 (back (subst (FitsAs s (k + 2)) e f))),
)
  where
    back : FitsAs s (k + 2) (Ring shell numbers) → NameOddRing s k numbers
    back (j, of, fit) = let at = of.at in subst (λ i. NameOddRing s i numbers) (let same : j ≡ k = omega (arith, at) in same) fit

pub shell_is : (s : SolidData) (k shell : ℕ) (flags : List Bool) → FitsAs s (k + 2) (Flags shell flags) → shell ≡ k + 1
shell_is s k shell flags (j, of, fit) = let at = of.at in let named = of.numbered in omega (arith, at, named)

pub ring_shell_is : (s : SolidData) (k shell : ℕ) (numbers : List ℕ) → FitsAs s (k + 2) (Ring shell numbers) → shell ≡ k + 1
ring_shell_is s k shell numbers (j, of, fit) = let at = of.at in let named = of.numbered in omega (arith, at, named)

-- Numbers from 1, and rows from 0.

pub named_once : (xs ys : List ℕ) → map suc xs ≡ map suc ys → xs ≡ ys
named_once [] [] e = refl
named_once [] (y ∷ ys) e = cc
named_once (x ∷ xs) [] e = cc
named_once (x ∷ xs) (y ∷ ys) e =
    let here : suc x ≡ suc y = ap (λ ns. get_or ns 0 0) e in
    let same : x ≡ y = omega (arith, here) in
    ap (λ z. z ∷ xs) same ∙ ap (λ zs. y ∷ zs) (named_once xs ys (ap (λ ns. drop 1 ns) e))

pub name_ring : (s : SolidData) (k : ℕ) (numbers rows : List ℕ) (B : Type 0) → numbers ≡ map suc rows → (B → OddRing s k rows) × (OddRing s k rows → B)
    → (B → NameOddRing s k numbers) × (NameOddRing s k numbers → B)
name_ring s k numbers rows B e h = ((λ b. (rows, e, h.0 b)), (λ (others, named, ring). h.1 (subst (OddRing s k) (named_once others rows (sym named ∙ e)) ring)))

-- a number that is 0 names no row
pub no_zero : (rows : List ℕ) (i : ℕ) → i < length (map suc rows) → get_or (map suc rows) i 0 ≡ 0 → ⊥
no_zero [] i lt e = omega (arith, lt)
no_zero (r ∷ rows) zero lt e = omega (arith, e)
no_zero (r ∷ rows) (suc i) lt e = no_zero rows i (omega (arith, lt)) e

pub zero_never : (numbers : List ℕ) (i : ℕ) → i < length numbers → get_or numbers i 0 ≡ 0 → (rows : List ℕ) → numbers ≡ map suc rows → ⊥
zero_never numbers i lt e rows named = no_zero rows i (subst (λ ns. i < length ns) named lt) (subst (λ ns. get_or ns i 0 ≡ 0) named e)

pub ring_result : (s : SolidData) (k shell : ℕ) (numbers : List ℕ) (line : OrientLine) (v : ShellOf) (r : Result Bool OutOfMemory) → k < length s.shells
    → line ≡ Ring shell numbers → shell ≡ k + 1 → v ≡ record { solid = s; shell = k } → IfOk r (λ fit. IsTrue fit ↔ NameOddRing v.solid v.shell numbers)
    → IfOk r (λ fit. IsTrue fit ↔ FitsAs s (k + 2) line)
ring_result s k shell numbers line v (Ok fit) lt e named same h =
    ring_as s k shell numbers line (IsTrue fit) lt e (subst (λ (w : ShellOf). IsTrue fit ↔ NameOddRing w.solid w.shell numbers) same h) named
ring_result s k shell numbers line v (Err x) lt e named same h = tt

-- Rows of a ring.

pub row_low : (rows : List RowId) (i : ℕ) → i < length rows → AllByRecursion (λ r. r < 2 ^ 29) (row_numbers rows)
    → (get_or rows i (record { 0 = 0 })).0 < 2 ^ 29
row_low [] i lt all = absurd (omega (arith, lt))
row_low (r ∷ rows) zero lt all = all.0
row_low (r ∷ rows) (suc i) lt all = row_low rows i (omega (arith, lt)) all.1

few_rows : (s : SolidData) (k r : ℕ) (row : Row) → IsNumberedSolid s → slice_get (rows_at s k).rows r ≡ Some row → r < 2 ^ 29
few_rows s k r row numbered at = by_shell (slice_get s.shells k) refl at
  where
    by_shell : (o : Option Shell) → slice_get s.shells k ≡ o → slice_get (rows_of s o).rows r ≡ Some row → r < 2 ^ 29
    by_shell None e is = absurd cc
    by_shell (Some h) e is = let few = (rows_whole s k h numbered e).few in omega (arith, few, slice_get_within (shell_rows s h).rows r row is)

goes_low : (s : SolidData) (k r next : ℕ) → IsNumberedSolid s → GoesOn (rows_at s k) r next → r < 2 ^ 29
goes_low s k r next numbered (m, face, partners, on, at) = few_rows s k r partners.row numbered partners.at_r

zip_low : (s : SolidData) (k : ℕ) (rows others : List ℕ) → IsNumberedSolid s → AllZip (GoesOn (rows_at s k)) rows others → AllByRecursion (λ r. r < 2 ^ 29) rows
zip_low s k [] others numbered all = tt
zip_low s k (r ∷ rows) [] numbered all = absurd all
zip_low s k (r ∷ rows) (x ∷ others) numbered all = (goes_low s k r x numbered all.0, zip_low s k rows others numbered all.1)

pub ring_low : (s : SolidData) (k : ℕ) (rows : List ℕ) → IsNumberedSolid s → OddRing s k rows → AllByRecursion (λ r. r < 2 ^ 29) rows
ring_low s k rows numbered ring = zip_low s k rows (next_of_each rows) numbered ring.closed

short_numbers : (rows : List ℕ) → AllByRecursion (λ r. r < 2 ^ 29) rows → AllByRecursion IsShort (map suc rows)
short_numbers [] all = tt
short_numbers (r ∷ rows) all = (omega (arith, all.0), short_numbers rows all.1)

pub ring_spelled : (s : SolidData) (k : ℕ) (rows numbers : List ℕ) → IsNumberedSolid s → k < length s.shells → numbers ≡ map suc rows → OddRing s k rows
    → ((k + 1 < 10 ^ 9) × AllByRecursion IsShort numbers) × (0 < length numbers)
ring_spelled s k rows numbers numbered lt e ring =
    let few = few_shells s numbered in
    let some = ring.some in (
      (omega (arith, few, lt), subst (AllByRecursion IsShort) (sym e) (short_numbers rows (ring_low s k rows numbered ring))),
      omega (arith, ap (λ (ns : List ℕ). length ns) e, length-map rows suc, some),
    )

pub flags_spelled : (s : SolidData) (k : ℕ) (flags : List Bool) → IsNumberedSolid s → k < length s.shells → FlagsFit s k flags
    → (k + 1 < 10 ^ 9) × (0 < length flags)
flags_spelled s k flags numbered lt fit =
    let few = few_shells s numbered in
    let shell = get_some s.shells k lt in
    let faces = some_faces s k shell.0 numbered shell.1 in
    let each = fit.each in
    let long : length (face_flags (slice_get s.shells k)) ≡ length shell.0.faces = ap (λ (o : Option Shell). length (face_flags o)) shell.1
    ∙ length-map shell.0.faces (λ (f : FaceUse). f.flag) in
    (omega (arith, few, lt), omega (arith, each, long, faces))

-- What is owed of orienting.

pub orient_owed : (f : Contents) (n : ℕ) (s : SolidData) (a : Answer) (t : List ℕ) → s ≡ solid_of f n → AllHold (places f n) → OfAllShells IsReady s
    → IsOriented s s.entity.0 a t → OfOrient n f a t
unfolding solid_of
orient_owed f n s a t e holds ready text =
    oriented holds (subst (OfAllShells IsReady) e ready) (subst (λ (x : SolidData). IsOriented x x.entity.0 a t) e text)
