-- What is answered of a shell, by its steps.
use Rattle.std.specs.Prelude.{◌≡◌, ◌<◌, ℕ, suc, Bool, List, [], ◌∷◌, length, map, slice_get, Option, Some, None, Result, Ok, Err, IfOk, IfErr, OnOk}
use Rattle.std.specs.List.{AllByRecursion}
use Rattle.std.proofs.Common.{refl, sym, ◌∙◌, ap, subst, arith, inl, inr}
use Rattle.std.proofs.lemmas.Option.{same_Some, slice_get_within, get_or_from_slice_get}
use Rattle.solid_data.specs.Chain.{LeadsTo}
use Rattle.solid_data.specs.Numbering.{IsNumberedSolid}
use Rattle.solid_data.specs.Obligations.{FirstNot}
use Rattle.solid_data.specs.Ring.{numbers_from}
use Rattle.solid_data.specs.SolidData.{SolidData, same_flag, edge_name}
use Rattle.solid_data.specs.declared.solid.FaceUse.{FaceUse}
use Rattle.solid_data.specs.declared.solid.Shell.{Shell}
use Rattle.solid_data.proofs.Members.{Has, get_some}
use Rattle.solid_data.proofs.Occurring.{number_below}
use Rattle.edge_uses.specs.ShellRows.{ShellRows, AreRows, rows_of, shell_rows}
use Rattle.orient_certificate.specs.declared.crossing.Crossing.{Crossing}
use Rattle.orient_certificate.specs.declared.fault.OrientFailing.{OrientFailing}
use Rattle.orient_certificate.specs.declared.fault.OrientFault.{OrientFault}
use Rattle.orient_certificate.specs.declared.fault.OrientFault.TheVariants.{Fails, NoMemory}
use Rattle.orient_certificate.specs.declared.fault.OrientRule.TheVariants.{Count, Reach}
use Rattle.orient_certificate.specs.declared.lists.Orientation.{Orientation}
use Rattle.orient_certificate.specs.declared.lists.Orientation.TheVariants.{Flags, Ring}
use Rattle.solid_data.specs.declared.solid.RowId.{RowId}
use Rattle.orient_certificate.specs.Checked.{ShellOf}
use Rattle.orient_certificate.specs.Partners.{HasTwoRows, AllHaveTwoRows, AllReached, IsReached}
use Rattle.orient_certificate.specs.Flags.{face_flags, rows_at, FlagsFit}
use Rattle.orient_certificate.specs.OddRing.{OddRing, row_numbers}
use Rattle.orient_certificate.specs.Crossings.{IsStep, AreCrossings, Meets, IsOddWalk}
use Rattle.orient_certificate.specs.Graph.{AreStepsOf, IsGraphOf, Suit, IsFound}
use Rattle.orient_certificate.specs.Outcome.{IsOrientation, CountFails, ReachFails, IsFirstFailing, IsFault, IsNoMemory, FailsSo}
use Rattle.orient_certificate.proofs.Bare.{forwards_in}
use Rattle.orient_certificate.proofs.Crossed.{crossing_made, graph_made, faces_counted, fits_made, fits_agree, ring_walk, walk_ring, leads_from, reached_from}
use Rattle.orient_certificate.proofs.Lawful.{one_fit, refuses}

abbrev face_count_of : Option Shell → ℕ
face_count_of None = 0
face_count_of (Some h) = length h.faces

faces_of : (s : SolidData) (o : Option Shell) → (rows_of s o).face_count ≡ face_count_of o
unfolding shell_rows
faces_of s None = refl
faces_of s (Some h) = refl

pub shell_faces : (s : SolidData) (k : ℕ) (h : Shell) (d : ShellRows) → d ≡ rows_at s k → slice_get s.shells k ≡ Some h → d.face_count ≡ length h.faces
shell_faces s k h d e at = ap (λ (x : ShellRows). x.face_count) e ∙ (faces_of s (slice_get s.shells k) ∙ ap face_count_of at)

pub some_faces : (s : SolidData) (k : ℕ) (h : Shell) → IsNumberedSolid s → slice_get s.shells k ≡ Some h → 0 < length h.faces
some_faces s k h numbered at = subst (λ (x : Shell). 0 < length x.faces) (get_or_from_slice_get s.shells k h h at)
    (numbered.each_shell k h (slice_get_within s.shells k h at))

pub steps_made : (h : Shell) (d : ShellRows) (cs : List Crossing) (forwards read : List Bool) → AllHaveTwoRows d → read ≡ forwards
    → forwards ≡ map (λ (f : FaceUse). same_flag f.flag h.flag) h.faces → length cs ≡ length d.rows
    → ((r : ℕ) (c : Crossing) → slice_get cs r ≡ Some c → IsStep d read r c) → AreStepsOf h d cs
steps_made h d cs forwards read two is_read is_forwards each steps = record {
  two = two;
  each = each;
  steps = λ r c is. subst (λ (xs : List Bool). IsStep d xs r c) (is_read ∙ is_forwards) (steps r c is);
}

pub graph_is : (s : SolidData) (k : ℕ) (h : Shell) (d : ShellRows) (cs : List Crossing) (n : ℕ) (first : Bool) → IsNumberedSolid s
    → slice_get s.shells k ≡ Some h → d ≡ rows_at s k → AreRows d → AreStepsOf h d cs → n ≡ d.face_count
    → slice_get (face_flags (Some h)) 0 ≡ Some first → IsGraphOf s k cs n first
graph_is s k h d cs n first numbered at e whole made count own =
    let all : AreCrossings s k cs = record {
      each = made.each ∙ ap (λ (x : ShellRows). length x.rows) e;
      tell = λ r c is. crossing_made s k r c (forwards_in (Some h)) (ap forwards_in (sym at)) (subst (λ (x : ShellRows). IsStep x (forwards_in (Some h)) r c) e (made.steps r c is));
    } in
    let counted : n ≡ (rows_at s k).face_count = count ∙ ap (λ (x : ShellRows). x.face_count) e in
    record {
      two = subst AllHaveTwoRows e made.two;
      crossings = all;
      graph = graph_made s k cs n all counted;
      faces = counted ∙ faces_counted s (slice_get s.shells k);
      counted = counted;
      own = ap (λ (o : Option Shell). slice_get (face_flags o) 0) at ∙ own;
      some = omega (arith, count, shell_faces s k h d e at, some_faces s k h numbered at);
      few = omega (arith, count, whole.few_faces);
      few_steps = omega (arith, made.each, whole.few);
    }

pub suit_fits : (s : SolidData) (k : ℕ) (cs : List Crossing) (n : ℕ) (first : Bool) (flags : List Bool) → IsGraphOf s k cs n first → Suit cs n first flags
    → FlagsFit s k flags
suit_fits s k cs n first flags g suit = fits_made s k cs n flags g.crossings g.graph g.faces suit.each (suit.own ∙ sym g.own) suit.agree

pub fits_suit : (s : SolidData) (k : ℕ) (cs : List Crossing) (n : ℕ) (first : Bool) (flags : List Bool) → IsGraphOf s k cs n first → FlagsFit s k flags
    → Suit cs n first flags
fits_suit s k cs n first flags g fit =
    record { each = fit.each ∙ sym g.faces; own = fit.first ∙ g.own; agree = fits_agree s k cs n flags g.crossings g.graph g.faces fit }

pub found_is : (s : SolidData) (k : ℕ) (cs : List Crossing) (n : ℕ) (first : Bool) (o : Orientation) → IsGraphOf s k cs n first → IsFound cs n first o
    → IsOrientation s k o
found_is s k cs n first (Flags x) g h = suit_fits s k cs n first x g h
found_is s k cs n first (Ring rows) g h = walk_ring s k cs g.crossings (row_numbers rows) h

-- the first that isn't so
pub first_not_all : {A : Type 0} (P : A → Type 0) (xs : List A) (x : A) → FirstNot P xs x → AllByRecursion P xs → ⊥
first_not_all P [] x h all = h
first_not_all P (y ∷ ys) x (inl h) all = h.0 all.0
first_not_all P (y ∷ ys) x (inr h) all = first_not_all P ys x h.1 all.1

pub first_not_one : {A : Type 0} (P : A → Type 0) (xs : List A) (x y : A) → FirstNot P xs x → FirstNot P xs y → x ≡ y
first_not_one P [] x y h k = absurd h
first_not_one P (z ∷ zs) x y (inl h) (inl k) = h.1 ∙ sym k.1
first_not_one P (z ∷ zs) x y (inl h) (inr k) = absurd (h.0 k.0)
first_not_one P (z ∷ zs) x y (inr h) (inl k) = absurd (k.0 h.0)
first_not_one P (z ∷ zs) x y (inr h) (inr k) = first_not_one P zs x y h.1 k.1

pub first_not_has : {A : Type 0} (P : A → Type 0) (xs : List A) (x : A) → FirstNot P xs x → Has xs x
first_not_has P [] x h = absurd h
first_not_has P (y ∷ ys) x (inl h) = inl (sym h.1)
first_not_has P (y ∷ ys) x (inr h) = inr (first_not_has P ys x h.1)

pub first_not_as : (P Q : ℕ → Type 0) → ((x : ℕ) → P x → Q x) → ((x : ℕ) → Q x → P x) → (xs : List ℕ) (x : ℕ) → FirstNot P xs x → FirstNot Q xs x
first_not_as P Q f g [] x h = h
first_not_as P Q f g (y ∷ ys) x (inl h) = inl (λ q. h.0 (g y q), h.1)
first_not_as P Q f g (y ∷ ys) x (inr h) = inr (f y h.0, first_not_as P Q f g ys x h.1)

pub all_as : (P Q : ℕ → Type 0) → ((x : ℕ) → P x → Q x) → (xs : List ℕ) → AllByRecursion P xs → AllByRecursion Q xs
all_as P Q f [] h = tt
all_as P Q f (y ∷ ys) h = (f y h.0, all_as P Q f ys h.1)

-- each face is reached, where steps lead to each
pub reached_all : (s : SolidData) (k : ℕ) (cs : List Crossing) (n : ℕ) (first : Bool) → IsGraphOf s k cs n first
    → AllByRecursion (LeadsTo (Meets cs) 0) (numbers_from 0 n) → AllReached (rows_at s k)
reached_all s k cs n first g all = subst (λ m. AllByRecursion (IsReached (rows_at s k)) (numbers_from 0 m)) g.counted
    (all_as (LeadsTo (Meets cs) 0) (IsReached (rows_at s k)) (reached_from s k cs g.crossings) (numbers_from 0 n) all)

-- a face to which no steps lead is one of the shell's
pub missed_face : (s : SolidData) (k : ℕ) (h : Shell) (cs : List Crossing) (n : ℕ) (first : Bool) (f : ℕ) → IsGraphOf s k cs n first
    → slice_get s.shells k ≡ Some h → FirstNot (LeadsTo (Meets cs) 0) (numbers_from 0 n) f → (face : FaceUse) × (slice_get h.faces f ≡ Some face)
missed_face s k h cs n first f g at miss =
    get_some h.faces f (omega
    (arith, (number_below 0 n f (first_not_has (LeadsTo (Meets cs) 0) (numbers_from 0 n) f miss)).1, g.counted, shell_faces s k h (rows_at s k) refl at))

pub reach_fails : (s : SolidData) (k : ℕ) (h : Shell) (cs : List Crossing) (n : ℕ) (first : Bool) (f : ℕ) (face : FaceUse) (x : OrientFailing)
    → IsGraphOf s k cs n first → slice_get s.shells k ≡ Some h → FirstNot (LeadsTo (Meets cs) 0) (numbers_from 0 n) f → slice_get h.faces f ≡ Some face
    → x ≡ record { rule = Reach; entity = face.entity; place = 0 } → IsFirstFailing s k x
reach_fails s k h cs n first f face x g at miss face_at named = inr (
  g.two,
  record {
    shell = h;
    at = at;
    number = f;
    first = subst (λ m. FirstNot (IsReached (rows_at s k)) (numbers_from 0 m) f) g.counted
        (first_not_as (LeadsTo (Meets cs) 0) (IsReached (rows_at s k)) (reached_from s k cs g.crossings) (leads_from s k cs g.crossings) (numbers_from 0 n) f
        miss);
    face = face;
    face_at = face_at;
    named = named;
  },
)

-- one failing is named first at most, and none where all hold
count_one : (s : SolidData) (k : ℕ) (x y : OrientFailing) → CountFails s k x → CountFails s k y → x ≡ y
count_one s k x y a b =
    let same : a.edge ≡ b.edge = first_not_one (HasTwoRows (rows_at s k)) (rows_at s k).edges a.edge b.edge a.first b.first in
    a.named ∙ (ap (λ e. named e) same ∙ sym b.named)
  where
    named : ℕ → OrientFailing
    named e = record { rule = Count; entity = (edge_name (slice_get s.edges e)).«list»; place = (edge_name (slice_get s.edges e)).index }

reach_one : (s : SolidData) (k : ℕ) (x y : OrientFailing) → ReachFails s k x → ReachFails s k y → x ≡ y
reach_one s k x y a b =
    let shells : a.shell ≡ b.shell = same_Some a.shell b.shell (sym a.at ∙ b.at) in
    let same : a.number ≡ b.number = first_not_one (IsReached (rows_at s k)) (numbers_from 0 (rows_at s k).face_count) a.number b.number a.first b.first in
    let faces : a.face ≡ b.face =
    same_Some a.face b.face (sym a.face_at ∙ (ap (λ (h : Shell). slice_get h.faces a.number) shells ∙ (ap (slice_get b.shell.faces) same ∙ b.face_at))) in
    a.named ∙ (ap (λ (f : FaceUse). record { rule = Reach; entity = f.entity; place = 0 }) faces ∙ sym b.named)

count_not : (s : SolidData) (k : ℕ) (x : OrientFailing) → CountFails s k x → AllHaveTwoRows (rows_at s k) → ⊥
count_not s k x a two = first_not_all (HasTwoRows (rows_at s k)) (rows_at s k).edges a.edge a.first two

failing_one : (s : SolidData) (k : ℕ) (x y : OrientFailing) → IsFirstFailing s k x → IsFirstFailing s k y → x ≡ y
failing_one s k x y (inl a) (inl b) = count_one s k x y a b
failing_one s k x y (inl a) (inr b) = absurd (count_not s k x a b.0)
failing_one s k x y (inr a) (inl b) = absurd (count_not s k y b a.0)
failing_one s k x y (inr a) (inr b) = reach_one s k x y a.1 b.1

failing_not : (s : SolidData) (k : ℕ) (x : OrientFailing) → IsFirstFailing s k x → AllHaveTwoRows (rows_at s k) → AllReached (rows_at s k) → ⊥
failing_not s k x (inl a) two reached = count_not s k x a two
failing_not s k x (inr a) two reached = first_not_all (IsReached (rows_at s k)) (numbers_from 0 (rows_at s k).face_count) a.1.number a.1.first reached

pub only_memory : (s : SolidData) (k : ℕ) (r : Result Orientation OrientFault) → IfErr r (IsFault (IsFirstFailing s k)) → AllHaveTwoRows (rows_at s k)
    → AllReached (rows_at s k) → IfErr r IsNoMemory
only_memory s k (Ok o) h two reached = tt
only_memory s k (Err (Fails x)) h two reached = failing_not s k x h two reached
only_memory s k (Err NoMemory) h two reached = tt

pub fails_so : (s : SolidData) (k : ℕ) (r : Result Orientation OrientFault) → IfErr r (IsFault (IsFirstFailing s k)) → OnOk r (AllHaveTwoRows (rows_at s k))
    → OnOk r (AllReached (rows_at s k)) → (x : OrientFailing) → IsFirstFailing s k x → FailsSo x r
fails_so s k (Ok o) h two reached x first = failing_not s k x first two reached
fails_so s k (Err (Fails y)) h two reached x first = failing_one s k y x h first
fails_so s k (Err NoMemory) h two reached x first = tt

pub only_these : (s : SolidData) (k : ℕ) (r : Result Orientation OrientFault) → IfOk r (IsOrientation s k) → OnOk r (AllHaveTwoRows (rows_at s k))
    → OnOk r (AllReached (rows_at s k)) → (x : List Bool) → FlagsFit s k x → IfOk r (λ o. o ≡ Flags x)
only_these s k (Ok (Flags y)) h two reached x fit = ap Flags (one_fit s k two reached y x h fit)
only_these s k (Ok (Ring rows)) h two reached x fit = absurd (refuses s k (row_numbers rows) x two h fit)
only_these s k (Err e) h two reached x fit = tt

pub count_memory : {A : Type 0} (s : SolidData) (k : ℕ) (r : Result A OrientFault) → IfErr r (IsFault (CountFails s k)) → AllHaveTwoRows (rows_at s k)
    → IfErr r IsNoMemory
count_memory s k (Ok o) h two = tt
count_memory s k (Err (Fails x)) h two = count_not s k x h two
count_memory s k (Err NoMemory) h two = tt

pub count_so : {A : Type 0} (s : SolidData) (k : ℕ) (r : Result A OrientFault) → IfErr r (IsFault (CountFails s k)) → OnOk r (AllHaveTwoRows (rows_at s k))
    → (x : OrientFailing) → CountFails s k x → FailsSo x r
count_so s k (Ok o) h two x first = count_not s k x first two
count_so s k (Err (Fails y)) h two x first = count_one s k y x h first
count_so s k (Err NoMemory) h two x first = tt

pub map_long : (flag : Bool) (fs : List FaceUse) → length (map (λ (f : FaceUse). same_flag f.flag flag) fs) ≡ length fs
map_long flag [] = refl
map_long flag (f ∷ fs) = ap suc (map_long flag fs)

pub flags_iff : (s : SolidData) (k : ℕ) (v : ShellOf) (cs read : List Crossing) (n : ℕ) (first : Bool) (flags told : List Bool) (B : Type 0)
    → record { solid = s; shell = k } ≡ v → IsGraphOf s k cs n first → read ≡ cs → told ≡ flags
    → (B → Suit read n first told) × (Suit read n first told → B) → (B → FlagsFit v.solid v.shell flags) × (FlagsFit v.solid v.shell flags → B)
flags_iff s k v cs read n first flags told B view g e d h =
    let there : Suit read n first told → Suit cs n first flags = λ x. subst (Suit cs n first) d (subst (λ y. Suit y n first told) e x) in
    let back : Suit cs n first flags → Suit read n first told = λ x. subst (λ y. Suit y n first told) (sym e) (subst (Suit cs n first) (sym d) x) in (
      (λ b. subst (λ (w : ShellOf). FlagsFit w.solid w.shell flags) view (suit_fits s k cs n first flags g (there (h.0 b)))),
      (λ f. h.1 (back (fits_suit s k cs n first flags g (subst (λ (w : ShellOf). FlagsFit w.solid w.shell flags) (sym view) f)))),
    )

pub ring_iff : (s : SolidData) (k : ℕ) (v : ShellOf) (cs read : List Crossing) (n : ℕ) (first : Bool) (rows told : List RowId) (B : Type 0)
    → record { solid = s; shell = k } ≡ v → IsGraphOf s k cs n first → read ≡ cs → told ≡ rows
    → (B → IsOddWalk read (row_numbers told)) × (IsOddWalk read (row_numbers told) → B) → (B → OddRing v.solid v.shell (row_numbers rows))
    × (OddRing v.solid v.shell (row_numbers rows) → B)
ring_iff s k v cs read n first rows told B view g e d h =
    let there : IsOddWalk read (row_numbers told) → IsOddWalk cs (row_numbers rows) =
    λ x. subst (λ r. IsOddWalk cs (row_numbers r)) d (subst (λ y. IsOddWalk y (row_numbers told)) e x) in
    let back : IsOddWalk cs (row_numbers rows) → IsOddWalk read (row_numbers told) =
    λ x. subst (λ y. IsOddWalk y (row_numbers told)) (sym e) (subst (λ r. IsOddWalk cs (row_numbers r)) (sym d) x) in (
      (λ b. subst (λ (w : ShellOf). OddRing w.solid w.shell (row_numbers rows)) view (walk_ring s k cs g.crossings (row_numbers rows) (there (h.0 b)))),
      (λ f. h.1 (back (ring_walk s k cs g.crossings (row_numbers rows) (subst (λ (w : ShellOf). OddRing w.solid w.shell (row_numbers rows)) (sym view) f)))),
    )
