-- The hints on failing shells, put together.
use Rattle.std.specs.Prelude.{◌≡◌, ◌↔◌, ◌<◌, ◌≤◌, ◌+◌, ◌==◌, ℕ, suc, Bool, true, false, IsTrue, List, [], ◌∷◌, ◌++◌, All, Some, length, map, flat_map, slice_get, take}
use Rattle.std.specs.Prelude.{IfOk, IfSome, OnOk, Option, None, Result, Ok, Err}
use Rattle.edge_uses.specs.Before.{AreBelow}
use Rattle.std.specs.List.{enumerate_from}
use Rattle.std.proofs.Common.{refl, sym, ap, ◌∙◌, subst, arith, inl, inr, get_or, drop}
use Rattle.std.proofs.lemmas.Bool.{eqb-true}
use Rattle.std.proofs.lemmas.List.{append-nil, drop_all, flat_map_more, map-append, take_all}
use Rattle.std.proofs.Math.Seq.{take-suc}
use Rattle.iges_base.specs.declared.entry_no.EntryNo.{EntryNo}
use Rattle.iges_params.specs.Contents.{Contents}
use Rattle.solid_data.specs.SolidData.{SolidData}
use Rattle.solid_data.proofs.Members.{split_at}
use Rattle.solid_faults.specs.FaceFlags.{IsClosedFlagged}
use Rattle.solid_faults.specs.Faults.{Faults}
use Rattle.shell_change.specs.declared.change.Remedy.{Remedy}
use Rattle.shell_change.specs.declared.geometry.Geometry.{Geometry}
use Rattle.solid_geometry.specs.Known.{IsGeometryOf}
use Rattle.tried_remedies.specs.Tried.{AreTried}
use Rattle.where_text.specs.declared.listing.Listing.{Listing}
use Rattle.where_text.specs.declared.listing.Listing.TheVariants as how
use Rattle.where_text.proofs.Steps.{piece_more}
use Rattle.solid_hints.specs.AllFaults.{EachBelow}
use Rattle.solid_hints.specs.Flags.{flags_hint, pair_fails, unset_flags}
use Rattle.solid_hints.specs.ShellHints.{AreRemediesOf, IsHint, IsRemedy, ShellRemedies, faces_named, named_at, remedies_at, remedies_text, remedy_at, written}
use Rattle.solid_hints.proofs.Gathered.{one_more}

-- ---- the remedies of a shell

-- once one more is written of items that are numbered
pub numbered_more : {A : Type 0} (F : ℕ × A → List ℕ) (xs : List A) (i : ℕ) (x : A) (old new all : List ℕ) → slice_get xs i ≡ Some x
    → old ++ flat_map F (enumerate_from i (drop i xs)) ≡ all → new ≡ old ++ F (i, x) → new ++ flat_map F (enumerate_from (i + 1) (drop (i + 1) xs)) ≡ all
numbered_more F xs i x old new all at h e =
    piece_more old new (F (i, x)) (flat_map F (enumerate_from (i + 1) (drop (i + 1) xs))) all
    (ap (λ ys. old ++ flat_map F (enumerate_from i ys)) (sym (split_at xs i x at)) ∙ h) e

pub numbered_all : {A : Type 0} (F : ℕ × A → List ℕ) (xs : List A) (i : ℕ) (now all : List ℕ) → length xs ≤ i
    → now ++ flat_map F (enumerate_from i (drop i xs)) ≡ all → now ≡ all
numbered_all F xs i now all past h =
    sym (append-nil now) ∙ (ap (λ ys. now ++ flat_map F (enumerate_from i ys)) (sym (drop_all i xs past)) ∙ h)

pub items_more : {A B : Type 0} (F : A → List B) (xs : List A) (i : ℕ) (x : A) (old new all : List B) → slice_get xs i ≡ Some x
    → old ++ flat_map F (drop i xs) ≡ all → new ≡ old ++ F x → new ++ flat_map F (drop (i + 1) xs) ≡ all
items_more F xs i x old new all at h e =
    piece_more old new (F x) (flat_map F (drop (i + 1) xs)) all (ap (λ ys. old ++ flat_map F ys) (sym (split_at xs i x at)) ∙ h) e

pub items_all : {A B : Type 0} (F : A → List B) (xs : List A) (i : ℕ) (now all : List B) → length xs ≤ i → now ++ flat_map F (drop i xs) ≡ all → now ≡ all
items_all F xs i now all past h = sym (append-nil now) ∙ (ap (λ ys. now ++ flat_map F ys) (sym (drop_all i xs past)) ∙ h)

-- where there are none
none_named : (listing : Listing) (s : SolidData) (rs : List Remedy) → (length rs == 0) ≡ true → flat_map (faces_named listing s) (written listing rs) ≡ []
unfolding written
none_named how.Few s [] none = refl
none_named how.All s [] none = refl
none_named listing s (r ∷ rs) none = absurd (let is : length (r ∷ rs) ≡ 0 = eqb-true (length (r ∷ rs)) 0 none in omega (arith, is))

pub nothing_named : {T E : Type 0} (listing : Listing) (s : SolidData) (rs : List Remedy) (r : Result T E) (named : List EntryNo) → (length rs == 0) ≡ true
    → OnOk r (named ≡ named ++ flat_map (faces_named listing s) (written listing rs))
nothing_named listing s rs (Ok x) named none = sym (append-nil named) ∙ ap (λ ns. named ++ ns) (sym (none_named listing s rs none))
nothing_named listing s rs (Err e) named none = tt

pub below_known : (s : SolidData) (k : ℕ) (belows : List ℕ) (o : Option ℕ) → o ≡ slice_get belows k → EachBelow s belows → IfSome o (AreBelow s k)
below_known s k belows None is each = tt
below_known s k belows (Some n) is each = each k n (sym is)

pub are_remedies : (f : Contents) (s : SolidData) (g : Geometry) (k : ℕ) (rs : List Remedy) → IsGeometryOf f s g → AreTried s g (record { 0 = k }) rs
    → All (IsRemedy f s k) rs
are_remedies f s g k rs known tried = λ i d lt. record { geometry = g; known = known; tried = tried i d lt }

-- ---- the remedies of all shells

-- remedies of these shells are told, with the faces that they name
abbrev pub AreTold : Listing → Contents → SolidData → List ℕ → List ℕ → List ℕ → List EntryNo → List EntryNo → Type 0
AreTold listing f s ks old new named more = (told : List ShellRemedies) × AreRemediesOf f s ks told
    × (new ≡ old ++ flat_map (remedies_at listing f s) told) × (more ≡ named ++ flat_map (named_at listing s) told)

pub none_told : (listing : Listing) (f : Contents) (s : SolidData) (out : List ℕ) (named : List EntryNo) → AreTold listing f s [] out out named named
none_told listing f s out named = ([], record { shells = refl; each = λ i t at. absurd cc }, sym (append-nil out), sym (append-nil named))

abbrev of_shell : ShellRemedies → ℕ
of_shell t = t.0

-- what is known of the remedies that were written
pub put_so : {T E : Type 0} (listing : Listing) (f : Contents) (s : SolidData) (k : ℕ) (rs items : List Remedy) (r : Result T E) (old new : List ℕ)
    (named more : List EntryNo) → All (IsRemedy f s k) rs → items ≡ rs → OnOk r (new ≡ old ++ remedies_text listing f s k items)
    → OnOk r (more ≡ named ++ flat_map (faces_named listing s) (written listing items))
    → IfOk r (λ _. (rs : List Remedy) × All (IsRemedy f s k) rs × (new ≡ old ++ remedies_text listing f s k rs)
    × (more ≡ named ++ flat_map (faces_named listing s) (written listing rs)))
put_so listing f s k rs items (Ok x) old new named more are same text faces =
    (rs, are, text ∙ ap (λ ys. old ++ remedies_text listing f s k ys) same, faces ∙ ap (λ ys. named ++ flat_map (faces_named listing s) (written listing ys)) same)
put_so listing f s k rs items (Err e) old new named more are same text faces = tt

-- one shell more
pub told_more : (listing : Listing) (f : Contents) (s : SolidData) (ks : List ℕ) (i k : ℕ) (rs : List Remedy) (old mid new : List ℕ) (named among more : List EntryNo)
    → i < length ks → k ≡ get_or ks i 0 → AreTold listing f s (take i ks) old mid named among → All (IsRemedy f s k) rs
    → new ≡ mid ++ remedies_text listing f s k rs → more ≡ among ++ flat_map (faces_named listing s) (written listing rs)
    → AreTold listing f s (take (i + 1) ks) old new named more
told_more listing f s ks i k rs old mid new named among more lt is (told, are, text, faces) remedies written_next faces_next =
    let next : suc i ≡ i + 1 = omega arith in
    let here : take i ks ++ k ∷ [] ≡ take (i + 1) ks =
    ap (λ n. take i ks ++ n ∷ []) is ∙ (sym (take-suc ks i 0 lt) ∙ ap (λ n. take n ks) next) in (
      told ++ (k, rs) ∷ [],
      record {
        shells = map-append of_shell told ((k, rs) ∷ []) ∙ (ap (λ ns. ns ++ k ∷ []) are.shells ∙ here);
        each = one_more (λ j t. All (IsRemedy f s t.0) t.1) told (k, rs) are.each remedies;
      },
      written_next ∙ (ap (λ o. o ++ remedies_at listing f s (k, rs)) text ∙ flat_map_more (remedies_at listing f s) old told (k, rs)),
      faces_next ∙ (ap (λ ns. ns ++ named_at listing s (k, rs)) faces ∙ flat_map_more (named_at listing s) named told (k, rs)),
    )

-- and all of them
pub told_all : (listing : Listing) (f : Contents) (s : SolidData) (ks : List ℕ) (i : ℕ) (old new : List ℕ) (named more : List EntryNo) → length ks ≤ i
    → AreTold listing f s (take i ks) old new named more → AreTold listing f s ks old new named more
told_all listing f s ks i old new named more past told = subst (λ ns. AreTold listing f s ns old new named more) (take_all i ks past) told

-- no shell at all
pub none_of_none : (listing : Listing) (f : Contents) (s : SolidData) (ks out : List ℕ) (named : List EntryNo) → (length ks == 0) ≡ true
    → AreTold listing f s ks out out named named
none_of_none listing f s [] out named none = none_told listing f s out named
none_of_none listing f s (k ∷ ks) out named none = absurd (let is : length (k ∷ ks) ≡ 0 = eqb-true (length (k ∷ ks)) 0 none in omega (arith, is))

-- ---- the hint

-- a hint, and what it names
abbrev pub IsHinted : Listing → Contents → SolidData → List Faults → List ℕ → List ℕ → List ℕ → List EntryNo → List EntryNo → Type 0
IsHinted listing f s xs ks old new named more = (told : List ShellRemedies) × (hint : List ℕ) × (faces : List EntryNo) × IsHint listing f s xs ks told hint faces
    × (new ≡ old ++ hint) × (more ≡ named ++ faces)

-- where flags are told
pub flags_told : (listing : Listing) (f : Contents) (s : SolidData) (xs : List Faults) (ks : List ℕ) (unpaired b : Bool) (unset : ℕ) (old new : List ℕ)
    (named : List EntryNo) → unset ≡ unset_flags s → unpaired ≡ pair_fails xs ks → b ≡ true
    → (IsTrue b ↔ (IsTrue unpaired × (0 < unset) × IsClosedFlagged s)) → new ≡ old ++ flags_hint unset → IsHinted listing f s xs ks old new named named
flags_told listing f s xs ks unpaired b unset old new named is fails told exact text =
    let so = exact.0 told in (
      [],
      flags_hint (unset_flags s),
      [],
      inl ((subst (λ u. IsTrue u) fails so.0, subst (λ n. 0 < n) is so.1, so.2), refl, refl, refl),
      text ∙ ap (λ n. old ++ flags_hint n) is,
      sym (append-nil named),
    )

-- and where they aren't
pub hints_told : (listing : Listing) (f : Contents) (s : SolidData) (xs : List Faults) (ks : List ℕ) (unpaired b : Bool) (unset : ℕ) (old new : List ℕ)
    (named more : List EntryNo) → unset ≡ unset_flags s → unpaired ≡ pair_fails xs ks → b ≡ false
    → (IsTrue b ↔ (IsTrue unpaired × (0 < unset) × IsClosedFlagged s)) → AreTold listing f s ks old new named more
    → IsHinted listing f s xs ks old new named more
hints_told listing f s xs ks unpaired b unset old new named more is fails told exact (rs, are, text, faces) = (
  rs,
  flat_map (remedies_at listing f s) rs,
  flat_map (named_at listing s) rs,
  inr (
    (λ so. let yes : b ≡ true = exact.1 (subst (λ u. IsTrue u) (sym fails) so.0, subst (λ n. 0 < n) (sym is) so.1, so.2) in absurd cc),
    are,
    refl,
    refl,
  ),
  text,
  faces,
)
