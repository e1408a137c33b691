-- What is known of records.
use Rattle.std.specs.Prelude.{◌≡◌, ◌≢◌, ℕ, ℤ, pos, List, [], ◌∷◌, ◌++◌, ◌<◌, ◌^◌, IsSome, IsSomeAnd, Option, Some, None, Result, IfErr, IsErrAnd, slice_get}
use Rattle.std.proofs.Common.{refl, sym, ◌∙◌, ap, subst, ⊎_elim}
use Rattle.std.proofs.lemmas.Bool.{cases_eq}
use Rattle.std.proofs.lemmas.Option.{same_Some}
use Rattle.iges_base.specs.declared.entry_no.EntryNo.{EntryNo}
use Rattle.iges_fields.specs.declared.value.Value.{Value}
use Rattle.iges_directory.specs.declared.entry.Entry.{Entry}
use Rattle.iges_params.specs.Contents.{Contents}
use Rattle.iges_params.specs.Limits.{FitsLimits}
use Rattle.iges_params.specs.Named.{named, record_values, values_of}
use Rattle.brep_lists.proofs.KindTypes.{kind_known}
use Rattle.brep_lists.specs.Record.{Items, HasForm, items_of, kind_of_type, type_number, Fits, IsRecordOf}
use Rattle.brep_lists.specs.declared.entity_kind.EntityKind.{EntityKind}
use Rattle.brep_numbering.proofs.Pushed.{get_pushed}
use Rattle.solid_data.specs.Obligations.{AllHold, FirstFalse, obligation, entry_number}
use Rattle.solid_data.specs.declared.verdict.Failing.{Failing}
use Rattle.solid_data.specs.declared.verdict.Rule.TheVariants.{BadLayout}
use Rattle.solid_data.proofs.ObligationLemmas.{FirstFalse-append_front}
use Rattle.brep_walk.specs.declared.fault.WalkFault.{WalkFault}
use Rattle.brep_walk.specs.declared.fault.WalkFault.TheVariants as faults
use Rattle.brep_numbering.specs.declared.marks.Mark.{Mark}
use Rattle.brep_walk.specs.Counts.{item_count}
use Rattle.brep_numbering.specs.Marked.{mark_of}
use Rattle.brep_walk.specs.Known.{uses_places, HasItsRecord, LacksItsRecord, Says, AreKnown}
use Rattle.brep_walk.specs.Places.{told, NamesKind, HasRecordOf, entry_places, record_places}
use Rattle.brep_walk.specs.Walked.{IsFault}
use Rattle.brep_walk.proofs.Faults.{fault_rest, handed, handed_failing}
use Rattle.brep_walk.proofs.Opened.{record_of, no_record, named_few}

-- An entry is of one kind.

type_alike : (k j : EntityKind) → type_number k ≡ type_number j → k ≡ j
type_alike k j e = same_Some k j (sym (kind_known k) ∙ (ap kind_of_type e ∙ kind_known j))

alike_in : (k j : EntityKind) (o : Option (Entry × List Value)) → IsSomeAnd o (λ e. (e.0.kind ≡ type_number k) × HasForm k e.0.form)
    → IsSomeAnd o (λ e. (e.0.kind ≡ type_number j) × HasForm j e.0.form) → k ≡ j
alike_in k j None h g = absurd h
alike_in k j (Some e) h g = type_alike k j (sym h.0 ∙ g.0)

pub has_its_record : (kind : EntityKind) (f : Contents) (n : ℕ) → NamesKind kind f (pos n) → HasRecordOf kind f (pos n) → HasItsRecord f n
has_its_record kind f n is has other names = subst (λ k. HasRecordOf k f (pos n)) (alike_in kind other (named f (pos n)) is names) has

pub lacks_its_record : (kind : EntityKind) (f : Contents) (n : ℕ) → NamesKind kind f (pos n) → ¬ HasRecordOf kind f (pos n) → LacksItsRecord f n
lacks_its_record kind f n is lacks other names has = lacks (subst (λ k. HasRecordOf k f (pos n)) (alike_in other kind (named f (pos n)) names is) has)

-- What is found in the values of an entry is so of its record.

is_there : (kind : EntityKind) (o : Option (Entry × List Value)) → IsSomeAnd o (λ e. (e.0.kind ≡ type_number kind) × HasForm kind e.0.form) → IsSome o
is_there kind None h = absurd h
is_there kind (Some e) h = refl

pub record_found : (kind : EntityKind) (f : Contents) (n : ℕ) (vs : List Value) (items : Items kind) → NamesKind kind f (pos n) → vs ≡ values_of f (pos n)
    → Fits kind vs items → items ≡ items_of kind vs → HasRecordOf kind f (pos n)
record_found kind f n vs items is at fits read =
    record_of kind (named f (pos n)) (is_there kind (named f (pos n)) is) items (subst (λ ws. Fits kind ws items) at fits) (read ∙ ap (items_of kind) at)

pub no_record_found : (kind : EntityKind) (f : Contents) (n : ℕ) (vs : List Value) → vs ≡ values_of f (pos n) → ((items : Items kind) → ¬ Fits kind vs items)
    → ¬ HasRecordOf kind f (pos n)
no_record_found kind f n vs at none = no_record kind (named f (pos n)) (λ items fits. none items (subst (λ ws. Fits kind ws items) (sym at) fits))

in_record : (kind : EntityKind) (o : Option (Entry × List Value)) → IsSomeAnd o (λ e. IsRecordOf kind e.1) → IsRecordOf kind (record_values o)
in_record kind None h = absurd h
in_record kind (Some e) h = h

pub fits_so : (kind : EntityKind) (f : Contents) (n : ℕ) (vs : List Value) → HasRecordOf kind f (pos n) → vs ≡ values_of f (pos n) → IsRecordOf kind vs
fits_so kind f n vs has at = subst (IsRecordOf kind) (sym at) (in_record kind (named f (pos n)) has)

pub record_few : (kind : EntityKind) (f : Contents) (n : ℕ) (items : Items kind) → FitsLimits f → NamesKind kind f (pos n) → HasRecordOf kind f (pos n)
    → items ≡ told kind f (pos n) → item_count kind items < 2 ^ 31
record_few kind f n items limits is has read = subst (λ (i : Items kind). item_count kind i < 2 ^ 31) (sym read)
    (named_few kind f (pos n) limits (is_there kind (named f (pos n)) is) (values_of f (pos n)) (told kind f (pos n)) refl
    (in_record kind (named f (pos n)) has))

-- Marks.

-- a mark that is true of entry n is set
pub marked : (f : Contents) (old new : List Mark) (failed : List (EntryNo × Failing)) → AreKnown f old failed → (n : ℕ) (m : Mark) → Says f n m
    → mark_of new n ≡ m
    → ((k : ℕ) → k ≢ n → mark_of new k ≡ mark_of old k) → AreKnown f new failed
marked f old new failed all n m says set others = record {
  marked = λ k. ⊎_elim
      (λ (is : k ≡ n). subst (λ i. Says f i (mark_of new i)) (sym is) (subst (Says f n) (sym set) says))
      (λ (other : k ≢ n). subst (Says f k) (sym (others k other)) (all.marked k))
      (cases_eq k n);
  fails = all.fails;
}

pub marked_alike : (f : Contents) (old new : List Mark) (failed : List (EntryNo × Failing)) → AreKnown f old failed → ((k : ℕ) → mark_of new k ≡ mark_of old k)
    → AreKnown f new failed
marked_alike f old new failed all same = record { marked = λ k. subst (Says f k) (sym (same k)) (all.marked k); fails = all.fails }

-- what a mark that is found says; g is the file as the call was given it
pub said : (f g : Contents) → f ≡ g → (ms : List Mark) (failed : List (EntryNo × Failing)) → AreKnown f ms failed → (n : ℕ) (m : Mark) → m ≡ mark_of ms n
    → Says g n m
said f g file ms failed all n m is = subst (λ h. Says h n m) file (subst (Says f n) (sym is) (all.marked n))

-- Loops that failed.

pub more_failed : (f : Contents) (ms : List Mark) (old new : List (EntryNo × Failing)) → AreKnown f ms old → (x : EntryNo × Failing) → new ≡ old ++ x ∷ []
    → FirstFalse (uses_places f (pos x.0.0)) x.1 → AreKnown f ms new
more_failed f ms old new all x is fails = subst (AreKnown f ms) (sym is) (record {
  marked = all.marked;
  fails = λ i kept at. ⊎_elim (all.fails i kept) (λ last. subst (λ (w : EntryNo × Failing). FirstFalse (uses_places f (pos w.0.0)) w.1) last.1 fails)
      (get_pushed old x kept i at);
})

pub found_failed : (f g : Contents) → f ≡ g → (ms : List Mark) (failed : List (EntryNo × Failing)) → AreKnown f ms failed → (z y : ℤ) → y ≡ z
    → (x : EntryNo × Failing)
    → (y ≡ pos x.0.0) × ((i : ℕ) × (slice_get failed i ≡ Some x)) → FirstFalse (uses_places g z) x.1
found_failed f g file ms failed all z y at x h =
    subst (λ h. FirstFalse (uses_places h z) x.1) file (subst (λ w. FirstFalse (uses_places f w) x.1) (sym h.0 ∙ at) (all.fails h.1.0 x h.1.1))

-- The record that a number names. y is the number as a callee was given it.

pub entry_fails : (kind : EntityKind) (f : Contents) (entity : ℤ) (place : ℕ) (z y : ℤ) → y ≡ z → {T : Type 0} (r : Result T WalkFault) (x : Failing)
    → FirstFalse (entry_places f entity place kind y) x
    → IsErrAnd r (λ e. e ≡ faults.Fails x) → IfErr r (IsFault (record_places f entity place kind z))
entry_fails kind f entity place z y same r x h =
    handed_failing (record_places f entity place kind z) r x (subst (λ w. FirstFalse (record_places f entity place kind w) x) same
    (FirstFalse-append_front (entry_places f entity place kind y) (obligation BadLayout (entry_number y) 0 (HasRecordOf kind f y) ∷ []) x h))

module _ (kind : EntityKind) (f : Contents) (entity : ℤ) (place : ℕ) (z y : ℤ) (same : y ≡ z) (n : ℕ) (is : y ≡ pos n)
    (here : AllHold (entry_places f entity place kind y)) where
  pub of_kind : NamesKind kind f (pos n)
  of_kind = subst (NamesKind kind f) is here.1.0

  pub record_named : HasRecordOf kind f (pos n) → AllHold (record_places f entity place kind z)
  record_named has = subst (λ x. AllHold (record_places f entity place kind x)) same (here.0, (here.1.0, (subst (HasRecordOf kind f) (sym is) has, tt)))

  pub record_told : (items : Items kind) → items ≡ told kind f (pos n) → (z ≡ pos n) × (items ≡ told kind f z)
  record_told items read = (sym same ∙ is, read ∙ ap (told kind f) (sym is ∙ same))

  pub record_fails : {T : Type 0} (r : Result T WalkFault) (w : WalkFault) → IsFault (obligation BadLayout n 0 (HasRecordOf kind f (pos n)) ∷ []) w
      → IsErrAnd r (λ e. e ≡ w) → IfErr r (IsFault (record_places f entity place kind z))
  record_fails r w h = handed (record_places f entity place kind z) r w (subst (λ x. IsFault (record_places f entity place kind x) w) same
      (fault_rest (entry_places f entity place kind y) (obligation BadLayout (entry_number y) 0 (HasRecordOf kind f y) ∷ []) w here
      (subst (λ x. IsFault (obligation BadLayout (entry_number x) 0 (HasRecordOf kind f x) ∷ []) w) (sym is) h)))
