-- The value that is named where a rule on the records of a solid fails is one that breaks the rule.
use Rattle.std.specs.Prelude.{◌≡◌, ◌≢◌, ℕ, ◌+◌, ◌⊎◌, ℤ, pos, Some, IfSome, IsSomeAnd}
use Rattle.iges_params.specs.Contents.{Contents}
use Rattle.brep_lists.specs.Record.{IsRecordOf}
use Rattle.brep_lists.specs.declared.entity_kind.EntityKind.{EntityKind}
use Rattle.brep_lists.specs.declared.entity_kind.EntityKind.TheVariants.{Shell as shell, Face as face, Loop as «loop»}
use Rattle.brep_walk.specs.SolidOf.{entry_no}
use Rattle.brep_walk.specs.Places.{Names, NamesKind, NamesGeometry, IsIndex, places}
use Rattle.solid_data.specs.Obligations.{FirstFalse}
use Rattle.solid_data.specs.declared.verdict.Rule.{Rule}
use Rattle.solid_data.specs.declared.verdict.Rule.TheVariants as rule
use Rattle.solid_data.specs.declared.verdict.Failing.{Failing}
use Rattle.record_values.specs.declared.bad_values.BadValue.{BadValue}
use Rattle.record_values.specs.declared.due.Due.TheVariants as due
use Rattle.record_values.specs.declared.naming.Naming.{Naming}
use Rattle.record_values.specs.Naming.{first_naming}
use Rattle.record_values.specs.BadValue.{bad_value, entry_at, item_count, kind_in}
use Rattle.record_values.specs.Begins.{IsFirstMisfit}
use Rattle.where_records.specs.RecordText.{before, judged, values_in}
use Rattle.record_laws.specs.Lying.{ComesBefore}

-- that a place names its entity once
abbrev pub once_at : Naming → Failing
once_at place = record { rule = rule.Twice; entity = entry_no place.entity; place = place.item }

-- the number at a place
abbrev pub number_at : Contents → Naming → ℤ
number_at f place = let bad = bad_value f (once_at place) in judged f (entry_no place.entity) bad.place

-- The place is another than that of x, comes before it in the order of the obligations of solid n, and names the same.
abbrev pub IsEarlier : Contents → ℕ → Failing → ℤ → Naming → Type 0
IsEarlier f n x number place = (once_at place ≢ x) × ComesBefore (once_at place) x (places f n) × (number_at f place ≡ number)

-- Each rule by the number that is judged, which is the one in the place of the bad value.
abbrev pub BreaksBy : Contents → ℕ → Failing → BadValue → Rule → Type 0
-- it names no entry
BreaksBy f n x bad rule.NoEntry = ¬ Names f (judged f x.entity bad.place)
-- the entry that it names isn't of the kind that is said to be due
BreaksBy f n x bad rule.WrongKind =
    Names f (judged f x.entity bad.place) × ((kind : EntityKind) × (bad.due ≡ Some (due.Record kind)) × (¬ NamesKind kind f (judged f x.entity bad.place)))
-- the record isn't one of its type, and the value is the first with which none goes on
BreaksBy f n x bad rule.BadLayout =
    (kind : EntityKind) × (kind_in (entry_at f (pos x.entity.0)) ≡ Some kind) × (¬ IsRecordOf kind (values_in f x.entity))
    × IfSome bad.place (λ i. IsFirstMisfit kind (values_in f x.entity) (i + 1))
-- it names a shell, a face or a loop, and the first place that names it comes before
BreaksBy f n x bad rule.Twice =
    let number = judged f x.entity bad.place in
    (NamesKind shell f number ⊎ (NamesKind face f number ⊎ NamesKind «loop» f number))
    × IsSomeAnd (first_naming f (pos n) number) (λ first. IsEarlier f n x number first)
-- it is no index in the list that the number before it names
BreaksBy f n x bad rule.BadIndex = ¬ IsIndex (judged f x.entity bad.place) (item_count f (judged f x.entity (before bad.place)))
-- it names no curve and no surface
BreaksBy f n x bad rule.BadGeometry = ¬ NamesGeometry f (judged f x.entity bad.place)
-- the other rules speak of shells
BreaksBy f n x bad _ = ⊥

unfoldable pub Breaks : Contents → ℕ → Failing → Type 0
Breaks f n x = BreaksBy f n x (bad_value f x) x.rule

-- Where this is the first false obligation of a solid, the value that is named breaks the rule.
abbrev pub BadValuesBreak : Type 0
BadValuesBreak = (f : Contents) (n : ℕ) (x : Failing) → FirstFalse (places f n) x → Breaks f n x
