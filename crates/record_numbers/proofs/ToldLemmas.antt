-- What a record says, as it's found.
use Rattle.std.specs.Prelude.{◌≡◌, ◌≢◌, Bool, true, false, ℤ, List, Option, Some, None, Ok, Err}
use Rattle.std.specs.Option.{is_none}
use Rattle.std.proofs.Common.{refl, sym, ap, ◌∙◌}
use Rattle.iges_params.specs.Contents.{Contents}
use Rattle.iges_params.specs.Named.{named}
use Rattle.entry_references.specs.Answered.{TellsFault}
use Rattle.entry_references.specs.Layout.{Own}
use Rattle.entry_references.specs.Refs.{Record, entry_fault, own_of, refs}
use Rattle.entry_references.specs.declared.fault.ExtractReason.{ExtractReason}
use Rattle.entry_references.specs.declared.fault.ExtractReason.TheVariants as reason
use Rattle.entry_references.specs.declared.fault.RefFault.{RefFault}
use Rattle.entry_references.specs.declared.fault.RefFault.TheVariants as fault
use Rattle.entry_references.proofs.RefLists.{refs_faultless, refs_fault}
use Rattle.record_numbers.specs.EqualRecords.{Told, told, told_by, faultless_own}
use Rattle.record_numbers.specs.Parts.{is_faultless}

pub no_fault : (f : Contents) (r : Record) (ks : List ℤ) → refs f r ≡ Ok ks → true ≡ is_faultless f r
no_fault f r ks e = sym (ap is_none (refs_faultless f r ks e))

pub some_fault : (f : Contents) (r : Record) (e : RefFault) → TellsFault e (refs f r) → (e ≡ fault.NoMemory → ⊥) → false ≡ is_faultless f r
some_fault f r fault.Unlisted h ne = sym (ap is_none (refs_fault f r reason.Unlisted h))
some_fault f r fault.Layout h ne = sym (ap is_none (refs_fault f r reason.Layout h))
some_fault f r fault.Dangling h ne = sym (ap is_none (refs_fault f r reason.Dangling h))
some_fault f r fault.NoMemory h ne = absurd (ne refl)

own_without : (o : Option ExtractReason) (own : Option Own) → is_none o ≡ false → None ≡ elim o as (λ _. Option Own) [ Some reason ↦ None | None ↦ own ]
own_without None own e = absurd cc
own_without (Some reason) own e = refl

own_with : (o : Option ExtractReason) (own : Option Own) → is_none o ≡ true → own ≡ elim o as (λ _. Option Own) [ Some reason ↦ None | None ↦ own ]
own_with None own e = refl
own_with (Some reason) own e = absurd cc

pub faulty_own : (f : Contents) (r : Record) → is_faultless f r ≡ false → None ≡ faultless_own f r
faulty_own f r e = own_without (entry_fault f r) (own_of r) e

pub own_is : (f : Contents) (r : Record) (own : Own) → is_faultless f r ≡ true → own_of r ≡ Some own → Some own ≡ faultless_own f r
own_is f r own e is = sym is ∙ own_with (entry_fault f r) (own_of r) e

told_named : (f : Contents) (z : ℤ) (r : Record) → named f z ≡ Some r → told f z ≡ told_by r (faultless_own f r)
told_named f z r e = ap (λ o. elim o as (λ _. Option Told) [ None ↦ None | Some r ↦ told_by r (faultless_own f r) ]) e

pub told_is : (f : Contents) (z : ℤ) (r : Record) (own : Own) (t : Option Told) → named f z ≡ Some r → Some own ≡ faultless_own f r → t ≡ told_by r (Some own) → t ≡ told f z
told_is f z r own t en eo et = et ∙ (ap (told_by r) eo ∙ sym (told_named f z r en))

pub told_nothing : (f : Contents) (z : ℤ) (r : Record) → named f z ≡ Some r → None ≡ faultless_own f r → None ≡ told f z
told_nothing f z r en eo = ap (told_by r) eo ∙ sym (told_named f z r en)
