use Rattle.std.proofs.Common.{◌≡◌, ◌<◌, ◌/◌, ◌∙◌, sym, ap, List, ℕ, length, arith, refl}
use Rattle.std.proofs.lemmas.List.{length-map}
use Rattle.iges_base.specs.declared.entry_no.EntryNo.{EntryNo}
use Rattle.entry_references.specs.EntrySets.{numbers_of}
use Rattle.solid_extract.specs.Renaming.{place_of}
use Rattle.solid_extract.proofs.Places.{place_read, place_few, no_place}
use Rattle.solid_extract.proofs.renaming.Renaming.place.Goals.{else-number-eq1-via-then-number-eq1+else-at-len, else-number-eq1-via-else-number-eq1}
use Rattle.solid_extract.proofs.renaming.Renaming.place.Goals as goal

pub returns-then-at-len-clause-few : goal.returns-then-at-len-clause-few
returns-then-at-len-clause-few c =
    let kept : List ℕ = numbers_of c.self.inside.kept in
    let ps = c.self.inside.places.items in
    let lt : c.args.number / 2 < length ps = omega (arith, c.if-at-len.true, c.len.ensures, c.self.inside.places.ok.0) in
    let is : c.index.result.now ≡ place_of (numbers_of c.self.inside.kept) c.args.number = place_read (numbers_of c.self.inside.kept) ps c.args.number
    (c.args.number / 2) c.index.result.now c.self.invariant refl c.if-number-eq1.true lt c.index.ensures in
    omega (arith, is, place_few (numbers_of c.self.inside.kept) c.args.number, c.self.invariant.few)

pub returns-else-number-eq1-clause-is : goal.returns-else-number-eq1-clause-is
returns-else-number-eq1-clause-is c =
    let size = length c.self.inside.places.items in
    let long : c.len-else-number-eq1.result ≡ length (numbers_of c.self.inside.kept) = c.len-else-number-eq1.ensures
    ∙ sym (length-map c.self.inside.kept (λ (no : EntryNo). no.0)) in
    let none : place_of (numbers_of c.self.inside.kept) c.args.number ≡ length (numbers_of c.self.inside.kept) =
    elim c.else-number-eq1.branch [
      | else-number-eq1-via-then-number-eq1+else-at-len w ↦ no_place size (numbers_of c.self.inside.kept) c.args.number c.self.invariant.within
          (λ h. omega (arith, h.1, w.if-at-len.false, w.len.ensures, c.self.inside.places.ok.0))
      | else-number-eq1-via-else-number-eq1 w ↦ no_place size (numbers_of c.self.inside.kept) c.args.number c.self.invariant.within
          (λ h. w.if-number-eq1.false h.0)
    ] in
    long ∙ (sym none ∙ ap (λ (ns : List ℕ). place_of ns c.args.number) c.self.view_is)
