use Rattle.std.proofs.Common.{◌≡◌, Some, ℕ, ℤ, Bool, ◌+◌, ◌≤◌, ◌<◌, subst, Option, List, ◌∷◌, length, sym, ◌∙◌, ap, refl, arith, rules, of_z, to_z}
use Rattle.std.specs.Prelude.{IsSome, flat_map}
use Rattle.std.specs.List.{enumerate_from}
use Rattle.std.proofs.lemmas.Int.{to_z-of_z}
use mir.Val.{SFits}
use mir.Syntax.{w64}
use Rattle.iges_params.specs.Contents.{Contents}
use Rattle.record_values.specs.Naming.{Names, first_naming, first_of, names, names_in_solid, names_in_shell}
use Rattle.record_values.proofs.Names.{alike, unlike, named_by_none, is_there, named_here, named_within, not_named}
use Rattle.record_values.proofs.naming.first_naming.Goals as goal

-- what an item names
abbrev of_item : Contents → ℤ → ℕ × (ℤ × Bool) → List Names
of_item f z x = names z x.0 x.1.0 ∷ names_in_shell f x.1.0

-- a number as the loop has it
same_number : (f : Contents) (z n y m : ℤ) → y ≡ z → m ≡ n → first_of m (names_in_solid f y) ≡ first_of n (names_in_solid f z)
same_number f z n y m e k = ap (λ x. first_of m (names_in_solid f x)) e ∙ ap (λ x. first_of x (names_in_solid f z)) k

pub returns-then-shell-number : goal.returns-then-shell-number
unfolding first_naming
returns-then-shell-number c =
    let f = c.args.file.now in
    let z = to_z w64 (of_z w64 c.args.solid) in
    let n = to_z w64 (of_z w64 c.args.number) in
    let xs = c.in-Some.record.outer ∷ c.in-Some.record.voids in
    let i = c.shells.item in
    let a = c.unwrap-shell.result in
    let fits : SFits w64 a.0 = search rules in
    let there = sym c.unwrap-shell.ensures ∙ c.item.ensures in
    let back = same_number f c.args.solid c.args.number z n (to_z-of_z w64 c.args.solid c.ranges.solid) (to_z-of_z w64 c.args.number c.ranges.number) in
    ap (λ x. Some x) c.named_by.ensures
    ∙ sym (named_here (of_item f z) xs i a n (names z (i + 1) a.0) (names_in_shell f a.0) there refl (alike a.0 c.args.number fits c.if-shell-number.true))
    ∙ c.shells.invariant ∙ back

pub returns-in-Some-first_in_shell : goal.returns-in-Some-first_in_shell
unfolding first_naming
returns-in-Some-first_in_shell c =
    let f = c.args.file.now in
    let z = to_z w64 (of_z w64 c.args.solid) in
    let n = to_z w64 (of_z w64 c.args.number) in
    let xs = c.in-Some.record.outer ∷ c.in-Some.record.voids in
    let i = c.shells.item in
    let a = c.unwrap-shell.result in
    let fits : SFits w64 a.0 = search rules in
    let there = sym c.unwrap-shell.ensures ∙ c.item.ensures in
    let back = same_number f c.args.solid c.args.number z n (to_z-of_z w64 c.args.solid c.ranges.solid) (to_z-of_z w64 c.args.number c.ranges.number) in
    sym (named_within (of_item f z) xs i a n (names z (i + 1) a.0) (names_in_shell f a.0) c.in-Some-first_in_shell.found there refl
    (unlike a.0 c.args.number c.ranges.number c.if-shell-number.false)
    (ap (λ x. first_of n (names_in_shell f x)) (sym (to_z-of_z w64 a.0 fits)) ∙ sym c.first_in_shell.ensures ∙ c.in-Some-first_in_shell.is))
    ∙ c.shells.invariant ∙ back

pub shells-preserved : goal.shells-preserved
unfolding first_naming
shells-preserved c =
    let f = c.args.file.now in
    let z = to_z w64 (of_z w64 c.args.solid) in
    let n = to_z w64 (of_z w64 c.args.number) in
    let xs = c.in-Some.record.outer ∷ c.in-Some.record.voids in
    let i = c.shells.item in
    let a = c.unwrap-shell.result in
    let fits : SFits w64 a.0 = search rules in
    let there = sym c.unwrap-shell.ensures ∙ c.item.ensures in
    sym (not_named (of_item f z) xs i a n (names z (i + 1) a.0) (names_in_shell f a.0) there refl
    (unlike a.0 c.args.number c.ranges.number c.if-shell-number.false)
    (ap (λ x. first_of n (names_in_shell f x)) (sym (to_z-of_z w64 a.0 fits)) ∙ sym c.first_in_shell.ensures ∙ c.in_default-first_in_shell.is))
    ∙ c.shells.invariant

pub returns : goal.returns
unfolding first_naming
returns c =
    let f = c.args.file.now in
    let z = to_z w64 (of_z w64 c.args.solid) in
    let n = to_z w64 (of_z w64 c.args.number) in
    let xs = c.in-Some.record.outer ∷ c.in-Some.record.voids in
    let i = c.shells.item in
    let back = same_number f c.args.solid c.args.number z n (to_z-of_z w64 c.args.solid c.ranges.solid) (to_z-of_z w64 c.args.number c.ranges.number) in
    let past : length xs ≤ i = omega arith in
    sym (named_by_none (of_item f z) xs n i past) ∙ c.shells.invariant ∙ back

pub unwrap-shell-requires : goal.unwrap-shell-requires
unwrap-shell-requires c =
    let xs = c.in-Some.record.outer ∷ c.in-Some.record.voids in
    let within : c.shells.item < length xs = omega arith in
    subst (λ (o : Option (ℤ × Bool)). IsSome o) (sym c.item.ensures) (is_there xs c.shells.item within)

pub shells-init : goal.shells-init
unfolding first_naming
shells-init c = ap (λ xs. first_of (to_z w64 (of_z w64 c.args.number))
    (flat_map (of_item c.args.file.now (to_z w64 (of_z w64 c.args.solid))) (enumerate_from 1 xs))) (sym c.in-Some.ensures)

pub returns-in_default : goal.returns-in_default
unfolding first_naming
returns-in_default c =
    let f = c.args.file.now in
    let z = to_z w64 (of_z w64 c.args.solid) in
    sym (ap (λ xs. first_of c.args.number (flat_map (of_item f z) (enumerate_from 1 xs))) c.in_default.ensures)
    ∙ same_number f c.args.solid c.args.number z c.args.number (to_z-of_z w64 c.args.solid c.ranges.solid) refl
