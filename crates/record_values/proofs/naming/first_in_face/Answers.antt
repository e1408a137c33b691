use Rattle.std.proofs.Common.{◌≡◌, Some, ℕ, ℤ, ◌+◌, ◌≤◌, List, [], ◌∷◌, length, sym, ◌∙◌, ap, refl, arith, rules, of_z, to_z}
use Rattle.std.proofs.lemmas.Int.{to_z-of_z}
use mir.Val.{SFits}
use mir.Syntax.{w64}
use Rattle.iges_params.specs.Contents.{Contents}
use Rattle.record_values.specs.Naming.{Names, first_of, names, names_in_face}
use Rattle.record_values.proofs.Names.{alike, unlike, named_by_none, named_here, not_named}
use Rattle.record_values.proofs.naming.first_in_face.Goals as goal

-- what an item names
abbrev of_item : Contents → ℤ → ℕ × ℤ → List Names
of_item f z x = names z x.0 x.1 ∷ []

-- a number as the loop has it
same_number : (f : Contents) (z n y m : ℤ) → y ≡ z → m ≡ n → first_of m (names_in_face f y) ≡ first_of n (names_in_face f z)
same_number f z n y m e k = ap (λ x. first_of m (names_in_face f x)) e ∙ ap (λ x. first_of x (names_in_face f z)) k

pub returns-then-named-number : goal.returns-then-named-number
returns-then-named-number c =
    let f = c.args.file.now in
    let z = to_z w64 (of_z w64 c.args.face) in
    let n = to_z w64 (of_z w64 c.args.number) in
    let xs = c.in-Some.record.loops in
    let i = c.loops.item in
    let a = c.unwrap-named.result in
    let fits : SFits w64 a = search rules in
    let there = sym c.unwrap-named.ensures ∙ c.item.ensures in
    let back = same_number f c.args.face c.args.number z n (to_z-of_z w64 c.args.face c.ranges.face) (to_z-of_z w64 c.args.number c.ranges.number) in
    ap (λ x. Some x) c.named_by.ensures
    ∙ sym (named_here (of_item f z) xs i a n (names z (i + 1) a) ([]) there refl (alike a c.args.number fits c.if-named-number.true))
    ∙ c.loops.invariant ∙ back

pub loops-preserved : goal.loops-preserved
loops-preserved c =
    let f = c.args.file.now in
    let z = to_z w64 (of_z w64 c.args.face) in
    let n = to_z w64 (of_z w64 c.args.number) in
    let xs = c.in-Some.record.loops in
    let i = c.loops.item in
    let a = c.unwrap-named.result in
    let fits : SFits w64 a = search rules in
    let there = sym c.unwrap-named.ensures ∙ c.item.ensures in
    sym (not_named (of_item f z) xs i a n (names z (i + 1) a) ([]) there refl (unlike a c.args.number c.ranges.number c.if-named-number.false) refl)
    ∙ c.loops.invariant

pub returns : goal.returns
returns c =
    let f = c.args.file.now in
    let z = to_z w64 (of_z w64 c.args.face) in
    let n = to_z w64 (of_z w64 c.args.number) in
    let xs = c.in-Some.record.loops in
    let i = c.loops.item in
    let back = same_number f c.args.face c.args.number z n (to_z-of_z w64 c.args.face c.ranges.face) (to_z-of_z w64 c.args.number c.ranges.number) in
    let past : length xs ≤ i = omega arith in
    sym (named_by_none (of_item f z) xs n i past) ∙ c.loops.invariant ∙ back
