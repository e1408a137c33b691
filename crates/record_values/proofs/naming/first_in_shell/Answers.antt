use Rattle.std.proofs.Common.{◌≡◌, Some, ℕ, ℤ, Bool, ◌+◌, ◌≤◌, List, ◌∷◌, length, sym, ◌∙◌, ap, refl, arith, rules, of_z, to_z}
use Rattle.std.proofs.lemmas.Int.{to_z-of_z}
use mir.Val.{SFits}
use mir.Syntax.{w64}
use Rattle.iges_params.specs.Contents.{Contents}
use Rattle.record_values.specs.Naming.{Names, first_of, names, names_in_shell, names_in_face}
use Rattle.record_values.proofs.Names.{alike, unlike, named_by_none, named_here, named_within, not_named}
use Rattle.record_values.proofs.naming.first_in_shell.Goals as goal

-- what an item names
abbrev of_item : Contents → ℤ → ℕ × (ℤ × Bool) → List Names
of_item f z x = names z x.0 x.1.0 ∷ names_in_face f x.1.0

-- a number as the loop has it
same_number : (f : Contents) (z n y m : ℤ) → y ≡ z → m ≡ n → first_of m (names_in_shell f y) ≡ first_of n (names_in_shell f z)
same_number f z n y m e k = ap (λ x. first_of m (names_in_shell f x)) e ∙ ap (λ x. first_of x (names_in_shell f z)) k

pub returns-then-face-number : goal.returns-then-face-number
returns-then-face-number c =
    let f = c.args.file.now in
    let z = to_z w64 (of_z w64 c.args.shell) in
    let n = to_z w64 (of_z w64 c.args.number) in
    let xs = c.in-Some.record in
    let i = c.faces.item in
    let a = c.unwrap-face.result in
    let fits : SFits w64 a.0 = search rules in
    let there = sym c.unwrap-face.ensures ∙ c.item.ensures in
    let back = same_number f c.args.shell c.args.number z n (to_z-of_z w64 c.args.shell c.ranges.shell) (to_z-of_z w64 c.args.number c.ranges.number) in
    ap (λ x. Some x) c.named_by.ensures
    ∙ sym (named_here (of_item f z) xs i a n (names z (i + 1) a.0) (names_in_face f a.0) there refl (alike a.0 c.args.number fits c.if-face-number.true))
    ∙ c.faces.invariant ∙ back

pub returns-in-Some-first_in_face : goal.returns-in-Some-first_in_face
returns-in-Some-first_in_face c =
    let f = c.args.file.now in
    let z = to_z w64 (of_z w64 c.args.shell) in
    let n = to_z w64 (of_z w64 c.args.number) in
    let xs = c.in-Some.record in
    let i = c.faces.item in
    let a = c.unwrap-face.result in
    let fits : SFits w64 a.0 = search rules in
    let there = sym c.unwrap-face.ensures ∙ c.item.ensures in
    let back = same_number f c.args.shell c.args.number z n (to_z-of_z w64 c.args.shell c.ranges.shell) (to_z-of_z w64 c.args.number c.ranges.number) in
    sym (named_within (of_item f z) xs i a n (names z (i + 1) a.0) (names_in_face f a.0) c.in-Some-first_in_face.found there refl
    (unlike a.0 c.args.number c.ranges.number c.if-face-number.false)
    (ap (λ x. first_of n (names_in_face f x)) (sym (to_z-of_z w64 a.0 fits)) ∙ sym c.first_in_face.ensures ∙ c.in-Some-first_in_face.is))
    ∙ c.faces.invariant ∙ back

pub faces-preserved : goal.faces-preserved
faces-preserved c =
    let f = c.args.file.now in
    let z = to_z w64 (of_z w64 c.args.shell) in
    let n = to_z w64 (of_z w64 c.args.number) in
    let xs = c.in-Some.record in
    let i = c.faces.item in
    let a = c.unwrap-face.result in
    let fits : SFits w64 a.0 = search rules in
    let there = sym c.unwrap-face.ensures ∙ c.item.ensures in
    sym (not_named (of_item f z) xs i a n (names z (i + 1) a.0) (names_in_face f a.0) there refl
    (unlike a.0 c.args.number c.ranges.number c.if-face-number.false)
    (ap (λ x. first_of n (names_in_face f x)) (sym (to_z-of_z w64 a.0 fits)) ∙ sym c.first_in_face.ensures ∙ c.in_default-first_in_face.is))
    ∙ c.faces.invariant

pub returns : goal.returns
returns c =
    let f = c.args.file.now in
    let z = to_z w64 (of_z w64 c.args.shell) in
    let n = to_z w64 (of_z w64 c.args.number) in
    let xs = c.in-Some.record in
    let i = c.faces.item in
    let back = same_number f c.args.shell c.args.number z n (to_z-of_z w64 c.args.shell c.ranges.shell) (to_z-of_z w64 c.args.number c.ranges.number) in
    let past : length xs ≤ i = omega arith in
    sym (named_by_none (of_item f z) xs n i past) ∙ c.faces.invariant ∙ back
