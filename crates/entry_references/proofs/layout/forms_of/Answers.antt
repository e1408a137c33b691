use Rattle.std.proofs.Common.{◌≡◌, ℕ, ℤ, pos, Option, sym, ap, false, rules, arith}
use Rattle.std.specs.Prelude.{option_map}
use Rattle.std.specs.Ordering.{int_eq}
use Rattle.entry_references.specs.Layout.{Layout, listed}
use Rattle.entry_references.proofs.TableRows.{unlisted}
use Rattle.entry_references.proofs.layout.forms_of.Goals as goal

pub returns-in_default : goal.returns-in_default
returns-in_default c form =
    let n100 : int_eq c.args.kind (pos 100) ≡ false = search rules in
    let n102 : int_eq c.args.kind (pos 102) ≡ false = search rules in
    let n104 : int_eq c.args.kind (pos 104) ≡ false = search rules in
    let n106 : int_eq c.args.kind (pos 106) ≡ false = search rules in
    let n108 : int_eq c.args.kind (pos 108) ≡ false = search rules in
    let n110 : int_eq c.args.kind (pos 110) ≡ false = search rules in
    let n112 : int_eq c.args.kind (pos 112) ≡ false = search rules in
    let n116 : int_eq c.args.kind (pos 116) ≡ false = search rules in
    let n118 : int_eq c.args.kind (pos 118) ≡ false = search rules in
    let n120 : int_eq c.args.kind (pos 120) ≡ false = search rules in
    let n122 : int_eq c.args.kind (pos 122) ≡ false = search rules in
    let n123 : int_eq c.args.kind (pos 123) ≡ false = search rules in
    let n124 : int_eq c.args.kind (pos 124) ≡ false = search rules in
    let n126 : int_eq c.args.kind (pos 126) ≡ false = search rules in
    let n128 : int_eq c.args.kind (pos 128) ≡ false = search rules in
    let n140 : int_eq c.args.kind (pos 140) ≡ false = search rules in
    let n190 : int_eq c.args.kind (pos 190) ≡ false = search rules in
    let n192 : int_eq c.args.kind (pos 192) ≡ false = search rules in
    let n194 : int_eq c.args.kind (pos 194) ≡ false = search rules in
    let n196 : int_eq c.args.kind (pos 196) ≡ false = search rules in
    let n198 : int_eq c.args.kind (pos 198) ≡ false = search rules in
    let n314 : int_eq c.args.kind (pos 314) ≡ false = search rules in
    let n406 : int_eq c.args.kind (pos 406) ≡ false = search rules in
    sym (ap (λ (o : Option (ℕ × Layout)). option_map (λ (x : ℕ × Layout). x.1) o) (unlisted c.args.kind (listed form)
    (n100, (n102, (n104, (n106, (n108, (n110, (n112, (n116, (n118, (n120, (n122, (n123, (n124, (n126, (n128, (n140, (n190, (n192, (n194, (n196, (n198, (n314, (n406, tt)))))))))))))))))))))))))
