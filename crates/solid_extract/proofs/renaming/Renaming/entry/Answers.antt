use Rattle.std.proofs.Common.{◌≡◌, ◌∙◌, rules, to_z, of_z, w64, ap, subst, sym, ℤ}
use Rattle.std.specs.Prelude.{IsTrue}
use Rattle.iges_directory.specs.Bounds.{fits_columns}
use Rattle.solid_extract.specs.Extracted.{if_number, renamed}
use Rattle.solid_extract.proofs.Entries.{new_colour, entry_is, entry_bounded}
use Rattle.solid_extract.proofs.renaming.Renaming.entry.Goals as goal

pub returns-clause-is : goal.returns-clause-is
returns-clause-is c =
    let e = c.args.entry.now in
    let kind : to_z w64 (of_z w64 e.kind) ≡ e.kind = search rules in
    let font : to_z w64 (of_z w64 c.if_number.result) ≡ c.if_number.result = search rules in
    let level : to_z w64 (of_z w64 c.if_number-2.result) ≡ c.if_number-2.result = search rules in
    let matrix : to_z w64 (of_z w64 c.renamed.result) ≡ c.renamed.result = search rules in
    let weight : to_z w64 (of_z w64 e.weight) ≡ e.weight = search rules in
    let colour : to_z w64 (of_z w64 c.colour.result) ≡ c.colour.result = search rules in
    let form : to_z w64 (of_z w64 e.form) ≡ e.form = search rules in
    let subscript : to_z w64 (of_z w64 e.subscript) ≡ e.subscript = search rules in
    let fonts : to_z w64 (of_z w64 e.font) ≡ e.font = search rules in
    let levels : to_z w64 (of_z w64 e.level) ≡ e.level = search rules in
    let matrices : to_z w64 (of_z w64 e.matrix) ≡ e.matrix = search rules in
    let colours : to_z w64 (of_z w64 e.colour) ≡ e.colour = search rules in
    entry_is e c.args.self.now _ _ _ _ _ _ _ _ kind (font ∙ (c.if_number.ensures ∙ ap if_number fonts)) (level ∙ (c.if_number-2.ensures ∙ ap if_number levels))
    (matrix ∙ (c.renamed.ensures.is ∙ ap (renamed c.args.self.now) matrices)) weight
    (colour ∙ (c.colour.ensures.is ∙ ap (new_colour c.args.self.now) colours)) form subscript

pub returns-clause-bounded : goal.returns-clause-bounded
returns-clause-bounded c =
    let e = c.args.entry.now in
    let kind : to_z w64 (of_z w64 e.kind) ≡ e.kind = search rules in
    let font : to_z w64 (of_z w64 c.if_number.result) ≡ c.if_number.result = search rules in
    let level : to_z w64 (of_z w64 c.if_number-2.result) ≡ c.if_number-2.result = search rules in
    let matrix : to_z w64 (of_z w64 c.renamed.result) ≡ c.renamed.result = search rules in
    let weight : to_z w64 (of_z w64 e.weight) ≡ e.weight = search rules in
    let colour : to_z w64 (of_z w64 c.colour.result) ≡ c.colour.result = search rules in
    let form : to_z w64 (of_z w64 e.form) ≡ e.form = search rules in
    let subscript : to_z w64 (of_z w64 e.subscript) ≡ e.subscript = search rules in
    let fonts : to_z w64 (of_z w64 e.font) ≡ e.font = search rules in
    let levels : to_z w64 (of_z w64 e.level) ≡ e.level = search rules in
    let matrices : to_z w64 (of_z w64 e.matrix) ≡ e.matrix = search rules in
    let colours : to_z w64 (of_z w64 e.colour) ≡ e.colour = search rules in
    entry_bounded e c.args.self.now _ _ _ _ _ _ _ _ kind (font ∙ (c.if_number.ensures ∙ ap if_number fonts))
    (level ∙ (c.if_number-2.ensures ∙ ap if_number levels)) (matrix ∙ (c.renamed.ensures.is ∙ ap (renamed c.args.self.now) matrices)) weight
    (colour ∙ (c.colour.ensures.is ∙ ap (new_colour c.args.self.now) colours)) form subscript c.requires
    (c.renamed.ensures.few.0, matrix ∙ c.renamed.ensures.few.1, c.renamed.ensures.few.2)
    (subst (λ (z : ℤ). IsTrue (fits_columns z)) (sym colour) c.colour.ensures.fits)
