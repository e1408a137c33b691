use Rattle.std.proofs.Common.{◌≡◌, List, ℕ, ◌∷◌, ◌++◌, ap, subst, ◌∙◌}
use Rattle.std.specs.Prelude.{OnOk}
use Rattle.equal_values.proofs.Powers.{told_high, told_low}
use Rattle.equal_values.proofs.exponent.put_exponent.Goals as goal

pub returns-then-scale-ge-FAR : goal.returns-then-scale-ge-FAR
returns-then-scale-ge-FAR c =
    subst (λ (t : List ℕ). OnOk c.put_behind.result (c.put_behind.new.text.items ≡ c.args.text.now.items ++ t))
    (ap (λ (t : List ℕ). 69 ∷ t) (c.as_bytes.ensures.value ∙ c.format.ensures.text) ∙ told_high c.args.scale c.if-scale-ge-FAR.true)
    c.put_behind.ensures

pub returns-else-scale-ge-FAR : goal.returns-else-scale-ge-FAR
returns-else-scale-ge-FAR c =
    subst (λ (t : List ℕ). OnOk c.put_behind-else-scale-ge-FAR.result (c.put_behind-else-scale-ge-FAR.new.text.items ≡ c.args.text.now.items ++ t))
    (ap (λ (t : List ℕ). 101 ∷ t) (c.as_bytes-else-scale-ge-FAR.ensures.value ∙ c.format-else-scale-ge-FAR.ensures.text) ∙ told_low c.args.scale c.if-scale-ge-FAR.false)
    c.put_behind-else-scale-ge-FAR.ensures
