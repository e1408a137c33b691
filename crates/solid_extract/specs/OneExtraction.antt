-- A solid is extracted in one way, or refused in one.
use Rattle.std.specs.Prelude.{◌≡◌, ℕ}
use Rattle.iges_params.specs.Contents.{Contents}
use Rattle.entry_references.specs.declared.fault.ExtractReason.{ExtractReason}
use Rattle.solid_extract.specs.Extracted.{IsRefused, IsExtracted}

abbrev pub OneFile : Type 0
OneFile = (f : Contents) (n : ℕ) (a b : Contents) → IsExtracted f n a → IsExtracted f n b → a ≡ b

abbrev pub OneRefusal : Type 0
OneRefusal = (f : Contents) (n e k : ℕ) (r s : ExtractReason) → IsRefused f n e r → IsRefused f n k s → (e ≡ k) × (r ≡ s)

abbrev pub NotBoth : Type 0
NotBoth = (f : Contents) (n : ℕ) (a : Contents) (e : ℕ) (r : ExtractReason) → IsExtracted f n a → ¬ IsRefused f n e r
