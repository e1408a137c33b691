-- The pass over the global, joined from its steps.
use Rattle.std.proofs.Common.{◌≡◌, ℕ, ◌+◌, ◌-◌, List, length, take, Option, Some, None, Result, Ok, Err, refl, sym, ap, subst, ◌∙◌, arith}
use Rattle.std.proofs.Math.Seq.{take-length}
use Rattle.std.specs.Prelude.{slice_range, flat_map}
use Rattle.iges_fields.specs.declared.value.Value.{Value}
use Rattle.iges_fields.specs.declared.fault.FieldFault.{FieldFault}
use Rattle.iges_fields.specs.Delims.{Delims}
use Rattle.iges_fields.specs.Reading.{◌>>=◌, read_values}
use Rattle.iges_lines.specs.declared.fault.PassFault.{PassFault}
use Rattle.iges_lines.specs.declared.reason.Reason.TheVariants.{GlobalValue}
use Rattle.iges_lines.specs.Gives.{Fails, Gives}
use Rattle.iges_lines.specs.Lines.{SectionLines, columns}
use Rattle.iges_params.specs.declared.global.Global26.{Global26}
use Rattle.iges_params.specs.Global.{Head, head, global_text}
use Rattle.iges_params.specs.Reading.{at_line, read_passage, with_kinds, global_with, head_values, global_of_head, read_global}
use Rattle.iges_params.proofs.Passes.{fault_passes, goes_on}

-- the values behind the head, and then their kinds
with_values : (first : ℕ) (text : List ℕ) (d : Delims) (values : Option (List ℕ)) →
    (head_values first text d values >>= with_kinds first d) ≡ global_with first text d values
unfolding read_passage
with_values first text d None = refl
with_values first text d (Some rest) = by_read (read_values d rest)
  where
    by_read : (r : Result (List Value × ℕ) FieldFault)
        → (at_line first 72 text (length text - length rest) GlobalValue r >>= (λ x. Ok x.0) >>= with_kinds first d) ≡
        (at_line first 72 text (length text - length rest) GlobalValue r >>= λ x. with_kinds first d x.0)
    by_read (Ok x) = refl
    by_read (Err f) = refl

pub values_fail : (first : ℕ) (text : List ℕ) (h : Head) (e : PassFault) → head text ≡ Some h → Fails e (head_values first text h.delims h.values) →
    Fails e (global_of_head first text (head text))
values_fail first text h e is f =
    subst (λ (o : Option Head). Fails e (global_of_head first text o)) (sym is)
    (subst (Fails e) (with_values first text h.delims h.values) (fault_passes e (head_values first text h.delims h.values) (with_kinds first h.delims) f))

pub values_go_on : (first : ℕ) (text : List ℕ) (h : Head) (values : List Value) (r : Result Global26 PassFault) → head text ≡ Some h →
    head_values first text h.delims h.values ≡ Ok values
    → Gives r (with_kinds first h.delims values) → Gives r (global_of_head first text (head text))
values_go_on first text h values r is read g =
    subst (λ (o : Option Head). Gives r (global_of_head first text o)) (sym is)
    (subst (Gives r) (with_values first text h.delims h.values)
    (goes_on values (head_values first text h.delims h.values) (with_kinds first h.delims) r read g))

pub global_from : (s : SectionLines) (text : List ℕ) (n first : ℕ) (r : Result Global26 PassFault) → n ≡ length s.global →
    text ≡ flat_map (columns 1 72) (slice_range s.global 0 (0 + n)) → first ≡ length s.start + 1
    → Gives r (global_of_head first text (head text)) → Gives r (read_global s)
unfolding read_global
global_from s text n first r all t f h =
    let count : 0 + n - 0 ≡ length s.global = omega (arith, all) in
    let whole : slice_range s.global 0 (0 + n) ≡ s.global = ap (λ (k : ℕ). take k s.global) count ∙ take-length s.global in
    let is : text ≡ global_text s = t ∙ ap (flat_map (columns 1 72)) whole in
    subst (λ (k : ℕ). Gives r (global_of_head k (global_text s) (head (global_text s)))) f
    (subst (λ (x : List ℕ). Gives r (global_of_head first x (head x))) is h)
