-- The entities that are described, one by one.
use Rattle.std.specs.Prelude.{◌≡◌, ℕ, zero, suc, ◌+◌, ◌-◌, ◌<◌, Bool, true, false, ◌&&◌, pos, List, [], ◌∷◌, ◌++◌, length, map, filter, if◌then◌else◌}
use Rattle.std.proofs.Common.{refl, sym, ap, ◌∙◌, arith, get_or}
use Rattle.iges_base.specs.declared.entry_no.EntryNo.{EntryNo}
use Rattle.iges_params.specs.Contents.{Contents}
use Rattle.entry_references.specs.Refs.{names_entry}
use Rattle.solid_data.specs.Ring.{numbers_from}
use Rattle.where_text.proofs.Steps.{piece_more}
use Rattle.where_entities.specs.Entities.{is_among, is_described, number_at}

taken_or_not : {A : Type 0} (t : Bool) (x : A) (xs : List A) → (if t then x ∷ xs else xs) ≡ (if t then x ∷ [] else []) ++ xs
taken_or_not true x xs = refl
taken_or_not false x xs = refl

abbrev chosen : Contents → List EntryNo → List EntryNo → List EntryNo
chosen f numbers ns = filter (is_described f numbers) ns

pub described_more : (f : Contents) (numbers : List EntryNo) (count i : ℕ) (n : EntryNo) (b : Bool) (old new all : List EntryNo) → i < count → n ≡ number_at i
    → b ≡ is_among numbers (number_at i)
    → new ≡ old ++ filter (λ (m : EntryNo). b && names_entry f (pos m.0)) (n ∷ [])
    → old ++ filter (is_described f numbers) (map number_at (numbers_from i (count - i))) ≡ all
    → new ++ filter (is_described f numbers) (map number_at (numbers_from (i + 1) (count - (i + 1)))) ≡ all
described_more f numbers count i n b old new all lt is marked e h =
    let more : count - i ≡ suc (count - (i + 1)) = omega arith in
    let rest : List EntryNo = map number_at (numbers_from (i + 1) (count - (i + 1))) in
    let here : List EntryNo = chosen f numbers (number_at i ∷ []) in
    let split : chosen f numbers (map number_at (numbers_from i (count - i))) ≡ here ++ chosen f numbers rest =
    ap (λ m. chosen f numbers (map number_at (numbers_from i m))) more ∙ taken_or_not (is_described f numbers (number_at i)) (number_at i)
    (chosen f numbers rest) in
    let put : new ≡ old ++ here =
    e ∙ (ap (λ (m : EntryNo). old ++ filter (λ (m : EntryNo). b && names_entry f (pos m.0)) (m ∷ [])) is
    ∙ ap (λ t. old ++ (if t && names_entry f (pos (number_at i).0) then number_at i ∷ [] else [])) marked) in
    piece_more old new here (chosen f numbers rest) all (ap (λ ns. old ++ ns) (sym split) ∙ h) put

apart : (us : List Bool) (i : ℕ) (a b : Bool) → i < length us → get_or us i a ≡ get_or us i b
apart [] i a b h = absurd (omega (arith, h))
apart (u ∷ us) zero a b h = refl
apart (u ∷ us) (suc i) a b h = apart us i a b (omega (arith, h))

-- a mark by its place
pub mark_is : (marks : List Bool) (i : ℕ) (b : Bool) → i < length marks → b ≡ get_or marks i b → b ≡ get_or marks i false
mark_is marks i b lt is = is ∙ apart marks i b false lt
