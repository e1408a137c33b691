-- Numbers that an entry refers to, and entries that are put into a set.
use Rattle.std.specs.Prelude.{◌≡◌, ◌⊎◌, ℕ, zero, suc, Bool, true, false, ◌&&◌, ℤ, pos, negsuc, unsigned_abs, List, [], ◌∷◌, ◌++◌, length, Option, Some, None}
use Rattle.std.specs.Prelude.{Result, Ok, Err, if◌then◌else◌, IsErrAnd, IfErr, IfOk, MatchOption, ◌≤◌, is_some, filter, filter_map, Contains}
use Rattle.std.specs.List.{list_all}
use Rattle.std.specs.Ordering.{int_eq}
use Rattle.std.proofs.Common.{refl, sym, ap, subst, ◌∙◌, arith, inl, inr}
use Rattle.std.proofs.lemmas.Bool.{and_from, and_parts}
use Rattle.std.proofs.lemmas.List.Folds.{list_all-append}
use Rattle.std.proofs.lemmas.Option.{none-some, same_Some}
use Rattle.iges_base.proofs.Tests.{passes}
use Rattle.iges_base.specs.declared.entry_no.EntryNo.{EntryNo}
use Rattle.iges_base.specs.declared.TheConstants.{FILE_LIMIT}
use Rattle.iges_directory.specs.Bounds.{IsBounded}
use Rattle.entry_references.specs.declared.record.Record.{Record as Found}
use Rattle.iges_params.specs.Contents.{Contents}
use Rattle.iges_params.specs.Named.{named}
use Rattle.entry_references.specs.declared.fault.ExtractReason.{ExtractReason}
use Rattle.entry_references.specs.declared.fault.ExtractReason.TheVariants as reason
use Rattle.entry_references.specs.declared.fault.RefFault.{RefFault}
use Rattle.entry_references.specs.declared.fault.RefFault.TheVariants as fault
use Rattle.entry_references.specs.Answered.{TellsFault}
use Rattle.entry_references.specs.EntrySets.{IsWithin, is_among, with_number, with_numbers, AreRising, numbers_of}
use Rattle.entry_references.specs.Layout.{Own}
use Rattle.entry_references.specs.Refs.{Record, is_listed, has_layout, names_entry, pointers_of, names_of, is_name, number_of, own_of, second_group}
use Rattle.entry_references.specs.Refs.{entry_fault, refs}
use Rattle.entry_references.specs.References.{RefersTo, AreReferences, HasFault, IsRefFault, Gives}
use Rattle.entry_references.proofs.NamedRecords.{named_within}
use Rattle.entry_references.proofs.RisingLists.{In, in_from, contains_at, among_in, same_increasing, in_front}

-- ---- each number that an entry refers to names an entry

name_named : (f : Contents) (z : ℤ) → is_name f z ≡ true → names_entry f z ≡ true
name_named f z e = by_option (named f z) e
  where
    by_option : (o : Option Record) → elim o as (λ _. Bool) [ Some r ↦ int_eq r.0.kind (pos 406) && int_eq r.0.form (pos 15) | None ↦ false ] ≡ true
        → is_some o ≡ true
    by_option None k = k
    by_option (Some r) k = refl

all_named : (f : Contents) (zs : List ℤ) → list_all (names_entry f) (filter (is_name f) zs) ≡ true
all_named f [] = refl
all_named f (z ∷ zs) = by_test (is_name f z) refl (all_named f zs)
  where
    by_test : (b : Bool) → is_name f z ≡ b → list_all (names_entry f) (filter (is_name f) zs) ≡ true
        → list_all (names_entry f) (if b then z ∷ filter (is_name f) zs else filter (is_name f) zs) ≡ true
    by_test true t on = and_from (names_entry f z) (list_all (names_entry f) (filter (is_name f) zs)) (name_named f z t) on
    by_test false t on = on

refs_parts : (o : Option ExtractReason) (ns ks : List ℤ) → elim o as (λ _. Result (List ℤ) ExtractReason) [ Some reason ↦ Err reason | None ↦ Ok ns ] ≡ Ok ks
    → (o ≡ None) × (ns ≡ ks)
refs_parts None ns ks e = (refl, cc)
refs_parts (Some x) ns ks e = absurd cc

pub refs_faultless : (f : Contents) (r : Record) (ks : List ℤ) → refs f r ≡ Ok ks → entry_fault f r ≡ None
refs_faultless f r ks e = (refs_parts (entry_fault f r) (pointers_of r ++ names_of f r) ks e).0

pub refs_named : (f : Contents) (r : Record) (ks : List ℤ) → refs f r ≡ Ok ks → list_all (names_entry f) ks ≡ true
refs_named f r ks e =
    let parts = refs_parts (entry_fault f r) (pointers_of r ++ names_of f r) ks e in
    let tests = passes ((is_listed r, reason.Unlisted) ∷ (has_layout r, reason.Layout) ∷ (list_all (names_entry f) (pointers_of r), reason.Dangling) ∷ [])
    parts.0 in
    ap (list_all (names_entry f)) (sym parts.1)
    ∙ (list_all-append (names_entry f) (pointers_of r) (names_of f r) ∙ and_from (list_all (names_entry f) (pointers_of r))
    (list_all (names_entry f) (names_of f r)) tests.1.1.0 names)
  where
    by_own : (o : Option Own)
        → list_all (names_entry f)
        (elim o as (λ _. List ℤ) [ Some own ↦ filter (is_name f) (filter_map number_of (second_group own r.1).pointers) | None ↦ [] ]) ≡ true
    by_own None = refl
    by_own (Some own) = all_named f (filter_map number_of (second_group own r.1).pointers)

    names : list_all (names_entry f) (names_of f r) ≡ true
    names = by_own (own_of r)

fault_parts : (o : Option ExtractReason) (ns : List ℤ) (x : ExtractReason)
    → elim o as (λ _. Result (List ℤ) ExtractReason) [ Some reason ↦ Err reason | None ↦ Ok ns ] ≡ Err x → o ≡ Some x
fault_parts None ns x e = absurd cc
fault_parts (Some y) ns x e = let same : y ≡ x = cc in ap (λ z. Some z) same

pub refs_fault : (f : Contents) (r : Record) (x : ExtractReason) → refs f r ≡ Err x → entry_fault f r ≡ Some x
refs_fault f r x e = fault_parts (entry_fault f r) (pointers_of r ++ names_of f r) x e

-- ---- numbers put into a set

natural : (f : Contents) (z : ℤ) → names_entry f z ≡ true → z ≡ pos (unsigned_abs z)
natural f (pos n) e = refl
natural f (negsuc n) e = absurd (let g : false ≡ true = e in cc)

pub number_within : (f : Contents) (z : ℤ) (n : ℕ) → names_entry f z ≡ true → z ≡ pos n → IsWithin (length f.entries) n
number_within f z n e is = by_option (named f (pos n)) refl (ap (names_entry f) (sym is) ∙ e)
  where
    by_option : (o : Option Record) → named f (pos n) ≡ o → is_some o ≡ true → IsWithin (length f.entries) n
    by_option None k t = absurd (let g : false ≡ true = t in cc)
    by_option (Some r) k t = named_within f n r k

pub unnamed : (f : Contents) (z : ℤ) → names_entry f z ≡ true → named f z ≡ None → ⊥
unnamed f z e none = let g : false ≡ true = sym (ap (λ (o : Option Record). is_some o) none) ∙ e in absurd cc

into_one : (ns : List ℕ) (a m : ℕ) → In (with_number ns a) m → In ns m ⊎ (a ≡ m)
into_one ns a m h = by_test (is_among ns a) refl h
  where
    pushed : (xs : List ℕ) → In (xs ++ a ∷ []) m → In xs m ⊎ (a ≡ m)
    pushed [] (inl e) = inr e
    pushed [] (inr i) = absurd i
    pushed (x ∷ xs) (inl e) = inl (inl e)
    pushed (x ∷ xs) (inr i) = elim (pushed xs i) [ inl j ↦ inl (inr j) | inr e ↦ inr e ]

    by_test : (b : Bool) → is_among ns a ≡ b → In (if b then ns else ns ++ a ∷ []) m → In ns m ⊎ (a ≡ m)
    by_test true t i = inl i
    by_test false t i = pushed ns i

push_last : (xs : List ℕ) (a m : ℕ) → a ≡ m → In (xs ++ a ∷ []) m
push_last [] a m e = inl e
push_last (x ∷ xs) a m e = inr (push_last xs a m e)

from_one : (ns : List ℕ) (a m : ℕ) → In ns m ⊎ (a ≡ m) → In (with_number ns a) m
from_one ns a m h = by_test (is_among ns a) refl h
  where
    by_test : (b : Bool) → is_among ns a ≡ b → In ns m ⊎ (a ≡ m) → In (if b then ns else ns ++ a ∷ []) m
    by_test true t (inl i) = i
    by_test true t (inr e) = subst (In ns) e (among_in ns a t)
    by_test false t (inl i) = in_front ns (a ∷ []) m i
    by_test false t (inr e) = push_last ns a m e

later : (z : ℤ) (zs : List ℤ) (x : ℤ) → Contains zs x → Contains (z ∷ zs) x
later z zs x c = (suc c.0, omega (arith, c.1), c.2)

pub into_all : (f : Contents) (zs : List ℤ) (ns : List ℕ) (m : ℕ) → list_all (names_entry f) zs ≡ true → In (with_numbers ns zs) m
    → In ns m ⊎ Contains zs (pos m)
into_all f [] ns m h i = inl i
into_all f (z ∷ zs) ns m h i =
    let both = and_parts (names_entry f z) (list_all (names_entry f) zs) h in
    elim (into_all f zs (with_number ns (unsigned_abs z)) m both.1 i) [
      | inl j ↦ elim (into_one ns (unsigned_abs z) m j) [ inl k ↦ inl k | inr e ↦ inr (0, omega arith, natural f z both.0 ∙ ap (λ (n : ℕ). pos n) e) ]
      | inr c ↦ inr (later z zs (pos m) c)
    ]

pub from_all : (f : Contents) (zs : List ℤ) (ns : List ℕ) (m : ℕ) → list_all (names_entry f) zs ≡ true → In ns m ⊎ Contains zs (pos m)
    → In (with_numbers ns zs) m
from_all f [] ns m h (inl i) = i
from_all f [] ns m h (inr c) = absurd (omega (arith, c.1))
from_all f (z ∷ zs) ns m h (inl i) = from_all f zs (with_number ns (unsigned_abs z)) m (and_parts (names_entry f z) (list_all (names_entry f) zs) h).1
    (inl (from_one ns (unsigned_abs z) m (inl i)))
from_all f (z ∷ zs) ns m h (inr (zero, lt, e)) =
    let same : unsigned_abs z ≡ m = ap unsigned_abs e in
    from_all f zs (with_number ns (unsigned_abs z)) m (and_parts (names_entry f z) (list_all (names_entry f) zs) h).1
    (inl (from_one ns (unsigned_abs z) m (inr same)))
from_all f (z ∷ zs) ns m h (inr (suc k, lt, e)) =
    from_all f zs (with_number ns (unsigned_abs z)) m (and_parts (names_entry f z) (list_all (names_entry f) zs) h).1 (inr (k, omega (arith, lt), e))

-- ---- the references of an entry

pub references_are : (f : Contents) (m : ℕ) (r : Record) (ks : List ℤ) (ns : List ℕ) (nos : List EntryNo) → named f (pos m) ≡ Some r → refs f r ≡ Ok ks
    → ns ≡ with_numbers [] ks → AreRising nos ns → AreReferences f m nos
references_are f m r ks ns nos en er es rising = record {
  entry = r;
  is_named = en;
  faultless = refs_faultless f r ks er;
  rising = rising.rising;
  exactly = λ k. ((λ c. there k c), (λ t. back k t));
}
  where
    there : (k : ℕ) → Contains (numbers_of nos) k → RefersTo f m k
    there k c =
        let i : In (with_numbers [] ks) k = subst (λ (xs : List ℕ). In xs k) es (in_from ns k ((rising.same k).0 c)) in
        elim (into_all f ks [] k (refs_named f r ks er) i) [ inl j ↦ absurd j | inr d ↦ (r, ks, en, er, d) ]

    back : (k : ℕ) → RefersTo f m k → Contains (numbers_of nos) k
    back k t =
        let same : r ≡ t.0 = same_Some r t.0 (sym en ∙ t.2) in
        let ok : ks ≡ t.1 = ok_same ks t.1 (sym er ∙ (ap (refs f) same ∙ t.3)) in
        let d : Contains ks (pos k) = subst (λ (xs : List ℤ). Contains xs (pos k)) (sym ok) t.4 in
        (rising.same k).1 (contains_at ns k (subst (λ (xs : List ℕ). In xs k) (sym es) (from_all f ks [] k (refs_named f r ks er) (inr d))))
      where
        ok_same : (xs ys : List ℤ) → (let a : Result (List ℤ) ExtractReason = Ok xs in a) ≡ Ok ys → xs ≡ ys
        ok_same xs ys e = cc

pub ref_fault : (f : Contents) (m : ℕ) (r : Record) (e : RefFault) → named f (pos m) ≡ Some r → TellsFault e (refs f r) → IsRefFault f m e
ref_fault f m r fault.Unlisted en h = (r, en, refs_fault f r reason.Unlisted h)
ref_fault f m r fault.Layout en h = (r, en, refs_fault f r reason.Layout h)
ref_fault f m r fault.Dangling en h = (r, en, refs_fault f r reason.Dangling h)
ref_fault f m r fault.NoMemory en h = tt

-- ---- one answer

numbers_inj : (xs ys : List EntryNo) → numbers_of xs ≡ numbers_of ys → xs ≡ ys
numbers_inj [] [] e = refl
numbers_inj [] (b ∷ ys) e = absurd (let g : [] ≡ b.0 ∷ numbers_of ys = e in cc)
numbers_inj (a ∷ xs) [] e = absurd (let g : a.0 ∷ numbers_of xs ≡ [] = e in cc)
numbers_inj (a ∷ xs) (b ∷ ys) e =
    let cons : a.0 ∷ numbers_of xs ≡ b.0 ∷ numbers_of ys = e in
    let first : a.0 ≡ b.0 = cc in
    let rest : numbers_of xs ≡ numbers_of ys = cc in
    let one : a ≡ b = ap (λ (n : ℕ). let no : EntryNo = record { 0 = n } in no) first in
    ap (λ (x : EntryNo). x ∷ xs) one ∙ ap (λ (zs : List EntryNo). b ∷ zs) (numbers_inj xs ys rest)

pub same_references : (f : Contents) (m : ℕ) (xs ys : List EntryNo) → AreReferences f m xs → AreReferences f m ys → xs ≡ ys
same_references f m xs ys p q =
    numbers_inj xs ys
    (same_increasing (numbers_of xs) (numbers_of ys) p.rising q.rising
    (λ k i. in_from (numbers_of ys) k ((q.exactly k).1 ((p.exactly k).0 (contains_at (numbers_of xs) k i))))
    (λ k i. in_from (numbers_of xs) k ((p.exactly k).1 ((q.exactly k).0 (contains_at (numbers_of ys) k i)))))

faulty : (f : Contents) (m : ℕ) (nos : List EntryNo) (x : ExtractReason) → AreReferences f m nos → HasFault f m x → ⊥
faulty f m nos x p h =
    let same : p.entry ≡ h.0 = same_Some p.entry h.0 (sym p.is_named ∙ h.1) in
    none-some x (sym p.faultless ∙ (ap (entry_fault f) same ∙ h.2))

one_fault : (f : Contents) (m : ℕ) (x y : ExtractReason) → HasFault f m x → HasFault f m y → y ≡ x
one_fault f m x y h k =
    let same : k.0 ≡ h.0 = same_Some k.0 h.0 (sym k.1 ∙ h.1) in
    same_Some y x (sym k.2 ∙ (ap (entry_fault f) same ∙ h.2))

pub only_references : (f : Contents) (m : ℕ) (result : Result (List EntryNo) RefFault) (nos : List EntryNo)
    → IfOk result (AreReferences f m) → IfErr result (IsRefFault f m)
    → AreReferences f m nos → Gives result (Ok nos)
only_references f m (Ok given) nos found bad h = same_references f m given nos found h
only_references f m (Err fault.Unlisted) nos found bad h = faulty f m nos reason.Unlisted h bad
only_references f m (Err fault.Layout) nos found bad h = faulty f m nos reason.Layout h bad
only_references f m (Err fault.Dangling) nos found bad h = faulty f m nos reason.Dangling h bad
only_references f m (Err fault.NoMemory) nos found bad h = tt

pub only_ref_fault : (f : Contents) (m : ℕ) (result : Result (List EntryNo) RefFault) (x : ExtractReason)
    → IfOk result (AreReferences f m) → IfErr result (IsRefFault f m)
    → HasFault f m x → Gives {T = List EntryNo} result (Err x)
only_ref_fault f m (Ok given) x found bad h = faulty f m given x found h
only_ref_fault f m (Err fault.Unlisted) x found bad h = one_fault f m reason.Unlisted x bad h
only_ref_fault f m (Err fault.Layout) x found bad h = one_fault f m reason.Layout x bad h
only_ref_fault f m (Err fault.Dangling) x found bad h = one_fault f m reason.Dangling x bad h
only_ref_fault f m (Err fault.NoMemory) x found bad h = tt

-- a fault that `?` hands on
pub handed : (f : Contents) (m : ℕ) {T : Type 0} (r : Result T RefFault) (e : RefFault) → IsRefFault f m e → IsErrAnd r (λ x. x ≡ e) → IfErr r (IsRefFault f m)
handed f m (Ok t) e h k = tt
handed f m (Err x) e h k = subst (IsRefFault f m) (sym k) h

pub found_record : (f : Contents) (m : ℕ) (o : Option Found) (r : Found)
    → MatchOption o (named f (pos m) ≡ None)
    (λ r. (named f (pos m) ≡ Some (r.entry.now, r.values.now)) × IsBounded r.entry.now × (length r.values.now ≤ FILE_LIMIT)
    × IsWithin (length f.entries) m) → o ≡ Some r
    → named f (pos m) ≡ Some (r.entry.now, r.values.now)
found_record f m None r h e = absurd (let g : None ≡ Some r = e in cc)
found_record f m (Some q) r h e =
    let same : q ≡ r = same_Some q r e in
    h.0 ∙ ap (λ (x : Found). Some (x.entry.now, x.values.now)) same
