-- The steps of a flood.
use Rattle.std.specs.Prelude.{◌≡◌, ◌⊎◌, ℕ, zero, suc, ◌+◌, ◌<◌, ◌≤◌, nat_le, Bool, true, false, ℤ, pos, unsigned_abs, List, [], ◌∷◌, ◌++◌, length, Option, Some}
use Rattle.std.specs.Prelude.{None, Result, Ok, Err, if◌then◌else◌, slice_get, IfOk}
use Rattle.std.proofs.Common.{refl, sym, ap, subst, ◌∙◌, arith, inl, inr, append_assoc}
use Rattle.std.proofs.lemmas.Bool.{cases_lt, leb-true, leb-false}
use Rattle.std.proofs.lemmas.List.{append-nil}
use Rattle.std.proofs.lemmas.Option.{same_Some, slice_get_within, get_or_from_slice_get, slice_get-get_or}
use Rattle.iges_base.specs.declared.entry_no.EntryNo.{EntryNo}
use Rattle.iges_params.specs.Contents.{Contents}
use Rattle.iges_params.specs.Named.{named}
use Rattle.iges_base.specs.declared.no_memory.NoMemory.{NoMemory}
use Rattle.entry_references.specs.Answered.{TellsFault}
use Rattle.entry_references.specs.declared.fault.ExtractReason.{ExtractReason}
use Rattle.entry_references.specs.declared.fault.ExtractReason.TheVariants as reason
use Rattle.entry_references.specs.declared.fault.RefFault.{RefFault}
use Rattle.entry_references.specs.declared.fault.RefFault.TheVariants as fault
use Rattle.entry_references.specs.EntrySets.{is_among, with_number, with_numbers}
use Rattle.entry_references.specs.References.{RefersTo}
use Rattle.entry_references.specs.Refs.{Record, entry_fault, refs}
use Rattle.entry_references.proofs.RisingLists.{In, in_from, contains_at, in_at, in_front}
use Rattle.entry_references.proofs.RefLists.{refs_named, refs_faultless, refs_fault, into_all, from_all}
use Rattle.solid_extract.specs.declared.fault.Refusal.{Refusal}
use Rattle.solid_extract.specs.Extracted.{Reaches, here, further}
use Rattle.solid_extract.specs.Flooding.{fault_at, with_refs, IsToldAs, least_of, IsLeastFault, IsFlooded}

abbrev pub Above : Contents → Option Refusal → ℕ → Type 0
Above f None m = fault_at f m ≡ None
Above f (Some x) m = (fault_at f m ≡ None) ⊎ (x.entity.0 ≤ m)

abbrev pub IsThere : Contents → List ℕ → Option Refusal → Type 0
IsThere f ns None = Unit {0}
IsThere f ns (Some x) = In ns x.entity.0 × (fault_at f x.entity.0 ≡ Some x.reason)

-- the first so many of what is reached so far have been visited
pub record IsFlooding (f : Contents) (n next : ℕ) (ns : List ℕ) (refusal : Option Refusal) : Type 0 where
  pub start : In ns n
  pub reached : (m : ℕ) → In ns m → Reaches f n m
  pub closed : (i m k : ℕ) → i < next → slice_get ns i ≡ Some m → RefersTo f m k → In ns k
  pub above : (i m : ℕ) → i < next → slice_get ns i ≡ Some m → Above f refusal m
  pub there : IsThere f ns refusal

-- ---- a set grows at its end

abbrev Grows : List ℕ → List ℕ → Type 0
Grows ns ms = (xs : List ℕ) × (ms ≡ ns ++ xs)

one_grows : (ns : List ℕ) (a : ℕ) → Grows ns (with_number ns a)
one_grows ns a = by_test (is_among ns a)
  where
    by_test : (b : Bool) → Grows ns (if b then ns else ns ++ a ∷ [])
    by_test true = ([], sym (append-nil ns))
    by_test false = (a ∷ [], refl)

all_grow : (zs : List ℤ) (ns : List ℕ) → Grows ns (with_numbers ns zs)
all_grow [] ns = ([], sym (append-nil ns))
all_grow (z ∷ zs) ns =
    let one = one_grows ns (unsigned_abs z) in
    let rest = all_grow zs (with_number ns (unsigned_abs z)) in
    (one.0 ++ rest.0, rest.1 ∙ (ap (λ (xs : List ℕ). xs ++ rest.0) one.1 ∙ append_assoc ns one.0 rest.0))

refs_grow : (f : Contents) (ns : List ℕ) (m : ℕ) → Grows ns (with_refs f ns m)
refs_grow f ns m = by_named (named f (pos m))
  where
    by_refs : (o : Result (List ℤ) ExtractReason) → Grows ns (elim o as (λ _. List ℕ) [ Ok ks ↦ with_numbers ns ks | Err reason ↦ ns ])
    by_refs (Ok ks) = all_grow ks ns
    by_refs (Err reason) = ([], sym (append-nil ns))

    by_named : (o : Option Record)
        → Grows ns (elim o as (λ _. List ℕ) [ Some r ↦ elim (refs f r) as (λ _. List ℕ) [ Ok ks ↦ with_numbers ns ks | Err reason ↦ ns ] | None ↦ ns ])
    by_named (Some r) = by_refs (refs f r)
    by_named None = ([], sym (append-nil ns))

get_front : (ns xs : List ℕ) (i : ℕ) → i < length ns → slice_get (ns ++ xs) i ≡ slice_get ns i
get_front [] xs i lt = absurd (omega (arith, lt))
get_front (n ∷ ns) xs zero lt = refl
get_front (n ∷ ns) xs (suc i) lt = get_front ns xs i (omega (arith, lt))

in_get : (ns : List ℕ) (i m : ℕ) → slice_get ns i ≡ Some m → In ns m
in_get ns i m e = in_at ns i m (slice_get_within ns i m e) (get_or_from_slice_get ns i m m e)

get_in : (ns : List ℕ) (m : ℕ) → In ns m → (i : ℕ) × (i < length ns) × (slice_get ns i ≡ Some m)
get_in ns m h = let c = contains_at ns m h in (c.0, c.1, slice_get-get_or ns c.0 m c.1 ∙ ap (λ (x : ℕ). Some x) c.2)

-- ---- a visit

module _ (f : Contents) (ns : List ℕ) (m : ℕ) where
  refs_in : (k : ℕ) → RefersTo f m k → In (with_refs f ns m) k
  refs_in k t =
      let is : with_refs f ns m ≡ with_numbers ns t.1 =
      ap (λ (o : Option Record). elim o as (λ _. List ℕ)
      [ Some r ↦ elim (refs f r) as (λ _. List ℕ) [ Ok ks ↦ with_numbers ns ks | Err reason ↦ ns ] | None ↦ ns ]) t.2
      ∙ ap (λ (o : Result (List ℤ) ExtractReason). elim o as (λ _. List ℕ) [ Ok ks ↦ with_numbers ns ks | Err reason ↦ ns ]) t.3 in
      subst (λ (xs : List ℕ). In xs k) (sym is) (from_all f t.1 ns k (refs_named f t.0 t.1 t.3) (inr t.4))

  in_refs : (k : ℕ) → In (with_refs f ns m) k → In ns k ⊎ RefersTo f m k
  in_refs k h = by_named (named f (pos m)) refl h
    where
      by_refs : (r : Record) → named f (pos m) ≡ Some r → (o : Result (List ℤ) ExtractReason) → refs f r ≡ o
          → In (elim o as (λ _. List ℕ) [ Ok ks ↦ with_numbers ns ks | Err reason ↦ ns ]) k → In ns k ⊎ RefersTo f m k
      by_refs r en (Ok ks) er i = elim (into_all f ks ns k (refs_named f r ks er) i) [ inl j ↦ inl j | inr c ↦ inr (r, ks, en, er, c) ]
      by_refs r en (Err reason) er i = inl i

      by_named : (o : Option Record) → named f (pos m) ≡ o
          → In (elim o as (λ _. List ℕ) [ Some r ↦ elim (refs f r) as (λ _. List ℕ) [ Ok ks ↦ with_numbers ns ks | Err reason ↦ ns ] | None ↦ ns ]) k
          → In ns k ⊎ RefersTo f m k
      by_named (Some r) en i = by_refs r en (refs f r) refl i
      by_named None en i = inl i

above_more : (f : Contents) (refusal : Option Refusal) (e : EntryNo) (fault : Option ExtractReason) (m : ℕ) → Above f refusal m
    → Above f (least_of refusal e fault) m
above_more f refusal e None m h = h
above_more f None e (Some reason) m h = inl h
above_more f (Some x) e (Some reason) m h = by_test (nat_le x.entity.0 e.0) refl
  where
    by_test : (b : Bool) → nat_le x.entity.0 e.0 ≡ b → Above f (if b then Some x else Some (record { entity = e; reason = reason })) m
    by_test true t = h
    by_test false t = elim h [ inl none ↦ inl none | inr le ↦ let gt : e.0 < x.entity.0 = leb-false x.entity.0 e.0 t in inr (omega (arith, gt, le)) ]

above_here : (f : Contents) (refusal : Option Refusal) (e : EntryNo) (fault : Option ExtractReason) → fault ≡ fault_at f e.0 → Above f refusal e.0 ⊎ Unit {0}
    → Above f (least_of refusal e fault) e.0
above_here f None e None is h = sym is
above_here f (Some x) e None is h = inl (sym is)
above_here f None e (Some reason) is h = inr (omega arith)
above_here f (Some x) e (Some reason) is h = by_test (nat_le x.entity.0 e.0) refl
  where
    by_test : (b : Bool) → nat_le x.entity.0 e.0 ≡ b → Above f (if b then Some x else Some (record { entity = e; reason = reason })) e.0
    by_test true t = inr (leb-true x.entity.0 e.0 t)
    by_test false t = inr (omega arith)

there_more : (f : Contents) (ns ms : List ℕ) (refusal : Option Refusal) (e : EntryNo) (fault : Option ExtractReason) → Grows ns ms → In ns e.0
    → fault ≡ fault_at f e.0 → IsThere f ns refusal → IsThere f ms (least_of refusal e fault)
there_more f ns ms None e None g i is h = tt
there_more f ns ms (Some x) e None g i is h = (subst (λ (xs : List ℕ). In xs x.entity.0) (sym g.1) (in_front ns g.0 x.entity.0 h.0), h.1)
there_more f ns ms None e (Some reason) g i is h = (subst (λ (xs : List ℕ). In xs e.0) (sym g.1) (in_front ns g.0 e.0 i), sym is)
there_more f ns ms (Some x) e (Some reason) g i is h = by_test (nat_le x.entity.0 e.0)
  where
    by_test : (b : Bool) → IsThere f ms (if b then Some x else Some (record { entity = e; reason = reason }))
    by_test true = (subst (λ (xs : List ℕ). In xs x.entity.0) (sym g.1) (in_front ns g.0 x.entity.0 h.0), h.1)
    by_test false = (subst (λ (xs : List ℕ). In xs e.0) (sym g.1) (in_front ns g.0 e.0 i), sym is)

pub flood_starts : (f : Contents) (n : ℕ) → IsFlooding f n 0 (with_number [] n) None
flood_starts f n = record {
  start = inl refl;
  reached = λ m i. elim i [ inl e ↦ subst (Reaches f n) e here | inr j ↦ absurd j ];
  closed = λ i m k lt. absurd (omega (arith, lt));
  above = λ i m lt. absurd (omega (arith, lt));
  there = tt;
}

module _ (f : Contents) (n next : ℕ) (ns : List ℕ) (refusal : Option Refusal) (e : EntryNo) (fault : Option ExtractReason) (h : IsFlooding f n next ns refusal)
    (at : slice_get ns next ≡ Some e.0) (is : fault ≡ fault_at f e.0) where
  grown : Grows ns (with_refs f ns e.0)
  grown = refs_grow f ns e.0

  within : next < length ns
  within = slice_get_within ns next e.0 at

  kept : (m : ℕ) → In ns m → In (with_refs f ns e.0) m
  kept m i = subst (λ (xs : List ℕ). In xs m) (sym grown.1) (in_front ns grown.0 m i)

  same_get : (i : ℕ) → i < length ns → slice_get (with_refs f ns e.0) i ≡ slice_get ns i
  same_get i lt = ap (λ (xs : List ℕ). slice_get xs i) grown.1 ∙ get_front ns grown.0 i lt

  -- what is visited by now: it was so before, or it is this one
  visited : (i m : ℕ) → i < next + 1 → slice_get (with_refs f ns e.0) i ≡ Some m → ((i < next) × (slice_get ns i ≡ Some m)) ⊎ (e.0 ≡ m)
  visited i m lt g =
      let below : i < length ns = omega (arith, lt, within) in
      let old : slice_get ns i ≡ Some m = sym (same_get i below) ∙ g in
      by_order old (cases_lt i next)
    where
      by_order : slice_get ns i ≡ Some m → (i < next) ⊎ (next ≤ i) → ((i < next) × (slice_get ns i ≡ Some m)) ⊎ (e.0 ≡ m)
      by_order old (inl less) = inl (less, old)
      by_order old (inr ge) =
          let same : i ≡ next = omega (arith, lt, ge) in
          inr (same_Some e.0 m (sym at ∙ (ap (slice_get ns) (sym same) ∙ old)))

  pub flood_goes : IsFlooding f n (next + 1) (with_refs f ns e.0) (least_of refusal e fault)
  flood_goes = record {
    start = kept n h.start;
    reached = λ m i. elim (in_refs f ns e.0 m i) [ inl j ↦ h.reached m j | inr t ↦ further (h.reached e.0 (in_get ns next e.0 at)) t ];
    closed = λ i m k lt g t. elim (visited i m lt g)
        [ inl old ↦ kept k (h.closed i m k old.0 old.1 t) | inr same ↦ refs_in f ns e.0 k (subst (λ (x : ℕ). RefersTo f x k) (sym same) t) ];
    above = λ i m lt g. elim (visited i m lt g) [
      | inl old ↦ above_more f refusal e fault m (h.above i m old.0 old.1)
      | inr same ↦ subst (Above f (least_of refusal e fault)) same (above_here f refusal e fault is (inr tt))
    ];
    there = there_more f ns (with_refs f ns e.0) refusal e fault grown (in_get ns next e.0 at) is h.there;
  }

-- ---- the end

past_end : (ns : List ℕ) (next : ℕ) → slice_get ns next ≡ None → length ns ≤ next
past_end [] next e = omega arith
past_end (n ∷ ns) zero e = absurd (let g : Some n ≡ None = e in cc)
past_end (n ∷ ns) (suc next) e = let on : length ns ≤ next = past_end ns next e in omega arith

module _ (f : Contents) (n next : ℕ) (ns : List ℕ) (refusal : Option Refusal) (h : IsFlooding f n next ns refusal) (e : slice_get ns next ≡ None) where
  all_closed : (m k : ℕ) → In ns m → RefersTo f m k → In ns k
  all_closed m k i t = let p = get_in ns m i in h.closed p.0 m k (omega (arith, p.1, past_end ns next e)) p.2 t

  all_above : (m : ℕ) → In ns m → Above f refusal m
  all_above m i = let p = get_in ns m i in h.above p.0 m (omega (arith, p.1, past_end ns next e)) p.2

  all_reached : {m : ℕ} → Reaches f n m → In ns m
  all_reached here = h.start
  all_reached (further r t) = all_closed _ _ (all_reached r) t

least_is : (f : Contents) (ns : List ℕ) (refusal : Option Refusal) → ((m : ℕ) → In ns m → Above f refusal m) → IsThere f ns refusal → IsLeastFault f ns refusal
least_is f ns None above there = λ m c. above m (in_from ns m c)
least_is f ns (Some x) above there =
    (contains_at ns x.entity.0 there.0, there.1, λ m lt c. elim (above m (in_from ns m c)) [ inl none ↦ none | inr le ↦ absurd (omega (arith, lt, le)) ])

pub flood_ends : (f : Contents) (n next : ℕ) (ns : List ℕ) (refusal : Option Refusal) → IsFlooding f n next ns refusal → slice_get ns next ≡ None
    → IsFlooded f n ns refusal
flood_ends f n next ns refusal h e = record {
  reached = λ m. ((λ c. h.reached m (in_from ns m c)), λ r. contains_at ns m (all_reached f n next ns refusal h e r));
  least = least_is f ns refusal (all_above f n next ns refusal h e) h.there;
}

-- ---- what a visit tells

pub no_fault : (f : Contents) (m : ℕ) (r : Record) (ks : List ℤ) → named f (pos m) ≡ Some r → refs f r ≡ Ok ks → None ≡ fault_at f m
no_fault f m r ks en er =
    sym (ap (λ (o : Option Record). elim o as (λ _. Option ExtractReason) [ Some r ↦ entry_fault f r | None ↦ None ]) en ∙ refs_faultless f r ks er)

told_fault : (f : Contents) (m : ℕ) (r : Record) (x : ExtractReason) → named f (pos m) ≡ Some r → refs f r ≡ Err x → fault_at f m ≡ Some x
told_fault f m r x en er = ap (λ (o : Option Record). elim o as (λ _. Option ExtractReason) [ Some r ↦ entry_fault f r | None ↦ None ]) en ∙ refs_fault f r x er

pub a_fault : (f : Contents) (m : ℕ) (r : Record) (e : RefFault) (o : Result (Option ExtractReason) NoMemory) → named f (pos m) ≡ Some r
    → TellsFault e (refs f r) → IfOk o (IsToldAs e) → IfOk o (λ x. x ≡ fault_at f m)
a_fault f m r e (Err x) en h k = tt
a_fault f m r fault.Unlisted (Ok x) en h k = k ∙ sym (told_fault f m r reason.Unlisted en h)
a_fault f m r fault.Layout (Ok x) en h k = k ∙ sym (told_fault f m r reason.Layout en h)
a_fault f m r fault.Dangling (Ok x) en h k = k ∙ sym (told_fault f m r reason.Dangling en h)
a_fault f m r fault.NoMemory (Ok x) en h k = absurd k
