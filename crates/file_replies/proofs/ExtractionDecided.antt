-- A solid is extracted, or is refused for an entity and a reason.
use Rattle.std.specs.Prelude.{◌≡◌, ℕ, zero, suc, ◌+◌, ◌*◌, ◌<◌, ◌≤◌, ◌⊎◌, Bool, true, false, nat_lt, List, [], ◌∷◌, length, map, ℤ, pos, Option, Some, None}
use Rattle.std.specs.Prelude.{Result, Ok, Err, Contains, is_some}
use Rattle.std.specs.List.{AllByRecursion, AllZip}
use Rattle.std.proofs.Common.{refl, sym, ◌∙◌, ap, subst, arith, inl, inr, ⊎_elim}
use Rattle.std.proofs.lemmas.Bool.{and_from, lt-ltb, cases_order}
use Rattle.std.proofs.lemmas.List.Elements.{All-from_recursion}
use Rattle.iges_base.proofs.Answers.{ok_is}
use Rattle.iges_params.specs.Contents.{Contents}
use Rattle.iges_params.specs.Named.{named}
use Rattle.solid_data.specs.Chain.{Steps, LeadsTo}
use Rattle.solid_data.proofs.Decisions.{Decided, decided_alike, decided_below, decided_int, decided_both, decided_found, decided_contains}
use Rattle.solid_data.proofs.ChainsDecided.{leads_decided}
use Rattle.solid_data.proofs.Trail.{leads_here, leads_last}
use Rattle.entry_references.specs.declared.fault.ExtractReason.{ExtractReason}
use Rattle.entry_references.specs.declared.fault.ExtractReason.TheVariants.{NotSolid}
use Rattle.entry_references.specs.References.{RefersTo}
use Rattle.entry_references.specs.Refs.{Record, names_entry, entry_fault, refs}
use Rattle.entry_references.proofs.Marks.{number_is}
use Rattle.entry_references.proofs.NamedRecords.{named_within}
use Rattle.entry_references.proofs.RefLists.{refs_named}
use Rattle.entry_references.proofs.RisingLists.{In, in_from, contains_at, contains_pass, rises, rises_by_test}
use Rattle.iges_params.specs.Solids.{is_solid, is_solid_entry}
use Rattle.solid_extract.specs.Extracted.{Reaches, here, further, IsRefused, IsExtracted, new_record}

-- above the number of each entry
abbrev bound_of : Contents → ℕ
bound_of f = 2 * length f.entries + 1

named_below : (f : Contents) (m : ℕ) (r : Record) → named f (pos m) ≡ Some r → m < bound_of f
named_below f m r e = let w = named_within f m r e in omega (arith, number_is (length f.entries) m w, w.1)

-- the least number below a bound that is such, or none is
decided_least : (P : ℕ → Type 0) → ((n : ℕ) → Decided (P n)) → (bound : ℕ) → ((n : ℕ) × (n < bound) × P n × ((m : ℕ) → m < n → ¬ P m))
    ⊎ ((n : ℕ) → n < bound → ¬ P n)
decided_least P each zero = inr (λ n lt p. omega (arith, lt))
decided_least P each (suc bound) = by_last (each bound) (decided_least P each bound)
  where
    by_last : Decided (P bound) → ((n : ℕ) × (n < bound) × P n × ((m : ℕ) → m < n → ¬ P m)) ⊎ ((n : ℕ) → n < bound → ¬ P n)
        → ((n : ℕ) × (n < suc bound) × P n × ((m : ℕ) → m < n → ¬ P m)) ⊎ ((n : ℕ) → n < suc bound → ¬ P n)
    by_last last (inl (n, lt, p, least)) = inl (n, omega (arith, lt), p, least)
    by_last (inl p) (inr none) = inl (bound, omega arith, p, none)
    by_last (inr never) (inr none) =
        inr (λ n lt p. ⊎_elim (λ e. never (subst P e p)) (λ other. ⊎_elim (λ below. none n below p) (λ above. absurd (omega (arith, lt, above))) other)
        (cases_order n bound))

-- References.

numbers_decided : (answer : Result (List ℤ) ExtractReason) (k : ℕ) → Decided ((ks : List ℤ) × (answer ≡ Ok ks) × Contains ks (pos k))
numbers_decided (Err reason) k = inr (λ (ks, e, c). cc)
numbers_decided (Ok ns) k = decided_alike (λ c. (ns, refl, c)) (λ (ks, e, c). subst (λ xs. Contains xs (pos k)) (sym (ok_is ns ks e)) c)
    (decided_contains decided_int ns (pos k))

refers_decided : (f : Contents) (m k : ℕ) → Decided (RefersTo f m k)
refers_decided f m k =
    decided_alike (λ (r, is, (ks, answer, c)). (r, ks, is, answer, c)) (λ (r, ks, is, answer, c). (r, is, (ks, answer, c)))
    (decided_found (named f (pos m)) (λ r. (ks : List ℤ) × (refs f r ≡ Ok ks) × Contains ks (pos k)) (λ r. numbers_decided (refs f r) k))

-- a reference to a number that an entry may have
abbrev RefersWithin : Contents → ℕ → ℕ → Type 0
RefersWithin f m k = RefersTo f m k × (k < bound_of f)

chain_reaches : (f : Contents) (n k a b : ℕ) → Steps (RefersWithin f) k a b → Reaches f n a → Reaches f n b
chain_reaches f n zero a b e r = subst (Reaches f n) e r
chain_reaches f n (suc k) a b (c, t, rest) r = chain_reaches f n k c b rest (further r t.0)

reaches_chain : (f : Contents) (n : ℕ) {m : ℕ} → Reaches f n m → m < bound_of f → LeadsTo (RefersWithin f) n m
reaches_chain f n here lt = leads_here (RefersWithin f) n
reaches_chain f n (further r t) lt = leads_last (RefersWithin f) n _ _ (reaches_chain f n r (named_below f _ t.0 t.2)) (t, lt)

abbrev IsReachedWithin : Contents → ℕ → ℕ → Type 0
IsReachedWithin f n m = (m < bound_of f) × Reaches f n m

reached_decided : (f : Contents) (n m : ℕ) → Decided (IsReachedWithin f n m)
reached_decided f n m =
    decided_alike (λ (lt, (k, steps)). (lt, chain_reaches f n k n m steps here)) (λ (lt, r). (lt, reaches_chain f n r lt))
    (decided_both (decided_below m (bound_of f))
    (leads_decided (RefersWithin f) (λ a b. decided_both (refers_decided f a b) (decided_below b (bound_of f))) (bound_of f) (λ x y h. h.1) n m))

-- Faults.

abbrev HasSomeFault : Contents → ℕ → Type 0
HasSomeFault f m = (r : Record) × (named f (pos m) ≡ Some r) × ((reason : ExtractReason) × (entry_fault f r ≡ Some reason))

some_fault : (fault : Option ExtractReason) → Decided ((reason : ExtractReason) × (fault ≡ Some reason))
some_fault None = inr (λ (reason, e). cc)
some_fault (Some x) = inl (x, refl)

fault_decided : (f : Contents) (m : ℕ) → Decided (HasSomeFault f m)
fault_decided f m = decided_found (named f (pos m)) (λ r. (reason : ExtractReason) × (entry_fault f r ≡ Some reason)) (λ r. some_fault (entry_fault f r))

abbrev IsFaulty : Contents → ℕ → ℕ → Type 0
IsFaulty f n m = IsReachedWithin f n m × HasSomeFault f m

without_fault : (f : Contents) (n m : ℕ) (q : Record) → ¬ IsFaulty f n m → Reaches f n m → named f (pos m) ≡ Some q → entry_fault f q ≡ None
without_fault f n m q never r is = by_fault (entry_fault f q) refl
  where
    by_fault : (fault : Option ExtractReason) → entry_fault f q ≡ fault → entry_fault f q ≡ None
    by_fault None e = e
    by_fault (Some x) e = absurd (never ((named_below f m q is, r), (q, is, (x, e))))

-- What is kept, rising.

record Listed (P : ℕ → Type 0) (first bound : ℕ) : Type 0 where
  pub members : List ℕ
  pub rising : rises members ≡ true
  pub behind : (x : ℕ) → x < first → rises (x ∷ members) ≡ true
  pub are : (m : ℕ) → In members m → (first ≤ m) × P m
  pub all : (m : ℕ) → first ≤ m → m < bound → P m → In members m

listed : (P : ℕ → Type 0) → ((n : ℕ) → Decided (P n)) → (len first bound : ℕ) → first + len ≡ bound → Listed P first bound
listed P each zero first bound e =
    record { members = []; rising = refl; behind = λ x lt. refl; are = λ m i. absurd i; all = λ m low lt p. absurd (omega (arith, low, lt, e)) }
listed P each (suc len) first bound e = by_first (each first) (listed P each len (suc first) bound (omega (arith, e)))
  where
    by_first : Decided (P first) → Listed P (suc first) bound → Listed P first bound
    by_first (inl p) rest = record {
      members = first ∷ rest.members;
      rising = rest.behind first (omega arith);
      behind = λ x lt. and_from (nat_lt x first) (rises (first ∷ rest.members)) (lt-ltb x first lt) (rest.behind first (omega arith));
      are = λ m i. ⊎_elim (λ same. (omega (arith, same), subst P same p)) (λ later. (let h = rest.are m later in (omega (arith, h.0), h.1))) i;
      all = λ m low lt q. ⊎_elim (λ same. inl (sym same))
          (λ other. ⊎_elim (λ below. absurd (omega (arith, low, below))) (λ above. inr (rest.all m (omega (arith, above)) lt q)) other) (cases_order m first);
    }
    by_first (inr never) rest = record {
      members = rest.members;
      rising = rest.rising;
      behind = λ x lt. rest.behind x (omega (arith, lt));
      are = λ m i. (let h = rest.are m i in (omega (arith, h.0), h.1));
      all = λ m low lt q. ⊎_elim (λ same. absurd (never (subst P same q)))
          (λ other. ⊎_elim (λ below. absurd (omega (arith, low, below))) (λ above. rest.all m (omega (arith, above)) lt q) other) (cases_order m first);
    }

abbrev IsFaultlessRecord : Contents → ℕ → Record → Type 0
IsFaultlessRecord f m r = (named f (pos m) ≡ Some r) × (entry_fault f r ≡ None)

records_of : (f : Contents) (ms : List ℕ) → ((m : ℕ) → In ms m → (r : Record) × IsFaultlessRecord f m r)
    → (rs : List Record) × AllZip (λ m r. named f (pos m) ≡ Some r) ms rs × AllByRecursion (λ r. entry_fault f r ≡ None) rs
records_of f [] each = ([], tt, tt)
records_of f (m ∷ ms) each =
    let first = each m (inl refl) in
    let rest = records_of f ms (λ k i. each k (inr i)) in
    (first.0 ∷ rest.0, (first.1.0, rest.1), (first.1.1, rest.2))

some_record : (o : Option Record) → is_some o ≡ true → (r : Record) × (o ≡ Some r)
some_record None e = absurd (let g : false ≡ true = e in cc)
some_record (Some r) e = (r, refl)

solid_record : (f : Contents) (n : ℕ) → is_solid f n ≡ true → (r : Record) × (named f (pos n) ≡ Some r)
solid_record f n h = by_option (named f (pos n)) refl h
  where
    by_option : (o : Option Record) → named f (pos n) ≡ o → is_solid f n ≡ true → (r : Record) × (named f (pos n) ≡ Some r)
    by_option None e t = absurd (let g : false ≡ true = sym (ap is_solid_entry e) ∙ t in cc)
    by_option (Some r) e t = (r, e)

-- where nothing that is reached has a fault, all of it are entries
reached_record : (f : Contents) (n : ℕ) → is_solid f n ≡ true → {m : ℕ} → Reaches f n m → (r : Record) × (named f (pos m) ≡ Some r)
reached_record f n h here = solid_record f n h
reached_record f n h (further r t) = some_record _ (contains_pass (names_entry f) t.1 _ t.4 (refs_named f t.0 t.1 t.3))

extracted : (f : Contents) (n : ℕ) → is_solid f n ≡ true → ((m : ℕ) → m < bound_of f → ¬ IsFaulty f n m) → (new : Contents) × IsExtracted f n new
extracted f n solid none =
    let kept : Listed (IsReachedWithin f n) 0 (bound_of f) = listed (IsReachedWithin f n) (reached_decided f n) (bound_of f) 0 (bound_of f) (omega arith) in
    let records = records_of f kept.members
    (λ m i. (let h = (kept.are m i).1 in let r = reached_record f n solid h.1 in (r.0, (r.1, without_fault f n m r.0 (none m h.0) h.1 r.1)))) in (
      record { start = f.start; global = f.global; entries = map (new_record f kept.members) records.0 },
      record {
        solid = solid;
        kept = kept.members;
        rising = rises_by_test kept.members kept.rising;
        reached = λ m. (
          (λ c. (kept.are m (in_from kept.members m c)).1.1),
          (λ r. (let named_one = reached_record f n solid r in let lt = named_below f m named_one.0 named_one.1 in contains_at kept.members m
              (kept.all m (omega arith) lt (lt, r)))),
        );
        records = records.0;
        each_named = records.1;
        faultless = All-from_recursion (λ r. entry_fault f r ≡ None) records.0 records.2;
        start = refl;
        global = refl;
        entries = refl;
      },
    )

pub extracted_or_refused : (f : Contents) (n : ℕ) → ((new : Contents) × IsExtracted f n new) ⊎ ((entity : ℕ) × (why : ExtractReason) × IsRefused f n entity why)
extracted_or_refused f n =
    by_solid (is_solid f n) refl (decided_least (IsFaulty f n) (λ m. decided_both (reached_decided f n m) (fault_decided f m)) (bound_of f))
  where
    by_least : is_solid f n ≡ true → ((m : ℕ) × (m < bound_of f) × IsFaulty f n m × ((k : ℕ) → k < m → ¬ IsFaulty f n k))
        ⊎ ((m : ℕ) → m < bound_of f → ¬ IsFaulty f n m)
        → ((new : Contents) × IsExtracted f n new) ⊎ ((entity : ℕ) × (why : ExtractReason) × IsRefused f n entity why)
    by_least solid (inr none) = inl (extracted f n solid none)
    by_least solid (inl (m, lt, (reached, (r, is, (reason, fault))), least)) =
        inr (m, reason, inr (solid, r, reached.1, is, fault, λ k q below reach named_so. without_fault f n k q (least k below) reach named_so))

    by_solid : (b : Bool) → is_solid f n ≡ b → ((m : ℕ) × (m < bound_of f) × IsFaulty f n m × ((k : ℕ) → k < m → ¬ IsFaulty f n k))
        ⊎ ((m : ℕ) → m < bound_of f → ¬ IsFaulty f n m)
        → ((new : Contents) × IsExtracted f n new) ⊎ ((entity : ℕ) × (why : ExtractReason) × IsRefused f n entity why)
    by_solid true solid faults = by_least solid faults
    by_solid false other faults = inr (n, NotSolid, inl (other, refl, refl))
