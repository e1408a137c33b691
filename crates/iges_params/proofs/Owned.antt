-- No line is in two records: so all records together have few values.
use Rattle.std.proofs.Common.{◌≡◌, ℕ, zero, suc, ◌+◌, ◌-◌, ◌*◌, ◌<◌, ◌≤◌, Bool, true, false, cond, List, [], ◌∷◌, ◌++◌, length, take, drop, ℤ, pos, Option}
use Rattle.std.proofs.Common.{Some, None, refl, sym, ap, ◌∙◌, arith, length-append}
use Rattle.std.specs.Prelude.{MatchBool, unsigned_abs, flat_map}
use Rattle.std.specs.List.{AllZip, list_all}
use Rattle.std.specs.Option.{option_map_or}
use Rattle.std.specs.Ordering.{int_eq}
use Rattle.std.proofs.lemmas.Bool.{and_parts}
use Rattle.std.proofs.lemmas.Bool.Decides.{Decides-int_eq}
use Rattle.iges_fields.specs.declared.value.Value.{Value}
use Rattle.iges_fields.specs.declared.value.Value.TheVariants as value
use Rattle.iges_fields.specs.Delims.{Delims}
use Rattle.iges_fields.specs.FreeText.{IsItem, delimited, FreeText}
use Rattle.iges_base.specs.Word.{column_number}
use Rattle.iges_lines.specs.Lines.{columns}
use Rattle.iges_lines.proofs.InLines.{columns_short}
use Rattle.iges_directory.specs.declared.entry.Placed.{Placed}
use Rattle.iges_params.specs.Records.{record_lines, record_text, points_back, IsRecord, HasRecord}

-- ---- free text has no more values than bytes

items_count : (d : Delims) (items : List (List ℕ)) (values : List Value) → AllZip IsItem items values → length values ≤ length (delimited d items)
items_count d [] [] h = omega arith
items_count d [] (v ∷ vs) h = absurd h
items_count d (item ∷ items) [] h = absurd h
items_count d (item ∷ []) (v ∷ []) h = omega (arith, length-append item (d.end ∷ []))
items_count d (item ∷ []) (v ∷ w ∷ vs) h = absurd h.1
items_count d (item ∷ next ∷ items) (v ∷ []) h = absurd h.1
items_count d (item ∷ next ∷ items) (v ∷ w ∷ vs) h = omega (
  arith,
  length-append item (d.param ∷ delimited d (next ∷ items)),
  items_count d (next ∷ items) (w ∷ vs) h.1,
)

free_count : (d : Delims) (text : List ℕ) (values : List Value) (used : ℕ) → FreeText d text values used → length values ≤ length text
free_count d text values used f =
    let long : length text ≡ length (delimited d f.items ++ f.rest) = ap length f.parts in
    omega (arith, items_count d f.items values f.each, long, length-append (delimited d f.items) f.rest)

-- ---- no line is in two records

abbrev pub mark : Bool → ℕ
mark b = cond b 1 0

-- how many lines point back to this entry
abbrev pub owned : ℕ → List (List ℕ) → ℕ
owned number [] = 0
owned number (l ∷ ls) = mark (points_back number l) + owned number ls

owned_take : (number k : ℕ) (ls : List (List ℕ)) → owned number (take k ls) ≤ owned number ls
owned_take number zero ls = omega arith
owned_take number (suc k) [] = omega arith
owned_take number (suc k) (l ∷ ls) = omega (arith, owned_take number k ls)

owned_drop : (number k : ℕ) (ls : List (List ℕ)) → owned number (drop k ls) ≤ owned number ls
owned_drop number zero ls = omega arith
owned_drop number (suc k) [] = omega arith
owned_drop number (suc k) (l ∷ ls) = omega (arith, owned_drop number k ls)

owned_all : (number : ℕ) (ls : List (List ℕ)) → list_all (points_back number) ls ≡ true → length ls ≤ owned number ls
owned_all number [] h = omega arith
owned_all number (l ∷ ls) h =
    let k = and_parts (points_back number l) (list_all (points_back number) ls) h in
    let one : mark (points_back number l) ≡ 1 = ap mark k.0 in
    omega (arith, one, owned_all number ls k.1)

points_one : (a b : ℕ) (l : List ℕ) → points_back a l ≡ true → points_back b l ≡ true → a ≡ b
points_one a b l h k = by_number (column_number (columns 66 72 l)) h k
  where
    by_number : (o : Option ℤ) → option_map_or (λ z. int_eq z (pos a)) o false ≡ true → option_map_or (λ z. int_eq z (pos b)) o false ≡ true → a ≡ b
    by_number None h k = absurd (let no : false ≡ true = h in cc)
    by_number (Some z) h k = let same : pos a ≡ pos b = sym ((Decides-int_eq z (pos a)).0 h) ∙ (Decides-int_eq z (pos b)).0 k in ap unsigned_abs same

-- to how many of n entries, the first of which has this number, a line points back
abbrev hits : ℕ → ℕ → List ℕ → ℕ
hits number zero l = 0
hits number (suc n) l = mark (points_back number l) + hits (number + 2) n l

hits_above : (m number n : ℕ) (l : List ℕ) → points_back m l ≡ true → m < number → hits number n l ≡ 0
hits_above m number zero l h lt = refl
hits_above m number (suc n) l h lt = by_test (points_back number l) refl (hits_above m (number + 2) n l h (omega (arith, lt)))
  where
    by_test : (b : Bool) → points_back number l ≡ b → hits (number + 2) n l ≡ 0 → mark (points_back number l) + hits (number + 2) n l ≡ 0
    by_test true e k = absurd (omega (arith, lt, points_one m number l h e))
    by_test false e k = let none : mark (points_back number l) ≡ 0 = ap mark e in omega (arith, none, k)

hits_one : (number n : ℕ) (l : List ℕ) → hits number n l ≤ 1
hits_one number zero l = omega arith
hits_one number (suc n) l = by_test (points_back number l) refl (hits_one (number + 2) n l)
  where
    by_test : (b : Bool) → points_back number l ≡ b → hits (number + 2) n l ≤ 1 → mark (points_back number l) + hits (number + 2) n l ≤ 1
    by_test true e k = let one : mark (points_back number l) ≡ 1 = ap mark e in omega (arith, one, hits_above number (number + 2) n l e (omega arith))
    by_test false e k = let none : mark (points_back number l) ≡ 0 = ap mark e in omega (arith, none, k)

abbrev pub all_owned : ℕ → ℕ → List (List ℕ) → ℕ
all_owned number zero ls = 0
all_owned number (suc n) ls = owned number ls + all_owned (number + 2) n ls

all_owned-none : (number n : ℕ) → all_owned number n [] ≡ 0
all_owned-none number zero = refl
all_owned-none number (suc n) = omega (arith, all_owned-none (number + 2) n)

all_owned-more : (number n : ℕ) (l : List ℕ) (ls : List (List ℕ)) → all_owned number n (l ∷ ls) ≡ hits number n l + all_owned number n ls
all_owned-more number zero l ls = refl
all_owned-more number (suc n) l ls = omega (arith, all_owned-more (number + 2) n l ls)

pub all_owned-few : (number n : ℕ) (ls : List (List ℕ)) → all_owned number n ls ≤ length ls
all_owned-few number n [] = omega (arith, all_owned-none number n)
all_owned-few number n (l ∷ ls) = omega (arith, all_owned-more number n l ls, hits_one number n l, all_owned-few number n ls)

pub all_owned-last : (number n : ℕ) (ls : List (List ℕ)) → all_owned number (suc n) ls ≡ all_owned number n ls + owned (number + 2 * n) ls
all_owned-last number zero ls = omega (arith, ap (λ (k : ℕ). owned k ls) (let k : number + 2 * 0 ≡ number = omega arith in k))
all_owned-last number (suc n) ls =
    omega (arith, all_owned-last (number + 2) n ls, ap (λ (k : ℕ). owned k ls) (let k : number + 2 + 2 * n ≡ number + 2 * suc n = omega arith in k))

text_64 : (ls : List (List ℕ)) → length (flat_map (columns 1 64) ls) ≤ 64 * length ls
text_64 [] = omega arith
text_64 (l ∷ ls) = omega (arith, length-append (columns 1 64 l) (flat_map (columns 1 64) ls), columns_short 1 64 l, text_64 ls)

pub record_few : (params : List (List ℕ)) (d : Delims) (number : ℕ) (p : Placed) (values : List Value) → HasRecord params d number p values →
    length values ≤ 64 * owned number params
record_few params d number p values h = by_kind (int_eq p.entry.kind (pos 0)) h
  where
    by_kind : (b : Bool) → MatchBool b (values ≡ []) (IsRecord params d number p values) → length values ≤ 64 * owned number params
    by_kind true none = let zero_long : length values ≡ 0 = ap length none in omega (arith, zero_long)
    by_kind false r =
        let first : ℕ = unsigned_abs p.first - 1 in
        omega (
          arith,
          free_count d (record_text params p) (value.Int p.entry.kind ∷ values) r.used r.text,
          text_64 (record_lines params p),
          owned_all number (record_lines params p) r.pointers,
          owned_take number (first + unsigned_abs p.count - first) (drop first params),
          owned_drop number first params,
        )
