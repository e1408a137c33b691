-- Bytes spell one line at most, and what is read of them.
use Rattle.std.specs.Prelude.{◌≡◌, ◌≢◌, ℕ, zero, suc, ◌<◌, ◌==◌, Bool, true, false, List, [], ◌∷◌, ◌++◌, length, map, codes, if◌then◌else◌, Option, Some, None}
use Rattle.std.specs.Prelude.{MatchOption, Result, Ok, Err, IfOk, IfErr}
use Rattle.std.specs.List.{AllByRecursion}
use Rattle.std.proofs.Common.{refl, sym, ◌∙◌, ap, subst, arith, append_assoc, get_or}
use Rattle.orient_certificate.specs.declared.line.OrientLine.{OrientLine}
use Rattle.orient_certificate.specs.declared.line.OrientLine.TheVariants.{Head, Flags, Ring, End}
use Rattle.orient_certificate.specs.declared.line.OrientLineFault.{OrientLineFault}
use Rattle.cert_text.specs.Text.{IsShort, spaced, AreNumbers, Begins}
use Rattle.orient_certificate.specs.Line.{HasSpelling, IsSpelled, IsLineFault, flag_number, spelling}
use Rattle.orient_certificate.specs.Spells.{Spells}
use Rattle.cert_text.proofs.Spacing.{rest_of, spaced_one, same_front}
use Rattle.cert_text.proofs.Digits.{begins_cons, begins_tail, numbers_begin}

-- A line is its kind and its numbers.
abbrev kind_of : OrientLine → ℕ
kind_of (Head solid) = 0
kind_of (Flags shell flags) = 1
kind_of (Ring shell rows) = 2
kind_of End = 3

abbrev numbers_in : OrientLine → List ℕ
numbers_in (Head solid) = solid.0 ∷ []
numbers_in (Flags shell flags) = shell ∷ map flag_number flags
numbers_in (Ring shell rows) = shell ∷ rows
numbers_in End = []

abbrev prefix_of : ℕ → List ℕ
prefix_of k = if k == 0 then codes "ORIENT" else (if k == 1 then codes "F" else (if k == 2 then codes "O" else codes "END"))

abbrev flag_back : ℕ → Bool
flag_back n = n == 1

abbrev line_from : ℕ → List ℕ → OrientLine
line_from k ns = if k == 0 then Head (record { 0 = get_or ns 0 0 }) else
    (if k == 1 then Flags (get_or ns 0 0) (map flag_back (rest_of ns)) else (if k == 2 then Ring (get_or ns 0 0) (rest_of ns) else End))

pub flags_back : (flags : List Bool) → map flag_back (map flag_number flags) ≡ flags
flags_back [] = refl
flags_back (true ∷ bs) = ap (λ fs. true ∷ fs) (flags_back bs)
flags_back (false ∷ bs) = ap (λ fs. false ∷ fs) (flags_back bs)

pub rebuilt : (l : OrientLine) → line_from (kind_of l) (numbers_in l) ≡ l
rebuilt (Head solid) = refl
rebuilt (Flags shell flags) = ap (Flags shell) (flags_back flags)
rebuilt (Ring shell rows) = refl
rebuilt End = refl

spelling_parts : (l : OrientLine) → spelling l ≡ prefix_of (kind_of l) ++ (spaced (numbers_in l) ++ 10 ∷ [])
spelling_parts (Head solid) = refl
spelling_parts (Flags shell flags) = refl
spelling_parts (Ring shell rows) = refl
spelling_parts End = refl

pub flags_short : (flags : List Bool) → AllByRecursion IsShort (map flag_number flags)
flags_short [] = tt
flags_short (true ∷ bs) = (omega arith, flags_short bs)
flags_short (false ∷ bs) = (omega arith, flags_short bs)

pub numbers_short : (l : OrientLine) → HasSpelling l → AllByRecursion IsShort (numbers_in l)
numbers_short (Head solid) h = (h, tt)
numbers_short (Flags shell flags) h = (h.0, flags_short flags)
numbers_short (Ring shell rows) h = h.0
numbers_short End h = tt

-- the kind by the first two bytes
abbrev kind_by : List ℕ → ℕ
kind_by bytes = by_bytes (get_or bytes 0 0) (get_or bytes 1 0)
  where
    by_bytes : ℕ → ℕ → ℕ
    by_bytes a b = if a == 70 then 1 else (if a == 69 then 3 else (if b == 82 then 0 else 2))

kind_read : (l : OrientLine) → kind_by (spelling l) ≡ kind_of l
kind_read (Head solid) = refl
kind_read (Flags shell flags) = refl
kind_read (Ring shell rows) = refl
kind_read End = refl

-- Bytes spell one line at most.
pub line_one : (bytes : List ℕ) (l m : OrientLine) → IsSpelled bytes l → IsSpelled bytes m → l ≡ m
line_one bytes l m a b =
    let same : spelling l ≡ spelling m = sym a.1 ∙ b.1 in
    let kinds : kind_of l ≡ kind_of m = sym (kind_read l) ∙ (ap kind_by same ∙ kind_read m) in
    let rests : spaced (numbers_in l) ++ 10 ∷ [] ≡ spaced (numbers_in m) ++ 10 ∷ [] =
    same_front (prefix_of (kind_of m)) (spaced (numbers_in l) ++ 10 ∷ []) (spaced (numbers_in m) ++ 10 ∷ [])
    (ap (λ k. prefix_of k ++ (spaced (numbers_in l) ++ 10 ∷ [])) (sym kinds) ∙ (sym (spelling_parts l) ∙ (same ∙ spelling_parts m))) in
    let numbers : numbers_in l ≡ numbers_in m = spaced_one (numbers_in l) (numbers_in m) (numbers_short l a.0) (numbers_short m b.0) rests in
    sym (rebuilt l) ∙ (ap (λ k. line_from k (numbers_in l)) kinds ∙ (ap (line_from (kind_of m)) numbers ∙ rebuilt m))

pub only_line : (bytes : List ℕ) (r : Result OrientLine OrientLineFault) → IfOk r (IsSpelled bytes) → IfErr r (IsLineFault bytes) → (l : OrientLine)
    → IsSpelled bytes l → IfOk r (λ m. m ≡ l)
only_line bytes (Ok m) h e l is = line_one bytes m l h is
only_line bytes (Err e) h k l is = tt

-- a text is one list of numbers at most
pub numbers_one : (text ns ms : List ℕ) → AreNumbers text ns → AreNumbers text ms → ns ≡ ms
numbers_one text ns ms a b = spaced_one ns ms a.short b.short (ap (λ t. t ++ 10 ∷ []) (sym a.text_is ∙ b.text_is))

-- what stands behind a letter
pub listed_told : {A : Type 0} (text letter rest : List ℕ) (o : Option A) (number : A → ℕ) (after : A → List ℕ) → text ≡ letter ++ rest
    → MatchOption o ((n : ℕ) (others : List ℕ) → ¬ Begins rest n others) (λ p. Begins rest (number p) (after p))
    → MatchOption o ((k : ℕ) (ns front : List ℕ) → text ≡ letter ++ front → ¬ AreNumbers front (k ∷ ns))
    (λ p. (front : List ℕ) × (text ≡ letter ++ front) × Begins front (number p) (after p))
listed_told text letter rest None number after e h =
    λ k ns front is a. h k (spaced ns) (numbers_begin rest ns k (subst (λ t. AreNumbers t (k ∷ ns)) (same_front letter front rest (sym is ∙ e)) a))
listed_told text letter rest (Some p) number after e h = (rest, e, h)

pub more_numbers : (text rest after list new ns : List ℕ) (n : ℕ) → Begins rest n after → new ≡ list ++ n ∷ []
    → ((ms : List ℕ) → AreNumbers rest ms → AreNumbers text (list ++ ms)) → AreNumbers after ns → AreNumbers text (new ++ ns)
more_numbers text rest after list new ns n b e read a = subst (AreNumbers text) (sym (ap (λ xs. xs ++ ns) e ∙ append_assoc list (n ∷ []) ns))
    (read (n ∷ ns) (begins_cons rest after ns n b a))

-- the letter's numbers are the shell and those behind it
pub behind : (text letter front after ns : List ℕ) (shell k : ℕ) → text ≡ letter ++ front → Begins front shell after → AllByRecursion IsShort (k ∷ ns)
    → text ≡ letter ++ spaced (k ∷ ns) → (k ≡ shell) × AreNumbers after ns
behind text letter front after ns shell k e b short is =
    let same : front ≡ spaced (k ∷ ns) = same_front letter front (spaced (k ∷ ns)) (sym e ∙ is) in
    begins_tail front after ns shell k b (record { short = short; text_is = same })

pub line_words : (text letter front after ns : List ℕ) (shell : ℕ) → text ≡ letter ++ front → Begins front shell after → AreNumbers after ns
    → text ≡ letter ++ spaced (shell ∷ ns)
line_words text letter front after ns shell e b a = e ∙ ap (λ t. letter ++ t) (begins_cons front after ns shell b a).text_is

flag_at : (flags : List Bool) (i : ℕ) → i < length (map flag_number flags) → (b : Bool) × (get_or (map flag_number flags) i 0 ≡ flag_number b)
flag_at [] i lt = absurd (omega (arith, lt))
flag_at (b ∷ bs) zero lt = (b, refl)
flag_at (b ∷ bs) (suc i) lt = flag_at bs i (omega (arith, lt))

pub no_flags : (numbers : List ℕ) (i n : ℕ) → i < length numbers → n ≡ get_or numbers i 0 → ((b : Bool) → n ≢ flag_number b) → (flags : List Bool)
    → numbers ≢ map flag_number flags
no_flags numbers i n lt is ne flags e =
    let t = flag_at flags i (omega (arith, lt, ap length e)) in
    ne t.0 (is ∙ (ap (λ xs. get_or xs i 0) e ∙ t.1))

pub length-flags : (flags : List Bool) → length (map flag_number flags) ≡ length flags
length-flags [] = refl
length-flags (b ∷ bs) = ap suc (length-flags bs)

-- no line is spelled, where none of the four kinds is
pub none_spelled : (text : List ℕ) → ((n : ℕ) → ¬ Spells text (Head (record { 0 = n }))) → ((k : ℕ) (flags : List Bool) → ¬ Spells text (Flags k flags))
    → ((k : ℕ) (rows : List ℕ) → ¬ Spells text (Ring k rows)) → text ≢ codes "END" → (l : OrientLine) → ¬ Spells text l
none_spelled text a b c d (Head solid) h = a solid.0 h
none_spelled text a b c d (Flags shell flags) h = b shell flags h
none_spelled text a b c d (Ring shell rows) h = c shell rows h
none_spelled text a b c d End h = d h.1

-- No flags line is spelled, where no numbers stand behind the shell, none at all, or others than flags.
pub flags_behind : (text front after : List ℕ) (shell k : ℕ) (flags : List Bool) → text ≡ codes "F" ++ front → Begins front shell after
    → Spells text (Flags k flags) → AreNumbers after (map flag_number flags)
flags_behind text front after shell k flags e b h = (behind text (codes "F") front after (map flag_number flags) shell k e b (h.0.0, flags_short flags) h.1).1

pub some_flags : (text front after ns : List ℕ) (shell k n : ℕ) (flags : List Bool) → text ≡ codes "F" ++ front → Begins front shell after
    → AreNumbers after ns → n ≡ length ns → n ≡ 0 → Spells text (Flags k flags) → ⊥
some_flags text front after ns shell k n flags e b a long none h =
    let same : ns ≡ map flag_number flags = numbers_one after ns (map flag_number flags) a (flags_behind text front after shell k flags e b h) in
    omega (arith, ap length same, length-flags flags, long, none, h.0.1)

pub rings_behind : (text front after : List ℕ) (shell k : ℕ) (rows : List ℕ) → text ≡ codes "O" ++ front → Begins front shell after → Spells text (Ring k rows)
    → AreNumbers after rows
rings_behind text front after shell k rows e b h = (behind text (codes "O") front after rows shell k e b h.0.0 h.1).1

pub some_rows : (text front after ns : List ℕ) (shell k n : ℕ) (rows : List ℕ) → text ≡ codes "O" ++ front → Begins front shell after → AreNumbers after ns
    → n ≡ length ns → n ≡ 0 → Spells text (Ring k rows) → ⊥
some_rows text front after ns shell k n rows e b a long none h =
    let same : ns ≡ rows = numbers_one after ns rows a (rings_behind text front after shell k rows e b h) in
    omega (arith, ap length same, long, none, h.0.1)
