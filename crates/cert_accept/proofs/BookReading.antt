-- The lines of a book are read in one way: good parts, and then a part that is the last one or has a fault.
use Rattle.std.specs.Prelude.{◌≡◌, ℕ, zero, suc, ◌+◌, ◌<◌, ◌⊎◌, List, [], ◌∷◌, ◌++◌, length, take, flat_map}
use Rattle.std.specs.List.{AllByRecursion, AllZip}
use Rattle.std.specs.List.Sorted.{IsStrictlyIncreasing}
use Rattle.std.proofs.Common.{refl, sym, ◌∙◌, ap, subst, arith, inl, inr, ⊎_elim, append_assoc, length-append}
use Rattle.std.proofs.lemmas.List.{map-append, append-nil, append_cancel_right}
use Rattle.iges_params.specs.Contents.{Contents}
use Rattle.brep_walk.specs.SolidOf.{solid_of}
use Rattle.solid_data.specs.Obligations.{AllHold}
use Rattle.solid_data.proofs.Members.{Rises, all_append, rises}
use Rattle.solid_data.proofs.ObligationLemmas.{FirstFalse-one, FirstFalse-not_all}
use Rattle.solid_data.proofs.ObligationsDecided.{all_or_first_false}
use Rattle.edge_uses.proofs.Whole.{rising}
use Rattle.cert_lines.specs.Line.{CertLine, head, solid, end, spelling, IsSpelled, IsLine, first_limit}
use Rattle.cert_lines.specs.Opening.{Opens, IsHeaded, IsHeadLine, IsWrong, IsSecondWrong, IsFirstWrong, IsBadOpening}
use Rattle.cert_lines.specs.declared.version.Version.TheVariants.{Two, Three}
use Rattle.cert_text.specs.declared.fault.Illegal.{Illegal}
use Rattle.cert_lines.proofs.Decided.{openings_are_decided}
use Rattle.cert_lines.proofs.Openings.{one_bad_opening, opens_or_bad}
use Rattle.cert_lines.proofs.Spelling.{line_one}
use Rattle.topo_certificate.specs.Legal.{IsLegal}
use Rattle.topo_certificate.proofs.LegalLemmas.{one_bad_in_part}
use Rattle.cert_accept.specs.Accepted.{Part, part_lines, solids_named, Certify, IsGoodPart, IsAcceptedBook}
use Rattle.cert_accept.specs.Accepted.{checked}
use Rattle.cert_accept.specs.Book.{BookRefusal, fails, illegal, IsPartFault, IsRestBad, IsBookBad}
use Rattle.cert_accept.specs.BookLaws.{OneRefusal, NoneBadWhereAccepted, AcceptedOrBad, OneReading}
use Rattle.cert_accept.proofs.CheckedParts.{certified_checked, checked_certified}
use Rattle.cert_accept.proofs.Decided.{checks_decided}
use Rattle.cert_accept.proofs.PartOutcomes.{BeginsAt, same_solid, one_beginning, legal_begins_none, bad_begins_none, legal_none_bad, part_comes_to}
use Rattle.cert_accept.proofs.PartOutcomes.{begins_legal, solid_short, legal_begins_next, BegunLine, begun_line}

abbrev Lines : Type 0
Lines = List (List ℕ)

-- The lines are good parts, a line that names solid n, and then the rest; the numbers of the solids rise.
pub record Reaches (f : Contents) (lines : List (List ℕ)) (before : List Part) (n : ℕ) (first : List ℕ) (rest : List (List ℕ)) : Type 0 where
  pub good : AllByRecursion (IsGoodPart f) before
  pub cut : lines ≡ flat_map part_lines before ++ first ∷ rest
  pub names : IsSpelled first (solid n)
  pub increase : Rises (solids_named before ++ n ∷ [])

-- Where all that is checked of solid n holds, none of the lines begins the next part.
abbrev Stays : Contents → ℕ → Lines → Type 0
Stays f n rest = AllHold (checked f n) → (k m : ℕ) → BeginsAt Two (solid_of f n) [] rest k m → ⊥

-- Lists.

same_head : (x y : List ℕ) (xs ys : Lines) → x ∷ xs ≡ y ∷ ys → x ≡ y
same_head x y xs ys e = cc

same_tail : (x y : List ℕ) (xs ys : Lines) → x ∷ xs ≡ y ∷ ys → xs ≡ ys
same_tail x y xs ys e = cc

both_same : (x y : List ℕ) (xs ys : Lines) → x ≡ y → xs ≡ ys → x ∷ xs ≡ y ∷ ys
both_same x y xs ys a b = cc

same_front : (xs ys us vs : Lines) → length xs ≡ length ys → xs ++ us ≡ ys ++ vs → (xs ≡ ys) × (us ≡ vs)
same_front [] [] us vs e h = (refl, h)
same_front [] (y ∷ ys) us vs e h = absurd (omega (arith, e))
same_front (x ∷ xs) [] us vs e h = absurd (omega (arith, e))
same_front (x ∷ xs) (y ∷ ys) us vs e h =
    let more = same_front xs ys us vs (omega (arith, e)) (same_tail x y (xs ++ us) (ys ++ vs) h) in
    (both_same x y xs ys (same_head x y (xs ++ us) (ys ++ vs) h) more.0, more.1)

all_behind : {A : Type 0} (P : A → Type 0) (xs ys : List A) → AllByRecursion P (xs ++ ys) → AllByRecursion P ys
all_behind P [] ys h = h
all_behind P (x ∷ xs) ys h = all_behind P xs ys h.1

all_front : {A : Type 0} (P : A → Type 0) (xs ys : List A) → AllByRecursion P (xs ++ ys) → AllByRecursion P xs
all_front P [] ys h = tt
all_front P (x ∷ xs) ys h = (h.0, all_front P xs ys h.1)

-- one greater number more
rises_more : (ns : List ℕ) (n m : ℕ) → Rises (ns ++ n ∷ []) → n < m → Rises ((ns ++ n ∷ []) ++ m ∷ [])
rises_more [] n m h lt = ((lt, tt), (tt, tt))
rises_more (x ∷ ns) n m h lt =
    let below : x < n = (all_behind (λ y. x < y) ns (n ∷ []) h.0).0 in
    let lower : x < m = omega (arith, below, lt) in
    (all_append (λ y. x < y) (ns ++ n ∷ []) (m ∷ []) h.0 (lower, tt), rises_more ns n m h.1 lt)

-- Parts.

abbrev pub made_part : ℕ → List ℕ → List (List ℕ) → Part
made_part n first further = record { solid = n; first = first; further = further }

same_part : (p q : Part) → p.solid ≡ q.solid → p.first ≡ q.first → p.further ≡ q.further → p ≡ q
same_part p q a b c = ap (λ (n : ℕ). made_part n p.first p.further) a
    ∙ (ap (λ (x : List ℕ). made_part q.solid x p.further) b ∙ ap (λ (ls : Lines). made_part q.solid q.first ls) c)

same_parts : (p q : Part) (ps qs : List Part) → p ≡ q → ps ≡ qs → p ∷ ps ≡ q ∷ qs
same_parts p q ps qs a b = cc

pub named_more : (before : List Part) (p : Part) → solids_named (before ++ p ∷ []) ≡ solids_named before ++ p.solid ∷ []
named_more before p = map-append (λ (q : Part). q.solid) before (p ∷ [])

pub lines_more : (before : List Part) (p : Part) (rest : List (List ℕ)) → flat_map part_lines (before ++ p ∷ []) ++ rest ≡ flat_map part_lines before
    ++ p.first ∷ (p.further ++ rest)
lines_more [] p rest = ap (λ (ls : Lines). p.first ∷ (ls ++ rest)) (append-nil p.further)
lines_more (q ∷ qs) p rest =
    append_assoc (part_lines q) (flat_map part_lines (qs ++ p ∷ [])) rest
    ∙ (ap (λ (ls : Lines). part_lines q ++ ls) (lines_more qs p rest)
    ∙ sym (append_assoc (part_lines q) (flat_map part_lines qs) (p.first ∷ (p.further ++ rest))))

pub solid_entity : (f : Contents) (n : ℕ) → (solid_of f n).entity.0 ≡ n
unfolding solid_of
solid_entity f n = refl

-- the solid that stands behind parts, or the first of their solids
abbrev lead : List Part → ℕ → ℕ
lead [] n = n
lead (q ∷ qs) n = q.solid

next_begins : (f : Contents) (p : Part) (bytes : List ℕ) (more : Lines) (m : ℕ) → IsGoodPart f p → IsSpelled bytes (solid m) → p.solid < m
    → BeginsAt Two (solid_of f p.solid) [] (p.further ++ bytes ∷ more) (length p.further) m
next_begins f p bytes more m good names above =
    legal_begins_next Two (solid_of f p.solid) p.further bytes more m good.certified.legal names (subst (λ k. k < m) (sym (solid_entity f p.solid)) above)

-- behind a good part that others follow, the next part begins
begins_behind : (f : Contents) (p : Part) (ps : List Part) (n : ℕ) (first : List ℕ) (rest : Lines) → IsGoodPart f p → AllByRecursion (IsGoodPart f) ps
    → IsSpelled first (solid n) → Rises (p.solid ∷ (solids_named ps ++ n ∷ []))
    → BeginsAt Two (solid_of f p.solid) [] (p.further ++ (flat_map part_lines ps ++ first ∷ rest)) (length p.further) (lead ps n)
begins_behind f p [] n first rest good all names rise = next_begins f p first rest n good names rise.0.0
begins_behind f p (q ∷ qs) n first rest good all names rise = next_begins f p q.first ((q.further ++ flat_map part_lines qs) ++ first ∷ rest) q.solid good
    all.0.names rise.0.0

same_number : (a b : List ℕ) (n m : ℕ) → a ≡ b → IsSpelled a (solid n) → IsSpelled b (solid m) → n ≡ m
same_number a b n m e x y = same_solid n m (line_one b (solid n) (solid m) (subst (λ c. IsSpelled c (solid n)) e x) y)

-- a part that another follows is not one whose lines stay in it
not_last : (f : Contents) (n : ℕ) (first : List ℕ) (rest : Lines) (q : Part) (qs : List Part) (m : ℕ) (second : List ℕ) (others : Lines)
    → IsSpelled first (solid n) → Stays f n rest
    → AllByRecursion (IsGoodPart f) (q ∷ qs) → IsSpelled second (solid m) → Rises (solids_named (q ∷ qs) ++ m ∷ [])
    → first ∷ rest ≡ flat_map part_lines (q ∷ qs) ++ second ∷ others → ⊥
not_last f n first rest q qs m second others names stays good names_m rise e =
    let behind : Lines = (q.further ++ flat_map part_lines qs) ++ second ∷ others in
    let number : n ≡ q.solid = same_number first q.first n q.solid (same_head first q.first rest behind e) names good.0.names in
    let cut : rest ≡ q.further ++ (flat_map part_lines qs ++ second ∷ others) = same_tail first q.first rest behind e
    ∙ append_assoc q.further (flat_map part_lines qs) (second ∷ others) in
    let moved : Stays f q.solid (q.further ++ (flat_map part_lines qs ++ second ∷ others)) =
    subst (λ k. Stays f k (q.further ++ (flat_map part_lines qs ++ second ∷ others))) number (subst (Stays f n) cut stays) in
    moved (certified_checked Two f q.solid (q.further ++ spelling end ∷ []) good.0.certified) (length q.further) (lead qs m)
    (begins_behind f q qs m second others good.0 good.1 names_m rise)

-- Good parts and then a part whose lines stay in it are there in one way.
abbrev SameReach : List Part → ℕ → List ℕ → Lines → List Part → ℕ → List ℕ → Lines → Type 0
SameReach before n first rest after m second others = (before ≡ after) × (n ≡ m) × (first ≡ second) × (rest ≡ others)

same_reach : (f : Contents) (before : List Part) (n : ℕ) (first : List ℕ) (rest : Lines) (after : List Part) (m : ℕ) (second : List ℕ) (others : Lines)
    → AllByRecursion (IsGoodPart f) before → IsSpelled first (solid n) → Rises (solids_named before ++ n ∷ []) → Stays f n rest
    → AllByRecursion (IsGoodPart f) after → IsSpelled second (solid m) → Rises (solids_named after ++ m ∷ []) → Stays f m others
    → flat_map part_lines before ++ first ∷ rest ≡ flat_map part_lines after ++ second ∷ others → SameReach before n first rest after m second others
same_reach f [] n first rest [] m second others good names rise stays good_m names_m rise_m stays_m e =
    let heads : first ≡ second = same_head first second rest others e in
    (refl, same_number first second n m heads names names_m, heads, same_tail first second rest others e)
same_reach f [] n first rest (q ∷ qs) m second others good names rise stays good_m names_m rise_m stays_m e =
    absurd (not_last f n first rest q qs m second others names stays good_m names_m rise_m e)
same_reach f (p ∷ ps) n first rest [] m second others good names rise stays good_m names_m rise_m stays_m e =
    absurd (not_last f m second others p ps n first rest names_m stays_m good names rise (sym e))
same_reach f (p ∷ ps) n first rest (q ∷ qs) m second others good names rise stays good_m names_m rise_m stays_m e =
    let x : Lines = flat_map part_lines ps ++ first ∷ rest in
    let y : Lines = flat_map part_lines qs ++ second ∷ others in
    let x_all : Lines = (p.further ++ flat_map part_lines ps) ++ first ∷ rest in
    let y_all : Lines = (q.further ++ flat_map part_lines qs) ++ second ∷ others in
    let heads : p.first ≡ q.first = same_head p.first q.first x_all y_all e in
    let number : p.solid ≡ q.solid = same_number p.first q.first p.solid q.solid heads good.0.names good_m.0.names in
    let tails : p.further ++ x ≡ q.further ++ y = sym (append_assoc p.further (flat_map part_lines ps) (first ∷ rest))
    ∙ (same_tail p.first q.first x_all y_all e ∙ append_assoc q.further (flat_map part_lines qs) (second ∷ others)) in
    let one : BeginsAt Two (solid_of f p.solid) [] (p.further ++ x) (length p.further) (lead ps n) = begins_behind f p ps n first rest good.0 good.1 names rise
    in
    let other : BeginsAt Two (solid_of f q.solid) [] (q.further ++ y) (length q.further) (lead qs m) =
    begins_behind f q qs m second others good_m.0 good_m.1 names_m rise_m in
    let moved : BeginsAt Two (solid_of f p.solid) [] (p.further ++ x) (length q.further) (lead qs m) =
    subst (λ ls. BeginsAt Two (solid_of f p.solid) [] ls (length q.further) (lead qs m)) (sym tails)
    (subst (λ k. BeginsAt Two (solid_of f k) [] (q.further ++ y) (length q.further) (lead qs m)) (sym number) other) in
    let lengths : length p.further ≡ length q.further =
    (one_beginning Two (solid_of f p.solid) [] (p.further ++ x) (length p.further) (lead ps n) (length q.further) (lead qs m) one moved).0 in
    let parts = same_front p.further q.further x y lengths tails in
    let later = same_reach f ps n first rest qs m second others good.1 names rise.1 stays good_m.1 names_m rise_m.1 stays_m parts.1 in
    (same_parts p q ps qs (same_part p q number heads parts.0) later.0, later.1, later.2, later.3)

pub one_reaching : (f : Contents) (lines : List (List ℕ)) (before : List Part) (n : ℕ) (first : List ℕ) (rest : List (List ℕ)) (after : List Part) (m : ℕ)
    (second : List ℕ) (others : List (List ℕ))
    → Reaches f lines before n first rest → Stays f n rest → Reaches f lines after m second others → Stays f m others
    → SameReach before n first rest after m second others
one_reaching f lines before n first rest after m second others a stays_a b stays_b = same_reach f before n first rest after m second others a.good a.names
    a.increase stays_a b.good b.names b.increase stays_b (sym a.cut ∙ b.cut)

-- What is behind the line that names the solid: a fault, END behind legal lines, or the next part.

abbrev pub part_number : List Part → ℕ
part_number before = 2 + length (flat_map part_lines before) + 1

pub part_refused : (f : Contents) (lines : List (List ℕ)) (before : List Part) (n : ℕ) (first : List ℕ) (rest : List (List ℕ)) (a : BookRefusal)
    → Reaches f lines before n first rest → IsPartFault f n (part_number before) rest a → IsBookBad f lines a
part_refused f lines before n first rest a r fault =
    let p : Part = made_part n first rest in
    record {
      before = before;
      good = r.good;
      rest = first ∷ rest;
      cut = r.cut;
      bad = inr (p, refl, r.names, subst IsStrictlyIncreasing (sym (named_more before p)) (rising (solids_named before ++ n ∷ []) r.increase), fault);
    }

-- The lines are those of these parts, and END.
pub record IsBookOf (f : Contents) (lines : List (List ℕ)) (parts : List Part) : Type 0 where
  pub cut : lines ≡ flat_map part_lines parts ++ spelling end ∷ []
  pub some : 0 < length parts
  pub increase : IsStrictlyIncreasing (solids_named parts)
  pub good : AllByRecursion (IsGoodPart f) parts

last_line : (limit : ℕ) (lines : Lines) (read : List CertLine) → AllZip (IsLine limit) lines (read ++ end ∷ [])
    → (front : Lines) × (lines ≡ front ++ spelling end ∷ [])
last_line limit [] [] h = absurd h
last_line limit (x ∷ []) [] h = ([], ap (λ (y : List ℕ). y ∷ []) h.0.1.1)
last_line limit (x ∷ y ∷ lines) [] h = absurd h.1
last_line limit [] (l ∷ read) h = absurd h
last_line limit (x ∷ lines) (l ∷ read) h =
    let more = last_line limit lines read h.1 in
    (x ∷ more.0, ap (λ (ls : Lines). x ∷ ls) more.1)

pub part_ends : (f : Contents) (lines : List (List ℕ)) (before : List Part) (n : ℕ) (first : List ℕ) (rest : List (List ℕ))
    → Reaches f lines before n first rest → AllHold (checked f n) → IsLegal Two (solid_of f n) rest
    → (parts : List Part) × IsBookOf f lines parts × (solids_named parts ≡ solids_named before ++ n ∷ [])
part_ends f lines before n first rest r all legal =
    let last = last_line _ rest legal.before (subst (AllZip (IsLine _) rest) legal.ended legal.fitting.spelled) in
    let p : Part = made_part n first last.0 in
    let good : IsGoodPart f p =
    record { names = r.names; certified = checked_certified Two f n (last.0 ++ spelling end ∷ []) all (subst (IsLegal Two (solid_of f n)) last.1 legal) }
    in (
      before ++ p ∷ [],
      record {
        cut = r.cut ∙ (ap (λ (ls : Lines). flat_map part_lines before ++ first ∷ ls) last.1 ∙ sym (lines_more before p (spelling end ∷ [])));
        some = omega (arith, length-append before (p ∷ []));
        increase = subst IsStrictlyIncreasing (sym (named_more before p)) (rising (solids_named before ++ n ∷ []) r.increase);
        good = all_append (IsGoodPart f) before (p ∷ []) r.good (good, tt);
      },
      named_more before p,
    )

-- The lines before the one that begins the next part are a good part, and that line is reached behind it.
pub next_reached : (f : Contents) (lines : List (List ℕ)) (before : List Part) (n : ℕ) (first : List ℕ) (further : List (List ℕ)) (bytes : List ℕ) (m : ℕ)
    (rest : List (List ℕ)) → Reaches f lines before n first (further ++ bytes ∷ rest) → AllHold (checked f n)
    → IsLegal Two (solid_of f n) (further ++ spelling end ∷ []) → IsSpelled bytes (solid m) → n < m
    → Reaches f lines (before ++ made_part n first further ∷ []) m bytes rest
next_reached f lines before n first further bytes m rest r all legal names above =
    let p : Part = made_part n first further in
    record {
      good = all_append (IsGoodPart f) before (p ∷ []) r.good
          (record { names = r.names; certified = checked_certified Two f n (further ++ spelling end ∷ []) all legal }, tt);
      cut = r.cut ∙ sym (lines_more before p (bytes ∷ rest));
      names = names;
      increase = subst (λ ns. Rises (ns ++ m ∷ [])) (sym (named_more before p)) (rises_more (solids_named before) n m r.increase above);
    }

-- Of all books: something is bad, or it is accepted.

abbrev Answer : Contents → Lines → Type 0
Answer f lines = ((parts : List Part) × IsBookOf f lines parts) ⊎ ((a : BookRefusal) × IsBookBad f lines a)

read_on : (fuel : ℕ) (f : Contents) (lines : Lines) (before : List Part) (n : ℕ) (first : List ℕ) (rest : Lines) → length rest < fuel
    → Reaches f lines before n first rest → Answer f lines
read_on zero f lines before n first rest lt r = absurd (omega (arith, lt))
read_on (suc fuel) f lines before n first rest lt r =
    ⊎_elim
    (λ all. ⊎_elim (λ legal. (let ends = part_ends f lines before n first rest r all legal in inl (ends.0, ends.1)))
    (λ other. ⊎_elim (λ (bad, h). inr (illegal bad, part_refused f lines before n first rest (illegal bad) r (all, h)))
    (λ (k, m, next).
    let b : BegunLine (solid_of f n) rest k m = begun_line Two (solid_of f n) [] rest k m next in
    let above : n < m = subst (λ i. i < m) (solid_entity f n) b.above in
    let shorter : length b.rest < fuel = omega (arith, lt, ap (λ (ls : Lines). length ls) b.cut, length-append (take k rest) (b.bytes ∷ b.rest)) in
    read_on fuel f lines (before ++ made_part n first (take k rest) ∷ []) m b.bytes b.rest shorter
    (next_reached f lines before n first (take k rest) b.bytes m b.rest (subst (Reaches f lines before n first) b.cut r) all
    (begins_legal Two (solid_of f n) rest k m next) b.names above)) other)
    (part_comes_to Two (solid_of f n) (part_number before) rest))
    (λ (x, bad). inr (fails n x, part_refused f lines before n first rest (fails n x) r (refl, bad)))
    (all_or_first_false (checked f n) (checks_decided f n))

-- Line 2 names a solid, or it is bad.

head_wrong : (bytes : List ℕ) (bad : Illegal) → IsLine first_limit bytes (head Three) → IsWrong IsHeadLine 1 bytes bad → ⊥
head_wrong bytes bad is (inl misspelt) = misspelt.0.none (head Three) is.1
head_wrong bytes bad is (inr (inl long, e)) = absurd (omega (arith, long.0, is.0))
head_wrong bytes bad is (inr (inr (line, is_line, other), e)) = other (Three, line_one bytes line (head Three) is_line.1 is.1)

second_wrong : (first : List ℕ) (lines : Lines) (bad : Illegal) → IsLine first_limit first (head Three) → IsFirstWrong (first ∷ lines) bad
    → IsSecondWrong lines bad
second_wrong first lines bad is (inl wrong) = absurd (head_wrong first bad is wrong)
second_wrong first lines bad is (inr (v, is_head, wrong)) = wrong

second_decided : (certificate : List ℕ) (lines : Lines) → IsHeaded certificate Three lines
    → ((bytes : List ℕ) × (n : ℕ) × (rest : Lines) × (lines ≡ bytes ∷ rest) × IsSpelled bytes (solid n)) ⊎ ((bad : Illegal) × IsSecondWrong lines bad)
second_decided certificate lines headed =
    ⊎_elim (λ (v, n, rest, o). inl (o.second, n, rest, same_tail headed.first o.first lines (o.second ∷ rest) (sym headed.cut ∙ o.cut), o.names.1))
    (λ (bad, wrong). inr (bad, second_wrong headed.first lines bad headed.is_head (subst (λ ls. IsFirstWrong ls bad) headed.cut wrong)))
    (openings_are_decided certificate)

-- Behind the head a part is reached where line 2 names a solid.
pub first_reached : (f : Contents) (bytes : List ℕ) (n : ℕ) (rest : List (List ℕ)) → IsSpelled bytes (solid n) → Reaches f (bytes ∷ rest) [] n bytes rest
first_reached f bytes n rest names = record { good = tt; cut = refl; names = names; increase = (tt, tt) }

pub second_refused : (f : Contents) (lines : List (List ℕ)) (bad : Illegal) → IsSecondWrong lines bad → IsBookBad f lines (illegal bad)
second_refused f lines bad wrong = record { before = []; good = tt; rest = lines; cut = refl; bad = inl (refl, (bad, refl, wrong)) }

answered : (f : Contents) (certificate : List ℕ) (lines : Lines) → IsHeaded certificate Three lines → Answer f lines
answered f certificate lines headed =
    ⊎_elim (λ (bytes, n, rest, cut, names). read_on (suc (length rest)) f lines [] n bytes rest (omega arith)
    (subst (λ ls. Reaches f ls [] n bytes rest) (sym cut) (first_reached f bytes n rest names)))
    (λ (bad, wrong). inr (illegal bad, second_refused f lines bad wrong))
    (second_decided certificate lines headed)

pub accepted_of : (f : Contents) (certificate : List ℕ) (lines : List (List ℕ)) (parts : List Part) → IsHeaded certificate Three lines → IsBookOf f lines parts
    → IsAcceptedBook f certificate parts
accepted_of f certificate lines parts headed book =
    record { headed = subst (IsHeaded certificate Three) book.cut headed; some = book.some; rising = book.increase; good = book.good }

pub accepted_or_bad : AcceptedOrBad
accepted_or_bad f certificate lines headed = ⊎_elim (λ (parts, book). inl (parts, accepted_of f certificate lines parts headed book)) (λ other. inr other)
    (answered f certificate lines headed)

-- What a bad book shows: its second line, or a part with a fault.

abbrev IsSecondBad : Lines → BookRefusal → Type 0
IsSecondBad lines a = (bad : Illegal) × (a ≡ illegal bad) × IsSecondWrong lines bad

record PartIsBad (f : Contents) (lines : List (List ℕ)) (a : BookRefusal) : Type 0 where
  pub before : List Part
  pub number : ℕ
  pub first : List ℕ
  pub rest : List (List ℕ)
  pub reaches : Reaches f lines before number first rest
  pub fault : IsPartFault f number (part_number before) rest a

bad_shows : (f : Contents) (lines : Lines) (a : BookRefusal) → IsBookBad f lines a → IsSecondBad lines a ⊎ PartIsBad f lines a
bad_shows f lines a h = by_rest h.bad
  where
    by_rest : IsRestBad f h.before (2 + length (flat_map part_lines h.before)) h.rest a → IsSecondBad lines a ⊎ PartIsBad f lines a
    by_rest (inl (none, (bad, e, wrong))) =
        inl (bad, e, subst (λ ls. IsSecondWrong ls bad) (sym (h.cut ∙ ap (λ (ps : List Part). flat_map part_lines ps ++ h.rest) none)) wrong)
    by_rest (inr (p, cut, names, rise, fault)) = inr (record {
      before = h.before;
      number = p.solid;
      first = p.first;
      rest = p.further;
      reaches = record {
        good = h.good;
        cut = h.cut ∙ ap (λ (ls : Lines). flat_map part_lines h.before ++ ls) cut;
        names = names;
        increase =
            subst Rises (named_more h.before p) (rises (solids_named (h.before ++ p ∷ [])) rise);
      };
      fault = fault;
    })

opens_with : (certificate : List ℕ) (lines : Lines) (bytes : List ℕ) (rest : Lines) (n : ℕ) → IsHeaded certificate Three lines → lines ≡ bytes ∷ rest
    → IsSpelled bytes (solid n) → Opens certificate Three n rest
opens_with certificate lines bytes rest n headed cut names =
    record {
      first = headed.first;
      second = bytes;
      cut = headed.cut ∙ ap (λ (ls : Lines). headed.first ∷ ls) cut;
      is_head = headed.is_head;
      names =
          (solid_short bytes n names, names);
    }

opens_badly : (certificate : List ℕ) (lines : Lines) (bad : Illegal) → IsHeaded certificate Three lines → IsSecondWrong lines bad → IsBadOpening certificate bad
opens_badly certificate lines bad headed wrong = subst (λ ls. IsFirstWrong ls bad) (sym headed.cut) (inr (Three, headed.is_head, wrong))

-- where a part is reached, line 2 is not bad
second_good : (f : Contents) (certificate : List ℕ) (lines : Lines) (before : List Part) (n : ℕ) (first : List ℕ) (rest : Lines) (bad : Illegal)
    → IsHeaded certificate Three lines → Reaches f lines before n first rest → IsSecondWrong lines bad → ⊥
second_good f certificate lines [] n first rest bad headed r wrong =
    opens_or_bad certificate Three n rest bad (opens_with certificate lines first rest n headed r.cut r.names) (opens_badly certificate lines bad headed wrong)
second_good f certificate lines (q ∷ qs) n first rest bad headed r wrong =
    opens_or_bad certificate Three q.solid ((q.further ++ flat_map part_lines qs) ++ first ∷ rest) bad
    (opens_with certificate lines q.first ((q.further ++ flat_map part_lines qs) ++ first ∷ rest) q.solid headed r.cut r.good.0.names)
    (opens_badly certificate lines bad headed wrong)

fault_stays : (f : Contents) (n number : ℕ) (rest : Lines) (a : BookRefusal) → IsPartFault f n number rest a → Stays f n rest
fault_stays f n number rest (fails m x) h = λ all k i next. FirstFalse-not_all (checked f n) x h.1 all
fault_stays f n number rest (illegal bad) h = λ all k i next. bad_begins_none Two (solid_of f n) number rest bad k i h.1 next

one_fault : (f : Contents) (n number : ℕ) (rest : Lines) (a b : BookRefusal) → IsPartFault f n number rest a → IsPartFault f n number rest b → a ≡ b
one_fault f n number rest (fails m x) (fails i y) p q = ap (λ (k : ℕ). fails k x) (p.0 ∙ sym q.0) ∙ ap (fails i) (FirstFalse-one (checked f n) x y p.1 q.1)
one_fault f n number rest (fails m x) (illegal bad) p q = absurd (FirstFalse-not_all (checked f n) x p.1 q.0)
one_fault f n number rest (illegal bad) (fails m x) p q = absurd (FirstFalse-not_all (checked f n) x q.1 p.0)
one_fault f n number rest (illegal bad) (illegal other) p q = ap illegal (one_bad_in_part Two (solid_of f n) number rest bad other p.1 q.1)

no_fault : (f : Contents) (n number : ℕ) (rest : Lines) (a : BookRefusal) → Certify Two f n rest → IsPartFault f n number rest a → ⊥
no_fault f n number rest (fails m x) c h = FirstFalse-not_all (checked f n) x h.1 (certified_checked Two f n rest c)
no_fault f n number rest (illegal bad) c h = legal_none_bad Two (solid_of f n) number rest bad c.legal h.1

-- a fault of a part is one of the same part
moved_fault : (f : Contents) (a : BookRefusal) (before : List Part) (n : ℕ) (first : List ℕ) (rest : Lines) (after : List Part) (m : ℕ) (second : List ℕ)
    (others : Lines)
    → SameReach before n first rest after m second others → IsPartFault f m (part_number after) others a → IsPartFault f n (part_number before) rest a
moved_fault f a before n first rest after m second others same fault =
    subst (λ (ps : List Part). IsPartFault f n (part_number ps) rest a) (sym same.0)
    (subst (λ k. IsPartFault f k (part_number after) rest a) (sym same.1) (subst (λ (ls : Lines). IsPartFault f m (part_number after) ls a) (sym same.3) fault))

pub one_refusal : OneRefusal
one_refusal f certificate lines a b headed p q = by_cases (bad_shows f lines a p) (bad_shows f lines b q)
  where
    by_cases : IsSecondBad lines a ⊎ PartIsBad f lines a → IsSecondBad lines b ⊎ PartIsBad f lines b → a ≡ b
    by_cases (inl x) (inl y) =
        x.1 ∙ (ap illegal (one_bad_opening certificate x.0 y.0 (opens_badly certificate lines x.0 headed x.2) (opens_badly certificate lines y.0 headed y.2))
        ∙ sym y.1)
    by_cases (inl x) (inr y) = absurd (second_good f certificate lines y.before y.number y.first y.rest x.0 headed y.reaches x.2)
    by_cases (inr x) (inl y) = absurd (second_good f certificate lines x.before x.number x.first x.rest y.0 headed x.reaches y.2)
    by_cases (inr x) (inr y) =
        let same = one_reaching f lines x.before x.number x.first x.rest y.before y.number y.first y.rest x.reaches
        (fault_stays f x.number (part_number x.before) x.rest a x.fault) y.reaches (fault_stays f y.number (part_number y.before) y.rest b y.fault) in
        one_fault f x.number (part_number x.before) x.rest a b x.fault
        (moved_fault f b x.before x.number x.first x.rest y.before y.number y.first y.rest same y.fault)

-- The last part of an accepted book.

some_last : (parts : List Part) → 0 < length parts → (before : List Part) × (last : Part) × (parts ≡ before ++ last ∷ [])
some_last [] h = absurd (omega (arith, h))
some_last (p ∷ []) h = ([], p, refl)
some_last (p ∷ q ∷ ps) h =
    let more = some_last (q ∷ ps) (omega arith) in
    (p ∷ more.0, more.1, ap (λ (xs : List Part). p ∷ xs) more.2)

record BookEnds (f : Contents) (lines : List (List ℕ)) (parts : List Part) : Type 0 where
  pub before : List Part
  pub last : Part
  pub are : parts ≡ before ++ last ∷ []
  pub reaches : Reaches f lines before last.solid last.first (last.further ++ spelling end ∷ [])
  pub certified : Certify Two f last.solid (last.further ++ spelling end ∷ [])

book_ends : (f : Contents) (certificate : List ℕ) (lines : Lines) (parts : List Part) → IsHeaded certificate Three lines → IsAcceptedBook f certificate parts
    → BookEnds f lines parts
book_ends f certificate lines parts headed book =
    let (before, last, are) = some_last parts book.some in
    let good : AllByRecursion (IsGoodPart f) (before ++ last ∷ []) = subst (AllByRecursion (IsGoodPart f)) are book.good in
    let last_good : IsGoodPart f last = (all_behind (IsGoodPart f) before (last ∷ []) good).0 in
    let cut : lines ≡ flat_map part_lines parts ++ spelling end ∷ [] =
    same_tail headed.first book.headed.first lines (flat_map part_lines parts ++ spelling end ∷ []) (sym headed.cut ∙ book.headed.cut) in
    record {
      before = before;
      last = last;
      are = are;
      reaches = record {
        good = all_front (IsGoodPart f) before (last ∷ []) good;
        cut = cut ∙ (ap (λ (ps : List Part). flat_map part_lines ps ++ spelling end ∷ []) are ∙ lines_more before last (spelling end ∷ []));
        names = last_good.names;
        increase = subst Rises (ap solids_named are ∙ named_more before last) (rises (solids_named parts) book.rising);
      };
      certified = last_good.certified;
    }

end_stays : (f : Contents) (n : ℕ) (rest : Lines) → Certify Two f n rest → Stays f n rest
end_stays f n rest c = λ all k m next. legal_begins_none Two (solid_of f n) rest k m c.legal next

pub none_bad : NoneBadWhereAccepted
none_bad f certificate lines parts a headed book bad = by_cases (bad_shows f lines a bad)
  where
    ends : BookEnds f lines parts
    ends = book_ends f certificate lines parts headed book

    closing : Lines
    closing = ends.last.further ++ spelling end ∷ []

    by_cases : IsSecondBad lines a ⊎ PartIsBad f lines a → ⊥
    by_cases (inl x) = second_good f certificate lines ends.before ends.last.solid ends.last.first closing x.0 headed ends.reaches x.2
    by_cases (inr x) =
        let same = one_reaching f lines ends.before ends.last.solid ends.last.first closing x.before x.number x.first x.rest ends.reaches
        (end_stays f ends.last.solid closing ends.certified) x.reaches (fault_stays f x.number (part_number x.before) x.rest a x.fault) in
        no_fault f ends.last.solid (part_number ends.before) closing a ends.certified
        (moved_fault f a ends.before ends.last.solid ends.last.first closing x.before x.number x.first x.rest same x.fault)

pub one_reading : OneReading
one_reading f certificate p q a b =
    let lines : Lines = flat_map part_lines p ++ spelling end ∷ [] in
    let x : BookEnds f lines p = book_ends f certificate lines p a.headed a in
    let y : BookEnds f lines q = book_ends f certificate lines q a.headed b in
    let same = one_reaching f lines x.before x.last.solid x.last.first (x.last.further ++ spelling end ∷ []) y.before y.last.solid y.last.first
    (y.last.further ++ spelling end ∷ []) x.reaches (end_stays f x.last.solid (x.last.further ++ spelling end ∷ []) x.certified)
    y.reaches (end_stays f y.last.solid (y.last.further ++ spelling end ∷ []) y.certified) in
    let last : x.last ≡ y.last = same_part x.last y.last same.1 same.2 (append_cancel_right x.last.further y.last.further (spelling end ∷ []) same.3) in
    x.are ∙ (ap (λ (ps : List Part). ps ++ x.last ∷ []) same.0 ∙ (ap (λ (z : Part). y.before ++ z ∷ []) last ∙ sym y.are))
