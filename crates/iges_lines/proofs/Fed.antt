-- What lines that were taken, and a rest, stand for when more bytes come.
use Rattle.std.proofs.Common.{◌≡◌, ℕ, ◌+◌, ◌<◌, ◌≤◌, true, List, [], ◌∷◌, ◌++◌, length, map, Some, None, Result, Ok, Err, refl, sym, ap, subst, ◌∙◌}
use Rattle.std.proofs.Common.{append_assoc, arith, length-append}
use Rattle.std.specs.Prelude.{OnOk, OnErr, flat_map}
use Rattle.std.specs.Str.Lines.{strip_carriage_return}
use Rattle.std.proofs.lemmas.List.{append-nil, map-append, length-map}
use Rattle.iges_base.specs.InLine.{is_in_line}
use Rattle.iges_base.specs.Ended.{ended, IsBegun}
use Rattle.iges_base.proofs.Ended.{begun_none, begun_more, begun_end}
use Rattle.iges_base.proofs.InLines.{both_in_line}
use Rattle.iges_base.specs.declared.no_memory.NoMemory.{NoMemory}
use Rattle.iges_lines.specs.declared.fault.LineFault.{LineFault}
use Rattle.iges_lines.specs.Feeding.{Taken, AreTaken, StandsFor, Fed, IsFed}
use Rattle.iges_lines.specs.Lines.{lines}
use Rattle.iges_lines.proofs.Cutting.{lines_begun, last_piece}
use Rattle.iges_lines.proofs.Going.{NextTaken, taken_behind, number_is}

pub stands_none : (t : Taken) → AreTaken [] t → StandsFor t [] []
stands_none t h = record { pieces = []; more = []; begun = begun_none; taken = h; still = λ e. (refl, refl) }

-- the rest grows
pub stands_more : (t : Taken) (rest bytes x : List ℕ) → is_in_line x ≡ true → StandsFor t rest bytes → StandsFor t (rest ++ x) (bytes ++ x)
stands_more t rest bytes x h s = record {
  pieces = s.pieces;
  more = s.more ++ x;
  begun = begun_more bytes s.pieces s.more x s.begun;
  taken = s.taken;
  still = λ e. let k = s.still e in (ap (λ (m : List ℕ). m ++ x) k.0, both_in_line rest x k.1 h);
}

-- behind a fault any bytes may come, and any rest may be kept
pub stands_behind : (t : Taken) (f : LineFault) (rest new bytes x : List ℕ) → t.fault ≡ Some f → StandsFor t rest bytes → StandsFor t new (bytes ++ x)
stands_behind t f rest new bytes x e s = record {
  pieces = s.pieces;
  more = s.more ++ x;
  begun = begun_more bytes s.pieces s.more x s.begun;
  taken = s.taken;
  still = λ none. let no : None ≡ Some f = sym none ∙ e in absurd cc;
}

-- an LF comes, and the line that it ends is taken
pub stands_next : (old new : Taken) (rest bytes head : List ℕ) → old.fault ≡ None → is_in_line head ≡ true →
    NextTaken old (strip_carriage_return (rest ++ head)) new
    → StandsFor old rest bytes → StandsFor new [] (bytes ++ (head ++ 10 ∷ []))
stands_next old new rest bytes head none h next s =
    let k = s.still none in
    let begun : IsBegun (bytes ++ head) s.pieces (rest ++ head) =
    subst (λ (m : List ℕ). IsBegun (bytes ++ head) s.pieces (m ++ head)) k.0 (begun_more bytes s.pieces s.more head s.begun) in
    let done : IsBegun (bytes ++ (head ++ 10 ∷ [])) (s.pieces ++ (rest ++ head) ∷ []) [] =
    subst (λ (b : List ℕ). IsBegun b (s.pieces ++ (rest ++ head) ∷ []) []) (append_assoc bytes head (10 ∷ []))
    (begun_end (bytes ++ head) s.pieces (rest ++ head) begun (both_in_line rest head k.1 h)) in
    record {
      pieces = s.pieces ++ (rest ++ head) ∷ [];
      more = [];
      begun = done;
      taken = subst (λ (ls : List (List ℕ)). AreTaken ls new) (sym (map-append strip_carriage_return s.pieces ((rest ++ head) ∷ [])))
          (next (map strip_carriage_return s.pieces) s.taken);
      still = λ e. (refl, refl);
    }

-- ---- the loop over lines that have ended

-- of the bytes these are left
abbrev pub IsLeft : Taken → List ℕ → Taken → List ℕ → Type 0
IsLeft old bytes now left = (before : List ℕ) → StandsFor old [] before → (gone : List ℕ) × (before ++ bytes ≡ gone ++ left) × StandsFor now [] gone

pub left_all : (t : Taken) (bytes : List ℕ) → IsLeft t bytes t bytes
left_all t bytes = λ before s. (before, refl, s)

pub left_next : (old : Taken) (bytes : List ℕ) (now new : Taken) (left piece after : List ℕ) → now.fault ≡ None → left ≡ piece ++ 10 ∷ after →
    is_in_line piece ≡ true
    → NextTaken now (strip_carriage_return piece) new → IsLeft old bytes now left → IsLeft old bytes new after
left_next old bytes now new left piece after none is h next k = λ before s.
    let x = k before s in (
      x.0 ++ (piece ++ 10 ∷ []),
      x.1 ∙ ap (λ (l : List ℕ). x.0 ++ l) (is ∙ sym (append_assoc piece (10 ∷ []) after)) ∙ sym (append_assoc x.0 (piece ++ 10 ∷ []) after),
      stands_next now new [] x.0 piece none h next x.2,
    )

pub left_none : (old : Taken) (bytes : List ℕ) (now : Taken) (left before : List ℕ) → is_in_line left ≡ true → IsLeft old bytes now left →
    StandsFor old [] before → StandsFor now left (before ++ bytes)
left_none old bytes now left before h k s = let x = k before s in subst (StandsFor now left) (sym x.1) (stands_more now [] x.0 left h x.2)

pub left_failed : (old : Taken) (bytes : List ℕ) (now : Taken) (left rest before : List ℕ) (f : LineFault) → now.fault ≡ Some f → IsLeft old bytes now left →
    StandsFor old [] before → StandsFor now rest (before ++ bytes)
left_failed old bytes now left rest before f e k s = let x = k before s in subst (StandsFor now rest) (sym x.1) (stands_behind now f [] rest x.0 left e x.2)

-- ---- all bytes have come

pub nil : (r : List ℕ) → length r ≤ 0 → r ≡ []
nil [] h = refl
nil (x ∷ r) h = absurd (omega arith)

pub failed_taken : (t : Taken) (f : LineFault) (rest bytes : List ℕ) → t.fault ≡ Some f → StandsFor t rest bytes → AreTaken (lines bytes) t
failed_taken t f rest bytes e s =
    subst (λ (ls : List (List ℕ)). AreTaken ls t) (sym (lines_begun bytes s.pieces s.more s.begun))
    (taken_behind (map strip_carriage_return s.pieces) (lines s.more) t f e s.taken)

pub all_taken : (t : Taken) (rest bytes : List ℕ) → t.fault ≡ None → length rest ≤ 0 → StandsFor t rest bytes → AreTaken (lines bytes) t
all_taken t rest bytes e none s =
    subst (λ (ls : List (List ℕ)). AreTaken ls t) (sym (lines_begun bytes s.pieces s.more s.begun ∙ ap
    (λ (m : List ℕ). map strip_carriage_return s.pieces ++ lines m) ((s.still e).0 ∙ nil rest none)
    ∙ append-nil (map strip_carriage_return s.pieces))) s.taken

pub rest_taken : (old new : Taken) (rest bytes : List ℕ) → old.fault ≡ None → 0 < length rest → NextTaken old (strip_carriage_return rest) new →
    StandsFor old rest bytes → AreTaken (lines bytes) new
rest_taken old new rest bytes none some next s =
    let k = s.still none in
    let last : lines rest ≡ strip_carriage_return rest ∷ [] = ap (λ (ps : List (List ℕ)). map strip_carriage_return ps) (last_piece rest k.1 some) in
    let whole : lines bytes ≡ map strip_carriage_return s.pieces ++ strip_carriage_return rest ∷ [] =
    lines_begun bytes s.pieces s.more s.begun ∙ ap (λ (m : List ℕ). map strip_carriage_return s.pieces ++ lines m) k.0 ∙ ap
    (λ (ls : List (List ℕ)). map strip_carriage_return s.pieces ++ ls) last in
    subst (λ (ls : List (List ℕ)). AreTaken ls new) (sym whole) (next (map strip_carriage_return s.pieces) s.taken)

-- ---- a feed

few_pieces : (ps : List (List ℕ)) → length ps ≤ length (flat_map ended ps)
few_pieces [] = omega arith
few_pieces (p ∷ ps) = omega (arith, few_pieces ps, length-append (ended p) (flat_map ended ps), length-append p (10 ∷ []))

pub few_lines : (f : Fed) (bytes : List ℕ) → f.taken.fault ≡ None → IsFed f bytes → f.taken.number ≤ f.len + 1
few_lines f bytes none h =
    let s = h.stands in
    let long = h.len in
    omega (
      arith,
      long,
      number_is (map strip_carriage_return s.pieces) f.taken none s.taken,
      length-map s.pieces strip_carriage_return,
      few_pieces s.pieces,
      ap length s.begun.whole,
      length-append (flat_map ended s.pieces) s.more,
    )

grown : (f : Fed) (bytes x : List ℕ) → f.len ≡ length bytes → f.len + length x ≡ length (bytes ++ x)
grown f bytes x e = omega (arith, e, length-append bytes x)

pub fed_behind : (f : Fed) (e : LineFault) (bytes x : List ℕ) → f.taken.fault ≡ Some e → IsFed f bytes →
    IsFed (record f { len = f.len + length x }) (bytes ++ x)
fed_behind f e bytes x is h = record { len = grown f bytes x h.len; stands = stands_behind f.taken e f.rest f.rest bytes x is h.stands }

pub fed_more : (f : Fed) (bytes x rest : List ℕ) → is_in_line x ≡ true → rest ≡ f.rest ++ x → IsFed f bytes →
    IsFed (record { taken = f.taken; rest = rest; len = f.len + length x }) (bytes ++ x)
fed_more f bytes x rest h is k =
    record {
      len = grown f bytes x k.len;
      stands = subst (λ (r : List ℕ). StandsFor f.taken r (bytes ++ x)) (sym is)
          (stands_more f.taken f.rest bytes x h k.stands);
    }

pub fed_next : (f : Fed) (new : Taken) (bytes x rest : List ℕ) → (StandsFor f.taken f.rest bytes → StandsFor new rest (bytes ++ x)) → IsFed f bytes →
    IsFed (record { taken = new; rest = rest; len = f.len + length x }) (bytes ++ x)
fed_next f new bytes x rest next h = record { len = grown f bytes x h.len; stands = next h.stands }

-- ---- answers

pub on_err : {X E : Type 0} (r : Result X E) (P : Type 0) → P → OnErr r P
on_err {X} {E} (Ok x) P p = tt
on_err {X} {E} (Err e) P p = p

pub joined_ok : (old new : Taken) (rest line head : List ℕ) → old.fault ≡ None → is_in_line head ≡ true → line ≡ strip_carriage_return (rest ++ head) →
    (r : Result (Unit {0}) NoMemory)
    → OnOk r (NextTaken old line new) → OnOk r ((bytes : List ℕ) → StandsFor old rest bytes → StandsFor new [] (bytes ++ (head ++ 10 ∷ [])))
joined_ok old new rest line head none h is (Ok x) next = λ bytes s. stands_next old new rest bytes head none h
    (subst (λ (l : List ℕ). NextTaken old l new) is next) s
joined_ok old new rest line head none h is (Err e) next = tt
