-- The lines of an opening that comes in pieces.
use Rattle.std.specs.Prelude.{◌≡◌, ℕ, ◌+◌, ◌-◌, ◌<◌, ◌≤◌, ◌==◌, if◌then◌else◌, Bool, true, false, List, [], ◌∷◌, ◌++◌, length, take, drop}
use Rattle.std.proofs.Common.{refl, sym, ◌∙◌, ap, subst, arith, inl, inr, ⊎_elim, append_assoc}
use Rattle.std.proofs.lemmas.Bool.{and_from, eqb-true, eqb-false}
use Rattle.std.proofs.lemmas.List.{append-nil, take_all, take_at, take-append-drop, take-take, drop-take, length-take, length-drop}
use Rattle.iges_base.specs.Ended.{ended}
use Rattle.iges_base.specs.InLine.{is_in_line}
use Rattle.iges_base.proofs.InLines.{both_in_line}
use Rattle.cert_lines.specs.Line.{CertLine, head, solid, cut_lines, first_limit}
use Rattle.cert_lines.specs.Cutting.{EndsFirst}
use Rattle.cert_lines.specs.Opening.{IsMisfit, illegal_at}
use Rattle.cert_lines.specs.Opening.{Opens, IsHeadLine, IsSolid, IsOther, IsWrong, IsFirstWrong, IsBadOpening}
use Rattle.cert_lines.specs.declared.version.Version.{Version}
use Rattle.cert_text.specs.declared.fault.Illegal.{Illegal}
use Rattle.cert_text.specs.declared.fault.Illegal.TheVariants.{Missing, Misspelt}
use Rattle.cert_text.specs.declared.fault.Misfit.{Misfit}
use Rattle.iges_base.specs.declared.entry_no.EntryNo.{EntryNo}
use Rattle.cert_text.specs.declared.fault.Misfit.TheVariants as misfit
use Rattle.cert_lines.proofs.Ends.{cut_begun, last_cut, misspelt_rest}
use Rattle.topo_certificate.specs.declared.opening.Stage.{Stage}
use Rattle.topo_certificate.specs.declared.opening.Stage.TheVariants as stage
use Rattle.topo_certificate.specs.OpeningFed.{Opened, StandsForRest, HasHead, Shows, IsOpening, IsWaiting, StageAfter}
use Rattle.topo_certificate.proofs.FedLines.{SameLine, same_whole, same_kept, take_front, front_of, nil}

-- ---- the bytes that are kept

pub kept_all : (old bytes now : List ℕ) (i : ℕ) → now ≡ old ++ take i bytes → length bytes ≤ i → length now ≤ 64 → now ≡ take 64 (old ++ bytes)
kept_all old bytes now i is past few =
    let e : now ≡ old ++ bytes = is ∙ ap (λ (x : List ℕ). old ++ x) (take_all i bytes past) in
    e ∙ sym (take_all 64 (old ++ bytes) (omega (arith, few, ap length e)))

pub kept_full : (old bytes now : List ℕ) (i : ℕ) → now ≡ old ++ take i bytes → length now ≡ 64 → now ≡ take 64 (old ++ bytes)
kept_full old bytes now i is full =
    let whole : old ++ bytes ≡ now ++ drop i bytes = ap (λ (x : List ℕ). old ++ x) (sym (take-append-drop i bytes))
    ∙ sym (append_assoc old (take i bytes) (drop i bytes)) ∙ ap (λ (x : List ℕ). x ++ drop i bytes) (sym is) in
    sym (ap (take 64) whole ∙ take_at now (drop i bytes) 64 full)

-- ---- what a line shows

pub head_wrong : (line : List ℕ) (m : Misfit) → IsMisfit IsHeadLine line m → IsWrong IsHeadLine 1 line (illegal_at m 1)
head_wrong line misfit.Misspelt h = inl (h, refl)
head_wrong line misfit.Unfit h = inr (h, refl)

pub solid_wrong : (line : List ℕ) (m : Misfit) → IsMisfit IsSolid line m → IsWrong IsSolid 2 line (illegal_at m 2)
solid_wrong line misfit.Misspelt h = inl (h, refl)
solid_wrong line misfit.Unfit h = inr (h, refl)

same_wrong : (Wanted : CertLine → Type 0) (number : ℕ) (bytes full : List ℕ) (bad : Illegal) → SameLine first_limit bytes full
    → IsWrong Wanted number bytes bad → IsWrong Wanted number full bad
same_wrong Wanted number bytes full bad same h = ⊎_elim (λ m. inl (same.misspelt m.0, m.1)) (λ u. inr (other u.0, u.1)) h
  where
    other : IsOther Wanted bytes → IsOther Wanted full
    other o = ⊎_elim (λ l. inl (same.long l)) (λ x. inr (x.0, same.line x.0 x.1, x.2)) o

-- a text of one line, or of two
one_line : (p more : List ℕ) → is_in_line p ≡ true → cut_lines (ended p ++ more) ≡ ended p ∷ cut_lines more
one_line p more h = cut_begun (ended p ++ more) (p ∷ []) more
    (record { whole = ap (λ (x : List ℕ). x ++ more) (sym (append-nil (ended p))); in_line = and_from (is_in_line p) true h refl })

two_lines : (p q more : List ℕ) → is_in_line p ≡ true → is_in_line q ≡ true → cut_lines (ended p ++ (ended q ++ more)) ≡ ended p ∷ ended q ∷ cut_lines more
two_lines p q more h k = one_line p (ended q ++ more) h ∙ ap (λ (ls : List (List ℕ)). ended p ∷ ls) (one_line q more k)

none_kept : StandsForRest [] []
none_kept = (refl, refl)

-- the first line ends
first_next : (kept text front bytes : List ℕ) (new : Stage) → StandsForRest kept text → is_in_line front ≡ true
    → SameLine first_limit bytes (ended (text ++ front)) → StageAfter stage.First bytes new → Shows new [] (text ++ ended front)
first_next kept text front bytes stage.First s h same b = absurd b
first_next kept text front bytes (stage.Second v) s h same b = record {
  first = text ++ front;
  rest = [];
  in_line = both_in_line text front s.1 h;
  whole = sym (append_assoc text front (10 ∷ [])) ∙ sym (append-nil (ended (text ++ front)));
  is_head = same.line (head v) b;
  stands = none_kept;
}
first_next kept text front bytes (stage.Done v n) s h same b = absurd b
first_next kept text front bytes (stage.Failed bad) s h same b = λ more.
    let e : (text ++ ended front) ++ more ≡ ended (text ++ front) ++ more = ap (λ (x : List ℕ). x ++ more) (sym (append_assoc text front (10 ∷ []))) in
    subst (λ (ls : List (List ℕ)). IsFirstWrong ls bad) (sym (ap cut_lines e ∙ one_line (text ++ front) more (both_in_line text front s.1 h)))
    (inl (same_wrong IsHeadLine 1 bytes (ended (text ++ front)) bad same b))

two_whole : (v : Version) (kept text front more : List ℕ) (s : HasHead v kept text) → (text ++ ended front) ++ more ≡ ended s.first
    ++ (ended (s.rest ++ front) ++ more)
two_whole v kept text front more s =
    ap (λ (x : List ℕ). (x ++ ended front) ++ more) s.whole
    ∙ ap (λ (x : List ℕ). x ++ more)
    (append_assoc (ended s.first) s.rest (ended front) ∙ ap (λ (x : List ℕ). ended s.first ++ x) (sym (append_assoc s.rest front (10 ∷ []))))
    ∙ append_assoc (ended s.first) (ended (s.rest ++ front)) more

-- the second line ends
second_next : (v : Version) (kept text front bytes : List ℕ) (new : Stage) (s : HasHead v kept text) → is_in_line front ≡ true
    → SameLine first_limit bytes (ended (s.rest ++ front)) → StageAfter (stage.Second v) bytes new → Shows new [] (text ++ ended front)
second_next v kept text front bytes stage.First s h same b = absurd b
second_next v kept text front bytes (stage.Second w) s h same b = absurd b
second_next v kept text front bytes (stage.Done w n) s h same b = λ more. subst (λ (x : Version). Opens ((text ++ ended front) ++ more) x n.0 (cut_lines more))
    (sym b.0) (record {
      first = ended s.first;
      second = ended (s.rest ++ front);
      cut = ap cut_lines (two_whole v kept text front more s) ∙ two_lines s.first (s.rest ++ front) more s.in_line (both_in_line s.rest front s.stands.1 h);
      is_head = s.is_head;
      names = same.line (solid n.0) b.1;
    })
second_next v kept text front bytes (stage.Failed bad) s h same b = λ more.
    subst (λ (ls : List (List ℕ)). IsFirstWrong ls bad)
    (sym (ap cut_lines (two_whole v kept text front more s) ∙ two_lines s.first (s.rest ++ front) more s.in_line (both_in_line s.rest front s.stands.1 h)))
    (inr (v, s.is_head, same_wrong IsSolid 2 bytes (ended (s.rest ++ front)) bad same b))

pub next_shows : (old : Opened) (text front bytes : List ℕ) (new : Stage) → IsWaiting old.stage → is_in_line front ≡ true
    → ((rest : List ℕ) → StandsForRest old.kept rest → SameLine first_limit bytes (ended (rest ++ front))) → StageAfter old.stage bytes new
    → IsOpening old text → Shows new [] (text ++ ended front)
next_shows old text front bytes new waiting h same behind shows = by_stage old.stage waiting behind shows
  where
    by_stage : (o : Stage) → IsWaiting o → StageAfter o bytes new → Shows o old.kept text → Shows new [] (text ++ ended front)
    by_stage stage.First w b s = first_next old.kept text front bytes new s h (same text s) b
    by_stage (stage.Second v) w b s = second_next v old.kept text front bytes new s h (same s.rest s.stands) b
    by_stage (stage.Done v n) w b s = absurd w
    by_stage (stage.Failed bad) w b s = absurd w

none_rest : (kept rest : List ℕ) → StandsForRest kept rest → length kept ≤ 0 → rest ≡ []
none_rest kept rest s h = nil rest (omega (arith, h, ap length s.0, length-take 64 rest))

pub whole_line : (old : Opened) (text front line : List ℕ) (new : Stage) → IsWaiting old.stage → length old.kept ≤ 0 → is_in_line front ≡ true
    → line ≡ ended front → StageAfter old.stage line new → IsOpening old text → Shows new [] (text ++ line)
whole_line old text front line new waiting empty h is behind shows =
    subst (λ (l : List ℕ). Shows new [] (text ++ l)) (sym is)
    (next_shows old text front line new waiting h
    (λ rest s. same_whole first_limit line (ended (rest ++ front)) (is ∙ ap (λ (x : List ℕ). ended (x ++ front)) (sym (none_rest old.kept rest s empty))))
    behind shows)

pub joined_line : (old : Opened) (text front line mid bytes : List ℕ) (new : Stage) → IsWaiting old.stage → is_in_line front ≡ true → line ≡ ended front
    → mid ≡ take first_limit (old.kept ++ take (length line - 1) line) → bytes ≡ ended mid
    → StageAfter old.stage bytes new → IsOpening old text → Shows new [] (text ++ line)
joined_line old text front line mid bytes new waiting h is kept bytes-is behind shows =
    subst (λ (l : List ℕ). Shows new [] (text ++ l)) (sym is)
    (next_shows old text front bytes new waiting h
    (λ rest s. same_kept first_limit bytes (rest ++ front)
    (bytes-is ∙ ap ended (kept ∙ ap (λ (x : List ℕ). take first_limit (old.kept ++ x)) (front_of front line is)
    ∙ ap (λ (x : List ℕ). take first_limit (x ++ front)) s.0 ∙ take_front first_limit rest front))) behind shows)

-- the rest grows
pub shows_more : (o : Stage) (kept text x new : List ℕ) → IsWaiting o → is_in_line x ≡ true → new ≡ take first_limit (kept ++ x) → Shows o kept text
    → Shows o new (text ++ x)
shows_more stage.First kept text x new w h is s =
    (is ∙ ap (λ (l : List ℕ). take first_limit (l ++ x)) s.0 ∙ take_front first_limit text x, both_in_line text x s.1 h)
shows_more (stage.Second v) kept text x new w h is s = record {
  first = s.first;
  rest = s.rest ++ x;
  in_line = s.in_line;
  whole = ap (λ (l : List ℕ). l ++ x) s.whole ∙ append_assoc (ended s.first) s.rest x;
  is_head = s.is_head;
  stands = (is ∙ ap (λ (l : List ℕ). take first_limit (l ++ x)) s.stands.0 ∙ take_front first_limit s.rest x, both_in_line s.rest x s.stands.1 h);
}
shows_more (stage.Done v n) kept text x new w h is s = absurd w
shows_more (stage.Failed bad) kept text x new w h is s = absurd w

-- behind a bad line any bytes may come
pub failed_more : (bad : Illegal) (kept text x : List ℕ) → Shows (stage.Failed bad) kept text → Shows (stage.Failed bad) kept (text ++ x)
failed_more bad kept text x s = λ more. subst (λ (t : List ℕ). IsBadOpening t bad) (sym (append_assoc text x more)) (s (x ++ more))

pub few_kept : (now xs : List ℕ) → now ≡ take 64 xs → length now ≤ 64
few_kept now xs e = omega (arith, ap length e, length-take 64 xs)

pub line_front : (text line after : List ℕ) → EndsFirst text line after → take (length line) text ≡ line
line_front text line after e =
    ap (take (length line)) (e.whole ∙ sym (append_assoc e.front (10 ∷ []) after) ∙ ap (λ (l : List ℕ). l ++ after) (sym e.line_is))
    ∙ take_at line after (length line) refl

-- ---- step by step

abbrev pub IsFedTo : Opened → List ℕ → Opened → ℕ → Type 0
IsFedTo old piece now used = (text : List ℕ) → IsOpening old text → IsOpening now (text ++ take used piece)

pub fed_none : (o : Opened) (piece : List ℕ) → IsFedTo o piece o 0
fed_none o piece = λ text shows. subst (IsOpening o) (sym (append-nil text)) shows

take_more : (piece : List ℕ) (used len : ℕ) → take used piece ++ take len (drop used piece) ≡ take (used + len) piece
take_more piece used len =
    ap (λ (r : List ℕ). r ++ take len (drop used piece)) (sym (take-take used (used + len) piece (omega arith)))
    ∙ ap (λ (r : List ℕ). take used (take (used + len) piece) ++ r) (sym (drop-take used len piece)) ∙ take-append-drop used (take (used + len) piece)

pub fed_next : (old : Opened) (piece : List ℕ) (now new : Opened) (used len : ℕ) (rest : List ℕ) → rest ≡ drop used piece → IsFedTo old piece now used
    → ((text : List ℕ) → IsOpening now text → IsOpening new (text ++ take len rest))
    → IsFedTo old piece new (used + len)
fed_next old piece now new used len rest is fed next = λ text shows.
    subst (IsOpening new) (append_assoc text (take used piece) (take len rest) ∙ ap (λ (r : List ℕ). text ++ (take used piece ++ take len r)) is
    ∙ ap (λ (r : List ℕ). text ++ r) (take_more piece used len)) (next (text ++ take used piece) (fed text shows))

pub fed_all : (old : Opened) (piece : List ℕ) (now new : Opened) (used : ℕ) (rest text : List ℕ) → rest ≡ drop used piece → IsFedTo old piece now used
    → ((text : List ℕ) → IsOpening now text → IsOpening new (text ++ rest)) → IsOpening old text → IsOpening new (text ++ piece)
fed_all old piece now new used rest text is fed next shows =
    subst (IsOpening new) (append_assoc text (take used piece) rest ∙ ap (λ (r : List ℕ). text ++ (take used piece ++ r)) is
    ∙ ap (λ (r : List ℕ). text ++ r) (take-append-drop used piece)) (next (text ++ take used piece) (fed text shows))

-- a line was bad: the bytes behind it don't matter
pub fed_failed : (old : Opened) (piece : List ℕ) (new : Opened) (used : ℕ) (bad : Illegal) (text : List ℕ) → new.stage ≡ stage.Failed bad
    → IsFedTo old piece new used → IsOpening old text → IsOpening new (text ++ piece)
fed_failed old piece new used bad text is fed shows =
    let h = fed text shows in
    let k : Shows (stage.Failed bad) new.kept (text ++ take used piece) = subst (λ (o : Stage). Shows o new.kept (text ++ take used piece)) is h in
    let m : Shows (stage.Failed bad) new.kept ((text ++ take used piece) ++ drop used piece) =
    failed_more bad new.kept (text ++ take used piece) (drop used piece) k in
    subst (λ (o : Stage). Shows o new.kept (text ++ piece)) (sym is)
    (subst (λ (t : List ℕ). Shows (stage.Failed bad) new.kept t)
    (append_assoc text (take used piece) (drop used piece) ∙ ap (λ (r : List ℕ). text ++ r) (take-append-drop used piece)) m)

pub within_more : (piece rest : List ℕ) (used len : ℕ) → used ≤ length piece → rest ≡ drop used piece → len ≤ length rest → used + len ≤ length piece
within_more piece rest used len h is k = omega (arith, h, k, ap length is, length-drop used piece)

-- ---- the end

pub end_done : (v : Version) (n : EntryNo) (kept text : List ℕ) → Shows (stage.Done v n) kept text → (w : Version) × (x : ℕ) × Opens text w x []
end_done v n kept text s = (v, n.0, subst (λ (t : List ℕ). Opens t v n.0 []) (append-nil text) (s []))

pub end_failed : (bad : Illegal) (kept text : List ℕ) → Shows (stage.Failed bad) kept text → IsBadOpening text bad
end_failed bad kept text s = subst (λ (t : List ℕ). IsBadOpening t bad) (append-nil text) (s [])

some_rest : (kept rest : List ℕ) → StandsForRest kept rest → (length kept == 0) ≡ false → 0 < length rest
some_rest kept rest s e = omega (arith, eqb-false (length kept) 0 e, ap length s.0, length-take 64 rest)

pub end_first : (kept text : List ℕ) → Shows stage.First kept text → IsBadOpening text (if length kept == 0 then Missing 1 else Misspelt 1)
end_first kept text s = by_test (length kept == 0) refl
  where
    by_test : (t : Bool) → (length kept == 0) ≡ t → IsBadOpening text (if t then Missing 1 else Misspelt 1)
    by_test true e = subst (λ (x : List ℕ). IsBadOpening x (Missing 1)) (sym (none_rest kept text s (omega (arith, eqb-true (length kept) 0 e)))) refl
    by_test false e = subst (λ (ls : List (List ℕ)). IsFirstWrong ls (Misspelt 1)) (sym (last_cut text s.1 (some_rest kept text s e)))
        (inl (inl (misspelt_rest first_limit text s.1, refl)))

pub end_second : (v : Version) (kept text : List ℕ) → Shows (stage.Second v) kept text → IsBadOpening text (if length kept == 0 then Missing 2 else Misspelt 2)
end_second v kept text s = by_test (length kept == 0) refl
  where
    cut : cut_lines text ≡ ended s.first ∷ cut_lines s.rest
    cut = ap cut_lines s.whole ∙ one_line s.first s.rest s.in_line

    by_test : (t : Bool) → (length kept == 0) ≡ t → IsBadOpening text (if t then Missing 2 else Misspelt 2)
    by_test true e =
        subst (λ (ls : List (List ℕ)). IsFirstWrong ls (Missing 2))
        (sym (cut ∙ ap (λ (x : List ℕ). ended s.first ∷ cut_lines x) (none_rest kept s.rest s.stands (omega (arith, eqb-true (length kept) 0 e)))))
        (inr (v, s.is_head, refl))
    by_test false e =
        subst (λ (ls : List (List ℕ)). IsFirstWrong ls (Misspelt 2))
        (sym (cut ∙ ap (λ (ls : List (List ℕ)). ended s.first ∷ ls) (last_cut s.rest s.stands.1 (some_rest kept s.rest s.stands e))))
        (inr (v, s.is_head, inl (misspelt_rest first_limit s.rest s.stands.1, refl)))
