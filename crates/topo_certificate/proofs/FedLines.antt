-- A checker judges the lines that it is given, and those of the text that it was fed.
use Rattle.std.specs.Prelude.{◌≡◌, ℕ, zero, suc, ◌+◌, ◌-◌, ◌<◌, ◌≤◌, true, false, List, [], ◌∷◌, ◌++◌, length, map, take, reverse, Option, Some, None, Result}
use Rattle.std.specs.Prelude.{Ok, Err, IsTrue, MatchOption, MatchResult}
use Rattle.std.proofs.Common.{refl, sym, ◌∙◌, ap, subst, arith, inl, inr, ⊎_elim, append_assoc}
use Rattle.std.proofs.lemmas.List.{append-nil, map-append, take_all, take_at, length-take, length-append, length-reverse, reverse-append}
use Rattle.iges_base.specs.Ended.{ended, IsBegun}
use Rattle.iges_base.specs.InLine.{is_in_line}
use Rattle.iges_base.proofs.Ended.{begun_none, begun_more, begun_end}
use Rattle.iges_base.proofs.InLines.{both_in_line}
use Rattle.solid_data.specs.SolidData.{SolidData}
use Rattle.cert_lines.specs.Line.{CertLine, solid as solid_line, cut_lines, IsLine, IsLong, IsMisspelt, line_limit}
use Rattle.cert_text.specs.declared.fault.Illegal.{Illegal}
use Rattle.cert_text.specs.declared.fault.Illegal.TheVariants.{Misspelt, Missing}
use Rattle.cert_lines.proofs.Ends.{cut_begun, last_cut, misspelt_rest, kept_line, kept_is_line, kept_is_long, kept_is_misspelt}
use Rattle.cert_state.specs.Progress.{Progress, progress_from_latest, progress_after, FitsLine}
use Rattle.cert_lines.specs.declared.version.Version.{Version}
use Rattle.topo_certificate.specs.Legal.{AreFitting, IsLegal, HasFirstBad, IsUnfit, IsBadLine, FitsPart, BeginsNext}
use Rattle.topo_certificate.specs.Matching.{CheckerState, IsAt, IsOfSame}
use Rattle.topo_certificate.specs.Feeding.{FedState, IsKeptOf, StandsAfter, IsFedLines, IsFedPart}
use Rattle.topo_certificate.specs.Part.{IsPartLine, TakesNextLine}
use Rattle.topo_certificate.specs.PartEnds.{EndsPart, IsEndedBy}
use Rattle.topo_certificate.specs.declared.line_checker.PartLine.{PartLine}
use Rattle.topo_certificate.specs.declared.line_checker.PartLine.TheVariants.{More, Next}
use Rattle.iges_base.specs.declared.entry_no.EntryNo.{EntryNo}
use Rattle.std.proofs.Math.Seq.{take-append-add}
use Rattle.topo_certificate.proofs.Forward.{fitting_none, fitting_more, legal_ended}

abbrev Lines : Type 0
Lines = List (List ℕ)

-- ---- a line that is judged by the bytes that are kept of it

pub record SameLine (limit : ℕ) (bytes full : List ℕ) : Type 0 where
  pub line : (l : CertLine) → IsLine limit bytes l → IsLine limit full l
  pub long : IsLong limit bytes → IsLong limit full
  pub misspelt : IsMisspelt limit bytes → IsMisspelt limit full

pub same_whole : (limit : ℕ) (bytes full : List ℕ) → bytes ≡ full → SameLine limit bytes full
same_whole limit bytes full e =
    record { line = λ l h. subst (λ (x : List ℕ). IsLine limit x l) e h; long = λ h. subst (IsLong limit) e h; misspelt = λ h. subst (IsMisspelt limit) e h }

pub same_kept : (limit : ℕ) (bytes front : List ℕ) → bytes ≡ kept_line limit front → SameLine limit bytes (ended front)
same_kept limit bytes front e = record {
  line = λ l h. kept_is_line limit front l (subst (λ (x : List ℕ). IsLine limit x l) e h);
  long = λ h. kept_is_long limit front (subst (IsLong limit) e h);
  misspelt = λ h. kept_is_misspelt limit front (subst (IsMisspelt limit) e h);
}

same_unfit : (s : SolidData) (Fits : CertLine → Type 0) (bytes full : List ℕ) → SameLine (line_limit s) bytes full → IsUnfit s Fits bytes → IsUnfit s Fits full
same_unfit s Fits bytes full same h = ⊎_elim (λ l. inl (same.long l)) (λ x. inr (x.0, same.line x.0 x.1, x.2)) h

same_bad : (s : SolidData) (Fits : CertLine → Type 0) (number : ℕ) (bytes full : List ℕ) (bad : Illegal) → SameLine (line_limit s) bytes full
    → IsBadLine s Fits number bytes bad → IsBadLine s Fits number full bad
same_bad s Fits number bytes full bad same h = ⊎_elim (λ m. inl (same.misspelt m.0, m.1)) (λ u. inr (same_unfit s Fits bytes full same u.0, u.1)) h

pub take_front : (n : ℕ) (xs ys : List ℕ) → take n (take n xs ++ ys) ≡ take n (xs ++ ys)
take_front zero xs ys = refl
take_front (suc n) [] ys = refl
take_front (suc n) (x ∷ xs) ys = ap (λ (l : List ℕ). x ∷ l) (take_front n xs ys)

pub nil : (xs : List ℕ) → length xs ≤ 0 → xs ≡ []
nil [] h = refl
nil (x ∷ xs) h = absurd (omega arith)

-- a rest of which nothing is kept is empty
none_kept : (s : SolidData) (kept rest : List ℕ) → kept ≡ take (line_limit s) rest → length kept ≤ 0 → rest ≡ []
none_kept s kept rest e h = nil rest (omega (arith, h, ap length e, length-take (line_limit s) rest))

-- ---- the next line

abbrev Answer : Type 0
Answer = Result (Unit {0}) Illegal

-- which lines may come
abbrev pub Fitness : Type 1
Fitness = SolidData → Progress → CertLine → Type 0

-- what a checker of whole lines says of its next line
abbrev pub Judges : Fitness → CheckerState → List ℕ → CheckerState → Answer → Type 0
Judges Fits old bytes new r = (first : ℕ) (lines : List CertLine) → IsAt first old lines → MatchResult r
    (λ _. (l : CertLine) × IsLine (line_limit old.solid) bytes l × FitsLine old.solid (progress_from_latest old.version old.solid lines) l
    × IsAt first new (l ∷ lines))
    (λ bad. IsBadLine old.solid (Fits old.solid (progress_from_latest old.version old.solid lines)) (first + length lines) bytes bad)

-- what it says of the end
abbrev pub Finishes : CheckerState → Answer → Type 0
Finishes old r = (first : ℕ) (lines : List CertLine) → IsAt first old lines → MatchResult r
    (λ _. (progress_from_latest old.version old.solid lines).ended ≡ true)
    (λ bad. ((progress_from_latest old.version old.solid lines).ended ≡ false) × (bad ≡ Missing (first + length lines)))

-- what holds of the version and the solid of a checker holds of these
of_these : (v : Version) (s : SolidData) (c : CheckerState) (P : Version → SolidData → Type 0) → c.version ≡ v → c.solid ≡ s → P c.version c.solid → P v s
of_these v s c P is_v is_s h = subst (λ (z : SolidData). P v z) is_s (subst (λ (w : Version). P w c.solid) is_v h)

pub front_of : (front line : List ℕ) → line ≡ ended front → take (length line - 1) line ≡ front
front_of front line is = ap (λ (l : List ℕ). take (length l - 1) l) is ∙ take_at front (10 ∷ []) (length (ended front) - 1)
    (omega (arith, length-append front (10 ∷ [])))

-- where one line more has ended, the text and its pieces
ended_begun : (text front : List ℕ) (ps : Lines) (rest : List ℕ) → IsBegun text ps rest → is_in_line rest ≡ true → is_in_line front ≡ true
    → IsBegun (text ++ ended front) (ps ++ (rest ++ front) ∷ []) []
ended_begun text front ps rest begun h k =
    subst (λ (t : List ℕ). IsBegun t (ps ++ (rest ++ front) ∷ []) []) (append_assoc text front (10 ∷ []))
    (begun_end (text ++ front) ps (rest ++ front) (begun_more text ps rest front begun) (both_in_line rest front h k))

module _ (v : Version) (s : SolidData) (Fits : Fitness) (first : ℕ) where
  -- the next line is good
  pub taken : (old new : FedState) (read : List CertLine) (rest bytes : List ℕ) (u : Unit {0}) → StandsAfter v s first read rest old
      → IsOfSame old.checker new.checker → new.failed ≡ None → IsKeptOf s new.kept [] → Judges Fits old.checker bytes new.checker (Ok u)
      → (l : CertLine) × IsLine (line_limit s) bytes l × FitsLine s (progress_after v s read) l × StandsAfter v s first (read ++ l ∷ []) [] new
  taken old new read rest bytes u stands same none kept judges =
      let j = judges first (reverse read) stands.at in
      let is : IsLine (line_limit s) bytes j.0 = subst (λ (z : SolidData). IsLine (line_limit z) bytes j.0) stands.solid j.1 in
      let fits : FitsLine s (progress_after v s read) j.0 = of_these v s old.checker (λ w z. FitsLine z (progress_after w z read) j.0) stands.version stands.solid
      j.2 in (
        j.0,
        is,
        fits,
        record {
          version = same.0 ∙ stands.version;
          solid = same.1 ∙ stands.solid;
          legal = none;
          at = subst (IsAt first new.checker) (sym (reverse-append read (j.0 ∷ []))) j.3;
          kept = kept;
        },
      )

  -- the next line is bad
  pub refused : (old : FedState) (new : CheckerState) (read : List CertLine) (rest bytes : List ℕ) (bad : Illegal) → StandsAfter v s first read rest old
      → Judges Fits old.checker bytes new (Err bad)
      → IsBadLine s (Fits s (progress_after v s read)) (first + length read) bytes bad
  refused old new read rest bytes bad stands judges =
      let j = judges first (reverse read) stands.at in
      subst (λ (n : ℕ). IsBadLine s (Fits s (progress_after v s read)) (first + n) bytes bad) (length-reverse read)
      (of_these v s old.checker (λ w z. IsBadLine z (Fits z (progress_after w z read)) (first + length (reverse read)) bytes bad) stands.version stands.solid j)

  pub line_answer : (old new : FedState) (read : List CertLine) (bytes : List ℕ) (r : Answer) → StandsAfter v s first read [] old
      → IsOfSame old.checker new.checker → new.kept ≡ old.kept → MatchResult r (λ _. new.failed ≡ None) (λ bad. new.failed ≡ Some bad)
      → Judges Fits old.checker bytes new.checker r
      → MatchResult r (λ _. (l : CertLine) × IsLine (line_limit s) bytes l × FitsLine s (progress_after v s read) l × StandsAfter v s first (read ++ l ∷ []) []
      new)
      (λ bad. IsBadLine s (Fits s (progress_after v s read)) (first + length read) bytes bad × (new.failed ≡ Some bad))
  line_answer old new read bytes (Ok u) stands same kept none judges = taken old new read [] bytes u stands same none (kept ∙ stands.kept.0, refl) judges
  line_answer old new read bytes (Err bad) stands same kept some judges = (refused old new.checker read [] bytes bad stands judges, some)

  -- ---- what a checker was fed

  standing : (c : FedState) (text : List ℕ) (h : IsFedLines v s (Fits s) first text c) → c.failed ≡ None
      → (read : List CertLine) × AreFitting v s (map ended h.pieces) read × StandsAfter v s first read h.rest c
  standing c text h none =
      subst (λ (o : Option Illegal). MatchOption o ((read : List CertLine) × AreFitting v s (map ended h.pieces) read × StandsAfter v s first read h.rest c)
      (λ bad. (more : Lines) → HasFirstBad v s (Fits s) first (map ended h.pieces ++ more) bad)) none h.judged

  failing : (c : FedState) (text : List ℕ) (bad : Illegal) (h : IsFedLines v s (Fits s) first text c) → c.failed ≡ Some bad → (more : Lines)
      → HasFirstBad v s (Fits s) first (map ended h.pieces ++ more) bad
  failing c text bad h some =
      subst (λ (o : Option Illegal). MatchOption o ((read : List CertLine) × AreFitting v s (map ended h.pieces) read × StandsAfter v s first read h.rest c)
      (λ bad. (more : Lines) → HasFirstBad v s (Fits s) first (map ended h.pieces ++ more) bad)) some h.judged

  fed_standing : (c : FedState) (text : List ℕ) (ps : Lines) (rest : List ℕ) (read : List CertLine) → IsBegun text ps rest → AreFitting v s (map ended ps) read
      → StandsAfter v s first read rest c → IsFedLines v s (Fits s) first text c
  fed_standing c text ps rest read begun fitting stands = record {
    version = stands.version;
    solid = stands.solid;
    pieces = ps;
    rest = rest;
    begun = begun;
    judged = subst (λ (o : Option Illegal). MatchOption o ((read : List CertLine) × AreFitting v s (map ended ps) read × StandsAfter v s first read rest c)
        (λ bad. (more : Lines) → HasFirstBad v s (Fits s) first (map ended ps ++ more) bad)) (sym stands.legal)
        (read, fitting, stands);
  }

  fed_failing : (c : FedState) (text : List ℕ) (ps : Lines) (rest : List ℕ) (bad : Illegal) → c.checker.version ≡ v → c.checker.solid ≡ s → c.failed ≡ Some bad
      → IsBegun text ps rest
      → ((more : Lines) → HasFirstBad v s (Fits s) first (map ended ps ++ more) bad) → IsFedLines v s (Fits s) first text c
  fed_failing c text ps rest bad is_v is_s some begun h = record {
    version = is_v;
    solid = is_s;
    pieces = ps;
    rest = rest;
    begun = begun;
    judged = subst (λ (o : Option Illegal). MatchOption o ((read : List CertLine) × AreFitting v s (map ended ps) read × StandsAfter v s first read rest c)
        (λ bad. (more : Lines) → HasFirstBad v s (Fits s) first (map ended ps ++ more) bad)) (sym some) h;
  }

  -- before the first line
  pub stands_first : (c : FedState) → c.checker.version ≡ v → c.checker.solid ≡ s → c.failed ≡ None → c.kept ≡ [] → IsAt first c.checker []
      → StandsAfter v s first [] [] c
  stands_first c is_v is_s none kept at =
      record { version = is_v; solid = is_s; legal = none; at = at; kept = (kept ∙ sym (take_all (line_limit s) [] (omega arith)), refl) }

  pub fed_first : (c : FedState) → StandsAfter v s first [] [] c → IsFedLines v s (Fits s) first [] c
  fed_first c stands = fed_standing c [] [] [] [] begun_none (fitting_none v s) stands

  -- behind a fault any bytes may come
  pub fed_behind : (c : FedState) (text x : List ℕ) (bad : Illegal) → c.failed ≡ Some bad → IsFedLines v s (Fits s) first text c
      → IsFedLines v s (Fits s) first (text ++ x) c
  fed_behind c text x bad some h = fed_failing c (text ++ x) h.pieces (h.rest ++ x) bad h.version h.solid some (begun_more text h.pieces h.rest x h.begun)
      (failing c text bad h some)

  -- the rest grows
  pub fed_more : (old new : FedState) (text x : List ℕ) → old.failed ≡ None → new.failed ≡ None → new.checker ≡ old.checker → is_in_line x ≡ true
      → new.kept ≡ take (line_limit old.checker.solid) (old.kept ++ x)
      → IsFedLines v s (Fits s) first text old → IsFedLines v s (Fits s) first (text ++ x) new
  fed_more old new text x none still same in_line kept fed =
      let (read, fitting, stands) = standing old text fed none in
      fed_standing new (text ++ x) fed.pieces (fed.rest ++ x) read (begun_more text fed.pieces fed.rest x fed.begun) fitting
      (record {
        version = ap (λ (c : CheckerState). c.version) same ∙ stands.version;
        solid = ap (λ (c : CheckerState). c.solid) same ∙ stands.solid;
        legal = still;
        at = subst (λ (c : CheckerState). IsAt first c (reverse read)) (sym same) stands.at;
        kept = (
          kept ∙ ap (λ (z : SolidData). take (line_limit z) (old.kept ++ x)) fed.solid ∙ ap (λ (l : List ℕ). take (line_limit s) (l ++ x)) stands.kept.0
              ∙ take_front (line_limit s) fed.rest x,
          both_in_line fed.rest x stands.kept.1 in_line,
        );
      })

  -- ---- a line more has ended

  first_bad : (lines : Lines) (read : List CertLine) (bytes : List ℕ) (bad : Illegal) → AreFitting v s lines read
      → IsBadLine s (Fits s (progress_after v s read)) (first + length read) bytes bad → (more : Lines)
      → HasFirstBad v s (Fits s) first (lines ++ (bytes ∷ more)) bad
  first_bad lines read bytes bad fitting h more = record { good = lines; read = read; fitting = fitting; rest = bytes ∷ more; cut = refl; next = h }

  -- nothing of the line is kept, or its fault is
  abbrev pub IsDone : FedState → Answer → Type 0
  IsDone new r = MatchResult r (λ _. (new.failed ≡ None) × (new.kept ≡ [])) (λ bad. new.failed ≡ Some bad)

  next_fed : (old new : FedState) (text front bytes : List ℕ) (r : Answer) (fed : IsFedLines v s (Fits s) first text old) → old.failed ≡ None
      → is_in_line front ≡ true → IsOfSame old.checker new.checker
      → SameLine (line_limit s) bytes (ended (fed.rest ++ front)) → Judges Fits old.checker bytes new.checker r → IsDone new r
      → IsFedLines v s (Fits s) first (text ++ ended front) new
  next_fed old new text front bytes (Ok u) fed none h same_as same judges done =
      let (read, fitting, stands) = standing old text fed none in
      let (l, is, fits, after) = taken old new read fed.rest bytes u stands same_as done.0 (done.1 ∙ sym (take_all (line_limit s) [] (omega arith)), refl)
      judges in
      let line = fed.rest ++ front in
      fed_standing new (text ++ ended front) (fed.pieces ++ line ∷ []) [] (read ++ l ∷ [])
      (ended_begun text front fed.pieces fed.rest fed.begun stands.kept.1 h)
      (subst (λ (ls : Lines). AreFitting v s ls (read ++ l ∷ [])) (sym (map-append ended fed.pieces (line ∷ [])))
      (fitting_more v s (map ended fed.pieces) read (ended line) l fitting (same.line l is) fits)) after
  next_fed old new text front bytes (Err bad) fed none h same_as same judges failed =
      let (read, fitting, stands) = standing old text fed none in
      let line = fed.rest ++ front in
      let bad_line = same_bad s (Fits s (progress_after v s read)) (first + length read) bytes (ended line) bad same
      (refused old new.checker read fed.rest bytes bad stands judges) in
      fed_failing new (text ++ ended front) (fed.pieces ++ line ∷ []) [] bad (same_as.0 ∙ fed.version) (same_as.1 ∙ fed.solid) failed
      (ended_begun text front fed.pieces fed.rest fed.begun stands.kept.1 h)
      (λ more. subst (λ (ls : Lines). HasFirstBad v s (Fits s) first ls bad)
      (sym (ap (λ (ls : Lines). ls ++ more) (map-append ended fed.pieces (line ∷ [])) ∙ append_assoc (map ended fed.pieces) (ended line ∷ []) more))
      (first_bad (map ended fed.pieces) read (ended line) bad fitting bad_line more))

  -- a line that lies whole in the piece
  pub whole_line : (old new : FedState) (text front line : List ℕ) (r : Answer) → old.failed ≡ None → length old.kept ≤ 0 → is_in_line front ≡ true
      → line ≡ ended front
      → IsOfSame old.checker new.checker → Judges Fits old.checker line new.checker r → IsDone new r → IsFedLines v s (Fits s) first text old
      → IsFedLines v s (Fits s) first (text ++ line) new
  whole_line old new text front line r none empty h is same judges done fed =
      let (read, fitting, stands) = standing old text fed none in
      let rest = none_kept s old.kept fed.rest stands.kept.0 empty in
      subst (λ (l : List ℕ). IsFedLines v s (Fits s) first (text ++ l) new) (sym is)
      (next_fed old new text front line r fed none h same
      (same_whole (line_limit s) line (ended (fed.rest ++ front)) (is ∙ ap (λ (x : List ℕ). ended (x ++ front)) (sym rest))) judges done)

  -- the whole of it, where nothing was kept
  pub whole_is : (old : FedState) (text front line : List ℕ) (fed : IsFedLines v s (Fits s) first text old) → old.failed ≡ None → length old.kept ≤ 0
      → line ≡ ended front → line ≡ ended (fed.rest ++ front)
  whole_is old text front line fed none empty is =
      let (read, fitting, stands) = standing old text fed none in
      is ∙ ap (λ (x : List ℕ). ended (x ++ front)) (sym (none_kept s old.kept fed.rest stands.kept.0 empty))

  -- a line that began in a piece before, where these bytes are kept of it
  -- the bytes that are kept of it
  pub joined_is : (old mid : FedState) (text front line bytes : List ℕ) (fed : IsFedLines v s (Fits s) first text old) → old.failed ≡ None → line ≡ ended front
      → mid.kept ≡ take (line_limit old.checker.solid) (old.kept ++ take (length line - 1) line) → bytes ≡ ended mid.kept
      → bytes ≡ kept_line (line_limit s) (fed.rest ++ front)
  joined_is old mid text front line bytes fed none is kept bytes-is =
      let (read, fitting, stands) = standing old text fed none in
      let limit = line_limit s in
      bytes-is ∙ ap ended (kept ∙ ap (λ (x : List ℕ). take (line_limit old.checker.solid) (old.kept ++ x)) (front_of front line is)
      ∙ ap (λ (z : SolidData). take (line_limit z) (old.kept ++ front)) fed.solid ∙ ap (λ (x : List ℕ). take limit (x ++ front)) stands.kept.0
      ∙ take_front limit fed.rest front)

  pub joined_line : (old mid new : FedState) (text front line bytes : List ℕ) (r : Answer) → old.failed ≡ None → is_in_line front ≡ true → line ≡ ended front
      → mid.kept ≡ take (line_limit old.checker.solid) (old.kept ++ take (length line - 1) line) → mid.checker ≡ old.checker → bytes ≡ ended mid.kept
      → IsOfSame mid.checker new.checker → Judges Fits mid.checker bytes new.checker r → IsDone new r → IsFedLines v s (Fits s) first text old
      → IsFedLines v s (Fits s) first (text ++ line) new
  joined_line old mid new text front line bytes r none h is kept same bytes-is same_as judges done fed =
      let e = joined_is old mid text front line bytes fed none is kept bytes-is in
      subst (λ (l : List ℕ). IsFedLines v s (Fits s) first (text ++ l) new) (sym is)
      (next_fed old new text front bytes r fed none h (same_as.0 ∙ ap (λ (c : CheckerState). c.version) same, same_as.1 ∙ ap (λ (c : CheckerState). c.solid) same)
      (same_kept (line_limit s) bytes (fed.rest ++ front) e)
      (subst (λ (c : CheckerState). Judges Fits c bytes new.checker r) same judges) done)

  -- ---- the end

  pub end_failed : (c : FedState) (text : List ℕ) (bad : Illegal) → c.failed ≡ Some bad → IsFedLines v s (Fits s) first text c
      → HasFirstBad v s (Fits s) first (cut_lines text) bad
  end_failed c text bad some h = subst (λ (ls : Lines). HasFirstBad v s (Fits s) first ls bad) (sym (cut_begun text h.pieces h.rest h.begun))
      (failing c text bad h some (cut_lines h.rest))

  -- a rest without LF is misspelt
  pub end_rest : (c : FedState) (text : List ℕ) (bad : Illegal) → c.failed ≡ None → 0 < length c.kept → bad ≡ Misspelt c.checker.number
      → IsFedLines v s (Fits s) first text c → HasFirstBad v s (Fits s) first (cut_lines text) bad
  end_rest c text bad none some is h =
      let (read, fitting, stands) = standing c text h none in
      let long : 0 < length h.rest = omega (arith, some, ap length stands.kept.0, length-take (line_limit s) h.rest) in
      let number : bad ≡ Misspelt (first + length read) = is ∙ ap Misspelt (stands.at.number ∙ ap (λ (n : ℕ). first + n) (length-reverse read)) in
      subst (λ (ls : Lines). HasFirstBad v s (Fits s) first ls bad)
      (sym (cut_begun text h.pieces h.rest h.begun ∙ ap (λ (ls : Lines). map ended h.pieces ++ ls) (last_cut h.rest stands.kept.1 long)))
      (first_bad (map ended h.pieces) read h.rest bad fitting (inl (misspelt_rest (line_limit s) h.rest stands.kept.1, number)) [])

  pub end_stands : (c : FedState) (read : List CertLine) (rest : List ℕ) (r : Answer) → Finishes c.checker r → StandsAfter v s first read rest c
      → MatchResult r (λ _. (progress_after v s read).ended ≡ true) (λ bad. ((progress_after v s read).ended ≡ false) × (bad ≡ Missing (first + length read)))
  end_stands c read rest (Ok u) finishes stands = of_these v s c.checker (λ w z. (progress_after w z read).ended ≡ true) stands.version stands.solid
      (finishes first (reverse read) stands.at)
  end_stands c read rest (Err bad) finishes stands =
      let f = finishes first (reverse read) stands.at in (
        of_these v s c.checker (λ w z. (progress_after w z read).ended ≡ false) stands.version stands.solid f.0,
        f.1
            ∙ ap (λ (n : ℕ). Missing (first + n)) (length-reverse read),
      )

  -- END was the last line, or it is missing
  pub end_done : (c : FedState) (text : List ℕ) (r : Answer) → c.failed ≡ None → length c.kept ≤ 0 → Finishes c.checker r → IsFedLines v s (Fits s) first text c
      → MatchResult r (λ _. IsLegal v s (cut_lines text)) (λ bad. HasFirstBad v s (Fits s) first (cut_lines text) bad)
  end_done c text r none empty finishes h =
      let (read, fitting, stands) = standing c text h none in
      let cut : cut_lines text ≡ map ended h.pieces = cut_begun text h.pieces h.rest h.begun
      ∙ (ap (λ (x : List ℕ). map ended h.pieces ++ cut_lines x) (none_kept s c.kept h.rest stands.kept.0 empty) ∙ append-nil (map ended h.pieces)) in
      by_answer r (map ended h.pieces) read cut fitting (end_stands c read h.rest r finishes stands)
    where
      by_answer : (r : Answer) (lines : Lines) (read : List CertLine) → cut_lines text ≡ lines → AreFitting v s lines read
          → MatchResult r (λ _. (progress_after v s read).ended ≡ true) (λ bad. ((progress_after v s read).ended ≡ false) × (bad ≡ Missing (first + length read)))
          → MatchResult r (λ _. IsLegal v s (cut_lines text)) (λ bad. HasFirstBad v s (Fits s) first (cut_lines text) bad)
      by_answer (Ok u) lines read cut fitting e = subst (IsLegal v s) (sym cut) (legal_ended v s lines read fitting e)
      by_answer (Err bad) lines read cut fitting e =
          record { good = lines; read = read; fitting = fitting; rest = []; cut = cut ∙ sym (append-nil lines); next = e }

-- ---- the loop over the lines that have ended

abbrev pub IsLeft : Fitness → FedState → List ℕ → FedState → List ℕ → Type 0
IsLeft Fits old piece now left = (v : Version) (s : SolidData) (first : ℕ) (text : List ℕ) → IsFedLines v s (Fits s) first text old
    → (gone : List ℕ) × (text ++ piece ≡ gone ++ left) × IsFedLines v s (Fits s) first gone now

pub left_all : (Fits : Fitness) (c : FedState) (piece : List ℕ) → IsLeft Fits c piece c piece
left_all Fits c piece = λ v s first text h. (text, refl, h)

pub left_on : (Fits : Fitness) (old mid new : FedState) (piece left after : List ℕ) → IsLeft Fits old piece mid left → IsLeft Fits mid left new after
    → IsLeft Fits old piece new after
left_on Fits old mid new piece left after k m = λ v s first text fed.
    let x = k v s first text fed in let y = m v s first x.0 x.2 in (y.0, x.1 ∙ y.1, y.2)

-- a line is judged, which ends behind these bytes
abbrev pub EndsLine : Fitness → FedState → List ℕ → FedState → Type 0
EndsLine Fits old line new = (v : Version) (s : SolidData) (first : ℕ) (text front : List ℕ) → IsTrue (is_in_line front) → line ≡ ended front
    → IsFedLines v s (Fits s) first text old → IsFedLines v s (Fits s) first (text ++ line) new

pub left_next : (Fits : Fitness) (old : FedState) (piece : List ℕ) (now new : FedState) (left line after front : List ℕ) → is_in_line front ≡ true
    → line ≡ ended front → left ≡ front ++ 10 ∷ after → EndsLine Fits now line new → IsLeft Fits old piece now left → IsLeft Fits old piece new after
left_next Fits old piece now new left line after front h is whole next k = λ v s first text fed.
    let x = k v s first text fed in
    let e : left ≡ line ++ after = whole ∙ sym (append_assoc front (10 ∷ []) after) ∙ ap (λ (l : List ℕ). l ++ after) (sym is) in
    (x.0 ++ line, x.1 ∙ ap (λ (l : List ℕ). x.0 ++ l) e ∙ sym (append_assoc x.0 line after), next v s first x.0 front h is x.2)

-- a line at the start of what is left is taken, where nothing is kept of an unfinished one
pub left_taken : (Fits : Fitness) (old now new : FedState) (piece left after : List ℕ) → TakesNextLine now.checker new.checker left after
    → now.failed ≡ None → now.kept ≡ [] → IsOfSame now.checker new.checker → new.failed ≡ None → new.kept ≡ [] → IsLeft Fits old piece now left
    → IsLeft Fits old piece new after
left_taken Fits old now new piece left after t none empty same still done k =
    let short : length now.kept ≤ 0 = omega (arith, ap length empty) in
    left_next Fits old piece now new left t.line after t.cut.front t.cut.in_line t.cut.line_is t.cut.whole
    (λ v s first text front h is fed. whole_line v s Fits first now new text front t.line (Ok tt) none short h is same t.taken (still, done) fed) k

pub left_bad : (Fits : Fitness) (old : FedState) (piece : List ℕ) (new : FedState) (after : List ℕ) (bad : Illegal) (v : Version) (s : SolidData) (first : ℕ)
    (text : List ℕ) → new.failed ≡ Some bad → IsLeft Fits old piece new after → IsFedLines v s (Fits s) first text old
    → IsFedLines v s (Fits s) first (text ++ piece) new
left_bad Fits old piece new after bad v s first text some k fed = let x = k v s first text fed in subst (λ (t : List ℕ). IsFedLines v s (Fits s) first t new)
    (sym x.1) (fed_behind v s Fits first new x.0 after bad some x.2)

pub left_kept : (Fits : Fitness) (old : FedState) (piece : List ℕ) (now new : FedState) (left : List ℕ) (v : Version) (s : SolidData) (first : ℕ) (text : List ℕ)
    → now.failed ≡ None → new.failed ≡ None → new.checker ≡ now.checker → is_in_line left ≡ true
    → new.kept ≡ take (line_limit now.checker.solid) (now.kept ++ left) → IsLeft Fits old piece now left → IsFedLines v s (Fits s) first text old
    → IsFedLines v s (Fits s) first (text ++ piece) new
left_kept Fits old piece now new left v s first text none still same h kept k fed =
    let x = k v s first text fed in subst (λ (t : List ℕ). IsFedLines v s (Fits s) first t new) (sym x.1)
    (fed_more v s Fits first now new x.0 left none still same h kept x.2)

-- ---- a line of a part of a book

-- what a checker of whole lines says of its next line in a part
abbrev pub JudgesPart : CheckerState → List ℕ → CheckerState → Result PartLine Illegal → Type 0
JudgesPart old bytes new r = (first : ℕ) (lines : List CertLine) → IsAt first old lines → MatchResult r
    (IsPartLine old new first lines bytes)
    (λ bad. IsBadLine old.solid (FitsPart old.solid (progress_from_latest old.version old.solid lines)) (first + length lines) bytes bad)

-- nothing of the line is kept, or its fault is
abbrev pub IsPartDone : FedState → Result PartLine Illegal → Type 0
IsPartDone new r = MatchResult r (λ _. (new.failed ≡ None) × (new.kept ≡ [])) (λ bad. new.failed ≡ Some bad)

-- a line that begins the next part
next_part_ends : (v : Version) (s : SolidData) (first : ℕ) (old new : FedState) (text front bytes : List ℕ) (n : EntryNo) (number : ℕ)
    (fed : IsFedPart v s first text old) → old.failed ≡ None → is_in_line front ≡ true
    → SameLine (line_limit s) bytes (ended (fed.rest ++ front)) → JudgesPart old.checker bytes new.checker (Ok (Next n number)) → new.failed ≡ None
    → new.kept ≡ [] → EndsPart v s first (text ++ ended front) n.0 number new
next_part_ends v s first old new text front bytes n number fed none h same judges still kept =
    let (read, fitting, stands) = standing v s FitsPart first old text fed none in
    let j = judges first (reverse read) stands.at in
    let line = fed.rest ++ front in
    let begun = ended_begun text front fed.pieces fed.rest fed.begun stands.kept.1 h in
    record {
      good = map ended fed.pieces;
      read = read;
      fitting = fitting;
      bytes = ended line;
      cut = cut_begun (text ++ ended front) (fed.pieces ++ line ∷ []) [] begun
          ∙ (append-nil (map ended (fed.pieces ++ line ∷ [])) ∙ map-append ended fed.pieces (line ∷ []));
      names = same.line (solid_line n.0) (subst (λ (z : SolidData). IsLine (line_limit z) bytes (solid_line n.0)) stands.solid j.0);
      begins = of_these v s old.checker (λ w z. BeginsNext z (progress_after w z read) n.0) stands.version stands.solid j.1;
      number = j.2 ∙ ap (λ (k : ℕ). first + k + 1) (length-reverse read);
      stands = record {
        version = ap (λ (c : CheckerState). c.version) j.3 ∙ stands.version;
        solid = ap (λ (c : CheckerState). c.solid) j.3 ∙ stands.solid;
        legal = still;
        at = subst (λ (c : CheckerState). IsAt first c (reverse read)) (sym j.3) stands.at;
        kept = (kept ∙ sym (take_all (line_limit s) [] (omega arith)), refl);
      };
    }

part_fed : (v : Version) (s : SolidData) (first : ℕ) (old new : FedState) (text front bytes : List ℕ) (r : Result PartLine Illegal)
    (fed : IsFedPart v s first text old) → old.failed ≡ None → is_in_line front ≡ true → IsOfSame old.checker new.checker
    → SameLine (line_limit s) bytes (ended (fed.rest ++ front)) → JudgesPart old.checker bytes new.checker r → IsPartDone new r
    → MatchResult r (IsEndedBy v s first (text ++ ended front) new) (λ _. IsFedPart v s first (text ++ ended front) new)
part_fed v s first old new text front bytes (Ok More) fed none h same_as same judges done = next_fed v s FitsPart first old new text front bytes (Ok tt) fed
    none h same_as same (λ number lines at. judges number lines at) done
part_fed v s first old new text front bytes (Ok (Next n number)) fed none h same_as same judges done =
    next_part_ends v s first old new text front bytes n number fed none h same judges done.0 done.1
part_fed v s first old new text front bytes (Err bad) fed none h same_as same judges failed = next_fed v s FitsPart first old new text front bytes (Err bad)
    fed none h same_as same (λ number lines at. judges number lines at) failed

-- a line that ends with these bytes, of which these are kept with the LF
pub part_line : (v : Version) (s : SolidData) (first : ℕ) (old mid new : FedState) (text front line bytes : List ℕ) (r : Result PartLine Illegal)
    → old.failed ≡ None → is_in_line front ≡ true → line ≡ ended front
    → mid.kept ≡ take (line_limit old.checker.solid) (old.kept ++ take (length line - 1) line) → mid.checker ≡ old.checker → bytes ≡ ended mid.kept
    → IsOfSame mid.checker new.checker → JudgesPart mid.checker bytes new.checker r → IsPartDone new r → IsFedPart v s first text old
    → MatchResult r (IsEndedBy v s first (text ++ line) new) (λ _. IsFedPart v s first (text ++ line) new)
part_line v s first old mid new text front line bytes r none h is kept same bytes-is same_as judges done fed =
    let e = joined_is v s FitsPart first old mid text front line bytes fed none is kept bytes-is in
    subst (λ (l : List ℕ). MatchResult r (IsEndedBy v s first (text ++ l) new) (λ _. IsFedPart v s first (text ++ l) new)) (sym is)
    (part_fed v s first old new text front bytes r fed none h (same_as.0 ∙ ap (λ (c : CheckerState). c.version) same, same_as.1 ∙ ap (λ (c : CheckerState). c.solid) same)
    (same_kept (line_limit s) bytes (fed.rest ++ front) e)
    (subst (λ (c : CheckerState). JudgesPart c bytes new.checker r) same judges) done)

-- a line that lies whole in the piece
pub whole_part_line : (v : Version) (s : SolidData) (first : ℕ) (old new : FedState) (text front line : List ℕ) (r : Result PartLine Illegal)
    → old.failed ≡ None → length old.kept ≤ 0 → is_in_line front ≡ true → line ≡ ended front
    → IsOfSame old.checker new.checker → JudgesPart old.checker line new.checker r → IsPartDone new r → IsFedPart v s first text old
    → MatchResult r (IsEndedBy v s first (text ++ line) new) (λ _. IsFedPart v s first (text ++ line) new)
whole_part_line v s first old new text front line r none empty h is same judges done fed =
    let e = whole_is v s FitsPart first old text front line fed none empty is in
    subst (λ (l : List ℕ). MatchResult r (IsEndedBy v s first (text ++ l) new) (λ _. IsFedPart v s first (text ++ l) new)) (sym is)
    (part_fed v s first old new text front line r fed none h same (same_whole (line_limit s) line (ended (fed.rest ++ front)) e) judges done)

-- a line of a part is judged, which ends behind these bytes
abbrev pub EndsPartLine : FedState → List ℕ → FedState → PartLine → Type 0
EndsPartLine old line new told = (v : Version) (s : SolidData) (first : ℕ) (text front : List ℕ) → IsTrue (is_in_line front) → line ≡ ended front
    → IsFedPart v s first text old → IsEndedBy v s first (text ++ line) new told

pub after_shorter : (left front after : List ℕ) → left ≡ front ++ 10 ∷ after → length after < length left
after_shorter left front after whole = omega (arith, ap length whole, length-append front (10 ∷ after))

-- the bytes up to the end of the line that begins the next part
pub left_next_part : (old : FedState) (piece : List ℕ) (now new : FedState) (left line after front : List ℕ) (n : EntryNo) (number used : ℕ) (v : Version)
    (s : SolidData) (first : ℕ) (text : List ℕ) → is_in_line front ≡ true → line ≡ ended front
    → left ≡ front ++ 10 ∷ after → used + length after ≡ length piece → EndsPartLine now line new (Next n number) → IsLeft FitsPart old piece now left
    → IsFedPart v s first text old → EndsPart v s first (text ++ take used piece) n.0 number new
left_next_part old piece now new left line after front n number used v s first text h is whole used-is next k fed =
    let x = k v s first text fed in
    let e : left ≡ line ++ after = whole ∙ sym (append_assoc front (10 ∷ []) after) ∙ ap (λ (l : List ℕ). l ++ after) (sym is) in
    let all : text ++ piece ≡ (x.0 ++ line) ++ after = x.1 ∙ ap (λ (l : List ℕ). x.0 ++ l) e ∙ sym (append_assoc x.0 line after) in
    let many : length text + used ≡ length (x.0 ++ line) = omega (arith, ap length all, used-is, length-append text piece, length-append (x.0 ++ line) after) in
    let front_is : text ++ take used piece ≡ x.0 ++ line = sym (take-append-add text piece used)
    ∙ (ap (λ (l : List ℕ). take (length text + used) l) all ∙ take_at (x.0 ++ line) after (length text + used) (sym many)) in
    subst (λ (t : List ℕ). EndsPart v s first t n.0 number new) (sym front_is) (next v s first x.0 front h is x.2)
