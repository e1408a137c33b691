-- What is read from a text within the limit can be made.
use Rattle.std.proofs.Common.{◌≡◌, ℕ, ◌+◌, ◌-◌, ◌*◌, ◌^◌, ◌<◌, ◌≤◌, Bool, true, false, List, [], ◌∷◌, ◌++◌, length, drop, map, pos, Option, Some, None, refl}
use Rattle.std.proofs.Common.{sym, ap, subst, ◌∙◌, arith, length-append, lit<, lit≤}
use Rattle.std.specs.Prelude.{◌==◌, flat_map, IsTrue, MatchBool, unsigned_abs, fold}
use Rattle.std.specs.List.{AllByRecursion, list_all, enumerate_from}
use Rattle.std.specs.Ordering.{int_eq}
use Rattle.std.proofs.lemmas.Bool.{and_parts, and_from, eq-eqb}
use Rattle.std.proofs.lemmas.List.{length-take, length-drop, length-map}
use Rattle.iges_fields.specs.declared.value.Value.{Value}
use Rattle.iges_fields.specs.declared.value.Value.TheVariants as value
use Rattle.iges_fields.specs.Delims.{Delims, are_permitted}
use Rattle.iges_base.specs.InLine.{is_in_line}
use Rattle.iges_fields.specs.InLine.{is_value}
use Rattle.iges_base.proofs.InLines.{both_in_line}
use Rattle.iges_fields.proofs.InLines.{free_text_values}
use Rattle.iges_base.proofs.Lists.{list_all-parts, list_all-take, list_all-drop}
use Rattle.iges_lines.specs.Lines.{columns, SectionLines, joined}
use Rattle.iges_lines.specs.Sectioned.{IsNumbered}
use Rattle.iges_lines.proofs.InLines.{columns_in_line, columns_short}
use Rattle.iges_lines.proofs.Kept.{sections_kept}
use Rattle.iges_directory.specs.declared.entry.Entry.{Entry}
use Rattle.iges_directory.specs.declared.entry.Placed.{Placed}
use Rattle.iges_directory.specs.Entries.{field, status_of, IsEntry, AreEntries}
use Rattle.iges_directory.proofs.InColumns.{entry_bounded}
use Rattle.iges_params.specs.declared.global.Global26.{Global26}
use Rattle.iges_params.specs.Contents.{value_count}
use Rattle.iges_params.specs.Global.{HasValues, GlobalText, global_text}
use Rattle.iges_params.specs.Made.{is_start_line, IsMadeEntry}
use Rattle.iges_params.specs.Records.{record_lines, record_text, IsRecord, HasRecord, AreRecords}
use Rattle.iges_params.proofs.Behind.{head_after, behind_in_line, behind_length}
use Rattle.iges_params.proofs.GlobalExact.{permitted}
use Rattle.iges_params.proofs.Owned.{all_owned, all_owned-few, record_few}
use Rattle.iges_write.specs.Writable.{IsHeld, CanBeMade}
use Rattle.iges_write.proofs.Columns.{AreWide}

abbrev Lines : Type 0
Lines = List (List ℕ)

abbrev Entries : Type 0
Entries = List (Entry × List Value)

-- ---- lines without LF

abbrev InLine : Lines → Type 0
InLine ls = list_all is_in_line ls ≡ true

-- the text in columns 1 to n of lines
text_in_line : (n : ℕ) (ls : Lines) → InLine ls → is_in_line (flat_map (columns 1 n) ls) ≡ true
text_in_line n [] h = refl
text_in_line n (l ∷ ls) h =
    let p = and_parts (is_in_line l) (list_all is_in_line ls) h in
    both_in_line (columns 1 n l) (flat_map (columns 1 n) ls) (columns_in_line 1 n l p.0) (text_in_line n ls p.1)

text_short : (n : ℕ) (ls : Lines) → n ≤ 72 → length (flat_map (columns 1 n) ls) ≤ 72 * length ls
text_short n [] h = omega arith
text_short n (l ∷ ls) h = omega (arith, h, length-append (columns 1 n l) (flat_map (columns 1 n) ls), columns_short 1 n l, text_short n ls h)

-- ---- the start lines and the global

numbered_80 : (section k : ℕ) (ls : Lines) → AllByRecursion (λ (l : ℕ × List ℕ). IsNumbered section l.0 l.1) (enumerate_from k ls) → AreWide 80 ls
numbered_80 section k [] h = tt
numbered_80 section k (l ∷ ls) h = (h.0.long, numbered_80 section (k + 1) ls h.1)

starts_made : (ls : Lines) → AreWide 80 ls → InLine ls → list_all is_start_line (map (columns 1 72) ls) ≡ true
starts_made [] h k = refl
starts_made (l ∷ ls) h k =
    let p = and_parts (is_in_line l) (list_all is_in_line ls) k in
    let long : length (columns 1 72 l) ≡ 72 = omega (arith, h.0, length-take 72 l) in
    and_from (is_start_line (columns 1 72 l)) (list_all is_start_line (map (columns 1 72) ls))
    (and_from (length (columns 1 72 l) == 72) (is_in_line (columns 1 72 l)) (eq-eqb (length (columns 1 72 l)) 72 long) (columns_in_line 1 72 l p.0))
    (starts_made ls h.1 p.1)

global_made : (text : List ℕ) (g : Global26) → GlobalText text g → is_in_line text ≡ true → length text < 2 ^ 64 → list_all is_value g.values ≡ true
global_made text g t h lt = by_values t.start.values refl t.values
  where
    by_values : (o : Option (List ℕ)) → t.start.values ≡ o → HasValues t.start.delims o g.values → list_all is_value g.values ≡ true
    by_values None e v = ap (list_all is_value) v
    by_values (Some rest) e v =
        let b = head_after text t.start rest t.head_is e in
        free_text_values t.start.delims rest g.values v.0 v.1 (behind_in_line text rest b h) (omega (arith, behind_length text rest b, lt))

-- ---- the entries and their records

field_long : (k : ℕ) (line : List ℕ) → 0 < k → k ≤ 10 → length line ≡ 80 → length (field k line) ≡ 8
field_long k line some le l =
    omega (arith, some, le, l, length-take (8 * k - (8 * k - 7 - 1)) (drop (8 * k - 7 - 1) line), length-drop (8 * k - 7 - 1) line)

status_long : (bytes : List ℕ) → length (status_of bytes) ≡ length bytes
status_long bytes = length-map bytes _

entry_held : (first second : List ℕ) (p : Placed) (values : List Value) → IsEntry first second p → length first ≡ 80 → length second ≡ 80
    → list_all is_value values ≡ true → IsHeld (p.entry, values)
entry_held first second p values e f s ok = record {
  status = ap length e.status ∙ (status_long (field 9 first) ∙ field_long 9 first (lit< tt) (lit≤ tt) f);
  label = ap length e.label ∙ field_long 8 second (lit< tt) (lit≤ tt) s;
  values = ok;
}

lines_few : (params : Lines) (p : Placed) → length (record_lines params p) ≤ length params
lines_few params p =
    let first : ℕ = unsigned_abs p.first - 1 in
    omega (arith, length-take (first + unsigned_abs p.count - first) (drop first params), length-drop first params)

record_made : (params : Lines) (d : Delims) (number : ℕ) (p : Placed) (values : List Value) → HasRecord params d number p values → InLine params
    → 72 * length params < 2 ^ 64
    → (list_all is_value values ≡ true) × (IsTrue (int_eq p.entry.kind (pos 0)) → values ≡ [])
record_made params d number p values h clean few = by_kind (int_eq p.entry.kind (pos 0)) refl h
  where
    first : ℕ
    first = unsigned_abs p.first - 1

    in_line : is_in_line (record_text params p) ≡ true
    in_line = text_in_line 64 (record_lines params p)
        (list_all-take is_in_line _ (drop (unsigned_abs p.first - 1) params) (list_all-drop is_in_line (unsigned_abs p.first - 1) params clean))

    by_kind : (b : Bool) → int_eq p.entry.kind (pos 0) ≡ b → MatchBool b (values ≡ []) (IsRecord params d number p values)
        → (list_all is_value values ≡ true) × (IsTrue (int_eq p.entry.kind (pos 0)) → values ≡ [])
    by_kind true e none = (ap (list_all is_value) none, λ t. none)
    by_kind false e r =
        let all = free_text_values d (record_text params p) (value.Int p.entry.kind ∷ values) r.used r.text in_line
        (omega (arith, text_short 64 (record_lines params p) (lit≤ tt), lines_few params p, few)) in
        ((and_parts (is_value (value.Int p.entry.kind)) (list_all is_value values) all).1, λ t. absurd (let no : false ≡ true = sym e ∙ t in cc))

module _ (n : ℕ) (params : Lines) (d : Delims) (clean : InLine params) (few : 72 * length params < 2 ^ 64) where
  entries_made : (number : ℕ) (dl : Lines) (ps : List Placed) (es : Entries) → AreEntries n dl ps → AreRecords params d number ps es → AreWide 80 dl
      → InLine dl → AllByRecursion IsMadeEntry es × AllByRecursion IsHeld es
  entries_made number [] [] [] a r long c = (tt, tt)
  entries_made number [] [] (e ∷ es) a r long c = absurd r
  entries_made number [] (p ∷ ps) es a r long c = absurd a
  entries_made number (first ∷ []) ps es a r long c = absurd a
  entries_made number (first ∷ second ∷ dl) [] es a r long c = absurd a
  entries_made number (first ∷ second ∷ dl) (p ∷ ps) [] a r long c = absurd r
  entries_made number (first ∷ second ∷ dl) (p ∷ ps) (e ∷ es) a r long c =
      let made = record_made params d number p e.1 r.1 clean few in
      let here = and_parts (is_in_line first) (list_all is_in_line (second ∷ dl)) c in
      let next = and_parts (is_in_line second) (list_all is_in_line dl) here.1 in
      let others = entries_made (number + 2) dl ps es a.2 r.2 long.1.1 next.1 in (
        (subst (λ (x : Entry). IsMadeEntry (x, e.1)) (sym r.0) (record { bounded = entry_bounded first second p next.0 a.0; unused = made.1 }), others.0),
        (subst (λ (x : Entry). IsHeld (x, e.1)) (sym r.0) (entry_held first second p e.1 a.0 long.0 long.1.0 made.0), others.1),
      )

  entries_length : (number : ℕ) (dl : Lines) (ps : List Placed) (es : Entries) → AreEntries n dl ps → AreRecords params d number ps es
      → length dl ≡ 2 * length es
  entries_length number [] [] [] a r = refl
  entries_length number [] [] (e ∷ es) a r = absurd r
  entries_length number [] (p ∷ ps) es a r = absurd a
  entries_length number (first ∷ []) ps es a r = absurd a
  entries_length number (first ∷ second ∷ dl) [] es a r = absurd a
  entries_length number (first ∷ second ∷ dl) (p ∷ ps) [] a r = absurd r
  entries_length number (first ∷ second ∷ dl) (p ∷ ps) (e ∷ es) a r = omega (arith, entries_length (number + 2) dl ps es a.2 r.2)

abbrev value_total : Entries → ℕ
value_total [] = 0
value_total (e ∷ es) = length e.1 + value_total es

total_few : (params : Lines) (d : Delims) (number : ℕ) (ps : List Placed) (es : Entries) → AreRecords params d number ps es
    → value_total es ≤ 64 * all_owned number (length es) params
total_few params d number [] [] r = omega arith
total_few params d number [] (e ∷ es) r = absurd r
total_few params d number (p ∷ ps) [] r = absurd r
total_few params d number (p ∷ ps) (e ∷ es) r = omega (arith, record_few params d number p e.1 r.1, total_few params d (number + 2) ps es r.2)

sum_is_total : (a : ℕ) (es : Entries) → fold (λ b (e : Entry × List Value). b + length e.1) a es ≡ a + value_total es
sum_is_total a [] = omega arith
sum_is_total a (e ∷ es) = sum_is_total (a + length e.1) es ∙ omega arith

-- ---- the whole

pub can_be_made : CanBeMade
can_be_made bytes f limit is =
    let s : SectionLines = is.sections in
    let kept = sections_kept bytes s limit is.sectioned in
    let within : 80 * length (joined s) ≤ 164000000 = kept.within in
    let clean_upper = list_all-parts is_in_line (s.start ++ s.global ++ s.directory) s.param kept.in_line in
    let clean_front = list_all-parts is_in_line (s.start ++ s.global) s.directory clean_upper.0 in
    let clean = list_all-parts is_in_line s.start s.global clean_front.0 in
    let upper = length-append (s.start ++ s.global ++ s.directory) s.param in
    let front = length-append (s.start ++ s.global) s.directory in
    let both = length-append s.start s.global in
    let params_few : 72 * length s.param < 2 ^ 64 = omega (arith, within, upper) in
    let global_few : length (global_text s) < 2 ^ 64 = omega (arith, within, upper, front, both, text_short 72 s.global (lit≤ tt)) in
    let entries = entries_made (length s.param) s.param f.global.delims clean_upper.1 params_few 1 s.directory is.placed f.entries is.directory is.records
    (numbered_80 68 1 s.directory kept.directory) clean_front.1 in
    let long = entries_length (length s.param) s.param f.global.delims clean_upper.1 params_few 1 s.directory is.placed f.entries is.directory is.records in
    let total = total_few s.param f.global.delims 1 is.placed f.entries is.records in
    let sum : value_count f.entries ≡ 0 + value_total f.entries = sum_is_total 0 f.entries in
    let values_few : value_count f.entries ≤ 164000000 = omega (arith, sum, total, within, upper, all_owned-few 1 (length f.entries) s.param) in
    record {
      made = record {
        some_start = omega (arith, kept.some_start, ap length is.start, length-map s.start (columns 1 72));
        start = ap (list_all is_start_line) is.start ∙ starts_made s.start (numbered_80 83 1 s.start kept.start) clean.0;
        kinds = is.global.kinds_fit;
        entries = entries.0;
        limits = record { entries = omega (arith, long, within, upper, front); values = values_few };
      };
      delims = ap are_permitted is.global.delims ∙ permitted (global_text s) is.global.start is.global.head_is;
      global_values = global_made (global_text s) f.global is.global (text_in_line 72 s.global clean.1) global_few;
      held = entries.1;
    }
