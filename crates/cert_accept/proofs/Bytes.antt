-- What the entries of a file take of its bytes.
use Rattle.std.proofs.Common.{◌≡◌, ℕ, zero, suc, ◌+◌, ◌-◌, ◌*◌, ◌≤◌, Bool, true, false, List, [], ◌∷◌, ◌++◌, length, take, drop, ℤ, pos, Some, None, ap, arith}
use Rattle.std.proofs.Common.{length-append}
use Rattle.std.specs.Prelude.{MatchBool, unsigned_abs, flat_map}
use Rattle.std.specs.List.{AllZip, list_all}
use Rattle.std.specs.Ordering.{int_eq}
use Rattle.std.proofs.lemmas.Bool.{and_parts}
use Rattle.iges_fields.specs.declared.value.Value.{Value}
use Rattle.iges_fields.specs.declared.value.Value.TheVariants as value
use Rattle.iges_base.specs.declared.TheConstants.{FILE_LIMIT}
use Rattle.iges_fields.specs.Delims.{Delims}
use Rattle.iges_fields.specs.FreeText.{IsItem, delimited, FreeText}
use Rattle.iges_base.specs.Word.{spaces, integer}
use Rattle.iges_lines.specs.Lines.{SectionLines, columns}
use Rattle.iges_lines.proofs.InLines.{columns_short}
use Rattle.iges_lines.proofs.Kept.{sections_kept}
use Rattle.iges_directory.specs.declared.entry.Entry.{Entry}
use Rattle.iges_directory.specs.declared.entry.Placed.{Placed}
use Rattle.iges_directory.specs.Entries.{AreEntries}
use Rattle.iges_params.specs.Contents.{Contents, value_count}
use Rattle.iges_params.specs.IsFile.{IsFile}
use Rattle.iges_params.specs.Limits.{FitsLimits}
use Rattle.iges_params.specs.Records.{record_lines, record_text, points_back, IsRecord, HasRecord, AreRecords}
use Rattle.iges_params.proofs.Owned.{mark, all_owned, all_owned-few}
use Rattle.solid_data.proofs.Members.{total, fold-total}

-- ---- values

-- how many bytes a value takes at least, its delimiter with it
abbrev pub value_room : Value → ℕ
value_room (value.Int z) = 2
value_room _ = 1

abbrev pub values_room : List Value → ℕ
values_room values = total value_room values

-- an integer is spelled by some byte
word_some : (z : ℤ) (word : List ℕ) → integer word ≡ Some z → 1 ≤ length word
word_some z [] h = absurd (let none : None ≡ Some z = h in cc)
word_some z (b ∷ word) h = omega arith

item_room : (item : List ℕ) (v : Value) → IsItem item v → value_room v ≤ length item + 1
item_room item (value.Int z) (before, after, word, spelled, is) =
    let long : length item ≡ length (spaces before ++ word ++ spaces after) = ap length is in
    omega (arith, long, length-append (spaces before ++ word) (spaces after), length-append (spaces before) word, word_some z word spelled.0)
item_room item value.Default h = omega arith
item_room item (value.Real spelling) h = omega arith
item_room item (value.Text text) h = omega arith

items_room : (d : Delims) (items : List (List ℕ)) (values : List Value) → AllZip IsItem items values → values_room values ≤ length (delimited d items)
items_room d [] [] h = omega arith
items_room d [] (v ∷ vs) h = absurd h
items_room d (item ∷ items) [] h = absurd h
items_room d (item ∷ []) (v ∷ []) h = omega (arith, length-append item (d.end ∷ []), item_room item v h.0)
items_room d (item ∷ []) (v ∷ w ∷ vs) h = absurd h.1
items_room d (item ∷ next ∷ items) (v ∷ []) h = absurd h.1
items_room d (item ∷ next ∷ items) (v ∷ w ∷ vs) h =
    omega (arith, length-append item (d.param ∷ delimited d (next ∷ items)), item_room item v h.0, items_room d (next ∷ items) (w ∷ vs) h.1)

text_room : (d : Delims) (text : List ℕ) (values : List Value) (used : ℕ) → FreeText d text values used → values_room values ≤ length text
text_room d text values used f =
    let long : length text ≡ length (delimited d f.items ++ f.rest) = ap length f.parts in
    omega (arith, items_room d f.items values f.each, long, length-append (delimited d f.items) f.rest)

-- ---- records

-- how many lines point back to this entry
abbrev own : ℕ → List (List ℕ) → ℕ
own number ls = all_owned number 1 ls

own_take : (number k : ℕ) (ls : List (List ℕ)) → own number (take k ls) ≤ own number ls
own_take number zero ls = omega arith
own_take number (suc k) [] = omega arith
own_take number (suc k) (l ∷ ls) = omega (arith, own_take number k ls)

own_drop : (number k : ℕ) (ls : List (List ℕ)) → own number (drop k ls) ≤ own number ls
own_drop number zero ls = omega arith
own_drop number (suc k) [] = omega arith
own_drop number (suc k) (l ∷ ls) = omega (arith, own_drop number k ls)

own_all : (number : ℕ) (ls : List (List ℕ)) → list_all (points_back number) ls ≡ true → length ls ≤ own number ls
own_all number [] h = omega arith
own_all number (l ∷ ls) h =
    let k = and_parts (points_back number l) (list_all (points_back number) ls) h in
    let one : mark (points_back number l) ≡ 1 = ap mark k.0 in
    omega (arith, one, own_all number ls k.1)

text_64 : (ls : List (List ℕ)) → length (flat_map (columns 1 64) ls) ≤ 64 * length ls
text_64 [] = omega arith
text_64 (l ∷ ls) = omega (arith, length-append (columns 1 64 l) (flat_map (columns 1 64) ls), columns_short 1 64 l, text_64 ls)

record_room : (params : List (List ℕ)) (d : Delims) (number : ℕ) (p : Placed) (values : List Value) → HasRecord params d number p values
    → values_room values ≤ 64 * own number params
record_room params d number p values h = by_kind (int_eq p.entry.kind (pos 0)) h
  where
    by_kind : (b : Bool) → MatchBool b (values ≡ []) (IsRecord params d number p values) → values_room values ≤ 64 * own number params
    by_kind true none = let zero_room : values_room values ≡ 0 = ap values_room none in omega (arith, zero_room)
    by_kind false r =
        let first : ℕ = unsigned_abs p.first - 1 in
        omega (
          arith,
          text_room d (record_text params p) (value.Int p.entry.kind ∷ values) r.used r.text,
          text_64 (record_lines params p),
          own_all number (record_lines params p) r.pointers,
          own_take number (first + unsigned_abs p.count - first) (drop first params),
          own_drop number first params,
        )

-- ---- entries

-- how many bytes an entry takes at least: two directory lines of 80 bytes, and its values
abbrev pub entry_room : Entry × List Value → ℕ
entry_room e = 160 + values_room e.1

records_room : (params : List (List ℕ)) (d : Delims) (number : ℕ) (ps : List Placed) (es : List (Entry × List Value)) → AreRecords params d number ps es
    → total entry_room es ≤ 160 * length ps + 64 * all_owned number (length ps) params
records_room params d number [] [] h = omega arith
records_room params d number [] (e ∷ es) h = absurd h
records_room params d number (p ∷ ps) [] h = absurd h
records_room params d number (p ∷ ps) (e ∷ es) h = omega (arith, record_room params d number p e.1 h.1, records_room params d (number + 2) ps es h.2)

entries_lines : (n : ℕ) (lines : List (List ℕ)) (ps : List Placed) → AreEntries n lines ps → length lines ≡ 2 * length ps
entries_lines n [] [] h = omega arith
entries_lines n [] (p ∷ ps) h = absurd h
entries_lines n (first ∷ []) ps h = absurd h
entries_lines n (first ∷ second ∷ lines) [] h = absurd h
entries_lines n (first ∷ second ∷ lines) (p ∷ ps) h = omega (arith, entries_lines n lines ps h.2)

-- The entries of a file within its limit take no more bytes than this limit.
pub entries_room : (bytes : List ℕ) (f : Contents) → length bytes ≤ FILE_LIMIT → IsFile bytes f → total entry_room f.entries ≤ 164000000
entries_room bytes f limit h =
    let s : SectionLines = h.sections in
    let kept = sections_kept bytes s limit h.sectioned in
    let within : 80 * length (s.start ++ s.global ++ s.directory ++ s.param) ≤ 164000000 = kept.within in
    omega (
      arith,
      within,
      length-append (s.start ++ s.global ++ s.directory) s.param,
      length-append (s.start ++ s.global) s.directory,
      length-append s.start s.global,
      entries_lines (length s.param) s.directory h.placed h.directory,
      records_room s.param f.global.delims 1 h.placed f.entries h.records,
      all_owned-few 1 (length h.placed) s.param,
    )

-- ---- what a file may hold

values_count : (values : List Value) → length values ≤ values_room values
values_count [] = omega arith
values_count (v ∷ values) = omega (arith, value_some v, values_count values)
  where
    value_some : (v : Value) → 1 ≤ value_room v
    value_some (value.Int z) = omega arith
    value_some value.Default = omega arith
    value_some (value.Real spelling) = omega arith
    value_some (value.Text text) = omega arith

entries_count : (es : List (Entry × List Value)) → 160 * length es + total (λ (e : Entry × List Value). length e.1) es ≤ total entry_room es
entries_count [] = omega arith
entries_count (e ∷ es) = omega (arith, values_count e.1, entries_count es)

-- A file within its limit holds no more than a file may.
pub file_fits : (bytes : List ℕ) (f : Contents) → length bytes ≤ FILE_LIMIT → IsFile bytes f → FitsLimits f
file_fits bytes f limit h =
    let within = entries_room bytes f limit h in
    let counted = entries_count f.entries in
    let summed : value_count f.entries ≡ 0 + total (λ (e : Entry × List Value). length e.1) f.entries =
    fold-total (λ (e : Entry × List Value). length e.1) 0 f.entries in
    let values : value_count f.entries ≤ 164000000 = omega (arith, within, counted, summed) in
    record { entries = omega (arith, within, counted); values = values }
