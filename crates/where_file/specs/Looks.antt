-- What a bad file, or the line of it that fails, looks like.
use Rattle.std.specs.Prelude.{ℕ, Bool, true, false, ◌&&◌, ◌||◌, ◌==◌, nat_eq, nat_lt, nat_le, List, [], ◌∷◌, length, drop, take, find, Option, Some, None}
use Rattle.std.specs.Prelude.{codes, option_map, slice_index, count_by}
use Rattle.std.specs.Option.{option_or}
use Rattle.std.specs.List.{list_all, list_any, prefix_len, starts_with}
use Rattle.iges_lines.specs.declared.reason.Reason.{Reason}
use Rattle.iges_lines.specs.declared.reason.Reason.TheVariants as reason
use Rattle.where_file.specs.declared.look.FileKind.{FileKind}
use Rattle.where_file.specs.declared.look.FileKind.TheVariants as file_kind
use Rattle.where_file.specs.declared.look.LineKind.{LineKind}
use Rattle.where_file.specs.declared.look.LineKind.TheVariants as line_kind

-- the first of these that holds
abbrev pub first_holding : {A : Type 0} → List (Bool × A) → Option A
first_holding {A} rows = option_map (λ (row : Bool × A). row.1) (find (λ (row : Bool × A). row.0) rows)

abbrev pub begins : List ℕ → List ℕ → Bool
begins bytes start = starts_with nat_eq bytes start

-- a space, a tab, LF or CR
abbrev pub is_blank_byte : ℕ → Bool
is_blank_byte b = b == 32 || b == 9 || b == 10 || b == 13

-- the bytes behind the blank ones, of the first so many
unfoldable pub first_word : ℕ → List ℕ → List ℕ
first_word count bytes = drop (prefix_len is_blank_byte (take count bytes)) (take count bytes)

-- ---- whole files, by their first bytes

abbrev pub of_nothing : List ℕ → List (Bool × FileKind)
of_nothing bytes = (length bytes == 0, file_kind.Empty) ∷ []

abbrev pub packed : List ℕ → List (Bool × FileKind)
packed bytes =
    (begins bytes (31 ∷ 139 ∷ []), file_kind.Gzip) ∷
    (begins bytes (80 ∷ 75 ∷ 3 ∷ 4 ∷ []), file_kind.Zip) ∷
    (begins bytes (codes "%PDF"), file_kind.Pdf) ∷
    (begins bytes (255 ∷ 254 ∷ []) || begins bytes (254 ∷ 255 ∷ []), file_kind.Utf16) ∷
    (begins bytes (239 ∷ 187 ∷ 191 ∷ []), file_kind.ByteOrderMark) ∷ []

-- as igesolid writes it
abbrev pub is_certificate : List ℕ → Bool
is_certificate bytes = begins bytes (codes "IGESCERT ") || begins bytes (codes "IGESOPEN ") || begins bytes (codes "ORIENT ")

abbrev pub is_brep : List ℕ → Bool
is_brep bytes = begins bytes (codes "DBRep_DrawableShape") || begins bytes (codes "CASCADE Topology")

abbrev pub of_systems : List ℕ → List (Bool × FileKind)
of_systems bytes =
    (is_certificate bytes, file_kind.Certificate) ∷
    (is_brep bytes, file_kind.Brep) ∷
    (begins bytes (codes "**ABCDEFGHIJ"), file_kind.Parasolid) ∷
    (begins bytes (codes "AC10"), file_kind.Dwg) ∷
    (begins bytes (codes "solid "), file_kind.Stl) ∷ []

-- by the first word
abbrev pub of_words : List ℕ → List (Bool × FileKind)
of_words word = (begins word (codes "ISO-10303-21"), file_kind.Step) ∷ (begins word (codes "<"), file_kind.Markup) ∷ []

-- ---- lines

-- a letter of a section in lower case
abbrev pub is_lower : ℕ → Bool
is_lower b = list_any (λ x. x == b) (codes "sgdpt")

-- end marks of old systems, spaces and CRs alone
unfoldable pub are_end_marks : List ℕ → Bool
are_end_marks line = list_all (λ b. b == 26 || b == 32 || b == 13) line

-- zero bytes, spaces and CRs alone
unfoldable pub are_zeros : List ℕ → Bool
are_zeros line = list_all (λ b. b == 0 || b == 32 || b == 13) line

unfoldable pub are_spaces : List ℕ → Bool
are_spaces line = list_all (λ b. b == 32) line

unfoldable pub has_carriage_return : List ℕ → Bool
has_carriage_return line = list_any (λ b. b == 13) line

unfoldable pub has_tab : List ℕ → Bool
has_tab line = list_any (λ b. b == 9) line

-- a byte that isn't of ASCII
unfoldable pub has_other_byte : List ℕ → Bool
has_other_byte line = list_any (λ b. nat_lt 127 b) line

-- what stands behind the T line
abbrev pub behind_end : List ℕ → List (Bool × LineKind)
behind_end line =
    (are_end_marks line, line_kind.ControlZ) ∷
    (are_zeros line, line_kind.Nuls) ∷
    (length line == 80 && slice_index line 72 == 83, line_kind.SecondFile) ∷ []

abbrev pub in_letters : List ℕ → List (Bool × LineKind)
in_letters line = (is_lower (slice_index line 72), line_kind.LowerCase) ∷ []

-- a byte with which a character of UTF-8 begins, or any of ASCII
abbrev pub begins_character : ℕ → Bool
begins_character b = nat_lt b 128 || nat_le 192 b

-- 160 bytes or more, with the letters of two lines in their columns
abbrev pub is_unbroken : List ℕ → Bool
is_unbroken line = nat_le 160 (length line) && slice_index line 72 == 83 && (slice_index line 152 == 83 || slice_index line 152 == 71)

-- 80 characters, but not all of ASCII
abbrev pub is_long_in_utf_8 : List ℕ → Bool
is_long_in_utf_8 line = has_other_byte line && count_by begins_character line == 80

-- the bytes of a line that hasn't 80
abbrev pub in_bytes : List ℕ → List (Bool × LineKind)
in_bytes line =
    (is_unbroken line, line_kind.NoLineEnds) ∷
    (length line == 81 && slice_index line 80 == 13, line_kind.TwoCrs) ∷
    (has_carriage_return line, line_kind.CrAlone) ∷
    (has_tab line, line_kind.Tabs) ∷
    (is_long_in_utf_8 line, line_kind.Utf8) ∷ []

-- its length, where it is the last, and LF doesn't end it
abbrev pub in_length : Bool → List ℕ → List (Bool × LineKind)
in_length is_last line =
    (length line == 72, line_kind.NoNumbers) ∷
    (are_spaces line, line_kind.Blank) ∷
    (is_last && nat_lt (length line) 80, line_kind.CutOff) ∷ []

-- ---- which of these apply

-- the kind of a whole file
unfoldable pub kind_of_file : List ℕ → Option FileKind
kind_of_file bytes =
    option_or (first_holding (of_nothing bytes)) (option_or (first_holding (packed bytes))
    (option_or (first_holding (of_systems bytes)) (first_holding (of_words (first_word 4096 bytes)))))

abbrev pub is_of_whole : Reason → Bool
is_of_whole reason.NotFixed = true
is_of_whole reason.Length = true
is_of_whole reason.Letter = true
is_of_whole reason.Missing = true
is_of_whole _ = false

-- what was done to a line, by the reason for which it fails
unfoldable pub kind_of_line : Reason → Bool → List ℕ → Option LineKind
kind_of_line reason.After is_last line = first_holding (behind_end line)
kind_of_line reason.Letter is_last line = first_holding (in_letters line)
kind_of_line reason.Length is_last line = option_or (first_holding (in_bytes line)) (first_holding (in_length is_last line))
kind_of_line _ is_last line = None

-- ---- the text of each

unfoldable pub file_kind_text : FileKind → List ℕ
file_kind_text file_kind.Empty = codes "hint looks-like empty\n  The file is empty.\n"
file_kind_text file_kind.Gzip = codes "hint looks-like gzip\n  This is a compressed file (gzip). Unpack it first.\n"
file_kind_text file_kind.Zip = codes "hint looks-like zip\n  This is a zip archive. Unpack it first.\n"
file_kind_text file_kind.Pdf = codes "hint looks-like pdf\n  This is a PDF document.\n"
file_kind_text file_kind.Utf16 = codes "hint looks-like utf-16\n  This is text in UTF-16. Save it as plain ASCII.\n"
file_kind_text file_kind.ByteOrderMark = codes "hint looks-like byte-order-mark\n  The file begins with the byte order mark of UTF-8.\n"
file_kind_text file_kind.Certificate = codes "hint looks-like certificate\n  This is a certificate of igesolid. Name the IGES file first.\n"
file_kind_text file_kind.Brep = codes "hint looks-like brep\n  This is a BREP file of Open CASCADE.\n"
file_kind_text file_kind.Parasolid = codes "hint looks-like parasolid\n  This is a Parasolid file.\n"
file_kind_text file_kind.Dwg = codes "hint looks-like dwg\n  This is a DWG drawing.\n"
file_kind_text file_kind.Stl = codes "hint looks-like stl\n  This seems to be an STL file: triangles, without solids of faces and edges.\n"
file_kind_text file_kind.Step = codes "hint looks-like step\n  This is a STEP file (ISO 10303-21). Convert it to IGES.\n"
file_kind_text file_kind.Markup =
    codes "hint looks-like markup\n  This seems to be a web page or an XML file; a download may have given an\n  error page in place of the file.\n"

unfoldable pub line_kind_text : LineKind → List ℕ
line_kind_text line_kind.ControlZ = codes "hint looks-like control-z\n  The file ends in a Control-Z, the end mark of old systems.\n"
line_kind_text line_kind.Nuls = codes "hint looks-like nuls\n  The file is filled up with zero bytes.\n"
line_kind_text line_kind.SecondFile = codes "hint looks-like second-file\n  Another IGES file follows the T line. Cut the file into two.\n"
line_kind_text line_kind.LowerCase = codes "hint looks-like lower-case\n  Column 73 has the letter in lower case: the file was turned into lower case.\n"
line_kind_text line_kind.NoLineEnds = codes "hint looks-like no-line-ends\n  The lines have 80 columns, but no line ends.\n"
line_kind_text line_kind.TwoCrs = codes "hint looks-like two-crs\n  The line ends in CR CR LF: the file was converted to CR LF twice.\n"
line_kind_text line_kind.CrAlone = codes "hint looks-like cr-alone\n  The line has a CR inside: lines that end in CR alone, as on old Macs.\n"
line_kind_text line_kind.Tabs = codes "hint looks-like tabs\n  The line has a tab: an editor has put it for several spaces.\n"
line_kind_text line_kind.Utf8 = codes "hint looks-like utf-8\n  The line has 80 characters but more bytes: letters that aren't ASCII, in\n  UTF-8. Columns count bytes.\n"
line_kind_text line_kind.NoNumbers = codes "hint looks-like no-numbers\n  The line has 72 columns: what columns 73 to 80 should hold, the section's\n  letter and the line's number, was cut off or stands in the next line.\n"
line_kind_text line_kind.Blank = codes "hint looks-like blank\n  The line is blank.\n"
line_kind_text line_kind.CutOff = codes "hint looks-like cut-off\n  The file ends within this line: it was cut off. Fetch it again.\n"
