-- Lines that several reports have are clean.
use Rattle.std.proofs.Common.{◌≡◌, ℕ, Bool, true, false, refl, arith, List, [], ◌++◌, length, codes, All}
use Rattle.std.specs.Prelude.{◌==◌, flat_map, if◌then◌else◌}
use Rattle.std.proofs.lemmas.Bool.Decides.{nat_tests}
use Rattle.std.proofs.lemmas.List.Elements.{All-nil, All-cons}
use Rattle.ans_model.specs.declared.fault.Fault.{Fault}
use Rattle.ans_model.specs.declared.fault.Cause.{Cause}
use Rattle.ans_model.specs.declared.fault.Cause.TheVariants.{UnknownCell}
use Rattle.ans_model.specs.declared.note.Note.{Note}
use Rattle.ans_model.specs.declared.note.Note.TheVariants.{WidthAssumed}
use Rattle.ans_model.specs.declared.start.Start.{Start}
use Rattle.ans_model.specs.Bytes.{IsByte, blank}
use Rattle.ans_model.specs.File.Layout.{FileParts, comment_block}
use Rattle.ans_model.specs.File.Record.{comment_count}
use Rattle.ans_model.specs.File.Refusals.{Accepts}
use Rattle.ans_model.specs.Text.FaultText.{fault_text, position_text, fault_line, note_line}
use Rattle.ans_model.specs.Text.ReportText.{Heading, start_line, heading_text}
use Rattle.ans_model.specs.Text.Words.{part_if, part_names, words_text}
use Rattle.ans_report.specs.Quoted.{quoted_byte}
use Rattle.ans_report.specs.FaultTold.{fault_told}
use Rattle.ans_check_laws.specs.CleanTexts.{IsCleanText}
use Rattle.ans_check_laws.proofs.CleanPieces.{clean_option, AreBytes, bytes_left, bytes_right, clean_append}
use Rattle.ans_check_laws.proofs.CleanPieces.{clean_joined, clean_nil, clean_pieces, of_each, plain_text}

-- ---- faults and notes

fault_text_clean : (cause : Cause) → IsCleanText (fault_text cause)
fault_text_clean (UnknownCell row col) = plain_text (codes "F25 cell stays unknown") refl
fault_text_clean cause = plain_text (fault_text cause) refl

position_clean : (cause : Cause) → IsCleanText (position_text cause)
position_clean (UnknownCell row col) = search clean_pieces depth 20
position_clean cause = clean_nil

pub fault_line_clean : (fault : Fault) → IsCleanText (fault_line fault)
fault_line_clean fault = search (clean_pieces, fault_text_clean, position_clean) depth 20

pub fault_told_clean : (fault : Fault) → IsCleanText (fault_told fault)
fault_told_clean fault = search (clean_pieces, fault_text_clean, position_clean) depth 20

pub note_line_clean : (note : Note) → IsCleanText (note_line note)
note_line_clean WidthAssumed = plain_text (note_line WidthAssumed) refl
note_line_clean note = plain_text (note_line note) refl

-- ---- headings

part_clean : (known : Bool) (name : List ℕ) (names : List (List ℕ)) → IsCleanText name → All IsCleanText names
    → All IsCleanText (part_if known name ++ names)
part_clean true name names clean all = All-cons IsCleanText name names clean all
part_clean false name names clean all = all

pub parts_clean : (s : Start) → IsCleanText (words_text (part_names s))
parts_clean s =
    clean_joined blank refl (part_names s)
    (part_clean s.screen (codes "screen") _ (plain_text (codes "screen") refl)
    (part_clean s.cursor (codes "cursor") _ (plain_text (codes "cursor") refl)
    (part_clean s.saved (codes "saved") _ (plain_text (codes "saved") refl)
    (part_clean s.colours (codes "colours") _ (plain_text (codes "colours") refl)
    (part_clean s.wrap (codes "wrap") [] (plain_text (codes "wrap") refl) (All-nil IsCleanText))))))

pub heading_clean : (h : Heading) → IsCleanText (heading_text h)
heading_clean h = search (clean_option start_line, parts_clean, note_line_clean, clean_pieces) depth 20

-- ---- bytes as they are quoted

quoted_byte_clean : (byte : ℕ) → IsByte byte → IsCleanText (quoted_byte byte)
quoted_byte_clean byte h = search clean_pieces depth 20

pub quoted_bytes_clean : (bytes : List ℕ) → AreBytes bytes → IsCleanText (flat_map quoted_byte bytes)
quoted_bytes_clean bytes h =
    of_each IsCleanText clean_nil clean_append IsByte quoted_byte bytes h.each quoted_byte_clean

-- the lines that several reports have
pub ruleset whole_lines = (fault_line_clean, note_line_clean, parts_clean, heading_clean, quoted_bytes_clean)

pub ruleset clean_lines = (whole_lines, clean_pieces)

-- ---- bytes of a file

-- the comments are bytes where their block is
comments_are_bytes : (none : Bool) (comments : List ℕ) → (none ≡ true → length comments ≡ 0)
    → AreBytes (if none then [] else codes "COMNT" ++ comments) → AreBytes comments
comments_are_bytes true comments empty h = record { each = λ k d within. absurd (omega (arith, empty refl, within)) }
comments_are_bytes false comments empty h = bytes_right (codes "COMNT") comments h

-- the parts of a file of bytes are bytes
pub record OfBytes (apart : FileParts) : Type 0 where
  pub body : AreBytes apart.body
  pub comments : AreBytes apart.comment_bytes
  pub sauce : AreBytes apart.record_bytes

pub parts_are_bytes : (file : List ℕ) (apart : FileParts) → Accepts file apart → AreBytes file → OfBytes apart
parts_are_bytes file apart accepts h =
    let count = comment_count apart.record_bytes in
    let block = comment_block count apart.comment_bytes in
    let all : AreBytes (apart.body ++ (block ++ apart.record_bytes)) = rw accepts.laid.whole at h in
    let rest = bytes_right apart.body (block ++ apart.record_bytes) all in
    record {
      body = bytes_left apart.body (block ++ apart.record_bytes) all;
      comments = comments_are_bytes (count == 0) apart.comment_bytes
          (λ none. grind (arith, nat_tests, accepts.laid.comments)) (bytes_left block apart.record_bytes rest);
      sauce = bytes_right block apart.record_bytes rest;
    }
