-- The notes that stay.
use Rattle.std.proofs.Common.{◌≡◌, ℕ, ◌+◌, ◌/◌, ◌%◌, ◌==◌, Bool, true, false, List, ◌++◌, length, refl, sym}
use Rattle.std.proofs.Common.{ap, ap₂, ◌∙◌, []}
use Rattle.std.proofs.lemmas.List.Elements.{filter-append}
use Rattle.std.proofs.lemmas.Bool.{eq-eqb}
use Rattle.std.specs.Prelude.{not, ◌||◌, bit_and}
use Rattle.std.specs.Char.{is_ascii_digit}
use Rattle.std.specs.List.{filter, list_all, list_any}
use Rattle.ans_model.specs.File.Layout.{FileParts, content, is_end_mark}
use Rattle.ans_model.specs.File.NoteConditions.{note_if, notes, unused_flags}
use Rattle.ans_model.specs.File.Record.{date_field, file_size, flags, tinfo}
use Rattle.ans_model.specs.declared.note.Note.{Note}
use Rattle.ans_model.specs.declared.note.Note.TheVariants.{WidthAssumed, NoEndMark, SizeDiffers, OddDate, FlagBits}
use Rattle.ans_model.specs.declared.note.Note.TheVariants.{FlagPair}
use Rattle.ans_picture_laws.specs.RedrawnFileLaws.{note_stays}

-- ---- one by one
width_stays : (test : Bool) → filter note_stays (note_if test WidthAssumed) ≡ note_if test WidthAssumed
width_stays true = refl
width_stays false = refl

mark_goes : (test : Bool) → filter note_stays (note_if test NoEndMark) ≡ []
mark_goes true = refl
mark_goes false = refl

size_goes : (test : Bool) → filter note_stays (note_if test SizeDiffers) ≡ []
size_goes true = refl
size_goes false = refl

date_stays : (test : Bool) → filter note_stays (note_if test OddDate) ≡ note_if test OddDate
date_stays true = refl
date_stays false = refl

bits_stay : (test : Bool) → filter note_stays (note_if test FlagBits) ≡ note_if test FlagBits
bits_stay true = refl
bits_stay false = refl

pair_stays : (test : Bool) → filter note_stays (note_if test FlagPair) ≡ note_if test FlagPair
pair_stays true = refl
pair_stays false = refl

-- ---- by what they depend on
abbrev notes_by : ℕ → Bool → Bool → List ℕ → ℕ → List Note
notes_by width marked same_size date bits =
    note_if (width == 0) WidthAssumed
    ++ note_if (not marked) NoEndMark
    ++ note_if (not same_size) SizeDiffers
    ++ note_if (not (list_all is_ascii_digit date)) OddDate
    ++ note_if (not (bit_and bits unused_flags == 0)) FlagBits
    ++ note_if (bits / 8 % 4 == 3 || bits / 2 % 4 == 3) FlagPair

by_stay : (width : ℕ) (marked same_size : Bool) (date : List ℕ) (bits : ℕ)
    → filter note_stays (notes_by width marked same_size date bits) ≡ notes_by width true true date bits
by_stay width marked same_size date bits =
    simp (filter-append, width_stays, mark_goes, size_goes, date_stays, bits_stay, pair_stays) refl

-- these parts have an end mark and a FileSize that is the length of their content, and else the fields of the others
pub record AreResized (apart new : FileParts) : Type 0 where
  pub width : tinfo 1 new.record_bytes ≡ tinfo 1 apart.record_bytes
  pub date : date_field new.record_bytes ≡ date_field apart.record_bytes
  pub bits : flags new.record_bytes ≡ flags apart.record_bytes
  pub marked : list_any is_end_mark new.body ≡ true
  pub counted : file_size new.record_bytes ≡ length (content new.body)

pub notes_stay : (apart new : FileParts) → AreResized apart new
    → notes new.body new.record_bytes ≡ filter note_stays (notes apart.body apart.record_bytes)
notes_stay apart new h =
    let r : List ℕ = apart.record_bytes in
    let s : List ℕ = new.record_bytes in
    let n : ℕ = length (content new.body) in
    let same_size : Bool = file_size s == n || file_size s == n + 1 in
    let was_same : Bool =
    file_size r == length (content apart.body) || file_size r == length (content apart.body) + 1 in
    let is : same_size ≡ true =
    ap (λ (v : Bool). v || file_size s == n + 1) (eq-eqb (file_size s) n h.counted) in
    ap (λ (v : ℕ). notes_by v (list_any is_end_mark new.body) same_size (date_field s) (flags s)) h.width
    ∙ ap₂ (λ (v w : Bool). notes_by (tinfo 1 r) v w (date_field s) (flags s)) h.marked is
    ∙ ap₂ (λ (v : List ℕ) (w : ℕ). notes_by (tinfo 1 r) true true v w) h.date h.bits
    ∙ sym (by_stay (tinfo 1 r) (list_any is_end_mark apart.body) was_same (date_field r) (flags r))
