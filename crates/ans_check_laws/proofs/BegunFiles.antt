-- A file behind the safe beginning.
use Rattle.std.proofs.Common.{◌≡◌, inl, inr, ℕ, ◌+◌, ◌/◌, ◌%◌, ◌<◌, ◌==◌, Bool, List, ◌++◌}
use Rattle.std.proofs.Common.{length, refl, ap, ap₂, sym, ◌∙◌, arith}
use Rattle.std.proofs.lemmas.Bool.{cases_eq, eq-eqb, ne_eqb}
use Rattle.std.proofs.lemmas.List.{length-append}
use Rattle.std.specs.Prelude.{not, ◌||◌, bit_and}
use Rattle.std.specs.Char.{is_ascii_digit}
use Rattle.std.specs.List.{list_any, list_all}
use Rattle.ans_model.specs.File.Layout.{FileParts, content, is_end_mark}
use Rattle.ans_model.specs.File.NoteConditions.{note_if, notes, unused_flags}
use Rattle.ans_model.specs.declared.note.Note.{Note}
use Rattle.ans_model.specs.declared.note.Note.TheVariants.{WidthAssumed, NoEndMark, SizeDiffers, OddDate, FlagBits}
use Rattle.ans_model.specs.declared.note.Note.TheVariants.{FlagPair}
use Rattle.ans_model.specs.File.Record.{date_field, file_size, flags, stated_size, tinfo}
use Rattle.ans_model.specs.File.Refusals.{Accepts}
use Rattle.ans_sauce.proofs.ResizedFiles.{resized_accepted, resized_content, resized_date, resized_file_size}
use Rattle.ans_sauce.proofs.ResizedFiles.{resized_flags, resized_size, resized_width}
use Rattle.ans_model.specs.Screen.Beginning.{mending}
use Rattle.ans_kinds.proofs.Mended.{makes_good}
use Rattle.ans_check_laws.specs.BegunFile.{BegunFilePasses, begun_parts}

-- ---- the notes
same_difference : (a b c d : ℕ) → a ≡ c + 25 → b ≡ d + 25 → (a == b) ≡ (c == d)
same_difference a b c d more too = elim (cases_eq c d) [
  | inl same ↦ eq-eqb a b (omega arith) ∙ sym (eq-eqb c d same)
  | inr other ↦ ne_eqb a b (λ e. other (omega arith)) ∙ sym (ne_eqb c d other)
]

module _ (file : List ℕ) (apart : FileParts) (accepts : Accepts file apart)
    (room : file_size apart.record_bytes + 25 < 4294967296) where
  abbrev size : ℕ
  size = file_size apart.record_bytes + 25

  abbrev mended : FileParts
  mended = begun_parts apart

  its_content : content mended.body ≡ mending ++ content apart.body
  its_content = resized_content mending refl size file apart accepts

  -- the content has 25 bytes more
  its_count : length (content mended.body) ≡ length (content apart.body) + 25
  its_count =
      let front : length mending ≡ 25 = refl in
      let all : length (content mended.body) ≡ length mending + length (content apart.body) =
      ap length its_content ∙ length-append mending (content apart.body) in
      omega (arith, front, all)

  its_difference : (file_size mended.record_bytes == length (content mended.body)
      || file_size mended.record_bytes == length (content mended.body) + 1)
      ≡ (file_size apart.record_bytes == length (content apart.body)
      || file_size apart.record_bytes == length (content apart.body) + 1)
  its_difference =
      let counted = resized_file_size mending refl size file apart accepts room in
      ap₂ (λ (a b : Bool). a || b)
      (same_difference (file_size mended.record_bytes) (length (content mended.body)) (file_size apart.record_bytes)
      (length (content apart.body)) counted its_count)
      (same_difference (file_size mended.record_bytes) (length (content mended.body) + 1)
      (file_size apart.record_bytes) (length (content apart.body) + 1) counted (omega (arith, its_count)))

  -- the notes by what they depend on
  abbrev notes_by : ℕ → Bool → Bool → List ℕ → ℕ → List Note
  notes_by width marked same_size date bits =
      note_if (width == 0) WidthAssumed
      ++ note_if (not marked) NoEndMark
      ++ note_if (not same_size) SizeDiffers
      ++ note_if (not (list_all is_ascii_digit date)) OddDate
      ++ note_if (not (bit_and bits unused_flags == 0)) FlagBits
      ++ note_if (bits / 8 % 4 == 3 || bits / 2 % 4 == 3) FlagPair

  its_notes : notes mended.body mended.record_bytes ≡ notes apart.body apart.record_bytes
  its_notes =
      ap (λ (v : ℕ). notes_by v (list_any is_end_mark apart.body) (file_size mended.record_bytes == length (content
      mended.body) || file_size mended.record_bytes == length (content mended.body) + 1)
      (date_field mended.record_bytes) (flags mended.record_bytes)) (resized_width mending refl size file apart accepts)
      ∙ ap (λ (v : Bool). notes_by (tinfo 1 apart.record_bytes) (list_any is_end_mark apart.body) v
      (date_field mended.record_bytes) (flags mended.record_bytes)) its_difference
      ∙ ap₂ (λ (v : List ℕ) (w : ℕ). notes_by (tinfo 1 apart.record_bytes) (list_any is_end_mark apart.body)
      (file_size apart.record_bytes == length (content apart.body)
      || file_size apart.record_bytes == length (content apart.body) + 1) v w)
      (resized_date mending refl size file apart accepts) (resized_flags mending refl size file apart accepts)

pub begun_file_passes : BegunFilePasses
begun_file_passes file apart picture accepts good room =
    let size : ℕ = file_size apart.record_bytes + 25 in
    record {
      accepts = resized_accepted mending refl size file apart accepts;
      size = resized_size mending refl size file apart accepts;
      notes = its_notes file apart accepts room;
      good = rw (its_content file apart accepts room)
          (makes_good (stated_size apart.record_bytes) (content apart.body) picture good);
    }
