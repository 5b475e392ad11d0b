use Rattle.std.proofs.Common.{rules, ◌≡◌, ◌∙◌, ℕ, List, ap}
use Rattle.ans_model.specs.File.Record.{title_field, author_field, group_field, date_field, font_field, file_size}
use Rattle.ans_model.specs.File.Record.{comment_count, flags, trimmed}
use Rattle.ans_model.specs.Text.Hexadecimal.{hex_byte}
use Rattle.ans_sauce.specs.RecordBytes.{sauce_bytes}
use Rattle.ans_sauce.specs.Parts.{record_of, notes_of}
use Rattle.ans_write.proofs.PutsLemmas.{Puts-then}
use Rattle.ans_report.proofs.record_text.put_record.Goals as goal

pub returns : goal.returns
returns g c =
    let r = record_of c.args.parts.now in
    let sauce : sauce_bytes c.sauce-sauce.result ≡ r = c.sauce-sauce.ensures in
    let title : c.title.result.now ≡ trimmed (title_field r) =
    c.title.ensures ∙ ap (λ (b : List ℕ). trimmed (title_field b)) sauce in
    let author : c.author.result.now ≡ trimmed (author_field r) =
    c.author.ensures ∙ ap (λ (b : List ℕ). trimmed (author_field b)) sauce in
    let group : c.group.result.now ≡ trimmed (group_field r) =
    c.group.ensures ∙ ap (λ (b : List ℕ). trimmed (group_field b)) sauce in
    let date : c.date.result.now ≡ trimmed (date_field r) =
    c.date.ensures ∙ ap (λ (b : List ℕ). trimmed (date_field b)) sauce in
    let digits : c.hex_byte.result ≡ hex_byte (flags r) =
    c.hex_byte.ensures ∙ ap hex_byte (c.flags.ensures ∙ ap flags sauce) in
    let font : c.font.result.now ≡ trimmed (font_field r) =
    c.font.ensures ∙ ap (λ (b : List ℕ). trimmed (font_field b)) sauce in
    let wide_size : c.from.result ≡ c.file_size.result = search rules in
    let size : c.from.result ≡ file_size r = wide_size ∙ c.file_size.ensures ∙ ap file_size sauce in
    let wide_count : c.from-2.result ≡ c.comment_count.result = search rules in
    let count : c.from-2.result ≡ comment_count r = wide_count ∙ c.comment_count.ensures ∙ ap comment_count sauce in
    let notes : c.as_slice.result.now ≡ notes_of c.args.parts.now = search rules in
    Puts-then (rw title at c.put_field.ensures) (Puts-then (rw author at c.put_field-2.ensures)
    (Puts-then (rw group at c.put_field-3.ensures) (Puts-then (rw date at c.put_field-4.ensures)
    (Puts-then c.put_size_line.ensures (Puts-then (rw digits at c.put_named_line.ensures)
    (Puts-then (rw font at c.put_field-5.ensures) (Puts-then (rw size at c.put_number_line.ensures)
    (Puts-then (rw count at c.put_number_line-2.ensures) (Puts-then c.put_comments.ensures
    (rw notes at c.put_notes.ensures))))))))))
