use Rattle.std.proofs.Common.{◌∙◌, ap, length}
use Rattle.ans_c.specs.Row.{notes_sum}
use Rattle.ans_c.proofs.Pieces.{comments_in_file}
use Rattle.ans_c.proofs.row_fields.parts_of.Goals as goal

pub returns : goal.returns
returns c = record {
  content = ap length c.content.ensures;
  comments = record {
    length_is = ap length c.comments-comments.ensures.bytes;
    bytes_are = rw (c.comments-comments.ensures.bytes, c.requires.shows.comments)
        (comments_in_file c.args.file.now c.requires.apart c.requires.accepts.laid);
  };
  notes = c.notes_sum.ensures ∙ ap notes_sum (c.as_slice.ensures.value ∙ c.notes.ensures);
}
