use Rattle.ans_picture_laws.proofs.FormLaws.{form_is_read, form_is_good, form_has_no_end_mark, form_ends_grey}
use Rattle.ans_picture_laws.proofs.FormLaws.{form_feeds_on, form_needs_nothing}
use Rattle.ans_picture_laws.proofs.form_laws.form_is_good_from_every_start.Goals as goal

pub returns : goal.returns
returns c = record {
  read = form_is_read;
  good = form_is_good;
  needs = form_needs_nothing;
  unmarked = form_has_no_end_mark;
  grey = form_ends_grey;
  feeds = form_feeds_on;
}
