use Rattle.ans_picture_laws.proofs.ColourLaws.{colours_lead, colours_are_agreed, colours_keep_names}
use Rattle.ans_picture_laws.proofs.ColourLaws.{colours_are_read, colours_are_short}
use Rattle.ans_picture_laws.proofs.form_laws.colours_lead_from_each_to_each.Goals as goal

pub returns : goal.returns
returns c = record {
  lead = colours_lead;
  agreed = colours_are_agreed;
  short = colours_are_short;
  named = colours_keep_names;
  read = colours_are_read;
}
