use Rattle.ans_check_laws.proofs.MendedTwice.{own_colours_gone}
use Rattle.ans_check_laws.proofs.mend_laws.named_files_have_no_own_colours.Goals as goal

pub returns : goal.returns
returns c =
    own_colours_gone (record {
      read = c.named_content_is_read.ensures;
      once = c.naming_twice_is_naming_once.ensures.once;
      mended = c.naming_twice_is_naming_once.ensures.mended;
    })
    c.no_own_colours_are_left.ensures
