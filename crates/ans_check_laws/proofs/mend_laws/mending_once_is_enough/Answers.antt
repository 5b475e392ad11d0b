use Rattle.ans_check_laws.proofs.MendedTwice.{mending_twice}
use Rattle.ans_check_laws.proofs.mend_laws.mending_once_is_enough.Goals as goal

pub returns : goal.returns
returns c =
    mending_twice (record {
      read = c.named_content_is_read.ensures;
      once = c.naming_twice_is_naming_once.ensures.once;
      mended = c.naming_twice_is_naming_once.ensures.mended;
    })
