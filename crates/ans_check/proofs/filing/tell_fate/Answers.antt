use Rattle.std.proofs.Common.{refl}
use Rattle.ans_write.proofs.PutsLemmas.{HandsOn-put}
use Rattle.ans_check.specs.Fates.{fate_text}
use Rattle.ans_check.proofs.filing.tell_fate.Goals as goal

pub returns : goal.returns
returns g c = (
  fate_text c.args.several c.args.name.now c.called.result c.args.fate.now.ending,
  record {
    naming = c.called.result;
    named = c.called.ensures.name;
    unguessed = c.called.ensures.unguessed;
    is = refl;
  },
  HandsOn-put c.put_fate_text.ensures c.hand_on.ensures.handed,
)
