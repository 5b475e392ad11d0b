use Rattle.ans_names_laws.proofs.OwnGone.{no_kind_is_added, own_need_not_be_agreed}
use Rattle.ans_names_laws.proofs.no_kind_is_added.Goals as goal

pub returns : goal.returns
returns c = record { none = no_kind_is_added; own = own_need_not_be_agreed }
