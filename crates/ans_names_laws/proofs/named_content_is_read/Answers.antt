use Rattle.ans_names_laws.proofs.NamedParts.{named_is_read}
use Rattle.ans_names_laws.proofs.named_content_is_read.Goals as goal

pub returns : goal.returns
returns c = named_is_read
