use Rattle.std.proofs.Common.{rules}
use Rattle.std.specs.Fmt.{digits}
use Rattle.ans_laws.proofs.text_examples.report_texts.Goals as goal

pub returns : goal.returns
unfolding digits lib.Utf8.encode
returns c = search rules
