use Rattle.std.proofs.Common.{rules}
use Rattle.std.specs.Fmt.{digits}
use Rattle.ans_laws.proofs.ComputedReading.{tokens_text}
use Rattle.ans_laws.proofs.text_examples.token_texts.Goals as goal

pub returns : goal.returns
unfolding digits
returns c = search (rules, tokens_text)
