use Rattle.ans_check.proofs.pipeline.run_command.Goals as goal

pub returns-in-Sauce : goal.returns-in-Sauce
returns-in-Sauce g c = rw c.in-Sauce.is c.tell_record.ensures

pub returns-in-Tokens : goal.returns-in-Tokens
returns-in-Tokens g c = rw c.in-Tokens.is c.tell_tokens.ensures
