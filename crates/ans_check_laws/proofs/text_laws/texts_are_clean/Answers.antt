use Rattle.ans_check_laws.proofs.CleanReports.{messages_clean, reports_clean, reports_coloured}
use Rattle.ans_check_laws.proofs.text_laws.texts_are_clean.Goals as goal

pub returns : goal.returns
returns c = record { reports = reports_clean; pictures = reports_coloured; messages = messages_clean }
