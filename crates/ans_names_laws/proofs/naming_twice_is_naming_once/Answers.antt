use Rattle.ans_names_laws.proofs.NamedReading.{twice_is_once, twice_is_once_mended}
use Rattle.ans_names_laws.proofs.naming_twice_is_naming_once.Goals as goal

pub returns : goal.returns
returns c = record { once = twice_is_once; mended = twice_is_once_mended }
