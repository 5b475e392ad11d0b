-- The certain faults, F1 to F21. The others come of starts that differ.
use Rattle.ans_model.specs.declared.fault.Cause.{Cause}
use Rattle.ans_model.specs.declared.fault.Cause.TheVariants.{PrintUnknownPlace, EraseUnknownPlace, MayScroll}
use Rattle.ans_model.specs.declared.fault.Cause.TheVariants.{UnknownCell}

-- the cause holds from every start
abbrev pub IsCertain : Cause → Type 0
IsCertain PrintUnknownPlace = ⊥
IsCertain EraseUnknownPlace = ⊥
IsCertain MayScroll = ⊥
IsCertain (UnknownCell row col) = ⊥
IsCertain _ = Unit {0}
