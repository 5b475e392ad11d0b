-- What a file comes to.
use Rattle.std.specs.Prelude.{◌≡◌, ℕ, Bool, true, false, List, Option, Some, None}
use Rattle.ans_model.specs.File.Refusals.{record_fault}
use Rattle.ans_model.specs.declared.fault.Fault.{Fault}
use Rattle.ans_sauce.specs.Split.{IsSplit}
use Rattle.ans_sauce.specs.declared.parts.Parts.{Parts}
use Rattle.ans_sauce.specs.declared.judged.Judged.{Judged}
use Rattle.ans_sauce.specs.declared.judged.Judged.TheVariants.{NoContent, Refused, Passes}

-- What is said of a file is true of it: where it has parts, it is split into them. What is to be true of a refused
-- record, of a refused content and of one that passes is given.
abbrev pub IsJudged : {N R P : Type 0} → (N → Type 0) → (Parts → R → Type 0) → (Parts → P → Type 0) → List ℕ
    → Judged N R P → Type 0
IsJudged of_record of_refusal of_pass file (NoContent said) = of_record said
IsJudged of_record of_refusal of_pass file (Refused parts said) = IsSplit file parts × of_refusal parts said
IsJudged of_record of_refusal of_pass file (Passes parts said) = IsSplit file parts × of_pass parts said

-- the file's record or its layout is refused for this fault
abbrev pub IsRecordFault : List ℕ → Fault → Type 0
IsRecordFault file fault = record_fault file ≡ Some fault

-- its content passes
abbrev pub is_pass : {N R P : Type 0} → Judged N R P → Bool
is_pass (Passes parts said) = true
is_pass _ = false

-- its parts, where it has some
abbrev pub parts_in : {N R P : Type 0} → Judged N R P → Option Parts
parts_in (NoContent said) = None
parts_in (Refused parts said) = Some parts
parts_in (Passes parts said) = Some parts
