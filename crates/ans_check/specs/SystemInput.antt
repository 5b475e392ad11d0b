-- What the program reads on a system, and how it answers its words there.
use Rattle.std.specs.Prelude.{◌≡◌, ◌⊎◌, ℕ, Bool, true, false, List, Option, None, ⊤}
use Rattle.clap.specs.Words.{Text}
use Rattle.ans_write.specs.declared.tried.Tried.{Tried}
use Rattle.ans_check.specs.Answer.{EndsSo}
use Rattle.ans_check.specs.Ending.{ending_status}
use Rattle.ans_check.specs.declared.exit_status.Ending.{Ending}
use Rattle.ans_check.specs.declared.exit_status.Ending.TheVariants.{UnreadableWords}
use Rattle.ans_check.specs.Naming.{unnamed}
use Rattle.ans_check.specs.Said.{Says}
use Rattle.ans_save.specs.declared.system.System.{System}
use Rattle.ans_check.specs.declared.system.Input.{Input}
use Rattle.ans_check.specs.declared.system.Input.TheVariants.{Named, Standard}

-- the input is a file, not standard input
abbrev pub is_named : Input → Bool
is_named (Named file) = true
is_named (Standard stdin) = false

-- The words come to an ending on the system's inputs and its disk, or there is no memory to list them; and the errors
-- and the status are that ending's. Which bytes a file of the system holds, and which files it has, is not known.
abbrev pub AnswersOnSystem : {W E : Type 0} → (W → Option (List ℕ)) → (E → Option (List ℕ)) → Bool → List Text
    → Tried W → Tried W → Tried E → Tried E → ℕ → Type 0
AnswersOnSystem contents told is_terminal words output output_after errors errors_after status = (ending : Ending)
    × (((disk : System) × (disk_after : System)
    × EndsSo {R = Input} {D = System} (λ _. None) contents told (λ _ input. is_named input ≡ true)
    (λ input. is_named input ≡ false) (λ _ _. ⊤) (λ _ _ _ _. ⊤) (λ _ _ _. ⊤) (λ _ _ _. ⊤) (λ _ _ _. ⊤) (λ _ _. ⊤)
    (λ _ _ _. ⊤) is_terminal words disk disk_after output output_after errors errors_after ending)
    ⊎ ((ending ≡ UnreadableWords) × (output_after ≡ output) × Says told errors errors_after unnamed ending))
    × (status ≡ ending_status ending)
