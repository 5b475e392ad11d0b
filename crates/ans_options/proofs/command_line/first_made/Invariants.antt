use Rattle.std.proofs.Common.{◌≡◌, drop}
use Rattle.std.specs.Prelude.{find}
use Rattle.clap.specs.Words.{found_of, rows_of}
use Rattle.ans_options.specs.CommandLine.{makes}
use Rattle.ans_options.proofs.command_line.first_made.Given as goal

abbrev pub invariant-loop-mistake : goal.invariant-loop-mistake
invariant-loop-mistake l =
    find (λ m. makes m (rows_of (found_of l.matches))) (drop l.mistake-index l.mistakes)
    ≡ find (λ m. makes m (rows_of (found_of l.matches))) l.mistakes
