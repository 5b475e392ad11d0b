use Rattle.std.proofs.Common.{◌≡◌, map, drop}
use Rattle.clap.specs.Words.{app_of}
use Rattle.ans_model.specs.MendFlags.{row_of_flag}
use Rattle.ans_options.specs.CommandLine.{with_flags}
use Rattle.ans_options.proofs.command_line.with_mend_flags.Given as goal

abbrev pub invariant-loop-one : goal.invariant-loop-one
invariant-loop-one l =
    with_flags (app_of l.command) (map (λ f. f.name) (map row_of_flag (drop l.one-index l.flags)))
    ≡ with_flags (app_of l.fn.command) (map (λ f. f.name) (map row_of_flag l.flags))
