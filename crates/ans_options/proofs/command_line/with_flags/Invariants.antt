use Rattle.std.proofs.Common.{◌≡◌, map, drop}
use Rattle.clap.specs.Words.{app_of}
use Rattle.ans_options.specs.CommandLine.{with_flags}
use Rattle.ans_options.proofs.command_line.with_flags.Given as goal

abbrev pub invariant-loop-name : goal.invariant-loop-name
invariant-loop-name l =
    with_flags (app_of l.command) (map (λ f. f.0.now) (drop l.name-index l.flags))
    ≡ with_flags (app_of l.fn.command) (map (λ f. f.0.now) l.flags)
