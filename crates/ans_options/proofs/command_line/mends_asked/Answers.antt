use Rattle.std.proofs.Common.{◌≡◌, Option, Some, None, List, subst, sym}
use Rattle.std.specs.Prelude.{◌≤◌, ℕ, IfSome, codes, option_map}
use Rattle.clap.specs.Words.{Row, Text, found_of, first_of, rows_of}
use Rattle.ans_options.specs.CommandLine.{AreInRange, HasNumbersOfMend, IsNumberUpTo, mends_asked, number_written}
use Rattle.ans_options.proofs.command_line.mends_asked.Goals as goal

-- a number is in the range of its text
in_range : (most : ℕ) (text : Option Text) → IfSome text (IsNumberUpTo most)
    → IfSome (option_map number_written text) (λ n. (1 ≤ n) × (n ≤ most))
in_range most None number = tt
in_range most (Some text) number = (number.1, number.2)

all_in_range : (rows : List Row) → HasNumbersOfMend rows → AreInRange (mends_asked rows)
all_in_range rows has = (
  in_range 1024 (first_of (codes "add-record") rows) has.0.1,
  in_range 1024 (first_of (codes "columns") rows) has.1.1,
  in_range 8192 (first_of (codes "lines") rows) has.2.1,
)

pub returns-clause-range : goal.returns-clause-range
returns-clause-range c =
    let is : c.with_given.result ≡ mends_asked (rows_of (found_of c.args.matches.now)) =
    rw (c.mend_flags.ensures, c.number_asked.ensures, c.number_asked-2.ensures, c.number_asked-3.ensures)
    at c.with_given.ensures in
    subst AreInRange (sym is) (all_in_range (rows_of (found_of c.args.matches.now)) c.requires)
