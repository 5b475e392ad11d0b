use Rattle.std.proofs.Common.{◌++◌, refl}
use Rattle.ans_write.proofs.PutsLemmas.{Puts-then}
use Rattle.ans_check.specs.WhyRows.{file_line}
use Rattle.ans_check.proofs.why_rows.WhyRowsFileRows.put.Goals as goal

pub returns : goal.returns
returns g c =
    let why = c.put_why_of.ensures in
    record {
      outcome = why.outcome;
      text = file_line c.args.name.now ++ why.text;
      told = record { body = why.text; told = why.told; text_is = refl };
      puts = Puts-then c.put_file_line.ensures why.puts;
      is = why.is;
    }
