use Rattle.std.proofs.Common.{◌≡◌, arith, nat_lt, true}
use Rattle.std.proofs.lemmas.Bool.Decides.{nat_tests}
use Rattle.ans_check.proofs.answering.put_counts_of_files.Goals as goal

pub returns : goal.returns
returns g c =
    let several : nat_lt 1 c.args.counts.now.files ≡ true = grind (arith, nat_tests, c.if-counts-le1.false) in
    rw several c.put_file_counts.ensures
