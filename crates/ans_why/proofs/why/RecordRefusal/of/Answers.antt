use Rattle.ans_why.proofs.EnoughLines.{said_of_lines}
use Rattle.ans_why.proofs.why.RecordRefusal.of.Goals.{in-LinesUnstated, in_default}
use Rattle.ans_why.proofs.why.RecordRefusal.of.Goals as goal

pub returns : goal.returns
returns c = record {
  refused = c.requires.refused;
  found = c.find.ensures;
  other = c.known_file.ensures;
  damage = rw c.front.ensures.front at c.of.ensures;
  enough = elim c.match-fault.branch [
    | in-LinesUnstated w ↦
        rw w.result-is (said_of_lines c.args.file.now c.args.fault.cause w.enough.result w.in-LinesUnstated.is
        w.enough.ensures.some w.enough.ensures.none)
    | in_default w ↦
        rw w.result-is (record { some = tt; none = λ e. absurd (w.in_default.not-LinesUnstated e) })
  ];
}
