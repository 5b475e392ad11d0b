use Rattle.std.proofs.Common.{◌≡◌, arith, get_or}
use Rattle.ans_model.specs.Bytes.{escape, bracket}
use Rattle.ans_model.specs.Inside.ShownKind.{shown_kind}
use Rattle.ans_tokens.proofs.WholeSequences.{begun_marked, begun_unmarked, means_token}
use Rattle.ans_tokens.proofs.whole.whole_sequence.Goals as goal
use Rattle.ans_tokens.proofs.whole.whole_sequence.Goals.{in-Some, in-None}

pub read_members-requires-clause-begun : goal.read_members-requires-clause-begun
read_members-requires-clause-begun c =
    let first : get_or c.args.bytes.now 0 0 ≡ escape = omega arith in
    let second : get_or c.args.bytes.now 1 0 ≡ bracket = omega arith in
    elim c.match-mark_of_byte.branch [
      | in-Some w ↦ rw w.mark-is
          (begun_marked w.in-Some.mark c.args.bytes.now c.in-27.len_at_least first second w.in-Some.ensures)
      | in-None w ↦ rw w.mark-is (begun_unmarked c.args.bytes.now c.in-27.len_at_least first second)
    ]

pub returns-in-Ok : goal.returns-in-Ok
returns-in-Ok c =
    let letter = c.in_ok-letter.letter in
    let mark = c.match-mark_of_byte.mark.0 in
    record {
      front = rw (c.new.ensures.kind, c.new.ensures.length)
          (means_token mark c.read_members.new.numbers.items c.args.bytes.now letter.byte letter.end
          (shown_kind c.in-Ok.kind) c.in_ok-letter.ensures.front c.in-Ok.ensures);
      starts = c.new.ensures.start;
    }
