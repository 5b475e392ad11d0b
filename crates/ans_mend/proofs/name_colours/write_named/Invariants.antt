use Rattle.std.proofs.Common.{◌≡◌, ◌≤◌, ◌-◌, ℕ, List, length, take, drop}
use Rattle.ans_model.specs.Sequence.TokenKind.{TokenKind}
use Rattle.ans_model.specs.Sequence.Reads.{ReadsAs}
use Rattle.ans_players.specs.Situations.{spelled}
use Rattle.ans_mend.specs.NamedColours.{named_content}
use Rattle.ans_mend.proofs.NamedWriting.{GoesOn}
use Rattle.ans_mend.proofs.name_colours.write_named.Given as goal

-- What is written so far, and what is left with its colours named, is the whole with its colours named.
abbrev pub invariant-sequences : goal.invariant-sequences
invariant-sequences l = record {
  same_length : length l.memory ≡ length l.fn.memory;
  low : l.gap ≤ l.read;
  order : l.read ≤ l.end;
  left : drop l.read l.memory ≡ drop l.read l.fn.memory;
  written : l.written ≤ l.read;
  goes_on : (tokens : List TokenKind) (texts : List (List ℕ))
      → ReadsAs (take (l.end - l.gap) (drop l.gap l.fn.memory)) tokens texts
      → GoesOn l.fn.memory l.memory l.end l.written l.read (named_content (spelled tokens texts));
}

abbrev pub decreases-sequences : goal.decreases-sequences
decreases-sequences l = l.end - l.read
