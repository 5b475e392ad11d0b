use Rattle.std.proofs.Common.{◌≡◌, ◌+◌, true, List, ℕ, refl, sym, ◌∙◌, arith, get_or}
use Rattle.std.specs.Char.{is_ascii_alphabetic}
use Rattle.ans_tokens.proofs.OmittedMembers.{omits_more, omits_on}
use Rattle.ans_tokens.proofs.WholeSequences.{number_from, member_at, letter_at}
use Rattle.ans_tokens.proofs.whole.read_members.Goals as goal

pub loop-preserved : goal.loop-preserved
loop-preserved c =
    let bytes : List ℕ = c.args.bytes.now in
    let stop : ℕ = c.loop.at + c.in_ok-value.digits in
    let kept = c.loop.invariant.kept (omega arith) in
    let read = number_from c.args.mark c.loop.numbers.items bytes c.in_ok-value.value c.in_ok-value.digits
    c.loop.at c.loop.invariant.within kept c.in_ok-value.ensures in
    record {
      within = omega (arith, read.1);
      counted = omega arith;
      kept = λ room. rw c.push.ensures.items
          (member_at c.args.mark c.loop.numbers.items bytes c.in_ok-value.value c.in_ok-value.digits
          stop read.0 read.1 c.if-byte-eq59.true (omega arith));
      omits = λ opens. omits_on bytes c.loop.at c.in_ok-value.value c.in_ok-value.digits c.loop.omits
          (c.loop.invariant.omits opens) c.in_ok-value.ensures (rw c.if-byte-eq59.true refl) (omega (arith, read.1)) _
          c.if-byte-eq59.true refl;
    }

pub returns-in-loop : goal.returns-in-loop
returns-in-loop c =
    let bytes : List ℕ = c.args.bytes.now in
    let stop : ℕ = c.loop.at + c.in_ok-value.digits in
    let letter : is_ascii_alphabetic (get_or bytes stop 0) ≡ true =
    sym c.is_ascii_alphabetic.ensures.value ∙ c.if-not-is_ascii_alphabetic.false in
    let kept = c.loop.invariant.kept (omega arith) in
    let read = number_from c.args.mark c.loop.numbers.items bytes c.in_ok-value.value c.in_ok-value.digits
    c.loop.at c.loop.invariant.within kept c.in_ok-value.ensures in
    record {
      front = letter_at c.args.mark c.loop.numbers.items c.add_last.new.numbers.items bytes c.in_ok-value.value
          c.in_ok-value.digits stop read.0 c.add_last.ensures.none c.add_last.ensures.one read.1 letter;
      omits = λ opens is. sym (omits_more bytes c.loop.at c.in_ok-value.value c.in_ok-value.digits c.loop.omits
          (c.loop.invariant.omits opens) c.in_ok-value.ensures (rw is refl) (omega (arith, read.1)));
    }
