use Rattle.std.proofs.Common.{◌≡◌, ℕ, inl, inr, [], ◌∷◌, ◌++◌, arith, ◌+◌, ◌-◌, ◌*◌, false, true, refl, sym, ◌∙◌}
use Rattle.std.specs.Char.{is_ascii_digit}
use Rattle.ans_model.specs.Inside.OpenPart.{Current, SpellsCurrent, InNumber, InString, AfterString, may_follow}
use Rattle.ans_model.proofs.AfterPart.{refuses_byte}
use Rattle.ans_tokens.proofs.ScannerSteps.{with_current, extend, more_digits, too_large, more_text, closed_text}
use Rattle.ans_tokens.proofs.ScannerSteps.{fresh_not_after, fresh_not_number}
use Rattle.ans_tokens.proofs.PartLemmas.{keeps_current}
use Rattle.ans_tokens.proofs.unfinished.Unfinished.advance.Goals as goal

pub returns-then-byte-quote : goal.returns-then-byte-quote
returns-then-byte-quote c part y state spelled =
    let quote : ℕ = c.in-InString.quote in
    let (text, is_text) = rw c.in-InString.is at state.current_is in
    let last : SpellsCurrent (InString quote text) spelled.loose.last = rw is_text at spelled.loose.current in
    let closed : Current = AfterString quote text in (
      with_current part closed,
      keeps_current c.args.self.now part _ closed state (quote, text, refl),
      rw c.if-byte-quote.true (extend part y quote closed spelled (closed_text quote text spelled.loose.last last) tt),
    )

pub returns-else-byte-quote : goal.returns-else-byte-quote
returns-else-byte-quote c part y state spelled =
    let quote : ℕ = c.in-InString.quote in
    let (text, is_text) = rw c.in-InString.is at state.current_is in
    let last : SpellsCurrent (InString quote text) spelled.loose.last = rw is_text at spelled.loose.current in
    let unclosed : Current = InString quote (text ++ c.args.byte ∷ []) in
    let more = more_text quote c.args.byte text spelled.loose.last last c.if-byte-quote.false in (
      with_current part unclosed,
      keeps_current c.args.self.now part _ unclosed state (rw c.in-InString.is (text ++ c.args.byte ∷ [], refl)),
      extend part y c.args.byte unclosed spelled more tt,
    )

pub returns-in-AfterString : goal.returns-in-AfterString
returns-in-AfterString c part y state spelled =
    let (quote, text, is_text) = rw c.in-AfterString.is at state.current_is in
    c.stop.ensures part y state spelled (λ no_stop.
    let none : may_follow part.current c.args.byte ≡ false = rw (is_text, no_stop) refl in
    refuses_byte part y c.args.byte spelled.loose none
    (λ mark done fresh. absurd (fresh_not_after part.current quote text is_text fresh)))

pub returns-then-next : goal.returns-then-next
returns-then-next c part y state spelled =
    let number = rw c.in-InNumber.is at state.current_is in
    let digit : is_ascii_digit c.args.byte ≡ true =
    sym c.is_ascii_digit.ensures.value ∙ c.if-not-is_ascii_digit.false in
    let t = too_large part y c.in-InNumber.value c.args.byte spelled number digit (omega arith) in
    (t.0, inr (inl (t.1, digit, refl)))

pub returns-else-next : goal.returns-else-next
returns-else-next c part y state spelled =
    let number = rw c.in-InNumber.is at state.current_is in
    let digit : is_ascii_digit c.args.byte ≡ true =
    sym c.is_ascii_digit.ensures.value ∙ c.if-not-is_ascii_digit.false in
    let last : SpellsCurrent (InNumber c.in-InNumber.value) spelled.loose.last = rw number at spelled.loose.current in
    let next : Current = InNumber (c.in-InNumber.value * 10 + (c.args.byte - 48)) in
    let more = more_digits c.in-InNumber.value c.args.byte spelled.loose.last last digit in (
      with_current part next,
      keeps_current c.args.self.now part _ next state refl,
      extend part y c.args.byte next spelled more (omega arith),
    )

pub returns-then-not-is_ascii_digit : goal.returns-then-not-is_ascii_digit
returns-then-not-is_ascii_digit c part y state spelled =
    let number = rw c.in-InNumber.is at state.current_is in
    let digit : is_ascii_digit c.args.byte ≡ false =
    sym c.is_ascii_digit.ensures.value ∙ c.if-not-is_ascii_digit.true in
    c.stop-then-not-is_ascii_digit.ensures part y state spelled (λ no_stop.
    let none : may_follow part.current c.args.byte ≡ false = rw (number, no_stop, digit) refl in
    refuses_byte part y c.args.byte spelled.loose none
    (λ mark done fresh. absurd (fresh_not_number part.current c.in-InNumber.value number fresh)))
