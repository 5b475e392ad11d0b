use Rattle.std.proofs.Common.{◌≡◌, [], arith, ◌-◌, false, true, refl, sym, ◌∙◌, ap, subst, map}
use Rattle.std.specs.List.{list_any}
use Rattle.std.specs.Char.{is_ascii_digit}
use Rattle.ans_model.specs.Sequence.Spelling.{is_quote}
use Rattle.ans_model.specs.Sequence.Meaning.{colour_number, is_quoted}
use Rattle.ans_model.specs.Inside.OpenPart.{Current, Fresh, InNumber, InString, may_follow}
use Rattle.ans_model.proofs.AfterPart.{refuses_byte}
use Rattle.ans_tokens.specs.ScannerView.{KeepsCurrent}
use Rattle.ans_tokens.specs.KeptMember.{kept_member}
use Rattle.ans_tokens.proofs.ScannerSteps.{with_current, fresh_digit, fresh_quote, quote_is, quote_not, marked}
use Rattle.ans_tokens.proofs.PartLemmas.{keeps_current}
use Rattle.ans_tokens.proofs.unfinished.Unfinished.begin.Goals as goal

pub returns-then-is_ascii_digit : goal.returns-then-is_ascii_digit
returns-then-is_ascii_digit c part y state spelled =
    let digit : is_ascii_digit c.args.byte ≡ true =
    sym c.is_ascii_digit.ensures.value ∙ c.if-is_ascii_digit.true in
    let number : Current = InNumber (c.args.byte - 48) in (
      with_current part number,
      keeps_current c.args.self.now part _ number state refl,
      fresh_digit part y c.args.byte spelled (c.requires part state) digit (omega arith),
    )

pub returns-then-byte-eq34 : goal.returns-then-byte-eq34
returns-then-byte-eq34 c part y state spelled =
    let quote : is_quote c.args.byte ≡ true = quote_is c.args.byte c.then-byte-eq34.either in
    let unclosed : Current = InString c.args.byte [] in (
      with_current part unclosed,
      keeps_current c.args.self.now part _ unclosed state ([], refl),
      fresh_quote part y c.args.byte spelled (c.requires part state) quote,
    )

pub returns-in-Some : goal.returns-in-Some
returns-in-Some c part y state spelled =
    let at = c.in-Some.ensures part state in
    let fresh : part.current ≡ Fresh = c.requires part state in (
      record { mark = c.in-Some.mark; done = []; current = Fresh },
      record {
        mark_is = refl;
        numbers_are = ap (map colour_number) (sym at.1) ∙ state.numbers_are;
        quoted_is = ap (list_any is_quoted) (sym at.1) ∙ state.quoted_is;
        current_is =
            subst (λ (v : Current). KeepsCurrent (kept_member c.args.self.now.current) v) fresh state.current_is;
      },
      marked part y c.in-Some.mark c.args.byte spelled at.0 at.1 fresh at.2,
    )

pub returns : goal.returns
returns c part y state spelled =
    let fresh : part.current ≡ Fresh = c.requires part state in
    let digit : is_ascii_digit c.args.byte ≡ false =
    sym c.is_ascii_digit.ensures.value ∙ c.if-is_ascii_digit.false in
    let quote : is_quote c.args.byte ≡ false = quote_not c.args.byte c.if-byte-eq34.false c.if-byte-eq39.false in
    c.stop.ensures part y state spelled (λ no_stop.
    let none : may_follow part.current c.args.byte ≡ false = rw (fresh, no_stop, digit, quote) refl in
    refuses_byte part y c.args.byte spelled.loose none (λ mark done current. c.in_default.ensures part state mark done))
