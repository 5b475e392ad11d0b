use Rattle.std.proofs.Common.{◌≡◌, ◌≤◌, take, IsTrue}
use Rattle.std.specs.List.{list_all}
use Rattle.std.specs.Char.{is_ascii_digit}
use Rattle.std.specs.Str.Parse.{digits_value}
use Rattle.ans_model.specs.Bytes.{largest_number}
use Rattle.ans_tokens.proofs.whole.read_digits.Given as goal

-- the bytes so far are digits with this value
abbrev pub invariant-loop-i : goal.invariant-loop-i
invariant-loop-i l = record {
  digits : IsTrue (list_all is_ascii_digit (take l.i l.bytes));
  value_is : digits_value 10 (take l.i l.bytes) ≡ l.value;
  in_limit : l.value ≤ largest_number;
}
