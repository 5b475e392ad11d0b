use Rattle.std.proofs.Common.{◌≡◌, ◌++◌, drop, string_bytes}
use Rattle.ans_model.specs.Text.Characters.{shown_bytes}
use Rattle.ans_table.proofs.json_object.shown_value.Given as goal

abbrev pub invariant-loop-byte : goal.invariant-loop-byte
invariant-loop-byte l = string_bytes l.text ++ shown_bytes (drop l.byte-index l.bytes) ≡ shown_bytes l.bytes
