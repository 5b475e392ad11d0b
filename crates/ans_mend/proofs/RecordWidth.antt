-- A record of which the width is written over.
use Rattle.std.proofs.Common.{◌≡◌, ℕ, ◌+◌, ◌-◌, ◌≤◌, List, length}
use Rattle.ans_sauce.specs.Found.{record_in}
use Rattle.ans_sauce.specs.Fields.{overwritten, with_record}
use Rattle.ans_sauce.proofs.Overwriting.{of_record}

pub of_width : (file bytes : List ℕ) (offset : ℕ) → 128 ≤ length file
    → overwritten (length file - 128 + offset) bytes file ≡ with_record (overwritten offset bytes (record_in file)) file
of_width file bytes offset long = of_record file bytes offset long
