-- The comments that are before a record, and how many it counts.
use Rattle.std.specs.Prelude.{ℕ, zero, suc, ◌+◌, ◌-◌, ◌*◌, Bool, ◌&&◌, nat_le, List, [], ◌∷◌, ◌++◌, length, take, drop}
use Rattle.std.specs.Prelude.{bytes_eq, codes, Option, None, Some, if◌then◌else◌}
use Rattle.ans_model.specs.File.Record.{comment_count}
use Rattle.ans_model.specs.File.Refusals.{has_record}
use Rattle.ans_sauce.specs.Fields.{overwritten, with_record}
use Rattle.ans_sauce.specs.Found.{front_in, record_in}
use Rattle.ans_sauce.specs.declared.writing.Reset.{Reset}

-- a block of this many comments ends the bytes before the record
abbrev pub is_block : List ℕ → ℕ → Bool
is_block front number =
    nat_le (5 + 64 * number) (length front)
    && bytes_eq (take 5 (drop (length front - (5 + 64 * number)) front)) (codes "COMNT")

-- of which numbers of comments a block does: of `count` numbers, from this one on
abbrev pub blocks_from : List ℕ → ℕ → ℕ → List ℕ
blocks_from front number zero = []
blocks_from front number (suc count) =
    (if is_block front number then number ∷ [] else []) ++ blocks_from front (number + 1) count

-- a record counts at most 255
unfoldable pub blocks : List ℕ → List ℕ
blocks front = blocks_from front 1 255

-- How many the record is to count: those of the only block, or none if there is no block. If there are several, the
-- number stays.
abbrev pub comments_for : ℕ → List ℕ → ℕ
comments_for count [] = 0
comments_for count (number ∷ []) = number
comments_for count (number ∷ other ∷ more) = count

abbrev pub comments_in : List ℕ → ℕ
comments_in file = comments_for (comment_count (record_in file)) (blocks (front_in file))

-- Comments
abbrev pub with_comments : ℕ → List ℕ → List ℕ
with_comments count record_bytes = overwritten 104 (count ∷ []) record_bytes

-- the file whose record counts the comments that are there, if it has a record
abbrev pub recounted : List ℕ → List ℕ
recounted file =
    if has_record file then with_record (with_comments (comments_in file) (record_in file)) file else file

-- how many it counted, and counts, if there is a record
abbrev pub comments_set : List ℕ → Option Reset
comments_set file =
    if has_record file then Some (record { was = comment_count (record_in file); is = comments_in file }) else None
