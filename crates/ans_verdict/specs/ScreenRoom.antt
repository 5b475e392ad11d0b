-- What a play takes of the room for its screen.
use Rattle.std.specs.Prelude.{ℕ, List, IsOk, IsErr, Result}
use Rattle.ans_model.specs.File.Record.{stated_size}
use Rattle.ans_model.specs.File.Layout.{FileParts}
use Rattle.ans_model.specs.File.Refusals.{Accepts}
use Rattle.ans_model.specs.Screen.State.{Size}

-- There is no less room for a play of this size than before.
pub record KeepsRoom {S : Type 0} (has_room may_lack : S → Size → Type 0) (z : Size) (old new : S) : Type 0 where
  pub kept : has_room old z → has_room new z
  pub lacked : may_lack new z → may_lack old z

-- There is an answer if there surely is room, and none only if there may be no room.
pub record TakesRoom {S T E : Type 0} (has_room may_lack : S → Size → Type 0) (z : Size) (old new : S)
    (result : Result T E) : Type 0 where
  pub keeps : KeepsRoom has_room may_lack z old new
  pub room : has_room old z → IsOk result
  pub want : IsErr result → may_lack old z

-- There is an answer on a file if there surely is room for a play of the size that its record states, and none only if
-- there may be no room.
pub record AnswersWithin {S T E : Type 0} (has_room may_lack : S → Size → Type 0) (file : List ℕ) (screens : S)
    (result : Result T E) : Type 0 where
  pub room : (apart : FileParts) → Accepts file apart → has_room screens (stated_size apart.record_bytes) → IsOk result
  pub want : IsErr result → (apart : FileParts) × Accepts file apart × may_lack screens (stated_size apart.record_bytes)
