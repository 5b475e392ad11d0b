-- What the walk for hints and kinds together has found so far. Only private contracts cite it.
use Rattle.std.specs.Prelude.{◌≡◌, ℕ, Bool}
use Rattle.ans_tokens.specs.Walk.{Front}
use Rattle.ans_kinds.specs.KindsWalked.{AreFew, HasFoundKinds}
use Rattle.ans_hints.specs.Walks.{HasWalked, IsAt, StaysInRow}
use Rattle.ans_kinds.specs.declared.sync.Sync.TheVariants.{InSync}
use Rattle.ans_kinds.specs.declared.kinds.KindsWalk.{KindsWalk}
use Rattle.ans_hints.specs.declared.survey.Survey.{Survey}

-- the walk over kinds that it does with the pen of the walk for hints
abbrev pub kinds_walk_of : Survey → KindsWalk
kinds_walk_of survey = record {
  content = survey.content;
  size = survey.walk.size;
  pen = survey.walk.pen;
  sync = survey.sync;
  names = survey.names;
  used = survey.used;
  moves_rows = survey.moves_rows;
}

-- over the front the first has become the other: in it each of the two walks has gone over the front
pub record HasSurveyed (first : Survey) (front : Front) (goes_on : Bool) (now : Survey) : Type 0 where
  pub hints : HasWalked first.walk front goes_on now.walk
  pub kinds : HasFoundKinds (kinds_walk_of first) front goes_on (kinds_walk_of now)

-- it may be handed a token at this offset
pub record IsReadyForBoth (survey : Survey) (offset : ℕ) : Type 0 where
  pub at : IsAt survey.walk offset
  pub few : AreFew survey.used offset

-- players are in sync, this many bytes that are printed next stay in their row, and none is printed over another
pub record StaysForBoth (survey : Survey) (count : ℕ) : Type 0 where
  pub in_sync : survey.sync ≡ InSync
  pub stays : StaysInRow survey.walk count
