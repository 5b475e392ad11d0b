-- What a walk hands its walker. Only private contracts cite it.
use Rattle.std.specs.Prelude.{ℕ, ◌+◌, ◌-◌, ◌<◌, ◌≤◌, Bool, true, List, length, take, drop, get_or}
use Rattle.ans_model.specs.Bytes.{IsByte, longest_file}
use Rattle.ans_tokens.specs.Walk.{Front, Walks}
use Rattle.ans_tokens.specs.declared.handing.Here.{Here}
use Rattle.ans_tokens.specs.declared.handing.Step.{Step}

-- the place is in the content
pub record IsPlace (here : Here) : Type 0 where
  pub bytes : (k : ℕ) → k < length here.content.now → IsByte (get_or here.content.now k 0)
  pub limit : length here.content.now ≤ longest_file
  pub end : here.end ≤ length here.content.now
  pub within : here.at ≤ here.end

-- the bytes from it to the end of the walk
abbrev pub bytes_left : Here → List ℕ
bytes_left here = take (here.end - here.at) (drop here.at here.content.now)

-- the walker has been over the tokens before an offset, and goes on there or stops
pub record StandsAt {W : Type 0} (walked : W → Front → W → Bool → Type 0) (ready : W → ℕ → Type 0) (content : List ℕ)
    (end : ℕ) (first : W) (at : ℕ) (now : W) (goes_on : Bool) : Type 0 where
  pub within : at ≤ end
  pub can_go : ready now at
  pub so_far : Walks walked content end (drop at (take end content)) first now goes_on

-- A walker that has been over the tokens before the place has been over what was handed to it too, which is some bytes.
pub record Hands {W : Type 0} (walked : W → Front → W → Bool → Type 0) (ready : W → ℕ → Type 0) (here : Here)
    (old new : W) (step : Step) : Type 0 where
  pub some : 0 < step.length
  pub over : (first : W)
      → Walks walked here.content.now here.end (drop here.at (take here.end here.content.now)) first old true
      → StandsAt walked ready here.content.now here.end first (here.at + step.length) new step.goes_on
