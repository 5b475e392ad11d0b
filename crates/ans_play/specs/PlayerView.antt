-- A player, as contracts see it.
use Rattle.std.specs.Prelude.{◌≡◌, ℕ, ◌≤◌, Option, None, IfSome}
use Rattle.ans_model.specs.Bytes.{longest_file}
use Rattle.ans_model.specs.Screen.State.{Size}
use Rattle.ans_model.specs.declared.start.Start.{Start}
use Rattle.ans_model.specs.declared.fault.Fault.{Fault}
use Rattle.ans_tokens.specs.ScannerView.{ScannerView}
use Rattle.ans_play.specs.HalfState.{HalfState}
use Rattle.ans_play.specs.PlayView.{PlayView, play_view}

-- the stated size, the class of starts, how many bytes were fed, the fault once there is one, the scanner,
-- and what is known of the state
pub record PlayerView : Type 0 where
  pub size : Size
  pub start : Start
  pub fed : ℕ
  pub fault : Option Fault
  pub scanner : ScannerView
  pub state : HalfState

-- the player of a play
abbrev pub player_view : Start → ℕ → Option Fault → PlayView → PlayerView
player_view start fed fault play = record {
  size = play.size;
  start = start;
  fed = fed;
  fault = fault;
  scanner = play.scanner;
  state = play.state;
}

-- the play of a player
abbrev pub play_of : PlayerView → PlayView
play_of p = play_view p.size p.scanner p.state

-- without a fault the scanner has taken the bytes that were fed; these, and the offset of a fault, are within the limit
-- of a file
pub record IsPlayerView (p : PlayerView) : Type 0 where
  pub scanned : p.fault ≡ None → p.scanner.offset ≡ p.fed
  pub in_limit : p.fed ≤ longest_file
  pub fault_in_limit : IfSome p.fault (λ fault. fault.offset ≤ longest_file)
