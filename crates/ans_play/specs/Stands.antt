-- What a player says of the bytes that it was fed.
use Rattle.std.specs.Prelude.{◌≡◌, ℕ, ◌+◌, ◌≤◌, List, [], ◌++◌, length, take, Some, None, Result, Err, IsOk, IfOk}
use Rattle.std.specs.Prelude.{IfErr, OnOk, MatchResult}
use Rattle.ans_model.specs.Sequence.TokenKind.{TokenKind}
use Rattle.ans_model.specs.Screen.State.{Size, IsSize, IsWellFormed}
use Rattle.ans_model.specs.Screen.Step.{final}
use Rattle.ans_model.specs.Screen.StartClass.{low_start, high_start}
use Rattle.ans_model.specs.Verdict.TokenFault.{FromEvery, IsClean}
use Rattle.ans_model.specs.Verdict.FirstFault.{IsFirstFault}
use Rattle.ans_model.specs.Verdict.LastFault.{IsLastFault}
use Rattle.ans_model.specs.Verdict.Good.{Picture, GoodWith, IsGood}
use Rattle.ans_model.specs.declared.start.Start.{Start}
use Rattle.ans_model.specs.declared.fault.Fault.{Fault}
use Rattle.ans_tokens.specs.Glyphs.{IsBetweenTokens, scanner_after}
use Rattle.ans_tokens.specs.ScannerView.{ScannerView}
use Rattle.ans_tokens.specs.ReadSoFar.{ReadSoFar}
use Rattle.ans_play.specs.HalfState.{HalfState, Describes}
use Rattle.ans_play.specs.Hull.{hull}
use Rattle.ans_play.specs.PlayView.{PlayView}
use Rattle.ans_play.specs.PlayerView.{PlayerView}

-- What is known of a state is all that is so after these tokens from every start: it describes each play, and is the
-- hull of the plays from the low and the high start.
pub record IsKnownAfter (z : Size) (class : Start) (tokens : List TokenKind) (h : HalfState) : Type 0 where
  pub describes : FromEvery z class (λ s. Describes h (final z s tokens))
  pub is_hull : h ≡ hull (final z (low_start z class) tokens) (final z (high_start z class) tokens)
  pub well_formed : FromEvery z class (λ s. IsWellFormed z (final z s tokens))

-- The tokens read so far are clean, and the half-known state is what is known after them.
pub record IsPlayed (z : Size) (class : Start) (bytes : List ℕ) (scanner : ScannerView) (h : HalfState) : Type 0 where
  pub size : IsSize z
  pub so_far : ReadSoFar bytes scanner
  pub clean : IsClean z class so_far.tokens
  pub known : IsKnownAfter z class so_far.tokens h

-- A player without a fault is where the bytes fed have brought it. One with a fault has their first.
pub record Stands (p : PlayerView) (bytes : List ℕ) : Type 0 where
  pub fed : p.fault ≡ None → p.fed ≡ length bytes
  pub played : p.fault ≡ None → IsPlayed p.size p.start bytes p.scanner p.state
  pub faulted : (f : Fault) → p.fault ≡ Some f → IsFirstFault p.size p.start bytes f

-- a player that is fed nothing yet
pub record IsNew (p : PlayerView) (z : Size) (from : Start) : Type 0 where
  pub size : p.size ≡ z
  pub start : p.start ≡ from
  pub fed : p.fed ≡ 0
  pub fault : p.fault ≡ None

-- the size and the start stay
pub record SamePlay (old new : PlayerView) : Type 0 where
  pub size : new.size ≡ old.size
  pub start : new.start ≡ old.start

-- without a fault before and after, this many more bytes were fed
pub record IsFed (old new : PlayerView) (count : ℕ) : Type 0 where
  pub no_fault : old.fault ≡ None
  pub none : new.fault ≡ None
  pub fed : new.fed ≡ old.fed + count

-- the fault is kept, and no more bytes count as fed
pub record IsStopped (old new : PlayerView) (f : Fault) : Type 0 where
  pub fault : new.fault ≡ Some f
  pub fed : new.fed ≡ old.fed

-- a player with a fault returns it again, and does not change
pub record Repeats (old new : PlayerView) (result : Result (Unit {0}) Fault) (f : Fault) : Type 0 where
  pub again : result ≡ Err f
  pub unchanged : new ≡ old

-- After the bytes s a piece is fed: the player is where all of them bring it, an error is their first fault, and
-- without one they have none.
pub record Feeds (old : PlayerView) (s piece : List ℕ) (new : PlayerView)
    (result : Result (Unit {0}) Fault) : Type 0 where
  pub stands : Stands new (s ++ piece)
  pub first : IfErr result (IsFirstFault old.size old.start (s ++ piece))
  pub none : OnOk result ((f : Fault) → ¬ IsFirstFault old.size old.start (s ++ piece) f)

-- The bytes s end here: they are good with the picture returned, a fault that no feed returned is their last, and good
-- bytes have none.
pub record Finishes (p : PlayerView) (s : List ℕ) (result : Result Picture Fault) : Type 0 where
  pub good : IfOk result (GoodWith p.size p.start s)
  pub last : p.fault ≡ None → IfErr result (IsLastFault p.size p.start s)
  pub exact : IsGood p.size p.start s → IsOk result

-- what `finish` answers after the bytes s: an earlier fault again, and else how they end
pub record EndsAs (p : PlayerView) (s : List ℕ) (result : Result Picture Fault) : Type 0 where
  pub repeats : (f : Fault) → p.fault ≡ Some f → result ≡ Err f
  pub finished : Finishes p s result

-- Whatever bytes are played, they are played with these after them.
pub record GoesOn (old : PlayView) (bytes : List ℕ) (new : PlayView) : Type 0 where
  pub size : new.size ≡ old.size
  pub offset : new.scanner.offset ≡ old.scanner.offset + length bytes
  pub played : (class : Start) (s : List ℕ) → IsPlayed old.size class s old.scanner old.state
      → IsPlayed old.size class (s ++ bytes) new.scanner new.state

-- The bytes are whole tokens, and are played before the scanner is taken over them: wherever it is between two tokens,
-- the play has gone on over them once the scanner has.
pub record PlaysWholeTokens (old : PlayView) (bytes : List ℕ) (new : PlayView) : Type 0 where
  pub scanner : new.scanner ≡ old.scanner
  pub played : (s : ScannerView) → IsBetweenTokens s
      → GoesOn (record old { scanner = s }) bytes (record new { scanner = scanner_after s (length bytes) })

-- some of the first bytes, and not more than all, are played
pub record PlaysFront (old : PlayView) (bytes : List ℕ) (new : PlayView) (count : ℕ) : Type 0 where
  pub some : 1 ≤ count
  pub within : count ≤ length bytes
  pub played : GoesOn old (take count bytes) new

-- whatever bytes are played, with these after them the fault is the first
abbrev pub IsFirstAfter : PlayView → List ℕ → Fault → Type 0
IsFirstAfter old bytes fault =
    (class : Start) (s : List ℕ) → IsPlayed old.size class s old.scanner old.state →
    IsFirstFault old.size class (s ++ bytes) fault

-- the play stops at the first fault of these bytes after it, and keeps its size
abbrev pub StopsAt : PlayView → List ℕ → PlayView → Fault → Type 0
StopsAt old bytes new fault = (new.size ≡ old.size) × IsFirstAfter old bytes fault

-- whatever bytes are played, they are good with the picture, or have the last fault
abbrev pub EndsPlay : PlayView → Result Picture Fault → Type 0
EndsPlay p result = (class : Start) (s : List ℕ) → IsPlayed p.size class s p.scanner p.state
    → MatchResult result (GoodWith p.size class s) (IsLastFault p.size class s)

-- a play of no bytes yet, of this size, from the starts of a class
pub record IsNewPlay (p : PlayView) (z : Size) (class : Start) : Type 0 where
  pub size : p.size ≡ z
  pub played : IsPlayed z class [] p.scanner p.state
