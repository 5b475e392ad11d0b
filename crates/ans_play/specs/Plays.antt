-- What a play does at one token.
use Rattle.std.specs.Prelude.{◌≡◌, ℕ, ◌+◌, List, take, Some, None, Result, Ok, Err, MatchResult, false}
use Rattle.ans_tokens.specs.Glyphs.{IsGlyphFront}
use Rattle.ans_model.specs.Sequence.TokenKind.{TokenKind, Glyph}
use Rattle.ans_model.specs.declared.mark.Mark.TheVariants.{Unmarked}
use Rattle.ans_model.specs.Sequence.Meaning.{meaning}
use Rattle.ans_model.specs.declared.fault.Cause.{Cause}
use Rattle.ans_model.specs.declared.fault.Fault.{Fault}
use Rattle.ans_model.specs.Inside.ShownKind.{shown_kind}
use Rattle.ans_tokens.specs.PlainSequence.{plain_sequence}
use Rattle.ans_tokens.specs.Token.{kind_of, start_of}
use Rattle.ans_tokens.specs.declared.token.Token.{Token}
use Rattle.ans_play.specs.HalfStep.{half_step}
use Rattle.ans_play.specs.HalfFault.{half_fault}
use Rattle.ans_play.specs.PlayView.{PlayView}

-- the half step of a token is made
abbrev pub after_token : PlayView → TokenKind → PlayView
after_token p t = record p { state = half_step p.size p.state t }

-- the token shows no fault and its half step is made, or it shows this fault and nothing changes
abbrev pub Plays : PlayView → PlayView → TokenKind → Result (Unit {0}) Cause → Type 0
Plays old new t result = MatchResult result
    (λ _. (half_fault old.size old.state t ≡ None) × (new ≡ after_token old t))
    (λ cause. (half_fault old.size old.state t ≡ Some cause) × (new ≡ old))

-- The token shows no fault and its half step is made, or it shows the fault, which is at the token's first byte, and
-- nothing changes.
abbrev pub PlaysToken : PlayView → PlayView → Token → Result (Unit {0}) Fault → Type 0
PlaysToken old new token result =
    let t = shown_kind (kind_of token) in
    MatchResult result
    (λ _. (half_fault old.size old.state t ≡ None) × (new ≡ after_token old t))
    (λ fault. (half_fault old.size old.state t ≡ Some fault.cause) × (fault.offset ≡ start_of token) × (new ≡ old))

-- the meaning is a token, which shows no fault, and its half step is made
abbrev pub PlaysMeant : PlayView → PlayView → Result TokenKind Cause → Type 0
PlaysMeant old new (Ok t) = (half_fault old.size old.state t ≡ None) × (new ≡ after_token old t)
PlaysMeant old new (Err cause) = ⊥

-- the sequence of these numbers and this letter, without a mark, is played
abbrev pub PlaysLetter : PlayView → PlayView → ℕ → List ℕ → Type 0
PlaysLetter old new letter numbers = PlaysMeant old new (meaning (plain_sequence Unmarked numbers false letter))

-- This many columns are between the cursor and its row's last one if a glyph is printed, and none if it is refused.
pub record AreFree (p : PlayView) (columns : ℕ) : Type 0 where
  pub printed : (byte : ℕ) → half_fault p.size p.state (Glyph byte) ≡ None →
      p.state.cursor.low.column + columns + 1 ≡ p.size.width
  pub refused : (byte : ℕ) (cause : Cause) → half_fault p.size p.state (Glyph byte) ≡ Some cause → columns ≡ 0

-- A run is as long as it can be: all glyphs that the bytes begin with, up to the last column.
abbrev pub IsLongestRun : PlayView → List ℕ → ℕ → Type 0
IsLongestRun p bytes count = (columns : ℕ) → AreFree p columns → IsGlyphFront (take columns bytes) count
