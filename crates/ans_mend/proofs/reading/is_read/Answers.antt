use Rattle.std.proofs.Common.{◌≡◌, ◌∙◌, sym, Bool, true, false, true≢false, ℕ, List, length}
use Rattle.std.specs.Prelude.{Result, Ok, Err}
use Rattle.std.specs.Result.{is_ok}
use Rattle.std.proofs.Math.Seq.{take-length}
use Rattle.ans_model.specs.Sequence.TokenKind.{TokenKind}
use Rattle.ans_model.specs.Sequence.Reads.{ReadsAs}
use Rattle.ans_model.specs.declared.fault.Fault.{Fault}
use Rattle.ans_tokens.specs.Walk.{Front, WalksTo}
use Rattle.ans_tokens.proofs.Walked.{never_refused}
use Rattle.ans_mend.specs.declared.reading.OnlyReading.{OnlyReading}
use Rattle.ans_mend.proofs.reading.is_read.Goals as goal

over : OnlyReading → Front → OnlyReading → Bool → Type 0
over first front now goes_on = goes_on ≡ true

no_reading : (bytes : List ℕ) (first now : OnlyReading) (r : Result Bool Fault)
    → WalksTo over bytes (length bytes) first now r → is_ok r ≡ false → (tokens : List TokenKind)
    (texts : List (List ℕ)) → ¬ ReadsAs bytes tokens texts
no_reading bytes first now (Ok on) h is tokens texts reads = true≢false is
no_reading bytes first now (Err fault) h is tokens texts reads =
    never_refused over bytes (length bytes) first now fault tokens h (rw (take-length bytes) (texts, reads))

pub returns-clause-unread : goal.returns-clause-unread
unfolding over
returns-clause-unread c is =
    no_reading c.args.bytes.now _ c.walk.new.walker c.walk.result c.walk.ensures (sym c.is_ok.ensures.value ∙ is)
