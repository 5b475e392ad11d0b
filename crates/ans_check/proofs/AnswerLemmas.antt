-- What is said of an ending.
use Rattle.std.proofs.Common.{◌≡◌, ℕ, ◌≤◌, Bool, true, false, List, [], ◌∷◌, length, Option, Some, None, Ok, Err}
use Rattle.std.proofs.Common.{arith, refl, sym, true≢false}
use Rattle.std.specs.Prelude.{◌↔◌, Result, IsErr, IsTrue, MatchOption, OnOk, is_some, not, option_map, unwrap_or}
use Rattle.std.proofs.KnownBytes.{Appends-nil}
use Rattle.ans_write.specs.Tried.{has_failed, inner_of}
use Rattle.ans_write.specs.Puts.{HandsOn, Puts, device_failed, device_of, waiting_of}
use Rattle.ans_write.specs.Writes.{AppendsUnless, WritesText}
use Rattle.ans_write.specs.declared.outbox.Outbox.{Outbox}
use Rattle.ans_write.specs.declared.outbox.WriteFault.{WriteFault}
use Rattle.ans_write.proofs.PutsLemmas.{WritesText-finished}
use Rattle.ans_write.specs.declared.tried.Tried.{Tried}
use Rattle.clap.specs.Words.{Text}
use Rattle.ans_check.specs.declared.naming.Naming.{Naming}
use Rattle.std.specs.Global.{Global}
use Rattle.std.proofs.Common.{String, Vec}
use Rattle.ans_options.specs.declared.command.Asked.{Asked}
use Rattle.ans_options.specs.declared.command.Asked.TheVariants as asked
use Rattle.ans_options.specs.declared.command.MendChoice.{MendChoice}
use Rattle.ans_options.specs.declared.command.Writing.{Writing}
use Rattle.ans_check.specs.Answer.{EndsBy, EndsExplained, EndsNamed, EndsServed, EndsWhy, IsAimOf}
use Rattle.ans_check.specs.declared.fates.Goal.{Goal}
use Rattle.ans_check.specs.Said.{Says, Tells, message_of, said_text}
use Rattle.std.specs.declared.io.ErrorKind.{ErrorKind}
use Rattle.ans_report.specs.Message.{message_line}
use Rattle.ans_table.specs.declared.counts.Counts.{Counts}
use Rattle.ans_written.specs.declared.counts.FileCounts.{FileCounts}
use Rattle.ans_mend.specs.declared.outcome.Mended as outcome
use Rattle.ans_fix.specs.declared.without_help.Unhelped.{Unhelped}
use Rattle.ans_redraw.specs.declared.outcome.Redrawn as redrawing
use Rattle.ans_redraw.specs.declared.outcome.Unredrawn.{Unredrawn}
use Rattle.ans_model.specs.declared.mends.Mends.{Mends}
use Rattle.ans_check.specs.Naming.{file_called, first_called}
use Rattle.ans_check.specs.WhyTold.{ReportsTold}
use Rattle.ans_check.specs.declared.errors.RunError.TheVariants as error
use Rattle.ans_options.specs.declared.command.TableChoice.{TableChoice}
use Rattle.ans_check.specs.declared.exit_status.Ending.{Ending}
use Rattle.ans_check.specs.declared.exit_status.Ending.TheVariants.{Run, Help, Usage, UnreadableWords, UnopenedFile}
use Rattle.ans_check.specs.declared.exit_status.Ending.TheVariants.{Table, NamedInput, UnreadNames, Mended, NotMended}
use Rattle.ans_check.specs.declared.exit_status.Ending.TheVariants.{Redrawn, NotRedrawn, Explained, InputAmong}
use Rattle.ans_check.specs.declared.exit_status.Ending.TheVariants.{Filed, Mistaken, ToTerminal, Unsaved}
use Rattle.ans_check.specs.declared.exit_status.Ending.TheVariants.{MayPassCleared}

-- what was written by its result is what was written by whether the device has failed
written_unless : {T E : Type 0} (old new : Option (List ℕ)) (r : Result T E) (failed : Bool) (text : List ℕ)
    → IsErr r ↔ IsTrue failed → WritesText old new r text → AppendsUnless failed old new text
written_unless old new (Ok v) false text device h = h
written_unless old new (Ok v) true text device h = absurd (true≢false (sym (device.1 refl)))
written_unless old new (Err e) false text device h = absurd (true≢false (sym (device.0 refl)))
written_unless old new (Err e) true text device h = h

-- what was put on an empty outbox and written
pub put_out : {E : Type 0} {contents : E → Option (List ℕ)} {a b c : Outbox E} {text : List ℕ} (errors : Tried E)
    (r : Result Unit WriteFault) → device_of a ≡ errors → waiting_of a ≡ [] → Puts contents a b text
    → HandsOn contents b c [] → IsErr r ↔ IsTrue (device_failed c) → OnOk r (waiting_of c ≡ [])
    → Tells contents errors (device_of c) text
put_out {E} {contents} {a} {b} {c} {text} errors r is none put handed device empty =
    written_unless _ _ r (device_failed c) text device
    (WritesText-finished errors r is none put handed device empty)

-- what an ending says is said
pub said : {E : Type 0} (contents : E → Option (List ℕ)) (errors after : Tried E) (naming : Naming) (ending : Ending)
    → has_failed errors ≡ false
    → MatchOption (said_text naming ending) (after ≡ errors) (λ text. Tells contents errors after text)
    → Says contents errors after naming ending
said contents errors after naming Usage works h = ([], rw h (rw works (Appends-nil (contents (inner_of errors)))))
said contents errors after naming Help works h = h
said contents errors after naming (Run answer) works h = h
said contents errors after naming MayPassCleared works h = h
said contents errors after naming UnreadableWords works h = h
said contents errors after naming (UnopenedFile reason) works h = h
said contents errors after naming (Table counts) works h = h
said contents errors after naming (Explained counts) works h = h
said contents errors after naming NamedInput works h = h
said contents errors after naming InputAmong works h = h
said contents errors after naming UnreadNames works h = h
said contents errors after naming (Mistaken mistake) works h = h
said contents errors after naming ToTerminal works h = h
said contents errors after naming (Filed counts) works h = h
said contents errors after naming (Unsaved e) works h = h
said contents errors after naming (Mended mended) works h = h
said contents errors after naming (NotMended asked unhelped) works h = h
said contents errors after naming (Redrawn redrawn) works h = h
said contents errors after naming (NotRedrawn reason) works h = h

-- whether an ending says nothing is the same whatever the input is called
pub says_as : (naming other : Naming) (ending : Ending)
    → is_some (said_text naming ending) ≡ is_some (said_text other ending)
says_as naming other (Run (Ok passed)) = refl
says_as naming other (Run (Err error.Read)) = refl
says_as naming other (Run (Err error.TooLong)) = refl
says_as naming other (Run (Err error.Memory)) = refl
says_as naming other (Run (Err error.Write)) = refl
says_as naming other MayPassCleared = refl
says_as naming other Help = refl
says_as naming other Usage = refl
says_as naming other UnreadableWords = refl
says_as naming other (UnopenedFile reason) = refl
says_as naming other (Table counts) = refl
says_as naming other (Explained counts) = refl
says_as naming other NamedInput = refl
says_as naming other InputAmong = refl
says_as naming other UnreadNames = refl
says_as naming other (Mistaken mistake) = refl
says_as naming other ToTerminal = refl
says_as naming other (Filed counts) = refl
says_as naming other (Unsaved e) = refl
says_as naming other (Mended mended) = refl
says_as naming other (NotMended asked unhelped) = refl
says_as naming other (Redrawn redrawn) = refl
says_as naming other (NotRedrawn reason) = refl

-- where it says nothing, nothing was written
pub said_nothing : {E : Type 0} (contents : E → Option (List ℕ)) (errors : Tried E) (o : Option (List ℕ))
    → not (is_some o) ≡ true → MatchOption o (errors ≡ errors) (λ text. Tells contents errors errors text)
said_nothing contents errors None h = refl
said_nothing contents errors (Some text) h = absurd (cc)

-- where it says something, that was written
pub said_something : {E : Type 0} (contents : E → Option (List ℕ)) (errors after : Tried E) (o : Option (List ℕ))
    → not (is_some o) ≡ false → Tells contents errors after (unwrap_or o [])
    → MatchOption o (after ≡ errors) (λ text. Tells contents errors after text)
said_something contents errors after None h told = absurd (cc)
said_something contents errors after (Some text) h told = told

-- the table of names that the words give
pub ends_by_names : {R W : Type 0} (remaining : R → Option (List ℕ)) (contents : W → Option (List ℕ))
    (is_standard : R → Type 0) (is_file : Text → R → Type 0) (fails : Text → ErrorKind → Type 0) (choice : TableChoice)
    (names : List Text) (output after : Tried W) (ending : Ending) → 1 ≤ length names
    → EndsNamed contents remaining is_file fails choice names output after ending
    → EndsBy remaining contents is_standard is_file fails choice names output after ending
ends_by_names remaining contents is_standard is_file fails choice [] output after ending some h = absurd (omega arith)
ends_by_names remaining contents is_standard is_file fails choice (name ∷ more) output after ending some h = h

-- the table of names on standard input
pub ends_by_input : {R W : Type 0} (remaining : R → Option (List ℕ)) (contents : W → Option (List ℕ))
    (is_standard : R → Type 0) (is_file : Text → R → Type 0) (fails : Text → ErrorKind → Type 0) (choice : TableChoice)
    (names : List Text) (output after : Tried W) (ending : Ending) → length names ≤ 0
    → EndsBy remaining contents is_standard is_file fails choice [] output after ending
    → EndsBy remaining contents is_standard is_file fails choice names output after ending
ends_by_input remaining contents is_standard is_file fails choice [] output after ending none h = h
ends_by_input remaining contents is_standard is_file fails choice (name ∷ more) output after ending none h =
    absurd (omega arith)

-- the answer on one file, or on standard input
pub why_of_one : {R W : Type 0} (remaining : R → Option (List ℕ)) (contents : W → Option (List ℕ))
    (is_file : Text → R → Type 0) (is_standard : R → Type 0) (fails : Text → ErrorKind → Type 0)
    (words names : List Text) (first : Option Text) (output after : Tried W) (ending : Ending)
    → length names ≤ 1 → first ≡ first_called names
    → EndsServed remaining contents is_file is_standard fails (ReportsTold (file_called first)) Run first output after
    ending
    → EndsWhy remaining contents is_file is_standard fails words names output after ending
why_of_one remaining contents is_file is_standard fails words [] first output after ending few is h = rw is at h
why_of_one remaining contents is_file is_standard fails words (name ∷ []) first output after ending few is h =
    rw is at h
why_of_one remaining contents is_file is_standard fails words (name ∷ next ∷ more) first output after ending few is h =
    absurd (omega arith)

-- the answers on several
pub why_of_several : {R W : Type 0} (remaining : R → Option (List ℕ)) (contents : W → Option (List ℕ))
    (is_file : Text → R → Type 0) (is_standard : R → Type 0) (fails : Text → ErrorKind → Type 0)
    (words names : List Text) (output after : Tried W) (ending : Ending) → 2 ≤ length names
    → EndsExplained remaining contents is_file is_standard fails words names output after ending
    → EndsWhy remaining contents is_file is_standard fails words names output after ending
why_of_several remaining contents is_file is_standard fails words [] output after ending many h = absurd (omega arith)
why_of_several remaining contents is_file is_standard fails words (name ∷ []) output after ending many h =
    absurd (omega arith)
why_of_several remaining contents is_file is_standard fails words (name ∷ next ∷ more) output after ending many h = h

-- an ending of which no more is told says its message
pub said_as_message : (naming : Naming) (ending : Ending) → ((counts : Counts) → ending ≡ Table counts → ⊥)
    → ((counts : Counts) → ending ≡ Explained counts → ⊥) → ((counts : FileCounts) → ending ≡ Filed counts → ⊥)
    → ((m : outcome.Mended) → ending ≡ Mended m → ⊥)
    → ((asked : Mends) (unhelped : Unhelped) → ending ≡ NotMended asked unhelped → ⊥)
    → ((r : redrawing.Redrawn) → ending ≡ Redrawn r → ⊥) → ((reason : Unredrawn) → ending ≡ NotRedrawn reason → ⊥)
    → said_text naming ending ≡ option_map message_line (message_of naming ending)
said_as_message naming (Table counts) t e f m n r u = absurd (t counts refl)
said_as_message naming (Explained counts) t e f m n r u = absurd (e counts refl)
said_as_message naming (Mended mended) t e f m n r u = absurd (m mended refl)
said_as_message naming (NotMended asked unhelped) t e f m n r u = absurd (n asked unhelped refl)
said_as_message naming (Redrawn redrawn) t e f m n r u = absurd (r redrawn refl)
said_as_message naming (NotRedrawn reason) t e f m n r u = absurd (u reason refl)
said_as_message naming (Run answer) t e f m n r u = refl
said_as_message naming MayPassCleared t e f m n r u = refl
said_as_message naming Help t e f m n r u = refl
said_as_message naming Usage t e f m n r u = refl
said_as_message naming UnreadableWords t e f m n r u = refl
said_as_message naming (UnopenedFile reason) t e f m n r u = refl
said_as_message naming NamedInput t e f m n r u = refl
said_as_message naming InputAmong t e f m n r u = refl
said_as_message naming UnreadNames t e f m n r u = refl
said_as_message naming (Mistaken mistake) t e f m n r u = refl
said_as_message naming ToTerminal t e f m n r u = refl
said_as_message naming (Unsaved error) t e f m n r u = refl
said_as_message naming (Filed counts) t e f m n r u = absurd (f counts refl)

-- what is asked has no goal but to mend or to redraw
pub aimless : (a : Asked) (goal : Goal) → IsAimOf a (Some goal)
    → ((choice : MendChoice) (writing : Writing) (names : Vec (String Global) Global)
    → a ≡ asked.Mend choice writing names → ⊥)
    → ((writing : Writing) (names : Vec (String Global) Global) → a ≡ asked.Redraw writing names → ⊥) → ⊥
aimless (asked.Mend choice writing names) goal aim mends redraws = mends choice writing names refl
aimless (asked.Redraw writing names) goal aim mends redraws = redraws writing names refl
aimless (asked.One options file) goal aim mends redraws = cc
aimless (asked.Why names) goal aim mends redraws = cc
aimless (asked.Table choice names) goal aim mends redraws = cc
aimless (asked.Mistaken command mistake) goal aim mends redraws = cc
aimless (asked.Meaning topic) goal aim mends redraws = cc
