-- What a command has put, and what a run has done by it.
use Rattle.std.proofs.Common.{◌≡◌, ◌↔◌, ◌+◌, ◌<◌, ◌≤◌, ℕ, Bool, true, false, List, length, Option, Some, None, Result}
use Rattle.std.proofs.Common.{Ok, Err, refl, sym, ◌∙◌, true≢false}
use Rattle.std.specs.Prelude.{IfSome, IsErr, IsErrOf, IsTrue}
use Rattle.ans_model.specs.Bytes.{longest_file}
use Rattle.ans_table.specs.declared.finding.Unread.{Unread}
use Rattle.ans_table.specs.declared.finding.Unread.TheVariants as why
use Rattle.ans_write.specs.Puts.{Puts}
use Rattle.ans_write.specs.Tried.{call_count, has_failed, inner_of}
use Rattle.ans_write.specs.Writes.{Wrote, WrotePrefix}
use Rattle.ans_write.specs.declared.outbox.Outbox.{Outbox}
use Rattle.ans_write.specs.declared.tried.Tried.{Tried}
use Rattle.ans_check.specs.Reported.{IsPut}
use Rattle.ans_check.specs.Run.{HasRead}
use Rattle.ans_check.specs.Served.{ServesAs}
use Rattle.ans_check.specs.declared.errors.RunError.{RunError}
use Rattle.ans_check.specs.declared.errors.RunError.TheVariants as error

-- a text that is right of the answer was put
pub is_put : {W A : Type 0} {contents : W → Option (List ℕ)} {tells : A → List ℕ → Type 0} {old new : Outbox W}
    (answer : A) (text : List ℕ) → tells answer text → Puts contents old new text
    → IsPut contents tells old new answer
is_put answer text right puts =
    record { told = answer; text = text; right = right; puts = puts; answers = λ works. refl }

-- a device has not failed where the next state of it has not
pub works_before : (before after : Bool) → (before ≡ true → after ≡ true) → after ≡ false → before ≡ false
works_before false after h works = refl
works_before true after h works = absurd (true≢false (sym (h refl) ∙ works))

-- a device works where what was written on it last did not fail
pub finished_works : {T E : Type 0} (failed : Bool) (r : Result T E) (v : T) → IsErr r ↔ IsTrue failed → r ≡ Ok v
    → failed ≡ false
finished_works false r v device is = refl
finished_works true (Ok w) v device is = absurd (true≢false (sym (device.1 refl)))
finished_works true (Err e) v device is = absurd (cc)

-- and has failed where it did
pub finished_fails : {T E : Type 0} (failed : Bool) (r : Result T E) (e : E) → IsErr r ↔ IsTrue failed → r ≡ Err e
    → failed ≡ true
finished_fails true r e device is = refl
finished_fails false (Err x) e device is = absurd (true≢false (sym (device.0 refl)))
finished_fails false (Ok v) e device is = absurd (cc)

abbrev read_of : {V : Type 0} → V → Result V Unread
read_of v = Ok v

module _ {R W A V : Type 0} (remaining : R → Option (List ℕ)) (contents : W → Option (List ℕ))
    (tells : List ℕ → A → List ℕ → Type 0) (reader reader_after : Tried R) (writer writer_after : Tried W)
    (file : List ℕ) (v : V)
    (whole : HasRead (remaining (inner_of reader)) (remaining (inner_of reader_after)) file)
    (reads : IsErrOf (read_of v) why.ReadFailed ↔ IsTrue (has_failed reader_after))
    (long : IfSome (remaining (inner_of reader)) (λ xs. IfSome (remaining (inner_of reader_after)) (λ ys.
    IsErrOf (read_of v) why.TooLong ↔ (longest_file + length ys < length xs))))
    (calls : call_count reader_after ≤ call_count reader + (longest_file + 2))
    (answer : A) (text : List ℕ) (told : tells file answer text) where
  never_long : (r : Result A RunError) → (IsErrOf r error.TooLong → ⊥) → (a b : Option (List ℕ))
      → IfSome a (λ xs. IfSome b (λ ys. IsErrOf (read_of v) why.TooLong ↔ (longest_file + length ys < length xs)))
      → IfSome a (λ xs. IfSome b (λ ys. IsErrOf r error.TooLong ↔ (longest_file + length ys < length xs)))
  never_long r other None b h = tt
  never_long r other (Some xs) None h = tt
  never_long r other (Some xs) (Some ys) h = (λ bad. absurd (other bad), λ more. absurd (never (h.1 more)))
    where
      never : IsErrOf (read_of v) why.TooLong → ⊥
      never e = cc

  never_failed : IsTrue (has_failed reader_after) → ⊥
  never_failed failed = go (reads.1 failed)
    where
      go : IsErrOf (read_of v) why.ReadFailed → ⊥
      go e = cc

  -- the whole text was written
  pub served_whole : Wrote contents writer writer_after text → has_failed writer_after ≡ false
      → ServesAs remaining contents tells reader reader_after writer writer_after (Ok answer)
  served_whole wrote works = record {
    ok = (file, text, whole, told, wrote);
    prefix = λ e. absurd (cc);
    unwritten = tt;
    read = (λ e. absurd (cc), λ failed. absurd (never_failed failed));
    write = (λ e. absurd (cc), λ failed. absurd (true≢false (sym failed ∙ works)));
    too_long = never_long (Ok answer) (λ e. cc) _ _ long;
    calls = calls;
  }

  -- a prefix of it was
  pub served_in_part : WrotePrefix contents writer writer_after text → has_failed writer_after ≡ true
      → ServesAs remaining contents tells reader reader_after writer writer_after (Err error.Write)
  served_in_part wrote failed = record {
    ok = tt;
    prefix = λ e. (file, answer, text, whole, told, wrote);
    unwritten = λ other. absurd (other refl);
    read = (λ e. absurd (cc), λ gone. absurd (never_failed gone));
    write = (λ e. failed, λ e. refl);
    too_long = never_long (Err error.Write) (λ e. cc) _ _ long;
    calls = calls;
  }
