-- The names of files that an input gives, and the texts of these files.
use Rattle.std.specs.Prelude.{◌≡◌, ◌⊎◌, ℕ, ◌==◌, ◌&&◌, Bool, true, false, not, List, [], ◌∷◌, ◌++◌, All, length, map}
use Rattle.std.specs.Prelude.{Option, Result, Ok, Err, IfOk, MatchBool, if◌then◌else◌}
use Rattle.std.specs.List.{flat_map, slice_split}
use Rattle.std.specs.Io.KnownBytes.{Appends, Consumes, IsAtEnd}
use Rattle.clap.specs.Words.{Text}
use Rattle.ans_table.specs.declared.counts.Counts.{Counts}
use Rattle.ans_table.specs.declared.counts.Outcome.{Outcome}
use Rattle.ans_table.specs.Counting.{counts_of}
use Rattle.ans_write.specs.Tried.{has_failed, inner_of}
use Rattle.ans_write.specs.declared.tried.Tried.{Tried}
use Rattle.ans_check.specs.FileRows.{Told, WritesRows}
use Rattle.ans_check.specs.declared.errors.RunError.{RunError}
use Rattle.ans_check.specs.declared.errors.RunError.TheVariants as error
use Rattle.ans_check.specs.declared.listing.Listed.{Listed}
use Rattle.ans_check.specs.declared.listing.Listing.{Listing}

-- ---- names

-- the byte 00h, which ends a name
abbrev pub ends_name : ℕ → Bool
ends_name b = b == 0x00

-- no byte of these ends a name
abbrev pub IsPlain : List ℕ → Type 0
IsPlain bytes = All (λ b. ends_name b ≡ false) bytes

-- the first name that 00h ends, and what comes after that
pub record IsFirstName (bytes name more : List ℕ) : Type 0 where
  pub parts : bytes ≡ name ++ 0x00 ∷ more
  pub plain : IsPlain name

-- The names by the parts between the bytes 00h. After the last 00h there is one more name, unless nothing
-- comes after it. If the input failed there is none, since it may have been cut off.
abbrev pub named_by : Bool → List Text → List Text
named_by whole [] = []
named_by whole (last ∷ []) = if whole && not (length last == 0) then last ∷ [] else []
named_by whole (name ∷ next ∷ more) = name ∷ named_by whole (next ∷ more)

-- the names in the bytes of an input that was read to its end, or only in part
abbrev pub names_in : Bool → List ℕ → List Text
names_in whole bytes = named_by whole (slice_split ends_name bytes)

-- ---- texts on the way

-- the bytes of a name that is not ended yet
abbrev pub held_of : Listing → List ℕ
held_of listing = listing.held.items

-- what is held is the beginning of one name, and the counts are those of some files
pub record IsSound (listing : Listing) : Type 0 where
  pub plain : IsPlain (held_of listing)
  pub outcomes : List Outcome
  pub counted : listing.counts ≡ counts_of outcomes

-- These bytes were taken in: the texts of the files whose names they end were written, and the files are counted. What
-- comes after the last of these names is held.
pub record TakesIn {W : Type 0} (contents : W → Option (List ℕ)) (tells : Text → Outcome → List ℕ → Type 0)
    (old : Listing) (bytes : List ℕ) (new : Listing) (output output_after : Tried W) : Type 0 where
  pub rows : List Told
  pub each : All (λ row. tells row.name row.outcome row.text) rows
  pub written : Appends (contents (inner_of output)) (contents (inner_of output_after))
      (flat_map (λ row. row.text) rows)
  pub named : (more : List ℕ) → slice_split ends_name (held_of old ++ (bytes ++ more))
      ≡ map (λ row. row.name) rows ++ slice_split ends_name (held_of new ++ more)
  pub counted : (before : List Outcome) → old.counts ≡ counts_of before
      → new.counts ≡ counts_of (before ++ map (λ row. row.outcome) rows)
  pub sound : IsSound new

-- The same; or the writing ended, before or in the text of the file of some name that they end, whatever comes after
-- them.
abbrev pub TakesOrEnds : {W : Type 0} → (W → Option (List ℕ)) → (Text → Outcome → List ℕ → Type 0) → Listing → List ℕ
    → Listing → Tried W → Tried W → Result (Unit {0}) RunError → Type 0
TakesOrEnds contents tells old bytes new output output_after (Ok done) =
    TakesIn contents tells old bytes new output output_after
TakesOrEnds contents tells old bytes new output output_after (Err e) =
    (more : List ℕ)
    → WritesRows contents tells [] (names_in false (held_of old ++ (bytes ++ more))) output output_after (Err e)

-- the byte that ends the last name, if there is one
abbrev pub last_end : List ℕ → List ℕ
last_end held = if length held == 0 then [] else 0x00 ∷ []

-- What may end the texts of files that an input names: a failed write, or want of memory.
abbrev pub MayEndListing : RunError → Type 0
MayEndListing e = (e ≡ error.Write) ⊎ (e ≡ error.Memory)

-- ---- texts

-- how many files came out how, or why the writing ended
abbrev pub counts_listed : Result Listed RunError → Result Counts RunError
counts_listed (Ok listed) = Ok listed.counts
counts_listed (Err e) = Err e

-- An input was read to its end. Or it was not, and if the writing did not end before, it failed.
abbrev pub HasCome : {R : Type 0} → (R → Option (List ℕ)) → Tried R → Bool → Result Counts RunError → Type 0
HasCome remaining reader whole counts = MatchBool whole
    ((has_failed reader ≡ false) × IsAtEnd (remaining (inner_of reader)))
    (IfOk counts (λ c. has_failed reader ≡ true))

-- The input gave these bytes. After the head the texts of the files were written whose names they are; or a prefix.
pub record WritesListed {R W : Type 0} (contents : W → Option (List ℕ)) (remaining : R → Option (List ℕ))
    (tells : Text → Outcome → List ℕ → Type 0) (head : List ℕ) (reader reader_after : Tried R)
    (output output_after : Tried W) (result : Result Listed RunError) : Type 0 where
  pub bytes : List ℕ
  pub read : Consumes (remaining (inner_of reader)) (remaining (inner_of reader_after)) bytes
  pub whole : Bool
  pub came : HasCome remaining reader_after whole (counts_listed result)
  pub rows : WritesRows contents tells head (names_in whole bytes) output output_after (counts_listed result)
  pub told : IfOk result (λ listed. listed.whole ≡ whole)
