-- What a file's parts say of mending.
use Rattle.std.proofs.Common.{◌≡◌, inl, inr, ℕ, Bool, true, false, List, refl, sym, ap, ◌∙◌}
use Rattle.std.proofs.Common.{Option, Some, None, true≢false}
use Rattle.std.proofs.Common.{subst₂, ap₂, Result, Ok, Err}
use Rattle.std.specs.Prelude.{is_some, not, ◌||◌, IsTrue, ◌↔◌, IfOk, IfErr, IfSome, IfNone, OnOk, if◌then◌else◌}
use mir.Val.{bool_byte}
use Rattle.ans_model.specs.Screen.State.{Size}
use Rattle.ans_model.specs.Sequence.TokenKind.{TokenKind}
use Rattle.ans_model.specs.Sequence.Reads.{Reads}
use Rattle.ans_model.specs.declared.start.Start.{Start}
use Rattle.ans_model.specs.Verdict.Needs.{IsLeast}
use Rattle.ans_model.proofs.ClassLemmas.{covers_good, none_known_covers}
use Rattle.ans_players.specs.declared.difference.Difference.{Difference}
use Rattle.ans_players.proofs.NamedKinds.{named_are_least}
use Rattle.ans_kinds.specs.SaidOfPlayers.{IsSameWhereCleared}
use Rattle.ans_mend.specs.Mending.{BeginsUnnamed, WantsMending}
use Rattle.ans_model.specs.Bytes.{most_lines}
use Rattle.ans_pens.specs.Lines.{IsNeverGood}
use Rattle.ans_model.specs.Verdict.Good.{IsGood}
use Rattle.ans_mend.specs.Mending.{asks_for_lines}
use Rattle.ans_mend.specs.Mending.{AreLinesFor, AsksForLeast, HasLeast, IsWithoutNumber, KeepsLines}
use Rattle.ans_mend.specs.MendingSteps.{IsJudgement, reading_by, reading_in}
use Rattle.ans_mend.specs.Mending.{TakesLines, WantsLines}
use Rattle.ans_mend.specs.declared.judging.Judgement.{Judgement}
use Rattle.ans_verdict.proofs.VerdictLemmas.{not_good}
use Rattle.ans_model.specs.File.Layout.{content}
use Rattle.ans_model.specs.File.Record.{stated_size, stated_width}
use Rattle.ans_model.specs.Screen.StartClass.{all_known, none_known}
use Rattle.ans_model.specs.declared.fault.Fault.{Fault}
use Rattle.ans_sauce.specs.Found.{record_in}
use Rattle.ans_sauce.specs.Parts.{content_of, record_of, size_of}
use Rattle.ans_sauce.specs.Split.{IsSplit}
use Rattle.ans_sauce.specs.declared.parts.Parts.{Parts}
use Rattle.ans_sauce.proofs.LaidParts.{laid_body, laid_record}
use Rattle.ans_sauce.specs.Contents.{content_in}
use Rattle.ans_mend.specs.declared.outcome.Unmended.{Unmended}
use Rattle.ans_model.specs.declared.mends.Mends.{Mends}
use Rattle.ans_mend.specs.Mending.{IsFaulty, IsRead, IsReasonOfEdited, IsReasonOfLines}
use Rattle.ans_verdict.specs.FileVerdict.{Deserves}

-- a file's parts have its record and its content
pub split_record : (file : List ℕ) (parts : Parts) → IsSplit file parts → record_of parts ≡ record_in file
split_record file parts h = h.shows.sauce ∙ sym (laid_record file h.apart h.accepts.laid)

pub split_content : (file : List ℕ) (parts : Parts) → IsSplit file parts → content_of parts ≡ content_in file
split_content file parts h = h.shows.content ∙ ap content (sym (laid_body file h.apart h.accepts.laid))

-- and what is read of them is read of it
pub split_reading : (lacks : Bool) (file : List ℕ) (parts : Parts) → IsSplit file parts
    → reading_by lacks (record_of parts) (content_of parts) ≡ reading_in lacks file
split_reading lacks file parts h =
    ap₂ (reading_by lacks) (split_record file parts h) (split_content file parts h)

-- the fault of its play from the cleared start is one of the file
pub split_fault : (file : List ℕ) (parts : Parts) (fault : Fault) → IsSplit file parts
    → Deserves (size_of parts) all_known (content_of parts) fault → IsFaulty file fault
split_fault file parts fault h deserved =
    inr (subst₂ (λ (sauce bytes : List ℕ). Deserves (stated_size sauce) all_known bytes fault)
    (split_record file parts h) (split_content file parts h) deserved)

-- its parts pass from the cleared start, and this is what they want
pub judged : (mends : Mends) (file : List ℕ) (parts : Parts) (judgement : Judgement) → IsSplit file parts
    → IsGood (size_of parts) all_known (content_of parts)
    → (judgement.front ≡ false → IsGood (size_of parts) none_known (content_of parts))
    → IsTrue judgement.front ↔ WantsMending mends (size_of parts) (content_of parts)
    → judgement.reading ≡ reading_by false (record_of parts) (content_of parts) → IsJudgement mends file judgement
judged mends file parts judgement h cleared every wants reading = record {
  apart = h.apart;
  accepts = h.accepts;
  cleared = subst₂ (λ (sauce bytes : List ℕ). IsGood (stated_size sauce) all_known bytes) h.shows.sauce h.shows.content
      cleared;
  every = λ off. subst₂ (λ (sauce bytes : List ℕ). IsGood (stated_size sauce) none_known bytes) h.shows.sauce
      h.shows.content (every off);
  wants = subst₂ (λ (sauce bytes : List ℕ). IsTrue judgement.front ↔ WantsMending mends (stated_size sauce) bytes)
      h.shows.sauce h.shows.content wants;
  reading = reading ∙ split_reading false file parts h;
}

-- each kind is agreed
abbrev all_agreed : Difference → Bool
all_agreed kind = true

-- what a content wants whose play from all starts has come to this
module _ (mends : Mends) (z : Size) (content : List ℕ) where
  pub faulty_wants : IsGood z all_known content → (fault : Fault) → Deserves z none_known content fault
      → WantsMending mends z content
  faulty_wants cleared fault deserved =
      inl (λ same. not_good z none_known content fault deserved
      (same all_agreed (cleared, (named_are_least z content all_agreed cleared).1 (λ kind some. refl))).0)

  pub parted_wants : (same : Bool) → IsTrue same ↔ IsSameWhereCleared z content → same ≡ false
      → WantsMending mends z content
  parted_wants same tells is = inl (λ all. true≢false (sym (tells.1 all) ∙ is))

  pub same_wants : (same names : Bool) → IsTrue same ↔ IsSameWhereCleared z content → same ≡ true
      → IsTrue names ↔ BeginsUnnamed mends content → IsTrue names ↔ WantsMending mends z content
  same_wants same names tells is begins = (
    λ on. inr (begins.0 on),
    λ wants. elim wants [
      | inl parted ↦ absurd (parted (tells.0 is))
      | inr unnamed ↦ begins.1 unnamed
    ],
  )

module _ (z : Size) (content : List ℕ) where
  -- what passes from every start needs nothing
  pub nothing_needed : IsGood z none_known content → IsLeast z content none_known
  nothing_needed good class = (
    λ is. none_known_covers class,
    λ covers. (good.0, covers_good z none_known class content good.0 covers good.1),
  )

-- what is good can be read
pub good_reads : (z : Size) (class : Start) (content : List ℕ) → IsGood z class content
    → (tokens : List TokenKind) × Reads content tokens
good_reads z class content good = (good.1.tokens, good.1.reads)

-- a reason by its parts is one of the file
pub split_reason : (mends : Mends) (lacks : Bool) (file : List ℕ) (parts : Parts) (reason : Unmended)
    → IsSplit file parts → IsReasonOfLines mends lacks (record_of parts) (content_of parts) reason
    → IsReasonOfEdited mends lacks file reason
split_reason mends lacks file parts reason h is =
    inr (inr (subst₂ (λ (sauce bytes : List ℕ). IsReasonOfLines mends lacks sauce bytes reason)
    (split_record file parts h) (split_content file parts h) is))

-- ---- what is taken

pub kept_of : (good : Bool) (P : Type 0) → IsTrue good ↔ P → not good ≡ false → P
kept_of true P h is = h.0 refl
kept_of false P h is = absurd (true≢false is)

pub wanted_of : (good : Bool) (P : Type 0) → IsTrue good ↔ P → not good ≡ true → ¬ P
wanted_of true P h is = absurd (true≢false (sym is))
wanted_of false P h is = λ p. true≢false (sym (h.1 p))

pub none_of : (o : Option ℕ) → is_some o ≡ false → o ≡ None
none_of None is = refl
none_of (Some n) is = absurd (true≢false is)

-- a number is asked for, and none is given: the least is
pub least_asked : (mends : Mends) → asks_for_lines mends ≡ true → is_some mends.lines ≡ false → AsksForLeast mends
least_asked mends asks none =
    (none_of mends.lines none, ap (λ (v : Bool). v || mends.least_lines) (sym none) ∙ asks)

pub one_if : (b : Bool) → bool_byte b ≡ (if b then 1 else 0)
one_if true = refl
one_if false = refl

module _ (mends : Mends) (lacks : Bool) (sauce bytes : List ℕ) (wanted : WantsLines lacks sauce bytes)
    (asks : AsksForLeast mends) where
  pub least_taken : (r : Result (Option ℕ) Unmended) → IfOk r (λ n. IfSome n (HasLeast false lacks sauce bytes))
      → IfOk r (λ n. IfSome n (TakesLines mends lacks sauce bytes))
  least_taken (Ok None) h = h
  least_taken (Ok (Some n)) h = (wanted, inr (asks, h))
  least_taken (Err reason) h = h

  pub least_kept : (r : Result (Option ℕ) Unmended)
      → IfOk r (λ n. IfNone n ((lacks ≡ false) × IsNeverGood (stated_width sauce) bytes most_lines))
      → IfOk r (λ n. IfNone n (KeepsLines mends lacks sauce bytes))
  least_kept (Ok None) h = (h.0, inr (inr (asks, h.1)))
  least_kept (Ok (Some n)) h = h
  least_kept (Err reason) h = h

  pub least_reason : (r : Result (Option ℕ) Unmended) → IfErr r (IsWithoutNumber lacks sauce bytes)
      → IfErr r (IsReasonOfLines mends lacks sauce bytes)
  least_reason (Ok n) h = h
  least_reason (Err reason) h = (wanted, asks, h)

-- the lines that are taken, and those for which they are
module _ (mends : Mends) (lacks : Bool) (file : List ℕ) (parts : Parts) (h : IsSplit file parts) where
  pub lines_taken : (r : Result (Option ℕ) Unmended)
      → IfOk r (λ n. IfNone n (KeepsLines mends lacks (record_of parts) (content_of parts)))
      → IfOk r (λ n. IfSome n (TakesLines mends lacks (record_of parts) (content_of parts)))
      → IfOk r (AreLinesFor mends lacks file)
  lines_taken (Ok None) kept taken = subst₂ (λ (v w : List ℕ). KeepsLines mends lacks v w) (split_record file parts h)
      (split_content file parts h) kept
  lines_taken (Ok (Some n)) kept taken = subst₂ (λ (v w : List ℕ). TakesLines mends lacks v w n)
      (split_record file parts h) (split_content file parts h) taken
  lines_taken (Err reason) kept taken = kept

  pub lines_refused : (r : Result (Option ℕ) Unmended)
      → IfErr r (IsReasonOfLines mends lacks (record_of parts) (content_of parts))
      → IfErr r (IsReasonOfEdited mends lacks file)
  lines_refused (Ok n) is = is
  lines_refused (Err reason) is = split_reason mends lacks file parts reason h is

  pub lines_read : (r : Result (Option ℕ) Unmended) → OnOk r (IsRead file)
  lines_read (Ok lines) = (h.apart, h.accepts)
  lines_read (Err reason) = tt
