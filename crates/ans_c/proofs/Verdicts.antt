-- What is found of a file, as it is told.
use Rattle.std.proofs.Common.{◌≡◌, ◌*◌, ◌<◌, min, ℕ, List, Some, inl, inr, subst, ap}
use Rattle.ans_model.specs.File.Record.{stated_size}
use Rattle.ans_model.specs.File.Layout.{FileParts}
use Rattle.ans_model.specs.File.Refusals.{Accepts, record_fault}
use Rattle.ans_model.specs.Screen.State.{Size}
use Rattle.ans_model.specs.Verdict.Good.{Picture, GoodWith}
use Rattle.ans_model.specs.declared.fault.Fault.{Fault}
use Rattle.ans_model.specs.declared.start.Start.{Start}
use Rattle.ans_sauce.specs.declared.parts.Parts.{Parts}
use Rattle.ans_sauce.specs.Parts.{content_of, size_of}
use Rattle.ans_sauce.specs.Split.{IsSplit}
use Rattle.ans_verdict.specs.FileVerdict.{Deserves}
use Rattle.ans_verdict.specs.LentScreen.{HasScreen, byte_count, row_count}
use Rattle.ans_verdict.specs.declared.screens.LentScreens.{LentScreens}
use Rattle.ans_verdict.proofs.VerdictLemmas.{passes, refuses, refused_not_good, record_not_good}
use Rattle.ans_c.specs.Numbers.{TellsFault}
use Rattle.ans_c.specs.Told.{HoldsPicture, LacksCells, LacksScreen, TellsPass, TellsRefusal}
use Rattle.ans_c.specs.declared.numbers.ToldFault.{ToldFault}

pub record_told : (file : List ℕ) (start : Start) (fault : Fault) (told : ToldFault)
    → record_fault file ≡ Some fault → TellsFault told fault → TellsRefusal file start told
record_told file start fault told found tells = record {
  fault = fault;
  tells = tells;
  not_good = record_not_good file start fault found;
  deserved = inr found;
}

pub refusal_told : (file : List ℕ) (start : Start) (parts : Parts) (fault : Fault) (told : ToldFault)
    → IsSplit file parts → Deserves (size_of parts) start (content_of parts) fault → TellsFault told fault
    → TellsRefusal file start told
refusal_told file start parts fault told split found tells =
    let r = refuses file start parts split fault found in
    record {
      fault = fault;
      tells = tells;
      not_good = refused_not_good file start r.0 fault r.2;
      deserved = inl (r.0, r.2);
    }

pub pass_told : (file : List ℕ) (start : Start) (parts : Parts) (p : Picture) (glyphs attributes : List ℕ)
    → IsSplit file parts → GoodWith (size_of parts) start (content_of parts) p → HoldsPicture p glyphs attributes
    → TellsPass file start glyphs attributes
pass_told file start parts p glyphs attributes split good holds =
    let r = passes file start parts split p good in
    record { apart = r.0; picture = p; passes = r.2; holds = holds }

-- what is so of the parts' size is so of the file's
size_of_file : (P : Size → Type 0) (file : List ℕ) (parts : Parts) (s : IsSplit file parts) → P (size_of parts)
    → P (stated_size s.apart.record_bytes)
size_of_file P file parts s h = subst P (ap stated_size s.shows.sauce) h

pub screen_lacking : (file : List ℕ) (parts : Parts) (rows bytes : ℕ) → IsSplit file parts
    → ¬ HasScreen (size_of parts) rows bytes → LacksScreen file rows bytes
screen_lacking file parts rows bytes s lacks = record {
  apart = s.apart;
  accepts = s.accepts;
  lacks = size_of_file (λ z. ¬ HasScreen z rows bytes) file parts s lacks;
}

pub cells_lacking : (file : List ℕ) (parts : Parts) (glyphs attributes : ℕ) → IsSplit file parts
    → min glyphs attributes < (size_of parts).width * (size_of parts).lines
    → LacksCells file glyphs attributes
cells_lacking file parts glyphs attributes s lacks = record {
  apart = s.apart;
  accepts = s.accepts;
  lacks = size_of_file (λ z. min glyphs attributes < z.width * z.lines) file parts s lacks;
}

-- where plays on memory that is lent lack room
pub lent_lacking : (file : List ℕ) (screens : LentScreens) (rows bytes : ℕ) → row_count screens ≡ rows
    → byte_count screens ≡ bytes
    → ((apart : FileParts) × Accepts file apart
    × ¬ HasScreen (stated_size apart.record_bytes) (row_count screens) (byte_count screens))
    → LacksScreen file rows bytes
lent_lacking file screens rows bytes all_rows all_bytes (apart, accepts, lacks) = record {
  apart = apart;
  accepts = accepts;
  lacks = subst (λ (n : ℕ). ¬ HasScreen (stated_size apart.record_bytes) n bytes) all_rows
      (subst (λ (n : ℕ). ¬ HasScreen (stated_size apart.record_bytes) (row_count screens) n) all_bytes lacks);
}
