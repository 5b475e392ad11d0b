-- Line ends after full rows, which take a row of their own where the full row has wrapped.
use Rattle.std.specs.Prelude.{◌≡◌, ◌⊎◌, ℕ, Bool, true, false, List, fold, Option, None, length, unwrap_or, MatchBool}
use Rattle.ans_model.specs.File.Refusals.{has_record}
use Rattle.ans_model.specs.Screen.State.{Size}
use Rattle.ans_model.specs.Sequence.TokenKind.{TokenKind}
use Rattle.ans_model.specs.Sequence.Reads.{ReadsAs}
use Rattle.ans_pens.specs.Counted.{count_of, counted}
use Rattle.ans_hints.specs.FullRowEnds.{EndsFullRows, full_row_ends, without_ends}
use Rattle.ans_hints.specs.RowEnds.{written_by}
use Rattle.ans_hints.specs.declared.full_row_ends.FullRowEnd.{FullRowEnd}
use Rattle.ans_pens.specs.declared.times.Times.{Times}
use Rattle.ans_sauce.specs.Contents.{content_in, with_content}

-- the offset of the return, or else of the line feed
abbrev pub first_byte : FullRowEnd → ℕ
first_byte e = unwrap_or e.return_at e.line_feed

-- the times with these line ends, by where each begins
abbrev pub times_with : Option Times → List FullRowEnd → Option Times
times_with times ends = fold (λ (t : Option Times) (e : FullRowEnd). counted t true (first_byte e)) times ends

-- The content is read so, and after no line end of a full row something is printed above where that line end led: all of
-- them count, and make a blank row.
pub record AllCount (z : Size) (content : List ℕ) (tokens : List TokenKind) (texts : List (List ℕ)) : Type 0 where
  pub reads : ReadsAs content tokens texts
  pub counts : count_of (written_by z tokens texts).ends.ended ≡ length (full_row_ends z tokens texts)

-- The line ends after the full rows of a content that is read so may be taken out: every full row that something is
-- printed after has one, and there are at least two of these; or only some have, all of those count, and that is to be
-- mended too.
abbrev pub MayGo : Bool → Size → List ℕ → List TokenKind → List (List ℕ) → Type 0
MayGo false z content tokens texts = EndsFullRows z content tokens texts
MayGo true z content tokens texts = AllCount z content tokens texts

-- the line ends after the full rows of a content are taken out, this many times
pub record TakesRowEnds (mixed : Bool) (z : Size) (content left : List ℕ) (times : Option Times) : Type 0 where
  pub tokens : List TokenKind
  pub texts : List (List ℕ)
  pub may_go : MayGo mixed z content tokens texts
  pub left_is : left ≡ without_ends 0 (full_row_ends z tokens texts) content
  pub times_are : times ≡ times_with None (full_row_ends z tokens texts)

-- they are, if they may be; and else nothing is
abbrev pub AreRowEndsOut : Bool → Size → List ℕ → List ℕ → Option Times → Type 0
AreRowEndsOut mixed z content left times =
    TakesRowEnds mixed z content left times
    ⊎ (((tokens : List TokenKind) (texts : List (List ℕ)) → ¬ MayGo mixed z content tokens texts)
    × (left ≡ content) × (times ≡ None))

-- the same of the content of a file that has a record
abbrev pub HasFullRows : Bool → Size → List ℕ → List ℕ → Option Times → Type 0
HasFullRows mixed z file new times = MatchBool (has_record file)
    ((left : List ℕ) × AreRowEndsOut mixed z (content_in file) left times × (new ≡ with_content left file))
    ((new ≡ file) × (times ≡ None))
