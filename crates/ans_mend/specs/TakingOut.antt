-- Sequences that are taken out of a drawing.
use Rattle.std.specs.Prelude.{◌≡◌, ℕ, ◌+◌, ◌-◌, Bool, ◌==◌, List, [], ◌∷◌, ◌++◌, length, take, min}
use Rattle.std.specs.Prelude.{fold, set, slice_index, slice_index_or, Option, None, Some, replicate}
use Rattle.std.specs.Prelude.{MatchBool, IfSome, ◌≤◌}
use Rattle.ans_model.specs.File.Refusals.{has_record}
use Rattle.ans_sauce.specs.Found.{record_in}
use Rattle.ans_forms.specs.Unwanted.{GoesFirst, NothingMore}
use Rattle.ans_forms.specs.declared.kinds.Before.{Before}
use Rattle.ans_forms.specs.declared.kinds.TheConstants.Before as before
use Rattle.ans_forms.specs.declared.kinds.Unwanted.{Unwanted}
use Rattle.ans_forms.specs.declared.kinds.Unwanted.TheVariants as unwanted
use Rattle.ans_sauce.specs.Contents.{content_in, with_content}
use Rattle.ans_sauce.specs.Fields.{with_non_blink, with_record}
use Rattle.ans_mend.specs.declared.taking_out.Excerpt.{Excerpt}
use Rattle.ans_mend.specs.declared.taking_out.TakenOut.{TakenOut}
use Rattle.ans_mend.specs.declared.taking_out.Told.{Told}

-- a sequence that is taken out: the offset of its first byte, and its bytes
pub record Gone : Type 0 where
  pub kind : Unwanted
  pub place : ℕ
  pub text : List ℕ

abbrev pub gone_at : Unwanted → ℕ → List ℕ → Gone
gone_at kind place text = record { kind = kind; place = place; text = text }

-- ---- what is left

-- a switch is on with an `h`
abbrev pub is_on : List ℕ → Bool
is_on text = slice_index text 5 == 0x68

-- what a sequence of this kind sets the switch for bright backgrounds to
abbrev pub switch_of : Option Bool → Unwanted → List ℕ → Option Bool
switch_of on unwanted.BrightBackgrounds text = Some (is_on text)
switch_of on _ text = on

-- what comes before the byte that follows such a sequence
abbrev pub switched : Before → Unwanted → List ℕ → Before
switched after kind text = record after { switch = switch_of after.switch kind text }

-- From bytes, the first of which is at an offset after what `before` says, these sequences go, one after the other,
-- this is left, and `end` is what comes before the end of what is read.
abbrev pub TakesOut : Before → ℕ → List Gone → List ℕ → List ℕ → Before → Type 0
TakesOut before from [] bytes left end = NothingMore before bytes end × (left ≡ bytes)
TakesOut before from (g ∷ more) bytes left end = (kept rest later : List ℕ) × (after : Before)
    × GoesFirst before bytes kept g.kind g.text rest after × (g.place ≡ from + length kept) × (left ≡ kept ++ later)
    × TakesOut (switched after g.kind g.text) (g.place + length g.text) more rest later end

-- ---- what is reported of it

-- the kinds in their order
abbrev pub index_of : Unwanted → ℕ
index_of unwanted.BrightBackgrounds = 0
index_of unwanted.Switch = 1
index_of unwanted.Mode = 2
index_of unwanted.FontSelection = 3
index_of unwanted.Music = 4
index_of unwanted.TrueColour = 5
index_of unwanted.Report = 6
index_of unwanted.ReassignedKey = 7
index_of unwanted.Unfinished = 8

-- the first 32 bytes of a text, or all of it and zero bytes, and how many it has
abbrev pub excerpt_of : List ℕ → Excerpt
excerpt_of text =
    let count : ℕ = min (length text) 32 in
    record { bytes = take count text ++ replicate (32 - count) 0; length = length text }

-- one sequence more of a kind
abbrev pub one_more : Option TakenOut → Gone → TakenOut
one_more None g = record { times = record { count = 1; first = g.place }; text = excerpt_of g.text }
one_more (Some taken) g = record {
  times = record { count = taken.times.count + 1; first = taken.times.first };
  text = taken.text;
}

abbrev pub told_with : Told → Gone → Told
told_with told g = record {
  kinds = set told.kinds (index_of g.kind)
      (Some (one_more (slice_index_or told.kinds (index_of g.kind) None) g));
  bright_backgrounds = told.bright_backgrounds;
}

abbrev pub nothing_told : Told
nothing_told = record { kinds = replicate 9 None; bright_backgrounds = None }

-- of each kind how many, where the first is, and its first bytes
abbrev pub counted_of : List Gone → Told
counted_of gone = fold told_with nothing_told gone

-- what is reported of all of them: this, and what the switch said at the last bright cell
abbrev pub told_of : List Gone → Before → Told
told_of gone end = record (counted_of gone) { bright_backgrounds = end.bright }

-- there are no more than this many of any kind
abbrev pub CountsWithin : Told → ℕ → Type 0
CountsWithin told most =
    (kind : Unwanted) → IfSome (slice_index_or told.kinds (index_of kind) None) (λ t. t.times.count ≤ most)

-- ---- a file

-- the file with its non-blink flag as the switch said at the last bright cell, if it said something
abbrev pub flagged : Option Bool → List ℕ → List ℕ
flagged None file = file
flagged (Some on) file = with_record (with_non_blink on (record_in file)) file

-- Sequences are taken out of the content of a file that has a record.
pub record TakesOutOf (file new : List ℕ) (told : Told) : Type 0 where
  pub gone : List Gone
  pub left : List ℕ
  pub end : Before
  pub takes_out : TakesOut before.NOTHING 0 gone (content_in file) left end
  pub told_is : told ≡ told_of gone end
  pub new_is : new ≡ flagged told.bright_backgrounds (with_content left file)

abbrev pub AreTakenOut : List ℕ → List ℕ → Told → Type 0
AreTakenOut file new told = MatchBool (has_record file) (TakesOutOf file new told)
    ((new ≡ file) × (told ≡ nothing_told))
