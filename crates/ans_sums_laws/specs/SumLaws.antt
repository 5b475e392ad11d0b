-- Which pictures have one checksum, as far as the bytes tell that are summed.
use Rattle.std.specs.Prelude.{◌≡◌, ◌↔◌, ℕ, IsFalse, List}
use Rattle.std.specs.List.{list_any}
use Rattle.ans_model.specs.File.Layout.{is_end_mark}
use Rattle.ans_model.specs.Screen.State.{IsPlayableSize, Size}
use Rattle.ans_model.specs.Verdict.Good.{GoodWith, Picture}
use Rattle.ans_model.specs.declared.start.Start.{Start}
use Rattle.ans_picture_laws.specs.Drawable.{IsDrawable}
use Rattle.ans_sums.specs.Sums.{summed_bytes}

-- The summed bytes are the same exactly if the pictures are, with their sizes.
abbrev pub SumsTellPictures : Type 0
SumsTellPictures = (y z : Size) (p q : Picture) → IsPlayableSize y → IsPlayableSize z → IsDrawable y p → IsDrawable z q
    → (summed_bytes p ≡ summed_bytes q) ↔ (p ≡ q)

-- So it is for the pictures of two contents that are good, each from some starts.
abbrev pub SumsTellDrawings : Type 0
SumsTellDrawings = (y z : Size) (class other : Start) (content more : List ℕ) (p q : Picture)
    → IsPlayableSize y → IsPlayableSize z
    → GoodWith y class content p → IsFalse (list_any is_end_mark content)
    → GoodWith z other more q → IsFalse (list_any is_end_mark more)
    → (summed_bytes p ≡ summed_bytes q) ↔ (p ≡ q)
