-- What mending says, by the pieces that are put.
use Rattle.std.proofs.Common.{◌≡◌, ℕ, ◌-◌, ◌<◌, ◌++◌, codes, decimal, refl}
use Rattle.std.specs.List.{flat_map}
use Rattle.std.specs.Prelude.{min, take}
use Rattle.std.proofs.lemmas.Bool.{lt-leb, lt-ltb, ne_eqb}
use Rattle.ans_report.specs.Counted.{counted_text}
use Rattle.ans_report.specs.Quoted.{quoted_byte}
use Rattle.ans_mend.specs.MendedText.{others_text, quoted_excerpt, replaced_text}
use Rattle.ans_mend.specs.declared.taking_out.Excerpt.{Excerpt}

pub excerpt_long : (text : Excerpt) → 32 < text.length
    → flat_map quoted_byte (take (min text.length 32) text.bytes) ++ codes " .." ≡ quoted_excerpt text
excerpt_long text lt = rw (lt-ltb 32 text.length lt) refl

pub others_more : (count : ℕ) → 1 < count
    → codes ", and " ++ (decimal (count - 1) ++ codes " more like it") ≡ others_text count
others_more count more = rw (lt-leb count 1 more) refl

pub replaced_some : (count : ℕ) → (count ≡ 0 → ⊥)
    → codes ", in place of " ++ counted_text count (codes "byte") ≡ replaced_text count
replaced_some count e = rw (ne_eqb count 0 e) refl
