-- How bytes are quoted, and how often a thing comes, by the pieces that are put.
use Rattle.std.proofs.Common.{◌≡◌, ℕ, ◌≤◌, ◌<◌, List, ◌++◌, length, take, codes, decimal, refl, sym, append-nil}
use Rattle.std.specs.List.{flat_map}
use Rattle.std.proofs.lemmas.Bool.{eq-eqb, le-ltb, lt-ltb, ne_eqb}
use Rattle.std.proofs.lemmas.List.{take_all}
use Rattle.ans_report.specs.Counted.{times_text}
use Rattle.ans_report.specs.Quoted.{quoted, quoted_byte}

pub quoted_long : (bytes : List ℕ) → 32 < length bytes
    → flat_map quoted_byte (take 32 bytes) ++ codes " .." ≡ quoted bytes
quoted_long bytes lt = rw (lt-ltb 32 (length bytes) lt) refl

pub quoted_short : (bytes : List ℕ) → length bytes ≤ 32 → flat_map quoted_byte bytes ≡ quoted bytes
quoted_short bytes le =
    rw (le-ltb 32 (length bytes) le, take_all 32 bytes le) (sym (append-nil (flat_map quoted_byte bytes)))

pub once : (count first : ℕ) → count ≡ 1 → codes "once, at " ++ decimal first ≡ times_text count first
once count first e = rw (eq-eqb count 1 e) refl

pub often : (count first : ℕ) → (count ≡ 1 → ⊥)
    → decimal count ++ (codes " times, first at " ++ decimal first) ≡ times_text count first
often count first e = rw (ne_eqb count 1 e) refl
