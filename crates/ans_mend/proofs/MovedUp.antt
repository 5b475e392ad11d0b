-- Bytes that are moved to the end of a gap, to make room before them.
use Rattle.std.proofs.Common.{◌≡◌, ℕ, ◌+◌, ◌-◌, ◌≤◌, List, ◌++◌, length, take, drop, ap, ap₂, sym, ◌∙◌, arith}
use Rattle.std.proofs.lemmas.List.{drop-drop, drop-take, length-take-le, take-take}
use Rattle.std.proofs.lemmas.List.Edits.{take-paste}
use Rattle.std.proofs.Math.Seq.{drop-append_seam, paste, take-add}

-- a copy from the start copies as many
pub from_start : (memory : List ℕ) (used gap : ℕ)
    → paste memory gap (drop 0 memory) (used - 0) ≡ paste memory gap (drop 0 memory) used
from_start memory used gap = ap (paste memory gap (drop 0 memory)) (omega arith)

module _ (memory : List ℕ) (used count gap : ℕ) (room : used + gap ≤ length memory) (within : count ≤ used) where
  -- the bytes that are used have moved by as much as the gap
  abbrev pub moved : List ℕ
  moved = paste memory gap (drop 0 memory) used

  -- they stand behind the gap
  moved_behind : take used (drop gap moved) ≡ take used memory
  moved_behind =
      let long : length (take gap memory) ≡ gap = length-take-le gap memory (omega (arith, room)) in
      sym (drop-take gap used moved)
      ∙ ap (drop gap) (take-paste memory gap (drop 0 memory) used (omega (arith, room)) (omega (arith, room)))
      ∙ ap (λ (v : ℕ). drop v (take gap memory ++ take used memory)) (sym long)
      ∙ drop-append_seam (take gap memory) (take used memory)

  pub moved_content : take count (drop gap moved) ≡ take count memory
  moved_content =
      sym (take-take count used (drop gap moved) within) ∙ ap (take count) moved_behind
      ∙ take-take count used memory within

  moved_rest : take (used - count) (drop (gap + count) moved) ≡ drop count (take used memory)
  moved_rest =
      let sum : used ≡ count + (used - count) = omega (arith, within) in
      ap (λ (v : List ℕ). take (used - count) v)
      (ap (λ (v : ℕ). drop v moved) (omega arith) ∙ sym (drop-drop count gap moved))
      ∙ sym (drop-take count (used - count) (drop gap moved))
      ∙ ap (λ (v : ℕ). drop count (take v (drop gap moved))) (sym sum) ∙ ap (drop count) moved_behind

  -- where other bytes are written to the front, as many as the gap and the content have
  pub filled_front : (new front : List ℕ) → take (gap + count) new ≡ front
      → drop (gap + count) new ≡ drop (gap + count) moved
      → take (used + gap) new ≡ front ++ drop count (take used memory)
  filled_front new front written left =
      let sum : used + gap ≡ (gap + count) + (used - count) = omega (arith, within) in
      ap (λ (v : ℕ). take v new) sum ∙ take-add (gap + count) (used - count) new
      ∙ ap₂ (λ (v w : List ℕ). v ++ w) written (ap (take (used - count)) left ∙ moved_rest)
