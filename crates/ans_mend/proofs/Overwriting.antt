-- A memory of which bytes are written over as many.
use Rattle.std.proofs.Common.{◌≡◌, ℕ, ◌+◌, ◌≤◌, List, ◌++◌, length, take, drop, ap, sym, ◌∙◌, arith}
use Rattle.std.proofs.Common.{append_assoc, length-append}
use Rattle.std.proofs.Math.Seq.{take-append_seam}
use Rattle.std.proofs.lemmas.List.{length-take-le}
use Rattle.std.proofs.lemmas.Slice.{drop-append-drop}
use Rattle.ans_sauce.specs.Fields.{overwritten}

module _ (memory bytes : List ℕ) (count : ℕ) (within : count + length bytes ≤ length memory) where
  front_long : length (take count memory ++ bytes) ≡ count + length bytes
  front_long =
      let front = length-take-le count memory (omega (arith, within)) in
      omega (arith, front, length-append (take count memory) bytes)

  regrouped : overwritten count bytes memory ≡ (take count memory ++ bytes) ++ drop (count + length bytes) memory
  regrouped = sym (append_assoc (take count memory) bytes (drop (count + length bytes) memory))

  pub front_overwritten : take (count + length bytes) (overwritten count bytes memory) ≡ take count memory ++ bytes
  front_overwritten =
      ap (λ (v : ℕ). take v (overwritten count bytes memory)) (sym front_long)
      ∙ ap (take (length (take count memory ++ bytes))) regrouped
      ∙ take-append_seam (take count memory ++ bytes) (drop (count + length bytes) memory)

  pub behind_overwritten : (place : ℕ) → count + length bytes ≤ place
      → drop place (overwritten count bytes memory) ≡ drop place memory
  behind_overwritten place reached =
      ap (drop place) regrouped
      ∙ drop-append-drop (count + length bytes) memory (take count memory ++ bytes) place reached front_long
