-- Bytes that are moved to the front, behind those that stay.
use Rattle.std.proofs.Common.{◌≡◌, ℕ, ◌+◌, ◌-◌, ◌≤◌, List, ◌++◌, length, take, drop, ap, sym, ◌∙◌, arith}
use Rattle.std.proofs.lemmas.List.{drop-drop, length-drop}
use Rattle.std.proofs.lemmas.List.Edits.{drop-paste, take-paste}
use Rattle.std.proofs.Math.Seq.{paste}

pub kept_behind : (memory : List ℕ) (count from to : ℕ) → count ≤ from → from ≤ to → to ≤ length memory
    → take (count + (to - from)) (paste memory count (drop from memory) (to - from))
    ≡ take count memory ++ take (to - from) (drop from memory)
kept_behind memory count from to behind order within =
    take-paste memory count (drop from memory) (to - from) (omega (arith, behind, order, within))
    (rw (length-drop from memory) (omega (arith, behind, order, within)))

pub left_behind : (memory : List ℕ) (count from to place : ℕ) → count ≤ from → from ≤ to → to ≤ length memory
    → count + (to - from) ≤ place → drop place (paste memory count (drop from memory) (to - from)) ≡ drop place memory
left_behind memory count from to place behind order within reached =
    let end : ℕ = count + (to - from) in
    let more : ℕ = place - end in
    let moved : List ℕ = paste memory count (drop from memory) (to - from) in
    let sum : place ≡ more + end = omega (arith, reached) in
    let all : drop end moved ≡ drop end memory =
    drop-paste memory count (drop from memory) (to - from) (omega (arith, behind, order, within))
    (rw (length-drop from memory) (omega (arith, behind, order, within))) in
    ap (λ (v : ℕ). drop v moved) (omega (arith, reached)) ∙ sym (drop-drop more end moved) ∙ ap (drop more) all
    ∙ drop-drop more end memory ∙ ap (λ (v : ℕ). drop v memory) (omega (arith, reached))
