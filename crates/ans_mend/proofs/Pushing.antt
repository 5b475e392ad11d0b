-- A byte that is put in.
use Rattle.std.proofs.Common.{◌≡◌, ℕ, ◌+◌, ◌-◌, ◌≤◌, ◌<◌, List, [], ◌∷◌, ◌++◌, length, take, drop, ap, ap₂, sym, ◌∙◌}
use Rattle.std.proofs.Common.{arith, append_assoc}
use Rattle.std.proofs.lemmas.List.{drop-take, take-take, set-append_left, take_more_set, length-drop}
use Rattle.std.proofs.lemmas.List.{length-take-le}
use Rattle.std.proofs.lemmas.List.Edits.{take-paste}
use Rattle.std.proofs.Math.Seq.{paste, take-set-lt}
use Rattle.std.proofs.Math.ListN.{set}

-- The bytes from the place on up to the end move on by one, and then the byte is set: so it is put in there.
pub pushed_in : (memory : List ℕ) (place end byte : ℕ) → place ≤ end → end < length memory
    → take (end + 1) (set (paste memory (place + 1) (drop place memory) (end - place)) place byte)
    ≡ take place (take end memory) ++ byte ∷ drop place (take end memory)
pushed_in memory place end byte within room =
    let count : ℕ = end - place in
    let moved : List ℕ = paste memory (place + 1) (drop place memory) count in
    let behind : List ℕ = take count (drop place memory) in
    let sum : end ≡ place + count = omega (arith, within) in
    let set_in_front : take (end + 1) (set moved place byte) ≡ set (take (end + 1) moved) place byte =
    take-set-lt (end + 1) moved place byte (omega (arith, within)) in
    let front : take (end + 1) moved ≡ take (place + 1) memory ++ behind =
    ap (λ (v : ℕ). take v moved) (omega (arith, sum))
    ∙ take-paste memory (place + 1) (drop place memory) count (omega (arith, within, room))
    (rw (length-drop place memory) (omega (arith, within, room))) in
    let first : set (take (place + 1) memory) place byte ≡ take place memory ++ byte ∷ [] =
    sym (take-set-lt (place + 1) memory place byte (omega arith))
    ∙ take_more_set memory place byte (omega (arith, within, room)) in
    let long : length (take (place + 1) memory) ≡ place + 1 =
    length-take-le (place + 1) memory (omega (arith, within, room)) in
    let there : behind ≡ drop place (take end memory) =
    sym (ap (λ (v : ℕ). drop place (take v memory)) sum ∙ drop-take place count memory) in
    set_in_front ∙ ap (λ (v : List ℕ). set v place byte) front
    ∙ set-append_left (take (place + 1) memory) behind place byte (omega (arith, long))
    ∙ ap (λ (v : List ℕ). v ++ behind) first ∙ append_assoc (take place memory) (byte ∷ []) behind
    ∙ ap₂ (λ (v w : List ℕ). v ++ byte ∷ w) (sym (take-take place end memory within)) there
