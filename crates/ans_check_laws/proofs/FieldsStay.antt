-- Fields of a record that stay where another is set.
use Rattle.std.proofs.Common.{◌≡◌, ◌⊎◌, inl, inr, ℕ, ◌+◌, ◌≤◌, List, ◌++◌, length, take, drop, sym, ap, ◌∙◌, arith}
use Rattle.std.proofs.Common.{append_assoc}
use Rattle.std.proofs.lemmas.List.{length-append, length-drop, length-take-le, take-append-drop, take-append-le}
use Rattle.std.proofs.lemmas.List.{drop-append-le, drop-drop}
use Rattle.std.proofs.lemmas.Slice.{drop-append-drop}
use Rattle.std.proofs.Math.Seq.{drop-append_seam, take-append_seam}
use Rattle.ans_sauce.specs.Fields.{overwritten}

-- so many bytes from an offset on
abbrev pub bytes_at : ℕ → ℕ → List ℕ → List ℕ
bytes_at offset size r = take size (drop offset r)

module _ (place : ℕ) (put r : List ℕ) (within : place + length put ≤ length r) where
  front_long : length (take place r) ≡ place
  front_long = length-take-le place r (omega (arith, within))

  in_front : (offset size : ℕ) (behind : List ℕ) → offset + size ≤ place
      → bytes_at offset size (take place r ++ behind) ≡ bytes_at offset size (take place r)
  in_front offset size behind le =
      ap (take size) (drop-append-le offset (take place r) behind (omega (arith, front_long, le)))
      ∙ take-append-le size (drop offset (take place r)) behind
      (rw (length-drop offset (take place r), front_long) (omega (arith, le)))

  -- what is before what is set, or after it, stays
  pub bytes_stay : (offset size : ℕ) → (offset + size ≤ place) ⊎ (place + length put ≤ offset)
      → bytes_at offset size (overwritten place put r) ≡ bytes_at offset size r
  bytes_stay offset size (inl le) =
      in_front offset size (put ++ drop (place + length put) r) le ∙ sym (in_front offset size (drop place r) le)
      ∙ ap (bytes_at offset size) (take-append-drop place r)
  bytes_stay offset size (inr le) =
      ap (bytes_at offset size) (sym (append_assoc (take place r) put (drop (place + length put) r)))
      ∙ ap (take size) (drop-append-drop (place + length put) r (take place r ++ put) offset le
      (length-append (take place r) put ∙ ap (λ (v : ℕ). v + length put) front_long))

  -- and what is set is there
  pub bytes_put : bytes_at place (length put) (overwritten place put r) ≡ put
  bytes_put =
      ap (λ (n : ℕ). take (length put) (drop n (overwritten place put r))) (sym front_long)
      ∙ ap (take (length put)) (drop-append_seam (take place r) (put ++ drop (place + length put) r))
      ∙ take-append_seam put (drop (place + length put) r)

-- what is there already changes nothing
pub put_same : (place : ℕ) (put r : List ℕ) → bytes_at place (length put) r ≡ put → overwritten place put r ≡ r
put_same place put r is =
    ap (λ (v : List ℕ). take place r ++ (v ++ drop (place + length put) r)) (sym is)
    ∙ ap (λ (v : List ℕ). take place r ++ (take (length put) (drop place r) ++ v))
    (ap (λ (n : ℕ). drop n r) (omega arith) ∙ sym (drop-drop (length put) place r))
    ∙ ap (λ (v : List ℕ). take place r ++ v) (take-append-drop (length put) (drop place r))
    ∙ take-append-drop place r
